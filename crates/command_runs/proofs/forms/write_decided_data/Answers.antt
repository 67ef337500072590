use Rattle.command_runs.proofs.forms.write_decided_data.Goals as goal

pub returns-in-None : goal.returns-in-None
returns-in-None g c = rw c.in-None.is c.writeln.ensures.bytes

pub returns-in-One : goal.returns-in-One
returns-in-One g c = rw c.in-One.is c.writeln-in-One.ensures.bytes

pub returns-in-Split : goal.returns-in-Split
returns-in-Split g c = rw c.in-Split.is c.writeln-in-Split.ensures.bytes
