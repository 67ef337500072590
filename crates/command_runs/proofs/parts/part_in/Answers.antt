use Rattle.std.proofs.Common.{subst}
use Rattle.command_runs.proofs.Together.{long_text}
use Rattle.command_runs.specs.Texts.{HoldsNoWhole}
use Rattle.round_lang.specs.Limits.{max_text}
use Rattle.command_runs.proofs.parts.part_in.Goals as goal

pub returns-in-Err-TooLong-clause-refused : goal.returns-in-Err-TooLong-clause-refused
returns-in-Err-TooLong-clause-refused g c =
    let file = g.D.Desk.files c.args.desk.now c.args.name.now in
    long_text file (subst (HoldsNoWhole max_text file) c.in-Err-TooLong.field-0-is
    c.in-Err-TooLong.ensures.refused)
