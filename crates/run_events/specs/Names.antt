-- Names of messages.
use Rattle.run_events.specs.declared.name.Name.{Name}

-- the message's copy 0
abbrev pub original : Name → Name
original n = record n { copy = 0 }
