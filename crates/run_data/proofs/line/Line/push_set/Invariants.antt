use Rattle.round_lang.specs.Sets.{members}
use Rattle.run_data.proofs.Left.{members_from}
use Rattle.run_data.proofs.Texts.{Listing}
use Rattle.run_data.proofs.line.Line.push_set.Given as goal

-- the members from this value on are left
abbrev pub invariant-loop-value : goal.invariant-loop-value
invariant-loop-value l =
    Listing l.fn.self (members l.set.bits) l.self l.is_later (members_from l.set.bits l.value)
