use Rattle.schedule_text.proofs.Numbers.{Spell}
use Rattle.schedule_text.proofs.number.number_before.Given as goal

abbrev pub invariant-loop-place : goal.invariant-loop-place
invariant-loop-place l = Spell l.text l.place l.value
