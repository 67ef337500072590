use Rattle.schedule_text.proofs.Numbers.{CountsDigits}
use Rattle.schedule_text.proofs.number.front_digits.Given as goal

abbrev pub invariant-loop-place : goal.invariant-loop-place
invariant-loop-place l = CountsDigits l.text l.place l.value
