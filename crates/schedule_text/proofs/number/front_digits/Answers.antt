use Rattle.std.proofs.Common.{◌≡◌, ◌∙◌, sym, arith, length}
use Rattle.schedule_text.proofs.Numbers.{digits_end}
use Rattle.schedule_text.proofs.number.front_digits.Goals as goal

pub returns-then-not-is_ascii_digit : goal.returns-then-not-is_ascii_digit
returns-then-not-is_ascii_digit c =
    let ends = digits_end c.args.text.now c.loop-place.place c.loop-place.value
    c.loop-place.invariant (omega arith) (λ _. sym c.is_ascii_digit.ensures.value
    ∙ c.if-not-is_ascii_digit.true) in
    record { count = ends.0; within = omega arith; value = ends.1 }

pub returns : goal.returns
returns c =
    let all : c.loop-place.place ≡ length c.args.text.now = omega arith in
    let ends = digits_end c.args.text.now c.loop-place.place c.loop-place.value
    c.loop-place.invariant (omega arith) (λ h. absurd (omega arith)) in
    record { count = sym all ∙ ends.0; within = omega arith; value = ends.1 }
