use Rattle.std.proofs.Common.{arith}
use Rattle.schedule_text.proofs.Numbers.{spell_few}
use Rattle.schedule_text.proofs.number.number_before.Goals as goal

pub overflow_mul-value : goal.overflow_mul-value
overflow_mul-value c =
    let f = spell_few c.args.text.now c.loop-place.place c.loop-place.value c.loop-place.invariant
    (omega arith) in
    omega (arith, f)

pub overflow_add-value : goal.overflow_add-value
overflow_add-value c =
    let f = spell_few c.args.text.now c.loop-place.place c.loop-place.value c.loop-place.invariant
    (omega arith) in
    omega (arith, f)
