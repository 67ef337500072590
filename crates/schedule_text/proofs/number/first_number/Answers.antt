use Rattle.std.proofs.Common.{◌≡◌, ◌∙◌, ◌+◌, ◌-◌, ◌<◌, length, take, drop, refl, sym, arith}
use Rattle.std.proofs.Common.{length-drop}
use Rattle.std.proofs.lemmas.List.{take_all}
use Rattle.schedule_text.proofs.Numbers.{no_number, number_alone, number_more, number_broken}
use Rattle.schedule_text.proofs.number.first_number.Goals as goal

pub returns-then-count-eq0 : goal.returns-then-count-eq0
returns-then-count-eq0 c = no_number c.args.text.now (sym c.front_digits-count.ensures.count
    ∙ c.if-count-eq0.true)

pub returns-then-count-text : goal.returns-then-count-text
returns-then-count-text c =
    let t = c.args.text.now in
    let n = c.front_digits-count.result.0 in
    let n-is = c.front_digits-count.ensures.count in (
      c.front_digits-count.ensures.value,
      number_alone t n n-is c.if-count-eq0.false c.if-count-text.true,
    )

pub returns-then-text-count-ne32 : goal.returns-then-text-count-ne32
returns-then-text-count-ne32 c =
    number_broken c.args.text.now c.front_digits-count.result.0 c.front_digits-count.ensures.count
    c.if-count-eq0.false _ (omega (arith, c.front_digits-count.ensures.within)) refl
    c.if-text-count-ne32.true

pub returns : goal.returns
returns c =
    let t = c.args.text.now in
    let n = c.front_digits-count.result.0 in
    let n-is = c.front_digits-count.ensures.count in
    let lt : n < length t = omega (arith, c.front_digits-count.ensures.within) in
    let rest : take (length t - (n + 1)) (drop (n + 1) t) ≡ drop (n + 1) t =
    take_all (length t - (n + 1)) (drop (n + 1) t) (omega (arith, length-drop (n + 1) t)) in (
      c.front_digits-count.ensures.value,
      (
        rw rest (number_more t n n-is c.if-count-eq0.false _ lt refl c.if-text-count-ne32.false),
        rw rest (omega (arith, length-drop (n + 1) t)),
      ),
    )
