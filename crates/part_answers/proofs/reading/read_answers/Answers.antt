use Rattle.std.proofs.Common.{◌≡◌, ◌<◌, ◌+◌, ◌++◌, ◌∷◌, [], ap, arith, length, rules, subst, suc}
use Rattle.std.proofs.lemmas.Bool.Decides.{nat_tests}
use Rattle.part_answers.specs.Properties.{rank}
use Rattle.part_answers.proofs.AnswerLemmas.{rank_small}
use Rattle.part_answers.proofs.ReadLemmas.{IsReadTo, read_none, read_nothing, read_one}
use Rattle.part_answers.proofs.reading.read_answers.Goals as goal

pub loop-answered-init : goal.loop-answered-init
loop-answered-init c = (
  search rules,
  rw c.new-answers.ensures.items (read_nothing c.args.text.now),
  omega arith,
  omega arith,
)

pub returns-in_default-clause-err : goal.returns-in_default-clause-err
returns-in_default-clause-err c =
    read_none c.args.text.now c.loop-answered.answers.items c.loop-answered.rest.now
    c.loop-answered.least c.loop-answered.invariant.1 c.in_default.ensures.none

pub loop-answered-preserved : goal.loop-answered-preserved
loop-answered-preserved c =
    let a = c.in-Some.answered in
    let after = c.in-Some.after.now in
    let begins = c.in-Some.ensures.some in
    let small = rank_small a.property in
    let next : suc (rank a.property) ≡ c.rank-least.result + 1 = omega (arith, c.rank-least.ensures)
    in
    let read = read_one c.args.text.now c.loop-answered.answers.items c.loop-answered.rest.now
    c.loop-answered.least c.loop-answered.invariant.1 a after begins
    (λ none. let long : 0 < length after = grind (arith, nat_tests) in
    absurd (omega (arith, long, ap length none))) in (
      search rules,
      rw c.in_ok-push.ensures.items
          (subst (λ n. IsReadTo c.args.text.now
          (c.loop-answered.answers.items ++ a ∷ []) after n) next read),
      omega (arith, small, c.rank-least.ensures),
      omega (arith, begins.late, c.rank-least.ensures, c.loop-answered.invariant.3),
    )
