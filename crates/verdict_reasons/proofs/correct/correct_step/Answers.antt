use Rattle.std.proofs.Common.{◌≡◌, ◌∙◌, true, sym, ap, subst, arith}
use Rattle.std.proofs.lemmas.Bool.{both_ways}
use Rattle.round_lang.specs.Sets.{is_in}
use Rattle.step_book.specs.Trace.{is_step}
use Rattle.omission_explainer.proofs.Keeping.{has_member, member_of}
use Rattle.omission_explainer.proofs.Passes.{other_step}
use Rattle.verdict_reasons.specs.Correct.{IsOtherEvent}
use Rattle.verdict_reasons.proofs.correct.correct_step.Goals as goal

pub returns-then-contains : goal.returns-then-contains
returns-then-contains c = record {
  step = c.in-Step.is;
  correct_node = member_of c.args.correct.bits c.in-Step.node (sym c.contains.ensures
      ∙ c.if-contains.true);
}

pub returns-else-contains : goal.returns-else-contains
returns-else-contains c =
    let correct = c.args.correct.bits in
    let k = c.in-Step.node in
    let out = λ (h : is_in correct k ≡ true). both_ways c.contains.result c.if-contains.false
    (c.contains.ensures ∙ has_member correct k (let l = c.requires k h in omega arith) h) in
    subst (IsOtherEvent correct) (sym c.in-Step.is) (other_step correct k out)

pub returns-in-Release : goal.returns-in-Release
returns-in-Release c = λ k h. ap (is_step k) c.in-Release.is

pub returns-in-Drop : goal.returns-in-Drop
returns-in-Drop c = λ k h. ap (is_step k) c.in-Drop.is

pub returns-in-Copy : goal.returns-in-Copy
returns-in-Copy c = λ k h. ap (is_step k) c.in-Copy.is
