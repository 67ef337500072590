use Rattle.std.proofs.Common.{◌∙◌, sym, ap, arith}
use Rattle.round_lang.specs.Values.{num, flag}
use Rattle.round_lang.proofs.SetLaws.{set_of-none, set_of-set, set_of-kept}
use Rattle.round_meaning.proofs.Lists.{map_push}
use Rattle.round_meaning.proofs.evaluator.+eval.Goals as goal
use Rattle.round_meaning.proofs.evaluator.+eval.Goals.{eval_set-then-flag, eval_set-else-flag}

pub eval_set-loop-v-init : goal.eval_set-loop-v-init
eval_set-loop-v-init t c = set_of-none _

pub eval_set-loop-v-preserved : goal.eval_set-loop-v-preserved
eval_set-loop-v-preserved t c =
    let tells = sym (ap flag c.in_ok-eval_at.ensures) ∙ sym c.flag.ensures in
    elim c.if-flag.branch [
      | eval_set-then-flag w ↦ w.bits-is
          ∙ set_of-set _ _ _ (omega arith) (tells
          ∙ w.if-flag.true) c.loop-v.invariant
      | eval_set-else-flag w ↦ w.bits-is
          ∙ set_of-kept _ _ _ (tells ∙ w.if-flag.false) c.loop-v.invariant
    ]

pub eval_row-loop-v-preserved : goal.eval_row-loop-v-preserved
eval_row-loop-v-preserved t c =
    map_push _ _ _ _ _ c.loop-v.invariant (c.num-entry.ensures
    ∙ ap num c.in_ok-eval_at.ensures) c.in_ok-push.ensures.items
