use Rattle.std.proofs.Common.{◌∙◌, ap, sym}
use Rattle.round_lang.specs.Sets.{least, members}
use Rattle.round_meaning.proofs.Decisions.{first_member-empty, first_member-none, first_member-some}
use Rattle.omission_explainer.specs.StoredDecisions.{decision_at, set_in}
use Rattle.omission_explainer.proofs.stored_decision.decision_at.Goals as goal

pub returns-then-least-lt64 : goal.returns-then-least-lt64
returns-then-least-lt64 c =
    let state = c.args.state.now in
    let same = c.set_at.ensures ∙ ap (λ place. set_in place state) (sym (c.in_ok-place.was)) in
    first_member-some (members (set_in c.args.place state)) 64 c.least-least.result
    (c.least-least.ensures ∙ ap (least 64) same) c.if-least-lt64.true

pub returns-else-least-lt64 : goal.returns-else-least-lt64
returns-else-least-lt64 c =
    let state = c.args.state.now in
    let same = c.set_at.ensures ∙ ap (λ place. set_in place state) (sym (c.in_ok-place.was)) in
    first_member-none (set_in c.args.place state) c.least-least.result (c.least-least.ensures
    ∙ ap (least 64) same) c.if-least-lt64.false

pub returns-in_err-place : goal.returns-in_err-place
returns-in_err-place c = c.from_residual.ensures ∙ first_member-empty
    ∙ ap (λ place. decision_at place c.args.state.now) (sym c.in_err-place.was)
