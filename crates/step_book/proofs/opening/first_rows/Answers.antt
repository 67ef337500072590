use Rattle.std.proofs.Common.{◌∷◌, [], ◌++◌, ap, map, ◌∙◌, sym}
use Rattle.round_lang.specs.Words.{kind_of}
use Rattle.round_meaning.specs.Rounds.{algorithm_of}
use Rattle.step_book.specs.Log.{states_of}
use Rattle.step_book.proofs.Starts.{first_kinds, rows_push}
use Rattle.step_book.proofs.opening.first_rows.Goals as goal

pub new-requires : goal.new-requires
new-requires c =
    ap (map kind_of) c.in_ok-state.ensures
    ∙ first_kinds c.args.program.now c.args.setup.now c.loop-node.node
    c.types_are_kept.ensures.starts ∙ sym c.state_shape.ensures

pub loop-node-preserved : goal.loop-node-preserved
loop-node-preserved c =
    rows_push c.loop-node.rows.items c.push-in-loop-node.new.self.items c.push.new.self
    (λ i. (algorithm_of c.args.program.now c.args.setup.now).init i ∷ []) c.loop-node.node
    c.in_ok-push-2.ensures.items
    (ap states_of c.in_ok-push.ensures.items
    ∙ ap (λ xs. states_of (xs ++ c.in_ok-new.field-0 ∷ [])) c.new-row.ensures.items
    ∙ ap (λ x. x ∷ []) (c.in_ok-new.ensures.ok ∙ c.in_ok-stored.ensures ∙ c.in_ok-state.ensures))
    c.loop-node.invariant
