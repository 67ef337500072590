use Rattle.std.proofs.Common.{arith, sym, ap, subst, ◌∙◌, length, List, Option}
use Rattle.step_machine.specs.Sealed.{Frame}
use Rattle.step_machine.specs.Nodes.{IsHeld, algorithm_in}
use Rattle.round_meaning.specs.declared.setup.Setup.{Setup}
use Rattle.step_book.specs.Log.{end_state}
use Rattle.step_book.proofs.Closing.{close, ended_grown, on_err}
use Rattle.step_book.proofs.Closing.{rows_closed, same_rows, same_view, to_rows}
use Rattle.step_book.proofs.Effects.{closes}
use Rattle.step_book.proofs.Reading.{of_view, rows_view, rows_len, rows_of_len}
use Rattle.step_book.proofs.Vectors.{rows_grow, rows_same}
use Rattle.step_book.proofs.book.Book.record_close.Goals as goal

pub index_mut-requires : goal.index_mut-requires
index_mut-requires g c =
    let size = rows_len (of_view g.P.Plan.start g.P.Plan.nodes c.self.view_is c.self.invariant) in
    let long = rows_of_len c.self.inside.states.items in
    let view = ap length (rows_view c.self.view_is) in
    let one = c.node-node.ensures.one in
    let nodes = ap (λ (x : Setup). x.nodes) c.requires.setup in
    omega arith

pub returns-in_err-note_close-clause-err : goal.returns-in_err-note_close-clause-err
returns-in_err-note_close-clause-err g c =
    let size = rows_len (of_view g.P.Plan.start g.P.Plan.nodes c.self.view_is c.self.invariant) in
    let long = rows_of_len c.self.inside.states.items in
    let view = ap length (rows_view c.self.view_is) in
    let one = c.node-node.ensures.one in
    let nodes = ap (λ (x : Setup). x.nodes) c.requires.setup in
    on_err c.from_residual.result (same_view _ c.self.view_is
    (rows_same c.self.inside.states.items c.node-node.result c.index_mut.result.now
    c.note_close.new.states (omega arith) c.index_mut.ensures.value
    c.in_err-note_close.ensures.err))

pub invariant_of-self : goal.invariant_of-self
invariant_of-self g c =
    let size = rows_len (of_view g.P.Plan.start g.P.Plan.nodes c.self.view_is c.self.invariant) in
    let long = rows_of_len c.self.inside.states.items in
    let view = ap length (rows_view c.self.view_is) in
    let one = c.node-node.ensures.one in
    let nodes = ap (λ (x : Setup). x.nodes) c.requires.setup in
    same_rows c.self.invariant _
    (rows_same c.self.inside.states.items c.node-node.result c.index_mut.result.now
    c.note_close.new.states (omega arith) c.index_mut.ensures.value
    c.in_err-note_close.ensures.err)

pub invariant_of-self-2 : goal.invariant_of-self-2
invariant_of-self-2 g c =
    let s = c.self.inside in
    let v = c.args.self.now in
    let n = c.args.finished.now.node.now in
    let start = g.P.Plan.start v.plan in
    let size = rows_len (of_view g.P.Plan.start g.P.Plan.nodes c.self.view_is c.self.invariant) in
    let long = rows_of_len c.self.inside.states.items in
    let view = ap length (rows_view c.self.view_is) in
    let one = c.node-node.ensures.one in
    let nodes = ap (λ (x : Setup). x.nodes) c.requires.setup in
    let P : List (Option Frame)
    → Type 0 = λ x. IsHeld (algorithm_in n) n.setup.nodes n.me n.round x in
    to_rows g.P.Plan.start g.P.Plan.nodes c.self.view_is
    (close (of_view g.P.Plan.start g.P.Plan.nodes c.self.view_is c.self.invariant) n _
    (omega arith) c.requires.program c.requires.setup
    (ap length (sym c.frames-frames.ensures.value)
    ∙ c.frames-frames.ensures.sized)
    (subst P c.frames-frames.ensures.value c.frames-frames.ensures.held) c.requires.due
    c.requires.ended
    (rows_closed n c.node-node.result _ c.self.view_is c.node-node.ensures.value
    (rows_grow s.states.items c.node-node.result c.index_mut.result.now c.note_close.new.states
    (end_state n) (omega arith) c.index_mut.ensures.value
    (ended_grown n _ _ _ c.args.finished.now.ended c.requires.state
    c.in_ok-note_close.ensures.ok))))

pub returns-clause-ok : goal.returns-clause-ok
returns-clause-ok g c =
    let n = c.args.finished.now.node.now in
    let size = rows_len (of_view g.P.Plan.start g.P.Plan.nodes c.self.view_is c.self.invariant) in
    let long = rows_of_len c.self.inside.states.items in
    let view = ap length (rows_view c.self.view_is) in
    let one = c.node-node.ensures.one in
    let me = c.node-node.ensures.value in
    let nodes = ap (λ (x : Setup). x.nodes) c.requires.setup in
    closes g.P.Plan.start g.P.Plan.nodes c.self.view_is c.self.invariant n _ (omega arith)
    c.requires.due c.requires.ended
    (rows_closed n c.node-node.result _ c.self.view_is me
    (rows_grow c.self.inside.states.items c.node-node.result c.index_mut.result.now
    c.note_close.new.states (end_state n) (omega arith) c.index_mut.ensures.value
    (ended_grown n _ _ _ c.args.finished.now.ended c.requires.state
    c.in_ok-note_close.ensures.ok)))
