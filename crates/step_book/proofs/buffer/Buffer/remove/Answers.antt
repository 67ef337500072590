use Rattle.std.proofs.Common.{List, None, Option, ap, set, subst, sym}
use Rattle.step_machine.specs.Sealed.{Frame}
use Rattle.step_book.specs.Buffers.{BufferView}
use Rattle.step_book.specs.Tables.{HasPlace, Puts}
use Rattle.step_book.proofs.Tables.{puts_table}
use Rattle.step_book.proofs.Spelling.{spelt_put}
use Rattle.step_book.proofs.buffer.Buffer.remove.Goals as goal

pub invariant_of-self : goal.invariant_of-self
invariant_of-self c =
    let rounds = c.self.inside.flying.items in
    let there = subst (λ (b : BufferView). HasPlace b.flying c.args.round c.args.place)
    (sym c.self.view_is) c.requires in
    spelt_put _ rounds _ c.self.inside.waiting.items c.args.round c.args.place None
    (puts_table None rounds c.index_mut.result.now c.take-lost.new.self c.args.round c.args.place
    None there.0 c.index_mut.ensures.value c.take-lost.ensures.rest) tt c.self.invariant

pub returns-clause-flying : goal.returns-clause-flying
returns-clause-flying c =
    let rounds = c.self.inside.flying.items in
    let there = subst (λ (b : BufferView). HasPlace b.flying c.args.round c.args.place)
    (sym c.self.view_is) c.requires in
    subst (λ (z : List (List (Option Frame))). Puts None z
    (set rounds c.args.round c.take-lost.new.self) c.args.round c.args.place None)
    (ap (λ (b : BufferView). b.flying) c.self.view_is)
    (puts_table None rounds c.index_mut.result.now c.take-lost.new.self c.args.round c.args.place
    None there.0 c.index_mut.ensures.value c.take-lost.ensures.rest)
