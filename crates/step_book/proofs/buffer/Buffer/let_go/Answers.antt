use Rattle.std.proofs.Common.{[], None, ap, get_or, subst, sym, ◌∙◌}
use Rattle.std.specs.Prelude.{All, IfSome}
use Rattle.std.proofs.lemmas.List.{get_or_default}
use Rattle.std.proofs.lemmas.List.Elements.{All-push}
use Rattle.round_meaning.specs.Rounds.{algorithm_of}
use Rattle.step_machine.specs.Sealed.{IsHonest}
use Rattle.step_book.specs.Buffers.{BufferView}
use Rattle.step_book.specs.Tables.{HasPlace}
use Rattle.step_book.proofs.Tables.{puts_table}
use Rattle.step_book.proofs.Spelling.{spelt_put, spelt_waits}
use Rattle.step_book.proofs.buffer.Buffer.let_go.Goals as goal

pub invariant_of-self : goal.invariant_of-self
invariant_of-self c =
    let says = IsHonest (algorithm_of c.self.inside.program c.self.inside.setup) in
    let rounds = c.self.inside.flying.items in
    let frames = c.index_mut.result.now in
    let there = subst (λ (b : BufferView). HasPlace b.flying c.args.round c.args.place)
    (sym c.self.view_is) c.requires.place in
    let kept = spelt_put _ rounds _ c.self.inside.waiting.items c.args.round c.args.place None
    (puts_table None rounds frames c.take.new.self c.args.round c.args.place None there.0
    c.index_mut.ensures.value c.take.ensures.rest) tt c.self.invariant in
    let read = get_or_default rounds c.args.round [] frames there.0
    ∙ sym c.index_mut.ensures.value in
    let taken = ap (λ t. get_or t c.args.place None) read ∙ sym c.take.ensures.taken
    ∙ c.in-Some.is in
    spelt_waits _ _ c.self.inside.waiting.items c.push.new.self.items
    (subst (All says) (sym c.push.ensures)
    (All-push says c.self.inside.waiting.items c.in-Some.frame c.self.invariant.waits
    (subst (λ o. IfSome o says) taken (c.self.invariant.flies c.args.round c.args.place)))) kept
