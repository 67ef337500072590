use Rattle.std.proofs.Common.{
  ◌≡◌,
  ◌+◌,
  ◌-◌,
  ◌*◌,
  ◌/◌,
  ◌%◌,
  ◌≤◌,
  Some,
  None,
  ap,
  arith,
  div-add-mod',
  length,
  sym,
  ◌∙◌,
}
use Rattle.std.specs.Prelude.{option_map, slice_get}
use Rattle.std.proofs.lemmas.Nat.{mod_below}
use Rattle.step_book.specs.Pieces.{WaitingView}
use Rattle.step_book.proofs.Pieces.{at_full, at_last, lent_is, past_all}
use Rattle.step_book.proofs.waiting.Waiting.at.Goals as goal

pub returns-in-Some : goal.returns-in-Some
returns-in-Some c =
    let place = c.args.place in
    let full = c.self.inside.full.items in
    let piece = c.in-Some.piece.now in
    let there : slice_get full (place / 16) ≡ Some piece =
    sym (lent_is (λ x. x.now) c.deref.result.now (place / 16) c.get.result c.get.ensures.lookup
    ∙ ap (λ xs. slice_get xs (place / 16)) c.deref.ensures.value)
    ∙ ap (λ o. option_map (λ x. x.now) o) c.in-Some.is in
    lent_is (λ x. x.now) c.deref-in-Some.result.now
    (place % 16) c.get-in-Some.result c.get-in-Some.ensures.lookup
    ∙ ap (λ xs. slice_get xs (place % 16)) c.deref-in-Some.ensures.value
    ∙ sym (at_full full c.self.inside.last.items piece (place / 16)
    (place % 16) place c.self.invariant.pieces there (mod_below place 16 (omega arith))
    (sym (div-add-mod' place 16)))
    ∙ ap (λ (w : WaitingView). slice_get w.items place) c.self.view_is

pub returns-in-None : goal.returns-in-None
returns-in-None c =
    let place = c.args.place in
    let full = c.self.inside.full in
    let behind = place - c.len.result * 16 in
    let gone : slice_get full.items (place / 16) ≡ None =
    sym (lent_is (λ x. x.now) c.deref.result.now (place / 16) c.get.result c.get.ensures.lookup
    ∙ ap (λ xs. slice_get xs (place / 16)) c.deref.ensures.value)
    ∙ ap (λ o. option_map (λ x. x.now) o) c.in-None.is in
    let past : length full.items ≤ place / 16 = past_all full.items (place / 16) gone in
    let parts = div-add-mod' place 16 in
    let e : place ≡ length full.items * 16 + behind =
    omega (arith, c.len.ensures, full.ok, past, parts) in
    lent_is (λ x. x.now) c.deref-in-None.result.now behind c.get-in-None.result
    c.get-in-None.ensures.lookup
    ∙ ap (λ xs. slice_get xs behind) c.deref-in-None.ensures.value
    ∙ sym (at_last full.items c.self.inside.last.items behind place c.self.invariant.pieces e)
    ∙ ap (λ (w : WaitingView). slice_get w.items place) c.self.view_is
