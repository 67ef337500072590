use Rattle.std.proofs.Common.{
  ◌≡◌,
  ℕ,
  List,
  ◌-◌,
  ◌≤◌,
  take,
  drop,
  length,
  length-drop,
  sym,
  ap,
  ◌∙◌,
  arith,
}
use Rattle.std.specs.Prelude.{bit_and}
use Rattle.std.specs.Int.{from_le_bytes, w64}
use Rattle.std.proofs.lemmas.List.{take_all}
use Rattle.schedule_text.proofs.last_round.LastRound.read.Goals as goal

pub returns-then-word-self : goal.returns-then-word-self
returns-then-word-self c =
    let t = c.args.text.now in
    let kept = c.self.inside.length in
    let long : 8 ≤ length t = omega (arith, c.requires) in
    let same : bit_and (from_le_bytes w64 (take 8 t)) c.self.inside.mask ≡ c.self.inside.word =
    ap (λ (w : ℕ). bit_and w c.self.inside.mask)
    (sym (c.from_le_bytes-word.ensures
    ∙ ap (λ (bs : List ℕ). from_le_bytes w64 bs) c.in_ok-first_chunk.ensures.cases.same))
    ∙ c.if-word-self.true in
    let whole : take (length t - kept) (drop kept t) ≡ drop kept t =
    take_all (length t - kept) (drop kept t) (omega (arith, length-drop kept t)) in
    rw whole (c.self.invariant.same t long (λ i. omega (arith, c.type_inv.text i)) same)
