-- Rows and sets that are written.
use Rattle.std.proofs.Common.{◌≡◌, ℕ, ◌+◌, ◌*◌, ◌%◌, ◌^◌, ◌<◌, ◌≤◌, List, [], ◌∷◌, ◌++◌, length}
use Rattle.std.proofs.Common.{get_or, take, drop, arith, sym, ap, subst, ◌∙◌, append_assoc}
use Rattle.std.specs.List.{flat_map, All}
use Rattle.std.proofs.lemmas.List.{take_at, length-append, length-take, length-drop, take_more}
use Rattle.std.proofs.lemmas.List.{drop_more, flat_map_more}
use Rattle.std.proofs.lemmas.List.Elements.{All-cons}
use Rattle.std.proofs.Math.Nat.{mod-eq_of_lt}
use Rattle.byteorder.specs.Endian.{big_bytes}
use Rattle.round_lang.specs.declared.kind.Kind.{Kind}
use Rattle.round_lang.specs.declared.kind.Kind.TheVariants as kind
use Rattle.round_lang.specs.declared.value.Value.{Value}
use Rattle.round_lang.specs.declared.value.Value.TheVariants.{Num, Flag, Set, Row}
use Rattle.round_lang.specs.Values.{at, set}
use Rattle.round_lang.specs.Words.{IsSmall}
use Rattle.frame_format.specs.Spelling.{AreOf, IsOf, field}
use Rattle.frame_format.proofs.Pieces.{length-values}
use Rattle.frame_views.specs.Writing.{with_entry}

pub length-with_entry : (old : List ℕ) (v n : ℕ) → 4 * v + 4 ≤ length old
    → length (with_entry old v n) ≡ length old
length-with_entry old v n h =
    omega (
      arith,
      length-append (take (4 * v) old) (big_bytes 4 n ++ drop (4 * v + 4) old),
      length-append (big_bytes 4 n) (drop (4 * v + 4) old),
      length-take (4 * v) old,
      length-drop (4 * v + 4) old,
    )

-- one entry more is written
pub take-with_entry : (old row : List ℕ) (v n : ℕ) → 4 * v + 4 ≤ length old → v < length row
    → n ≡ get_or row v 0 → take (4 * v) old ≡ flat_map (big_bytes 4) (take v row)
    → take (4 * (v + 1)) (with_entry old v n) ≡ flat_map (big_bytes 4) (take (v + 1) row)
take-with_entry old row v n h within read front =
    let p = take (4 * v) old ++ big_bytes 4 n in
    let len : length p ≡ 4 * (v + 1) = omega (
      arith,
      length-append (take (4 * v) old) (big_bytes 4 n),
      length-take (4 * v) old,
    ) in
    let whole : p ++ drop (4 * v + 4) old ≡ with_entry old v n =
    append_assoc (take (4 * v) old) (big_bytes 4 n) (drop (4 * v + 4) old) in
    let first : take (4 * (v + 1)) (with_entry old v n) ≡ p = ap (take (4 * (v + 1))) (sym whole)
    ∙ take_at p (drop (4 * v + 4) old) (4 * (v + 1)) len in
    let row_is : take (v + 1) row ≡ take v row ++ n ∷ [] = take_more row v 0 within
    ∙ ap (λ (x : ℕ). take v row ++ x ∷ []) (sym read) in
    first ∙ ap (λ (u : List ℕ). u ++ big_bytes 4 n) front
    ∙ flat_map_more (big_bytes 4) [] (take v row) n ∙ ap (flat_map (big_bytes 4)) (sym row_is)

-- the bits of a set below K are all that it has
pub set_stays : (k : ℕ) (v : Value) → IsOf k kind.Set v → big_bytes 8 (set v % 2 ^ k) ≡ field v
set_stays k (Num n) h = absurd h
set_stays k (Flag b) h = absurd h
set_stays k (Set s) h = ap (big_bytes 8) (mod-eq_of_lt h)
set_stays k (Row r) h = absurd h

-- the numbers of a message from a place on are small where those of the field there are, and of the
-- rest
pub small_more : (k : ℕ) (ts : List Kind) (vs : List Value) (i : ℕ) → 0 < length ts
    → AreOf k ts (drop i vs) → IsSmall (at vs i) → All IsSmall (drop (i + 1) vs)
    → All IsSmall (drop i vs)
small_more k ts vs i some kinds here rest =
    let len : length (drop i vs) ≡ length ts = length-values k ts (drop i vs) kinds in
    let within : i < length vs = omega (arith, length-drop i vs) in
    subst (All IsSmall) (sym (drop_more vs i (Num 0) within))
    (All-cons IsSmall (at vs i) (drop (i + 1) vs) here rest)

-- no fields
pub small_none : (k : ℕ) (ts : List Kind) (vs : List Value) → length ts ≡ 0 → AreOf k ts vs
    → All IsSmall vs
small_none k ts vs none kinds =
    let len : length vs ≡ length ts = length-values k ts vs kinds in
    λ j d within. absurd (omega arith)
