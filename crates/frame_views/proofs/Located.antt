-- A field lies behind those before it.
use Rattle.std.proofs.Common.{◌≡◌, ℕ, zero, suc, ◌+◌, ◌*◌, ◌<◌, ◌≤◌, List, [], ◌∷◌, ◌++◌, length}
use Rattle.std.proofs.Common.{get_or, take, drop, arith, refl, sym, ap, ◌∙◌}
use Rattle.std.proofs.lemmas.List.{drop-drop, get_or_past, length-drop, take_at}
use Rattle.byteorder.specs.Endian.{big_number}
use Rattle.round_lang.specs.declared.kind.Kind.{Kind}
use Rattle.round_lang.specs.declared.kind.Kind.TheVariants as kind
use Rattle.round_lang.specs.declared.value.Value.{Value}
use Rattle.round_lang.specs.declared.value.Value.TheVariants.{Num}
use Rattle.round_lang.specs.Values.{at}
use Rattle.frame_format.specs.Formats.{Format, kinds_at, size, width}
use Rattle.frame_format.specs.Places.{head_at, round_at}
use Rattle.frame_format.specs.Reading.{field_at, fields_at, frame_at, numbers}
use Rattle.frame_views.specs.Views.{seen_as}

pub fields_at-get : (ts : List Kind) (bytes : List ℕ) (i : ℕ) (d : Value) (e : Kind) → i < length ts
    → get_or (fields_at ts bytes) i d ≡ field_at (get_or ts i e) (drop (size (take i ts)) bytes)
fields_at-get [] bytes i d e h = absurd (omega arith)
fields_at-get (t ∷ ts) bytes zero d e h = refl
fields_at-get (t ∷ ts) bytes (suc i) d e h =
    fields_at-get ts (drop (width t) bytes) i d e (omega arith)
    ∙ ap (field_at (get_or ts i e)) (drop-drop (size (take i ts)) (width t) bytes)

pub size-take : (ts : List Kind) (i : ℕ) (e : Kind) → i < length ts
    → size (take i ts) + width (get_or ts i e) ≤ size ts
size-take [] i e h = absurd (omega arith)
size-take (t ∷ ts) zero e h = omega arith
size-take (t ∷ ts) (suc i) e h = omega (arith, size-take ts i e (omega arith))

pub size-take-le : (ts : List Kind) (i : ℕ) → size (take i ts) ≤ size ts
size-take-le [] zero = omega arith
size-take-le [] (suc i) = omega arith
size-take-le (t ∷ ts) zero = omega arith
size-take-le (t ∷ ts) (suc i) = omega (arith, size-take-le ts i)

pub length-fields_at : (ts : List Kind) (bytes : List ℕ) → length (fields_at ts bytes) ≡ length ts
length-fields_at [] bytes = refl
length-fields_at (t ∷ ts) bytes = omega (arith, length-fields_at ts (drop (width t) bytes))

-- what is read at a field's place is the field
pub spot_is : (ts : List Kind) (body : List ℕ) (i : ℕ) → i < length ts
    → field_at (get_or ts i kind.Num) (drop (size (take i ts)) body) ≡ at (fields_at ts body) i
spot_is ts body i within = sym (fields_at-get ts body i (Num 0) kind.Num within)

pub spot_room : (ts : List Kind) (body : List ℕ) (i : ℕ) → i < length ts → size ts ≤ length body
    → width (get_or ts i kind.Num) ≤ length (drop (size (take i ts)) body)
spot_room ts body i within room =
    omega (arith, size-take ts i kind.Num within, length-drop (size (take i ts)) body)

-- behind the last field there is none
pub no_spot : (ts : List Kind) (body : List ℕ) (i : ℕ) → length ts ≤ i
    → Num 0 ≡ at (fields_at ts body) i
no_spot ts body i past =
    sym (get_or_past (fields_at ts body) i (Num 0) (omega (arith, length-fields_at ts body)))

-- ---- rows

pub numbers-get : (k : ℕ) (bytes : List ℕ) (v : ℕ) → v < k
    → get_or (numbers k bytes) v 0 ≡ big_number 4 (drop (4 * v) bytes)
numbers-get zero bytes v h = absurd (omega arith)
numbers-get (suc k) bytes zero h = refl
numbers-get (suc k) bytes (suc v) h =
    let e : 4 + 4 * v ≡ 4 * suc v = omega arith in
    numbers-get k (drop 4 bytes) v (omega arith)
    ∙ ap (big_number 4) (drop-drop (4 * v) 4 bytes ∙ ap (λ (n : ℕ). drop n bytes) e)

pub length-numbers : (k : ℕ) (bytes : List ℕ) → length (numbers k bytes) ≡ k
length-numbers zero bytes = refl
length-numbers (suc k) bytes = omega (arith, length-numbers k (drop 4 bytes))

-- ---- the kinds that a view keeps

pub seen_again : (s : Format) (bytes : List ℕ) (copied kinds rest : List Kind) → copied ≡ kinds
    → kinds ≡ kinds_at s (round_at bytes)
    → seen_as bytes (take (length kinds) (copied ++ rest)) ≡ frame_at s bytes
unfolding frame_at
seen_again s bytes copied kinds rest c e =
    let front : take (length kinds) (copied ++ rest) ≡ kinds =
    ap (λ (x : List Kind). take (length kinds) (x ++ rest)) c
    ∙ take_at kinds rest (length kinds) refl in
    rw (front, e) refl

pub fields_seen : (s : Format) (bytes body : List ℕ) (kinds : List Kind)
    → kinds ≡ kinds_at s (round_at bytes) → body ≡ drop (head_at bytes) bytes
    → fields_at kinds body ≡ (frame_at s bytes).message
unfolding frame_at
fields_seen s bytes body kinds e b = rw (e, b) refl
