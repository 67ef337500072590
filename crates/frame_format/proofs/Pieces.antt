-- Bytes that grow by one piece after the other, and what stands at a place.
use Rattle.std.proofs.Common.{◌≡◌, ℕ, zero, suc, ◌+◌, ◌<◌, ◌≤◌, List, [], ◌∷◌, ◌++◌, length, get_or}
use Rattle.std.proofs.Common.{take, arith, refl, sym, ap, subst, ◌∙◌}
use Rattle.std.specs.List.{flat_map, All}
use Rattle.std.proofs.lemmas.List.{flat_map_more, take_all, take_more}
use Rattle.std.proofs.lemmas.List.Elements.{All-more}
use Rattle.round_lang.specs.declared.kind.Kind.{Kind}
use Rattle.round_lang.specs.declared.value.Value.{Value}
use Rattle.frame_format.specs.Formats.{size, width}
use Rattle.frame_format.specs.Spelling.{AreOf, IsOf}

-- one piece more
pub pieces_more : {X : Type 0} (f : X → List ℕ) (start old new : List ℕ) (xs : List X) (i : ℕ)
    (d x : X) → i < length xs → x ≡ get_or xs i d → old ≡ start ++ flat_map f (take i xs)
    → new ≡ old ++ f x → new ≡ start ++ flat_map f (take (i + 1) xs)
pieces_more {X} f start old new xs i d x within read old_is new_is =
    let more : take i xs ++ x ∷ [] ≡ take (i + 1) xs = ap (λ (y : X). take i xs ++ y ∷ []) read
    ∙ sym (take_more xs i d within) in
    new_is
    ∙ ap (λ (u : List ℕ). u ++ f x) old_is
    ∙ flat_map_more f start (take i xs) x
    ∙ ap (λ (u : List X). start ++ flat_map f u) more

-- all pieces
pub pieces_all : {X : Type 0} (f : X → List ℕ) (start out : List ℕ) (xs : List X) (i : ℕ)
    → length xs ≤ i → out ≡ start ++ flat_map f (take i xs) → out ≡ start ++ flat_map f xs
pieces_all {X} f start out xs i past e = e
    ∙ ap (λ (u : List X). start ++ flat_map f u) (take_all i xs past)

-- one element more for which P holds
pub all_more : {X : Type 0} (P : X → Type 0) (xs : List X) (i : ℕ) (d x : X) → i < length xs
    → x ≡ get_or xs i d → All P (take i xs) → P x → All P (take (i + 1) xs)
all_more P xs i d x within read front here = All-more P xs i d within front (subst P read here)

pub all_all : {X : Type 0} (P : X → Type 0) (xs : List X) (i : ℕ) → length xs ≤ i
    → All P (take i xs) → All P xs
all_all P xs i past h = subst (All P) (take_all i xs past) h

-- a value for each kind
pub length-values : (k : ℕ) (kinds : List Kind) (vs : List Value) → AreOf k kinds vs
    → length vs ≡ length kinds
length-values k [] [] h = refl
length-values k [] (v ∷ vs) h = absurd h
length-values k (t ∷ ts) [] h = absurd h
length-values k (t ∷ ts) (v ∷ vs) h = omega (arith, length-values k ts vs h.1)

-- the value at a place is of the kind there
pub value_of_kind : (k : ℕ) (kinds : List Kind) (vs : List Value) (i : ℕ) (d : Kind) (e : Value)
    → AreOf k kinds vs → i < length kinds → IsOf k (get_or kinds i d) (get_or vs i e)
value_of_kind k [] vs i d e h within = absurd (omega arith)
value_of_kind k (t ∷ ts) [] i d e h within = absurd h
value_of_kind k (t ∷ ts) (v ∷ vs) zero d e h within = h.0
value_of_kind k (t ∷ ts) (v ∷ vs) (suc i) d e h within =
    value_of_kind k ts vs i d e h.1 (omega arith)

-- a field is no longer than all
pub width_within : (kinds : List Kind) (i : ℕ) (d : Kind) → i < length kinds
    → width (get_or kinds i d) ≤ size kinds
width_within [] i d within = absurd (omega arith)
width_within (t ∷ ts) zero d within = omega arith
width_within (t ∷ ts) (suc i) d within = omega (arith, width_within ts i d (omega arith))
