-- An omission table with one entry more.
use Rattle.std.proofs.Common.{◌≡◌, ℕ, Bool, true, false, List, [], ◌∷◌, refl, ap, ◌∙◌}
use Rattle.std.specs.Prelude.{◌||◌}
use Rattle.std.specs.declared.cmp.Ordering.{Ordering}
use Rattle.std.specs.declared.cmp.Ordering.TheVariants.{Less, Equal, Greater}
use Rattle.std.specs.Ordering.{match_ordering, nat_cmp, ordering_then}
use Rattle.std.specs.BTreeSet.{insert_key}
use Rattle.std.proofs.lemmas.Map.Lookups.{exact_unsigned}
use Rattle.round_meaning.specs.declared.omissions.Omission.{Omission}
use Rattle.round_meaning.specs.Omissions.{is_omitted, omits}

or_swap : (a b c : Bool) → (a || (b || c)) ≡ (b || (a || c))
or_swap true true c = refl
or_swap true false c = refl
or_swap false b c = refl

or_twice : (a b c : Bool) → a ≡ b → (b || c) ≡ (a || (b || c))
or_twice true true c e = refl
or_twice false b c e = refl
or_twice true false c e = cc

then_equal : (o p : Ordering) → ordering_then o p ≡ Equal → (o ≡ Equal) × (p ≡ Equal)
then_equal Less p e = absurd cc
then_equal Equal p e = (refl, e)
then_equal Greater p e = absurd cc

-- entries that tie in the order omit the same messages
pub omits-tied : (i r j : ℕ) (o p : Omission)
    → ordering_then (nat_cmp o.receiver p.receiver)
    (ordering_then (nat_cmp o.round p.round) (nat_cmp o.sender p.sender)) ≡ Equal
    → omits i r j o ≡ omits i r j p
omits-tied i r j o p e =
    let first = then_equal (nat_cmp o.receiver p.receiver) _ e in
    let rest = then_equal (nat_cmp o.round p.round) _ first.1 in
    let receiver = exact_unsigned o.receiver p.receiver first.0 in
    let round = exact_unsigned o.round p.round rest.0 in
    let sender = exact_unsigned o.sender p.sender rest.1 in
    cc

insert_step : (cmp : Ordering) (i r j : ℕ) (o x : Omission) (xs ys : List Omission)
    → (cmp ≡ Equal → omits i r j o ≡ omits i r j x)
    → is_omitted ys i r j ≡ (omits i r j o || is_omitted xs i r j)
    → is_omitted (match_ordering cmp (o ∷ x ∷ xs) (x ∷ xs) (x ∷ ys)) i r j
    ≡ (omits i r j o || (omits i r j x || is_omitted xs i r j))
insert_step Less i r j o x xs ys tied ih = refl
insert_step Equal i r j o x xs ys tied ih =
    or_twice (omits i r j o) (omits i r j x) (is_omitted xs i r j) (tied refl)
insert_step Greater i r j o x xs ys tied ih =
    ap (λ b. omits i r j x || b) ih ∙ or_swap (omits i r j x) (omits i r j o) (is_omitted xs i r j)

pub is_omitted-insert_key : (cmp : Omission → Omission
    → Ordering) (i r j : ℕ) (xs : List Omission) (o : Omission)
    → ((x : Omission) → cmp o x ≡ Equal → omits i r j o ≡ omits i r j x)
    → is_omitted (insert_key cmp xs o) i r j ≡ (omits i r j o || is_omitted xs i r j)
is_omitted-insert_key cmp i r j [] o tied = refl
is_omitted-insert_key cmp i r j (x ∷ xs) o tied =
    insert_step (cmp o x) i r j o x xs (insert_key cmp xs o) (tied x)
    (is_omitted-insert_key cmp i r j xs o tied)
