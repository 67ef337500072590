-- Flights as maps.
use Rattle.std.proofs.Common.{◌≡◌, ℕ, ◌+◌, ◌<◌, ◌≤◌, Bool, false, List, [], ◌∷◌, length}
use Rattle.std.proofs.Common.{Option, Some, None, is_some, sym, ap, refl, ◌∙◌, arith, ◌⊎◌}
use Rattle.std.proofs.Common.{inl, inr}
use Rattle.std.specs.Prelude.{IsSome}
use Rattle.std.proofs.lemmas.Bool.{cases_eq}
use Rattle.std.proofs.lemmas.Cmp.{ranked}
use Rattle.std.specs.BTreeMap as tree
use Rattle.std.specs.Map.{lookup}
use Rattle.std.specs.declared.cmp.Ordering.{Ordering}
use Rattle.std.specs.Ordering.{MatchOrdering, is_eq, is_gt, nat_cmp, ordering_then}
use Rattle.std.specs.declared.cmp.Ordering.TheVariants.{Less, Equal, Greater}
use Rattle.run_events.specs.declared.name.Name.{Name}
use Rattle.lockstep_runs.specs.Lockstep.{IsBefore, Tick, Turn}
use Rattle.lockstep_runs.specs.Pacing.{Flight, IsOther, IsPopped, NoneBefore, due_key, waits_at}

-- the order of a flight's keys
abbrev pub pair_cmp : ℕ × ℕ → ℕ × ℕ → Ordering
pair_cmp x y = ordering_then (nat_cmp x.0 y.0) (nat_cmp x.1 y.1)

apart_by : (a b c d : ℕ) (o q : Ordering) → MatchOrdering o (a < c) (a ≡ c) (c < a)
    → MatchOrdering q (b < d) (b ≡ d) (d < b) → IsOther a b c d → is_eq (ordering_then o q) ≡ false
apart_by a b c d Less q m n h = refl
apart_by a b c d Greater q m n h = refl
apart_by a b c d Equal Less m n h = refl
apart_by a b c d Equal Greater m n h = refl
apart_by a b c d Equal Equal m n h = absurd (h (sym m, sym n))

pair_apart : (x y : ℕ × ℕ) → IsOther x.0 x.1 y.0 y.1 → is_eq (pair_cmp x y) ≡ false
pair_apart x y h = apart_by x.0 x.1 y.0 y.1 (nat_cmp x.0 y.0) (nat_cmp x.1 y.1)
    (ranked x.0 y.0 _ refl) (ranked x.1 y.1 _ refl) h

before_by : (a b c d : ℕ) (o q : Ordering) → MatchOrdering o (a < c) (a ≡ c) (c < a)
    → MatchOrdering q (b < d) (b ≡ d) (d < b) → is_gt (ordering_then o q) ≡ false → IsOther a b c d
    → IsBefore (due_key a b) (due_key c d)
before_by a b c d Less q m n g h = Tick m
before_by a b c d Greater q m n g h = absurd cc
before_by a b c d Equal Less m n g h = Turn m refl n
before_by a b c d Equal Greater m n g h = absurd cc
before_by a b c d Equal Equal m n g h = absurd (h (sym m, sym n))

pair_before : (x y : ℕ × ℕ) → is_gt (pair_cmp x y) ≡ false → IsOther x.0 x.1 y.0 y.1
    → IsBefore (due_key x.0 x.1) (due_key y.0 y.1)
pair_before x y g h = before_by x.0 x.1 y.0 y.1 (nat_cmp x.0 y.0) (nat_cmp x.1 y.1)
    (ranked x.0 y.0 _ refl) (ranked x.1 y.1 _ refl) g h

tick_by : (a c : ℕ) (o q : Ordering) → MatchOrdering o (a < c) (a ≡ c) (c < a)
    → is_gt (ordering_then o q) ≡ false → a ≤ c
tick_by a c Less q m g = omega arith
tick_by a c Greater q m g = absurd cc
tick_by a c Equal q m g = omega arith

pub pair_tick : (x y : ℕ × ℕ) → is_gt (pair_cmp x y) ≡ false → x.0 ≤ y.0
pair_tick x y g = tick_by x.0 y.0 (nat_cmp x.0 y.0) (nat_cmp x.1 y.1) (ranked x.0 y.0 _ refl) g

pub some_is : {A : Type 0} (o : Option A) (x : A) → o ≡ Some x → IsSome o
some_is o x e = ap is_some e

-- what an insertion does
pub inserted : (f g : Flight) (key : ℕ × ℕ) (n : Name) → tree.Updates pair_cmp f g key (Some n)
    → (waits_at g key.0 key.1 ≡ Some n)
    × ((d k : ℕ) → IsOther key.0 key.1 d k → waits_at g d k ≡ waits_at f d k)
inserted f g key n u = (u.1, λ d k o. u.2 (d, k) (pair_apart key (d, k) o))

other_by : (f g : Flight) (key : ℕ × ℕ) (d k : ℕ) (m : Name) → tree.Updates pair_cmp f g key None
    → waits_at g d k ≡ Some m → (d ≡ key.0) ⊎ (d ≡ key.0 → ⊥) → (k ≡ key.1) ⊎ (k ≡ key.1 → ⊥)
    → IsOther key.0 key.1 d k
other_by f g key d k m u is (inl a) (inl b) =
    let both : Some m ≡ None =
    sym is ∙ ap (λ x. waits_at g x k) a ∙ ap (waits_at g key.0) b ∙ u.1 in absurd cc
other_by f g key d k m u is (inr a) b = λ x. a x.0
other_by f g key d k m u is (inl a) (inr b) = λ x. b x.1

-- what taking the first entry does
pub popped : (f g : Flight) (key : ℕ × ℕ) (n : Name) (now : ℕ) → key.0 ≤ now
    → tree.get pair_cmp f key ≡ Some n → tree.Updates pair_cmp f g key None
    → tree.IsLowerBound pair_cmp f key → tree.btree_map_len g < tree.btree_map_len f
    → IsPopped f g now n
popped f g key n now l there u least fewer = record {
  due = key.0;
  turn = key.1;
  by_then = l;
  there = there;
  gone = u.1;
  others = others;
  least = λ d k m is. (
      let other = other_by f g key d k m u is (cases_eq _ _) (cases_eq _ _) in
      pair_before key (d, k) (least (d, k) (some_is _ m (sym (others d k other) ∙ is))) other);
  fewer = fewer;
}
  where
    others : (d k : ℕ) → IsOther key.0 key.1 d k → waits_at g d k ≡ waits_at f d k
    others d k o = u.2 (d, k) (pair_apart key (d, k) o)

-- nothing waits below the first key's tick
pub none_below : (f : Flight) (key : ℕ × ℕ) (now : ℕ) → now < key.0
    → tree.IsLowerBound pair_cmp f key → NoneBefore f (now + 1)
none_below f key now l least =
    λ d k n is. (let up = pair_tick key (d, k) (least (d, k) (some_is _ n is)) in omega arith)

none_in : (test : ℕ × ℕ → Bool) (es : List ((ℕ × ℕ) × Name)) (n : Name) → length es ≡ 0
    → lookup test es ≡ Some n → ⊥
none_in test [] n e h = cc
none_in test (x ∷ es) n e h = absurd (omega arith)

-- nor in an empty flight
pub none_empty : (f : Flight) (now : ℕ) → tree.btree_map_len f ≡ 0 → NoneBefore f now
none_empty f now e = λ d k n is. absurd (none_in _ f.entries n e is)
