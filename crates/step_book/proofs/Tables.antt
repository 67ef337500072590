-- Tables as they grow and as a place of one is written.
use Rattle.std.proofs.Common.{
  ◌≡◌,
  ◌≢◌,
  ℕ,
  ◌-◌,
  ◌<◌,
  ◌≤◌,
  List,
  [],
  ◌∷◌,
  ◌++◌,
  length,
  get_or,
  set,
  sym,
}
use Rattle.std.proofs.Common.{subst, ap, ◌∙◌, arith, refl, ◌⊎◌, inl, inr}
use Rattle.std.specs.Prelude.{All, Vec}
use Rattle.std.proofs.lemmas.Bool.{cases_lt, cases_eq}
use Rattle.std.proofs.lemmas.List.{get_or-set_same, get_or-set_other}
use Rattle.std.proofs.lemmas.List.{get_or_append_left, get_or-append_right}
use Rattle.std.proofs.lemmas.List.{get_or_default, get_or_push, get_or_past, length_push}
use Rattle.std.proofs.lemmas.List.{length-set, map-set, get_or-map, length-map}
use Rattle.step_book.specs.Tables.{
  HasPlace,
  Puts,
  PutsAt,
  SameTable,
  SameTables,
  read_at,
  tables_of,
}

push_at : {A : Type 0} (d : A) (xs : List A) (k : ℕ) → (k < length xs) ⊎ (length xs ≤ k)
    → (k ≡ length xs) ⊎ (k ≡ length xs → ⊥) → get_or (xs ++ d ∷ []) k d ≡ get_or xs k d
push_at d xs k (inl low) c = get_or_append_left xs (d ∷ []) d k low
push_at d xs k (inr high) (inl same) = get_or_push xs d d k (sym same)
    ∙ sym (get_or_past xs k d high)
push_at d xs k (inr high) (inr apart) =
    get_or_past (xs ++ d ∷ []) k d (let n = length_push xs d in omega arith)
    ∙ sym (get_or_past xs k d high)

-- one empty table more changes nothing
pub same_more : {A : Type 0} (d : A) (xs ys zs : List (List A)) → zs ≡ ys ++ [] ∷ []
    → SameTables d xs ys → SameTables d xs zs
same_more d xs ys zs e h = λ c k. ap (λ z. read_at d z c k) e
    ∙ ap (λ t. get_or t k d) (push_at [] ys c (cases_lt _ _) (cases_eq _ _)) ∙ h c k

-- nor one table that reads the same
same_grown_at : {A : Type 0} (d : A) (ts : List (List A)) (t : List A) (c k b : ℕ) → c < length ts
    → SameTable d (get_or ts c []) t → (b ≡ c) ⊎ (b ≡ c → ⊥)
    → read_at d (set ts c t) b k ≡ read_at d ts b k
same_grown_at d ts t c k b l h (inl same) =
    ap (λ x. read_at d (set ts c t) x k) same ∙ ap (λ x. get_or x k d) (get_or-set_same ts c t [] l)
    ∙ h k ∙ ap (λ x. read_at d ts x k) (sym same)
same_grown_at d ts t c k b l h (inr apart) = let ne : b ≢ c = apart in
    ap (λ x. get_or x k d) (get_or-set_other ts c b t [] ne)

pub same_grown : {A : Type 0} (d : A) (ts : List (List A)) (t : List A) (c : ℕ) → c < length ts
    → SameTable d (get_or ts c []) t → SameTables d ts (set ts c t)
same_grown d ts t c l h = λ b k. same_grown_at d ts t c k b l h (cases_eq b c)

pub same_then : {A : Type 0} (d : A) (xs ys zs : List (List A)) → SameTables d xs ys
    → SameTables d ys zs → SameTables d xs zs
same_then d xs ys zs h g = λ c k. g c k ∙ h c k

-- a place of a grown table is there
pub place_grown : {A : Type 0} (ts : List (List A)) (t : List A) (c p : ℕ) → c < length ts
    → p < length t → HasPlace (set ts c t) c p
place_grown ts t c p l m = (
  let n = length-set ts c t in omega arith,
  let n = ap length (get_or-set_same ts c t [] l) in
      omega arith,
)

puts_off : {A : Type 0} (d : A) (ts : List (List A)) (c p b k : ℕ) (x : A) → c < length ts
    → ((b ≡ c) × (k ≡ p) → ⊥) → (b ≡ c) ⊎ (b ≡ c → ⊥) → (k ≡ p) ⊎ (k ≡ p → ⊥)
    → read_at d (set ts c (set (get_or ts c []) p x)) b k ≡ read_at d ts b k
puts_off d ts c p b k x l apart (inl a) (inl e) = absurd (apart (a, e))
puts_off d ts c p b k x l apart (inl a) (inr e) =
    let ne : k ≢ p = e in
    ap (λ z. read_at d (set ts c (set (get_or ts c []) p x)) z k) a
    ∙ ap (λ z. get_or z k d) (get_or-set_same ts c (set (get_or ts c []) p x) [] l)
    ∙ get_or-set_other (get_or ts c []) p k x d ne ∙ ap (λ z. read_at d ts z k) (sym a)
puts_off d ts c p b k x l apart (inr a) e = let ne : b ≢ c = a in
    ap (λ z. get_or z k d) (get_or-set_other ts c b (set (get_or ts c []) p x) [] ne)

-- a place that is there is written
pub puts_set : {A : Type 0} (d : A) (ts : List (List A)) (c p : ℕ) (x : A) → HasPlace ts c p
    → Puts d ts (set ts c (set (get_or ts c []) p x)) c p x
puts_set d ts c p x h = record {
  there = ap (λ t. get_or t p d) (get_or-set_same ts c (set (get_or ts c []) p x) [] h.0)
      ∙ get_or-set_same (get_or ts c []) p x d h.1;
  others = λ b k apart. puts_off d ts c p b k x h.0 apart (cases_eq b c) (cases_eq k p);
}

-- a write after what reads the same
pub puts_after : {A : Type 0} (d : A) (xs ys zs : List (List A)) (c p : ℕ) (x : A)
    → SameTables d xs ys → Puts d ys zs c p x → Puts d xs zs c p x
puts_after d xs ys zs c p x h g = record {
  there = g.there;
  others = λ b k apart. g.others b k apart ∙ h b k;
}

-- what stands at a place is as good as written
pub puts_same : {A : Type 0} (d : A) (ts : List (List A)) (c p : ℕ) (x : A) → read_at d ts c p ≡ x
    → Puts d ts ts c p x
puts_same d ts c p x e = record {
  there = e;
  others = λ b k apart. refl;
}

-- what doesn't read as the default has a place
has_place_by : {A : Type 0} (d : A) (ts : List (List A)) (c p : ℕ) → (read_at d ts c p ≡ d → ⊥)
    → (c < length ts) ⊎ (length ts ≤ c) → (p < length (get_or ts c []))
    ⊎ (length (get_or ts c []) ≤ p) → HasPlace ts c p
has_place_by d ts c p h (inl l) (inl m) = (l, m)
has_place_by d ts c p h (inl l) (inr far) = absurd (h (get_or_past (get_or ts c []) p d far))
has_place_by d ts c p h (inr far) b = absurd (h (ap (λ t. get_or t p d) (get_or_past ts c [] far)))

pub has_place : {A : Type 0} (d : A) (ts : List (List A)) (c p : ℕ) → (read_at d ts c p ≡ d → ⊥)
    → HasPlace ts c p
has_place d ts c p h = has_place_by d ts c p h (cases_lt _ _) (cases_lt _ _)

-- a place of one table is written
pub puts_at_set : {A : Type 0} (d : A) (xs : List A) (p : ℕ) (x : A) → p < length xs
    → PutsAt d xs (set xs p x) p x
puts_at_set d xs p x l = record {
  there = get_or-set_same xs p x d l;
  others = λ k apart. (let ne : k ≢ p = apart in get_or-set_other xs p k x d ne);
}

-- and then the table goes, if no place has anything
none_at : {A : Type 0} (d : A) (xs : List A) (k : ℕ) → All (λ x. x ≡ d) xs
    → (k < length xs) ⊎ (length xs ≤ k) → get_or xs k d ≡ d
none_at d xs k all (inl low) = all k d low
none_at d xs k all (inr high) = get_or_past xs k d high

pub same_gone : {A : Type 0} (d : A) (xs : List A) → All (λ x. x ≡ d) xs → SameTable d xs []
same_gone d xs all = λ k. get_or_past [] k d (omega arith) ∙ sym (none_at d xs k all (cases_lt _ _))

longer_at : {A : Type 0} (d : A) (xs ys : List A) (k : ℕ) → All (λ y. y ≡ d) ys
    → (k < length xs) ⊎ (length xs ≤ k) → get_or (xs ++ ys) k d ≡ get_or xs k d
longer_at d xs ys k all (inl low) = get_or_append_left xs ys d k low
longer_at d xs ys k all (inr high) =
    get_or-append_right xs ys (length xs) k d refl high
    ∙ none_at d ys (k - length xs) all (cases_lt _ _) ∙ sym (get_or_past xs k d high)

-- places more that read as the default change nothing
pub same_longer : {A : Type 0} (d : A) (xs ys zs more : List A) → zs ≡ ys ++ more
    → All (λ x. x ≡ d) more → SameTable d xs ys → SameTable d xs zs
same_longer d xs ys zs more e all h = λ k. ap (λ z. get_or z k d) e
    ∙ longer_at d ys more k all (cases_lt _ _) ∙ h k

pub puts_at_then : {A : Type 0} (d : A) (xs ys zs : List A) (p : ℕ) (x : A) → PutsAt d xs ys p x
    → SameTable d ys zs → PutsAt d xs zs p x
puts_at_then d xs ys zs p x h same = record {
  there = same p ∙ h.there;
  others = λ k apart. same k ∙ h.others k apart;
}

-- one table among others is written
puts_among : {A : Type 0} (d : A) (ts : List (List A)) (v w : List A) (c p b k : ℕ) (x : A)
    → c < length ts → get_or ts c [] ≡ v → PutsAt d v w p x → ((b ≡ c) × (k ≡ p) → ⊥)
    → (b ≡ c) ⊎ (b ≡ c → ⊥) → read_at d (set ts c w) b k ≡ read_at d ts b k
puts_among d ts v w c p b k x l e h apart (inl same) =
    ap (λ z. read_at d (set ts c w) z k) same ∙ ap (λ z. get_or z k d) (get_or-set_same ts c w [] l)
    ∙ h.others k (λ q. apart (same, q))
    ∙ ap (λ z. get_or z k d) (sym e) ∙ ap (λ z. read_at d ts z k) (sym same)
puts_among d ts v w c p b k x l e h apart (inr other) = let ne : b ≢ c = other in
    ap (λ z. get_or z k d) (get_or-set_other ts c b w [] ne)

-- a table among others, as it was read
pub table_is : {A : Type 0} (ts : List (List A)) (v : List A) (c : ℕ) → c < length ts
    → v ≡ get_or ts c v → get_or ts c [] ≡ v
table_is ts v c l e = get_or_default ts c [] v l ∙ sym e

pub puts_table : {A : Type 0} (d : A) (ts : List (List A)) (v w : List A) (c p : ℕ) (x : A)
    → c < length ts → v ≡ get_or ts c v → PutsAt d v w p x → Puts d ts (set ts c w) c p x
puts_table d ts v w c p x l e h = record {
  there = ap (λ z. get_or z p d) (get_or-set_same ts c w [] l) ∙ h.there;
  others = λ b k apart. puts_among d ts v w c p b k x l (table_is ts v c l e) h apart
      (cases_eq b c);
}

-- or reads the same
pub same_table : {A : Type 0} (d : A) (ts : List (List A)) (v w : List A) (c : ℕ) → c < length ts
    → v ≡ get_or ts c v → SameTable d v w → SameTables d ts (set ts c w)
same_table {A} d ts v w c l e h = same_grown d ts w c l
    (subst (λ (z : List A). SameTable d z w) (sym (table_is ts v c l e)) h)

-- a vector of vectors as tables
pub tables_set : {A B : Type 0} (xs : List (Vec A B)) (c : ℕ) (v : Vec A B)
    → tables_of (set xs c v) ≡ set (tables_of xs) c v.items
tables_set {A} {B} xs c v = map-set (λ (z : Vec A B). z.items) xs c v

pub tables_len : {A B : Type 0} (xs : List (Vec A B)) → length (tables_of xs) ≡ length xs
tables_len {A} {B} xs = length-map xs (λ (z : Vec A B). z.items)

pub table_read : {A B : Type 0} (xs : List (Vec A B)) (c : ℕ) (v : Vec A B) → c < length xs
    → v ≡ get_or xs c v → get_or (tables_of xs) c [] ≡ v.items
table_read {A} {B} xs c v l e = get_or-map (λ (z : Vec A B). z.items) xs c v [] l
    ∙ ap (λ (z : Vec A B). z.items) (sym e)

-- what stands at a place of a vector's table
pub vec_read : {A B : Type 0} (d : A) (xs : List (Vec A B)) (v : Vec A B) (c p : ℕ) (x : A)
    → HasPlace (tables_of xs) c p
    → v ≡ get_or xs c v → x ≡ get_or v.items p x → read_at d (tables_of xs) c p ≡ x
vec_read {A} {B} d xs v c p x h e f =
    let size = tables_len xs in
    let low = h.0 in
    let read = table_read xs c v (omega arith) e in
    let within = subst (λ (t : List A). p < length t) read h.1 in
    ap (λ t. get_or t p d) read ∙ get_or_default v.items p d x within ∙ sym f

-- a place of a vector's table is written
pub puts_vec : {A B : Type 0} (d : A) (xs : List (Vec A B)) (v w : Vec A B) (c p : ℕ) (x : A)
    → HasPlace (tables_of xs) c p → v ≡ get_or xs c v → w.items ≡ set v.items p x
    → Puts d (tables_of xs) (tables_of (set xs c w)) c p x
puts_vec {A} {B} d xs v w c p x h e f =
    let size = tables_len xs in
    let low = h.0 in
    let read = table_read xs c v (omega arith) e in
    let new : tables_of (set xs c w) ≡ set (tables_of xs) c (set (get_or (tables_of xs) c []) p x) =
    tables_set xs c w ∙ ap (set (tables_of xs) c) (f ∙ ap (λ y. set y p x) (sym read)) in
    subst (λ (z : List (List A)). Puts d (tables_of xs) z c p x) (sym new)
    (puts_set d (tables_of xs) c p x h)

-- a vector's table that reads the same
pub same_vec : {A B : Type 0} (d : A) (xs : List (Vec A B)) (v w : Vec A B) (c : ℕ) → c < length xs
    → v ≡ get_or xs c v → SameTable d v.items w.items
    → SameTables d (tables_of xs) (tables_of (set xs c w))
same_vec {A} {B} d xs v w c l e h =
    let size = tables_len xs in
    let read = table_read xs c v l e in
    let same : SameTable d (get_or (tables_of xs) c []) w.items =
    subst (λ (z : List A). SameTable d z w.items) (sym read) h in
    subst (λ (z : List (List A)). SameTables d (tables_of xs) z) (sym (tables_set xs c w))
    (same_grown d (tables_of xs) w.items c (omega arith) same)

-- a place of it is there
pub room_vec : {A B : Type 0} (xs : List (Vec A B)) (w : Vec A B) (c p : ℕ) → c < length xs
    → p < length w.items → HasPlace (tables_of (set xs c w)) c p
room_vec {A} {B} xs w c p l m =
    let size = tables_len xs in
    subst (λ (z : List (List A)). HasPlace z c p) (sym (tables_set xs c w))
    (place_grown (tables_of xs) w.items c p (omega arith) m)
