-- Each event keeps the agreement.
use Rattle.std.proofs.Common.{◌≡◌, ◌≢◌, ℕ, suc, ◌+◌, ◌-◌, ◌*◌, ◌/◌, ◌%◌, ◌<◌, ◌≤◌, false, List, []}
use Rattle.std.proofs.Common.{◌∷◌, ◌++◌, length, get_or, set, replicate, sym, refl, ap, ◌∙◌, arith}
use Rattle.std.proofs.Common.{◌⊎◌, inl, inr, map}
use Rattle.std.specs.List.{range_with_len}
use Rattle.std.proofs.lemmas.Bool.{and_left, and_right, cases_lt, cases_eq, eq-eqb, ne_eqb}
use Rattle.std.proofs.lemmas.List.{get_or-set_same, get_or-set_other, length-set}
use Rattle.std.proofs.lemmas.List.{get_or_append_left, get_or_push, length_push, length-replicate}
use Rattle.std.proofs.lemmas.List.{get_or-replicate}
use Rattle.std.proofs.lemmas.List.FromFn.{get_or-map-range_with_len, length-map-range_with_len}
use Rattle.std.proofs.lemmas.Nat.{div-mul-add, mod-mul-add}
use Rattle.run_events.specs.declared.name.Name.{Name}
use Rattle.run_events.specs.declared.event.Event.{Event}
use Rattle.run_events.specs.declared.event.Event.TheVariants.{Step, Release, Drop, Copy}
use Rattle.step_book.specs.declared.mark.Mark.{Mark}
use Rattle.step_book.specs.declared.mark.Mark.TheVariants.{Unsent}
use Rattle.round_lang.specs.declared.value.Value.{Value}
use Rattle.round_meaning.specs.Rounds.{rounds}
use Rattle.step_book.specs.Agreement.{Row, row, place_of, Agrees}
use Rattle.step_book.specs.Fates.{is_slot}
use Rattle.step_book.specs.History.{spoken, message, state, mark_of}
use Rattle.step_book.specs.Names.{IsNameOf}
use Rattle.step_book.specs.Tables.{Puts, read_at}
use Rattle.step_book.specs.Trace.{is_step, steps}
use Rattle.step_book.specs.World.{World, nodes_of, IsPlan}
use Rattle.step_book.proofs.Kept.{state_kept, mark_kept, mark_before, mark_now}
use Rattle.step_book.proofs.Names.{name_cases, name_same, other_name}
use Rattle.step_book.proofs.Places.{steps_at, steps_other, steps_grow}
use Rattle.step_book.proofs.Plans.{start_le}

-- ---- places in the tables

-- a number has one quotient and one rest
pub row_same : (n a b c d : ℕ) → b < n → d < n → a * n + b ≡ c * n + d → (a ≡ c) × (b ≡ d)
row_same n a b c d l k e = (
  sym (div-mul-add a n b l) ∙ ap (λ z. z / n) e ∙ div-mul-add c n d k,
  sym (mod-mul-add a n b l) ∙ ap (λ z. z % n) e ∙ mod-mul-add c n d k,
)

-- a message has a place of its own among those of its copy number
pub place_same : (w : World) (n m : Name) → IsNameOf (nodes_of w) w.rounds n
    → IsNameOf (nodes_of w) w.rounds m → n.copy ≡ m.copy → place_of w n ≡ place_of w m → n ≡ m
place_same w n m a b c e =
    let outer = row_same (nodes_of w) ((n.round - 1) * nodes_of w + n.from) n.to
    ((m.round - 1) * nodes_of w + m.from) m.to a.to b.to e in
    let inner = row_same (nodes_of w) (n.round - 1) n.from
    (m.round - 1) m.from a.from b.from outer.0 in
    let first = a.first in
    let other = b.first in
    name_same n m inner.1 outer.1 (let q = inner.0 in omega arith) c

-- ---- a step

-- a step is of this node or of another
pub data StepOf (k i : ℕ) (t : List Event) : Type 0 where
  Own : i ≡ k → steps i (Step k ∷ t) ≡ steps i t + 1 → StepOf k i t
  Other : i ≢ k → steps i (Step k ∷ t) ≡ steps i t → StepOf k i t

step_of_by : (k i : ℕ) (t : List Event) → (i ≡ k) ⊎ (i ≡ k → ⊥) → StepOf k i t
step_of_by k i t (inl same) = Own same (steps_at i (Step k) t (eq-eqb k i (sym same)))
step_of_by k i t (inr apart) =
    Other apart (steps_other i (Step k) t (ne_eqb k i (λ h. apart (sym h))))

pub step_of : (k i : ℕ) (t : List Event) → StepOf k i t
step_of k i t = step_of_by k i t (cases_eq i k)

count_at : (t : List Event) (counts : List ℕ) (k y i : ℕ) → k < length counts → y ≡ steps k t + 1
    → get_or counts i 0 ≡ steps i t → StepOf k i t
    → get_or (set counts k y) i 0 ≡ steps i (Step k ∷ t)
count_at t counts k y i l e h (Own same n) =
    let read = get_or-set_same counts k y 0 l in
    let now = ap (λ z. get_or (set counts k y) z 0) same in
    let before = ap (λ z. steps z t) same in
    omega arith
count_at t counts k y i l e h (Other apart n) = rw get_or-set_other (h ∙ sym n)

near_at : (w : World) (t : List Event) (rows : List Row) (k i : ℕ)
    → (length (row rows k) ≤ w.rounds → steps k t < w.start (length (row rows k) + 1))
    → length (row rows i) ≤ w.rounds → steps i t ≤ w.start (length (row rows i) + 1) → StepOf k i t
    → steps i (Step k ∷ t) ≤ w.start (length (row rows i) + 1)
near_at w t rows k i d l h (Other apart n) = omega arith
near_at w t rows k i d l h (Own same n) =
    let size = ap (λ z. length (row rows z)) same in
    let bound = ap (λ z. w.start (length (row rows z) + 1)) same in
    let before = ap (λ z. steps z t) same in
    let k2 : steps k t < w.start (length (row rows k) + 1) = d (omega arith) in
    omega arith

-- a closed round's state stays
pub stated_at : (w : World) → IsPlan w → (e : Event) (t : List Event) (n r i : ℕ) (v : List Value)
    → r < n → n ≤ w.rounds + 1 → w.start n ≤ steps i t → v ≡ state w t r i → v ≡ state w (e ∷ t) r i
stated_at w p e t n r i v l b h s =
    let up = start_le w p (r + 1) n (omega arith) (omega arith) in
    s ∙ sym (state_kept w p e t r i (omega arith) (omega arith))

-- the tables after this step are the history's
abbrev pub Tabled : World → List Event → List (List Mark) → Type 0
Tabled w t tables = (n : Name) → IsNameOf (nodes_of w) w.rounds n
    → read_at Unsent tables n.copy (place_of w n) ≡ mark_of w t n

pub keeps_step : (w : World) → IsPlan w
    → (t : List Event) (counts : List ℕ) (rows : List Row) (tables : List (List Mark)) (k y : ℕ)
    (next : List (List Mark)) → k < nodes_of w → y ≡ steps k t + 1
    → (length (row rows k) ≤ w.rounds → steps k t < w.start (length (row rows k) + 1))
    → Tabled w (Step k ∷ t) next → Agrees w t counts rows tables
    → Agrees w (Step k ∷ t) (set counts k y) rows next
keeps_step w p t counts rows tables k y next l e d h a = record {
  counted = length-set counts k y ∙ a.counted;
  count = λ i b. count_at t counts k y i (let c = a.counted in
      omega arith) e (a.count i b) (step_of k i t);
  rowed = a.rowed;
  began = a.began;
  bounded = a.bounded;
  past = λ i b. (let up = steps_grow i (Step k) t in omega (arith, a.past i b));
  near = λ i b c. near_at w t rows k i d c (a.near i b c) (step_of k i t);
  stated = λ i r b c. stated_at w p (Step k) t (length (row rows i)) r i _ c (a.bounded i b)
      (a.past i b) (a.stated i r b c);
  mark = h;
}

-- ---- what a step does to the table

-- step number x of round r: no slot of another round is there
round_same_by : (w : World) → IsPlan w → (r q i x : ℕ) → 0 < r → i < nodes_of w → w.start r ≤ x
    → x < w.start (r + 1) → x ≡ w.start (suc q) + i → (r < suc q) ⊎ (suc q ≤ r)
    → (suc q < r) ⊎ (r ≤ suc q) → r ≡ suc q
round_same_by w p r q i x z b l h e (inl low) d = let up =
    start_le w p (r + 1) (suc q) (omega arith) (omega arith) in absurd (omega arith)
round_same_by w p r q i x z b l h e (inr low) (inl high) =
    let up = start_le w p (suc q + 1) r (omega arith) (omega arith) in
    let long = p.next (suc q) (omega arith) in
    absurd (omega arith)
round_same_by w p r q i x z b l h e (inr low) (inr high) = omega arith

pub round_same : (w : World) → IsPlan w → (r q i x : ℕ) → 0 < r → i < nodes_of w → w.start r ≤ x
    → x < w.start (r + 1) → x ≡ w.start (suc q) + i → r ≡ suc q
round_same w p r q i x z b l h e = round_same_by w p r q i x z b l h e (cases_lt _ _) (cases_lt _ _)

-- a step that isn't the message's slot
no_send : (w : World) (t : List Event) (k : ℕ) (n : Name)
    → (n.from ≡ k → steps n.from t ≡ w.start n.round + n.to → ⊥) → StepOf k n.from t
    → is_slot w n (Step k) t ≡ false
no_send w t k n h (Own same x) = and_right _ _ (ne_eqb _ _ (h same))
no_send w t k n h (Other apart x) = and_left _ _ (ne_eqb k n.from (λ e. apart (sym e)))

pub mark_passed : (w : World) → IsPlan w → (t : List Event) (k : ℕ) (n : Name) → 0 < n.round
    → n.round ≤ w.rounds → (n.copy ≡ 0 → n.from ≡ k → steps n.from t ≡ w.start n.round + n.to → ⊥)
    → mark_of w (Step k ∷ t) n ≡ mark_of w t n
mark_passed w p t k n z l h = mark_kept w p (Step k) t n z l
    (λ c. no_send w t k n (h c) (step_of k n.from t)) refl refl refl

-- a receive is no slot
pub receive_no_slot : (w : World) → IsPlan w → (r q i x : ℕ) → 0 < r → i < nodes_of w
    → w.start r + nodes_of w ≤ x → x < w.start (r + 1) → x ≡ w.start (suc q) + i → ⊥
receive_no_slot w p r q i x z b l h e =
    let same = round_same w p r q i x z b (omega arith) h e in
    let at = ap w.start same in
    omega arith

-- a step after the last round is no slot
pub idle_no_slot : (w : World) → IsPlan w → (q i x : ℕ) → suc q ≤ w.rounds → i < nodes_of w
    → w.start (w.rounds + 1) ≤ x → x ≡ w.start (suc q) + i → ⊥
idle_no_slot w p q i x l b h e =
    let up = start_le w p (suc q + 1) (w.rounds + 1) (omega arith) (omega arith) in
    let long = p.next (suc q) (omega arith) in
    omega arith

pub keeps_receive : (w : World) → IsPlan w
    → (t : List Event) (counts : List ℕ) (rows : List Row) (tables : List (List Mark)) (k y : ℕ)
    → k < nodes_of w → y ≡ steps k t + 1 → length (row rows k) ≤ w.rounds
    → w.start (length (row rows k)) + nodes_of w ≤ steps k t
    → steps k t < w.start (length (row rows k) + 1) → Agrees w t counts rows tables
    → Agrees w (Step k ∷ t) (set counts k y) rows tables
keeps_receive w p t counts rows tables k y l e b low high a =
    keeps_step w p t counts rows tables k y tables l e (λ h. high)
    (λ n x. a.mark n x ∙ sym (mark_passed w p t k n x.first x.last
    (λ c same at.
    let first = x.first in
    let q : n.round ≡ suc (n.round - 1) = omega arith in
    receive_no_slot w p (length (row rows k)) (n.round - 1) n.to (steps k t)
    (a.began k l) x.to low high (sym (ap (λ m. steps m t) same) ∙ at
    ∙ ap (λ r. w.start r + n.to) q)))) a

pub keeps_idle : (w : World) → IsPlan w
    → (t : List Event) (counts : List ℕ) (rows : List Row) (tables : List (List Mark)) (k y : ℕ)
    → k < nodes_of w → y ≡ steps k t + 1 → length (row rows k) ≡ w.rounds + 1
    → Agrees w t counts rows tables → Agrees w (Step k ∷ t) (set counts k y) rows tables
keeps_idle w p t counts rows tables k y l e b a =
    let at : w.start (length (row rows k)) ≡ w.start (w.rounds + 1) = ap w.start b in
    let h : w.start (length (row rows k)) ≤ steps k t = a.past k l in
    let late : w.start (w.rounds + 1) ≤ steps k t = omega (arith, at, h) in
    keeps_step w p t counts rows tables k y tables l e (λ h. absurd (omega arith))
    (λ n x. a.mark n x ∙ sym (mark_passed w p t k n x.first x.last
    (λ c same at.
    let first = x.first in
    let last = x.last in
    let q : n.round ≡ suc (n.round - 1) = omega arith in
    idle_no_slot w p (n.round - 1) n.to (steps k t) (omega arith) x.to late
    (sym (ap (λ m. steps m t) same) ∙ at ∙ ap (λ r. w.start r + n.to) q)))) a

-- ---- one place of a table is written

put_here : (w : World) (tables next : List (List Mark)) (n m : Name) (v : Mark)
    → Puts Unsent tables next n.copy (place_of w n) v → m ≡ n
    → read_at Unsent next m.copy (place_of w m) ≡ v
put_here w tables next n m v p e = ap (λ (x : Name). read_at Unsent next x.copy (place_of w x)) e
    ∙ p.there

put_off : (w : World) (tables next : List (List Mark)) (n m : Name) (v : Mark)
    → Puts Unsent tables next n.copy (place_of w n) v → IsNameOf (nodes_of w) w.rounds n
    → IsNameOf (nodes_of w) w.rounds m → (m ≡ n → ⊥)
    → read_at Unsent next m.copy (place_of w m) ≡ read_at Unsent tables m.copy (place_of w m)
put_off w tables next n m v p a b apart =
    p.others m.copy (place_of w m) (λ e. apart (place_same w m n b a e.0 e.1))

-- ---- a send

-- two slots that are one step are of one message
pub slots_same : (w : World) → IsPlan w → (n m : Name) (x : ℕ) → IsNameOf (nodes_of w) w.rounds n
    → IsNameOf (nodes_of w) w.rounds m → x ≡ w.start n.round + n.to → x ≡ w.start m.round + m.to
    → (n.round ≡ m.round) × (n.to ≡ m.to)
slots_same w p n m x a b e f =
    let first = a.first in
    let other = b.first in
    let to = a.to in
    let long = p.next n.round a.first in
    let q : m.round ≡ suc (m.round - 1) = omega arith in
    let same : n.round ≡ suc (m.round - 1) =
    round_same w p n.round (m.round - 1) m.to x a.first b.to (omega arith) (omega arith) (f
    ∙ ap (λ r. w.start r + m.to) q) in
    let round : n.round ≡ m.round = same ∙ sym q in
    let at = ap w.start round in
    (round, omega arith)

send_mark : (w : World) → IsPlan w
    → (t : List Event) (tables next : List (List Mark)) (n : Name) (v : Mark)
    → IsNameOf (nodes_of w) w.rounds n → n.copy ≡ 0
    → Puts Unsent tables next n.copy (place_of w n) v → steps n.from t ≡ w.start n.round + n.to
    → v ≡ spoken (message w t n) → (m : Name) → IsNameOf (nodes_of w) w.rounds m
    → read_at Unsent tables m.copy (place_of w m) ≡ mark_of w t m → (m ≡ n) ⊎ (m ≡ n → ⊥)
    → read_at Unsent next m.copy (place_of w m) ≡ mark_of w (Step n.from ∷ t) m
send_mark w p t tables next n v a c puts at e m b h (inl same) =
    put_here w tables next n m v puts same ∙ e
    ∙ sym (mark_now w p (Step n.from) t n a.first a.last c (eq-eqb n.from n.from refl) at)
    ∙ ap (mark_of w (Step n.from ∷ t)) (sym same)
send_mark w p t tables next n v a c puts at e m b h (inr apart) =
    put_off w tables next n m v puts a b apart ∙ h
    ∙ sym (mark_passed w p t n.from m b.first b.last (λ first same other.
    let one = slots_same w p n m (steps n.from t) a b at (ap (λ x. steps x t) (sym same) ∙ other) in
    apart (name_same m n same (sym one.1) (sym one.0) (first ∙ sym c))))

pub keeps_send : (w : World) → IsPlan w
    → (t : List Event) (counts : List ℕ) (rows : List Row) (tables next : List (List Mark))
    (n : Name) (y : ℕ) (v : Mark) → IsNameOf (nodes_of w) w.rounds n → n.copy ≡ 0
    → y ≡ steps n.from t + 1 → length (row rows n.from) ≡ n.round
    → steps n.from t ≡ w.start n.round + n.to → v ≡ spoken (message w t n)
    → Puts Unsent tables next n.copy (place_of w n) v → Agrees w t counts rows tables
    → Agrees w (Step n.from ∷ t) (set counts n.from y) rows next
keeps_send w p t counts rows tables next n y v b c e round h f g a =
    let size : w.start (length (row rows n.from) + 1) ≡ w.start (n.round + 1) =
    ap (λ m. w.start (m + 1)) round in
    let long = p.next n.round b.first in
    let to = b.to in
    keeps_step w p t counts rows tables n.from y next b.from e
    (λ u. omega (arith, size, long, h, to))
    (λ m x. send_mark w p t tables next n v b c g h f m x (a.mark m x) (name_cases m n)) a

-- ---- an event of the network

network_mark : (w : World) (e : Event) (t : List Event) (tables next : List (List Mark)) (n : Name)
    (v : Mark) → IsNameOf (nodes_of w) w.rounds n → Puts Unsent tables next n.copy (place_of w n) v
    → v ≡ mark_of w (e ∷ t) n → ((m : Name) → IsNameOf (nodes_of w) w.rounds m → (m ≡ n → ⊥)
    → mark_of w (e ∷ t) m ≡ mark_of w t m) → (m : Name) → IsNameOf (nodes_of w) w.rounds m
    → read_at Unsent tables m.copy (place_of w m) ≡ mark_of w t m → (m ≡ n) ⊎ (m ≡ n → ⊥)
    → read_at Unsent next m.copy (place_of w m) ≡ mark_of w (e ∷ t) m
network_mark w e t tables next n v a puts is others m b h (inl same) =
    put_here w tables next n m v puts same ∙ is ∙ ap (mark_of w (e ∷ t)) (sym same)
network_mark w e t tables next n v a puts is others m b h (inr apart) =
    put_off w tables next n m v puts a b apart ∙ h ∙ sym (others m b apart)

-- it's about one copy, and is no step
pub keeps_network : (w : World) → IsPlan w
    → (e : Event) (t : List Event) (counts : List ℕ) (rows : List Row)
    (tables next : List (List Mark)) (n : Name) (v : Mark) → IsNameOf (nodes_of w) w.rounds n
    → ((i : ℕ) → is_step i e ≡ false) → v ≡ mark_of w (e ∷ t) n
    → ((m : Name) → IsNameOf (nodes_of w) w.rounds m → (m ≡ n → ⊥)
    → mark_of w (e ∷ t) m ≡ mark_of w t m) → Puts Unsent tables next n.copy (place_of w n) v
    → Agrees w t counts rows tables → Agrees w (e ∷ t) counts rows next
keeps_network w p e t counts rows tables next n v b quiet is others puts a = record {
  counted = a.counted;
  count = λ i l. a.count i l ∙ sym (steps_other i e t (quiet i));
  rowed = a.rowed;
  began = a.began;
  bounded = a.bounded;
  past = λ i l. (let c = steps_other i e t (quiet i) in omega (arith, a.past i l));
  near = λ i l m. (let c = steps_other i e t (quiet i) in omega (arith, a.near i l m));
  stated = λ i r l c. stated_at w p e t (length (row rows i)) r i _ c (a.bounded i l) (a.past i l)
      (a.stated i r l c);
  mark = λ m x. network_mark w e t tables next n v b puts is others m x (a.mark m x)
      (name_cases m n);
}

-- an event of the network leaves what isn't named
pub released_other : (w : World) → IsPlan w → (t : List Event) (n m : Name) → 0 < m.round
    → m.round ≤ w.rounds → (m ≡ n → ⊥) → mark_of w (Release n ∷ t) m ≡ mark_of w t m
released_other w p t n m z l apart =
    mark_kept w p (Release n) t m z l (λ c. refl) (other_name m n (λ e. apart (sym e))) refl refl

pub dropped_other : (w : World) → IsPlan w → (t : List Event) (n m : Name) → 0 < m.round
    → m.round ≤ w.rounds → (m ≡ n → ⊥) → mark_of w (Drop n ∷ t) m ≡ mark_of w t m
dropped_other w p t n m z l apart =
    mark_kept w p (Drop n) t m z l (λ c. refl) refl (other_name m n (λ e. apart (sym e))) refl

pub copied_other : (w : World) → IsPlan w → (t : List Event) (n m : Name) → 0 < m.round
    → m.round ≤ w.rounds → (m ≡ n → ⊥) → mark_of w (Copy n ∷ t) m ≡ mark_of w t m
copied_other w p t n m z l apart =
    mark_kept w p (Copy n) t m z l (λ c. refl) refl refl (other_name m n (λ e. apart (sym e)))

-- ---- a round is closed

-- a row that grew by a state, or another row
pub data RowOf (rows : List Row) (k : ℕ) (v : List Value) (i : ℕ) (next : List Row) : Type 0 where
  Grown : i ≡ k → row next i ≡ row rows k ++ v ∷ [] → RowOf rows k v i next
  Stays : row next i ≡ row rows i → RowOf rows k v i next

row_of_by : (rows : List Row) (k : ℕ) (v : List Value) (i : ℕ) → k < length rows
    → (i ≡ k) ⊎ (i ≡ k → ⊥) → RowOf rows k v i (set rows k (row rows k ++ v ∷ []))
row_of_by rows k v i l (inl same) =
    Grown same (rw same (get_or-set_same rows k (row rows k ++ v ∷ []) [] l))
row_of_by rows k v i l (inr apart) = let ne : i ≢ k = apart in Stays (rw get_or-set_other refl)

-- a row that is set to itself with a state more
pub row_of : (rows : List Row) (k : ℕ) (v : List Value) (i : ℕ) → k < length rows
    → RowOf rows k v i (set rows k (row rows k ++ v ∷ []))
row_of rows k v i l = row_of_by rows k v i l (cases_eq i k)

close_past : (w : World) (t : List Event) (rows next : List Row) (k : ℕ) (v : List Value) (i : ℕ)
    → w.start (length (row rows k) + 1) ≤ steps k t → w.start (length (row rows i)) ≤ steps i t
    → RowOf rows k v i next → w.start (length (row next i)) ≤ steps i t
close_past w t rows next k v i d h (Stays e) = rw e h
close_past w t rows next k v i d h (Grown same e) = rw (e, same, length_push (row rows k) v) d

close_near : (w : World) → IsPlan w
    → (t : List Event) (rows next : List Row) (k : ℕ) (v : List Value) (i : ℕ)
    → length (row rows k) ≤ w.rounds
    → (length (row rows i) ≤ w.rounds → steps i t ≤ w.start (length (row rows i) + 1))
    → RowOf rows k v i next → length (row next i) ≤ w.rounds
    → steps i t ≤ w.start (length (row next i) + 1)
close_near w p t rows next k v i d h (Stays e) l =
    let size : length (row next i) ≡ length (row rows i) = ap length e in
    let at : w.start (length (row next i) + 1) ≡ w.start (length (row rows i) + 1) =
    ap (λ z. w.start (z + 1)) size in
    omega (arith, h (omega arith), at)
close_near w p t rows next k v i d h (Grown same e) l =
    let size : length (row next i) ≡ length (row rows k) + 1 = ap length e
    ∙ length_push (row rows k) v in
    let own : length (row rows i) ≡ length (row rows k) = ap (λ z. length (row rows z)) same in
    let at : w.start (length (row rows i) + 1) ≡ w.start (length (row next i)) =
    ap w.start (omega arith) in
    let long = p.next (length (row next i)) (omega arith) in
    let now = h (omega arith) in
    omega (arith, now, at, long)

close_stated_last : (w : World) (t : List Event) (r k : ℕ) (v : List Value) (n : ℕ) (xs : Row)
    → n ≡ length xs → v ≡ state w t n k → ((r : ℕ) → r < n → get_or xs r [] ≡ state w t r k)
    → (r < n) ⊎ (n ≤ r) → r < n + 1 → get_or (xs ++ v ∷ []) r [] ≡ state w t r k
close_stated_last w t r k v n xs e f h (inl low) l =
    get_or_append_left xs (v ∷ []) [] r (omega arith) ∙ h r low
close_stated_last w t r k v n xs e f h (inr high) l =
    let same : n ≡ r = omega arith in
    get_or_push xs v [] r (sym e ∙ same) ∙ f ∙ ap (λ z. state w t z k) same

close_stated : (w : World) (t : List Event) (rows next : List Row) (k : ℕ) (v : List Value)
    (i r : ℕ) → k < nodes_of w → v ≡ state w t (length (row rows k)) k
    → ((i r : ℕ) → i < nodes_of w → r < length (row rows i)
    → get_or (row rows i) r [] ≡ state w t r i) → RowOf rows k v i next → i < nodes_of w
    → r < length (row next i) → get_or (row next i) r [] ≡ state w t r i
close_stated w t rows next k v i r x f h (Stays e) b l = ap (λ z. get_or z r []) e
    ∙ h i r b (let s = ap length e in omega arith)
close_stated w t rows next k v i r x f h (Grown same e) b l =
    let size : length (row next i) ≡ length (row rows k) + 1 = ap length e
    ∙ length_push (row rows k) v in
    ap (λ z. get_or z r []) e
    ∙ close_stated_last w t r k v (length (row rows k)) (row rows k) refl f (λ r' l'. h k r' x l')
    (cases_lt _ _) (omega arith)
    ∙ ap (λ z. state w t r z) (sym same)

close_began : (rows next : List Row) (k : ℕ) (v : List Value) (i : ℕ) → 0 < length (row rows i)
    → RowOf rows k v i next → 0 < length (row next i)
close_began rows next k v i h (Stays e) = rw e h
close_began rows next k v i h (Grown same e) =
    let size : length (row next i) ≡ length (row rows k) + 1 = ap length e
    ∙ length_push (row rows k) v in omega arith

close_bounded : (rows next : List Row) (k : ℕ) (v : List Value) (i n : ℕ) → length (row rows k) ≤ n
    → length (row rows i) ≤ n + 1 → RowOf rows k v i next → length (row next i) ≤ n + 1
close_bounded rows next k v i n d h (Stays e) = rw e h
close_bounded rows next k v i n d h (Grown same e) =
    let size : length (row next i) ≡ length (row rows k) + 1 = ap length e
    ∙ length_push (row rows k) v in omega arith

pub keeps_close : (w : World) → IsPlan w
    → (t : List Event) (counts : List ℕ) (rows : List Row) (tables : List (List Mark)) (k : ℕ)
    (v : List Value) → k < nodes_of w → length (row rows k) ≤ w.rounds
    → w.start (length (row rows k) + 1) ≤ steps k t → v ≡ state w t (length (row rows k)) k
    → Agrees w t counts rows tables → Agrees w t counts (set rows k (row rows k ++ v ∷ [])) tables
keeps_close w p t counts rows tables k v x d e f a =
    let of : (i : ℕ) → RowOf rows k v i (set rows k (row rows k ++ v ∷ [])) =
    λ i. row_of_by rows k v i (let n = a.rowed in omega arith) (cases_eq i k) in
    let next = set rows k (row rows k ++ v ∷ []) in
    record {
      counted = a.counted;
      count = a.count;
      rowed = length-set rows k (row rows k ++ v ∷ []) ∙ a.rowed;
      began = λ i b. close_began rows next k v i (a.began i b) (of i);
      bounded = λ i b. close_bounded rows next k v i w.rounds d (a.bounded i b) (of i);
      past = λ i b. close_past w t rows next k v i e (a.past i b) (of i);
      near = λ i b. close_near w p t rows next k v i d (a.near i b) (of i);
      stated = λ i r b l. close_stated w t rows next k v i r x f a.stated (of i) b l;
      mark = a.mark;
    }

-- ---- the start

-- the rows of the initial states
abbrev pub first_rows : World → List Row
first_rows w = map (λ i. w.algorithm.init i ∷ []) (range_with_len 0 (nodes_of w))

pub row_first : (w : World) (i : ℕ) → i < nodes_of w
    → row (first_rows w) i ≡ w.algorithm.init i ∷ []
row_first w i l = get_or-map-range_with_len (λ j. w.algorithm.init j ∷ []) 0 (nodes_of w) i i [] l
    (omega arith)

-- the start agrees with the empty history
pub agrees_empty : (w : World) → IsPlan w → (counts : List ℕ) (rows : List Row)
    → counts ≡ replicate (nodes_of w) 0 → rows ≡ first_rows w → Agrees w [] counts rows []
unfolding steps rounds
agrees_empty w p counts rows a b = record {
  counted = ap length a ∙ length-replicate (nodes_of w) 0;
  count = λ i l. ap (λ z. get_or z i 0) a ∙ get_or-replicate (nodes_of w) i 0 0 l;
  rowed = ap length b ∙ length-map-range_with_len (λ j. w.algorithm.init j ∷ []) 0 (nodes_of w);
  began = λ i l. rw (b, row_first w i l) (omega arith);
  bounded = λ i l. rw (b, row_first w i l) (omega arith);
  past = λ i l. rw (b, row_first w i l) (let h = p.first in omega arith);
  near = λ i l k. omega arith;
  stated = λ i r l k.
      let row_is : row rows i ≡ w.algorithm.init i ∷ [] = ap (λ z. row z i) b ∙ row_first w i l in
      let size = ap length row_is in
      let zero_is : r ≡ 0 = omega arith in
      ap (λ z. get_or z r []) row_is ∙ rw zero_is refl;
  mark = λ n x. sym (mark_before w [] n (omega arith));
}
