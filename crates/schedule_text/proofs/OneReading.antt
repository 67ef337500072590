-- No text has two readings.
use Rattle.std.proofs.Common.{◌≡◌, ℕ, zero, suc, ◌+◌, ◌<◌, ◌≤◌, Bool, true, false, cond, List, []}
use Rattle.std.proofs.Common.{◌∷◌, ◌++◌, length, map, take, drop, get_or, Ok, Err, ◌⊎◌, inl, inr}
use Rattle.std.proofs.Common.{refl, sym, ap, subst, ◌∙◌, arith, length-append}
use Rattle.std.specs.List.{AllZip, filter}
use Rattle.std.specs.Str.Lines.{lines}
use Rattle.std.proofs.Math.Seq.{get_or-append_seam, take-length}
use Rattle.std.proofs.lemmas.Bool.{cases_lt}
use Rattle.std.proofs.lemmas.List.{drop_more, take-append-drop}
use Rattle.std.proofs.lemmas.List.Elements.{filter-append}
use Rattle.round_meaning.specs.declared.setup.Setup.{Setup}
use Rattle.run_events.specs.declared.plan_kind.PlanKind.{PlanKind}
use Rattle.run_events.specs.declared.event.Event.{Event}
use Rattle.schedule_text.specs.declared.fault.ScheduleFault.{ScheduleFault}
use Rattle.schedule_text.specs.declared.fault.ScheduleFault.TheVariants as fault
use Rattle.schedule_text.specs.declared.kind.Kind.{Kind}
use Rattle.schedule_text.specs.declared.kind.Kind.TheVariants.{Schedule, Threads, Header}
use Rattle.schedule_text.specs.declared.pace.Pace.{Pace}
use Rattle.schedule_text.specs.declared.pace.Stop.{Stop}
use Rattle.schedule_text.specs.Lines.{Line, nodes, faults, inputs, rounds, plan, event, pace, stop}
use Rattle.schedule_text.specs.Lines.{Tells}
use Rattle.schedule_text.specs.Texts.{SaysOf, Tail, counts, lines_for, max_text, tail_lines}
use Rattle.schedule_text.specs.Readings.{AnswerOf, IsBad, IsFirst, IsGood, IsLarge, IsReadingOf}
use Rattle.schedule_text.specs.Readings.{MayStandAt, ReadOf, fewest_lines, line_at, place_of}
use Rattle.schedule_text.proofs.Places.{sized_ok, sized_small, tells_one, tells_read}
use Rattle.schedule_text.proofs.Sound.{zip_length}

-- if something is wrong, not all is good
bad_or_good : (kind : Kind) (ls : List (List ℕ)) (k : ℕ) → k < length ls → IsGood kind ls k
    → IsBad kind ls k → ⊥
bad_or_good kind ls k lt good (inr ends) = absurd (omega (arith, lt, ends.0))
bad_or_good kind ls k lt (inl skipped) (inl none) = let c = none.0.1 in absurd (cc (skipped, c))
bad_or_good kind ls k lt (inr says) (inl none) = none.1 says.0 says.1

large_or_good : (kind : Kind) (ls : List (List ℕ)) (k : ℕ) → IsGood kind ls k → IsLarge kind ls k
    → ⊥
large_or_good kind ls k (inl skipped) large = let c = large.0.1 in absurd (cc (skipped, c))
large_or_good kind ls k (inr says) large =
    let x = says.0 in
    let y = large.1.0 in
    let a = tells_read kind (place_of ls k) (line_at ls k) x says.1.form says.1.place
    ∙ sized_small x says.2 in
    let b = tells_read kind (place_of ls k) (line_at ls k) y large.1.1.form large.1.1.place in
    large.1.2 (sized_ok x y (sym a ∙ b)).0

bad_or_large : (kind : Kind) (ls : List (List ℕ)) (k : ℕ) → IsBad kind ls k → IsLarge kind ls k → ⊥
bad_or_large kind ls k (inl none) large = none.1 large.1.0 large.1.1
bad_or_large kind ls k (inr ends) large = omega (arith, ends.0, large.0.0)

bad_within : (kind : Kind) (ls : List (List ℕ)) (k : ℕ) → IsBad kind ls k → k ≤ length ls
bad_within kind ls k (inl none) = omega (arith, none.0.0)
bad_within kind ls k (inr ends) = omega (arith, ends.0)

-- the first is one
module _ (kind : Kind) (ls : List (List ℕ)) (F G : Kind → List (List ℕ) → ℕ
    → Type 0) (within-F : (k : ℕ) → F kind ls k → k ≤ length ls) (within-G : (k : ℕ) → G kind ls k
    → k ≤ length ls) (not-F : (k : ℕ) → k < length ls → IsGood kind ls k → F kind ls k
    → ⊥) (not-G : (k : ℕ) → k < length ls → IsGood kind ls k → G kind ls k → ⊥) where
  first_same : (m n : ℕ) (f : IsFirst F kind ls m) (g : IsFirst G kind ls n) → f.index ≡ g.index
  first_same m n f g = go (cases_lt f.index g.index) (cases_lt g.index f.index)
    where
      go : (f.index < g.index) ⊎ (g.index ≤ f.index) → (g.index < f.index) ⊎ (f.index ≤ g.index)
          → f.index ≡ g.index
      go (inl lt) q = let w = within-G g.index g.wrong in
          absurd (not-F f.index (omega (arith, lt, w)) (g.before f.index lt) f.wrong)
      go (inr le) (inl lt) = let w = within-F f.index f.wrong in
          absurd (not-G g.index (omega (arith, lt, w)) (f.before g.index lt) g.wrong)
      go (inr le) (inr ge) = omega (arith, le, ge)

  first_number : (m n : ℕ) → IsFirst F kind ls m → IsFirst G kind ls n → m ≡ n
  first_number m n f g = f.number ∙ ap (λ k. k + 1) (first_same m n f g) ∙ sym g.number

large_within : (kind : Kind) (ls : List (List ℕ)) (k : ℕ) → IsLarge kind ls k → k ≤ length ls
large_within kind ls k large = omega (arith, large.0.0)

two_bad : (kind : Kind) (ls : List (List ℕ)) (m n : ℕ) → IsFirst IsBad kind ls m
    → IsFirst IsBad kind ls n → m ≡ n
two_bad kind ls = first_number kind ls IsBad IsBad (bad_within kind ls) (bad_within kind ls)
    (bad_or_good kind ls) (bad_or_good kind ls)

two_large : (kind : Kind) (ls : List (List ℕ)) (m n : ℕ) → IsFirst IsLarge kind ls m
    → IsFirst IsLarge kind ls n → m ≡ n
two_large kind ls = first_number kind ls IsLarge IsLarge (large_within kind ls)
    (large_within kind ls) (λ k lt. large_or_good kind ls k) (λ k lt. large_or_good kind ls k)

bad_and_large : (kind : Kind) (ls : List (List ℕ)) (m n : ℕ) → IsFirst IsBad kind ls m
    → IsFirst IsLarge kind ls n → ⊥
bad_and_large kind ls m n f g =
    let same = first_same kind ls IsBad IsLarge (bad_within kind ls) (large_within kind ls)
    (bad_or_good kind ls) (λ k lt. large_or_good kind ls k) m n f g in
    bad_or_large kind ls g.index (subst (λ k. IsBad kind ls k) same f.wrong) g.wrong

-- if a line counts, it stands at its place among those that do
module _ (ls : List (List ℕ)) (j : ℕ) (lt : j < length ls) (c : counts (line_at ls j) ≡ true) where
  filtered : filter counts ls ≡ filter counts (take j ls)
      ++ line_at ls j ∷ filter counts (drop (j + 1) ls)
  filtered =
      ap (filter counts) (sym (take-append-drop j ls)
      ∙ ap (λ x. take j ls ++ x) (drop_more ls j [] lt))
      ∙ filter-append counts (take j ls) (line_at ls j ∷ drop (j + 1) ls)
      ∙ ap (λ b. filter counts (take j ls)
      ++ cond b (line_at ls j ∷ filter counts (drop (j + 1) ls))
      (filter counts (drop (j + 1) ls))) c

  counted : get_or (filter counts ls) (place_of ls j) [] ≡ line_at ls j
  counted = ap (λ x. get_or x (place_of ls j) []) filtered
      ∙ get_or-append_seam (filter counts (take j ls)) (line_at ls j)
      (filter counts (drop (j + 1) ls)) []

  below : place_of ls j < length (filter counts ls)
  below = omega (
    arith,
    ap length filtered,
    length-append (filter counts (take j ls)) (line_at ls j ∷ filter counts (drop (j + 1) ls)),
  )

zip_at : (ls : List (List ℕ)) (xs : List Line) (i : ℕ) (d : Line) → AllZip Tells ls xs
    → i < length ls → Tells (get_or ls i []) (get_or xs i d)
zip_at [] xs i d h lt = absurd (omega (arith, lt))
zip_at (l ∷ ls) [] i d h lt = absurd h
zip_at (l ∷ ls) (x ∷ xs) zero d h lt = h.0
zip_at (l ∷ ls) (x ∷ xs) (suc i) d h lt = zip_at ls xs i d h.1 (omega (arith, lt))

-- what stands behind the header may stand there
events_ordered : (es : List Event) (i k : ℕ) (d : Line) → i < length (map event es) → 5 ≤ k
    → MayStandAt Schedule k (get_or (map event es) i d)
events_ordered [] i k d lt le = absurd (omega (arith, lt))
events_ordered (e ∷ es) zero k d lt le = (refl, le)
events_ordered (e ∷ es) (suc i) k d lt le = events_ordered es i k d (omega (arith, lt)) le

stops_ordered : (cs : List Stop) (i k : ℕ) (d : Line) → i < length (map stop cs) → 6 ≤ k
    → MayStandAt Threads k (get_or (map stop cs) i d)
stops_ordered [] i k d lt le = absurd (omega (arith, lt))
stops_ordered (c ∷ cs) zero k d lt le = (refl, le)
stops_ordered (c ∷ cs) (suc i) k d lt le = stops_ordered cs i k d (omega (arith, lt)) le

tail_ordered : (kind : Kind) (t : Tail kind) (i : ℕ) (d : Line) → i < length (tail_lines kind t)
    → MayStandAt kind (suc (suc (suc (suc (suc i))))) (get_or (tail_lines kind t) i d)
tail_ordered Schedule es i d lt = events_ordered es i (suc (suc (suc (suc (suc i))))) d lt
    (omega arith)
tail_ordered Threads t zero d lt = (refl, refl)
tail_ordered Threads t (suc i) d lt =
    stops_ordered t.1 i (suc (suc (suc (suc (suc (suc i)))))) d (omega (arith, lt)) (omega arith)
tail_ordered Header t i d lt = absurd (omega (arith, lt))

ordered : (kind : Kind) (s : Setup) (p : PlanKind) (t : Tail kind) (i : ℕ) (d : Line)
    → i < length (lines_for kind s p t) → MayStandAt kind i (get_or (lines_for kind s p t) i d)
ordered kind s p t zero d lt = refl
ordered kind s p t (suc zero) d lt = refl
ordered kind s p t (suc (suc zero)) d lt = refl
ordered kind s p t (suc (suc (suc zero))) d lt = refl
ordered kind s p t (suc (suc (suc (suc zero)))) d lt = refl
ordered kind s p t (suc (suc (suc (suc (suc i))))) d lt =
    tail_ordered kind t i d (omega (arith, lt))

enough : (kind : Kind) (s : Setup) (p : PlanKind) (t : Tail kind)
    → fewest_lines kind ≤ length (lines_for kind s p t)
enough Schedule s p t = omega arith
enough Threads s p t = omega arith
enough Header s p t = omega arith

-- nothing is wrong with a text that says something
module _ (kind : Kind) (ls : List (List ℕ)) (s : Setup) (p : PlanKind) (t : Tail kind)
    (each : AllZip Tells (filter counts ls) (lines_for kind s p t)) where
  all_good : (j : ℕ) → j < length ls → IsGood kind ls j
  all_good j lt = go (counts (line_at ls j)) refl
    where
      go : (b : Bool) → counts (line_at ls j) ≡ b → IsGood kind ls j
      go false c = inl c
      go true c =
          let d = plan p in
          let i = place_of ls j in
          let x = get_or (lines_for kind s p t) i d in
          let low : i < length (lines_for kind s p t) =
          omega (
            arith,
            below ls j lt c,
            zip_length (filter counts ls) (lines_for kind s p t) each,
          ) in
          let tells = subst (λ (l : List ℕ). Tells l x) (counted ls j lt c)
          (zip_at (filter counts ls) (lines_for kind s p t) i d each (below ls j lt c)) in
          inr (x, record { form = tells.form; place = ordered kind s p t i d low }, tells.small)

  whole : fewest_lines kind ≤ place_of ls (length ls)
  whole =
      let few = enough kind s p t in
      omega (
        arith,
        few,
        ap (λ x. length (filter counts x)) (take-length ls),
        zip_length (filter counts ls) (lines_for kind s p t) each,
      )

  no_bad : (n : ℕ) → IsFirst IsBad kind ls n → ⊥
  no_bad n f = go f.wrong
    where
      go : IsBad kind ls f.index → ⊥
      go (inl none) = bad_or_good kind ls f.index none.0.0 (all_good f.index none.0.0) (inl none)
      go (inr ends) = omega (arith, whole, ends.1, ap (place_of ls) ends.0)

  no_large : (n : ℕ) → IsFirst IsLarge kind ls n → ⊥
  no_large n f = large_or_good kind ls f.index (all_good f.index f.wrong.0.0) f.wrong

-- the lines say one thing
same_events : (ls : List (List ℕ)) (es fs : List Event) → AllZip Tells ls (map event es)
    → AllZip Tells ls (map event fs) → es ≡ fs
same_events [] [] [] h g = refl
same_events [] [] (f ∷ fs) h g = absurd g
same_events [] (e ∷ es) fs h g = absurd h
same_events (l ∷ ls) [] fs h g = absurd h
same_events (l ∷ ls) (e ∷ es) [] h g = absurd g
same_events (l ∷ ls) (e ∷ es) (f ∷ fs) h g =
    let one : event e ≡ event f = tells_one l (event e) (event f) h.0 g.0 refl in
    let first : e ≡ f = cc in
    ap (λ x. x ∷ es) first ∙ ap (λ xs. f ∷ xs) (same_events ls es fs h.1 g.1)

same_stops : (ls : List (List ℕ)) (cs ds : List Stop) → AllZip Tells ls (map stop cs)
    → AllZip Tells ls (map stop ds) → cs ≡ ds
same_stops [] [] [] h g = refl
same_stops [] [] (d ∷ ds) h g = absurd g
same_stops [] (c ∷ cs) ds h g = absurd h
same_stops (l ∷ ls) [] ds h g = absurd h
same_stops (l ∷ ls) (c ∷ cs) [] h g = absurd g
same_stops (l ∷ ls) (c ∷ cs) (d ∷ ds) h g =
    let one : stop c ≡ stop d = tells_one l (stop c) (stop d) h.0 g.0 refl in
    let first : c ≡ d = cc in
    ap (λ x. x ∷ cs) first ∙ ap (λ xs. d ∷ xs) (same_stops ls cs ds h.1 g.1)

same_tail : (kind : Kind) (ls : List (List ℕ)) (t v : Tail kind)
    → AllZip Tells ls (tail_lines kind t) → AllZip Tells ls (tail_lines kind v) → t ≡ v
same_tail Schedule ls t v h g = same_events ls t v h g
same_tail Threads [] t v h g = absurd h
same_tail Threads (l ∷ ls) t v h g =
    let one : pace t.0 ≡ pace v.0 = tells_one l (pace t.0) (pace v.0) h.0 g.0 refl in
    let first : t.0 ≡ v.0 = cc in
    ap (λ (x : Pace). (x, t.1)) first
    ∙ ap (λ (cs : List Stop). (v.0, cs)) (same_stops ls t.1 v.1 h.1 g.1)
same_tail Header ls t v h g = refl

setup_same : (s u : Setup) → s.nodes ≡ u.nodes → s.faults ≡ u.faults → s.inputs ≡ u.inputs
    → s.rounds ≡ u.rounds → s ≡ u
setup_same s u n t i r =
    ap (λ (x : ℕ). record s { nodes = x }) n
    ∙ ap (λ (x : ℕ). record s { nodes = u.nodes; faults = x }) t
    ∙ ap (λ (x : List ℕ). record s { nodes = u.nodes; faults = u.faults; inputs = x }) i
    ∙ ap (λ (x : ℕ). record u { rounds = x }) r

one_saying : (kind : Kind) (ls : List (List ℕ)) (s u : Setup) (p q : PlanKind) (t v : Tail kind)
    → AllZip Tells ls (lines_for kind s p t) → AllZip Tells ls (lines_for kind u q v)
    → (s ≡ u) × (p ≡ q) × (t ≡ v)
one_saying kind [] s u p q t v h g = absurd h
one_saying kind (a ∷ []) s u p q t v h g = absurd h.1
one_saying kind (a ∷ b ∷ []) s u p q t v h g = absurd h.1.1
one_saying kind (a ∷ b ∷ c ∷ []) s u p q t v h g = absurd h.1.1.1
one_saying kind (a ∷ b ∷ c ∷ d ∷ []) s u p q t v h g = absurd h.1.1.1.1
one_saying kind (a ∷ b ∷ c ∷ d ∷ e ∷ ls) s u p q t v h g =
    let n : nodes s.nodes ≡ nodes u.nodes =
    tells_one a (nodes s.nodes) (nodes u.nodes) h.0 g.0 refl in
    let f : faults s.faults ≡ faults u.faults =
    tells_one b (faults s.faults) (faults u.faults) h.1.0 g.1.0 refl in
    let i : inputs s.inputs ≡ inputs u.inputs =
    tells_one c (inputs s.inputs) (inputs u.inputs) h.1.1.0 g.1.1.0 refl in
    let r : rounds s.rounds ≡ rounds u.rounds =
    tells_one d (rounds s.rounds) (rounds u.rounds) h.1.1.1.0 g.1.1.1.0 refl in
    let k : plan p ≡ plan q = tells_one e (plan p) (plan q) h.1.1.1.1.0 g.1.1.1.1.0 refl in
    let plans : p ≡ q = cc in
    (setup_same s u (cc) (cc) (cc) (cc), plans, same_tail kind ls t v h.1.1.1.1.1 g.1.1.1.1.1)

pub one_meaning : (kind : Kind) (text : List ℕ) (s u : Setup) (p q : PlanKind) (t v : Tail kind)
    → SaysOf kind text s p t → SaysOf kind text u q v → (s ≡ u) × (p ≡ q) × (t ≡ v)
one_meaning kind text s u p q t v h g =
    one_saying kind (filter counts (lines text)) s u p q t v h.each g.each

triple : (kind : Kind) (a b : ReadOf kind) → (a.0 ≡ b.0) × (a.1 ≡ b.1) × (a.2 ≡ b.2) → a ≡ b
triple kind a b h = ap (λ (x : Setup). (x, a.1, a.2)) h.0 ∙ ap (λ (x : PlanKind). (b.0, x, a.2)) h.1
    ∙ ap (λ (x : Tail kind). (b.0, b.1, x)) h.2

short_or_long : (text : List ℕ) → length text ≤ max_text → max_text < length text → ⊥
short_or_long text short long = omega (arith, short, long)

-- an error, beside any other answer
one_error : (kind : Kind) (text : List ℕ) (e f : ScheduleFault) → IsReadingOf kind text (Err e)
    → IsReadingOf kind text (Err f) → e ≡ f
one_error kind text (fault.BadLine m) (fault.BadLine n) h g =
    ap (λ k. fault.BadLine k) (two_bad kind (lines text) m n h.1 g.1)
one_error kind text (fault.BadLine m) (fault.NumberTooLarge n) h g =
    absurd (bad_and_large kind (lines text) m n h.1 g.1)
one_error kind text (fault.BadLine m) fault.TooLong h g = absurd (short_or_long text h.0 g)
one_error kind text (fault.NumberTooLarge m) (fault.BadLine n) h g =
    absurd (bad_and_large kind (lines text) n m g.1 h.1)
one_error kind text (fault.NumberTooLarge m) (fault.NumberTooLarge n) h g =
    ap (λ k. fault.NumberTooLarge k) (two_large kind (lines text) m n h.1 g.1)
one_error kind text (fault.NumberTooLarge m) fault.TooLong h g = absurd (short_or_long text h.0 g)
one_error kind text fault.TooLong (fault.BadLine n) h g = absurd (short_or_long text g.0 h)
one_error kind text fault.TooLong (fault.NumberTooLarge n) h g = absurd (short_or_long text g.0 h)
one_error kind text fault.TooLong fault.TooLong h g = refl
one_error kind text fault.NoMemory f h g = absurd h
one_error kind text e fault.NoMemory h g = absurd g

no_error : (kind : Kind) (text : List ℕ) (r : ReadOf kind) (e : ScheduleFault)
    → IsReadingOf kind text (Ok r) → IsReadingOf kind text (Err e) → ⊥
no_error kind text r (fault.BadLine n) h g = no_bad kind (lines text) r.0 r.1 r.2 h.each n g.1
no_error kind text r (fault.NumberTooLarge n) h g =
    no_large kind (lines text) r.0 r.1 r.2 h.each n g.1
no_error kind text r fault.TooLong h g = short_or_long text h.short g
no_error kind text r fault.NoMemory h g = g

pub one_reading : (kind : Kind) (text : List ℕ) (a b : AnswerOf kind) → IsReadingOf kind text a
    → IsReadingOf kind text b → a ≡ b
one_reading kind text (Ok r) (Ok t) h g =
    ap (λ (x : ReadOf kind). Ok x)
    (triple kind r t (one_meaning kind text r.0 t.0 r.1 t.1 r.2 t.2 h g))
one_reading kind text (Ok r) (Err e) h g = absurd (no_error kind text r e h g)
one_reading kind text (Err e) (Ok r) h g = absurd (no_error kind text r e g h)
one_reading kind text (Err e) (Err f) h g =
    ap (λ (x : ScheduleFault). Err x) (one_error kind text e f h g)
