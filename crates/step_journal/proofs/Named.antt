-- A book and its buffers fit where each part of them does.
use Rattle.std.proofs.Common.{
  ◌≡◌,
  ◌≢◌,
  ℕ,
  ◌+◌,
  ◌-◌,
  ◌*◌,
  ◌<◌,
  ◌≤◌,
  All,
  List,
  [],
  length,
  get_or,
  Option,
}
use Rattle.std.proofs.Common.{Some, None, ap, sym, subst, ◌∙◌, refl, arith, ◌⊎◌, inl, inr}
use Rattle.std.specs.Prelude.{
  Bool,
  true,
  false,
  IfSome,
  IsSomeAnd,
  IsTrue,
  is_some,
  not,
  option_map,
  slice_get,
}
use Rattle.std.proofs.lemmas.Bool.{cases_eq, cases_lt}
use Rattle.std.proofs.lemmas.List.{ext_get_or, get_or_default, get_or-map, get_or_past, length-map}
use Rattle.std.proofs.lemmas.List.Elements.{All-from_get_or, All-same}
use Rattle.std.proofs.lemmas.Option.{get_or_from_slice_get, slice_get_past, slice_get_within}
use Rattle.round_lang.specs.Syntax.{ProgramTree}
use Rattle.round_meaning.specs.Rounds.{Algorithm, algorithm_of}
use Rattle.round_meaning.specs.declared.setup.Setup.{Setup}
use Rattle.run_events.specs.declared.name.Name.{Name}
use Rattle.step_machine.specs.Sealed.{Frame, IsHonest}
use Rattle.step_book.specs.declared.mark.Mark.{Mark}
use Rattle.step_book.specs.declared.mark.Mark.TheVariants.{Unsent, Silent, Flying, Released, Lost}
use Rattle.step_book.specs.Agreement.{Row, row}
use Rattle.step_book.specs.Log.{IsFaithful, Log, mark_in}
use Rattle.step_book.specs.Names.{IsName}
use Rattle.step_book.specs.Buffers.{AreHonest, IsGenuine, BufferView, flying_at, names_in, run_of}
use Rattle.step_journal.specs.Fits.{Fits, Flies, IsOfRun, no_buffer, place_among, buffer_at}
use Rattle.step_journal.specs.Fitting.{AreNamed, FitsNode, FliesAs, HoldsAt, IsRecorded, named}
use Rattle.step_book.proofs.Pieces.{past_all}
use Rattle.step_journal.proofs.BufferViews.{buffer_read}

recorded : (a : Algorithm) (rows : List Row) (f : Frame) → IsGenuine a rows f → IsRecorded rows f
recorded a rows f h = record { copy = h.copy; first = h.first; past = h.past; own = h.own }

genuine : (a : Algorithm) (rows : List Row) (f : Frame) → IsHonest a f → IsRecorded rows f
    → IsGenuine a rows f
genuine a rows f said h = record {
  honest = said;
  copy = h.copy;
  first = h.first;
  past = h.past;
  own = h.own;
}

-- a sender that isn't one of the run's has no states
pub recorded_node : {start : ℕ → ℕ} {v : Log} {f : Frame} → IsFaithful start v
    → v.setup.nodes ≤ f.name.from → IsRecorded v.rows f → ⊥
recorded_node {start} {v} {f} faith past h =
    let none : row v.rows f.name.from ≡ [] =
    get_or_past v.rows f.name.from [] (let s = faith.rowed in omega arith) in
    let many = h.past in
    let first = h.first in
    let size = ap length none in
    absurd (omega arith)

-- ---- one frame in flight

some_recorded : (a : Algorithm) (rows : List Row) (n : Name) (o : Option Frame)
    → IsSomeAnd o (λ f. (f.name ≡ n) × IsGenuine a rows f)
    → IsSomeAnd o (λ f. (f.name ≡ n) × IsRecorded rows f)
some_recorded a rows n None h = h
some_recorded a rows n (Some f) h = (h.0, recorded a rows f h.1)

some_genuine : (a : Algorithm) (rows : List Row) (n : Name) (o : Option Frame)
    → IfSome o (IsHonest a)
    → IsSomeAnd o (λ f. (f.name ≡ n) × IsRecorded rows f)
    → IsSomeAnd o (λ f. (f.name ≡ n) × IsGenuine a rows f)
some_genuine a rows n None said h = h
some_genuine a rows n (Some f) said h = (h.0, genuine a rows f said h.1)

none_flies : (rows : List Row) (n : Name) (m : Mark) (o : Option Frame) → (m ≡ Flying → ⊥)
    → o ≡ None → HoldsAt rows n m o
none_flies rows n m o still none = record { flies = λ e. absurd (still e); stays = λ x. none }

flies_holds : (a : Algorithm) (rows : List Row) (n : Name) (m : Mark) (o : Option Frame)
    → Flies a rows n m o → HoldsAt rows n m o
flies_holds a rows n Flying o h = record {
  flies = λ e. some_recorded a rows n o h;
  stays = λ x. absurd (x refl);
}
flies_holds a rows n Unsent o h = none_flies rows n Unsent o (λ e. absurd (cc)) h
flies_holds a rows n Silent o h = none_flies rows n Silent o (λ e. absurd (cc)) h
flies_holds a rows n (Released x) o h = none_flies rows n (Released x) o (λ e. absurd (cc)) h
flies_holds a rows n Lost o h = none_flies rows n Lost o (λ e. absurd (cc)) h

holds_flies : (a : Algorithm) (rows : List Row) (n : Name) (m : Mark) (o : Option Frame)
    → IfSome o (IsHonest a) → HoldsAt rows n m o → Flies a rows n m o
holds_flies a rows n Flying o said h = some_genuine a rows n o said (h.flies refl)
holds_flies a rows n Unsent o said h = h.stays (λ e. absurd (cc))
holds_flies a rows n Silent o said h = h.stays (λ e. absurd (cc))
holds_flies a rows n (Released x) o said h = h.stays (λ e. absurd (cc))
holds_flies a rows n Lost o said h = h.stays (λ e. absurd (cc))

-- ---- the frames in flight to a node, one after the other

-- a frame stands, or doesn't, as the record says of it
abbrev pub Stands : (ℕ → ℕ) → Log → BufferView → ℕ → ℕ → ℕ → ℕ → Type 0
Stands start v b i k r j =
    HoldsAt v.rows (named i k r j) (mark_in start v (named i k r j))
    (flying_at b r (place_among v.setup.nodes (named i k r j)))

-- so those of one round from the first senders
abbrev pub FliesFrom : (ℕ → ℕ) → Log → BufferView → ℕ → ℕ → ℕ → ℕ → Type 0
FliesFrom start v b i k r n = (j : ℕ) → j < n → Stands start v b i k r j

pub flies_first : (start : ℕ → ℕ) (v : Log) (b : BufferView) (i k r : ℕ)
    → FliesFrom start v b i k r 0
flies_first start v b i k r = λ j l. absurd (omega arith)

pub flies_next : (start : ℕ → ℕ) (v : Log) (b : BufferView) (i k r n : ℕ) → Stands start v b i k r n
    → FliesFrom start v b i k r n → FliesFrom start v b i k r (n + 1)
flies_next start v b i k r n here before = λ j l. each j l (cases_lt j n)
  where
    each : (j : ℕ) → j < n + 1 → (j < n) ⊎ (n ≤ j) → Stands start v b i k r j
    each j l (inl low) = before j low
    each j l (inr high) = subst (Stands start v b i k r) (let e : n ≡ j = omega arith in e) here

pub flies_no_round : (start : ℕ → ℕ) (v : Log) (b : BufferView) (i k : ℕ)
    → FliesAs start v b i k (1 - 1)
flies_no_round start v b i k = λ r j first last from. absurd (omega arith)

pub flies_round : (start : ℕ → ℕ) (v : Log) (b : BufferView) (i k r n : ℕ) → 0 < r
    → v.setup.nodes ≤ n → FliesFrom start v b i k r n → FliesAs start v b i k (r - 1)
    → FliesAs start v b i k (r + 1 - 1)
flies_round start v b i k r n positive past here before =
    λ q j first last from. each q j first last from (cases_lt q r)
  where
    each : (q j : ℕ) → 0 < q → q ≤ r + 1 - 1 → j < v.setup.nodes → (q < r) ⊎ (r ≤ q)
        → Stands start v b i k q j
    each q j first last from (inl low) = before q j first (omega arith) from
    each q j first last from (inr high) =
        subst (λ z. Stands start v b i k z j) (let e : r ≡ q = omega arith in
        e) (here j (omega arith))

-- what holds of four copies holds of each
pub four_copies : (F : ℕ → Type 0) → F 0 → F 1 → F 2 → F 3 → (k : ℕ) → k ≤ 3 → F k
four_copies F zero one two three k few = at (cases_eq k 0) (cases_eq k 1) (cases_eq k 2)
  where
    at : (k ≡ 0) ⊎ (k ≡ 0 → ⊥) → (k ≡ 1) ⊎ (k ≡ 1 → ⊥) → (k ≡ 2) ⊎ (k ≡ 2 → ⊥) → F k
    at (inl e) b c = subst F (sym e) zero
    at (inr x) (inl e) c = subst F (sym e) one
    at (inr x) (inr y) (inl e) = subst F (sym e) two
    at (inr x) (inr y) (inr z) =
        let u : k ≢ 0 = x in let v : k ≢ 1 = y in let w : k ≢ 2 = z in
        let e : 3 ≡ k = omega arith in
        subst F e three

-- ---- a node's buffer, and all of them

-- a name of the run, by its parts
named_is : (v : Log) (i k r j : ℕ) → i < v.setup.nodes → k ≤ 3 → 0 < r → r ≤ v.setup.rounds
    → j < v.setup.nodes → IsName v.setup (named i k r j)
named_is v i k r j to copy first last from =
    record { from = from; to = to; first = first; last = last; copy = copy }

-- if a copy number has neither marks nor places, nothing of it is to stand, and nothing does
pub flies_none : (start : ℕ → ℕ) (v : Log) (b : BufferView) (i k first : ℕ) → i < v.setup.nodes
    → k ≤ 3 → first ≡ k * v.setup.nodes
    → ((n : Name) → IsName v.setup n → n.copy ≡ k → mark_in start v n ≡ Unsent)
    → ((r later : ℕ) → first ≤ later → flying_at b r later ≡ None)
    → FliesAs start v b i k v.setup.rounds
flies_none start v b i k first to copy at unmade free = λ r j low last from.
    let n = named i k r j in
    let unsent = unmade n (named_is v i k r j to copy low last from) refl in
    none_flies v.rows n (mark_in start v n) (flying_at b r (place_among v.setup.nodes n))
    (λ fly. let both : Unsent ≡ Flying = sym unsent ∙ fly in
    cc) (free r (place_among v.setup.nodes n) (omega (arith, at)))

pub fits_at : (start : ℕ → ℕ) (v : Log) (bs : List BufferView) (i : ℕ) (b : BufferView)
    → i < v.setup.nodes → b ≡ get_or bs i b → Fits start v bs → FitsNode start v i b
fits_at start v bs i b l h f =
    let a = algorithm_of v.program v.setup in
    let within : i < length bs = (let s = f.sized in omega arith) in
    let was : buffer_at bs i ≡ b = buffer_read bs i b within h in
    let of : IsOfRun v.program v.setup b =
    subst (IsOfRun v.program v.setup) (sym h) (f.runs i b within) in
    let waits : All (IsGenuine a v.rows) b.waiting =
    All-same (IsGenuine a v.rows) _ _ (ap (λ (x : BufferView). x.waiting) (sym was))
    (f.genuine i l) in record {
      program = of.program;
      setup = of.setup;
      waiting = record {
        names = ap (λ (x : BufferView). names_in x.waiting) (sym was) ∙ f.waiting i l;
        recorded = λ k d m. recorded a v.rows _ (waits k d m);
      };
      flying = λ k few r j first last from.
          let n = named i k r j in
          flies_holds a v.rows n (mark_in start v n) _
          (subst (λ (x : BufferView). Flies a v.rows n (mark_in start v n)
          (flying_at x r (place_among v.setup.nodes n))) was
          (f.flying n (named_is v i k r j l few first last from)));
    }

-- the nodes' buffers up to one fit
abbrev pub FitTo : (ℕ → ℕ) → Log → List BufferView → ℕ → Type 0
FitTo start v bs n =
    (i : ℕ) → i < n → FitsNode start v i (buffer_at bs i)
    × AreHonest (run_of (buffer_at bs i)) (buffer_at bs i).flying (buffer_at bs i).waiting

pub fit_none : (start : ℕ → ℕ) (v : Log) (bs : List BufferView) → FitTo start v bs 0
fit_none start v bs = λ i l. absurd (omega arith)

pub fit_more : (start : ℕ → ℕ) (v : Log) (bs : List BufferView) (n : ℕ) (b : BufferView)
    → n < length bs → b ≡ get_or bs n b
    → FitsNode start v n b → AreHonest (run_of b) b.flying b.waiting → FitTo start v bs n
    → FitTo start v bs (n + 1)
fit_more start v bs n b l h here said before = λ i m. each i m (cases_lt i n)
  where
    was : buffer_at bs n ≡ b
    was = buffer_read bs n b l h

    each : (i : ℕ) → i < n + 1 → (i < n) ⊎ (n ≤ i)
        → FitsNode start v i (buffer_at bs i)
        × AreHonest (run_of (buffer_at bs i)) (buffer_at bs i).flying (buffer_at bs i).waiting
    each i m (inl low) = before i low
    each i m (inr high) =
        let is : n ≡ i = omega arith in
        subst (λ k. FitsNode start v k (buffer_at bs k)
        × AreHonest (run_of (buffer_at bs k)) (buffer_at bs k).flying (buffer_at bs k).waiting)
        is
        (subst (λ (x : BufferView). FitsNode start v n x × AreHonest (run_of x) x.flying x.waiting)
        (sym was) (here, said))

-- what is honest in a buffer of the run is honest in the run
spelt_in : {p : ProgramTree} {s : Setup} (b : BufferView) (o : Option Frame) → b.program ≡ p
    → b.setup ≡ s → IfSome o (IsHonest (run_of b)) → IfSome o (IsHonest (algorithm_of p s))
spelt_in {p} {s} b o program setup h =
    subst (λ q. IfSome o (IsHonest (algorithm_of q s))) program
    (subst (λ t. IfSome o (IsHonest (algorithm_of b.program t))) setup h)

spelt_all : {p : ProgramTree} {s : Setup} (b : BufferView) (fs : List Frame) → b.program ≡ p
    → b.setup ≡ s → All (IsHonest (run_of b)) fs → All (IsHonest (algorithm_of p s)) fs
spelt_all {p} {s} b fs program setup h =
    subst (λ q. All (IsHonest (algorithm_of q s)) fs) program
    (subst (λ t. All (IsHonest (algorithm_of b.program t)) fs) setup h)

pub fit_all : (start : ℕ → ℕ) (v : Log) (bs : List BufferView) → length bs ≡ v.setup.nodes
    → FitTo start v bs v.setup.nodes → Fits start v bs
fit_all start v bs sized all =
    let a = algorithm_of v.program v.setup in record {
      sized = sized;
      runs = All-from_get_or (IsOfRun v.program v.setup) bs no_buffer
          (λ i l. (let h = (all i (omega arith)).0 in
          record { program = h.program; setup = h.setup }));
      waiting = λ i l. (all i l).0.waiting.names;
      genuine = λ i l k d m.
          (let h = all i l in
          genuine a v.rows _ (spelt_all (buffer_at bs i)
          (buffer_at bs i).waiting h.0.program h.0.setup h.1.waits k d m)
          (h.0.waiting.recorded k d m));
      flying = λ n is.
          (let h = all n.to is.to in
          let o = flying_at (buffer_at bs n.to) n.round (place_among v.setup.nodes n) in
          holds_flies a v.rows n (mark_in start v n) o
          (spelt_in (buffer_at bs n.to) o h.0.program h.0.setup
          (h.1.flies n.round (place_among v.setup.nodes n)))
          (h.0.flying n.copy is.copy n.round n.from is.first is.last is.from));
    }

-- ---- the frames that wait, one after the other

-- the first frames have the first names
abbrev pub NamedTo : List Row → List Frame → List Name → ℕ → Type 0
NamedTo rows fs ns n = (k : ℕ) (d : Frame) (e : Name) → k < n
    → ((get_or fs k d).name ≡ get_or ns k e) × IsRecorded rows (get_or fs k d)

pub named_more : (rows : List Row) (fs : List Frame) (ns : List Name) (n : ℕ) (f : Frame) (c : Name)
    → n < length fs → n < length ns
    → f ≡ get_or fs n f → (f.name ≡ get_or ns n c) × IsRecorded rows f → NamedTo rows fs ns n
    → NamedTo rows fs ns (n + 1)
named_more rows fs ns n f c l m ef here before = λ i d e x. each i d e x (cases_lt i n)
  where
    each : (i : ℕ) (d : Frame) (e : Name) → i < n + 1 → (i < n) ⊎ (n ≤ i)
        → ((get_or fs i d).name ≡ get_or ns i e) × IsRecorded rows (get_or fs i d)
    each i d e x (inl low) = before i d e low
    each i d e x (inr high) =
        let is : n ≡ i = omega arith in
        let frame : get_or fs n d ≡ f = get_or_default fs n d f l ∙ sym ef in
        let name : get_or ns n c ≡ get_or ns n e = get_or_default ns n c e m in
        subst (λ j. ((get_or fs j d).name ≡ get_or ns j e) × IsRecorded rows (get_or fs j d)) is (
          ap (λ (z : Frame). z.name) frame ∙ here.0 ∙ name,
          subst (IsRecorded rows) (sym frame) here.1,
        )

pub named_all : (rows : List Row) (fs : List Frame) (ns : List Name) (n : ℕ) → length fs ≡ length ns
    → length fs ≤ n → NamedTo rows fs ns n → AreNamed rows fs ns
named_all rows fs ns n sized past h = record {
  names = names fs ns sized (λ k d e l. (h k d e (omega arith)).0);
  recorded = λ k d l. (h k d d.name (omega arith)).1;
}
  where
    names : (fs : List Frame) (ns : List Name) → length fs ≡ length ns
        → ((k : ℕ) (d : Frame) (e : Name) → k < length fs → (get_or fs k d).name ≡ get_or ns k e)
        → names_in fs ≡ ns
    names fs ns sized each =
        let d : Name = record { from = 0; to = 0; round = 0; copy = 0 } in
        let f : Frame = record {
          format = record { nodes = 0; values = 0; period = 0; blocks = [] };
          name = d;
          state = [];
          message = [];
        } in
        ext_get_or d (names_in fs) ns (length-map fs (λ (z : Frame). z.name) ∙ sized)
        (λ k l. (let m = length-map fs (λ (z : Frame). z.name) in
        get_or-map (λ (z : Frame). z.name) fs k f d (omega arith) ∙ each k f d (omega arith)))

pub named_at : (rows : List Row) (fs : List Frame) (ns : List Name) (n : ℕ) (f : Frame) (c : Name)
    → n < length fs → n < length ns
    → f ≡ get_or fs n f → AreNamed rows fs ns → (f.name ≡ get_or ns n c) × IsRecorded rows f
named_at rows fs ns n f c l m ef h = (
  ap (λ (z : Frame). z.name) ef ∙ sym (get_or-map (λ (z : Frame). z.name) fs n f c l)
      ∙ ap (λ z. get_or z n c) h.names,
  subst (IsRecorded rows) (sym ef) (h.recorded n f l),
)

pub named_sized : (rows : List Row) (fs : List Frame) (ns : List Name) → AreNamed rows fs ns
    → length fs ≡ length ns
named_sized rows fs ns h = sym (length-map fs (λ (z : Frame). z.name)) ∙ ap length h.names

-- the first frames are there, and have the first names
pub record AreNamedTo (rows : List Row) (fs : List Frame) (ns : List Name) (n : ℕ) : Type 0 where
  pub there : n ≤ length fs
  pub named : NamedTo rows fs ns n

pub named_none : (rows : List Row) (fs : List Frame) (ns : List Name) → AreNamedTo rows fs ns 0
named_none rows fs ns = record { there = omega arith; named = λ k d e l. absurd (omega (arith, l)) }

pub named_next : (rows : List Row) (fs : List Frame) (ns : List Name) (n : ℕ) (f : Frame) (c : Name)
    → slice_get fs n ≡ Some f → n < length ns
    → (f.name ≡ get_or ns n c) × IsRecorded rows f → AreNamedTo rows fs ns n
    → AreNamedTo rows fs ns (n + 1)
named_next rows fs ns n f c is within here h =
    let there = slice_get_within fs n f is in record {
      there = omega (arith, there);
      named = named_more rows fs ns n f c there within
          (sym (get_or_from_slice_get fs n f f is)) here h.named;
    }

pub named_done : (rows : List Row) (fs : List Frame) (ns : List Name) (n : ℕ) → length ns ≤ n
    → slice_get fs (length ns) ≡ None → AreNamedTo rows fs ns n → AreNamed rows fs ns
named_done rows fs ns n all gone h =
    let past = past_all fs (length ns) gone in
    let there = h.there in
    named_all rows fs ns n (omega arith) (omega arith) h.named

-- if frames have all names, there is one for each name, and none behind them
pub named_there : (rows : List Row) (fs : List Frame) (ns : List Name) (n : ℕ) → n < length ns
    → slice_get fs n ≡ None → AreNamed rows fs ns → ⊥
named_there rows fs ns n within gone h =
    let past = past_all fs n gone in
    let sized = named_sized rows fs ns h in
    absurd (omega arith)

pub named_past : (rows : List Row) (fs : List Frame) (ns : List Name) → AreNamed rows fs ns
    → slice_get fs (length ns) ≡ None
named_past rows fs ns h = let sized = named_sized rows fs ns h in
    slice_get_past fs (length ns) (omega arith)

pub named_one : (rows : List Row) (fs : List Frame) (ns : List Name) (n : ℕ) (f : Frame) (c : Name)
    → slice_get fs n ≡ Some f → n < length ns → AreNamed rows fs ns
    → (f.name ≡ get_or ns n c) × IsRecorded rows f
named_one rows fs ns n f c is within h =
    named_at rows fs ns n f c (slice_get_within fs n f is) within
    (sym (get_or_from_slice_get fs n f f is)) h

-- whether none is lent, as a test answers it
pub none_lent : {R X : Type 0} (now : R → X) (r : Option R) (b : Bool) → is_some r ≡ not b
    → IsTrue b → option_map now r ≡ None
none_lent now None b e t = refl
none_lent now (Some x) true e t = absurd (cc)
none_lent now (Some x) false e t = absurd (cc)

pub lent_none : {R X : Type 0} (now : R → X) (r : Option R) (b : Bool) → is_some r ≡ not b
    → option_map now r ≡ None → IsTrue b
lent_none now None true e t = refl
lent_none now None false e t = absurd (cc)
lent_none now (Some x) b e t = absurd (cc)
