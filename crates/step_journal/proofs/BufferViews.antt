-- What each event leaves of the frames.
use Rattle.std.proofs.Common.{◌≡◌, ◌≢◌, ℕ, ◌+◌, ◌-◌, ◌<◌, All, List, [], ◌∷◌, ◌++◌, length}
use Rattle.std.proofs.Common.{get_or, set, Option, Some, None, sym, subst, refl, ap, if◌then◌else◌}
use Rattle.std.proofs.Common.{◌∙◌, arith, Bool, ◌⊎◌, inl, inr}
use Rattle.std.specs.Prelude.{IsSomeAnd, option_map, option_to_list}
use Rattle.std.proofs.lemmas.Bool.{cases_eq}
use Rattle.std.proofs.lemmas.List.{get_or-set_same, get_or-set_other, length-set, map-append}
use Rattle.std.proofs.lemmas.List.{append-nil, get_or_append_left, get_or_default}
use Rattle.std.proofs.lemmas.List.{length_push}
use Rattle.std.proofs.lemmas.List.Elements.{All-same, All-push, All-set}
use Rattle.round_lang.specs.declared.value.Value.{Value}
use Rattle.round_lang.specs.Syntax.{ProgramTree}
use Rattle.round_meaning.specs.declared.setup.Setup.{Setup}
use Rattle.round_meaning.specs.Rounds.{Algorithm, algorithm_of}
use Rattle.run_events.specs.declared.event.Event.{Event}
use Rattle.run_events.specs.declared.event.Event.TheVariants.{Step, Release, Drop, Copy}
use Rattle.run_events.specs.declared.name.Name.{Name}
use Rattle.step_machine.specs.Sealed.{Frame, Ready, IsPrepared, IsHonest, copied_as, frame_of}
use Rattle.run_events.specs.Names.{original}
use Rattle.step_machine.specs.Nodes.{NodeView}
use Rattle.step_book.specs.declared.mark.Mark.{Mark}
use Rattle.step_book.specs.declared.mark.Mark.TheVariants.{Unsent, Silent, Flying, Released, Lost}
use Rattle.step_book.specs.Agreement.{Row, row}
use Rattle.step_book.specs.Trace.{steps}
use Rattle.step_book.specs.History.{arrival, buffer_of, copied, counted, dropped, let_go, spoken}
use Rattle.step_book.specs.Log.{CanCopy, Log, Recorded, IsFlying, SameMarks, SameMarksBut}
use Rattle.step_book.specs.Log.{SameWaiting, SameWaitingBut, closed, count_of, end_state, happened}
use Rattle.step_book.specs.Log.{mark_in, opened, round_of, waiting_in, world_of}
use Rattle.step_book.specs.Names.{IsName}
use Rattle.step_book.specs.Causes.{IsSendFit}
use Rattle.step_book.specs.Tables.{HasPlace, Puts, SameTables, read_at}
use Rattle.step_book.proofs.Keeps.{RowOf, Grown, Stays, row_of, row_same}
use Rattle.step_book.proofs.Events.{arrival_idle, copied_idle, copied_now, dropped_idle}
use Rattle.step_book.proofs.Events.{let_go_idle}
use Rattle.step_book.proofs.Kept.{mark_before}
use Rattle.step_book.proofs.Names.{name_cases, name_same, original_named}
use Rattle.step_book.proofs.Tables.{has_place}
use Rattle.step_book.specs.Buffers.{BufferView, IsGenuine, IsSameRun, flying_at, names_in, run_of}
use Rattle.step_journal.specs.Fits.{
  AreEmpty,
  Fits,
  Flies,
  IsOfRun,
  no_buffer,
  place_among,
  buffer_at,
}

-- what holds of the view holds of the fields
pub fits_view : {P : Type 0} {s v : Recorded P} {bs : List BufferView} (start : P → ℕ → ℕ) → s ≡ v
    → Fits (start v.plan) v.log bs → Fits (start s.plan) s.log bs
fits_view {P} {s} {v} {bs} start e f =
    subst (λ (z : Recorded P). Fits (start z.plan) z.log bs) (sym e) f

-- a buffer at a place, read with any default
pub buffer_read : (bs : List BufferView) (k : ℕ) (b : BufferView) → k < length bs
    → b ≡ get_or bs k b → buffer_at bs k ≡ b
buffer_read bs k b l h = get_or_default bs k no_buffer b l ∙ sym h

-- the buffer that was written, and each other
pub written_at : (bs : List BufferView) (k : ℕ) (b : BufferView) → k < length bs
    → buffer_at (set bs k b) k ≡ b
written_at bs k b l = get_or-set_same bs k b no_buffer l

pub written_off : (bs : List BufferView) (k i : ℕ) (b : BufferView) → i ≢ k
    → buffer_at (set bs k b) i ≡ buffer_at bs i
written_off bs k i b ne = get_or-set_other bs k i b no_buffer ne

-- flying frames stay as their table reads the same
flies_same : (a : Algorithm) (rows : List Row) (n : Name) (m x : Mark) (o p : Option Frame) → x ≡ m
    → p ≡ o → Flies a rows n m o → Flies a rows n x p
flies_same a rows n m x o p e d f =
    subst (λ (z : Mark). Flies a rows n z p) (sym e)
    (subst (λ (z : Option Frame). Flies a rows n m z) (sym d) f)

-- places among the messages of one round to one node are apart
place_apart : (nodes : ℕ) (n m : Name) → n.from < nodes → m.from < nodes → n.to ≡ m.to → (n ≡ m → ⊥)
    → (n.round ≡ m.round) × (place_among nodes n ≡ place_among nodes m) → ⊥
place_apart nodes n m a b to apart e =
    let both = row_same nodes n.copy n.from m.copy m.from a b e.1 in
    apart (name_same n m both.1 to e.0 both.0)

-- a frame is as genuine where a row grew
grown_frame : (a : Algorithm) (rows next : List Row) (k : ℕ) (x : List Value) (g : Frame)
    → RowOf rows k x g.name.from next → IsGenuine a rows g → IsGenuine a next g
grown_frame a rows next k x g (Stays e) h = record {
  honest = h.honest;
  copy = h.copy;
  first = h.first;
  past = (let p = h.past in let s = ap length e in omega arith);
  own = ap (λ r. get_or r (g.name.round - 1) []) e ∙ h.own;
}
grown_frame a rows next k x g (Grown same e) h = record {
  honest = h.honest;
  copy = h.copy;
  first = h.first;
  past = (let p = h.past in let s = ap length e ∙ length_push (row rows k) x in
      let t = ap (λ z. length (row rows z)) same in omega arith);
  own = ap (λ r. get_or r (g.name.round - 1) []) e
      ∙ get_or_append_left (row rows k) (x ∷ []) [] (g.name.round - 1) (let p = h.past in
      let q = h.first in let t = ap (λ z. length (row rows z)) same in omega arith)
      ∙ ap (λ z. get_or (row rows z) (g.name.round - 1) []) (sym same) ∙ h.own;
}

grown_flies : (a : Algorithm) (rows : List Row) (k : ℕ) (x : List Value) (n : Name) (m : Mark)
    (o : Option Frame) → k < length rows → Flies a rows n m o
    → Flies a (set rows k (row rows k ++ x ∷ [])) n m o
grown_flies a rows k x n Unsent o l h = h
grown_flies a rows k x n Silent o l h = h
grown_flies a rows k x n (Released y) o l h = h
grown_flies a rows k x n Lost o l h = h
grown_flies a rows k x n Flying None l h = h
grown_flies a rows k x n Flying (Some g) l h =
    (h.0, grown_frame a rows _ k x g (row_of rows k x g.name.from l) h.1)

-- a frame in flight has its place in its table
there_in : (a : Algorithm) (rows : List Row) (n : Name) (b : BufferView) (c k : ℕ)
    → IsSomeAnd (flying_at b c k) (λ x. (x.name ≡ n) × IsGenuine a rows x) → HasPlace b.flying c k
there_in a rows n b c k h = has_place None b.flying c k
    (λ none. subst (λ (y : Option Frame). IsSomeAnd y (λ x. (x.name ≡ n) × IsGenuine a rows x)) none
    h)

-- only what is in flight has a frame there
flies_some : (a : Algorithm) (rows : List Row) (n : Name) (m : Mark) (frame : Frame)
    → Flies a rows n m (Some frame) → (frame.name ≡ n) × IsGenuine a rows frame
flies_some a rows n Unsent frame h = cc
flies_some a rows n Silent frame h = cc
flies_some a rows n (Released x) frame h = cc
flies_some a rows n Lost frame h = cc
flies_some a rows n Flying frame h = h

flies_on : (a : Algorithm) (rows : List Row) (n : Name) (m : Mark) (frame : Frame)
    → Flies a rows n m (Some frame) → m ≡ Flying
flies_on a rows n Unsent frame h = cc
flies_on a rows n Silent frame h = cc
flies_on a rows n (Released x) frame h = cc
flies_on a rows n Lost frame h = cc
flies_on a rows n Flying frame h = refl

-- the frame of a name that goes to those that wait
arrives : (a : Algorithm) (rows : List Row) (n : Name) (fs : List Frame) (o : Option Frame)
    → IsSomeAnd o (λ x. (x.name ≡ n) × IsGenuine a rows x)
    → (names_in (fs ++ option_to_list o) ≡ names_in fs ++ n ∷ [])
    × (All (IsGenuine a rows) fs → All (IsGenuine a rows) (fs ++ option_to_list o))
arrives a rows n fs None h = absurd h
arrives a rows n fs (Some g) h = (
  map-append (λ (x : Frame). x.name) fs (g ∷ [])
      ∙ ap (λ x. names_in fs ++ x ∷ []) h.0,
  λ all. All-push (IsGenuine a rows) fs g all h.1,
)

-- the frame that work is made into
frame_made_by : (p : Ready) (frame : Frame) (o : Option (List Value))
    → ◌≡◌ {A = Option Frame}
    (option_map (λ m. record {
      format = p.format;
      name = p.name;
      state = p.state;
      message = m;
    }) o) (Some frame)
    → (m : List Value) × (o ≡ Some m)
    × (frame ≡ record { format = p.format; name = p.name; state = p.state; message = m })
frame_made_by p frame None h = cc
frame_made_by p frame (Some m) h = (m, refl, cc)

frame_made : (p : Ready) (frame : Frame) → frame_of p ≡ Some frame
    → (m : List Value) × (p.message ≡ Some m)
    × (frame ≡ record { format = p.format; name = p.name; state = p.state; message = m })
frame_made p frame h = frame_made_by p frame p.message h

silence_by : (p : Ready) (o : Option (List Value))
    → ◌≡◌ {A = Option Frame}
    (option_map (λ m. record {
      format = p.format;
      name = p.name;
      state = p.state;
      message = m;
    }) o) None → o ≡ None
silence_by p None h = refl
silence_by p (Some m) h = cc

-- work that is no frame is silence
silence : (p : Ready) → frame_of p ≡ None → p.message ≡ None
silence p h = silence_by p p.message h

-- facts of the view hold of the fields
pub name_view : {P : Type 0} {s v : Recorded P} (n : Name) → s ≡ v → IsName v.log.setup n
    → IsName s.log.setup n
name_view {P} n e h = subst (λ (z : Recorded P). IsName z.log.setup n) (sym e) h

pub work_view : {P : Type 0} {s v : Recorded P} (p : Ready) → s ≡ v
    → IsPrepared (algorithm_of v.log.program v.log.setup) p
    → IsPrepared (algorithm_of s.log.program s.log.setup) p
work_view {P} p e h =
    subst (λ (z : Recorded P). IsPrepared (algorithm_of z.log.program z.log.setup) p) (sym e) h

pub fit_view : {P : Type 0} {s v : Recorded P} (start : P → ℕ → ℕ) (p : Ready) → s ≡ v
    → IsSendFit (start v.plan) v.log p → IsSendFit (start s.plan) s.log p
fit_view {P} start p e h = subst (λ (z : Recorded P). IsSendFit (start z.plan) z.log p) (sym e) h

pub place_view : {P : Type 0} {s v : Recorded P} (n : Name) (place : ℕ) → s ≡ v
    → place ≡ place_among v.log.setup.nodes n → place ≡ place_among s.log.setup.nodes n
place_view {P} n place e h = subst (λ (z : Recorded P). place ≡ place_among z.log.setup.nodes n)
    (sym e) h

-- a buffer of the run that is written over one of the run
runs_set : {p : ProgramTree} {s : Setup} (bs : List BufferView) (k : ℕ) (old new : BufferView)
    → k < length bs
    → old ≡ get_or bs k old → IsSameRun old new → All (IsOfRun p s) bs
    → All (IsOfRun p s) (set bs k new)
runs_set {p} {s} bs k old new l h r all =
    let was : IsOfRun p s old = subst (IsOfRun p s) (sym h) (all k old l) in
    All-set (IsOfRun p s) bs k new (record {
      program = r.program ∙ was.program;
      setup = r.setup
          ∙ was.setup;
    }) all

-- a run that begins has no frames
pub fits_open : (start : ℕ → ℕ) (p : ProgramTree) (s : Setup) (bs : List BufferView)
    → AreEmpty p s s.nodes bs → Fits start (opened p s) bs
unfolding buffer_of steps
fits_open start p s bs h = record {
  sized = h.sized;
  runs = h.runs;
  waiting = λ i l. ap names_in (buffer i l).1;
  genuine = λ i l. All-same (IsGenuine (algorithm_of p s) (opened p s).rows) _ [] (buffer i l).1
      (λ x y z. absurd (omega arith));
  flying = λ n a. flies_same (algorithm_of p s) (opened p s).rows n Unsent _ None _ (before n)
      (ap (λ (x : List (List (Option Frame))). read_at None x n.round (place_among s.nodes n))
      (buffer n.to a.to).0) refl;
}
  where
    buffer : (i : ℕ) → i < s.nodes → ((buffer_at bs i).flying ≡ [])
        × ((buffer_at bs i).waiting ≡ [])
    buffer i l = h.each i no_buffer (let z = h.sized in omega arith)

    before : (n : Name) → mark_in start (opened p s) n ≡ Unsent
    before n = mark_before (world_of start (opened p s)) [] n (omega arith)

-- one empty buffer more
pub empty_push : (p : ProgramTree) (s : Setup) (n : ℕ) (xs ys : List BufferView) (b : BufferView)
    → ys ≡ xs ++ b ∷ []
    → b.program ≡ p → b.setup ≡ s → b.flying ≡ [] → b.waiting ≡ [] → AreEmpty p s n xs
    → AreEmpty p s (n + 1) ys
empty_push p s n xs ys b e q r x y h = record {
  sized = ap length e ∙ length_push xs b ∙ ap (λ z. z + 1) h.sized;
  runs = All-same (IsOfRun p s) _ _ e
      (All-push (IsOfRun p s) xs b h.runs (record { program = q; setup = r }));
  each = All-same (λ (b : BufferView). (b.flying ≡ []) × (b.waiting ≡ [])) _ _ e
      (All-push (λ (b : BufferView). (b.flying ≡ []) × (b.waiting ≡ [])) xs b h.each (x, y));
}

module _ {start : ℕ → ℕ} {v : Log} {bs : List BufferView} (f : Fits start v bs) where
  -- a receive takes what waits for its node, and leaves all else
  pub fits_receive : (k : ℕ) (old new : BufferView) → k < v.setup.nodes → old ≡ get_or bs k old
      → IsSameRun old new → new.flying ≡ old.flying → new.waiting ≡ []
      → SameMarks start v (happened v (Step k)) → waiting_in start (happened v (Step k)) k ≡ []
      → SameWaitingBut start k v (happened v (Step k))
      → Fits start (happened v (Step k)) (set bs k new)
  fits_receive k old new l h r e d marks own others = record {
    sized = length-set bs k new ∙ f.sized;
    runs = runs_set bs k old new in_list h r f.runs;
    waiting = λ i m. waits i m (cases_eq i k);
    genuine = λ i m. each i m (cases_eq i k);
    flying = λ n a. flies_same _ _ n _ _ _ _ (marks n a) (flies n a (cases_eq n.to k))
        (f.flying n a);
  }
    where
      in_list : k < length bs
      in_list = let s = f.sized in omega arith

      waits : (i : ℕ) → i < v.setup.nodes → (i ≡ k) ⊎ (i ≡ k → ⊥)
          → names_in (buffer_at (set bs k new) i).waiting ≡ waiting_in start (happened v (Step k)) i
      waits i m (inl same) =
          rw same (ap (λ (b : BufferView). names_in b.waiting) (written_at bs k new in_list)
          ∙ ap names_in d ∙ sym own)
      waits i m (inr apart) = ap (λ (b : BufferView). names_in b.waiting)
          (written_off bs k i new apart) ∙ f.waiting i m ∙ sym (others i apart)

      each : (i : ℕ) → i < v.setup.nodes → (i ≡ k) ⊎ (i ≡ k → ⊥)
          → All (IsGenuine (algorithm_of v.program v.setup) v.rows)
          (buffer_at (set bs k new) i).waiting
      each i m (inl same) = All-same (IsGenuine (algorithm_of v.program v.setup) v.rows) _ []
          (ap (λ x. (buffer_at (set bs k new) x).waiting) same
          ∙ ap (λ (b : BufferView). b.waiting) (written_at bs k new in_list)
          ∙ d) (λ x y z. absurd (omega arith))
      each i m (inr apart) = All-same (IsGenuine (algorithm_of v.program v.setup) v.rows) _ _
          (ap (λ (b : BufferView). b.waiting) (written_off bs k i new apart)) (f.genuine i m)

      flies : (n : Name) → IsName v.setup n → (n.to ≡ k) ⊎ (n.to ≡ k → ⊥)
          → flying_at (buffer_at (set bs k new) n.to) n.round (place_among v.setup.nodes n)
          ≡ flying_at (buffer_at bs n.to) n.round (place_among v.setup.nodes n)
      flies n a (inl same) =
          let there : buffer_at (set bs k new) n.to ≡ new = ap (buffer_at (set bs k new)) same
          ∙ written_at bs k new in_list in
          let here : buffer_at bs n.to ≡ old = ap (buffer_at bs) same
          ∙ buffer_read bs k old in_list h in
          ap (λ (b : BufferView). flying_at b n.round (place_among v.setup.nodes n)) there
          ∙ ap (λ (x : List (List (Option Frame))). read_at None x n.round
          (place_among v.setup.nodes n)) e
          ∙ ap (λ (b : BufferView). flying_at b n.round (place_among v.setup.nodes n)) (sym here)
      flies n a (inr apart) =
          ap (λ (b : BufferView). flying_at b n.round (place_among v.setup.nodes n))
          (written_off bs k n.to new apart)

  -- an event that changes no message and no buffer
  pub fits_same : (e : Event) → SameMarks start v (happened v e)
      → SameWaiting start v (happened v e) → Fits start (happened v e) bs
  fits_same e marks waits = record {
    sized = f.sized;
    runs = f.runs;
    waiting = λ i m. f.waiting i m ∙ sym (waits i);
    genuine = f.genuine;
    flying = λ n a. flies_same _ _ n _ _ _ _ (marks n a) refl (f.flying n a);
  }

  -- one buffer that reads the same
  pub fits_kept : (k : ℕ) (old new : BufferView) → k < v.setup.nodes → old ≡ get_or bs k old
      → IsSameRun old new → SameTables None old.flying new.flying → new.waiting ≡ old.waiting
      → Fits start v (set bs k new)
  fits_kept k old new l h r e d = record {
    sized = length-set bs k new ∙ f.sized;
    runs = runs_set bs k old new in_list h r f.runs;
    waiting = λ i m. ap names_in (waits i (cases_eq i k)) ∙ f.waiting i m;
    genuine = λ i m. All-same (IsGenuine (algorithm_of v.program v.setup) v.rows) _ _
        (waits i (cases_eq i k)) (f.genuine i m);
    flying = λ n a. flies_same _ _ n _ _ _ _ refl (flies n (cases_eq n.to k)) (f.flying n a);
  }
    where
      in_list : k < length bs
      in_list = let s = f.sized in omega arith

      waits : (i : ℕ) → (i ≡ k) ⊎ (i ≡ k → ⊥)
          → (buffer_at (set bs k new) i).waiting ≡ (buffer_at bs i).waiting
      waits i (inl same) =
          ap (λ x. (buffer_at (set bs k new) x).waiting) same
          ∙ ap (λ (b : BufferView). b.waiting) (written_at bs k new in_list) ∙ d
          ∙ ap (λ (b : BufferView). b.waiting) (sym (buffer_read bs k old in_list h))
          ∙ ap (λ x. (buffer_at bs x).waiting) (sym same)
      waits i (inr apart) = ap (λ (b : BufferView). b.waiting) (written_off bs k i new apart)

      flies : (n : Name) → (n.to ≡ k) ⊎ (n.to ≡ k → ⊥)
          → flying_at (buffer_at (set bs k new) n.to) n.round (place_among v.setup.nodes n)
          ≡ flying_at (buffer_at bs n.to) n.round (place_among v.setup.nodes n)
      flies n (inl same) =
          let there : buffer_at (set bs k new) n.to ≡ new = ap (buffer_at (set bs k new)) same
          ∙ written_at bs k new in_list in
          let here : buffer_at bs n.to ≡ old = ap (buffer_at bs) same
          ∙ buffer_read bs k old in_list h in
          ap (λ (b : BufferView). flying_at b n.round (place_among v.setup.nodes n)) there
          ∙ e n.round (place_among v.setup.nodes n)
          ∙ ap (λ (b : BufferView). flying_at b n.round (place_among v.setup.nodes n)) (sym here)
      flies n (inr apart) =
          ap (λ (b : BufferView). flying_at b n.round (place_among v.setup.nodes n))
          (written_off bs k n.to new apart)

  -- one frame's place in flight is written, as the mark of its message is
  pub fits_mark : (e : Event) (n : Name) (old new : BufferView) (o : Option Frame)
      → IsName v.setup n → old ≡ get_or bs n.to old → IsSameRun old new
      → Puts None old.flying new.flying n.round (place_among v.setup.nodes n) o
      → SameMarksBut start n v (happened v e)
      → Flies (algorithm_of v.program v.setup) v.rows n (mark_in start (happened v e) n) o →
      names_in new.waiting ≡ waiting_in start (happened v e) n.to
      → All (IsGenuine (algorithm_of v.program v.setup) v.rows) new.waiting
      → SameWaitingBut start n.to v (happened v e) → Fits start (happened v e) (set bs n.to new)
  fits_mark e n old new o a h r puts marks own names genuine waits = record {
    sized = length-set bs n.to new ∙ f.sized;
    runs = runs_set bs n.to old new in_list h r f.runs;
    waiting = λ i m. wait i m (cases_eq i n.to);
    genuine = λ i m. each i m (cases_eq i n.to);
    flying = λ m b. flies m b (name_cases m n);
  }
    where
      in_list : n.to < length bs
      in_list = let s = f.sized in let t = a.to in omega arith

      wait : (i : ℕ) → i < v.setup.nodes → (i ≡ n.to) ⊎ (i ≡ n.to → ⊥)
          → names_in (buffer_at (set bs n.to new) i).waiting ≡ waiting_in start (happened v e) i
      wait i m (inl same) =
          rw same (ap (λ (b : BufferView). names_in b.waiting) (written_at bs n.to new in_list)
          ∙ names)
      wait i m (inr apart) = ap (λ (b : BufferView). names_in b.waiting)
          (written_off bs n.to i new apart) ∙ f.waiting i m ∙ sym (waits i apart)

      each : (i : ℕ) → i < v.setup.nodes → (i ≡ n.to) ⊎ (i ≡ n.to → ⊥)
          → All (IsGenuine (algorithm_of v.program v.setup) v.rows)
          (buffer_at (set bs n.to new) i).waiting
      each i m (inl same) = All-same (IsGenuine (algorithm_of v.program v.setup) v.rows) _ _
          (ap (λ x. (buffer_at (set bs n.to new) x).waiting) same
          ∙ ap (λ (b : BufferView). b.waiting) (written_at bs n.to new in_list)) genuine
      each i m (inr apart) = All-same (IsGenuine (algorithm_of v.program v.setup) v.rows) _ _
          (ap (λ (b : BufferView). b.waiting) (written_off bs n.to i new apart)) (f.genuine i m)

      off : (m : Name) → IsName v.setup m → (m ≡ n → ⊥) → (m.to ≡ n.to) ⊎ (m.to ≡ n.to → ⊥)
          → flying_at (buffer_at (set bs n.to new) m.to) m.round (place_among v.setup.nodes m)
          ≡ flying_at (buffer_at bs m.to) m.round (place_among v.setup.nodes m)
      off m b apart (inl same) =
          let new_is : buffer_at (set bs n.to new) m.to ≡ new =
          ap (buffer_at (set bs n.to new)) same ∙ written_at bs n.to new in_list in
          let old_is : buffer_at bs m.to ≡ old = ap (buffer_at bs) same
          ∙ buffer_read bs n.to old in_list h in
          ap (λ (x : BufferView). flying_at x m.round (place_among v.setup.nodes m)) new_is
          ∙ puts.others m.round (place_among v.setup.nodes m)
          (place_apart v.setup.nodes m n b.from a.from same apart)
          ∙ ap (λ (x : BufferView). flying_at x m.round (place_among v.setup.nodes m)) (sym old_is)
      off m b apart (inr other) =
          ap (λ (x : BufferView). flying_at x m.round (place_among v.setup.nodes m))
          (written_off bs n.to m.to new other)

      flies : (m : Name) → IsName v.setup m → (m ≡ n) ⊎ (m ≡ n → ⊥)
          → Flies (algorithm_of v.program v.setup) v.rows m (mark_in start (happened v e) m)
          (flying_at (buffer_at (set bs n.to new) m.to) m.round (place_among v.setup.nodes m))
      flies m b (inl same) =
          let P : Name
          → Type 0 = λ x. Flies (algorithm_of v.program v.setup) v.rows x
          (mark_in start (happened v e) x)
          (flying_at (buffer_at (set bs n.to new) x.to) x.round
          (place_among v.setup.nodes x)) in
          subst P (sym same) (flies_same _ _ n _ _ _ _ refl
          (ap (λ (x : BufferView). flying_at x n.round (place_among v.setup.nodes n))
          (written_at bs n.to new in_list) ∙ puts.there) own)
      flies m b (inr apart) = flies_same _ _ m _ _ _ _ (marks m b apart)
          (off m b apart (cases_eq m.to n.to)) (f.flying m b)

  -- silence flies nowhere
  pub fits_silent : (n : Name) → mark_in start v n ≡ Unsent
      → mark_in start (happened v (Step n.from)) n ≡ Silent
      → SameMarksBut start n v (happened v (Step n.from))
      → SameWaiting start v (happened v (Step n.from)) → Fits start (happened v (Step n.from)) bs
  fits_silent n before after marks waits = record {
    sized = f.sized;
    runs = f.runs;
    waiting = λ i m. f.waiting i m ∙ sym (waits i);
    genuine = f.genuine;
    flying = λ m b. flies m b (name_cases m n);
  }
    where
      flies : (m : Name) → IsName v.setup m → (m ≡ n) ⊎ (m ≡ n → ⊥)
          → Flies (algorithm_of v.program v.setup) v.rows m
          (mark_in start (happened v (Step n.from)) m)
          (flying_at (buffer_at bs m.to) m.round (place_among v.setup.nodes m))
      flies m b (inl same) =
          let slot = flying_at (buffer_at bs m.to) m.round (place_among v.setup.nodes m) in
          let was : mark_in start v m ≡ Unsent = ap (mark_in start v) same ∙ before in
          let is : mark_in start (happened v (Step n.from)) m ≡ Silent =
          ap (mark_in start (happened v (Step n.from))) same ∙ after in
          let none : slot ≡ None =
          flies_same (algorithm_of v.program v.setup) v.rows m _ Unsent _ slot (sym was) refl
          (f.flying m b) in
          flies_same (algorithm_of v.program v.setup) v.rows m Silent _ slot slot is refl none
      flies m b (inr apart) = flies_same _ _ m _ _ _ _ (marks m b apart) refl (f.flying m b)

  -- what is sent, or copied, flies
  pub fits_put : (e : Event) (n : Name) (frame : Frame) (old new : BufferView) → IsName v.setup n
      → frame.name ≡ n → IsGenuine (algorithm_of v.program v.setup) v.rows frame
      → old ≡ get_or bs n.to old → IsSameRun old new
      → Puts None old.flying new.flying n.round (place_among v.setup.nodes n) (Some frame)
      → new.waiting ≡ old.waiting → mark_in start (happened v e) n ≡ Flying
      → SameMarksBut start n v (happened v e) → SameWaiting start v (happened v e)
      → Fits start (happened v e) (set bs n.to new)
  fits_put e n frame old new a named genuine h r puts d flying marks waits =
      let a0 = algorithm_of v.program v.setup in
      let was : buffer_at bs n.to ≡ old = buffer_read bs n.to old (let s = f.sized in
      let t = a.to in omega arith) h in
      fits_mark e n old new (Some frame) a h r puts marks
      (flies_same a0 v.rows n Flying _ (Some frame) (Some frame) flying refl (named, genuine))
      (ap names_in d ∙ ap (λ (b : BufferView). names_in b.waiting) (sym was) ∙ f.waiting n.to a.to
      ∙ sym (waits n.to))
      (All-same (IsGenuine a0 v.rows) _ _ (d ∙ ap (λ (b : BufferView). b.waiting) (sym was))
      (f.genuine n.to a.to))
      (λ i apart. waits i)

  -- the frame of a copy in flight
  pub frame_there : (n : Name) (old : BufferView) → IsName v.setup n → IsFlying start v n
      → old ≡ get_or bs n.to old
      → IsSomeAnd (flying_at old n.round (place_among v.setup.nodes n)) (λ x. (x.name ≡ n)
      × IsGenuine (algorithm_of v.program v.setup) v.rows x)
  frame_there n old a fly h =
      let was : buffer_at bs n.to ≡ old = buffer_read bs n.to old (let s = f.sized in
      let t = a.to in omega arith) h in
      flies_same (algorithm_of v.program v.setup) v.rows n _ Flying _ _ (sym fly)
      (ap (λ (b : BufferView). flying_at b n.round (place_among v.setup.nodes n)) (sym was))
      (f.flying n a)

  -- a copy in flight goes to those that wait
  pub fits_move : (n : Name) (old new : BufferView) → IsName v.setup n → IsFlying start v n
      → old ≡ get_or bs n.to old → IsSameRun old new
      → Puts None old.flying new.flying n.round (place_among v.setup.nodes n) None
      → new.waiting ≡ old.waiting
      ++ option_to_list (flying_at old n.round (place_among v.setup.nodes n))
      → mark_in start (happened v (Release n)) n ≡ let_go
      (counted (world_of start v) (count_of v n.to)) (mark_in start v n)
      → SameMarksBut start n v (happened v (Release n))
      → waiting_in start (happened v (Release n)) n.to ≡ waiting_in start v n.to
      ++ arrival n (mark_in start v n) → SameWaitingBut start n.to v (happened v (Release n))
      → Fits start (happened v (Release n)) (set bs n.to new)
  fits_move n old new a fly h r puts d mark marks names waits =
      let a0 = algorithm_of v.program v.setup in
      let was : buffer_at bs n.to ≡ old = buffer_read bs n.to old (let s = f.sized in
      let t = a.to in omega arith) h in
      let there = frame_there n old a fly h in
      let released : mark_in start (happened v (Release n)) n
      ≡ Released (counted (world_of start v) (count_of v n.to)) = mark
      ∙ ap (let_go (counted (world_of start v) (count_of v n.to))) fly in
      let arrived = arrives a0 v.rows n old.waiting
      (flying_at old n.round (place_among v.setup.nodes n)) there in
      fits_mark (Release n) n old new None a h r puts marks
      (flies_same a0 v.rows n (Released (counted (world_of start v) (count_of v n.to))) _ None None
      released refl refl)
      (ap names_in d ∙ arrived.0
      ∙ ap (λ x. x ++ n ∷ []) (ap (λ (b : BufferView). names_in b.waiting) (sym was)
      ∙ f.waiting n.to a.to) ∙ ap (λ x. waiting_in start v n.to ++ arrival n x) (sym fly)
      ∙ sym names)
      (All-same (IsGenuine a0 v.rows) _ _ d
      (arrived.1 (All-same (IsGenuine a0 v.rows) _ _
      (ap (λ (b : BufferView). b.waiting) (sym was)) (f.genuine n.to a.to))))
      waits

  -- a copy in flight is lost
  pub fits_lost : (n : Name) (old new : BufferView) → IsName v.setup n → IsFlying start v n
      → old ≡ get_or bs n.to old → IsSameRun old new
      → Puts None old.flying new.flying n.round (place_among v.setup.nodes n) None
      → new.waiting ≡ old.waiting
      → mark_in start (happened v (Drop n)) n ≡ dropped (mark_in start v n)
      → SameMarksBut start n v (happened v (Drop n)) → SameWaiting start v (happened v (Drop n))
      → Fits start (happened v (Drop n)) (set bs n.to new)
  fits_lost n old new a fly h r puts d mark marks waits =
      let a0 = algorithm_of v.program v.setup in
      let was : buffer_at bs n.to ≡ old = buffer_read bs n.to old (let s = f.sized in
      let t = a.to in omega arith) h in
      let gone : mark_in start (happened v (Drop n)) n ≡ Lost = mark ∙ ap dropped fly in
      fits_mark (Drop n) n old new None a h r puts marks
      (flies_same a0 v.rows n Lost _ None None gone refl refl)
      (ap names_in d ∙ ap (λ (b : BufferView). names_in b.waiting) (sym was) ∙ f.waiting n.to a.to
      ∙ sym (waits n.to))
      (All-same (IsGenuine a0 v.rows) _ _ (d ∙ ap (λ (b : BufferView). b.waiting) (sym was))
      (f.genuine n.to a.to))
      (λ i apart. waits i)

  -- an event that leaves its copy's mark, and each other
  fits_idle : (e : Event) (n : Name) → mark_in start (happened v e) n ≡ mark_in start v n
      → SameMarksBut start n v (happened v e) → SameWaiting start v (happened v e)
      → Fits start (happened v e) bs
  fits_idle e n mark marks waits = fits_same e (λ m b. same m b (name_cases m n)) waits
    where
      same : (m : Name) → IsName v.setup m → (m ≡ n) ⊎ (m ≡ n → ⊥)
          → mark_in start (happened v e) m ≡ mark_in start v m
      same m b (inl is) = ap (mark_in start (happened v e)) is ∙ mark
          ∙ ap (mark_in start v) (sym is)
      same m b (inr apart) = marks m b apart

  -- what isn't in flight doesn't move
  pub fits_let_be : (n : Name) → (IsFlying start v n → ⊥)
      → mark_in start (happened v (Release n)) n ≡ let_go
      (counted (world_of start v) (count_of v n.to)) (mark_in start v n)
      → SameMarksBut start n v (happened v (Release n))
      → waiting_in start (happened v (Release n)) n.to ≡ waiting_in start v n.to
      ++ arrival n (mark_in start v n) → SameWaitingBut start n.to v (happened v (Release n))
      → Fits start (happened v (Release n)) bs
  fits_let_be n off mark marks names waits =
      fits_idle (Release n) n (mark
      ∙ let_go_idle (counted (world_of start v) (count_of v n.to)) (mark_in start v n) off)
      marks (λ i. wait i (cases_eq i n.to))
    where
      wait : (i : ℕ) → (i ≡ n.to) ⊎ (i ≡ n.to → ⊥)
          → waiting_in start (happened v (Release n)) i ≡ waiting_in start v i
      wait i (inl is) =
          ap (waiting_in start (happened v (Release n))) is ∙ names
          ∙ ap (λ x. waiting_in start v n.to ++ x) (arrival_idle n (mark_in start v n) off)
          ∙ append-nil (waiting_in start v n.to) ∙ ap (waiting_in start v) (sym is)
      wait i (inr apart) = waits i apart

  -- nor is it lost
  pub fits_not_lost : (n : Name) → (IsFlying start v n → ⊥)
      → mark_in start (happened v (Drop n)) n ≡ dropped (mark_in start v n)
      → SameMarksBut start n v (happened v (Drop n)) → SameWaiting start v (happened v (Drop n))
      → Fits start (happened v (Drop n)) bs
  fits_not_lost n off mark marks waits = fits_idle (Drop n) n (mark
      ∙ dropped_idle (mark_in start v n) off) marks waits

  -- what can't be copied isn't
  pub fits_not_made : (n : Name) → (CanCopy start v n → ⊥)
      → mark_in start (happened v (Copy n)) n ≡ copied (mark_in start v (original n))
      (mark_in start v n) → SameMarksBut start n v (happened v (Copy n))
      → SameWaiting start v (happened v (Copy n)) → Fits start (happened v (Copy n)) bs
  fits_not_made n off mark marks waits = fits_idle (Copy n) n (mark
      ∙ copied_idle (mark_in start v (original n)) (mark_in start v n) off) marks waits

  -- a closed round changes no frame
  pub fits_close : (n : NodeView) → n.me < v.setup.nodes → length v.rows ≡ v.setup.nodes
      → Fits start (closed v n) bs
  fits_close n l long = record {
    sized = f.sized;
    runs = f.runs;
    waiting = f.waiting;
    genuine = λ i m. λ k d x. grown_frame (algorithm_of v.program v.setup) v.rows
        (closed v n).rows n.me (end_state n) _ (row_of v.rows n.me (end_state n) _ (omega arith))
        (f.genuine i m k d x);
    flying = λ m b. grown_flies (algorithm_of v.program v.setup) v.rows n.me (end_state n) m
        (mark_in start v m) _ (omega arith) (f.flying m b);
  }

module _ {start : ℕ → ℕ} {v : Log} {bs : List BufferView} (f : Fits start v bs) where
  -- a send with its frame, from the room that was made for it
  pub fits_sent : (p : Ready) (n : Name) (o : Option Frame) (frame : Frame) (place : ℕ)
      (b0 b1 b2 b3 : BufferView) → n ≡ p.name → IsName v.setup p.name
      → IsPrepared (algorithm_of v.program v.setup) p → IsSendFit start v p
      → round_of v p.name.from ≡ p.name.round → place ≡ place_among v.setup.nodes n
      → b0 ≡ get_or bs n.to b0 → IsSameRun b0 b1 → SameTables None b0.flying b1.flying
      → b1.waiting ≡ b0.waiting → o ≡ frame_of p → o ≡ Some frame
      → b2 ≡ get_or (set bs n.to b1) n.to b2 → IsSameRun b2 b3
      → Puts None b2.flying b3.flying n.round place (Some frame) → b3.waiting ≡ b2.waiting
      → mark_in start (happened v (Step p.name.from)) p.name ≡ spoken p.message
      → SameMarksBut start p.name v (happened v (Step p.name.from))
      → SameWaiting start v (happened v (Step p.name.from))
      → Fits start (happened v (Step p.name.from)) (set (set bs n.to b1) n.to b3)
  fits_sent p n o frame place b0 b1 b2 b3 en a work fit round at h0 r0 same wait is some h2 r2 puts
      d mark marks waits =
      let a0 = algorithm_of v.program v.setup in
      let to : n.to ≡ p.name.to = ap (λ (x : Name). x.to) en in
      let made = frame_made p frame (sym is ∙ some) in
      let named : frame.name ≡ p.name = ap (λ (x : Frame). x.name) made.2 in
      let first = a.first in
      let genuine : IsGenuine a0 v.rows frame =
      subst (λ (x : Frame). IsGenuine a0 v.rows x) (sym made.2)
      (record {
        honest = record { says = work.says ∙ made.1; types = work.types };
        copy = a.copy;
        first = a.first;
        past = omega arith;
        own = fit.2;
      }) in
      let there : Puts None b2.flying b3.flying p.name.round (place_among v.setup.nodes p.name)
      (Some frame) =
      subst (λ (x : Name). Puts None b2.flying b3.flying x.round (place_among v.setup.nodes x)
      (Some frame)) en
      (subst (λ (z : ℕ). Puts None b2.flying b3.flying n.round z (Some frame)) at puts) in
      let done = fits_put (fits_kept f n.to b0 b1 (let t = a.to in omega arith) h0 r0 same wait)
      (Step p.name.from) p.name frame b2 b3 a named genuine
      (h2 ∙ ap (λ k. get_or (set bs n.to b1) k b2) to) r2 there d (mark
      ∙ ap spoken made.1) marks waits in
      subst (λ (k : ℕ). Fits start (happened v (Step p.name.from)) (set (set bs n.to b1) k b3))
      (sym to) done

  -- a send with silence, from the room that was made
  pub fits_hushed : (p : Ready) (n : Name) (o : Option Frame) (b0 b1 : BufferView) → n ≡ p.name
      → IsName v.setup p.name → b0 ≡ get_or bs n.to b0 → IsSameRun b0 b1
      → SameTables None b0.flying b1.flying → b1.waiting ≡ b0.waiting → o ≡ frame_of p → o ≡ None
      → mark_in start v p.name ≡ Unsent
      → mark_in start (happened v (Step p.name.from)) p.name ≡ spoken p.message
      → SameMarksBut start p.name v (happened v (Step p.name.from))
      → SameWaiting start v (happened v (Step p.name.from))
      → Fits start (happened v (Step p.name.from)) (set bs n.to b1)
  fits_hushed p n o b0 b1 en a h0 r0 same wait is none before mark marks waits =
      let to : n.to ≡ p.name.to = ap (λ (x : Name). x.to) en in
      fits_silent (fits_kept f n.to b0 b1 (let t = a.to in omega arith) h0 r0 same wait) p.name
      before (mark ∙ ap spoken (silence p (sym is ∙ none))) marks waits

  -- a release of what is in flight, from the room that was made
  pub fits_moved : (n : Name) (place : ℕ) (b0 b1 b2 b3 : BufferView) → IsName v.setup n
      → IsFlying start v n → place ≡ place_among v.setup.nodes n → b0 ≡ get_or bs n.to b0
      → IsSameRun b0 b1 → b1.flying ≡ b0.flying → b1.waiting ≡ b0.waiting
      → b2 ≡ get_or (set bs n.to b1) n.to b2 → IsSameRun b2 b3
      → Puts None b2.flying b3.flying n.round place None
      → b3.waiting ≡ b2.waiting ++ option_to_list (flying_at b2 n.round place)
      → mark_in start (happened v (Release n)) n ≡ let_go
      (counted (world_of start v) (count_of v n.to)) (mark_in start v n)
      → SameMarksBut start n v (happened v (Release n))
      → waiting_in start (happened v (Release n)) n.to ≡ waiting_in start v n.to
      ++ arrival n (mark_in start v n) → SameWaitingBut start n.to v (happened v (Release n))
      → Fits start (happened v (Release n)) (set (set bs n.to b1) n.to b3)
  fits_moved n place b0 b1 b2 b3 a fly at h0 r0 same wait h2 r2 e d mark marks names waits =
      let kept = fits_kept f n.to b0 b1 a.to h0 r0
      (λ c k. ap (λ (x : List (List (Option Frame))). read_at None x c k) same) wait in
      fits_move kept n b2 b3 a fly h2 r2
      (subst (λ (z : ℕ). Puts None b2.flying b3.flying n.round z None) at e) (d
      ∙ ap (λ k. b2.waiting ++ option_to_list (flying_at b2 n.round k)) at) mark marks names
      waits

  -- the place of what is in flight is in its table
  pub room_there : (n : Name) (place : ℕ) (b0 b1 b2 : BufferView) → IsName v.setup n
      → IsFlying start v n → place ≡ place_among v.setup.nodes n → b0 ≡ get_or bs n.to b0
      → IsSameRun b0 b1 → b1.flying ≡ b0.flying → b1.waiting ≡ b0.waiting
      → b2 ≡ get_or (set bs n.to b1) n.to b2 → HasPlace b2.flying n.round place
  room_there n place b0 b1 b2 a fly at h0 r0 same wait h2 =
      let kept = fits_kept f n.to b0 b1 a.to h0 r0
      (λ c k. ap (λ (x : List (List (Option Frame))). read_at None x c k) same) wait in
      subst (λ (z : ℕ). HasPlace b2.flying n.round z) (sym at)
      (there_in (algorithm_of v.program v.setup) v.rows n b2 n.round
      (place_among v.setup.nodes n) (frame_there kept n b2 a fly h2))

  pub room_here : (n : Name) (place : ℕ) (b : BufferView) → IsName v.setup n → IsFlying start v n
      → place ≡ place_among v.setup.nodes n → b ≡ get_or bs n.to b → HasPlace b.flying n.round place
  room_here n place b a fly at h =
      subst (λ (z : ℕ). HasPlace b.flying n.round z) (sym at)
      (there_in (algorithm_of v.program v.setup) v.rows n b n.round
      (place_among v.setup.nodes n) (frame_there f n b a fly h))

  -- what stands in flight at the place of a name is its frame
  flies_read : (n : Name) (place : ℕ) (b : BufferView) (frame : Frame) → IsName v.setup n
      → place ≡ place_among v.setup.nodes n → b ≡ get_or bs n.to b
      → flying_at b n.round place ≡ Some frame
      → Flies (algorithm_of v.program v.setup) v.rows n (mark_in start v n) (Some frame)
  flies_read n place b frame a at h is =
      let was : buffer_at bs n.to ≡ b = buffer_read bs n.to b (let s = f.sized in let t = a.to in
      omega arith) h in
      let there : flying_at (buffer_at bs n.to) n.round (place_among v.setup.nodes n) ≡ Some frame =
      ap (λ (x : BufferView). flying_at x n.round (place_among v.setup.nodes n)) was
      ∙ ap (flying_at b n.round) (sym at) ∙ is in
      flies_same (algorithm_of v.program v.setup) v.rows n (mark_in start v n) (mark_in start v n) _
      (Some frame) refl (sym there) (f.flying n a)

  pub flight_read : (n : Name) (place : ℕ) (b : BufferView) (frame : Frame) → IsName v.setup n
      → place ≡ place_among v.setup.nodes n → b ≡ get_or bs n.to b
      → flying_at b n.round place ≡ Some frame
      → (frame.name ≡ n) × IsGenuine (algorithm_of v.program v.setup) v.rows frame
  flight_read n place b frame a at h is =
      flies_some (algorithm_of v.program v.setup) v.rows n (mark_in start v n) frame
      (flies_read n place b frame a at h is)

  pub flight_on : (n : Name) (place : ℕ) (b : BufferView) (frame : Frame) → IsName v.setup n
      → place ≡ place_among v.setup.nodes n → b ≡ get_or bs n.to b
      → flying_at b n.round place ≡ Some frame → IsFlying start v n
  flight_on n place b frame a at h is =
      flies_on (algorithm_of v.program v.setup) v.rows n (mark_in start v n) frame
      (flies_read n place b frame a at h is)

  -- the frame of a copy, from that of copy 0
  pub copy_read : (n : Name) (place : ℕ) (b : BufferView) (first frame : Frame) → IsName v.setup n
      → place ≡ place_among v.setup.nodes (original n) → b ≡ get_or bs n.to b
      → flying_at b n.round place ≡ Some first → frame ≡ copied_as n.copy first
      → (frame.name ≡ n) × IsGenuine (algorithm_of v.program v.setup) v.rows frame
  copy_read n place b first frame a at h is made =
      let found = flight_read (original n) place b first
      (original_named v.setup.nodes v.setup.rounds n a) at h is in
      let g = found.1 in (
        ap (λ (x : Frame). x.name) made ∙ ap (λ (x : Name). record x { copy = n.copy }) found.0,
        subst (λ (x : Frame). IsGenuine (algorithm_of v.program v.setup) v.rows x) (sym made)
            (record {
              honest = record { says = g.honest.says; types = g.honest.types };
              copy = a.copy;
              first = g.first;
              past = g.past;
              own = g.own;
            }),
      )

  pub original_on : (n : Name) (place : ℕ) (b : BufferView) (first : Frame) → IsName v.setup n
      → place ≡ place_among v.setup.nodes (original n) → b ≡ get_or bs n.to b
      → flying_at b n.round place ≡ Some first → IsFlying start v (original n)
  original_on n place b first a at h is =
      flight_on (original n) place b first (original_named v.setup.nodes v.setup.rounds n a) at h is

  -- a copy of what is in flight, from the room that was made
  pub fits_made : (n : Name) (frame : Frame) (place : ℕ) (b0 b1 b2 b3 : BufferView)
      → IsName v.setup n → CanCopy start v n → frame.name ≡ n
      → IsGenuine (algorithm_of v.program v.setup) v.rows frame
      → place ≡ place_among v.setup.nodes n → b0 ≡ get_or bs n.to b0 → IsSameRun b0 b1
      → SameTables None b0.flying b1.flying → b1.waiting ≡ b0.waiting
      → b2 ≡ get_or (set bs n.to b1) n.to b2 → IsSameRun b2 b3
      → Puts None b2.flying b3.flying n.round place (Some frame) → b3.waiting ≡ b2.waiting
      → mark_in start (happened v (Copy n)) n ≡ copied (mark_in start v (original n))
      (mark_in start v n) → SameMarksBut start n v (happened v (Copy n))
      → SameWaiting start v (happened v (Copy n))
      → Fits start (happened v (Copy n)) (set (set bs n.to b1) n.to b3)
  fits_made n frame place b0 b1 b2 b3 a fit named genuine at h0 r0 same wait h2 r2 puts d mark marks
      waits =
      let now = copied_now (mark_in start v (original n)) (mark_in start v n) fit.0 fit.1 in
      fits_put (fits_kept f n.to b0 b1 a.to h0 r0 same wait)
      (Copy n) n frame b2 b3 a named genuine h2 r2
      (subst (λ (z : ℕ). Puts None b2.flying b3.flying n.round z (Some frame)) at puts) d
      (mark ∙ ap (λ (b : Bool). if b then Flying else mark_in start v n) now) marks waits

-- the frame of prepared work says what its state sends
pub prepared_spells : (a : Algorithm) (p : Ready) (o : Option Frame) (frame : Frame)
    → IsPrepared a p → o ≡ frame_of p → o ≡ Some frame → IsHonest a frame
prepared_spells a p o frame work is some =
    let made = frame_made p frame (sym is ∙ some) in
    subst (IsHonest a) (sym made.2) (record { says = work.says ∙ made.1; types = work.types })

-- what is honest in a run is so in a buffer of it
pub spells_of_run : (p : ProgramTree) (s : Setup) (b : BufferView) (frame : Frame) → IsOfRun p s b
    → IsHonest (algorithm_of p s) frame → IsHonest (run_of b) frame
spells_of_run p s b frame of said =
    subst (λ x. IsHonest (algorithm_of x b.setup) frame) (sym of.program)
    (subst (λ x. IsHonest (algorithm_of p x) frame) (sym of.setup) said)

pub run_spells : {start : ℕ → ℕ} {v : Log} {bs : List BufferView} → Fits start v bs
    → (k : ℕ) (b : BufferView) (frame : Frame)
    → k < v.setup.nodes → b ≡ get_or bs k b → IsHonest (algorithm_of v.program v.setup) frame
    → IsHonest (run_of b) frame
run_spells {start} {v} {bs} f k b frame l h said =
    spells_of_run v.program v.setup b frame
    (subst (IsOfRun v.program v.setup) (sym h) (f.runs k b (let s = f.sized in omega arith)))
    said

-- also if room was made in it
pub run_honest_kept : {start : ℕ → ℕ} {v : Log} {bs : List BufferView} → Fits start v bs
    → (k : ℕ) (b0 b1 b2 : BufferView) (frame : Frame)
    → k < v.setup.nodes → b0 ≡ get_or bs k b0 → IsSameRun b0 b1 → b2 ≡ get_or (set bs k b1) k b2
    → IsHonest (algorithm_of v.program v.setup) frame → IsHonest (run_of b2) frame
run_honest_kept {start} {v} {bs} f k b0 b1 b2 frame l h r h2 said =
    let is : b2 ≡ b1 = h2 ∙ get_or-set_same bs k b1 b2 (let s = f.sized in omega arith) in
    let was = run_spells f k b0 frame l h said in
    subst (λ (b : BufferView). IsHonest (run_of b) frame) (sym is)
    (spells_of_run b0.program b0.setup b1 frame (record { program = r.program; setup = r.setup })
    was)
