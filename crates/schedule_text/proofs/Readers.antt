-- What is read piece by piece is read as a whole.
use Rattle.std.proofs.Common.{◌≡◌, ℕ, ◌+◌, ◌-◌, ◌<◌, ◌≤◌, Bool, true, false, cond, List, [], ◌++◌}
use Rattle.std.proofs.Common.{length, take, drop, Option, None, Some, Result, Ok, Err, IfSome, IfOk}
use Rattle.std.proofs.Common.{IfErr, OnOk}
use Rattle.std.proofs.Common.{IsUtf8, refl, sym, ap, subst, ◌∙◌, arith, append_assoc, length-append}
use Rattle.std.proofs.Common.{drop_of_length-le, le-ltb, length-take, take-append-drop}
use Rattle.std.proofs.lemmas.List.{append-nil, take_at}
use Rattle.std.proofs.lemmas.Str.{IsUtf8-append, IsUtf8-nil}
use Rattle.std.specs.Global.{Vec}
use Rattle.std.specs.Str.Lines.{lines}
use Rattle.round_meaning.specs.declared.setup.Setup.{Setup}
use Rattle.run_events.specs.declared.plan_kind.PlanKind.{PlanKind}
use Rattle.run_events.specs.declared.event.Event.{Event}
use Rattle.schedule_text.specs.Bytes.{BeginsUtf8, IsNoText, IsText}
use Rattle.schedule_text.specs.Intakes.{EndsIntake, HasNoEvents, IsFresh, IsLongFault, TakesLines}
use Rattle.schedule_text.specs.Intakes.{header_in, said, says, without_events}
use Rattle.schedule_text.specs.Outcome.{state_of}
use Rattle.schedule_text.specs.Readers.{AdvancesTo, EndsAs, GoesOn, HasRead, IsAhead, IsAll}
use Rattle.schedule_text.specs.Readers.{HasReadHeader, IsBegun, IsOf, IsRefusedAhead, IsRefusedAs}
use Rattle.schedule_text.specs.Readers.{Reading, behind, last_events}
use Rattle.schedule_text.specs.Readings.{Answer, IsReadingOf}
use Rattle.schedule_text.specs.Sources.{Adds, IsNoSchedule, IsScheduleText, fault_of}
use Rattle.schedule_text.specs.Stages.{State, answer_of, from_line, start}
use Rattle.schedule_text.specs.Texts.{max_text}
use Rattle.schedule_text.specs.declared.draft.Draft.{Draft}
use Rattle.schedule_text.specs.declared.fault.ScheduleFault.TheVariants as schedule
use Rattle.schedule_text.specs.declared.intake.Intake.{Intake}
use Rattle.schedule_text.specs.declared.kind.Kind.TheVariants.{Schedule as schedules}
use Rattle.schedule_text.specs.declared.source.SourceFault.{SourceFault}
use Rattle.schedule_text.specs.declared.source.SourceFault.TheVariants as source
use Rattle.schedule_text.specs.declared.source.TextFault.{TextFault}
use Rattle.schedule_text.specs.declared.source.TextFault.TheVariants as fault
use Rattle.schedule_text.proofs.Drained.{says_behind, says_header}
use Rattle.schedule_text.proofs.Sound.{sound}
use Rattle.schedule_text.proofs.Utf8.{begins_all, begins_behind, utf8_behind}

-- an answer is for this header
abbrev IsFor : Option (Setup × PlanKind) → Answer → Type 0
IsFor o answer = IfOk answer (λ (x : Setup × PlanKind × List Event). IsOf o x.0 x.1)

for_any : (answer : Answer) → IsFor None answer
for_any (Ok x) = tt
for_any (Err e) = tt

behind_none : (answer : Answer) → answer ≡ behind [] answer
behind_none (Ok x) = refl
behind_none (Err e) = refl

behind_both : (es fs : List Event) (answer : Answer)
    → behind es (behind fs answer) ≡ behind (es ++ fs) answer
behind_both es fs (Ok x) = ap (λ (all : List Event). Ok (x.0, x.1, all))
    (sym (append_assoc es fs x.2))
behind_both es fs (Err e) = refl

for_behind : (o : Option (Setup × PlanKind)) (es : List Event) (answer : Answer)
    → IsFor o (behind es answer) → IsFor o answer
for_behind o es (Ok x) h = h
for_behind o es (Err e) h = tt

-- a reader before the first line
pub none_ahead : (held : List ℕ) (r : Reading) → r.left ≡ Some held → IsFresh r.intake → r.count ≡ 0
    → IsAhead held None [] r
none_ahead held r left fresh none = let i = r.intake in record {
  done = [];
  rest = held;
  left-is = left;
  parts = sym (ap (λ b. b ++ held) fresh.bytes);
  utf8 = IsUtf8-nil;
  counted = omega (arith, ap length fresh.bytes, none);
  same = λ t.
      ap (λ (s : State). from_line schedules 1 s (lines t)) (sym fresh.state)
      ∙ ap (λ (k : ℕ). from_line schedules k (state_of i.reader.draft) (lines t)) (sym fresh.number)
      ∙ sym (ap (λ f. says i.reader f (lines t)) fresh.fault) ∙ behind_none (said i (lines t));
  headed = λ t. for_any (said i (lines t));
}

module _ {held : List ℕ} {o : Option (Setup × PlanKind)} {before : List Event} {r : Reading}
    (a : IsAhead held o before r) where
  -- the bytes that the source adds
  module _ (most : ℕ) (after : Option (List ℕ)) (new : Vec ℕ)
      (h : IfSome r.left (λ were. Adds most were after r.intake.bytes.items new.items)) where
    added : Adds most a.rest after r.intake.bytes.items new.items
    added = subst (λ x. IfSome x (λ were. Adds most were after r.intake.bytes.items new.items))
        a.left-is h

    longer : length new.items ≡ length r.intake.bytes.items + length (take most a.rest)
    longer = ap length added.0 ∙ length-append r.intake.bytes.items (take most a.rest)

    pub more_ahead : (count : ℕ) (b : Bool)
        → count ≡ r.count + (length new.items - length r.intake.bytes.items)
        → IsAhead held o before (record {
          left = after;
          intake = record r.intake { bytes = new };
          count = count;
          is_ended = b;
        })
    more_ahead count b is = record {
      done = a.done;
      rest = drop most a.rest;
      left-is = added.1;
      parts =
          a.parts ∙ ap (λ x. a.done ++ (r.intake.bytes.items ++ x))
          (sym (take-append-drop most a.rest))
          ∙ ap (λ b. a.done ++ b)
          (sym (append_assoc r.intake.bytes.items (take most a.rest) (drop most a.rest)))
          ∙ ap (λ b. a.done ++ (b ++ drop most a.rest)) (sym added.0);
      utf8 = a.utf8;
      counted = let c = a.counted in let l = longer in omega (arith, c, l, is);
      same = a.same;
      headed = a.headed;
    }

    pub at_most : length new.items - length r.intake.bytes.items ≤ most
    at_most = let l = longer in omega (arith, l, length-take most a.rest)

    -- fewer bytes than were asked for are the last
    pub at_end : length new.items - length r.intake.bytes.items < most → after ≡ Some []
    at_end few =
        let l = longer in
        added.1 ∙ ap (λ r. Some r)
        (drop_of_length-le a.rest (omega (arith, l, few, length-take most a.rest)))

  -- whole lines are taken in
  pub taken_ahead : (j : Intake) (b : Bool) → TakesLines r.intake j
      → IsAhead held o before (record r { intake = j; is_ended = b })
  taken_ahead j b t = record {
    done = a.done ++ t.front;
    rest = a.rest;
    left-is = a.left-is;
    parts =
        a.parts ∙ ap (λ b. a.done ++ (b ++ a.rest)) t.parts
        ∙ ap (λ b. a.done ++ b) (append_assoc t.front j.bytes.items a.rest)
        ∙ sym (append_assoc a.done t.front (j.bytes.items ++ a.rest));
    utf8 = IsUtf8-append a.done t.front a.utf8 t.utf8;
    counted =
        let c = a.counted in
        omega (
          arith,
          c,
          ap length t.parts,
          length-append t.front j.bytes.items,
          length-append a.done t.front,
        );
    same = λ u.
        ap (λ b. from_line schedules 1 start (lines b)) (append_assoc a.done t.front u)
        ∙ a.same (t.front ++ u) ∙ ap (behind before) (t.same u);
    headed = λ u. subst (IsFor o) (t.same u) (a.headed (t.front ++ u));
  }

  -- the events are taken away
  pub cleared_ahead : (b : Bool)
      → IsAhead held o (before ++ last_events r)
      (record r {
        intake = record r.intake { reader = without_events r.intake.reader };
        is_ended = b;
      })
  cleared_ahead b = let i = r.intake in record {
    done = a.done;
    rest = a.rest;
    left-is = a.left-is;
    parts = a.parts;
    utf8 = a.utf8;
    counted = a.counted;
    same = λ t.
        a.same t ∙ ap (behind before) (says_behind i.reader i.fault (lines t))
        ∙ behind_both before (last_events r) (says (without_events i.reader) i.fault (lines t));
    headed = λ t.
        for_behind o (last_events r) (says (without_events i.reader) i.fault (lines t))
        (subst (IsFor o) (says_behind i.reader i.fault (lines t)) (a.headed t));
  }

  -- the header is whole
  pub headed_ahead : (h : Setup × PlanKind) → header_in r.intake.reader.draft ≡ Some h
      → IsAhead held (Some h) before r
  headed_ahead h whole = let i = r.intake in record {
    done = a.done;
    rest = a.rest;
    left-is = a.left-is;
    parts = a.parts;
    utf8 = a.utf8;
    counted = a.counted;
    same = a.same;
    headed = λ t. says_header h i.reader i.fault (lines t) whole;
  }

-- the lines of a text that isn't too long give its reading
answered : (held : List ℕ) → length held ≤ max_text
    → answer_of schedules held ≡ from_line schedules 1 start (lines held)
unfolding answer_of
answered held short =
    ap (λ b. cond b (Err schedule.TooLong) (from_line schedules 1 start (lines held)))
    (le-ltb max_text (length held) short)

reading : (held : List ℕ) (said : Answer) → length held ≤ max_text
    → from_line schedules 1 start (lines held) ≡ said → IsReadingOf schedules held said
reading held said short is = subst (λ (r : Answer). IsReadingOf schedules held r)
    (answered held short ∙ is) (sound schedules held)

some_same : {x y : List ℕ} → Some x ≡ Some y → x ≡ y
some_same e = cc

module _ {held : List ℕ} {o : Option (Setup × PlanKind)} {before : List Event} {r : Reading}
    (a : IsAhead held o before r) (none : r.left ≡ Some []) (short : r.count ≤ max_text) where
  abbrev bytes : List ℕ
  bytes = r.intake.bytes.items

  whole : held ≡ a.done ++ bytes
  whole =
      let none : [] ≡ a.rest = some_same (sym none ∙ a.left-is) in
      a.parts ∙ ap (λ r. a.done ++ (bytes ++ r)) (sym none)
      ∙ ap (λ b. a.done ++ b) (append-nil bytes)

  fits : length held ≤ max_text
  fits = let c = a.counted in omega (arith, c, short, ap length whole, length-append a.done bytes)

  all_said : (answer : Answer) → said r.intake (lines bytes) ≡ answer
      → from_line schedules 1 start (lines held) ≡ behind before answer
  all_said answer is = ap (λ b. from_line schedules 1 start (lines b)) whole ∙ a.same bytes
      ∙ ap (behind before) is

  is_text : IsUtf8 bytes → IsText max_text held
  is_text u = record {
    short = fits;
    utf8 = subst IsUtf8 (sym whole) (IsUtf8-append a.done bytes a.utf8 u);
  }

  is_none : ¬ (IsUtf8 bytes) → IsNoText max_text held
  is_none none = (
    λ t. none (utf8_behind a.done bytes a.utf8 (subst IsUtf8 whole t.utf8)),
    λ t. let long : max_text < length held = t.long in absurd (omega (arith, long, fits)),
  )

  -- the whole text is read
  pub read_whole : (h : Setup × PlanKind) (es : List Event) → IsUtf8 bytes
      → said r.intake (lines bytes) ≡ Ok (h.0, h.1, es)
      → IsOf o h.0 h.1 × IsScheduleText held h.0 h.1 (before ++ es)
  read_whole h es u is = (
    subst (IsFor o) is (a.headed bytes),
    (is_text u, reading held (Ok (h.0, h.1, before ++ es)) fits (all_said (Ok (h.0, h.1, es)) is)),
  )

  pub refused_whole : (e : TextFault) (d : Draft)
      → EndsIntake (Err e) bytes (said r.intake (lines bytes)) d → IsNoSchedule (Some held) e
  refused_whole fault.Failed d g = absurd g
  refused_whole fault.NotUtf8 d g = is_none g
  refused_whole (fault.Schedule schedule.NoMemory) d g = tt
  refused_whole (fault.Schedule schedule.TooLong) d g =
      let long : max_text < length held =
      reading held (Err schedule.TooLong) fits (all_said (Err schedule.TooLong) g.1) in
      absurd (omega (arith, long, fits))
  refused_whole (fault.Schedule (schedule.BadLine n)) d g = (
    is_text g.0,
    reading held (Err (schedule.BadLine n)) fits
        (all_said (Err (schedule.BadLine n)) g.1),
  )
  refused_whole (fault.Schedule (schedule.NumberTooLarge n)) d g = (
    is_text g.0,
    reading held (Err (schedule.NumberTooLarge n)) fits
        (all_said (Err (schedule.NumberTooLarge n)) g.1),
  )

module _ {held : List ℕ} {o : Option (Setup × PlanKind)} {before : List Event} {r : Reading}
    (a : IsAhead held o before r) (full : r.count ≡ max_text + 1) where
  seen : take (max_text + 1) held ≡ a.done ++ r.intake.bytes.items
  seen =
      let c = a.counted in
      let behind : held ≡ (a.done ++ r.intake.bytes.items) ++ a.rest = a.parts
      ∙ sym (append_assoc a.done r.intake.bytes.items a.rest) in
      ap (take (max_text + 1)) behind
      ∙ take_at (a.done ++ r.intake.bytes.items) a.rest (max_text + 1)
      (omega (arith, c, full, length-append a.done r.intake.bytes.items))

  over : max_text < length held
  over =
      let c = a.counted in
      omega (
        arith,
        c,
        full,
        ap length a.parts,
        length-append a.done (r.intake.bytes.items ++ a.rest),
        length-append r.intake.bytes.items a.rest,
      )

  -- a text that is too long
  pub refused_long : (e : TextFault) → IsLongFault r.intake.bytes.items e
      → IsNoSchedule (Some held) e
  refused_long fault.Failed g = absurd g
  refused_long fault.NotUtf8 g = (
    λ t. let short : length held ≤ max_text = t.short in absurd (omega (arith, short, over)),
    λ t. g (begins_behind a.done r.intake.bytes.items a.utf8 (subst BeginsUtf8 seen t.utf8)),
  )
  refused_long (fault.Schedule schedule.TooLong) g =
      record {
        long = over;
        utf8 = subst BeginsUtf8 (sym seen) (begins_all a.done r.intake.bytes.items a.utf8 g);
      }
  refused_long (fault.Schedule schedule.NoMemory) g = absurd g
  refused_long (fault.Schedule (schedule.BadLine n)) g = absurd g
  refused_long (fault.Schedule (schedule.NumberTooLarge n)) g = absurd g

-- where the source fails it says nothing
pub refused_source : (r : Reading) (e : SourceFault) → (e ≡ source.Failed → r.left ≡ None)
    → IsRefusedAhead r (fault_of e)
refused_source r source.Failed none held o before a = absurd (is_some (sym a.left-is ∙ none refl))
  where
    is_some : {rest : List ℕ} → Some rest ≡ None → ⊥
    is_some e = cc
refused_source r source.NoMemory none held o before a = tt

-- of a source that says nothing any fault will do
pub refused_unknown : (e : TextFault) → IsNoSchedule None e
refused_unknown fault.Failed = refl
refused_unknown fault.NotUtf8 = tt
refused_unknown (fault.Schedule schedule.TooLong) = tt
refused_unknown (fault.Schedule schedule.NoMemory) = tt
refused_unknown (fault.Schedule (schedule.BadLine n)) = tt
refused_unknown (fault.Schedule (schedule.NumberTooLarge n)) = tt

-- the reader is opened
pub opened : (held : List ℕ) (old new : Reading) (h : Setup × PlanKind)
    → header_in new.intake.reader.draft ≡ Some h → IsAhead held None [] old
    → (new.is_ended ≡ false → GoesOn old new) → (new.is_ended ≡ true → EndsAs old new)
    → HasReadHeader held h.0 h.1 new
opened held old new h whole a goes ends = record {
  before = [];
  parts = refl;
  ahead = λ f. headed_ahead (goes f held None [] a) h whole;
  whole = λ t.
      let e = ends t in
      subst (λ (g : Setup × PlanKind). IsScheduleText held g.0 g.1 (last_events new))
      (same_header (sym e.whole ∙ whole)) (e.ended held None [] a).1;
}
  where
    same_header : {g h : Setup × PlanKind} → Some g ≡ Some h → g ≡ h
    same_header e = cc

-- what was read before the events were taken away
cleared : (held : List ℕ) (s : Setup) (k : PlanKind) (events : List Event) (r : Reading)
    (j : Intake) → HasRead held s k events r → r.is_ended ≡ false → HasNoEvents r.intake j
    → IsAhead held (Some (s, k)) events (record r { intake = j })
cleared held s k events r j has goes none =
    subst (λ (es : List Event). IsAhead held (Some (s, k)) es (record r { intake = j }))
    (sym has.parts)
    (subst (λ (i : Intake). IsAhead held (Some (s, k)) (has.before ++ last_events r)
    (record r { intake = i })) (sym none) (cleared_ahead (has.ahead goes) r.is_ended))

pub advanced : (old new : Reading) (j : Intake) → old.is_ended ≡ false → HasNoEvents old.intake j
    → (new.is_ended ≡ false → GoesOn (record old { intake = j }) new)
    → (new.is_ended ≡ true → EndsAs (record old { intake = j }) new) → AdvancesTo old new
advanced old new j goes none on ends held s k events has =
    let a = cleared held s k events old j has goes none in record {
      before = events;
      parts = refl;
      ahead = λ f. on f held (Some (s, k)) events a;
      whole = λ t.
          let e = ends t in
          let last = e.ended held (Some (s, k)) events a in
          subst (λ (k : PlanKind). IsScheduleText held s k (events ++ last_events new)) last.0.1
          (subst (λ (s : Setup). IsScheduleText held s e.header.1 (events ++ last_events new))
          last.0.0 last.1);
    }

pub refused_behind : (old : Reading) (j : Intake) (e : TextFault) → old.is_ended ≡ false
    → HasNoEvents old.intake j → IsRefusedAhead (record old { intake = j }) e → IsRefusedAs old e
refused_behind old j e goes none refused held s k events has =
    refused held (Some (s, k)) events (cleared held s k events old j has goes none)

pub read_all : (r : Reading) → r.is_ended ≡ true → IsAll r
read_all r ends held s k events has = has.whole ends

-- whatever was read, these events were read behind it
pub record ReadsOn (old new : Reading) : Type 0 where
  pub more : List Event
  pub read : (held : List ℕ) (s : Setup) (k : PlanKind) (events : List Event)
      → HasRead held s k events old → HasRead held s k (events ++ more) new

pub reads_nothing : (r : Reading) → ReadsOn r r
reads_nothing r = record {
  more = [];
  read = λ held s k events has. subst (λ (es : List Event). HasRead held s k es r)
      (sym (append-nil events)) has;
}

pub reads_more : (old mid new : Reading) → ReadsOn old mid → AdvancesTo mid new → ReadsOn old new
reads_more old mid new reads on = record {
  more = reads.more ++ last_events new;
  read = λ held s k events has.
      subst (λ (es : List Event). HasRead held s k es new)
      (append_assoc events reads.more (last_events new))
      (on held s k (events ++ reads.more) (reads.read held s k events has));
}

pub reads_all : (old new : Reading) → ReadsOn old new → IsAll new → IsBegun old
reads_all old new reads all = record {
  more = reads.more;
  whole = λ held s k events has. all held s k (events ++ reads.more)
      (reads.read held s k events has);
}

pub reads_refused : (old new : Reading) (e : TextFault) → ReadsOn old new → IsRefusedAs new e
    → IsRefusedAs old e
reads_refused old new e reads refused held s k events has =
    refused held s k (events ++ reads.more) (reads.read held s k events has)

-- The text ends in a piece.
module _ (old mid new : Reading) (on : GoesOn old mid)
    (end : (held : List ℕ) (o : Option (Setup × PlanKind)) (before : List Event)
    → IsAhead held o before old → mid.left ≡ Some []) (short : mid.count ≤ max_text) where
  pub piece_ends : (result : Result (Unit {0}) TextFault)
      → EndsIntake result mid.intake.bytes.items (said mid.intake (lines mid.intake.bytes.items))
      new.intake.reader.draft → OnOk result (true ≡ true → EndsAs old new)
  piece_ends (Ok x) g = λ _. record {
    header = g.1.0;
    whole = g.1.1;
    ended = λ held o before a. read_whole (on held o before a) (end held o before a) short g.1.0
        (last_events new) g.0 g.1.2;
  }
  piece_ends (Err e) g = tt

  pub piece_refused : (result : Result (Unit {0}) TextFault)
      → EndsIntake result mid.intake.bytes.items (said mid.intake (lines mid.intake.bytes.items))
      new.intake.reader.draft → IfErr result (IsRefusedAhead old)
  piece_refused (Ok x) g = tt
  piece_refused (Err e) g = λ held o before a. refused_whole (on held o before a)
      (end held o before a) short e new.intake.reader.draft g

-- The same of a source that may not say what is left in it.
abbrev pub AreAhead : Option (List ℕ) → Reading → Type 0
AreAhead o r = IfSome o (λ held. IsAhead held None [] r)

pub start_ahead : (o : Option (List ℕ)) (r : Reading) → r.left ≡ o → IsFresh r.intake → r.count ≡ 0
    → AreAhead o r
start_ahead None r left fresh none = tt
start_ahead (Some held) r left fresh none = none_ahead held r left fresh none

pub still_ahead : (o : Option (List ℕ)) (old new : Reading) → AreAhead o old → GoesOn old new
    → AreAhead o new
still_ahead None old new a on = tt
still_ahead (Some held) old new a on = on held None [] a

pub all_refused : (o : Option (List ℕ)) (r : Reading) (e : TextFault) → AreAhead o r
    → IsRefusedAhead r e → IsNoSchedule o e
all_refused None r e a refused = refused_unknown e
all_refused (Some held) r e a refused = refused held None [] a

pub all_opened : (o : Option (List ℕ)) (old new : Reading) (h : Setup × PlanKind)
    → Some h ≡ header_in new.intake.reader.draft → AreAhead o old
    → (new.is_ended ≡ false → GoesOn old new) → (new.is_ended ≡ true → EndsAs old new)
    → IfSome o (λ held. HasReadHeader held h.0 h.1 new)
all_opened None old new h is a on ends = tt
all_opened (Some held) old new h is a on ends = opened held old new h (sym is) a on ends

-- a text without a whole header hasn't ended
pub still_on : (old new : Reading) → (new.is_ended ≡ true → EndsAs old new)
    → None ≡ header_in new.intake.reader.draft → new.is_ended ≡ false
still_on old new ends none = go new.is_ended ends
  where
    none_some : {h : Setup × PlanKind} → None ≡ Some h → ⊥
    none_some e = cc

    go : (b : Bool) → (b ≡ true → EndsAs old new) → b ≡ false
    go true ends = absurd (none_some (none ∙ (ends refl).whole))
    go false ends = refl
