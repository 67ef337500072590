-- The loop over the lines of a text.
use Rattle.std.proofs.Common.{◌≡◌, ℕ, ◌+◌, ◌≤◌, List, [], ◌∷◌, ◌++◌, length, Result, Ok, Err, sym}
use Rattle.std.proofs.Common.{ap, ◌∙◌, true, eqb}
use Rattle.std.proofs.lemmas.Bool.{eqb-true}
use Rattle.std.proofs.lemmas.List.{append-nil, nil_from_length}
use Rattle.std.specs.Str.Lines.{lines}
use Rattle.run_events.specs.declared.plan_kind.PlanKind.{PlanKind}
use Rattle.run_events.specs.declared.event.Event.{Event}
use Rattle.schedule_text.specs.declared.draft.Sizes.{Sizes}
use Rattle.schedule_text.specs.declared.draft.Stage.TheVariants.{Whole}
use Rattle.schedule_text.specs.declared.draft.Draft.{Draft}
use Rattle.schedule_text.specs.declared.kind.Kind.{Kind}
use Rattle.schedule_text.specs.declared.kind.Kind.TheVariants.{Schedule}
use Rattle.schedule_text.specs.declared.fault.LineFault.{LineFault}
use Rattle.schedule_text.specs.declared.fault.LineFault.TheVariants as line
use Rattle.schedule_text.specs.declared.fault.ScheduleFault.{ScheduleFault}
use Rattle.schedule_text.specs.declared.fault.ScheduleFault.TheVariants as fault
use Rattle.schedule_text.specs.declared.line_reader.LineReader.{LineReader}
use Rattle.schedule_text.specs.Stages.{State, answer_at_end, at_line, from_line, go_on, line_step}
use Rattle.schedule_text.specs.Stages.{start}
use Rattle.schedule_text.specs.Outcome.{GivesEnd, GivesFront, GivesLines, GivesState, said_by}
use Rattle.schedule_text.specs.Outcome.{state_of}
use Rattle.schedule_text.specs.Fronts.{IsFrontEvent}
use Rattle.schedule_text.proofs.FirstLines.{event_taken}

-- What is left of a text, read from this state with any lines behind it, gives what all of it
-- gives; each line before it has taken a byte at least.
pub record Comes (kind : Kind) (text rest : List ℕ) (from k : ℕ) (before s : State) : Type 0 where
  pub number : k + length rest ≤ from + length text
  pub same : (behind : List (List ℕ))
      → from_line kind k s (lines rest ++ behind) ≡ from_line kind from before
      (lines text ++ behind)

module _ (kind : Kind) (text l rest : List ℕ) (s : State)
    (first : lines text ≡ l ∷ lines rest) where
  -- the first line, and then the others
  step_and_rest : (k : ℕ) (behind : List (List ℕ)) (r : Result State LineFault)
      → line_step kind s l ≡ r
      → from_line kind k s (lines text ++ behind) ≡ go_on k r
      (λ s. from_line kind (k + 1) s (lines rest ++ behind))
  unfolding from_line
  step_and_rest k behind r is = ap (λ (ls : List (List ℕ)). from_line kind k s (ls ++ behind)) first
      ∙ ap (λ r. go_on k r (λ s. from_line kind (k + 1) s (lines rest ++ behind))) is

  pub line_taken : (after : State) → line_step kind s l ≡ Ok after
      → (k : ℕ) (behind : List (List ℕ))
      → from_line kind k s (lines text ++ behind) ≡ from_line kind (k + 1) after
      (lines rest ++ behind)
  line_taken after is k behind = step_and_rest k behind (Ok after) is

  line_refused : (f : LineFault) → line_step kind s l ≡ Err f → (k : ℕ) (behind : List (List ℕ))
      → from_line kind k s (lines text ++ behind) ≡ Err (at_line k f)
  line_refused f is k behind = step_and_rest k behind (Err f) is

  -- the fault of the line, but for being out of memory
  pub front_refused : (f : LineFault) (d : Draft)
      → GivesState {A = Unit {0}} (Err f) d (line_step kind s l) → GivesFront kind (Err f) s d text
  front_refused line.Bad d is = line_refused line.Bad is
  front_refused line.Large d is = line_refused line.Large is
  front_refused line.NoMemory d is = tt

-- a first line of a schedule that is an event
pub event_front : (kind : Kind) (text rest : List ℕ) (s after : State) (z : Sizes) (p : PlanKind)
    (e : Event) → kind ≡ Schedule → s.stage ≡ Whole z p → IsFrontEvent text e rest
    → after ≡ record s { events = s.events ++ e ∷ [] } → (k : ℕ) (behind : List (List ℕ))
    → from_line kind k s (lines text ++ behind) ≡ from_line kind (k + 1) after
    (lines rest ++ behind)
event_front kind text rest s after z p e is stage front after-is =
    line_taken kind text front.line rest s front.first after (ap (λ c. line_step c s front.line) is
    ∙ event_taken s z p front.line e stage front.event
    ∙ ap (λ (x : State). Ok x) (sym after-is))

-- at the end nothing is left but the lines behind the text
pub comes_last : (kind : Kind) (text rest : List ℕ) (from k : ℕ) (before s : State)
    → Comes kind text rest from k before s → eqb (length rest) 0 ≡ true → (behind : List (List ℕ))
    → from_line kind from before (lines text ++ behind) ≡ from_line kind k s behind
comes_last kind text rest from k before s comes none behind =
    sym (comes.same behind)
    ∙ ap (λ t. from_line kind k s (lines t ++ behind))
    (nil_from_length rest (eqb-true (length rest) 0 none))

module _ (kind : Kind) (text : List ℕ) (old new : LineReader) (one : old.number ≡ 1)
    (begun : state_of old.draft ≡ start) where
  from_start : (ls : List (List ℕ)) → from_line kind 1 start ls ≡ said_by kind old ls
  from_start ls =
      sym (ap (λ (s : State). from_line kind 1 s ls) begun)
      ∙ sym (ap (λ (k : ℕ). from_line kind k (state_of old.draft) ls) one)

  with_none : said_by kind old (lines text) ≡ said_by kind old (lines text ++ [])
  with_none = ap (said_by kind old) (sym (append-nil (lines text)))

  -- a text's lines were all taken in, from the first one on
  pub read_whole : GivesLines kind (Ok tt) old new text
      → from_line kind 1 start (lines text) ≡ answer_at_end kind new.number new.draft.stage
      (state_of new.draft)
  unfolding from_line
  read_whole g = from_start (lines text) ∙ with_none ∙ g []

  -- and one of them is at fault
  pub refused_whole : (e : ScheduleFault) → GivesLines kind (Err e) old new text
      → GivesEnd kind (Err e) (from_line kind 1 start (lines text))
  refused_whole (fault.BadLine n) g = from_start (lines text) ∙ with_none ∙ g []
  refused_whole (fault.NumberTooLarge n) g = from_start (lines text) ∙ with_none ∙ g []
  refused_whole fault.TooLong g = from_start (lines text) ∙ with_none ∙ g []
  refused_whole fault.NoMemory g = tt
