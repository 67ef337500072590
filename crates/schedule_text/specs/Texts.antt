-- What a text is: which schedule, which thread setup or which header. Its lines are those of the
-- standard library: LF ends a line, the last may lack it, and a CR before it is dropped.
use Rattle.std.specs.Prelude.{◌≡◌, ℕ, ◌≤◌, Bool, false, not, ◌==◌, List, [], ◌∷◌, length, filter}
use Rattle.std.specs.Prelude.{map}
use Rattle.std.specs.List.{AllZip}
use Rattle.std.specs.Str.Lines.{lines}
use Rattle.round_meaning.specs.declared.setup.Setup.{Setup}
use Rattle.run_events.specs.declared.plan_kind.PlanKind.{PlanKind}
use Rattle.run_events.specs.declared.event.Event.{Event}
use Rattle.schedule_text.specs.declared.kind.Kind.{Kind}
use Rattle.schedule_text.specs.declared.kind.Kind.TheVariants.{Schedule, Threads, Header}
use Rattle.schedule_text.specs.declared.pace.Pace.{Pace}
use Rattle.schedule_text.specs.declared.pace.Stop.{Stop}
use Rattle.schedule_text.specs.Lines.{Line, nodes, faults, inputs, rounds, plan, event, pace, stop}
use Rattle.schedule_text.specs.Lines.{Tells}

-- the most bytes of a text
abbrev pub max_text : ℕ
max_text = 16777216

-- a line counts unless it is empty or begins with #, which is 35
abbrev pub counts : List ℕ → Bool
counts [] = false
counts (b ∷ bs) = not (b == 35)

-- what follows the header in a text of this kind: in a schedule events, in a thread setup a pace
-- and stops, in a header nothing
abbrev pub Tail : Kind → Type 0
Tail Schedule = List Event
Tail Threads = Pace × List Stop
Tail Header = Unit {0}

-- what the lines behind the header say, in order: in a schedule an event each, in a thread setup
-- the pace and then a stop each, and in a header there are none
abbrev pub tail_lines : (kind : Kind) → Tail kind → List Line
tail_lines Schedule es = map event es
tail_lines Threads t = pace t.0 ∷ map stop t.1
tail_lines Header t = []

-- what the lines of a text say, in order: the five of the header, and then the others
abbrev pub lines_for : (kind : Kind) → Setup → PlanKind → Tail kind → List Line
lines_for kind s p t =
    nodes s.nodes ∷ faults s.faults ∷ inputs s.inputs ∷ rounds s.rounds ∷ plan p ∷ tail_lines kind t

-- the text of this kind has this setup and plan in its header, and this behind it: it isn't too
-- long, and its lines that count say just that
pub record SaysOf (kind : Kind) (text : List ℕ) (s : Setup) (p : PlanKind) (t : Tail kind) :
    Type 0 where
  pub short : length text ≤ max_text
  pub each : AllZip Tells (filter counts (lines text)) (lines_for kind s p t)

-- the text is the schedule of this setup and plan with these events: it isn't too long, and its
-- lines that count say just that
abbrev pub Says : List ℕ → Setup → PlanKind → List Event → Type 0
Says text s p es = SaysOf Schedule text s p es

-- no text is two schedules, two thread setups or two headers
abbrev pub TextsSayOneThing : Type 0
TextsSayOneThing =
    (kind : Kind) (text : List ℕ) (s u : Setup) (p q : PlanKind) (t v : Tail kind)
    → SaysOf kind text s p t → SaysOf kind text u q v → (s ≡ u) × (p ≡ q) × (t ≡ v)
