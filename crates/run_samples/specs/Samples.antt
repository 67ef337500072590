-- What is known of a sample while it's made and run.
use Rattle.std.specs.Prelude.{◌≡◌, ℕ, ◌+◌, ◌<◌, ◌≤◌, ◌++◌, Bool, List, [], ◌∷◌}
use Rattle.std.specs.Prelude.{Option, None, Some, false, true}
use Rattle.std.specs.List.{count_by, range_with_len}
use Rattle.round_lang.specs.declared.value.Value.{Value}
use Rattle.round_lang.specs.Syntax.{ProgramTree}
use Rattle.round_meaning.specs.declared.omissions.Omission.{Omission}
use Rattle.round_meaning.specs.declared.received.Received.{Received}
use Rattle.round_meaning.specs.declared.setup.Setup.{Setup}
use Rattle.round_meaning.specs.Nodes.{has_node}
use Rattle.round_meaning.specs.Omissions.{is_omitted}
use Rattle.round_explorer.specs.declared.answer.Counterexample.{Counterexample}
use Rattle.round_explorer.specs.declared.property.Property.{Property}
use Rattle.round_explorer.specs.declared.question.AskedInputs.{AskedInputs}
use Rattle.round_explorer.specs.declared.question.Failure.{Failure}
use Rattle.round_explorer.specs.declared.question.Question.{Question}
use Rattle.round_explorer.specs.Answers.{with_inputs}
use Rattle.round_explorer.specs.Properties.{HoldsUpTo, Run}
use Rattle.round_explorer.specs.Questions.{AreAsked, IsPattern, IsTable, Messages}
use Rattle.round_explorer.specs.Searched.{Case, End, IsEndWithout, IsTrack, IsWhole}
use Rattle.round_explorer.specs.Searched.{LeavesEnough, Search, Track, has_stopped, search_of}
use Rattle.round_explorer.specs.Searched.{with_end}
use Rattle.run_samples.specs.declared.running.Course.{Course}
use Rattle.run_samples.specs.declared.running.Course.TheVariants.{Ends, Fails, Holds}

-- the case is that of a question, with inputs and failures that are asked about
pub record IsCaseOf (p : ProgramTree) (s : Setup) (question : Question) (asked : AskedInputs)
    (property : Property) (c : Case) : Type 0 where
  pub is_setup : c.setup ≡ with_inputs s c.setup.inputs
  pub is_question : c.question ≡ question
  pub is_property : c.property ≡ property
  pub are_asked : AreAsked p.values s asked c.setup.inputs
  pub is_pattern : IsPattern question s c.pattern

-- if nodes fail so, enough are left in the last round that each can hear as many as it must
abbrev pub LeavesEnoughOf : Question → Setup → List Failure → Type 0
LeavesEnoughOf question s pattern =
    count_by (has_stopped pattern s.rounds) (range_with_len 0 s.nodes) + question.hears ≤ s.nodes

-- of the first n nodes the set has those that have stopped before round r, and it has no others
pub record AreStopped (c : Case) (r n set : ℕ) : Type 0 where
  pub below : (j : ℕ) → j < n → has_node set j ≡ has_stopped c.pattern r j
  pub past : (j : ℕ) → n ≤ j → has_node set j ≡ false

-- the case of a failure that is known
abbrev pub case_of : Setup → Question → Property → Counterexample → Case
case_of s question property found = record {
  setup = with_inputs s found.inputs;
  question = question;
  pattern = found.failures.items;
  property = property;
}

-- the table omits what the list does
abbrev pub Covers : (table lost : List Omission) → Type 0
Covers table lost =
    (i q j : ℕ) → is_omitted lost i q j ≡ true → is_omitted table i q j ≡ true

-- the run of a case in which these messages are omitted
abbrev pub run_of_case : ProgramTree → Case → Messages → Run
run_of_case p c omits =
    record { program = p; setup = c.setup; pattern = c.pattern; omits = omits }

-- in this run of the case, under a table that is asked about, the property first fails in the round
pub record IsFailing (p : ProgramTree) (c : Case) (found : Counterexample) : Type 0 where
  pub inputs : found.inputs ≡ c.setup.inputs
  pub failures : found.failures.items ≡ c.pattern
  pub begun : 1 ≤ found.round
  pub past : found.round ≤ c.setup.rounds
  pub table : IsTable c.question c.setup.nodes c.pattern c.setup.rounds (is_omitted found.omissions)
  pub fails : HoldsUpTo c.property (run_of_case p c (is_omitted found.omissions)) found.round → ⊥
  pub first : (k : ℕ) → k < found.round
      → HoldsUpTo c.property (run_of_case p c (is_omitted found.omissions)) k

-- both tests omit the same up to round k
abbrev pub AgreeUpTo : (k : ℕ) → Messages → Messages → Type 0
AgreeUpTo k one other = (i r j : ℕ) → r ≤ k → one i r j ≡ other i r j

-- the property holds up to each round before n, whatever is omitted after that round
abbrev pub HoldsBefore : ProgramTree → Case → (lost : List Omission) → (n : ℕ) → Type 0
HoldsBefore p c lost n =
    (k : ℕ) → k < n → (omits : Messages) → AgreeUpTo k (is_omitted lost) omits
    → HoldsUpTo c.property (run_of_case p c omits) k

-- in this run of r rounds of the case, which is asked about, the property first fails in round r,
-- whatever is omitted after it
pub record IsFailingRun (p : ProgramTree) (c : Case) (r : ℕ) (run : Track) : Type 0 where
  pub enough : LeavesEnough c
  pub begun : 1 ≤ r
  pub past : r ≤ c.setup.rounds
  pub is_track : IsTrack (search_of p c) r run
  pub fails : (omits : Messages) → AgreeUpTo r (is_omitted run.lost) omits
      → HoldsUpTo c.property (run_of_case p c omits) r → ⊥
  pub first : HoldsBefore p c run.lost r

-- this run of the case is asked about, and the property holds in it up to the last round
pub record IsHoldingRun (p : ProgramTree) (c : Case) (run : Track) : Type 0 where
  pub is_track : IsTrack (search_of p c) c.setup.rounds run
  pub holds : HoldsUpTo c.property (run_of_case p c (is_omitted run.lost)) c.setup.rounds

-- how a run of the case goes; if there is a row for each node in each round, it ends early only if
-- not enough nodes are left
abbrev pub IsCourse : (complete : Bool) → ProgramTree → Case → Course → Type 0
IsCourse complete p c (Fails failing) = IsFailingRun p c failing.round failing.path
IsCourse complete p c (Holds path) = IsHoldingRun p c path
IsCourse complete p c Ends = complete ≡ true → LeavesEnough c → ⊥

-- this is told of the run, which failed in round r
pub record IsToldOf (c : Case) (r : ℕ) (run : Track) (found : Counterexample) : Type 0 where
  pub round : found.round ≡ r
  pub inputs : found.inputs ≡ c.setup.inputs
  pub failures : found.failures.items ≡ c.pattern
  pub is_whole : IsWhole c r found.omissions run

-- the inbox, and behind it what node j sends, if it sends something
abbrev pub inbox_with : (j : ℕ) → Option (List Value) → List Received → List Received
inbox_with j None inbox = inbox
inbox_with j (Some m) inbox = inbox ++ record { from = j; message = m } ∷ []

-- the run gets the end of one node more, which misses these nodes in round r
pub record EndsWithout (w : Search) (before : List (List Value)) (r i : ℕ) (missed : ℕ → Bool)
    (old new : Track) : Type 0 where
  pub end : End
  pub is_end : IsEndWithout w before r i missed end
  pub is : new ≡ with_end old end

-- the new run is the old one with round r + 1
pub record Follows (w : Search) (r : ℕ) (old new : Track) : Type 0 where
  pub is_track : IsTrack w (r + 1) new
  pub same : AgreeUpTo r (is_omitted old.lost) (is_omitted new.lost)
