-- What trying runs made at random finds.
use Rattle.std.specs.Prelude.{◌≡◌, ◌<◌, ◌≤◌, ⊤, ℕ, All, List, length}
use Rattle.round_lang.specs.Syntax.{ProgramTree}
use Rattle.round_meaning.specs.declared.setup.Setup.{Setup}
use Rattle.round_meaning.specs.Omissions.{is_omitted}
use Rattle.round_explorer.specs.declared.answer.Counterexample.{Counterexample}
use Rattle.round_explorer.specs.declared.property.Property.{Property}
use Rattle.round_explorer.specs.declared.question.AskedInputs.{AskedInputs}
use Rattle.round_explorer.specs.declared.question.AskedInputs.TheVariants.{Any, Header}
use Rattle.round_explorer.specs.declared.question.AskedInputs.TheVariants.{Part as InPart}
use Rattle.round_explorer.specs.declared.question.Failure.{Failure}
use Rattle.round_explorer.specs.declared.question.Question.{Question}
use Rattle.round_explorer.specs.Answers.{IsAsked, run_of}
use Rattle.round_explorer.specs.Properties.{HoldsUpTo, Run}
use Rattle.round_explorer.specs.Questions.{Messages}
use Rattle.run_samples.specs.declared.sampling.Sampled.{Sampled}
use Rattle.run_samples.specs.declared.sampling.Sampled.TheVariants.{Fails, NotFound}

-- the run that is told of
abbrev pub run_found : ProgramTree → Setup → Counterexample → Run
run_found p s c = run_of p s c.inputs c.failures.items (is_omitted c.omissions)

-- this run is asked about, and the property fails in it in a round before which it holds in it
pub record IsFound (p : ProgramTree) (s : Setup) (question : Question) (asked : AskedInputs)
    (property : Property) (c : Counterexample) : Type 0 where
  pub is_asked : IsAsked p s question asked c.inputs c.failures.items (is_omitted c.omissions)
  pub begun : 1 ≤ c.round
  pub past : c.round ≤ s.rounds
  pub fails : HoldsUpTo property (run_found p s c) c.round → ⊥
  pub first : (k : ℕ) → k < c.round → HoldsUpTo property (run_found p s c) k

-- what a run is made of: inputs, how each node fails, and which messages are omitted
pub record MadeRun : Type 0 where
  pub inputs : List ℕ
  pub pattern : List Failure
  pub omits : Messages

-- this run is asked about, and the property holds in it up to the last round
abbrev pub IsFaultless : ProgramTree → Setup → Question → AskedInputs → Property → MadeRun → Type 0
IsFaultless p s question asked property made =
    IsAsked p s question asked made.inputs made.pattern made.omits
    × HoldsUpTo property (run_of p s made.inputs made.pattern made.omits) s.rounds

-- n runs were made that are asked about, in each of which the property holds up to the last round
abbrev pub AreFaultless : ProgramTree → Setup → Question → AskedInputs → Property → (n : ℕ) → Type 0
AreFaultless p s question asked property n =
    (made : List MadeRun) × (length made ≡ n)
    × All (IsFaultless p s question asked property) made

-- the setup's own inputs or all lists are asked about, and not those of a part
abbrev pub AsksNoPart : AskedInputs → Type 0
AsksNoPart Header = ⊤
AsksNoPart Any = ⊤
AsksNoPart (InPart part) = ⊥

-- each draw makes a run: no part is asked about, and no node must hear more nodes than there are
abbrev pub EachIsMade : Setup → Question → AskedInputs → Type 0
EachIsMade s question asked = AsksNoPart asked × (question.hears ≤ s.nodes)

-- in a sample of so many draws the property fails in this run; or n runs were made in none of which
-- it fails, and if each draw makes one, then as many as draws
abbrev pub IsSampled : ProgramTree → Setup → Question → AskedInputs → Property → (count : ℕ)
    → Sampled → Type 0
IsSampled p s question asked property count (Fails c) = IsFound p s question asked property c
IsSampled p s question asked property count (NotFound n) =
    AreFaultless p s question asked property n
    × (n ≤ count) × (EachIsMade s question asked → n ≡ count)
