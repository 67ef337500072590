-- A failure of which omissions are left out.
use Rattle.std.proofs.Common.{◌≡◌, ℕ, ◌+◌, ◌<◌, true, List, get_or, length, take, refl, sym}
use Rattle.std.proofs.Common.{◌∙◌, subst, arith, ◌⊎◌, inl, inr}
use Rattle.std.proofs.lemmas.Bool.{and_parts, eqb-true, or_cases}
use Rattle.std.proofs.lemmas.List.Folds.{list_any_more}
use Rattle.round_lang.specs.Syntax.{ProgramTree}
use Rattle.round_meaning.specs.declared.omissions.Omission.{Omission}
use Rattle.round_meaning.specs.declared.setup.Setup.{Setup}
use Rattle.round_meaning.specs.Omissions.{is_omitted, omits}
use Rattle.round_meaning.specs.Setups.{IsSetup}
use Rattle.round_explorer.specs.declared.answer.Counterexample.{Counterexample}
use Rattle.round_explorer.specs.declared.property.Property.{Property}
use Rattle.round_explorer.specs.declared.question.AskedInputs.{AskedInputs}
use Rattle.round_explorer.specs.declared.question.Question.{Question}
use Rattle.round_explorer.specs.Answers.{IsAsked, IsFirstFailure, with_inputs}
use Rattle.round_explorer.specs.Searched.{Case, Track}
use Rattle.run_samples.specs.Found.{IsFound}
use Rattle.run_samples.specs.Samples.{Covers, IsFailingRun, IsToldOf, case_of}
use Rattle.run_samples.specs.Shrunk.{IsPartOf, StaysFailure}
use Rattle.run_samples.proofs.RunLaws.{fails_told, found_in}

-- an entry more that the table omits
pub covers_more : (table lost : List Omission) (k : ℕ) (d : Omission) → k < length lost
    → is_omitted table (get_or lost k d).receiver (get_or lost k d).round (get_or lost k d).sender
    ≡ true → Covers table (take k lost) → Covers table (take (k + 1) lost)
covers_more table lost k d l here h = λ i q j x.
    go i q j (or_cases _ _ (sym (list_any_more (omits i q j) lost k d l) ∙ x))
  where
    go : (i q j : ℕ) → (is_omitted (take k lost) i q j ≡ true)
        ⊎ (omits i q j (get_or lost k d) ≡ true) → is_omitted table i q j ≡ true
    go i q j (inl e) = h i q j e
    go i q j (inr e) =
        let first = and_parts _ _ e in
        let rest = and_parts _ _ first.1 in
        subst (λ n. is_omitted table n q j ≡ true) (eqb-true _ _ first.0)
        (subst (λ n. is_omitted table (get_or lost k d).receiver n j ≡ true)
        (eqb-true _ _ rest.0)
        (subst (λ n. is_omitted table (get_or lost k d).receiver (get_or lost k d).round n ≡ true)
        (eqb-true _ _ rest.1) here))

-- a failure is a part of itself, and what it was
pub part_of_itself : (c : Counterexample) → IsPartOf c c
part_of_itself c = record {
  round = refl;
  inputs = refl;
  failures = refl;
  omissions = λ i q j l x. x;
}

pub stays_itself : (p : ProgramTree) (s : Setup) (question : Question) (property : Property)
    (c : Counterexample) → StaysFailure p s question property c c
stays_itself p s question property c =
    record { found = λ asked h. h; first = λ asked h. h }

module _ (p : ProgramTree) (s : Setup) (question : Question) (property : Property)
    (old new : Counterexample) (c : Case) (is : c ≡ case_of s question property old) (r : ℕ)
    (run : Track) (told : IsToldOf c r run new) (same : r ≡ old.round) where
  told_here : IsToldOf (case_of s question property old) r run new
  told_here = subst (λ x. IsToldOf x r run new) is told

  -- what is told of a run that omits only what the old one omits
  pub part_told : Covers old.omissions run.lost → IsPartOf old new
  part_told covers = record {
    round = told_here.round ∙ same;
    inputs = told_here.inputs;
    failures = told_here.failures;
    omissions = λ i q j l x. covers i q j
        (sym (told_here.is_whole.past i q j (omega (arith, l, same))) ∙ x);
  }

  found_still : IsFailingRun p c r run → (asked : AskedInputs)
      → IsAsked p s question asked old.inputs old.failures.items (is_omitted old.omissions)
      → IsFound p s question asked property new
  found_still fails asked h =
      found_in p s question asked property (case_of s question property old) new (record {
        is_setup = refl;
        is_question = refl;
        is_property = refl;
        are_asked = h.are_asked;
        is_pattern = h.is_pattern;
      }) (fails_told p (case_of s question property old) r run new
      (subst (λ x. IsFailingRun p x r run) is fails) told_here)

  first_still : IsFailingRun p c r run → (asked : AskedInputs)
      → IsFirstFailure p s question asked property old
      → IsFirstFailure p s question asked property new
  first_still fails asked h =
      let here = found_still fails asked h.is_asked in
      let round : new.round ≡ old.round = told_here.round ∙ same in
      record {
        is_asked = here.is_asked;
        begun = here.begun;
        past = here.past;
        fails = here.fails;
        first = λ k l. h.first k (omega (arith, l, round));
      }

  -- and that fails in the old one's round
  pub stays_told : IsFailingRun p c r run → StaysFailure p s question property old new
  stays_told fails = record {
    found = λ asked h. found_still fails asked h.is_asked;
    first = first_still fails;
  }

-- a setup with other inputs, one for each node
pub setup_with : (s : Setup) (inputs : List ℕ) → IsSetup s → length inputs ≡ s.nodes
    → IsSetup (with_inputs s inputs)
setup_with s inputs h many = record {
  some_node = h.some_node;
  few_nodes = h.few_nodes;
  few_faults = h.few_faults;
  some_round = h.some_round;
  few_rounds = h.few_rounds;
  inputs = many;
}
