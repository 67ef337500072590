-- The parts of an answer's line.
use Rattle.std.proofs.Common.{◌≡◌, ◌≢◌, ◌∙◌, ◌≤◌, ◌++◌, ◌∷◌, ℕ, List}
use Rattle.std.proofs.Common.{ap, arith, get_or, length, refl}
use Rattle.std.specs.Prelude.{codes}
use Rattle.std.specs.Fmt.{decimal}
use Rattle.std.proofs.lemmas.Fmt.{decimal_injective}
use Rattle.part_answers.specs.Answers.{IsAnswered, IsOutcome, IsRound, answered_text, outcome_words}
use Rattle.part_answers.specs.Cuts.{IsCut, Lacks}
use Rattle.part_answers.specs.Properties.{name_text, rank}
use Rattle.part_answers.specs.declared.answered.Answered.{Answered}
use Rattle.part_answers.specs.declared.answered.Outcome.{Outcome}
use Rattle.part_answers.specs.declared.answered.Outcome.TheVariants.{Fails, Holds}
use Rattle.part_answers.specs.declared.answered.Outcome.TheVariants.{HoldsInAllRounds}
use Rattle.part_answers.specs.declared.property.Property.{Property}
use Rattle.part_answers.specs.declared.property.Property.TheVariants.{Agreement, Always, Final}
use Rattle.part_answers.specs.declared.property.Property.TheVariants.{Termination, Validity}
use Rattle.part_answers.proofs.CutLemmas.{cut_is, cut_somewhere, lacks_both, lacks_tested}
use Rattle.part_answers.proofs.TextLemmas.{decimal_lacks}

name_lacks_space : (p : Property) → Lacks 32 (name_text p)
name_lacks_space Agreement = lacks_tested 32 (codes "agreement") refl
name_lacks_space Validity = lacks_tested 32 (codes "validity") refl
name_lacks_space Final = lacks_tested 32 (codes "final") refl
name_lacks_space Termination = lacks_tested 32 (codes "termination") refl
name_lacks_space Always = lacks_tested 32 (codes "always") refl

name_lacks_end : (p : Property) → Lacks 10 (name_text p)
name_lacks_end Agreement = lacks_tested 10 (codes "agreement") refl
name_lacks_end Validity = lacks_tested 10 (codes "validity") refl
name_lacks_end Final = lacks_tested 10 (codes "final") refl
name_lacks_end Termination = lacks_tested 10 (codes "termination") refl
name_lacks_end Always = lacks_tested 10 (codes "always") refl

outcome_lacks_end : (o : Outcome) → IsOutcome o → Lacks 10 (32 ∷ outcome_words o)
outcome_lacks_end Holds is = lacks_tested 10 (codes " yes") refl
outcome_lacks_end HoldsInAllRounds is = lacks_tested 10 (codes " yes in all rounds") refl
outcome_lacks_end (Fails round) is =
    lacks_both 10 (codes " no in round ") (decimal round)
    (lacks_tested 10 (codes " no in round ") refl)
    (decimal_lacks 10 round (omega arith) (omega (arith, is.1)))

-- a line has no line end within it
pub answered_lacks : (a : Answered) → IsAnswered a → Lacks 10 (answered_text a)
answered_lacks a is =
    lacks_both 10 (name_text a.property) (32 ∷ outcome_words a.outcome)
    (name_lacks_end a.property) (outcome_lacks_end a.outcome is)

-- the property, and what follows its space
pub answered_parts : (line x y : List ℕ) (a : Answered) → IsCut 32 line x y
    → line ≡ answered_text a → (x ≡ name_text a.property) × (y ≡ outcome_words a.outcome)
answered_parts line x y a cut same =
    cut_is 32 line x y (name_text a.property) (outcome_words a.outcome) cut
    (name_lacks_space a.property) same

pub answered_has_space : (line : List ℕ) (a : Answered) → Lacks 32 line → line ≢ answered_text a
answered_has_space line a lacks same =
    cut_somewhere 32 line (name_text a.property) (outcome_words a.outcome) lacks same

-- what is neither a `yes` nor the round of a `no` follows no property
pub no_outcome : (words : List ℕ) → words ≢ codes "yes" → words ≢ codes "yes in all rounds"
    → ((r : ℕ) → IsRound r → words ≢ codes "no in round " ++ decimal r) → (o : Outcome)
    → IsOutcome o → words ≢ outcome_words o
no_outcome words plain all none Holds is same = plain same
no_outcome words plain all none HoldsInAllRounds is same = all same
no_outcome words plain all none (Fails r) is same = none r is same

-- no two properties have one name
same_property : (p q : Property) → name_text p ≡ name_text q → p ≡ q
same_property Agreement Agreement same = refl
same_property Agreement Validity same = absurd (cc same)
same_property Agreement Final same = absurd (cc same)
same_property Agreement Termination same = absurd (cc same)
same_property Agreement Always same = absurd (cc same)
same_property Validity Agreement same = absurd (cc same)
same_property Validity Validity same = refl
same_property Validity Final same = absurd (cc same)
same_property Validity Termination same = absurd (cc same)
same_property Validity Always same = absurd (cc same)
same_property Final Agreement same = absurd (cc same)
same_property Final Validity same = absurd (cc same)
same_property Final Final same = refl
same_property Final Termination same = absurd (cc same)
same_property Final Always same = absurd (cc same)
same_property Termination Agreement same = absurd (cc same)
same_property Termination Validity same = absurd (cc same)
same_property Termination Final same = absurd (cc same)
same_property Termination Termination same = refl
same_property Termination Always same = absurd (cc same)
same_property Always Agreement same = absurd (cc same)
same_property Always Validity same = absurd (cc same)
same_property Always Final same = absurd (cc same)
same_property Always Termination same = absurd (cc same)
same_property Always Always same = refl

same_outcome : (f g : Outcome) → IsOutcome f → IsOutcome g → outcome_words f ≡ outcome_words g
    → f ≡ g
same_outcome Holds Holds a b same = refl
same_outcome Holds HoldsInAllRounds a b same =
    let longer : 3 ≡ 17 = ap length same in absurd (omega (arith, longer))
same_outcome Holds (Fails y) a b same = absurd (cc same)
same_outcome HoldsInAllRounds Holds a b same =
    let longer : 17 ≡ 3 = ap length same in absurd (omega (arith, longer))
same_outcome HoldsInAllRounds HoldsInAllRounds a b same = refl
same_outcome HoldsInAllRounds (Fails y) a b same =
    let first : 121 ≡ 110 = ap (λ (t : List ℕ). get_or t 0 0) same in absurd (omega (arith, first))
same_outcome (Fails x) Holds a b same = absurd (cc same)
same_outcome (Fails x) HoldsInAllRounds a b same =
    let first : 110 ≡ 121 = ap (λ (t : List ℕ). get_or t 0 0) same in absurd (omega (arith, first))
same_outcome (Fails x) (Fails y) a b same =
    let digits : decimal x ≡ decimal y = cc same in
    ap (λ (n : ℕ). Fails n)
    (decimal_injective x y (omega (arith, a.1)) (omega (arith, b.1)) digits)

pub rank_small : (p : Property) → rank p ≤ 4
rank_small Agreement = omega arith
rank_small Validity = omega arith
rank_small Final = omega arith
rank_small Termination = omega arith
rank_small Always = omega arith

-- a text is that of one answer at most
pub same_answered : (a b : Answered) → IsAnswered a → IsAnswered b
    → answered_text a ≡ answered_text b → a ≡ b
same_answered a b first second same =
    let parts = cut_is 32 (answered_text a) (name_text a.property) (outcome_words a.outcome)
    (name_text b.property) (outcome_words b.outcome) (refl, name_lacks_space a.property)
    (name_lacks_space b.property) same in
    ap (λ (p : Property). record { property = p; outcome = a.outcome })
    (same_property a.property b.property parts.0)
    ∙ ap (λ (o : Outcome). record { property = b.property; outcome = o })
    (same_outcome a.outcome b.outcome first second parts.1)
