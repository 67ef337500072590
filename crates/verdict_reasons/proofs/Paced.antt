-- The first step that breaks lockstep.
use Rattle.std.proofs.Common.{◌≡◌, ℕ, ◌+◌, ◌<◌, ◌≤◌, true, List, ◌∷◌, length, set, get_or}
use Rattle.std.proofs.Common.{Some, sym, ap, ◌∙◌}
use Rattle.std.proofs.Common.{arith, ◌⊎◌, inl, inr}
use Rattle.std.specs.Prelude.{reverse}
use Rattle.std.specs.List.{slice_get}
use Rattle.std.proofs.lemmas.Bool.{cases_lt}
use Rattle.std.proofs.lemmas.Option.{same_Some}
use Rattle.round_lang.specs.Sets.{is_in}
use Rattle.run_events.specs.declared.event.Event.{Event}
use Rattle.run_events.specs.declared.event.Event.TheVariants.{Step}
use Rattle.step_book.specs.Places.{steps_before}
use Rattle.step_book.specs.Trace.{steps}
use Rattle.step_book.proofs.Moments.{At}
use Rattle.omission_explainer.specs.Lateness.{KeepsPace}
use Rattle.omission_explainer.proofs.Passes.{IsOther, IsPacedTo, Tallied, lockstep_other}
use Rattle.omission_explainer.proofs.Passes.{lockstep_step, tally_other, tally_step}
use Rattle.verdict_reasons.specs.Pace.{IsFirstBehind, IsFirstPaceBreak, IsPaceBreak}
use Rattle.verdict_reasons.specs.declared.pace.PaceBreak.{PaceBreak}
use Rattle.verdict_reasons.proofs.Standing.{same_moment, standing, there_at, within}

-- what a pass has found up to a moment
pub record Paced (correct : ℕ) (p : List Event) (counts : List ℕ) : Type 0 where
  pub tallied : Tallied correct p counts
  pub paced : IsPacedTo correct p

pub paced_step : (correct k : ℕ) (p : List Event) (counts : List ℕ) → is_in correct k ≡ true
    → k < 16 → KeepsPace correct counts k → Paced correct p counts
    → Paced correct (Step k ∷ p) (set counts k (get_or counts k 0 + 1))
paced_step correct k p counts here few keeps a = record {
  tallied = tally_step correct k p counts here few a.tallied;
  paced = (lockstep_step correct k p counts here a.tallied).0 (a.paced, keeps);
}

pub paced_other : (correct : ℕ) (p : List Event) (counts : List ℕ) (e : Event) → IsOther correct e
    → Paced correct p counts → Paced correct (e ∷ p) counts
paced_other correct p counts e other a = record {
  tallied = tally_other correct p counts e other a.tallied;
  paced = (lockstep_other correct p e other).0 a.paced;
}

module _ (trace : List Event) (correct k place : ℕ) (p : List Event) (counts : List ℕ)
    (stands : At p (Step k) (reverse trace)) (long : length p ≡ place)
    (here : is_in correct k ≡ true) (tallied : Tallied correct p counts) where
  there : slice_get trace place ≡ Some (Step k)
  there = there_at trace (Step k) place p stands long

  -- the counts are those before the place
  counted : (j : ℕ) → is_in correct j ≡ true → steps_before trace j place ≡ get_or counts j 0
  counted j h =
      let s = standing trace k place there in
      s.count j ∙ ap (steps j) (same_moment trace k place s (Step k) p stands long)
      ∙ sym (tallied.counted j h)

  module _ (behind : ℕ) (paced : IsPacedTo correct p)
      (found : IsFirstBehind correct counts k behind) where
    abbrev found_break : PaceBreak
    found_break = record {
      place = place;
      node = k;
      step = get_or counts k 0;
      behind = behind;
      behind_steps = get_or counts behind 0;
    }

    not_earlier : (other : PaceBreak) → IsPaceBreak trace correct other → other.place < place → ⊥
    not_earlier other h l =
        let at = h.there in
        let s = standing trace other.node other.place at.there in
        let up = paced other.node other.behind s.moment h.node h.other
        (within trace other.node other.place s (Step k) p stands (omega arith)) in
        let own = s.count other.node in
        let slow = s.count other.behind in
        let number = at.number in
        let few = h.number in
        let fewer = h.fewer in
        omega arith

    same_node : (other : PaceBreak) → IsPaceBreak trace correct other → other.place ≡ place
        → other.node ≡ k
    same_node other h same =
        let at = h.there in
        let one : Step other.node ≡ Step k =
        same_Some (Step other.node) (Step k) (sym at.there ∙ ap (slice_get trace) same ∙ there) in
        cc

    not_less : (other : PaceBreak) → IsPaceBreak trace correct other → other.place ≡ place
        → other.behind < behind → ⊥
    not_less other h same l =
        let at = h.there in
        let up = found.least other.behind l h.other in
        let node = same_node other h same in
        let own : other.step ≡ get_or counts k 0 = sym at.number
        ∙ ap (steps_before trace other.node) same
        ∙ ap (λ i. steps_before trace i place) node ∙ counted k here in
        let slow : other.behind_steps ≡ get_or counts other.behind 0 = sym h.number
        ∙ ap (steps_before trace other.behind) same ∙ counted other.behind h.other in
        let fewer = h.fewer in
        omega arith

    pub break_found : IsFirstPaceBreak trace correct found_break
    break_found = record {
      breaks = record {
        node = here;
        other = found.correct_node;
        there = record { there = there; number = counted k here };
        number = counted behind found.correct_node;
        fewer = found.fewer;
      };
      first = λ other h. first_by other h (cases_lt other.place place);
      least = λ other h same. least_by other h same (cases_lt other.behind behind);
    }
      where
        first_by : (other : PaceBreak) → IsPaceBreak trace correct other
            → (other.place < place) ⊎ (place ≤ other.place) → place ≤ other.place
        first_by other h (inl early) = absurd (not_earlier other h early)
        first_by other h (inr late) = late

        least_by : (other : PaceBreak) → IsPaceBreak trace correct other → other.place ≡ place
            → (other.behind < behind) ⊎ (behind ≤ other.behind) → behind ≤ other.behind
        least_by other h same (inl less) = absurd (not_less other h same less)
        least_by other h same (inr more) = more
