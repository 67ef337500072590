-- Each event keeps what was handed out and answers.
use Rattle.std.proofs.Common.{◌≡◌, ◌≢◌, ℕ, ◌<◌, Bool, true, false, List, [], ◌∷◌, ◌++◌}
use Rattle.std.proofs.Common.{length, get_or, set, sym, refl, ap, ◌∙◌, arith, ◌⊎◌, inl, inr}
use Rattle.std.proofs.lemmas.Bool.{and_left, and_right, cases_eq, eq-eqb, ne_eqb}
use Rattle.std.proofs.lemmas.List.{get_or-set_same, get_or-set_other, length-set, append-nil}
use Rattle.run_events.specs.declared.name.Name.{Name}
use Rattle.run_events.specs.declared.event.Event.{Event}
use Rattle.run_events.specs.declared.event.Event.TheVariants.{Step}
use Rattle.step_book.specs.World.{World, nodes_of, is_receive}
use Rattle.step_book.specs.Fates.{is_take}
use Rattle.step_book.specs.Trace.{is_step, steps}
use Rattle.step_book.specs.History.{answer_to, buffer_of, handed_of, answers_of}
use Rattle.step_book.specs.Agreement.{Accounts}

pub handed_kept : (w : World) (i : ℕ) (e : Event) (t : List Event) → is_take w i e t ≡ false
    → handed_of w i (e ∷ t) ≡ handed_of w i t
unfolding handed_of
handed_kept w i e t h = rw h refl

pub handed_more : (w : World) (i : ℕ) (e : Event) (t : List Event) → is_step i e ≡ true
    → is_receive w (steps i t) ≡ true
    → handed_of w i (e ∷ t) ≡ handed_of w i t ++ buffer_of w i t ∷ []
unfolding handed_of
handed_more w i e t h k = rw (h, k) refl

pub answers_step : (w : World) (k : ℕ) (t : List Event) → answers_of w (Step k ∷ t) ≡ answers_of w t
unfolding answers_of
answers_step w k t = append-nil (answers_of w t)

pub answers_more : (w : World) (e : Event) (b : Bool) (t : List Event) → answer_to w e t ≡ b ∷ []
    → answers_of w (e ∷ t) ≡ answers_of w t ++ b ∷ []
unfolding answers_of
answers_more w e b t h = ap (λ z. answers_of w t ++ z) h

step_at : (w : World) (t : List Event) (k i : ℕ) → is_receive w (steps k t) ≡ false
    → (i ≡ k) ⊎ (i ≡ k → ⊥) → handed_of w i (Step k ∷ t) ≡ handed_of w i t
step_at w t k i h (inl same) = handed_kept w i (Step k) t
    (and_right _ _ (ap (λ z. is_receive w (steps z t)) same ∙ h))
step_at w t k i h (inr apart) = handed_kept w i (Step k) t
    (and_left _ _ (ne_eqb k i (λ e. apart (sym e))))

pub accounts_step : (w : World) (t : List Event) (handed : List (List (List Name)))
    (answers : List Bool) (k : ℕ) → is_receive w (steps k t) ≡ false → Accounts w t handed answers
    → Accounts w (Step k ∷ t) handed answers
accounts_step w t handed answers k h a = record {
  sized = a.sized;
  handed = λ i b. a.handed i b ∙ sym (step_at w t k i h (cases_eq i k));
  answered = a.answered ∙ sym (answers_step w k t);
}

receive_at : (w : World) (t : List Event) (handed : List (List (List Name))) (k i : ℕ)
    (b : List Name) → k < length handed → is_receive w (steps k t) ≡ true → b ≡ buffer_of w k t
    → get_or handed k [] ≡ handed_of w k t → get_or handed i [] ≡ handed_of w i t
    → (i ≡ k) ⊎ (i ≡ k → ⊥)
    → get_or (set handed k (get_or handed k [] ++ b ∷ [])) i [] ≡ handed_of w i (Step k ∷ t)
receive_at w t handed k i b l h x own e (inl same) =
    rw same (get_or-set_same handed k (get_or handed k [] ++ b ∷ []) [] l
    ∙ ap (λ z. z ++ b ∷ []) own ∙ ap (λ z. handed_of w k t ++ z ∷ []) x
    ∙ sym (handed_more w k (Step k) t (eq-eqb k k refl) h))
receive_at w t handed k i b l h x own e (inr apart) =
    let ne : i ≢ k = apart in
    rw get_or-set_other (e
    ∙ sym (handed_kept w i (Step k) t (and_left _ _ (ne_eqb k i (λ f. apart (sym f))))))

pub accounts_receive : (w : World) (t : List Event) (handed : List (List (List Name)))
    (answers : List Bool) (k : ℕ) (b : List Name) → k < nodes_of w → is_receive w (steps k t) ≡ true
    → b ≡ buffer_of w k t → Accounts w t handed answers
    → Accounts w (Step k ∷ t) (set handed k (get_or handed k [] ++ b ∷ [])) answers
accounts_receive w t handed answers k b l h x a = record {
  sized = length-set handed k _ ∙ a.sized;
  handed = λ i z. receive_at w t handed k i b (let n = a.sized in
      omega arith) h x (a.handed k l) (a.handed i z) (cases_eq i k);
  answered = a.answered ∙ sym (answers_step w k t);
}

-- an event of the network
pub accounts_answer : (w : World) (t : List Event) (handed : List (List (List Name)))
    (answers next : List Bool) (e : Event) (b : Bool) → ((i : ℕ) → is_take w i e t ≡ false)
    → answer_to w e t ≡ b ∷ [] → next ≡ answers ++ b ∷ [] → Accounts w t handed answers
    → Accounts w (e ∷ t) handed next
accounts_answer w t handed answers next e b quiet h n a = record {
  sized = a.sized;
  handed = λ i z. a.handed i z ∙ sym (handed_kept w i e t (quiet i));
  answered = n ∙ ap (λ z. z ++ b ∷ []) a.answered ∙ sym (answers_more w e b t h);
}
