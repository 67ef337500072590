-- The moments of a history: their order, and how many steps they have.
use Rattle.std.proofs.Common.{◌≡◌, ℕ, ◌+◌, ◌<◌, ◌≤◌, true, false, List, [], ◌∷◌, ◌++◌, length}
use Rattle.std.proofs.Common.{get_or, take, drop, reverse, sym, subst, refl, ap, ◌∙◌, arith, ◌⊎◌}
use Rattle.std.proofs.Common.{inl, inr}
use Rattle.std.proofs.lemmas.Bool.{cases_Bool, cases_lt}
use Rattle.std.proofs.lemmas.List.{length-reverse, length-take-le, reverse-append, take-append-drop}
use Rattle.std.proofs.lemmas.List.{take_more}
use Rattle.run_events.specs.declared.event.Event.{Event}
use Rattle.run_events.specs.declared.event.Event.TheVariants.{Step}
use Rattle.step_book.specs.Trace.{is_step, steps}
use Rattle.step_book.proofs.Events.{pushed}
use Rattle.step_book.proofs.Moments.{At, Newest, Older}
use Rattle.step_book.proofs.Places.{steps_at, steps_other, steps_grow}
use Rattle.step_book.proofs.Placed.{step_event}

-- the steps up to an event are steps of the history
steps_to : (i : ℕ) (e : Event) (m t : List Event) → At m e t → steps i (e ∷ m) ≤ steps i t
steps_to i e m [] s = elim s [ ]
steps_to i e m (x ∷ t) Newest = omega arith
steps_to i e m (x ∷ t) (Older x' t' s) = let up = steps_grow i x t in
    omega (arith, steps_to i e m t s)

pub steps_up_to : (i : ℕ) (e : Event) (m t : List Event) → At m e t → steps i m ≤ steps i t
steps_up_to i e m t s = let up = steps_grow i e m in omega (arith, steps_to i e m t s)

-- the moment of node i's step number x
pub record StepAt (i x : ℕ) (t : List Event) : Type 0 where
  pub moment : List Event
  pub stands : At moment (Step i) t
  pub number : steps i moment ≡ x

later_step : (i x : ℕ) (e : Event) (t : List Event) → StepAt i x t → StepAt i x (e ∷ t)
later_step i x e t a = record { moment = a.moment; stands = Older e t a.stands; number = a.number }

newest_step : (i x : ℕ) (e : Event) (t : List Event) → e ≡ Step i → steps i t ≡ x
    → StepAt i x (e ∷ t)
newest_step i x e t own n = subst (λ z. StepAt i x (z ∷ t)) (sym own)
    (record { moment = t; stands = Newest; number = n })

step_at_by : (i x : ℕ) (e : Event) (t : List Event) → x < steps i (e ∷ t)
    → (x < steps i t → StepAt i x t) → (is_step i e ≡ true) ⊎ (is_step i e ≡ false)
    → (x < steps i t) ⊎ (steps i t ≤ x) → StepAt i x (e ∷ t)
step_at_by i x e t l past c (inl old) = later_step i x e t (past old)
step_at_by i x e t l past (inl own) (inr new) =
    newest_step i x e t (step_event i e own) (let n = steps_at i e t own in omega arith)
step_at_by i x e t l past (inr other) (inr new) =
    absurd (let n = steps_other i e t other in omega arith)

pub step_at : (i x : ℕ) (t : List Event) → x < steps i t → StepAt i x t
unfolding steps
step_at i x [] l = absurd (omega arith)
step_at i x (e ∷ t) l = step_at_by i x e t l (λ old. step_at i x t old) (cases_Bool (is_step i e))
    (cases_lt x (steps i t))

-- ---- a trace, read from its front

-- the moment after the first k events
abbrev pub moment_at : ℕ → List Event → List Event
moment_at k xs = reverse (take k xs)

pub next_moment : (xs : List Event) (k : ℕ) (d e : Event) → k < length xs → get_or xs k d ≡ e
    → moment_at (k + 1) xs ≡ e ∷ moment_at k xs
next_moment xs k d e l is =
    pushed (take k xs) e (take (k + 1) xs) (take_more xs k d l ∙ ap (λ x. take k xs ++ x ∷ []) is)

pub moment_short : (xs : List Event) (k : ℕ) → k ≤ length xs → length (moment_at k xs) ≡ k
moment_short xs k l = length-reverse (take k xs) ∙ length-take-le k xs l

-- what follows an event leaves it standing
pub at_under : (later : List Event) (e : Event) (m : List Event) → At m e (later ++ e ∷ m)
at_under [] e m = Newest
at_under (x ∷ later) e m = Older x (later ++ e ∷ m) (at_under later e m)

pub at_moment : (xs : List Event) (k : ℕ) (d e : Event) → k < length xs → get_or xs k d ≡ e
    → At (moment_at k xs) e (reverse xs)
at_moment xs k d e l is =
    let later = reverse (drop (k + 1) xs) in
    let whole : reverse xs ≡ later ++ e ∷ moment_at k xs =
    ap reverse (sym (take-append-drop (k + 1) xs))
    ∙ reverse-append (take (k + 1) xs) (drop (k + 1) xs)
    ∙ ap (λ z. later ++ z) (next_moment xs k d e l is) in
    subst (λ z. At (moment_at k xs) e z) (sym whole) (at_under later e (moment_at k xs))

-- an event that stands is the newest, or an older one
pub newest_or_older : (e f : Event) (m p : List Event) → At m e (f ∷ p)
    → ((e ≡ f) × (m ≡ p)) ⊎ At m e p
newest_or_older e f m p Newest = inl (refl, refl)
newest_or_older e f m p (Older f' p' s) = inr s
