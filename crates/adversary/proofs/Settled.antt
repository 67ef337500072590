-- No due round stays open.
use Rattle.std.proofs.Common.{◌≡◌, ◌≢◌, ℕ, ◌+◌, ◌<◌, ◌≤◌, [], ◌∷◌, Result, Ok, Err}
use Rattle.std.proofs.Common.{OnOk, true, false, length, reverse, sym, ap, ◌∙◌, subst, arith, inl}
use Rattle.std.proofs.Common.{inr, append-nil}
use Rattle.std.proofs.lemmas.Bool.{cases_eq, cases_lt}
use Rattle.std.proofs.lemmas.Bool.Decides.{nat_tests}
use Rattle.slot_plans.specs.Plan.{PlanLaws}
use Rattle.slot_plans.proofs.Rounds.{start-le, starts_apart}
use Rattle.round_meaning.specs.declared.setup.Setup.{Setup}
use Rattle.step_book.proofs.Leaves.{happened_first}
use Rattle.step_book.proofs.Places.{steps_at, steps_other}
use Rattle.step_book.specs.Agreement.{row}
use Rattle.step_book.specs.Log.{IsDue, IsFaithful, Log, count_of, happened, history, round_of}
use Rattle.step_book.specs.Trace.{is_step, steps}
use Rattle.run_events.specs.declared.event.Event.{Event}
use Rattle.run_events.specs.declared.event.Event.TheVariants.{Step}
use Rattle.adversary.specs.Driving.{AreSettled, ClosedAreDue, GoesOn, IsInRound, IsSettled}

-- one event more in the trace
pub newest : (old new : Log) (i : ℕ) (e : Event) → GoesOn old new i (e ∷ [])
    → history new ≡ e ∷ history old
newest old new i e g = ap reverse g.trace ∙ happened_first old e

same_history : (old new : Log) (i : ℕ) → GoesOn old new i [] → history new ≡ history old
same_history old new i g = ap reverse (g.trace ∙ append-nil old.trace)

own_step : (i : ℕ) → is_step i (Step i) ≡ true
own_step i = grind arith

no_steps : (v : Log) → v.trace ≡ [] → (i : ℕ) → count_of v i ≡ 0
unfolding steps
no_steps v none i = ap (λ t. steps i (reverse t)) none

stepped : (old new : Log) (i : ℕ) → GoesOn old new i (Step i ∷ [])
    → count_of new i ≡ count_of old i + 1
stepped old new i g = ap (steps i) (newest old new i (Step i) g)
    ∙ steps_at i (Step i) (history old) (own_step i)

-- after the last receive of its round it is due, and not over
pub due_now : (start : ℕ → ℕ) (old new : Log) (i : ℕ)
    → count_of old i + 1 ≡ start (round_of old i + 1) → GoesOn old new i (Step i ∷ [])
    → row new.rows i ≡ row old.rows i → count_of new i ≡ start (round_of new i + 1)
due_now start old new i last g same = stepped old new i g ∙ last
    ∙ ap (λ x. start (length x + 1)) (sym same)

module _ (start receives : ℕ → ℕ) (nodes : ℕ) (laws : PlanLaws nodes receives start) where
  -- after a send the round has a receive to come
  pub settled_send : (old new : Log) (i : ℕ) → 0 < round_of old i
      → count_of old i < start (round_of old i) + nodes
      → GoesOn old new i (Step i ∷ []) → round_of new i ≡ round_of old i → IsSettled start new i
  settled_send old new i some within g same due =
      omega (
        arith,
        due.1,
        within,
        stepped old new i g,
        starts_apart laws (round_of old i) some,
        ap (λ r. start (r + 1)) same,
      )

  -- after a receive that isn't the last
  pub settled_receive : (old new : Log) (i : ℕ) → round_of old i ≤ old.setup.rounds
      → IsSettled start old i → count_of old i + 1 ≢ start (round_of old i + 1)
      → GoesOn old new i (Step i ∷ []) → round_of new i ≡ round_of old i → IsSettled start new i
  settled_receive old new i last settled more g same due =
      elim (cases_lt (count_of old i) (start (round_of old i + 1))) [
        | inl before ↦ more (omega (
          arith,
          before,
          due.1,
          stepped old new i g,
          ap (λ r. start (r + 1)) same,
        ))
        | inr past ↦ settled (last, past)
      ]

  -- after the last receive and the end of its round
  pub settled_close : (old middle new : Log) (i : ℕ)
      → count_of old i + 1 ≡ start (round_of old i + 1)
      → GoesOn old middle i (Step i ∷ []) → round_of middle i ≡ round_of old i
      → GoesOn middle new i [] → round_of new i ≡ round_of middle i + 1 → IsSettled start new i
  settled_close old middle new i last g same h next due =
      let round : round_of new i ≡ round_of old i + 1 = next ∙ ap (λ r. r + 1) same in
      omega (
        arith,
        due.1,
        last,
        stepped old middle i g,
        ap (steps i) (same_history middle new i h),
        starts_apart laws (round_of old i + 1) (omega arith),
        ap (λ r. start (r + 1)) round,
      )

  -- past the last round
  pub settled_idle : (old new : Log) (i : ℕ) → old.setup.rounds < round_of old i
      → GoesOn old new i (Step i ∷ []) → round_of new i ≡ round_of old i → IsSettled start new i
  settled_idle old new i past g same due =
      omega (arith, due.0, past, same, ap (λ (s : Setup). s.rounds) g.setup)

  -- no round is due before the first event
  pub settled_first : (v : Log) → v.trace ≡ [] → IsFaithful start v → AreSettled start v
  settled_first v none faithful i node due =
      let some = faithful.began i node in
      omega (
        arith,
        due.1,
        no_steps v none i,
        start-le nodes start (starts_apart laws) 2 (round_of v i + 1) (omega arith)
            (omega (arith, some)),
        starts_apart laws 1 (omega arith),
      )

  -- if no due round is open, a round is closed exactly if it's due
  pub closed_are_due : (v : Log) → IsFaithful start v → AreSettled start v → ClosedAreDue start v
  closed_are_due v faithful settled i r node some last = (
    (λ closed. omega (
      arith,
      start-le nodes start (starts_apart laws) (r + 1) (round_of v i) (omega arith)
          (omega (arith, closed)),
      faithful.past i node,
    )),
    (λ due. elim (cases_lt r (round_of v i)) [
      | inl closed ↦ closed
      | inr open_yet ↦ absurd (settled i node (
        omega (arith, open_yet, last),
        omega (
          arith,
          due,
          start-le nodes start (starts_apart laws) (round_of v i + 1) (r + 1) (omega arith)
              (omega (arith, open_yet)),
        ),
      ))
    ]),
  )

-- if no due round is open, the next step is one of the node's round
pub in_round : (start : ℕ → ℕ) (v : Log) (i : ℕ) → IsFaithful start v → i < v.setup.nodes
    → round_of v i ≤ v.setup.rounds → IsSettled start v i → IsInRound start v i
in_round start v i faithful node last settled = record {
  first = faithful.began i node;
  last = last;
  begun = faithful.past i node;
  within = elim (cases_lt (count_of v i) (start (round_of v i + 1))) [
    | inl before ↦ before
    | inr past ↦ absurd (settled (last, past))
  ];
}

-- another node's steps are as many as before
pub not_its_step : (i j : ℕ) → j ≢ i → is_step j (Step i) ≡ false
not_its_step i j apart = grind (arith, nat_tests, apart)

others_steps : (old new : Log) (i j : ℕ) → GoesOn old new i (Step i ∷ []) → j ≢ i
    → count_of new j ≡ count_of old j
others_steps old new i j g apart = ap (steps j) (newest old new i (Step i) g)
    ∙ steps_other j (Step i) (history old) (not_its_step i j apart)

-- a node stepped, and its due round was closed
pub settled_step : (start : ℕ → ℕ) (old new : Log) (i : ℕ) → GoesOn old new i (Step i ∷ [])
    → AreSettled start old → IsSettled start new i → AreSettled start new
settled_step start old new i g settled here j node due =
    elim (cases_eq j i) [
      | inl same ↦ here (subst (IsDue start new) same due)
      | inr apart ↦
          let ne : j ≢ i = apart in
          let nodes = ap (λ (s : Setup). s.nodes) g.setup in
          let round : round_of new j ≡ round_of old j = ap length (g.others j ne) in
          settled j (omega (arith, node, nodes)) (
            omega (arith, due.0, round, ap (λ (s : Setup). s.rounds) g.setup),
            omega (arith, due.1, others_steps old new i j g ne, ap (λ r. start (r + 1)) round),
          )
    ]

-- an event of the network
pub settled_rest : (start : ℕ → ℕ) (old new : Log) (e : Event) → ((i : ℕ) → is_step i e ≡ false)
    → new ≡ happened old e → AreSettled start old → AreSettled start new
settled_rest start old new e quiet is settled j node due =
    let count : count_of new j ≡ count_of old j = ap (λ (v : Log). count_of v j) is
    ∙ ap (steps j) (happened_first old e) ∙ steps_other j e (history old) (quiet j) in
    let round : round_of new j ≡ round_of old j = ap (λ (v : Log). round_of v j) is in
    let setup : new.setup ≡ old.setup = ap (λ (v : Log). v.setup) is in
    settled j (omega (arith, node, ap (λ (s : Setup). s.nodes) setup)) (
      omega (arith, due.0, round, ap (λ (s : Setup). s.rounds) setup),
      omega (arith, due.1, count, ap (λ r. start (r + 1)) round),
    )

-- what follows from facts of a call that went well
pub on_ok : {R E A B C D : Type 0} (r : Result R E) → OnOk r A → OnOk r B → OnOk r C
    → (A → B → C → D) → OnOk r D
on_ok (Ok x) a b c f = f a b c
on_ok (Err e) a b c f = tt

pub on_each : {R E A B : Type 0} (r : Result R E) → OnOk r A → (A → B) → OnOk r B
on_each (Ok x) a f = f a
on_each (Err e) a f = tt

pub on_four : {R E A B C D F : Type 0} (r : Result R E) → OnOk r A → OnOk r B → OnOk r C → OnOk r D
    → (A → B → C → D → F) → OnOk r F
on_four (Ok x) a b c d f = f a b c d
on_four (Err e) a b c d f = tt
