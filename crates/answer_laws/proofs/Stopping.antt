-- Where a node stops that fails in a run that is shown, its rounds that count end, and only what
-- the run omits isn't sent.
use Rattle.std.proofs.Common.{◌≡◌, ◌⊎◌, ◌∙◌, ℕ, ◌+◌, ◌<◌, ◌≤◌, ◌&&◌, Bool, true, false, List}
use Rattle.std.proofs.Common.{arith, if◌then◌else◌, inl, inr, refl, subst, sym}
use Rattle.std.specs.Prelude.{nat_le}
use Rattle.std.proofs.lemmas.Bool.{and_from, cases_Bool, cases_lt, le-leb, leb-true}
use Rattle.std.proofs.lemmas.Bool.{or_left, or_right}
use Rattle.exploration_texts.specs.Stops.{steps_of, steps_with}
use Rattle.omission_schedules.specs.Schedules.{with_stops}
use Rattle.round_explorer.specs.Properties.{Counts}
use Rattle.round_explorer.specs.Questions.{HasStopped, IsOfKind, IsPattern, IsTable}
use Rattle.round_explorer.specs.Questions.{Messages}
use Rattle.round_explorer.specs.Questions.{failure_of}
use Rattle.round_explorer.specs.declared.question.Failure.{Failure}
use Rattle.round_explorer.specs.declared.question.Failure.TheVariants.{Crashes, Never, Omits}
use Rattle.round_explorer.specs.declared.question.FaultKind.{FaultKind}
use Rattle.round_explorer.specs.declared.question.FaultKind.TheVariants.{Crash, Nobody, Omission}
use Rattle.round_explorer.specs.declared.question.Question.{Question}
use Rattle.round_meaning.specs.declared.setup.Setup.{Setup}
use Rattle.slot_plans.specs.Plan.{PlanLaws}
use Rattle.slot_plans.proofs.Rounds.{start-le, starts_apart}

-- a crash is in a round of the run
abbrev HasBegun : Failure → Type 0
HasBegun failure = (c : ℕ) → failure ≡ Crashes c → 1 ≤ c

of_kind : (kind : FaultKind) (rounds c : ℕ) → IsOfKind kind rounds (Crashes c) → 1 ≤ c
of_kind Crash rounds c h = h.0
of_kind Nobody rounds c h = absurd h
of_kind Omission rounds c h = absurd h

module _ (nodes : ℕ) (receives start : ℕ → ℕ) (laws : PlanLaws nodes receives start) (last : ℕ)
  where
    later : (r s : ℕ) → 1 ≤ r → r ≤ s → start r ≤ start s
    later r s first l = start-le nodes start (starts_apart laws) r s first l

    -- a node that crashes in one of the rounds stops after its sends of that round
    abbrev Stops : (c : ℕ) → (b : Bool) → ℕ
    Stops c b = if b then start c + nodes else start (last + 1)

    counts_at : (c r : ℕ) (b : Bool) → (nat_le 1 c && nat_le c last) ≡ b → 1 ≤ c → 1 ≤ r → r ≤ last
        → start (r + 1) ≤ Stops c b → r < c
    counts_at c r true in_run begun first past ends = by (cases_lt r c)
      where
        by : (r < c) ⊎ (c ≤ r) → r < c
        by (inl l) = l
        by (inr g) = absurd (omega (
          arith,
          later (c + 1) (r + 1) (omega arith) (omega arith),
          laws.next_start c begun,
          laws.some_receive c begun,
        ))
    counts_at c r false in_run begun first past ends = by (cases_lt last c)
      where
        by : (last < c) ⊎ (c ≤ last) → r < c
        by (inl l) = omega arith
        by (inr g) = let is : (nat_le 1 c && nat_le c last) ≡ true =
            and_from _ _ (le-leb 1 c begun) (le-leb c last g) in absurd cc

    -- a round that such a node ends counts
    pub counts : (failure : Failure) (r : ℕ) → HasBegun failure → 1 ≤ r → r ≤ last
        → start (r + 1) ≤ steps_with nodes start last failure → Counts failure r
    counts Never r begun first past ends = tt
    counts Omits r begun first past ends = tt
    counts (Crashes c) r begun first past ends =
        counts_at c r (nat_le 1 c && nat_le c last) refl (begun c refl) first past ends

    ends_at : (c r : ℕ) (b : Bool) → (nat_le 1 c && nat_le c last) ≡ b → 1 ≤ r → r ≤ last → r < c
        → start (r + 1) ≤ Stops c b
    ends_at c r true in_run first past before =
        omega (arith, later (r + 1) c (omega arith) (omega arith))
    ends_at c r false in_run first past before =
        later (r + 1) (last + 1) (omega arith) (omega arith)

    -- each round that counts ends
    pub ends : (failure : Failure) (r : ℕ) → 1 ≤ r → r ≤ last → Counts failure r
        → start (r + 1) ≤ steps_with nodes start last failure
    ends Never r first past h = later (r + 1) (last + 1) (omega arith) (omega arith)
    ends Omits r first past h = later (r + 1) (last + 1) (omega arith) (omega arith)
    ends (Crashes c) r first past h = ends_at c r (nat_le 1 c && nat_le c last) refl first past h

    -- a slot of one of the rounds comes before their end
    early : (r i : ℕ) → 1 ≤ r → r ≤ last → i < nodes → start r + i < start (last + 1)
    early r i first past known = omega (
      arith,
      later (r + 1) (last + 1) (omega arith) (omega arith),
      laws.next_start r first,
    )

    unsent_at : (c r i : ℕ) (b : Bool) → (nat_le 1 c && nat_le c last) ≡ b → 1 ≤ r → r ≤ last
        → i < nodes → Stops c b ≤ start r + i → c < r
    unsent_at c r i true in_run first past known late = by (cases_lt c r)
      where
        by : (c < r) ⊎ (r ≤ c) → c < r
        by (inl l) = l
        by (inr g) = absurd (omega (arith, later r c first g))
    unsent_at c r i false in_run first past known late =
        absurd (omega (arith, early r i first past known))

    -- what isn't sent is of a node that has stopped
    pub unsent : (failure : Failure) (r i : ℕ) → 1 ≤ r → r ≤ last → i < nodes
        → steps_with nodes start last failure ≤ start r + i → HasStopped failure r
    unsent Never r i first past known late = absurd (omega (arith, early r i first past known))
    unsent Omits r i first past known late = absurd (omega (arith, early r i first past known))
    unsent (Crashes c) r i first past known late =
        unsent_at c r i (nat_le 1 c && nat_le c last) refl first past known late

    -- so the run with these stops omits what the table does
    module _ (question : Question) (s : Setup) (pattern : List Failure) (omits : Messages)
        (sized : nodes ≡ s.nodes) (fewer : last ≤ s.rounds)
        (table : IsTable question s.nodes pattern s.rounds omits) where
      abbrev stopped : Messages
      stopped = with_stops start (steps_of nodes start last pattern) omits

      pub same_omits : (i r j : ℕ) → i < nodes → j < nodes → 1 ≤ r → r ≤ last
          → stopped i r j ≡ omits i r j
      same_omits i r j known sender first past =
          by (nat_le (steps_of nodes start last pattern j) (start r + i)) refl
          (cases_Bool (omits i r j))
        where
          missed : nat_le (steps_of nodes start last pattern j) (start r + i) ≡ true
              → omits i r j ≡ true
          missed late =
              let row = table i r (omega arith) first (omega arith) in
              row.stopped j (omega arith)
              (unsent (failure_of pattern j) r i first past known (leb-true _ _ late))

          by : (late : Bool) → nat_le (steps_of nodes start last pattern j) (start r + i) ≡ late
              → (omits i r j ≡ true) ⊎ (omits i r j ≡ false) → stopped i r j ≡ omits i r j
          by late e (inl is) = or_left _ _ is ∙ sym is
          by true e (inr isnt) = or_right _ _ e ∙ sym (missed e)
          by false e (inr isnt) = rw (isnt, e) refl

pub has_begun : (question : Question) (s : Setup) (pattern : List Failure) (i : ℕ)
    → IsPattern question s pattern → i < s.nodes → HasBegun (failure_of pattern i)
has_begun question s pattern i is known c e =
    let kind = is.kinds i Never (omega (arith, is.each_node)) in
    of_kind question.faults s.rounds c (subst (IsOfKind question.faults s.rounds) e kind)
