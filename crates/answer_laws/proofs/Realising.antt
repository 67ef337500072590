-- The schedule that realises lines omits just what they say, and so does the run in rounds.
use Rattle.std.proofs.Common.{◌≡◌, ◌⊎◌, ◌∙◌, ℕ, ◌+◌, ◌<◌, ◌≤◌, ◌==◌, Bool, true, false}
use Rattle.std.proofs.Common.{List, [], ◌∷◌, ap, arith, if◌then◌else◌, inl, inr, refl, subst}
use Rattle.std.proofs.Common.{sym}
use Rattle.std.specs.Prelude.{◌↔◌, All, min, nat_le}
use Rattle.std.specs.List.{filter_map, fold}
use Rattle.std.proofs.lemmas.Bool.{and_from, cases_Bool, cases_lt, eqb-true, eq-eqb, leb-true}
use Rattle.std.proofs.lemmas.Bool.{lt-ltb, or_left, or_right}
use Rattle.std.proofs.lemmas.List.Elements.{All-head, All-tail}
use Rattle.command_runs.specs.InOmissions.{realised_by}
use Rattle.omission_schedules.specs.Schedules.{schedule_with_stops, with_stops}
use Rattle.omission_schedules.proofs.Realised.{each_stopped_placed}
use Rattle.omission_texts.specs.Meaning.{IsKnown, omits}
use Rattle.omission_texts.specs.Stops.{crash_in, crash_round, steps_of}
use Rattle.omission_texts.specs.declared.line.OmissionLine.{OmissionLine}
use Rattle.omission_texts.specs.declared.line.OmissionLine.TheVariants.{Crash, Cut, Omit}
use Rattle.round_explorer.specs.Questions.{Messages}
use Rattle.round_meaning.specs.declared.setup.Setup.{Setup}
use Rattle.slot_plans.specs.Plan.{PlanLaws}
use Rattle.slot_plans.proofs.Rounds.{start-le, starts_apart}
use Rattle.step_book.specs.Places.{IsCarried}
use Rattle.step_book.specs.World.{nodes_of}
use Rattle.answer_laws.specs.Read.{RealisedOmitsJustThat}

-- ---- crashes of a node

-- the round is the first in which the lines have node j crash, if they do before round `most`
record IsCrash (s : Setup) (ls : List OmissionLine) (j most c : ℕ) : Type 0 where
  first : 1 ≤ c
  later : (i r : ℕ) → c < r → omits ls i r j ≡ true

crash_more : (l : OmissionLine) (s : Setup) (ls : List OmissionLine) (j most c : ℕ)
    → IsCrash s ls j most c → IsCrash s (l ∷ ls) j most c
crash_more l s ls j most c h = record {
  first = h.first;
  later = λ i r past. or_right _ _ (h.later i r past);
}

abbrev least_of : (j most : ℕ) → List OmissionLine → ℕ
least_of j most ls = fold min most (filter_map (crash_in j) ls)

crash_here : (s : Setup) (ls : List OmissionLine) (j most node round : ℕ) (reached : List ℕ)
    → node ≡ j → 1 ≤ round → IsCrash s (Crash node round reached ∷ ls) j most round
crash_here s ls j most node round reached same first = record {
  first = first;
  later = λ i r past. or_left _ _ (and_from _ _ (eq-eqb _ _ same)
      (or_right _ _ (lt-ltb _ _ past)));
}

abbrev Found : Setup → List OmissionLine → (j most c : ℕ) → Type 0
Found s ls j most c = (c ≡ most) ⊎ IsCrash s ls j most c

found_more : (l : OmissionLine) (s : Setup) (ls : List OmissionLine) (j most c : ℕ)
    → Found s ls j most c → Found s (l ∷ ls) j most c
found_more l s ls j most c (inl e) = inl e
found_more l s ls j most c (inr h) = inr (crash_more l s ls j most c h)

-- a crash of node j, and what the other lines say
module _ (s : Setup) (ls : List OmissionLine) (j most node round : ℕ) (reached : List ℕ)
    (begun : 1 ≤ round) where
  abbrev line : OmissionLine
  line = Crash node round reached

  own : node ≡ j → (c : ℕ) → Found s ls j (min most round) c → (most < round) ⊎ (round ≤ most)
      → Found s (line ∷ ls) j most c
  own same c (inl e) (inl low) = inl (omega (arith, e, low))
  own same c (inl e) (inr high) =
      let is : round ≡ c = omega (arith, e, high) in
      inr (subst (IsCrash s (line ∷ ls) j most) is
      (crash_here s ls j most node round reached same begun))
  own same c (inr h) order = inr (record {
    first = h.first;
    later = λ i r past. or_right _ _ (h.later i r past);
  })

  crash_by : (b : Bool) → (node == j) ≡ b
      → ((m : ℕ) → Found s ls j m (least_of j m ls))
      → Found s (line ∷ ls) j most (least_of j most (line ∷ ls))
  crash_by true e rest = rw e (own (eqb-true _ _ e) (least_of j (min most round) ls)
      (rest (min most round)) (cases_lt most round))
  crash_by false e rest = rw e (found_more line s ls j most (least_of j most ls) (rest most))

find_crash : (s : Setup) (ls : List OmissionLine) (j most : ℕ) → All (IsKnown s) ls
    → Found s ls j most (least_of j most ls)
find_crash s [] j most known = inl refl
find_crash s (Omit i rs k ∷ ls) j most known =
    found_more (Omit i rs k) s ls j most (least_of j most ls)
    (find_crash s ls j most (All-tail (IsKnown s) (Omit i rs k) ls known))
find_crash s (Cut list rs ∷ ls) j most known =
    found_more (Cut list rs) s ls j most (least_of j most ls)
    (find_crash s ls j most (All-tail (IsKnown s) (Cut list rs) ls known))
find_crash s (Crash node round reached ∷ ls) j most known =
    let here = All-head (IsKnown s) (Crash node round reached) ls known in
    crash_by s ls j most node round reached here.1.0 (node == j) refl
    (λ m. find_crash s ls j m (All-tail (IsKnown s) (Crash node round reached) ls known))

-- ---- what the stops add

-- what isn't sent is omitted too
abbrev pub stopped : (start : ℕ → ℕ) → Setup → List OmissionLine → Messages
stopped start s ls = with_stops start (steps_of s.nodes start s ls) (omits ls)

module _ (receives start : ℕ → ℕ) (s : Setup) (ls : List OmissionLine)
    (laws : PlanLaws s.nodes receives start) (known : All (IsKnown s) ls) where
  later : (r q : ℕ) → 1 ≤ r → r ≤ q → start r ≤ start q
  later r q first l = start-le s.nodes start (starts_apart laws) r q first l

  early : (r i : ℕ) → 1 ≤ r → r ≤ s.rounds → i < s.nodes → start r + i < start (s.rounds + 1)
  early r i first past node =
      omega (
        arith,
        later (r + 1) (s.rounds + 1) (omega arith) (omega arith),
        laws.next_start r first,
      )

  -- who doesn't take its slot has crashed before
  unsent : (i r j : ℕ) → i < s.nodes → 1 ≤ r → r ≤ s.rounds
      → steps_of s.nodes start s ls j ≤ start r + i → omits ls i r j ≡ true
  unsent i r j node first past late =
      by (nat_le (crash_round s ls j) s.rounds) refl (find_crash s ls j (s.rounds + 1) known)
    where
      crashed : crash_round s ls j ≤ s.rounds
          → steps_of s.nodes start s ls j ≡ start (crash_round s ls j) + s.nodes
          → (crash_round s ls j ≡ s.rounds + 1)
          ⊎ IsCrash s ls j (s.rounds + 1) (crash_round s ls j)
          → (crash_round s ls j < r) ⊎ (r ≤ crash_round s ls j)
          → omits ls i r j ≡ true
      crashed few stop (inl none) order = absurd (omega (arith, few, none))
      crashed few stop (inr crash) (inl before) = crash.later i r before
      crashed few stop (inr crash) (inr g) =
          absurd (omega (arith, late, stop, node, later r (crash_round s ls j) first g))

      by : (b : Bool) → nat_le (crash_round s ls j) s.rounds ≡ b
          → (crash_round s ls j ≡ s.rounds + 1)
          ⊎ IsCrash s ls j (s.rounds + 1) (crash_round s ls j)
          → omits ls i r j ≡ true
      by true e found =
          let stop : steps_of s.nodes start s ls j ≡ start (crash_round s ls j) + s.nodes =
          ap (λ b. if b then start (crash_round s ls j) + s.nodes else start (s.rounds + 1)) e in
          crashed (leb-true _ _ e) stop found (cases_lt (crash_round s ls j) r)
      by false e found =
          let stop : steps_of s.nodes start s ls j ≡ start (s.rounds + 1) =
          ap (λ b. if b then start (crash_round s ls j) + s.nodes else start (s.rounds + 1)) e in
          absurd (omega (arith, late, stop, early r i first past node))

  pub same_omits : (i r j : ℕ) → i < s.nodes → 1 ≤ r → r ≤ s.rounds
      → stopped start s ls i r j ≡ omits ls i r j
  same_omits i r j node first past =
      by (nat_le (steps_of s.nodes start s ls j) (start r + i)) refl (cases_Bool (omits ls i r j))
    where
      by : (late : Bool) → nat_le (steps_of s.nodes start s ls j) (start r + i) ≡ late
          → (omits ls i r j ≡ true) ⊎ (omits ls i r j ≡ false)
          → stopped start s ls i r j ≡ omits ls i r j
      by late e (inl is) = or_left _ _ is ∙ sym is
      by true e (inr isnt) =
          or_right _ _ e ∙ sym (unsent i r j node first past (leb-true _ _ e))
      by false e (inr isnt) = rw (isnt, e) refl

pub realised_omits_just_that : RealisedOmitsJustThat
realised_omits_just_that w receives s ls sized long laws known i r j copy receiver sender first past
    ends =
    let own = subst (λ n. PlanLaws n receives w.start) (sym sized) laws in
    let placed = each_stopped_placed w receives (steps_of s.nodes w.start s ls) own (omits ls) i r j
    copy (omega (arith, receiver, sized)) (omega (arith, sender, sized)) first
    (omega (arith, past, long)) ends in
    let same = same_omits receives w.start s ls laws known i r j receiver first past in
    subst (λ b. (b ≡ false) ↔ IsCarried w (realised_by receives w.start s ls)
    (record { from = j; to = i; round = r; copy = copy })) same
    (subst (λ n. (stopped w.start s ls i r j ≡ false) ↔ IsCarried w
    (schedule_with_stops n receives w.start (steps_of s.nodes w.start s ls) (omits ls) s.rounds)
    (record { from = j; to = i; round = r; copy = copy })) sized
    (subst (λ m. (stopped w.start s ls i r j ≡ false) ↔ IsCarried w
    (schedule_with_stops (nodes_of w) receives w.start (steps_of s.nodes w.start s ls) (omits ls) m)
    (record { from = j; to = i; round = r; copy = copy })) long placed))
