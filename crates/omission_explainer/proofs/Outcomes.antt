-- What the marks say of a closed round, and how a loop over the senders makes the three sets.
use Rattle.std.proofs.Common.{◌≡◌, ℕ, suc, ◌+◌, ◌-◌, ◌^◌, ◌<◌, ◌≤◌, Bool, true, false, cond}
use Rattle.std.proofs.Common.{if◌then◌else◌, List, length, Option, None, Some, refl, sym, ap, ◌∙◌}
use Rattle.std.proofs.Common.{subst, arith, ◌⊎◌, inl, inr}
use Rattle.std.specs.Prelude.{◌&&◌, not, is_some, bit_or, nat_lt, reverse}
use Rattle.std.proofs.lemmas.Bool.{cases_lt, le-ltb, lt-ltb}
use Rattle.round_lang.specs.Sets.{set_of, union, only}
use Rattle.round_lang.specs.declared.value.Value.{Value}
use Rattle.round_lang.proofs.SetLaws.{bit-set_of, is-set_of, is-union, is-only, set_of-lt}
use Rattle.round_lang.proofs.SetLaws.{set_of-set, set_of-kept, small_pow}
use Rattle.round_meaning.specs.declared.setup.Setup.{Setup}
use Rattle.slot_plans.specs.Plan.{PlanLaws}
use Rattle.run_events.specs.declared.event.Event.{Event}
use Rattle.run_events.specs.declared.event.Event.TheVariants.{Step}
use Rattle.run_events.specs.declared.name.Name.{Name}
use Rattle.step_book.specs.declared.mark.Mark.{Mark}
use Rattle.step_book.specs.declared.mark.Mark.TheVariants.{Unsent, Silent, Flying, Released, Lost}
use Rattle.step_book.specs.Fates.{Fate, Unmade, Moving, Waiting, Taken, carried, fate}
use Rattle.step_book.specs.Fates as fates
use Rattle.step_book.specs.History.{mark_of, marked, message, state}
use Rattle.step_book.specs.Log.{Log, IsFaithful, count_of, history, round_of, world_of}
use Rattle.step_book.specs.Places.{IsSlotAt, Sent}
use Rattle.step_book.specs.Trace.{steps}
use Rattle.step_book.specs.Work.{any_within, sent_name, tag_by}
use Rattle.step_book.specs.World.{World, IsPlan, earliest}
use Rattle.step_book.proofs.Fates.{copy_to, unmade_before}
use Rattle.step_book.proofs.Heard.{heard_is, tagged}
use Rattle.step_book.proofs.Kept.{mark_is}
use Rattle.step_book.proofs.Moments.{at_place, at_steps}
use Rattle.step_book.proofs.Placed.{made_found}
use Rattle.step_book.proofs.Plans.{start_le}
use Rattle.step_book.proofs.Starts.{plan_is}
use Rattle.omission_explainer.specs.Printed.{is_heard, is_silent}
use Rattle.omission_explainer.specs.Reported.{carried_in, heard_in, omitted_in, sends_in, silent_in}
use Rattle.omission_explainer.specs.Reported.{stands_in}
use Rattle.omission_explainer.proofs.Moments.{step_at}
use Rattle.omission_explainer.proofs.Parts.{small_set}

-- ---- what the marks say

-- the slot came, with no message
abbrev pub is_quiet : Mark → Bool
is_quiet Unsent = false
is_quiet Silent = true
is_quiet Flying = false
is_quiet (Released x) = false
is_quiet Lost = false

quiet_unmade : (w : World) (m : Option (List Value)) → is_quiet (marked w 0 m Unmade) ≡ false
quiet_unmade w None = refl
quiet_unmade w (Some m) = refl

quiet_made : (w : World) (m : Option (List Value)) (f : Fate) → (f ≡ Unmade → ⊥)
    → is_quiet (marked w 0 m f) ≡ not (is_some m)
quiet_made w m Unmade h = absurd (h refl)
quiet_made w None Moving h = refl
quiet_made w None (Waiting x) h = refl
quiet_made w None (Taken x c) h = refl
quiet_made w None fates.Lost h = refl
quiet_made w (Some m) Moving h = refl
quiet_made w (Some m) (Waiting x) h = refl
quiet_made w (Some m) (Taken x c) h = refl
quiet_made w (Some m) fates.Lost h = refl

-- the mark tells whether the slot came with no message
pub quiet_is : (w : World) (t : List Event) (n : Name) → n.copy ≡ 0
    → is_quiet (mark_of w t n) ≡ (nat_lt (w.start n.round + n.to) (steps n.from t)
    && not (is_some (message w t n)))
quiet_is w t n c = ap is_quiet (mark_is w t n ∙ ap (λ k. marked w k (message w t n) (fate w t n)) c)
    ∙ by (cases_lt _ _)
  where
    by : (w.start n.round + n.to < steps n.from t) ⊎ (steps n.from t ≤ w.start n.round + n.to)
        → is_quiet (marked w 0 (message w t n) (fate w t n))
        ≡ (nat_lt (w.start n.round + n.to) (steps n.from t) && not (is_some (message w t n)))
    by (inl late) =
        let a = step_at n.from (w.start n.round + n.to) t late in
        let slot : IsSlotAt w (reverse t) n (length a.moment) = record {
          there = at_place a.moment (Step n.from) t a.stands;
          number = at_steps n.from a.moment (Step n.from) t a.stands ∙ a.number;
        } in
        quiet_made w (message w t n) (fate w t n) (made_found w t n (length a.moment) (Sent c slot))
        ∙ sym (ap (λ b. b && not (is_some (message w t n))) (lt-ltb _ _ late))
    by (inr early) =
        ap (λ f. is_quiet (marked w 0 (message w t n) f)) (unmade_before w t n early)
        ∙ quiet_unmade w (message w t n)
        ∙ sym (ap (λ b. b && not (is_some (message w t n))) (le-ltb _ _ early))

if_some : {A : Type 0} (b : Bool) (x : A) → is_some (if b then Some x else None) ≡ b
if_some true x = refl
if_some false x = refl

some_tag : (c : Bool) (m : Option (List Value)) (n : Name) (s : List Value)
    → is_some (if c then tag_by m n s else None) ≡ (c && is_some m)
some_tag true None n s = refl
some_tag true (Some m) n s = refl
some_tag false m n s = refl

-- the marks of the copies of what j sent to i in round r
abbrev pub marks_to : World → List Event → ℕ → ℕ → ℕ → ℕ → Mark
marks_to w t i r j k = mark_of w t (copy_to j i r k)

within_suc : (w : World) → IsPlan w → (t : List Event) (i q j : ℕ) → suc q ≤ w.rounds
    → w.start (suc q + 1) ≤ steps i t
    → any_within (marks_to w t i (suc q) j) (w.start (earliest (suc q))) (w.start (suc q + 1))
    ≡ (carried w t i (suc q) j && is_some (message w t (sent_name j i (suc q))))
within_suc w p t i q j l n =
    sym (if_some (any_within (marks_to w t i (suc q) j) (w.start (earliest (suc q)))
    (w.start (suc q + 1))) (tagged j i q (state w t q j)))
    ∙ ap is_some (sym (heard_is w p t i q j l n))
    ∙ some_tag (carried w t i (suc q) j) (message w t (sent_name j i (suc q)))
    (sent_name j i (suc q)) (state w t q j)

-- once a round is past, the marks of a message's copies tell whether it was carried to it
pub within_is : (w : World) → IsPlan w → (t : List Event) (i r j : ℕ) → 0 < r → r ≤ w.rounds
    → w.start (r + 1) ≤ steps i t
    → any_within (marks_to w t i r j) (w.start (earliest r)) (w.start (r + 1))
    ≡ (carried w t i r j && is_some (message w t (sent_name j i r)))
within_is w p t i r j z l n =
    let e : suc (r - 1) ≡ r = omega arith in
    let again : w.start (suc (r - 1) + 1) ≡ w.start (r + 1) = ap (λ x. w.start (x + 1)) e in
    subst (λ x. any_within (marks_to w t i x j) (w.start (earliest x)) (w.start (x + 1))
    ≡ (carried w t i x j && is_some (message w t (sent_name j i x)))) e
    (within_suc w p t i (r - 1) j (omega arith) (omega arith))

-- ---- sets that a loop makes

pub added : (v bits : ℕ) (p : ℕ → Bool) → v < 64 → p v ≡ true → bits ≡ set_of v p
    → union bits (only 64 v) ≡ set_of (v + 1) p
added v bits p h is_so e =
    let small : bits < 2 ^ 64 = subst (λ n. n < 2 ^ 64) (sym e) (small_set v p (omega arith)) in
    sym (is-union bits (only 64 v) small (set_of-lt 64 _))
    ∙ ap (λ n. bit_or bits n) (sym (is-only 64 v h) ∙ sym (small_pow v h))
    ∙ set_of-set v bits p h is_so e

-- tests that agree have one set
pub same_set : (n : ℕ) (p q : ℕ → Bool) → ((j : ℕ) → p j ≡ q j) → set_of n p ≡ set_of n q
same_set n p q same = is-set_of n (set_of n p) q (set_of-lt n p) (λ i h. bit-set_of n p i h
    ∙ ap (λ b. cond b 1 0) (same i))

-- the senders below n, separated by what was carried of them and by their marks
pub record Sorted (c : ℕ → Bool) (m : ℕ → Mark) (n h s o : ℕ) : Type 0 where
  pub heard : h ≡ set_of n c
  pub silent : s ≡ set_of n (λ j. is_quiet (m j))
  pub omitted : o ≡ set_of n (λ j. not (c j) && not (is_quiet (m j)))

no_set : (p : ℕ → Bool) → 0 ≡ set_of 0 p
unfolding set_of
no_set p = refl

pub sorted_none : (c : ℕ → Bool) (m : ℕ → Mark) (h s o : ℕ) → h ≡ 0 → s ≡ 0 → o ≡ 0
    → Sorted c m 0 h s o
sorted_none c m h s o eh es eo = record {
  heard = eh ∙ no_set _;
  silent = es ∙ no_set _;
  omitted = eo ∙ no_set _;
}

not_true : (b : Bool) → (b ≡ true → ⊥) → b ≡ false
not_true true h = absurd (h refl)
not_true false h = refl

not_silent : (x : Mark) → (x ≡ Silent → ⊥) → is_quiet x ≡ false
not_silent Unsent h = refl
not_silent Silent h = absurd (h refl)
not_silent Flying h = refl
not_silent (Released n) h = refl
not_silent Lost h = refl

-- the sender's mark is x, and b says whether it was carried
module _ {c : ℕ → Bool} {m : ℕ → Mark} {k h s o : ℕ} (h2 s2 o2 : ℕ) (x : Mark) (b : Bool)
    (few : k < 64) (marked : x ≡ m k) (carries : b ≡ c k) (before : Sorted c m k h s o) where
  pub sorted_heard : b ≡ true → (x ≡ Silent → ⊥) → h2 ≡ union h (only 64 k) → s2 ≡ s → o2 ≡ o
      → Sorted c m (k + 1) h2 s2 o2
  sorted_heard is loud eh es eo =
      let w : c k ≡ true = sym carries ∙ is in
      let q : is_quiet (m k) ≡ false = ap is_quiet (sym marked) ∙ not_silent x loud in
      record {
        heard = eh ∙ added k h c few w before.heard;
        silent = es ∙ set_of-kept k s (λ j. is_quiet (m j)) q before.silent;
        omitted = eo ∙ set_of-kept k o (λ j. not (c j) && not (is_quiet (m j)))
            (ap (λ y. not y && not (is_quiet (m k))) w) before.omitted;
      }

  pub sorted_silent : x ≡ Silent → b ≡ false → h2 ≡ h → s2 ≡ union s (only 64 k) → o2 ≡ o
      → Sorted c m (k + 1) h2 s2 o2
  sorted_silent is none eh es eo =
      let q : is_quiet (m k) ≡ true = ap is_quiet (sym marked ∙ is) in
      let w : c k ≡ false = sym carries ∙ none in
      record {
        heard = eh ∙ set_of-kept k h c w before.heard;
        silent = es ∙ added k s (λ j. is_quiet (m j)) few q before.silent;
        omitted = eo ∙ set_of-kept k o (λ j. not (c j) && not (is_quiet (m j)))
            (ap (λ y. not y && not (is_quiet (m k))) w ∙ ap not q) before.omitted;
      }

  pub sorted_omitted : (b ≡ true → ⊥) → (x ≡ Silent → ⊥) → h2 ≡ h → s2 ≡ s
      → o2 ≡ union o (only 64 k) → Sorted c m (k + 1) h2 s2 o2
  sorted_omitted out loud eh es eo =
      let w : c k ≡ false = sym carries ∙ not_true b out in
      let q : is_quiet (m k) ≡ false = ap is_quiet (sym marked) ∙ not_silent x loud in
      record {
        heard = eh ∙ set_of-kept k h c w before.heard;
        silent = es ∙ set_of-kept k s (λ j. is_quiet (m j)) q before.silent;
        omitted = eo ∙ added k o (λ j. not (c j) && not (is_quiet (m j))) few
            (ap (λ y. not y && not (is_quiet (m k))) w ∙ ap not q) before.omitted;
      }

-- ---- the row of a closed round

-- what the marks say of the senders to round r of node i
abbrev pub within_in : (ℕ → ℕ) → Log → ℕ → ℕ → ℕ → Bool
within_in start v i r j = any_within (marks_to (world_of start v) (history v) i r j)
    (start (earliest r)) (start (r + 1))

abbrev pub mark_to : (ℕ → ℕ) → Log → ℕ → ℕ → ℕ → Mark
mark_to start v i r j = mark_of (world_of start v) (history v) (sent_name j i r)

module _ {start : ℕ → ℕ} {v : Log} (i r : ℕ) (plan : IsPlan (world_of start v))
    (faithful : IsFaithful start v) (node : i < v.setup.nodes) (first : 0 < r)
    (closed : r < round_of v i) where
  past_closed : start (r + 1) ≤ count_of v i
  past_closed =
      let up = start_le (world_of start v) plan (r + 1) (round_of v i) (omega arith)
      (omega arith) in
      let before = faithful.past i node in
      omega arith

  last_closed : r ≤ v.setup.rounds
  last_closed = let most = faithful.bounded i node in omega arith

  pub heard_here : (j : ℕ)
      → within_in start v i r j ≡ is_heard (carried_in start v r i) (sends_in start v r i) j
  heard_here j = within_is (world_of start v) plan (history v) i r j first last_closed past_closed

  pub silent_here : (j : ℕ)
      → is_quiet (mark_to start v i r j) ≡ is_silent (sends_in start v r i)
      (stands_in start v r i) j
  silent_here j = quiet_is (world_of start v) (history v) (sent_name j i r) refl

-- silence wasn't carried
pub silent_unheard : (start receives : ℕ → ℕ) (nodes : ℕ) (v : Log) (i r j : ℕ)
    → PlanLaws nodes receives start → nodes ≡ v.setup.nodes → IsFaithful start v → i < v.setup.nodes
    → 0 < r → r < round_of v i → mark_to start v i r j ≡ Silent → within_in start v i r j ≡ false
silent_unheard start receives nodes v i r j laws n faithful node first closed h =
    let plan = plan_is start receives nodes v laws n in
    heard_here i r plan faithful node first closed j
    ∙ unheard (carried_in start v r i j) (stands_in start v r i j) (sends_in start v r i j)
    (sym (silent_here i r plan faithful node first closed j) ∙ ap is_quiet h)
  where
    unheard : (c st says : Bool) → (st && not says) ≡ true → (c && says) ≡ false
    unheard true true true h = cc
    unheard true false true h = cc
    unheard true st false h = refl
    unheard false st says h = refl

-- the senders separated so are the three sets of a closed round
pub shows : (start receives : ℕ → ℕ) (nodes : ℕ) (v : Log) (i r : ℕ) (u : Setup) (k h s o : ℕ)
    → PlanLaws nodes receives start → nodes ≡ v.setup.nodes → IsFaithful start v → i < v.setup.nodes
    → 0 < r → r < round_of v i → u ≡ v.setup → u.nodes ≤ k → k ≤ u.nodes
    → (k ≤ 64 → Sorted (within_in start v i r) (mark_to start v i r) k h s o)
    → (h ≡ heard_in start v r i) × (s ≡ silent_in start v r i) × (o ≡ omitted_in start v r i)
shows start receives nodes v i r u k h s o laws n faithful node first closed setup low high made =
    let same : u.nodes ≡ v.setup.nodes = ap (λ (x : Setup). x.nodes) setup in
    let all : k ≡ v.setup.nodes = omega arith in
    let few = laws.few_nodes in
    let b = subst (λ x. Sorted (within_in start v i r) (mark_to start v i r) x h s o) all
    (made (omega arith)) in
    let plan = plan_is start receives nodes v laws n in
    let heard = heard_here i r plan faithful node first closed in
    let quiet = silent_here i r plan faithful node first closed in (
      b.heard ∙ same_set v.setup.nodes _ _ heard,
      b.silent ∙ same_set v.setup.nodes _ _ quiet,
      b.omitted ∙ same_set v.setup.nodes _ _ (λ j.
          ap (λ x. not x && not (is_quiet (mark_to start v i r j))) (heard j)
          ∙ ap (λ x. not (is_heard (carried_in start v r i) (sends_in start v r i) j) && not x)
          (quiet j)),
    )
