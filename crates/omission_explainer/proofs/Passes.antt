-- One pass over a trace: the step counts of the correct nodes, and what they tell of each event.
use Rattle.std.proofs.Common.{◌≡◌, ◌≢◌, ℕ, ◌+◌, ◌<◌, ◌≤◌, ◌↔◌, Bool, true, false, max, List, []}
use Rattle.std.proofs.Common.{◌∷◌, length, get_or, set, replicate, sym, subst, refl, ap, ◌∙◌, arith}
use Rattle.std.proofs.Common.{◌⊎◌, inl, inr}
use Rattle.std.specs.Prelude.{is_some, reverse}
use Rattle.std.proofs.lemmas.Bool.{both_ways, cases_eq, cases_lt, eq-eqb, ne_eqb}
use Rattle.std.proofs.lemmas.List.{get_or-replicate, get_or_past, length-replicate, get_or-set_same}
use Rattle.std.proofs.lemmas.List.{get_or-set_other, length-set}
use Rattle.round_lang.specs.Sets.{is_in}
use Rattle.run_events.specs.declared.event.Event.{Event}
use Rattle.run_events.specs.declared.event.Event.TheVariants.{Step}
use Rattle.run_events.specs.declared.name.Name.{Name}
use Rattle.step_book.specs.History.{message}
use Rattle.step_book.specs.Slots.{IsMessageAt}
use Rattle.step_book.specs.Trace.{is_step, steps}
use Rattle.step_book.specs.World.{World, IsPlan, is_receive, nodes_of}
use Rattle.step_book.proofs.Moments.{At, Newest, Older}
use Rattle.step_book.proofs.Places.{steps_at, steps_other, steps_le}
use Rattle.omission_explainer.specs.Lateness.{HasReceive, KeepsBound, KeepsPace, marks_of}
use Rattle.omission_explainer.specs.Lateness.{open_until}
use Rattle.omission_explainer.specs.Verdict.{AreNodes, IsLetInBetween}
use Rattle.omission_explainer.proofs.Delays.{in_time, not_late}
use Rattle.omission_explainer.proofs.Moments.{newest_or_older}

-- the counts of the correct nodes are their steps so far
pub record Tallied (correct : ℕ) (p : List Event) (counts : List ℕ) : Type 0 where
  pub sized : length counts ≡ 16
  pub counted : (k : ℕ) → is_in correct k ≡ true → get_or counts k 0 ≡ steps k p

-- the event isn't a step of a correct node
abbrev pub IsOther : ℕ → Event → Type 0
IsOther correct e = (k : ℕ) → is_in correct k ≡ true → is_step k e ≡ false

-- a step of a node that isn't correct
pub other_step : (correct k : ℕ) → (is_in correct k ≡ true → ⊥) → IsOther correct (Step k)
other_step correct k out j h = ne_eqb k j (λ same. out (ap (is_in correct) same ∙ h))

pub tally_other : (correct : ℕ) (p : List Event) (counts : List ℕ) (e : Event) → IsOther correct e
    → Tallied correct p counts → Tallied correct (e ∷ p) counts
tally_other correct p counts e other a = record {
  sized = a.sized;
  counted = λ k h. a.counted k h ∙ sym (steps_other k e p (other k h));
}

tally_at : (correct j k : ℕ) (p : List Event) (counts : List ℕ) → is_in correct j ≡ true
    → is_in correct k ≡ true → j < 16 → Tallied correct p counts → (k ≡ j) ⊎ (k ≡ j → ⊥)
    → get_or (set counts j (get_or counts j 0 + 1)) k 0 ≡ steps k (Step j ∷ p)
tally_at correct j k p counts h g few a (inl same) =
    let l : j < length counts = let n = a.sized in omega arith in
    rw same (get_or-set_same counts j _ 0 l ∙ ap (λ n. n + 1) (a.counted j h)
    ∙ sym (steps_at j (Step j) p (eq-eqb j j refl)))
tally_at correct j k p counts h g few a (inr apart) =
    let ne : k ≢ j = apart in
    rw get_or-set_other (a.counted k g
    ∙ sym (steps_other k (Step j) p (ne_eqb j k (λ e. apart (sym e)))))

pub tally_step : (correct j : ℕ) (p : List Event) (counts : List ℕ) → is_in correct j ≡ true
    → j < 16 → Tallied correct p counts
    → Tallied correct (Step j ∷ p) (set counts j (get_or counts j 0 + 1))
tally_step correct j p counts h few a = record {
  sized = length-set counts j _ ∙ a.sized;
  counted = λ k g. tally_at correct j k p counts h g few a (cases_eq k j);
}

-- a count doesn't pass the length of its moment
pub count_below : (correct k : ℕ) (p : List Event) (counts : List ℕ) → is_in correct k ≡ true
    → Tallied correct p counts → get_or counts k 0 ≤ length p
count_below correct k p counts here a = omega (arith, a.counted k here, steps_le k p)

-- ---- lockstep

-- lockstep up to a moment
abbrev pub IsPacedTo : ℕ → List Event → Type 0
IsPacedTo correct p =
    (i j : ℕ) (m : List Event) → is_in correct i ≡ true → is_in correct j ≡ true → At m (Step i) p
    → steps i m ≤ steps j m

-- what isn't a step of a correct node keeps it
pub lockstep_other : (correct : ℕ) (p : List Event) (e : Event) → IsOther correct e
    → IsPacedTo correct p ↔ IsPacedTo correct (e ∷ p)
lockstep_other correct p e other = (
  λ h i j m x y s. by h i j m x y (newest_or_older (Step i) e m p s),
  λ h i j m x y s. h i j m x y (Older e p s),
)
  where
    by : IsPacedTo correct p → (i j : ℕ) (m : List Event) → is_in correct i ≡ true
        → is_in correct j ≡ true → ((Step i ≡ e) × (m ≡ p)) ⊎ At m (Step i) p
        → steps i m ≤ steps j m
    by h i j m x y (inl (own, now)) = let on : is_step i e ≡ true = ap (is_step i) (sym own)
        ∙ eq-eqb i i refl in let off = other i x in absurd cc
    by h i j m x y (inr s) = h i j m x y s

-- a step of a correct node keeps it if the node isn't ahead of another
pub lockstep_step : (correct k : ℕ) (p : List Event) (counts : List ℕ) → is_in correct k ≡ true
    → Tallied correct p counts → (IsPacedTo correct p × KeepsPace correct counts k)
    ↔ IsPacedTo correct (Step k ∷ p)
lockstep_step correct k p counts here a = (
  λ h i j m x y s. by h i j m x y (newest_or_older (Step i) (Step k) m p s),
  λ h. (
    λ i j m x y s. h i j m x y (Older (Step k) p s),
    λ j y. let l = h k j p here y Newest in omega (arith, a.counted k here, a.counted j y),
  ),
)
  where
    by : (IsPacedTo correct p × KeepsPace correct counts k) → (i j : ℕ) (m : List Event)
        → is_in correct i ≡ true → is_in correct j ≡ true
        → ((Step i ≡ Step k) × (m ≡ p)) ⊎ At m (Step i) p → steps i m ≤ steps j m
    by h i j m x y (inl (own, now)) =
        let node : i ≡ k = cc in
        let l : steps k p ≤ steps j p = let n = h.1 j y in
        omega (arith, a.counted k here, a.counted j y) in
        rw (node, now) l
    by h i j m x y (inr s) = h.0 i j m x y s

-- ---- the bound

-- the step at the moment a is the slot of a message, which makes its copy 0
pub record SpokenAt (w : World) (t : List Event) (n : Name) (a : List Event) : Type 0 where
  pub first : 0 < n.round
  pub last : n.round ≤ w.rounds
  pub copy : n.copy ≡ 0
  pub slot : steps n.from a ≡ w.start n.round + n.to
  pub spoken : is_some (message w t n) ≡ true

-- the delay bound for what was sent up to a moment
abbrev pub IsBoundTo : World → List Event → ℕ → ℕ → ℕ → List Event → Type 0
IsBoundTo w t correct delta gst p =
    (n : Name) (a c : List Event)
    → is_in correct n.from ≡ true → is_in correct n.to ≡ true
    → At a (Step n.from) p → SpokenAt w t n a → gst ≤ steps n.from a
    → At c (Step n.to) t → is_receive w (steps n.to c) ≡ true
    → steps n.from a + delta ≤ steps n.to c → length a < length c
    → IsLetInBetween w (reverse t) n (length a) (length c)

pub bound_none : (w : World) (t : List Event) (correct delta gst : ℕ)
    → IsBoundTo w t correct delta gst []
bound_none w t correct delta gst n a c x y s = elim s [ ]

-- the delay bound for what was sent at one moment
abbrev pub IsBoundAt : World → List Event → ℕ → ℕ → ℕ → ℕ → List Event → Type 0
IsBoundAt w t correct delta gst k a =
    (n : Name) (c : List Event)
    → n.from ≡ k → is_in correct n.to ≡ true → SpokenAt w t n a → gst ≤ steps k a
    → At c (Step n.to) t → is_receive w (steps n.to c) ≡ true → steps k a + delta ≤ steps n.to c
    → length a < length c
    → IsLetInBetween w (reverse t) n (length a) (length c)

pub bound_other : (w : World) (t : List Event) (correct delta gst : ℕ) (p : List Event) (e : Event)
    → IsOther correct e → IsBoundTo w t correct delta gst p
    ↔ IsBoundTo w t correct delta gst (e ∷ p)
bound_other w t correct delta gst p e other = (
  λ h n a c x y s. by h n a c x y (newest_or_older (Step n.from) e a p s),
  λ h n a c x y s. h n a c x y (Older e p s),
)
  where
    by : IsBoundTo w t correct delta gst p → (n : Name) (a c : List Event)
        → is_in correct n.from ≡ true → is_in correct n.to ≡ true
        → ((Step n.from ≡ e) × (a ≡ p)) ⊎ At a (Step n.from) p → SpokenAt w t n a
        → gst ≤ steps n.from a → At c (Step n.to) t → is_receive w (steps n.to c) ≡ true
        → steps n.from a + delta ≤ steps n.to c → length a < length c
        → IsLetInBetween w (reverse t) n (length a) (length c)
    by h n a c x y (inl (own, now)) =
        let on : is_step n.from e ≡ true = ap (is_step n.from) (sym own)
        ∙ eq-eqb n.from n.from refl in
        let off = other n.from x in
        absurd cc
    by h n a c x y (inr s) = h n a c x y s

module _ (w : World) (t : List Event) (correct delta gst k : ℕ) (p : List Event) (counts : List ℕ)
    (plan : IsPlan w) (within : AreNodes (nodes_of w) correct) (here : is_in correct k ≡ true)
    (stands : At p (Step k) t) (a : Tallied correct p counts) where
  stands_own : (n : Name) → n.from ≡ k → At p (Step n.from) t
  stands_own n own = subst (λ x. At p (Step x) t) (sym own) stands

  -- the next step of node k keeps the bound
  keeps_of : IsBoundAt w t correct delta gst k p → KeepsBound w t correct delta gst counts k
  keeps_of h n own y late has =
      let slot = own.slot in
      let count : get_or counts k 0 ≡ steps k p = a.counted k here in
      let other : get_or counts n.to 0 ≡ steps n.to p = a.counted n.to y in
      let same : steps n.from p ≡ steps k p = ap (λ x. steps x p) own.from in
      let at : steps n.from p ≡ w.start n.round + n.to = omega arith in
      let whole : max (get_or counts k 0 + delta) (get_or counts n.to 0)
      ≡ max (steps n.from p + delta) (steps n.to p) =
      ap (λ z. max (z + delta) (get_or counts n.to 0)) (count ∙ sym same)
      ∙ ap (max (steps n.from p + delta)) other in
      not_late w t p n plan own.named.to own.named.first own.named.last at
      (stands_own n own.from) delta
      (λ c spoken s r d l. h n c own.from y
      (record {
        first = own.named.first;
        last = own.named.last;
        copy = own.copy;
        slot = at;
        spoken = spoken;
      }) (omega arith) s r (omega arith) l)
      (subst (λ z. HasReceive w z (open_until (steps n.to t) (marks_of w t n))) whole has)

  bound_of : KeepsBound w t correct delta gst counts k → IsBoundAt w t correct delta gst k p
  bound_of h n c own y spoken late s r d l =
      let slot = spoken.slot in
      let count : get_or counts k 0 ≡ steps k p = a.counted k here in
      let other : get_or counts n.to 0 ≡ steps n.to p = a.counted n.to y in
      let same : steps n.from p ≡ steps k p = ap (λ x. steps x p) own in
      let whole : max (get_or counts k 0 + delta) (get_or counts n.to 0)
      ≡ max (steps n.from p + delta) (steps n.to p) =
      ap (λ z. max (z + delta) (get_or counts n.to 0)) (count ∙ sym same)
      ∙ ap (max (steps n.from p + delta)) other in
      let node = within k here in
      let is_own : IsMessageAt w k (get_or counts k 0) n = record {
        named = record {
          from = omega (arith, own);
          to = within n.to y;
          first = spoken.first;
          last = spoken.last;
          copy = omega (arith, spoken.copy);
        };
        copy = spoken.copy;
        from = own;
        slot = omega arith;
      } in
      in_time w t p n plan (within n.to y) spoken.first spoken.last spoken.slot
      (stands_own n own) delta c spoken.spoken s r (omega arith) l
      (λ has. h n is_own y (omega arith)
      (subst (λ z. HasReceive w z (open_until (steps n.to t) (marks_of w t n)))
      (sym whole) has))

  pub bound_step : (IsBoundTo w t correct delta gst p × KeepsBound w t correct delta gst counts k)
      ↔ IsBoundTo w t correct delta gst (Step k ∷ p)
  bound_step = (
    λ h n b c x y s. by h n b c x y (newest_or_older (Step n.from) (Step k) b p s),
    λ h. (λ n b c x y s. h n b c x y (Older (Step k) p s), keeps_of (at_step h)),
  )
    where
      by : (IsBoundTo w t correct delta gst p × KeepsBound w t correct delta gst counts k)
          → (n : Name) (b c : List Event) → is_in correct n.from ≡ true → is_in correct n.to ≡ true
          → ((Step n.from ≡ Step k) × (b ≡ p)) ⊎ At b (Step n.from) p → SpokenAt w t n b
          → gst ≤ steps n.from b → At c (Step n.to) t → is_receive w (steps n.to c) ≡ true
          → steps n.from b + delta ≤ steps n.to c → length b < length c
          → IsLetInBetween w (reverse t) n (length b) (length c)
      by h n b c x y (inl (own, now)) =
          let node : n.from ≡ k = cc in
          subst
          (λ z. SpokenAt w t n z → gst ≤ steps n.from z → At c (Step n.to) t
          → is_receive w (steps n.to c) ≡ true → steps n.from z + delta ≤ steps n.to c
          → length z < length c → IsLetInBetween w (reverse t) n (length z) (length c))
          (sym now)
          (subst (λ i. SpokenAt w t n p → gst ≤ steps i p → At c (Step n.to) t
          → is_receive w (steps n.to c) ≡ true → steps i p + delta ≤ steps n.to c
          → length p < length c → IsLetInBetween w (reverse t) n (length p) (length c))
          (sym node) (bound_of h.1 n c node y))
      by h n b c x y (inr s) = h.0 n b c x y s

      at_step : IsBoundTo w t correct delta gst (Step k ∷ p) → IsBoundAt w t correct delta gst k p
      at_step h n c own y spoken late =
          subst (λ i. At c (Step n.to) t → is_receive w (steps n.to c) ≡ true
          → steps i p + delta ≤ steps n.to c → length p < length c
          → IsLetInBetween w (reverse t) n (length p) (length c)) own
          (h n p c (ap (is_in correct) own ∙ here) y
          (subst (λ i. At p (Step i) (Step k ∷ p)) (sym own) Newest) spoken
          (subst (λ i. gst ≤ steps i p) (sym own) late))

-- ---- a pass

-- what a pass has found up to a moment
pub record Passed (w : World) (t : List Event) (correct delta gst : ℕ) (p : List Event)
    (counts : List ℕ) (lockstep bound : Bool) : Type 0 where
  pub tallied : Tallied correct p counts
  pub paced : (lockstep ≡ true) ↔ IsPacedTo correct p
  pub bounded : (bound ≡ true) ↔ IsBoundTo w t correct delta gst p

zeros : (n k : ℕ) → (k < n) ⊎ (n ≤ k) → get_or (replicate {A = ℕ} n 0) k 0 ≡ 0
zeros n k (inl low) = get_or-replicate n k 0 0 low
zeros n k (inr high) = get_or_past (replicate {A = ℕ} n 0) k 0
    (let l = length-replicate {A = ℕ} n 0 in omega arith)

tallied_none : (correct : ℕ) → Tallied correct [] (replicate 16 0)
unfolding steps
tallied_none correct = record { sized = refl; counted = λ k h. zeros 16 k (cases_lt k 16) }

pub passed_none : (w : World) (t : List Event) (correct delta gst : ℕ)
    → Passed w t correct delta gst [] (replicate 16 0) true true
passed_none w t correct delta gst = record {
  tallied = tallied_none correct;
  paced = (λ h i j m x y s. elim s [ ], λ h. refl);
  bounded = (λ h. bound_none w t correct delta gst, λ h. refl);
}

pub through : {A B C : Type 0} → A ↔ B → B ↔ C → A ↔ C
through f g = (λ a. g.0 (f.0 a), λ c. f.1 (g.1 c))

beside : {A B C : Type 0} → A ↔ B → (A × C) ↔ (B × C)
beside f = (λ (a, c). (f.0 a, c), λ (b, c). (f.1 b, c))

pub passed_other : (w : World) (t : List Event) (correct delta gst : ℕ) (p : List Event)
    (counts : List ℕ) (lockstep bound : Bool) (e : Event) → IsOther correct e
    → Passed w t correct delta gst p counts lockstep bound
    → Passed w t correct delta gst (e ∷ p) counts lockstep bound
passed_other w t correct delta gst p counts lockstep bound e other a = record {
  tallied = tally_other correct p counts e other a.tallied;
  paced = through a.paced (lockstep_other correct p e other);
  bounded = through a.bounded (bound_other w t correct delta gst p e other);
}

pub passed_step : (w : World) (t : List Event) (correct delta gst k : ℕ) (p : List Event)
    (counts : List ℕ) (lockstep bound lockstep2 bound2 : Bool) → IsPlan w
    → AreNodes (nodes_of w) correct → nodes_of w ≤ 16 → is_in correct k ≡ true → At p (Step k) t
    → (lockstep2 ≡ true) ↔ ((lockstep ≡ true) × KeepsPace correct counts k)
    → (bound2 ≡ true) ↔ ((bound ≡ true) × KeepsBound w t correct delta gst counts k)
    → Passed w t correct delta gst p counts lockstep bound
    → Passed w t correct delta gst (Step k ∷ p) (set counts k (get_or counts k 0 + 1)) lockstep2
    bound2
passed_step w t correct delta gst k p counts lockstep bound lockstep2 bound2 plan within few here
    stands f g a =
    let small = within k here in
    record {
      tallied = tally_step correct k p counts here (omega arith) a.tallied;
      paced = through f
          (through (beside a.paced) (lockstep_step correct k p counts here a.tallied));
      bounded = through g (through (beside a.bounded)
          (bound_step w t correct delta gst k p counts plan within here stands a.tallied));
    }

-- a test that is made where one before it held
pub and_then : {Q : Type 0} (a b c : Bool) → a ≡ true → b ≡ c → (c ≡ true) ↔ Q
    → (b ≡ true) ↔ ((a ≡ true) × Q)
and_then a b c h e q = (λ k. (h, q.0 (sym e ∙ k)), λ (x, y). e ∙ q.1 y)

pub and_not : {Q : Type 0} (a b : Bool) → a ≡ false → b ≡ a → (b ≡ true) ↔ ((a ≡ true) × Q)
and_not a b h e = (λ k. absurd (both_ways b (e ∙ h) k), λ (x, y). absurd (both_ways a h x))
