-- How the rows and counts of a report grow.
use Rattle.std.proofs.Common.{◌≡◌, ℕ, ◌+◌, ◌-◌, ◌≤◌, Bool, true, false, cond}
use Rattle.std.proofs.Common.{List, [], ◌∷◌, ◌++◌, ◌∙◌, map, ap, refl, sym, append_assoc}
use Rattle.std.proofs.Common.{append-nil, add-one, arith, length, length-append}
use Rattle.std.specs.Prelude.{filter}
use Rattle.std.specs.List.{flat_map, range_with_len}
use Rattle.std.proofs.lemmas.Grind.{flat_map-append}
use Rattle.std.proofs.lemmas.List.{map_push}
use Rattle.std.proofs.lemmas.List.FromFn.{filter_of_map_range_with_len_more}
use Rattle.omission_explainer.proofs.Texts.{range_push}
use Rattle.omission_explainer.specs.Reported.{place}
use Rattle.omission_explainer.specs.Rows.{ClosedRound}
use Rattle.omission_schedules.specs.Reports.{ended_below, ended_rounds, is_ended}

module _ (start stops : ℕ → ℕ) where
  below_more : (r n : ℕ) → ended_below start stops (n + 1) r ≡ ended_below start stops n r ++ cond
      (is_ended start stops (r, n)) ((r, n) ∷ []) []
  below_more r n = filter_of_map_range_with_len_more (is_ended start stops) (λ i. (r, i)) 0 n n
      (omega arith)

  -- a row more, of a round that its node ends
  pub listed_row : (r n : ℕ) (old now new : List ClosedRound) (x : ClosedRound)
      → new ≡ now ++ x ∷ [] → place x ≡ (r, n) → is_ended start stops (r, n) ≡ true
      → map place now ≡ map place old ++ ended_below start stops n r
      → map place new ≡ map place old ++ ended_below start stops (n + 1) r
  listed_row r n old now new x e here ended h =
      ap (map place) e ∙ map_push place now x
      ∙ ap (λ p. map place now ++ p ∷ []) here
      ∙ ap (λ ps. ps ++ (r, n) ∷ []) h
      ∙ append_assoc (map place old) (ended_below start stops n r) ((r, n) ∷ [])
      ∙ ap (λ ps. map place old ++ ps)
      (sym (below_more r n ∙ ap (λ b. ended_below start stops n r ++ cond b ((r, n) ∷ []) [])
      ended))

  -- none, of a round that its node doesn't end
  pub listed_none : (r n : ℕ) (old now new : List ClosedRound) → new ≡ now
      → is_ended start stops (r, n) ≡ false
      → map place now ≡ map place old ++ ended_below start stops n r
      → map place new ≡ map place old ++ ended_below start stops (n + 1) r
  listed_none r n old now new e open_yet h =
      ap (map place) e ∙ h
      ∙ ap (λ ps. map place old ++ ps)
      (sym (below_more r n ∙ ap (λ b. ended_below start stops n r ++ cond b ((r, n) ∷ []) [])
      open_yet ∙ append-nil _))

  pub listed_first : (r : ℕ) (old : List ClosedRound)
      → map place old ≡ map place old ++ ended_below start stops 0 r
  listed_first r old = sym (append-nil (map place old))

  -- a round more
  pub listed_round : (n q : ℕ) (old new : List ClosedRound)
      → map place new ≡ map place old ++ ended_below start stops n (q + 1)
      → map place old ≡ ended_rounds start stops n q
      → map place new ≡ ended_rounds start stops n (q + 1)
  listed_round n q old new more h =
      let f = ended_below start stops n in
      let last : 1 + q ≡ q + 1 = omega arith in
      let range : range_with_len 1 (q + 1) ≡ range_with_len 1 q ++ (q + 1) ∷ [] =
      ap (range_with_len 1) (add-one q) ∙ range_push 1 q
      ∙ ap (λ x. range_with_len 1 q ++ x ∷ []) last in
      more ∙ ap (λ ps. ps ++ f (q + 1)) h
      ∙ ap (λ ps. ended_rounds start stops n q ++ ps) (sym (append-nil (f (q + 1))))
      ∙ sym (flat_map-append f (range_with_len 1 q) ((q + 1) ∷ []))
      ∙ ap (flat_map f) (sym range)

filter_append : {X : Type 0} (p : X → Bool) (xs ys : List X)
    → filter p (xs ++ ys) ≡ filter p xs ++ filter p ys
filter_append p [] ys = refl
filter_append p (x ∷ xs) ys = by (p x) refl (filter_append p xs ys)
  where
    by : (b : Bool) → p x ≡ b → filter p (xs ++ ys) ≡ filter p xs ++ filter p ys
        → filter p (x ∷ xs ++ ys) ≡ filter p (x ∷ xs) ++ filter p ys
    by true e h = rw (e, h) refl
    by false e h = rw (e, h) refl

-- how many rounds pass a test, with one round more
pub counted_more : (p : ℕ → Bool) (q k : ℕ) → k ≡ length (filter p (range_with_len 1 q))
    → k + cond (p (q + 1)) 1 0 ≡ length (filter p (range_with_len 1 (q + 1)))
counted_more p q k h =
    let last : 1 + q ≡ q + 1 = omega arith in
    let range : range_with_len 1 (q + 1) ≡ range_with_len 1 q ++ (q + 1) ∷ [] =
    ap (range_with_len 1) (add-one q) ∙ range_push 1 q
    ∙ ap (λ x. range_with_len 1 q ++ x ∷ []) last in
    ap (λ z. z + cond (p (q + 1)) 1 0) h
    ∙ ap (λ z. length (filter p (range_with_len 1 q)) + z) (one (p (q + 1)) refl)
    ∙ sym (length-append (filter p (range_with_len 1 q)) (filter p ((q + 1) ∷ [])))
    ∙ ap length (sym (filter_append p (range_with_len 1 q) ((q + 1) ∷ []))
    ∙ ap (filter p) (sym range))
  where
    one : (b : Bool) → p (q + 1) ≡ b → cond (p (q + 1)) 1 0 ≡ length (filter p ((q + 1) ∷ []))
    one true e = rw e refl
    one false e = rw e refl

-- the same as a loop counts them
pub counted_to : (p : ℕ → Bool) (r k new : ℕ) (b : Bool) → 1 ≤ r
    → k ≡ length (filter p (range_with_len 1 (r - 1))) → b ≡ p r → new ≡ k + cond b 1 0
    → new ≡ length (filter p (range_with_len 1 (r + 1 - 1)))
counted_to p r k new b first h test e =
    let back : (r - 1) + 1 ≡ r = omega arith in
    let here : b ≡ p ((r - 1) + 1) = test ∙ ap p (sym back) in
    let again : (r - 1) + 1 ≡ r + 1 - 1 = omega arith in
    e ∙ ap (λ x. k + cond x 1 0) here ∙ counted_more p (r - 1) k h
    ∙ ap (λ z. length (filter p (range_with_len 1 z))) again
