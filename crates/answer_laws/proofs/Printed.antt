-- What the rows of a report print as omitted.
use Rattle.std.proofs.Common.{◌≡◌, ◌⊎◌, ◌∙◌, ℕ, zero, suc, ◌<◌, ◌==◌, ◌&&◌, Bool, true, false}
use Rattle.std.proofs.Common.{List, [], ◌∷◌, map, get_or, ap, sym, inl, inr, if◌then◌else◌, arith}
use Rattle.std.proofs.Common.{refl}
use Rattle.std.specs.Prelude.{All, Contains, nat_lt}
use Rattle.std.proofs.lemmas.Bool.{and_from, and_parts, both_ways, eq-eqb, eqb-true}
use Rattle.std.proofs.lemmas.List.Elements.{All-head, All-tail, Contains-append_cases}
use Rattle.omission_explainer.specs.InRounds.{printed_omits, printed_omitted}
use Rattle.omission_explainer.specs.Reported.{IsReported, omitted_in, place}
use Rattle.omission_explainer.specs.Rows.{ClosedRound}
use Rattle.round_lang.specs.Sets.{is_in}
use Rattle.round_lang.proofs.SetLaws.{is_in-set_of, set_of-none}
use Rattle.step_book.specs.Log.{Log}
use Rattle.answer_laws.proofs.Members.{in_head, in_tail}

-- ---- what is printed comes from a row

pub record IsPrintedIn (rows : List ClosedRound) (i r j : ℕ) : Type 0 where
  pub row : ClosedRound
  pub among : Contains rows row
  pub node : row.node ≡ i
  pub round : row.round ≡ r
  pub omits : is_in row.omitted j ≡ true

none_in : (j : ℕ) → is_in 0 j ≡ true → ⊥
none_in j h =
    let none : is_in 0 j ≡ (nat_lt j 0 && false) =
    ap (λ s. is_in s j) (set_of-none (λ k. false)) ∙ is_in-set_of 0 (λ k. false) j in
    let parts = and_parts (nat_lt j 0) false (sym none ∙ h) in
    absurd (both_ways false refl parts.1)

pub printed_from : (rows : List ClosedRound) (i r j : ℕ) → printed_omits rows i r j ≡ true
    → IsPrintedIn rows i r j
unfolding printed_omitted
printed_from [] i r j h = absurd (none_in j h)
printed_from (row ∷ rows) i r j h =
    by (row.node == i && row.round == r) refl h (printed_from rows i r j)
  where
    by : (b : Bool) → (row.node == i && row.round == r) ≡ b
        → is_in (if row.node == i && row.round == r then row.omitted
        else printed_omitted rows i r) j ≡ true
        → (is_in (printed_omitted rows i r) j ≡ true → IsPrintedIn rows i r j)
        → IsPrintedIn (row ∷ rows) i r j
    by true e is rest =
        let here = and_parts _ _ e in
        record {
          row = row;
          among = in_head row rows;
          node = eqb-true _ _ here.0;
          round = eqb-true _ _ here.1;
          omits = ap (λ b. is_in (if b then row.omitted else printed_omitted rows i r) j) (sym e)
              ∙ is;
        }
    by false e is rest =
        let found = rest (ap (λ b. is_in (if b then row.omitted else printed_omitted rows i r) j)
        (sym e) ∙ is) in
        record {
          row = found.row;
          among = in_tail row found.row rows found.among;
          node = found.node;
          round = found.round;
          omits = found.omits;
        }

-- ---- what a round omits is printed

head_is : {X : Type 0} (x y : X) (k : ℕ) → k < 1 → get_or (x ∷ []) k y ≡ y → x ≡ y
head_is x y zero l e = e
head_is x y (suc k) l e = absurd (omega arith)

pub printed_is : (start : ℕ → ℕ) (v : Log) (rows : List ClosedRound) (i r : ℕ)
    → All (IsReported start v) rows → Contains (map place rows) (r, i)
    → printed_omitted rows i r ≡ omitted_in start v r i
unfolding printed_omitted
printed_is start v [] i r all h = absurd (omega (arith, h.1))
printed_is start v (row ∷ rows) i r all h =
    by (row.node == i && row.round == r) refl
    (Contains-append_cases (place row ∷ []) (map place rows) (r, i) h)
    (printed_is start v rows i r (All-tail (IsReported start v) row rows all))
  where
    by : (b : Bool) → (row.node == i && row.round == r) ≡ b
        → Contains (place row ∷ []) (r, i) ⊎ Contains (map place rows) (r, i)
        → (Contains (map place rows) (r, i) → printed_omitted rows i r ≡ omitted_in start v r i)
        → (if b then row.omitted else printed_omitted rows i r) ≡ omitted_in start v r i
    by true e m rest =
        let here = and_parts _ _ e in
        (All-head (IsReported start v) row rows all).printed.omitted
        ∙ ap (λ k. omitted_in start v k row.node) (eqb-true _ _ here.1)
        ∙ ap (omitted_in start v r) (eqb-true _ _ here.0)
    by false e (inl here) rest =
        let same = head_is (place row) (r, i) here.0 here.1 here.2 in
        let round : row.round ≡ r = ap (λ (at : ℕ × ℕ). at.0) same in
        let node : row.node ≡ i = ap (λ (at : ℕ × ℕ). at.1) same in
        absurd (both_ways _ e (and_from _ _ (eq-eqb _ _ node) (eq-eqb _ _ round)))
    by false e (inr h) rest = rest h
