-- Decisions, summed up row by row.
use Rattle.std.proofs.Common.{◌≡◌, ℕ, ◌+◌, ◌<◌, ◌≤◌, Bool, true, false, cond, length, take, get_or}
use Rattle.std.proofs.Common.{List, [], ◌∷◌, ◌++◌, refl, sym, ap, ◌∙◌, subst, inl, inr, ◌⊎◌, Option}
use Rattle.std.proofs.Common.{Some, None}
use Rattle.std.specs.Prelude.{◌==◌}
use Rattle.std.proofs.lemmas.Bool.{eqb-true, eqb-false}
use Rattle.std.proofs.lemmas.List.{take_all, take_more}
use Rattle.std.proofs.lemmas.List.Sums.{fold-append}
use Rattle.std.proofs.lemmas.List.Elements.{All-head, All-tail}
use Rattle.round_lang.specs.Syntax.{ProgramTree}
use Rattle.round_meaning.specs.Agreement.{AgreesIn, Decides, IsValidIn}
use Rattle.round_meaning.specs.Rounds.{algorithm_of, rounds}
use Rattle.round_meaning.specs.Turn.{decision}
use Rattle.round_meaning.specs.declared.setup.Setup.{Setup}
use Rattle.omission_explainer.specs.Decided.{AreOfRun, IsDecided, IsNeverSplit, IsOfRun, IsSummary}
use Rattle.omission_explainer.specs.Decided.{AreAgreed, AreInputs, summary_of, with_decision}
use Rattle.omission_explainer.specs.Rows.{ClosedRound}
use Rattle.omission_explainer.specs.declared.summary.Decided.{Decided}
use Rattle.omission_explainer.specs.declared.summary.Decided.TheVariants as d

-- ---- one row more

was : (rows : List ClosedRound) (row : ClosedRound) (v : ℕ) → IsDecided (rows ++ row ∷ []) v
    → IsDecided rows v ⊎ (row.decision ≡ Some v)
was [] row v (inl e) = inr e
was [] row v (inr h) = absurd h
was (r ∷ rows) row v (inl e) = inl (inl e)
was (r ∷ rows) row v (inr h) = go (was rows row v h)
  where
    go : IsDecided rows v ⊎ (row.decision ≡ Some v)
        → ((r.decision ≡ Some v) ⊎ IsDecided rows v) ⊎ (row.decision ≡ Some v)
    go (inl x) = inl (inr x)
    go (inr x) = inr x

stays : (rows : List ClosedRound) (row : ClosedRound) (v : ℕ) → IsDecided rows v
    → IsDecided (rows ++ row ∷ []) v
stays [] row v h = absurd h
stays (r ∷ rows) row v (inl e) = inl e
stays (r ∷ rows) row v (inr h) = inr (stays rows row v h)

last : (rows : List ClosedRound) (row : ClosedRound) (v : ℕ) → row.decision ≡ Some v
    → IsDecided (rows ++ row ∷ []) v
last [] row v e = inl e
last (r ∷ rows) row v e = inr (last rows row v e)

no_more : (rows : List ClosedRound) (row : ClosedRound) (all : Decided) → row.decision ≡ None
    → IsSummary rows all → IsSummary (rows ++ row ∷ []) all
no_more rows row all e h = go all h
  where
    back : (v : ℕ) → IsDecided (rows ++ row ∷ []) v → IsDecided rows v
    back v x = pick (was rows row v x)
      where
        pick : IsDecided rows v ⊎ (row.decision ≡ Some v) → IsDecided rows v
        pick (inl y) = y
        pick (inr y) = absurd (cc (sym e ∙ y))

    go : (all : Decided) → IsSummary rows all → IsSummary (rows ++ row ∷ []) all
    go d.None h = λ v x. h v (back v x)
    go (d.One v) h = (stays rows row v h.0, λ u x. h.1 u (back u x))
    go d.Split h = (h.0, h.1, stays rows row h.0 h.2, stays rows row h.1 h.3, h.4)

one_more : (rows : List ClosedRound) (row : ClosedRound) (v : ℕ) (all : Decided)
    → row.decision ≡ Some v → IsSummary rows all
    → IsSummary (rows ++ row ∷ []) (with_decision all (Some v))
one_more rows row v d.None e h = (last rows row v e, λ u x. only u (was rows row u x))
  where
    only : (u : ℕ) → IsDecided rows u ⊎ (row.decision ≡ Some u) → u ≡ v
    only u (inl y) = absurd (h u y)
    only u (inr y) = cc (sym e ∙ y)
one_more rows row v (d.One w) e h = go (v == w) refl
  where
    go : (b : Bool) → (v == w) ≡ b → IsSummary (rows ++ row ∷ []) (cond b (d.One w) d.Split)
    go true same = (stays rows row w h.0, λ u x. only u (was rows row u x))
      where
        only : (u : ℕ) → IsDecided rows u ⊎ (row.decision ≡ Some u) → u ≡ w
        only u (inl y) = h.1 u y
        only u (inr y) = let is : u ≡ v = cc (sym y ∙ e) in is ∙ eqb-true v w same
    go false other = (
      w,
      v,
      stays rows row w h.0,
      last rows row v e,
      λ x. eqb-false v w other (sym x),
    )
one_more rows row v d.Split e h = (h.0, h.1, stays rows row h.0 h.2, stays rows row h.1 h.3, h.4)

pub one_row_more : (rows : List ClosedRound) (row : ClosedRound) (all : Decided)
    → IsSummary rows all → IsSummary (rows ++ row ∷ []) (with_decision all row.decision)
one_row_more rows row all h = go row.decision refl
  where
    go : (o : Option ℕ) → row.decision ≡ o → IsSummary (rows ++ row ∷ []) (with_decision all o)
    go None e = no_more rows row all e h
    go (Some v) e = one_more rows row v all e h

-- ---- a loop over the rows

-- the summary of so many rows
abbrev pub IsSummedUp : List ClosedRound → ℕ → Decided → Type 0
IsSummedUp rows i all = (all ≡ summary_of (take i rows)) × IsSummary (take i rows) all

pub next_summary : (rows items : List ClosedRound) (i : ℕ) (row : ClosedRound) (all next : Decided)
    (o : Option ℕ) → items ≡ rows → i < length items → row ≡ get_or items i row → o ≡ row.decision
    → next ≡ with_decision all o → IsSummedUp rows i all → IsSummedUp rows (i + 1) next
next_summary rows items i row all next o same inside at is made h =
    let lt = subst (λ (xs : List ClosedRound). i < length xs) same inside in
    let here : row ≡ get_or rows i row =
    subst (λ (xs : List ClosedRound). row ≡ get_or xs i row) same at in
    let more : take (i + 1) rows ≡ take i rows ++ row ∷ [] = take_more rows i row lt
    ∙ ap (λ r. take i rows ++ r ∷ []) (sym here) in
    let now : next ≡ with_decision all row.decision = made ∙ ap (with_decision all) is in
    let summed : summary_of (take i rows ++ row ∷ [])
    ≡ with_decision (summary_of (take i rows)) row.decision =
    fold-append (λ all (row : ClosedRound). with_decision all row.decision) d.None (take i rows)
    (row ∷ []) in
    subst (λ xs. (next ≡ summary_of xs) × IsSummary xs next) (sym more) (
      now ∙ ap (λ a. with_decision a row.decision) h.0 ∙ sym summed,
      subst (IsSummary (take i rows ++ row ∷ [])) (sym now)
          (one_row_more (take i rows) row all h.1),
    )

pub whole_summary : (rows items : List ClosedRound) (i : ℕ) (all : Decided) → items ≡ rows
    → length items ≤ i → IsSummedUp rows i all → (all ≡ summary_of rows) × IsSummary rows all
whole_summary rows items i all same past h =
    subst (λ xs. (all ≡ summary_of xs) × IsSummary xs all)
    (take_all i rows (subst (λ (xs : List ClosedRound). length xs ≤ i) same past)) h

-- ---- runs whose decisions agree

-- a decision of some row is one of some node after some round
found : (p : ProgramTree) (s : Setup) (omits : ℕ → ℕ → ℕ → Bool)
    → (rows : List ClosedRound) → AreOfRun p s omits rows → (v : ℕ) → IsDecided rows v
    → (i : ℕ) × (r : ℕ) × (i < s.nodes) × Decides p s omits r i v
found p s omits [] all v h = absurd h
found p s omits (row ∷ rows) all v (inl x) =
    let here = All-head (IsOfRun p s omits) row rows all in
    (row.node, row.round, here.0, ap (decision p) (sym here.1) ∙ sym here.2 ∙ x)
found p s omits (row ∷ rows) all v (inr x) =
    found p s omits rows (All-tail (IsOfRun p s omits) row rows all) v x

-- rows of a run whose decisions agree
pub decided_rows_agree : (rows : List ClosedRound) (p : ProgramTree) (s : Setup)
    (omits : ℕ → ℕ → ℕ → Bool) → AgreesIn p s omits → AreOfRun p s omits rows → AreAgreed rows
decided_rows_agree rows p s omits agrees all v u x y =
    let a = found p s omits rows all v x in
    let b = found p s omits rows all u y in
    agrees a.0 b.0 a.1 b.1 v u a.2 b.2 a.3 b.3

-- rows of a run whose decisions are inputs
pub decided_rows_are_inputs : (rows : List ClosedRound) (p : ProgramTree) (s : Setup)
    (omits : ℕ → ℕ → ℕ → Bool) → IsValidIn p s omits → AreOfRun p s omits rows → AreInputs s rows
decided_rows_are_inputs rows p s omits valid all v x =
    let a = found p s omits rows all v x in
    valid a.0 a.1 v a.2 a.3

pub never_split : (rows : List ClosedRound) (all : Decided) → IsSummary rows all
    → IsNeverSplit rows all
never_split rows d.None h p s omits agrees of e = absurd (cc)
never_split rows (d.One v) h p s omits agrees of e = absurd (cc)
never_split rows d.Split h p s omits agrees of e =
    h.4 (decided_rows_agree rows p s omits agrees of h.0 h.1 h.2 h.3)
