-- Rows of a report, by what is true of them.
use Rattle.std.proofs.Common.{◌≡◌, ℕ, suc, ◌+◌, ◌<◌, ◌≤◌, true, List, [], ◌∷◌, Option, Some}
use Rattle.std.proofs.Common.{None, get_or, length, ltb, sym, subst, refl, ap, ◌∙◌, arith}
use Rattle.std.proofs.Common.{◌⊎◌, inl, inr}
use Rattle.std.specs.Prelude.{MatchOption, is_some}
use Rattle.std.specs.List.{slice_get}
use Rattle.std.proofs.lemmas.Bool.{cases_eq, cases_lt, ltb-true}
use Rattle.std.proofs.lemmas.Option.{same_Some, slice_get-get_or}
use Rattle.omission_explainer.specs.Decided.{AreAgreed, IsDecided}
use Rattle.omission_explainer.specs.Rows.{ClosedRound}
use Rattle.verdict_reasons.specs.Decisions.{IsFirstSplit, IsFirstTakenBack, IsOtherThan}
use Rattle.verdict_reasons.specs.Decisions.{IsTakenBack}
use Rattle.verdict_reasons.specs.Decisions.{RowAt}
use Rattle.verdict_reasons.specs.Seeking.{IsFirstFrom, IsSought}
use Rattle.verdict_reasons.specs.declared.decisions.TakenBack.{TakenBack}
use Rattle.verdict_reasons.specs.declared.sought.Sought.TheVariants as sought

-- an answer that is none
pub on_none : {X : Type 0} (o : Option X) (A : Type 0) (P : X → Type 0) → o ≡ None → A
    → MatchOption o A P
on_none o A P e a = subst (λ z. MatchOption z A P) (sym e) a

-- ---- the row at a place

pub row_is : (rows : List ClosedRound) (Is : ClosedRound → Type 0) (k : ℕ) (row : ClosedRound)
    → slice_get rows k ≡ Some row → RowAt rows Is k → Is row
row_is rows Is k row there h = subst Is (same_Some h.row row (sym h.there ∙ there)) h.is

-- a row that was read is that at its place
pub row_read : (rows : List ClosedRound) (k : ℕ) (row : ClosedRound) → true ≡ ltb k (length rows)
    → row ≡ get_or rows k row → slice_get rows k ≡ Some row
row_read rows k row inside is = slice_get-get_or rows k row (ltb-true k (length rows) (sym inside))
    ∙ ap Some (sym is)

-- one row more without what is sought
pub none_next : (rows : List ClosedRound) (Is : ClosedRound → Type 0) (from place : ℕ)
    (row : ClosedRound) → ((k : ℕ) → from ≤ k → k < place → RowAt rows Is k → ⊥)
    → slice_get rows place ≡ Some row → (Is row → ⊥)
    → (k : ℕ) → from ≤ k → k < place + 1 → RowAt rows Is k → ⊥
none_next rows Is from place row none there off k low high at = by (cases_lt k place)
  where
    by : (k < place) ⊎ (place ≤ k) → ⊥
    by (inl before) = none k low before at
    by (inr here) =
        let same : place ≡ k = omega arith in
        off (row_is rows Is k row (sym (ap (slice_get rows) same) ∙ there) at)

-- what was found first doesn't stand behind another
not_before : (rows : List ClosedRound) (Is : ClosedRound → Type 0) (from place k : ℕ)
    → IsFirstFrom rows Is from place → from ≤ k → RowAt rows Is k → place ≤ k
not_before rows Is from place k first low at = by (cases_lt k place)
  where
    by : (k < place) ⊎ (place ≤ k) → place ≤ k
    by (inl before) = absurd (first.none k low before at)
    by (inr behind) = behind

-- ---- decisions

-- a decision is that of some row
record Decides (rows : List ClosedRound) (v : ℕ) : Type 0 where
  place : ℕ
  at : RowAt rows (λ row. row.decision ≡ Some v) place

decided_at : (rows : List ClosedRound) (v : ℕ) → IsDecided rows v → Decides rows v
decided_at [] v h = absurd h
decided_at (row ∷ rows) v (inl e) = record {
  place = 0;
  at = record { row = row; there = refl; is = e };
}
decided_at (row ∷ rows) v (inr h) =
    let d = decided_at rows v h in
    let a = d.at in
    record {
      place = suc d.place;
      at = record { row = a.row; there = a.there; is = a.is };
    }

some_of : (o : Option ℕ) (v : ℕ) → o ≡ Some v → is_some o ≡ true
some_of o v e = ap is_some e

some_of_other : (v : ℕ) (o : Option ℕ) → IsOtherThan v o → is_some o ≡ true
some_of_other v None h = absurd h
some_of_other v (Some u) h = refl

module _ (rows : List ClosedRound) where
  -- no row decides
  pub agreed_none : ((k : ℕ) → 0 ≤ k → RowAt rows (IsSought sought.Decision) k → ⊥) → AreAgreed rows
  agreed_none none v u x y =
      let d = decided_at rows v x in
      let a = d.at in
      absurd (none d.place (omega arith)
      (record { row = a.row; there = a.there; is = some_of a.row.decision v a.is }))

  module _ (first decision : ℕ) (found : IsFirstFrom rows (IsSought sought.Decision) 0 first) where
    one_decision : ((k : ℕ) → first ≤ k → RowAt rows (IsSought (sought.OtherThan decision)) k → ⊥)
        → (v : ℕ) → IsDecided rows v → v ≡ decision
    one_decision none v x = by (cases_eq v decision)
      where
        by : (v ≡ decision) ⊎ (v ≡ decision → ⊥) → v ≡ decision
        by (inl same) = same
        by (inr differs) =
            let d = decided_at rows v x in
            let a = d.at in
            absurd (none d.place
            (not_before rows (IsSought sought.Decision) 0 first d.place found (omega arith)
            (record { row = a.row; there = a.there; is = some_of a.row.decision v a.is }))
            (record {
              row = a.row;
              there = a.there;
              is = subst (IsOtherThan decision) (sym a.is) differs;
            }))

    -- no row decides otherwise
    pub agreed_one : ((k : ℕ) → first ≤ k → RowAt rows (IsSought (sought.OtherThan decision)) k → ⊥)
        → AreAgreed rows
    agreed_one none v u x y = one_decision none v x ∙ sym (one_decision none u y)

    pub split_at : (other : ℕ) (row : ClosedRound) → slice_get rows first ≡ Some row
        → row.decision ≡ Some decision
        → IsFirstFrom rows (IsSought (sought.OtherThan decision)) first other
        → IsFirstSplit rows (record { first = first; other = other })
    split_at other row there value second = record {
      decision = decision;
      first = record {
        there = found.there;
        none = λ k l. found.none k (omega arith) l;
      };
      value = record { row = row; there = there; is = value };
      other = record { there = second.there; none = earlier };
    }
      where
        earlier : (k : ℕ) → k < other → RowAt rows (IsSought (sought.OtherThan decision)) k → ⊥
        earlier k l at = by (cases_lt k first)
          where
            by : (k < first) ⊎ (first ≤ k) → ⊥
            by (inl before) = found.none k (omega arith) before
                (record {
                  row = at.row;
                  there = at.there;
                  is = some_of_other decision at.row.decision at.is;
                })
            by (inr behind) = second.none k behind l at

-- ---- decisions that a node takes back

module _ (rows : List ClosedRound) (node : ℕ) where
  decides_of : (t : TakenBack) → IsTakenBack rows node t
      → RowAt rows (IsSought (sought.DecisionOf node)) t.decided
  decides_of t h =
      let a = h.decides in
      record {
        row = a.row;
        there = a.there;
        is = (a.is.0, some_of a.row.decision h.decision a.is.1);
      }

  -- the node decides at no row
  pub kept_none : ((k : ℕ) → 0 ≤ k → RowAt rows (IsSought (sought.DecisionOf node)) k → ⊥)
      → (t : TakenBack) → IsTakenBack rows node t → ⊥
  kept_none none t h = none t.decided (omega arith) (decides_of t h)

  module _ (decided decision : ℕ) (found : IsFirstFrom rows (IsSought (sought.DecisionOf node)) 0
      decided) (row : ClosedRound) (there : slice_get rows decided ≡ Some row)
      (value : row.decision ≡ Some decision) where
    -- a decision that's taken back at this row is this one
    same_decision : (t : TakenBack) (h : IsTakenBack rows node t) → t.decided ≡ decided
        → h.decision ≡ decision
    same_decision t h same =
        let is = row_is rows (λ r. (r.node ≡ node) × (r.decision ≡ Some h.decision)) decided row
        there (subst (RowAt rows (λ r. (r.node ≡ node) × (r.decision ≡ Some h.decision))) same
        h.decides)
        in
        same_Some h.decision decision (sym is.1 ∙ value)

    changes_of : (t : TakenBack) (h : IsTakenBack rows node t) → h.decision ≡ decision
        → RowAt rows (IsSought (sought.ChangeOf node decision)) t.changed
    changes_of t h same =
        let a = h.changes in
        record {
          row = a.row;
          there = a.there;
          is = (a.is.0, λ e. a.is.1 (e ∙ ap Some (sym same)));
        }

    not_earlier : (t : TakenBack) → IsTakenBack rows node t → decided ≤ t.decided
    not_earlier t h = not_before rows (IsSought (sought.DecisionOf node)) 0 decided t.decided found
        (omega arith) (decides_of t h)

    -- it stays with the first decision
    pub kept_one : ((k : ℕ) → decided ≤ k
        → RowAt rows (IsSought (sought.ChangeOf node decision)) k → ⊥)
        → (t : TakenBack) → IsTakenBack rows node t → ⊥
    kept_one none t h = by (cases_eq h.decision decision)
      where
        by : (h.decision ≡ decision) ⊎ (h.decision ≡ decision → ⊥) → ⊥
        by (inl same) =
            let low = not_earlier t h in
            let l = h.later in
            none t.changed (omega arith) (changes_of t h same)
        by (inr differs) = at (cases_lt decided t.decided)
          where
            at : (decided < t.decided) ⊎ (t.decided ≤ decided) → ⊥
            at (inl behind) =
                let a = h.decides in
                none t.decided (omega arith)
                (record {
                  row = a.row;
                  there = a.there;
                  is = (a.is.0, λ e. differs (same_Some h.decision decision (sym a.is.1 ∙ e)));
                })
            at (inr here) =
                let low = not_earlier t h in
                differs (same_decision t h (omega arith))

    pub taken_back_at : (changed : ℕ)
        → IsFirstFrom rows (IsSought (sought.ChangeOf node decision)) decided changed
        → IsFirstTakenBack rows node (record { decided = decided; changed = changed })
    taken_back_at changed second =
        record {
          taken_back = record {
            decision = decision;
            decides = record {
              row = row;
              there = there;
              is = (
                (row_is rows (IsSought (sought.DecisionOf node)) decided row there found.there).0,
                value,
              );
            };
            later = behind;
            changes = second.there;
          };
          first = not_earlier;
          soonest = λ other h same.
              let later = h.later in
              not_before rows (IsSought (sought.ChangeOf node decision)) decided changed
              other.changed second (omega arith) (changes_of other h (same_decision other h same));
        }
      where
        behind : decided < changed
        behind = by (cases_lt decided changed)
          where
            by : (decided < changed) ⊎ (changed ≤ decided) → decided < changed
            by (inl late) = late
            by (inr early) =
                let after = second.after in
                let same : changed ≡ decided = omega arith in
                let is = row_is rows (IsSought (sought.ChangeOf node decision)) decided row there
                (subst (RowAt rows (IsSought (sought.ChangeOf node decision))) same second.there) in
                absurd (is.1 value)
