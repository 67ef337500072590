-- What the rows of a report show of a run in rounds, and it of them.
use Rattle.std.proofs.Common.{◌≡◌, ◌≢◌, ◌∙◌, ℕ, ◌<◌, ◌≤◌, true, List, [], ◌∷◌, Some, sym, subst, ap}
use Rattle.std.proofs.Common.{arith, inl, inr, map, refl}
use Rattle.std.specs.Prelude.{All, Contains}
use Rattle.std.proofs.lemmas.List.Elements.{All-contains, All-head, All-tail, All-weaker}
use Rattle.omission_explainer.specs.Decided.{AreAgreed, AreInputs, IsDecided}
use Rattle.omission_explainer.specs.Reported.{place}
use Rattle.omission_explainer.specs.Rows.{ClosedRound}
use Rattle.round_explorer.specs.Answers.{in_rounds}
use Rattle.round_explorer.specs.Properties.{Agrees, Counts, Decides, HoldsUpTo, IsAlways, IsFinal}
use Rattle.round_explorer.specs.Properties.{IsValid, Run, decision_after, is_true}
use Rattle.round_explorer.specs.Questions.{Messages, failure_of}
use Rattle.round_explorer.specs.declared.property.Property.{Property}
use Rattle.round_explorer.specs.declared.property.Property.TheVariants.{Agreement, Always, Final}
use Rattle.round_explorer.specs.declared.property.Property.TheVariants.{Safety, Termination}
use Rattle.round_explorer.specs.declared.property.Property.TheVariants.{Validity}
use Rattle.round_explorer.specs.declared.question.Failure.{Failure}
use Rattle.round_lang.specs.Syntax.{ProgramTree}
use Rattle.round_lang.specs.Tree.{Tree}
use Rattle.round_meaning.specs.Rounds.{algorithm_of, rounds}
use Rattle.round_meaning.specs.Turn.{decision}
use Rattle.round_meaning.specs.declared.setup.Setup.{Setup}
use Rattle.answer_laws.specs.EveryReport.{AreFinal, HoldsOfRows}
use Rattle.answer_laws.proofs.Members.{IsMadeOf, made_of, told}

-- a run in rounds up to round k, and rows
module _ (p : ProgramTree) (s : Setup) (pattern : List Failure) (omits : Messages) (k : ℕ) where
  abbrev pub shown_run : Run
  shown_run = record { program = p; setup = s; pattern = pattern; omits = omits }

  -- the row is of the run, and counts
  pub record IsOfRun (row : ClosedRound) : Type 0 where
    pub node : row.node < s.nodes
    pub begun : 1 ≤ row.round
    pub past : row.round ≤ k
    pub counts : Counts (failure_of pattern row.node) row.round
    pub decided : row.decision ≡ decision p row.state
    pub stated : row.state ≡ rounds (algorithm_of p s) omits row.round row.node

  -- each round that counts has a row
  abbrev pub HasEach : List ClosedRound → Type 0
  HasEach rows =
      (i r : ℕ) → i < s.nodes → 1 ≤ r → r ≤ k → Counts (failure_of pattern i) r
      → Contains (map place rows) (r, i)

  -- ---- from the run to the rows

  decides : (row : ClosedRound) (v : ℕ) → IsOfRun row → row.decision ≡ Some v
      → Decides shown_run k row.node row.round v
  decides row v shown is = record {
    known = shown.node;
    begun = shown.begun;
    past = shown.past;
    counts = shown.counts;
    decides = ap (decision p) (sym shown.stated) ∙ sym shown.decided ∙ is;
  }

  found : (xs : List ClosedRound) (v : ℕ) → All IsOfRun xs → IsDecided xs v
      → (row : ClosedRound) × IsOfRun row × (row.decision ≡ Some v)
  found [] v all h = absurd h
  found (row ∷ xs) v all (inl is) = (row, All-head IsOfRun row xs all, is)
  found (row ∷ xs) v all (inr h) = found xs v (All-tail IsOfRun row xs all) h

  agreed : (rows : List ClosedRound) → All IsOfRun rows → Agrees shown_run k → AreAgreed rows
  agreed rows all holds = λ v u one two.
      let a = found rows v all one in
      let b = found rows u all two in
      holds a.0.node b.0.node a.0.round b.0.round v u (decides a.0 v a.1 a.2)
      (decides b.0 u b.1 b.2)

  valid : (rows : List ClosedRound) → All IsOfRun rows → IsValid shown_run k → AreInputs s rows
  valid rows all holds = λ v one.
      let a = found rows v all one in
      holds a.0.node a.0.round v (decides a.0 v a.1 a.2)

  final : (rows : List ClosedRound) → All IsOfRun rows → IsFinal shown_run k → AreFinal rows
  final rows all holds = λ one other v in_one in_other same later is.
      let a = All-contains IsOfRun rows one all in_one in
      let b = All-contains IsOfRun rows other all in_other in
      let counts = subst (λ i. Counts (failure_of pattern i) other.round) (sym same) b.counts in
      let kept = holds one.node one.round other.round v (decides one v a is) later b.past counts in
      b.decided ∙ ap (decision p) b.stated
      ∙ ap (λ i. decision p (rounds (algorithm_of p s) omits other.round i)) (sym same)
      ∙ kept

  always : (f : Tree) (rows : List ClosedRound) → All IsOfRun rows → IsAlways f shown_run k
      → All (λ (row : ClosedRound). is_true p s.nodes s.faults f row.round row.node row.state
      ≡ true) rows
  always f rows all holds =
      All-weaker IsOfRun (λ (row : ClosedRound). is_true p s.nodes s.faults f row.round row.node
      row.state ≡ true)
      (λ row shown. subst (λ state. is_true p s.nodes s.faults f row.round row.node state ≡ true)
      (sym shown.stated) (holds row.node row.round shown.node shown.begun shown.past shown.counts))
      rows all

  pub holds_of_rows : (property : Property) (rows : List ClosedRound) → All IsOfRun rows
      → (property ≢ Termination → HoldsUpTo property shown_run k) → HoldsOfRows property p s rows
  holds_of_rows Agreement rows all holds = agreed rows all (holds (λ e. absurd cc))
  holds_of_rows Validity rows all holds = valid rows all (holds (λ e. absurd cc))
  holds_of_rows Final rows all holds = final rows all (holds (λ e. absurd cc))
  holds_of_rows Safety rows all holds =
      let safe = holds (λ e. absurd cc) in
      (agreed rows all safe.0, valid rows all safe.1, final rows all safe.2)
  holds_of_rows Termination rows all holds = tt
  holds_of_rows (Always f) rows all holds =
      always f.now rows all (holds (λ e. absurd cc))

  -- ---- from the rows to the run

  module _ (rows : List ClosedRound) (all : All IsOfRun rows) (each : HasEach rows) where
    -- the row of a round
    record IsRowAt (i r : ℕ) : Type 0 where
      row : ClosedRound
      among : Contains rows row
      node : row.node ≡ i
      round : row.round ≡ r
      stated : row.state ≡ rounds (algorithm_of p s) omits r i
      decided : row.decision ≡ decision_after shown_run i r

    row_at : (i r : ℕ) → i < s.nodes → 1 ≤ r → r ≤ k → Counts (failure_of pattern i) r
        → IsRowAt i r
    row_at i r known begun past counts =
        let made : IsMadeOf place rows (r, i) =
        made_of place rows (r, i) (each i r known begun past counts) in
        let shown = All-contains IsOfRun rows made.from all made.among in
        let round : made.from.round ≡ r = ap (λ x. x.0) made.gives in
        let node : made.from.node ≡ i = ap (λ x. x.1) made.gives in
        let stated = shown.stated
        ∙ ap (λ q. rounds (algorithm_of p s) omits q made.from.node) round
        ∙ ap (λ j. rounds (algorithm_of p s) omits r j) node in
        record {
          row = made.from;
          among = made.among;
          node = node;
          round = round;
          stated = stated;
          decided = shown.decided ∙ ap (decision p) stated;
        }

    is_told : (i r v : ℕ) → Decides shown_run k i r v → IsDecided rows v
    is_told i r v h =
        let at = row_at i r h.known h.begun h.past h.counts in
        told rows at.row v at.among (at.decided ∙ h.decides)

    agrees : AreAgreed rows → Agrees shown_run k
    agrees holds = λ i j r q v u one two. holds v u (is_told i r v one) (is_told j q u two)

    is_valid : AreInputs s rows → IsValid shown_run k
    is_valid holds = λ i r v one. holds v (is_told i r v one)

    is_final : AreFinal rows → IsFinal shown_run k
    is_final holds = λ i q r v one later past counts.
        let at = row_at i q one.known one.begun one.past one.counts in
        let next = row_at i r one.known (omega (arith, one.begun, later)) past counts in
        sym next.decided
        ∙ holds at.row next.row v at.among next.among (at.node ∙ sym next.node)
        (omega (arith, at.round, next.round, later)) (at.decided ∙ one.decides)

    is_always : (f : Tree) → All (λ (row : ClosedRound). is_true p s.nodes s.faults f row.round
        row.node row.state ≡ true) rows → IsAlways f shown_run k
    is_always f holds = λ i r known begun past counts.
        let at = row_at i r known begun past counts in
        let is = All-contains (λ (row : ClosedRound). is_true p s.nodes s.faults f row.round
        row.node row.state ≡ true) rows at.row holds at.among in
        ap (λ state. is_true p s.nodes s.faults f r i state) (sym at.stated)
        ∙ ap (λ j. is_true p s.nodes s.faults f r j at.row.state) (sym at.node)
        ∙ ap (λ q. is_true p s.nodes s.faults f q at.row.node at.row.state) (sym at.round)
        ∙ is

    pub holds_of_run : (property : Property) → property ≢ Termination
        → HoldsOfRows property p s rows → HoldsUpTo property shown_run k
    holds_of_run Agreement other holds = agrees holds
    holds_of_run Validity other holds = is_valid holds
    holds_of_run Final other holds = is_final holds
    holds_of_run Safety other holds = (agrees holds.0, is_valid holds.1, is_final holds.2)
    holds_of_run Termination other holds = absurd (other refl)
    holds_of_run (Always f) other holds = is_always f.now holds

-- the number of rounds makes no difference
pub other_rounds : (p : ProgramTree) (s : Setup) (last : ℕ) (property : Property)
    (rows : List ClosedRound) → HoldsOfRows property p s rows
    → HoldsOfRows property p (in_rounds s last) rows
other_rounds p s last Agreement rows h = h
other_rounds p s last Validity rows h = h
other_rounds p s last Final rows h = h
other_rounds p s last Safety rows h = h
other_rounds p s last Termination rows h = h
other_rounds p s last (Always f) rows h = h
