-- The omissions that are printed of a report are read as its lines.
use Rattle.std.proofs.Common.{◌≡◌, ◌⊎◌, ◌∙◌, ℕ, ◌<◌, ◌≤◌, ◌==◌, ◌&&◌, Bool, true, false}
use Rattle.std.proofs.Common.{List, [], ◌∷◌, ◌++◌, length, map, ap, ap₂, append_assoc, arith}
use Rattle.std.proofs.Common.{inl, inr, refl, subst, sym}
use Rattle.std.specs.Prelude.{All, Contains, filter, nat_le, slice_index_or}
use Rattle.std.specs.List.{AllByRecursion, AllZip, flat_map, list_any, range_with_len}
use Rattle.std.specs.Str.Lines.{lines}
use Rattle.std.proofs.lemmas.Bool.{and_from, and_parts, eq-eqb, eqb-true, le-leb}
use Rattle.std.proofs.lemmas.Bool.{leb-true, ltb-true, or_cases, or_left, or_right}
use Rattle.std.proofs.lemmas.List.{get_or-map, length-map}
use Rattle.std.proofs.lemmas.List.Concat.{flat_map-append}
use Rattle.std.proofs.lemmas.List.Elements.{All-append, All-cons, All-contains}
use Rattle.std.proofs.lemmas.List.Elements.{All-head, All-map, All-nil, All-tail, All-weaker}
use Rattle.std.proofs.lemmas.List.Elements.{filter_passes}
use Rattle.std.proofs.lemmas.List.Folds.{list_any-append, list_any_at}
use Rattle.std.proofs.lemmas.List.FromFn.{get_or-range_with_len, length-range_with_len}
use Rattle.command_runs.specs.Explained.{IsReportSoFar}
use Rattle.omission_explainer.specs.InRounds.{printed_omits}
use Rattle.omission_explainer.specs.Printed.{prints_omitted}
use Rattle.omission_explainer.specs.Reported.{IsReported, carried_in, omitted_in, place, sends_in}
use Rattle.omission_explainer.specs.Reported.{stands_in}
use Rattle.omission_explainer.specs.Rows.{ClosedRound}
use Rattle.omission_explainer.specs.declared.report.Report.{Report}
use Rattle.omission_texts.specs.Meaning.{IsKnown, has_round, line_omits, omits}
use Rattle.omission_texts.specs.Texts.{Says, Tells}
use Rattle.omission_texts.specs.declared.line.OmissionLine.{OmissionLine}
use Rattle.round_lang.specs.Sets.{is_in, members}
use Rattle.round_lang.specs.Syntax.{ProgramTree}
use Rattle.round_lang.proofs.SetLaws.{is_in-set_of}
use Rattle.round_meaning.specs.Setups.{IsLawful}
use Rattle.round_meaning.specs.declared.setup.Setup.{Setup}
use Rattle.run_data.specs.Omitted.{omit_line, omit_lines}
use Rattle.run_events.specs.declared.event.Event.{Event}
use Rattle.schedule_text.specs.Texts.{counts, max_text}
use Rattle.schedule_text.specs.Writing.{line_text}
use Rattle.schedule_text.proofs.Split.{is_plain, lines-text}
use Rattle.answer_laws.specs.Read.{OmissionsAreRead, lines_of, row_lines}
use Rattle.answer_laws.proofs.Yes.{rows_past}
use Rattle.answer_laws.proofs.Members.{in_filter, in_head, in_map, in_tail}
use Rattle.answer_laws.proofs.OmitLines.{IsSmallOmission, omit_plain, omit_said, omit_text}
use Rattle.answer_laws.proofs.OmitLines.{omit_told}
use Rattle.answer_laws.proofs.Printed.{IsPrintedIn, printed_from, printed_is}

-- ---- members of a set

member : (s j : ℕ) → j < 64 → is_in s j ≡ true → Contains (members s) j
unfolding members
member s j few is = in_filter (is_in s) (range_with_len 0 64) j (
  j,
  omega (arith, few, length-range_with_len 0 64),
  get_or-range_with_len 0 64 j j few ∙ omega arith,
) is

are_members : (s : ℕ) → All (λ j. is_in s j ≡ true) (members s)
unfolding members
are_members s = filter_passes (is_in s) (range_with_len 0 64)

-- ---- the lines of a row

-- what the lines of a row are written as
abbrev row_texts : ClosedRound → List (List ℕ)
row_texts row = map (omit_text row.node row.round) (members row.omitted)

abbrev texts_of : List ClosedRound → List (List ℕ)
texts_of rows = flat_map row_texts rows

abbrev IsSmallRow : ClosedRound → Type 0
IsSmallRow row = All (IsSmallOmission row.node row.round) (members row.omitted)

-- texts count, have no control characters, and are read as lines
record AreTexts (texts : List (List ℕ)) (said : List OmissionLine) : Type 0 where
  plain : AllByRecursion (λ l. is_plain l ≡ true) texts
  counted : filter counts texts ≡ texts
  told : AllZip Tells texts said

texts_none : AreTexts [] []
texts_none = record { plain = tt; counted = refl; told = tt }

texts_more : (i r : ℕ) (js : List ℕ) (texts : List (List ℕ)) (said : List OmissionLine)
    → All (IsSmallOmission i r) js → AreTexts texts said
    → AreTexts (map (omit_text i r) js ++ texts) (map (omit_said i r) js ++ said)
texts_more i r [] texts said small are = are
texts_more i r (j ∷ js) texts said small are =
    let head = All-head (IsSmallOmission i r) j js small in
    let rest = texts_more i r js texts said (All-tail (IsSmallOmission i r) j js small) are in
    record {
      plain = (omit_plain i r j head, rest.plain);
      counted = ap (λ ls. omit_text i r j ∷ ls) rest.counted;
      told = (omit_told i r j head, rest.told);
    }

texts_are : (rows : List ClosedRound) → All IsSmallRow rows
    → AreTexts (texts_of rows) (lines_of rows)
texts_are [] small = texts_none
texts_are (row ∷ rows) small =
    texts_more row.node row.round (members row.omitted) (texts_of rows) (lines_of rows)
    (All-head IsSmallRow row rows small) (texts_are rows (All-tail IsSmallRow row rows small))

-- ---- the text

line_is : (row : ClosedRound) (j : ℕ)
    → omit_line row j ≡ line_text (omit_text row.node row.round j)
line_is row j = simp append_assoc

row_text : (row : ClosedRound) (js : List ℕ)
    → flat_map (omit_line row) js ≡ flat_map line_text (map (omit_text row.node row.round) js)
row_text row [] = refl
row_text row (j ∷ js) = ap₂ (λ xs ys. xs ++ ys) (line_is row j) (row_text row js)

text_is : (rows : List ClosedRound)
    → flat_map omit_lines rows ≡ flat_map line_text (texts_of rows)
text_is [] = refl
text_is (row ∷ rows) =
    ap₂ (λ xs ys. xs ++ ys) (row_text row (members row.omitted)) (text_is rows)
    ∙ sym (flat_map-append line_text (row_texts row) (texts_of rows))

says : (rows : List ClosedRound) → All IsSmallRow rows
    → length (flat_map omit_lines rows) ≤ max_text → Says (flat_map omit_lines rows) (lines_of rows)
says rows small short =
    let are = texts_are rows small in
    record {
      short = short;
      each = subst (λ ls. AllZip Tells (filter counts ls) (lines_of rows))
          (sym (ap lines (text_is rows) ∙ lines-text (texts_of rows) are.plain))
          (subst (λ ls. AllZip Tells ls (lines_of rows)) (sym are.counted) are.told);
    }

-- ---- what the lines omit

-- a line omits the one message that it names
omits_one : (i r j k q m : ℕ) → line_omits (omit_said k q m) i r j ≡ true
    → (k ≡ i) × (q ≡ r) × (m ≡ j)
omits_one i r j k q m h =
    let node = and_parts (k == i) (has_round (record { first = q; last = q }) r && m == j) h in
    let rest = and_parts (has_round (record { first = q; last = q }) r) (m == j) node.1 in
    let round = and_parts (nat_le q r) (nat_le r q) rest.0 in (
      eqb-true k i node.0,
      omega (arith, leb-true q r round.0, leb-true r q round.1),
      eqb-true m j rest.1,
    )

one_omits : (i r j k q : ℕ) → k ≡ i → q ≡ r → line_omits (omit_said k q j) i r j ≡ true
one_omits i r j k q node round =
    and_from _ _ (eq-eqb _ _ node) (and_from _ _ (and_from _ _ (le-leb q r (omega (arith, round)))
    (le-leb r q (omega (arith, round)))) (eq-eqb j j refl))

-- a row's lines omit what it has as omitted
row_omits : (i r j : ℕ) (k q : ℕ) (js : List ℕ)
    → list_any (λ l. line_omits l i r j) (map (omit_said k q) js) ≡ true
    → (k ≡ i) × (q ≡ r) × Contains js j
row_omits i r j k q [] h = absurd cc
row_omits i r j k q (m ∷ ms) h = by (or_cases _ _ h) (row_omits i r j k q ms)
  where
    by : (line_omits (omit_said k q m) i r j ≡ true)
        ⊎ (list_any (λ l. line_omits l i r j) (map (omit_said k q) ms) ≡ true)
        → (list_any (λ l. line_omits l i r j) (map (omit_said k q) ms) ≡ true
        → (k ≡ i) × (q ≡ r) × Contains ms j)
        → (k ≡ i) × (q ≡ r) × Contains (m ∷ ms) j
    by (inl here) rest =
        let is = omits_one i r j k q m here in
        (is.0, is.1, subst (λ n. Contains (n ∷ ms) j) (sym is.2) (in_head j ms))
    by (inr there) rest = let is = rest there in (is.0, is.1, in_tail m j ms is.2)

lines_omit : (rows : List ClosedRound) (i r j : ℕ) → omits (lines_of rows) i r j ≡ true
    → IsPrintedIn rows i r j
lines_omit [] i r j h = absurd cc
lines_omit (row ∷ rows) i r j h =
    by (or_cases _ _ (sym (list_any-append (λ l. line_omits l i r j) (row_lines row)
    (lines_of rows)) ∙ h)) (lines_omit rows i r j)
  where
    by : (list_any (λ l. line_omits l i r j) (row_lines row) ≡ true)
        ⊎ (omits (lines_of rows) i r j ≡ true)
        → (omits (lines_of rows) i r j ≡ true → IsPrintedIn rows i r j)
        → IsPrintedIn (row ∷ rows) i r j
    by (inl here) rest =
        let is = row_omits i r j row.node row.round (members row.omitted) here in
        record {
          row = row;
          among = in_head row rows;
          node = is.0;
          round = is.1;
          omits = All-contains (λ m. is_in row.omitted m ≡ true) (members row.omitted) j
              (are_members row.omitted) is.2;
        }
    by (inr there) rest =
        let found = rest there in
        record {
          row = found.row;
          among = in_tail row found.row rows found.among;
          node = found.node;
          round = found.round;
          omits = found.omits;
        }

abbrev IsOmitted : (i r j : ℕ) → List ClosedRound → ClosedRound → Type 0
IsOmitted i r j rows row =
    row.node ≡ i → row.round ≡ r → j < 64 → is_in row.omitted j ≡ true
    → omits (lines_of rows) i r j ≡ true

row_omitted : (i r j : ℕ) (row : ClosedRound) → row.node ≡ i → row.round ≡ r → j < 64
    → is_in row.omitted j ≡ true → list_any (λ l. line_omits l i r j) (row_lines row) ≡ true
row_omitted i r j row node round few is =
    let there = member row.omitted j few is in
    let said = omit_said row.node row.round in
    let at : slice_index_or (map said (members row.omitted)) there.0 (said j) ≡ said j =
    get_or-map said (members row.omitted) there.0 j (said j) there.1 ∙ ap said there.2 in
    list_any_at (λ l. line_omits l i r j) (row_lines row) there.0 (said j)
    (omega (arith, there.1, length-map (members row.omitted) said))
    (ap (λ l. line_omits l i r j) at ∙ one_omits i r j row.node row.round node round)

all_omitted : (i r j : ℕ) (rows : List ClosedRound) → All (IsOmitted i r j rows) rows
all_omitted i r j [] = All-nil (IsOmitted i r j [])
all_omitted i r j (row ∷ rows) =
    let parts = list_any-append (λ l. line_omits l i r j) (row_lines row) (lines_of rows) in
    All-cons (IsOmitted i r j (row ∷ rows)) row rows
    (λ node round few is. parts ∙ or_left _ _ (row_omitted i r j row node round few is))
    (All-weaker (IsOmitted i r j rows) (IsOmitted i r j (row ∷ rows))
    (λ other h node round few is. parts ∙ or_right _ _ (h node round few is)) rows
    (all_omitted i r j rows))

same_test : (a b : Bool) → (a ≡ true → b ≡ true) → (b ≡ true → a ≡ true) → a ≡ b
same_test true b f g = sym (f refl)
same_test false true f g = g refl
same_test false false f g = refl

-- ---- a report

module _ (start : ℕ → ℕ) (p : ProgramTree) (s : Setup) (events : List Event) (report : Report)
    (lawful : IsLawful p.values s) (told : IsReportSoFar start p s events report) where
  nodes_is : told.run.setup.nodes ≡ s.nodes
  nodes_is = ap (λ (z : Setup). z.nodes) told.setup

  -- a row omits nodes of the run
  omits_nodes : (row : ClosedRound) (j : ℕ) → IsReported start told.run row
      → is_in row.omitted j ≡ true → j < s.nodes
  omits_nodes row j reported is =
      let v = told.run in
      let set = sym (ap (λ set. is_in set j) reported.printed.omitted
      ∙ is_in-set_of v.setup.nodes (prints_omitted (carried_in start v row.round row.node)
      (sends_in start v row.round row.node) (stands_in start v row.round row.node)) j) ∙ is in
      omega (arith, ltb-true j v.setup.nodes (and_parts _ _ set).0, nodes_is)

  each_member : All (λ (row : ClosedRound). All (λ j. (row.node < s.nodes) × (1 ≤ row.round)
      × (row.round ≤ s.rounds) × (j < s.nodes)) (members row.omitted)) report.rows
  each_member = λ k d l.
      let row = slice_index_or report.rows k d in
      let reported = told.reported k d l in
      let past = rows_past start p s events report told k d l in
      let node = reported.node in
      let first = reported.first in
      λ m e h. (
        omega (arith, node, nodes_is),
        omega (arith, first),
        past,
        omits_nodes row (slice_index_or (members row.omitted) m e) reported
            (are_members row.omitted m e h),
      )

  small_rows : All IsSmallRow report.rows
  small_rows = λ k d l m e h.
      let is = each_member k d l m e h in
      let sized = lawful.sized in
      record {
        receiver = omega (arith, is.0, sized.few_nodes);
        round = omega (arith, is.2, sized.few_rounds);
        sender = omega (arith, is.3, sized.few_nodes);
      }

  known : (rows : List ClosedRound) → All (λ (row : ClosedRound). All (λ j. (row.node < s.nodes)
      × (1 ≤ row.round) × (row.round ≤ s.rounds) × (j < s.nodes)) (members row.omitted)) rows
      → All (IsKnown s) (lines_of rows)
  known [] all = All-nil (IsKnown s)
  known (row ∷ rows) all =
      let Is : ClosedRound → Type 0 = λ r. All (λ j. (r.node < s.nodes) × (1 ≤ r.round)
      × (r.round ≤ s.rounds) × (j < s.nodes)) (members r.omitted) in
      let here = All-head Is row rows all in
      All-append (IsKnown s) (row_lines row) (lines_of rows)
      (All-map (IsKnown s) (omit_said row.node row.round) (members row.omitted) (λ m e h.
      let is = here m e h in
      (is.0, is.3, record { first = is.1; some = omega arith; last = is.2 })))
      (known rows (All-tail Is row rows all))

  same_omits : (i r j : ℕ) → omits (lines_of report.rows) i r j ≡ printed_omits report.rows i r j
  same_omits i r j = same_test _ _ prints omits_too
    where
      prints : omits (lines_of report.rows) i r j ≡ true → printed_omits report.rows i r j ≡ true
      prints h =
          let found : IsPrintedIn report.rows i r j = lines_omit report.rows i r j h in
          let reported = All-contains (IsReported start told.run) report.rows found.row
          told.reported found.among in
          let there : Contains (map place report.rows) (r, i) =
          subst (λ at. Contains (map place report.rows) at)
          (ap₂ (λ a b. (a, b)) found.round found.node)
          (in_map place report.rows found.row found.among) in
          ap (λ set. is_in set j) (printed_is start told.run report.rows i r told.reported there
          ∙ sym (ap₂ (omitted_in start told.run) found.round found.node)
          ∙ sym reported.printed.omitted)
          ∙ found.omits

      omits_too : printed_omits report.rows i r j ≡ true
          → omits (lines_of report.rows) i r j ≡ true
      omits_too h =
          let found : IsPrintedIn report.rows i r j = printed_from report.rows i r j h in
          let reported = All-contains (IsReported start told.run) report.rows found.row
          told.reported found.among in
          All-contains (IsOmitted i r j report.rows) report.rows found.row
          (all_omitted i r j report.rows) found.among found.node found.round
          (omega (arith, omits_nodes found.row j reported found.omits, lawful.sized.few_nodes))
          found.omits

pub omissions_are_read : OmissionsAreRead
omissions_are_read start p s events report lawful told = (
  says report.rows (small_rows start p s events report lawful told),
  known start p s events report lawful told report.rows
      (each_member start p s events report lawful told),
  same_omits start p s events report lawful told,
)
