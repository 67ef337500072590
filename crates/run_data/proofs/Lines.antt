-- The objects of rows and counts, piece by piece.
use Rattle.std.proofs.Common.{◌≡◌, ℕ, List, [], ◌∷◌, ◌++◌, false, true, append_assoc, refl, sym, ap}
use Rattle.std.proofs.Common.{◌∙◌}
use Rattle.std.specs.Prelude.{codes}
use Rattle.std.specs.Fmt.{decimal}
use Rattle.json.specs.Print.{escape_byte}
use Rattle.omission_explainer.specs.Rows.{ClosedRound}
use Rattle.omission_explainer.specs.declared.report.Report.{Report}
use Rattle.serde_json.specs.Data.{Data}
use Rattle.serde_json.specs.Written.{compact_text}
use Rattle.run_data.specs.Objects.{number_data}
use Rattle.run_data.specs.ReportData.{count_object, decision_data, row_object, set_data, state_data}
use Rattle.run_data.proofs.Texts.{Filling, filling_begun, filling_ended, filling_more}

-- a closed round: the lines a to h are what stands there behind its pieces
pub row_made : (report : Report) (r : ClosedRound) (first a b c d e f g h i : List ℕ)
    → a ≡ first ++ (codes "{\"round\":" ++ decimal r.round)
    → b ≡ a ++ (codes ",\"node\":" ++ decimal r.node)
    → c ≡ b ++ (codes ",\"heard\":" ++ compact_text (set_data r.heard))
    → d ≡ c ++ (codes ",\"silent\":" ++ compact_text (set_data r.silent))
    → e ≡ d ++ (codes ",\"omitted\":" ++ compact_text (set_data r.omitted))
    → f ≡ e ++ codes ",\"state\":" → g ≡ f ++ compact_text (state_data report r.state)
    → h ≡ g ++ (codes ",\"decision\":" ++ compact_text (decision_data r.decision))
    → i ≡ h ++ 125 ∷ [] → i ≡ first ++ compact_text (row_object report r)
unfolding escape_byte
row_made report r first a b c d e f g h i round node heard silent omitted label state decision end =
    let state_field : List ℕ × Data = (codes "state", state_data report r.state) in
    let decision_field : List ℕ × Data = (codes "decision", decision_data r.decision) in
    let from_state : List (List ℕ × Data) = state_field ∷ decision_field ∷ [] in
    let from_omitted : List (List ℕ × Data) = (codes "omitted", set_data r.omitted) ∷ from_state in
    let from_silent : List (List ℕ × Data) = (codes "silent", set_data r.silent) ∷ from_omitted in
    let from_heard : List (List ℕ × Data) = (codes "heard", set_data r.heard) ∷ from_silent in
    let from_node : List (List ℕ × Data) = (codes "node", number_data r.node) ∷ from_heard in
    let all : List (List ℕ × Data) = (codes "round", number_data r.round) ∷ from_node in
    let brace : List ℕ = first ++ 123 ∷ [] in
    let begun : Filling first all brace false all = filling_begun first all brace refl in
    let at_round : Filling first all a true from_node =
    filling_more first all brace a false (codes "round", number_data r.round) from_node begun
    (round ∙ sym (append_assoc first (123 ∷ []) _)) in
    let at_node : Filling first all b true from_heard =
    filling_more first all a b true (codes "node", number_data r.node) from_heard at_round node in
    let at_heard : Filling first all c true from_silent =
    filling_more first all b c true (codes "heard", set_data r.heard) from_silent at_node heard in
    let at_silent : Filling first all d true from_omitted =
    filling_more first all c d true (codes "silent", set_data r.silent) from_omitted at_heard
    silent in
    let at_omitted : Filling first all e true from_state =
    filling_more first all d e true (codes "omitted", set_data r.omitted) from_state at_silent
    omitted in
    let at_state : Filling first all g true (decision_field ∷ []) =
    filling_more first all e g true state_field (decision_field ∷ []) at_omitted
    (state ∙ ap (λ l. l ++ compact_text (state_data report r.state)) label
    ∙ append_assoc e (codes ",\"state\":") _) in
    let at_decision : Filling first all h true [] =
    filling_more first all g h true decision_field [] at_state decision in
    filling_ended first all h i true [] at_decision refl end

-- a node's counts
pub count_made : (node : ℕ) (count : ℕ × ℕ) (first a b c d : List ℕ)
    → a ≡ first ++ (codes "{\"node\":" ++ decimal node)
    → b ≡ a ++ (codes ",\"steps\":" ++ decimal count.0)
    → c ≡ b ++ (codes ",\"rounds\":" ++ decimal count.1) → d ≡ c ++ 125 ∷ []
    → d ≡ first ++ compact_text (count_object node count)
unfolding escape_byte
count_made node count first a b c d named steps rounds end =
    let from_rounds : List (List ℕ × Data) = (codes "rounds", number_data count.1) ∷ [] in
    let from_steps : List (List ℕ × Data) = (codes "steps", number_data count.0) ∷ from_rounds in
    let all : List (List ℕ × Data) = (codes "node", number_data node) ∷ from_steps in
    let brace : List ℕ = first ++ 123 ∷ [] in
    let begun : Filling first all brace false all = filling_begun first all brace refl in
    let at_node : Filling first all a true from_steps =
    filling_more first all brace a false (codes "node", number_data node) from_steps begun
    (named ∙ sym (append_assoc first (123 ∷ []) _)) in
    let at_steps : Filling first all b true from_rounds =
    filling_more first all a b true (codes "steps", number_data count.0) from_rounds at_node
    steps in
    let at_rounds : Filling first all c true [] =
    filling_more first all b c true (codes "rounds", number_data count.1) [] at_steps rounds in
    filling_ended first all c d true [] at_rounds refl end
