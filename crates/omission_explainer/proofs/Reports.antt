-- How a report's rows grow.
use Rattle.std.proofs.Common.{◌≡◌, ℕ, ◌+◌, ◌-◌, ◌<◌, ◌≤◌, true, false, cond, List, [], ◌∷◌, ◌++◌}
use Rattle.std.proofs.Common.{◌∙◌, map, ap, refl, sym, subst, append_assoc, append-nil, add-one}
use Rattle.std.proofs.Common.{arith}
use Rattle.std.specs.Prelude.{All, nat_lt}
use Rattle.std.specs.List.{flat_map, range_with_len}
use Rattle.std.proofs.lemmas.Bool.Decides.{nat_tests}
use Rattle.std.proofs.lemmas.Grind.{flat_map-append}
use Rattle.std.proofs.lemmas.List.{map_push}
use Rattle.std.proofs.lemmas.List.Elements.{All-push}
use Rattle.std.proofs.lemmas.List.FromFn.{filter_of_map_range_with_len_more}
use Rattle.std.proofs.lemmas.List.FromFn.{map-range_with_len_more}
use Rattle.round_meaning.specs.Turn.{decision}
use Rattle.step_book.specs.History.{state}
use Rattle.step_book.specs.Log.{Log, count_of, history, round_of, world_of}
use Rattle.omission_explainer.specs.Reported.{IsReported, IsRowOf, is_closed, closed_below}
use Rattle.omission_explainer.specs.Reported.{closed_rounds, count_in, place}
use Rattle.omission_explainer.specs.Rows.{ClosedRound}
use Rattle.omission_explainer.proofs.Texts.{range_push}

-- what the row of round r of node i shows
pub reported : (start : ℕ → ℕ) (v : Log) (r i : ℕ) (x : ClosedRound) → x.round ≡ r → x.node ≡ i
    → i < v.setup.nodes → 0 < r → r < round_of v i → IsRowOf start v r i x
    → x.state ≡ state (world_of start v) (history v) r i → x.decision ≡ decision v.program x.state
    → IsReported start v x
reported start v r i x er ei node first closed printed stated decided =
    record {
      node = rw ei node;
      first = rw er first;
      closed = rw (er, ei) closed;
      printed = subst (λ k. IsRowOf start v k x.node x) (sym er)
          (subst (λ k. IsRowOf start v r k x) (sym ei) printed);
      stated = stated ∙ sym (ap (λ k. state (world_of start v) (history v) k i) er)
          ∙ sym (ap (state (world_of start v) (history v) x.round) ei);
      decided = decided;
    }

-- one row more
pub reported_more : (start : ℕ → ℕ) (v : Log) (xs ys : List ClosedRound) (x : ClosedRound)
    → ys ≡ xs ++ x ∷ [] → All (IsReported start v) xs → IsReported start v x
    → All (IsReported start v) ys
reported_more start v xs ys x e h here =
    let P = λ (y : ClosedRound). IsReported start v y in
    subst (All P) (sym e) (All-push P xs x h here)

-- ---- the closed rounds, as two loops list them

-- the closed rounds before round r, and those of round r of the nodes below n
abbrev pub listed_to : Log → ℕ → ℕ → List (ℕ × ℕ)
listed_to v r n = flat_map (closed_below v v.setup.nodes) (range_with_len 1 (r - 1))
    ++ closed_below v n r

-- a closed round more
pub listed_row : (v : Log) (r n : ℕ) (xs ys : List ClosedRound) (x : ClosedRound)
    → ys ≡ xs ++ x ∷ [] → x.round ≡ r → x.node ≡ n → r < round_of v n
    → map place xs ≡ listed_to v r n → map place ys ≡ listed_to v r (n + 1)
listed_row v r n xs ys x e er en closed h =
    let is : nat_lt r (round_of v n) ≡ true = grind (arith, nat_tests) in
    let before = flat_map (closed_below v v.setup.nodes) (range_with_len 1 (r - 1)) in
    let made : place x ≡ (r, n) = rw (er, en) refl in
    let more : closed_below v (n + 1) r ≡ closed_below v n r ++ (r, n) ∷ [] =
    filter_of_map_range_with_len_more (is_closed v) (λ i. (r, i)) 0 n n (omega arith)
    ∙ ap (λ b. closed_below v n r ++ cond b ((r, n) ∷ []) []) is in
    ap (map place) e ∙ map_push place xs x
    ∙ ap (λ p. map place xs ++ p ∷ []) made
    ∙ ap (λ ps. ps ++ (r, n) ∷ []) h
    ∙ append_assoc before (closed_below v n r) _
    ∙ ap (λ ps. before ++ ps) (sym more)

-- a node whose round isn't closed
pub listed_none : (v : Log) (r n : ℕ) (xs : List ClosedRound) → round_of v n ≤ r
    → map place xs ≡ listed_to v r n → map place xs ≡ listed_to v r (n + 1)
listed_none v r n xs unfinished h =
    let isnt : nat_lt r (round_of v n) ≡ false = grind (arith, nat_tests) in
    let before = flat_map (closed_below v v.setup.nodes) (range_with_len 1 (r - 1)) in
    let same : closed_below v (n + 1) r ≡ closed_below v n r =
    filter_of_map_range_with_len_more (is_closed v) (λ i. (r, i)) 0 n n (omega arith)
    ∙ ap (λ b. closed_below v n r ++ cond b ((r, n) ∷ []) []) isnt ∙ append-nil _ in
    h ∙ ap (λ ps. before ++ ps) (sym same)

-- a round begins
pub listed_first : (v : Log) (r : ℕ) (xs : List ClosedRound)
    → map place xs ≡ flat_map (closed_below v v.setup.nodes) (range_with_len 1 (r - 1))
    → map place xs ≡ listed_to v r 0
listed_first v r xs h = h ∙ sym (append-nil _)

-- a round ends
pub listed_round : (v : Log) (r n : ℕ) (xs : List ClosedRound) → 0 < r → n ≡ v.setup.nodes
    → map place xs ≡ listed_to v r n
    → map place xs ≡ flat_map (closed_below v v.setup.nodes) (range_with_len 1 (r + 1 - 1))
listed_round v r n xs first all h =
    let f = closed_below v v.setup.nodes in
    let before = flat_map f (range_with_len 1 (r - 1)) in
    let e : r + 1 - 1 ≡ (r - 1) + 1 = omega arith in
    let last : 1 + (r - 1) ≡ r = omega arith in
    let more : range_with_len 1 (r + 1 - 1) ≡ range_with_len 1 (r - 1) ++ r ∷ [] =
    ap (range_with_len 1) (e ∙ add-one _) ∙ range_push 1 (r - 1)
    ∙ ap (λ x. range_with_len 1 (r - 1) ++ x ∷ []) last in
    h ∙ ap (λ k. before ++ closed_below v k r) all
    ∙ ap (λ ps. before ++ ps) (sym (append-nil (f r)))
    ∙ sym (flat_map-append f (range_with_len 1 (r - 1)) (r ∷ []))
    ∙ ap (flat_map f) (sym more)

-- the last round ended
pub listed_all : (v : Log) (r n : ℕ) (xs : List ClosedRound) → n ≡ v.setup.rounds + 1 → r ≡ n
    → map place xs ≡ flat_map (closed_below v v.setup.nodes) (range_with_len 1 (r - 1))
    → map place xs ≡ closed_rounds v
listed_all v r n xs all here h =
    let e : r - 1 ≡ v.setup.rounds = omega arith in
    h ∙ ap (λ k. flat_map (closed_below v v.setup.nodes) (range_with_len 1 k)) e

-- ---- the counts

-- one node's counts more
pub counts_push : (v : Log) (i n k : ℕ) (xs ys : List (ℕ × ℕ)) → ys ≡ xs ++ (n, k) ∷ []
    → n ≡ count_of v i → k ≡ round_of v i - 1 → xs ≡ map (count_in v) (range_with_len 0 i)
    → ys ≡ map (count_in v) (range_with_len 0 (i + 1))
counts_push v i n k xs ys e en ek h =
    e ∙ ap (λ c. c ++ (n, k) ∷ []) h
    ∙ ap (λ x. map (count_in v) (range_with_len 0 i) ++ (x, k) ∷ []) en
    ∙ ap (λ x. map (count_in v) (range_with_len 0 i) ++ (count_of v i, x) ∷ []) ek
    ∙ sym (map-range_with_len_more (count_in v) 0 i i (omega arith))
