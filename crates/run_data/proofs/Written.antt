-- What a writer has got behind each line more.
use Rattle.std.proofs.Common.{◌≡◌, ℕ, suc, ◌+◌, ◌<◌, List, [], ◌∷◌, ◌++◌, Option, ap, sym, subst}
use Rattle.std.proofs.Common.{◌∙◌, add-zero, append_assoc, append-nil, arith, get_or, length}
use Rattle.std.proofs.Common.{length-take-le, take}
use Rattle.std.specs.Io.KnownBytes.{Appends}
use Rattle.std.specs.List.{flat_map}
use Rattle.std.proofs.KnownBytes.{Appends-trans}
use Rattle.std.proofs.lemmas.List.{flat_map_more, take_more}
use Rattle.run_data.specs.Objects.{data_line}
use Rattle.run_data.specs.ReportData.{count_lines, count_object}

-- one item's text more
pub items_more : {X : Type 0} (old mid new : Option (List ℕ)) (f : X → List ℕ) (xs : List X) (i : ℕ)
    (x : X) → i < length xs → x ≡ get_or xs i x → Appends old mid (flat_map f (take i xs))
    → Appends mid new (f x) → Appends old new (flat_map f (take (i + 1) xs))
items_more old mid new f xs i x h is before more =
    let e : flat_map f (take i xs) ++ f x ≡ flat_map f (take (i + 1) xs) =
    flat_map_more f [] (take i xs) x ∙ ap (λ y. flat_map f (take i xs ++ y ∷ [])) is
    ∙ ap (flat_map f) (sym (take_more xs i x h)) in
    subst (Appends old new) e (Appends-trans old mid new _ _ before more)

-- the lines of the nodes, and the next node's
count_lines-push : (node : ℕ) (counts : List (ℕ × ℕ)) (count : ℕ × ℕ)
    → count_lines node (counts ++ count ∷ []) ≡ count_lines node counts
    ++ data_line (count_object (node + length counts) count)
count_lines-push node [] count =
    append-nil (data_line (count_object node count))
    ∙ ap (λ n. data_line (count_object n count)) (sym (add-zero node))
count_lines-push node (first ∷ counts) count =
    let place : node + 1 + length counts ≡ node + suc (length counts) = omega arith in
    ap (λ l. data_line (count_object node first) ++ l) (count_lines-push (node + 1) counts count
    ∙ ap (λ n. count_lines (node + 1) counts ++ data_line (count_object n count)) place)
    ∙ sym (append_assoc (data_line (count_object node first)) (count_lines (node + 1) counts) _)

-- one node's line more
pub counts_more : (old mid new : Option (List ℕ)) (counts : List (ℕ × ℕ)) (i : ℕ) (d : ℕ × ℕ)
    → i < length counts → Appends old mid (count_lines 0 (take i counts))
    → Appends mid new (data_line (count_object i (get_or counts i d)))
    → Appends old new (count_lines 0 (take (i + 1) counts))
counts_more old mid new counts i d h before more =
    let short : 0 + length (take i counts) ≡ i = omega (arith, length-take-le i counts) in
    let e : count_lines 0 (take i counts) ++ data_line (count_object i (get_or counts i d))
    ≡ count_lines 0 (take (i + 1) counts) =
    ap (λ n. count_lines 0 (take i counts) ++ data_line (count_object n (get_or counts i d)))
    (sym short)
    ∙ sym (count_lines-push 0 (take i counts) (get_or counts i d))
    ∙ ap (count_lines 0) (sym (take_more counts i d h)) in
    subst (Appends old new) e (Appends-trans old mid new _ _ before more)
