-- Texts as loops write them.
use Rattle.std.proofs.Common.{◌≡◌, ℕ, zero, suc, ◌+◌, Bool, true, false, cond, List, [], ◌∷◌, ◌++◌}
use Rattle.std.proofs.Common.{Option, map, refl, sym, ap, ◌∙◌, subst, append_assoc, append-nil}
use Rattle.std.proofs.Common.{length, length-take-le, take, drop, get_or, ◌<◌, add-zero, add-one}
use Rattle.std.proofs.Common.{arith}
use Rattle.std.specs.Prelude.{◌≢◌, slice_index, codes, if◌then◌else◌}
use Rattle.std.specs.Fmt.{decimal}
use Rattle.std.specs.List.{range_with_len, filter, flat_map}
use Rattle.std.specs.Io.KnownBytes.{Appends}
use Rattle.std.proofs.KnownBytes.{Appends-trans}
use Rattle.std.proofs.lemmas.List.Elements.{filter-append}
use Rattle.std.proofs.lemmas.List.{take_more, flat_map_more, get_or-drop}
use Rattle.std.proofs.lemmas.Grind.{flat_map-append}
use Rattle.std.proofs.lemmas.Bool.Decides.{nat_tests}
use Rattle.omission_explainer.specs.Report.{with_commas, entry_text, is_entered, count_text}
use Rattle.omission_explainer.specs.Report.{counts_text, decision_text, entries_text, nodes_text}
use Rattle.omission_explainer.specs.Report.{row_text}
use Rattle.omission_explainer.specs.Report.{named_text, state_text, type_at, value_text}
use Rattle.omission_explainer.specs.Rows.{ClosedRound}
use Rattle.omission_explainer.specs.Short.{Tells}
use Rattle.omission_explainer.specs.declared.report.Report.{Report}
use Rattle.round_lang.specs.declared.expr.Ty.{Ty}
use Rattle.round_lang.specs.declared.value.Value.{Value}
use Rattle.round_lang.specs.declared.value.Value.TheVariants.{Num}
use Rattle.round_lang.specs.Values.{at}

-- a range with its next number
pub range_push : (a n : ℕ) → range_with_len a (suc n) ≡ range_with_len a n ++ (a + n) ∷ []
range_push a zero = ap (λ x. x ∷ []) (sym (add-zero a))
range_push a (suc n) =
    let next : a + 1 + n ≡ a + suc n = omega arith in
    ap (λ l. a ∷ l) (range_push (a + 1) n ∙ ap (λ x. range_with_len (a + 1) n ++ x ∷ []) next)

-- the same for a range from 0
range_more : (i : ℕ) → range_with_len 0 (i + 1) ≡ range_with_len 0 i ++ i ∷ []
range_more i =
    let same : 0 + i ≡ i = omega arith in
    ap (range_with_len 0) (add-one i) ∙ range_push 0 i ∙ ap (λ x. range_with_len 0 i ++ x ∷ []) same

-- what stands before the text after these
abbrev pub separator_after : List ℕ → List ℕ
separator_after [] = []
separator_after (x ∷ xs) = 44 ∷ []

-- after a text stands a comma
separator_after-push : (xs : List ℕ) (x : ℕ) → separator_after (xs ++ x ∷ []) ≡ 44 ∷ []
separator_after-push [] x = refl
separator_after-push (y ∷ xs) x = refl

-- a text more, after its separator
pub with_commas-push : (f : ℕ → List ℕ) (xs : List ℕ) (x : ℕ)
    → with_commas (map f (xs ++ x ∷ [])) ≡ with_commas (map f xs) ++ (separator_after xs ++ f x)
with_commas-push f [] x = refl
with_commas-push f (y ∷ []) x = refl
with_commas-push f (y ∷ z ∷ xs) x =
    ap (λ l. f y ++ (44 ∷ l)) (with_commas-push f (z ∷ xs) x)
    ∙ sym (append_assoc (f y) (44 ∷ with_commas (map f (z ∷ xs))) (44 ∷ f x))

-- a range with a next number that passes
filter_taken : (p : ℕ → Bool) (i : ℕ) → p i ≡ true
    → filter p (range_with_len 0 (i + 1)) ≡ filter p (range_with_len 0 i) ++ i ∷ []
filter_taken p i h =
    ap (filter p) (range_more i) ∙ filter-append p (range_with_len 0 i) (i ∷ [])
    ∙ ap (λ b. filter p (range_with_len 0 i) ++ cond b (i ∷ []) []) h

-- a range with a next number that doesn't pass
filter_passed : (p : ℕ → Bool) (i : ℕ) → p i ≡ false
    → filter p (range_with_len 0 (i + 1)) ≡ filter p (range_with_len 0 i)
filter_passed p i h =
    ap (filter p) (range_more i) ∙ filter-append p (range_with_len 0 i) (i ∷ [])
    ∙ ap (λ b. filter p (range_with_len 0 i) ++ cond b (i ∷ []) []) h ∙ append-nil _

-- what was told before and after, together
pub Tells-trans : (a b c : Option (List ℕ)) (s t u xs ys : List ℕ) → Tells a s b t xs
    → Tells b t c u ys → Tells a s c u (xs ++ ys)
Tells-trans a b c s t u xs ys first next = record {
  gone = first.gone ++ next.gone;
  wrote = Appends-trans a b c first.gone next.gone first.wrote next.wrote;
  joined =
      append_assoc first.gone next.gone u ∙ ap (λ l. first.gone ++ l) next.joined
      ∙ sym (append_assoc first.gone t ys) ∙ ap (λ l. l ++ ys) first.joined ∙ append_assoc s xs ys;
}

-- what is kept back got more
pub tells_pushed : (a b : Option (List ℕ)) (s t u bs : List ℕ) → Tells a s b t [] → u ≡ t ++ bs
    → Tells a s b u bs
tells_pushed a b s t u bs before e = record {
  gone = before.gone;
  wrote = before.wrote;
  joined =
      ap (λ l. before.gone ++ l) e ∙ sym (append_assoc before.gone t bs)
      ∙ ap (λ l. l ++ bs) (before.joined ∙ append-nil s);
}

-- nothing was told
pub tells_nothing : (a : Option (List ℕ)) (s : List ℕ) → Appends a a [] → Tells a s a s []
tells_nothing a s same = record { gone = []; wrote = same; joined = sym (append-nil s) }

-- what was kept back went out
pub tells_gone : (a b : Option (List ℕ)) (s : List ℕ) → Appends a b s → Tells a s b [] []
tells_gone a b s wrote = record { gone = s; wrote = wrote; joined = refl }

-- all went out
pub all_told : (a b c : Option (List ℕ)) (t bs : List ℕ) → Tells a [] b t bs → Appends b c t
    → Appends a c bs
all_told a b c t bs told rest =
    subst (Appends a c) told.joined (Appends-trans a b c told.gone t told.wrote rest)

-- a loop told the texts of the numbers below i that pass, with commas, and knows whether there was
-- one
pub record TellsPassing (old : Option (List ℕ)) (kept : List ℕ) (new : Option (List ℕ))
    (kept_now : List ℕ) (f : ℕ → List ℕ) (p : ℕ → Bool) (i : ℕ) (has_some : Bool) : Type 0 where
  pub told : Tells old kept new kept_now (codes "["
      ++ with_commas (map f (filter p (range_with_len 0 i))))
  pub separated : (if has_some then codes "," else [])
      ≡ separator_after (filter p (range_with_len 0 i))

-- a number that passes was told after its separator
pub passing_taken : (old mid new : Option (List ℕ)) (s t u : List ℕ) (f : ℕ → List ℕ) (p : ℕ
    → Bool) (i : ℕ) (has_some : Bool) → TellsPassing old s mid t f p i has_some → p i ≡ true
    → Tells mid t new u ((if has_some then codes "," else []) ++ f i)
    → TellsPassing old s new u f p (i + 1) true
passing_taken old mid new s t u f p i has_some before h more = record {
  told =
      let taken = filter p (range_with_len 0 i) in
      let e : (codes "[" ++ with_commas (map f taken))
      ++ ((if has_some then codes "," else []) ++ f i) ≡ codes "["
      ++ with_commas (map f (filter p (range_with_len 0 (i + 1)))) =
      append_assoc (codes "[") (with_commas (map f taken)) _
      ∙ ap (λ l. codes "[" ++ l)
      (ap (λ c. with_commas (map f taken) ++ (c ++ f i)) before.separated
      ∙ sym (with_commas-push f taken i)
      ∙ ap (λ l. with_commas (map f l)) (sym (filter_taken p i h))) in
      subst (Tells old s new u) e (Tells-trans old mid new s t u _ _ before.told more);
  separated =
      sym (ap separator_after (filter_taken p i h)
      ∙ separator_after-push (filter p (range_with_len 0 i)) i);
}

-- a number that doesn't pass changed nothing
pub passing_passed : (old mid : Option (List ℕ)) (s t : List ℕ) (f : ℕ → List ℕ) (p : ℕ
    → Bool) (i : ℕ) (has_some : Bool) → TellsPassing old s mid t f p i has_some → p i ≡ false
    → TellsPassing old s mid t f p (i + 1) has_some
passing_passed old mid s t f p i has_some before h = record {
  told = subst (λ l. Tells old s mid t (codes "[" ++ with_commas (map f l)))
      (sym (filter_passed p i h)) before.told;
  separated = before.separated ∙ ap separator_after (sym (filter_passed p i h));
}

-- all numbers below k were told, and then the closing bracket
pub passing_all : (old mid new : Option (List ℕ)) (s t u entries : List ℕ) (i k : ℕ)
    (has_some : Bool) → i ≡ k
    → TellsPassing old s mid t (entry_text entries) (is_entered entries) i has_some
    → Tells mid t new u (codes "]") → Tells old s new u (entries_text k entries)
passing_all old mid new s t u entries i k has_some e before last =
    subst (λ n. Tells old s new u (entries_text n entries)) e
    (Tells-trans old mid new s t u _ _ before.told last)

-- one text more of a row of texts
pub flat_map_below : (old mid new : Option (List ℕ)) (s t u front : List ℕ) (f : ℕ → List ℕ) (i : ℕ)
    → Tells old s mid t (front ++ flat_map f (range_with_len 0 i)) → Tells mid t new u (f i)
    → Tells old s new u (front ++ flat_map f (range_with_len 0 (i + 1)))
flat_map_below old mid new s t u front f i before more =
    let e : flat_map f (range_with_len 0 i) ++ f i ≡ flat_map f (range_with_len 0 (i + 1)) =
    ap (λ l. flat_map f (range_with_len 0 i) ++ l) (sym (append-nil (f i)))
    ∙ sym (flat_map-append f (range_with_len 0 i) (i ∷ []))
    ∙ ap (flat_map f) (sym (range_more i)) in
    subst (Tells old s new u) (append_assoc front (flat_map f (range_with_len 0 i)) (f i)
    ∙ ap (λ l. front ++ l) e) (Tells-trans old mid new s t u _ _ before more)

-- the lines of the nodes, and the next node's
counts_text-push : (node : ℕ) (counts : List (ℕ × ℕ)) (count : ℕ × ℕ)
    → counts_text node (counts ++ count ∷ []) ≡ counts_text node counts
    ++ count_text (node + length counts) count
counts_text-push node [] count =
    append-nil (count_text node count) ∙ ap (λ n. count_text n count) (sym (add-zero node))
counts_text-push node (first ∷ counts) count =
    let place : node + 1 + length counts ≡ node + suc (length counts) = omega arith in
    ap (λ l. count_text node first ++ l) (counts_text-push (node + 1) counts count
    ∙ ap (λ n. counts_text (node + 1) counts ++ count_text n count) place)
    ∙ sym (append_assoc (count_text node first) (counts_text (node + 1) counts) _)

-- one node's line more
pub counts_more : (old mid new : Option (List ℕ)) (s t u : List ℕ) (counts : List (ℕ × ℕ)) (i : ℕ)
    (d : ℕ × ℕ) → i < length counts → Tells old s mid t (counts_text 0 (take i counts))
    → Tells mid t new u (count_text i (get_or counts i d))
    → Tells old s new u (counts_text 0 (take (i + 1) counts))
counts_more old mid new s t u counts i d h before more =
    let short : 0 + length (take i counts) ≡ i = omega (arith, length-take-le i counts) in
    let e : counts_text 0 (take i counts) ++ count_text i (get_or counts i d)
    ≡ counts_text 0 (take (i + 1) counts) =
    ap (λ n. counts_text 0 (take i counts) ++ count_text n (get_or counts i d)) (sym short)
    ∙ sym (counts_text-push 0 (take i counts) (get_or counts i d))
    ∙ ap (counts_text 0) (sym (take_more counts i d h)) in
    subst (Tells old s new u) e (Tells-trans old mid new s t u _ _ before more)

-- what the test of an entry says
pub entry_there : (entries : List ℕ) (i e : ℕ) → e ≡ slice_index entries i → e ≢ 0
    → is_entered entries i ≡ true
entry_there entries i e same other = grind (arith, nat_tests)

-- an entry that is 0 is left out
pub entry_absent : (entries : List ℕ) (i e : ℕ) → e ≡ slice_index entries i → e ≡ 0
    → is_entered entries i ≡ false
entry_absent entries i e same none = grind (arith, nat_tests)

-- an entry after its separator
pub entry_told : (mid new : Option (List ℕ)) (t u : List ℕ) (entries separator : List ℕ) (i e : ℕ)
    → e ≡ slice_index entries i
    → Tells mid t new u (separator ++ (decimal i ++ codes ":" ++ decimal e))
    → Tells mid t new u (separator ++ entry_text entries i)
entry_told mid new t u entries separator i e same told =
    subst (λ n. Tells mid t new u (separator ++ (decimal i ++ codes ":" ++ decimal n))) same told

-- one item's text more
pub items_more : {X : Type 0} (old mid new : Option (List ℕ)) (s t u : List ℕ) (f : X
    → List ℕ) (xs : List X) (i : ℕ) (x : X) → i < length xs → x ≡ get_or xs i x
    → Tells old s mid t (flat_map f (take i xs)) → Tells mid t new u (f x)
    → Tells old s new u (flat_map f (take (i + 1) xs))
items_more old mid new s t u f xs i x h is before more =
    let e : flat_map f (take i xs) ++ f x ≡ flat_map f (take (i + 1) xs) =
    flat_map_more f [] (take i xs) x ∙ ap (λ y. flat_map f (take i xs ++ y ∷ [])) is
    ∙ ap (flat_map f) (sym (take_more xs i x h)) in
    subst (Tells old s new u) e (Tells-trans old mid new s t u _ _ before more)

-- a variable in the form of its type
pub variable_told : (old mid new : Option (List ℕ)) (s t u : List ℕ) (report : Report) (v : Value)
    (i : ℕ) (name : List ℕ) (ty : Ty) → name ≡ get_or report.names i []
    → ty ≡ type_at report.types i → Tells old s mid t (codes " " ++ name ++ codes "=")
    → Tells mid t new u (value_text report.values ty v) → Tells old s new u (named_text report i v)
variable_told old mid new s t u report v i name ty named typed label value =
    let e : (codes " " ++ name ++ codes "=")
    ++ value_text report.values ty v ≡ named_text report i v =
    ap (λ n. codes " " ++ n ++ codes "=" ++ value_text report.values ty v) named
    ∙ ap (λ k. codes " " ++ get_or report.names i [] ++ codes "=" ++ value_text report.values k v)
    typed in
    subst (Tells old s new u) e (Tells-trans old mid new s t u _ _ label value)

-- the first value that is left is the one at the place
pub first_left : (state left : List Value) (i : ℕ) → left ≡ drop i state → at left 0 ≡ at state i
first_left state left i e =
    ap (λ vs. at vs 0) e ∙ get_or-drop i state 0 (Num 0) ∙ ap (at state) (add-zero i)

-- the first entry that is left is the one of the value
pub entry_left : (entries left : List ℕ) (i : ℕ) → left ≡ drop i entries
    → slice_index left 0 ≡ slice_index entries i
entry_left entries left i e =
    ap (λ es. slice_index es 0) e ∙ get_or-drop i entries 0 0
    ∙ ap (slice_index entries) (add-zero i)

-- a closed round's line, piece by piece
pub row_told : (a b c d e f g : Option (List ℕ)) (s t u v w x y : List ℕ) (report : Report)
    (r : ClosedRound)
    → Tells a s b t (codes "round " ++ decimal r.round ++ codes " node " ++ decimal r.node)
    → Tells b t c u (codes " heard " ++ nodes_text r.heard)
    → Tells c u d v (codes " silent " ++ nodes_text r.silent)
    → Tells d v e w (codes " omitted " ++ nodes_text r.omitted)
    → Tells e w f x (state_text report r.state)
    → Tells f x g y (codes " decision " ++ decision_text r.decision ++ codes "\n")
    → Tells a s g y (row_text report r)
row_told a b c d e f g s t u v w x y report r start heard silent omitted state decision =
    Tells-trans a f g s x y _ _
    (Tells-trans a e f s w x _ _
    (Tells-trans a d e s v w _ _
    (Tells-trans a c d s u v _ _ (Tells-trans a b c s t u _ _ start heard) silent) omitted)
    state) decision
