-- The blocks that stand for a line.
use Rattle.std.proofs.Common.{◌≡◌, ℕ, ◌+◌, ◌<◌, ◌≤◌, Bool, true, false, eqb, leb, ltb, ◌&&◌, ◌||◌}
use Rattle.std.proofs.Common.{List, [], ◌∷◌, length, take, get_or, sym, ap, ◌∙◌, arith, max, min}
use Rattle.std.proofs.Common.{◌⊎◌, inl, inr}
use Rattle.std.specs.Prelude.{not}
use Rattle.std.specs.List.{filter, range_with_len}
use Rattle.std.proofs.lemmas.Bool.Decides.{nat_tests}
use Rattle.std.proofs.lemmas.List.{take_all}
use Rattle.std.proofs.lemmas.List.Folds.{list_any_more}
use Rattle.round_meaning.specs.declared.omissions.Omission.{Omission}
use Rattle.round_meaning.specs.declared.setup.Setup.{Setup}
use Rattle.omission_texts.specs.declared.line.OmissionLine.{OmissionLine}
use Rattle.omission_texts.specs.declared.line.OmissionLine.TheVariants.{Omit, Cut, Crash}
use Rattle.omission_texts.specs.declared.line.RoundRange.{RoundRange}
use Rattle.omission_texts.specs.Meaning.{IsTableOf, has_node, has_round, is_message, line_omits}
use Rattle.omission_texts.specs.Meaning.{omits}
use Rattle.omission_texts.specs.Tables.{Adds, block, of_line, of_run}
use Rattle.omission_texts.proofs.Adding.{adds_more, adds_none, adds_same, node-filter}

-- a round is one of the run
abbrev is_round : Setup → ℕ → Bool
is_round s r = leb 1 r && leb r s.rounds

max_round : (f l n r : ℕ) → (leb (max f 1) r && leb r (min l n)) ≡
    ((leb f r && leb r l) && (leb 1 r && leb r n))
max_round f l n r = grind (arith, nat_tests)

round-of_run : (s : Setup) (rs : RoundRange) (r : ℕ)
    → has_round (of_run s rs) r ≡ (has_round rs r && is_round s r)
round-of_run s rs r = max_round rs.first rs.last s.rounds r

below_from : (k n i : ℕ) → k < n → eqb k i ≡ true → ltb i n ≡ true
below_from k n i lt e = grind (arith, nat_tests)

not_below : (k n i : ℕ) → n ≤ k → eqb k i ≡ true → ltb i n ≡ false
not_below k n i le e = grind (arith, nat_tests)

-- one message in some rounds
omit_bool : (x y h m a b : Bool) → (x ≡ true → a ≡ true) → (y ≡ true → b ≡ true)
    → ((a && (b && m)) && (x && (h && y))) ≡ ((x || false) && ((h && m) && (y || false)))
omit_bool x y h m a b p q = grind (arith, nat_tests)

no_receiver : (x y h m a b : Bool) → (x ≡ true → a ≡ false)
    → ((a && (b && m)) && (x && (h && y))) ≡ false
no_receiver x y h m a b p = grind (arith, nat_tests)

no_sender : (x y h m a b : Bool) → (y ≡ true → b ≡ false)
    → ((a && (b && m)) && (x && (h && y))) ≡ false
no_sender x y h m a b p = grind (arith, nat_tests)

module _ (s : Setup) (receiver : ℕ) (rs : RoundRange) (sender : ℕ) where
  pub omit_some : (t u : List Omission) → receiver < s.nodes → sender < s.nodes
      → Adds (block (receiver ∷ []) (of_run s rs) (sender ∷ [])) t u
      → Adds (of_line s (Omit receiver rs sender)) t u
  omit_some t u a b x =
      adds_same (block (receiver ∷ []) (of_run s rs) (sender ∷ []))
      (of_line s (Omit receiver rs sender)) t u x (λ i r j.
      omit_bool (eqb receiver i) (eqb sender j) (has_round rs r) (is_round s r) (ltb i s.nodes)
      (ltb j s.nodes) (below_from receiver s.nodes i a) (below_from sender s.nodes j b)
      ∙ ap (λ h. has_node (receiver ∷ []) i && (h && has_node (sender ∷ []) j))
      (sym (round-of_run s rs r)))

  pub omit_none : (t : List Omission) → (s.nodes ≤ receiver) ⊎ (s.nodes ≤ sender)
      → Adds (of_line s (Omit receiver rs sender)) t t
  omit_none t (inl le) = adds_none (of_line s (Omit receiver rs sender)) t
      (λ i r j. no_receiver (eqb receiver i) (eqb sender j) (has_round rs r) (is_round s r)
      (ltb i s.nodes) (ltb j s.nodes) (not_below receiver s.nodes i le))
  omit_none t (inr le) = adds_none (of_line s (Omit receiver rs sender)) t
      (λ i r j. no_sender (eqb receiver i) (eqb sender j) (has_round rs r) (is_round s r)
      (ltb i s.nodes) (ltb j s.nodes) (not_below sender s.nodes j le))

-- the nodes of a list and the others
abbrev pub inner : Setup → List ℕ → List ℕ
inner s list = filter (has_node list) (range_with_len 0 s.nodes)

abbrev pub outer : Setup → List ℕ → List ℕ
outer s list = filter (λ i. not (has_node list i)) (range_with_len 0 s.nodes)

cut_bool : (a b h m x y : Bool) → ((a && (b && m)) && (h && ((x && not y) || (not x && y)))) ≡
    (((a && not x) && ((h && m) && (b && y))) || ((a && x) && ((h && m) && (b && not y))))
cut_bool a b h m x y = grind (arith, nat_tests)

block_of : (s : Setup) (p q : ℕ → Bool) (rs : RoundRange) (i r j : ℕ)
    → block (filter p (range_with_len 0 s.nodes)) (of_run s rs)
    (filter q (range_with_len 0 s.nodes)) i r j ≡
    ((ltb i s.nodes && p i) && ((has_round rs r && is_round s r) && (ltb j s.nodes && q j)))
block_of s p q rs i r j =
    ap (λ x. x && (has_round (of_run s rs) r && has_node (filter q (range_with_len 0 s.nodes)) j))
    (node-filter p s.nodes i)
    ∙ ap (λ x. (ltb i s.nodes && p i) && (x && has_node (filter q (range_with_len 0 s.nodes)) j))
    (round-of_run s rs r)
    ∙ ap (λ x. (ltb i s.nodes && p i) && ((has_round rs r && is_round s r) && x))
    (node-filter q s.nodes j)

pub cut_apart : (s : Setup) (list : List ℕ) (rs : RoundRange) (t u v : List Omission)
    → Adds (block (inner s list) (of_run s rs) (outer s list)) t u
    → Adds (block (outer s list) (of_run s rs) (inner s list)) u v
    → Adds (of_line s (Cut list rs)) t v
cut_apart s list rs t u v x y =
    adds_more (block (inner s list) (of_run s rs) (outer s list))
    (block (outer s list) (of_run s rs) (inner s list)) (of_line s (Cut list rs)) t u v x y
    (λ i r j.
    cut_bool (ltb i s.nodes) (ltb j s.nodes) (has_round rs r) (is_round s r) (has_node list i)
    (has_node list j)
    ∙ ap (λ z. z || ((ltb i s.nodes && has_node list i) &&
    ((has_round rs r && is_round s r) && (ltb j s.nodes && not (has_node list j)))))
    (sym (block_of s (λ k. not (has_node list k)) (has_node list) rs i r j))
    ∙ ap (λ z. block (outer s list) (of_run s rs) (inner s list) i r j || z)
    (sym (block_of s (has_node list) (λ k. not (has_node list k)) rs i r j)))

-- a crash
crash_bool : (a b m n x y e l : Bool) → (y ≡ true → b ≡ true)
    → ((a && (b && (m && n))) && (y && ((e && not x) || l))) ≡
    (((a && x) && (((l && n) && (m && n)) && (y || false))) ||
    ((a && not x) && ((((e || l) && n) && (m && n)) && (y || false))))
crash_bool a b m n x y e l h = grind (arith, nat_tests)

no_crasher : (a b m y d : Bool) → (y ≡ true → b ≡ false) → ((a && (b && m)) && (y && d)) ≡ false
no_crasher a b m y d p = grind (arith, nat_tests)

no_later : (a b m n y e l x : Bool) → (e ≡ true → n ≡ false) → (l ≡ true → n ≡ false)
    → ((a && (b && (m && n))) && (y && ((e && not x) || l))) ≡ false
no_later a b m n y e l x p q = grind (arith, nat_tests)

from_round : (k r : ℕ) → leb k r ≡ (eqb k r || ltb k r)
from_round k r = grind (arith, nat_tests)

past_round : (k r : ℕ) → leb (k + 1) r ≡ ltb k r
past_round k r = grind (arith, nat_tests)

late_equal : (k n r : ℕ) → n < k → eqb k r ≡ true → leb r n ≡ false
late_equal k n r lt e = grind (arith, nat_tests)

late_past : (k n r : ℕ) → n < k → ltb k r ≡ true → leb r n ≡ false
late_past k n r lt e = grind (arith, nat_tests)

-- the rounds from one on
abbrev pub rounds_from : Setup → ℕ → RoundRange
rounds_from s first = record { first = first; last = s.rounds }

module _ (s : Setup) (node round : ℕ) (reached : List ℕ) where
  block_to : (p : ℕ → Bool) (rs : RoundRange) (i r j : ℕ)
      → block (filter p (range_with_len 0 s.nodes)) (of_run s rs) (node ∷ []) i r j ≡
      ((ltb i s.nodes && p i) && ((has_round rs r && is_round s r) && (eqb node j || false)))
  block_to p rs i r j =
      ap (λ x. x && (has_round (of_run s rs) r && (eqb node j || false))) (node-filter p s.nodes i)
      ∙ ap (λ x. (ltb i s.nodes && p i) && (x && (eqb node j || false))) (round-of_run s rs r)

  missed_is : (i r j : ℕ) → block (outer s reached) (of_run s (rounds_from s round)) (node ∷ []) i r
      j ≡ ((ltb i s.nodes && not (has_node reached i)) &&
      ((((eqb round r || ltb round r) && leb r s.rounds) && is_round s r) && (eqb node j || false)))
  missed_is i r j =
      block_to (λ k. not (has_node reached k)) (rounds_from s round) i r j
      ∙ ap (λ x. (ltb i s.nodes && not (has_node reached i)) &&
      (((x && leb r s.rounds) && is_round s r) && (eqb node j || false))) (from_round round r)

  reached_is : (i r j : ℕ) → block (inner s reached) (of_run s (rounds_from s (round + 1)))
      (node ∷ []) i r j ≡ ((ltb i s.nodes && has_node reached i) &&
      (((ltb round r && leb r s.rounds) && is_round s r) && (eqb node j || false)))
  reached_is i r j =
      block_to (has_node reached) (rounds_from s (round + 1)) i r j
      ∙ ap (λ x. (ltb i s.nodes && has_node reached i) &&
      (((x && leb r s.rounds) && is_round s r) && (eqb node j || false))) (past_round round r)

  pub crash_some : (t u v : List Omission) → node < s.nodes
      → Adds (block (outer s reached) (of_run s (rounds_from s round)) (node ∷ [])) t u
      → Adds (block (inner s reached) (of_run s (rounds_from s (round + 1))) (node ∷ [])) u v
      → Adds (of_line s (Crash node round reached)) t v
  crash_some t u v lt x y =
      adds_more (block (outer s reached) (of_run s (rounds_from s round)) (node ∷ []))
      (block (inner s reached) (of_run s (rounds_from s (round + 1))) (node ∷ []))
      (of_line s (Crash node round reached)) t u v x y (λ i r j.
      crash_bool (ltb i s.nodes) (ltb j s.nodes) (leb 1 r) (leb r s.rounds) (has_node reached i)
      (eqb node j) (eqb round r) (ltb round r) (below_from node s.nodes j lt)
      ∙ ap (λ z. z || ((ltb i s.nodes && not (has_node reached i)) &&
      ((((eqb round r || ltb round r) && leb r s.rounds) && is_round s r) &&
      (eqb node j || false)))) (sym (reached_is i r j))
      ∙ ap (λ z. block (inner s reached) (of_run s (rounds_from s (round + 1))) (node ∷ []) i r j ||
      z) (sym (missed_is i r j)))

  pub crash_none : (t : List Omission) → (s.nodes ≤ node) ⊎ (s.rounds < round)
      → Adds (of_line s (Crash node round reached)) t t
  crash_none t (inl le) = adds_none (of_line s (Crash node round reached)) t
      (λ i r j. no_crasher (ltb i s.nodes) (ltb j s.nodes) (is_round s r) (eqb node j)
      ((eqb round r && not (has_node reached i)) || ltb round r) (not_below node s.nodes j le))
  crash_none t (inr lt) = adds_none (of_line s (Crash node round reached)) t
      (λ i r j. no_later (ltb i s.nodes) (ltb j s.nodes) (leb 1 r) (leb r s.rounds) (eqb node j)
      (eqb round r) (ltb round r) (has_node reached i) (late_equal round s.rounds r lt)
      (late_past round s.rounds r lt))

-- lines, one after another
line_more : (m a b : Bool) → (m && (a || b)) ≡ ((m && b) || (m && a))
line_more m a b = grind (arith, nat_tests)

module _ (s : Setup) (ls : List OmissionLine) where
  abbrev pub of_first : ℕ → ℕ → ℕ → ℕ → Bool
  of_first k i r j = is_message s i r j && omits (take k ls) i r j

  pub lines_none : (t : List Omission) → Adds (of_first 0) t t
  lines_none t = adds_none (of_first 0) t (λ i r j. no_line (is_message s i r j))
    where
      no_line : (b : Bool) → (b && false) ≡ false
      no_line b = grind (arith, nat_tests)

  pub lines_more : (k : ℕ) (d : OmissionLine) (t u v : List Omission) → k < length ls
      → Adds (of_first k) t u → Adds (of_line s (get_or ls k d)) u v → Adds (of_first (k + 1)) t v
  lines_more k d t u v lt x y =
      adds_more (of_first k) (of_line s (get_or ls k d)) (of_first (k + 1)) t u v x y
      (λ i r j. ap (λ b. is_message s i r j && b)
      (list_any_more (λ l. line_omits l i r j) ls k d lt)
      ∙ line_more (is_message s i r j) (omits (take k ls) i r j)
      (line_omits (get_or ls k d) i r j))

  or_false : (b : Bool) → (b || false) ≡ b
  or_false b = grind (arith, nat_tests)

  pub lines_all : (k : ℕ) (t : List Omission) → length ls ≤ k → Adds (of_first k) [] t
      → IsTableOf s ls t
  lines_all k t le x i r j =
      x.added i r j ∙ or_false (of_first k i r j)
      ∙ ap (λ xs. is_message s i r j && omits xs i r j) (take_all k ls le)
