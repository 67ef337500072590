-- The members of a set, taken one after the other, and their texts.
use Rattle.std.proofs.Common.{◌≡◌, ℕ, zero, suc, ◌+◌, ◌*◌, ◌<◌, ◌≤◌, Bool, true, false, cond, List}
use Rattle.std.proofs.Common.{[], ◌∷◌, ◌++◌, length, take, drop, get_or, refl, sym, ap, ◌∙◌}
use Rattle.std.proofs.Common.{append_assoc, append-nil, arith}
use Rattle.std.specs.Prelude.{◌&&◌, not, nat_eq}
use Rattle.std.specs.Fmt.{decimal}
use Rattle.std.specs.List.{range_with_len, filter}
use Rattle.std.proofs.lemmas.Bool.Decides.{nat_tests}
use Rattle.std.proofs.lemmas.List.{take_more, drop_more}
use Rattle.round_lang.specs.Sets.{is_in, first_or, least, members, minus, only, size}
use Rattle.omission_explainer.specs.Report.{numbers_text}
use Rattle.omission_explainer.specs.Short.{ListsMembers}
use Rattle.round_lang.proofs.SetLaws.{is_in-wide}
use Rattle.omission_explainer.proofs.Texts.{separator_after, with_commas-push}

-- tests that agree on a range keep the same of it
filter_within : (p q : ℕ → Bool) (a n : ℕ) → ((i : ℕ) → a ≤ i → i < a + n → p i ≡ q i)
    → filter p (range_with_len a n) ≡ filter q (range_with_len a n)
filter_within p q a zero same = refl
filter_within p q a (suc n) same =
    let first : p a ≡ q a = same a (omega arith) (omega arith) in
    ap (λ b. cond b (a ∷ filter p (range_with_len (a + 1) n)) (filter p (range_with_len (a + 1) n)))
    first
    ∙ ap (λ l. cond (q a) (a ∷ l) l)
    (filter_within p q (a + 1) n
    (λ i low high. same i (omega (arith, low)) (omega (arith, high))))

-- a number below a range isn't in it
other_number : (i f : ℕ) (b : Bool) → f < i → (b && not (nat_eq i f)) ≡ b
other_number i f b h =
    let ne : nat_eq i f ≡ false = grind (arith, nat_tests) in
    rw ne (both b)
  where
    both : (b : Bool) → (b && true) ≡ b
    both true = refl
    both false = refl

-- what passes in a range, but for the first that does
filter_but_first : (p : ℕ → Bool) (k a n f : ℕ) → f ≡ first_or k (filter p (range_with_len a n))
    → filter (λ i. p i && not (nat_eq i f)) (range_with_len a n)
    ≡ drop 1 (filter p (range_with_len a n))
filter_but_first p k a zero f e = refl
filter_but_first p k a (suc n) f e = go (p a) refl (filter_but_first p k (a + 1) n f)
  where
    q : ℕ → Bool
    q = λ i. p i && not (nat_eq i f)

    rest : List ℕ
    rest = filter p (range_with_len (a + 1) n)

    go : (b : Bool) → b ≡ p a
        → (f ≡ first_or k rest → filter q (range_with_len (a + 1) n) ≡ drop 1 rest)
        → cond (p a && not (nat_eq a f)) (a ∷ filter q (range_with_len (a + 1) n))
        (filter q (range_with_len (a + 1) n)) ≡ drop 1 (cond (p a) (a ∷ rest) rest)
    go true h later =
        let first : f ≡ a = e ∙ ap (λ b. first_or k (cond b (a ∷ rest) rest)) (sym h) in
        let is : nat_eq a f ≡ true = grind (arith, nat_tests) in
        let same : filter q (range_with_len (a + 1) n) ≡ rest =
        filter_within q p (a + 1) n
        (λ i low high. other_number i f (p i) (omega (arith, first, low))) in
        rw (← h, is) same
    go false h later = let same =
        later (e ∙ ap (λ b. first_or k (cond b (a ∷ rest) rest)) (sym h)) in rw (← h) same

-- the first of those that pass, or one past the range
first_within : (p : ℕ → Bool) (k a n : ℕ) → a + n ≤ k
    → first_or k (filter p (range_with_len a n)) ≤ k
first_within p k a zero h = omega arith
first_within p k a (suc n) h = go (p a) (first_within p k (a + 1) n (omega (arith, h)))
  where
    go : (b : Bool) → first_or k (filter p (range_with_len (a + 1) n)) ≤ k
        → first_or k (cond b (a ∷ filter p (range_with_len (a + 1) n))
        (filter p (range_with_len (a + 1) n))) ≤ k
    go true later = omega (arith, h)
    go false later = later

filter_short : (p : ℕ → Bool) (a n : ℕ) → length (filter p (range_with_len a n)) ≤ n
filter_short p a zero = omega arith
filter_short p a (suc n) = go (p a) (filter_short p (a + 1) n)
  where
    go : (b : Bool) → length (filter p (range_with_len (a + 1) n)) ≤ n
        → length (cond b (a ∷ filter p (range_with_len (a + 1) n))
        (filter p (range_with_len (a + 1) n))) ≤ suc n
    go true later = omega (arith, later)
    go false later = omega (arith, later)

-- a set without its least member
members_but_first : (s m : ℕ) → m ≡ least 64 s → members (minus s (only 64 m)) ≡ drop 1 (members s)
unfolding members
members_but_first s m e =
    filter_within (is_in (minus s (only 64 m))) (λ i. is_in s i && not (nat_eq i m)) 0 64
    (λ i low high. is_in-wide (λ v. is_in s v && not (is_in (only 64 m) v)) i
    (omega (arith, high))
    ∙ ap (λ b. is_in s i && not b) (is_in-wide (λ v. nat_eq v m) i (omega (arith, high))))
    ∙ filter_but_first (is_in s) 64 0 64 m e

-- the empty set has none
no_members : members 0 ≡ []
unfolding members is_in
no_members = refl

-- so its text is empty
pub spells_nothing : (text : List ℕ) (s : ℕ) → text ≡ [] → s ≡ 0 → ListsMembers text s
spells_nothing text s none empty = record {
  is = none ∙ sym (ap numbers_text (ap members empty ∙ no_members));
  short = omega (arith, ap length none);
}

-- what was spelt behind nothing
pub spells_anew : (before text : List ℕ) (s : ℕ) → before ≡ []
    → text ≡ before ++ numbers_text (members s) → length text ≤ length before + 192 → ListsMembers text s
spells_anew before text s none spelt short = record {
  is = spelt ∙ ap (λ l. l ++ numbers_text (members s)) none;
  short = omega (arith, short, ap length none);
}

pub least_small : (s : ℕ) → least 64 s ≤ 64
unfolding members
least_small s = first_within (is_in s) 64 0 64 (omega arith)

pub size_small : (s : ℕ) → size s ≤ 64
unfolding members
size_small s = filter_short (is_in s) 0 64

-- what a loop over members has left at place i, and the texts that it made of the others, behind
-- what stood there first
pub record Writing (first ms : List ℕ) (i rest : ℕ) (text : List ℕ) : Type 0 where
  pub written : text ≡ first ++ numbers_text (take i ms)
  pub left : members rest ≡ drop i ms
  pub short : length text ≤ length first + 3 * i

separator_some : (ms : List ℕ) (i : ℕ) → 0 < i → i < length ms
    → separator_after (take i ms) ≡ 44 ∷ []
separator_some [] i some below = absurd (omega (arith, below))
separator_some (m ∷ ms) zero some below = absurd (omega (arith, some))
separator_some (m ∷ ms) (suc i) some below = refl

separator_none : (ms : List ℕ) (i : ℕ) → i ≡ 0 → separator_after (take i ms) ≡ []
separator_none ms i e = ap (λ k. separator_after (take k ms)) e

module _ (first ms : List ℕ) (i rest : ℕ) (text : List ℕ) (before : Writing first ms i rest text)
    (below : i < length ms) where
  -- a comma, but for the first
  pub with_comma : (next : List ℕ) → 0 < i → next ≡ text ++ 44 ∷ []
      → next ≡ text ++ separator_after (take i ms)
  with_comma next some e = e ∙ ap (λ s. text ++ s) (sym (separator_some ms i some below))

  pub with_none : (next : List ℕ) → i ≡ 0 → next ≡ text → next ≡ text ++ separator_after (take i ms)
  with_none next none e =
      e ∙ sym (append-nil text) ∙ ap (λ s. text ++ s) (sym (separator_none ms i none))

  -- the member that is next, and the members without it
  pub one_more : (m after : ℕ) (next new : List ℕ) → m ≡ least 64 rest
      → after ≡ minus rest (only 64 m) → next ≡ text ++ separator_after (take i ms)
      → new ≡ next ++ decimal m → length new ≤ length first + 3 * (i + 1)
      → Writing first ms (i + 1) after new
  one_more m after next new m-is after-is next-is new-is short =
      let now = drop_more ms i 64 below in
      let is : m ≡ get_or ms i 64 = m-is ∙ ap (first_or 64) (before.left ∙ now) in
      record {
        written =
            new-is ∙ ap (λ t. t ++ decimal m) next-is
            ∙ append_assoc text (separator_after (take i ms)) (decimal m)
            ∙ ap (λ t. t ++ (separator_after (take i ms) ++ decimal m)) before.written
            ∙ append_assoc first (numbers_text (take i ms)) _
            ∙ ap (λ l. first ++ l) (sym (with_commas-push decimal (take i ms) m)
            ∙ ap (λ x. numbers_text (take i ms ++ x ∷ [])) is
            ∙ ap numbers_text (sym (take_more ms i 64 below)));
        left = ap members after-is ∙ members_but_first rest m m-is
            ∙ ap (drop 1) (before.left ∙ now);
        short = short;
      }
