-- Items one after another.
use Rattle.std.proofs.Common.{◌≡◌, ℕ, zero, suc, ◌+◌, ◌<◌, ◌≤◌, Bool, true, false, cond, List, []}
use Rattle.std.proofs.Common.{◌∷◌, ◌++◌, length, Option, Some, None, refl, sym, ap, ◌∙◌, subst}
use Rattle.std.proofs.Common.{arith, append_assoc}
use Rattle.std.proofs.lemmas.List.{append-nil}
use Rattle.std.proofs.lemmas.Option.{same_Some}
use Rattle.round_lang.specs.Lexemes.{Lexeme}
use Rattle.round_lang.specs.Source.{Many}
use Rattle.round_lang.specs.Source as g
use Rattle.round_lang.specs.Reading.{◌>>=◌, Part}
use Rattle.round_lang.specs.Parts.{many, items}
use Rattle.round_lang.proofs.Steps.{some_then}

-- an item more, or items more, before those that were read
abbrev pub ahead : {A : Type 0} → A → Option (List A × List Lexeme) → Option (List A × List Lexeme)
ahead a o = o >>= λ r. Some (a ∷ r.0, r.1)

abbrev pub onto : {A : Type 0} → List A → Option (List A × List Lexeme)
    → Option (List A × List Lexeme)
onto found o = o >>= λ r. Some (found ++ r.0, r.1)

abbrev some_pair : {A : Type 0} → List A → List Lexeme → Option (List A × List Lexeme)
some_pair found rest = Some (found, rest)

-- what items weigh together
abbrev pub weight_of : {A : Type 0} → (A → ℕ) → List A → ℕ
weight_of weight [] = 0
weight_of weight (a ∷ others) = weight a + weight_of weight others

-- Reading an item is the rule: it's told how much the items before it weigh, and all of them weigh
-- at most so much. What follows an item meets Follows.
pub record ItemLaws {A : Type 0} (begins : List Lexeme → Bool) (item : ℕ → Part A) (weight : A → ℕ)
    (most : ℕ) (Item : A → List Lexeme → List Lexeme → Type 0)
    (Follows : List Lexeme → Type 0) : Type 0 where
  pub good : (count : ℕ) (ws : List Lexeme) (a : A) (rest : List Lexeme)
      → item count ws ≡ Some (a, rest) → Item a ws rest × (count ≤ most → weight a + count ≤ most)
  pub found : (count : ℕ) (a : A) (ws rest : List Lexeme) → Item a ws rest → weight a + count ≤ most
      → Follows rest → item count ws ≡ Some (a, rest)
  pub shorter : (a : A) (ws rest : List Lexeme) → Item a ws rest → length rest < length ws
  pub begun : (a : A) (ws rest : List Lexeme) → Item a ws rest → begins ws ≡ true
  pub follows : (ws : List Lexeme) → begins ws ≡ true → Follows ws

module _ {A : Type 0} (begins : List Lexeme → Bool) (item : ℕ → Part A) (weight : A → ℕ) where
  many_end : (n count : ℕ) (ws : List Lexeme) → begins ws ≡ false
      → many begins item weight (suc n) count ws ≡ Some ([], ws)
  unfolding many
  many_end n count ws e = rw e refl

  many_step : (n count : ℕ) (ws : List Lexeme) (a : A) (xs : List Lexeme) → begins ws ≡ true
      → item count ws ≡ Some (a, xs)
      → many begins item weight (suc n) count ws
      ≡ ahead a (many begins item weight n (weight a + count) xs)
  unfolding many
  many_step n count ws a xs e is = rw (e, is) refl

  many_none : (n count : ℕ) (ws : List Lexeme) → begins ws ≡ true → item count ws ≡ None
      → many begins item weight (suc n) count ws ≡ None
  unfolding many
  many_none n count ws e is = rw (e, is) refl

  module _ (most : ℕ) (Item : A → List Lexeme → List Lexeme → Type 0)
      (Follows : List Lexeme → Type 0) (laws : ItemLaws begins item weight most Item Follows) where
    -- what was read
    pub record AllGood (count : ℕ) (ws : List Lexeme) (found : List A)
        (rest : List Lexeme) : Type 0 where
      pub reads : Many Item found ws rest
      pub few : count ≤ most → weight_of weight found + count ≤ most
      pub ended : begins rest ≡ false

    many_by : (n count : ℕ) (ws : List Lexeme) (found : List A) (rest : List Lexeme)
        → ((count : ℕ) (ws : List Lexeme) (found : List A) (rest : List Lexeme)
        → many begins item weight n count ws ≡ Some (found, rest) → AllGood count ws found rest)
        → (b : Bool) → begins ws ≡ b
        → cond b (item count ws
        >>= λ a. ahead a.0 (many begins item weight n (weight a.0 + count) a.1)) (Some ([], ws))
        ≡ Some (found, rest) → AllGood count ws found rest
    many_by n count ws found rest ih false e is =
        subst (λ (v : List A × List Lexeme). AllGood count ws v.0 v.1)
        (same_Some ([], ws) (found, rest) is)
        (record { reads = g.none; few = λ le. omega (arith, le); ended = e })
    many_by n count ws found rest ih true e is =
        let a = some_then (item count ws)
        (λ a. ahead a.0 (many begins item weight n (weight a.0 + count) a.1)) (found, rest)
        is in
        let r = some_then (many begins item weight n (weight a.0.0 + count) a.0.1)
        (λ r. Some (a.0.0 ∷ r.0, r.1)) (found, rest) a.2 in
        let one = laws.good count ws a.0.0 a.0.1 a.1 in
        let others = ih (weight a.0.0 + count) a.0.1 r.0.0 r.0.1 r.1 in
        let few = others.few in
        subst (λ (v : List A × List Lexeme). AllGood count ws v.0 v.1)
        (same_Some (a.0.0 ∷ r.0.0, r.0.1) (found, rest) r.2)
        (record {
          reads = g.more one.0 others.reads;
          few =
              λ le. omega (arith, few (one.1 le));
          ended = others.ended;
        })

    pub many_good : (n count : ℕ) (ws : List Lexeme) (found : List A) (rest : List Lexeme)
        → many begins item weight n count ws ≡ Some (found, rest) → AllGood count ws found rest
    unfolding many
    many_good zero count ws found rest is = absurd cc
    many_good (suc n) count ws found rest is =
        many_by n count ws found rest (λ count ws found rest e. many_good n count ws found rest e)
        (begins ws) refl is

    -- items begin as an item or are none
    starts : {found : List A} {ws rest : List Lexeme} → Many Item found ws rest → Follows rest
        → Follows ws
    starts g.none f = f
    starts (g.more {a = a} {ws = ws} {xs = xs} r others) f = laws.follows ws (laws.begun a ws xs r)

    pub many_found : {found : List A} {ws rest : List Lexeme} → Many Item found ws rest
        → (n count : ℕ) → length ws < n → weight_of weight found + count ≤ most → Follows rest
        → begins rest ≡ false → many begins item weight n count ws ≡ Some (found, rest)
    many_found g.none zero count lt few f e = absurd (omega arith)
    many_found (g.none {ws = ws}) (suc n) count lt few f e = many_end n count ws e
    many_found (g.more r others) zero count lt few f e = absurd (omega arith)
    many_found (g.more {a = a} {others = as'} {ws = ws} {xs = xs} {rest = rest} r others) (suc n)
        count lt few f e =
        let one = laws.found count a ws xs r (omega arith) (starts others f) in
        let later = many_found others n (weight a + count) (omega (arith, laws.shorter a ws xs r))
        (omega arith) f e in
        many_step n count ws a xs (laws.begun a ws xs r) one ∙ rw later refl

  -- ---- the loop that reads items

  -- having read so many items, of so much weight, the rest is still to be read
  pub record GoesOn (first : ℕ) (ws : List Lexeme) (found : List A) (count : ℕ)
      (rest : List Lexeme) : Type 0 where
    pub fuel : ℕ
    pub enough : length rest < fuel
    pub is : items begins item weight first ws
        ≡ onto found (many begins item weight fuel count rest)

  itself : (o : Option (List A × List Lexeme)) → o ≡ onto [] o
  itself None = refl
  itself (Some x) = refl

  pub goes_first : (first : ℕ) (ws : List Lexeme) → GoesOn first ws [] first ws
  goes_first first ws =
      record {
        fuel = suc (length ws);
        enough = omega arith;
        is =
            itself (many begins item weight (suc (length ws)) first ws);
      }

  module _ (first : ℕ) (ws : List Lexeme) (found : List A) (count : ℕ) (rest : List Lexeme)
      (on : GoesOn first ws found count rest) where
    ends_here : (n : ℕ) → length rest < n → begins rest ≡ false
        → onto found (many begins item weight n count rest) ≡ Some (found, rest)
    ends_here zero lt e = absurd (omega arith)
    ends_here (suc n) lt e = let is =
        many_end n count rest e in rw is (ap (λ (v : List A). some_pair v rest) (append-nil found))

    pub goes_end : begins rest ≡ false → items begins item weight first ws ≡ Some (found, rest)
    goes_end e = on.is ∙ ends_here on.fuel on.enough e

    fails_here : (n : ℕ) → length rest < n → begins rest ≡ true → item count rest ≡ None
        → onto found (many begins item weight n count rest) ≡ None
    fails_here zero lt e gone = absurd (omega arith)
    fails_here (suc n) lt e gone = let is = many_none n count rest e gone in rw is refl

    pub goes_none : begins rest ≡ true → item count rest ≡ None → items begins item weight first ws
        ≡ None
    goes_none e gone = on.is ∙ fails_here on.fuel on.enough e gone

    regroup : (a : A) (o : Option (List A × List Lexeme))
        → onto found (ahead a o) ≡ onto (found ++ a ∷ []) o
    regroup a None = refl
    regroup a (Some r) =
        ap (λ (v : List A). some_pair v r.1) (sym (append_assoc found (a ∷ []) r.0))

    goes_by : (n : ℕ) (a : A) (xs : List Lexeme) → items begins item weight first ws
        ≡ onto found (many begins item weight n count rest) → length rest < n → begins rest ≡ true
        → item count rest ≡ Some (a, xs) → length xs < length rest
        → GoesOn first ws (found ++ a ∷ []) (weight a + count) xs
    goes_by zero a xs is lt e one shorter = absurd (omega arith)
    goes_by (suc n) a xs is lt e one shorter = record {
      fuel = n;
      enough = omega arith;
      is = is ∙ ap (onto found) (many_step n count rest a xs e one)
          ∙ regroup a (many begins item weight n (weight a + count) xs);
    }

    pub goes_next : (a : A) (xs : List Lexeme) → begins rest ≡ true → item count rest ≡ Some (a, xs)
        → length xs < length rest → GoesOn first ws (found ++ a ∷ []) (weight a + count) xs
    goes_next a xs e one shorter = goes_by on.fuel a xs on.is on.enough e one shorter
