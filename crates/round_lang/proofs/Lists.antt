-- Items behind a mark, and lists of items with commas between them.
use Rattle.std.proofs.Common.{◌≡◌, ℕ, suc, ◌+◌, ◌<◌, ◌≤◌, Bool, true, false, cond, List, [], ◌∷◌}
use Rattle.std.proofs.Common.{length, Option, Some, None, refl, sym, ap, ◌∙◌, subst, arith}
use Rattle.std.proofs.lemmas.Option.{same_Some}
use Rattle.round_lang.specs.declared.token.Mark.{Mark}
use Rattle.round_lang.specs.declared.token.Mark.TheVariants as m
use Rattle.round_lang.specs.Lexemes.{Lexeme, mark, same_mark}
use Rattle.round_lang.specs.Source.{Many, After, Listed}
use Rattle.round_lang.specs.Source as g
use Rattle.round_lang.specs.Reading.{◌>>=◌, Part, after, begins_with}
use Rattle.round_lang.specs.Parts.{behind_comma, others, listed}
use Rattle.round_lang.proofs.Steps.{some_then, mark_same, mark_itself, after_is}
use Rattle.round_lang.proofs.Repetition.{ahead, ItemLaws, many_good, many_found, weight_of}

pub begun_is : (sign : Mark) (ws : List Lexeme) → begins_with sign ws ≡ true → (rest : List Lexeme)
    × (ws ≡ mark sign ∷ rest)
unfolding begins_with
begun_is sign (mark k ∷ ws) e = (ws, ap (λ (v : Mark). mark v ∷ ws) (mark_same k sign e))
begun_is sign _ e = absurd cc

pub begins_itself : (sign : Mark) (rest : List Lexeme) → begins_with sign (mark sign ∷ rest) ≡ true
unfolding begins_with
begins_itself sign rest = mark_itself sign

pub after_itself : (sign : Mark) (rest : List Lexeme) → after sign (mark sign ∷ rest) ≡ Some rest
unfolding after
after_itself sign rest = let same = mark_itself sign in rw same refl

pub after_none : (sign : Mark) (ws : List Lexeme) → after sign ws ≡ None
    → begins_with sign ws ≡ false
unfolding after begins_with
after_none sign (mark k ∷ ws) e = go (same_mark k sign) e
  where
    go : (b : Bool) → cond b (Some ws) None ≡ None → b ≡ false
    go true h = absurd cc
    go false h = refl
after_none sign _ e = refl

pub after_some : (sign : Mark) (ws rest : List Lexeme) → after sign ws ≡ Some rest
    → begins_with sign ws ≡ true
after_some sign ws rest e =
    ap (begins_with sign) (after_is sign ws rest e) ∙ begins_itself sign rest

-- what reading one item is
pub record PartLaws {A : Type 0} (item : ℕ → Part A) (weight : A → ℕ) (most : ℕ)
    (Item : A → List Lexeme → List Lexeme → Type 0) (Follows : List Lexeme → Type 0) : Type 0 where
  pub good : (count : ℕ) (ws : List Lexeme) (a : A) (rest : List Lexeme)
      → item count ws ≡ Some (a, rest) → Item a ws rest × (count ≤ most → weight a + count ≤ most)
  pub found : (count : ℕ) (a : A) (ws rest : List Lexeme) → Item a ws rest → weight a + count ≤ most
      → Follows rest → item count ws ≡ Some (a, rest)
  pub shorter : (a : A) (ws rest : List Lexeme) → Item a ws rest → length rest < length ws

module _ {A : Type 0} {item : ℕ → Part A} {weight : A → ℕ} {most : ℕ}
    {Item : A → List Lexeme → List Lexeme → Type 0} {Follows : List Lexeme → Type 0}
    (laws : PartLaws item weight most Item Follows) where
  behind_good : (sign : Mark) (count : ℕ) (ws : List Lexeme) (a : A) (rest : List Lexeme)
      → (after sign ws >>= item count) ≡ Some (a, rest) → After sign Item a ws rest
      × (count ≤ most → weight a + count ≤ most)
  behind_good sign count ws a rest is =
      let o = some_then (after sign ws) (item count) (a, rest) is in
      let one = laws.good count o.0 a rest o.2 in (
        subst (λ (v : List Lexeme). After sign Item a v rest) (sym (after_is sign ws o.0 o.1))
            (g.behind one.0),
        one.1,
      )

  behind_found : (sign : Mark) (count : ℕ) {a : A} {ws rest : List Lexeme}
      → After sign Item a ws rest → weight a + count ≤ most → Follows rest
      → (after sign ws >>= item count) ≡ Some (a, rest)
  behind_found sign count (g.behind {a = a} {ws = ws} {rest = rest} r) few f = let e =
      after_itself sign ws in rw e (laws.found count a ws rest r few f)

  behind_shorter : (sign : Mark) {a : A} {ws rest : List Lexeme} → After sign Item a ws rest
      → length rest < length ws
  behind_shorter sign (g.behind {a = a} {ws = ws} {rest = rest} r) =
      omega (arith, laws.shorter a ws rest r)

  behind_begun : (sign : Mark) {a : A} {ws rest : List Lexeme} → After sign Item a ws rest
      → begins_with sign ws ≡ true
  behind_begun sign (g.behind {ws = ws} r) = begins_itself sign ws

  pub behind_laws : (sign : Mark) → ((rest : List Lexeme) → Follows (mark sign ∷ rest))
      → ItemLaws (begins_with sign) (λ count ws. after sign ws >>= item count) weight most
      (After sign Item) Follows
  behind_laws sign follows = record {
    good = behind_good sign;
    found = λ count a ws rest r few f. behind_found sign count r few f;
    shorter = λ a ws rest r. behind_shorter sign r;
    begun = λ a ws rest r. behind_begun sign r;
    follows = λ ws e. let b = begun_is sign ws e in subst Follows (sym b.1) (follows b.0);
  }

  -- a list with commas
  module _ (follows : (rest : List Lexeme) → Follows (mark m.Comma ∷ rest)) where
    abbrev commas : ItemLaws (begins_with m.Comma) (behind_comma item weight) weight most
        (After m.Comma Item) Follows
    commas = behind_laws m.Comma follows

    abbrev list_by : Bool → List Lexeme → Option (List A × List Lexeme)
    list_by b ws =
        cond b (Some ([], ws))
        (item 0 ws >>= λ a. ahead a.0 (others item weight (weight a.0 + 0) a.1))

    pub record ListGood (ws : List Lexeme) (found : List A) (rest : List Lexeme) : Type 0 where
      pub reads : Listed Item found ws rest
      pub few : weight_of weight found ≤ most

    pub listed_good : (ws : List Lexeme) (found : List A) (rest : List Lexeme)
        → listed item weight ws ≡ Some (found, rest) → ListGood ws found rest
    unfolding listed
    listed_good ws found rest is = go (begins_with m.Close ws) is
      where
        go : (b : Bool) → list_by b ws ≡ Some (found, rest) → ListGood ws found rest
        go true is' = subst (λ (v : List A × List Lexeme). ListGood ws v.0 v.1)
            (same_Some ([], ws) (found, rest) is') (record { reads = g.empty; few = omega arith })
        go false is' =
            let a = some_then (item 0 ws) (λ a. ahead a.0 (others item weight (weight a.0 + 0) a.1))
            (found, rest) is' in
            let r = some_then (others item weight (weight a.0.0 + 0) a.0.1)
            (λ r. Some (a.0.0 ∷ r.0, r.1)) (found, rest) a.2 in
            let one = laws.good 0 ws a.0.0 a.0.1 a.1 in
            let more = many_good (begins_with m.Comma) (behind_comma item weight) weight most
            (After m.Comma Item) Follows commas (suc (length a.0.1)) (weight a.0.0 + 0) a.0.1
            r.0.0 r.0.1 r.1 in
            let few = more.few in
            subst (λ (v : List A × List Lexeme). ListGood ws v.0 v.1)
            (same_Some (a.0.0 ∷ r.0.0, r.0.1) (found, rest) r.2)
            (record {
              reads = g.some one.0 more.reads;
              few =
                  omega (arith, few (one.1 (omega arith)));
            })

    listed_on : (b : Bool) (ws xs rest : List Lexeme) (a : A) (found : List A) → b ≡ false
        → item 0 ws ≡ Some (a, xs) → others item weight (weight a + 0) xs ≡ Some (found, rest)
        → list_by b ws ≡ Some (a ∷ found, rest)
    listed_on b ws xs rest a found e one more = rw (e, one, more) refl

    listed_empty : (rest : List Lexeme) → listed item weight (mark m.Close ∷ rest)
        ≡ Some ([], mark m.Close ∷ rest)
    unfolding listed
    listed_empty rest = let e = begins_itself m.Close rest in rw e refl

    listed_some : (ws xs rest : List Lexeme) (a : A) (found : List A)
        → begins_with m.Close ws ≡ false → item 0 ws ≡ Some (a, xs)
        → others item weight (weight a + 0) xs ≡ Some (found, rest)
        → listed item weight ws ≡ Some (a ∷ found, rest)
    unfolding listed
    listed_some ws xs rest a found e one more =
        listed_on (begins_with m.Close ws) ws xs rest a found e one more

    starts : {found : List A} {ws rest : List Lexeme} → Many (After m.Comma Item) found ws rest
        → Follows rest → Follows ws
    starts g.none f = f
    starts (g.more (g.behind {ws = ws} r) others) f = follows ws

    comma_ends : (rest : List Lexeme) → begins_with m.Comma (mark m.Close ∷ rest) ≡ false
    unfolding begins_with same_mark
    comma_ends rest = refl

    pub listed_found : {found : List A} {ws end : List Lexeme} → Listed Item found ws end
        → (rest : List Lexeme) → end ≡ mark m.Close ∷ rest
        → ((a : A) (ws rest : List Lexeme) → Item a ws rest → begins_with m.Close ws ≡ false)
        → weight_of weight found ≤ most → Follows (mark m.Close ∷ rest)
        → listed item weight ws ≡ Some (found, mark m.Close ∷ rest)
    listed_found (g.empty {ws = ws}) rest e none few f =
        ap (λ v. listed item weight v) e ∙ listed_empty rest
    listed_found (g.some {a = a} {others = as'} {ws = ws} {xs = xs} r more) rest e none few f =
        let more' = subst (λ (v : List Lexeme). Many (After m.Comma Item) as' xs v) e more in
        let first = laws.found 0 a ws xs r (omega arith) (starts more' f) in
        let later = many_found (begins_with m.Comma) (behind_comma item weight) weight most
        (After m.Comma Item) Follows commas more' (suc (length xs)) (weight a + 0) (omega arith)
        (omega arith) f (comma_ends rest) in
        listed_some ws xs (mark m.Close ∷ rest) a as' (none a ws xs r) first later
