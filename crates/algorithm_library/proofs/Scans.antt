-- Tokens by computing.
use Rattle.std.proofs.Common.{◌≡◌, ℕ, zero, suc, List, [], ◌∷◌, drop, Option, Some, None}
use Rattle.std.proofs.Common.{option_map, refl, subst, arith}
use Rattle.round_lang.specs.Lexemes.{Lexeme}
use Rattle.round_lang.specs.Scanning.{Step, skip, token, bad, step}
use Rattle.round_lang.specs.Tokens.{IsLongest, Tokens}
use Rattle.round_lang.specs.Tokens as t
use Rattle.round_lang.proofs.Pieces.{Says, step_says}

-- one step, and then the rest
abbrev pub onward : Step → List ℕ → (List ℕ → Option (List Lexeme)) → Option (List Lexeme)
onward (skip n) text rest = rest (drop n text)
onward (token n l) text rest = option_map (λ ls. l ∷ ls) (rest (drop n text))
onward bad text rest = None

-- the text's tokens; the number bounds the steps
abbrev pub scanned : ℕ → List ℕ → Option (List Lexeme)
scanned n [] = Some []
scanned zero (b ∷ bs) = None
scanned (suc n) (b ∷ bs) = onward (step (b ∷ bs)) (b ∷ bs) (scanned n)

pub scanned_good : (n : ℕ) (text : List ℕ) (ls : List Lexeme) → scanned n text ≡ Some ls
    → Tokens text ls
scanned_good n [] ls h = let e : [] ≡ ls = cc in subst (λ x. Tokens [] x) e t.end
scanned_good zero (b ∷ bs) ls h = absurd (cc)
scanned_good (suc n) (b ∷ bs) ls h =
    go (λ m others e. scanned_good n (drop m (b ∷ bs)) others e) (step (b ∷ bs))
    (step_says (b ∷ bs) (omega arith)) h
  where
    found : (m : ℕ) (l : Lexeme)
        → ((others : List Lexeme) → scanned n (drop m (b ∷ bs)) ≡ Some others
        → Tokens (drop m (b ∷ bs)) others) → IsLongest (b ∷ bs) m l
        → (o : Option (List Lexeme)) → scanned n (drop m (b ∷ bs)) ≡ o
        → option_map (λ ls. l ∷ ls) o ≡ Some ls → Tokens (b ∷ bs) ls
    found m l ih longest None same e = absurd (cc)
    found m l ih longest (Some others) same e =
        let is : l ∷ others ≡ ls = cc in
        subst (λ x. Tokens (b ∷ bs) x) is (t.token m longest (ih others same))

    go : ((m : ℕ) (others : List Lexeme) → scanned n (drop m (b ∷ bs)) ≡ Some others
        → Tokens (drop m (b ∷ bs)) others)
        → (x : Step) → Says (b ∷ bs) x → onward x (b ∷ bs) (scanned n) ≡ Some ls
        → Tokens (b ∷ bs) ls
    go ih (skip m) says e = says.on ls (ih m ls e)
    go ih (token m l) says e = found m l (ih m) says.is (scanned n (drop m (b ∷ bs))) refl e
    go ih bad says e = absurd (cc)
