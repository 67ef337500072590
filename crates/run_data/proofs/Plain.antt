-- Names and digits stand in a JSON string as they are.
use Rattle.std.proofs.Common.{◌≡◌, ℕ, ◌+◌, ◌^◌, ◌%◌, ◌<◌, ◌≤◌, true, List, [], ◌∷◌, ◌++◌}
use Rattle.std.proofs.Common.{append_assoc, ap, ap₂, arith, refl, sym, ◌∙◌}
use Rattle.std.specs.Prelude.{◌≢◌}
use Rattle.std.specs.Fmt.{decimal}
use Rattle.std.specs.List.{list_all}
use Rattle.std.proofs.lemmas.Bool.{and_parts}
use Rattle.std.proofs.lemmas.Bool.Decides.{nat_tests}
use Rattle.std.proofs.lemmas.Fmt.{decimal_by_steps}
use Rattle.std.proofs.lemmas.Grind.{flat_map-append}
use Rattle.json.specs.Print.{escape, escape_byte, quoted}
use Rattle.round_lang.specs.Tokens.{IsName, begins_name, is_in_name, is_name}

-- a byte that needs no escape
plain_byte : (b : ℕ) → 48 ≤ b → b ≢ 92 → escape_byte b ≡ b ∷ []
unfolding escape_byte
plain_byte b low other = grind (arith, nat_tests)

-- digits

plain_digits : (n : ℕ) → n < 2 ^ 64 → escape (decimal n) ≡ decimal n
plain_digits n small = decimal_by_steps (λ n ds. escape ds ≡ ds) one more n small
  where
    one : (n : ℕ) → n < 10 → escape ((48 + n) ∷ []) ≡ (48 + n) ∷ []
    one n low = ap (λ l. l ++ []) (plain_byte (48 + n) (omega arith) (omega arith))

    more : (n : ℕ) (ds : List ℕ) → 10 ≤ n → escape ds ≡ ds
        → escape (ds ++ (48 + n % 10) ∷ []) ≡ ds ++ (48 + n % 10) ∷ []
    more n ds long e =
        flat_map-append escape_byte ds ((48 + n % 10) ∷ [])
        ∙ ap₂ (λ a b. a ++ b) e (one (n % 10) (omega arith))

-- a number in a string
pub quoted_digits : (n : ℕ) → n < 2 ^ 64 → quoted (decimal n) ≡ 34 ∷ (decimal n ++ 34 ∷ [])
quoted_digits n small = ap (λ l. 34 ∷ (l ++ 34 ∷ [])) (plain_digits n small)

-- names

plain_in_name : (b : ℕ) → is_in_name b ≡ true → escape_byte b ≡ b ∷ []
plain_in_name b h =
    let low : 48 ≤ b = grind (arith, nat_tests) in
    let other : b ≢ 92 = grind (arith, nat_tests) in
    plain_byte b low other

plain_begins : (b : ℕ) → begins_name b ≡ true → escape_byte b ≡ b ∷ []
plain_begins b h =
    let low : 48 ≤ b = grind (arith, nat_tests) in
    let other : b ≢ 92 = grind (arith, nat_tests) in
    plain_byte b low other

plain_rest : (bs : List ℕ) → list_all is_in_name bs ≡ true → escape bs ≡ bs
plain_rest [] h = refl
plain_rest (b ∷ bs) h =
    let p = and_parts (is_in_name b) (list_all is_in_name bs) h in
    ap₂ (λ x y. x ++ y) (plain_in_name b p.0) (plain_rest bs p.1)

plain_name : (bs : List ℕ) → is_name bs ≡ true → escape bs ≡ bs
plain_name [] h = refl
plain_name (b ∷ bs) h =
    let p = and_parts (begins_name b) (list_all is_in_name bs) h in
    ap₂ (λ x y. x ++ y) (plain_begins b p.0) (plain_rest bs p.1)

-- a name in a string
pub quoted_name : (name : List ℕ) → IsName name → quoted name ≡ 34 ∷ (name ++ 34 ∷ [])
quoted_name name h = ap (λ l. 34 ∷ (l ++ 34 ∷ [])) (plain_name name h.spelt)

-- a name with its quotes and its colon, piece by piece
pub name_pushed : (first text one two new : List ℕ) → one ≡ first ++ 34 ∷ [] → two ≡ one ++ text
    → new ≡ two ++ 34 ∷ 58 ∷ [] → quoted text ≡ 34 ∷ (text ++ 34 ∷ [])
    → new ≡ first ++ (quoted text ++ 58 ∷ [])
name_pushed first text one two new begun named ended same =
    let colon : (34 ∷ (text ++ 34 ∷ [])) ++ 58 ∷ [] ≡ 34 ∷ (text ++ 34 ∷ 58 ∷ []) =
    ap (λ l. 34 ∷ l) (append_assoc text (34 ∷ []) (58 ∷ [])) in
    ended ∙ ap (λ l. l ++ 34 ∷ 58 ∷ []) (named ∙ ap (λ l. l ++ text) begun)
    ∙ append_assoc (first ++ 34 ∷ []) text (34 ∷ 58 ∷ [])
    ∙ append_assoc first (34 ∷ []) (text ++ 34 ∷ 58 ∷ [])
    ∙ ap (λ l. first ++ l) (sym colon ∙ ap (λ l. l ++ 58 ∷ []) (sym same))
