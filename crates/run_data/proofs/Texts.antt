-- Arrays and objects as loops write them: what stands there, and what is still to come.
use Rattle.std.proofs.Common.{◌≡◌, ℕ, Bool, true, false, List, [], ◌∷◌, ◌++◌}
use Rattle.std.proofs.Common.{map, sym, ap, ◌∙◌, append_assoc}
use Rattle.std.specs.Fmt.{decimal}
use Rattle.json.specs.Print.{quoted}
use Rattle.serde_json.specs.Data.{Data}
use Rattle.serde_json.specs.View.{items_of}
use Rattle.serde_json.specs.Written.{comma_if, compact_text, items_text, members_text}
use Rattle.run_data.specs.Objects.{field_text, fields, number_data, numbers_data, object_of}

-- Behind what stood first, a text and the numbers that are left make the whole array.
pub record Listing (first ns text : List ℕ) (is_later : Bool) (left : List ℕ) : Type 0 where
  pub is : text ++ items_text is_later (items_of (map number_data left))
      ≡ first ++ compact_text (numbers_data ns)

pub listing_begun : (first ns text : List ℕ) → text ≡ first ++ 91 ∷ []
    → Listing first ns text false ns
listing_begun first ns text e = record {
  is = ap (λ l. l ++ items_text false (items_of (map number_data ns))) e
      ∙ append_assoc first (91 ∷ []) _;
}

-- a number more, behind a comma if one is due
pub listing_more : (first ns text new : List ℕ) (is_later : Bool) (n : ℕ) (left : List ℕ)
    → Listing first ns text is_later (n ∷ left) → new ≡ text ++ (comma_if is_later ++ decimal n)
    → Listing first ns new true left
listing_more first ns text new is_later n left before written =
    let rest = items_text true (items_of (map number_data left)) in
    record {
      is = ap (λ l. l ++ rest) written ∙ append_assoc text (comma_if is_later ++ decimal n) rest
          ∙ ap (λ l. text ++ l) (append_assoc (comma_if is_later) (decimal n) rest) ∙ before.is;
    }

pub listing_ended : (first ns text new : List ℕ) (is_later : Bool) (left : List ℕ)
    → Listing first ns text is_later left → left ≡ [] → new ≡ text ++ 93 ∷ []
    → new ≡ first ++ compact_text (numbers_data ns)
listing_ended first ns text new is_later left before none end =
    end ∙ ap (λ l. text ++ items_text is_later (items_of (map number_data l))) (sym none)
    ∙ before.is

-- Behind what stood first, a text and the fields that are left make the whole object.
pub record Filling (first : List ℕ) (all : List (List ℕ × Data)) (text : List ℕ) (is_later : Bool)
    (left : List (List ℕ × Data)) : Type 0 where
  pub is : text ++ members_text is_later (fields left) ≡ first ++ compact_text (object_of all)

pub filling_begun : (first : List ℕ) (all : List (List ℕ × Data)) (text : List ℕ)
    → text ≡ first ++ 123 ∷ [] → Filling first all text false all
filling_begun first all text e = record {
  is = ap (λ l. l ++ members_text false (fields all)) e ∙ append_assoc first (123 ∷ []) _;
}

-- a field more, behind a comma if one is due
pub filling_more : (first : List ℕ) (all : List (List ℕ × Data)) (text new : List ℕ)
    (is_later : Bool) (field : List ℕ × Data) (left : List (List ℕ × Data))
    → Filling first all text is_later (field ∷ left)
    → new ≡ text ++ (comma_if is_later ++ field_text field) → Filling first all new true left
filling_more first all text new is_later field left before written =
    let rest = members_text true (fields left) in
    record {
      is = ap (λ l. l ++ rest) written
          ∙ append_assoc text (comma_if is_later ++ field_text field) rest
          ∙ ap (λ l. text ++ l) (append_assoc (comma_if is_later) (field_text field) rest
          ∙ ap (λ l. comma_if is_later ++ l)
          (append_assoc (quoted field.0) (58 ∷ compact_text field.1) rest))
          ∙ before.is;
    }

pub filling_ended : (first : List ℕ) (all : List (List ℕ × Data)) (text new : List ℕ)
    (is_later : Bool) (left : List (List ℕ × Data)) → Filling first all text is_later left
    → left ≡ [] → new ≡ text ++ 125 ∷ [] → new ≡ first ++ compact_text (object_of all)
filling_ended first all text new is_later left before none end =
    end ∙ ap (λ l. text ++ members_text is_later (fields l)) (sym none) ∙ before.is

-- a field, piece by piece: a comma if one is due, its name, and its value
pub field_pushed : (first one two new name named : List ℕ) (is_later : Bool) (d shown : Data)
    → one ≡ first ++ comma_if is_later → two ≡ one ++ (quoted name ++ 58 ∷ [])
    → new ≡ two ++ compact_text d → name ≡ named → d ≡ shown
    → new ≡ first ++ (comma_if is_later ++ field_text (named, shown))
field_pushed first one two new name named is_later d shown comma label value same_name same =
    value ∙ ap (λ l. l ++ compact_text d) (label ∙ ap (λ l. l ++ (quoted name ++ 58 ∷ [])) comma)
    ∙ append_assoc (first ++ comma_if is_later) (quoted name ++ 58 ∷ []) (compact_text d)
    ∙ append_assoc first (comma_if is_later) _
    ∙ ap (λ l. first ++ (comma_if is_later ++ l))
    (append_assoc (quoted name) (58 ∷ []) (compact_text d)
    ∙ ap (λ n. field_text (n, d)) same_name ∙ ap (λ x. field_text (named, x)) same)
