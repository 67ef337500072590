-- Numbers of the same bytes are the same numbers.
use Rattle.std.proofs.Common.{◌≡◌, ℕ, ◌+◌, ◌*◌, ◌/◌, ◌%◌, Bool, true, false, List, [], ◌∷◌, ◌++◌}
use Rattle.std.proofs.Common.{drop, get_or, refl, sym, ap, ap₂, ◌∙◌}
use Rattle.std.specs.Prelude.{nat_lt, if◌then◌else◌}
use Rattle.std.proofs.Math.Nat.{mod-add-div}
use Rattle.std.proofs.lemmas.List.Concat.{flat_map-cons}
use Rattle.round_check.specs.Spelling.{number_bytes, packed}

-- a number by its own bytes, the lowest first
abbrev of_bytes : ℕ → ℕ → ℕ → ℕ → ℕ
of_bytes a b c d = a + 256 * (b + 256 * (c + 256 * d))

whole : (n : ℕ) → of_bytes (n % 256) (n / 256 % 256) (n / 256 / 256 % 256) (n / 256 / 256 / 256) ≡ n
whole n =
    ap (λ x. n % 256 + 256 * x) (ap (λ x. n / 256 % 256 + 256 * x) (mod-add-div (n / 256 / 256) 256)
    ∙ mod-add-div (n / 256) 256)
    ∙ mod-add-div n 256

-- the number that begins a list of bytes, and what follows it
abbrev number_by : Bool → List ℕ → ℕ
number_by b l =
    if b then get_or l 0 0 else of_bytes (get_or l 1 0) (get_or l 2 0) (get_or l 3 0) (get_or l 4 0)

abbrev behind_by : Bool → List ℕ → List ℕ
behind_by b l = if b then drop 1 l else drop 5 l

abbrev number_of : List ℕ → ℕ
number_of l = number_by (nat_lt (get_or l 0 0) 255) l

abbrev behind_number : List ℕ → List ℕ
behind_number l = behind_by (nat_lt (get_or l 0 0) 255) l

-- the bytes of a number, by whether it's short
abbrev bytes_by : Bool → ℕ → List ℕ
bytes_by b n = if b then n ∷ [] else 255 ∷ n % 256 ∷ n / 256 % 256 ∷ n / 256 / 256 % 256 ∷ n / 256 /
    256 / 256 ∷ []

number_back : (b : Bool) (n : ℕ) (r : List ℕ) → nat_lt n 255 ≡ b
    → number_of (number_bytes n ++ r) ≡ n
number_back true n r e = ap (λ b. number_of (bytes_by b n ++ r)) e ∙ ap (λ b. number_by b (n ∷ r)) e
number_back false n r e = ap (λ b. number_of (bytes_by b n ++ r)) e ∙ whole n

number_left : (b : Bool) (n : ℕ) (r : List ℕ) → nat_lt n 255 ≡ b
    → behind_number (number_bytes n ++ r) ≡ r
number_left true n r e =
    ap (λ b. behind_number (bytes_by b n ++ r)) e ∙ ap (λ b. behind_by b (n ∷ r)) e
number_left false n r e = ap (λ b. behind_number (bytes_by b n ++ r)) e

some_bytes : (b : Bool) (n : ℕ) (r : List ℕ) → nat_lt n 255 ≡ b → [] ≡ number_bytes n ++ r → ⊥
some_bytes true n r e none =
    let made : [] ≡ n ∷ r = none ∙ ap (λ b. bytes_by b n ++ r) e in
    absurd cc made
some_bytes false n r e none =
    let made : [] ≡ bytes_by false n ++ r = none ∙ ap (λ b. bytes_by b n ++ r) e in
    absurd cc made

pub packed_apart : (l m : List ℕ) → packed l ≡ packed m → l ≡ m
packed_apart [] [] e = refl
packed_apart [] (n ∷ m) e =
    absurd (some_bytes (nat_lt n 255) n (packed m) refl (e ∙ flat_map-cons number_bytes n m))
packed_apart (n ∷ l) [] e =
    absurd (some_bytes (nat_lt n 255) n (packed l) refl (sym e ∙ flat_map-cons number_bytes n l))
packed_apart (n ∷ l) (k ∷ m) e =
    let same : number_bytes n ++ packed l ≡ number_bytes k ++ packed m =
    sym (flat_map-cons number_bytes n l) ∙ e ∙ flat_map-cons number_bytes k m in
    let first = sym (number_back (nat_lt n 255) n (packed l) refl) ∙ ap number_of same
    ∙ number_back (nat_lt k 255) k (packed m) refl in
    let rest = sym (number_left (nat_lt n 255) n (packed l) refl) ∙ ap behind_number same
    ∙ number_left (nat_lt k 255) k (packed m) refl in
    ap₂ (λ (x : ℕ) (xs : List ℕ). x ∷ xs) first (packed_apart l m rest)
