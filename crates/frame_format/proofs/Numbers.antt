-- Numbers of n bytes, read and written.
use Rattle.std.proofs.Common.{◌≡◌, ℕ, zero, suc, ◌+◌, ◌-◌, ◌*◌, ◌^◌, ◌<◌, ◌≤◌, List, [], ◌∷◌, ◌++◌}
use Rattle.std.proofs.Common.{length, get_or, take, drop, arith, refl, sym, ap, ◌∙◌, inl, inr}
use Rattle.std.proofs.Common.{append_assoc}
use Rattle.std.specs.List.{flat_map, All}
use Rattle.std.proofs.lemmas.List.Elements.{All-nil, All-cons, All-head, All-tail}
use Rattle.std.proofs.lemmas.Bool.{cases_lt}
use Rattle.std.proofs.lemmas.List.{drop-drop, get_or-drop, get_or-take, get_or_past, length-take}
use Rattle.std.proofs.lemmas.List.{length-take-le, length-drop, length-append, take-append-drop}
use Rattle.std.proofs.lemmas.Nat.{be_bytes_2, be_bytes_4, be_bytes_8}
use Rattle.byteorder.specs.Endian.{big_bytes, big_number}
use Rattle.byteorder.specs.Numbers.{big_from-take, big_from-lt, big_number-reads_back}
use Rattle.frame_format.specs.Reading.{numbers}

abbrev pub IsBytes : List ℕ → Type 0
IsBytes bytes = (i : ℕ) → get_or bytes i 0 < 256

pub IsBytes-drop : (n : ℕ) (bytes : List ℕ) → IsBytes bytes → IsBytes (drop n bytes)
IsBytes-drop n bytes h i = rw get_or-drop (h (n + i))

pub IsBytes-take : (n : ℕ) (bytes : List ℕ) → IsBytes bytes → IsBytes (take n bytes)
IsBytes-take n bytes h i =
    elim (cases_lt i n) [
      | inl lt ↦ rw (get_or-take n bytes i 0 lt) (h i)
      | inr le ↦ rw (get_or_past (take n bytes) i 0 (omega (arith, length-take n bytes)))
          (omega arith)
    ]

-- a width at which bytes are read and written again
pub record IsWide (n : ℕ) : Type 0 where
  pub back : (bytes : List ℕ) → length bytes ≡ n → IsBytes bytes
      → big_bytes n (big_number n bytes) ≡ bytes

pub wide2 : IsWide 2
wide2 = record { back = λ bytes len fits. be_bytes_2 bytes _ len fits (omega arith) }

pub wide4 : IsWide 4
wide4 = record { back = λ bytes len fits. be_bytes_4 bytes _ len fits (omega arith) }

pub wide8 : IsWide 8
wide8 = record { back = λ bytes len fits. be_bytes_8 bytes _ len fits (omega arith) }

-- bytes begin with the number that they read as
pub number_front : (n : ℕ) (wide : IsWide n) (bytes : List ℕ) → n ≤ length bytes → IsBytes bytes
    → bytes ≡ big_bytes n (big_number n bytes) ++ drop n bytes
number_front n wide bytes long fits =
    let e : big_number n (take n bytes) ≡ big_number n bytes =
    big_from-take 0 n n bytes (omega arith) in
    let f = wide.back (take n bytes) (length-take-le n bytes long) (IsBytes-take n bytes fits) in
    let g : big_bytes n (big_number n bytes) ≡ take n bytes = ap (big_bytes n) (sym e) ∙ f in
    sym (ap (λ (front : List ℕ). front ++ drop n bytes) g ∙ take-append-drop n bytes)

-- the next part of bytes from a place on
pub number_at : (n : ℕ) (wide : IsWide n) (at : ℕ) (bytes : List ℕ) → at + n ≤ length bytes
    → IsBytes bytes → drop at bytes ≡ big_bytes n (big_number n (drop at bytes))
    ++ drop (at + n) bytes
number_at n wide at bytes long fits =
    number_front n wide (drop at bytes) (omega (arith, length-drop at bytes))
    (IsBytes-drop at bytes fits)
    ∙ ap (λ (rest : List ℕ). big_bytes n (big_number n (drop at bytes)) ++ rest)
    (drop-drop n at bytes)

-- ---- rows

pub record IsRow (k : ℕ) (bytes : List ℕ) : Type 0 where
  pub front : bytes ≡ flat_map (big_bytes 4) (numbers k bytes) ++ drop (4 * k) bytes
  pub fits : All (λ n. n < 2 ^ 32) (numbers k bytes)
  pub len : length (numbers k bytes) ≡ k

pub numbers_front : (k : ℕ) (bytes : List ℕ) → 4 * k ≤ length bytes → IsBytes bytes → IsRow k bytes
numbers_front zero bytes long fits = record {
  front = refl;
  fits = All-nil (λ n. n < 2 ^ 32);
  len = refl;
}
numbers_front (suc k) bytes long fits =
    let rest = drop 4 bytes in
    let ih : IsRow k rest = numbers_front k rest (omega (arith, length-drop 4 bytes))
    (IsBytes-drop 4 bytes fits) in
    let first = number_front 4 wide4 bytes (omega arith) fits in
    let past : drop (4 * k) rest ≡ drop (4 * suc k) bytes = drop-drop (4 * k) 4 bytes
    ∙ (let e : 4 + 4 * k ≡ 4 * suc k = omega arith in ap (λ (n : ℕ). drop n bytes) e) in
    let below : big_number 4 bytes < 2 ^ 32 = big_from-lt 0 4 bytes fits in
    let l : length (numbers k rest) ≡ k = ih.len in
    record {
      front = first ∙ ap (λ (t : List ℕ). big_bytes 4 (big_number 4 bytes) ++ t) (ih.front
          ∙ ap (λ (t : List ℕ). flat_map (big_bytes 4) (numbers k rest) ++ t) past)
          ∙ sym (append_assoc (big_bytes 4 (big_number 4 bytes))
          (flat_map (big_bytes 4) (numbers k rest)) (drop (4 * suc k) bytes));
      fits = All-cons (λ n. n < 2 ^ 32) (big_number 4 bytes) (numbers k rest) below ih.fits;
      len = omega arith;
    }

pub record IsRowAgain (r rest : List ℕ) : Type 0 where
  pub values : numbers (length r) (flat_map (big_bytes 4) r ++ rest) ≡ r
  pub past : drop (4 * length r) (flat_map (big_bytes 4) r ++ rest) ≡ rest
  pub len : length (flat_map (big_bytes 4) r) ≡ 4 * length r

pub numbers_again : (r rest : List ℕ) → All (λ n. n < 2 ^ 32) r → IsRowAgain r rest
numbers_again [] rest h = record { values = refl; past = refl; len = refl }
numbers_again (x ∷ r) rest h =
    let more = flat_map (big_bytes 4) r ++ rest in
    let ih = numbers_again r rest (All-tail (λ n. n < 2 ^ 32) x r h) in
    let whole : flat_map (big_bytes 4) (x ∷ r) ++ rest ≡ big_bytes 4 x ++ more =
    append_assoc (big_bytes 4 x) (flat_map (big_bytes 4) r) rest in
    let first : big_number 4 (big_bytes 4 x ++ more) ≡ x =
    big_number-reads_back 4 x more (All-head (λ n. n < 2 ^ 32) x r h) in
    let after : drop 4 (big_bytes 4 x ++ more) ≡ more = refl in
    let four : 4 * length (x ∷ r) ≡ 4 + 4 * length r = omega arith in
    record {
      values = ap (λ (t : List ℕ). numbers (length (x ∷ r)) t) whole ∙ cc (first, after, ih.values);
      past = ap (λ (t : List ℕ). drop (4 * length (x ∷ r)) t) whole
          ∙ ap (λ (n : ℕ). drop n (big_bytes 4 x ++ more)) four
          ∙ sym (drop-drop (4 * length r) 4 (big_bytes 4 x ++ more)) ∙ ih.past;
      len = omega (arith, length-append (big_bytes 4 x) (flat_map (big_bytes 4) r), ih.len);
    }

-- one number more is read
pub numbers_more : (n i : ℕ) (bytes : List ℕ) → i < n
    → numbers (n - i) (drop (4 * i) bytes) ≡ big_number 4 (drop (4 * i) bytes)
    ∷ numbers (n - (i + 1)) (drop (4 * (i + 1)) bytes)
numbers_more n i bytes h =
    let e : n - i ≡ suc (n - (i + 1)) = omega arith in
    let f : 4 * i + 4 ≡ 4 * (i + 1) = omega arith in
    rw e (ap (λ (rest : List ℕ). big_number 4 (drop (4 * i) bytes) ∷ numbers (n - (i + 1)) rest)
    (drop-drop 4 (4 * i) bytes ∙ ap (λ (k : ℕ). drop k bytes) f))
