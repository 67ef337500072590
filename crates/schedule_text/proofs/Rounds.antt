-- Rounds that are kept while lines are read.
use Rattle.std.proofs.Common.{◌≡◌, ℕ, ◌+◌, ◌-◌, ◌*◌, ◌/◌, ◌%◌, ◌^◌, ◌<◌, ◌≤◌, List, [], ◌∷◌, ◌++◌}
use Rattle.std.proofs.Common.{
  length,
  take,
  drop,
  get_or,
  suc,
  zero,
  w64,
  append_assoc,
  refl,
  sym,
  ap,
}
use Rattle.std.proofs.Common.{◌∙◌, arith, length-append, length-take}
use Rattle.std.specs.Prelude.{bit_and}
use Rattle.std.specs.Int.{byte_at, bytes_low_first, from_le_bytes, to_le_bytes}
use Rattle.std.specs.Int.Bits.{and_zero_r}
use Rattle.std.proofs.lemmas.Nat.{and_mask, field_of, le_bytes_8, mod-pow-add, mod_below, mod_low}
use Rattle.std.proofs.lemmas.Nat.{one_shl, pow-add, pow_pos}
use Rattle.std.proofs.lemmas.List.{take-append-drop, take-take}
use Rattle.std.proofs.Math.Nat.{pow-succ'}
use Rattle.std.proofs.Math.Seq.{take-append_seam}
use Rattle.schedule_text.specs.Fronts.{IsNumberBefore}
use Rattle.schedule_text.specs.Rounds.{KeepsRound}
use Rattle.schedule_text.proofs.FirstWords.{bytes-take}

pow_256 : (x : ℕ) → 256 ^ x ≡ 2 ^ (8 * x)
pow_256 zero = refl
pow_256 (suc x) =
    let one_more : 8 + 8 * x ≡ 8 * suc x = omega arith in
    pow-succ' 256 x ∙ ap (λ p. 256 * p) (pow_256 x) ∙ sym (pow-add 2 8 (8 * x))
    ∙ ap (λ k. 2 ^ k) one_more

-- what is below a lower power
lower : (j k n : ℕ) → n % 2 ^ (j + k) % 2 ^ k ≡ n % 2 ^ k
lower j k n = ap (λ m. m % 2 ^ k) (mod-pow-add n j k)
    ∙ mod_low (n / 2 ^ k % 2 ^ j) k (n % 2 ^ k) (mod_below n (2 ^ k) (pow_pos k))

module _ (m n : ℕ) where
  same_byte : (x : ℕ) → m % 2 ^ (8 + 8 * x) ≡ n % 2 ^ (8 + 8 * x) → byte_at x m ≡ byte_at x n
  same_byte zero same = same
  same_byte (suc x) same =
      let p = pow_256 (suc x) in
      ap (λ q. m / q % 256) p ∙ sym (field_of m 8 (8 * suc x)) ∙ ap (λ r. r / 2 ^ (8 * suc x)) same
      ∙ field_of n 8 (8 * suc x) ∙ ap (λ q. n / q % 256) (sym p)

  same_bytes : (i j : ℕ) → ((x : ℕ) → x < i + j → byte_at x m ≡ byte_at x n)
      → bytes_low_first i j m ≡ bytes_low_first i j n
  same_bytes i zero same = refl
  same_bytes i (suc j) same =
      ap (λ b. b ∷ bytes_low_first (suc i) j m) (same i (omega arith))
      ∙ ap (λ bs. byte_at i n ∷ bs) (same_bytes (suc i) j (λ x lt. same x (omega (arith, lt))))

  -- numbers that are the same below a power of 256 have the same first bytes
  same_low : (k : ℕ) → m % 2 ^ (8 * k) ≡ n % 2 ^ (8 * k)
      → bytes_low_first 0 k m ≡ bytes_low_first 0 k n
  same_low k same =
      same_bytes 0 k (λ x lt.
      let most : (8 * k - (8 + 8 * x)) + (8 + 8 * x) ≡ 8 * k = omega (arith, lt) in
      let less = λ (y : ℕ). sym (lower (8 * k - (8 + 8 * x)) (8 + 8 * x) y)
      ∙ ap (λ e. y % 2 ^ e % 2 ^ (8 + 8 * x)) most in
      same_byte x (less m ∙ ap (λ y. y % 2 ^ (8 + 8 * x)) same ∙ sym (less n)))

take_bytes : (i j k n : ℕ) → k ≤ j → take k (bytes_low_first i j n) ≡ bytes_low_first i k n
take_bytes i j zero n le = refl
take_bytes i zero (suc k) n le = absurd (omega (arith, le))
take_bytes i (suc j) (suc k) n le =
    ap (λ bs. byte_at i n ∷ bs) (take_bytes (suc i) j k n (omega (arith, le)))

abbrev AreBytes : List ℕ → Type 0
AreBytes t = (i : ℕ) → get_or t i 0 < 256

abbrev word_of : List ℕ → ℕ
word_of t = from_le_bytes w64 (take 8 t)

front_bytes : (k : ℕ) (t : List ℕ) → k ≤ 8 → 8 ≤ length t → AreBytes t
    → take k t ≡ bytes_low_first 0 k (word_of t)
front_bytes k t le long bytes =
    let whole : to_le_bytes w64 (word_of t) ≡ take 8 t =
    le_bytes_8 (take 8 t) (word_of t) (omega (arith, length-take 8 t, long))
    (bytes-take 8 t bytes) refl in
    sym (take-take k 8 t le) ∙ ap (λ l. take k l) (sym whole) ∙ take_bytes 0 8 k (word_of t) le

-- texts whose first words are the same under a mask have the same first bytes
same_front : (k : ℕ) (t u : List ℕ) → k ≤ 8 → 8 ≤ length t → AreBytes t → 8 ≤ length u → AreBytes u
    → bit_and (word_of t) (2 ^ (8 * k) - 1) ≡ bit_and (word_of u) (2 ^ (8 * k) - 1)
    → take k t ≡ take k u
same_front k t u le long bytes long' bytes' same =
    front_bytes k t le long bytes
    ∙ same_low (word_of t) (word_of u) k (sym (and_mask (word_of t) (8 * k)) ∙ same
    ∙ and_mask (word_of u) (8 * k))
    ∙ sym (front_bytes k u le long' bytes')

-- no round is kept
pub none_kept : KeepsRound 1 0 0 0
none_kept = record {
  short = omega arith;
  same = λ t long bytes same. absurd (let none = and_zero_r (word_of t) in
      omega (arith, none, same));
}

-- the round that was read
pub round_kept : (t rest : List ℕ) (word v len : ℕ) → IsNumberBefore t 10 v rest
    → len ≡ length t - length rest → len ≤ 7 → 8 ≤ length t → AreBytes t → word ≡ word_of t
    → KeepsRound (bit_and word ((1 * 2 ^ (8 * len)) % 2 ^ 64 - 1))
    ((1 * 2 ^ (8 * len)) % 2 ^ 64 - 1) v len
round_kept t rest word v len n len-is few long bytes word-is =
    let mask : (1 * 2 ^ (8 * len)) % 2 ^ 64 ≡ 2 ^ (8 * len) =
    one_shl (8 * len) 64 (omega (arith, few)) in
    let ends : length (n.digits ++ 10 ∷ []) ≡ len =
    omega (
      arith,
      len-is,
      ap length n.parts,
      length-append n.digits (10 ∷ rest),
      length-append n.digits (10 ∷ []),
    ) in
    let own : take len t ≡ n.digits ++ 10 ∷ [] =
    ap (λ l. take len l) (n.parts ∙ sym (append_assoc n.digits (10 ∷ []) rest))
    ∙ ap (λ k. take k ((n.digits ++ 10 ∷ []) ++ rest)) (sym ends)
    ∙ take-append_seam (n.digits ++ 10 ∷ []) rest in
    rw mask (record {
      short = omega (arith, few);
      same = λ u long' bytes' same. record {
        digits = n.digits;
        number = n.number;
        value = n.value;
        small = n.small;
        parts =
            sym (take-append-drop len u)
            ∙ ap (λ l. l ++ drop len u)
            (same_front len u t (omega (arith, few)) long' bytes' long bytes (same
            ∙ ap (λ w. bit_and w (2 ^ (8 * len) - 1)) word-is) ∙ own)
            ∙ append_assoc n.digits (10 ∷ []) (drop len u);
      };
    })
