-- Numbers that are written by LEB128 are read.
use Rattle.std.proofs.Common.{◌≡◌, ◌∙◌, ℕ, zero, suc, ◌+◌, ◌-◌, ◌*◌, ◌/◌, ◌%◌, ◌^◌, ◌<◌, ◌≤◌}
use Rattle.std.proofs.Common.{Bool, true, false, List, [], ◌∷◌, ◌++◌, cond, drop, refl, sym, ap}
use Rattle.std.proofs.Common.{arith, append_assoc}
use Rattle.std.specs.Prelude.{nat_lt}
use Rattle.std.proofs.lemmas.Bool.{lt-ltb, le-ltb}
use Rattle.std.proofs.lemmas.List.{append-nil}
use Rattle.std.proofs.Math.Nat.{mul-le-mul_left, mod-eq_of_lt}
use Rattle.step_machine.specs.StoredStates.{words_from, words_in, IsWhole}

-- a byte that isn't the last one of its number, if that stays below 2 ^ 64
read-more : (weight value byte : ℕ) (more : List ℕ) → 128 ≤ byte → weight * 128 < 2 ^ 64
    → value + weight * (byte - 128) < 2 ^ 64
    → words_from weight value (byte ∷ more) ≡ words_from (weight * 128)
    (value + weight * (byte - 128)) more
read-more weight value byte more long weight_fits value_fits =
    let w = (weight * 128) % 2 ^ 64 in
    let v = (value + weight * (byte - 128)) % 2 ^ 64 in
    ap (λ b. cond b (((value + weight * byte) % 2 ^ 64) ∷ words_from 1 0 more)
    (words_from w v more)) (le-ltb byte 128 long)
    ∙ ap (λ n. words_from n v more) (mod-eq_of_lt weight_fits)
    ∙ ap (λ n. words_from (weight * 128) n more) (mod-eq_of_lt value_fits)

-- the last byte of a number below 2 ^ 64
read-last : (weight value byte : ℕ) (more : List ℕ) → byte < 128 → value + weight * byte < 2 ^ 64
    → words_from weight value (byte ∷ more) ≡ (value + weight * byte) ∷ words_in more
read-last weight value byte more short fits =
    let w = (weight * 128) % 2 ^ 64 in
    let v = (value + weight * (byte - 128)) % 2 ^ 64 in
    ap (λ b. cond b (((value + weight * byte) % 2 ^ 64) ∷ words_from 1 0 more)
    (words_from w v more)) (lt-ltb byte 128 short)
    ∙ ap (λ n. n ∷ words_from 1 0 more) (mod-eq_of_lt fits)

-- behind these bytes, which spell those words, a number is begun, of which so much is left
pub record IsBegun (words : List ℕ) (word : ℕ) (bytes : List ℕ) (left : ℕ) : Type 0 where
  pub weight : ℕ
  pub value : ℕ
  pub reads : (more : List ℕ) → words_in (bytes ++ more) ≡ words ++ words_from weight value more
  pub all : value + weight * left ≡ word

-- nothing of the number is written
pub begun-whole : (bytes : List ℕ) (word : ℕ) → IsWhole bytes
    → IsBegun (words_in bytes) word bytes word
begun-whole bytes word whole = record { weight = 1; value = 0; reads = whole; all = omega arith }

-- a byte more, which isn't the last one
pub begun-more : (words : List ℕ) (word : ℕ) (bytes : List ℕ) (left : ℕ) → word < 2 ^ 64
    → 128 ≤ left → IsBegun words word bytes left
    → IsBegun words word (bytes ++ (left % 128 + 128) ∷ []) (left / 128)
begun-more words word bytes left fits long h =
    let byte = left % 128 + 128 in
    let w = h.weight in
    let parts : left ≡ (byte - 128) + 128 * (left / 128) = omega arith in
    let product : w * left ≡ w * ((byte - 128) + 128 * (left / 128)) = ap (λ n. w * n) parts in
    let weight_fits : w * 128 < 2 ^ 64 = omega (arith, h.all, mul-le-mul_left w long) in
    let sum : h.value + w * (byte - 128) + w * 128 * (left / 128) ≡ word =
    omega (arith, product, h.all) in
    record {
      weight = w * 128;
      value = h.value + w * (byte - 128);
      reads = λ more.
          ap words_in (append_assoc bytes (byte ∷ []) more) ∙ h.reads (byte ∷ more)
          ∙ ap (λ ns. words ++ ns)
          (read-more w h.value byte more (omega arith) weight_fits (omega (arith, sum)));
      all = sum;
    }

-- what is read once the last byte is there
reads-last : (words : List ℕ) (word : ℕ) (bytes : List ℕ) (left : ℕ) → word < 2 ^ 64 → left < 128
    → IsBegun words word bytes left → (more : List ℕ)
    → words_in ((bytes ++ left ∷ []) ++ more) ≡ words ++ word ∷ words_in more
reads-last words word bytes left fits short h more =
    ap words_in (append_assoc bytes (left ∷ []) more) ∙ h.reads (left ∷ more)
    ∙ ap (λ ns. words ++ ns) (read-last h.weight h.value left more short (omega (arith, h.all)))
    ∙ ap (λ n. words ++ n ∷ words_in more) h.all

pub words-last : (words : List ℕ) (word : ℕ) (bytes : List ℕ) (left : ℕ) → word < 2 ^ 64
    → left < 128 → IsBegun words word bytes left
    → words_in (bytes ++ left ∷ []) ≡ words ++ word ∷ []
words-last words word bytes left fits short h =
    ap words_in (sym (append-nil (bytes ++ left ∷ [])))
    ∙ reads-last words word bytes left fits short h []

pub whole-last : (words : List ℕ) (word : ℕ) (bytes : List ℕ) (left : ℕ) → word < 2 ^ 64
    → left < 128 → IsBegun words word bytes left → IsWhole (bytes ++ left ∷ [])
whole-last words word bytes left fits short h more =
    reads-last words word bytes left fits short h more
    ∙ sym (append_assoc words (word ∷ []) (words_in more))
    ∙ ap (λ ns. ns ++ words_in more) (sym (words-last words word bytes left fits short h))

-- a byte below 128 is a number
pub words-short : (byte : ℕ) (more : List ℕ) → byte < 128
    → words_in (byte ∷ more) ≡ byte ∷ words_in more
words-short byte more short =
    read-last 1 0 byte more short (omega arith)
    ∙ ap (λ n. n ∷ words_in more) (let e : 0 + 1 * byte ≡ byte = omega arith in e)

-- if a number or more are passed, it doesn't matter which number is begun
passed_first : (last : Bool) (one two : ℕ) (more rest others : List ℕ) (n : ℕ) → 0 < n
    → drop n rest ≡ drop n others
    → drop n (cond last (one ∷ more) rest) ≡ drop n (cond last (two ∷ more) others)
passed_first true one two more rest others zero some h = absurd (omega arith)
passed_first true one two more rest others (suc n) some h = refl
passed_first false one two more rest others n some h = h

passed_begun : (weight value n : ℕ) (bytes : List ℕ) → 0 < n
    → drop n (words_from weight value bytes) ≡ drop n (words_in bytes)
passed_begun weight value n [] some = refl
passed_begun weight value n (byte ∷ bytes) some =
    let w = (weight * 128) % 2 ^ 64 in
    let v = (value + weight * (byte - 128)) % 2 ^ 64 in
    let y = (1 * 128) % 2 ^ 64 in
    let x = (0 + 1 * (byte - 128)) % 2 ^ 64 in
    passed_first (nat_lt byte 128) ((value + weight * byte) % 2 ^ 64) ((0 + 1 * byte) % 2 ^ 64)
    (words_in bytes) (words_from w v bytes) (words_from y x bytes) n some
    (passed_begun w v n bytes some ∙ sym (passed_begun y x n bytes some))

-- the last byte of a number is passed
pub passed_last : (n byte : ℕ) (bytes : List ℕ) → 0 < n → byte < 128
    → drop n (words_in (byte ∷ bytes)) ≡ drop (n - 1) (words_in bytes)
passed_last zero byte bytes some short = absurd (omega arith)
passed_last (suc n) byte bytes some short =
    let less : n ≡ suc n - 1 = omega arith in
    ap (drop (suc n)) (words-short byte bytes short) ∙ ap (λ k. drop k (words_in bytes)) less

-- a byte of a number that goes on is passed
pub passed_more : (n byte : ℕ) (bytes : List ℕ) → 0 < n → 128 ≤ byte
    → drop n (words_in (byte ∷ bytes)) ≡ drop n (words_in bytes)
passed_more n byte bytes some long =
    let y = (1 * 128) % 2 ^ 64 in
    let x = (0 + 1 * (byte - 128)) % 2 ^ 64 in
    ap (λ b. drop n (cond b (((0 + 1 * byte) % 2 ^ 64) ∷ words_in bytes) (words_from y x bytes)))
    (le-ltb byte 128 long)
    ∙ passed_begun y x n bytes some
