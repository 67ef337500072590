-- The first word of a line, read as one number.
use Rattle.std.proofs.Common.{◌≡◌, ℕ, ◌-◌, ◌<◌, ◌≤◌, List, [], ◌∷◌, ◌++◌, length, take, drop}
use Rattle.std.proofs.Common.{suc, zero, get_or, codes, w32, w64, sym, ap, ◌∙◌, arith, length-drop}
use Rattle.std.proofs.Common.{length-take}
use Rattle.std.specs.Int.{from_le_bytes, to_le_bytes}
use Rattle.std.proofs.lemmas.List.{take_all, take-append-drop, drop_more}
use Rattle.std.proofs.lemmas.Nat.{le_bytes_4, le_bytes_8}

-- bytes at the front of others
pub bytes-take : (n : ℕ) (t : List ℕ) → ((i : ℕ) → get_or t i 0 < 256) → (i : ℕ)
    → get_or (take n t) i 0 < 256
bytes-take zero t bytes i = omega arith
bytes-take (suc n) [] bytes i = omega arith
bytes-take (suc n) (x ∷ xs) bytes zero = bytes 0
bytes-take (suc n) (x ∷ xs) bytes (suc i) = bytes-take n xs (λ j. bytes (suc j)) i

module _ (t word rest : List ℕ) (m n : ℕ) (bytes : (i : ℕ)
    → get_or t i 0 < 256) (same : m ≡ n) where
  pub begins_release : 8 ≤ length t → word ≡ take 8 t → rest ≡ drop 8 t → m ≡ from_le_bytes w64 word
      → n ≡ from_le_bytes w64 (codes "release ") → t ≡ codes "release " ++ rest
  begins_release long word-is rest-is m-is n-is =
      let read = m-is ∙ ap (from_le_bytes w64) word-is in
      let front : take 8 t ≡ codes "release " =
      sym (le_bytes_8 (take 8 t) m (omega (arith, length-take 8 t)) (bytes-take 8 t bytes) read)
      ∙ ap (to_le_bytes w64) (same ∙ n-is) in
      sym (take-append-drop 8 t) ∙ ap (λ l. l ++ drop 8 t) front
      ∙ ap (λ l. codes "release " ++ l) (sym rest-is)

  pub begins_step : 5 ≤ length t → word ≡ take 4 t → rest ≡ drop 4 t → m ≡ from_le_bytes w32 word
      → n ≡ from_le_bytes w32 (codes "step") → get_or rest 0 0 ≡ 32
      → t ≡ codes "step " ++ take (length rest - 1) (drop 1 rest)
  begins_step long word-is rest-is m-is n-is space =
      let read = m-is ∙ ap (from_le_bytes w32) word-is in
      let front : take 4 t ≡ codes "step" =
      sym (le_bytes_4 (take 4 t) m (omega (arith, length-take 4 t)) (bytes-take 4 t bytes) read)
      ∙ ap (to_le_bytes w32) (same ∙ n-is) in
      let some : 0 < length rest = omega (arith, ap length rest-is, length-drop 4 t) in
      let behind : rest ≡ 32 ∷ drop 1 rest = drop_more rest 0 0 some
      ∙ ap (λ x. x ∷ drop 1 rest) space in
      let whole : take (length rest - 1) (drop 1 rest) ≡ drop 1 rest =
      take_all (length rest - 1) (drop 1 rest) (omega (arith, length-drop 1 rest)) in
      sym (take-append-drop 4 t) ∙ ap (λ l. l ++ drop 4 t) front
      ∙ ap (λ l. codes "step" ++ l) (sym rest-is ∙ behind)
      ∙ ap (λ l. codes "step " ++ l) (sym whole)
