-- Hex digits of bytes.
use Rattle.std.proofs.Common.{◌≡◌, ◌<◌, ◌/◌, ◌%◌, ◌∷◌, [], ℕ, List, arith, refl, true}
use Rattle.std.proofs.Common.{slice_index, suc, zero}
use Rattle.std.specs.List.{list_all}
use Rattle.hex.specs.Hex.{IsBytes, encode_lower, encode_with, lower_digits}
use Rattle.part_answers.specs.Questions.{is_hex_digit}

-- each digit of the table is one
digit_is : (n : ℕ) → n < 16 → is_hex_digit (slice_index lower_digits n) ≡ true
digit_is zero lt = refl
digit_is (suc zero) lt = refl
digit_is (suc (suc zero)) lt = refl
digit_is (suc (suc (suc zero))) lt = refl
digit_is (suc (suc (suc (suc zero)))) lt = refl
digit_is (suc (suc (suc (suc (suc zero))))) lt = refl
digit_is (suc (suc (suc (suc (suc (suc zero)))))) lt = refl
digit_is (suc (suc (suc (suc (suc (suc (suc zero))))))) lt = refl
digit_is (suc (suc (suc (suc (suc (suc (suc (suc zero)))))))) lt = refl
digit_is (suc (suc (suc (suc (suc (suc (suc (suc (suc zero))))))))) lt = refl
digit_is (suc (suc (suc (suc (suc (suc (suc (suc (suc (suc zero)))))))))) lt = refl
digit_is (suc (suc (suc (suc (suc (suc (suc (suc (suc (suc (suc zero))))))))))) lt = refl
digit_is (suc (suc (suc (suc (suc (suc (suc (suc (suc (suc (suc (suc zero)))))))))))) lt = refl
digit_is (suc (suc (suc (suc (suc (suc (suc (suc (suc (suc (suc (suc (suc zero))))))))))))) lt = refl
digit_is (suc (suc (suc (suc (suc (suc (suc (suc (suc (suc (suc (suc (suc (suc zero)))))))))))))) lt = refl
digit_is (suc (suc (suc (suc (suc (suc (suc (suc (suc (suc (suc (suc (suc (suc (suc zero))))))))))))))) lt = refl
digit_is (suc (suc (suc (suc (suc (suc (suc (suc (suc (suc (suc (suc (suc (suc (suc (suc n)))))))))))))))) lt =
    absurd (omega (arith, lt))

-- so the hex text of bytes has digits alone
pub encoded_are_digits : (bytes : List ℕ) → IsBytes bytes
    → list_all is_hex_digit (encode_lower bytes) ≡ true
unfolding encode_with
encoded_are_digits [] all = refl
encoded_are_digits (b ∷ rest) all =
    let small : b < 256 = all 0 in
    rw (digit_is (b / 16) (omega (arith, small)))
    (rw (digit_is (b % 16) (omega (arith, small)))
    (encoded_are_digits rest (λ i. all (suc i))))
