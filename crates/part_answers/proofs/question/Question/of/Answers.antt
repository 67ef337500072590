use Rattle.std.proofs.Common.{◌≡◌, arith, rules}
use Rattle.hex.specs.Hex.{IsBytes, encode_lower}
use Rattle.part_answers.proofs.HexDigits.{encoded_are_digits}
use Rattle.part_answers.proofs.question.Question.of.Goals as goal

pub invariant_of-result : goal.invariant_of-result
invariant_of-result c =
    let bytes : IsBytes c.args.digest.now = λ i. let fits = c.fits-digest i in omega arith in
    let is : c.encode_to_slice-encoded.new.output ≡ encode_lower c.args.digest.now =
    search rules in
    rw is (encoded_are_digits c.args.digest.now bytes)
