use Rattle.std.proofs.Common.{◌≡◌, ◌∙◌, None, Some, arith, ap, false, sym, true}
use Rattle.std.specs.Result.{result_ok}
use Rattle.std.proofs.lemmas.Fmt.{parse-decimal}
use Rattle.std.proofs.lemmas.Slice.Eq.{bytes_eq-Decides}
use Rattle.part_answers.proofs.number.read_number.Goals as goal

pub returns-in_err-number-clause-none : goal.returns-in_err-number-clause-none
returns-in_err-number-clause-none c =
    rw c.from_residual.ensures (λ n small same.
    let parsed = parse-decimal 32 n c.args.text.now c.parse.result small (omega arith) same
    c.parse.ensures.value.0 in
    let some : c.ok.result ≡ Some n = c.ok.ensures.value ∙ ap result_ok parsed in
    let none : c.ok.result ≡ None = c.in_err-number.was in absurd (cc))

pub returns-else-eq-clause-none : goal.returns-else-eq-clause-none
returns-else-eq-clause-none c = λ n small same.
    let parsed = parse-decimal 32 n c.args.text.now c.parse.result small (omega arith) same
    c.parse.ensures.value.0 in
    let some : c.ok.result ≡ Some n = c.ok.ensures.value ∙ ap result_ok parsed in
    let found : c.ok.result ≡ Some c.in_ok-number.number = c.in_ok-number.was in
    let text : c.format.result.now ≡ c.args.text.now = cc c.format.ensures.text in
    let equal = (bytes_eq-Decides c.format.result.now c.args.text.now).1 text in
    let bad : true ≡ false = sym equal ∙ sym c.eq.ensures ∙ c.if-eq.false in absurd (cc bad)
