use Rattle.std.proofs.Common.{arith}
use Rattle.std.specs.Fmt.{decimal}
use Rattle.std.proofs.lemmas.Result.{IfOk-weaker}
use Rattle.run_data.proofs.Plain.{name_pushed, quoted_digits}
use Rattle.run_data.proofs.line.Line.push_number_name.Goals as goal

pub returns : goal.returns
returns c =
    IfOk-weaker c.push_all.result _ _
    (λ _ e. name_pushed c.args.self.now (decimal c.args.number) c.push.new.self
    c.push_number.new.self c.push_all.new.self c.in_ok-push.ensures c.in_ok-push_number.ensures e
    (quoted_digits c.args.number (omega arith)))
    c.push_all.ensures
