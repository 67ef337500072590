use Rattle.std.proofs.lemmas.Result.{IfOk-weaker}
use Rattle.run_data.proofs.Lines.{count_made}
use Rattle.run_data.proofs.report_lines.push_count.Goals as goal

pub returns : goal.returns
returns c =
    IfOk-weaker c.push.result _ _
    (λ _ e. count_made c.args.node c.args.count c.args.line.now c.push_labelled.new.self
    c.push_labelled-2.new.self c.push_labelled-3.new.self c.push.new.self
    c.in_ok-push_labelled.ensures c.in_ok-push_labelled-2.ensures c.in_ok-push_labelled-3.ensures
    e)
    c.push.ensures
