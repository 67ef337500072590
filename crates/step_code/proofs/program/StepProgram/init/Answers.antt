use Rattle.std.proofs.Common.{◌∙◌, ◌+◌, ap, sym}
use Rattle.std.proofs.lemmas.Result.{IfOk-weaker}
use Rattle.round_check.specs.Shapes.{state_kinds}
use Rattle.step_code.proofs.Answering.{init_is, kinds_read, state_read}
use Rattle.step_code.proofs.program.StepProgram.init.Goals as goal

pub returns-clause-state : goal.returns-clause-state
returns-clause-state c =
    let read = state_read c.args.self.now _ c.start.new.room c.state_shape.result.now
    (13 + c.values.result) c.message_place.result (c.state_shape.ensures
    ∙ ap state_kinds c.program.ensures) (ap (λ n. 13 + n) c.values.ensures.value)
    c.message_place.ensures.place c.start.ensures.state in
    IfOk-weaker c.values-2.result _ _ (λ v e. e ∙ read.0
    ∙ sym (init_is c.args.self.now c.args.setup.now c.args.me)) c.values-2.ensures

pub returns-clause-kinds : goal.returns-clause-kinds
returns-clause-kinds c =
    let kinds = c.state_shape.ensures ∙ ap state_kinds c.program.ensures in
    let read = state_read c.args.self.now _ c.start.new.room c.state_shape.result.now
    (13 + c.values.result) c.message_place.result kinds
    (ap (λ n. 13 + n) c.values.ensures.value) c.message_place.ensures.place
    c.start.ensures.state in
    IfOk-weaker c.values-2.result _ _ (λ v e. kinds_read _ _ v e read.1 ∙ kinds) c.values-2.ensures
