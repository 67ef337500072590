use Rattle.std.proofs.Common.{◌∙◌, ◌+◌, ap}
use Rattle.step_code.proofs.Answering.{kinds_read, state_read}
use Rattle.step_code.proofs.program.StepProgram.end.Goals as goal

pub give-requires-clause-spelled : goal.give-requires-clause-spelled
give-requires-clause-spelled c =
    let t = c.requires.turn in
    (state_read c.args.self.now _ c.finish.new.room _
    (13 + c.values.result) c.message_place.result c.requires.state
    (ap (λ n. 13 + n) c.values.ensures.value) c.message_place.ensures.place
    (c.finish.ensures t.setup t.me t.old t.inbox t.turn)).1

pub returns-clause-kinds : goal.returns-clause-kinds
returns-clause-kinds c =
    let t = c.requires.turn in
    let read = state_read c.args.self.now _ c.finish.new.room _
    (13 + c.values.result) c.message_place.result c.requires.state
    (ap (λ n. 13 + n) c.values.ensures.value) c.message_place.ensures.place
    (c.finish.ensures t.setup t.me t.old t.inbox t.turn) in
    kinds_read _ _ c.give.new.vars c.give.ensures read.1 ∙ c.requires.state
