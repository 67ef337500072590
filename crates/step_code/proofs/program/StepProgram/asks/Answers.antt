use Rattle.step_code.proofs.Answering.{asked_part}
use Rattle.step_code.proofs.program.StepProgram.asks.Goals as goal

pub returns-clause-holds : goal.returns-clause-holds
returns-clause-holds c =
    λ env h. (asked_part c.args.self.now c.args.round c.args.block.now c.args.code.now
    c.requires.part env c.args.room.now c.run.new.self c.values.result c.deref.result.now
    c.word.result c.values.ensures.value c.deref.ensures.value c.run.ensures.words c.word.ensures
    h).0

pub returns-clause-stays : goal.returns-clause-stays
returns-clause-stays c =
    λ env h. (asked_part c.args.self.now c.args.round c.args.block.now c.args.code.now
    c.requires.part env c.args.room.now c.run.new.self c.values.result c.deref.result.now
    c.word.result c.values.ensures.value c.deref.ensures.value c.run.ensures.words c.word.ensures
    h).1
