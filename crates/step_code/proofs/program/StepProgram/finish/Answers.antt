use Rattle.std.proofs.Common.{refl}
use Rattle.step_code.proofs.Answering.{closed_none, closed_part}
use Rattle.step_code.proofs.program.StepProgram.finish.Goals as goal

pub returns-in-Some : goal.returns-in-Some
returns-in-Some c = λ s i old inbox h.
    closed_part c.args.self.now c.args.round c.in-Some.part.block.now c.in-Some.part.code.now
    c.in-Some.ensures.some s i old inbox c.values.result c.deref.result.now c.args.room.now
    c.run.new.self c.values.ensures.value c.deref.ensures.value c.run.ensures.words h

pub returns-in_default : goal.returns-in_default
returns-in_default c = λ s i old inbox h.
    closed_none c.args.self.now c.args.round s i old inbox c.args.room.now
    (c.in_default.ensures.none refl) h
