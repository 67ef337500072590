use Rattle.std.proofs.Common.{◌∙◌, arith, refl}
use Rattle.std.proofs.lemmas.Result.{IfOk-weaker}
use Rattle.step_code.proofs.Answering.{free_fits, free_is, kinds_read, of_round, said_part}
use Rattle.step_code.proofs.Safe.{message_from}
use Rattle.step_code.proofs.program.StepProgram.says.Goals as goal

pub values-requires-2-clause-order : goal.values-requires-2-clause-order
values-requires-2-clause-order c =
    omega (
      arith,
      c.message_place.ensures.place,
      free_is c.args.self.now c.args.round c.args.block.now c.args.code.now c.requires.part,
      message_from c.args.self.now c.args.block.now,
    )

pub values-requires-2-clause-within : goal.values-requires-2-clause-within
values-requires-2-clause-within c =
    omega (
      arith,
      c.run.ensures.long,
      free_fits c.args.self.now c.args.round c.args.block.now c.args.code.now c.requires.part
          c.args.room.now c.requires.ready.1.room.long,
    )

pub values-requires-2-clause-spelled : goal.values-requires-2-clause-spelled
values-requires-2-clause-spelled c =
    (said_part c.args.self.now c.args.round c.args.block.now c.args.code.now c.requires.part
    c.requires.ready.0 c.args.room.now c.run.new.self c.values.result c.deref.result.now
    c.shape-shape.result.now c.message_place.result c.args.code.now.free c.values.ensures.value
    c.deref.ensures.value c.run.ensures.words c.shape-shape.ensures
    c.message_place.ensures.place refl c.requires.ready.1).2

pub returns-clause-message : goal.returns-clause-message
returns-clause-message c = λ env h.
    let said = said_part c.args.self.now c.args.round c.args.block.now c.args.code.now
    c.requires.part env c.args.room.now c.run.new.self c.values.result c.deref.result.now
    c.shape-shape.result.now c.message_place.result c.args.code.now.free c.values.ensures.value
    c.deref.ensures.value c.run.ensures.words c.shape-shape.ensures
    c.message_place.ensures.place refl h in
    IfOk-weaker c.values-2.result _ _ (λ v e. e ∙ said.1) c.values-2.ensures

pub returns-clause-room : goal.returns-clause-room
returns-clause-room c =
    (said_part c.args.self.now c.args.round c.args.block.now c.args.code.now c.requires.part
    c.requires.ready.0 c.args.room.now c.run.new.self c.values.result c.deref.result.now
    c.shape-shape.result.now c.message_place.result c.args.code.now.free c.values.ensures.value
    c.deref.ensures.value c.run.ensures.words c.shape-shape.ensures
    c.message_place.ensures.place refl c.requires.ready.1).0

pub returns-clause-kinds : goal.returns-clause-kinds
returns-clause-kinds c =
    let said = said_part c.args.self.now c.args.round c.args.block.now c.args.code.now
    c.requires.part c.requires.ready.0 c.args.room.now c.run.new.self c.values.result
    c.deref.result.now c.shape-shape.result.now c.message_place.result c.args.code.now.free
    c.values.ensures.value c.deref.ensures.value c.run.ensures.words c.shape-shape.ensures
    c.message_place.ensures.place refl c.requires.ready.1 in
    IfOk-weaker c.values-2.result _ _
    (λ v e. of_round c.args.self.now c.args.round c.args.block.now _ v c.requires.part.at
    (kinds_read _ _ v e said.2) c.shape-shape.ensures) c.values-2.ensures
