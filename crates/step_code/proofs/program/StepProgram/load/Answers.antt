use Rattle.std.proofs.Common.{◌+◌, ap, subst, arith, length, List, ℕ}
use Rattle.step_code.specs.Relation.{Filled}
use Rattle.step_code.specs.Layout.{state_place}
use Rattle.step_code.proofs.Answering.{state_fits}
use Rattle.step_code.proofs.Safe.{message_within}
use Rattle.step_code.proofs.Turning.{loaded}
use Rattle.step_code.proofs.program.StepProgram.load.Goals as goal

pub fill-requires : goal.fill-requires
fill-requires c =
    omega (
      arith,
      ap length c.as_words.ensures.words,
      state_fits c.args.self.now c.args.state.now c.requires.state,
      c.values.ensures.value,
      c.set_env.ensures.words.long,
      c.requires.room.long,
      message_within c.args.self.now,
    )

pub returns : goal.returns
returns c =
    let f = subst (λ n. Filled (13 + n) c.as_words.result.now c.set_env.new.room c.fill.new.self)
    c.values.ensures.value c.fill.ensures in
    let filled =
    subst (λ (l : List ℕ). Filled (state_place c.args.self.now.values) l c.set_env.new.room
    c.fill.new.self) c.as_words.ensures.words f in
    loaded c.args.self.now c.args.setup.now.nodes c.args.setup.now.faults c.args.round c.args.me
    c.args.dest c.args.state.now c.args.room.now c.set_env.new.room c.fill.new.self
    c.requires.room c.set_env.ensures.words filled c.requires.state c.as_words.ensures.small
    c.set_env.ensures.small
