use Rattle.std.proofs.Common.{◌≡◌, ◌∙◌, ◌+◌, ◌<◌, ◌^◌, ap, subst, arith, [], ◌∷◌}
use Rattle.step_code.specs.Relation.{Filled}
use Rattle.step_code.proofs.Answering.{begun_state}
use Rattle.step_code.proofs.Safe.{room_long}
use Rattle.step_code.proofs.program.StepProgram.start.Goals as goal

pub fill-requires : goal.fill-requires
fill-requires c = omega (
  arith,
  c.set_env.ensures.words.long,
  c.requires.long,
  c.values-k.ensures.value,
  room_long c.args.self.now,
)

pub returns : goal.returns
returns c =
    let x : c.from.result ≡ c.of.result = c.from.ensures in
    let f = subst (λ n. Filled (12 + c.values-k.result) (n ∷ []) c.set_env.new.room c.fill.new.self)
    (x ∙ c.of.ensures) c.fill.ensures in
    let small = subst (λ n. n < 2 ^ 32) c.of.ensures c.of.type_inv in
    record {
      state = begun_state c.args.self.now c.args.setup.now.nodes c.args.setup.now.faults _
          c.args.me c.values-k.result (12 + c.values-k.result) c.init_code.result.now
          c.args.room.now
          c.set_env.new.room c.fill.new.self c.run.new.self c.init_code.ensures.typed
          c.init_code.ensures.numbers c.values-k.ensures.value c.init_code.ensures.code
          (ap (λ n. 12 + n) c.values-k.ensures.value) c.requires c.set_env.ensures.words f small
          c.set_env.ensures.small c.run.ensures.words;
    }
