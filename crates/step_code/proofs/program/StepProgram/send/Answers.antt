use Rattle.std.proofs.Common.{◌≡◌, ◌∙◌, ap, sym, refl, Option, Some, None, cond, map, List}
use Rattle.round_lang.specs.Syntax.{BlockTree}
use Rattle.round_lang.specs.Tree.{Tree}
use Rattle.round_lang.specs.declared.value.Value.{Value}
use Rattle.round_meaning.specs.Meaning.{value}
use Rattle.round_meaning.specs.Turn.{node_env, sent, with_dest, with_vars}
use Rattle.step_code.proofs.Answering.{send_is}
use Rattle.step_code.proofs.Turning.{sending}
use Rattle.step_code.proofs.program.StepProgram.send.Goals as goal

pub returns-in_default-clause-message : goal.returns-in_default-clause-message
returns-in_default-clause-message c =
    let env = with_vars c.args.state.now
    (with_dest c.args.dest
    (node_env c.args.self.now c.args.setup.now.nodes c.args.setup.now.faults c.args.round
    c.args.me)) in
    ap (λ (o : Option BlockTree). sent o env) (sym (c.in_default.ensures.none refl))
    ∙ sym (send_is c.args.self.now c.args.setup.now c.args.round c.args.state.now c.args.me
    c.args.dest)

pub returns-then-not-asks-clause-message : goal.returns-then-not-asks-clause-message
returns-then-not-asks-clause-message c =
    let b = c.in-Some.part.block.now in
    let env = with_vars c.args.state.now
    (with_dest c.args.dest
    (node_env c.args.self.now c.args.setup.now.nodes c.args.setup.now.faults c.args.round
    c.args.me)) in
    let ready = sending c.args.self.now c.args.setup.now.nodes c.args.setup.now.faults c.args.round
    c.args.me c.args.dest c.args.state.now c.load.new.room c.load.ensures in
    let no = sym c.if-not-asks.true ∙ c.asks.ensures.holds env ready in
    let ms = map (λ (e : Tree). value e env) b.sent in
    let none : ◌≡◌ {A = Option (List Value)} None (sent (Some b) env) =
    ap (λ t. cond t (Some ms) None) no in
    none ∙ ap (λ (o : Option BlockTree). sent o env) (sym c.in-Some.ensures.some.at)
    ∙ sym (send_is c.args.self.now c.args.setup.now c.args.round c.args.state.now c.args.me
    c.args.dest)

pub returns-then-not-asks-clause-room : goal.returns-then-not-asks-clause-room
returns-then-not-asks-clause-room c =
    let env = with_vars c.args.state.now
    (with_dest c.args.dest
    (node_env c.args.self.now c.args.setup.now.nodes c.args.setup.now.faults c.args.round
    c.args.me)) in
    (c.asks.ensures.stays env
    (sending c.args.self.now c.args.setup.now.nodes c.args.setup.now.faults c.args.round
    c.args.me c.args.dest c.args.state.now c.load.new.room c.load.ensures)).room

pub says-requires-clause-ready : goal.says-requires-clause-ready
says-requires-clause-ready c =
    let env = with_vars c.args.state.now
    (with_dest c.args.dest
    (node_env c.args.self.now c.args.setup.now.nodes c.args.setup.now.faults c.args.round
    c.args.me)) in (
      env,
      c.asks.ensures.stays env
          (sending c.args.self.now c.args.setup.now.nodes c.args.setup.now.faults c.args.round
          c.args.me c.args.dest c.args.state.now c.load.new.room c.load.ensures),
    )

pub returns-clause-message : goal.returns-clause-message
returns-clause-message c =
    let b = c.in-Some.part.block.now in
    let env = with_vars c.args.state.now
    (with_dest c.args.dest
    (node_env c.args.self.now c.args.setup.now.nodes c.args.setup.now.faults c.args.round
    c.args.me)) in
    let ready = sending c.args.self.now c.args.setup.now.nodes c.args.setup.now.faults c.args.round
    c.args.me c.args.dest c.args.state.now c.load.new.room c.load.ensures in
    let yes = sym c.if-not-asks.false ∙ c.asks.ensures.holds env ready in
    let after = c.asks.ensures.stays env ready in
    let ms = map (λ (e : Tree). value e env) b.sent in
    let some : Some ms ≡ sent (Some b) env = ap (λ t. cond t (Some ms) None) yes in
    ap Some (c.in_ok-says.ensures.message env after) ∙ some
    ∙ ap (λ (o : Option BlockTree). sent o env) (sym c.in-Some.ensures.some.at)
    ∙ sym (send_is c.args.self.now c.args.setup.now c.args.round c.args.state.now c.args.me
    c.args.dest)
