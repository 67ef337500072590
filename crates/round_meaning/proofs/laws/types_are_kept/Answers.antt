use Rattle.std.proofs.Common.{◌≤◌, ap, arith}
use Rattle.round_lang.specs.Syntax.{ProgramTree}
use Rattle.round_meaning.proofs.TypedStarts.{start_typed}
use Rattle.round_meaning.proofs.TypedTurns.{end_typed, send_typed}
use Rattle.round_meaning.proofs.laws.types_are_kept.Goals as goal

pub returns-clause-starts : goal.returns-clause-starts
returns-clause-starts c =
    let few : c.args.program.now.values ≤ 64 =
    omega (
      arith,
      c.values-values.ensures.value,
      c.values-values.ensures.few,
      ap (λ (p : ProgramTree). p.values) c.program.ensures,
    ) in
    start_typed c.args.program.now c.typed.ensures few

pub returns-clause-sends : goal.returns-clause-sends
returns-clause-sends c =
    let few : c.args.program.now.values ≤ 64 =
    omega (
      arith,
      c.values-values.ensures.value,
      c.values-values.ensures.few,
      ap (λ (p : ProgramTree). p.values) c.program.ensures,
    ) in
    send_typed c.args.program.now c.typed.ensures few

pub returns-clause-ends : goal.returns-clause-ends
returns-clause-ends c =
    let few : c.args.program.now.values ≤ 64 =
    omega (
      arith,
      c.values-values.ensures.value,
      c.values-values.ensures.few,
      ap (λ (p : ProgramTree). p.values) c.program.ensures,
    ) in
    end_typed c.args.program.now c.typed.ensures few
