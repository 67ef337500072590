use Rattle.std.proofs.Common.{arith}
use Rattle.proved_programs.proofs.Families.{none_of, tried}
use Rattle.proved_programs.proofs.recognizing.algorithm_of.Goals as goal

pub returns-clause-none : goal.returns-clause-none
returns-clause-none c =
    none_of c.args.program.now c.loop-algorithm.algorithm-index
    (omega (arith, c.loop-algorithm-test.false, c.loop-algorithm.auto.algorithm-index-end))
    c.loop-algorithm.invariant

pub loop-algorithm-preserved : goal.loop-algorithm-preserved
loop-algorithm-preserved c =
    tried c.args.program.now c.loop-algorithm.algorithm-index _ c.in_ok-is_of.field-0
    c.loop-algorithm-test.true c.loop-algorithm.invariant c.in_ok-is_of.ensures c.if-branch.false
