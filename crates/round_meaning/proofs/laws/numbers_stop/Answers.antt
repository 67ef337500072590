use Rattle.std.proofs.Common.{ap, arith}
use Rattle.round_lang.specs.declared.value.Value.TheVariants.{Num}
use Rattle.round_meaning.proofs.laws.numbers_stop.Goals as goal

pub returns-clause-sums_exact : goal.returns-clause-sums_exact
returns-clause-sums_exact c = λ a b env fits. ap Num (omega arith)

pub returns-clause-sums_stop : goal.returns-clause-sums_stop
returns-clause-sums_stop c = λ a b env past. ap Num (omega arith)

pub returns-clause-differences_exact : goal.returns-clause-differences_exact
returns-clause-differences_exact c = λ a b env. ap Num (omega arith)

pub returns-clause-differences_stop : goal.returns-clause-differences_stop
returns-clause-differences_stop c = λ a b env below. ap Num (omega arith)
