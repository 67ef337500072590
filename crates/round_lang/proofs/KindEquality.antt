-- `==` on kinds tells equal ones.
use Rattle.std.proofs.Common.{◌≡◌, Decides, rules}
use Rattle.round_lang.specs.declared.kind.Kind.{Kind}
use Rattle.round_lang.specs.declared.kind.Kind.TheVariants.{Num, Flag, Set, Row}
use Rattle.round_lang.specs.contracts.kind.KindPartialEq.TheImpl.{eq-value}

pub kind_decides : (a b : Kind) → Decides (eq-value.it a b) (a ≡ b)
kind_decides Num Num = search rules
kind_decides Num Flag = search rules
kind_decides Num Set = search rules
kind_decides Num (Row n) = search rules
kind_decides Flag Num = search rules
kind_decides Flag Flag = search rules
kind_decides Flag Set = search rules
kind_decides Flag (Row n) = search rules
kind_decides Set Num = search rules
kind_decides Set Flag = search rules
kind_decides Set Set = search rules
kind_decides Set (Row n) = search rules
kind_decides (Row m) Num = search rules
kind_decides (Row m) Flag = search rules
kind_decides (Row m) Set = search rules
kind_decides (Row m) (Row n) = search rules
