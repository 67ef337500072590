use Rattle.std.proofs.Common.{◌≡◌, ◌++◌, drop}
use Rattle.round_check.specs.Spelling.{packed}
use Rattle.round_check.proofs.packing.pack.Given as goal

abbrev pub invariant-loop-number : goal.invariant-loop-number
invariant-loop-number l = l.bytes.items ++ packed (drop l.number-index l.numbers) ≡ packed l.numbers
