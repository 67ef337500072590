use Rattle.std.proofs.Common.{◌-◌, length}
use Rattle.round_lang.specs.CodeTokens.{lexemes}
use Rattle.round_lang.proofs.Scanned.{Scanned}
use Rattle.round_lang.proofs.lexing.tokens.Given as goal

abbrev pub invariant-loop-at : goal.invariant-loop-at
invariant-loop-at l = Scanned l.text l.at (lexemes l.out.items)

abbrev pub decreases-loop-at : goal.decreases-loop-at
decreases-loop-at l = length l.text - l.at
