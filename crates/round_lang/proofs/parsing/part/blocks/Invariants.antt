use Rattle.std.proofs.Common.{length, ◌≤◌}
use Rattle.round_lang.specs.CodeTokens.{lexemes}
use Rattle.round_lang.proofs.Loops.{BlocksOn}
use Rattle.round_lang.proofs.parsing.part.blocks.Given as goal

abbrev pub invariant-loop-next : goal.invariant-loop-next
invariant-loop-next l =
    record {
      reads : BlocksOn (lexemes l.tokens) l.blocks.items (lexemes l.rest);
      fewer : length l.rest ≤ length l.tokens;
    }

abbrev pub decreases-loop-next : goal.decreases-loop-next
decreases-loop-next l = length (lexemes l.rest)
