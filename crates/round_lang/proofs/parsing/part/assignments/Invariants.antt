use Rattle.std.proofs.Common.{length, ◌≤◌}
use Rattle.round_lang.specs.CodeTokens.{lexemes}
use Rattle.round_lang.proofs.Loops.{AssignsOn}
use Rattle.round_lang.proofs.parsing.part.assignments.Given as goal

abbrev pub invariant-loop-parser : goal.invariant-loop-parser
invariant-loop-parser l =
    record {
      reads : AssignsOn (lexemes l.tokens) l.assignments.items (lexemes l.rest);
      fewer : length l.rest ≤ length l.tokens;
    }

abbrev pub decreases-loop-parser : goal.decreases-loop-parser
decreases-loop-parser l = length (lexemes l.rest)
