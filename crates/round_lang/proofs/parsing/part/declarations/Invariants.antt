use Rattle.std.proofs.Common.{length, ◌≤◌}
use Rattle.round_lang.specs.CodeTokens.{lexemes}
use Rattle.round_lang.proofs.Loops.{DeclaresOn}
use Rattle.round_lang.proofs.parsing.part.declarations.Given as goal

abbrev pub invariant-loop-parser : goal.invariant-loop-parser
invariant-loop-parser l =
    record {
      reads : DeclaresOn (lexemes l.tokens) l.declared.variables.items
          l.declared.decides.items (lexemes l.rest);
      fewer : length l.rest ≤ length l.tokens;
    }

abbrev pub decreases-loop-parser : goal.decreases-loop-parser
decreases-loop-parser l = length (lexemes l.rest)
