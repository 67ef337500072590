use Rattle.std.proofs.Common.{arith}
use Rattle.round_lang.proofs.LeastWords.{words_read}
use Rattle.round_lang.proofs.Nesting.{parse_nests}
use Rattle.round_lang.proofs.parsing.expression.formula.Goals as goal

pub known-requires-clause-shallow : goal.known-requires-clause-shallow
known-requires-clause-shallow c = parse_nests _ _ _ _ _ _ c.in_ok-expr.ensures.gives

pub known-requires-clause-short : goal.known-requires-clause-short
known-requires-clause-short c =
    omega (
      arith,
      words_read _ _ c.args.tokens.now _ _ c.in_ok-expr.rest.now
          c.in_ok-expr.ensures.gives,
      c.requires,
    )

pub returns-clause-fewer : goal.returns-clause-fewer
returns-clause-fewer c =
    omega (
      arith,
      words_read _ _ c.args.tokens.now _ _ c.in_ok-expr.rest.now
          c.in_ok-expr.ensures.gives,
    )
