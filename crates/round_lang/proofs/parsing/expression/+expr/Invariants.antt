use Rattle.std.proofs.Common.{◌+◌, ◌-◌, ◌*◌}
use Rattle.round_lang.specs.CodeTokens.{lexemes}
use Rattle.round_lang.specs.Tree.{tree_of}
use Rattle.round_lang.proofs.Descent.{rank, GoesOn}
use Rattle.round_lang.specs.declared.parsing.level.Level.TheVariants.{Whole, Negation, Comparison}
use Rattle.round_lang.specs.declared.parsing.level.Level.TheVariants.{Postfix}
use Rattle.round_lang.proofs.parsing.expression.+expr.Given as goal

abbrev pub decreases-read : goal.decreases-read
decreases-read l = 24 * l.room + 18

abbrev pub decreases-at_level : goal.decreases-at_level
decreases-at_level l = 24 * (l.inner + 1) + (2 * rank l.level + 1)

abbrev pub decreases-whole : goal.decreases-whole
decreases-whole l = 24 * (l.inner + 1) + 2 * rank Whole

abbrev pub decreases-chain : goal.decreases-chain
decreases-chain l = 24 * (l.inner + 1) + 2 * rank l.level

abbrev pub decreases-comparison : goal.decreases-comparison
decreases-comparison l = 24 * (l.inner + 1) + 2 * rank Comparison

abbrev pub decreases-negation : goal.decreases-negation
decreases-negation l = 24 * (l.inner + 1) + 2 * rank Negation

abbrev pub decreases-postfix : goal.decreases-postfix
decreases-postfix l = 24 * (l.inner + 1) + 2 * rank Postfix

abbrev pub decreases-atom : goal.decreases-atom
decreases-atom l = 24 * (l.inner + 1)

abbrev pub decreases-call : goal.decreases-call
decreases-call l = 24 * l.inner + 20

abbrev pub decreases-has : goal.decreases-has
decreases-has l = 24 * l.inner + 20

abbrev pub decreases-brackets : goal.decreases-brackets
decreases-brackets l = 24 * l.inner + 20

abbrev pub decreases-set_of : goal.decreases-set_of
decreases-set_of l = 24 * l.inner + 20

abbrev pub decreases-row_of : goal.decreases-row_of
decreases-row_of l = 24 * l.inner + 20

abbrev pub decreases-closed : goal.decreases-closed
decreases-closed l = 24 * l.inner + 19

abbrev pub invariant-chain-loop-operator : goal.invariant-chain-loop-operator
invariant-chain-loop-operator l =
    GoesOn l.inner l.level (lexemes l.tokens) (tree_of l.left) l.depth (lexemes l.rest)

abbrev pub decreases-chain-loop-operator : goal.decreases-chain-loop-operator
decreases-chain-loop-operator l = l.inner + 1 - l.depth
