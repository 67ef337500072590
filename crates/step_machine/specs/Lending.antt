-- What a node is when the round's end that it lent is given back.
use Rattle.std.specs.Prelude.{⊤}
use mathlib.Core.Option.{none}
use Rattle.std.specs.Borrow.{MutBor, Fml, follows_so}
use Rattle.step_machine.specs.Nodes.{IsEnd, IsSameTurn}
use Rattle.step_machine.specs.declared.node.finished.Finished.{Finished}
use Rattle.step_machine.specs.declared.node.Node.{Node}
use Rattle.step_machine.specs.contracts.node.Node.{the_row}

-- all but its next state is as it was, and that is the round's end
abbrev pub LeavesEnded : MutBor Node → Finished → Fml
LeavesEnded s r = follows_so the_row the_row s.ghost_name none (λ _ _. ⊤) (λ n.
    IsSameTurn s.now n × IsEnd n)
