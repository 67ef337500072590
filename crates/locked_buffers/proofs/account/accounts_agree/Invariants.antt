use Rattle.std.proofs.Common.{ℕ, ◌<◌, get_or}
use Rattle.locked_buffers.specs.Accounts.{IsAccountOf}
use Rattle.locked_buffers.specs.Seats.{Account}
use Rattle.locked_buffers.proofs.account.accounts_agree.Given as goal

abbrev pub invariant-loop-node : goal.invariant-loop-node
invariant-loop-node g l = (i : ℕ) (d : Account) → i < l.node
    → IsAccountOf (g.P.Plan.start l.book.plan) l.book.log i (get_or l.seats i d)
