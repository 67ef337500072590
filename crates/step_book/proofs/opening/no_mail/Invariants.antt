use Rattle.std.proofs.Common.{◌≡◌, [], replicate}
use Rattle.step_book.specs.Mailing.{mailed}
use Rattle.step_book.proofs.opening.no_mail.Given as goal

abbrev pub invariant-loop-node : goal.invariant-loop-node
invariant-loop-node l = l.mails.items ≡ replicate l._node (mailed [] [] 0)
