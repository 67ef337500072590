use Rattle.std.proofs.Common.{ap, arith, length}
use Rattle.step_book.specs.Mailing.{Mailed}
use Rattle.step_book.proofs.Mails.{parts_len}
use Rattle.step_book.proofs.mailbox.Mailbox.receives.Goals as goal

pub returns : goal.returns
returns c =
    let all = parts_len 0 c.self.inside.ends.items c.self.inside.names.items in
    let seen = ap (λ (m : Mailed). length m.handed) c.self.view_is in
    let size = c.len.ensures in
    omega arith
