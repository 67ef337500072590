use Rattle.std.proofs.Common.{◌∙◌, ap}
use Rattle.step_book.specs.Mailing.{Mailed}
use Rattle.step_book.proofs.Mails.{handed_cut}
use Rattle.step_book.proofs.mailbox.Mailbox.forget.Goals as goal

pub returns-clause-handed : goal.returns-clause-handed
returns-clause-handed c = handed_cut c.self.invariant _ c.truncate.ensures.items
    ∙ ap (λ (m : Mailed). m.handed) c.self.view_is
