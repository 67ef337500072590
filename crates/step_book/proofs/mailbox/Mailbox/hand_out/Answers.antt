use Rattle.std.proofs.Common.{[], ◌∷◌, ◌++◌, ◌∙◌, ap, arith}
use Rattle.step_book.specs.Mailing.{Mailed}
use Rattle.step_book.proofs.Mails.{handed_more, mail_handed}
use Rattle.step_book.proofs.mailbox.Mailbox.hand_out.Goals as goal

pub invariant_of-self-2 : goal.invariant_of-self-2
invariant_of-self-2 c = mail_handed c.self.invariant _ _ (let size = c.len-count.ensures in
    omega arith) (c.push_reserved.ensures.items
    ∙ ap (λ ns. ns ++ c.len-count.result ∷ []) c.room.ensures.same)

pub returns-clause-handed : goal.returns-clause-handed
returns-clause-handed c =
    handed_more c.self.invariant _ _ (let size = c.len-count.ensures in
    omega arith) (c.push_reserved.ensures.items
    ∙ ap (λ ns. ns ++ c.len-count.result ∷ []) c.room.ensures.same)
    ∙ ap (λ (m : Mailed). m.handed ++ m.waiting ∷ []) c.self.view_is
