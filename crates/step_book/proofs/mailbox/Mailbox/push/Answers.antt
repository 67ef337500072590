use Rattle.std.proofs.Common.{[], ◌∷◌, ◌++◌, ◌∙◌, List, ap}
use Rattle.run_events.specs.declared.name.Name.{Name}
use Rattle.step_book.specs.Mailing.{Mailed}
use Rattle.step_book.proofs.Mails.{handed_grown}
use Rattle.step_book.proofs.mailbox.Mailbox.push.Goals as goal

pub returns-clause-handed : goal.returns-clause-handed
returns-clause-handed c = handed_grown c.self.invariant _ _ (c.push_reserved.ensures.items
    ∙ ap (λ (ns : List Name). ns ++ c.new.result ∷ []) c.room.ensures.same)
    ∙ ap (λ (m : Mailed). m.handed) c.self.view_is
