use Rattle.std.proofs.Common.{sym, ◌∙◌, subst}
use Rattle.round_meaning.specs.Turn.{IsInbox}
use Rattle.round_meaning.proofs.Inboxes.{inbox_is}
use Rattle.round_meaning.proofs.rounds.next_state.Goals as goal

pub end_of-requires : goal.end_of-requires
end_of-requires c =
    let same = c.deref-2.ensures.value ∙ c.in_ok-inbox.ensures ∙ c.deref.ensures.value
    ∙ c.in_ok-received.ensures in
    subst IsInbox (sym same) (inbox_is _ _ _ _ _)
