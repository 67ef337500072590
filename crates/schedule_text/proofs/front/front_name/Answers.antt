use Rattle.schedule_text.proofs.FirstLines.{front_release}
use Rattle.schedule_text.proofs.front.front_name.Goals as goal

pub returns : goal.returns
returns c =
    front_release c.args.text.now _ _ _ _ _ _ c.in_ok-from.ensures.number c.in_ok-to.ensures.number
    c.in_ok-round.ensures
