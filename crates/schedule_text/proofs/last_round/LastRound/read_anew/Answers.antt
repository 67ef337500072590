use Rattle.std.proofs.Common.{refl, arith}
use Rattle.schedule_text.proofs.Rounds.{round_kept}
use Rattle.schedule_text.proofs.last_round.LastRound.read_anew.Goals as goal

pub invariant_of-self : goal.invariant_of-self
invariant_of-self c =
    round_kept c.args.text.now c.in_ok-round.rest.now c.args.word _ _ c.in_ok-round.ensures.number
    refl c.if-length-le-KEPT.true (omega (arith, c.requires.long))
    (λ i. omega (arith, c.type_inv.text i)) c.requires.word
