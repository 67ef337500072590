use Rattle.std.proofs.Common.{◌∙◌, subst, sym}
use Rattle.exploration_texts.specs.Told.{IsKnown}
use Rattle.exploration_texts.proofs.EachTold.{all_if_safe, hold_if_safe, none_if_safe}
use Rattle.exploration_texts.proofs.answering.Search.answer.Goals as goal

pub returns-in-Hold : goal.returns-in-Hold
returns-in-Hold g c =
    hold_if_safe c.args.self.now c.args.property
    (sym c.is_of_safety.ensures ∙ c.if-is_of_safety.true)
    (subst (IsKnown c.args.self.now) c.in-Hold.is c.requires.known)

pub returns-in-NoneFound : goal.returns-in-NoneFound
returns-in-NoneFound g c =
    none_if_safe c.args.self.now c.in-NoneFound.made c.args.property
    (sym c.if-is_of_safety-2.ensures)
    (subst (IsKnown c.args.self.now) c.in-NoneFound.is c.requires.known)

pub returns-in-HoldInAllRounds : goal.returns-in-HoldInAllRounds
returns-in-HoldInAllRounds g c =
    all_if_safe c.args.self.now c.args.property
    (sym c.if-is_of_safety-3.ensures)
    (subst (IsKnown c.args.self.now) c.in-HoldInAllRounds.is c.requires.known)
