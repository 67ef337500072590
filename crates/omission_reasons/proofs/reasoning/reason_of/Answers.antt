use Rattle.std.proofs.Common.{◌≡◌, ◌∙◌, refl, sym}
use Rattle.step_book.specs.Log.{mark_in}
use Rattle.step_book.specs.declared.mark.Mark.TheVariants as mark
use Rattle.omission_reasons.specs.Reasons.{IsReason}
use Rattle.omission_reasons.proofs.Telling.{flying_told, gone_told, lost_gone, released_gone}
use Rattle.omission_reasons.proofs.Telling.{silent_told, some_matched, unsent_reason, unsent_told}
use Rattle.omission_reasons.proofs.reasoning.reason_of.Goals as goal

pub returns-in-Unsent-clause-reason : goal.returns-in-Unsent-clause-reason
returns-in-Unsent-clause-reason g c =
    unsent_reason (g.P.Plan.start c.args.book.now.plan) c.args.book.now.log c.args.name
    c.reason_of_unmade.result (sym c.mark.ensures ∙ c.in-Unsent.is) c.reason_of_unmade.ensures.told
    c.reason_of_unmade.ensures.reason

pub returns-in-Unsent-clause-told : goal.returns-in-Unsent-clause-told
returns-in-Unsent-clause-told g c =
    let both = unsent_told (g.P.Plan.start c.args.book.now.plan) c.args.book.now.log c.args.name
    c.requires.name (c.is_omitted.ensures.0 c.if-not-is_omitted.false) (sym c.mark.ensures
    ∙ c.in-Unsent.is) in (
      λ s. both.0 (c.reason_of_unmade.ensures.told.0 s),
      λ r. c.reason_of_unmade.ensures.told.1 (both.1 r),
    )

pub returns-in-Silent-clause-told : goal.returns-in-Silent-clause-told
returns-in-Silent-clause-told g c =
    absurd (silent_told (g.P.Plan.start c.args.book.now.plan) c.args.book.now.log c.args.name
    c.requires.name (c.is_omitted.ensures.0 c.if-not-is_omitted.false) (sym c.mark.ensures
    ∙ c.in-Silent.is))

pub returns-in-Flying-clause-reason : goal.returns-in-Flying-clause-reason
returns-in-Flying-clause-reason g c =
    (c.agrees_by_places.ensures.flies c.args.name c.requires.name).0 (sym c.mark.ensures
    ∙ c.in-Flying.is)

pub returns-in-Flying-clause-told : goal.returns-in-Flying-clause-told
returns-in-Flying-clause-told g c =
    let flies = (c.agrees_by_places.ensures.flies c.args.name c.requires.name).0
    (sym c.mark.ensures ∙ c.in-Flying.is) in (
      λ s. flying_told (g.P.Plan.start c.args.book.now.plan) c.args.book.now.log c.args.name
          c.requires.name (c.is_omitted.ensures.0 c.if-not-is_omitted.false) flies,
      λ r. refl,
    )

pub returns-in-Lost-clause-told : goal.returns-in-Lost-clause-told
returns-in-Lost-clause-told g c =
    let start = g.P.Plan.start c.args.book.now.plan in
    let v = c.args.book.now.log in
    let n = c.args.name in
    let is : mark_in start v n ≡ mark.Lost = sym c.mark.ensures ∙ c.in-Lost.is in (
      λ s. gone_told start v n c.requires.name
          (c.is_omitted.ensures.0 c.if-not-is_omitted.false) (lost_gone start v n is),
      λ r. some_matched (IsReason start v n) c.reason_of_lost.result c.reason_of_lost.ensures,
    )

pub returns-in-Released-clause-told : goal.returns-in-Released-clause-told
returns-in-Released-clause-told g c =
    let start = g.P.Plan.start c.args.book.now.plan in
    let v = c.args.book.now.log in
    let n = c.args.name in
    let x = c.in-Released.count in
    let is : mark_in start v n ≡ mark.Released x = sym c.mark.ensures ∙ c.in-Released.is in (
      λ s. gone_told start v n c.requires.name
          (c.is_omitted.ensures.0 c.if-not-is_omitted.false) (released_gone start v n x is),
      λ r. some_matched (IsReason start v n) c.reason_of_released.result
          c.reason_of_released.ensures,
    )
