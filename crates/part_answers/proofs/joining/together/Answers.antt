use Rattle.std.proofs.Common.{◌∙◌, Bool, List, ap, length, subst}
use Rattle.part_answers.specs.Tables.{AreMarked, IsFirstUnmarked}
use Rattle.part_answers.specs.Wholes.{properties_of}
use Rattle.part_answers.proofs.JoinLemmas.{are_all, is_missing, is_whole}
use Rattle.part_answers.proofs.joining.together.Goals as goal

pub returns-in-Some-first_missing-clause-err : goal.returns-in-Some-first_missing-clause-err
returns-in-Some-first_missing-clause-err c =
    is_missing c.first-item.result c.args.parts.now c.in_ok-are_there.are_there.items
    c.in-Some-first_missing.number c.in-len1-up.len_at_least c.first-item.is
    c.in_default-first_other.ensures.none c.in_ok-are_there.ensures.ok
    (subst (λ (table : List Bool). IsFirstUnmarked table c.in-Some-first_missing.number)
    c.deref.ensures.value c.in-Some-first_missing.ensures.some)

pub returns-clause-ok : goal.returns-clause-ok
returns-clause-ok c = (
  are_all c.first-item.result c.args.parts.now c.in_ok-are_there.are_there.items
      c.in-len1-up.len_at_least c.first-item.is c.in_default-first_other.ensures.none
      c.in_ok-are_there.ensures.ok
      (subst (λ (table : List Bool). AreMarked table (length table)) c.deref.ensures.value
      c.in_default-first_missing.ensures.none),
  is_whole c.first-item.result c.args.parts.now c.in_ok-whole_of.field-0.items
      c.in-len1-up.len_at_least c.first-item.is
      (c.in_ok-whole_of.ensures.names ∙ ap properties_of c.deref-2.ensures.value)
      c.in_ok-whole_of.ensures.right,
)
