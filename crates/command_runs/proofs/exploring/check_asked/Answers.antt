use Rattle.std.proofs.Common.{◌∙◌, Some, ap, not, refl, subst, sym}
use Rattle.exploration_texts.specs.Conditions.{IsConditionFor}
use Rattle.command_runs.proofs.exploring.check_asked.Goals as goal

pub returns-in_ok-read_condition-in-Some-clause-explored :
    goal.returns-in_ok-read_condition-in-Some-clause-explored
returns-in_ok-read_condition-in-Some-clause-explored c =
    let f = c.in_ok-read_condition-in-Some.field-0 in record {
      explorable = c.if-not-is_explorable.ensures.0 refl;
      plan = (c.new.ensures.within_limits.0 (c.is_none.ensures ∙ ap not c.if-is_none.false)).1;
      condition = Some f;
      is_condition = subst (λ always. IsConditionFor c.args.program.now always (Some f))
          (sym c.in-Some.is) c.in_ok-read_condition-in-Some.ensures.read;
    }
