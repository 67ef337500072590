use Rattle.std.proofs.Common.{◌≡◌, ◌∙◌, ap, map, sym}
use Rattle.round_lang.specs.Words.{kind_of}
use Rattle.round_meaning.specs.Rounds.{algorithm}
use Rattle.round_meaning.specs.Turn.{decision}
use Rattle.step_machine.specs.Sealed.{KeepsTypes}
use Rattle.omission_schedules.specs.Stages.{omits_under}
use Rattle.omission_schedules.proofs.Typed.{rounds_kinds}
use Rattle.omission_schedules.proofs.report.turn_row.Goals as goal

pub new-requires : goal.new-requires
new-requires g c =
    let omits = omits_under (g.P.Plan.start c.args.run.now.plan) c.args.run.now.stops.now
    c.args.run.now.omissions.now in
    let keeps : KeepsTypes c.args.run.now.program.now = record {
      starts = c.types_are_kept.ensures.starts;
      sends = c.types_are_kept.ensures.sends;
      ends = c.types_are_kept.ensures.ends;
    } in
    ap (map kind_of) c.in_ok-state.ensures
    ∙ rounds_kinds c.args.run.now.program.now c.args.run.now.setup.now keeps omits c.args.round
    c.args.node
    ∙ sym c.state_shape.ensures

pub returns-clause-row : goal.returns-clause-row
unfolding algorithm
returns-clause-row g c =
    let stored : c.in_ok-new.field-0.value ≡ c.in_ok-state.state =
    c.in_ok-new.ensures.ok ∙ c.in_ok-stored.ensures in
    record {
      printed = record {
        heard = c.in_ok-turn.ensures.heard;
        silent = c.in_ok-turn.ensures.silent;
        omitted = c.in_ok-turn.ensures.omitted;
      };
      stated = stored ∙ c.in_ok-state.ensures;
      decided = c.decision_of.ensures ∙ ap (decision c.args.run.now.program.now) (sym stored);
    }
