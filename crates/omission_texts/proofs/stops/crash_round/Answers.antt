use Rattle.std.proofs.Common.{sym, ◌∙◌}
use Rattle.omission_texts.specs.Meaning.{IsKnown}
use Rattle.omission_texts.proofs.Crashes.{crash_here, no_crash}
use Rattle.omission_texts.proofs.stops.crash_round.Goals as goal
use Rattle.omission_texts.proofs.stops.crash_round.Goals.{in-Some, in_default}

pub loop-line-preserved : goal.loop-line-preserved
loop-line-preserved c =
    let s = c.args.setup.now in
    let ls = c.args.lines.now in
    let k = c.loop-line.line-index in
    let l = c.line-item.result in
    let is = c.line-item.is in
    let known : IsKnown s l = rw is (c.requires.known k l c.loop-line-test.true) in
    elim c.match-crash_in.branch [
      | in-Some w ↦ rw (w.first-is, w.min-first.ensures)
          (crash_here s ls c.args.node k c.loop-line.first l is c.loop-line-test.true
          c.loop-line.invariant w.in-Some.round known (sym w.in-Some.is ∙ c.crash_in.ensures))
      | in_default w ↦ rw w.first-is (no_crash s ls c.args.node k c.loop-line.first l is
          c.loop-line-test.true c.loop-line.invariant (sym w.in_default.is ∙ c.crash_in.ensures))
    ]
