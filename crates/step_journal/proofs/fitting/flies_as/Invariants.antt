use Rattle.std.proofs.Common.{◌-◌}
use Rattle.step_journal.specs.Fitting.{FliesAs}
use Rattle.step_journal.proofs.Named.{FliesFrom}
use Rattle.step_journal.proofs.fitting.flies_as.Given as goal

abbrev pub invariant-loop-round : goal.invariant-loop-round
invariant-loop-round g l = FliesAs (g.P.Plan.start l.book.plan) l.book.log l.buffer l.node l.copy
    (l.round - 1)

abbrev pub invariant-loop-from : goal.invariant-loop-from
invariant-loop-from g l =
    FliesAs (g.P.Plan.start l.book.plan) l.book.log l.buffer l.node l.copy (l.round - 1)
    × FliesFrom (g.P.Plan.start l.book.plan) l.book.log l.buffer l.node l.copy l.round l.from
