use Rattle.omission_texts.proofs.Crashes.{Least}
use Rattle.omission_texts.proofs.stops.crash_round.Given as goal

abbrev pub invariant-loop-line : goal.invariant-loop-line
invariant-loop-line l = Least l.setup l.lines l.node l.line-index l.first
