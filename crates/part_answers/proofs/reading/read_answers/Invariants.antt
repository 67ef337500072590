use Rattle.std.proofs.Common.{◌+◌, ◌≤◌, length}
use denote.Shadow.{shadow}
use denote.Text.{Utf8}
use Rattle.part_answers.proofs.ReadLemmas.{IsReadTo}
use Rattle.part_answers.proofs.reading.read_answers.Given as goal

abbrev pub invariant-loop-answered : goal.invariant-loop-answered
invariant-loop-answered l =
    shadow (Utf8 l.rest) × IsReadTo l.text l.answers.items l.rest l.least × (l.least ≤ 5)
    × (l.line ≤ l.least + 2)

abbrev pub decreases-loop-answered : goal.decreases-loop-answered
decreases-loop-answered l = length l.rest
