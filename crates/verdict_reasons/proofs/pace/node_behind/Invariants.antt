use Rattle.std.proofs.Common.{◌≡◌, ℕ, ◌<◌, ◌≤◌, true, get_or}
use Rattle.round_lang.specs.Sets.{is_in}
use Rattle.verdict_reasons.proofs.pace.node_behind.Given as goal

abbrev pub invariant-loop-other : goal.invariant-loop-other
invariant-loop-other l = (j : ℕ) → j < l.other → is_in l.correct.bits j ≡ true
    → get_or l.counts l.node 0 ≤ get_or l.counts j 0
