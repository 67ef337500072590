use Rattle.std.proofs.Common.{ℕ, ◌<◌, get_or}
use Rattle.omission_texts.specs.Meaning.{IsKnown}
use Rattle.omission_texts.specs.declared.line.OmissionLine.{OmissionLine}
use Rattle.omission_texts.proofs.known.first_unknown.Given as goal

abbrev pub invariant-loop-place : goal.invariant-loop-place
invariant-loop-place l = (k : ℕ) (d : OmissionLine) → k < l.place
    → IsKnown l.setup (get_or l.lines k d)
