use Rattle.std.proofs.Common.{List, subst, ℕ}
use Rattle.part_answers.specs.Cuts.{IsCut}
use Rattle.part_answers.specs.Heads.{head_text}
use Rattle.part_answers.proofs.CutLemmas.{cut_is, cut_somewhere}
use Rattle.part_answers.proofs.reading.first_head.Goals as goal

pub returns-in_err-line-clause-none : goal.returns-in_err-line-clause-none
returns-in_err-line-clause-none c =
    rw c.from_residual.ensures (λ h rest begins.
    cut_somewhere 10 c.args.text.now (head_text h) rest c.in_err-line.ensures begins.cut.0)

pub returns-in_err-read-clause-none : goal.returns-in_err-read-clause-none
returns-in_err-read-clause-none c =
    rw c.from_residual-in_err-read.ensures (λ h rest begins.
    let parts = cut_is 10 c.args.text.now c.in_ok-line.line.now c.in_ok-line.rest.now (head_text h)
    rest c.in_ok-line.ensures begins.cut.1 begins.cut.0 in
    c.in_err-read.ensures.none h begins.is_head parts.0)

pub returns-clause-some : goal.returns-clause-some
returns-clause-some c =
    let rest = c.in_ok-line.rest.now in
    record {
      cut = subst (λ (line : List ℕ). IsCut 10 c.args.text.now line rest)
          c.in_ok-read.ensures.some.0 c.in_ok-line.ensures;
      is_head = c.in_ok-read.ensures.some.1;
    }
