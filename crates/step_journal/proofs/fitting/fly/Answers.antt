use Rattle.std.proofs.Common.{ℕ, arith}
use Rattle.step_journal.specs.Fitting.{FliesAs}
use Rattle.step_journal.proofs.Named.{four_copies}
use Rattle.step_journal.proofs.fitting.fly.Goals as goal

pub returns : goal.returns
returns g c =
    let log = c.args.book.now.log in
    let all : ℕ → Type 0 = λ k. FliesAs (g.P.Plan.start c.args.book.now.plan) log c.args.buffer.now
    c.args.node k log.setup.rounds in (
      λ last. four_copies all (c.flies_as.ensures.0 c.if-not-flies_as.false)
          (c.flies_as-2.ensures.0 c.if-not-flies_as-2.false)
          (c.flies_as-3.ensures.0 c.if-not-flies_as-3.false) (c.flies_as-4.ensures.0 last),
      λ h. c.flies_as-4.ensures.1 (h 3 (omega arith)),
    )
