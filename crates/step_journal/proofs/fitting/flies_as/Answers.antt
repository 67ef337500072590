use Rattle.std.proofs.Common.{◌≡◌, ◌*◌, true, false, sym, refl, ap, ◌∙◌, arith}
use Rattle.step_journal.proofs.Named.{flies_none, flies_round}
use Rattle.step_journal.proofs.fitting.flies_as.Goals as goal

pub loop-round-preserved : goal.loop-round-preserved
loop-round-preserved g c =
    let nodes = ap (λ u. u.nodes) c.setup-in-loop-round.ensures.value in
    let first = c.loop-round.auto.round in
    let past = c.loop-from-test.false in
    flies_round (g.P.Plan.start c.args.book.now.plan) c.args.book.now.log c.args.buffer.now
    c.args.node c.args.copy c.loop-round.round c.loop-from.from
    (omega arith) (omega arith) c.loop-from.invariant.1 c.loop-from.invariant.0

pub returns-then-is_free_from : goal.returns-then-is_free_from
returns-then-is_free_from g c = (
  λ e. flies_none (g.P.Plan.start c.args.book.now.plan) c.args.book.now.log c.args.buffer.now
      c.args.node c.args.copy _ c.requires.node c.requires.copy
      (ap (λ u. c.args.copy * u.nodes) c.setup.ensures.value)
      (c.has_copies.ensures (λ on. (let both : false ≡ true = sym c.if-not-has_copies.true ∙ on in
      cc)))
      (c.is_free_from.ensures c.if-is_free_from.true),
  λ all. refl,
)
