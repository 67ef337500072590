use Rattle.std.proofs.Common.{◌<◌, ◌+◌, arith, sym, ap, ◌∙◌}
use Rattle.step_book.specs.Log.{round_of}
use Rattle.step_book.proofs.Events.{idle_none, receive_test}
use Rattle.step_book.proofs.Reading.{of_view, nodes_view, rounds_view}
use Rattle.step_book.proofs.book.Book.is_receive.Goals as goal

pub returns-then-round-self : goal.returns-then-round-self
returns-then-round-self g c =
    let v = c.args.self.now in
    let rounds = rounds_view c.self.view_is in
    let late : v.log.setup.rounds < round_of v.log c.args.node =
    omega (arith, c.round_of-round.ensures.value) in
    let none = idle_none (of_view g.P.Plan.start g.P.Plan.nodes c.self.view_is c.self.invariant)
    c.args.node c.requires.node late in
    (λ e. cc, λ e. cc)

pub returns : goal.returns
returns g c =
    let v = c.args.self.now in
    let rounds = rounds_view c.self.view_is in
    let nodes = nodes_view c.self.view_is in
    let low = ap (λ x. x + c.from.result) c.start.ensures.value
    ∙ ap (λ x. g.P.Plan.start v.plan c.round_of-round.result + x) (c.from.ensures ∙ nodes) in
    let same = receive_test (of_view g.P.Plan.start g.P.Plan.nodes c.self.view_is c.self.invariant)
    c.args.node c.round_of-round.result (c.start.result + c.from.result) c.count_of.result
    c.requires.node c.requires.not_due c.round_of-round.ensures.value
    (omega arith) low c.count_of.ensures in
    (λ e. same ∙ e, λ e. sym same ∙ e)
