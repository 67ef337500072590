use Rattle.std.proofs.Common.{ℕ, ◌∙◌, ap, subst, sym}
use Rattle.locked_buffers.specs.Accounts.{AccountsAgree, IsTold}
use Rattle.round_meaning.specs.declared.setup.Setup.{Setup}
use Rattle.node_threads.specs.Bodies.{SeatsEnded}
use Rattle.node_threads.proofs.Ending.{have_ended}
use Rattle.node_threads.proofs.run.journal_of.Goals as goal

pub returns-in-Ok-clause-told : goal.returns-in-Ok-clause-told
returns-in-Ok-clause-told g c =
    let log = c.in-Ok.journal.log in
    subst (λ (p : g.row.P.Denot). IsTold (g.P.Plan.start p) log c.args.joined.relay)
    c.in-Ok.ensures.run.plan c.in-Ok.ensures.agree.told

pub returns-in-Ok-clause-ends : goal.returns-in-Ok-clause-ends
returns-in-Ok-clause-ends g c =
    let start = g.P.Plan.start in
    let journal = c.in-Ok.journal in
    let seats = c.in_ok-seats.seats.items in
    let ends = c.in_ok-seats.ends.items in
    let stops = c.args.stops.now in
    let rounds = sym c.requires.rounds
    ∙ sym (ap (λ (s : Setup). s.rounds) c.in-Ok.ensures.run.setup) in
    let ended = subst (λ (p : g.row.P.Denot). SeatsEnded (start p) c.args.rounds stops seats ends)
    (sym c.requires.plan) c.in_ok-seats.ensures.ended in
    let agree = subst (λ (p : g.row.P.Denot). AccountsAgree
    (start p) journal seats c.args.joined.relay) c.in-Ok.ensures.run.plan
    c.in-Ok.ensures.agree in
    have_ended (start c.args.post.plan) journal stops seats ends c.args.joined.relay agree
    (subst (λ (n : ℕ). SeatsEnded (start c.args.post.plan) n stops seats ends) rounds ended)
