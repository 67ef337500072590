use Rattle.std.proofs.Common.{◌≡◌, ◌+◌, ap, arith, refl, rules, subst, sym, ◌∙◌}
use Rattle.run_events.specs.declared.name.Name.{Name}
use Rattle.step_book.specs.declared.mark.Mark.TheVariants.{Flying}
use Rattle.step_book.specs.Flight.{IsFlightBefore}
use Rattle.step_book.specs.Log.{mark_in}
use Rattle.step_book.proofs.Flight.{flight_more, flight_next, flight_passed, run_name}
use Rattle.step_book.proofs.Names.{copy_named}
use Rattle.step_book.proofs.Reading.{mark_read, of_view}
use Rattle.step_book.proofs.book.Book.add_copies.Goals as goal
use Rattle.step_book.proofs.book.Book.add_copies.Goals.{then-eq+in_ok-push, else-eq}

pub place-place-requires : goal.place-place-requires
place-place-requires g c = run_name (g.P.Plan.start c.args.self.now.plan) c.args.self.now.log
    c.args.message c.requires.message.named

pub slot-sent_at-requires : goal.slot-sent_at-requires
slot-sent_at-requires g c =
    run_name (g.P.Plan.start c.args.self.now.plan) c.args.self.now.log c.args.message
    c.requires.message.named

pub loop-copy-preserved : goal.loop-copy-preserved
loop-copy-preserved g c =
    let h = of_view g.P.Plan.start g.P.Plan.nodes c.self.view_is c.self.invariant in
    let v = c.args.self.now in
    let n : Name = record c.args.message { copy = c.loop-copy.copy } in
    let own = run_name (g.P.Plan.start v.plan) v.log c.args.message c.requires.message.named in
    let test = c.loop-copy-test.true in
    let read : c.at.result ≡ mark_in (g.P.Plan.start v.plan) v.log n =
    c.at.ensures ∙ mark_read h n c.place-place.result
    (copy_named v.log.setup.nodes v.log.setup.rounds c.loop-copy.copy c.args.message
    (omega arith) own) c.place-place.ensures in
    elim c.if-eq.branch [
      | then-eq+in_ok-push w ↦
          let is : c.at.result ≡ Flying = search rules in
          subst (λ x. IsFlightBefore (g.P.Plan.start v.plan) v.log c.args.serial
          (c.loop-copy.copy + 1) x)
          (sym (ap (λ (x : _). x.items) w.flight-is ∙ w.in_ok-push.ensures.items))
          (flight_more h c.args.message c.args.serial c.loop-copy.flight.items c.requires.message
          c.loop-copy.copy _ (omega arith) refl refl c.slot-sent_at.ensures (sym read
          ∙ is) c.loop-copy.invariant)
      | else-eq w ↦
          subst (λ x. IsFlightBefore (g.P.Plan.start v.plan) v.log c.args.serial
          (c.loop-copy.copy + 1) x)
          (sym (ap (λ (x : _). x.items) w.flight-is))
          (flight_passed h c.args.message c.args.serial c.loop-copy.flight.items c.requires.message
          c.loop-copy.copy (λ fly. (let none : c.at.result ≡ Flying
          → ⊥ = search rules in none (read ∙ fly))) c.loop-copy.invariant)
    ]

pub returns : goal.returns
returns g c =
    let h = of_view g.P.Plan.start g.P.Plan.nodes c.self.view_is c.self.invariant in
    let high = c.loop-copy-test.false in
    let end = c.loop-copy.auto.copy-end in
    flight_next h c.args.serial c.loop-copy.flight.items
    (subst (λ x. IsFlightBefore (g.P.Plan.start c.args.self.now.plan) c.args.self.now.log
    c.args.serial x c.loop-copy.flight.items) (omega arith) c.loop-copy.invariant)
