use Rattle.std.proofs.Common.{List, Option, Some, subst}
use Rattle.run_events.specs.declared.event.Event.{Event}
use Rattle.run_events.specs.declared.in_flight.InFlight.{InFlight}
use Rattle.node_threads.specs.Choices.{ComesToInOne}
use Rattle.node_threads.proofs.network.Network.ask.Goals as goal

pub returns-in-Some-2 : goal.returns-in-Some-2
returns-in-Some-2 g c =
    let choice = c.in-Some.choice in
    let flight = c.args.self.now.flight in record {
      chosen = subst (λ (fs : List InFlight). g.Q.Policy.chooses c.args.policy.now c.args.now fs
          (Some choice) c.choose.new.self) c.messages.ensures c.in-Some.ensures;
      comes = subst (λ (o : Option Event). ComesToInOne g.P.Plan.start flight (Some choice) o)
          c.in-Some-2.is c.in_ok-event.ensures;
    }

pub returns-in-None : goal.returns-in-None
returns-in-None g c =
    let choice = c.in-Some.choice in
    let flight = c.args.self.now.flight in (
      Some choice,
      record {
        chosen = subst (λ (fs : List InFlight). g.Q.Policy.chooses c.args.policy.now c.args.now fs
            (Some choice) c.choose.new.self) c.messages.ensures c.in-Some.ensures;
        comes = subst (λ (o : Option Event). ComesToInOne g.P.Plan.start flight (Some choice) o)
            c.in-None.is c.in_ok-event.ensures;
      },
    )
