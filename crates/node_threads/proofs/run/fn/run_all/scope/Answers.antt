use Rattle.std.proofs.Common.{subst}
use denote.Exit.{no}
use denote.Param.{copied, param}
use denote.Param.Send.{arg_send, param_send, shr_send}
use denote.Ref.{NamedLft}
use denote.Struct.Field.{shr_ref_field}
use mir.Syntax.{named}
use Rattle.node_threads.specs.contracts.clock.Clock as clock
use Rattle.node_threads.specs.contracts.job.Job as job
use Rattle.node_threads.specs.contracts.network.Network as network
use Rattle.node_threads.proofs.clock.Clock.TheSendSync as crosses
use Rattle.node_threads.proofs.Crossing.{closure_send, job_send, network_send}
use Rattle.node_threads.proofs.Joining.{promised, told_runs}
use Rattle.schedule_text.specs.declared.pace.Pace.{Pace}
use Rattle.std.specs.Prelude.{IfOk}
use Rattle.node_threads.specs.Turns.{HasRun, nothing_known}
use Rattle.node_threads.proofs.run.fn.run_all.scope.Goals as goal

pub spawn_with-requires-send-F : goal.spawn_with-requires-send-F
spawn_with-requires-send-F g c κs within =
    let bounds = c.requires.crosses in
    let P = copied 1 g.row.P in
    let own : NamedLft = record { mir = named 6; lft = κs.1.1.1.1.1.1.0 } in
    let rt : NamedLft = record { mir = named 7; lft = κs.1.1.1.1.1.1.1.0 } in
    let beat : NamedLft = record { mir = named 8; lft = κs.1.1.1.1.1.1.1.1.0 } in
    param_send 2 _ (arg_send _ no _ (closure_send _
    (network.the_row own P g.P.Plan g.P.PartialEq) (shr_ref_field rt (param 0 g.row.R) tt).row
    (shr_ref_field beat clock.the_row tt).row (param 2 g.row.Q)
    (network_send P g.P.Plan g.P.PartialEq own bounds.0 bounds.3)
    (shr_send _ _ _ bounds.2) (shr_send _ _ _ crosses.the_sync) bounds.1))

pub spawn-requires-send-F : goal.spawn-requires-send-F
spawn-requires-send-F g c κs within =
    let bounds = c.requires.crosses in
    let P = copied 1 g.row.P in
    let own : NamedLft = record { mir = named 5; lft = κs.1.1.1.1.1.0 } in
    let rt : NamedLft = record { mir = named 6; lft = κs.1.1.1.1.1.1.0 } in
    let gate : NamedLft = record { mir = named 7; lft = κs.1.1.1.1.1.1.1.0 } in
    let beat : NamedLft = record { mir = named 8; lft = κs.1.1.1.1.1.1.1.1.0 } in
    param_send 1 _ (arg_send _ no _ (closure_send _
    (job.the_row own P g.P.Plan g.P.PartialEq) (shr_ref_field rt (param 0 g.row.R) tt).row
    (shr_ref_field gate (param 3 g.row.G) tt).row (shr_ref_field beat clock.the_row tt).row
    (job_send P g.P.Plan g.P.PartialEq own bounds.0 bounds.3)
    (shr_send _ _ _ bounds.2) (shr_send _ _ _ bounds.4) (shr_send _ _ _ crosses.the_sync)))

pub returns : goal.returns
returns g c =
    let chooses = g.Q.Policy.chooses in
    let start = g.P.Plan.start in
    let pace = c.captures.clock.now.pace in
    let policy = c.captures.policy in
    let promise = c.promise-promise.result in
    let same = c.promise-promise.ensures in
    let handle = c.ok-network.result in
    let started = promised handle c.spawn_with.result (λ h. h.promise) promise
    c.ok-network.ensures.value c.spawn_with.ensures.ok in
    subst (λ (p : g.row.P.Denot). IfOk c.told.result
    (λ j. HasRun chooses start (start p) pace policy nothing_known j.relay)) same.plan
    (subst (λ (n : Pace). IfOk c.told.result
    (λ j. HasRun chooses start (start promise.plan) n policy nothing_known j.relay)) same.pace
    (subst (λ (q : g.row.Q.Denot). IfOk c.told.result
    (λ j. HasRun chooses start (start promise.plan) promise.pace q nothing_known j.relay))
    same.policy
    (told_runs handle c.join_network-network.result c.told.result (λ h. h.promise) promise
    (λ j. j.relay)
    (λ p t. HasRun chooses start (start p.plan) p.pace p.policy.value nothing_known t)
    started c.join_network-network.ensures.kept c.join_network-network.ensures.none
    c.told.ensures.relay)))
