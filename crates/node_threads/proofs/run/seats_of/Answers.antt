use Rattle.std.proofs.Common.{◌≡◌, ◌+◌, ℕ, Option, ap, ◌∙◌, length, subst, sym, vec_len, rules}
use Rattle.node_threads.specs.Bodies.{IsEnded, IsNotPassed}
use Rattle.node_threads.specs.Stops.{stop_of}
use Rattle.node_threads.proofs.Ending.{behind_push, ended_push}
use Rattle.node_threads.proofs.run.seats_of.Goals as goal

pub loop-thread_end-preserved : goal.loop-thread_end-preserved
loop-thread_end-preserved g c =
    let start = g.P.Plan.start c.args.plan in
    let stops = c.args.stops.now in
    let seats = c.loop-thread_end.seats in
    let ends = c.loop-thread_end.ends in
    let seat = c.in-Some-into_parts.seat in
    let ended = c.in-Some-into_parts.ended in
    let size : vec_len seats ≡ length seats.items = search rules in
    let stop = c.stop_of-stop.ensures ∙ ap (stop_of stops) (c.len.ensures ∙ size) in
    let same : stop_of stops (length ends.items) ≡ c.stop_of-stop.result = sym
    (stop ∙ ap (stop_of stops) (sym c.loop-thread_end.invariant.ended.sized)) in record {
      ended = rw (c.in_ok-add_both.ensures.seats, c.in_ok-add_both.ensures.ends)
          (ended_push start c.args.rounds stops seats.items ends.items seat ended
          c.loop-thread_end.invariant.ended
          (subst (λ (x : Option ℕ). IsEnded start c.args.rounds x seat ended) stop
          c.in-Some-into_parts.ensures.ended));
      behind = rw c.in_ok-add_both.ensures.ends
          (behind_push (start (c.args.rounds + 1)) stops ends.items ended
          c.loop-thread_end.invariant.behind
          (λ is. subst (λ (x : Option ℕ). IsNotPassed x 0 (start (c.args.rounds + 1))) (sym same)
          (c.in-Some-into_parts.ensures.passed is)));
    }
