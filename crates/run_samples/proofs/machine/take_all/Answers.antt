use Rattle.std.proofs.Common.{◌≡◌, ◌+◌, [], ap, sym, subst, ◌∙◌, arith}
use Rattle.std.specs.List.{filter_map, range_with_len}
use Rattle.std.proofs.lemmas.List.{get_or_read}
use Rattle.round_meaning.specs.Nodes.{has_node}
use Rattle.round_meaning.specs.Rounds.{algorithm, algorithm_of, heard, inbox}
use Rattle.round_meaning.specs.States.{state_in}
use Rattle.step_code.specs.Rooms.{IsRoomOf}
use Rattle.step_code.specs.Turns.{InTurn}
use Rattle.run_samples.specs.Samples.{inbox_with}
use Rattle.run_samples.proofs.RunLaws.{inbox_less, inbox_more}
use Rattle.run_samples.proofs.machine.take_all.Goals as goal
use Rattle.run_samples.proofs.machine.take_all.Goals.{then-not-contains+in_ok-take_from}
use Rattle.run_samples.proofs.machine.take_all.Goals.{else-not-contains}

pub loop-from-preserved : goal.loop-from-preserved
loop-from-preserved c =
    let p = c.args.code.now in
    let s = c.args.setup.now in
    let a = algorithm_of p s in
    let before = c.args.before.now in
    let missed = has_node c.args.missed.bits in
    let r = c.args.round in
    let i = c.args.me in
    let j = c.loop-from.from in
    let old = state_in before i in
    let so_far = filter_map (heard a missed (state_in before) r i) (range_with_len 0 j) in
    let turn = InTurn p s r i old in
    let next = filter_map (heard a missed (state_in before) r i) (range_with_len 0 (j + 1)) in
    elim c.if-not-contains.branch [
      | then-not-contains+in_ok-take_from w ↦
          let is = get_or_read before j _ (omega arith) w.index-before-from.is [] in
          record {
            sending = subst (IsRoomOf p) (sym w.sending-is) w.in_ok-take_from.ensures.sending;
            turn = subst (turn next) (sym w.ending-is)
                (subst (λ ms. turn ms w.take_from.new.ending)
                (ap (λ state. inbox_with j (a.send r state j i) so_far) is
                ∙ inbox_more a missed (state_in before) r i j (sym w.if-not-contains.ensures))
                (w.in_ok-take_from.ensures.turn old so_far c.loop-from.invariant.turn));
          }
      | else-not-contains w ↦
          record {
            sending = subst (IsRoomOf p) (sym w.sending-is) c.loop-from.invariant.sending;
            turn = subst (turn next) (sym w.ending-is) (subst (λ ms. turn ms c.loop-from.ending)
                (inbox_less a missed (state_in before) r i j (sym w.if-not-contains.ensures))
                c.loop-from.invariant.turn);
          }
    ]

pub returns-clause-turn : goal.returns-clause-turn
unfolding algorithm inbox
returns-clause-turn c =
    let p = c.args.code.now in
    let s = c.args.setup.now in
    let before = state_in c.args.before.now in
    let h = heard (algorithm_of p s) (has_node c.args.missed.bits) before c.args.round c.args.me in
    let all : c.loop-from.from ≡ s.nodes = omega arith in
    subst (λ n. InTurn p s c.args.round c.args.me (before c.args.me)
    (filter_map h (range_with_len 0 n)) c.loop-from.ending) all c.loop-from.invariant.turn
