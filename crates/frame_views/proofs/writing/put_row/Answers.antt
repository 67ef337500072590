use Rattle.std.proofs.Common.{◌+◌, ◌*◌, ◌<◌, ◌≤◌, ◌^◌, ◌∙◌, ap, length, arith, take}
use Rattle.round_lang.specs.Values.{at, row}
use Rattle.frame_format.proofs.Pieces.{all_more}
use Rattle.frame_views.proofs.Entries.{length-with_entry, take-with_entry}
use Rattle.frame_views.proofs.writing.put_row.Goals as goal

pub loop-entry-preserved : goal.loop-entry-preserved
loop-entry-preserved c =
    let old = c.loop-entry.slot.bytes.now in
    let entries = row (at c.args.message.now c.args.place) in
    let v = c.loop-entry.entry in
    let n = c.entry.result in
    let within : v < length entries = omega arith in
    let long : 4 * v + 4 ≤ length old = omega arith in
    record {
      same = c.put_entry.ensures.same ∙ c.loop-entry.invariant.same;
      room = ap length c.put_entry.ensures.value ∙ length-with_entry old v n long
          ∙ c.loop-entry.invariant.room;
      front = ap (take (4 * (v + 1))) c.put_entry.ensures.value
          ∙ take-with_entry old entries v n long within c.entry.ensures
          c.loop-entry.invariant.front;
      small = all_more (λ e. e < 2 ^ 32) entries v 0 n within c.entry.ensures
          c.loop-entry.invariant.small (omega arith);
    }
