use Rattle.std.proofs.Common.{◌<◌, ◌^◌, length, arith}
use Rattle.byteorder.specs.Endian.{big_bytes}
use Rattle.round_lang.specs.Values.{at, row}
use Rattle.frame_format.proofs.Pieces.{all_more, pieces_more}
use Rattle.frame_format.proofs.encoding.push_row.Goals as goal

pub loop-entry-preserved : goal.loop-entry-preserved
loop-entry-preserved c =
    let entries = row (at c.args.message.now c.args.place) in
    let i = c.loop-entry.entry in
    let within : i < length entries = omega arith in
    record {
      bytes = pieces_more (big_bytes 4) c.args.out.now.items c.loop-entry.out.items
          c.push_num.new.out.items entries i 0 c.entry.result within c.entry.ensures
          c.loop-entry.invariant.bytes c.in_ok-push_num.ensures;
      small = all_more (λ e. e < 2 ^ 32) entries i 0 c.entry.result within c.entry.ensures
          c.loop-entry.invariant.small (omega arith);
    }
