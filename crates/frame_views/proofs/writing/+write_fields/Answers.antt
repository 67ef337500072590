use Rattle.std.proofs.Common.{◌<◌, arith, drop, length}
use Rattle.frame_views.proofs.Entries.{small_more, small_none}
use Rattle.frame_views.proofs.writing.+write_fields.Goals as goal
use Rattle.frame_views.proofs.writing.+write_fields.Goals.{in-Some, in_default}

pub returns-clause-small : goal.returns-clause-small
returns-clause-small t c =
    let kinds = c.args.fields.kinds.now in
    let message = c.args.message.now in
    let place = c.args.place in
    elim c.match-split_first.branch [
      | in-Some w ↦ (let some : 0 < length kinds = omega (arith, w.in-Some.ensures.cases.1) in
          small_more c.args.fields.values kinds message place some c.requires.kinds
          w.put_field.ensures.small w.write_fields.ensures.small)
      | in_default w ↦ small_none c.args.fields.values kinds
          (drop place message) w.in_default.ensures.cases c.requires.kinds
    ]
