use Rattle.std.proofs.Common.{◌≡◌, ◌+◌, ◌<◌, ◌^◌, ℕ}
use Rattle.std.specs.Prelude.{slice_index}
use Rattle.round_lang.specs.Values.{at, row}
use Rattle.step_code.specs.Relation.{Keeps}
use Rattle.step_code.proofs.fields.load_row.Given as goal

abbrev pub invariant-loop-v : goal.invariant-loop-v
invariant-loop-v g l =
    ((w : ℕ) → w < l.v → slice_index l.room (l.place + w)
    ≡ slice_index (row (at (g.F.Fields.values l.message) l.field)) w)
    × ((w : ℕ) → w < l.v → slice_index (row (at (g.F.Fields.values l.message) l.field)) w < 2 ^ 32)
    × Keeps l.place l.fn.room l.room
