use Rattle.std.proofs.Common.{◌≡◌, ◌+◌, ◌++◌, take}
use Rattle.short_text.proofs.text.ShortText.push_array.Given as goal

abbrev pub invariant-loop-place : goal.invariant-loop-place
invariant-loop-place g l =
    (l.self-inside.length ≡ l.end)
    × (take (l.end + l.place) l.self-inside.bytes ≡ take l.end l.initial.self-inside.bytes
    ++ take l.place l.bytes)
