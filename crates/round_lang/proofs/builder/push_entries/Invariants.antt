use Rattle.std.proofs.Common.{◌≡◌, ◌+◌, ◌≤◌, ◌++◌, length, take}
use Rattle.round_lang.proofs.builder.push_entries.Given as goal

-- the entries so far are there, and those to come have room
abbrev pub invariant-loop-entry : goal.invariant-loop-entry
invariant-loop-entry l =
    record {
      added : l.words.items ≡ l.initial.words.items ++ take l.entry-index l.entries;
      room : length l.initial.words.items + length l.entries ≤ l.words.capacity;
    }
