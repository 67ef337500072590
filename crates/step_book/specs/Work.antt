-- What was carried to a node, as the frames that it hands in name it.
use Rattle.std.specs.Prelude.{◌≡◌, ℕ, suc, ◌<◌, Bool, false, ◌&&◌, nat_le, nat_lt, if◌then◌else◌}
use Rattle.std.specs.Prelude.{List, Option, Some, None, option_map}
use Rattle.round_lang.specs.declared.value.Value.{Value}
use Rattle.step_book.specs.declared.mark.Mark.{Mark}
use Rattle.step_book.specs.declared.mark.Mark.TheVariants.{Unsent, Silent, Flying, Released, Lost}
use Rattle.step_book.specs.Fates.{carried, some_copy}
use Rattle.step_book.specs.History.{message, state}
use Rattle.step_book.specs.World.{World, nodes_of}
use Rattle.run_events.specs.declared.event.Event.{Event}
use Rattle.run_events.specs.declared.name.Name.{Name}
use Rattle.run_events.specs.Names.{original}
use Rattle.step_machine.specs.Sealed.{Frame, HeldRow, held_at}

-- a message by the name of its copy 0 and its sender's state
pub record Tag : Type 0 where
  pub name : Name
  pub state : List Value

abbrev pub tag_of : Frame → Tag
tag_of f = record { name = original f.name; state = f.state }

-- the tag of a message that a node had for another, none if it had none
abbrev pub tag_by : Option (List Value) → Name → List Value → Option Tag
tag_by None n s = None
tag_by (Some m) n s = Some (record { name = n; state = s })

-- the name of what j sends to i in round r
abbrev pub sent_name : ℕ → ℕ → ℕ → Name
sent_name j i r = record { from = j; to = i; round = r; copy = 0 }

-- the tag of what was carried from j to i in round q + 1, none if nothing was
abbrev pub heard_from : World → List Event → ℕ → ℕ → ℕ → Option Tag
heard_from w t i q j =
    if carried w t i (suc q) j then tag_by (message w t (sent_name j i (suc q)))
    (sent_name j i (suc q)) (state w t q j) else None

-- the frames are, by message and sender's state, those that were carried to round q + 1 of node i
abbrev pub AreCarried : World → List Event → ℕ → ℕ → HeldRow → Type 0
AreCarried w t i q held =
    (j : ℕ) → j < nodes_of w → option_map tag_of (held_at held j) ≡ heard_from w t i q j

-- the mark is of a release while its receiver's step count stood in these steps
abbrev pub is_within : Mark → ℕ → ℕ → Bool
is_within Unsent first end = false
is_within Silent first end = false
is_within Flying first end = false
is_within (Released x) first end = nat_le first x && nat_lt x end
is_within Lost first end = false

-- one of a message's copies was, by the marks of all of them
abbrev pub any_within : (ℕ → Mark) → ℕ → ℕ → Bool
any_within marks first end = some_copy (λ k. is_within (marks k) first end)
