-- What a history says of the run in rounds, and of each message.
use Rattle.std.specs.Prelude.{ℕ, zero, suc, ◌+◌, ◌-◌, Bool, true, false, not, ◌&&◌, ◌==◌}
use Rattle.std.specs.Prelude.{if◌then◌else◌, List, [], ◌∷◌, ◌++◌, Option, Some, None, is_some, min}
use Rattle.round_lang.specs.declared.value.Value.{Value}
use Rattle.round_meaning.specs.Rounds.{rounds}
use Rattle.step_book.specs.declared.mark.Mark.{Mark}
use Rattle.step_book.specs.declared.mark.Mark.TheVariants as mark
use Rattle.step_book.specs.Fates.{Fate, Unmade, Moving, Waiting, Taken, Lost, carried, fate}
use Rattle.step_book.specs.Fates.{is_take, is_waiting}
use Rattle.step_book.specs.World.{World}
use Rattle.run_events.specs.declared.event.Event.{Event}
use Rattle.run_events.specs.declared.event.Event.TheVariants.{Step, Release, Drop, Copy}
use Rattle.run_events.specs.declared.name.Name.{Name}
use Rattle.run_events.specs.Names.{original}

-- the omission table of a history: what wasn't carried
abbrev pub omits_of : World → List Event → ℕ → ℕ → ℕ → Bool
omits_of w t i r j = not (carried w t i r j)

-- the state of node i after r rounds under the history's omission table
abbrev pub state : World → List Event → ℕ → ℕ → List Value
state w t r i = rounds w.algorithm (omits_of w t) r i

-- what the sender has for the receiver in the message's round
abbrev pub message : World → List Event → Name → Option (List Value)
message w t n = w.algorithm.send n.round (state w t (n.round - 1) n.from) n.from n.to

-- silence has no copies
abbrev pub hushed : ℕ → Mark
hushed zero = mark.Silent
hushed (suc k) = mark.Unsent

-- a node's step count, or that of its first step past the last round: none later is told apart
abbrev pub counted : World → ℕ → ℕ
counted w x = min x (w.start (w.rounds + 1))

-- what is to be marked of copy k, by what is said and what became of it
abbrev pub marked : World → ℕ → Option (List Value) → Fate → Mark
marked w k m Unmade = mark.Unsent
marked w k None Moving = hushed k
marked w k None (Waiting x) = hushed k
marked w k None (Taken x c) = hushed k
marked w k None Lost = hushed k
marked w k (Some m) Moving = mark.Flying
marked w k (Some m) (Waiting x) = mark.Released (counted w x)
marked w k (Some m) (Taken x c) = mark.Released (counted w x)
marked w k (Some m) Lost = mark.Lost

-- what is to be marked under a name
unfoldable pub mark_of : World → List Event → Name → Mark
mark_of w t n = marked w n.copy (message w t n) (fate w t n)

-- what a release adds to its receiver's buffer: the copy, if it was in flight
abbrev pub arrival : Name → Mark → List Name
arrival n mark.Flying = n ∷ []
arrival n mark.Unsent = []
arrival n mark.Silent = []
arrival n (mark.Released x) = []
arrival n mark.Lost = []

-- what an event adds to the buffer of node i
abbrev pub arrived : World → ℕ → Event → List Event → List Name
arrived w i (Step k) past = []
arrived w i (Release n) past = if n.to == i then arrival n (mark_of w past n) else []
arrived w i (Drop n) past = []
arrived w i (Copy n) past = []

-- the buffer of node i: what was released to it since its last receive
unfoldable pub buffer_of : World → ℕ → List Event → List Name
buffer_of w i [] = []
buffer_of w i (e ∷ past) =
    if is_take w i e past then [] else buffer_of w i past ++ arrived w i e past

-- what is marked at the slot
abbrev pub spoken : Option (List Value) → Mark
spoken None = mark.Silent
spoken (Some m) = mark.Flying

-- what is marked after a release, when the receiver's steps count as x
abbrev pub let_go : ℕ → Mark → Mark
let_go x mark.Unsent = mark.Unsent
let_go x mark.Silent = mark.Silent
let_go x mark.Flying = mark.Released x
let_go x (mark.Released y) = mark.Released y
let_go x mark.Lost = mark.Lost

-- what is marked after a drop
abbrev pub dropped : Mark → Mark
dropped mark.Unsent = mark.Unsent
dropped mark.Silent = mark.Silent
dropped mark.Flying = mark.Lost
dropped (mark.Released x) = mark.Released x
dropped mark.Lost = mark.Lost

-- the message stands in its receiver's buffer under this name
abbrev pub is_buffered : World → List Event → Name → Bool
is_buffered w t n = is_waiting (fate w t n) && is_some (message w t n)

-- what the receives of node i handed out, each the buffer just before it
unfoldable pub handed_of : World → ℕ → List Event → List (List Name)
handed_of w i [] = []
handed_of w i (e ∷ past) =
    if is_take w i e past then handed_of w i past ++ buffer_of w i past ∷ [] else handed_of w i past

abbrev pub is_flying : Mark → Bool
is_flying mark.Unsent = false
is_flying mark.Silent = false
is_flying mark.Flying = true
is_flying (mark.Released x) = false
is_flying mark.Lost = false

abbrev pub is_unsent : Mark → Bool
is_unsent mark.Unsent = true
is_unsent mark.Silent = false
is_unsent mark.Flying = false
is_unsent (mark.Released x) = false
is_unsent mark.Lost = false

-- a copy is made where copy 0 is in flight and this copy was never made
abbrev pub is_copied : Mark → Mark → Bool
is_copied first m = is_flying first && is_unsent m

-- what is marked after a copy
abbrev pub copied : Mark → Mark → Mark
copied first m = if is_copied first m then mark.Flying else m

abbrev pub answer_to : World → Event → List Event → List Bool
answer_to w (Step k) past = []
answer_to w (Release n) past = is_flying (mark_of w past n) ∷ []
answer_to w (Drop n) past = is_flying (mark_of w past n) ∷ []
answer_to w (Copy n) past = is_copied (mark_of w past (original n)) (mark_of w past n) ∷ []

-- the answers of the network's events: whether a copy was let go, lost or made
unfoldable pub answers_of : World → List Event → List Bool
answers_of w [] = []
answers_of w (e ∷ past) = answers_of w past ++ answer_to w e past
