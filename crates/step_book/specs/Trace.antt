-- Events of a history, which has the newest event first: a moment is the list of what went before
-- it.
use Rattle.std.specs.Prelude.{ℕ, ◌+◌, Bool, false, ◌&&◌, ◌==◌, if◌then◌else◌, List, [], ◌∷◌}
use Rattle.run_events.specs.Events.{of_event}
use Rattle.run_events.specs.declared.event.Event.{Event}
use Rattle.run_events.specs.declared.event.Event.TheVariants.{Step, Release, Drop, Copy}
use Rattle.run_events.specs.declared.name.Name.{Name}

-- the names are one
abbrev pub is_name : Name → Name → Bool
is_name n m = m.from == n.from && m.to == n.to && m.round == n.round && m.copy == n.copy

abbrev pub is_step : ℕ → Event → Bool
is_step i e = of_event (λ k. k == i) (λ m. false) e

abbrev pub is_release : Name → Event → Bool
is_release n (Step k) = false
is_release n (Release m) = is_name n m
is_release n (Drop m) = false
is_release n (Copy m) = false

abbrev pub is_drop : Name → Event → Bool
is_drop n (Step k) = false
is_drop n (Release m) = false
is_drop n (Drop m) = is_name n m
is_drop n (Copy m) = false

abbrev pub is_copy : Name → Event → Bool
is_copy n (Step k) = false
is_copy n (Release m) = false
is_copy n (Drop m) = false
is_copy n (Copy m) = is_name n m

-- how many steps of i a history has
unfoldable pub steps : ℕ → List Event → ℕ
steps i [] = 0
steps i (e ∷ past) = if is_step i e then steps i past + 1 else steps i past
