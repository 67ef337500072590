-- The text of a schedule whose idle ticks aren't kept.
use Rattle.std.specs.Prelude.{ℕ, ◌-◌, ◌≤◌, ◌++◌, List, string_bytes}
use Rattle.std.specs.List.{flat_map}
use Rattle.command_runs.specs.declared.idle.IdleTicks.{IdleTicks}
use Rattle.command_runs.specs.declared.idle.PacedSchedule.{PacedSchedule}
use Rattle.lockstep_runs.specs.Changes.{timing_by}
use Rattle.lockstep_runs.specs.IdleTicks.{idle_steps}
use Rattle.run_events.specs.Limits.{max_nodes}
use Rattle.schedule_text.specs.Writing.{event_line, line_text}
use Rattle.run_events.specs.declared.event.Event.{Event}

-- the lines of events
abbrev pub events_text : List Event → List ℕ
events_text es = flat_map (λ e. line_text (event_line e)) es

-- the ticks can be written: the nodes are no more than a run has, and the first tick isn't behind
-- the last
pub record IsReady (t : IdleTicks) : Type 0 where
  pub nodes : t.nodes ≤ max_nodes
  pub ordered : t.first ≤ t.after

-- the events of the ticks
abbrev pub idle_events : IdleTicks → List Event
idle_events t = idle_steps (timing_by t.bounded.now t.changes t.correct.bits) t.nodes t.first
    (t.after - t.first)

abbrev pub idle_text : IdleTicks → List ℕ
idle_text t = events_text (idle_events t)

-- the whole text
abbrev pub schedule_text : PacedSchedule → List ℕ
schedule_text p = string_bytes p.text ++ idle_text p.idle
