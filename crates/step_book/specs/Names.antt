-- Which names are of messages of a run.
use Rattle.std.specs.Prelude.{ℕ, ◌<◌, ◌≤◌}
use Rattle.round_meaning.specs.declared.setup.Setup.{Setup}
use Rattle.run_events.specs.declared.name.Name.{Name}
use Rattle.run_events.specs.Limits.{max_copy}

-- the name is of one of the copies of a message between so many nodes, in so many rounds
pub record IsNameOf (nodes rounds : ℕ) (n : Name) : Type 0 where
  pub from : n.from < nodes
  pub to : n.to < nodes
  pub first : 0 < n.round
  pub last : n.round ≤ rounds
  pub copy : n.copy ≤ max_copy

-- the name is of a message of the run
abbrev pub IsName : Setup → Name → Type 0
IsName s n = IsNameOf s.nodes s.rounds n
