-- What a post keeps of its locks.
use Rattle.std.specs.Prelude.{◌≡◌, ℕ, ◌≤◌}

-- there is a lock for each node, and room for what they give back
pub record IsPosted (nodes locked returned room : ℕ) : Type 0 where
  pub each : locked ≡ nodes
  pub none : returned ≡ 0
  pub fits : nodes ≤ room
