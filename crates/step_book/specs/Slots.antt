-- Which steps of a node are slots, and of which messages.
use Rattle.std.specs.Prelude.{◌≡◌, ◌≢◌, ℕ, ◌+◌}
use Rattle.step_book.specs.Names.{IsNameOf}
use Rattle.step_book.specs.World.{World, nodes_of}
use Rattle.run_events.specs.declared.name.Name.{Name}

-- step number x of node i is this message's slot, which makes its copy 0
pub record IsMessageAt (w : World) (i x : ℕ) (n : Name) : Type 0 where
  pub named : IsNameOf (nodes_of w) w.rounds n
  pub copy : n.copy ≡ 0
  pub from : n.from ≡ i
  pub slot : x ≡ w.start n.round + n.to

-- step number x is no message's slot
abbrev pub IsNoMessageAt : World → ℕ → Type 0
IsNoMessageAt w x = (n : Name) → IsNameOf (nodes_of w) w.rounds n → x ≢ w.start n.round + n.to
