-- When the network's events in the record of a run are those that its policy chose.
use Rattle.std.specs.Prelude.{ℕ}
use Rattle.adversary.specs.Asking.{Chooses}
use Rattle.locked_buffers.specs.Accounts.{IsTold}
use Rattle.locked_buffers.specs.Seats.{Told}
use Rattle.schedule_text.specs.declared.pace.Pace.{Pace}
use Rattle.step_book.specs.Log.{Log}
use Rattle.node_threads.specs.Turns.{HasRun, nothing_known}

-- The network took all its turns under this pace, from this policy on; before the first it knew of
-- no message. The events that came of the policy's answers are the releases, drops and copies in
-- the trace, in their order, and the answer to each is what became of it.
pub record FollowsPolicy {Q P : Type 0} (chooses : Chooses Q) (starts : P → ℕ → ℕ) (plan : P)
    (pace : Pace) (policy : Q) (v : Log) : Type 0 where
  pub told : Told
  pub ran : HasRun chooses starts (starts plan) pace policy nothing_known told
  pub recorded : IsTold (starts plan) v told
