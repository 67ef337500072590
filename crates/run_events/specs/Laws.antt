-- That code and definitions have the same limits.
use Rattle.std.specs.Prelude.{◌≡◌}
use Rattle.run_events.specs.Limits.{max_copy, max_delta, max_nodes, max_rounds}
use Rattle.run_events.specs.declared.limits.TheConstants as code

-- each limit of a run that the code reads is that of the definitions
pub record LimitsAreDefined : Type 0 where
  pub nodes : code.MAX_NODES ≡ max_nodes
  pub rounds : code.MAX_ROUNDS ≡ max_rounds
  pub copy : code.MAX_COPY ≡ max_copy
  pub delta : code.MAX_DELTA ≡ max_delta
