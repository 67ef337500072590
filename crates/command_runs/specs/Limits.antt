-- The limits of the crates below: what the code reads is what the definitions say.
use Rattle.std.specs.Prelude.{◌≡◌, ◌+◌}
use Rattle.lockstep_runs.specs.Lockstep as tables
use Rattle.lockstep_runs.specs.declared.lockstep.TheConstants as table_code
use Rattle.round_lang.specs.Limits as language
use Rattle.round_lang.specs.declared.limits.TheConstants as language_code
use Rattle.round_meaning.specs.Setups as setups
use Rattle.round_meaning.specs.declared.setup.TheConstants as setup_code
use Rattle.run_events.specs.Laws as runs
use Rattle.schedule_text.specs.Texts as schedules
use Rattle.schedule_text.specs.declared.reading.TheConstants as schedule_code
use Rattle.step_machine.specs.Nodes as machine
use Rattle.step_machine.specs.declared.node.TheConstants as node_code

-- each limit that other crates read is that of the definitions
pub record LimitsAreDefined : Type 0 where
  pub source : language_code.MAX_TEXT ≡ language.max_text
  pub schedule : schedule_code.MAX_TEXT ≡ schedules.max_text
  pub run : runs.LimitsAreDefined
  pub faults : setup_code.MAX_FAULTS ≡ setups.max_faults
  pub rounds_held : node_code.ROUNDS_HELD ≡ machine.ahead + 1
  pub entries : table_code.MAX_ENTRIES ≡ tables.max_entries
