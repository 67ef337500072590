-- How a table grows. Only proofs pass through here.
use Rattle.std.specs.Prelude.{◌≡◌, ℕ, Bool, ◌&&◌, ◌||◌, List, max, min}
use Rattle.round_meaning.specs.declared.omissions.Omission.{Omission}
use Rattle.round_meaning.specs.Omissions.{is_omitted}
use Rattle.round_meaning.specs.declared.setup.Setup.{Setup}
use Rattle.omission_texts.specs.Meaning.{has_node, has_round, is_message, line_omits}
use Rattle.omission_texts.specs.declared.line.OmissionLine.{OmissionLine}
use Rattle.omission_texts.specs.declared.line.RoundRange.{RoundRange}

-- the new table omits what the old one does, and these messages
pub record Adds (more : (i r j : ℕ) → Bool) (old new : List Omission) : Type 0 where
  pub added : (i r j : ℕ) → is_omitted new i r j ≡ (more i r j || is_omitted old i r j)

-- the messages of these rounds from these senders to these receivers
abbrev pub block : (receivers : List ℕ) → RoundRange → (senders : List ℕ) → (i r j : ℕ) → Bool
block receivers rs senders i r j =
    has_node receivers i && (has_round rs r && has_node senders j)

-- the messages of the run that a line omits
abbrev pub of_line : Setup → OmissionLine → (i r j : ℕ) → Bool
of_line s l i r j = is_message s i r j && line_omits l i r j

-- the rounds of the run among these
abbrev pub of_run : Setup → RoundRange → RoundRange
of_run s rs = record { first = max rs.first 1; last = min rs.last s.rounds }
