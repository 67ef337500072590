-- What the runs of a program agree on, whatever is omitted.
use Rattle.std.specs.Prelude.{◌≡◌, ℕ, Bool}
use Rattle.round_lang.specs.Syntax.{ProgramTree}
use Rattle.round_meaning.specs.declared.setup.Setup.{Setup}
use Rattle.round_meaning.specs.Agreement.{AgreesIn, IsValidIn}
use Rattle.round_meaning.specs.Setups.{IsLawful}

-- a lawful setup of the program, with this number of nodes and of faults
pub record IsFor (p : ProgramTree) (n t : ℕ) (s : Setup) : Type 0 where
  pub lawful : IsLawful p.values s
  pub nodes : s.nodes ≡ n
  pub faults : s.faults ≡ t

-- any two decisions of a run, of any nodes after any rounds, are equal, whatever is omitted
abbrev pub KeepsAgreement : ProgramTree → (nodes faults : ℕ) → Type 0
KeepsAgreement p nodes faults =
    (s : Setup) (omits : ℕ → ℕ → ℕ → Bool) → IsFor p nodes faults s → AgreesIn p s omits

-- each decision of a run is some node's input, whatever is omitted
abbrev pub KeepsValidity : ProgramTree → (nodes faults : ℕ) → Type 0
KeepsValidity p nodes faults =
    (s : Setup) (omits : ℕ → ℕ → ℕ → Bool) → IsFor p nodes faults s → IsValidIn p s omits
