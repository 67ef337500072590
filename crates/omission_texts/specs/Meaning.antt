-- Which messages lines omit, which lines name messages of a run, and which table has just these.
use Rattle.std.specs.Prelude.{◌≡◌, ℕ, ◌<◌, ◌≤◌, All, Bool, not, ◌&&◌, ◌||◌, ◌==◌, nat_le, nat_lt}
use Rattle.std.specs.Prelude.{List}
use Rattle.std.specs.Prelude.{Option, Some, None, length, slice_index_or}
use Rattle.std.specs.List.{list_any}
use Rattle.round_meaning.specs.declared.omissions.Omission.{Omission}
use Rattle.round_meaning.specs.declared.setup.Setup.{Setup}
use Rattle.round_meaning.specs.Omissions.{is_omitted}
use Rattle.omission_texts.specs.declared.line.OmissionLine.{OmissionLine}
use Rattle.omission_texts.specs.declared.line.OmissionLine.TheVariants.{Omit, Cut, Crash}
use Rattle.omission_texts.specs.declared.line.RoundRange.{RoundRange}

-- the node is in the list
abbrev pub has_node : List ℕ → ℕ → Bool
has_node list i = list_any (λ j. j == i) list

-- the round is one of these
abbrev pub has_round : RoundRange → ℕ → Bool
has_round rs r = nat_le rs.first r && nat_le r rs.last

-- one of the two nodes is in the list, and the other isn't
abbrev pub parts : List ℕ → (i j : ℕ) → Bool
parts list i j =
    (has_node list i && not (has_node list j)) || (not (has_node list i) && has_node list j)

-- the line says that the receiver i doesn't get j's message of round r: it names that message, cuts
-- the two apart in the round, or has j crash in it without reaching i, or in a round before it
abbrev pub line_omits : OmissionLine → (i r j : ℕ) → Bool
line_omits (Omit receiver rs sender) i r j = receiver == i && (has_round rs r && sender == j)
line_omits (Cut list rs) i r j = has_round rs r && parts list i j
line_omits (Crash node round reached) i r j =
    node == j && ((round == r && not (has_node reached i)) || nat_lt round r)

-- some line omits that message
abbrev pub omits : List OmissionLine → (i r j : ℕ) → Bool
omits ls i r j = list_any (λ l. line_omits l i r j) ls

-- each node of the list is one of the run
abbrev pub AreNodesOf : Setup → List ℕ → Type 0
AreNodesOf s list = All (λ i. i < s.nodes) list

-- there are such rounds, and each is one of the run
pub record AreRoundsOf (s : Setup) (rs : RoundRange) : Type 0 where
  pub first : 1 ≤ rs.first
  pub some : rs.first ≤ rs.last
  pub last : rs.last ≤ s.rounds

-- what the line names is of the run
abbrev pub IsKnown : Setup → OmissionLine → Type 0
IsKnown s (Omit i rs j) = (i < s.nodes) × (j < s.nodes) × AreRoundsOf s rs
IsKnown s (Cut list rs) = AreNodesOf s list × AreRoundsOf s rs
IsKnown s (Crash j r reached) = (j < s.nodes) × ((1 ≤ r) × (r ≤ s.rounds)) × AreNodesOf s reached

-- the first line that names what isn't of the run is at this place, or there is none
abbrev pub IsFirstUnknown : Setup → List OmissionLine → Option ℕ → Type 0
IsFirstUnknown s ls None = All (IsKnown s) ls
IsFirstUnknown s ls (Some k) =
    (k < length ls) × ((d : OmissionLine) → ¬ IsKnown s (slice_index_or ls k d))
    × ((j : ℕ) (d : OmissionLine) → j < k → IsKnown s (slice_index_or ls j d))

-- i and j are nodes of the run, and r is one of its rounds
abbrev pub is_message : Setup → (i r j : ℕ) → Bool
is_message s i r j = nat_lt i s.nodes && (nat_lt j s.nodes && (nat_le 1 r && nat_le r s.rounds))

-- the table omits just the messages of the run that the lines omit
abbrev pub IsTableOf : Setup → List OmissionLine → List Omission → Type 0
IsTableOf s ls table =
    (i r j : ℕ) → is_omitted table i r j ≡ (is_message s i r j && omits ls i r j)
