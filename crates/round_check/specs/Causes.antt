-- When a program is refused: each cause, and the order in which they are answered.
use Rattle.std.specs.Prelude.{ℕ, suc, Bool, true, false, ◌&&◌, ◌||◌, not, List, [], ◌∷◌}
use Rattle.std.specs.Prelude.{length, count_by, Option, Some, None, is_none, is_some, unwrap_or}
use Rattle.std.specs.Prelude.{slice_get, nat_lt, ◌==◌, if◌then◌else◌}
use Rattle.std.specs.List.{list_any}
use Rattle.round_lang.specs.declared.block.Field.{Field}
use Rattle.round_lang.specs.declared.program.Variable.{Variable}
use Rattle.round_lang.specs.Syntax.{BlockTree, ProgramTree}
use Rattle.round_check.specs.declared.fault.CheckFault.{CheckFault}
use Rattle.round_check.specs.declared.fault.CheckFault.TheVariants.{UnknownName, DoubleName}
use Rattle.round_check.specs.declared.fault.CheckFault.TheVariants.{WrongType, FieldCount}
use Rattle.round_check.specs.declared.fault.CheckFault.TheVariants.{NotAllowedHere, NoInput}
use Rattle.round_check.specs.declared.fault.CheckFault.TheVariants.{NoDecision, MissingRound}
use Rattle.round_check.specs.declared.rules.Rule.TheVariants.{Fresh, Known, Allowed}
use Rattle.round_check.specs.Names.{is_input, declares, has_field}
use Rattle.round_check.specs.Rules.{breaks_program}
use Rattle.round_check.specs.Types.{context_with, wrong_program}

-- two state or input variables have one name
abbrev pub repeats_variable : List Variable → Bool
repeats_variable [] = false
repeats_variable (v ∷ vs) = declares vs v.name || repeats_variable vs

-- two fields have one name
abbrev pub repeats_field : List Field → Bool
repeats_field [] = false
repeats_field (f ∷ fs) = has_field fs f.name || repeats_field fs

-- a field has the name of a variable
abbrev pub has_variable_name : List Variable → List Field → Bool
has_variable_name vs fs = list_any (λ (f : Field). declares vs f.name) fs

-- a block has two fields of one name, or one with the name of a variable
abbrev pub double_field : List Variable → BlockTree → Bool
double_field vs b = repeats_field b.fields || has_variable_name vs b.fields

-- there is a second `input`
abbrev pub second_input : List Variable → Bool
second_input vs = nat_lt 1 (count_by (λ (v : Variable). is_input v.kind) vs)

-- a name has two meanings, or `input` or `decide` stands twice
unfoldable pub double_name : ProgramTree → Bool
double_name p =
    repeats_variable p.variables
    || second_input p.variables
    || nat_lt 1 (length p.decides)
    || list_any (double_field p.variables) p.blocks
    || breaks_program Fresh p

-- the name after the first `input`
abbrev pub first_input : List Variable → Option (List ℕ)
first_input [] = None
first_input (v ∷ vs) = if is_input v.kind then Some v.name else first_input vs

-- there is no `input`
unfoldable pub no_input : ProgramTree → Bool
no_input p = not (is_some (first_input p.variables))

-- there is no `decide`
unfoldable pub no_decision : ProgramTree → Bool
no_decision p = length p.decides == 0

-- the blocks are numbered one after another from k
abbrev pub numbered_from : ℕ → List BlockTree → Bool
numbered_from k [] = true
numbered_from k (b ∷ bs) = (b.number == k) && numbered_from (suc k) bs

-- the blocks aren't numbered 1 to the period in order
unfoldable pub missing_round : ProgramTree → Bool
missing_round p = not ((length p.blocks == p.period) && numbered_from 1 p.blocks)

-- a name is no variable, no comprehension variable in its scope and no field of any block
unfoldable pub unknown_name : ProgramTree → Bool
unknown_name p = breaks_program Known p

-- a name or constant stands where it may not
unfoldable pub not_allowed_here : ProgramTree → Bool
not_allowed_here p = breaks_program Allowed p

-- a block sends another number of expressions than it has fields
unfoldable pub field_count : ProgramTree → Bool
field_count p = list_any (λ (b : BlockTree). not (length b.fields == length b.sent)) p.blocks

-- something has another type than the operators or declarations say
unfoldable pub wrong_type : ProgramTree → Bool
wrong_type p = wrong_program (context_with [] p) p

-- the causes, in the order in which they are answered, and which of them stand
abbrev pub causes : ProgramTree → List (CheckFault × Bool)
causes p =
    (DoubleName, double_name p) ∷ (NoInput, no_input p) ∷ (NoDecision, no_decision p)
    ∷ (MissingRound, missing_round p) ∷ (UnknownName, unknown_name p)
    ∷ (NotAllowedHere, not_allowed_here p)
    ∷ (FieldCount, field_count p) ∷ (WrongType, wrong_type p) ∷ []

-- the first that stands
abbrev pub first_standing : List (CheckFault × Bool) → Option CheckFault
first_standing [] = None
first_standing (c ∷ cs) = if c.1 then Some c.0 else first_standing cs

-- why a program is refused: the first cause that stands
unfoldable pub fault_of : ProgramTree → Option CheckFault
fault_of p = first_standing (causes p)

-- no cause stands
unfoldable pub is_typed : ProgramTree → Bool
is_typed p = is_none (fault_of p)

-- the input's name
abbrev pub input_name : ProgramTree → List ℕ
input_name p = unwrap_or (first_input p.variables) []

-- the name after the first `decide`
abbrev pub decided_name : ProgramTree → List ℕ
decided_name p = unwrap_or (slice_get p.decides 0) []
