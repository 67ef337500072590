-- When an expression is no condition on the states of a program: each cause, in the order of a
-- program's own.
use Rattle.std.specs.Prelude.{Bool, List, [], ◌∷◌, not, Option}
use Rattle.round_lang.specs.declared.expr.Ty.TheVariants.{Bool as Truth}
use Rattle.round_lang.specs.Syntax.{ProgramTree}
use Rattle.round_lang.specs.Tree.{Tree}
use Rattle.round_check.specs.declared.fault.CheckFault.{CheckFault}
use Rattle.round_check.specs.declared.fault.CheckFault.TheVariants.{DoubleName, UnknownName}
use Rattle.round_check.specs.declared.fault.CheckFault.TheVariants.{NotAllowedHere, WrongType}
use Rattle.round_check.specs.declared.rules.Place.TheVariants.{End}
use Rattle.round_check.specs.declared.rules.Rule.TheVariants.{Fresh, Known, Allowed}
use Rattle.round_check.specs.Causes.{first_standing}
use Rattle.round_check.specs.Rules.{Scope, breaks, start_scope}
use Rattle.round_check.specs.Types.{context_with, has_type, type_of}

-- the scope of an expression that stands at the end of a round, in no block
abbrev pub end_scope : ProgramTree → Scope
end_scope p = record (start_scope p) { place = End }

-- the causes, in the order in which they are answered, and which of them stand
abbrev pub condition_causes : ProgramTree → Tree → List (CheckFault × Bool)
condition_causes p t =
    (DoubleName, breaks Fresh t (end_scope p)) ∷ (UnknownName, breaks Known t (end_scope p))
    ∷ (NotAllowedHere, breaks Allowed t (end_scope p))
    ∷ (WrongType, not (has_type (type_of t (context_with [] p)) Truth)) ∷ []

-- why an expression is no condition on the program's states: the first cause that stands
unfoldable pub condition_fault : ProgramTree → Tree → Option CheckFault
condition_fault p t = first_standing (condition_causes p t)
