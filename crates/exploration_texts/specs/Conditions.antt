-- When a text is a condition on the states of a program, and why it is none.
use Rattle.std.specs.Borrow.{Bor}
use Rattle.std.specs.Prelude.{◌≡◌, ◌<◌, ⊤, ℕ, List, None, Option, Some, length}
use Rattle.exploration_texts.specs.declared.condition.ConditionFault.{ConditionFault}
use Rattle.exploration_texts.specs.declared.condition.ConditionFault.TheVariants as fault
use Rattle.round_check.specs.Conditions.{condition_fault}
use Rattle.round_check.specs.declared.fault.CheckFault.{CheckFault}
use Rattle.round_check.specs.declared.fault.CheckFault.TheVariants as check
use Rattle.round_lang.specs.Limits.{max_text}
use Rattle.round_lang.specs.Source.{IsFormula}
use Rattle.round_lang.specs.Syntax.{ProgramTree}
use Rattle.round_lang.specs.Tree.{Tree}
use Rattle.round_lang.specs.declared.fault.LangFault.{LangFault}
use Rattle.round_lang.specs.declared.fault.LangFault.TheVariants as lang

-- the fault of a layer below; out of memory is one of its own
abbrev pub of_source : LangFault → ConditionFault
of_source lang.NoMemory = fault.NoMemory
of_source e = fault.Source e

abbrev pub of_check : CheckFault → ConditionFault
of_check check.NoMemory = fault.NoMemory
of_check e = fault.Check e

-- the text is this expression, and it is a condition on the program's states
pub record IsCondition (p : ProgramTree) (text : List ℕ) (f : Tree) : Type 0 where
  pub formula : IsFormula text f
  pub faultless : condition_fault p f ≡ None

-- why the text is none: it is too long, no expression, or one that has this fault
abbrev pub IsNoCondition : ProgramTree → List ℕ → ConditionFault → Type 0
IsNoCondition p text (fault.Source lang.TooLong) = max_text < length text
IsNoCondition p text (fault.Source lang.NoMemory) = ⊥
IsNoCondition p text (fault.Source e) = (f : Tree) → ¬ (IsFormula text f)
IsNoCondition p text (fault.Check e) =
    (f : Tree) × IsFormula text f × (condition_fault p f ≡ Some e)
IsNoCondition p text fault.NoMemory = ⊤

-- the condition of a text, if there is a text
abbrev pub IsConditionFor : ProgramTree → Option (Bor (List ℕ)) → Option Tree → Type 0
IsConditionFor p None None = ⊤
IsConditionFor p (Some text) (Some f) = IsCondition p text.now f
IsConditionFor p _ _ = ⊥

-- why the text of a condition is refused, if there is a text
abbrev pub IsFaultFor : ProgramTree → Option (Bor (List ℕ)) → ConditionFault → Type 0
IsFaultFor p _ fault.NoMemory = ⊤
IsFaultFor p None e = ⊥
IsFaultFor p (Some text) e = IsNoCondition p text.now e
