-- Why a text is no condition, from what its reading refuses.
use Rattle.std.proofs.Common.{◌≡◌, ◌≢◌, ◌<◌, ℕ, List, Err, Ok, Result, length, refl}
use Rattle.std.specs.Prelude.{IfErr, IsErrAnd}
use Rattle.exploration_texts.specs.Conditions.{IsNoCondition, of_source}
use Rattle.round_lang.specs.Limits.{max_text}
use Rattle.round_lang.specs.Source.{IsFormula}
use Rattle.round_lang.specs.Syntax.{ProgramTree}
use Rattle.round_lang.specs.Tree.{Tree}
use Rattle.round_lang.specs.declared.fault.LangFault.{LangFault}
use Rattle.round_lang.specs.declared.fault.LangFault.TheVariants as lang

-- what follows from the error that a `?` hands on
pub err_then : {T E : Type 0} (r : Result T E) (Q P : E → Type 0) → IsErrAnd r Q
    → ((y : E) → Q y → P y) → IfErr r P
err_then (Ok x) Q P h f = tt
err_then (Err y) Q P h f = f y h

-- what `parse_formula` refuses
pub no_formula : (p : ProgramTree) (text : List ℕ) (f : LangFault)
    → (f ≢ lang.NoMemory → f ≢ lang.TooLong → (t : Tree) → IsFormula text t → ⊥)
    → (f ≡ lang.TooLong → max_text < length text) → IsNoCondition p text (of_source f)
no_formula p text (lang.BadToken span) none long = none (λ e. cc e) (λ e. cc e)
no_formula p text (lang.Unexpected span) none long = none (λ e. cc e) (λ e. cc e)
no_formula p text lang.TooDeep none long = none (λ e. cc e) (λ e. cc e)
no_formula p text lang.TooLong none long = long refl
no_formula p text (lang.LimitPassed span) none long = none (λ e. cc e) (λ e. cc e)
no_formula p text lang.NoMemory none long = tt
