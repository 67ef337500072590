use Rattle.std.proofs.Common.{ap, subst, sym, ℕ}
use Rattle.std.proofs.lemmas.Str.{IsUtf8-string_bytes}
use Rattle.std.specs.Global.{Vec}
use Rattle.std.specs.Prelude.{string_bytes}
use Rattle.command_runs.proofs.texts.Text.into_string.Goals as goal
use Rattle.command_runs.specs.Texts.{HasNoTextIn, IsTextIn}
use Rattle.command_runs.specs.declared.texts.Text.{Text}
use Rattle.command_runs.specs.declared.texts.Unfit.TheVariants.{NoText}

pub returns-in-Ok-clause-whole : goal.returns-in-Ok-clause-whole
returns-in-Ok-clause-whole c =
    let s = c.in-Ok.text in
    subst (λ (t : Text). IsTextIn t (string_bytes s)) (sym c.in-Whole.is)
    (IsUtf8-string_bytes s, ap (λ (v : Vec ℕ). v.items) c.in-Ok.ensures.ok)

pub returns-in-Whole-clause-refused : goal.returns-in-Whole-clause-refused
returns-in-Whole-clause-refused c =
    subst (λ (t : Text). HasNoTextIn t NoText) (sym c.in-Whole.is)
    (λ utf8. absurd (cc (c.in-Err.ensures.succeeds utf8)))
