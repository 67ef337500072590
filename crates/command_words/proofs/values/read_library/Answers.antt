use Rattle.std.proofs.Common.{◌≡◌, ◌∙◌, ap, false, sym, true}
use Rattle.command_words.specs.Values.{is_name}
use Rattle.command_words.proofs.ValueLemmas.{library_parts, nothing_after_colon}
use Rattle.command_words.proofs.values.read_library.Goals as goal
use Rattle.command_words.proofs.values.read_library.Goals.{then-not-is_identifier-via-then-not-is_identifier}
use Rattle.command_words.proofs.values.read_library.Goals.{then-not-is_identifier-via-else-not-is_identifier+then-not-is_numeral}

pub returns-in_err-name-clause-none : goal.returns-in_err-name-clause-none
returns-in_err-name-clause-none c =
    rw c.from_residual.ensures (nothing_after_colon c.args.text.now c.in_err-name.ensures.none)

pub returns-then-not-is_identifier-clause-none : goal.returns-then-not-is_identifier-clause-none
returns-then-not-is_identifier-clause-none c = λ s h.
    let parts = library_parts c.args.text.now s h in
    elim c.then-not-is_identifier.branch [
      | then-not-is_identifier-via-then-not-is_identifier w ↦
          let bad : false ≡ true = sym w.if-not-is_identifier.true ∙ c.is_identifier.ensures
          ∙ ap is_name c.in_ok-name.ensures.before ∙ parts.0 in absurd (cc bad)
      | then-not-is_identifier-via-else-not-is_identifier+then-not-is_numeral w ↦
          let numeral = rw (← c.in_ok-name.ensures.after) at parts.1 in
          let bad : false ≡ true =
          sym w.if-not-is_numeral.true ∙ w.is_numeral.ensures.1 numeral in absurd (cc bad)
    ]
