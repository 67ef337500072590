use Rattle.std.proofs.Common.{sym, ◌∙◌, false-eqb}
use Rattle.std.proofs.lemmas.Bool.{eqb-true}
use Rattle.round_lang.proofs.Steps.{number_is}
use Rattle.round_lang.proofs.Whole.{program_reads, all_are_read, some_are_left}
use Rattle.round_lang.proofs.parsing.program.Goals as goal

pub new-requires : goal.new-requires
new-requires c =
    let values = number_is 1 64 _ _ _ c.in_ok-values.ensures.gives in
    let period = number_is 1 8 _ _ _ c.in_ok-period.ensures.gives in
    record {
      some_value = values.least;
      few_values = values.most;
      some_round =
          period.least;
      few_rounds = period.most;
      few_variables = c.in_ok-declared.ensures.few;
    }

pub returns-then-is_empty : goal.returns-then-is_empty
returns-then-is_empty c =
    rw c.new.ensures
    (program_reads _ _ _ _ _ _ _ _ _ _ _ _ c.in_ok-rest.ensures.gives c.in_ok-values.ensures.gives
    c.in_ok-rest-2.ensures.gives c.in_ok-period.ensures.gives c.in_ok-declared.ensures.gives
    c.in_ok-blocks.ensures.gives
    ∙ all_are_read _ c.in_ok-blocks.rest.now (eqb-true _ _ (sym c.if-is_empty.ensures)))

pub returns-else-is_empty : goal.returns-else-is_empty
returns-else-is_empty c =
    program_reads _ _ _ _ _ _ _ _ _ _ _ _ c.in_ok-rest.ensures.gives c.in_ok-values.ensures.gives
    c.in_ok-rest-2.ensures.gives c.in_ok-period.ensures.gives c.in_ok-declared.ensures.gives
    c.in_ok-blocks.ensures.gives
    ∙ some_are_left _ c.in_ok-blocks.rest.now (false-eqb _ _ c.if-is_empty.ensures)
