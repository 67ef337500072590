use Rattle.std.proofs.Common.{Err, ◌∙◌, ap, arith}
use Rattle.round_check.specs.Causes.{is_typed}
use Rattle.round_lang.proofs.Whole.{one_source}
use Rattle.algorithm_library.proofs.Faults.{memory_alone}
use Rattle.algorithm_library.proofs.source.program_in.Goals as goal

pub memory_of_parse-requires : goal.memory_of_parse-requires
memory_of_parse-requires c =
    memory_alone c.in-Err.fault
    (λ one other. c.in-Err.ensures.refused one other c.requires.program c.requires.source)
    (λ e. let long = c.parse.ensures.long.0 (c.in-Err.is ∙ ap (λ x. Err x) e) in
    absurd (omega (arith, c.requires.short)))

pub memory_of_check-requires : goal.memory_of_check-requires
memory_of_check-requires c =
    c.in-Err-check.ensures.memory_alone
    (ap is_typed (one_source c.args.text.now c.in-Ok.program c.requires.program
    c.in-Ok.ensures.found c.requires.source) ∙ c.requires.typed)
