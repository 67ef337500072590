use Rattle.std.proofs.Common.{refl, sym, subst}
use Rattle.round_lang.specs.Source.{IsSource}
use Rattle.round_lang.proofs.Whole.{one_source}
use Rattle.algorithm_library.specs.Programs.{gather_tree}
use Rattle.algorithm_library.specs.Texts.{IsProgramText, gather_rest, text_of}
use Rattle.algorithm_library.proofs.Sources.{gather_source, gather_text}
use Rattle.algorithm_library.proofs.library.gather.Goals as goal

pub program_of-requires : goal.program_of-requires
program_of-requires c =
    let count = c.if-not-is_count.ensures.0 refl in
    subst (λ rest. IsProgramText (text_of rest c.args.values)) (sym c.gather_rest.ensures)
    (gather_text c.args.values count)

pub returns-clause-program : goal.returns-clause-program
returns-clause-program c =
    let count = c.if-not-is_count.ensures.0 refl in
    let is : IsSource (text_of gather_rest c.args.values) c.in_ok-program_of.field-0 =
    subst (λ rest. IsSource (text_of rest c.args.values) c.in_ok-program_of.field-0)
    c.gather_rest.ensures c.in_ok-program_of.ensures in
    one_source (text_of gather_rest c.args.values) c.in_ok-program_of.field-0
    (gather_tree c.args.values) is (gather_source c.args.values count.some count.few)
