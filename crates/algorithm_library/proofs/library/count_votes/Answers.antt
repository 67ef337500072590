use Rattle.std.proofs.Common.{refl, sym, subst}
use Rattle.round_lang.specs.Source.{IsSource}
use Rattle.round_lang.proofs.Whole.{one_source}
use Rattle.algorithm_library.specs.Programs.{count_votes_tree}
use Rattle.algorithm_library.specs.Texts.{IsProgramText, count_votes_rest, text_of}
use Rattle.algorithm_library.proofs.Sources.{count_votes_source, count_votes_text}
use Rattle.algorithm_library.proofs.library.count_votes.Goals as goal

pub program_of-requires : goal.program_of-requires
program_of-requires c =
    let count = c.if-not-is_count.ensures.0 refl in
    subst (λ rest. IsProgramText (text_of rest c.args.values)) (sym c.count_votes_rest.ensures)
    (count_votes_text c.args.values count)

pub returns-clause-program : goal.returns-clause-program
returns-clause-program c =
    let count = c.if-not-is_count.ensures.0 refl in
    let is : IsSource (text_of count_votes_rest c.args.values) c.in_ok-program_of.field-0 =
    subst (λ rest. IsSource (text_of rest c.args.values) c.in_ok-program_of.field-0)
    c.count_votes_rest.ensures c.in_ok-program_of.ensures in
    one_source (text_of count_votes_rest c.args.values) c.in_ok-program_of.field-0
    (count_votes_tree c.args.values) is (count_votes_source c.args.values count.some count.few)
