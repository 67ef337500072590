use Rattle.std.proofs.Common.{◌+◌, ◌*◌, ◌≤◌, arith, refl, sym, subst}
use Rattle.round_lang.specs.Source.{IsSource}
use Rattle.round_lang.proofs.Whole.{one_source}
use Rattle.round_meaning.specs.Algorithm1.{dls1}
use Rattle.algorithm_library.specs.Agreeing.{KeepsAgreement, KeepsValidity}
use Rattle.algorithm_library.specs.Texts.{IsProgramText, dls1_rest, text_of}
use Rattle.algorithm_library.proofs.Agreed.{keeps_agreement, keeps_validity}
use Rattle.algorithm_library.proofs.Sources.{dls1_source, dls1_text}
use Rattle.algorithm_library.proofs.library.dls1.Goals as goal

pub program_of-requires : goal.program_of-requires
program_of-requires c =
    let count = (c.if-not-is_within.ensures.0 refl).count in
    subst (λ rest. IsProgramText (text_of rest c.args.values)) (sym c.dls1_rest.ensures)
    (dls1_text c.args.values count)

pub returns-clause-program : goal.returns-clause-program
returns-clause-program c =
    let count = (c.if-not-is_within.ensures.0 refl).count in
    let is : IsSource (text_of dls1_rest c.args.values) c.in_ok-program_of.field-0 =
    subst (λ rest. IsSource (text_of rest c.args.values) c.in_ok-program_of.field-0)
    c.dls1_rest.ensures c.in_ok-program_of.ensures in
    one_source (text_of dls1_rest c.args.values) c.in_ok-program_of.field-0 (dls1 c.args.values) is
    (dls1_source c.args.values count.some count.few)

pub returns-clause-agreement : goal.returns-clause-agreement
returns-clause-agreement c =
    let most : 2 * c.args.faults + 1 ≤ c.args.nodes = omega (arith, c.if-nodes-faults.false) in
    subst (λ p. KeepsAgreement p c.args.nodes c.args.faults) (sym (returns-clause-program c))
    (keeps_agreement c.args.values c.args.nodes c.args.faults
    (c.if-not-is_within.ensures.0 refl).count.few most)

pub returns-clause-validity : goal.returns-clause-validity
returns-clause-validity c =
    let most : 2 * c.args.faults + 1 ≤ c.args.nodes = omega (arith, c.if-nodes-faults.false) in
    subst (λ p. KeepsValidity p c.args.nodes c.args.faults) (sym (returns-clause-program c))
    (keeps_validity c.args.values c.args.nodes c.args.faults
    (c.if-not-is_within.ensures.0 refl).count.few most)
