use Rattle.std.proofs.Common.{get_or}
use Rattle.std.proofs.lemmas.List.{get_or_default}
use Rattle.part_answers.specs.declared.answered.Answered.{Answered}
use Rattle.part_answers.specs.declared.answered.Outcome.TheVariants.{Holds}
use Rattle.part_answers.specs.declared.property.Property.TheVariants.{Agreement}
use Rattle.part_answers.proofs.LineLemmas.{all_written, none_written, one_written}
use Rattle.part_answers.proofs.writing.write_answers.Goals as goal

pub loop-answered-init : goal.loop-answered-init
loop-answered-init g c = none_written (g.W.Write.contents c.args.out.now)

pub loop-answered-preserved : goal.loop-answered-preserved
loop-answered-preserved g c =
    let out = g.W.Write.contents in
    let answers = c.args.answers.now in
    let i = c.loop-answered.answered-index in
    let d : Answered = record { property = Agreement; outcome = Holds } in
    let a = get_or answers i d in
    one_written (out c.args.out.now) (out c.loop-answered.out) (out c.write_answered.new.out)
    answers i a c.loop-answered-test.true (get_or_default answers i d a c.loop-answered-test.true)
    c.loop-answered.invariant c.in_ok-write_answered.ensures

pub returns : goal.returns
returns g c =
    let out = g.W.Write.contents in
    all_written (out c.args.out.now) (out c.loop-answered.out) c.args.answers.now
    c.loop-answered.answered-index c.loop-answered-test.false c.loop-answered.invariant
