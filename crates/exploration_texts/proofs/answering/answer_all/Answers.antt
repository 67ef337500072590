use Rattle.std.proofs.Common.{refl}
use Rattle.exploration_texts.specs.declared.answering.Search.{Search}
use Rattle.exploration_texts.proofs.EachTold.{answers_asked}
use Rattle.exploration_texts.proofs.answering.answer_all.Goals as goal

pub returns-clause-told : goal.returns-clause-told
returns-clause-told g c =
    let w : Search = record {
      program = c.args.program;
      setup = c.args.setup;
      question = c.question_of.result;
      inputs = c.inputs_of.result;
      jobs = c.args.exploring.now.jobs;
      sample = c.args.exploring.now.sample;
    } in
    answers_asked w c.args.program.now c.args.setup.now c.args.exploring.now
    c.in_ok-always.always c.in_ok-answers.field-0.items refl refl c.question_of.ensures
    c.inputs_of.ensures refl c.in_ok-always.ensures.read
    (rw (← c.as_ref.ensures.value) c.in_ok-answers.ensures)
