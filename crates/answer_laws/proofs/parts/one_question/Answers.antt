use Rattle.answer_laws.proofs.SameQuestions.{one_question}
use Rattle.answer_laws.proofs.parts.one_question.Goals as goal

pub returns : goal.returns
returns c = one_question
