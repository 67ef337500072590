use Rattle.answer_laws.proofs.AnswerLines.{answers_lines}
use Rattle.answer_laws.proofs.lines.answers_are_the_lines.Goals as goal

pub returns : goal.returns
returns c = answers_lines
