use Rattle.answer_laws.proofs.OmitTexts.{omissions_are_read}
use Rattle.answer_laws.proofs.RunAgain.{omissions_are_run_again}
use Rattle.answer_laws.proofs.read.omissions_are_read.Goals as goal

pub returns-clause-read : goal.returns-clause-read
returns-clause-read c = omissions_are_read

pub returns-clause-again : goal.returns-clause-again
returns-clause-again c = omissions_are_run_again
