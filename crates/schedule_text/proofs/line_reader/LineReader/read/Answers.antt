use Rattle.std.proofs.Common.{arith}
use Rattle.schedule_text.proofs.line_reader.LineReader.read.Goals as goal

pub returns-in-Err-clause-number : goal.returns-in-Err-clause-number
returns-in-Err-clause-number c = let same = c.loop-rest.invariant.0 in omega (arith, same)
