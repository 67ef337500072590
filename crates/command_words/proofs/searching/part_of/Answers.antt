use Rattle.std.proofs.Common.{rules}
use Rattle.command_words.proofs.searching.part_of.Goals as goal

pub returns-in-None-read_part-clause-err : goal.returns-in-None-read_part-clause-err
returns-in-None-read_part-clause-err c =
    (c.in-Some.text.now, search rules, λ p h goes. c.in-None-read_part.ensures.none p h)
