use Rattle.std.proofs.Common.{arith}
use Rattle.schedule_text.proofs.EventLines.{number_short}
use Rattle.schedule_text.proofs.writing.push_message.Goals as goal

pub push_number_and-requires-3 : goal.push_number_and-requires-3
push_number_and-requires-3 g c =
    let from = number_short c.push_array.new.self c.push_number_and.new.text c.from.result _
    (omega (arith, c.from.ensures)) c.push_number_and.ensures.text in
    let to = number_short c.push_number_and.new.text c.push_number_and-2.new.text c.from-2.result _
    (omega (arith, c.from-2.ensures)) c.push_number_and-2.ensures.text in
    omega (arith, from, to, c.requires.start, c.requires.room, c.push_array.ensures.long)

pub returns-clause-short : goal.returns-clause-short
returns-clause-short g c =
    let from = number_short c.push_array.new.self c.push_number_and.new.text c.from.result _
    (omega (arith, c.from.ensures)) c.push_number_and.ensures.text in
    let to = number_short c.push_number_and.new.text c.push_number_and-2.new.text c.from-2.result _
    (omega (arith, c.from-2.ensures)) c.push_number_and-2.ensures.text in
    let round = number_short c.push_number_and-2.new.text c.push_number_and-3.new.text
    c.from-3.result _ (omega (arith, c.from-3.ensures)) c.push_number_and-3.ensures.text in
    omega (arith, from, to, round, c.requires.start, c.push_array.ensures.long)
