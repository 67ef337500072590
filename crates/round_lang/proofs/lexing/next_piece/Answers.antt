use Rattle.std.proofs.Common.{sym}
use Rattle.std.proofs.lemmas.List.{take_rest}
use Rattle.round_lang.proofs.Names.{front_is_name}
use Rattle.round_lang.proofs.lexing.next_piece.Goals as goal

pub name_of-requires-clause-spelt : goal.name_of-requires-clause-spelt
name_of-requires-clause-spelt c = front_is_name c.args.text.now _ c.in-len1-up.len_at_least
    (sym c.if-begins_name.ensures) (rw take_rest at c.name_len-len.ensures.value)
