use Rattle.std.proofs.lemmas.Str.{IsUtf8-from_ascii}
use Rattle.round_lang.proofs.Names.{spelt_ascii}
use Rattle.round_lang.proofs.lexing.name_of.Goals as goal

pub unreachable-requires : goal.unreachable-requires
unreachable-requires c =
    c.in-Err.ensures.cases.0 (IsUtf8-from_ascii _ (spelt_ascii _ c.requires.spelt))
