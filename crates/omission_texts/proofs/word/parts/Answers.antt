use Rattle.std.proofs.Common.{ℕ, Ok}
use Rattle.std.proofs.lemmas.Iterator.Consumers.{map_from_collect}
use Rattle.std.proofs.lemmas.Iterator.Splits.{YieldsList-from_str_split}
use Rattle.omission_texts.proofs.word.parts.Goals as goal

pub returns : goal.returns
returns c =
    map_from_collect {E = ℕ} (Ok c.in_ok-collect.field-0) c.in_ok-collect.ensures.ran
    (YieldsList-from_str_split c.args.mark c.args.text.now c.requires c.split.ensures.text
    c.split.ensures.has_more c.split.ensures.pattern)
