-- All characters were collected.
use Rattle.std.specs.Prelude.{ℕ, Ok}
use Rattle.std.proofs.lemmas.Iterator.{YieldsList-from_chars, items_from_collect}
use Rattle.fault_places.proofs.excerpt.characters.Goals as goal

pub returns : goal.returns
returns c =
    items_from_collect {E = ℕ} (Ok c.in_ok-collect.field-0) c.in_ok-collect.ensures.ran
    (YieldsList-from_chars c.args.line.now c.utf8.line c.chars.ensures.rest)
