use Rattle.std.proofs.Common.{refl}
use Rattle.round_lang.specs.Sets.{set_of}
use Rattle.round_lang.proofs.SetLaws.{is-everything}
use Rattle.round_lang.proofs.sets.ValueSet.all.Goals as goal

pub returns-then-values-eq0 : goal.returns-then-values-eq0
unfolding set_of
returns-then-values-eq0 c = rw c.if-values-eq0.true refl

pub returns : goal.returns
returns c = is-everything _ c.requires
