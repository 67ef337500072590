use Rattle.std.proofs.Common.{ℕ, ◌%◌, ◌^◌, ◌∙◌, ap, subst}
use Rattle.byteorder.specs.Endian.{big_bytes}
use Rattle.round_lang.specs.declared.kind.Kind.{Kind}
use Rattle.round_lang.specs.Values.{at}
use Rattle.frame_format.specs.Spelling.{IsOf}
use Rattle.frame_views.proofs.Entries.{set_stays}
use Rattle.frame_views.proofs.writing.put_field.Goals as goal

pub returns-in-Set-clause-value : goal.returns-in-Set-clause-value
returns-in-Set-clause-value c =
    let k = c.args.slot.now.values in
    let v = at c.args.message.now c.args.place in
    c.put_set.ensures.value
    ∙ ap (λ (bits : ℕ). big_bytes 8 (bits % 2 ^ k)) c.set.ensures
    ∙ set_stays k v (subst (λ (t : Kind). IsOf k t v) c.in-Set.is c.requires.value)
