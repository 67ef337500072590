use Rattle.std.proofs.Common.{◌≡◌, ◌∙◌, ap, sym, subst, length, map}
use Rattle.round_lang.specs.Words.{kind_of, IsSpelled}
use Rattle.round_lang.proofs.Lengths.{same_length}
use Rattle.round_lang.proofs.vars.Vars.set_words.Goals as goal

pub copy_from_slice-requires : goal.copy_from_slice-requires
copy_from_slice-requires c =
    let kinds : map kind_of c.args.self.now ≡ c.self.inside.shape =
    sym (c.self.invariant.kinds_are ∙ ap (map kind_of) c.self.view_is) in
    ap length c.as_mut_slice.ensures.value
    ∙ same_length c.self.inside.shape _ _ c.self.invariant
    (subst (λ ks. IsSpelled ks c.args.words.now) kinds c.requires)
