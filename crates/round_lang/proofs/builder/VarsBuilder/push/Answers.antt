use Rattle.std.proofs.Common.{◌≡◌, ◌∙◌, ◌++◌, [], ◌∷◌, ap}
use Rattle.round_lang.specs.Words.{kind_of}
use Rattle.round_lang.proofs.Spelling.{IsPushed-of}
use Rattle.round_lang.proofs.builder.VarsBuilder.push.Goals as goal

pub invariant_of-self-2 : goal.invariant_of-self-2
invariant_of-self-2 c =
    let kinds_are : c.push_reserved.new.self.items ≡ c.self.inside.kinds.items
    ++ kind_of c.args.value.now ∷ [] =
    c.push_reserved.ensures.items ∙ ap (λ ks. ks ++ c.kind-kind.result ∷ [])
    c.in_ok-reserve.ensures.items ∙ ap (λ k. c.self.inside.kinds.items ++ k ∷ [])
    c.kind-kind.ensures in
    (IsPushed-of c.self.inside.kinds.items _ c.self.inside.words.items _ c.args.value.now
    c.self.invariant c.in_ok-push_words.ensures.small kinds_are
    c.in_ok-push_words.ensures.ok).spelled

pub returns-clause-ok : goal.returns-clause-ok
returns-clause-ok c =
    let kinds_are : c.push_reserved.new.self.items ≡ c.self.inside.kinds.items
    ++ kind_of c.args.value.now ∷ [] =
    c.push_reserved.ensures.items ∙ ap (λ ks. ks ++ c.kind-kind.result ∷ [])
    c.in_ok-reserve.ensures.items ∙ ap (λ k. c.self.inside.kinds.items ++ k ∷ [])
    c.kind-kind.ensures in
    (IsPushed-of c.self.inside.kinds.items _ c.self.inside.words.items _ c.args.value.now
    c.self.invariant c.in_ok-push_words.ensures.small kinds_are
    c.in_ok-push_words.ensures.ok).values
    ∙ ap (λ vs. vs ++ c.args.value.now ∷ []) c.self.view_is
