use Rattle.std.proofs.Common.{◌≡◌, ◌∙◌, ap, map, sym}
use Rattle.round_lang.specs.Words.{kind_of, all_words}
use Rattle.round_lang.proofs.Spelling.{spelled_values}
use Rattle.step_machine.specs.StoredStates.{words_in}
use Rattle.step_machine.proofs.stored_state.StoredState.same.Goals as goal

pub returns-then-are_words : goal.returns-then-are_words
returns-then-are_words c =
    let inside = c.self.inside in
    let words : words_in inside.bytes.items ≡ all_words c.args.state.now =
    ap words_in (sym c.as_slice.ensures) ∙ c.are_words.ensures.0 c.if-are_words.true
    ∙ c.as_words.ensures.words in (
      λ t. sym c.self.view_is
          ∙ (spelled_values c.args.state.now c.as_words.ensures.small inside.shape _
          (c.is.ensures.0 t ∙ c.kinds.ensures) words).0,
      λ e. c.is.ensures.1 (c.self.invariant.kinds_are ∙ ap (map kind_of) (c.self.view_is ∙ e)
          ∙ sym c.kinds.ensures),
    )
