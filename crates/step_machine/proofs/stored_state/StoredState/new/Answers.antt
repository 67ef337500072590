use Rattle.std.proofs.Common.{◌∙◌, sym}
use Rattle.round_lang.proofs.Spelling.{spelled_values}
use Rattle.step_machine.proofs.stored_state.StoredState.new.Goals as goal

pub invariant_of-result : goal.invariant_of-result
invariant_of-result c =
    (spelled_values c.args.state.now c.as_words.ensures.small _ _ (c.in_ok-copy.ensures
    ∙ sym c.requires) (c.in_ok-bytes.ensures ∙ c.as_words.ensures.words)).1

pub returns : goal.returns
returns c =
    (spelled_values c.args.state.now c.as_words.ensures.small _ _ (c.in_ok-copy.ensures
    ∙ sym c.requires) (c.in_ok-bytes.ensures ∙ c.as_words.ensures.words)).0
