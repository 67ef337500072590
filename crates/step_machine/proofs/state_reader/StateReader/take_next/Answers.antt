use Rattle.std.proofs.Common.{◌∙◌, ap, drop}
use Rattle.round_lang.specs.Values.{at}
use Rattle.step_machine.specs.StoredStates.{words_in}
use Rattle.step_machine.proofs.StatesRead.{IsNext, IsNext-of}
use Rattle.step_machine.proofs.state_reader.StateReader.take_next.Goals as goal
use Rattle.step_machine.proofs.state_reader.StateReader.take_next.Goals.{After-skip_words}

next : (c : After-skip_words)
    → IsNext c.self.inside.kinds.now (words_in c.self.inside.bytes.now) c.in_ok-kind.kind.now
    c.in_ok-kind.kinds.now (words_in c.skip_words.result.now)
next c =
    IsNext-of _ _ _ _ _ c.self.invariant c.in_ok-kind.ensures.cases.0 (c.skip_words.ensures
    ∙ ap (λ n. drop n (words_in c.self.inside.bytes.now)) c.size.ensures)

pub new-requires : goal.new-requires
new-requires c = (next (goal.at.new-requires c).After-skip_words).spelled

pub returns-clause-value : goal.returns-clause-value
returns-clause-value c =
    (next (goal.at.returns-clause-value c).After-skip_words).value
    ∙ ap (λ vs. at vs 0) c.self.view_is

pub returns-clause-small : goal.returns-clause-small
returns-clause-small c = (next (goal.at.returns-clause-small c).After-skip_words).small

pub returns-clause-rest : goal.returns-clause-rest
returns-clause-rest c =
    c.self-2.view_is ∙ c.new.ensures ∙ (next (goal.at.returns-clause-rest c).After-skip_words).rest
    ∙ ap (drop 1) c.self.view_is
