use Rattle.std.proofs.Common.{◌∙◌, ap, drop}
use Rattle.std.specs.Prelude.{slice_index}
use Rattle.step_machine.specs.StoredStates.{words_in}
use Rattle.step_machine.proofs.StatesRead.{IsEntry-of}
use Rattle.step_machine.proofs.state_reader.RowReader.next_entry.Goals as goal

pub returns : goal.returns
returns c =
    let inside = c.self.inside in
    let first = IsEntry-of inside.entries (words_in inside.bytes.now)
    (words_in c.in-Some.bytes.now) c.in-Some.entry c.if-self-eq0.false c.in-Some.ensures.some in
    record {
      entry = first.entry_is ∙ ap (λ es. slice_index es 0) c.self.view_is;
      rest = first.rest_is ∙ ap (drop 1) c.self.view_is;
    }
