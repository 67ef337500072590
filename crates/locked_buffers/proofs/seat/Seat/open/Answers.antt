use Rattle.std.proofs.Common.{ap, map, sym, ◌∙◌}
use Rattle.round_lang.specs.Words.{kind_of}
use Rattle.step_book.proofs.Starts.{first_kinds}
use Rattle.locked_buffers.proofs.seat.Seat.open.Goals as goal

pub new-requires : goal.new-requires
new-requires c =
    ap (map kind_of) c.in_ok-state.ensures
    ∙ first_kinds c.args.program.now c.args.setup.now c.args.node c.types_are_kept.ensures.starts
    ∙ sym c.state_shape.ensures
