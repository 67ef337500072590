use Rattle.std.proofs.Common.{◌∙◌, ap}
use Rattle.frame_format.specs.Formats.{kinds_at}
use Rattle.frame_views.proofs.Located.{seen_again}
use Rattle.frame_views.proofs.view.FrameView.over.Goals as goal

pub returns : goal.returns
returns c = seen_again c.args.layout.now c.args.bytes.now _ _ _ c.copy_from_slice.ensures.after
    (c.kinds-listed.ensures.value ∙ ap (kinds_at c.args.layout.now) c.round_of.ensures)
