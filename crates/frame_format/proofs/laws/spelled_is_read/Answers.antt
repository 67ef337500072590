use Rattle.frame_format.proofs.Spelled.{spelled_is_frame}
use Rattle.frame_format.proofs.laws.spelled_is_read.Goals as goal

pub returns : goal.returns
returns c = spelled_is_frame _ c.lawful.ensures
