use Rattle.std.proofs.Common.{rules}
use Rattle.std.proofs.lemmas.Slice.Eq.{slice_eq-Decides}
use Rattle.locked_buffers.proofs.account.are_same_answers.Goals as goal

pub returns : goal.returns
returns c = slice_eq-Decides (λ a b. (search rules, search rules)) c.args.left.now c.args.right.now
    c.eq.result c.eq.ensures
