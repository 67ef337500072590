use Rattle.std.proofs.Common.{◌≡◌, ◌++◌, ◌≤◌, codes, length, arith}
use Rattle.schedule_text.proofs.FirstWords.{begins_release}
use Rattle.schedule_text.proofs.front.front_release.Goals as goal

pub returns-then-from_le_bytes : goal.returns-then-from_le_bytes
returns-then-from_le_bytes c =
    let t = c.args.text.now in
    let cut = c.in_ok-word.ensures.cases in
    let long : 8 ≤ length t = omega (arith, c.if-text-lt-LONGEST.false) in
    let whole : t ≡ codes "release " ++ c.in_ok-word.rest.now =
    begins_release t _ _ _ _ (λ i. omega (arith, c.type_inv.text i)) c.if-from_le_bytes.true
    long cut.0 cut.1 c.from_le_bytes.ensures c.from_le_bytes-2.ensures in
    rw whole c.front_name.ensures
