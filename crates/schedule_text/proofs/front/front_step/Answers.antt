use Rattle.std.proofs.Common.{◌≡◌, ◌++◌, ◌-◌, ◌≤◌, codes, take, drop, length, arith}
use Rattle.std.proofs.lemmas.Option.{IfSome_then}
use Rattle.schedule_text.proofs.FirstLines.{front_step}
use Rattle.schedule_text.proofs.FirstWords.{begins_step}
use Rattle.schedule_text.proofs.front.front_step.Goals as goal

pub returns-then-rest-eq32 : goal.returns-then-rest-eq32
returns-then-rest-eq32 c =
    let t = c.args.text.now in
    let cut = c.in_ok-word.ensures.cases in
    let rest = c.in_ok-word.rest.now in
    let long : 5 ≤ length t = omega (arith, c.if-text-lt-LONGEST.false) in
    let whole : t ≡ codes "step " ++ take (length rest - 1) (drop 1 rest) =
    begins_step t _ _ _ _ (λ i. omega (arith, c.type_inv.text i)) c.if-from_le_bytes.true long
    cut.0 cut.1 c.from_le_bytes.ensures c.from_le_bytes-2.ensures c.if-rest-eq32.true in
    rw whole (IfSome_then c.number_before.result c.number_before.ensures.number
    (λ r n. front_step _ _ _ n))
