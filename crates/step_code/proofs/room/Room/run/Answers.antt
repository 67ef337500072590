use Rattle.std.proofs.Common.{◌≡◌, ◌-◌, length, subst, arith, rules}
use Rattle.step_code.specs.Machine.{Fine}
use Rattle.step_code.proofs.room.Room.run.Goals as goal

pub run-requires-clause-fine : goal.run-requires-clause-fine
run-requires-clause-fine c =
    let z : length c.args.code.now ≡ length c.args.code.now - 0 = omega arith in
    let l : c.args.self.now ≡ c.as_mut_slice-words.result.now = search rules in
    subst (λ n. Fine c.args.k (length n) c.args.code.now (length c.args.code.now - 0)) l
    (subst (λ n. Fine c.args.k (length c.args.self.now) c.args.code.now n) z c.requires.fine)
