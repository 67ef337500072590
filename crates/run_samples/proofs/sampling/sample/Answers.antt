use Rattle.std.proofs.Common.{◌≡◌, ◌+◌, ◌≤◌, ◌∙◌, arith, refl, subst, sym, true}
use Rattle.std.specs.Prelude.{IfSome}
use Rattle.round_explorer.specs.Searched.{LeavesEnough}
use Rattle.run_samples.specs.Found.{AreFaultless}
use Rattle.run_samples.specs.Samples.{IsCaseOf, IsCourse}
use Rattle.run_samples.proofs.RunLaws.{fails_told, found_in, one_made}
use Rattle.run_samples.proofs.sampling.sample.Goals as goal
use Rattle.run_samples.proofs.sampling.sample.Goals.{in-Holds, in-Ends}

pub returns-in-Fails : goal.returns-in-Fails
returns-in-Fails g c =
    let p = c.args.program.now in
    let s = c.args.setup.now in
    let case = c.in-Some.case in
    let of_case = subst (λ o. IfSome o (IsCaseOf p s c.args.question c.args.asked c.args.property))
    c.in-Some.is c.in_ok-drawn.ensures.case in
    let f = c.in-Fails.failing in
    let found = c.in_ok-told_of-in-Fails.field-0 in
    let failing = subst (IsCourse true p case) c.in-Fails.is c.in_ok-failing.ensures.course in
    found_in p s c.args.question c.args.asked c.args.property case found of_case
    (fails_told p case f.round f.path found failing c.in_ok-told_of-in-Fails.ensures)

pub loop-sample-preserved : goal.loop-sample-preserved
loop-sample-preserved g c =
    let p = c.args.program.now in
    let s = c.args.setup.now in
    let q = c.args.question in
    let asked = c.args.asked in
    let x = c.args.property in
    let case = c.in-Some.case in
    let of_case = subst (λ o. IfSome o (IsCaseOf p s q asked x))
    c.in-Some.is c.in_ok-drawn.ensures.case in
    let enough = subst (λ o. IfSome o (λ y. q.hears ≤ s.nodes → LeavesEnough y))
    c.in-Some.is c.in_ok-drawn.ensures.enough in
    let before = c.loop-sample.invariant in
    let machine = c.course_of.ensures.machine ∙ before.machine in
    elim c.match-branch-4.branch [
      | in-Holds w ↦
          record {
            machine = machine;
            made = subst (AreFaultless p s q asked x) (sym w.made-is)
                (one_made p s q asked x case w.in-Holds._path c.loop-sample.made of_case
                (subst (IsCourse true p case) w.in-Holds.is c.in_ok-failing.ensures.course)
                before.made);
            few = omega (arith, w.made-is, before.few);
            each = λ m. let so = before.each m in omega (arith, w.made-is, so);
          }
      | in-Ends w ↦
          record {
            machine = machine;
            made = subst (AreFaultless p s q asked x) (sym w.made-is) before.made;
            few = omega (arith, w.made-is, before.few);
            each = λ m. absurd (subst (IsCourse true p case) w.in-Ends.is
                c.in_ok-failing.ensures.course refl (enough m.1));
          }
    ]
