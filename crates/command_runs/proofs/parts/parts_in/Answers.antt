use Rattle.std.proofs.Common.{◌≡◌, ◌∙◌, ◌∷◌, [], ap, arith, length, length-append, subst, sym}
use Rattle.command_runs.specs.InParts.{HoldsPart}
use Rattle.command_runs.specs.Refused.{IsNotTogether}
use Rattle.command_runs.specs.Stages.{IsPartless}
use Rattle.command_runs.proofs.Refusing.{err_then}
use Rattle.command_runs.proofs.Together.{not_together, one_more}
use Rattle.command_runs.proofs.parts.parts_in.Goals as goal

pub returns-in_err-part-clause-refused : goal.returns-in_err-part-clause-refused
returns-in_err-part-clause-refused g c =
    let files = g.D.Desk.files c.args.desk.now in
    let names = c.args.names.now in
    let place = c.loop-place.place in
    let seen = c.loop-place.invariant in
    let fault = c.in_err-part.field-0.0 in
    let here = subst (λ file. IsPartless place file fault)
    (seen.files c.name_at.result.now ∙ ap files c.name_at.ensures) c.in_err-part.ensures.refused in
    err_then c.from_residual.result (λ r. r ≡ fault) (IsNotTogether files names)
    c.from_residual.ensures.1 (λ r same. subst (IsNotTogether files names) (sym same)
    (not_together files names c.loop-place.parts.items place fault c.loop-place-test.true
    seen.held here))

pub loop-place-preserved : goal.loop-place-preserved
loop-place-preserved g c =
    let files = g.D.Desk.files c.args.desk.now in
    let place = c.loop-place.place in
    let seen = c.loop-place.invariant in
    let part = c.in_ok-part.part in
    let one = subst (λ file. HoldsPart file part)
    (seen.files c.name_at.result.now ∙ ap files c.name_at.ensures) c.in_ok-part.ensures.held in
    let made = c.in_ok-add.ensures in
    let longer = ap length made ∙ length-append c.loop-place.parts.items (part ∷ []) in record {
      many = omega (arith, longer, seen.many);
      held = one_more files c.args.names.now c.loop-place.parts.items c.add.new.parts.items
          place part c.loop-place-test.true seen.held one made;
      files = λ other. c.in_ok-part.ensures.files other ∙ seen.files other;
      written = c.in_ok-part.ensures.written ∙ seen.written;
    }
