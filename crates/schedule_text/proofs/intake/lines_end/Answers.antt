use Rattle.std.proofs.Common.{
  ◌≡◌,
  ◌≤◌,
  ◌-◌,
  List,
  ℕ,
  arith,
  drop,
  length,
  length-drop,
  subst,
  take,
  take_all,
}
use Rattle.schedule_text.specs.Intakes.{EndsLine}
use Rattle.schedule_text.proofs.Pieces.{ends_behind}
use Rattle.schedule_text.proofs.intake.lines_end.Goals as goal

pub returns-clause-lines : goal.returns-clause-lines
returns-clause-lines c =
    let bytes : List ℕ = c.args.bytes.now in
    let n = c.args.searched in
    let end = c.line_end-end.result in
    let some = c.if-end-eq0.false in
    let same : take (length bytes - n) (drop n bytes) ≡ drop n bytes =
    take_all (length bytes - n) (drop n bytes) (omega (arith, length-drop n bytes)) in
    ends_behind bytes n end (omega (arith, some)) c.requires
    (subst (λ (b : List ℕ). EndsLine (take end b)) same c.line_end-end.ensures.lines)
    (subst (λ (b : List ℕ). end ≤ length b) same c.line_end-end.ensures.within)
