-- The line of that number among all lines.
use Rattle.std.proofs.Common.{◌∙◌, ap}
use Rattle.std.proofs.lemmas.Iterator.Splits.{YieldsList-from_lines}
use Rattle.std.specs.Prelude.{ℕ, List, [], Option, None, Some, slice_get, unwrap_or}
use Rattle.std.specs.Str.Iter.{lines_steps}
use Rattle.std.specs.Str.Lines.{lines}
use Rattle.fault_places.proofs.Nth.{nth_gives}
use Rattle.fault_places.proofs.line.line_at.Goals as goal

pub returns-in-Some : goal.returns-in-Some
returns-in-Some c =
    ap (λ (o : Option (List ℕ)). unwrap_or o [])
    (nth_gives lines_steps (λ x. x.now) (lines c.args.text.now) c.lines_before.result
    c.lines.result c.nth.new.self
    (Some c.in-Some.line)
    (YieldsList-from_lines c.args.text.now c.lines.ensures.rest).runs
    c.in-Some.ensures.ran)
    ∙ ap (λ (n : ℕ). unwrap_or (slice_get (lines c.args.text.now) n) []) c.lines_before.ensures

pub returns-in-None : goal.returns-in-None
returns-in-None c =
    ap (λ (o : Option (List ℕ)). unwrap_or o [])
    (nth_gives lines_steps (λ x. x.now) (lines c.args.text.now) c.lines_before.result
    c.lines.result c.nth.new.self None
    (YieldsList-from_lines c.args.text.now c.lines.ensures.rest).runs
    c.in-None.ensures.ran)
    ∙ ap (λ (n : ℕ). unwrap_or (slice_get (lines c.args.text.now) n) []) c.lines_before.ensures
