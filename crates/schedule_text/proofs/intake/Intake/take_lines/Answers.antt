use Rattle.std.proofs.Common.{◌++◌, IsUtf8, List, ℕ, ap, drop, subst, sym, take, take-append-drop}
use Rattle.std.proofs.Common.{◌∙◌}
use Rattle.std.specs.Str.Lines.{lines}
use Rattle.schedule_text.specs.Intakes.{EndsLine, said}
use Rattle.schedule_text.proofs.Pieces.{lines_append}
use Rattle.schedule_text.proofs.intake.Intake.take_lines.Goals as goal

pub returns-clause-taken : goal.returns-clause-taken
returns-clause-taken c =
    let bytes : List ℕ = c.args.self.now.bytes.items in
    let n = c.in-Some.whole in
    let ends : EndsLine (take n bytes) =
    subst (λ (b : List ℕ). EndsLine (take n b)) c.deref.ensures.value c.in-Some.ensures.lines in
    record {
      front = take n bytes;
      parts = sym (take-append-drop n bytes)
          ∙ ap (λ (b : List ℕ). take n bytes ++ b)
          (sym (c.drop_front.ensures ∙ ap (λ (b : List ℕ). drop n b) c.read.ensures.bytes));
      utf8 = subst (λ (b : List ℕ). IsUtf8 (take n b)) c.deref.ensures.value c.in-Some.ensures.utf8;
      same = λ t. ap (λ ls. said c.args.self.now ls) (lines_append (take n bytes) t ends)
          ∙ c.in_ok-read.ensures.said (lines t);
    }
