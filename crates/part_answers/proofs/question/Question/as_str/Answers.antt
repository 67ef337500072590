use Rattle.std.proofs.Common.{Ok, Err, Result, refl}
use Rattle.std.specs.Prelude.{IsOk, MatchResult}
use Rattle.std.proofs.lemmas.Str.{IsUtf8-from_ascii}
use Rattle.part_answers.proofs.TextLemmas.{hex_ascii}
use Rattle.part_answers.proofs.question.Question.as_str.Goals as goal

is_ok_from : {A E U : Type 0} (P : A → Type 0) (Q : E → Type 0) (r : Result A E)
    → MatchResult r P (λ e. (¬ U) × Q e) → U → IsOk r
is_ok_from P Q (Ok x) h u = refl
is_ok_from P Q (Err e) h u = absurd (h.0 u)

pub unwrap-requires : goal.unwrap-requires
unwrap-requires c =
    is_ok_from _ _ c.from_utf8.result c.from_utf8.ensures.cases
    (IsUtf8-from_ascii _ (hex_ascii _ c.self.invariant))
