use Rattle.std.proofs.Common.{◌≡◌, ◌≢◌, ◌∙◌, ◌++◌, List, None, Option, Some, ap, sym, ℕ}
use Rattle.std.specs.Borrow.{Bor}
use Rattle.std.specs.Prelude.{MatchOption}
use Rattle.std.specs.Str.Pattern.{FindsTextPrefix, StripsPrefix}
use Rattle.part_answers.proofs.cutting.after_words.Goals as goal

stripped : (text words : List ℕ) (r : Option (Bor (List ℕ)))
    → MatchOption r (FindsTextPrefix words text None)
    (λ x. StripsPrefix (FindsTextPrefix words) text x.now)
    → MatchOption r ((rest : List ℕ) → text ≢ words ++ rest) (λ x. text ≡ words ++ x.now)
stripped text words None h = λ rest same. h rest same
stripped text words (Some x) h = h.1.1 ∙ ap (λ t. words ++ t) (sym h.2)

pub returns : goal.returns
returns c =
    stripped c.args.text.now c.args.words.now c.strip_prefix.result c.strip_prefix.ensures.cases
