use Rattle.std.proofs.Common.{[], ◌∷◌, ◌∙◌, ap, inl, inr, lit<, nat_eq}
use Rattle.std.proofs.lemmas.Bool.{false≢true}
use Rattle.std.proofs.lemmas.Iterator.Splits.{YieldsList-from_str_split}
use Rattle.std.proofs.lemmas.Result.{IfOk-weaker}
use lib.Pointwise.{pointwise}
use Rattle.test_kit.proofs.WrittenNumbers.{WriteAll-given, not_given}
use Rattle.test_kit.proofs.reading.comma_numbers.Goals as goal

pub returns-clause-ok : goal.returns-clause-ok
returns-clause-ok c =
    let gives =
    YieldsList-from_str_split {s = c.split.result} 44 c.args.text.now (lit< tt) (cc) (cc) (cc) in
    IfOk-weaker _ _ _ (λ ns h. inr (WriteAll-given gives ns.items h)) c.numbers.ensures.ok

pub returns-clause-unreadable : goal.returns-clause-unreadable
returns-clause-unreadable c err ns h =
    let gives =
    YieldsList-from_str_split {s = c.split.result} 44 c.args.text.now (lit< tt) (cc) (cc) (cc) in
    elim h [
      | inl none ↦ absurd
          (false≢true (c.if-eq.ensures ∙ ap (λ t. pointwise nat_eq t (45 ∷ [])) none.0))
      | inr written ↦ not_given gives (c.numbers.ensures.unreadable err) ns written
    ]
