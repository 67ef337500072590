use Rattle.std.proofs.Common.{◌∙◌, ◌∷◌, sym}
use Rattle.std.proofs.lemmas.Result.{on_ok_weaker}
use Rattle.round_lang.specs.TreeCode.{WBinary, WIf, WRowOf, WSetOf, WUnary, words_then}
use Rattle.round_lang.specs.Tree.{tree_of}
use Rattle.round_check.specs.Spelling.{words_spelled}
use Rattle.round_check.proofs.spelling.+put_words.Goals as goal

pub returns-in_ok-put_words-in-Unary : goal.returns-in_ok-put_words-in-Unary
returns-in_ok-put_words-in-Unary t c =
    on_ok_weaker c.put_word-in-Unary.result (λ last ws rest.
    let word = rw c.unary_number.ensures at last (words_spelled ws rest) in
    rw (c.in-Unary.is, sym c.deref.ensures)
    (word ∙ c.in_ok-put_words-in-Unary.ensures (WUnary c.in-Unary.operator ∷ ws) rest))
    c.put_word-in-Unary.ensures

pub returns-in_ok-put_words-in-Binary-2 : goal.returns-in_ok-put_words-in-Binary-2
returns-in_ok-put_words-in-Binary-2 t c =
    on_ok_weaker c.put_word-in-Binary.result (λ last ws rest.
    let word = rw c.binary_number.ensures at last (words_spelled ws rest) in
    rw (c.in-Binary.is, sym c.deref-in-Binary.ensures, sym c.deref-in-Binary-2.ensures)
    (word ∙ c.in_ok-put_words-in-Binary-2.ensures (WBinary c.in-Binary.operator ∷ ws) rest
    ∙ c.in_ok-put_words-in-Binary.ensures
    (words_then (tree_of c.deref-in-Binary-2.result.now) (WBinary c.in-Binary.operator ∷ ws))
    rest)) c.put_word-in-Binary.ensures

pub returns-in_ok-put-in-If : goal.returns-in_ok-put-in-If
returns-in_ok-put-in-If t c =
    on_ok_weaker c.put-in-If.result
    (λ last ws rest. rw (
      c.in-If.is,
      sym c.deref-in-If.ensures,
      sym c.deref-in-If-2.ensures,
      sym
          c.deref-in-If-3.ensures,
    )
    (last (words_spelled ws rest) ∙ c.in_ok-put-in-If.ensures (5 ∷ words_spelled ws rest)
    ∙ c.in_ok-put_words-in-If-3.ensures (WIf ∷ ws) rest
    ∙ c.in_ok-put_words-in-If-2.ensures (words_then (tree_of c.deref-in-If-3.result.now) (WIf ∷ ws))
    rest
    ∙ c.in_ok-put_words-in-If.ensures
    (words_then (tree_of c.deref-in-If-2.result.now)
    (words_then (tree_of c.deref-in-If-3.result.now) (WIf ∷ ws))) rest)) c.put-in-If.ensures

pub returns-in_ok-put_words-in-SetOf : goal.returns-in_ok-put_words-in-SetOf
returns-in_ok-put_words-in-SetOf t c =
    on_ok_weaker c.put_named-in-SetOf.result
    (λ last ws rest. rw (c.in-SetOf.is, sym c.deref-in-SetOf.ensures)
    (last (words_spelled ws rest) ∙ c.in_ok-put_words-in-SetOf.ensures (WSetOf c.in-SetOf.name ∷ ws)
    rest)) c.put_named-in-SetOf.ensures

pub returns-in_ok-put_words-in-RowOf : goal.returns-in_ok-put_words-in-RowOf
returns-in_ok-put_words-in-RowOf t c =
    on_ok_weaker c.put_named-in-RowOf.result
    (λ last ws rest. rw (c.in-RowOf.is, sym c.deref-in-RowOf.ensures)
    (last (words_spelled ws rest) ∙ c.in_ok-put_words-in-RowOf.ensures (WRowOf c.in-RowOf.name ∷ ws)
    rest)) c.put_named-in-RowOf.ensures
