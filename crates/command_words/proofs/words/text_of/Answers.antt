use Rattle.std.proofs.Common.{◌≡◌, Bor, List, None, Result, Some, subst, sym, ℕ}
use Rattle.std.specs.Prelude.{IfOk, OnErr}
use Rattle.clap.specs.Words.{first_of, found_of, rows_of}
use Rattle.command_words.proofs.GivenLemmas.{text_found, text_in, text_missing}
use Rattle.command_words.specs.declared.words.WordsFault.{WordsFault}
use Rattle.command_words.proofs.words.text_of.Goals as goal

pub returns-clause-ok : goal.returns-clause-ok
returns-clause-ok c =
    let value = first_of c.args.id.now (rows_of (found_of c.args.matches.now)) in
    subst (λ (r : Result (Bor (List ℕ)) WordsFault). IfOk r (λ t. value ≡ Some t.now))
    (sym c.ok_or.ensures.value)
    (text_found value c.get_str.result _
    (text_in c.args.matches.now c.args.id.now c.get_str.result c.get_str.ensures))

pub returns-clause-err : goal.returns-clause-err
returns-clause-err c =
    let value = first_of c.args.id.now (rows_of (found_of c.args.matches.now)) in
    subst (λ (r : Result (Bor (List ℕ)) WordsFault). OnErr r (value ≡ None))
    (sym c.ok_or.ensures.value)
    (text_missing value c.get_str.result _
    (text_in c.args.matches.now c.args.id.now c.get_str.result c.get_str.ensures))
