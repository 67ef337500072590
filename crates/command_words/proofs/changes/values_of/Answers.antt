use Rattle.std.proofs.Common.{List, [], subst}
use Rattle.std.specs.Prelude.{IfErr, IfOk}
use Rattle.clap.specs.Words.{Text}
use Rattle.command_words.specs.Changes.{IsNoNumbers}
use Rattle.command_words.specs.Values.{AreNumbers}
use Rattle.command_words.proofs.ChangeLemmas.{no_values, some_values}
use Rattle.command_words.proofs.changes.values_of.Goals as goal

pub returns-in-Some-clause-ok : goal.returns-in-Some-clause-ok
returns-in-Some-clause-ok c =
    subst (λ (texts : List Text). IfOk c.read_numbers.result (λ list. AreNumbers texts list.items))
    (some_values c.args.matches.now c.args.id.now c.get_strs.result c.in-Some.texts
    c.get_strs.ensures c.in-Some.is) c.read_numbers.ensures.ok

pub returns-in-Some-clause-err : goal.returns-in-Some-clause-err
returns-in-Some-clause-err c =
    subst (λ (texts : List Text). IfErr c.read_numbers.result (IsNoNumbers texts))
    (some_values c.args.matches.now c.args.id.now c.get_strs.result c.in-Some.texts
    c.get_strs.ensures c.in-Some.is) c.read_numbers.ensures.err

pub returns-in-None-clause-ok : goal.returns-in-None-clause-ok
returns-in-None-clause-ok c =
    rw c.new.ensures.items
    (subst (λ (texts : List Text). AreNumbers texts [])
    (no_values c.args.matches.now c.args.id.now c.get_strs.result c.get_strs.ensures c.in-None.is)
    tt)
