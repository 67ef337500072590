use Rattle.std.proofs.Common.{codes, subst, sym}
use Rattle.std.proofs.lemmas.Result.{IfErr-weaker, IfOk-weaker}
use Rattle.clap.specs.Words.{found_of, rows_of}
use Rattle.command_words.specs.Changes.{values_of}
use Rattle.command_words.specs.Values.{AreNumbers}
use Rattle.command_words.proofs.ChangeLemmas.{stops_given, no_stops_read}
use Rattle.command_words.proofs.changes.given_stops.Goals as goal

pub returns-clause-ok : goal.returns-clause-ok
returns-clause-ok c =
    let rows = rows_of (found_of c.args.matches.now) in
    let read = subst (AreNumbers (values_of (codes "stop") rows)) (sym c.deref.ensures.value)
    c.in_ok-numbers.ensures.ok in
    IfOk-weaker c.stops_of.result _ _ (λ stops is. stops_given rows _ stops.items read is)
    c.stops_of.ensures.ok

pub returns-clause-err : goal.returns-clause-err
returns-clause-err c =
    let rows = rows_of (found_of c.args.matches.now) in
    let read = subst (AreNumbers (values_of (codes "stop") rows)) (sym c.deref.ensures.value)
    c.in_ok-numbers.ensures.ok in
    IfErr-weaker c.stops_of.result _ _ (λ e none. no_stops_read rows _ e read none)
    c.stops_of.ensures.err
