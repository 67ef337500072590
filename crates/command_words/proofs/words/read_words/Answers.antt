use Rattle.std.proofs.Common.{◌≡◌, ◌∙◌, ap, sym, subst, ◌⊎◌, map, option_map, is_some, false, true}
use Rattle.std.proofs.Common.{Bor}
use Rattle.std.proofs.lemmas.Result.{IfOk-weaker, IfErr-weaker}
use Rattle.clap.specs.Words.{App, Kinds, Text, IsAmong, found_of, kind_of, is_simple}
use Rattle.clap.specs.Words.{is_simple_and_free, fault_of, rows_of, subcommand_of}
use Rattle.clap.specs.declared.error.kind.ErrorKind.TheVariants.{OutOfMemory}
use Rattle.clap.proofs.TakesLemmas.{some_rows}
use Rattle.clap.specs.declared.parser.matches.ArgMatches.TheViews.{out-ArgMatches}
use Rattle.command_words.proofs.GivenLemmas.{command_named, lack_explained, mistake_explained}
use Rattle.command_words.proofs.GivenLemmas.{name_given, ok_always, pair_given, roundc_is_free}
use Rattle.command_words.proofs.GivenLemmas.{roundc_is_simple}
use Rattle.command_words.proofs.words.read_words.Goals as goal

pub returns-in-Err-clause-err : goal.returns-in-Err-clause-err
returns-in-Err-clause-err c =
    let is = c.in_ok-command.ensures.0 in
    let words = map (λ (s : Bor Text). s.now) c.args.words.now in
    let kinds = c.in-Err.ensures.kinds (ap is_simple_and_free is ∙ roundc_is_free) in
    let known =
    subst (λ (k : Kinds). (kind_of c.in-Err.error ≡ OutOfMemory)
    ⊎ IsAmong (kind_of c.in-Err.error) k) (ap (λ (a : App). fault_of a words) is) kinds in
    mistake_explained words c.in-Err.error c.refusal.result known c.refusal.ensures

pub returns-clause-ok : goal.returns-clause-ok
returns-clause-ok c =
    let is = c.in_ok-command.ensures.0 in
    let matched = c.in-Ok.ensures.matches (ap is_simple is ∙ roundc_is_simple) in
    let same = matched.1
    ∙ ap (λ (a : App). subcommand_of a (map (λ (s : Bor Text). s.now) c.args.words.now)) is in
    let name = ap (option_map (λ p. p.0)) (sym same) ∙ name_given c.in-Ok.matches
    ∙ sym c.subcommand.ensures.name ∙ ap (option_map (λ p. p.0.now)) c.in-Some.is in
    let rows = ap (option_map (λ p. p.1)) (sym same) ∙ sym c.subcommand.ensures.rows
    ∙ ap (option_map (λ p. rows_of (found_of p.1.now))) c.in-Some.is in
    let pair = pair_given _ c.in-Some.name.now (rows_of (found_of c.in-Some.inner.now)) name rows in
    IfOk-weaker c.command_of.result _ _
    (λ w h. (c.in-Some.name.now, rows_of (found_of c.in-Some.inner.now), pair, h))
    c.command_of.ensures.ok

pub returns-clause-flawless : goal.returns-clause-flawless
returns-clause-flawless c =
    let is = c.in_ok-command.ensures.0 in
    let none = c.in-Ok.ensures.kinds (ap is_simple_and_free is ∙ roundc_is_free) in
    ok_always c.command_of.result
    (sym (ap (λ (a : App). fault_of a (map (λ (s : Bor Text). s.now) c.args.words.now)) is)
    ∙ none)

pub returns-clause-err : goal.returns-clause-err
returns-clause-err c =
    let is = c.in_ok-command.ensures.0 in
    let words = map (λ (s : Bor Text). s.now) c.args.words.now in
    let none = c.in-Ok.ensures.kinds (ap is_simple_and_free is ∙ roundc_is_free) in
    let matched = c.in-Ok.ensures.matches (ap is_simple is ∙ roundc_is_simple) in
    let same = matched.1 ∙ ap (λ (a : App). subcommand_of a words) is in
    let name = ap (option_map (λ p. p.0)) (sym same) ∙ name_given c.in-Ok.matches
    ∙ sym c.subcommand.ensures.name ∙ ap (option_map (λ p. p.0.now)) c.in-Some.is in
    let rows = ap (option_map (λ p. p.1)) (sym same) ∙ sym c.subcommand.ensures.rows
    ∙ ap (option_map (λ p. rows_of (found_of p.1.now))) c.in-Some.is in
    let pair = pair_given _ c.in-Some.name.now (rows_of (found_of c.in-Some.inner.now)) name rows in
    IfErr-weaker c.command_of.result _ _
    (λ e lack. lack_explained words c.in-Some.name.now (rows_of (found_of c.in-Some.inner.now)) e
    (sym (ap (λ (a : App). fault_of a words) is) ∙ none) pair lack) c.command_of.ensures.err

-- `clap` found no mistake, so the words name a command
pub unreachable-requires : goal.unreachable-requires
unreachable-requires c =
    let is = c.in_ok-command.ensures.0 in
    let words = map (λ (s : Bor Text). s.now) c.args.words.now in
    let matched = c.in-Ok.ensures.matches (ap is_simple is ∙ roundc_is_simple) in
    let same = matched.1 ∙ ap (λ (a : App). subcommand_of a words) is in
    let none = sym (ap (λ (a : App). fault_of a words) is)
    ∙ c.in-Ok.ensures.kinds (ap is_simple_and_free is ∙ roundc_is_free) in
    let bad : false ≡ true = sym (ap is_some c.in-None.is) ∙ c.subcommand.ensures.variant
    ∙ some_rows (out-ArgMatches c.in-Ok.matches).subcommand
    ∙ ap is_some same ∙ command_named words none in
    absurd (cc bad)
