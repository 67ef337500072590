use Rattle.std.proofs.Common.{lit<, arith}
use Rattle.std.specs.List.{slice_split}
use Rattle.std.proofs.lemmas.List.{length_push}
use Rattle.std.proofs.lemmas.Iterator.Consumers.{YieldsList-turn, YieldsList-end}
use Rattle.std.proofs.lemmas.Iterator.Splits.{YieldsList-from_str_split}
use Rattle.command_words.specs.Values.{is_comma}
use Rattle.command_words.proofs.CheckLemmas.{mark_all, mark_none, mark_one, named_all}
use Rattle.command_words.proofs.exploring.read_checks.Goals as goal

pub returns-in_err-checks-clause-none : goal.returns-in_err-checks-clause-none
returns-in_err-checks-clause-none c =
    let t = YieldsList-turn (YieldsList-from_str_split 44 c.args.text.now (lit< tt) (cc) (cc) (cc))
    c.loop-name.yielded _ c.loop-name.yielded_by _ _ c.in-Some.name c.in-Some.is
    c.next.ensures.steps in
    rw c.from_residual.ensures
    (mark_none (slice_split is_comma c.args.text.now) _ c.in-Some.name.now
    t.0 t.1 c.loop-name.checks c.loop-name.invariant c.in_err-checks.ensures.none)

pub loop-name-preserved : goal.loop-name-preserved
loop-name-preserved c =
    let t = YieldsList-turn (YieldsList-from_str_split 44 c.args.text.now (lit< tt) (cc) (cc) (cc))
    c.loop-name.yielded _ c.loop-name.yielded_by _ _ c.in-Some.name c.in-Some.is
    c.next.ensures.steps in
    rw length_push (mark_one (slice_split is_comma c.args.text.now) _ c.in-Some.name.now t.0 t.1
    c.loop-name.checks c.in_ok-checks.checks c.loop-name.invariant c.in_ok-checks.ensures.named
    c.in_ok-checks.ensures.some)

pub returns-clause-some : goal.returns-clause-some
returns-clause-some c =
    let t = YieldsList-end (YieldsList-from_str_split 44 c.args.text.now (lit< tt) (cc) (cc) (cc))
    c.loop-name.yielded _ c.loop-name.yielded_by _ _ c.in-None.is c.next.ensures.steps in
    let texts = slice_split is_comma c.args.text.now in
    let named = named_all texts _ (omega (arith, t.1)) c.loop-name.checks c.loop-name.invariant in
    let marked = mark_all texts _ (omega (arith, t.1)) c.loop-name.checks c.loop-name.invariant in
    record {
      named = named;
      agreement = marked.0;
      validity = marked.1;
      finality = marked.2;
      termination = marked.3;
    }
