use Rattle.std.proofs.Common.{lit<, arith}
use Rattle.std.specs.List.{slice_split}
use Rattle.std.proofs.lemmas.List.{length_push}
use Rattle.std.proofs.lemmas.Iterator.Consumers.{YieldsList-turn, YieldsList-end}
use Rattle.std.proofs.lemmas.Iterator.Splits.{YieldsList-from_str_split}
use Rattle.command_words.specs.Values.{is_comma}
use Rattle.command_words.proofs.ListLemmas.{read_all, read_none, read_nothing, read_one}
use Rattle.command_words.proofs.values.read_list.Goals as goal

pub loop-part-init : goal.loop-part-init
loop-part-init c = rw c.new-list.ensures.items (read_nothing (slice_split is_comma c.args.text.now))

pub returns-in_default-clause-err : goal.returns-in_default-clause-err
returns-in_default-clause-err c =
    let t = YieldsList-turn (YieldsList-from_str_split 44 c.args.text.now (lit< tt) (cc) (cc) (cc))
    c.loop-part.yielded _ c.loop-part.yielded_by _ _ c.in-Some.part c.in-Some.is
    c.next.ensures.steps in
    read_none _ _ _ c.loop-part.invariant c.in-Some.part.now t.0 t.1 c.in_default.ensures.none

pub loop-part-preserved : goal.loop-part-preserved
loop-part-preserved c =
    let t = YieldsList-turn (YieldsList-from_str_split 44 c.args.text.now (lit< tt) (cc) (cc) (cc))
    c.loop-part.yielded _ c.loop-part.yielded_by _ _ c.in-Some.part c.in-Some.is
    c.next.ensures.steps in
    rw (length_push, c.in_ok-push.ensures.items)
    (read_one _ _ _ c.loop-part.invariant c.in-Some.part.now _ t.0 t.1
    c.in-Some-read_number.ensures.some)

pub returns-clause-ok : goal.returns-clause-ok
returns-clause-ok c =
    let t = YieldsList-end (YieldsList-from_str_split 44 c.args.text.now (lit< tt) (cc) (cc) (cc))
    c.loop-part.yielded _ c.loop-part.yielded_by _ _ c.in-None.is c.next.ensures.steps in
    read_all _ _ _ c.loop-part.invariant (omega (arith, t.1))
