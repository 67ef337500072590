use Rattle.std.proofs.Common.{◌<◌, Bor, [], arith, get_or, length, map}
use Rattle.clap.specs.Words.{Text}
use Rattle.command_words.proofs.ChangeLemmas.{length-texts, text_at}
use Rattle.command_words.proofs.ListLemmas.{read_all, read_none, read_one}
use Rattle.command_words.proofs.changes.read_numbers.Goals as goal

pub returns-in_default-clause-err : goal.returns-in_default-clause-err
returns-in_default-clause-err c =
    let ts = c.args.texts.now in
    let texts = map (λ (s : Bor Text). s.now) ts in
    let i = c.loop-text.text-index in
    let d : Bor Text = record { ref_ptr = (0, 0); now = [] } in
    let lt : i < length texts = omega (arith, c.loop-text-test.true, length-texts ts) in
    read_none texts i _ c.loop-text.invariant (get_or ts i d).now lt
    (text_at ts i d c.loop-text-test.true) c.in_default.ensures.none

pub loop-text-preserved : goal.loop-text-preserved
loop-text-preserved c =
    let ts = c.args.texts.now in
    let texts = map (λ (s : Bor Text). s.now) ts in
    let i = c.loop-text.text-index in
    let d : Bor Text = record { ref_ptr = (0, 0); now = [] } in
    let lt : i < length texts = omega (arith, c.loop-text-test.true, length-texts ts) in
    rw c.in_ok-push.ensures.items
    (read_one texts i _ c.loop-text.invariant (get_or ts i d).now _ lt
    (text_at ts i d c.loop-text-test.true) c.in-Some.ensures.some)

pub returns-clause-ok : goal.returns-clause-ok
returns-clause-ok c =
    let ts = c.args.texts.now in
    read_all (map (λ (s : Bor Text). s.now) ts) c.loop-text.text-index _ c.loop-text.invariant
    (omega (arith, c.loop-text-test.false, c.loop-text.auto.text-index-end, length-texts ts))
