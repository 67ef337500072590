use Rattle.std.proofs.Common.{drop, arith, length-drop}
use Rattle.round_lang.specs.CodeTokens.{lexeme_of}
use Rattle.round_lang.specs.Scanning.{skip, token, bad}
use Rattle.round_lang.proofs.Pieces.{Skips, Begins}
use Rattle.round_lang.proofs.Scanned.{scanned_skip, scanned_token, scanned_bad, scanned_all}
use Rattle.round_lang.proofs.Scanned.{scanned_only, next_says, lexemes-push}
use Rattle.round_lang.proofs.lexing.tokens.Goals as goal
use Rattle.round_lang.proofs.lexing.tokens.Goals.{In-Blank, In-Word}

skips : (c : In-Blank) → Skips (drop c.loop-at.at c.args.text.now) c.in-Blank.len
skips c = next_says c.args.text.now c.loop-at.at c.loop-at-test.true (skip c.in-Blank.len)
    c.in-Blank.ensures

begins : (c : In-Word) → Begins (drop c.loop-at.at c.args.text.now) c.in-Word.len
    (lexeme_of c.in-Word.word)
begins c = next_says c.args.text.now c.loop-at.at c.loop-at-test.true
    (token c.in-Word.len (lexeme_of c.in-Word.word)) c.in-Word.ensures

pub overflow_add-at : goal.overflow_add-at
overflow_add-at c = let says = skips (goal.at.overflow_add-at c).In-Blank in
    omega (arith, says.within, length-drop c.loop-at.at c.args.text.now)

pub loop-at-smaller-in-Blank : goal.loop-at-smaller-in-Blank
loop-at-smaller-in-Blank c = let says =
    skips (goal.at.loop-at-smaller-in-Blank c).In-Blank in omega (arith, says.moves, says.within)

pub loop-at-preserved-in-Blank : goal.loop-at-preserved-in-Blank
loop-at-preserved-in-Blank c = scanned_skip c.args.text.now c.loop-at.at _ c.loop-at.invariant
    c.in-Blank.len (skips (goal.at.loop-at-preserved-in-Blank c).In-Blank)

pub overflow_add-at-in-Word : goal.overflow_add-at-in-Word
overflow_add-at-in-Word c = let says = begins (goal.at.overflow_add-at-in-Word c).In-Word in
    omega (arith, says.is.within, length-drop c.loop-at.at c.args.text.now)

pub overflow_add-span : goal.overflow_add-span
overflow_add-span c = let says = begins (goal.at.overflow_add-span c).In-Word in
    omega (arith, says.is.within, length-drop c.loop-at.at c.args.text.now)

pub loop-at-smaller : goal.loop-at-smaller
loop-at-smaller c = let says =
    begins (goal.at.loop-at-smaller c).In-Word in omega (arith, says.moves)

pub loop-at-preserved : goal.loop-at-preserved
loop-at-preserved c =
    rw (c.in_ok-push-in-Word.ensures.items, lexemes-push)
    (scanned_token c.args.text.now c.loop-at.at _ c.loop-at.invariant c.in-Word.len
    (lexeme_of c.in-Word.word) (begins (goal.at.loop-at-preserved c).In-Word))

pub returns-in-Bad-clause-refused : goal.returns-in-Bad-clause-refused
returns-in-Bad-clause-refused c other =
    scanned_bad c.args.text.now c.loop-at.at _ c.loop-at.invariant
    (next_says c.args.text.now c.loop-at.at c.loop-at-test.true bad c.in-Bad.ensures)

pub returns-clause-found : goal.returns-clause-found
returns-clause-found c =
    scanned_all c.args.text.now c.loop-at.at _ c.loop-at.invariant c.loop-at-test.false

pub returns-clause-only : goal.returns-clause-only
returns-clause-only c =
    scanned_only c.args.text.now c.loop-at.at _ c.loop-at.invariant c.loop-at-test.false
