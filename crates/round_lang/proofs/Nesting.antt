-- What is read nests no deeper than its room.
use Rattle.std.proofs.Common.{◌≡◌, ℕ, ◌≤◌, List, Some, arith}
use Rattle.round_lang.specs.declared.parsing.level.Level.{Level}
use Rattle.round_lang.specs.Lexemes.{Lexeme}
use Rattle.round_lang.specs.Tree.{Tree, nesting}
use Rattle.round_lang.specs.Grammar.{Reads}
use Rattle.round_lang.specs.Grammar as g
use Rattle.round_lang.specs.Reading.{parse}
use Rattle.round_lang.proofs.Sound.{parse_good}

reads_nests : {level : Level} {n : ℕ} {t : Tree} {ws rest : List Lexeme} → Reads level n t ws rest
    → nesting t ≤ n
reads_nests (g.looser r) = reads_nests r
reads_nests (g.choice r s t) = let a = reads_nests r in let b = reads_nests s in let c =
    reads_nests t in omega (arith, a, b, c)
reads_nests (g.operation e r s) = let a = reads_nests r in let b =
    reads_nests s in omega (arith, a, b)
reads_nests (g.negated r) = let a = reads_nests r in omega (arith, a)
reads_nests (g.indexed r s) = let a = reads_nests r in let b = reads_nests s in omega (arith, a, b)
reads_nests (g.numeral e h) = omega arith
reads_nests g.constant = omega arith
reads_nests (g.variable h) = omega arith
reads_nests (g.called r) = let a = reads_nests r in omega (arith, a)
reads_nests (g.membership r s) = let a = reads_nests r in let b =
    reads_nests s in omega (arith, a, b)
reads_nests (g.brackets r) = let a = reads_nests r in omega (arith, a)
reads_nests (g.set_of h r) = let a = reads_nests r in omega (arith, a)
reads_nests (g.row_of h r) = let a = reads_nests r in omega (arith, a)

pub parse_nests : (room : ℕ) (level : Level) (ws : List Lexeme) (t : Tree) (depth : ℕ)
    (rest : List Lexeme) → parse room level ws ≡ Some (t, depth, rest) → nesting t ≤ room
parse_nests room level ws t depth rest e =
    let good = parse_good room level ws (t, depth, rest) e in
    let a = reads_nests good.reads in let b = good.within in omega (arith, a, b)
