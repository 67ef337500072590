-- Each rule takes words away.
use Rattle.std.proofs.Common.{◌≡◌, ℕ, ◌<◌, ◌≤◌, false, List, length, refl, arith}
use Rattle.round_lang.specs.declared.token.Mark.TheVariants as m
use Rattle.round_lang.specs.declared.parsing.level.Level.{Level}
use Rattle.round_lang.specs.Lexemes.{Lexeme, same_mark}
use Rattle.round_lang.specs.Tree.{Tree}
use Rattle.round_lang.specs.Grammar.{Reads}
use Rattle.round_lang.specs.Grammar as g
use Rattle.round_lang.specs.Source.{Many}
use Rattle.round_lang.specs.Source as p
use Rattle.round_lang.specs.Reading.{begins_with}

pub reads_shorter : {level : Level} {n : ℕ} {t : Tree} {ws rest : List Lexeme}
    → Reads level n t ws rest → length rest < length ws
reads_shorter (g.looser r) = reads_shorter r
reads_shorter (g.choice r s t) = omega (arith, reads_shorter r, reads_shorter s, reads_shorter t)
reads_shorter (g.operation e r s) = omega (arith, reads_shorter r, reads_shorter s)
reads_shorter (g.negated r) = omega (arith, reads_shorter r)
reads_shorter (g.indexed r s) = omega (arith, reads_shorter r, reads_shorter s)
reads_shorter (g.numeral e le) = omega arith
reads_shorter g.constant = omega arith
reads_shorter (g.variable le) = omega arith
reads_shorter (g.called r) = omega (arith, reads_shorter r)
reads_shorter (g.membership r s) = omega (arith, reads_shorter r, reads_shorter s)
reads_shorter (g.brackets r) = omega (arith, reads_shorter r)
reads_shorter (g.set_of le r) = omega (arith, reads_shorter r)
reads_shorter (g.row_of le r) = omega (arith, reads_shorter r)

-- no expression begins with )
pub no_close : {level : Level} {n : ℕ} {t : Tree} {ws rest : List Lexeme} → Reads level n t ws rest
    → begins_with m.Close ws ≡ false
unfolding begins_with same_mark
no_close (g.looser r) = no_close r
no_close (g.choice r s t) = refl
no_close (g.operation e r s) = no_close r
no_close (g.negated r) = refl
no_close (g.indexed r s) = no_close r
no_close (g.numeral e le) = refl
no_close g.constant = refl
no_close (g.variable le) = refl
no_close (g.called r) = refl
no_close (g.membership r s) = refl
no_close (g.brackets r) = refl
no_close (g.set_of le r) = refl
no_close (g.row_of le r) = refl

pub many_shorter : {A : Type 0} {Item : A → List Lexeme → List Lexeme → Type 0} {found : List A}
    {ws rest : List Lexeme}
    → ((a : A) (ws rest : List Lexeme) → Item a ws rest → length rest < length ws)
    → Many Item found ws rest → length rest ≤ length ws
many_shorter h p.none = omega arith
many_shorter h (p.more {a = a} {ws = ws} {xs = xs} r others) =
    omega (arith, h a ws xs r, many_shorter h others)
