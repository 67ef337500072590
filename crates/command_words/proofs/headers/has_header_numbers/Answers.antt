use Rattle.std.proofs.Common.{◌≡◌, ◌↔◌, Some, rules, subst, sym}
use Rattle.std.specs.Prelude.{IsTrue, codes}
use Rattle.clap.specs.Words.{first_of, found_of, rows_of}
use Rattle.command_words.specs.Headers.{HasHeaderNumbers}
use Rattle.command_words.proofs.HeaderLemmas.{header_numbers}
use Rattle.command_words.proofs.headers.has_header_numbers.Goals as goal

pub returns-in-Some : goal.returns-in-Some
returns-in-Some c =
    let rows = rows_of (found_of c.args.matches.now) in
    let at : first_of (codes "header") rows ≡ Some c.in-Some.name.now = search rules in
    subst (λ b. IsTrue b ↔ HasHeaderNumbers rows) (sym c.is_some.ensures)
    (header_numbers rows c.in-Some.name.now c.read_header_numbers.result at
    c.read_header_numbers.ensures.some c.read_header_numbers.ensures.none)
