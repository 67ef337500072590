use Rattle.std.proofs.Common.{Bor, map}
use Rattle.clap.specs.Words.{Text}
use Rattle.command_words.proofs.ListLemmas.{IsReadTo}
use Rattle.command_words.proofs.changes.read_numbers.Given as goal

abbrev pub invariant-loop-text : goal.invariant-loop-text
invariant-loop-text l =
    IsReadTo (map (λ (s : Bor Text). s.now) l.texts) l.text-index l.numbers.items
