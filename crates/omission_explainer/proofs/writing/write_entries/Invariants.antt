use Rattle.std.specs.Prelude.{◌≡◌, drop}
use Rattle.omission_explainer.specs.Report.{entry_text, is_entered}
use Rattle.omission_explainer.proofs.Texts.{TellsPassing}
use Rattle.omission_explainer.proofs.writing.write_entries.Given as goal

-- the entries of the values before this one are told, and those from it on are left
abbrev pub invariant-loop-value : goal.invariant-loop-value
invariant-loop-value g l =
    record {
      told : TellsPassing (g.W.Write.contents l.fn.out) l.fn.text (g.W.Write.contents l.out) l.text
          (entry_text l.fn.left) (is_entered l.fn.left) l.value l.has_entry;
      rest : l.left ≡ drop l.value l.fn.left;
    }
