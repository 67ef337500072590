use Rattle.std.specs.Prelude.{◌≡◌, codes, ◌++◌, drop}
use Rattle.std.specs.List.{flat_map, range_with_len}
use Rattle.omission_explainer.specs.Report.{variable_text}
use Rattle.omission_explainer.specs.Short.{Tells}
use Rattle.omission_explainer.proofs.writing.write_state.Given as goal

-- the variables before the place are told, and the values from the place on are left
abbrev pub invariant-loop-place : goal.invariant-loop-place
invariant-loop-place g l =
    record {
      told : Tells (g.W.Write.contents l.fn.out) l.fn.text (g.W.Write.contents l.out) l.text
          (codes " state" ++ flat_map (variable_text l.report l.state) (range_with_len 0 l.place));
      rest : l.left ≡ drop l.place l.state;
    }
