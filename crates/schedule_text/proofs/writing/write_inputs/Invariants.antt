use Rattle.std.proofs.Common.{◌≡◌, ◌∷◌, ◌++◌, take, All}
use Rattle.std.specs.List.{flat_map}
use Rattle.std.specs.Fmt.{decimal}
use Rattle.std.specs.String.{string_bytes}
use Rattle.schedule_text.specs.Small.{IsSmall}
use Rattle.schedule_text.proofs.writing.write_inputs.Given as goal

abbrev pub invariant-loop-input : goal.invariant-loop-input
invariant-loop-input l = (string_bytes l.text ≡ string_bytes l.initial.text
    ++ flat_map (λ v. 32 ∷ decimal v) (take l.input-index l.inputs))
    × All IsSmall (take l.input-index l.inputs)
