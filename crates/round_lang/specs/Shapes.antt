-- What a shape is made of.
use Rattle.std.specs.Prelude.{List, [], Option, Some, None}
use Rattle.std.specs.Arc.{arc_value}
use Rattle.std.specs.declared.sync.Arc.{Arc}
use Rattle.round_lang.specs.declared.kind.Kind.{Kind}

-- the shared kinds, none if nothing is shared
abbrev pub kinds_in : {B : Type 0} → Option (Arc (List Kind) B) → List Kind
kinds_in None = []
kinds_in (Some shared) = arc_value shared
