use Rattle.round_lang.proofs.Layouts.{IsLaidOutTo}
use Rattle.round_lang.proofs.layout.Layout.new.Given as goal

abbrev pub invariant-loop-kind : goal.invariant-loop-kind
invariant-loop-kind l = IsLaidOutTo l.kinds l.starts.items l.kind-index l.start
