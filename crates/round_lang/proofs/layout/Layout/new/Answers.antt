use Rattle.std.proofs.Common.{◌∙◌, ◌+◌, ◌-◌, ◌^◌, ap, arith, length}
use Rattle.std.specs.Prelude.{min}
use Rattle.round_lang.specs.declared.kind.Kind.TheVariants.{Num}
use Rattle.round_lang.proofs.Layouts.{IsLaidOutTo-none, IsLaidOutTo-more, IsLaidOut-of}
use Rattle.round_lang.proofs.layout.Layout.new.Goals as goal

pub loop-kind-init : goal.loop-kind-init
loop-kind-init c = IsLaidOutTo-none c.args.kinds.now _ c.in_ok-starts.ensures.items

pub loop-kind-preserved : goal.loop-kind-preserved
loop-kind-preserved c =
    IsLaidOutTo-more c.args.kinds.now c.loop-kind.starts.items _ c.loop-kind.kind-index
    c.loop-kind.start _ Num c.loop-kind.invariant c.loop-kind-test.true
    c.in_ok-push.ensures.items
    (c.saturating_add-start.ensures ∙ ap (λ size. min (c.loop-kind.start + size) (2 ^ 64 - 1))
    c.size.ensures)

pub invariant_of-result : goal.invariant_of-result
invariant_of-result c =
    IsLaidOut-of _ c.loop-kind.starts.items c.loop-kind.kind-index c.loop-kind.start
    (rw c.in_ok-kinds.ensures.items c.loop-kind.invariant)
    (omega (arith, ap length c.in_ok-kinds.ensures.items))
