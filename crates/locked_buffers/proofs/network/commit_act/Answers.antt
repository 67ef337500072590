use Rattle.std.proofs.Common.{sym, subst}
use Rattle.run_events.specs.Stored.{IsStorable, IsStorableName}
use Rattle.step_book.proofs.Names.{storable_name}
use Rattle.run_events.specs.declared.name.Name.{Name}
use Rattle.locked_buffers.specs.Acts.{event_of}
use Rattle.locked_buffers.specs.declared.act.Act.{Act}
use Rattle.locked_buffers.specs.declared.act.Act.TheVariants as act
use Rattle.locked_buffers.proofs.network.commit_act.Goals as goal

storable_event : (a : Act) (n : Name) → IsStorableName n → IsStorable (event_of a n)
storable_event act.Release n small = small
storable_event act.Drop n small = small
storable_event act.Copy n small = small

pub new-requires : goal.new-requires
new-requires g c =
    subst IsStorable (sym c.event.ensures) (storable_event c.args.act c.args.name
    (storable_name _ c.sound.ensures.lawful.sized c.args.name c.requires.name))
