-- What a node has ready for a send slot.
use Rattle.std.specs.Prelude.{◌≡◌, ⊤, Some, None}
use Rattle.std.specs.Arc.{arc_value}
use Rattle.run_events.specs.declared.name.Name.{Name}
use Rattle.step_machine.specs.declared.prepared.Sending.{Sending}
use Rattle.step_machine.specs.declared.prepared.Sending.TheVariants.{Message, Silence}
use Rattle.step_machine.specs.Saying.{layout_in}
use Rattle.step_machine.specs.Sealed.{Ready}

-- the message or silence, under its name, with its sender's state
abbrev pub ready_as : Name → Sending → Ready
ready_as n (Message f) = record {
  format = f.format;
  name = n;
  state = f.state;
  message = Some f.message;
}
ready_as n (Silence o) = record {
  format = layout_in (arc_value o);
  name = n;
  state = (arc_value o).state;
  message = None;
}

-- the message is one of this name, or there is none
abbrev pub IsSentAs : Name → Sending → Type 0
IsSentAs n (Message f) = f.name ≡ n
IsSentAs n (Silence o) = ⊤

-- the message, if there is one, has the name, which is that of a copy 0
pub record IsReady (n : Name) (x : Sending) : Type 0 where
  pub original : n.copy ≡ 0
  pub named : IsSentAs n x
