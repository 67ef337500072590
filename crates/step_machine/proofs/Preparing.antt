-- What a node prepares.
use Rattle.std.proofs.Common.{◌≡◌, ℕ, List, Option, ap, refl, subst, sym, ◌∙◌}
use Rattle.round_lang.specs.declared.value.Value.{Value}
use Rattle.frame_format.specs.Formats.{Format}
use Rattle.round_meaning.specs.Rounds.{algorithm_of}
use Rattle.run_events.specs.declared.name.Name.{Name}
use Rattle.step_machine.specs.declared.node.Node.TheInside.{Inside}
use Rattle.step_machine.specs.declared.spoken.Spoken.{Spoken}
use Rattle.step_machine.specs.Nodes.{NodeView, algorithm_in, format_in, sent_to}
use Rattle.step_machine.specs.NodeInside.{IsOrigin, IsToldToAll, node_seen}
use Rattle.step_machine.specs.Saying.{layout_in, origin_of}
use Rattle.step_machine.specs.Sealed.{HasStateTypes, IsPrepared, Ready}

-- a result that is so where there is one
-- what a node has ready for another in its round
abbrev pub ready_in : NodeView → ℕ → Ready
ready_in n dest = record {
  format = format_in n;
  name = record { from = n.me; to = dest; round = n.round; copy = 0 };
  state = n.state;
  message = sent_to n dest;
}

-- the name of what a node sends to another in its round
abbrev pub IsOwn : NodeView → Name → Type 0
IsOwn n name = name ≡ record { from = n.me; to = name.to; round = n.round; copy = 0 }

-- it says what the node's state sends
pub ready_is : (s : Inside) (n : NodeView) (dest : ℕ) (p : Ready) → node_seen s ≡ n
    → HasStateTypes (algorithm_of s.machine s.setup) s.state → p ≡ ready_in n dest
    → IsPrepared (algorithm_in n) p
ready_is s n dest p seen types e =
    let typed : HasStateTypes (algorithm_in n) n.state =
    subst (λ (x : NodeView). HasStateTypes (algorithm_in x) x.state) seen types in
    subst (IsPrepared (algorithm_in n)) (sym e) (record { says = refl; types = typed })

-- from the node's fields
pub ready_from : (s : Inside) (n : NodeView) (dest : ℕ) (state : List Value)
    (m : Option (List Value)) (f : Format) (p : Ready) → node_seen s ≡ n → state ≡ n.state
    → m ≡ sent_to n dest → f ≡ format_in n
    → p ≡ record {
      format = f;
      name = record { from = s.me; to = dest; round = s.round; copy = 0 };
      state = state;
      message = m;
    } → p ≡ ready_in n dest
ready_from s n dest state m f p seen e said formed is =
    let name : Name = record { from = s.me; to = dest; round = s.round; copy = 0 } in
    let formed_by : Format → Ready = λ x. record {
      format = x;
      name = name;
      state = state;
      message = m;
    } in
    let in_state : List Value → Ready = λ x. record {
      format = format_in n;
      name = name;
      state = x;
      message = m;
    } in
    let saying : Option (List Value)
    → Ready = λ x. record {
      format = format_in n;
      name = name;
      state = n.state;
      message = x;
    } in
    let under : NodeView → Ready = λ x. record {
      format = format_in n;
      name = record { from = x.me; to = dest; round = x.round; copy = 0 };
      state = n.state;
      message = sent_to n dest;
    } in
    is ∙ ap formed_by formed ∙ ap in_state e ∙ ap saying said ∙ ap under seen

-- from what it keeps as said to all
pub ready_told : (s : Inside) (n : NodeView) (dest : ℕ) (a : Spoken) (p : Ready) → node_seen s ≡ n
    → (told : IsToldToAll s.machine s.setup s.me s.round s.state a)
    → p ≡ record {
      format = layout_in (origin_of a);
      name = record { from = s.me; to = dest; round = s.round; copy = 0 };
      state = (origin_of a).state;
      message = told.message;
    } → p ≡ ready_in n dest
ready_told s n dest a p seen told =
    ready_from s n dest (origin_of a).state told.message (layout_in (origin_of a)) p seen
    (told.origin.state_is ∙ ap (λ (x : NodeView). x.state) seen)
    (sym (told.told dest) ∙ ap (λ (x : NodeView). sent_to x dest) seen)
    (told.origin.layout_is ∙ ap format_in seen)

-- what is said to all for the first time in a round
pub ready_first : (s : Inside) (n : NodeView) (name : Name) (a : Spoken) (m : Option (List Value))
    (p : Ready) → node_seen s ≡ n → IsOwn n name → IsOrigin n.state (format_in n) (origin_of a)
    → m ≡ sent_to n name.to
    → p ≡ record {
      format = layout_in (origin_of a);
      name = name;
      state = (origin_of a).state;
      message = m;
    } → p ≡ ready_in n name.to
ready_first s n name a m p seen own origin said is =
    let under : Name → Ready = λ x. record {
      format = layout_in (origin_of a);
      name = x;
      state = (origin_of a).state;
      message = m;
    } in
    let own_in : NodeView
    → Name = λ x. record { from = x.me; to = name.to; round = x.round; copy = 0 } in
    ready_from s n name.to (origin_of a).state m (layout_in (origin_of a)) p seen origin.state_is
    said origin.layout_is (is ∙ ap under (own ∙ sym (ap own_in seen)))
