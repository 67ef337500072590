-- What contracts see of the record of a run.
use Rattle.std.specs.Prelude.{◌≡◌, ℕ, ◌+◌, ◌-◌, ◌<◌, ◌≤◌, ◌≢◌, Bool, true, List, [], ◌∷◌, ◌++◌}
use Rattle.std.specs.Prelude.{length, map, reverse, slice_index_or, slice_set, Vec}
use Rattle.std.specs.Arc.{arc_value}
use Rattle.std.specs.List.{range_with_len}
use Rattle.std.specs.declared.sync.Arc.{Arc}
use Rattle.round_lang.specs.declared.value.Value.{Value}
use Rattle.round_lang.specs.Syntax.{ProgramTree}
use Rattle.round_meaning.specs.declared.setup.Setup.{Setup}
use Rattle.round_meaning.specs.Rounds.{algorithm_of}
use Rattle.round_meaning.specs.Setups.{IsLawful}
use Rattle.step_book.specs.declared.mark.Mark.{Mark}
use Rattle.step_book.specs.declared.mark.Mark.TheVariants.{Flying, Unsent}
use Rattle.step_book.specs.Agreement.{Row, row, Agrees, Waits, Accounts}
use Rattle.step_book.specs.History.{state, mark_of, buffer_of}
use Rattle.step_book.specs.Mailing.{Mailed}
use Rattle.step_book.specs.Names.{IsName}
use Rattle.step_book.specs.Serials.{AreSent}
use Rattle.step_book.specs.Trace.{steps}
use Rattle.step_book.specs.World.{World, IsPlan, is_receive}
use Rattle.run_events.specs.declared.event.Event.{Event}
use Rattle.run_events.specs.declared.name.Name.{Name}
use Rattle.run_events.specs.Limits.{max_copy}
use Rattle.run_events.specs.Names.{original}
use Rattle.step_machine.specs.Nodes.{NodeView, algorithm_in, held_now, inbox_of}

-- a run so far: its program and setup, the events in their order, and the states of each node after
-- 0, 1, .. closed rounds
pub record Log : Type 0 where
  pub program : ProgramTree
  pub setup : Setup
  pub trace : List Event
  pub rows : List Row

-- a run by its plan
pub record Recorded (P : Type 0) : Type 0 where
  pub plan : P
  pub log : Log

-- the algorithm and the rounds of a run, whose rounds start at these steps
abbrev pub world_of : (ℕ → ℕ) → Log → World
world_of start v =
    record { algorithm = algorithm_of v.program v.setup; rounds = v.setup.rounds; start = start }

-- the events, the newest first
abbrev pub history : Log → List Event
history v = reverse v.trace

-- a run that begins
abbrev pub opened : ProgramTree → Setup → Log
opened p s = record {
  program = p;
  setup = s;
  trace = [];
  rows = map (λ i. (algorithm_of p s).init i ∷ []) (range_with_len 0 s.nodes);
}

-- the run with one event more
abbrev pub happened : Log → Event → Log
happened v e = record v { trace = v.trace ++ e ∷ [] }

-- the state that a node ended its round with
abbrev pub end_state : NodeView → List Value
end_state n = (algorithm_in n).end n.round n.me (inbox_of (held_now n)) n.state

-- the run with one round of that node closed
abbrev pub closed : Log → NodeView → Log
closed v n = record v { rows = slice_set v.rows n.me (row v.rows n.me ++ end_state n ∷ []) }

-- a node's round: the first that isn't closed
abbrev pub round_of : Log → ℕ → ℕ
round_of v i = length (row v.rows i)

-- how many steps a node has taken
abbrev pub count_of : Log → ℕ → ℕ
count_of v i = steps i (history v)

-- what became of a copy of a message
abbrev pub mark_in : (ℕ → ℕ) → Log → Name → Mark
mark_in start v n = mark_of (world_of start v) (history v) n

-- the names that wait for a node
abbrev pub waiting_in : (ℕ → ℕ) → Log → ℕ → List Name
waiting_in start v i = buffer_of (world_of start v) i (history v)

-- the copy is in flight
abbrev pub IsFlying : (ℕ → ℕ) → Log → Name → Type 0
IsFlying start v n = mark_in start v n ≡ Flying

-- the copy was never made, and copy 0 is in flight
abbrev pub CanCopy : (ℕ → ℕ) → Log → Name → Type 0
CanCopy start v n = IsFlying start v (original n) × (mark_in start v n ≡ Unsent)

-- copy c of the message was never made and can be
abbrev pub CanMake : (ℕ → ℕ) → Log → Name → ℕ → Type 0
CanMake start v n c = CanCopy start v (record n { copy = c })

-- the least copy that can be made of what is in flight under this name, which is copy 0
pub record IsLeastCopy (start : ℕ → ℕ) (v : Log) (n : Name) (c : ℕ) : Type 0 where
  pub original : n.copy ≡ 0
  pub other : 0 < c
  pub few : c ≤ max_copy
  pub can : CanMake start v n c
  pub least : (d : ℕ) → 0 < d → d < c → ¬ (CanMake start v n d)

-- the name is a copy's own, or no copy more can be made under it
abbrev pub HasNoCopy : (ℕ → ℕ) → Log → Name → Type 0
HasNoCopy start v n = n.copy ≡ 0 → (d : ℕ) → 0 < d → d ≤ max_copy → ¬ (CanMake start v n d)

-- a round of the node is due and isn't closed
abbrev pub IsDue : (ℕ → ℕ) → Log → ℕ → Type 0
IsDue start v i = (round_of v i ≤ v.setup.rounds) × (start (round_of v i + 1) ≤ count_of v i)

-- the sender's next step is the message's slot
abbrev pub IsSlot : (ℕ → ℕ) → Log → Name → Type 0
IsSlot start v n = count_of v n.from ≡ start n.round + n.to

-- the node's next step is a receive
abbrev pub IsReceive : (ℕ → ℕ) → Log → ℕ → Type 0
IsReceive start v i = is_receive (world_of start v) (count_of v i) ≡ true

-- the recorded state before a round of the node
abbrev pub state_before : Log → ℕ → ℕ → List Value
state_before v i r = slice_index_or (row v.rows i) (r - 1) []

-- no message became another thing
abbrev pub SameMarks : (ℕ → ℕ) → Log → Log → Type 0
SameMarks start old new =
    (n : Name) → IsName old.setup n → mark_in start new n ≡ mark_in start old n

-- what is recorded of each copy of a message but this one is as it was
abbrev pub SameMarksBut : (ℕ → ℕ) → Name → Log → Log → Type 0
SameMarksBut start but old new =
    (n : Name) → IsName old.setup n → n ≢ but → mark_in start new n ≡ mark_in start old n

-- the same names wait for each node
abbrev pub SameWaiting : (ℕ → ℕ) → Log → Log → Type 0
SameWaiting start old new = (i : ℕ) → waiting_in start new i ≡ waiting_in start old i

-- the same names wait for each node but this one
abbrev pub SameWaitingBut : (ℕ → ℕ) → ℕ → Log → Log → Type 0
SameWaitingBut start but old new =
    (i : ℕ) → i ≢ but → waiting_in start new i ≡ waiting_in start old i

-- the closed rounds of each node are past, at most the next is due, and their recorded states are
-- those of the run in rounds
pub record IsFaithful (start : ℕ → ℕ) (v : Log) : Type 0 where
  pub rowed : length v.rows ≡ v.setup.nodes
  pub began : (i : ℕ) → i < v.setup.nodes → 0 < round_of v i
  pub bounded : (i : ℕ) → i < v.setup.nodes → round_of v i ≤ v.setup.rounds + 1
  pub past : (i : ℕ) → i < v.setup.nodes → start (round_of v i) ≤ count_of v i
  pub near : (i : ℕ) → i < v.setup.nodes → round_of v i ≤ v.setup.rounds
      → count_of v i ≤ start (round_of v i + 1)
  pub stated : (i r : ℕ) → i < v.setup.nodes → r < round_of v i
      → slice_index_or (row v.rows i) r [] ≡ state (world_of start v) (history v) r i

-- what is kept beside the run is what its history says
pub record IsBookOf (start : ℕ → ℕ) (nodes : ℕ) (v : Log) (counts : List ℕ)
    (tables : List (List Mark)) (waiting : List (List Name)) (handed : List (List (List Name)))
    (answers : List Bool) (messages : List Name) : Type 0 where
  pub lawful : IsLawful v.program.values v.setup
  pub sized : nodes ≡ v.setup.nodes
  pub plan : IsPlan (world_of start v)
  pub book : Agrees (world_of start v) (history v) counts v.rows tables
  pub waits : Waits (world_of start v) (history v) waiting
  pub accounts : Accounts (world_of start v) (history v) handed answers
  pub serials : AreSent (world_of start v) (history v) messages

-- some book keeps this run: there are lists beside it that are what its history says
pub record HasBook (start : ℕ → ℕ) (v : Log) : Type 0 where
  pub nodes : ℕ
  pub counts : List ℕ
  pub tables : List (List Mark)
  pub waiting : List (List Name)
  pub handed : List (List (List Name))
  pub answers : List Bool
  pub messages : List Name
  pub book : IsBookOf start nodes v counts tables waiting handed answers messages

-- the states that a row shares
abbrev pub states_of : {A : Type 0} → List (Arc (List Value) A) → Row
states_of xs = map (λ a. arc_value a) xs

-- the states of the rows that a book holds
abbrev pub rows_of : {A B : Type 0} → List (Vec (Arc (List Value) A) B) → List Row
rows_of xs = map (λ v. states_of v.items) xs

-- the names that wait for each node
abbrev pub waits_in : List Mailed → List (List Name)
waits_in ms = map (λ m. m.waiting) ms

-- the names that the receives of each node handed out
abbrev pub handed_in : List Mailed → List (List (List Name))
handed_in ms = map (λ m. m.handed) ms
