-- What a node sends in a round, and the state that the round ends with.
use Rattle.std.specs.Prelude.{ℕ, ⊤, ◌+◌, ◌-◌, ◌≤◌, ◌/◌, ◌%◌, List, [], ◌∷◌, map, Option, None, Some}
use Rattle.std.specs.Prelude.{if◌then◌else◌, position, slice_set, slice_get}
use Rattle.std.specs.Str.{bytes_eq}
use Rattle.round_lang.specs.declared.block.Assignment.{Assignment}
use Rattle.round_lang.specs.declared.block.Field.{Field}
use Rattle.round_lang.specs.declared.program.Variable.{Variable}
use Rattle.round_lang.specs.declared.program.VariableKind.{VariableKind}
use Rattle.round_lang.specs.declared.program.VariableKind.TheVariants.{Input, State}
use Rattle.round_lang.specs.declared.value.Value.{Value}
use Rattle.round_lang.specs.declared.value.Value.TheVariants.{Num}
use Rattle.round_lang.specs.Sets.{members}
use Rattle.round_lang.specs.Syntax.{BlockTree, ProgramTree}
use Rattle.round_lang.specs.Tree.{Tree}
use Rattle.round_lang.specs.Values.{flag, set}
use Rattle.round_check.specs.Causes.{input_name}
use Rattle.round_meaning.specs.declared.received.Received.{Received}
use Rattle.round_meaning.specs.Meaning.{Env, bind, find_var, or_value, value}

-- in an environment (`Env`), the state's values are these
abbrev pub with_vars : List Value → Env → Env
with_vars vs env = record env { vars = vs }

-- there, these fields have the values of a message from node j
abbrev pub with_message : ℕ → List Field → List Value → Env → Env
with_message j fs m env = record env { from = j; fields = fs; message = m }

-- there, node i is the one that is sent to
abbrev pub with_dest : ℕ → Env → Env
with_dest i env = record env { dest = i }

-- puts a value at a place of a list, and leaves the list as it is if there is no place
abbrev pub put : List Value → Option ℕ → Value → List Value
put vs None v = vs
put vs (Some i) v = slice_set vs i v

-- one assignment, to the variable of its target's name
abbrev pub assigned : Env → Assignment → List Value → List Value
assigned env a vs = put vs (position (λ (d : Variable). bytes_eq d.name a.target) env.variables)
    (value a.formula (with_vars vs env))

-- assignments one after the other, each seeing those before
abbrev pub runs : Env → List Assignment → List Value → List Value
runs env [] vs = vs
runs env (a ∷ rest) vs = runs env rest (assigned env a vs)

-- phases count from 1 and have P rounds
abbrev pub phase_of : ProgramTree → ℕ → ℕ
phase_of p r = (r - 1) / p.period + 1

-- the block of round r is the one at place (r - 1) mod P, from 0
abbrev pub block_at : ProgramTree → ℕ → Option BlockTree
block_at p r = slice_get p.blocks ((r - 1) % p.period)

-- what node i of n, with t faults, computes with in round r, before its state, the receiver or a
-- message is put in
abbrev pub node_env : ProgramTree → ℕ → ℕ → ℕ → ℕ → Env
node_env p n t r i = record {
  values = p.values;
  me = i;
  nodes = n;
  faults = t;
  round = r;
  phase = phase_of p r;
  dest = 0;
  from = 0;
  variables = p.variables;
  vars = [];
  fields = [];
  message = [];
  bound = [];
}

-- what a block sends: the values of its fields if its condition is true, else nothing
abbrev pub sent : Option BlockTree → Env → Option (List Value)
sent None env = None
sent (Some b) env =
    if flag (value b.condition env) then Some (map (λ (e : Tree). value e env) b.sent) else None

-- the senders rise, each only once, and the first is `low` or above
abbrev pub RiseFrom : ℕ → List Received → Type 0
RiseFrom low [] = ⊤
RiseFrom low (m ∷ ms) = (low ≤ m.from) × RiseFrom (m.from + 1) ms

-- an inbox has one message of a sender at most, and is in rising order of sender
abbrev pub IsInbox : List Received → Type 0
IsInbox ms = RiseFrom 0 ms

-- `on message` once for each entry of the inbox, in its order
abbrev pub folded : BlockTree → Env → List Received → List Value → List Value
folded b env [] vs = vs
folded b env (m ∷ ms) vs =
    folded b env ms (runs (with_message m.from b.fields m.message env) b.on_message vs)

-- the state once `on message` has taken one message
abbrev pub message_taken : Option BlockTree → Env → Received → List Value → List Value
message_taken None env m vs = vs
message_taken (Some b) env m vs = runs (with_message m.from b.fields m.message env) b.on_message vs

-- the state once all messages are taken and `end` has run
abbrev pub round_finished : Option BlockTree → Env → List Value → List Value
round_finished None env vs = vs
round_finished (Some b) env vs = runs env b.end vs

-- the inbox is folded, then `end` is run
abbrev pub ended : Option BlockTree → Env → List Received → List Value → List Value
ended None env inbox vs = vs
ended (Some b) env inbox vs = runs env b.end (folded b env inbox vs)

-- a variable begins as the input, or with the value of its formula
abbrev pub begins : Env → ℕ → VariableKind → Value
begins env x Input = Num x
begins env x (State ty e) = value e env

-- the initial state of node i whose input is x: its formulas know me, n, t and the input's name
abbrev pub initial : ProgramTree → ℕ → ℕ → ℕ → ℕ → List Value
initial p n t x i =
    map (λ (d : Variable). begins (bind (input_name p) (node_env p n t 0 i) x) x d.kind) p.variables

-- the set that the variable of the first `decide` line holds, empty if there is no such line
abbrev pub decided : ProgramTree → List Value → List (List ℕ) → ℕ
decided p vs [] = 0
decided p vs (x ∷ xs) = set (or_value (find_var p.variables vs x) (Num 0))

abbrev pub first_member : List ℕ → Option ℕ
first_member [] = None
first_member (v ∷ vs) = Some v

-- the decision in a state: the least member of the decided variable
abbrev pub decision : ProgramTree → List Value → Option ℕ
decision p vs = first_member (members (decided p vs p.decides))
