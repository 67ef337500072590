-- Algorithm 1 as steps of nodes whose variables are values of the language. No reader has to
-- believe this file: PhaseProgram ties it to the program.
use Rattle.std.specs.Prelude.{ℕ, zero, suc, ◌+◌, ◌*◌, ◌-◌, ◌/◌, ◌%◌, ◌<◌, ◌≤◌, Bool, true, false}
use Rattle.std.specs.Prelude.{◌&&◌, not, min, List, [], ◌∷◌, map, Option, if◌then◌else◌, nat_lt}
use Rattle.std.specs.Prelude.{nat_le, ◌==◌, slice_index, replicate}
use Rattle.std.specs.List.{range_with_len}
use Rattle.round_lang.specs.declared.value.Value.{Value}
use Rattle.round_lang.specs.declared.value.Value.TheVariants.{Num, Flag, Row}
use Rattle.round_lang.specs.Sets.{is_in, set_of, members, union, only, size, least}
use Rattle.round_lang.specs.Values.{num, flag, set, row, of_set, mod_or_0}
use Rattle.round_meaning.specs.Turn.{first_member}

-- K, N and t
pub record Setting : Type 0 where
  pub values : ℕ
  pub nodes : ℕ
  pub faults : ℕ

-- a node's variables
pub record Node : Type 0 where
  pub x : Value
  pub proper : Value
  pub locks : Value
  pub lists : Value
  pub prop : Value
  pub got : Value
  pub acks : Value
  pub done : Value

-- a message: what the round is about, and the sender's proper values
pub record Message : Type 0 where
  pub body : Value
  pub proper : Value

-- the messages of the senders that pass, in order of sender
abbrev pub hear : (Node → Message → Node) → (ℕ → Bool) → (ℕ → Message) → List ℕ → Node → Node
hear take c m [] n = n
hear take c m (j ∷ js) n = hear take c m js (if c j then take n (m j) else n)

abbrev pub owner : Setting → ℕ → ℕ
owner s k = mod_or_0 (k - 1) s.nodes

-- the initial state
abbrev pub start : Setting → ℕ → Node
start s x = record {
  x = Num x;
  proper = of_set (only s.values x);
  locks = Row (replicate s.values 0);
  lists = Row (replicate s.values 0);
  prop = of_set 0;
  got = Flag false;
  acks = Num 0;
  done = of_set 0;
}

-- round 4k-3: lists go to the owner, who proposes
abbrev pub acceptable : Setting → Node → ℕ → Bool
acceptable s n v =
    (nat_lt v s.values && is_in (set n.proper) v)
    && (size (set_of s.values (λ w. not (w == v) && nat_lt 0 (slice_index (row n.locks) w))) == 0)

abbrev pub message1 : Setting → Node → Message
message1 s n = record { body = of_set (set_of s.values (acceptable s n)); proper = n.proper }

abbrev pub take1 : Setting → Node → Message → Node
take1 s n m = record {
  x = n.x;
  proper = of_set (union (set n.proper) (set m.proper));
  locks = n.locks;
  lists = Row (map
      (λ v. num (if (nat_lt v s.values && is_in (set m.body) v) then Num
      (min (slice_index (row n.lists) v + 1) 4294967295) else Num (slice_index (row n.lists) v)))
      (range_with_len 0 s.values));
  prop = n.prop;
  got = n.got;
  acks = n.acks;
  done = n.done;
}

abbrev pub finish1 : Setting → ℕ → ℕ → Node → Node
finish1 s k i n = record {
  x = n.x;
  proper = n.proper;
  locks = n.locks;
  lists = Row (replicate s.values 0);
  prop = if (i == owner s k) then of_set
      (only s.values
      (least s.values
      (set_of s.values (λ v. nat_le (s.nodes - s.faults) (slice_index (row n.lists) v))))) else
      of_set 0;
  got = n.got;
  acks = n.acks;
  done = n.done;
}

-- round 4k-2: the proposal goes to all, who lock it
abbrev pub message2 : Node → Message
message2 n = record { body = n.prop; proper = n.proper }

abbrev pub take2 : Setting → ℕ → Node → Message → Node
take2 s k n m = record {
  x = n.x;
  proper = of_set (union (set n.proper) (set m.proper));
  locks = Row (map
      (λ w. num (if (nat_lt w s.values && is_in (set m.body) w) then Num k else Num
      (slice_index (row n.locks) w))) (range_with_len 0 s.values));
  lists = n.lists;
  prop = n.prop;
  got = Flag true;
  acks = n.acks;
  done = n.done;
}

-- round 4k-1: acknowledgements go to the owner, who decides
abbrev pub message3 : Node → Message
message3 n = record { body = Num 0; proper = n.proper }

abbrev pub take3 : Node → Message → Node
take3 n m = record {
  x = n.x;
  proper = of_set (union (set n.proper) (set m.proper));
  locks = n.locks;
  lists = n.lists;
  prop = n.prop;
  got = n.got;
  acks = Num (min (num n.acks + 1) 4294967295);
  done = n.done;
}

abbrev pub finish3 : Setting → Node → Node
finish3 s n = record {
  x = n.x;
  proper = n.proper;
  locks = n.locks;
  lists = n.lists;
  prop = of_set 0;
  got = Flag false;
  acks = Num 0;
  done = if ((size (set n.done) == 0) && nat_le (min (s.faults + 1) 4294967295) (num n.acks)) then
      n.prop else n.done;
}

-- round 4k: locks go to all, who release theirs for later ones
abbrev pub message4 : Node → Message
message4 n = record { body = n.locks; proper = n.proper }

abbrev pub take4 : Setting → Node → Message → Node
take4 s n m = record {
  x = n.x;
  proper = of_set (union (set n.proper) (set m.proper));
  locks = Row (map
      (λ v. num (if
      (nat_lt 0 (size
      (set_of s.values (λ w. (not (w == v) && nat_lt 0 (slice_index (row m.body) w))
      && nat_le (slice_index (row n.locks) v) (slice_index (row m.body) w))))) then Num 0 else Num
      (slice_index (row n.locks) v))) (range_with_len 0 s.values));
  lists = n.lists;
  prop = n.prop;
  got = n.got;
  acks = n.acks;
  done = n.done;
}

-- all nodes
abbrev pub World : Type 0
World = ℕ → Node

-- whether a node hears j in a round of the phase; `o j`: j's message is omitted
abbrev pub hears1 : Setting → (ℕ → Bool) → ℕ → ℕ → ℕ → Bool
hears1 s o k i j = not (o j) && (i == owner s k)

abbrev pub hears2 : (ℕ → Bool) → World → ℕ → Bool
hears2 o w j = not (o j) && nat_lt 0 (size (set (w j).prop))

abbrev pub hears3 : Setting → (ℕ → Bool) → World → ℕ → ℕ → ℕ → Bool
hears3 s o w k i j = not (o j) && (flag (w j).got && (i == owner s k))

abbrev pub hears4 : Setting → (ℕ → Bool) → World → ℕ → Bool
hears4 s o w j = not (o j)
    && nat_lt 0 (size (set_of s.values (λ v. nat_lt 0 (slice_index (row (w j).locks) v))))

abbrev pub round1 : Setting → (ℕ → Bool) → ℕ → World → ℕ → Node
round1 s o k w i =
    finish1 s k i (hear (take1 s) (hears1 s o k i) (λ j. message1 s (w j))
    (range_with_len 0 s.nodes) (w i))

abbrev pub round2 : Setting → (ℕ → Bool) → ℕ → World → ℕ → Node
round2 s o k w i = hear (take2 s k) (hears2 o w) (λ j. message2 (w j)) (range_with_len 0 s.nodes)
    (w i)

abbrev pub round3 : Setting → (ℕ → Bool) → ℕ → World → ℕ → Node
round3 s o k w i =
    finish3 s (hear take3 (hears3 s o w k i) (λ j. message3 (w j)) (range_with_len 0 s.nodes) (w i))

abbrev pub round4 : Setting → (ℕ → Bool) → World → ℕ → Node
round4 s o w i = hear (take4 s) (hears4 s o w) (λ j. message4 (w j)) (range_with_len 0 s.nodes)
    (w i)

-- a round by its position in the phase
abbrev pub next : Setting → ℕ → ℕ → (ℕ → ℕ → Bool) → World → World
next s zero k o w = λ i. round1 s (o i) k w i
next s (suc zero) k o w = λ i. round2 s (o i) k w i
next s (suc (suc zero)) k o w = λ i. round3 s (o i) k w i
next s (suc (suc (suc p))) k o w = λ i. round4 s (o i) w i

-- all nodes after r rounds; `omits i r j`: i doesn't get j's message of round r
abbrev pub run : Setting → (ℕ → ℕ) → (ℕ → ℕ → ℕ → Bool) → ℕ → World
run s inputs omits zero = λ i. start s (inputs i)
run s inputs omits (suc r) =
    next s (r % 4) (r / 4 + 1) (λ i. omits i (suc r)) (run s inputs omits r)

-- the decision, the least member of done
abbrev pub node_decision : Node → Option ℕ
node_decision n = first_member (members (set n.done))

-- what the laws of whole runs ask for
pub record Suits (s : Setting) (inputs : ℕ → ℕ) : Type 0 where
  pub values : s.values ≤ 64
  pub nodes : s.nodes ≤ 4294967295
  pub faults : 2 * s.faults + 1 ≤ s.nodes
  pub inputs_in : (i : ℕ) → i < s.nodes → inputs i < s.values
