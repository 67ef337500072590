-- What the reading calls of a record answer.
use Rattle.std.proofs.Common.{◌≡◌, ℕ, ◌+◌, ◌-◌, ◌*◌, ◌<◌, ◌≤◌, List, [], ◌∷◌, ◌++◌, length, get_or}
use Rattle.std.proofs.Common.{sym, subst, refl, ap, ◌∙◌, arith, Bool, ◌⊎◌, inl, inr}
use Rattle.std.proofs.lemmas.Bool.{cases_lt}
use Rattle.std.proofs.lemmas.List.{get_or-map, get_or_past, length-map, get_or_default}
use Rattle.std.specs.List.{count_by}
use Rattle.std.specs.Prelude.{Vec}
use Rattle.std.specs.Arc.{arc_value}
use Rattle.std.specs.declared.sync.Arc.{Arc}
use Rattle.round_lang.specs.declared.value.Value.{Value}
use Rattle.round_meaning.specs.Rounds.{algorithm}
use Rattle.run_events.specs.declared.event.Event.{Event}
use Rattle.run_events.specs.declared.name.Name.{Name}
use Rattle.step_book.specs.declared.mark.Mark.{Mark}
use Rattle.step_book.specs.declared.mark.Mark.TheVariants.{Unsent}
use Rattle.step_book.specs.World.{nodes_of}
use Rattle.step_book.specs.History.{handed_of}
use Rattle.step_book.specs.Agreement.{Row, row, place_of, IsBuffer}
use Rattle.step_book.specs.Names.{IsName, IsNameOf}
use Rattle.step_book.specs.Tables.{HasPlace, read_at}
use Rattle.step_book.specs.Trace.{is_name}
use Rattle.step_book.specs.Log.{Log, Recorded, IsBookOf, IsFaithful, IsFlying, HasBook, happened}
use Rattle.step_book.specs.Log.{world_of}
use Rattle.step_book.specs.Log.{history, round_of, count_of, mark_in, waiting_in, states_of}
use Rattle.step_book.specs.Log.{rows_of, handed_in, waits_in}
use Rattle.step_book.specs.Mailing.{Mailed}
use Rattle.step_book.proofs.Buffers.{buffer_counts}
use Rattle.step_book.proofs.Tables.{has_place}

-- what holds of the fields holds of the view
pub of_view : {P : Type 0} {s v : Recorded P} {counts : List ℕ} {tables : List (List Mark)}
    {waiting : List (List Name)} {handed : List (List (List Name))} {answers : List Bool}
    {messages : List Name} (start : P → ℕ → ℕ) (nodes : P → ℕ) → s ≡ v
    → IsBookOf (start s.plan) (nodes s.plan) s.log counts tables waiting handed answers messages
    → IsBookOf (start v.plan) (nodes v.plan) v.log counts tables waiting handed answers messages
of_view {P} {s} {v} {counts} {tables} {waiting} {handed} {answers} {messages} start nodes e h =
    subst (λ (z : Recorded P). IsBookOf (start z.plan)
    (nodes z.plan) z.log counts tables waiting handed answers messages) e h

-- the nodes of a run are its setup's
pub nodes_are : (start : ℕ → ℕ) (v : Log) → nodes_of (world_of start v) ≡ v.setup.nodes
unfolding algorithm
nodes_are start v = refl

pub one_of : (start : ℕ → ℕ) (v : Log) (k : ℕ) → k < v.setup.nodes → k < nodes_of (world_of start v)
one_of start v k l = let n = nodes_are start v in omega (arith, n)

-- a name of the run is one of its world's
pub named : (start : ℕ → ℕ) (v : Log) (n : Name) → IsName v.setup n
    → IsNameOf (nodes_of (world_of start v)) v.setup.rounds n
named start v n a = subst (λ (z : ℕ). IsNameOf z v.setup.rounds n) (sym (nodes_are start v)) a

module _ {start : ℕ → ℕ} {nodes : ℕ} {v : Log} {counts : List ℕ} {tables : List (List Mark)}
    {waiting : List (List Name)} {handed : List (List (List Name))} {answers : List Bool}
    {messages : List Name}
    (h : IsBookOf start nodes v counts tables waiting handed answers messages) where
  -- the number of a node of the run is small enough to be stored
  pub storable_node : (k : ℕ) → k < v.setup.nodes → k < 16
  storable_node k l = let few = h.lawful.sized.few_nodes in omega (arith, l)

  pub counts_len : length counts ≡ v.setup.nodes
  counts_len = h.book.counted ∙ nodes_are start v

  pub rows_len : length v.rows ≡ v.setup.nodes
  rows_len = h.book.rowed ∙ nodes_are start v

  pub waiting_len : length waiting ≡ v.setup.nodes
  waiting_len = h.waits.sized ∙ nodes_are start v

  pub handed_len : length handed ≡ v.setup.nodes
  handed_len = h.accounts.sized ∙ nodes_are start v

  pub faithful : IsFaithful start v
  faithful = record {
    rowed = rows_len;
    began = λ i l. h.book.began i (one_of start v i l);
    bounded = λ i l. h.book.bounded i (one_of start v i l);
    past = λ i l. h.book.past i (one_of start v i l);
    near = λ i l m. h.book.near i (one_of start v i l) m;
    stated = λ i r l m. h.book.stated i r (one_of start v i l) m;
  }

  pub has_book : HasBook start v
  has_book = record {
    nodes = nodes;
    counts = counts;
    tables = tables;
    waiting = waiting;
    handed = handed;
    answers = answers;
    messages = messages;
    book = h;
  }

  pub count_read : (k x : ℕ) → k < v.setup.nodes → x ≡ get_or counts k x → x ≡ count_of v k
  count_read k x l e = e
      ∙ sym (get_or_default counts k 0 x (let n = counts_len in omega (arith, n)))
      ∙ h.book.count k (one_of start v k l)

  pub waiting_read : (k : ℕ) → k < v.setup.nodes → get_or waiting k [] ≡ waiting_in start v k
  waiting_read k l = h.waits.held k (one_of start v k l)

  pub handed_read : (k : ℕ) → k < v.setup.nodes
      → get_or handed k [] ≡ handed_of (world_of start v) k (history v)
  handed_read k l = h.accounts.handed k (one_of start v k l)

  -- the buffer by events is the buffer by places
  pub buffer_once : (k : ℕ) → IsBuffer (world_of start v) (history v) k (waiting_in start v k)
  buffer_once k = λ n to z l. ap (λ i. count_by (is_name n) (waiting_in start v i)) (sym to)
      ∙ buffer_counts (world_of start v) h.plan (history v) n z l

  pub round_low : (k : ℕ) → k < v.setup.nodes → 0 < round_of v k
  round_low k l = h.book.began k (one_of start v k l)

  pub round_high : (k : ℕ) → k < v.setup.nodes → round_of v k ≤ v.setup.rounds + 1
  round_high k l = h.book.bounded k (one_of start v k l)

  -- the rounds are at most 4,096
  pub rounds_few : v.setup.rounds ≤ 4096
  rounds_few = h.lawful.sized.few_rounds

  -- a mark in the tables
  pub mark_read : (n : Name) (p : ℕ) → IsName v.setup n
      → p ≡ ((n.round - 1) * v.setup.nodes + n.from) * v.setup.nodes + n.to
      → read_at Unsent tables n.copy p ≡ mark_in start v n
  mark_read n p a e =
      let same : p ≡ place_of (world_of start v) n = e
      ∙ ap (λ m. ((n.round - 1) * m + n.from) * m + n.to) (sym (nodes_are start v)) in
      ap (read_at Unsent tables n.copy) same ∙ h.book.mark n (named start v n a)

  -- if a copy number has no table, none of its copies was made
  pub none_made : (n : Name) (k : ℕ) → IsName v.setup n → n.copy ≡ k → (k < length tables → ⊥)
      → mark_in start v n ≡ Unsent
  none_made n k a e none = by (cases_lt k (length tables))
    where
      by : (k < length tables) ⊎ (length tables ≤ k) → mark_in start v n ≡ Unsent
      by (inl there) = absurd (none there)
      by (inr past) = sym (mark_read n _ a refl)
          ∙ ap (λ t. get_or t (((n.round - 1) * v.setup.nodes + n.from) * v.setup.nodes + n.to)
          Unsent) (get_or_past tables n.copy [] (omega arith))

  -- what is in flight has its mark in the tables
  pub flying_in : (n : Name) (p : ℕ) → IsName v.setup n → IsFlying start v n
      → p ≡ ((n.round - 1) * v.setup.nodes + n.from) * v.setup.nodes + n.to
      → HasPlace tables n.copy p
  flying_in n p a fly e = has_place Unsent tables n.copy p (λ none. let is = mark_read n p a e in
      cc)

-- the rows of a view are those of its fields
pub rows_view : {P : Type 0} {s v : Recorded P} → s ≡ v → s.log.rows ≡ v.log.rows
rows_view {P} e = ap (λ (z : Recorded P). z.log.rows) e

-- a read of a node's states gives its row
pub row_read : {A B : Type 0} (rows : List Row) (states : List (Vec (Arc (List Value) A) B)) (k : ℕ)
    (x : Vec (Arc (List Value) A) B) → rows_of states ≡ rows → k < length rows
    → x ≡ get_or states k x → row rows k ≡ states_of x.items
row_read {A} {B} rows states k x e l y =
    let n = length-map states (λ (z : Vec (Arc (List Value) A) B). states_of z.items) in
    let m = ap length e in
    ap (λ z. row z k) (sym e)
    ∙ get_or-map (λ (z : Vec (Arc (List Value) A) B). states_of z.items) states k x []
    (omega arith) ∙ ap (λ (z : Vec (Arc (List Value) A) B). states_of z.items) (sym y)

-- how long a node's row is
pub row_size : {A B : Type 0} (rows : List Row) (states : List (Vec (Arc (List Value) A) B)) (k : ℕ)
    (x : Vec (Arc (List Value) A) B) → rows_of states ≡ rows → k < length rows
    → x ≡ get_or states k x → length (row rows k) ≡ length x.items
row_size rows states k x e l y = ap length (row_read rows states k x e l y)
    ∙ length-map x.items (λ a. arc_value a)

-- a read of the names that wait for a node
pub waits_read : (mails : List Mailed) (k : ℕ) (x : Mailed) → k < length mails
    → x ≡ get_or mails k x → get_or (waits_in mails) k [] ≡ x.waiting
waits_read mails k x l y = get_or-map (λ (z : Mailed). z.waiting) mails k x [] l
    ∙ ap (λ (z : Mailed). z.waiting) (sym y)

pub waits_len : (mails : List Mailed) → length (waits_in mails) ≡ length mails
waits_len mails = length-map mails (λ (z : Mailed). z.waiting)

-- a read of the names that a node's receives handed out
pub lists_read : (mails : List Mailed) (k : ℕ) (x : Mailed) → k < length mails
    → x ≡ get_or mails k x → get_or (handed_in mails) k [] ≡ x.handed
lists_read mails k x l y = get_or-map (λ (z : Mailed). z.handed) mails k x [] l
    ∙ ap (λ (z : Mailed). z.handed) (sym y)

pub lists_len : (mails : List Mailed) → length (handed_in mails) ≡ length mails
lists_len mails = length-map mails (λ (z : Mailed). z.handed)

pub rows_of_len : {A B : Type 0} (states : List (Vec (Arc (List Value) A) B))
    → length (rows_of states) ≡ length states
rows_of_len {A} {B} states =
    length-map states (λ (z : Vec (Arc (List Value) A) B). states_of z.items)

-- the rounds of a view are those of its fields
pub rounds_view : {P : Type 0} {s v : Recorded P} → s ≡ v → s.log.setup.rounds ≡ v.log.setup.rounds
rounds_view {P} e = ap (λ (z : Recorded P). z.log.setup.rounds) e

pub nodes_view : {P : Type 0} {s v : Recorded P} → s ≡ v → s.log.setup.nodes ≡ v.log.setup.nodes
nodes_view {P} e = ap (λ (z : Recorded P). z.log.setup.nodes) e

-- the events of a view, with one more
pub trace_view : {P : Type 0} {s v : Recorded P} (e : Event) (trace : List Event) → s ≡ v
    → trace ≡ s.log.trace ++ e ∷ [] → trace ≡ v.log.trace ++ e ∷ []
trace_view {P} e trace is h = h ∙ ap (λ (z : Recorded P). z.log.trace ++ e ∷ []) is

-- the run of a view, with one event more
pub event_view : {P : Type 0} {s v : Recorded P} (e : Event) (trace : List Event) → s ≡ v
    → trace ≡ s.log.trace ++ e ∷ []
    → record s { log = record s.log { trace = trace } } ≡ record v { log = happened v.log e }
event_view {P} {s} e trace is h = ap (λ t. record s { log = record s.log { trace = t } }) h
    ∙ ap (λ (z : Recorded P). record z { log = happened z.log e }) is
