-- What closing a round leaves of a record.
use Rattle.std.proofs.Common.{◌≡◌, ℕ, suc, ◌+◌, ◌-◌, ◌<◌, ◌≤◌, Bool, true, false, not, is_some}
use Rattle.std.proofs.Common.{List, [], ◌∷◌, ◌++◌, length, get_or, set, Option, Some, None, sym}
use Rattle.std.proofs.Common.{subst, refl, ap, ◌∙◌, arith, if◌then◌else◌}
use Rattle.std.specs.Prelude.{option_map, Result, Ok, Err, OnErr, IfErr, IsErrAnd}
use Rattle.std.specs.Option.{ForSome}
use Rattle.std.proofs.lemmas.Option.{same_Some}
use Rattle.round_lang.specs.declared.value.Value.{Value}
use Rattle.round_meaning.specs.Rounds.{Algorithm, algorithm_of}
use Rattle.step_machine.specs.Sealed.{Frame, held_at}
use Rattle.step_machine.specs.Nodes.{NodeView, IsHeld, IsFrom, algorithm_in, held_now, inbox_of}
use Rattle.run_events.specs.declared.name.Name.{Name}
use Rattle.step_book.specs.declared.mark.Mark.{Mark}
use Rattle.step_book.specs.Trace.{steps}
use Rattle.step_book.specs.World.{earliest}
use Rattle.step_book.specs.History.{state}
use Rattle.step_book.specs.Agreement.{Row, row}
use Rattle.step_book.specs.Log.{Log, Recorded, IsBookOf, IsDue, closed, end_state, world_of}
use Rattle.step_book.specs.Log.{history, round_of, mark_in, state_before}
use Rattle.step_book.specs.Causes.{IsDueIn, EndsAsRecorded}
use Rattle.step_book.specs.Work.{AreCarried, Tag, any_within, heard_from, sent_name, tag_of}
use Rattle.step_book.proofs.Fates.{copy_to}
use Rattle.step_book.proofs.Heard.{heard_is, sender_closed, tagged, ends_with}
use Rattle.step_book.proofs.Keeps.{keeps_close}
use Rattle.step_book.proofs.Reading.{nodes_are, one_of}

-- what holds of the view with other rows holds of the fields with them
pub to_rows : {P : Type 0} {s v : Recorded P} {counts : List ℕ} {tables : List (List Mark)}
    {waiting : List (List Name)} {handed : List (List (List Name))} {answers : List Bool}
    {messages : List Name} {rows : List Row} (start : P → ℕ → ℕ) (nodes : P → ℕ) → s ≡ v
    → IsBookOf (start v.plan) (nodes v.plan) (record v.log { rows = rows }) counts tables waiting
    handed answers messages
    → IsBookOf (start s.plan) (nodes s.plan) (record s.log { rows = rows }) counts tables waiting
    handed answers messages
to_rows {P} {s} {v} {counts} {tables} {waiting} {handed} {answers} {messages} {rows} start nodes e
    h =
    subst (λ (z : Recorded P). IsBookOf (start z.plan) (nodes z.plan)
    (record z.log { rows = rows }) counts tables waiting handed answers messages) (sym e) h

-- the algorithm of a node of the run is the run's
same_algorithm : (n : NodeView) (v : Log) → n.program ≡ v.program → n.setup ≡ v.setup
    → algorithm_in n ≡ algorithm_of v.program v.setup
same_algorithm n v a b = ap (λ p. algorithm_of p n.setup) a ∙ ap (algorithm_of v.program) b

if_some : {A : Type 0} {x y : A} (c : Bool) → (c ≡ true → x ≡ y)
    → ◌≡◌ {A = Option A} (if c then Some x else None) (if c then Some y else None)
if_some true h = ap Some (h refl)
if_some false h = refl

-- the run of a view, with one round closed
pub closed_view : {P : Type 0} {s v : Recorded P} (n : NodeView) (rows : List Row) → s ≡ v
    → rows ≡ (closed v.log n).rows
    → record s { log = record s.log { rows = rows } } ≡ record v { log = closed v.log n }
closed_view {P} {s} {v} n rows e h =
    ap (λ (z : Recorded P). record z { log = record z.log { rows = rows } }) e
    ∙ ap (λ r. record v { log = record v.log { rows = r } }) h

-- the run of a view, with its own rows
pub same_view : {P : Type 0} {s v : Recorded P} (rows : List Row) → s ≡ v → rows ≡ s.log.rows
    → record s { log = record s.log { rows = rows } } ≡ v
same_view {P} {s} rows e h = ap (λ r. record s { log = record s.log { rows = r } }) h ∙ e

-- the rows of a view, with one grown
pub rows_closed : {P : Type 0} {s v : Recorded P} (n : NodeView) (k : ℕ) (rows : List Row) → s ≡ v
    → k ≡ n.me → rows ≡ set s.log.rows k (row s.log.rows k ++ end_state n ∷ [])
    → rows ≡ (closed v.log n).rows
rows_closed {P} {s} n k rows e a h =
    h ∙ ap (λ x. set s.log.rows x (row s.log.rows x ++ end_state n ∷ [])) a
    ∙ ap (λ (z : Recorded P). set z.log.rows n.me (row z.log.rows n.me ++ end_state n ∷ [])) e

-- the state that is recorded is the one that the node ended its round with
pub ended_grown : (n : NodeView) (s : List Value) (old new : Row) → n.next ≡ Some (end_state n)
    → Some s ≡ n.next → new ≡ old ++ s ∷ [] → new ≡ old ++ end_state n ∷ []
ended_grown n s old new is e h = h ∙ ap (λ x. old ++ x ∷ []) (same_Some s (end_state n) (e ∙ is))

-- the old state and the frames of a finished node, as they are compared
abbrev pub IsMet : (ℕ → ℕ) → Log → ℕ → ℕ → List Value → List (Option Frame) → Type 0
IsMet start v r k old held = (state_before v k r ≡ old)
    × AreCarried (world_of start v) (history v) k (r - 1) held

met_to : (start : ℕ → ℕ) (v : Log) (n : NodeView) (r k : ℕ) (old : List Value)
    (held : List (Option Frame)) → r ≡ n.round → k ≡ n.me → old ≡ n.state → held ≡ held_now n
    → IsMet start v r k old held → EndsAsRecorded start v n
met_to start v n r k old held a b d e h =
    let P : ℕ → Type 0 = λ x. IsMet start v x k old held in
    let Q : ℕ → Type 0 = λ x. IsMet start v n.round x old held in
    let R : List Value → Type 0 = λ x. IsMet start v n.round n.me x held in
    let S : List (Option Frame) → Type 0 = λ x. IsMet start v n.round n.me n.state x in
    subst S e (subst R d (subst Q b (subst P a h)))

met_from : (start : ℕ → ℕ) (v : Log) (n : NodeView) (r k : ℕ) (old : List Value)
    (held : List (Option Frame)) → r ≡ n.round → k ≡ n.me → old ≡ n.state → held ≡ held_now n
    → EndsAsRecorded start v n → IsMet start v r k old held
met_from start v n r k old held a b d e h =
    let P : ℕ → Type 0 = λ x. IsMet start v x k old held in
    let Q : ℕ → Type 0 = λ x. IsMet start v n.round x old held in
    let R : List Value → Type 0 = λ x. IsMet start v n.round n.me x held in
    let S : List (Option Frame) → Type 0 = λ x. IsMet start v n.round n.me n.state x in
    subst P (sym a) (subst Q (sym b) (subst R (sym d) (subst S (sym e) h)))

-- what the tests before a close say of the node
pub due_in : (start : ℕ → ℕ) (v : Log) (n : NodeView) (k r : ℕ) (due : Bool) → k ≡ n.me
    → (due ≡ true → IsDue start v k) → due ≡ true → r ≡ round_of v k → n.round ≡ r
    → IsDueIn start v n
due_in start v n k r due a is on b d =
    let P : ℕ → Type 0 = λ x. IsDue start v x in
    (subst P a (is on), ap (round_of v) (sym a) ∙ sym b ∙ sym d)

pub known_in : (start : ℕ → ℕ) (v : Log) (n : NodeView) (k : ℕ) (old : List Value)
    (held : List (Option Frame)) (known : Bool) → IsDueIn start v n → k ≡ n.me → old ≡ n.state
    → held ≡ held_now n → (known ≡ true → IsMet start v (round_of v k) k old held)
    × (IsMet start v (round_of v k) k old held → known ≡ true)
    → (known ≡ true → EndsAsRecorded start v n) × (EndsAsRecorded start v n → known ≡ true)
known_in start v n k old held known due a b d is =
    let round : round_of v k ≡ n.round = ap (round_of v) a ∙ due.1 in (
      λ e. met_to start v n (round_of v k) k old held round a b d (is.0 e),
      λ e. is.1 (met_from start v n (round_of v k) k old held round a b d e),
    )

-- what holds anyway holds of an error
pub on_err : {A E : Type 0} {P : Type 0} (r : Result A E) → P → OnErr r P
on_err (Ok x) h = tt
on_err (Err e) h = h

-- what holds of the error that is given
pub err_given : {A E : Type 0} (r : Result A E) (x : E) (P : E → Type 0) → IsErrAnd r (λ e. e ≡ x)
    → P x → IfErr r P
err_given (Ok y) x P e h = tt
err_given (Err y) x P e h = subst P (sym e) h

-- no frame, answers by its tag
pub none_iff : (o : Option Frame) (b : Bool) → is_some o ≡ not b
    → (b ≡ true → option_map tag_of o ≡ None) × (option_map tag_of o ≡ None → b ≡ true)
none_iff None true e = (λ x. refl, λ x. refl)
none_iff None false e = cc
none_iff (Some f) true e = cc
none_iff (Some f) false e = (λ x. cc, λ x. cc)

module _ {start : ℕ → ℕ} {nodes : ℕ} {v : Log} {counts : List ℕ} {tables : List (List Mark)}
    {waiting : List (List Name)} {handed : List (List (List Name))} {answers : List Bool}
    {messages : List Name}
    (h : IsBookOf start nodes v counts tables waiting handed answers messages) where
  -- rows that stay
  pub same_rows : (rows : List Row) → rows ≡ v.rows
      → IsBookOf start nodes (record v { rows = rows }) counts tables waiting handed answers
      messages
  same_rows rows e = record {
    lawful = h.lawful;
    sized = h.sized;
    plan = h.plan;
    book = rw e h.book;
    waits = h.waits;
    accounts = h.accounts;
    serials = h.serials;
  }

  -- one of the copies was released in time to be carried to a round
  abbrev within : ℕ → ℕ → ℕ → Bool
  within i j r = any_within (λ k. mark_in start v (copy_to j i r k)) (start (earliest r))
      (start (r + 1))

  -- the tag of what was carried to a round
  abbrev heard_at : ℕ → ℕ → ℕ → Option Tag
  heard_at i j r = if within i j r then Some
      (record { name = sent_name j i r; state = state_before v j r }) else None

  -- what was carried to a due round, by the marks
  heard_read : (i j : ℕ) → i < v.setup.nodes → j < v.setup.nodes → IsDue start v i
      → heard_from (world_of start v) (history v) i (round_of v i - 1) j
      ≡ heard_at i j (round_of v i)
  heard_read i j l m due =
      let w = world_of start v in
      let t = history v in
      let low = h.book.began i (one_of start v i l) in
      let few = due.0 in
      let q = round_of v i - 1 in
      let r : suc q ≡ round_of v i = omega arith in
      let less : suc q - 1 ≡ q = omega arith in
      let late : start (suc q + 1) ≤ steps i t = let d = due.1 in
      let end = ap (λ x. start (x + 1)) r in omega arith in
      let known : within i j (suc q) ≡ true
      → ◌≡◌ {A = Tag} (tagged j i q (state w t q j))
      (record { name = sent_name j i (suc q); state = state_before v j (suc q) }) =
      λ c.
      let closed = sender_closed w h.plan t counts v.rows tables j i q (start (earliest (suc q)))
      (start (suc q + 1)) (one_of start v j m) (omega arith) c h.book in
      ap (λ x. record { name = sent_name j i (suc q); state = x })
      (sym (h.book.stated j q (one_of start v j m) closed)
      ∙ ap (λ x. get_or (row v.rows j) x []) (sym less)) in
      heard_is w h.plan t i q j (omega arith) late
      ∙ if_some (within i j (suc q)) known
      ∙ ap (heard_at i j) r

  -- the same by what the calls answer
  pub heard_by : (i j r first end : ℕ) (b : Bool) → i < v.setup.nodes → j < v.setup.nodes
      → IsDue start v i → r ≡ round_of v i → first ≡ start (earliest r) → end ≡ start (r + 1)
      → any_within (λ k. mark_in start v (copy_to j i r k)) first end ≡ b
      → heard_from (world_of start v) (history v) i (round_of v i - 1) j
      ≡ (if b then Some (record { name = sent_name j i r; state = state_before v j r }) else None)
  heard_by i j r first end b l k due e x y is =
      heard_read i j l k due
      ∙ ap (heard_at i j) (sym e)
      ∙ ap (λ (c : Bool). if c then Some
      (record { name = sent_name j i r; state = state_before v j r }) else None)
      (within_by i j r first end b x y is)
    where
      within_by : (i j r first end : ℕ) (b : Bool) → first ≡ start (earliest r)
          → end ≡ start (r + 1) → any_within (λ k. mark_in start v (copy_to j i r k)) first end ≡ b
          → within i j r ≡ b
      within_by i j r first end b x y is =
          ap (λ z. any_within (λ k. mark_in start v (copy_to j i r k)) z (start (r + 1))) (sym x)
          ∙ ap (any_within (λ k. mark_in start v (copy_to j i r k)) first) (sym y) ∙ is

  -- the row of the sender of what was carried is long enough
  pub sender_by : (i j r first end : ℕ) → i < v.setup.nodes → j < v.setup.nodes → IsDue start v i
      → r ≡ round_of v i → any_within (λ k. mark_in start v (copy_to j i r k)) first end ≡ true
      → r - 1 < round_of v j
  sender_by i j r first end l k due e is =
      let low = h.book.began i (one_of start v i l) in
      let few = due.0 in
      let q : suc (r - 1) ≡ r = omega arith in
      sender_closed (world_of start v) h.plan (history v) counts v.rows tables j i (r - 1) first end
      (one_of start v j k) (omega arith)
      (ap (λ x. any_within (λ c. mark_in start v (copy_to j i x c)) first end) q ∙ is) h.book

  -- what a node of the run finished from its recorded state with what was carried to it is the
  -- state of the run in rounds
  ended_is : (n : NodeView) → n.me < v.setup.nodes → n.program ≡ v.program → n.setup ≡ v.setup
      → length (held_now n) ≡ n.setup.nodes
      → IsHeld (algorithm_in n) n.setup.nodes n.me n.round (held_now n) → IsDueIn start v n
      → EndsAsRecorded start v n
      → end_state n ≡ state (world_of start v) (history v) (round_of v n.me) n.me
  ended_is n l p s size held due known =
      let w = world_of start v in
      let t = history v in
      let low = h.book.began n.me (one_of start v n.me l) in
      let round_is = due.1 in
      let q = n.round - 1 in
      let r : n.round ≡ suc q = omega arith in
      let same = same_algorithm n v p s in
      let setup_nodes : n.setup.nodes ≡ v.setup.nodes = ap (λ x. x.nodes) s in
      let m = nodes_are start v in
      let own : n.state ≡ state w t q n.me = sym known.0
      ∙ h.book.stated n.me q (one_of start v n.me l) (omega arith) in
      let P : Algorithm → Type 0 = λ a. (j : ℕ) → j < n.setup.nodes
      → ForSome (held_at (held_now n) j) (IsFrom a j n.me n.round) in
      let Q : ℕ → Type 0 = λ x. (j : ℕ) → j < n.setup.nodes
      → ForSome (held_at (held_now n) j) (IsFrom w.algorithm j n.me x) in
      let from = subst Q r (subst P same held.each) in
      let end : end_state n ≡ w.algorithm.end (suc q) n.me (inbox_of (held_now n)) n.state =
      ap (λ a. a.end n.round n.me (inbox_of (held_now n)) n.state) same
      ∙ ap (λ x. w.algorithm.end x n.me (inbox_of (held_now n)) n.state) r in
      ends_with w t n.me q n.state (end_state n) (held_now n) own (size ∙ setup_nodes
      ∙ sym m) known.1 (λ j b. from j (omega arith)) end
      ∙ ap (λ x. state w t x n.me) (sym r ∙ sym round_is)

  pub close : (n : NodeView) (rows : List Row) → n.me < v.setup.nodes → n.program ≡ v.program
      → n.setup ≡ v.setup → length (held_now n) ≡ n.setup.nodes
      → IsHeld (algorithm_in n) n.setup.nodes n.me n.round (held_now n) → IsDueIn start v n
      → EndsAsRecorded start v n → rows ≡ (closed v n).rows
      → IsBookOf start nodes (record v { rows = rows }) counts tables waiting handed answers
      messages
  close n rows l p s size held due known e = record {
    lawful = h.lawful;
    sized = h.sized;
    plan = h.plan;
    book = rw e (keeps_close (world_of start v) h.plan (history v) counts v.rows tables n.me
        (end_state n) (one_of start v n.me l) due.0.0 due.0.1
        (ended_is n l p s size held due known) h.book);
    waits = h.waits;
    accounts = h.accounts;
    serials = h.serials;
  }
