-- What each event leaves of a record.
use Rattle.std.proofs.Common.{◌≡◌, ℕ, suc, ◌+◌, ◌-◌, ◌*◌, ◌<◌, ◌≤◌, Bool, true, false, leb, List}
use Rattle.std.proofs.Common.{[], ◌∷◌, ◌++◌, length, get_or, set, sym, subst, refl, ap}
use Rattle.std.proofs.Common.{if◌then◌else◌, ◌∙◌, arith, ◌⊎◌, inl, inr}
use Rattle.std.specs.Prelude.{reverse}
use Rattle.std.proofs.lemmas.Bool.{and_parts, cases_lt, lt-leb, leb-true}
use Rattle.std.proofs.lemmas.List.{reverse-append, length-reverse}
use Rattle.round_meaning.specs.Rounds.{algorithm_of}
use Rattle.run_events.specs.Names.{original}
use Rattle.step_machine.specs.Sealed.{Ready, IsPrepared}
use Rattle.run_events.specs.declared.event.Event.{Event}
use Rattle.run_events.specs.declared.event.Event.TheVariants.{Step, Release, Drop, Copy}
use Rattle.run_events.specs.declared.name.Name.{Name}
use Rattle.step_book.specs.declared.mark.Mark.{Mark}
use Rattle.step_book.specs.declared.mark.Mark.TheVariants.{Unsent, Silent, Flying, Released, Lost}
use Rattle.step_book.specs.World.{World, nodes_of, is_receive}
use Rattle.step_book.specs.Trace.{steps}
use Rattle.step_book.specs.History.{arrival, copied, dropped, is_copied, is_flying, is_unsent}
use Rattle.step_book.specs.History.{counted, let_go, message, spoken, state}
use Rattle.step_book.specs.Agreement.{Row, place_of, Agrees, Waits, Accounts}
use Rattle.step_book.specs.Tables.{Puts, SameTables, read_at}
use Rattle.step_book.specs.Log.{CanCopy, Log, Recorded, IsBookOf, IsDue, IsSlot, IsFlying, world_of}
use Rattle.step_book.specs.Log.{history, round_of, count_of, mark_in}
use Rattle.step_book.specs.Names.{IsName}
use Rattle.step_book.specs.Serials.{AreSent, sends}
use Rattle.step_book.specs.Causes.{IsSendFit, IsReceiveFit}
use Rattle.step_book.proofs.Plans.{is_receive_at}
use Rattle.step_book.proofs.Places.{steps_le}
use Rattle.step_book.proofs.Keeps.{copied_other, dropped_other, keeps_idle, keeps_network}
use Rattle.step_book.proofs.Keeps.{keeps_receive, keeps_send, receive_no_slot, released_other}
use Rattle.step_book.proofs.Keeps.{round_same, idle_no_slot}
use Rattle.step_book.proofs.Kept.{mark_copy, mark_drop, mark_release}
use Rattle.step_book.proofs.WaitsKept.{idle_is_no_receive, waits_late, waits_quiet, waits_receive}
use Rattle.step_book.proofs.WaitsKept.{waits_release, waits_step}
use Rattle.step_book.proofs.AccountsKept.{accounts_answer, accounts_receive, accounts_step}
use Rattle.step_book.proofs.Serials.{no_send, quiet, spoken_sent}
use Rattle.step_book.proofs.Tables.{puts_same}
use Rattle.step_book.proofs.Reading.{named, nodes_are, one_of}

-- what holds of the view with other events holds of the fields with them
pub to_fields : {P : Type 0} {s v : Recorded P} {counts : List ℕ} {tables : List (List Mark)}
    {waiting : List (List Name)} {handed : List (List (List Name))} {answers : List Bool}
    {messages : List Name} {trace : List Event} (start : P → ℕ → ℕ) (nodes : P → ℕ) → s ≡ v
    → IsBookOf (start v.plan) (nodes v.plan) (record v.log { trace = trace }) counts tables waiting
    handed answers messages
    → IsBookOf (start s.plan) (nodes s.plan) (record s.log { trace = trace }) counts tables waiting
    handed answers messages
to_fields {P} {s} {v} {counts} {tables} {waiting} {handed} {answers} {messages} {trace} start nodes
    e h =
    subst (λ (z : Recorded P). IsBookOf (start z.plan) (nodes z.plan)
    (record z.log { trace = trace }) counts tables waiting handed answers messages) (sym e) h

-- one event more stands first in the history
pub pushed : (xs : List Event) (x : Event) (ys : List Event) → ys ≡ xs ++ x ∷ []
    → reverse ys ≡ x ∷ reverse xs
pushed xs x ys h = ap reverse h ∙ reverse-append xs (x ∷ [])

same_marks : (w : World) (t : List Event) (counts : List ℕ) (rows : List Row)
    (old new : List (List Mark)) → SameTables Unsent old new → Agrees w t counts rows old
    → Agrees w t counts rows new
same_marks w t counts rows old new e a = record {
  counted = a.counted;
  count = a.count;
  rowed = a.rowed;
  began = a.began;
  bounded = a.bounded;
  past = a.past;
  near = a.near;
  stated = a.stated;
  mark = λ n x. e n.copy (place_of w n) ∙ a.mark n x;
}

-- what isn't in flight stays as it is
pub let_go_idle : (x : ℕ) (m : Mark) → (m ≡ Flying → ⊥) → let_go x m ≡ m
let_go_idle x Unsent e = refl
let_go_idle x Silent e = refl
let_go_idle x Flying e = absurd (e refl)
let_go_idle x (Released y) e = refl
let_go_idle x Lost e = refl

pub dropped_idle : (m : Mark) → (m ≡ Flying → ⊥) → dropped m ≡ m
dropped_idle Unsent e = refl
dropped_idle Silent e = refl
dropped_idle Flying e = absurd (e refl)
dropped_idle (Released y) e = refl
dropped_idle Lost e = refl

pub arrival_idle : (n : Name) (m : Mark) → (m ≡ Flying → ⊥) → arrival n m ≡ []
arrival_idle n Unsent e = refl
arrival_idle n Silent e = refl
arrival_idle n Flying e = absurd (e refl)
arrival_idle n (Released y) e = refl
arrival_idle n Lost e = refl

idle_flag : (m : Mark) → (m ≡ Flying → ⊥) → is_flying m ≡ false
idle_flag Unsent e = refl
idle_flag Silent e = refl
idle_flag Flying e = absurd (e refl)
idle_flag (Released y) e = refl
idle_flag Lost e = refl

flying_flag : (m : Mark) → is_flying m ≡ true → m ≡ Flying
flying_flag Unsent e = cc
flying_flag Silent e = cc
flying_flag Flying e = refl
flying_flag (Released y) e = cc
flying_flag Lost e = cc

unsent_flag : (m : Mark) → is_unsent m ≡ true → m ≡ Unsent
unsent_flag Unsent e = refl
unsent_flag Silent e = cc
unsent_flag Flying e = cc
unsent_flag (Released y) e = cc
unsent_flag Lost e = cc

-- a copy is made of what is in flight alone, and once
pub copied_now : (first m : Mark) → first ≡ Flying → m ≡ Unsent → is_copied first m ≡ true
copied_now first m a b = rw (a, b) refl

copied_idle_by : (first m : Mark) (b : Bool) → is_copied first m ≡ b
    → ((first ≡ Flying) × (m ≡ Unsent) → ⊥) → b ≡ false
copied_idle_by first m true h off =
    let both : (is_flying first ≡ true) × (is_unsent m ≡ true) = and_parts _ _ h in
    absurd (off (flying_flag first both.0, unsent_flag m both.1))
copied_idle_by first m false h off = refl

copied_off : (first m : Mark) → ((first ≡ Flying) × (m ≡ Unsent) → ⊥) → is_copied first m ≡ false
copied_off first m off = copied_idle_by first m (is_copied first m) refl off

pub copied_idle : (first m : Mark) → ((first ≡ Flying) × (m ≡ Unsent) → ⊥) → copied first m ≡ m
copied_idle first m off = rw (copied_off first m off) refl

module _ {start : ℕ → ℕ} {nodes : ℕ} {v : Log} {counts : List ℕ} {tables : List (List Mark)}
    {waiting : List (List Name)} {handed : List (List (List Name))} {answers : List Bool}
    {messages : List Name}
    (h : IsBookOf start nodes v counts tables waiting handed answers messages) where
  -- nothing was recorded
  pub kept : (trace : List Event) (st : List ℕ) (mk : List (List Mark)) (wt : List (List Name))
      (hd : List (List (List Name))) (tl : List Bool) (ms : List Name) → trace ≡ v.trace
      → st ≡ counts → SameTables Unsent tables mk → wt ≡ waiting → hd ≡ handed → tl ≡ answers
      → ms ≡ messages → IsBookOf start nodes (record v { trace = trace }) st mk wt hd tl ms
  kept trace st mk wt hd tl ms a b c d e f g = record {
    lawful = h.lawful;
    sized = h.sized;
    plan = h.plan;
    book = rw (a, b) (same_marks (world_of start v) (history v) counts v.rows tables mk c h.book);
    waits = rw (a, d) h.waits;
    accounts = rw (a, e, f) h.accounts;
    serials = rw (a, g) h.serials;
  }

  -- an event was recorded
  noted : (e : Event) (trace : List Event) (st : List ℕ) (mk : List (List Mark))
      (wt : List (List Name)) (hd : List (List (List Name))) (tl : List Bool) (ms : List Name)
      → trace ≡ v.trace ++ e ∷ [] → Agrees (world_of start v) (e ∷ history v) st v.rows mk
      → Waits (world_of start v) (e ∷ history v) wt
      → Accounts (world_of start v) (e ∷ history v) hd tl
      → AreSent (world_of start v) (e ∷ history v) ms
      → IsBookOf start nodes (record v { trace = trace }) st mk wt hd tl ms
  noted e trace st mk wt hd tl ms n a b c d =
      let is : reverse trace ≡ e ∷ history v = pushed v.trace e trace n in
      record {
        lawful = h.lawful;
        sized = h.sized;
        plan = h.plan;
        book = rw is a;
        waits = rw is b;
        accounts = rw is c;
        serials = rw is d;
      }

  -- what was sent stays
  quietly : (e : Event) → sends (world_of start v) e (history v) ≡ false
      → AreSent (world_of start v) (e ∷ history v) messages
  quietly e none = quiet (world_of start v) h.plan e (history v) messages none h.serials

  -- no count passes the length of the trace
  pub count_le : (k : ℕ) → k < v.setup.nodes → get_or counts k 0 ≤ length v.trace
  count_le k l = omega (
    arith,
    h.book.count k (one_of start v k l),
    steps_le k (history v),
    length-reverse v.trace,
  )

  next_count : (k : ℕ) → k < v.setup.nodes → get_or counts k 0 + 1 ≡ steps k (history v) + 1
  next_count k l = ap (λ z. z + 1) (h.book.count k (one_of start v k l))

  pub count_past : (k : ℕ) → k < v.setup.nodes → start (round_of v k) ≤ count_of v k
  count_past k l = h.book.past k (one_of start v k l)

  -- a node that isn't due is before the end of its round
  pub early : (k : ℕ) → round_of v k ≤ v.setup.rounds → (IsDue start v k → ⊥)
      → count_of v k < start (round_of v k + 1)
  early k l open_ = early_by (cases_lt _ _)
    where
      early_by : (count_of v k < start (round_of v k + 1))
          ⊎ (start (round_of v k + 1) ≤ count_of v k) → count_of v k < start (round_of v k + 1)
      early_by (inl low) = low
      early_by (inr high) = absurd (open_ (l, high))

  -- after the last round
  pub count_idle : (k : ℕ) → k < v.setup.nodes → v.setup.rounds < round_of v k
      → start (v.setup.rounds + 1) ≤ count_of v k
  count_idle k l b =
      let high = h.book.bounded k (one_of start v k l) in
      let n : round_of v k ≡ v.setup.rounds + 1 = omega arith in
      let at = ap start n in
      let past = count_past k l in
      omega arith

  -- ---- a step after the last round

  -- it is no receive
  pub idle_none : (k : ℕ) → k < v.setup.nodes → v.setup.rounds < round_of v k
      → is_receive (world_of start v) (count_of v k) ≡ false
  idle_none k l late = idle_is_no_receive (world_of start v) h.plan (count_of v k)
      (count_idle k l late)

  pub idle : (k : ℕ) (trace : List Event) (st : List ℕ) → k < v.setup.nodes
      → v.setup.rounds < round_of v k → trace ≡ v.trace ++ Step k ∷ []
      → st ≡ set counts k (get_or counts k 0 + 1)
      → IsBookOf start nodes (record v { trace = trace }) st tables waiting handed answers messages
  idle k trace st l b e f =
      let w = world_of start v in
      let high = h.book.bounded k (one_of start v k l) in
      let n : round_of v k ≡ v.setup.rounds + 1 = omega arith in
      let none = idle_is_no_receive w h.plan (count_of v k) (count_idle k l b) in
      noted (Step k) trace st tables waiting handed answers messages e
      (rw f (keeps_idle w h.plan (history v) counts v.rows tables k _ (one_of start v k l)
      (next_count k l) n h.book))
      (waits_step w (history v) waiting k none h.waits)
      (accounts_step w (history v) handed answers k none h.accounts)
      (quietly (Step k)
      (no_send w (history v) k
      (λ r i low to at. idle_no_slot w h.plan r i (count_of v k) (omega arith) to
      (count_idle k l b) at)))

  -- ---- a receive

  -- where a receive stands in its round
  pub receive_place : (k : ℕ) → k < v.setup.nodes → IsReceiveFit start v k
      → (round_of v k ≤ v.setup.rounds) × (start (round_of v k) + v.setup.nodes ≤ count_of v k)
      × (count_of v k < start (round_of v k + 1))
  receive_place k l fit = by (cases_lt _ _)
    where
      by : (v.setup.rounds < round_of v k) ⊎ (round_of v k ≤ v.setup.rounds)
          → (round_of v k ≤ v.setup.rounds) × (start (round_of v k) + v.setup.nodes ≤ count_of v k)
          × (count_of v k < start (round_of v k + 1))
      by (inl late) =
          let none = idle_is_no_receive (world_of start v) h.plan (count_of v k)
          (count_idle k l late) in
          let yes = fit.1 in
          absurd cc
      by (inr within) =
          let w = world_of start v in
          let soon = early k within fit.0 in
          let is = is_receive_at w h.plan (round_of v k) (count_of v k)
          (h.book.began k (one_of start v k l)) within (count_past k l) soon in
          let n = nodes_are start v in
          let low = leb-true (start (round_of v k) + nodes_of w) (count_of v k) (sym is ∙ fit.1) in
          (within, omega arith, soon)

  pub received : (k : ℕ) (trace : List Event) (st : List ℕ) (wt : List (List Name))
      (hd : List (List (List Name))) (b : List Name) → k < v.setup.nodes → IsReceiveFit start v k
      → b ≡ get_or waiting k [] → trace ≡ v.trace ++ Step k ∷ []
      → st ≡ set counts k (get_or counts k 0 + 1) → wt ≡ set waiting k []
      → hd ≡ set handed k (get_or handed k [] ++ b ∷ [])
      → IsBookOf start nodes (record v { trace = trace }) st tables wt hd answers messages
  received k trace st wt hd b l fit x e f g i =
      let w = world_of start v in
      let m = one_of start v k l in
      let at = receive_place k l fit in
      let n = nodes_are start v in
      let low : start (round_of v k) + nodes_of w ≤ count_of v k = let a = at.1 in omega arith in
      noted (Step k) trace st tables wt hd answers messages e
      (rw f (keeps_receive w h.plan (history v) counts v.rows tables k _ m
      (next_count k l) at.0 low at.2 h.book))
      (rw g (waits_receive w (history v) waiting k m fit.1 h.waits))
      (rw i (accounts_receive w (history v) handed answers k b m fit.1 (x
      ∙ h.waits.held k m) h.accounts))
      (quietly (Step k)
      (no_send w (history v) k
      (λ r j inside to now. receive_no_slot w h.plan (round_of v k) r j (count_of v k)
      (h.book.began k m) to low at.2 now)))

  -- ---- a send

  -- a slot that is the node's next step is of its round
  pub send_round : (n : Name) → IsName v.setup n → (IsDue start v n.from → ⊥) → IsSlot start v n
      → round_of v n.from ≡ n.round
  send_round n a open_ slot = by (cases_lt _ _)
    where
      by : (v.setup.rounds < round_of v n.from) ⊎ (round_of v n.from ≤ v.setup.rounds)
          → round_of v n.from ≡ n.round
      by (inl late) =
          let first = a.first in
          let last = a.last in
          let e : n.round ≡ suc (n.round - 1) = omega arith in
          let at : count_of v n.from ≡ start (suc (n.round - 1)) + n.to = slot
          ∙ ap (λ r. start r + n.to) e in
          absurd (idle_no_slot (world_of start v) h.plan (n.round - 1) n.to (count_of v n.from)
          (omega arith) (one_of start v n.to a.to) (count_idle n.from a.from late) at)
      by (inr within) =
          let first = a.first in
          let e : n.round ≡ suc (n.round - 1) = omega arith in
          let at : count_of v n.from ≡ start (suc (n.round - 1)) + n.to = slot
          ∙ ap (λ r. start r + n.to) e in
          round_same (world_of start v) h.plan (round_of v n.from) (n.round - 1) n.to
          (count_of v n.from) (h.book.began n.from (one_of start v n.from a.from))
          (one_of start v n.to a.to) (count_past n.from a.from) (early n.from within open_) at
          ∙ sym e

  -- no slot comes after the last round
  pub no_slot : (n : Name) → IsName v.setup n → v.setup.rounds < round_of v n.from
      → IsSlot start v n → ⊥
  no_slot n a late slot =
      let first = a.first in
      let last = a.last in
      let e : n.round ≡ suc (n.round - 1) = omega arith in
      let at : count_of v n.from ≡ start (suc (n.round - 1)) + n.to = slot
      ∙ ap (λ r. start r + n.to) e in
      idle_no_slot (world_of start v) h.plan (n.round - 1) n.to (count_of v n.from) (omega arith)
      (one_of start v n.to a.to) (count_idle n.from a.from late) at

  -- a slot is no receive
  pub slot_no_receive : (n : Name) → IsName v.setup n → IsSlot start v n
      → is_receive (world_of start v) (count_of v n.from) ≡ false
  slot_no_receive n a slot =
      let w = world_of start v in
      let to = one_of start v n.to a.to in
      let long = h.plan.next n.round a.first in
      is_receive_at w h.plan n.round (count_of v n.from) a.first a.last (omega arith) (omega arith)
      ∙ lt-leb (start n.round + nodes_of w) (count_of v n.from) (omega arith)

  -- what is sent is the message of the run in rounds
  pub message_is : (p : Ready) → IsName v.setup p.name
      → IsPrepared (algorithm_of v.program v.setup) p → IsSendFit start v p
      → p.message ≡ message (world_of start v) (history v) p.name
  message_is p a work fit =
      let w = world_of start v in
      let n = p.name in
      let first = a.first in
      let round_is = send_round n a fit.0 fit.1 in
      let own : p.state ≡ state w (history v) (n.round - 1) n.from =
      sym fit.2 ∙ h.book.stated n.from (n.round - 1) (one_of start v n.from a.from) (omega arith) in
      sym work.says ∙ ap (λ x. w.algorithm.send n.round x n.from n.to) own

  pub sent : (p : Ready) (trace : List Event) (st : List ℕ) (mk : List (List Mark)) (place : ℕ)
      (x : Mark) (ms : List Name) → IsName v.setup p.name → p.name.copy ≡ 0
      → IsPrepared (algorithm_of v.program v.setup) p → IsSendFit start v p
      → place ≡ ((p.name.round - 1) * v.setup.nodes + p.name.from) * v.setup.nodes + p.name.to
      → x ≡ spoken p.message → trace ≡ v.trace ++ Step p.name.from ∷ []
      → st ≡ set counts p.name.from (get_or counts p.name.from 0 + 1)
      → Puts Unsent tables mk 0 place x → ms ≡ messages ++ arrival p.name x
      → IsBookOf start nodes (record v { trace = trace }) st mk waiting handed answers ms
  sent p trace st mk place x ms a c work fit at is e f g d =
      let w = world_of start v in
      let n = p.name in
      let there : place ≡ place_of w n = at
      ∙ ap (λ m. ((n.round - 1) * m + n.from) * m + n.to) (sym (nodes_are start v)) in
      let none = slot_no_receive n a fit.1 in
      let now : x ≡ spoken (message w (history v) n) = is ∙ ap spoken (message_is p a work fit) in
      let puts : Puts Unsent tables mk n.copy (place_of w n) x =
      subst (λ (z : ℕ). Puts Unsent tables mk z (place_of w n) x) (sym c)
      (subst (λ (z : ℕ). Puts Unsent tables mk 0 z x) there g) in
      noted (Step n.from) trace st mk waiting handed answers ms e
      (rw f (keeps_send w h.plan (history v) counts v.rows tables mk n _ x (named start v n a) c
      (next_count n.from a.from) (send_round n a fit.0 fit.1) fit.1 now puts h.book))
      (waits_step w (history v) waiting n.from none h.waits)
      (accounts_step w (history v) handed answers n.from none h.accounts)
      (rw (d, now) (spoken_sent w h.plan n (history v) messages
      (named start v n a) c fit.1 h.serials))

  -- ---- an event of the network

  -- a place of the table, by the setup's nodes
  place_in : (n : Name) (place : ℕ)
      → place ≡ ((n.round - 1) * v.setup.nodes + n.from) * v.setup.nodes + n.to
      → place ≡ place_of (world_of start v) n
  place_in n place at = at
      ∙ ap (λ m. ((n.round - 1) * m + n.from) * m + n.to) (sym (nodes_are start v))

  -- the mark in the table
  read : (n : Name) → IsName v.setup n
      → read_at Unsent tables n.copy (place_of (world_of start v) n) ≡ mark_in start v n
  read n a = h.book.mark n (named start v n a)

  -- a copy in flight goes to those that wait
  pub moved : (n : Name) (trace : List Event) (mk : List (List Mark)) (place : ℕ)
      (wt : List (List Name)) (hd : List (List (List Name))) (tl : List Bool) → IsName v.setup n
      → IsFlying start v n → place ≡ ((n.round - 1) * v.setup.nodes + n.from) * v.setup.nodes + n.to
      → trace ≡ v.trace ++ Release n ∷ []
      → Puts Unsent tables mk n.copy place (Released (counted (world_of start v) (count_of v n.to)))
      → wt ≡ set waiting n.to (get_or waiting n.to [] ++ n ∷ []) → hd ≡ handed
      → tl ≡ answers ++ true ∷ []
      → IsBookOf start nodes (record v { trace = trace }) counts mk wt hd tl messages
  moved n trace mk place wt hd tl a fly at e f g d i =
      let w = world_of start v in
      let arrives : arrival n (mark_in start v n) ≡ n ∷ [] = ap (arrival n) fly in
      noted (Release n) trace counts mk wt hd tl messages e
      (keeps_network w h.plan (Release n) (history v) counts v.rows tables mk n
      (Released (counted w (count_of v n.to))) (named start v n a) (λ i. refl)
      (sym (mark_release w h.plan (history v) n a.first a.last
      ∙ ap (let_go (counted w (count_of v n.to))) fly))
      (λ m b apart. released_other w h.plan (history v) n m b.first b.last apart)
      (subst (λ (z : ℕ). Puts Unsent tables mk n.copy z (Released (counted w (count_of v n.to))))
      (place_in n place at) f) h.book)
      (rw g (subst (λ (x : List Name). Waits w (Release n ∷ history v)
      (set waiting n.to (get_or waiting n.to [] ++ x))) arrives
      (waits_release w (history v) waiting n (one_of start v n.to a.to) h.waits)))
      (rw d (accounts_answer w (history v) handed answers tl (Release n) true (λ i. refl)
      (ap (λ (m : Mark). is_flying m ∷ []) fly) i h.accounts))
      (quietly (Release n) refl)

  -- what isn't in flight doesn't move
  pub let_be : (n : Name) (trace : List Event) (tl : List Bool) → IsName v.setup n
      → (IsFlying start v n → ⊥) → trace ≡ v.trace ++ Release n ∷ [] → tl ≡ answers ++ false ∷ []
      → IsBookOf start nodes (record v { trace = trace }) counts tables waiting handed tl messages
  let_be n trace tl a off e i =
      let w = world_of start v in
      noted (Release n) trace counts tables waiting handed tl messages e
      (keeps_network w h.plan (Release n) (history v) counts v.rows tables tables n
      (mark_in start v n) (named start v n a) (λ i. refl)
      (sym (mark_release w h.plan (history v) n a.first a.last
      ∙ let_go_idle (counted w (count_of v n.to)) (mark_in start v n) off))
      (λ m b apart. released_other w h.plan (history v) n m b.first b.last apart)
      (puts_same Unsent tables n.copy (place_of w n) (mark_in start v n) (read n a)) h.book)
      (waits_late w (history v) waiting n (arrival_idle n (mark_in start v n) off) h.waits)
      (accounts_answer w (history v) handed answers tl (Release n) false (λ i. refl)
      (ap (λ (b : Bool). b ∷ []) (idle_flag (mark_in start v n) off)) i h.accounts)
      (quietly (Release n) refl)

  -- a copy in flight is lost
  pub lost : (n : Name) (trace : List Event) (mk : List (List Mark)) (place : ℕ) (tl : List Bool)
      → IsName v.setup n → IsFlying start v n
      → place ≡ ((n.round - 1) * v.setup.nodes + n.from) * v.setup.nodes + n.to
      → trace ≡ v.trace ++ Drop n ∷ [] → Puts Unsent tables mk n.copy place Lost
      → tl ≡ answers ++ true ∷ []
      → IsBookOf start nodes (record v { trace = trace }) counts mk waiting handed tl messages
  lost n trace mk place tl a fly at e f i =
      let w = world_of start v in
      noted (Drop n) trace counts mk waiting handed tl messages e
      (keeps_network w h.plan (Drop n) (history v) counts v.rows tables mk n Lost
      (named start v n a) (λ i. refl)
      (sym (mark_drop w h.plan (history v) n a.first a.last ∙ ap dropped fly))
      (λ m b apart. dropped_other w h.plan (history v) n m b.first b.last apart)
      (subst (λ (z : ℕ). Puts Unsent tables mk n.copy z Lost) (place_in n place at) f) h.book)
      (waits_quiet w (history v) (Drop n) waiting (λ i. refl) (λ i. refl) h.waits)
      (accounts_answer w (history v) handed answers tl (Drop n) true (λ i. refl)
      (ap (λ (m : Mark). is_flying m ∷ []) fly) i h.accounts)
      (quietly (Drop n) refl)

  -- what isn't in flight isn't lost
  pub not_lost : (n : Name) (trace : List Event) (tl : List Bool) → IsName v.setup n
      → (IsFlying start v n → ⊥) → trace ≡ v.trace ++ Drop n ∷ [] → tl ≡ answers ++ false ∷ []
      → IsBookOf start nodes (record v { trace = trace }) counts tables waiting handed tl messages
  not_lost n trace tl a off e i =
      let w = world_of start v in
      noted (Drop n) trace counts tables waiting handed tl messages e
      (keeps_network w h.plan (Drop n) (history v) counts v.rows tables tables n (mark_in start v n)
      (named start v n a) (λ i. refl)
      (sym (mark_drop w h.plan (history v) n a.first a.last ∙ dropped_idle (mark_in start v n) off))
      (λ m b apart. dropped_other w h.plan (history v) n m b.first b.last apart)
      (puts_same Unsent tables n.copy (place_of w n) (mark_in start v n) (read n a)) h.book)
      (waits_quiet w (history v) (Drop n) waiting (λ i. refl) (λ i. refl) h.waits)
      (accounts_answer w (history v) handed answers tl (Drop n) false (λ i. refl)
      (ap (λ (b : Bool). b ∷ []) (idle_flag (mark_in start v n) off)) i h.accounts)
      (quietly (Drop n) refl)

  -- a copy is made
  pub made : (n : Name) (trace : List Event) (mk : List (List Mark)) (place : ℕ) (tl : List Bool)
      → IsName v.setup n → 0 < n.copy → CanCopy start v n
      → place ≡ ((n.round - 1) * v.setup.nodes + n.from) * v.setup.nodes + n.to
      → trace ≡ v.trace ++ Copy n ∷ [] → Puts Unsent tables mk n.copy place Flying
      → tl ≡ answers ++ true ∷ []
      → IsBookOf start nodes (record v { trace = trace }) counts mk waiting handed tl messages
  made n trace mk place tl a other fit at e f i =
      let w = world_of start v in
      let now = copied_now (mark_in start v (original n)) (mark_in start v n) fit.0 fit.1 in
      let flies : copied (mark_in start v (original n)) (mark_in start v n) ≡ Flying =
      ap (λ (b : Bool). if b then Flying else mark_in start v n) now in
      noted (Copy n) trace counts mk waiting handed tl messages e
      (keeps_network w h.plan (Copy n) (history v) counts v.rows tables mk n Flying
      (named start v n a) (λ i. refl)
      (sym (mark_copy w h.plan (history v) n a.first a.last other ∙ flies))
      (λ m b apart. copied_other w h.plan (history v) n m b.first b.last apart)
      (subst (λ (z : ℕ). Puts Unsent tables mk n.copy z Flying) (place_in n place at) f) h.book)
      (waits_quiet w (history v) (Copy n) waiting (λ i. refl) (λ i. refl) h.waits)
      (accounts_answer w (history v) handed answers tl (Copy n) true (λ i. refl)
      (ap (λ (b : Bool). b ∷ []) now) i h.accounts)
      (quietly (Copy n) refl)

  -- a copy isn't made
  pub not_made : (n : Name) (trace : List Event) (tl : List Bool) → IsName v.setup n → 0 < n.copy
      → (CanCopy start v n → ⊥) → trace ≡ v.trace ++ Copy n ∷ [] → tl ≡ answers ++ false ∷ []
      → IsBookOf start nodes (record v { trace = trace }) counts tables waiting handed tl messages
  not_made n trace tl a other off e i =
      let w = world_of start v in
      noted (Copy n) trace counts tables waiting handed tl messages e
      (keeps_network w h.plan (Copy n) (history v) counts v.rows tables tables n (mark_in start v n)
      (named start v n a) (λ i. refl)
      (sym (mark_copy w h.plan (history v) n a.first a.last other
      ∙ copied_idle (mark_in start v (original n)) (mark_in start v n) off))
      (λ m b apart. copied_other w h.plan (history v) n m b.first b.last apart)
      (puts_same Unsent tables n.copy (place_of w n) (mark_in start v n) (read n a)) h.book)
      (waits_quiet w (history v) (Copy n) waiting (λ i. refl) (λ i. refl) h.waits)
      (accounts_answer w (history v) handed answers tl (Copy n) false (λ i. refl)
      (ap (λ (b : Bool). b ∷ [])
      (copied_off (mark_in start v (original n)) (mark_in start v n) off)) i h.accounts)
      (quietly (Copy n) refl)

  -- ---- what the tests say

  -- before the end of the last round a step is a receive exactly if the sends are over
  pub receive_test : (k r low count : ℕ) → k < v.setup.nodes → (IsDue start v k → ⊥)
      → r ≡ round_of v k → r ≤ v.setup.rounds → low ≡ start r + v.setup.nodes → count ≡ count_of v k
      → is_receive (world_of start v) (count_of v k) ≡ leb low count
  receive_test k r low count l open_ e within a b =
      let w = world_of start v in
      let inside : round_of v k ≤ v.setup.rounds = omega arith in
      let same : start (round_of v k) + nodes_of w ≡ low = ap (λ x. start x + nodes_of w) (sym e)
      ∙ ap (λ x. start r + x) (nodes_are start v) ∙ sym a in
      is_receive_at w h.plan (round_of v k) (count_of v k)
      (h.book.began k (one_of start v k l)) inside (count_past k l) (early k inside open_)
      ∙ ap (λ x. leb x (count_of v k)) same ∙ ap (leb low) (sym b)

  -- what the tests before a send say of its name
  pub send_facts : (n m : Name) (due : Bool) (count first to : ℕ) → n ≡ m → IsName v.setup m
      → (IsDue start v n.from → due ≡ true) → due ≡ false → count ≡ count_of v n.from
      → first ≡ start n.round → to ≡ n.to → count ≡ first + to
      → (IsDue start v m.from → ⊥) × IsSlot start v m × (round_of v m.from ≡ m.round)
  send_facts n m due count first to e a is off b c d f =
      let P : Name → Type 0 = λ x. (IsDue start v x.from → ⊥) × IsSlot start v x in
      let at : (IsDue start v n.from → ⊥) × IsSlot start v n =
      (λ y. (let on = is y in cc), omega arith) in
      let both : (IsDue start v m.from → ⊥) × IsSlot start v m = subst P e at in
      (both.0, both.1, send_round m a both.0 both.1)
