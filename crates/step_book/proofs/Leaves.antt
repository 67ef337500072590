-- What each event leaves of each message and each buffer.
use Rattle.std.proofs.Common.{◌≡◌, ℕ, ◌<◌, false, List, [], ◌∷◌, ◌++◌, sym, subst, refl, ap, ◌∙◌}
use Rattle.std.proofs.Common.{arith, Bool}
use Rattle.std.proofs.lemmas.Bool.{cases_eq, eq-eqb, ne_eqb, and_left}
use Rattle.round_meaning.specs.Rounds.{algorithm_of}
use Rattle.run_events.specs.Names.{original}
use Rattle.step_machine.specs.Sealed.{Ready, IsPrepared}
use Rattle.run_events.specs.declared.event.Event.{Event}
use Rattle.run_events.specs.declared.event.Event.TheVariants.{Step, Release, Drop, Copy}
use Rattle.run_events.specs.declared.name.Name.{Name}
use Rattle.step_book.specs.declared.mark.Mark.{Mark}
use Rattle.step_book.specs.declared.mark.Mark.TheVariants.{Unsent}
use Rattle.step_book.specs.World.{is_receive}
use Rattle.step_book.specs.History.{
  arrival,
  buffer_of,
  copied,
  counted,
  dropped,
  let_go,
  mark_of,
  spoken,
}
use Rattle.step_book.specs.Log.{Log, IsBookOf, IsDue, IsSlot, IsReceive, SameMarks, SameMarksBut}
use Rattle.step_book.specs.Log.{SameWaiting, SameWaitingBut, happened, world_of, history, round_of}
use Rattle.step_book.specs.Log.{count_of, mark_in, waiting_in}
use Rattle.step_book.specs.Names.{IsName}
use Rattle.step_book.specs.Causes.{IsSendFit}
use Rattle.step_book.proofs.Kept.{mark_before, mark_copy, mark_drop, mark_now, mark_release}
use Rattle.step_book.proofs.Keeps.{copied_other, dropped_other, mark_passed, released_other}
use Rattle.step_book.proofs.Names.{name_same}
use Rattle.step_book.proofs.WaitsKept.{waits_step_at, arrived_other, buffer_emptied, buffer_kept}
use Rattle.step_book.proofs.WaitsKept.{buffer_grown}
use Rattle.step_book.proofs.Events.{pushed, send_round, no_slot, slot_no_receive, message_is}
use Rattle.step_book.proofs.Events.{idle_none}

-- one event more stands first in the history
pub happened_first : (v : Log) (e : Event) → history (happened v e) ≡ e ∷ history v
happened_first v e = pushed v.trace e (v.trace ++ e ∷ []) refl

module _ {start : ℕ → ℕ} {nodes : ℕ} {v : Log} {counts : List ℕ} {tables : List (List Mark)}
    {waiting : List (List Name)} {handed : List (List (List Name))} {answers : List Bool}
    {messages : List Name}
    (h : IsBookOf start nodes v counts tables waiting handed answers messages) where
  -- a step that isn't its slot leaves a message as it was
  passed : (k : ℕ) (m : Name) → IsName v.setup m → (m.copy ≡ 0 → m.from ≡ k → IsSlot start v m → ⊥)
      → mark_in start (happened v (Step k)) m ≡ mark_in start v m
  passed k m a apart =
      ap (λ t. mark_of (world_of start v) t m) (happened_first v (Step k))
      ∙ mark_passed (world_of start v) h.plan (history v) k m a.first a.last apart

  -- a step that isn't a receive leaves each buffer
  stepped_waiting : (k : ℕ) → is_receive (world_of start v) (count_of v k) ≡ false
      → SameWaiting start v (happened v (Step k))
  stepped_waiting k none = λ i. ap (buffer_of (world_of start v) i) (happened_first v (Step k))
      ∙ waits_step_at (world_of start v) (history v) k i none (cases_eq i k)

  -- ---- a step after the last round

  pub idle_marks : (k : ℕ) → v.setup.rounds < round_of v k → SameMarks start v (happened v (Step k))
  idle_marks k late =
      λ m a. passed k m a (λ c same slot. no_slot h m a (let at = ap (round_of v) same in
      omega arith) slot)

  pub idle_waiting : (k : ℕ) → k < v.setup.nodes → v.setup.rounds < round_of v k
      → SameWaiting start v (happened v (Step k))
  idle_waiting k l late = stepped_waiting k (idle_none h k l late)

  -- ---- a receive

  pub received_marks : (k : ℕ) → IsReceive start v k → SameMarks start v (happened v (Step k))
  received_marks k is = λ m a. passed k m a (λ c same slot.
      let none = slot_no_receive h m a slot in
      let at = ap (λ x. is_receive (world_of start v) (count_of v x)) same in
      absurd cc)

  pub received_own : (k : ℕ) → IsReceive start v k → waiting_in start (happened v (Step k)) k ≡ []
  received_own k is = ap (buffer_of (world_of start v) k) (happened_first v (Step k))
      ∙ buffer_emptied (world_of start v) k (Step k) (history v) (eq-eqb k k refl) is

  pub received_others : (k : ℕ) → SameWaitingBut start k v (happened v (Step k))
  received_others k = λ i apart. ap (buffer_of (world_of start v) i) (happened_first v (Step k))
      ∙ buffer_kept (world_of start v) i (Step k) (history v)
      (and_left _ _ (ne_eqb k i (λ e. apart (sym e)))) refl

  -- ---- a send

  pub sent_mark : (p : Ready) → IsName v.setup p.name → p.name.copy ≡ 0
      → IsPrepared (algorithm_of v.program v.setup) p → IsSendFit start v p
      → mark_in start (happened v (Step p.name.from)) p.name ≡ spoken p.message
  sent_mark p a c work fit =
      let w = world_of start v in
      let n = p.name in
      ap (λ t. mark_of w t n) (happened_first v (Step n.from))
      ∙ mark_now w h.plan (Step n.from) (history v) n a.first a.last c
      (eq-eqb n.from n.from refl) fit.1
      ∙ ap spoken (sym (message_is h p a work fit))

  -- before its slot a message is unsent
  pub unsent : (n : Name) → IsSlot start v n → mark_in start v n ≡ Unsent
  unsent n slot = mark_before (world_of start v) (history v) n (omega arith)

  pub sent_others : (n : Name) → IsName v.setup n → n.copy ≡ 0 → (IsDue start v n.from → ⊥)
      → IsSlot start v n → SameMarksBut start n v (happened v (Step n.from))
  sent_others n a c open_ slot = λ m b apart. passed n.from m b (λ first same other.
      let P : ℕ → Type 0 = λ x. IsDue start v x → ⊥ in
      let rounds : m.round ≡ n.round = sym (send_round h m b (subst P (sym same) open_) other)
      ∙ ap (round_of v) same ∙ send_round h n a open_ slot in
      let counts_are = ap (count_of v) same in
      let at = ap start rounds in
      apart (name_same m n same (omega arith) rounds (first ∙ sym c)))

  pub sent_waiting : (n : Name) → IsName v.setup n → IsSlot start v n
      → SameWaiting start v (happened v (Step n.from))
  sent_waiting n a slot = stepped_waiting n.from (slot_no_receive h n a slot)

  -- ---- a release

  pub released_mark : (n : Name) → IsName v.setup n
      → mark_in start (happened v (Release n)) n ≡ let_go
      (counted (world_of start v) (count_of v n.to)) (mark_in start v n)
  released_mark n a =
      ap (λ t. mark_of (world_of start v) t n) (happened_first v (Release n))
      ∙ mark_release (world_of start v) h.plan (history v) n a.first a.last

  pub released_others : (n : Name) → SameMarksBut start n v (happened v (Release n))
  released_others n = λ m b apart.
      ap (λ t. mark_of (world_of start v) t m) (happened_first v (Release n))
      ∙ released_other (world_of start v) h.plan (history v) n m b.first b.last apart

  pub released_waiting : (n : Name)
      → waiting_in start (happened v (Release n)) n.to ≡ waiting_in start v n.to
      ++ arrival n (mark_in start v n)
  released_waiting n = ap (buffer_of (world_of start v) n.to) (happened_first v (Release n))
      ∙ buffer_grown (world_of start v) n.to n (history v) refl

  pub released_waiting_others : (n : Name) → SameWaitingBut start n.to v (happened v (Release n))
  released_waiting_others n = λ i apart. ap (buffer_of (world_of start v) i)
      (happened_first v (Release n))
      ∙ buffer_kept (world_of start v) i (Release n) (history v) refl
      (arrived_other (world_of start v) (history v) n i apart)

  -- ---- a drop

  pub dropped_mark : (n : Name) → IsName v.setup n
      → mark_in start (happened v (Drop n)) n ≡ dropped (mark_in start v n)
  dropped_mark n a =
      ap (λ t. mark_of (world_of start v) t n) (happened_first v (Drop n))
      ∙ mark_drop (world_of start v) h.plan (history v) n a.first a.last

  pub dropped_others : (n : Name) → SameMarksBut start n v (happened v (Drop n))
  dropped_others n = λ m b apart.
      ap (λ t. mark_of (world_of start v) t m) (happened_first v (Drop n))
      ∙ dropped_other (world_of start v) h.plan (history v) n m b.first b.last apart

  pub dropped_waiting : (n : Name) → SameWaiting start v (happened v (Drop n))
  dropped_waiting n = λ i. ap (buffer_of (world_of start v) i) (happened_first v (Drop n))
      ∙ buffer_kept (world_of start v) i (Drop n) (history v) refl refl

  -- ---- a copy

  pub copied_mark : (n : Name) → IsName v.setup n → 0 < n.copy
      → mark_in start (happened v (Copy n)) n ≡ copied (mark_in start v (original n))
      (mark_in start v n)
  copied_mark n a other =
      ap (λ t. mark_of (world_of start v) t n) (happened_first v (Copy n))
      ∙ mark_copy (world_of start v) h.plan (history v) n a.first a.last other

  pub copied_others : (n : Name) → SameMarksBut start n v (happened v (Copy n))
  copied_others n = λ m b apart.
      ap (λ t. mark_of (world_of start v) t m) (happened_first v (Copy n))
      ∙ copied_other (world_of start v) h.plan (history v) n m b.first b.last apart

  pub copied_waiting : (n : Name) → SameWaiting start v (happened v (Copy n))
  copied_waiting n = λ i. ap (buffer_of (world_of start v) i) (happened_first v (Copy n))
      ∙ buffer_kept (world_of start v) i (Copy n) (history v) refl refl
