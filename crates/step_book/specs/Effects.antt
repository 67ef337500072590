-- What each event does to the record of a run: what changes, and what stays as it was. The plan,
-- the program and the setup stay always.
use Rattle.std.specs.Prelude.{◌≡◌, ◌<◌, ◌↔◌, ◌++◌, ℕ, Bool, IsTrue, []}
use Rattle.run_events.specs.declared.event.Event.{Event}
use Rattle.run_events.specs.declared.event.Event.TheVariants.{Step, Release, Drop, Copy}
use Rattle.run_events.specs.declared.name.Name.{Name}
use Rattle.run_events.specs.Names.{original}
use Rattle.step_machine.specs.Sealed.{Ready}
use Rattle.step_machine.specs.Nodes.{NodeView}
use Rattle.step_book.specs.declared.mark.Mark.{Mark}
use Rattle.step_book.specs.declared.mark.Mark.TheVariants.{Unsent}
use Rattle.step_book.specs.Agreed.{KeepsClosed}
use Rattle.step_book.specs.Agreement.{IsBuffer}
use Rattle.step_book.specs.Causes.{EndsAsRecorded, IsDueIn, IsReceiveFit, IsSendFit}
use Rattle.step_book.specs.History.{arrival, copied, counted, dropped, let_go, spoken}
use Rattle.step_book.specs.Log.{CanCopy, IsFlying, Recorded, SameMarks, SameMarksBut, SameWaiting}
use Rattle.step_book.specs.Log.{SameWaitingBut, closed, count_of, happened, history, mark_in}
use Rattle.step_book.specs.Log.{round_of, waiting_in, world_of}

-- a send: it was the sender's turn, in the message's round, and nothing was sent under the name
-- yet; the message is in flight, or its silence is recorded
pub record Sends {P : Type 0} (start : P → ℕ → ℕ) (p : Ready) (old new : Recorded P) : Type 0 where
  pub recorded : new ≡ record old { log = happened old.log (Step p.name.from) }
  pub fit : IsSendFit (start old.plan) old.log p
  pub round : round_of old.log p.name.from ≡ p.name.round
  pub unsent : mark_in (start old.plan) old.log p.name ≡ Unsent
  pub sent : mark_in (start old.plan) new.log p.name ≡ spoken p.message
  pub marks : SameMarksBut (start old.plan) p.name old.log new.log
  pub waiting : SameWaiting (start old.plan) old.log new.log
  pub kept : KeepsClosed (start old.plan) old.log new.log

-- a receive: it was the node's turn; what waited for it is handed out, each copy once
pub record Receives {P : Type 0} (start : P → ℕ → ℕ) (i : ℕ) (old new : Recorded P) : Type 0 where
  pub recorded : new ≡ record old { log = happened old.log (Step i) }
  pub fit : IsReceiveFit (start old.plan) old.log i
  pub once : IsBuffer (world_of (start old.plan) old.log) (history old.log) i
      (waiting_in (start old.plan) old.log i)
  pub taken : waiting_in (start old.plan) new.log i ≡ []
  pub marks : SameMarks (start old.plan) old.log new.log
  pub waiting : SameWaitingBut (start old.plan) i old.log new.log
  pub kept : KeepsClosed (start old.plan) old.log new.log

-- an idle step: the node was past the last round
pub record Idles {P : Type 0} (start : P → ℕ → ℕ) (i : ℕ) (old new : Recorded P) : Type 0 where
  pub recorded : new ≡ record old { log = happened old.log (Step i) }
  pub fit : old.log.setup.rounds < round_of old.log i
  pub marks : SameMarks (start old.plan) old.log new.log
  pub waiting : SameWaiting (start old.plan) old.log new.log
  pub kept : KeepsClosed (start old.plan) old.log new.log

-- the end of a round: it was due, and the node ended it from its recorded state with what was
-- carried to it; the state that it ended with is recorded, and no event
pub record Closes {P : Type 0} (start : P → ℕ → ℕ) (n : NodeView) (old new : Recorded P)
    : Type 0 where
  pub recorded : new ≡ record old { log = closed old.log n }
  pub due : IsDueIn (start old.plan) old.log n
  pub ended : EndsAsRecorded (start old.plan) old.log n
  pub kept : KeepsClosed (start old.plan) old.log new.log

-- the network acts on one copy of a message: that copy then has this mark
pub record ActsOn {P : Type 0} (start : P → ℕ → ℕ) (e : Event) (n : Name) (m : Mark)
    (old new : Recorded P) : Type 0 where
  pub recorded : new ≡ record old { log = happened old.log e }
  pub mark : mark_in (start old.plan) new.log n ≡ m
  pub marks : SameMarksBut (start old.plan) n old.log new.log
  pub kept : KeepsClosed (start old.plan) old.log new.log

-- a release: what was in flight waits for its receiver, behind what waited there
pub record Releases {P : Type 0} (start : P → ℕ → ℕ) (n : Name) (answer : Bool)
    (old new : Recorded P) : Type 0 where
  pub act : ActsOn start (Release n) n
      (let_go (counted (world_of (start old.plan) old.log) (count_of old.log n.to))
      (mark_in (start old.plan) old.log n)) old new
  pub open act use *
  pub moved : IsTrue answer ↔ IsFlying (start old.plan) old.log n
  pub arrived : waiting_in (start old.plan) new.log n.to
      ≡ waiting_in (start old.plan) old.log n.to ++ arrival n (mark_in (start old.plan) old.log n)
  pub waiting : SameWaitingBut (start old.plan) n.to old.log new.log

-- a drop: what was in flight is lost
pub record Drops {P : Type 0} (start : P → ℕ → ℕ) (n : Name) (answer : Bool)
    (old new : Recorded P) : Type 0 where
  pub act : ActsOn start (Drop n) n (dropped (mark_in (start old.plan) old.log n)) old new
  pub open act use *
  pub lost : IsTrue answer ↔ IsFlying (start old.plan) old.log n
  pub waiting : SameWaiting (start old.plan) old.log new.log

-- a copy: if copy 0 was in flight and this one was never made, it's in flight
pub record MakesCopy {P : Type 0} (start : P → ℕ → ℕ) (n : Name) (answer : Bool)
    (old new : Recorded P) : Type 0 where
  pub act : ActsOn start (Copy n) n (copied (mark_in (start old.plan) old.log (original n))
      (mark_in (start old.plan) old.log n)) old new
  pub open act use *
  pub made : IsTrue answer ↔ CanCopy (start old.plan) old.log n
  pub waiting : SameWaiting (start old.plan) old.log new.log
