-- What each event does to a book.
use Rattle.std.proofs.Common.{◌≡◌, ℕ, ◌<◌, Bool, List, [], ◌∷◌, ◌++◌, sym, subst, refl}
use Rattle.std.specs.Prelude.{◌↔◌, IsTrue}
use Rattle.round_meaning.specs.Rounds.{algorithm_of}
use Rattle.step_machine.specs.Sealed.{IsPrepared, Ready}
use Rattle.step_machine.specs.Nodes.{NodeView}
use Rattle.run_events.specs.declared.event.Event.{Event}
use Rattle.run_events.specs.declared.event.Event.TheVariants.{Step, Release, Drop, Copy}
use Rattle.run_events.specs.declared.name.Name.{Name}
use Rattle.step_book.specs.declared.mark.Mark.{Mark}
use Rattle.step_book.specs.Agreement.{Row}
use Rattle.step_book.specs.Causes.{EndsAsRecorded, IsDueIn, IsReceiveFit, IsSendFit}
use Rattle.step_book.specs.Effects.{Closes, Drops, Idles, MakesCopy, Receives, Releases, Sends}
use Rattle.step_book.specs.Log.{CanCopy, IsBookOf, IsFlying, Recorded, closed, round_of}
use Rattle.step_book.specs.Names.{IsName}
use Rattle.step_book.proofs.Closing.{closed_view}
use Rattle.step_book.proofs.Events.{send_round}
use Rattle.step_book.proofs.Later.{kept_closed, kept_happened}
use Rattle.step_book.proofs.Leaves.{copied_mark, copied_others, copied_waiting}
use Rattle.step_book.proofs.Leaves.{dropped_mark, dropped_others, dropped_waiting}
use Rattle.step_book.proofs.Leaves.{idle_marks, idle_waiting}
use Rattle.step_book.proofs.Leaves.{received_marks, received_others, received_own}
use Rattle.step_book.proofs.Leaves.{released_mark, released_others, released_waiting}
use Rattle.step_book.proofs.Leaves.{released_waiting_others}
use Rattle.step_book.proofs.Leaves.{sent_mark, sent_others, sent_waiting, unsent}
use Rattle.step_book.proofs.Reading.{buffer_once, event_view, of_view}

-- an answer that was asked for before
answered : {A : Type 0} (asked answer : Bool) → (IsTrue asked ↔ A) → asked ≡ answer
    → (IsTrue answer ↔ A)
answered {A} asked answer a e = subst (λ (b : Bool). IsTrue b ↔ A) e a

module _ {P : Type 0} (start : P → ℕ → ℕ) (nodes : P → ℕ) {s v : Recorded P} {counts : List ℕ}
    {tables : List (List Mark)} {waiting : List (List Name)} {handed : List (List (List Name))}
    {answers : List Bool} {messages : List Name} (is : s ≡ v)
    (h : IsBookOf (start s.plan) (nodes s.plan) s.log counts tables waiting handed answers
    messages) where
  -- it's a book of the view
  book : IsBookOf (start v.plan) (nodes v.plan) v.log counts tables waiting handed answers messages
  book = of_view start nodes is h

  pub sends : (p : Ready) (trace : List Event) → IsName v.log.setup p.name → p.name.copy ≡ 0
      → IsPrepared (algorithm_of v.log.program v.log.setup) p → IsSendFit (start v.plan) v.log p
      → trace ≡ s.log.trace ++ Step p.name.from ∷ []
      → Sends start p v (record s { log = record s.log { trace = trace } })
  sends p trace a c work fit e =
      subst (Sends start p v) (sym (event_view (Step p.name.from) trace is e)) (record {
        recorded = refl;
        fit = fit;
        round = send_round book p.name a fit.0 fit.1;
        unsent = unsent book p.name fit.1;
        sent = sent_mark book p a c work fit;
        marks = sent_others book p.name a c fit.0 fit.1;
        waiting = sent_waiting book p.name a fit.1;
        kept = kept_happened book (Step p.name.from);
      })

  pub receives : (i : ℕ) (trace : List Event) → IsReceiveFit (start v.plan) v.log i
      → trace ≡ s.log.trace ++ Step i ∷ []
      → Receives start i v (record s { log = record s.log { trace = trace } })
  receives i trace fit e =
      subst (Receives start i v) (sym (event_view (Step i) trace is e)) (record {
        recorded = refl;
        fit = fit;
        once = buffer_once book i;
        taken = received_own book i fit.1;
        marks = received_marks book i fit.1;
        waiting = received_others book i;
        kept = kept_happened book (Step i);
      })

  pub idles : (i : ℕ) (trace : List Event) → i < v.log.setup.nodes
      → v.log.setup.rounds < round_of v.log i → trace ≡ s.log.trace ++ Step i ∷ []
      → Idles start i v (record s { log = record s.log { trace = trace } })
  idles i trace l late e =
      subst (Idles start i v) (sym (event_view (Step i) trace is e)) (record {
        recorded = refl;
        fit = late;
        marks = idle_marks book i late;
        waiting = idle_waiting book i l late;
        kept = kept_happened book (Step i);
      })

  pub closes : (n : NodeView) (rows : List Row) → n.me < v.log.setup.nodes
      → IsDueIn (start v.plan) v.log n → EndsAsRecorded (start v.plan) v.log n
      → rows ≡ (closed v.log n).rows
      → Closes start n v (record s { log = record s.log { rows = rows } })
  closes n rows l due ended e =
      subst (Closes start n v) (sym (closed_view n rows is e)) (record {
        recorded = refl;
        due = due;
        ended = ended;
        kept = kept_closed book n l;
      })

  pub releases : (n : Name) (asked moved : Bool) (trace : List Event) → IsName v.log.setup n
      → (IsTrue asked ↔ IsFlying (start v.plan) v.log n) → asked ≡ moved
      → trace ≡ s.log.trace ++ Release n ∷ []
      → Releases start n moved v (record s { log = record s.log { trace = trace } })
  releases n asked moved trace a fly b e =
      subst (Releases start n moved v) (sym (event_view (Release n) trace is e)) (record {
        act = record {
          recorded = refl;
          mark = released_mark book n a;
          marks = released_others book n;
          kept = kept_happened book (Release n);
        };
        moved = answered asked moved fly b;
        arrived = released_waiting book n;
        waiting = released_waiting_others book n;
      })

  pub drops : (n : Name) (asked lost : Bool) (trace : List Event) → IsName v.log.setup n
      → (IsTrue asked ↔ IsFlying (start v.plan) v.log n) → asked ≡ lost
      → trace ≡ s.log.trace ++ Drop n ∷ []
      → Drops start n lost v (record s { log = record s.log { trace = trace } })
  drops n asked lost trace a fly b e =
      subst (Drops start n lost v) (sym (event_view (Drop n) trace is e)) (record {
        act = record {
          recorded = refl;
          mark = dropped_mark book n a;
          marks = dropped_others book n;
          kept = kept_happened book (Drop n);
        };
        lost = answered asked lost fly b;
        waiting = dropped_waiting book n;
      })

  pub makes_copy : (n : Name) (asked made : Bool) (trace : List Event) → IsName v.log.setup n
      → 0 < n.copy → (IsTrue asked ↔ CanCopy (start v.plan) v.log n) → asked ≡ made
      → trace ≡ s.log.trace ++ Copy n ∷ []
      → MakesCopy start n made v (record s { log = record s.log { trace = trace } })
  makes_copy n asked made trace a other can b e =
      subst (MakesCopy start n made v) (sym (event_view (Copy n) trace is e)) (record {
        act = record {
          recorded = refl;
          mark = copied_mark book n a other;
          marks = copied_others book n;
          kept = kept_happened book (Copy n);
        };
        made = answered asked made can b;
        waiting = copied_waiting book n;
      })
