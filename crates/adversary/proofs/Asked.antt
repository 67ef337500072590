-- What is known while a policy is asked and the nodes step, from turn to turn.
use Rattle.std.proofs.Common.{◌≡◌, ◌∙◌, ℕ, suc, ◌+◌, Bool, true, false, List, [], ◌∷◌, ◌++◌}
use Rattle.std.proofs.Common.{Option, None, Some, refl, sym, ap, subst, inl, inr, arith, ◌≤◌}
use Rattle.std.proofs.Common.{if◌then◌else◌}
use Rattle.std.proofs.lemmas.List.{append_assoc, append-nil}
use Rattle.adversary.specs.Asking.{Chooses, GoesOnAsked, HasStepped, IsAsked, IsAskedOut, IsAtPlace}
use Rattle.adversary.specs.Asking.{RunsAsked, most_asked, steps_below}
use Rattle.adversary.specs.Driving.{IsOneMore}
use Rattle.round_lang.specs.Syntax.{ProgramTree}
use Rattle.round_meaning.specs.Nodes.{has_node}
use Rattle.round_meaning.specs.declared.setup.Setup.{Setup}
use Rattle.step_book.specs.Log.{Log, Recorded, opened}
use Rattle.run_events.specs.declared.event.Event.{Event}
use Rattle.run_events.specs.declared.event.Event.TheVariants.{Step}
use Rattle.run_events.specs.declared.in_flight.InFlight.{InFlight}
use Rattle.run_events.specs.declared.name.Name.{Name}

-- the correct nodes below this one have stepped
pub record IsSteppedTo {P : Type 0} (correct : ℕ) (old new : Recorded P) (i : ℕ) : Type 0 where
  pub plan : new.plan ≡ old.plan
  pub program : new.log.program ≡ old.log.program
  pub setup : new.log.setup ≡ old.log.setup
  pub trace : new.log.trace ≡ old.log.trace ++ steps_below correct i

-- the policy was asked so many times
pub record IsAskedTo {Q P : Type 0} (chooses : Chooses Q) (start : ℕ → ℕ) (now : ℕ) (before : Q)
    (old : Recorded P) (times : ℕ) (after : Q) (new : Recorded P) : Type 0 where
  pub plan : new.plan ≡ old.plan
  pub asked : GoesOnAsked chooses start now before old.log times after new.log

-- so many ticks have gone by
pub record IsRunTo {Q P : Type 0} (chooses : Chooses Q) (start : ℕ → ℕ) (correct : ℕ) (before : Q)
    (p : ProgramTree) (s : Setup) (plan : P) (ticks : ℕ) (after : Q)
    (new : Recorded P) : Type 0 where
  pub same : new.plan ≡ plan
  pub runs : RunsAsked chooses start correct before (opened p s) ticks after new.log

-- one name stands at a place
pub at_same : (flight : List InFlight) (k : ℕ) (n m : Name) → IsAtPlace flight k n
    → IsAtPlace flight k m → n ≡ m
at_same flight k n m a b =
    let d : InFlight = record { name = n; sent_at = 0; serial = 0 } in sym (a.1 d) ∙ b.1 d

next_is : (n : ℕ) → suc n ≡ n + 1
next_is n = omega arith

steps_more : (correct i : ℕ) (is : Bool) → has_node correct i ≡ is
    → steps_below correct (suc i) ≡ steps_below correct i ++ (if is then Step i ∷ [] else [])
unfolding steps_below
steps_more correct i is same =
    ap (λ b. steps_below correct i ++ (if b then Step i ∷ [] else [])) same

pub stepped_first : {P : Type 0} (correct : ℕ) (d : Recorded P) → IsSteppedTo correct d d 0
unfolding steps_below
stepped_first correct d = record {
  plan = refl;
  program = refl;
  setup = refl;
  trace = sym (append-nil d.log.trace);
}

pub stepped_next : {P : Type 0} (correct : ℕ) (old d e : Recorded P) (i : ℕ)
    → IsSteppedTo correct old d i → has_node correct i ≡ true
    → e.plan ≡ d.plan → IsOneMore d.log e.log (Step i) → IsSteppedTo correct old e (i + 1)
stepped_next correct old d e i at is plan more = record {
  plan = plan ∙ at.plan;
  program = more.program ∙ at.program;
  setup = more.setup ∙ at.setup;
  trace = more.trace ∙ ap (λ l. l ++ Step i ∷ []) at.trace
      ∙ append_assoc old.log.trace (steps_below correct i) (Step i ∷ [])
      ∙ ap (λ l. old.log.trace ++ l) (sym (steps_more correct i true is)
      ∙ ap (steps_below correct) (next_is i));
}

pub stepped_none : {P : Type 0} (correct : ℕ) (old d : Recorded P) (i : ℕ)
    → IsSteppedTo correct old d i → has_node correct i ≡ false
    → IsSteppedTo correct old d (i + 1)
stepped_none correct old d i at is = record {
  plan = at.plan;
  program = at.program;
  setup = at.setup;
  trace = at.trace ∙ ap (λ l. old.log.trace ++ l)
      (sym (append-nil (steps_below correct i)) ∙ sym (steps_more correct i false is)
      ∙ ap (steps_below correct) (next_is i));
}

pub stepped_all : {P : Type 0} (correct : ℕ) (old d : Recorded P)
    → IsSteppedTo correct old d old.log.setup.nodes → HasStepped correct old.log d.log
stepped_all correct old d at = record { program = at.program; setup = at.setup; trace = at.trace }

more_asked : {Q : Type 0} (chooses : Chooses Q) (start : ℕ
    → ℕ) (now : ℕ) (q p r : Q) (v w u : Log) (e : Event) (k : ℕ)
    → GoesOnAsked chooses start now q v k p w
    → IsAsked chooses start now w p r (Some e) → IsOneMore w u e
    → GoesOnAsked chooses start now q v (suc k) r u
unfolding GoesOnAsked
more_asked chooses start now q p r v w u e k on one more = (p, w, e, on, one, more)

more_runs : {Q : Type 0} (chooses : Chooses Q) (start : ℕ
    → ℕ) (correct : ℕ) (q o r : Q) (v w x u : Log) (t : ℕ)
    → RunsAsked chooses start correct q v t o w
    → IsAskedOut chooses start t o w r x → HasStepped correct x u
    → RunsAsked chooses start correct q v (suc t) r u
unfolding RunsAsked
more_runs chooses start correct q o r v w x u t runs out stepped = (o, w, x, runs, out, stepped)

module _ {Q P : Type 0} (chooses : Chooses Q) (starts : P → ℕ → ℕ) where
  pub asked_first : (now : ℕ) (q : Q) (d : Recorded P)
      → IsAskedTo chooses (starts d.plan) now q d 0 q d
  unfolding GoesOnAsked
  asked_first now q d = record { plan = refl; asked = (refl, refl) }

  -- what was asked of the journal was asked of the run
  asked_of : (now : ℕ) (q p r : Q) (old d j : Recorded P) (o b : Option Event) (k : ℕ)
      → IsAskedTo chooses (starts old.plan) now q old k p d
      → j ≡ d → o ≡ b → IsAsked chooses (starts j.plan) now j.log p r o
      → IsAsked chooses (starts old.plan) now d.log p r b
  asked_of now q p r old d j o b k at same is one =
      subst (λ x. IsAsked chooses (starts x) now d.log p r b) at.plan
      (subst (λ (x : Recorded P). IsAsked chooses (starts x.plan) now x.log p r b) same
      (subst (IsAsked chooses (starts j.plan) now j.log p r) is one))

  pub asked_next : (now : ℕ) (q p r : Q) (old d j u : Recorded P) (o : Option Event) (e : Event)
      (k : ℕ)
      → IsAskedTo chooses (starts old.plan) now q old k p d → j ≡ d → o ≡ Some e
      → IsAsked chooses (starts j.plan) now j.log p r o
      → u.plan ≡ d.plan → IsOneMore d.log u.log e
      → IsAskedTo chooses (starts old.plan) now q old (k + 1) r u
  asked_next now q p r old d j u o e k at same is one plan more = record {
    plan = plan ∙ at.plan;
    asked = subst (λ n. GoesOnAsked chooses (starts old.plan) now q old.log n r u.log) (next_is k)
        (more_asked chooses (starts old.plan) now q p r old.log d.log u.log e k at.asked
        (asked_of now q p r old d j o (Some e) k at same is one) more);
  }

  pub asked_out : (now : ℕ) (q p r : Q) (old d j : Recorded P) (o : Option Event) (k : ℕ)
      → IsAskedTo chooses (starts old.plan) now q old k p d
      → j ≡ d → o ≡ None → IsAsked chooses (starts j.plan) now j.log p r o
      → IsAskedOut chooses (starts old.plan) now q old.log r d.log
  asked_out now q p r old d j o k at same is one =
      record {
        times = k;
        last = p;
        goes_on = at.asked;
        ends = inl (asked_of now q p r old d j o None k at same is one);
      }

  pub asked_most : (now : ℕ) (q p : Q) (old d : Recorded P) (k : ℕ)
      → IsAskedTo chooses (starts old.plan) now q old k p d → k ≤ most_asked
      → most_asked ≤ k → IsAskedOut chooses (starts old.plan) now q old.log p d.log
  asked_most now q p old d k at high low =
      let most : k ≡ most_asked = omega arith in
      record { times = k; last = p; goes_on = at.asked; ends = inr (most, refl) }

  pub run_first : (correct : ℕ) (q : Q) (p : ProgramTree) (s : Setup) (plan : P) (d : Recorded P)
      → d ≡ record { plan = plan; log = opened p s }
      → IsRunTo chooses (starts plan) correct q p s plan 0 q d
  unfolding RunsAsked
  run_first correct q p s plan d is = record {
    same = ap (λ (x : Recorded P). x.plan) is;
    runs = (refl, ap (λ (x : Recorded P). x.log) is);
  }

  pub run_next : (correct : ℕ) (q o r : Q) (p : ProgramTree) (s : Setup) (plan : P) (t : ℕ)
      (d x u : Recorded P)
      → IsRunTo chooses (starts plan) correct q p s plan t o d
      → IsAskedOut chooses (starts d.plan) t o d.log r x.log → x.plan ≡ d.plan
      → HasStepped correct x.log u.log → u.plan ≡ x.plan
      → IsRunTo chooses (starts plan) correct q p s plan (t + 1) r u
  run_next correct q o r p s plan t d x u at out one stepped two = record {
    same = two ∙ one ∙ at.same;
    runs = subst (λ n. RunsAsked chooses (starts plan) correct q (opened p s) n r u.log) (next_is t)
        (more_runs chooses (starts plan) correct q o r (opened p s) d.log x.log u.log t at.runs
        (subst (λ y. IsAskedOut chooses (starts y) t o d.log r x.log) at.same out) stepped);
  }
