-- How the threads ended, carried from the seats to the record.
use Rattle.std.proofs.Common.{
  ◌≡◌,
  ◌≢◌,
  ℕ,
  ◌+◌,
  ◌<◌,
  ◌≤◌,
  ◌⊎◌,
  inl,
  inr,
  List,
  [],
  ◌∷◌,
  ◌++◌,
  All,
  length,
  get_or,
  Option,
  Some,
  refl,
  sym,
  subst,
  ap,
  ◌∙◌,
  arith,
}
use Rattle.std.specs.Option.{ForSome}
use Rattle.std.proofs.lemmas.Bool.{cases_lt}
use Rattle.std.proofs.lemmas.List.{get_or_append_left, get_or_push, length_push}
use Rattle.std.proofs.lemmas.List.Elements.{All-get_or}
use Rattle.adversary.specs.Driving.{ClosedAreDue}
use Rattle.locked_buffers.specs.Accounts.{AccountsAgree, IsAccountOf}
use Rattle.locked_buffers.specs.Seats.{Account, Told, round_by}
use Rattle.round_meaning.specs.Agreement.{AgreesIn, Decides, IsValidIn}
use Rattle.round_meaning.specs.Turn.{decision}
use Rattle.round_lang.specs.Syntax.{ProgramTree}
use Rattle.round_lang.specs.declared.value.Value.{Value}
use Rattle.round_meaning.specs.declared.setup.Setup.{Setup}
use Rattle.schedule_text.specs.declared.pace.Stop.{Stop}
use Rattle.step_book.specs.Agreed.{JournalAgrees, state_in}
use Rattle.step_book.specs.Agreement.{row}
use Rattle.step_book.specs.Log.{Log, Recorded, count_of, history, round_of, world_of}
use Rattle.step_book.specs.declared.mark.Mark.{Mark}
use Rattle.run_events.specs.declared.event.Event.{Event}
use Rattle.run_events.specs.declared.name.Name.{Name}
use Rattle.node_threads.specs.Bodies.{IsEnded, IsNotPassed, SeatsEnded}
use Rattle.node_threads.specs.Ends.{AreBehind, HasAgreed, HasDecidedBy, HasDecidedInputs, HasEnded}
use Rattle.node_threads.specs.Ends.{HaveEnded, omitted_by}
use Rattle.node_threads.specs.Stops.{stop_of}
use Rattle.node_threads.specs.declared.ended.Ended.{Ended}
use Rattle.node_threads.specs.declared.ended.Ended.TheVariants.{Done, Stopped, NoMemory}

-- one seat more
push_at : (start : ℕ → ℕ) (rounds : ℕ) (stops : List Stop) (seats : List Account)
    (ends : List Ended) (a : Account) (e : Ended) (i : ℕ) (d : Account) (f : Ended)
    → SeatsEnded start rounds stops seats ends
    → IsEnded start rounds (stop_of stops (length seats)) a e → i < length seats + 1
    → (i < length seats) ⊎ (length seats ≤ i)
    → IsEnded start rounds (stop_of stops i) (get_or (seats ++ a ∷ []) i d)
    (get_or (ends ++ e ∷ []) i f)
push_at start rounds stops seats ends a e i d f h g l (inl low) =
    let m : i < length ends = omega (arith, h.sized, low) in
    rw (
      get_or_append_left seats (a ∷ []) d i low,
      get_or_append_left ends (e ∷ []) f i m,
    ) (h.each i d f low)
push_at start rounds stops seats ends a e i d f h g l (inr high) =
    let n : i ≡ length seats = omega (arith, l, high) in
    let m : i ≡ length ends = omega (arith, h.sized, n) in
    let one : get_or (seats ++ a ∷ []) i d ≡ a = get_or_push seats a d i (sym n) in
    let two : get_or (ends ++ e ∷ []) i f ≡ e = get_or_push ends e f i (sym m) in
    rw (one, two) (subst (λ (z : ℕ). IsEnded start rounds (stop_of stops z) a e) (sym n) g)

pub ended_push : (start : ℕ → ℕ) (rounds : ℕ) (stops : List Stop) (seats : List Account)
    (ends : List Ended) (a : Account) (e : Ended) → SeatsEnded start rounds stops seats ends
    → IsEnded start rounds (stop_of stops (length seats)) a e
    → SeatsEnded start rounds stops (seats ++ a ∷ []) (ends ++ e ∷ [])
ended_push start rounds stops seats ends a e h g = record {
  sized = length_push ends e ∙ ap (λ z. z + 1) h.sized ∙ sym (length_push seats a);
  each = λ i d f l. push_at start rounds stops seats ends a e i d f h g
      (omega (arith, l, length_push seats a)) (cases_lt _ _);
}

-- what a seat's end says of the record that has the seat's account
ended_in : (start : ℕ → ℕ) (v : Log) (i : ℕ) (a : Account) (stop : Option ℕ) (e : Ended)
    → IsAccountOf start v i a → IsEnded start v.setup.rounds stop a e → HasEnded start v i stop e
ended_in start v i a stop e h g =
    let r : round_by a ≡ round_of v i = ap length h.states in
    record {
      done = λ is. (sym r ∙ (g.done is).0, sym h.steps ∙ (g.done is).1);
      stopped = λ is. (
        (g.stopped is).0 ∙ ap Some h.steps,
        subst (λ n. n < start (v.setup.rounds + 1)) h.steps (g.stopped is).1,
        λ due. (g.stopped is).2 (
          subst (λ n. n ≤ v.setup.rounds) (sym r) due.0,
          subst (λ n. start (round_by a + 1) ≤ n) (sym h.steps)
              (subst (λ n. start (n + 1) ≤ count_of v i) (sym r) due.1),
        ),
      );
      cut = λ is. (
        subst (λ n. n ≤ v.setup.rounds) r (g.cut is).open_round,
        λ at.
            let due = (g.cut is).due (at ∙ ap Some (sym h.steps)) in (
              subst (λ n. n ≤ v.setup.rounds) r due.0,
              subst (λ n. start (n + 1) ≤ count_of v i) r
                  (subst (λ n. start (round_by a + 1) ≤ n) h.steps due.1),
            ),
      );
    }

pub have_ended : {P : Type 0} (start : ℕ → ℕ) (b : Recorded P) (stops : List Stop)
    (seats : List Account) (ends : List Ended) (t : Told) → AccountsAgree start b seats t
    → SeatsEnded start b.log.setup.rounds stops seats ends → HaveEnded start b.log stops ends
have_ended start b stops seats ends t agree h = record {
  sized = h.sized ∙ agree.seated;
  each = λ i e l. (
      let d : Account = record { node = 0; steps = 0; handed = []; states = [] } in
      let m : i < length seats = omega (arith, l, agree.seated) in
      ended_in start b.log i (get_or seats i d) (stop_of stops i) (get_or ends i e)
      (agree.each i d l) (h.each i d e m));
}

-- if a thread ended with memory, no due round is open
over : (start : ℕ → ℕ) (v : Log) (i r : ℕ) (stop : Option ℕ) (e : Ended) → HasEnded start v i stop e
    → e ≢ NoMemory → r ≤ v.setup.rounds → r ≤ round_of v i → start (r + 1) ≤ count_of v i
    → (r < round_of v i) ⊎ (round_of v i ≤ r) → r < round_of v i
over start v i r stop e h other last low due (inl less) = less
over start v i r stop Done h other last low due (inr high) = omega (arith, (h.done refl).0, last)
over start v i r stop Stopped h other last low due (inr high) =
    let same : r ≡ round_of v i = omega (arith, low, high) in
    absurd ((h.stopped refl).2 (
      omega (arith, same, last),
      subst (λ n. start (n + 1) ≤ count_of v i) same due,
    ))
over start v i r stop NoMemory h other last low due (inr high) = absurd (other refl)

pub closed_are_due : (start : ℕ → ℕ) (v : Log) (mark : Name → Mark) (waiting : ℕ
    → List Name) (stops : List Stop) (ends : List Ended) → JournalAgrees start v mark waiting
    → HaveEnded start v stops ends
    → All (λ e. e ≢ NoMemory) ends → ClosedAreDue start v
closed_are_due start v mark waiting stops ends agrees ended memory i r node some last = (
  λ less. (agrees.closed i r node some less).over,
  λ due.
      let low = agrees.due i r node (record { first = some; last = last; over = due }) in
      let m : i < length ends = omega (arith, node, ended.sized) in
      over start v i r (stop_of stops i) (get_or ends i Done) (ended.each i Done node)
      (All-get_or (λ e. e ≢ NoMemory) ends i Done m memory) last low due (cases_lt _ _),
)

-- a decision of the record is one of the run in rounds
decided : (start : ℕ → ℕ) (v : Log) (mark : Name → Mark) (waiting : ℕ → List Name) (i r x : ℕ)
    → JournalAgrees start v mark waiting → HasDecidedBy v i r x
    → Decides v.program v.setup (omitted_by start v) r i x
decided start v mark waiting i r x agrees d =
    subst (λ (z : List Value). decision v.program z ≡ Some x) (agrees.stated i r d.node d.closed)
    d.decides

pub has_agreed : (start : ℕ → ℕ) (v : Log) (mark : Name → Mark) (waiting : ℕ → List Name)
    → JournalAgrees start v mark waiting → AgreesIn v.program v.setup (omitted_by start v)
    → HasAgreed v
has_agreed start v mark waiting journal agrees i j r q x y a b =
    agrees i j r q x y a.node b.node (decided start v mark waiting i r x journal a)
    (decided start v mark waiting j q y journal b)

pub has_decided_inputs : (start : ℕ → ℕ) (v : Log) (mark : Name → Mark) (waiting : ℕ → List Name)
    → JournalAgrees start v mark waiting → IsValidIn v.program v.setup (omitted_by start v)
    → HasDecidedInputs v
has_decided_inputs start v mark waiting journal valid i r x a =
    valid i r x a.node (decided start v mark waiting i r x journal a)

-- two records of one run with the same events have the same states
pub same_states : (start : ℕ → ℕ) (v w : Log) (mark also : Name → Mark) (waiting waits : ℕ
    → List Name) → JournalAgrees start v mark waiting → JournalAgrees start w also waits
    → w.program ≡ v.program → w.setup ≡ v.setup → w.trace ≡ v.trace → (i r : ℕ) → i < v.setup.nodes
    → r < round_of v i → r < round_of w i
    → get_or (row w.rows i) r [] ≡ get_or (row v.rows i) r []
same_states start v w mark also waiting waits a b program setup trace i r node closed again =
    let after : ProgramTree → Setup → List Event
    → List Value = λ p s t. state_in start
    (record { program = p; setup = s; trace = t; rows = [] }) i r in
    let there : i < w.setup.nodes = subst (λ (s : Setup). i < s.nodes) (sym setup) node in
    b.stated i r there again
    ∙ ap (λ p. after p w.setup w.trace) program ∙ ap (λ s. after v.program s w.trace) setup
    ∙ ap (λ t. after v.program v.setup t) trace
    ∙ sym (a.stated i r node closed)

-- how a thread ended, by the plan, the rounds and the stop that it was given
pub ended_by : {P : Type 0} (start : P → ℕ
    → ℕ) (own plan : P) (own_last last : ℕ) (own_stop stop : Option ℕ) (a : Account)
    (o : Option Ended) (e : Ended)
    → ForSome o (IsEnded (start own) own_last own_stop a) → o ≡ Some e → own ≡ plan
    → own_last ≡ last → own_stop ≡ stop → IsEnded (start plan) last stop a e
ended_by start own plan own_last last own_stop stop a o e ended is same_plan same_last same_stop =
    subst (λ p. IsEnded (start p) last stop a e) same_plan
    (subst (λ r. IsEnded (start own) r stop a e) same_last
    (subst (λ s. IsEnded (start own) own_last s a e) same_stop (ended e is)))

pub passed_by : {P : Type 0} (start : P → ℕ
    → ℕ) (own plan : P) (own_last last : ℕ) (own_stop stop : Option ℕ) (o : Option Ended)
    (e : Ended)
    → (o ≡ Some Done → IsNotPassed own_stop 0 (start own (own_last + 1))) → o ≡ Some e
    → own ≡ plan → own_last ≡ last → own_stop ≡ stop → e ≡ Done
    → IsNotPassed stop 0 (start plan (last + 1))
passed_by start own plan own_last last own_stop stop o e passed is same_plan same_last same_stop
    done =
    subst (λ p. IsNotPassed stop 0 (start p (last + 1))) same_plan
    (subst (λ r. IsNotPassed stop 0 (start own (r + 1))) same_last
    (subst (λ s. IsNotPassed s 0 (start own (own_last + 1))) same_stop
    (passed (is ∙ ap Some done))))

-- one end more, whose stop isn't before all steps
behind_at : (last : ℕ) (stops : List Stop) (ends : List Ended) (e : Ended) (i n : ℕ) (f : Ended)
    → AreBehind last stops ends → (e ≡ Done → IsNotPassed (stop_of stops (length ends)) 0 last)
    → i < length ends + 1 → get_or (ends ++ e ∷ []) i f ≡ Done → stop_of stops i ≡ Some n
    → (i < length ends) ⊎ (length ends ≤ i) → last ≤ n
behind_at last stops ends e i n f h g l done at (inl low) =
    h i n f low (sym (get_or_append_left ends (e ∷ []) f i low) ∙ done) at
behind_at last stops ends e i n f h g l done at (inr high) =
    let here : i ≡ length ends = omega (arith, l, high) in
    g (sym (get_or_push ends e f i (sym here)) ∙ done) n (sym (ap (stop_of stops) here) ∙ at)
    (omega arith)

pub behind_push : (last : ℕ) (stops : List Stop) (ends : List Ended) (e : Ended)
    → AreBehind last stops ends → (e ≡ Done → IsNotPassed (stop_of stops (length ends)) 0 last)
    → AreBehind last stops (ends ++ e ∷ [])
behind_push last stops ends e h g i n f l done at = behind_at last stops ends e i n f h g
    (omega (arith, l, length_push ends e)) done at (cases_lt _ _)
