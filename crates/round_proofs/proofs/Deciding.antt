-- The obligations of progress are enough: the nodes that live decide.
use Rattle.std.proofs.Common.{◌≡◌, ℕ, zero, suc, ◌+◌, ◌-◌, ◌<◌, ◌≤◌, Bool, true, List, refl, sym}
use Rattle.std.proofs.Common.{◌∙◌, subst, Option, Some, None, arith}
use Rattle.std.specs.Prelude.{IsSome}
use Rattle.round_lang.specs.declared.value.Value.{Value}
use Rattle.round_lang.specs.Syntax.{ProgramTree}
use Rattle.round_meaning.specs.declared.setup.Setup.{Setup}
use Rattle.round_meaning.specs.Agreement.{Decides}
use Rattle.round_meaning.specs.Turn.{decision}
use Rattle.round_explorer.specs.declared.question.Failure.{Failure}
use Rattle.round_explorer.specs.declared.question.Question.{Question}
use Rattle.round_explorer.specs.Answers.{run_of, with_inputs}
use Rattle.round_explorer.specs.Properties.{Counts, Terminates, decision_after}
use Rattle.round_explorer.specs.Questions.{Messages, failure_of}
use Rattle.round_proofs.specs.Explored.{Counted, IsRun}
use Rattle.round_proofs.specs.Machines.{Machine, Round, Spells}
use Rattle.round_proofs.specs.Progress.{HearsLiving, IsInvariant, IsProgress}
use Rattle.round_proofs.specs.Safety.{IsAgreed, IsKept, one_on}
use Rattle.round_proofs.specs.Terminating.{DecidesBy, LivingDecide, lives}
use Rattle.round_proofs.proofs.ClearRounds.{hears_living, never_fails}
use Rattle.round_proofs.proofs.Explored.{asked_run, down}
use Rattle.round_proofs.proofs.Safe.{at, holds, spelt, stays_decided}

-- what the nodes have come to after q of the rounds
staged : {Node Message : Type 0} (m : Machine Node Message) (s : Setup) (period : ℕ)
    (omits : ℕ → ℕ → ℕ → Bool) (last : ℕ) (Counts : ℕ → ℕ → Type 0) (decided : Node → Option ℕ)
    (Inv : ℕ → (ℕ → Node) → Type 0) (Locked : ℕ → (ℕ → Node) → ℕ → Type 0) (from many : ℕ)
    (living : ℕ → Bool) (Reached : ℕ → (ℕ → Node) → Type 0)
    → IsAgreed m s period omits last Counts decided Inv Locked
    → IsProgress m s period omits from many living decided Inv Reached → from + many ≤ last
    → (q : ℕ) → q ≤ many → Reached q (at m s period omits (from + q))
staged m s period omits last Counts decided Inv Locked from many living Reached safe d past zero le
    =
    let e : from ≡ from + 0 = omega arith in
    subst (λ r. Reached 0 (at m s period omits r)) e
    (d.begins (at m s period omits from)
    (holds m s period omits last Counts decided Inv Locked safe from (omega arith)))
staged m s period omits last Counts decided Inv Locked from many living Reached safe d past (suc q)
    le
    =
    let e : suc (from + q) ≡ from + suc q = omega arith in
    subst (λ r. Reached (suc q) (at m s period omits r)) e
    (d.gets_on q (at m s period omits (from + q)) (omega arith)
    (holds m s period omits last Counts decided Inv Locked safe (from + q) (omega arith))
    (staged m s period omits last Counts decided Inv Locked from many living Reached safe d past q
    (omega arith)))

-- each node that lives has decided after the last round
has_decided : {Node Message : Type 0} (m : Machine Node Message) (s : Setup) (period : ℕ)
    (omits : ℕ → ℕ → ℕ → Bool) (last : ℕ) (Counts : ℕ → ℕ → Type 0) (decided : Node → Option ℕ)
    (Inv : ℕ → (ℕ → Node) → Type 0) (Locked : ℕ → (ℕ → Node) → ℕ → Type 0) (from many : ℕ)
    (living : ℕ → Bool) (Reached : ℕ → (ℕ → Node) → Type 0)
    → IsAgreed m s period omits last Counts decided Inv Locked
    → IsKept m s period omits last Counts decided Inv
    → IsProgress m s period omits from many living decided Inv Reached → from + many ≤ last
    → ((i r : ℕ) → Counts i (suc r) → Counts i r)
    → (i : ℕ) → i < s.nodes → living i ≡ true → Counts i last
    → (v : ℕ) × (decided (at m s period omits last i) ≡ Some v)
has_decided m s period omits last Counts decided Inv Locked from many living Reached safe keep d
    past
    down i hi live c =
    let done = d.ends (at m s period omits (from + many)) i
    (holds m s period omits last Counts decided Inv Locked safe (from + many) past)
    (staged m s period omits last Counts decided Inv Locked from many living Reached safe d past
    many
    (omega arith)) hi live in
    let e : from + many + (last - (from + many)) ≡ last = omega arith in
    let stays = stays_decided m s period omits last Counts decided Inv Locked safe keep down i
    done.0 (from + many) (last - (from + many)) (omega arith) (subst (λ r. Counts i r) (sym e) c)
    done.1 in
    (done.0, subst (λ r. decided (at m s period omits r i) ≡ Some done.0) e stays)

-- an option that is some value isn't empty
pub some_is : (o : Option ℕ) (v : ℕ) → o ≡ Some v → IsSome o
some_is (Some u) v e = refl
some_is None v e = absurd (cc)

-- a window of rounds within those up to the last
pub record Window (last : ℕ) : Type 0 where
  pub from : ℕ
  pub many : ℕ
  pub past : from + many ≤ last

pub run_terminates : {Node Message : Type 0} (p : ProgramTree) (s : Setup)
    (m : Machine Node Message) (state : Node → List Value) (letter : Round → Message → List Value)
    (decided : Node → Option ℕ) (Inv : ℕ → (ℕ → Node) → Type 0)
    (Locked : ℕ → (ℕ → Node) → ℕ → Type 0) (inputs : List ℕ) (pattern : List Failure)
    (omits : ℕ → ℕ → ℕ → Bool) (win : Window s.rounds) (Reached : ℕ → (ℕ → Node) → Type 0)
    → Spells p s.nodes s.faults m state letter → ((a : Node) → decision p (state a) ≡ decided a)
    → IsAgreed m (with_inputs s inputs) p.period omits s.rounds (Counted s pattern) decided Inv
    Locked → IsKept m (with_inputs s inputs) p.period omits s.rounds (Counted s pattern) decided Inv
    → IsProgress m (with_inputs s inputs) p.period omits win.from win.many (lives pattern) decided
    Inv Reached → Terminates (run_of p s inputs pattern omits) s.rounds
run_terminates p s m state letter decided Inv Locked inputs pattern omits win Reached is shows safe
    keep d same i hi never =
    let it = has_decided m (with_inputs s inputs) p.period omits s.rounds (Counted s pattern)
    decided
    Inv Locked win.from win.many (lives pattern) Reached safe keep d win.past (down s pattern) i hi
    (never_fails (failure_of pattern i) never)
    (hi, subst (λ f. Counts f s.rounds) (sym never) tt) in
    some_is (decision_after (run_of p s inputs pattern omits) i s.rounds) it.0
    (spelt p (with_inputs s inputs) m state letter decided is shows omits s.rounds i ∙ it.1)

-- a run that is asked about, with its clear round
pub record IsClearRun (values : ℕ) (Asks : ℕ → ℕ → Question → Type 0) (bound : ℕ → ℕ → ℕ → ℕ)
    (s : Setup)
    (question : Question) (pattern : List Failure) (omits : Messages) (clear : ℕ) : Type 0 where
  pub run : IsRun values Asks s question pattern omits
  pub some : 1 ≤ clear
  pub has_clear : question.clear ≡ Some clear
  pub enough : bound s.nodes s.faults clear ≤ s.rounds
  pub hears : HearsLiving s (lives pattern) omits clear s.rounds

-- a program's nodes decide for all setups if in each run that is asked about they do so in some of
-- its rounds
pub decides_by : {Node Message : Type 0} (p : ProgramTree) (Asks : ℕ → ℕ → Question → Type 0)
    (bound : ℕ → ℕ → ℕ → ℕ) (machine : (n t : ℕ) → Machine Node Message) (state : Node → List Value)
    (letter : Round → Message → List Value) (decided : Node → Option ℕ)
    (Inv : Setup → List Failure → ℕ → (ℕ → Node) → Type 0)
    (Locked : Setup → List Failure → ℕ → (ℕ → Node) → ℕ → Type 0)
    (Reached : Setup → List Failure → (from : ℕ) → ℕ → (ℕ → Node) → Type 0)
    → ((n t : ℕ) → Spells p n t (machine n t) state letter)
    → ((a : Node) → decision p (state a) ≡ decided a)
    → ((s : Setup) (question : Question) (pattern : List Failure) (omits : Messages)
    → IsRun p.values Asks s question pattern omits
    → IsAgreed (machine s.nodes s.faults) s p.period omits s.rounds (Counted s pattern) decided
    (Inv s pattern) (Locked s pattern)
    × IsKept (machine s.nodes s.faults) s p.period omits s.rounds (Counted s pattern) decided
    (Inv s pattern))
    → ((s : Setup) (question : Question) (pattern : List Failure) (omits : Messages) (clear : ℕ)
    → IsClearRun p.values Asks bound s question pattern omits clear
    → (win : Window s.rounds)
    × IsProgress (machine s.nodes s.faults) s p.period omits win.from win.many (lives pattern)
    decided (Inv s pattern) (Reached s pattern win.from))
    → DecidesBy p Asks bound
decides_by p Asks bound machine state letter decided Inv Locked Reached is shows safe gets s
    question clear sized asks has some enough inputs pattern omits asked =
    let z = with_inputs s inputs in
    let run = asked_run p Asks s question inputs pattern omits sized asks asked in
    let both = safe z question pattern omits run in
    let win = gets z question pattern omits clear (record {
      run = run;
      some = some;
      has_clear = has;
      enough = enough;
      hears = hears_living question z pattern omits clear has some run.fails run.table;
    }) in
    run_terminates p s (machine s.nodes s.faults) state letter decided (Inv z pattern)
    (Locked z pattern) inputs pattern omits win.0 (Reached z pattern win.0.from)
    (is s.nodes s.faults) shows both.0 both.1 win.1

-- the same for the program, under one omission table
pub machine_decides : {Node Message : Type 0} (p : ProgramTree) (s : Setup)
    (m : Machine Node Message) (state : Node → List Value) (letter : Round → Message → List Value)
    (decided : Node → Option ℕ) (Inv : ℕ → (ℕ → Node) → Type 0)
    (Locked : ℕ → (ℕ → Node) → ℕ → Type 0) (omits : ℕ → ℕ → ℕ → Bool) (last : ℕ)
    (living : ℕ → Bool) (win : Window last) (Reached : ℕ → (ℕ → Node) → Type 0)
    → Spells p s.nodes s.faults m state letter → ((a : Node) → decision p (state a) ≡ decided a)
    → IsAgreed m s p.period omits last (λ i r. i < s.nodes) decided Inv Locked
    → IsKept m s p.period omits last (λ i r. i < s.nodes) decided Inv
    → IsProgress m s p.period omits win.from win.many living decided Inv Reached
    → (i : ℕ) → i < s.nodes → living i ≡ true → (v : ℕ) × Decides p s omits last i v
machine_decides p s m state letter decided Inv Locked omits last living win Reached is shows safe
    keep
    d i hi live =
    let it = has_decided m s p.period omits last (λ i r. i < s.nodes) decided Inv Locked win.from
    win.many living Reached safe keep d win.past (λ i r c. c) i hi live hi in
    (it.0, spelt p s m state letter decided is shows omits last i ∙ it.1)

-- if the living decide under every omission table, nodes that don't fail do in each run that is
-- asked about
pub asked_decide : (p : ProgramTree) (Few : ℕ → ℕ → Type 0) (bound : ℕ → ℕ → ℕ → ℕ)
    → LivingDecide p Few bound → DecidesBy p (λ n t question. Few n t) bound
asked_decide p Few bound all s question clear sized few has some enough inputs pattern omits asked
    same i hi never =
    let run = asked_run p (λ n t question. Few n t) s question inputs pattern omits sized few asked
    in
    let it = all (with_inputs s inputs) clear run.fit few some omits (lives pattern) s.rounds
    (hears_living question (with_inputs s inputs) pattern omits clear has some run.fails run.table)
    enough i hi (never_fails (failure_of pattern i) never) in
    some_is (decision_after (run_of p s inputs pattern omits) i s.rounds) it.0 it.1

-- that a node has decided, without what
abbrev forget : Option ℕ → Option ℕ
forget None = None
forget (Some v) = Some 0

forgets : (o : Option ℕ) (v : ℕ) → o ≡ Some v → forget o ≡ Some 0
forgets None v e = absurd (cc)
forgets (Some u) v e = refl

only_zero : (o : Option ℕ) (v : ℕ) → forget o ≡ Some v → v ≡ 0
only_zero None v e = absurd (cc)
only_zero (Some u) v e = cc

some_before : (o : Option ℕ) (v : ℕ) → forget o ≡ Some v → (u : ℕ) × (o ≡ Some u)
some_before None v e = absurd (cc)
some_before (Some u) v e = (u, refl)

-- nodes decide in each run that is asked about, also if they needn't agree
run_decides : {Node Message : Type 0} (p : ProgramTree) (s : Setup)
    (m : Machine Node Message) (state : Node → List Value) (letter : Round → Message → List Value)
    (decided : Node → Option ℕ) (Inv : ℕ → (ℕ → Node) → Type 0) (inputs : List ℕ)
    (pattern : List Failure) (omits : ℕ → ℕ → ℕ → Bool) (win : Window s.rounds)
    (Reached : ℕ → (ℕ → Node) → Type 0)
    → Spells p s.nodes s.faults m state letter → ((a : Node) → decision p (state a) ≡ decided a)
    → IsInvariant m (with_inputs s inputs) p.period omits s.rounds Inv
    → IsKept m (with_inputs s inputs) p.period omits s.rounds (Counted s pattern) decided Inv
    → IsProgress m (with_inputs s inputs) p.period omits win.from win.many (lives pattern) decided
    Inv Reached → Terminates (run_of p s inputs pattern omits) s.rounds
run_decides {Node = Node} p s m state letter decided Inv inputs pattern omits win Reached is shows
    inv keep d same i hi never =
    let z = with_inputs s inputs in
    let it = has_decided m z p.period omits s.rounds (Counted s pattern)
    (λ a. forget (decided a)) Inv (λ r w v. v ≡ 0) win.from win.many (lives pattern) Reached
    (record {
      starts = inv.starts;
      goes_on = inv.goes_on;
      locks = λ r w i v le inv c d. only_zero (decided (w i)) v d;
      stays = λ r w v lt inv l. l;
      one = λ r w v u le inv a b. a ∙ sym b;
    })
    (record {
      keeps = λ r w i v lt inv c d.
          let before = some_before (decided (w i)) v d in
          let after = keep.keeps r w i before.0 lt inv c before.1 in
          (0, forgets (decided (one_on m z p.period omits r w i)) after.0 after.1);
    })
    (record {
      begins = d.begins;
      gets_on = d.gets_on;
      ends = λ w i inv h hi live.
          let one = d.ends w i inv h hi live in (0, forgets (decided (w i)) one.0 one.1);
    }) win.past (down s pattern) i hi (never_fails (failure_of pattern i) never)
    (hi, subst (λ f. Counts f s.rounds) (sym never) tt) in
    let one = some_before (decided (at m z p.period omits s.rounds i)) it.0 it.1 in
    some_is (decision_after (run_of p s inputs pattern omits) i s.rounds) one.0
    (spelt p z m state letter decided is shows omits s.rounds i ∙ one.1)

-- so a program's nodes decide for all setups, also if they needn't agree
pub decides_anyway : {Node Message : Type 0} (p : ProgramTree) (Asks : ℕ → ℕ → Question → Type 0)
    (bound : ℕ → ℕ → ℕ → ℕ) (machine : (n t : ℕ) → Machine Node Message) (state : Node → List Value)
    (letter : Round → Message → List Value) (decided : Node → Option ℕ)
    (Inv : Setup → List Failure → ℕ → (ℕ → Node) → Type 0)
    (Reached : Setup → List Failure → (from : ℕ) → ℕ → (ℕ → Node) → Type 0)
    → ((n t : ℕ) → Spells p n t (machine n t) state letter)
    → ((a : Node) → decision p (state a) ≡ decided a)
    → ((s : Setup) (question : Question) (pattern : List Failure) (omits : Messages)
    → IsRun p.values Asks s question pattern omits
    → IsInvariant (machine s.nodes s.faults) s p.period omits s.rounds (Inv s pattern)
    × IsKept (machine s.nodes s.faults) s p.period omits s.rounds (Counted s pattern) decided
    (Inv s pattern))
    → ((s : Setup) (question : Question) (pattern : List Failure) (omits : Messages) (clear : ℕ)
    → IsClearRun p.values Asks bound s question pattern omits clear
    → (win : Window s.rounds)
    × IsProgress (machine s.nodes s.faults) s p.period omits win.from win.many (lives pattern)
    decided (Inv s pattern) (Reached s pattern win.from))
    → DecidesBy p Asks bound
decides_anyway p Asks bound machine state letter decided Inv Reached is shows keeps gets s question
    clear sized asks has some enough inputs pattern omits asked =
    let z = with_inputs s inputs in
    let run = asked_run p Asks s question inputs pattern omits sized asks asked in
    let both = keeps z question pattern omits run in
    let win = gets z question pattern omits clear (record {
      run = run;
      some = some;
      has_clear = has;
      enough = enough;
      hears = hears_living question z pattern omits clear has some run.fails run.table;
    }) in
    run_decides p s (machine s.nodes s.faults) state letter decided (Inv z pattern) inputs pattern
    omits win.0 (Reached z pattern win.0.from) (is s.nodes s.faults) shows both.0 both.1 win.1
