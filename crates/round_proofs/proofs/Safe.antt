-- The obligations are enough, under one omission table.
use Rattle.std.proofs.Common.{◌≡◌, ℕ, zero, suc, ◌+◌, ◌-◌, ◌<◌, ◌≤◌, Bool, List, sym, ap, ◌∙◌}
use Rattle.std.proofs.Common.{subst, inl, inr, ◌⊎◌, Option, Some, arith}
use Rattle.std.proofs.lemmas.Bool.{cases_lt}
use Rattle.std.proofs.lemmas.List.Elements.{All-get_or}
use Rattle.round_meaning.specs.Setups.{IsLawful}
use Rattle.std.specs.Prelude.{slice_index}
use Rattle.round_lang.specs.declared.value.Value.{Value}
use Rattle.round_lang.specs.Syntax.{ProgramTree}
use Rattle.round_meaning.specs.declared.setup.Setup.{Setup}
use Rattle.round_meaning.specs.Agreement.{Decides, IsInput}
use Rattle.round_meaning.specs.Rounds.{algorithm_of, rounds}
use Rattle.round_meaning.specs.Turn.{decision}
use Rattle.round_proofs.specs.Machines.{Machine, Round, Spells, world_after}
use Rattle.round_proofs.specs.Safety.{AgreesUnder, IsAgreed, IsFit, IsKept, IsSafe, ValidUnder}
use Rattle.round_proofs.proofs.MachineRuns.{rounds_run}

-- the states after r rounds of a run
abbrev pub at : {Node Message : Type 0} → Machine Node Message → Setup → ℕ → (ℕ → ℕ → ℕ → Bool) → ℕ
    → ℕ → Node
at m s period omits r = world_after m s.nodes period (slice_index s.inputs) omits r

-- the invariant holds after each round
pub holds : {Node Message : Type 0} (m : Machine Node Message) (s : Setup) (period : ℕ)
    (omits : ℕ → ℕ → ℕ → Bool) (last : ℕ) (Counts : ℕ → ℕ → Type 0) (decided : Node → Option ℕ)
    (Inv : ℕ → (ℕ → Node) → Type 0) (Locked : ℕ → (ℕ → Node) → ℕ → Type 0)
    → IsAgreed m s period omits last Counts decided Inv Locked → (r : ℕ) → r ≤ last
    → Inv r (at m s period omits r)
holds m s period omits last Counts decided Inv Locked safe zero le = safe.starts
holds m s period omits last Counts decided Inv Locked safe (suc r) le =
    safe.goes_on r (at m s period omits r) (omega arith)
    (holds m s period omits last Counts decided Inv Locked safe r (omega arith))

-- a lock stays
locked_on : {Node Message : Type 0} (m : Machine Node Message) (s : Setup) (period : ℕ)
    (omits : ℕ → ℕ → ℕ → Bool) (last : ℕ) (Counts : ℕ → ℕ → Type 0) (decided : Node → Option ℕ)
    (Inv : ℕ → (ℕ → Node) → Type 0) (Locked : ℕ → (ℕ → Node) → ℕ → Type 0)
    → IsAgreed m s period omits last Counts decided Inv Locked → (v r d : ℕ) → r + d ≤ last
    → Locked r (at m s period omits r) v → Locked (r + d) (at m s period omits (r + d)) v
locked_on m s period omits last Counts decided Inv Locked safe v r zero le h =
    let e : r ≡ r + 0 = omega arith in
    subst (λ q. Locked q (at m s period omits q) v) e h
locked_on m s period omits last Counts decided Inv Locked safe v r (suc d) le h =
    let e : suc (r + d) ≡ r + suc d = omega arith in
    subst (λ q. Locked q (at m s period omits q) v) e
    (safe.stays (r + d) (at m s period omits (r + d)) v (omega arith)
    (holds m s period omits last Counts decided Inv Locked safe (r + d) (omega arith))
    (locked_on m s period omits last Counts decided Inv Locked safe v r d (omega arith) h))

-- two locked values are one, whenever they were locked
same : {Node Message : Type 0} (m : Machine Node Message) (s : Setup) (period : ℕ)
    (omits : ℕ → ℕ → ℕ → Bool) (last : ℕ) (Counts : ℕ → ℕ → Type 0) (decided : Node → Option ℕ)
    (Inv : ℕ → (ℕ → Node) → Type 0) (Locked : ℕ → (ℕ → Node) → ℕ → Type 0)
    → IsAgreed m s period omits last Counts decided Inv Locked → (v u r q : ℕ) → r ≤ q → q ≤ last
    → Locked r (at m s period omits r) v → Locked q (at m s period omits q) u → v ≡ u
same m s period omits last Counts decided Inv Locked safe v u r q le past a b =
    let e : r + (q - r) ≡ q = omega arith in
    let late = locked_on m s period omits last Counts decided Inv Locked safe v r (q - r)
    (omega arith) a in
    safe.one q (at m s period omits q) v u past
    (holds m s period omits last Counts decided Inv Locked safe q past)
    (subst (λ n. Locked n (at m s period omits n) v) e late) b

-- any two decisions of the machine that count are equal
agree : {Node Message : Type 0} (m : Machine Node Message) (s : Setup) (period : ℕ)
    (omits : ℕ → ℕ → ℕ → Bool) (last : ℕ) (Counts : ℕ → ℕ → Type 0) (decided : Node → Option ℕ)
    (Inv : ℕ → (ℕ → Node) → Type 0) (Locked : ℕ → (ℕ → Node) → ℕ → Type 0)
    → IsAgreed m s period omits last Counts decided Inv Locked → (i j r q v u : ℕ) → r ≤ last → q
    ≤ last → Counts i r → Counts j q
    → decided (at m s period omits r i) ≡ Some v → decided (at m s period omits q j) ≡ Some u
    → v ≡ u
agree m s period omits last Counts decided Inv Locked safe i j r q v u hr hq ci cj a b =
    go (cases_lt r q)
  where
    x : Locked r (at m s period omits r) v
    x = safe.locks r (at m s period omits r) i v hr
        (holds m s period omits last Counts decided Inv Locked safe r hr) ci a

    y : Locked q (at m s period omits q) u
    y = safe.locks q (at m s period omits q) j u hq
        (holds m s period omits last Counts decided Inv Locked safe q hq) cj b

    go : (r < q) ⊎ (q ≤ r) → v ≡ u
    go (inl l) = same m s period omits last Counts decided Inv Locked safe v u r q (omega arith) hq
        x y
    go (inr l) = sym (same m s period omits last Counts decided Inv Locked safe u v q r l hr y x)

-- a decision of the machine stays
pub stays_decided : {Node Message : Type 0} (m : Machine Node Message) (s : Setup) (period : ℕ)
    (omits : ℕ → ℕ → ℕ → Bool) (last : ℕ) (Counts : ℕ → ℕ → Type 0) (decided : Node → Option ℕ)
    (Inv : ℕ → (ℕ → Node) → Type 0) (Locked : ℕ → (ℕ → Node) → ℕ → Type 0)
    → IsAgreed m s period omits last Counts decided Inv Locked
    → IsKept m s period omits last Counts decided Inv
    → ((i r : ℕ) → Counts i (suc r) → Counts i r) → (i v q d : ℕ) → q + d ≤ last
    → Counts i (q + d) → decided (at m s period omits q i) ≡ Some v
    → decided (at m s period omits (q + d) i) ≡ Some v
stays_decided m s period omits last Counts decided Inv Locked safe keep down i v q zero le c h =
    let e : q ≡ q + 0 = omega arith in
    subst (λ n. decided (at m s period omits n i) ≡ Some v) e h
stays_decided m s period omits last Counts decided Inv Locked safe keep down i v q (suc d) le c h =
    let e : suc (q + d) ≡ q + suc d = omega arith in
    let now : Counts i (suc (q + d)) = subst (λ n. Counts i n) (sym e) c in
    let was = stays_decided m s period omits last Counts decided Inv Locked safe keep down i v q d
    (omega arith) (down i (q + d) now) h in
    let inv = holds m s period omits last Counts decided Inv Locked safe (q + d) (omega arith) in
    let next = holds m s period omits last Counts decided Inv Locked safe (suc (q + d))
    (omega arith)
    in
    let it = keep.keeps (q + d) (at m s period omits (q + d)) i v (omega arith) inv now was in
    let old = safe.stays (q + d) (at m s period omits (q + d)) v (omega arith) inv
    (safe.locks (q + d) (at m s period omits (q + d)) i v (omega arith) inv (down i (q + d) now)
    was)
    in
    let new = safe.locks (suc (q + d)) (at m s period omits (suc (q + d))) i it.0 (omega arith) next
    now it.1 in
    let same = safe.one (suc (q + d)) (at m s period omits (suc (q + d))) it.0 v (omega arith) next
    new old in
    subst (λ n. decided (at m s period omits n i) ≡ Some v) e
    (subst (λ x. decided (at m s period omits (suc (q + d)) i) ≡ Some x) same it.1)

-- the program's decisions are the machine's
pub spelt : {Node Message : Type 0} (p : ProgramTree) (s : Setup) (m : Machine Node Message)
    (state : Node → List Value) (letter : Round → Message → List Value) (decided : Node → Option ℕ)
    → Spells p s.nodes s.faults m state letter → ((a : Node) → decision p (state a) ≡ decided a)
    → (omits : ℕ → ℕ → ℕ → Bool) (r i : ℕ)
    → decision p (rounds (algorithm_of p s) omits r i) ≡ decided (at m s p.period omits r i)
spelt p s m state letter decided is shows omits r i =
    ap (λ (f : ℕ → List Value). decision p (f i))
    (rounds_run p s.nodes s.faults m state letter is (slice_index s.inputs) omits r)
    ∙ shows (at m s p.period omits r i)

-- any two decisions of the program that count are equal, under this omission table
pub agrees : {Node Message : Type 0} (p : ProgramTree) (s : Setup) (m : Machine Node Message)
    (state : Node → List Value) (letter : Round → Message → List Value) (decided : Node → Option ℕ)
    (Inv : ℕ → (ℕ → Node) → Type 0) (Locked : ℕ → (ℕ → Node) → ℕ → Type 0)
    (omits : ℕ → ℕ → ℕ → Bool) (last : ℕ) (Counts : ℕ → ℕ → Type 0)
    → Spells p s.nodes s.faults m state letter → ((a : Node) → decision p (state a) ≡ decided a)
    → IsAgreed m s p.period omits last Counts decided Inv Locked → (i j r q v u : ℕ)
    → r ≤ last → q ≤ last → Counts i r → Counts j q
    → Decides p s omits r i v → Decides p s omits q j u → v ≡ u
agrees p s m state letter decided Inv Locked omits last Counts is shows safe i j r q v u hr hq ci cj
    a b =
    agree m s p.period omits last Counts decided Inv Locked safe i j r q v u hr hq ci cj
    (sym (spelt p s m state letter decided is shows omits r i) ∙ a)
    (sym (spelt p s m state letter decided is shows omits q j) ∙ b)

-- and each decision is some node's input
pub is_valid : {Node Message : Type 0} (p : ProgramTree) (s : Setup) (m : Machine Node Message)
    (state : Node → List Value) (letter : Round → Message → List Value) (decided : Node → Option ℕ)
    (Inv : ℕ → (ℕ → Node) → Type 0) (Locked : ℕ → (ℕ → Node) → ℕ → Type 0)
    (omits : ℕ → ℕ → ℕ → Bool) (last : ℕ) (Counts : ℕ → ℕ → Type 0)
    → Spells p s.nodes s.faults m state letter → ((a : Node) → decision p (state a) ≡ decided a)
    → IsSafe m s p.period omits last Counts decided Inv Locked → (i r v : ℕ)
    → r ≤ last → Counts i r → Decides p s omits r i v → IsInput s v
is_valid p s m state letter decided Inv Locked omits last Counts is shows safe i r v hr ci a =
    let w = at m s p.period omits r in
    let here = holds m s p.period omits last Counts decided Inv Locked safe.agreed r hr in
    safe.valid r w v hr here
    (safe.locks r w i v hr here ci (sym (spelt p s m state letter decided is shows omits r i) ∙ a))

-- and each decision stays
pub is_final : {Node Message : Type 0} (p : ProgramTree) (s : Setup) (m : Machine Node Message)
    (state : Node → List Value) (letter : Round → Message → List Value) (decided : Node → Option ℕ)
    (Inv : ℕ → (ℕ → Node) → Type 0) (Locked : ℕ → (ℕ → Node) → ℕ → Type 0)
    (omits : ℕ → ℕ → ℕ → Bool) (last : ℕ) (Counts : ℕ → ℕ → Type 0)
    → Spells p s.nodes s.faults m state letter → ((a : Node) → decision p (state a) ≡ decided a)
    → IsAgreed m s p.period omits last Counts decided Inv Locked
    → IsKept m s p.period omits last Counts decided Inv
    → ((i r : ℕ) → Counts i (suc r) → Counts i r) → (i q r v : ℕ) → q ≤ r → r ≤ last → Counts i r
    → Decides p s omits q i v → Decides p s omits r i v
is_final p s m state letter decided Inv Locked omits last Counts is shows safe keep down i q r v le
    past c a =
    let e : q + (r - q) ≡ r = omega arith in
    let was = sym (spelt p s m state letter decided is shows omits q i) ∙ a in
    let now = stays_decided m s p.period omits last Counts decided Inv Locked safe keep down i v q
    (r - q) (omega arith) (subst (λ n. Counts i n) (sym e) c) was in
    spelt p s m state letter decided is shows omits r i
    ∙ subst (λ n. decided (at m s p.period omits n i) ≡ Some v) e now

-- what is lawful is fit
pub fit_of : (k : ℕ) (s : Setup) → IsLawful k s → IsFit k s
fit_of k s h = record {
  some_node = h.sized.some_node;
  few_nodes = h.sized.few_nodes;
  inputs = h.sized.inputs;
  below = h.inputs;
}

-- an input is one of the values
pub input_below : (k : ℕ) (s : Setup) → IsFit k s → (v : ℕ) → IsInput s v → v < k
input_below k s fit v h =
    subst (λ x. x < k) h.2
    (All-get_or (λ x. x < k) s.inputs h.0 0 (omega (arith, h.1, fit.inputs)) fit.below)

-- a program agrees under the tables that are allowed if its machine does under each of them
pub agrees_under : {Node Message : Type 0} (p : ProgramTree)
    (Allowed : Setup → (ℕ → ℕ → ℕ → Bool) → Type 0) (machine : (n t : ℕ) → Machine Node Message)
    (state : Node → List Value) (letter : Round → Message → List Value) (decided : Node → Option ℕ)
    (Inv : Setup → ℕ → (ℕ → Node) → Type 0) (Locked : Setup → ℕ → (ℕ → Node) → ℕ → Type 0)
    → ((n t : ℕ) → Spells p n t (machine n t) state letter)
    → ((a : Node) → decision p (state a) ≡ decided a)
    → ((s : Setup) (omits : ℕ → ℕ → ℕ → Bool) (last : ℕ) → IsFit p.values s → Allowed s omits
    → IsSafe (machine s.nodes s.faults) s p.period omits last (λ i r. i < s.nodes) decided (Inv s)
    (Locked s)) → AgreesUnder Allowed p
agrees_under p Allowed machine state letter decided Inv Locked is shows safe s omits lawful allowed
    i j r q v u hi hj a b =
    agrees p s (machine s.nodes s.faults) state letter decided (Inv s) (Locked s) omits (r + q)
    (λ i r. i < s.nodes) (is s.nodes s.faults) shows
    (safe s omits (r + q) (fit_of p.values s lawful) allowed).agreed i j r q v u (omega arith)
    (omega arith) hi hj a b

-- the same for validity
pub valid_under : {Node Message : Type 0} (p : ProgramTree)
    (Allowed : Setup → (ℕ → ℕ → ℕ → Bool) → Type 0) (machine : (n t : ℕ) → Machine Node Message)
    (state : Node → List Value) (letter : Round → Message → List Value) (decided : Node → Option ℕ)
    (Inv : Setup → ℕ → (ℕ → Node) → Type 0) (Locked : Setup → ℕ → (ℕ → Node) → ℕ → Type 0)
    → ((n t : ℕ) → Spells p n t (machine n t) state letter)
    → ((a : Node) → decision p (state a) ≡ decided a)
    → ((s : Setup) (omits : ℕ → ℕ → ℕ → Bool) (last : ℕ) → IsFit p.values s → Allowed s omits
    → IsSafe (machine s.nodes s.faults) s p.period omits last (λ i r. i < s.nodes) decided (Inv s)
    (Locked s)) → ValidUnder Allowed p
valid_under p Allowed machine state letter decided Inv Locked is shows safe s omits lawful allowed i
    r v hi a =
    is_valid p s (machine s.nodes s.faults) state letter decided (Inv s) (Locked s) omits r
    (λ i r. i < s.nodes) (is s.nodes s.faults) shows
    (safe s omits r (fit_of p.values s lawful) allowed) i r v (omega arith) hi a
