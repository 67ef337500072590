-- Which line may stand at which place, and whether its numbers are small.
use Rattle.std.proofs.Common.{◌≡◌, ℕ, zero, suc, ◌≤◌, leb, le-leb, Bool, true, false, cond, List}
use Rattle.std.proofs.Common.{[], ◌∷◌, get_or, Ok, Err, refl, sym, ap, subst, ◌∙◌, arith}
use Rattle.std.specs.List.{list_all}
use Rattle.std.proofs.lemmas.Bool.{leb-true}
use Rattle.std.proofs.lemmas.List.{get_or_past}
use Rattle.std.proofs.lemmas.List.Sums.{AllPass-from_list_all, list_all-from_AllPass}
use Rattle.schedule_text.specs.declared.fault.LineFault.{LineFault}
use Rattle.schedule_text.specs.declared.fault.LineFault.TheVariants as line
use Rattle.schedule_text.specs.Numbers.{max_number}
use Rattle.schedule_text.specs.declared.kind.Kind.{Kind}
use Rattle.schedule_text.specs.declared.kind.Kind.TheVariants.{Schedule, Threads, Header}
use Rattle.schedule_text.specs.Lines.{Line, nodes, faults, inputs, rounds, plan, event, pace, stop}
use Rattle.schedule_text.specs.Lines.{HasForm, HasSmallNumbers, Tells, numbers_of}
use Rattle.schedule_text.specs.Readings.{MayStandAt}
use Rattle.schedule_text.specs.Stages.{sized}
use Rattle.schedule_text.proofs.Forms.{Place, at_nodes, at_faults, at_inputs, at_rounds, at_plan}
use Rattle.schedule_text.proofs.Forms.{at_end, at_event, at_pace, at_stop, form_read, line_of}
use Rattle.schedule_text.proofs.Forms.{stands_at}

-- the places that come once behind the header, and then those of all other lines
abbrev next_places : Kind → List Place
next_places Threads = at_pace ∷ []
next_places _ = []

abbrev other_place : Kind → Place
other_place Schedule = at_event
other_place Threads = at_stop
other_place Header = at_end

-- the place of the line behind so many
abbrev pub place_at : Kind → ℕ → Place
place_at kind k =
    get_or (at_nodes ∷ at_faults ∷ at_inputs ∷ at_rounds ∷ at_plan ∷ next_places kind) k
    (other_place kind)

abbrev IsAt : Kind → Place → ℕ → Type 0
IsAt kind at_nodes k = k ≡ 0
IsAt kind at_faults k = k ≡ 1
IsAt kind at_inputs k = k ≡ 2
IsAt kind at_rounds k = k ≡ 3
IsAt kind at_plan k = k ≡ 4
IsAt kind at_event k = (kind ≡ Schedule) × (5 ≤ k)
IsAt kind at_pace k = (kind ≡ Threads) × (k ≡ 5)
IsAt kind at_stop k = (kind ≡ Threads) × (6 ≤ k)
IsAt kind at_end k = Unit {0}

is_behind : (kind : Kind) (k : ℕ)
    → IsAt kind (get_or (next_places kind) k (other_place kind)) (suc (suc (suc (suc (suc k)))))
is_behind Schedule k = (refl, omega arith)
is_behind Threads zero = (refl, refl)
is_behind Threads (suc k) = (refl, omega arith)
is_behind Header k = tt

is_at : (kind : Kind) (k : ℕ) → IsAt kind (place_at kind k) k
is_at kind zero = refl
is_at kind (suc zero) = refl
is_at kind (suc (suc zero)) = refl
is_at kind (suc (suc (suc zero))) = refl
is_at kind (suc (suc (suc (suc zero)))) = refl
is_at kind (suc (suc (suc (suc (suc k))))) = is_behind kind k

pub may_stand : (kind : Kind) (k : ℕ) (x : Line) → stands_at x ≡ place_at kind k
    → MayStandAt kind k x
may_stand kind k (nodes n) e = subst (λ (p : Place). IsAt kind p k) (sym e) (is_at kind k)
may_stand kind k (faults n) e = subst (λ (p : Place). IsAt kind p k) (sym e) (is_at kind k)
may_stand kind k (inputs vs) e = subst (λ (p : Place). IsAt kind p k) (sym e) (is_at kind k)
may_stand kind k (rounds n) e = subst (λ (p : Place). IsAt kind p k) (sym e) (is_at kind k)
may_stand kind k (plan p) e = subst (λ (p : Place). IsAt kind p k) (sym e) (is_at kind k)
may_stand kind k (event d) e = subst (λ (p : Place). IsAt kind p k) (sym e) (is_at kind k)
may_stand kind k (pace x) e = subst (λ (p : Place). IsAt kind p k) (sym e) (is_at kind k)
may_stand kind k (stop s) e = subst (λ (p : Place). IsAt kind p k) (sym e) (is_at kind k)

event_place : (kind : Kind) (k : ℕ) → kind ≡ Schedule → 5 ≤ k → at_event ≡ place_at kind k
event_place Schedule k is le =
    sym (get_or_past (at_nodes ∷ at_faults ∷ at_inputs ∷ at_rounds ∷ at_plan ∷ []) k at_event le)
event_place Threads k is le = absurd cc
event_place Header k is le = absurd cc

stop_place : (kind : Kind) (k : ℕ) → kind ≡ Threads → 6 ≤ k → at_stop ≡ place_at kind k
stop_place Schedule k is le = absurd cc
stop_place Threads k is le =
    sym (get_or_past (at_nodes ∷ at_faults ∷ at_inputs ∷ at_rounds ∷ at_plan ∷ at_pace ∷ []) k
    at_stop le)
stop_place Header k is le = absurd cc

pub stands : (kind : Kind) (k : ℕ) (x : Line) → MayStandAt kind k x → stands_at x ≡ place_at kind k
stands kind k (nodes n) h = sym (ap (place_at kind) h)
stands kind k (faults n) h = sym (ap (place_at kind) h)
stands kind k (inputs vs) h = sym (ap (place_at kind) h)
stands kind k (rounds n) h = sym (ap (place_at kind) h)
stands kind k (plan p) h = sym (ap (place_at kind) h)
stands kind k (event d) h = event_place kind k h.0 h.1
stands kind k (pace x) h = sym (ap (place_at kind) h.1 ∙ ap (λ c. place_at c 5) h.0)
stands kind k (stop s) h = stop_place kind k h.0 h.1

-- whether numbers are small
abbrev pub are_small : List ℕ → Bool
are_small vs = list_all (λ v. leb v max_number) vs

pub small_numbers : (x : Line) → are_small (numbers_of x) ≡ true → HasSmallNumbers x
small_numbers x h = λ k d lt. leb-true (get_or (numbers_of x) k d) max_number
    (AllPass-from_list_all (λ v. leb v max_number) (numbers_of x) h k d lt)

pub small_passes : (x : Line) → HasSmallNumbers x → are_small (numbers_of x) ≡ true
small_passes x h = list_all-from_AllPass (λ v. leb v max_number) (numbers_of x)
    (λ k d lt. le-leb (get_or (numbers_of x) k d) max_number (h k d lt))

cond_ok : (b : Bool) (x y : Line) → Ok x ≡ cond b (Ok y) (Err line.Large) → (b ≡ true) × (x ≡ y)
cond_ok true x y h = (refl, cc)
cond_ok false x y h = absurd cc

cond_err : (b : Bool) (f : LineFault) (y : Line) → Err f ≡ cond b (Ok y) (Err line.Large)
    → (b ≡ false) × (f ≡ line.Large)
cond_err true f y h = absurd cc
cond_err false f y h = (refl, cc)

-- what was sized as good has small numbers
pub sized_ok : (x y : Line) → Ok x ≡ sized (numbers_of y) y → HasSmallNumbers y × (x ≡ y)
sized_ok x y h = let c = cond_ok (are_small (numbers_of y)) x y h in (small_numbers y c.0, c.1)

-- what wasn't is too large
pub sized_err : (f : LineFault) (y : Line) → Err f ≡ sized (numbers_of y) y
    → (¬ HasSmallNumbers y) × (f ≡ line.Large)
sized_err f y h =
    let c = cond_err (are_small (numbers_of y)) f y h in
    (λ s. let t = small_passes y s in absurd (cc (t, c.0)), c.1)

-- what a line tells at a place is read of it
pub tells_read : (kind : Kind) (k : ℕ) (l : List ℕ) (x : Line) → HasForm l x → MayStandAt kind k x
    → line_of (place_at kind k) l ≡ sized (numbers_of x) x
tells_read kind k l x form place = ap (λ p. line_of p l) (sym (stands kind k x place))
    ∙ form_read l x form

-- small numbers are read as they are
pub sized_small : (x : Line) → HasSmallNumbers x → sized (numbers_of x) x ≡ Ok x
sized_small x s = ap (λ b. cond b (Ok x) (Err line.Large)) (small_passes x s)

-- a line tells one thing at its place
pub tells_one : (l : List ℕ) (x y : Line) → Tells l x → Tells l y → stands_at x ≡ stands_at y
    → x ≡ y
tells_one l x y h g e =
    let a = form_read l x h.form ∙ sized_small x h.small in
    let b = form_read l y g.form ∙ sized_small y g.small in
    let same : Ok x ≡ Ok y = sym a ∙ ap (λ p. line_of p l) e ∙ b in
    cc
