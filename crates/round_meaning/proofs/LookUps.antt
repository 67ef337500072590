-- What a name stands for, by the place of its declaration.
use Rattle.std.proofs.Common.{◌≡◌, ℕ, suc, ◌+◌, ◌<◌, ◌≤◌, Bool, true, false, cond, List, [], ◌∷◌}
use Rattle.std.proofs.Common.{length, get_or, Option, Some, None, Result, Ok, Err, IfOk, position}
use Rattle.std.proofs.Common.{refl, sym, ap, ◌∙◌, subst, arith}
use Rattle.std.specs.Prelude.{not, nat_lt}
use Rattle.std.specs.List.{position_or_len}
use Rattle.std.specs.Str.{bytes_eq}
use Rattle.std.proofs.lemmas.Bool.Decides.{nat_tests}
use Rattle.round_lang.specs.declared.block.Field.{Field}
use Rattle.round_lang.specs.declared.program.Variable.{Variable}
use Rattle.round_lang.specs.declared.value.Value.{Value}
use Rattle.round_lang.specs.declared.value.Value.TheVariants.{Num}
use Rattle.round_lang.specs.Syntax.{ProgramTree}
use Rattle.round_lang.specs.Values.{at, set}
use Rattle.round_meaning.specs.Meaning.{Env, find_bound, find_field, find_var, look_up, or_number}
use Rattle.round_meaning.specs.Meaning.{or_value}
use Rattle.round_meaning.specs.Turn.{decided}

-- where the first field of a name stands
abbrev pub field_place : List Field → List ℕ → ℕ
field_place fs x = position_or_len (λ (f : Field). bytes_eq f.name x) fs

-- where the first variable of a name stands
abbrev pub variable_place : List Variable → List ℕ → ℕ
variable_place ds x = position_or_len (λ (d : Variable). bytes_eq d.name x) ds

place_found : (m n i : ℕ) (b : Bool) → b ≡ nat_lt m n → Some i ≡ cond b (Some m) None
    → (i ≡ m) × (m < n)
place_found m n i true q e = (cc, grind (arith, nat_tests))
place_found m n i false q e = (cc, cc)

place_missed : (m n : ℕ) (b : Bool) → b ≡ nat_lt m n
    → ◌≡◌ {A = Option ℕ} None (cond b (Some m) None) → n ≤ m
place_missed m n true q e = cc
place_missed m n false q e = grind (arith, nat_tests)

-- a place that was found is the first, and within the list
pub position-found : {X : Type 0} (p : X → Bool) (xs : List X) (i : ℕ) → Some i ≡ position p xs
    → (i ≡ position_or_len p xs) × (position_or_len p xs < length xs)
position-found p xs i e = place_found (position_or_len p xs) (length xs) i
    (nat_lt (position_or_len p xs) (length xs)) refl e

pub position-missed : {X : Type 0} (p : X → Bool) (xs : List X)
    → ◌≡◌ {A = Option ℕ} None (position p xs) → length xs ≤ position_or_len p xs
position-missed p xs e = place_missed (position_or_len p xs) (length xs)
    (nat_lt (position_or_len p xs) (length xs)) refl e

-- the value at a place of a longer list
at_step : (v : Value) (vs : List Value) (m : ℕ) → at (v ∷ vs) (1 + m) ≡ at vs m
at_step v vs m = let e : 1 + m ≡ suc m = omega arith in ap (at (v ∷ vs)) e

var_step : (b : Bool) (v : Value) (vs : List Value) (o : Option Value) (m n : ℕ)
    → (m < n → or_value o (Num 0) ≡ at vs m) → cond (not b) (1 + m) 0 < suc n
    → or_value (cond b (Some v) o) (Num 0) ≡ at (v ∷ vs) (cond (not b) (1 + m) 0)
var_step true v vs o m n ih h = refl
var_step false v vs o m n ih h = ih (omega arith) ∙ sym (at_step v vs m)

pub find_var-found : (ds : List Variable) (vs : List Value) (x : List ℕ)
    → variable_place ds x < length ds
    → or_value (find_var ds vs x) (Num 0) ≡ at vs (variable_place ds x)
find_var-found [] vs x h = absurd (omega arith)
find_var-found (d ∷ ds) [] x h = refl
find_var-found (d ∷ ds) (v ∷ vs) x h =
    var_step (bytes_eq d.name x) v vs (find_var ds vs x) (variable_place ds x) (length ds)
    (find_var-found ds vs x) h

missed_step : (b : Bool) (v : Value) (o : Option Value) (m n : ℕ) → (n ≤ m → o ≡ None)
    → suc n ≤ cond (not b) (1 + m) 0 → cond b (Some v) o ≡ None
missed_step true v o m n ih h = absurd (omega arith)
missed_step false v o m n ih h = ih (omega arith)

pub find_var-missed : (ds : List Variable) (vs : List Value) (x : List ℕ)
    → length ds ≤ variable_place ds x → find_var ds vs x ≡ None
find_var-missed [] vs x h = refl
find_var-missed (d ∷ ds) [] x h = refl
find_var-missed (d ∷ ds) (v ∷ vs) x h =
    missed_step (bytes_eq d.name x) v (find_var ds vs x) (variable_place ds x) (length ds)
    (find_var-missed ds vs x) h

field_step : (b : Bool) (v : Value) (vs : List Value) (o : Option Value) (m n : ℕ)
    → (m < n → m < length vs → o ≡ Some (at vs m)) → cond (not b) (1 + m) 0 < suc n
    → cond (not b) (1 + m) 0 < suc (length vs)
    → cond b (Some v) o ≡ Some (at (v ∷ vs) (cond (not b) (1 + m) 0))
field_step true v vs o m n ih h l = refl
field_step false v vs o m n ih h l = ih (omega arith) (omega arith) ∙ ap Some (sym (at_step v vs m))

pub find_field-found : (fs : List Field) (vs : List Value) (x : List ℕ)
    → field_place fs x < length fs → field_place fs x < length vs
    → find_field fs vs x ≡ Some (at vs (field_place fs x))
find_field-found [] vs x h l = absurd (omega arith)
find_field-found (f ∷ fs) [] x h l = absurd (omega arith)
find_field-found (f ∷ fs) (v ∷ vs) x h l =
    field_step (bytes_eq f.name x) v vs (find_field fs vs x) (field_place fs x) (length fs)
    (find_field-found fs vs x) h l

short_step : (b : Bool) (v : Value) (o : Option Value) (m n : ℕ) → (n ≤ m → o ≡ None)
    → suc n ≤ cond (not b) (1 + m) 0 → cond b (Some v) o ≡ None
short_step true v o m n ih h = absurd (omega arith)
short_step false v o m n ih h = ih (omega arith)

pub find_field-short : (fs : List Field) (vs : List Value) (x : List ℕ)
    → length vs ≤ field_place fs x → find_field fs vs x ≡ None
find_field-short [] vs x h = refl
find_field-short (f ∷ fs) [] x h = refl
find_field-short (f ∷ fs) (v ∷ vs) x h =
    short_step (bytes_eq f.name x) v (find_field fs vs x) (field_place fs x) (length vs)
    (find_field-short fs vs x) h

pub find_field-missed : (fs : List Field) (vs : List Value) (x : List ℕ)
    → length fs ≤ field_place fs x → find_field fs vs x ≡ None
find_field-missed [] vs x h = refl
find_field-missed (f ∷ fs) [] x h = refl
find_field-missed (f ∷ fs) (v ∷ vs) x h =
    short_step (bytes_eq f.name x) v (find_field fs vs x) (field_place fs x) (length fs)
    (find_field-missed fs vs x) h

-- a name that isn't bound stands for the field at its place
pub look_up-field : (env : Env) (x : List ℕ) (i : ℕ) → find_bound env.bound x ≡ None
    → Some i ≡ position (λ (f : Field). bytes_eq f.name x) env.fields → i < length env.message
    → look_up env x ≡ at env.message i
look_up-field env x i unbound found within =
    let here = position-found (λ (f : Field). bytes_eq f.name x) env.fields i found in
    let at_place : field_place env.fields x < length env.message =
    subst (λ n. n < length env.message) here.0 within in
    let rest = or_value (find_var env.variables env.vars x) (Num 0) in
    ap (λ o. or_number o (or_value (find_field env.fields env.message x) rest)) unbound
    ∙ ap (λ o. or_value o rest) (find_field-found env.fields env.message x here.1 at_place)
    ∙ ap (at env.message) (sym here.0)

-- a name that is neither bound nor a field stands for the variable at its place
pub look_up-variable : (env : Env) (x : List ℕ) (i : ℕ) → find_bound env.bound x ≡ None
    → find_field env.fields env.message x ≡ None
    → Some i ≡ position (λ (d : Variable). bytes_eq d.name x) env.variables
    → look_up env x ≡ at env.vars i
look_up-variable env x i unbound no_field found =
    let here = position-found (λ (d : Variable). bytes_eq d.name x) env.variables i found in
    let rest = or_value (find_var env.variables env.vars x) (Num 0) in
    ap (λ o. or_number o (or_value (find_field env.fields env.message x) rest)) unbound
    ∙ ap (λ o. or_value o rest) no_field
    ∙ find_var-found env.variables env.vars x here.1
    ∙ ap (at env.vars) (sym here.0)

-- a name that is nothing of these stands for the number 0
pub look_up-nothing : (env : Env) (x : List ℕ) → find_bound env.bound x ≡ None
    → find_field env.fields env.message x ≡ None
    → ◌≡◌ {A = Option ℕ} None (position (λ (d : Variable). bytes_eq d.name x) env.variables)
    → look_up env x ≡ Num 0
look_up-nothing env x unbound no_field missed =
    let rest = or_value (find_var env.variables env.vars x) (Num 0) in
    ap (λ o. or_number o (or_value (find_field env.fields env.message x) rest)) unbound
    ∙ ap (λ o. or_value o rest) no_field
    ∙ ap (λ o. or_value o (Num 0))
    (find_var-missed env.variables env.vars x
    (position-missed (λ (d : Variable). bytes_eq d.name x) env.variables missed))

-- a result that is x where it's Ok is y where x is
pub IfOk-same : {E : Type 0} (r : Result Value E) (x y : Value) → x ≡ y → IfOk r (λ v. v ≡ x)
    → IfOk r (λ v. v ≡ y)
IfOk-same (Ok v) x y e h = h ∙ e
IfOk-same (Err e') x y e h = tt

-- the decided set is that of the variable at the place of the first decided name
pub decided-found : (p : ProgramTree) (vs : List Value) (xs : List (List ℕ)) (x : List ℕ) (i : ℕ)
    → 1 ≤ length xs → x ≡ get_or xs 0 x
    → Some i ≡ position (λ (d : Variable). bytes_eq d.name x) p.variables
    → decided p vs xs ≡ set (at vs i)
decided-found p vs [] x i some first found = absurd (omega arith)
decided-found p vs (y ∷ ys) x i some first found =
    let here = position-found (λ (d : Variable). bytes_eq d.name x) p.variables i found in
    ap (λ n. set (or_value (find_var p.variables vs n) (Num 0))) (sym first)
    ∙ ap set (find_var-found p.variables vs x here.1 ∙ ap (at vs) (sym here.0))

pub decided-missed : (p : ProgramTree) (vs : List Value) (xs : List (List ℕ)) (x : List ℕ)
    → 1 ≤ length xs → x ≡ get_or xs 0 x
    → ◌≡◌ {A = Option ℕ} None (position (λ (d : Variable). bytes_eq d.name x) p.variables)
    → decided p vs xs ≡ 0
decided-missed p vs [] x some first missed = absurd (omega arith)
decided-missed p vs (y ∷ ys) x some first missed =
    ap (λ n. set (or_value (find_var p.variables vs n) (Num 0))) (sym first)
    ∙ ap (λ o. set (or_value o (Num 0)))
    (find_var-missed p.variables vs x
    (position-missed (λ (d : Variable). bytes_eq d.name x) p.variables missed))

pub decided-nothing : (p : ProgramTree) (vs : List Value) (xs : List (List ℕ)) → length xs < 1
    → decided p vs xs ≡ 0
decided-nothing p vs [] h = refl
decided-nothing p vs (y ∷ ys) h = absurd (omega arith)

-- a field without a value beside it stands for nothing
pub find_field-beyond : (fs : List Field) (vs : List Value) (x : List ℕ) (i : ℕ)
    → Some i ≡ position (λ (f : Field). bytes_eq f.name x) fs → length vs ≤ i
    → find_field fs vs x ≡ None
find_field-beyond fs vs x i found beyond =
    let here = position-found (λ (f : Field). bytes_eq f.name x) fs i found in
    find_field-short fs vs x (subst (λ n. length vs ≤ n) here.0 beyond)

pub find_field-absent : (fs : List Field) (vs : List Value) (x : List ℕ)
    → ◌≡◌ {A = Option ℕ} None (position (λ (f : Field). bytes_eq f.name x) fs)
    → find_field fs vs x ≡ None
find_field-absent fs vs x missed =
    find_field-missed fs vs x (position-missed (λ (f : Field). bytes_eq f.name x) fs missed)
