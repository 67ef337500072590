-- The initial values of a checked program know the input alone.
use Rattle.std.proofs.Common.{◌≡◌, ℕ, suc, ◌≤◌, Bool, true, false, cond, List, [], ◌∷◌, ◌++◌}
use Rattle.std.proofs.Common.{filter, length, Some, None, sym, refl, ap, ◌∙◌, subst, arith}
use Rattle.std.specs.Prelude.{◌&&◌, ◌||◌, All, not, nat_lt, count_by}
use Rattle.std.specs.List.{list_any}
use Rattle.std.specs.Str.{bytes_eq}
use Rattle.std.proofs.lemmas.Bool.Decides.{nat_tests}
use Rattle.std.proofs.lemmas.List.Elements.{All-cons}
use Rattle.std.proofs.lemmas.List.Sums.{length-filter}
use Rattle.round_lang.specs.declared.expr.Ty.{Ty}
use Rattle.round_lang.specs.declared.expr.Ty.TheVariants as ty
use Rattle.round_lang.specs.declared.program.Variable.{Variable}
use Rattle.round_lang.specs.declared.program.VariableKind.{VariableKind}
use Rattle.round_lang.specs.declared.program.VariableKind.TheVariants.{Input, State}
use Rattle.round_lang.specs.Syntax.{BlockTree, ProgramTree}
use Rattle.round_lang.specs.Tree.{Tree, TNumber, TFixed, TNamed, TUnary, TBinary, TIf, TSetOf}
use Rattle.round_lang.specs.Tree.{TRowOf}
use Rattle.round_check.proofs.Facts.{IsClear-typed, IsWellTyped-typed, fails-not, first_input-typed}
use Rattle.round_check.proofs.Facts.{has_type-some, neither}
use Rattle.round_check.proofs.TypeLaws.{Keeps, alike_keeps, binary_keeps, same_keeps, unary_keeps}
use Rattle.round_check.proofs.TypeLaws.{wants_keeps}
use Rattle.round_check.specs.Causes.{double_field, double_name, first_input, input_name, is_typed}
use Rattle.round_check.specs.Causes.{not_allowed_here, repeats_variable, second_input}
use Rattle.round_check.specs.Names.{contains_name, declares_state, is_input}
use Rattle.round_check.specs.Rules.{Scope, breaks, breaks_block, breaks_program, breaks_start}
use Rattle.round_check.specs.Rules.{breaks_target, start_scope}
use Rattle.round_check.specs.declared.rules.Place.TheVariants.{Start}
use Rattle.round_check.specs.declared.rules.Rule.TheVariants.{Allowed, Fresh}
use Rattle.round_check.specs.Types.{Context, context_with, has_type, type_of, variable_type}
use Rattle.round_check.specs.Types.{wrong_start}

-- no variable is the input, so each that has a type is a state variable
no_input_left : (ds : List Variable) (x : List ℕ) (t : Ty)
    → length (filter (λ (v : Variable). is_input v.kind) ds) ≡ 0 → declares_state ds x ≡ false
    → variable_type ds x ≡ Some t → ⊥
no_input_left [] x t none fresh found = absurd cc
no_input_left (d ∷ ds) x t none fresh found =
    by_kind (λ n f v. no_input_left ds x t n f v) d.kind refl (bytes_eq d.name x) refl
  where
    by_kind : (length (filter (λ (v : Variable). is_input v.kind) ds) ≡ 0
        → declares_state ds x ≡ false → variable_type ds x ≡ Some t → ⊥) → (k : VariableKind)
        → d.kind ≡ k → (b : Bool) → bytes_eq d.name x ≡ b → ⊥
    by_kind others Input kind b name =
        let more : length (filter (λ (v : Variable). is_input v.kind) (d ∷ ds))
        ≡ suc (length (filter (λ (v : Variable). is_input v.kind) ds)) = rw kind refl in
        cc (more, none)
    by_kind others (State r e) kind true name =
        let bad : declares_state (d ∷ ds) x ≡ true = rw (kind, name) refl in
        cc (bad, fresh)
    by_kind others (State r e) kind false name =
        others (rw kind at none) (rw (kind, name) at fresh) (rw name at found)

-- the name of a variable that is no state variable is the input's, and its type num
the_input : (ds : List Variable) (x y : List ℕ) (t : Ty)
    → length (filter (λ (v : Variable). is_input v.kind) ds) ≤ 1 → first_input ds ≡ Some y
    → declares_state ds x ≡ false → variable_type ds x ≡ Some t
    → (t ≡ ty.Num) × (bytes_eq y x ≡ true)
the_input [] x y t one input fresh found = absurd cc
the_input (d ∷ ds) x y t one input fresh found =
    by_kind (λ n i f v. the_input ds x y t n i f v) d.kind refl (bytes_eq d.name x) refl
  where
    by_kind : (length (filter (λ (v : Variable). is_input v.kind) ds) ≤ 1 → first_input ds ≡ Some y
        → declares_state ds x ≡ false → variable_type ds x ≡ Some t
        → (t ≡ ty.Num) × (bytes_eq y x ≡ true))
        → (k : VariableKind) → d.kind ≡ k → (b : Bool) → bytes_eq d.name x ≡ b
        → (t ≡ ty.Num) × (bytes_eq y x ≡ true)
    by_kind others Input kind true name =
        let named : Some d.name ≡ Some y = rw kind at input in
        let same : d.name ≡ y = cc named in
        let typed : Some ty.Num ≡ Some t = rw (name, kind) at found in
        let is : ty.Num ≡ t = cc typed in
        (sym is, ap (λ z. bytes_eq z x) (sym same) ∙ name)
    by_kind others Input kind false name =
        let fewer : suc (length (filter (λ (v : Variable). is_input v.kind) ds)) ≤ 1 =
        rw kind at one in
        let rest : declares_state ds x ≡ false = rw kind at fresh in
        let left : variable_type ds x ≡ Some t = rw name at found in
        absurd (no_input_left ds x t (omega (arith, fewer)) rest left)
    by_kind others (State r e) kind true name =
        let bad : declares_state (d ∷ ds) x ≡ true = rw (kind, name) refl in
        absurd (cc (bad, fresh))
    by_kind others (State r e) kind false name =
        others (rw kind at one) (rw kind at input) (rw (kind, name) at fresh) (rw name at found)

before_step : (c d e : Bool) → (d ≡ true → e ≡ true) → c || d ≡ true → c || e ≡ true
before_step true d e others h = refl
before_step false d e others h = others h

-- a name after others
contains_before : (B : List (List ℕ)) (x y : List ℕ) → contains_name B x ≡ true
    → contains_name (B ++ y ∷ []) x ≡ true
contains_before [] x y h = absurd cc
contains_before (b ∷ B) x y h = before_step (bytes_eq b x) (contains_name B x)
    (contains_name (B ++ y ∷ []) x) (contains_before B x y) h

last_step : (c e : Bool) → e ≡ true → c || e ≡ true
last_step true e h = refl
last_step false e h = h

contains_last : (B : List (List ℕ)) (x y : List ℕ) → bytes_eq y x ≡ true
    → contains_name (B ++ y ∷ []) x ≡ true
contains_last [] x y h = rw h refl
contains_last (b ∷ B) x y h =
    last_step (bytes_eq b x) (contains_name (B ++ y ∷ []) x) (contains_last B x y h)

module _ (ds : List Variable) (bs : List BlockTree) (y : List ℕ)
    (one : length (filter (λ (v : Variable). is_input v.kind) ds) ≤ 1)
    (input : first_input ds ≡ Some y) where
  abbrev scope : List (List ℕ) → Scope
  scope B = record { variables = ds; blocks = bs; fields = []; place = Start; bound = B }

  abbrev outside : List (List ℕ) → Context
  outside B = record { variables = ds; fields = []; bound = B }

  abbrev inside : List (List ℕ) → Context
  inside B = record { variables = []; fields = []; bound = B ++ y ∷ [] }

  -- an initial value knows the input alone, as a name in scope
  name_keeps : (B : List (List ℕ)) (x : List ℕ) (elsewhere : Bool) (t : Ty) (c : Bool)
      → contains_name B x ≡ c → not c && (elsewhere || declares_state ds x) ≡ false
      → cond c (Some ty.Num) (variable_type ds x) ≡ Some t
      → cond (contains_name (B ++ y ∷ []) x) (Some ty.Num) None ≡ Some t
  name_keeps B x elsewhere t true here fresh found =
      ap (λ c. cond c (Some ty.Num) None) (contains_before B x y here) ∙ found
  name_keeps B x elsewhere t false here fresh found =
      let rest = neither elsewhere (declares_state ds x) fresh in
      let is = the_input ds x y t one input rest.1 found in
      ap (λ c. cond c (Some ty.Num) None) (contains_last B x y is.1) ∙ ap Some (sym is.0)

  start_keeps : (e : Tree) (B : List (List ℕ)) → breaks Allowed e (scope B) ≡ false
      → Keeps (type_of e (outside B)) (type_of e (inside B))
  start_keeps (TNumber n) B fresh t h = h
  start_keeps (TFixed k) B fresh t h = h
  start_keeps (TNamed x) B fresh t h = name_keeps B x _ t (contains_name B x) refl fresh h
  start_keeps (TUnary op a) B fresh t h = unary_keeps op _ _ (start_keeps a B fresh) t h
  start_keeps (TBinary op a b) B fresh t h =
      let parts = neither (breaks Allowed a (scope B)) (breaks Allowed b (scope B)) fresh in
      binary_keeps op _ _ _ _ (start_keeps a B parts.0) (start_keeps b B parts.1) t h
  start_keeps (TIf c a b) B fresh t h =
      let two = neither (breaks Allowed c (scope B) || breaks Allowed a (scope B))
      (breaks Allowed b (scope B)) fresh in
      let one = neither (breaks Allowed c (scope B)) (breaks Allowed a (scope B)) two.0 in
      wants_keeps _ _ ty.Bool _ _ (start_keeps c B one.0)
      (alike_keeps _ _ _ _ _ _ (start_keeps a B one.1) (start_keeps b B two.1)
      (start_keeps a B one.1)) t h
  start_keeps (TSetOf x e) B fresh t h =
      wants_keeps _ _ ty.Bool _ _ (start_keeps e (x ∷ B) fresh) (same_keeps _) t h
  start_keeps (TRowOf x e) B fresh t h =
      wants_keeps _ _ ty.Num _ _ (start_keeps e (x ∷ B) fresh) (same_keeps _) t h

few_inputs : (n : ℕ) → nat_lt 1 n ≡ false → n ≤ 1
few_inputs n h = grind (arith, nat_tests)

module _ (p : ProgramTree) (typed : is_typed p ≡ true) where
  one_input : length (filter (λ (v : Variable). is_input v.kind) p.variables) ≤ 1
  unfolding double_name
  one_input =
      let repeats : Bool = repeats_variable p.variables in
      let second : Bool = second_input p.variables in
      let two : Bool = nat_lt 1 (length p.decides) in
      let fields : Bool = list_any (double_field p.variables) p.blocks in
      let last = neither (repeats || second || two || fields) (breaks_program Fresh p)
      (IsClear-typed p typed).names in
      let third = neither (repeats || second || two) fields last.0 in
      let first = neither (repeats || second) two third.0 in
      let count = few_inputs (count_by (λ (v : Variable). is_input v.kind) p.variables)
      (neither repeats second first.0).1 in
      subst (λ n. n ≤ 1) (sym (length-filter (λ (v : Variable). is_input v.kind) p.variables)) count

  starts_fresh : list_any (λ (v : Variable). breaks_start Allowed v.kind (start_scope p))
      p.variables ≡ false
  unfolding not_allowed_here
  starts_fresh =
      let starts : Bool =
      list_any (λ (v : Variable). breaks_start Allowed v.kind (start_scope p)) p.variables in
      let blocks : Bool = list_any (breaks_block Allowed (start_scope p)) p.blocks in
      let targets : Bool =
      list_any (λ (x : List ℕ). breaks_target Allowed x p.variables p.blocks) p.decides in
      (neither starts blocks
      (neither (starts || blocks) targets (IsClear-typed p typed).allowed).0).0

-- the initial value has its variable's type if the input's name alone is known
abbrev pub StartsWith : List ℕ → VariableKind → Type 0
StartsWith y Input = Unit {0}
StartsWith y (State r e) =
    type_of e (record { variables = []; fields = []; bound = y ∷ [] }) ≡ Some r

module _ (p : ProgramTree) (typed : is_typed p ≡ true) where
  start_with : (k : VariableKind) → wrong_start (context_with [] p) k ≡ false
      → breaks_start Allowed k (start_scope p) ≡ false → StartsWith (input_name p) k
  start_with Input right fresh = tt
  start_with (State r e) right fresh =
      start_keeps p.variables p.blocks (input_name p) (one_input p typed)
      (first_input-typed p typed) e [] fresh r
      (has_type-some (type_of e (context_with [] p)) r
      (fails-not (has_type (type_of e (context_with [] p)) r) right))

  all_start_with : (ds : List Variable)
      → list_any (λ (v : Variable). wrong_start (context_with [] p) v.kind) ds ≡ false
      → list_any (λ (v : Variable). breaks_start Allowed v.kind (start_scope p)) ds ≡ false
      → All (λ (v : Variable). StartsWith (input_name p) v.kind) ds
  all_start_with [] right fresh = λ k d lt. absurd (omega (arith, lt))
  all_start_with (d ∷ ds) right fresh =
      let r = neither (wrong_start (context_with [] p) d.kind)
      (list_any (λ (v : Variable). wrong_start (context_with [] p) v.kind) ds) right in
      let f = neither (breaks_start Allowed d.kind (start_scope p))
      (list_any (λ (v : Variable). breaks_start Allowed v.kind (start_scope p)) ds) fresh in
      All-cons (λ (v : Variable). StartsWith (input_name p) v.kind) d ds (start_with d.kind r.0 f.0)
      (all_start_with ds r.1 f.1)

  -- so of all variables of a checked program
  pub starts_typed : All (λ (v : Variable). StartsWith (input_name p) v.kind) p.variables
  starts_typed =
      all_start_with p.variables (IsWellTyped-typed p typed).starts (starts_fresh p typed)
