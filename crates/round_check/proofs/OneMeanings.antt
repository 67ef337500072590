-- Each name in a checked program is that of one thing.
use Rattle.std.proofs.Common.{◌≡◌, ℕ, ◌≤◌, Bool, true, false, cond, List, []}
use Rattle.std.proofs.Common.{◌∷◌, ◌++◌, filter, length, refl, sym, ap, ◌∙◌, subst, arith}
use Rattle.std.specs.Prelude.{◌&&◌, ◌||◌, nat_lt, not}
use Rattle.std.specs.List.{AllByRecursion, list_any}
use Rattle.std.specs.Str.{bytes_eq}
use Rattle.std.proofs.lemmas.List.Elements.{All-from_recursion}
use Rattle.std.proofs.lemmas.Slice.Eq.{bytes_eq-Decides}
use Rattle.round_lang.specs.declared.block.Assignment.{Assignment}
use Rattle.round_lang.specs.declared.block.Field.{Field}
use Rattle.round_lang.specs.declared.program.Variable.{Variable}
use Rattle.round_lang.specs.declared.program.VariableKind.{VariableKind}
use Rattle.round_lang.specs.declared.program.VariableKind.TheVariants.{Input, State}
use Rattle.round_lang.specs.Syntax.{BlockTree, ProgramTree}
use Rattle.round_lang.specs.Tree.{Tree, TNumber, TFixed, TNamed, TUnary, TBinary, TIf, TSetOf}
use Rattle.round_lang.specs.Tree.{TRowOf}
use Rattle.round_check.proofs.Facts.{IsClear-typed, fails-not, neither}
use Rattle.round_check.specs.Causes.{double_field, double_name, is_typed, not_allowed_here}
use Rattle.round_check.specs.Causes.{repeats_field, repeats_variable, second_input, unknown_name}
use Rattle.round_check.specs.Names.{contains_name, declares, declares_state, has_field, is_input}
use Rattle.round_check.specs.Names.{some_field}
use Rattle.round_check.specs.OneMeaning.{AssignsOne, BlockReadsOne, IsOneOf, NamesHaveOneMeaning}
use Rattle.round_check.specs.OneMeaning.{ReadsOne, StartReadsOne, field_names, input_names}
use Rattle.round_check.specs.OneMeaning.{variable_names}
use Rattle.round_check.specs.Rules.{Scope, breaks, breaks_assignment, breaks_block, breaks_program}
use Rattle.round_check.specs.Rules.{breaks_start, breaks_target, in_block, is_start, readable}
use Rattle.round_check.specs.Rules.{start_scope}
use Rattle.round_check.specs.declared.rules.Place.{Place}
use Rattle.round_check.specs.declared.rules.Place.TheVariants.{Start, Send, OnMessage, End}
use Rattle.round_check.specs.declared.rules.Rule.{Rule}
use Rattle.round_check.specs.declared.rules.Rule.TheVariants.{Allowed, Fresh, Known}

-- how many of the names are x
times : List ℕ → List (List ℕ) → ℕ
times x names = length (filter (λ y. bytes_eq y x) names)

-- no name stands there twice
Once : List (List ℕ) → Type 0
Once names = (x : List ℕ) → times x names ≤ 1

absent : (x : List ℕ) (names : List (List ℕ)) → contains_name names x ≡ false → times x names ≡ 0
unfolding times
absent x [] h = refl
absent x (y ∷ names) h = go (bytes_eq y x) refl h (λ k. absent x names k)
  where
    go : (b : Bool) → bytes_eq y x ≡ b → b || contains_name names x ≡ false
        → (contains_name names x ≡ false → times x names ≡ 0) → times x (y ∷ names) ≡ 0
    go true e h rest = absurd cc
    go false e h rest = rw e (rest h)

present : (x : List ℕ) (names : List (List ℕ)) → contains_name names x ≡ true → 1 ≤ times x names
unfolding times
present x [] h = absurd cc
present x (y ∷ names) h = go (bytes_eq y x) refl h (λ k. present x names k)
  where
    go : (b : Bool) → bytes_eq y x ≡ b → b || contains_name names x ≡ true
        → (contains_name names x ≡ true → 1 ≤ times x names) → 1 ≤ times x (y ∷ names)
    go true e h rest = rw e (omega arith)
    go false e h rest = rw e (rest h)

-- what stands once in the list, and is there
is_one : (x : List ℕ) (names : List (List ℕ)) → Once names → contains_name names x ≡ true
    → IsOneOf x names
unfolding times Once
is_one x names once h = let some : 1 ≤ times x names =
    present x names h in let few : times x names ≤ 1 = once x in omega arith

once_none : Once []
unfolding times Once
once_none x = omega arith

once_more : (y : List ℕ) (names : List (List ℕ)) → contains_name names y ≡ false → Once names
    → Once (y ∷ names)
unfolding times Once
once_more y names fresh once x = go (bytes_eq y x) refl
  where
    go : (b : Bool) → bytes_eq y x ≡ b → times x (y ∷ names) ≤ 1
    go true e =
        let none : times x names ≡ 0 =
        absent x names
        (subst (λ z. contains_name names z ≡ false) ((bytes_eq-Decides y x).0 e) fresh) in
        rw e (omega (arith, none))
    go false e = rw e (once x)

contains-append : (a b : List (List ℕ)) (x : List ℕ) → contains_name (a ++ b) x ≡ contains_name a x
    || contains_name b x
contains-append [] b x = refl
contains-append (y ∷ a) b x = go (bytes_eq y x) (contains_name a x) (contains_name b x)
    (contains_name (a ++ b) x) (contains-append a b x)
  where
    go : (t c d e : Bool) → e ≡ c || d → t || e ≡ (t || c) || d
    go true c d e h = refl
    go false c d e h = h

contains-variables : (vs : List Variable) (x : List ℕ) → contains_name (variable_names vs) x
    ≡ declares vs x
contains-variables [] x = refl
contains-variables (v ∷ vs) x = ap (λ b. bytes_eq v.name x || b) (contains-variables vs x)

contains-fields : (fs : List Field) (x : List ℕ) → contains_name (field_names fs) x ≡ has_field fs x
contains-fields [] x = refl
contains-fields (f ∷ fs) x = ap (λ b. bytes_eq f.name x || b) (contains-fields fs x)

-- the variables' names
once_variables : (vs : List Variable) → repeats_variable vs ≡ false → Once (variable_names vs)
once_variables [] h = once_none
once_variables (v ∷ vs) h =
    let two = neither (declares vs v.name) (repeats_variable vs) h in
    once_more v.name (variable_names vs) (contains-variables vs v.name ∙ two.0)
    (once_variables vs two.1)

-- the fields' and the variables' names
once_fields : (vs : List Variable) (fs : List Field) → repeats_variable vs ≡ false
    → repeats_field fs ≡ false → list_any (λ (f : Field). declares vs f.name) fs ≡ false
    → Once (field_names fs ++ variable_names vs)
once_fields vs [] vars once apart = once_variables vs vars
once_fields vs (f ∷ fs) vars once apart =
    let two = neither (has_field fs f.name) (repeats_field fs) once in
    let one =
    neither (declares vs f.name) (list_any (λ (f : Field). declares vs f.name) fs) apart in
    once_more f.name (field_names fs ++ variable_names vs)
    (contains-append (field_names fs) (variable_names vs) f.name
    ∙ either _ _ (contains-fields fs f.name ∙ two.0) (contains-variables vs f.name ∙ one.0))
    (once_fields vs fs vars two.1 one.1)
  where
    either : (a b : Bool) → a ≡ false → b ≡ false → a || b ≡ false
    either a b p q = rw (p, q) refl

-- inputs that are variables
input_declared : (vs : List Variable) (x : List ℕ) → declares vs x ≡ false
    → contains_name (input_names vs) x ≡ false
input_declared [] x h = refl
input_declared (v ∷ vs) x h =
    let two = neither (bytes_eq v.name x) (declares vs x) h in
    go v.kind refl two.0 (input_declared vs x two.1)
  where
    go : (k : VariableKind) → v.kind ≡ k → bytes_eq v.name x ≡ false
        → contains_name (input_names vs) x ≡ false → contains_name (input_names (v ∷ vs)) x ≡ false
    go Input kind other rest = rw (kind, other) rest
    go (State ty e) kind other rest = rw kind rest

-- a variable that is no state variable is the input
is_input_name : (vs : List Variable) (x : List ℕ) → declares vs x ≡ true
    → declares_state vs x ≡ false → contains_name (input_names vs) x ≡ true
is_input_name [] x known fresh = absurd cc
is_input_name (v ∷ vs) x known fresh =
    go v.kind refl (bytes_eq v.name x) refl (λ k f. is_input_name vs x k f)
  where
    go : (k : VariableKind) → v.kind ≡ k → (b : Bool) → bytes_eq v.name x ≡ b
        → (declares vs x ≡ true → declares_state vs x ≡ false → contains_name (input_names vs) x
        ≡ true)
        → contains_name (input_names (v ∷ vs)) x ≡ true
    go Input kind true name rest = rw (kind, name) refl
    go Input kind false name rest = rw (kind, name) (rest (rw name at known) (rw kind at fresh))
    go (State ty e) kind true name rest =
        let bad : declares_state (v ∷ vs) x ≡ true = rw (kind, name) refl in
        absurd (cc (bad, fresh))
    go (State ty e) kind false name rest =
        rw kind (rest (rw name at known) (rw (kind, name) at fresh))

-- the inputs' names, of a variable of a kind and others
abbrev OnceWith : Variable → List Variable → VariableKind → Type 0
OnceWith v vs k = let inputs = filter (λ (w : Variable). is_input w.kind) vs in
    Once (variable_names (cond (is_input k) (v ∷ inputs) inputs))

-- the inputs' names
once_inputs : (vs : List Variable) → repeats_variable vs ≡ false → Once (input_names vs)
once_inputs [] h = once_none
once_inputs (v ∷ vs) h =
    let two = neither (declares vs v.name) (repeats_variable vs) h in
    go v.kind refl (input_declared vs v.name two.0) (once_inputs vs two.1)
  where
    go : (k : VariableKind) → v.kind ≡ k → contains_name (input_names vs) v.name ≡ false
        → Once (input_names vs) → Once (input_names (v ∷ vs))
    go Input kind fresh rest =
        subst (OnceWith v vs) (sym kind) (once_more v.name (input_names vs) fresh rest)
    go (State ty e) kind fresh rest = subst (OnceWith v vs) (sym kind) rest

-- what a name may stand for at a place, beside comprehension variables: each is a field of the
-- block or a variable, and each name that may be read there is one of them
record IsInScope (vs : List Variable) (bs : List BlockTree) (fs : List Field) (place : Place)
    (names : List (List ℕ)) : Type 0 where
  once : Once names
  known : (x : List ℕ) → has_field fs x || declares vs x ≡ false → contains_name names x ≡ false
  read : (x : List ℕ) → declares vs x || some_field bs x ≡ true
      → (some_field bs x && not (has_field (readable place fs) x))
      || (is_start place && declares_state vs x) ≡ false
      → contains_name names x ≡ true

module _ (vs : List Variable) (bs : List BlockTree) (fs : List Field) (place : Place)
    (names : List (List ℕ)) (scope : IsInScope vs bs fs place names) where
  abbrev under : List (List ℕ) → Scope
  under bound = record { variables = vs; blocks = bs; fields = fs; place = place; bound = bound }

  -- a name that breaks no rule is in scope
  name_in_scope : (bound : List (List ℕ)) (x : List ℕ) (c : Bool) → contains_name bound x ≡ c
      → not (c || (declares vs x || some_field bs x)) ≡ false
      → not c && ((some_field bs x && not (has_field (readable place fs) x))
      || (is_start place && declares_state vs x)) ≡ false → contains_name (bound ++ names) x
      ≡ true
  name_in_scope bound x true here known allowed =
      contains-append bound names x ∙ ap (λ b. b || contains_name names x) here
  name_in_scope bound x false here known allowed =
      contains-append bound names x ∙ ap (λ b. b || contains_name names x) here
      ∙ scope.read x (fails-not (declares vs x || some_field bs x) known) allowed

  -- a comprehension variable that breaks no rule is a new name
  binder_fresh : (bound : List (List ℕ)) (x : List ℕ) → contains_name bound x || has_field fs x
      || declares vs x ≡ false → contains_name (bound ++ names) x ≡ false
  binder_fresh bound x h =
      let two = neither (contains_name bound x || has_field fs x) (declares vs x) h in
      let one = neither (contains_name bound x) (has_field fs x) two.0 in
      contains-append bound names x ∙ ap (λ b. b || contains_name names x) one.0
      ∙ scope.known x (rw (one.1, two.1) refl)

  reads_one : (e : Tree) (bound : List (List ℕ)) → Once (bound ++ names)
      → breaks Fresh e (under bound) ≡ false → breaks Known e (under bound) ≡ false
      → breaks Allowed e (under bound) ≡ false
      → ReadsOne (bound ++ names) e
  reads_one (TNumber n) bound once f k a = tt
  reads_one (TFixed c) bound once f k a = tt
  reads_one (TNamed x) bound once f k a =
      is_one x (bound ++ names) once (name_in_scope bound x (contains_name bound x) refl k a)
  reads_one (TUnary op e) bound once f k a = reads_one e bound once f k a
  reads_one (TBinary op d e) bound once f k a =
      let f2 = neither (breaks Fresh d (under bound)) (breaks Fresh e (under bound)) f in
      let k2 = neither (breaks Known d (under bound)) (breaks Known e (under bound)) k in
      let a2 = neither (breaks Allowed d (under bound)) (breaks Allowed e (under bound)) a in
      (reads_one d bound once f2.0 k2.0 a2.0, reads_one e bound once f2.1 k2.1 a2.1)
  reads_one (TIf c d e) bound once f k a =
      let f2 = neither (breaks Fresh c (under bound) || breaks Fresh d (under bound))
      (breaks Fresh e (under bound)) f in
      let k2 = neither (breaks Known c (under bound) || breaks Known d (under bound))
      (breaks Known e (under bound)) k in
      let a2 = neither (breaks Allowed c (under bound) || breaks Allowed d (under bound))
      (breaks Allowed e (under bound)) a in
      let f1 = neither (breaks Fresh c (under bound)) (breaks Fresh d (under bound)) f2.0 in
      let k1 = neither (breaks Known c (under bound)) (breaks Known d (under bound)) k2.0 in
      let a1 = neither (breaks Allowed c (under bound)) (breaks Allowed d (under bound)) a2.0 in (
        reads_one c bound once f1.0 k1.0 a1.0,
        reads_one d bound once f1.1 k1.1 a1.1,
        reads_one e
            bound once f2.1 k2.1 a2.1,
      )
  reads_one (TSetOf x e) bound once f k a =
      let f2 = neither (contains_name bound x || has_field fs x || declares vs x)
      (breaks Fresh e (under (x ∷ bound))) f in
      reads_one e (x ∷ bound) (once_more x (bound ++ names) (binder_fresh bound x f2.0) once) f2.1 k
      a
  reads_one (TRowOf x e) bound once f k a =
      let f2 = neither (contains_name bound x || has_field fs x || declares vs x)
      (breaks Fresh e (under (x ∷ bound))) f in
      reads_one e (x ∷ bound) (once_more x (bound ++ names) (binder_fresh bound x f2.0) once) f2.1 k
      a

-- if an element breaks none of three rules, so does each
all_of : {X : Type 0} (p q r : X → Bool) (P : X → Type 0)
    → ((x : X) → p x ≡ false → q x ≡ false → r x ≡ false → P x) → (xs : List X)
    → list_any p xs ≡ false → list_any q xs ≡ false → list_any r xs ≡ false → AllByRecursion P xs
all_of p q r P f [] a b c = tt
all_of p q r P f (x ∷ xs) a b c =
    let one = neither (p x) (list_any p xs) a in
    let two = neither (q x) (list_any q xs) b in
    let three = neither (r x) (list_any r xs) c in
    (f x one.0 two.0 three.0, all_of p q r P f xs one.1 two.1 three.1)

-- the targets of assignments are variables
target_one : (vs : List Variable) (bs : List BlockTree) (x : List ℕ) → repeats_variable vs ≡ false
    → breaks_target Known x vs bs ≡ false → breaks_target Allowed x vs bs ≡ false
    → IsOneOf x (variable_names vs)
target_one vs bs x once known allowed =
    is_one x (variable_names vs) (once_variables vs once)
    (contains-variables vs x ∙ go (declares vs x) (some_field bs x)
    (fails-not (declares vs x || some_field bs x) known) allowed)
  where
    go : (d s : Bool) → d || s ≡ true → s ≡ false → d ≡ true
    go true s h e = refl
    go false s h e = absurd (cc (h, e))

-- the places of a program
in_start : (vs : List Variable) (bs : List BlockTree) → repeats_variable vs ≡ false
    → IsInScope vs bs [] Start (input_names vs)
in_start vs bs once = record {
  once = once_inputs vs once;
  known = λ x h. input_declared vs x h;
  read = λ x known allowed. go x (declares vs x) refl (some_field bs x) known allowed;
}
  where
    go : (x : List ℕ) (d : Bool) → declares vs x ≡ d → (s : Bool) → d || s ≡ true
        → (s && true) || declares_state vs x ≡ false → contains_name (input_names vs) x ≡ true
    go x d is true known allowed = absurd cc
    go x true is false known allowed = is_input_name vs x is allowed
    go x false is false known allowed = absurd cc

in_turn : (vs : List Variable) (bs : List BlockTree) (fs : List Field) (place : Place)
    → is_start place ≡ false → readable place fs ≡ [] → repeats_variable vs ≡ false
    → IsInScope vs bs fs place (variable_names vs)
in_turn vs bs fs place late none once = record {
  once = once_variables vs once;
  known = λ x h. contains-variables vs x ∙ (neither (has_field fs x) (declares vs x) h).1;
  read = λ x known allowed. contains-variables vs x ∙ go (declares vs x) (some_field bs x)
      (has_field (readable place fs) x) (is_start place && declares_state vs x)
      (ap (λ gs. has_field gs x) none) known allowed;
}
  where
    go : (d s h rest : Bool) → h ≡ false → d || s ≡ true → (s && not h) || rest ≡ false → d ≡ true
    go true s h rest none known allowed = refl
    go false true true rest none known allowed = absurd cc
    go false true false rest none known allowed = absurd cc
    go false false h rest none known allowed = absurd cc

in_message : (vs : List Variable) (bs : List BlockTree) (fs : List Field)
    → repeats_variable vs ≡ false → repeats_field fs ≡ false
    → list_any (λ (f : Field). declares vs f.name) fs ≡ false
    → IsInScope vs bs fs OnMessage (field_names fs ++ variable_names vs)
in_message vs bs fs vars once apart = record {
  once = once_fields vs fs vars once apart;
  known = λ x h.
      contains-append (field_names fs) (variable_names vs) x
      ∙ ap (λ b. b || contains_name (variable_names vs) x) (contains-fields fs x)
      ∙ ap (λ b. has_field fs x || b) (contains-variables vs x)
      ∙ h;
  read = λ x known allowed.
      contains-append (field_names fs) (variable_names vs) x
      ∙ ap (λ b. b || contains_name (variable_names vs) x) (contains-fields fs x)
      ∙ ap (λ b. has_field fs x || b) (contains-variables vs x)
      ∙ go (has_field fs x) (declares vs x) (some_field bs x) known allowed;
}
  where
    go : (h d s : Bool) → d || s ≡ true → (s && not h) || false ≡ false → h || d ≡ true
    go true d s known allowed = refl
    go false true s known allowed = refl
    go false false true known allowed = absurd cc
    go false false false known allowed = absurd cc

-- the parts of a block that breaks no rule
record BreaksNone (s : Scope) (b : BlockTree) (r : Rule) : Type 0 where
  condition : breaks r b.condition (in_block b Send s) ≡ false
  sent : list_any (λ (e : Tree). breaks r e (in_block b Send s)) b.sent ≡ false
  on_message : list_any (breaks_assignment r (in_block b OnMessage s)) b.on_message ≡ false
  end : list_any (breaks_assignment r (in_block b End s)) b.end ≡ false

breaks_none : (s : Scope) (b : BlockTree) (r : Rule) → breaks_block r s b ≡ false → BreaksNone s b r
breaks_none s b r h =
    let condition : Bool = breaks r b.condition (in_block b Send s) in
    let sent : Bool = list_any (λ (e : Tree). breaks r e (in_block b Send s)) b.sent in
    let on_message : Bool = list_any (breaks_assignment r (in_block b OnMessage s)) b.on_message in
    let at_end : Bool = list_any (breaks_assignment r (in_block b End s)) b.end in
    let three = neither (condition || sent || on_message) at_end h in
    let two = neither (condition || sent) on_message three.0 in
    let one = neither condition sent two.0 in
    record { condition = one.0; sent = one.1; on_message = two.1; end = three.1 }

module _ (p : ProgramTree) (typed : is_typed p ≡ true) where
  -- no variable, field or comprehension variable has another's name
  record IsFresh : Type 0 where
    variables : repeats_variable p.variables ≡ false
    fields : list_any (double_field p.variables) p.blocks ≡ false
    starts : list_any (λ (v : Variable). breaks_start Fresh v.kind (start_scope p)) p.variables
        ≡ false
    blocks : list_any (breaks_block Fresh (start_scope p)) p.blocks ≡ false

  is_fresh : IsFresh
  unfolding double_name
  is_fresh =
      let repeats : Bool = repeats_variable p.variables in
      let second : Bool = second_input p.variables in
      let two : Bool = nat_lt 1 (length p.decides) in
      let fields : Bool = list_any (double_field p.variables) p.blocks in
      let starts : Bool =
      list_any (λ (v : Variable). breaks_start Fresh v.kind (start_scope p)) p.variables in
      let blocks : Bool = list_any (breaks_block Fresh (start_scope p)) p.blocks in
      let targets : Bool =
      list_any (λ (x : List ℕ). breaks_target Fresh x p.variables p.blocks) p.decides in
      let last = neither (repeats || second || two || fields) (breaks_program Fresh p)
      (IsClear-typed p typed).names in
      let third = neither (repeats || second || two) fields last.0 in
      let first = neither (repeats || second) two third.0 in
      let parts = neither (starts || blocks) targets last.1 in
      let before = neither starts blocks parts.0 in
      record {
        variables = (neither repeats second first.0).0;
        fields = third.1;
        starts =
            before.0;
        blocks = before.1;
      }

  -- nothing in the program breaks the rule
  record Keeps (r : Rule) : Type 0 where
    starts : list_any (λ (v : Variable). breaks_start r v.kind (start_scope p)) p.variables ≡ false
    blocks : list_any (breaks_block r (start_scope p)) p.blocks ≡ false
    decides : list_any (λ (x : List ℕ). breaks_target r x p.variables p.blocks) p.decides ≡ false

  keeps : (r : Rule) → breaks_program r p ≡ false → Keeps r
  keeps r h =
      let starts : Bool =
      list_any (λ (v : Variable). breaks_start r v.kind (start_scope p)) p.variables in
      let blocks : Bool = list_any (breaks_block r (start_scope p)) p.blocks in
      let targets : Bool =
      list_any (λ (x : List ℕ). breaks_target r x p.variables p.blocks) p.decides in
      let two = neither (starts || blocks) targets h in
      let one = neither starts blocks two.0 in
      record { starts = one.0; blocks = one.1; decides = two.1 }

  keeps_known : Keeps Known
  unfolding unknown_name
  keeps_known = keeps Known (IsClear-typed p typed).known

  keeps_allowed : Keeps Allowed
  unfolding not_allowed_here
  keeps_allowed = keeps Allowed (IsClear-typed p typed).allowed

  start_reads_one : (k : VariableKind) → breaks_start Fresh k (start_scope p) ≡ false
      → breaks_start Known k (start_scope p) ≡ false → breaks_start Allowed k (start_scope p)
      ≡ false
      → StartReadsOne (input_names p.variables) k
  start_reads_one Input f k a = tt
  start_reads_one (State ty e) f k a =
      reads_one p.variables p.blocks [] Start (input_names p.variables)
      (in_start p.variables p.blocks is_fresh.variables) e []
      (once_inputs p.variables is_fresh.variables) f k a

  module _ (b : BlockTree) (place : Place) (names : List (List ℕ))
      (scope : IsInScope p.variables p.blocks b.fields place names) where
    abbrev here : Scope
    here = in_block b place (start_scope p)

    part_reads_one : (e : Tree) → breaks Fresh e here ≡ false → breaks Known e here ≡ false
        → breaks Allowed e here ≡ false → ReadsOne names e
    part_reads_one e f k a =
        reads_one p.variables p.blocks b.fields place names scope e [] scope.once f k a

    assigns_one : (a : Assignment) → breaks_assignment Fresh here a ≡ false
        → breaks_assignment Known here a ≡ false → breaks_assignment Allowed here a ≡ false
        → AssignsOne (variable_names p.variables) names a
    assigns_one a f k l =
        let fs = neither (breaks_target Fresh a.target p.variables p.blocks)
        (breaks Fresh a.formula here) f in
        let ks = neither (breaks_target Known a.target p.variables p.blocks)
        (breaks Known a.formula here) k in
        let ls = neither (breaks_target Allowed a.target p.variables p.blocks)
        (breaks Allowed a.formula here) l in
        record {
          target = target_one p.variables p.blocks a.target is_fresh.variables ks.0 ls.0;
          formula = part_reads_one a.formula fs.1 ks.1 ls.1;
        }

  block_reads_one : (b : BlockTree) → double_field p.variables b ≡ false
      → BreaksNone (start_scope p) b Fresh → BreaksNone (start_scope p) b Known
      → BreaksNone (start_scope p) b Allowed
      → BlockReadsOne (variable_names p.variables) b
  block_reads_one b double f k a =
      let vs = p.variables in
      let fields =
      neither (repeats_field b.fields)
      (list_any (λ (f : Field). declares p.variables f.name) b.fields) double in
      let in_send = in_turn p.variables p.blocks b.fields Send refl refl is_fresh.variables in
      let in_end = in_turn p.variables p.blocks b.fields End refl refl is_fresh.variables in
      let on = in_message p.variables p.blocks b.fields is_fresh.variables fields.0 fields.1 in
      let names = variable_names p.variables in
      let both = field_names b.fields ++ variable_names p.variables in
      record {
        condition =
            part_reads_one b Send names in_send b.condition f.condition k.condition a.condition;
        sent = All-from_recursion (ReadsOne names) b.sent
            (all_of _ _ _ (ReadsOne names) (part_reads_one b Send names in_send) b.sent f.sent
            k.sent a.sent);
        on_message = All-from_recursion (AssignsOne names both) b.on_message
            (all_of _ _ _ (AssignsOne names both) (assigns_one b OnMessage both on) b.on_message
            f.on_message k.on_message a.on_message);
        end = All-from_recursion (AssignsOne names names) b.end
            (all_of _ _ _ (AssignsOne names names) (assigns_one b End names in_end) b.end f.end
            k.end a.end);
      }

  blocks_read_one : (bs : List BlockTree) → list_any (double_field p.variables) bs ≡ false
      → list_any (breaks_block Fresh (start_scope p)) bs ≡ false
      → list_any (breaks_block Known (start_scope p)) bs ≡ false
      → list_any (breaks_block Allowed (start_scope p)) bs ≡ false
      → AllByRecursion (BlockReadsOne (variable_names p.variables)) bs
  blocks_read_one [] d f k a = tt
  blocks_read_one (b ∷ bs) d f k a =
      let ds = neither (double_field p.variables b) (list_any (double_field p.variables) bs) d in
      let fs = neither (breaks_block Fresh (start_scope p) b)
      (list_any (breaks_block Fresh (start_scope p)) bs) f in
      let ks = neither (breaks_block Known (start_scope p) b)
      (list_any (breaks_block Known (start_scope p)) bs) k in
      let ls = neither (breaks_block Allowed (start_scope p) b)
      (list_any (breaks_block Allowed (start_scope p)) bs) a in (
        block_reads_one b ds.0 (breaks_none (start_scope p) b Fresh fs.0)
            (breaks_none (start_scope p) b Known ks.0) (breaks_none (start_scope p) b Allowed ls.0),
        blocks_read_one bs ds.1 fs.1 ks.1 ls.1,
      )

  -- so each name of a checked program has one meaning
  pub names_one : NamesHaveOneMeaning p
  names_one =
      let vs = variable_names p.variables in
      record {
        starts = All-from_recursion
            (λ (v : Variable). StartReadsOne (input_names p.variables) v.kind) p.variables
            (all_of _ _ _ (λ (v : Variable). StartReadsOne (input_names p.variables) v.kind)
            (λ v. start_reads_one v.kind) p.variables is_fresh.starts keeps_known.starts
            keeps_allowed.starts);
        blocks = All-from_recursion (BlockReadsOne vs) p.blocks
            (blocks_read_one p.blocks is_fresh.fields is_fresh.blocks keeps_known.blocks
            keeps_allowed.blocks);
        decides = All-from_recursion (λ (x : List ℕ). IsOneOf x vs) p.decides
            (all_of _ _ _ (λ (x : List ℕ). IsOneOf x vs)
            (λ x f k a. target_one p.variables p.blocks x is_fresh.variables k a) p.decides
            keeps_known.decides keeps_known.decides keeps_allowed.decides);
      }
