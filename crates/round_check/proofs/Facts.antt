-- What a checked program keeps.
use Rattle.std.proofs.Common.{◌≡◌, ◌<◌, ℕ, zero, suc, Bool, true, false, List, [], ◌∷◌, length}
use Rattle.std.proofs.Common.{Option, Some, None, refl, ap, subst, arith}
use Rattle.std.specs.Prelude.{◌||◌, not, is_none, is_some, unwrap_or, slice_get, nat_lt, ◌==◌}
use Rattle.std.specs.List.{list_any}
use Rattle.std.proofs.lemmas.Bool.Decides.{nat_tests}
use Rattle.round_lang.specs.declared.expr.Ty.{Ty}
use Rattle.round_lang.specs.declared.expr.Ty.TheVariants.{Num, Bool as Truth, Set, Row}
use Rattle.round_lang.specs.declared.program.Variable.{Variable}
use Rattle.round_lang.specs.Syntax.{BlockTree, ProgramTree}
use Rattle.round_check.specs.declared.fault.CheckFault.{CheckFault}
use Rattle.round_check.specs.declared.fault.CheckFault.TheVariants.{UnknownName, DoubleName}
use Rattle.round_check.specs.declared.fault.CheckFault.TheVariants.{WrongType, FieldCount}
use Rattle.round_check.specs.declared.fault.CheckFault.TheVariants.{NotAllowedHere, NoInput}
use Rattle.round_check.specs.declared.fault.CheckFault.TheVariants.{NoDecision, MissingRound}
use Rattle.round_check.specs.Causes.{double_name, no_input, no_decision, missing_round}
use Rattle.round_check.specs.Causes.{unknown_name, not_allowed_here, field_count, wrong_type}
use Rattle.round_check.specs.Causes.{fault_of, first_standing, is_typed, repeats_variable}
use Rattle.round_check.specs.Causes.{second_input, double_field, first_input, input_name}
use Rattle.round_check.specs.Causes.{decided_name}
use Rattle.round_check.specs.Rules.{breaks_program}
use Rattle.round_check.specs.Types.{Context, type_of, has_type, variable_type, context_with}
use Rattle.round_check.specs.Types.{wrong_start, wrong_sent, wrong_assignment, wrong_decide}
use Rattle.round_check.specs.Types.{wrong_block}
use Rattle.round_check.specs.declared.rules.Rule.TheVariants.{Fresh}

-- no cause stands, each by its name
pub record IsClear (p : ProgramTree) : Type 0 where
  pub names : double_name p ≡ false
  pub input : no_input p ≡ false
  pub decision : no_decision p ≡ false
  pub rounds : missing_round p ≡ false
  pub known : unknown_name p ≡ false
  pub allowed : not_allowed_here p ≡ false
  pub counts : field_count p ≡ false
  pub types : wrong_type p ≡ false

-- if none of eight causes stands, each test fails
none_of_eight : (a b c d e f g h : Bool)
    → is_none
    (first_standing
    ((DoubleName, a) ∷ (NoInput, b) ∷ (NoDecision, c) ∷ (MissingRound, d) ∷ (UnknownName, e) ∷
    (NotAllowedHere, f) ∷ (FieldCount, g) ∷ (WrongType, h) ∷ [])) ≡ true
    → (a ≡ false) × (b ≡ false) × (c ≡ false) × (d ≡ false) × (e ≡ false) × (f ≡ false)
    × (g ≡ false) × (h ≡ false)
none_of_eight true b c d e f g h q = absurd cc
none_of_eight false true c d e f g h q = absurd cc
none_of_eight false false true d e f g h q = absurd cc
none_of_eight false false false true e f g h q = absurd cc
none_of_eight false false false false true f g h q = absurd cc
none_of_eight false false false false false true g h q = absurd cc
none_of_eight false false false false false false true h q = absurd cc
none_of_eight false false false false false false false true q = absurd cc
none_of_eight false false false false false false false false q =
    (refl, refl, refl, refl, refl, refl, refl, refl)

-- no cause stands against a checked program
pub IsClear-typed : (p : ProgramTree) → is_typed p ≡ true → IsClear p
unfolding is_typed fault_of
IsClear-typed p h =
    let n = none_of_eight (double_name p) (no_input p) (no_decision p) (missing_round p)
    (unknown_name p) (not_allowed_here p) (field_count p) (wrong_type p) h in
    record {
      names = n.0;
      input = n.1;
      decision = n.2;
      rounds = n.3;
      known = n.4;
      allowed = n.5;
      counts = n.6;
      types = n.7;
    }

-- a checked program has an input
pub is_some-first_input : (p : ProgramTree) → is_typed p ≡ true → is_some (first_input p.variables)
    ≡ true
unfolding no_input
is_some-first_input p h = go (is_some (first_input p.variables)) (IsClear-typed p h).input
  where
    go : (b : Bool) → not b ≡ false → b ≡ true
    go true e = refl
    go false e = absurd cc

-- a checked program has a `decide`
pub some-decides : (p : ProgramTree) → is_typed p ≡ true → 0 < length p.decides
unfolding no_decision
some-decides p h = go (length p.decides) (IsClear-typed p h).decision
  where
    go : (n : ℕ) → (n == 0) ≡ false → 0 < n
    go zero e = absurd cc
    go (suc n) e = omega arith

-- a program is typed exactly if it has no fault
pub typed-none : (p : ProgramTree) → fault_of p ≡ None → is_typed p ≡ true
unfolding is_typed
typed-none p h = ap is_none h

pub none-typed : (p : ProgramTree) (f : CheckFault) → fault_of p ≡ Some f → is_typed p ≡ true → ⊥
unfolding is_typed
none-typed p f h typed = cc (ap is_none h, typed)

-- if neither of two tests holds, each fails
pub neither : (a b : Bool) → a || b ≡ false → (a ≡ false) × (b ≡ false)
neither true b h = absurd cc
neither false b h = (refl, h)

pub fails-not : (b : Bool) → not b ≡ false → b ≡ true
fails-not true h = refl
fails-not false h = absurd cc

-- a type that was found to be t is t
pub has_type-some : (o : Option Ty) (t : Ty) → has_type o t ≡ true → o ≡ Some t
has_type-some None t h = absurd cc
has_type-some (Some Num) Num h = refl
has_type-some (Some Truth) Truth h = refl
has_type-some (Some Set) Set h = refl
has_type-some (Some Row) Row h = refl
has_type-some (Some Num) Truth h = absurd cc
has_type-some (Some Num) Set h = absurd cc
has_type-some (Some Num) Row h = absurd cc
has_type-some (Some Truth) Num h = absurd cc
has_type-some (Some Truth) Set h = absurd cc
has_type-some (Some Truth) Row h = absurd cc
has_type-some (Some Set) Num h = absurd cc
has_type-some (Some Set) Truth h = absurd cc
has_type-some (Some Set) Row h = absurd cc
has_type-some (Some Row) Num h = absurd cc
has_type-some (Some Row) Truth h = absurd cc
has_type-some (Some Row) Set h = absurd cc

-- nothing has a wrong type: no initial value, no part of a block and no variable after `decide`
pub record IsWellTyped (p : ProgramTree) : Type 0 where
  pub starts : list_any (λ (v : Variable). wrong_start (context_with [] p) v.kind) p.variables
      ≡ false
  pub blocks : list_any (wrong_block (context_with [] p)) p.blocks ≡ false
  pub decides : list_any (wrong_decide (context_with [] p)) p.decides ≡ false

pub IsWellTyped-typed : (p : ProgramTree) → is_typed p ≡ true → IsWellTyped p
unfolding wrong_type
IsWellTyped-typed p h =
    let starts : Bool =
    list_any (λ (v : Variable). wrong_start (context_with [] p) v.kind) p.variables in
    let blocks : Bool = list_any (wrong_block (context_with [] p)) p.blocks in
    let decides : Bool = list_any (wrong_decide (context_with [] p)) p.decides in
    let two = neither (starts || blocks) decides (IsClear-typed p h).types in
    let one = neither starts blocks two.0 in
    record { starts = one.0; blocks = one.1; decides = two.1 }

-- a block in which nothing has a wrong type, if c has no fields
pub record IsWellTypedBlock (c : Context) (b : BlockTree) : Type 0 where
  pub condition : type_of b.condition c ≡ Some Truth
  pub sent : wrong_sent c b.fields b.sent ≡ false
  pub on_message : list_any (wrong_assignment (record c { fields = b.fields })) b.on_message ≡ false
  pub end : list_any (wrong_assignment c) b.end ≡ false

pub IsWellTypedBlock-wrong_block : (c : Context) (b : BlockTree) → wrong_block c b ≡ false
    → IsWellTypedBlock c b
IsWellTypedBlock-wrong_block c b h =
    let condition : Bool = not (has_type (type_of b.condition c) Truth) in
    let sent : Bool = wrong_sent c b.fields b.sent in
    let on_message : Bool =
    list_any (wrong_assignment (record c { fields = b.fields })) b.on_message in
    let at_end : Bool = list_any (wrong_assignment c) b.end in
    let three = neither (condition || sent || on_message) at_end h in
    let two = neither (condition || sent) on_message three.0 in
    let one = neither condition sent two.0 in
    record {
      condition = has_type-some (type_of b.condition c) Truth
          (fails-not (has_type (type_of b.condition c) Truth) one.0);
      sent = one.1;
      on_message = two.1;
      end = three.1;
    }

-- the input's name is the first after `input`
pub first_input-typed : (p : ProgramTree) → is_typed p ≡ true
    → first_input p.variables ≡ Some (input_name p)
first_input-typed p h = go (first_input p.variables) (is_some-first_input p h)
  where
    go : (o : Option (List ℕ)) → is_some o ≡ true → o ≡ Some (unwrap_or o [])
    go None e = absurd cc
    go (Some x) e = refl

few : (n : ℕ) → nat_lt 1 (suc (suc n)) ≡ false → ⊥
few n h = grind (arith, nat_tests)

-- there is one `decide`
pub decides-typed : (p : ProgramTree) → is_typed p ≡ true → p.decides ≡ decided_name p ∷ []
unfolding double_name
decides-typed p h =
    let before : Bool = repeats_variable p.variables || second_input p.variables in
    let two : Bool = nat_lt 1 (length p.decides) in
    let fields : Bool = list_any (double_field p.variables) p.blocks in
    let last =
    neither (before || two || fields) (breaks_program Fresh p) (IsClear-typed p h).names in
    let third = neither (before || two) fields last.0 in
    go p.decides (some-decides p h) (neither before two third.0).1
  where
    go : (ds : List (List ℕ)) → 0 < length ds → nat_lt 1 (length ds) ≡ false
        → ds ≡ unwrap_or (slice_get ds 0) [] ∷ []
    go [] some one = absurd (omega arith)
    go (d ∷ []) some one = refl
    go (d ∷ e ∷ ds) some one = absurd (few (length ds) one)

-- the variable after `decide` is a set
pub variable_type-decided : (p : ProgramTree) → is_typed p ≡ true
    → variable_type p.variables (decided_name p) ≡ Some Set
variable_type-decided p h =
    let wrong : list_any (wrong_decide (context_with [] p)) (decided_name p ∷ []) ≡ false =
    subst (λ (ds : List (List ℕ)). list_any (wrong_decide (context_with [] p)) ds ≡ false)
    (decides-typed p h) (IsWellTyped-typed p h).decides in
    let one = neither (wrong_decide (context_with [] p) (decided_name p)) false wrong in
    has_type-some (variable_type p.variables (decided_name p)) Set
    (fails-not (has_type (variable_type p.variables (decided_name p)) Set) one.0)
