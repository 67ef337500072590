-- No value of a checked program depends on what means nothing where it is computed.
use Rattle.std.proofs.Common.{◌≡◌, ℕ, Bool, true, false, List, [], ◌∷◌, map, Some, None, cond}
use Rattle.std.proofs.Common.{position, refl, ap, ◌∙◌}
use Rattle.std.specs.Prelude.{◌||◌}
use Rattle.std.specs.List.{AllByRecursion, list_any}
use Rattle.std.specs.Str.{bytes_eq}
use Rattle.std.proofs.lemmas.List.Elements.{All-from_recursion}
use Rattle.round_lang.specs.declared.block.Assignment.{Assignment}
use Rattle.round_lang.specs.declared.block.Field.{Field}
use Rattle.round_lang.specs.declared.expr.Constant.{Constant}
use Rattle.round_lang.specs.declared.expr.Constant.TheVariants.{True, False, Empty, All, Zero, Me}
use Rattle.round_lang.specs.declared.expr.Constant.TheVariants.{Nodes, Faults, Round, Phase, Dest}
use Rattle.round_lang.specs.declared.expr.Constant.TheVariants.{From}
use Rattle.round_lang.specs.declared.program.Variable.{Variable}
use Rattle.round_lang.specs.declared.program.VariableKind.{VariableKind}
use Rattle.round_lang.specs.declared.program.VariableKind.TheVariants.{Input, State}
use Rattle.round_lang.specs.declared.value.Value.{Value}
use Rattle.round_lang.specs.declared.value.Value.TheVariants.{Num, Row}
use Rattle.round_lang.specs.Syntax.{BlockTree, ProgramTree}
use Rattle.round_lang.specs.Tree.{Tree, TNumber, TFixed, TNamed, TUnary, TBinary, TIf, TSetOf}
use Rattle.round_lang.specs.Tree.{TRowOf}
use Rattle.round_lang.specs.Values.{num, flag, of_set, unary, binary}
use Rattle.round_check.proofs.Facts.{IsClear-typed, fails-not, neither}
use Rattle.round_check.proofs.Sites.{Site, allowed, at_end, at_message, at_send, at_start}
use Rattle.round_check.specs.Causes.{is_typed, not_allowed_here}
use Rattle.round_check.specs.Rules.{Scope, allows, breaks, breaks_assignment, breaks_block}
use Rattle.round_check.specs.Rules.{breaks_start, breaks_target, in_block}
use Rattle.round_check.specs.Rules.{start_scope}
use Rattle.round_meaning.specs.Meaning.{Env, bind, constant, value}
use Rattle.round_meaning.specs.Places.{BeginsAnywhere, KeepsPlaces, PlacesAreKept}
use Rattle.round_meaning.specs.Turn.{assigned, begins, put, runs, with_vars}
use Rattle.round_meaning.proofs.Broadcasts.{set_of_same}
use Rattle.round_meaning.proofs.RoundLaws.{map_same}

-- round, phase, receiver and sender are changed where they mean nothing at a place
module _ (place : Site) (round phase dest from : ℕ → ℕ)
    (same_round : allows Round place ≡ true → (n : ℕ) → round n ≡ n)
    (same_phase : allows Phase place ≡ true → (n : ℕ) → phase n ≡ n)
    (same_dest : allows Dest place ≡ true → (n : ℕ) → dest n ≡ n)
    (same_from : allows From place ≡ true → (n : ℕ) → from n ≡ n)
  where
    abbrev moved : Env → Env
    moved env = record env {
      round = round env.round;
      phase = phase env.phase;
      dest = dest env.dest;
      from = from env.from;
    }

    constant_kept : (c : Constant) (env : Env) → allows c place ≡ true
        → constant c (moved env) ≡ constant c env
    constant_kept True env h = refl
    constant_kept False env h = refl
    constant_kept Empty env h = refl
    constant_kept All env h = refl
    constant_kept Zero env h = refl
    constant_kept Me env h = refl
    constant_kept Nodes env h = refl
    constant_kept Faults env h = refl
    constant_kept Round env h = ap Num (same_round h env.round)
    constant_kept Phase env h = ap Num (same_phase h env.phase)
    constant_kept Dest env h = ap Num (same_dest h env.dest)
    constant_kept From env h = ap Num (same_from h env.from)

    module _ (vs : List Variable) (bs : List BlockTree) (fs : List Field) where
      abbrev under : List (List ℕ) → Scope
      under bound = record {
        variables = vs;
        blocks = bs;
        fields = fs;
        place = place;
        bound = bound;
      }

      value_kept : (e : Tree) (bound : List (List ℕ)) (env : Env)
          → breaks allowed e (under bound) ≡ false → value e (moved env) ≡ value e env
      value_kept (TNumber n) bound env h = refl
      value_kept (TFixed c) bound env h = constant_kept c env (fails-not (allows c place) h)
      value_kept (TNamed x) bound env h = refl
      value_kept (TUnary op a) bound env h = ap (unary env.values op) (value_kept a bound env h)
      value_kept (TBinary op a b) bound env h =
          let no = neither (breaks allowed a (under bound)) (breaks allowed b (under bound)) h in
          ap (λ v. binary env.values op v (value b (moved env))) (value_kept a bound env no.0)
          ∙ ap (binary env.values op (value a env)) (value_kept b bound env no.1)
      value_kept (TIf c a b) bound env h =
          let two = neither (breaks allowed c (under bound) || breaks allowed a (under bound))
          (breaks allowed b (under bound)) h in
          let one = neither (breaks allowed c (under bound))
          (breaks allowed a (under bound)) two.0 in
          ap (λ v. cond (flag v) (value a (moved env)) (value b (moved env)))
          (value_kept c bound env one.0)
          ∙ ap (λ v. cond (flag (value c env)) v (value b (moved env)))
          (value_kept a bound env one.1)
          ∙ ap (λ v. cond (flag (value c env)) (value a env) v) (value_kept b bound env two.1)
      value_kept (TSetOf x e) bound env h =
          ap of_set (set_of_same env.values _ _
          (λ v. ap flag (value_kept e (x ∷ bound) (bind x env v) h)))
      value_kept (TRowOf x e) bound env h =
          ap Row (map_same _ _ 0 env.values
          (λ v lo hi. ap num (value_kept e (x ∷ bound) (bind x env v) h)))

      values_kept : (es : List Tree) (env : Env)
          → list_any (λ (e : Tree). breaks allowed e (under [])) es ≡ false
          → map (λ (e : Tree). value e (moved env)) es ≡ map (λ (e : Tree). value e env) es
      values_kept [] env h = refl
      values_kept (e ∷ es) env h =
          let no = neither (breaks allowed e (under []))
          (list_any (λ (e : Tree). breaks allowed e (under [])) es) h in
          ap (λ v. v ∷ map (λ (f : Tree). value f (moved env)) es) (value_kept e [] env no.0)
          ∙ ap (λ rest. value e env ∷ rest) (values_kept es env no.1)

      runs_kept : (assigns : List Assignment) (env : Env) (state : List Value)
          → list_any (breaks_assignment allowed (under [])) assigns ≡ false
          → runs (moved env) assigns state ≡ runs env assigns state
      runs_kept [] env state h = refl
      runs_kept (a ∷ rest) env state h =
          let no = neither (breaks_assignment allowed (under []) a)
          (list_any (breaks_assignment allowed (under [])) rest) h in
          let formula = neither (breaks_target allowed a.target vs bs)
          (breaks allowed a.formula (under [])) no.0 in
          let place_of = position (λ (d : Variable). bytes_eq d.name a.target) env.variables in
          ap (λ v. runs (moved env) rest (put state place_of v))
          (value_kept a.formula [] (with_vars state env) formula.1)
          ∙ runs_kept rest env (assigned env a state) no.1

module _ (vs : List Variable) (bs : List BlockTree) where
  begins_kept : (k : VariableKind)
      → breaks_start allowed k (record {
        variables = vs;
        blocks = bs;
        fields = [];
        place = at_start;
        bound = [];
      }) ≡ false
      → (env : Env) (x r q i j : ℕ)
      → begins (record env { round = r; phase = q; dest = i; from = j }) x k ≡ begins env x k
  begins_kept Input h env x r q i j = refl
  begins_kept (State ty e) h env x r q i j =
      value_kept at_start (λ n. r) (λ n. q) (λ n. i) (λ n. j) (λ no n. absurd cc)
      (λ no n. absurd cc) (λ no n. absurd cc) (λ no n. absurd cc) vs bs [] e [] env h

  abbrev scope : Scope
  scope = record { variables = vs; blocks = bs; fields = []; place = at_start; bound = [] }

  block_kept : (b : BlockTree) → breaks_block allowed scope b ≡ false → KeepsPlaces b
  block_kept b h =
      let condition : Bool = breaks allowed b.condition (in_block b at_send scope) in
      let sends : Bool = list_any (λ (e : Tree). breaks allowed e (in_block b at_send scope))
      b.sent in
      let on_message : Bool = list_any (breaks_assignment allowed (in_block b at_message scope))
      b.on_message in
      let last : Bool = list_any (breaks_assignment allowed (in_block b at_end scope)) b.end in
      let three = neither (condition || sends || on_message) last h in
      let two = neither (condition || sends) on_message three.0 in
      let one = neither condition sends two.0 in
      record {
        send = λ env j.
            let same : (e : Tree) → breaks allowed e (in_block b at_send scope) ≡ false
            → value e (record env { from = j }) ≡ value e env =
            λ e k. value_kept at_send (λ n. n) (λ n. n) (λ n. n) (λ n. j) (λ yes n. refl)
            (λ yes n. refl) (λ yes n. refl) (λ no n. absurd cc) vs bs b.fields e [] env k in
            ap (λ v. cond (flag v)
            (Some (map (λ (e : Tree). value e (record env { from = j })) b.sent)) None)
            (same b.condition one.0)
            ∙ ap (λ ws. cond (flag (value b.condition env)) (Some ws) None)
            (values_kept at_send (λ n. n) (λ n. n) (λ n. n) (λ n. j) (λ yes n. refl) (λ yes n. refl)
            (λ yes n. refl) (λ no n. absurd cc) vs bs b.fields b.sent env one.1);
        on_message = λ env state i.
            runs_kept at_message (λ n. n) (λ n. n) (λ n. i) (λ n. n) (λ yes n. refl) (λ yes n. refl)
            (λ no n. absurd cc) (λ yes n. refl) vs bs b.fields b.on_message env state two.1;
        end = λ env state i j.
            runs_kept at_end (λ n. n) (λ n. n) (λ n. i) (λ n. j) (λ yes n. refl) (λ yes n. refl)
            (λ no n. absurd cc) (λ no n. absurd cc) vs bs b.fields b.end env state three.1;
      }

all_of : {X : Type 0} (p : X → Bool) (P : X → Type 0) → ((x : X) → p x ≡ false → P x)
    → (xs : List X) → list_any p xs ≡ false → AllByRecursion P xs
all_of p P f [] h = tt
all_of p P f (x ∷ xs) h = let two = neither (p x) (list_any p xs) h in
    (f x two.0, all_of p P f xs two.1)

pub places_are_kept : (p : ProgramTree) → is_typed p ≡ true → PlacesAreKept p
unfolding not_allowed_here
places_are_kept p typed =
    let starts : Bool = list_any (λ (v : Variable). breaks_start allowed v.kind (start_scope p))
    p.variables in
    let blocks : Bool = list_any (breaks_block allowed (start_scope p)) p.blocks in
    let targets : Bool = list_any (λ (x : List ℕ). breaks_target allowed x p.variables p.blocks)
    p.decides in
    let two = neither (starts || blocks) targets (IsClear-typed p typed).allowed in
    let one = neither starts blocks two.0 in
    record {
      starts = All-from_recursion BeginsAnywhere p.variables
          (all_of _ BeginsAnywhere (λ v h. begins_kept p.variables p.blocks v.kind h) p.variables
          one.0);
      blocks = All-from_recursion KeepsPlaces p.blocks
          (all_of _ KeepsPlaces (block_kept p.variables p.blocks) p.blocks one.1);
    }
