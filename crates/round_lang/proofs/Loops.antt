-- What the loops over a program's parts keep.
use Rattle.std.proofs.Common.{◌≡◌, ℕ, ◌+◌, ◌<◌, ◌≤◌, Bool, true, false, cond, List, [], ◌∷◌, ◌++◌}
use Rattle.std.proofs.Common.{length, Option, Some, None, refl, ap, ◌∙◌, subst, arith}
use Rattle.std.proofs.Common.{length-append}
use Rattle.round_lang.specs.declared.token.Mark.TheVariants as m
use Rattle.round_lang.specs.declared.program.Variable.{Variable}
use Rattle.round_lang.specs.declared.block.Assignment.{Assignment}
use Rattle.round_lang.specs.declared.block.Field.{Field}
use Rattle.round_lang.specs.declared.parsing.fault.Fault.{Fault}
use Rattle.round_lang.specs.declared.parsing.fault.Fault.TheVariants as fault
use Rattle.round_lang.specs.declared.parsing.part.Declaration.{Declaration}
use Rattle.round_lang.specs.declared.parsing.part.Declaration.TheVariants as d
use Rattle.round_lang.specs.Lexemes.{Lexeme}
use Rattle.round_lang.specs.Limits.{max_variables, max_fields}
use Rattle.round_lang.specs.Outcome.{Fails}
use Rattle.round_lang.specs.Tree.{Tree}
use Rattle.round_lang.specs.Syntax.{BlockTree}
use Rattle.round_lang.specs.Source.{variables_of, decides_of}
use Rattle.round_lang.specs.Reading.{◌>>=◌, Part, after, begins_with, begins_name, formula}
use Rattle.round_lang.specs.Parts.{items, behind_comma, others, listed, begins_declaration}
use Rattle.round_lang.specs.Parts.{declaration, variable_count, declarations, declared, field}
use Rattle.round_lang.specs.Parts.{fields, any_formula, sent, assignment, any_assignment}
use Rattle.round_lang.specs.Parts.{assignments, block, any_block, blocks}
use Rattle.round_lang.proofs.Steps.{after_is}
use Rattle.round_lang.proofs.Repetition.{ahead, GoesOn, goes_first, goes_next, goes_end, goes_none}
use Rattle.round_lang.proofs.Lists.{PartLaws, after_none, after_some}
use Rattle.round_lang.proofs.Items.{expr_laws, field_laws, assignment_laws, declaration_laws}
use Rattle.round_lang.proofs.Blocks.{block_laws}

-- if reading less fails, reading more does
pub fails_by : {A B : Type 0} (e : Fault) (o : Option A) (p : Option B) → (o ≡ None → p ≡ None)
    → Fails e o → Fails e p
fails_by fault.NoMemory o p h f = tt
fails_by (fault.Unexpected s) o p h f = h f
fails_by fault.TooDeep o p h f = h f
fails_by (fault.LimitPassed s) o p h f = h f

pub fails_none : {A : Type 0} (e : Fault) (p : Option A) → p ≡ None → Fails e p
fails_none fault.NoMemory p h = tt
fails_none (fault.Unexpected s) p h = h
fails_none fault.TooDeep p h = h
fails_none (fault.LimitPassed s) p h = h

-- ---- items one after another

module _ {A : Type 0} (begins : List Lexeme → Bool) (item : ℕ → Part A) (weight : A → ℕ)
    (ws : List Lexeme) (found : List A) (count : ℕ) (rest : List Lexeme)
    (on : GoesOn begins item weight 0 ws found count rest) where
  pub loop_fails : begins rest ≡ true → (e : Fault) → Fails e (item count rest)
      → Fails e (items begins item weight 0 ws)
  loop_fails b e f = fails_by e (item count rest) (items begins item weight 0 ws)
      (λ h. goes_none begins item weight 0 ws found count rest on b h) f

-- ---- declarations

pub record DeclaresOn (ws : List Lexeme) (variables : List Variable) (decides : List (List ℕ))
    (rest : List Lexeme) : Type 0 where
  pub found : List Declaration
  pub of_variables : variables_of found ≡ variables
  pub of_decides : decides_of found ≡ decides
  pub few : length variables ≤ max_variables
  pub on : GoesOn begins_declaration declaration variable_count 0 ws found (length variables) rest

pub declares_first : (ws : List Lexeme) → DeclaresOn ws [] [] ws
declares_first ws =
    record {
      found = [];
      of_variables = refl;
      of_decides = refl;
      few = omega arith;
      on =
          goes_first begins_declaration declaration variable_count 0 ws;
    }

variables-append : (ds es : List Declaration) → variables_of (ds ++ es) ≡ variables_of ds
    ++ variables_of es
variables-append [] es = refl
variables-append (d.Variable v ∷ ds) es =
    ap (λ (vs : List Variable). v ∷ vs) (variables-append ds es)
variables-append (d.Decide x ∷ ds) es = variables-append ds es

decides-append : (ds es : List Declaration) → decides_of (ds ++ es) ≡ decides_of ds ++ decides_of es
decides-append [] es = refl
decides-append (d.Variable v ∷ ds) es = decides-append ds es
decides-append (d.Decide x ∷ ds) es = ap (λ (xs : List (List ℕ)). x ∷ xs) (decides-append ds es)

one-counts : (a : Declaration) → length (variables_of (a ∷ [])) ≡ variable_count a
one-counts (d.Variable v) = refl
one-counts (d.Decide x) = refl

module _ (ws : List Lexeme) (variables : List Variable) (decides : List (List ℕ))
    (rest : List Lexeme) (s : DeclaresOn ws variables decides rest) where
  pub declares_fails : (n : ℕ) → n ≡ length variables → begins_declaration rest ≡ true → (e : Fault)
      → Fails e (declaration n rest) → Fails e (declared ws)
  unfolding declared declarations
  declares_fails n count b e f =
      fails_by e (declaration (length variables) rest) (declared ws)
      (λ h. let none = goes_none begins_declaration declaration variable_count 0 ws s.found
      (length variables) rest s.on b h in rw none refl)
      (subst (λ k. Fails e (declaration k rest)) count f)

  pub declares_next : (n : ℕ) → n ≡ length variables → (a : Declaration) (xs : List Lexeme)
      → begins_declaration rest ≡ true → declaration n rest ≡ Some (a, xs)
      → DeclaresOn ws (variables ++ variables_of (a ∷ [])) (decides ++ decides_of (a ∷ [])) xs
  declares_next n count a xs b one =
      let is : declaration (length variables) rest ≡ Some (a, xs) =
      subst (λ k. declaration k rest ≡ Some (a, xs)) count one in
      let good = declaration_laws.good (length variables) rest a xs is in
      let short = declaration_laws.shorter a rest xs good.0 in
      let grown : variable_count a + length variables
      ≡ length (variables ++ variables_of (a ∷ [])) =
      omega (arith, length-append variables (variables_of (a ∷ [])), one-counts a) in
      record {
        found = s.found ++ a ∷ [];
        of_variables = variables-append s.found (a ∷ [])
            ∙ ap (λ (vs : List Variable). vs ++ variables_of (a ∷ [])) s.of_variables;
        of_decides = decides-append s.found (a ∷ [])
            ∙ ap (λ (xs : List (List ℕ)). xs ++ decides_of (a ∷ [])) s.of_decides;
        few = let few' = good.1 s.few in omega (arith, few', grown);
        on = subst
            (λ n. GoesOn begins_declaration declaration variable_count 0 ws (s.found ++ a ∷ []) n
            xs) grown
            (goes_next begins_declaration declaration variable_count 0 ws s.found (length variables)
            rest s.on a xs b is short);
      }

  pub declares_shorter : (n : ℕ) (a : Declaration) (xs : List Lexeme)
      → declaration n rest ≡ Some (a, xs) → length xs < length rest
  declares_shorter n a xs is =
      declaration_laws.shorter a rest xs (declaration_laws.good n rest a xs is).0

  pub declares_end : begins_declaration rest ≡ false → declared ws ≡ Some (variables, decides, rest)
  unfolding declared declarations
  declares_end b =
      let is = goes_end begins_declaration declaration variable_count 0 ws s.found
      (length variables) rest s.on b in
      rw (is, s.of_variables, s.of_decides) refl

-- ---- lists with commas

module _ {A : Type 0} (item : ℕ → Part A) (weight : A → ℕ) where
  pub record ListsOn (ws : List Lexeme) (found : List A) (count : ℕ)
      (rest : List Lexeme) : Type 0 where
    pub first : A
    pub start : List Lexeme
    pub more : List A
    pub is : found ≡ first ∷ more
    pub no_close : begins_with m.Close ws ≡ false
    pub one : item 0 ws ≡ Some (first, start)
    pub on : GoesOn (begins_with m.Comma) (behind_comma item weight) weight (weight first + 0) start
        more count rest

  abbrev list_by : Bool → List Lexeme → Option (List A × List Lexeme)
  list_by b ws =
      cond b (Some ([], ws))
      (item 0 ws >>= λ a. ahead a.0 (others item weight (weight a.0 + 0) a.1))

  listed_none : (b : Bool) (ws : List Lexeme) → b ≡ false → item 0 ws ≡ None → list_by b ws ≡ None
  listed_none b ws e gone = rw (e, gone) refl

  pub list_first_fails : (ws : List Lexeme) → begins_with m.Close ws ≡ false → (e : Fault)
      → Fails e (item 0 ws) → Fails e (listed item weight ws)
  unfolding listed
  list_first_fails ws b e f = fails_by e (item 0 ws) (listed item weight ws)
      (λ h. listed_none (begins_with m.Close ws) ws b h) f

  pub list_none : (ws : List Lexeme) → begins_with m.Close ws ≡ true
      → listed item weight ws ≡ Some ([], ws)
  unfolding listed
  list_none ws b = rw b refl

  pub list_first : (ws : List Lexeme) (a : A) (xs : List Lexeme) → begins_with m.Close ws ≡ false
      → item 0 ws ≡ Some (a, xs) → ListsOn ws (a ∷ []) (weight a + 0) xs
  list_first ws a xs b is =
      record {
        first = a;
        start = xs;
        more = [];
        is = refl;
        no_close = b;
        one = is;
        on =
            goes_first (begins_with m.Comma) (behind_comma item weight) weight (weight a + 0) xs;
      }

  module _ (ws : List Lexeme) (found : List A) (count : ℕ) (rest : List Lexeme)
      (s : ListsOn ws found count rest) where
    behind : (xs : List Lexeme) → after m.Comma rest ≡ Some xs → behind_comma item weight count rest
        ≡ item count xs
    behind xs e = rw e refl

    pub list_fails : (xs : List Lexeme) → after m.Comma rest ≡ Some xs → (e : Fault)
        → Fails e (item count xs) → Fails e (listed item weight ws)
    unfolding listed
    list_fails xs at e f =
        fails_by e (item count xs) (listed item weight ws)
        (λ h. let none = goes_none (begins_with m.Comma) (behind_comma item weight) weight
        (weight s.first + 0) s.start s.more count rest s.on (after_some m.Comma rest xs at)
        (behind xs at ∙ h) in rw (s.no_close, s.one, none) refl) f

    pub list_next : (xs : List Lexeme) (a : A) (ys : List Lexeme) → after m.Comma rest ≡ Some xs
        → item count xs ≡ Some (a, ys) → length ys < length rest
        → ListsOn ws (found ++ a ∷ []) (weight a + count) ys
    list_next xs a ys at is short = record {
      first = s.first;
      start = s.start;
      more = s.more ++ a ∷ [];
      is = ap (λ (v : List A). v ++ a ∷ []) s.is;
      no_close = s.no_close;
      one = s.one;
      on = goes_next (begins_with m.Comma) (behind_comma item weight) weight (weight s.first + 0)
          s.start s.more count rest s.on a ys (after_some m.Comma rest xs at) (behind xs at ∙ is)
          short;
    }

    pub list_end : after m.Comma rest ≡ None → listed item weight ws ≡ Some (found, rest)
    unfolding listed
    list_end at =
        let is = goes_end (begins_with m.Comma) (behind_comma item weight) weight
        (weight s.first + 0) s.start s.more count rest s.on (after_none m.Comma rest at) in
        rw (s.no_close, s.one, is, s.is) refl

  -- each turn takes words away
  pub list_shorter : {most : ℕ} {Item : A → List Lexeme → List Lexeme → Type 0}
      {Follows : List Lexeme → Type 0} → PartLaws item weight most Item Follows
      → (count : ℕ) (rest xs : List Lexeme) (a : A) (ys : List Lexeme)
      → after m.Comma rest ≡ Some xs → item count xs ≡ Some (a, ys) → length ys < length rest
  list_shorter laws count rest xs a ys at is =
      let one = laws.good count xs a ys is in
      let rest-is = ap length (after_is m.Comma rest xs at) in
      omega (arith, rest-is, laws.shorter a xs ys one.0)

-- ---- the fields of a block

pub record FieldsOn (ws : List Lexeme) (found : List Field) (rest : List Lexeme) : Type 0 where
  pub reads : ListsOn field (λ f. 1) ws found (length found) rest
  pub few : length found ≤ max_fields

pub fields_none : (ws : List Lexeme) → begins_with m.Close ws ≡ true → fields ws ≡ Some ([], ws)
unfolding fields
fields_none ws b = list_none field (λ f. 1) ws b

pub fields_first_fails : (ws : List Lexeme) → begins_with m.Close ws ≡ false → (e : Fault)
    → Fails e (field 0 ws) → Fails e (fields ws)
unfolding fields
fields_first_fails ws b e f = list_first_fails field (λ f. 1) ws b e f

pub fields_first : (ws : List Lexeme) (a : Field) (xs : List Lexeme)
    → begins_with m.Close ws ≡ false → field 0 ws ≡ Some (a, xs) → FieldsOn ws (a ∷ []) xs
fields_first ws a xs b is =
    record { reads = list_first field (λ f. 1) ws a xs b is; few = omega arith }

module _ (ws : List Lexeme) (found : List Field) (rest : List Lexeme)
    (s : FieldsOn ws found rest) where
  pub fields_fails : (n : ℕ) → n ≡ length found → (xs : List Lexeme) → after m.Comma rest ≡ Some xs
      → (e : Fault) → Fails e (field n xs) → Fails e (fields ws)
  unfolding fields
  fields_fails n count xs at e f = list_fails field (λ f. 1) ws found (length found) rest s.reads xs
      at e (subst (λ k. Fails e (field k xs)) count f)

  pub fields_next : (n : ℕ) → n ≡ length found → (xs : List Lexeme) (a : Field) (ys : List Lexeme)
      → after m.Comma rest ≡ Some xs → field n xs ≡ Some (a, ys) → FieldsOn ws (found ++ a ∷ []) ys
  fields_next n count xs a ys at one =
      let is : field (length found) xs ≡ Some (a, ys) =
      subst (λ k. field k xs ≡ Some (a, ys)) count one in
      let short = list_shorter field (λ f. 1) field_laws (length found) rest xs a ys at is in
      let grown : 1 + length found ≡ length (found ++ a ∷ []) =
      omega (arith, length-append found (a ∷ [])) in
      let few' = (field_laws.good (length found) xs a ys is).1 s.few in
      record {
        reads = subst (λ n. ListsOn field (λ f. 1) ws (found ++ a ∷ []) n ys) grown
            (list_next field (λ f. 1) ws found (length found) rest s.reads xs a ys at is short);
        few = omega (arith, few', grown);
      }

  pub fields_shorter : (n : ℕ) (xs : List Lexeme) (a : Field) (ys : List Lexeme)
      → after m.Comma rest ≡ Some xs → field n xs ≡ Some (a, ys) → length ys < length rest
  fields_shorter n xs a ys at is = list_shorter field (λ f. 1) field_laws n rest xs a ys at is

  pub fields_end : after m.Comma rest ≡ None → fields ws ≡ Some (found, rest)
  unfolding fields
  fields_end at = list_end field (λ f. 1) ws found (length found) rest s.reads at

-- ---- the sent expressions

abbrev pub SentOn : List Lexeme → List Tree → List Lexeme → Type 0
SentOn ws found rest = ListsOn any_formula (λ t. 0) ws found 0 rest

pub sent_none : (ws : List Lexeme) → begins_with m.Close ws ≡ true → sent ws ≡ Some ([], ws)
unfolding sent
sent_none ws b = list_none any_formula (λ t. 0) ws b

pub sent_first_fails : (ws : List Lexeme) → begins_with m.Close ws ≡ false → (e : Fault)
    → Fails e (formula ws) → Fails e (sent ws)
unfolding sent
sent_first_fails ws b e f = list_first_fails any_formula (λ t. 0) ws b e f

pub sent_first : (ws : List Lexeme) (a : Tree) (xs : List Lexeme) → begins_with m.Close ws ≡ false
    → formula ws ≡ Some (a, xs) → SentOn ws (a ∷ []) xs
sent_first ws a xs b is = list_first any_formula (λ t. 0) ws a xs b is

module _ (ws : List Lexeme) (found : List Tree) (rest : List Lexeme)
    (s : SentOn ws found rest) where
  pub sent_fails : (xs : List Lexeme) → after m.Comma rest ≡ Some xs → (e : Fault)
      → Fails e (formula xs) → Fails e (sent ws)
  unfolding sent
  sent_fails xs at e f = list_fails any_formula (λ t. 0) ws found 0 rest s xs at e f

  pub sent_shorter : (xs : List Lexeme) (a : Tree) (ys : List Lexeme) → after m.Comma rest ≡ Some xs
      → formula xs ≡ Some (a, ys) → length ys < length rest
  sent_shorter xs a ys at is = list_shorter any_formula (λ t. 0) expr_laws 0 rest xs a ys at is

  pub sent_next : (xs : List Lexeme) (a : Tree) (ys : List Lexeme) → after m.Comma rest ≡ Some xs
      → formula xs ≡ Some (a, ys) → SentOn ws (found ++ a ∷ []) ys
  sent_next xs a ys at is =
      list_next any_formula (λ t. 0) ws found 0 rest s xs a ys at is (sent_shorter xs a ys at is)

  pub sent_end : after m.Comma rest ≡ None → sent ws ≡ Some (found, rest)
  unfolding sent
  sent_end at = list_end any_formula (λ t. 0) ws found 0 rest s at

-- ---- assignments

abbrev pub AssignsOn : List Lexeme → List Assignment → List Lexeme → Type 0
AssignsOn ws found rest = GoesOn begins_name any_assignment (λ a. 0) 0 ws found 0 rest

pub assigns_first : (ws : List Lexeme) → AssignsOn ws [] ws
assigns_first ws = goes_first begins_name any_assignment (λ a. 0) 0 ws

pub assigns_shorter : (rest : List Lexeme) (a : Assignment) (xs : List Lexeme)
    → assignment rest ≡ Some (a, xs) → length xs < length rest
assigns_shorter rest a xs is =
    assignment_laws.shorter a rest xs (assignment_laws.good 0 rest a xs is).0

module _ (ws : List Lexeme) (found : List Assignment) (rest : List Lexeme)
    (s : AssignsOn ws found rest) where
  pub assigns_fails : begins_name rest ≡ true → (e : Fault) → Fails e (assignment rest)
      → Fails e (assignments ws)
  unfolding assignments
  assigns_fails b e f = loop_fails begins_name any_assignment (λ a. 0) ws found 0 rest s b e f

  pub assigns_next : (a : Assignment) (xs : List Lexeme) → begins_name rest ≡ true
      → assignment rest ≡ Some (a, xs) → AssignsOn ws (found ++ a ∷ []) xs
  assigns_next a xs b is = goes_next begins_name any_assignment (λ a. 0) 0 ws found 0 rest s a xs b
      is (assigns_shorter rest a xs is)

  pub assigns_end : begins_name rest ≡ false → assignments ws ≡ Some (found, rest)
  unfolding assignments
  assigns_end b = goes_end begins_name any_assignment (λ a. 0) 0 ws found 0 rest s b

-- ---- blocks

abbrev pub BlocksOn : List Lexeme → List BlockTree → List Lexeme → Type 0
BlocksOn ws found rest = GoesOn (begins_with m.At) any_block (λ b. 0) 0 ws found 0 rest

pub blocks_first : (ws : List Lexeme) → BlocksOn ws [] ws
blocks_first ws = goes_first (begins_with m.At) any_block (λ b. 0) 0 ws

module _ (ws : List Lexeme) (found : List BlockTree) (rest : List Lexeme)
    (s : BlocksOn ws found rest) (xs : List Lexeme) (at : after m.At rest ≡ Some xs) where
  behind_at : (after m.At rest >>= block) ≡ block xs
  behind_at = rw at refl

  pub blocks_fails : (e : Fault) → Fails e (block xs) → Fails e (blocks ws)
  unfolding blocks
  blocks_fails e f = fails_by e (block xs) (items (begins_with m.At) any_block (λ b. 0) 0 ws)
      (λ h. goes_none (begins_with m.At) any_block (λ b. 0) 0 ws found 0 rest s
      (after_some m.At rest xs at) (behind_at ∙ h)) f

  pub blocks_shorter : (b : BlockTree) (ys : List Lexeme) → block xs ≡ Some (b, ys)
      → length ys < length rest
  blocks_shorter b ys is =
      block_laws.shorter b rest ys (block_laws.good 0 rest b ys (behind_at ∙ is)).0

  pub blocks_next : (b : BlockTree) (ys : List Lexeme) → block xs ≡ Some (b, ys)
      → BlocksOn ws (found ++ b ∷ []) ys
  blocks_next b ys is = goes_next (begins_with m.At) any_block (λ b. 0) 0 ws found 0 rest s b ys
      (after_some m.At rest xs at) (behind_at ∙ is) (blocks_shorter b ys is)

pub blocks_end : (ws : List Lexeme) (found : List BlockTree) (rest : List Lexeme)
    → BlocksOn ws found rest → after m.At rest ≡ None → blocks ws ≡ Some (found, rest)
unfolding blocks
blocks_end ws found rest s at =
    goes_end (begins_with m.At) any_block (λ b. 0) 0 ws found 0 rest s (after_none m.At rest at)
