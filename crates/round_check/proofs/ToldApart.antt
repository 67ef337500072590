-- Programs of one spelling are one program.
use Rattle.std.proofs.Common.{◌≡◌, ℕ, zero, suc, List, [], ◌∷◌, refl, sym, ap, ap₂, ◌∙◌}
use Rattle.std.specs.Prelude.{slice_index_or}
use Rattle.round_lang.specs.declared.block.Assignment.{Assignment}
use Rattle.round_lang.specs.declared.block.Field.{Field}
use Rattle.round_lang.specs.declared.expr.BinaryOperator.{BinaryOperator}
use Rattle.round_lang.specs.declared.expr.BinaryOperator.TheVariants.{Add, Sub, Div, Mod, Equal}
use Rattle.round_lang.specs.declared.expr.BinaryOperator.TheVariants.{Differs, Less, AtMost, More}
use Rattle.round_lang.specs.declared.expr.BinaryOperator.TheVariants.{AtLeast, And, Or, Union}
use Rattle.round_lang.specs.declared.expr.BinaryOperator.TheVariants.{Inter, Minus, Has, Entry}
use Rattle.round_lang.specs.declared.expr.Constant.{Constant}
use Rattle.round_lang.specs.declared.expr.Constant.TheVariants.{True, False, Empty, All, Zero, Me}
use Rattle.round_lang.specs.declared.expr.Constant.TheVariants.{Nodes, Faults, Round, Phase, Dest}
use Rattle.round_lang.specs.declared.expr.Constant.TheVariants.{From}
use Rattle.round_lang.specs.declared.expr.Ty.{Ty}
use Rattle.round_lang.specs.declared.expr.Ty.TheVariants.{Num, Bool, Set, Row}
use Rattle.round_lang.specs.declared.expr.UnaryOperator.{UnaryOperator}
use Rattle.round_lang.specs.declared.expr.UnaryOperator.TheVariants.{Not, Single, Size, Least}
use Rattle.round_lang.specs.declared.program.Variable.{Variable}
use Rattle.round_lang.specs.declared.program.VariableKind.{VariableKind}
use Rattle.round_lang.specs.declared.program.VariableKind.TheVariants.{Input, State}
use Rattle.round_lang.specs.Syntax.{BlockTree, ProgramTree}
use Rattle.round_lang.specs.Tree.{Tree}
use Rattle.round_lang.specs.TreeCode.{Word, WNumber, WFixed, WNamed, WUnary, WBinary, WIf, WSetOf}
use Rattle.round_lang.specs.TreeCode.{WRowOf, tree_back, tree_from, words}
use Rattle.round_check.specs.Spelling.{assignment_then, binary_number, block_then, constant_number}
use Rattle.round_check.specs.Spelling.{field_then, kind_then, list_then, name_then, program_then}
use Rattle.round_check.specs.Spelling.{spelled, tree_then, ty_number, unary_number, variable_then}
use Rattle.round_check.specs.Spelling.{word_then}

-- what is spelled alike, with what follows it, is alike, and so is what follows
abbrev Apart : {A : Type 0} → (A → List ℕ → List ℕ) → Type 0
Apart {A} f = (a b : A) (r s : List ℕ) → f a r ≡ f b s → (a ≡ b) × (r ≡ s)

-- numbers back to what they are the places of
abbrev ty_from : ℕ → Ty
ty_from n = slice_index_or (Num ∷ Bool ∷ Set ∷ Row ∷ []) n Num

abbrev constant_from : ℕ → Constant
constant_from n =
    slice_index_or
    (True ∷ False ∷ Empty ∷ All ∷ Zero ∷ Me ∷ Nodes ∷ Faults ∷ Round ∷ Phase ∷ Dest ∷ From ∷ []) n
    True

abbrev unary_from : ℕ → UnaryOperator
unary_from n = slice_index_or (Not ∷ Single ∷ Size ∷ Least ∷ []) n Not

abbrev binary_from : ℕ → BinaryOperator
binary_from n =
    slice_index_or
    (Add ∷ Sub ∷ Div ∷ Mod ∷ Equal ∷ Differs ∷ Less ∷ AtMost ∷ More ∷ AtLeast ∷ And ∷ Or ∷ Union ∷
    Inter ∷ Minus ∷ Has ∷ Entry ∷ []) n Add

ty_back : (t : Ty) → ty_from (ty_number t) ≡ t
ty_back Num = refl
ty_back Bool = refl
ty_back Set = refl
ty_back Row = refl

constant_back : (c : Constant) → constant_from (constant_number c) ≡ c
constant_back True = refl
constant_back False = refl
constant_back Empty = refl
constant_back All = refl
constant_back Zero = refl
constant_back Me = refl
constant_back Nodes = refl
constant_back Faults = refl
constant_back Round = refl
constant_back Phase = refl
constant_back Dest = refl
constant_back From = refl

unary_back : (op : UnaryOperator) → unary_from (unary_number op) ≡ op
unary_back Not = refl
unary_back Single = refl
unary_back Size = refl
unary_back Least = refl

binary_back : (op : BinaryOperator) → binary_from (binary_number op) ≡ op
binary_back Add = refl
binary_back Sub = refl
binary_back Div = refl
binary_back Mod = refl
binary_back Equal = refl
binary_back Differs = refl
binary_back Less = refl
binary_back AtMost = refl
binary_back More = refl
binary_back AtLeast = refl
binary_back And = refl
binary_back Or = refl
binary_back Union = refl
binary_back Inter = refl
binary_back Minus = refl
binary_back Has = refl
binary_back Entry = refl

ty_apart : (t u : Ty) → ty_number t ≡ ty_number u → t ≡ u
ty_apart t u e = sym (ty_back t) ∙ ap ty_from e ∙ ty_back u

-- a name, and what follows it
abbrev name_of : List ℕ → List ℕ
name_of [] = []
name_of (zero ∷ l) = []
name_of (suc c ∷ l) = c ∷ name_of l

abbrev behind_name : List ℕ → List ℕ
behind_name [] = []
behind_name (zero ∷ l) = l
behind_name (suc c ∷ l) = behind_name l

name_back : (x r : List ℕ) → name_of (name_then x r) ≡ x
name_back [] r = refl
name_back (c ∷ x) r = ap (λ l. c ∷ l) (name_back x r)

name_left : (x r : List ℕ) → behind_name (name_then x r) ≡ r
name_left [] r = refl
name_left (c ∷ x) r = name_left x r

name_apart : Apart name_then
name_apart x y r s e = (
  sym (name_back x r) ∙ ap name_of e ∙ name_back y s,
  sym (name_left x r) ∙ ap behind_name e
      ∙ name_left y s,
)

-- a word of a tree's code, and what follows it
abbrev first : List ℕ → ℕ
first [] = 0
first (n ∷ l) = n

abbrev behind : List ℕ → List ℕ
behind [] = []
behind (n ∷ l) = l

abbrev words_tagged : List ℕ → List Word
words_tagged l = WNumber (first l) ∷ WFixed (constant_from (first l)) ∷ WNamed (name_of l) ∷ WUnary
    (unary_from (first l)) ∷ WBinary (binary_from (first l)) ∷ WIf ∷ WSetOf (name_of l) ∷ WRowOf
    (name_of l) ∷ []

abbrev behind_tagged : List ℕ → List (List ℕ)
behind_tagged l = behind l ∷ behind l ∷ behind_name l ∷ behind l ∷ behind l ∷ l ∷ behind_name l ∷
    behind_name l ∷ []

abbrev word_of : List ℕ → Word
word_of l = slice_index_or (words_tagged (behind l)) (first l) WIf

abbrev behind_word : List ℕ → List ℕ
behind_word l = slice_index_or (behind_tagged (behind l)) (first l) []

word_back : (w : Word) (r : List ℕ) → word_of (word_then w r) ≡ w
word_back (WNumber n) r = refl
word_back (WFixed c) r = ap WFixed (constant_back c)
word_back (WNamed x) r = ap WNamed (name_back x r)
word_back (WUnary op) r = ap WUnary (unary_back op)
word_back (WBinary op) r = ap WBinary (binary_back op)
word_back WIf r = refl
word_back (WSetOf x) r = ap WSetOf (name_back x r)
word_back (WRowOf x) r = ap WRowOf (name_back x r)

word_left : (w : Word) (r : List ℕ) → behind_word (word_then w r) ≡ r
word_left (WNumber n) r = refl
word_left (WFixed c) r = refl
word_left (WNamed x) r = name_left x r
word_left (WUnary op) r = refl
word_left (WBinary op) r = refl
word_left WIf r = refl
word_left (WSetOf x) r = name_left x r
word_left (WRowOf x) r = name_left x r

word_apart : Apart word_then
word_apart v w r s e = (
  sym (word_back v r) ∙ ap word_of e ∙ word_back w s,
  sym (word_left v r) ∙ ap behind_word e
      ∙ word_left w s,
)

-- lists of what is told apart
list_apart : {A : Type 0} (f : A → List ℕ → List ℕ) → Apart f → Apart (list_then f)
list_apart f told [] [] r s e = (refl, ap behind e)
list_apart f told [] (b ∷ m) r s e = absurd cc e
list_apart f told (a ∷ l) [] r s e = absurd cc e
list_apart f told (a ∷ l) (b ∷ m) r s e =
    let one = told a b _ _ (ap behind e) in
    let all = list_apart f told l m r s one.1 in
    (cc (one.0, all.0), all.1)

tree_apart : Apart tree_then
tree_apart t u r s e =
    let w = list_apart word_then word_apart (words t) (words u) r s e in
    (sym (tree_back t) ∙ ap tree_from w.0 ∙ tree_back u, w.1)

field_apart : Apart field_then
field_apart f g r s e =
    let name = name_apart f.name g.name _ _ e in
    let ty = ty_apart f.ty g.ty (ap first name.1) in
    let made : List ℕ → Ty → Field = λ x u. record { name = x; ty = u } in
    (ap₂ made name.0 ty, ap behind name.1)

assignment_apart : Apart assignment_then
assignment_apart a b r s e =
    let target = name_apart a.target b.target _ _ e in
    let formula = tree_apart a.formula b.formula _ _ target.1 in
    let made : List ℕ → Tree → Assignment = λ x u. record { target = x; formula = u } in
    (ap₂ made target.0 formula.0, formula.1)

kind_apart : Apart kind_then
kind_apart Input Input r s e = (refl, ap behind e)
kind_apart Input (State u other) r s e = absurd cc e
kind_apart (State t start) Input r s e = absurd cc e
kind_apart (State t start) (State u other) r s e =
    let ty = ty_apart t u (ap (λ l. first (behind l)) e) in
    let formula = tree_apart start other _ _ (ap (λ l. behind (behind l)) e) in
    (cc (ty, formula.0), formula.1)

variable_apart : Apart variable_then
variable_apart v w r s e =
    let name = name_apart v.name w.name _ _ e in
    let kind = kind_apart v.kind w.kind _ _ name.1 in
    let made : List ℕ → VariableKind → Variable = λ x k. record { name = x; kind = k } in
    (ap₂ made name.0 kind.0, kind.1)

abbrev made_block : ℕ → List Field → Tree → List Tree → List Assignment → List Assignment
    → BlockTree
made_block n f c s m e =
    record { number = n; fields = f; condition = c; sent = s; on_message = m; end = e }

block_apart : Apart block_then
block_apart b c r s e =
    let number = ap first e in
    let fields = list_apart field_then field_apart b.fields c.fields _ _ (ap behind e) in
    let condition = tree_apart b.condition c.condition _ _ fields.1 in
    let sent = list_apart tree_then tree_apart b.sent c.sent _ _ condition.1 in
    let heard = list_apart assignment_then assignment_apart b.on_message c.on_message _ _ sent.1 in
    let end = list_apart assignment_then assignment_apart b.end c.end _ _ heard.1 in
    let same : made_block b.number b.fields b.condition b.sent b.on_message b.end
    ≡ made_block c.number c.fields c.condition c.sent c.on_message c.end =
    cc (number, fields.0, condition.0, sent.0, heard.0, end.0) in
    (same, end.1)

abbrev made_program : ℕ → ℕ → List Variable → List (List ℕ) → List BlockTree → ProgramTree
made_program k p v d b = record { values = k; period = p; variables = v; decides = d; blocks = b }

program_apart : Apart program_then
program_apart p q r s e =
    let values = ap first e in
    let period = ap (λ l. first (behind l)) e in
    let variables = list_apart variable_then variable_apart p.variables q.variables _ _
    (ap (λ l. behind (behind l)) e) in
    let decides = list_apart name_then name_apart p.decides q.decides _ _ variables.1 in
    let blocks = list_apart block_then block_apart p.blocks q.blocks _ _ decides.1 in
    let same : made_program p.values p.period p.variables p.decides p.blocks ≡ made_program q.values
    q.period q.variables q.decides q.blocks =
    cc (values, period, variables.0, decides.0, blocks.0) in
    (same, blocks.1)

pub told_apart : (p q : ProgramTree) → spelled p ≡ spelled q → p ≡ q
told_apart p q e = (program_apart p q [] [] e).0
