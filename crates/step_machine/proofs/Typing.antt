-- What a checked program's nodes begin with, send and end their rounds with has its types: so the
-- code can read it, and frames can spell it.
use Rattle.std.proofs.Common.{◌≡◌, ℕ, zero, suc, ◌-◌, ◌%◌, List, [], ◌∷◌, map, Option, Some, None}
use Rattle.std.proofs.Common.{ap, refl, sym, subst, ◌∙◌}
use Rattle.std.specs.Prelude.{IfSome, slice_get, slice_index_or}
use Rattle.round_lang.specs.declared.block.Field.{Field}
use Rattle.round_lang.specs.declared.expr.Ty.{Ty}
use Rattle.round_lang.specs.declared.expr.Ty.TheVariants as ty
use Rattle.round_lang.specs.declared.kind.Kind.TheVariants.{Row as RowKind}
use Rattle.round_lang.specs.declared.program.Variable.{Variable}
use Rattle.round_lang.specs.declared.value.Value.{Value}
use Rattle.round_lang.specs.declared.value.Value.TheVariants.{Num, Flag, Set, Row}
use Rattle.round_lang.specs.Syntax.{BlockTree, ProgramTree}
use Rattle.round_lang.specs.Words.{kind_for, kind_of}
use Rattle.round_check.specs.Shapes.{block_kinds}
use Rattle.round_check.specs.Types.{kind_type}
use Rattle.round_meaning.specs.declared.received.Received.{Received}
use Rattle.round_meaning.specs.declared.setup.Setup.{Setup}
use Rattle.round_meaning.specs.Rounds.{Algorithm, algorithm, algorithm_of}
use Rattle.round_meaning.specs.Turn.{block_at}
use Rattle.round_meaning.specs.Typed.{
  HasType,
  IsInboxOf,
  IsMessage,
  IsMessageOf,
  IsState,
  IsStateOf,
}
use Rattle.round_meaning.specs.Typed.{fields_in}
use Rattle.frame_format.specs.Formats.{format_of, kinds_at}
use Rattle.frame_format.specs.Spelling.{AreOf, IsOf}
use Rattle.step_code.specs.Turns.{IsOfBlock, IsOfRound, IsOfState}
use Rattle.step_machine.specs.Sealed.{HasStateTypes, KeepsTypes}

-- ---- of its type, and so of its kind

type_kind : (k : ℕ) (t : Ty) (v : Value) → HasType k t v → kind_of v ≡ kind_for k t
type_kind k ty.Num (Num n) h = refl
type_kind k ty.Bool (Flag b) h = refl
type_kind k ty.Set (Set s) h = refl
type_kind k ty.Row (Row r) h = ap RowKind h
type_kind k ty.Num (Flag b) h = absurd h
type_kind k ty.Num (Set s) h = absurd h
type_kind k ty.Num (Row r) h = absurd h
type_kind k ty.Bool (Num n) h = absurd h
type_kind k ty.Bool (Set s) h = absurd h
type_kind k ty.Bool (Row r) h = absurd h
type_kind k ty.Set (Num n) h = absurd h
type_kind k ty.Set (Flag b) h = absurd h
type_kind k ty.Set (Row r) h = absurd h
type_kind k ty.Row (Num n) h = absurd h
type_kind k ty.Row (Flag b) h = absurd h
type_kind k ty.Row (Set s) h = absurd h

state_kinds_of : (k : ℕ) (ds : List Variable) (vs : List Value) → IsState k ds vs
    → map kind_of vs ≡ map (λ (v : Variable). kind_for k (kind_type v.kind)) ds
state_kinds_of k [] [] h = refl
state_kinds_of k [] (v ∷ vs) h = absurd h
state_kinds_of k (d ∷ ds) [] h = absurd h
state_kinds_of k (d ∷ ds) (v ∷ vs) h =
    ap (λ l. l ∷ map kind_of vs) (type_kind k (kind_type d.kind) v h.0)
    ∙ ap (λ l. kind_for k (kind_type d.kind) ∷ l) (state_kinds_of k ds vs h.1)

field_kinds_of : (k : ℕ) (fs : List Field) (vs : List Value) → IsMessage k fs vs
    → map kind_of vs ≡ map (λ (f : Field). kind_for k f.ty) fs
field_kinds_of k [] [] h = refl
field_kinds_of k [] (v ∷ vs) h = absurd h
field_kinds_of k (f ∷ fs) [] h = absurd h
field_kinds_of k (f ∷ fs) (v ∷ vs) h =
    ap (λ l. l ∷ map kind_of vs) (type_kind k f.ty v h.0)
    ∙ ap (λ l. kind_for k f.ty ∷ l) (field_kinds_of k fs vs h.1)

-- the code can read a state
pub state_of_program : (p : ProgramTree) (vs : List Value) → IsStateOf p vs → IsOfState p vs
state_of_program p vs h = state_kinds_of p.values p.variables vs h

of_block : (p : ProgramTree) (o : Option BlockTree) (m : List Value)
    → IsMessage p.values (fields_in o) m → IsOfBlock p o m
of_block p None m h = tt
of_block p (Some b) m h = field_kinds_of p.values b.fields m h

-- and a message
pub message_of_round : (p : ProgramTree) (r : ℕ) (m : List Value) → IsMessageOf p r m
    → IsOfRound p r m
message_of_round p r m h = of_block p (block_at p r) m h

-- ---- messages fit their frames

value_fits : (k : ℕ) (t : Ty) (v : Value) → HasType k t v → IsOf k (kind_for k t) v
value_fits k ty.Num (Num n) h = tt
value_fits k ty.Bool (Flag b) h = tt
value_fits k ty.Set (Set s) h = h
value_fits k ty.Row (Row r) h = h
value_fits k ty.Num (Flag b) h = absurd h
value_fits k ty.Num (Set s) h = absurd h
value_fits k ty.Num (Row r) h = absurd h
value_fits k ty.Bool (Num n) h = absurd h
value_fits k ty.Bool (Set s) h = absurd h
value_fits k ty.Bool (Row r) h = absurd h
value_fits k ty.Set (Num n) h = absurd h
value_fits k ty.Set (Flag b) h = absurd h
value_fits k ty.Set (Row r) h = absurd h
value_fits k ty.Row (Num n) h = absurd h
value_fits k ty.Row (Flag b) h = absurd h
value_fits k ty.Row (Set s) h = absurd h

fields_fit : (k : ℕ) (fs : List Field) (vs : List Value) → IsMessage k fs vs
    → AreOf k (map (λ (f : Field). kind_for k f.ty) fs) vs
fields_fit k [] [] h = tt
fields_fit k [] (v ∷ vs) h = absurd h
fields_fit k (f ∷ fs) [] h = absurd h
fields_fit k (f ∷ fs) (v ∷ vs) h = (value_fits k f.ty v h.0, fields_fit k fs vs h.1)

no_fields_fit : (k : ℕ) (vs : List Value) → IsMessage k [] vs → AreOf k [] vs
no_fields_fit k [] h = tt
no_fields_fit k (v ∷ vs) h = absurd h

blocks_fit : (k : ℕ) (bs : List BlockTree) (i : ℕ) (m : List Value)
    → IsMessage k (fields_in (slice_get bs i)) m
    → AreOf k (slice_index_or (map (block_kinds k) bs) i []) m
blocks_fit k [] i m h = no_fields_fit k m h
blocks_fit k (b ∷ bs) zero m h = fields_fit k b.fields m h
blocks_fit k (b ∷ bs) (suc i) m h = blocks_fit k bs i m h

-- a message of a round is one of those that the frames of the round spell
pub message_fits : (p : ProgramTree) (n r : ℕ) (m : List Value) → IsMessageOf p r m
    → AreOf p.values (kinds_at (format_of p n) r) m
message_fits p n r m h = blocks_fit p.values p.blocks ((r - 1) % p.period) m h

-- ---- types are kept

pub starts_typed : (a : Algorithm) (i : ℕ) → HasStateTypes a (a.init i)
unfolding algorithm HasStateTypes
starts_typed a i p s keeps same = subst (λ (b : Algorithm). IsStateOf p (b.init i)) (sym same)
    (keeps.starts s.nodes s.faults _ i)

pub sends_typed : (a : Algorithm) (p : ProgramTree) (s : Setup) → KeepsTypes p
    → a ≡ algorithm_of p s → (r : ℕ) (vs : List Value) (j i : ℕ) → HasStateTypes a vs
    → IfSome (a.send r vs j i) (IsMessageOf p r)
unfolding algorithm HasStateTypes
sends_typed a p s keeps same r vs j i types =
    subst (λ (b : Algorithm). IfSome (b.send r vs j i) (IsMessageOf p r)) (sym same)
    (keeps.sends s.nodes s.faults r vs j i (types p s keeps same))

pub ends_typed : (a : Algorithm) (r i : ℕ) (inbox : List Received) (vs : List Value)
    → HasStateTypes a vs → ((p : ProgramTree) (s : Setup) → KeepsTypes p → a ≡ algorithm_of p s
    → IsInboxOf p r inbox) → HasStateTypes a (a.end r i inbox vs)
unfolding algorithm HasStateTypes
ends_typed a r i inbox vs types messages p s keeps same =
    subst (λ (b : Algorithm). IsStateOf p (b.end r i inbox vs)) (sym same)
    (keeps.ends s.nodes s.faults r i inbox vs (types p s keeps same) (messages p s keeps same))
