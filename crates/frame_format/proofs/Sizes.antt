-- The fields of a program's blocks are few and small.
use Rattle.std.proofs.Common.{◌≡◌, ℕ, zero, suc, ◌+◌, ◌*◌, ◌<◌, ◌≤◌, List, [], ◌∷◌, ◌++◌, length}
use Rattle.std.proofs.Common.{get_or, take, arith, refl, sym, ap, subst, ◌∙◌}
use Rattle.std.specs.Prelude.{map, slice_get, Some}
use Rattle.std.specs.Option.{option_map}
use Rattle.std.proofs.lemmas.List.{length-map, take_more}
use Rattle.std.proofs.lemmas.Option.{get_or_from_slice_get, slice_get-map}
use Rattle.round_lang.specs.declared.block.Field.{Field}
use Rattle.round_lang.specs.declared.expr.Ty.{Ty}
use Rattle.round_lang.specs.declared.expr.Ty.TheVariants.{Num, Bool as Truth, Set, Row}
use Rattle.round_lang.specs.declared.kind.Kind.{Kind}
use Rattle.round_lang.specs.Syntax.{BlockTree, ProgramTree}
use Rattle.round_lang.specs.Words.{kind_for}
use Rattle.round_check.specs.Shapes.{block_kinds, message_kinds}
use Rattle.frame_format.specs.Formats.{IsBlock, size, width}

width_small : (k : ℕ) (t : Ty) → k ≤ 64 → width (kind_for k t) ≤ 256
width_small k Num h = omega arith
width_small k Truth h = omega arith
width_small k Set h = omega arith
width_small k Row h = omega arith

size_small : (k : ℕ) (fs : List Field) → k ≤ 64
    → size (map (λ (f : Field). kind_for k f.ty) fs) ≤ 256 * length fs
size_small k [] h = omega arith
size_small k (f ∷ fs) h =
    let w : width (kind_for k f.ty) ≤ 256 = width_small k f.ty h in
    omega (arith, size_small k fs h)

length_kinds : (k : ℕ) (fs : List Field)
    → length (map (λ (f : Field). kind_for k f.ty) fs) ≡ length fs
length_kinds k [] = refl
length_kinds k (f ∷ fs) = omega (arith, length_kinds k fs)

-- at most 8 fields over at most 64 values
pub IsBlock-kinds : (k : ℕ) (b : BlockTree) → k ≤ 64 → length b.fields ≤ 8
    → IsBlock (block_kinds k b)
IsBlock-kinds k b few h =
    record {
      few = omega (arith, length_kinds k b.fields);
      small = omega (arith, size_small k b.fields few);
    }

-- no fields
pub IsBlock-nil : IsBlock []
IsBlock-nil = record { few = omega arith; small = omega arith }

-- the kinds of the block at a place are few and small
pub IsBlock-at : (p : ProgramTree) (place : ℕ) (b : BlockTree) → slice_get p.blocks place ≡ Some b
    → p.values ≤ 64 → length b.fields ≤ 8 → IsBlock (get_or (message_kinds p) place [])
IsBlock-at p place b e few h =
    let at : slice_get (message_kinds p) place ≡ Some (block_kinds p.values b) =
    slice_get-map (block_kinds p.values) p.blocks place
    ∙ ap (option_map (block_kinds p.values)) e in
    let is : get_or (message_kinds p) place [] ≡ block_kinds p.values b =
    get_or_from_slice_get (message_kinds p) place (block_kinds p.values b) [] at in
    subst IsBlock (sym is) (IsBlock-kinds p.values b few h)

-- those of one block more
pub kinds_more : (p : ProgramTree) (place : ℕ) → place < length p.blocks
    → take (place + 1) (message_kinds p) ≡ take place (message_kinds p)
    ++ get_or (message_kinds p) place [] ∷ []
kinds_more p place within =
    take_more (message_kinds p) place [] (omega (arith, length-map p.blocks (block_kinds p.values)))

-- one block more that is lawful
pub lawful_more : (blocks : List (List Kind)) (kinds : List Kind)
    → ((i : ℕ) → IsBlock (get_or blocks i [])) → IsBlock kinds → (i : ℕ)
    → IsBlock (get_or (blocks ++ kinds ∷ []) i [])
lawful_more [] kinds before here zero = here
lawful_more [] kinds before here (suc i) = IsBlock-nil
lawful_more (b ∷ bs) kinds before here zero = before 0
lawful_more (b ∷ bs) kinds before here (suc i) = lawful_more bs kinds (λ j. before (suc j)) here i
