-- Fields that are read by the kinds that they are known to have.
use Rattle.std.proofs.Common.{
  ◌≡◌,
  ◌∙◌,
  ℕ,
  zero,
  suc,
  ◌≤◌,
  List,
  [],
  ◌∷◌,
  map,
  length,
  drop,
  arith,
  refl,
  ap,
  sym,
  subst,
}
use Rattle.std.proofs.lemmas.List.{length-drop}
use Rattle.round_lang.specs.declared.kind.Kind.{Kind}
use Rattle.round_lang.specs.declared.kind.Kind.TheVariants as kind
use Rattle.round_lang.specs.Words.{kind_of}
use Rattle.frame_format.specs.declared.version.FrameVersion.TheVariants.{V2}
use Rattle.frame_format.specs.Formats.{Format, kinds_at, position, size, width, IsBlock, IsFormat}
use Rattle.frame_format.specs.Headers.{header_size}
use Rattle.frame_format.specs.Places.{head_at, round_at, version_at}
use Rattle.frame_format.specs.Reading.{field_at, fields_at, frame_at, numbers}
use Rattle.step_machine.specs.Framing.{IsSealed}

length-numbers : (k : ℕ) (bytes : List ℕ) → length (numbers k bytes) ≡ k
length-numbers zero bytes = refl
length-numbers (suc k) bytes = omega (arith, length-numbers k (drop 4 bytes))

kind_read : (k : Kind) (bytes : List ℕ) → kind_of (field_at k bytes) ≡ k
kind_read kind.Num bytes = refl
kind_read kind.Flag bytes = refl
kind_read kind.Set bytes = refl
kind_read (kind.Row n) bytes = ap kind.Row (length-numbers n bytes)

-- values that are read by kinds are of these kinds
kinds_read : (ks : List Kind) (bytes : List ℕ) → map kind_of (fields_at ks bytes) ≡ ks
kinds_read [] bytes = refl
kinds_read (k ∷ ks) bytes =
    ap (λ x. x ∷ map kind_of (fields_at ks (drop (width k) bytes))) (kind_read k bytes)
    ∙ ap (λ l. k ∷ l) (kinds_read ks (drop (width k) bytes))

-- the bytes behind a header of version 2
pub record AreFields (s : Format) (bytes : List ℕ) (kinds : List Kind)
    (body : List ℕ) : Type 0 where
  pub block : IsBlock kinds
  pub room : size kinds ≤ length body
  pub message_is : fields_at kinds body ≡ (frame_at s bytes).message

module _ (s : Format) (format : IsFormat s) (bytes : List ℕ) (h : IsSealed s bytes) where
  head_is : head_at bytes ≡ 13
  unfolding frame_at
  head_is = let second : version_at bytes ≡ V2 = h.second in ap header_size second

  pub behind_header : 13 ≤ length bytes
  behind_header = omega (arith, h.frame.all, head_is)

  pub read_by : (kinds : List Kind) (body : List ℕ) → map kind_of (frame_at s bytes).message ≡ kinds
      → body ≡ drop 13 bytes → AreFields s bytes kinds body
  unfolding frame_at
  read_by kinds body e b =
      let ks = kinds_at s (round_at bytes) in
      let same : kinds ≡ ks = sym e ∙ kinds_read ks (drop (head_at bytes) bytes) in
      let there : body ≡ drop (head_at bytes) bytes = b
      ∙ ap (λ (n : ℕ). drop n bytes) (sym head_is) in
      record {
        block = subst IsBlock (sym same) (format.blocks (position s (round_at bytes)));
        room = omega (
          arith,
          ap size same,
          ap length there,
          length-drop (head_at bytes) bytes,
          h.frame.all,
        );
        message_is = rw (same, there) refl;
      }
