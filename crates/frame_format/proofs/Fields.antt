-- A field that is read is the field that was written, and what was written is read again.
use Rattle.std.proofs.Common.{◌≡◌, ℕ, zero, suc, ◌+◌, ◌*◌, ◌^◌, ◌<◌, ◌≤◌, Bool, true, false, cond}
use Rattle.std.proofs.Common.{ltb, List, [], ◌∷◌, ◌++◌, length, get_or, drop, Option, Some, None}
use Rattle.std.proofs.Common.{arith, refl, sym, ap, subst, ◌∙◌, eqb, append_assoc}
use Rattle.std.specs.Prelude.{not}
use Rattle.std.specs.List.{flat_map, All}
use Rattle.std.proofs.lemmas.Bool.Decides.{nat_tests}
use Rattle.std.proofs.lemmas.List.{drop-drop, length-drop, length-append, drop_more}
use Rattle.std.proofs.lemmas.List.Elements.{All-nil, All-cons, All-head, All-tail}
use Rattle.std.proofs.Math.Nat.{pow-le-pow_right}
use Rattle.byteorder.specs.Endian.{big_bytes, big_number}
use Rattle.byteorder.specs.Numbers.{big_from-lt, big_number-reads_back}
use Rattle.round_lang.specs.declared.kind.Kind.{Kind}
use Rattle.round_lang.specs.declared.kind.Kind.TheVariants as kind
use Rattle.round_lang.specs.declared.value.Value.{Value}
use Rattle.round_lang.specs.declared.value.Value.TheVariants.{Num, Flag, Set, Row}
use Rattle.round_lang.specs.Values.{of_set}
use Rattle.round_lang.specs.Words.{IsSmall}
use Rattle.frame_format.specs.declared.fault.FrameFault.TheVariants.{BadField}
use Rattle.frame_format.specs.Formats.{width, size}
use Rattle.frame_format.specs.Spelling.{IsOf, AreOf, field, flag_byte}
use Rattle.frame_format.specs.Faults.{is_bad, bad_field}
use Rattle.frame_format.specs.Reading.{field_at, fields_at}
use Rattle.frame_format.proofs.Numbers.{IsBytes, IsBytes-drop, number_front, wide4, wide8}
use Rattle.frame_format.proofs.Numbers.{numbers_front, numbers_again}

-- what a field gives when it's read again
pub record IsAgain (k : ℕ) (t : Kind) (v : Value) (rest : List ℕ) : Type 0 where
  pub good : is_bad k t (field v ++ rest) ≡ false
  pub value : field_at t (field v ++ rest) ≡ v
  pub past : drop (width t) (field v ++ rest) ≡ rest
  pub len : length (field v) ≡ width t

flag_again : (b : Bool) (k : ℕ) (rest : List ℕ) → IsAgain k kind.Flag (Flag b) rest
flag_again true k rest = record { good = refl; value = refl; past = refl; len = refl }
flag_again false k rest = record { good = refl; value = refl; past = refl; len = refl }

pub field_again : (k : ℕ) (t : Kind) (v : Value) (rest : List ℕ) → k ≤ 64 → IsOf k t v → IsSmall v
    → IsAgain k t v rest
field_again k kind.Num (Num n) rest few h small =
    record {
      good = refl;
      value = ap Num (big_number-reads_back 4 n rest small);
      past = refl;
      len = refl;
    }
field_again k kind.Flag (Flag b) rest few h small = flag_again b k rest
field_again k kind.Set (Set s) rest few h small =
    let top : 2 ^ k ≤ 2 ^ 64 = pow-le-pow_right {n = 2} (omega arith) few in
    let fits : s.bits < 256 ^ 8 = omega arith in
    let value : big_number 8 (big_bytes 8 s.bits ++ rest) ≡ s.bits =
    big_number-reads_back 8 s.bits rest fits in
    let good : not (ltb s.bits (2 ^ k)) ≡ false = grind (arith, nat_tests) in
    record {
      good = ap (λ (n : ℕ). not (ltb n (2 ^ k))) value ∙ good;
      value = ap of_set value;
      past = refl;
      len = refl;
    }
field_again k (kind.Row n) (Row r) rest few h small =
    let again = numbers_again r rest small in
    record {
      good = refl;
      value = subst (λ (n : ℕ). field_at (kind.Row n) (flat_map (big_bytes 4) r ++ rest) ≡ Row r) h
          (ap Row again.values);
      past = subst (λ (n : ℕ). drop (4 * n) (flat_map (big_bytes 4) r ++ rest) ≡ rest) h again.past;
      len = again.len ∙ ap (λ (n : ℕ). 4 * n) h;
    }
field_again k kind.Num (Flag b) rest few h small = absurd h
field_again k kind.Num (Set s) rest few h small = absurd h
field_again k kind.Num (Row r) rest few h small = absurd h
field_again k kind.Flag (Num n) rest few h small = absurd h
field_again k kind.Flag (Set s) rest few h small = absurd h
field_again k kind.Flag (Row r) rest few h small = absurd h
field_again k kind.Set (Num n) rest few h small = absurd h
field_again k kind.Set (Flag b) rest few h small = absurd h
field_again k kind.Set (Row r) rest few h small = absurd h
field_again k (kind.Row n) (Num m) rest few h small = absurd h
field_again k (kind.Row n) (Flag b) rest few h small = absurd h
field_again k (kind.Row n) (Set s) rest few h small = absurd h

pub record AreAgain (k : ℕ) (ts : List Kind) (vs : List Value) (i : ℕ) : Type 0 where
  pub good : bad_field k ts (flat_map field vs) i ≡ None
  pub values : fields_at ts (flat_map field vs) ≡ vs
  pub len : length (flat_map field vs) ≡ size ts

pub fields_again : (k : ℕ) (ts : List Kind) (vs : List Value) (i : ℕ) → k ≤ 64 → AreOf k ts vs
    → All IsSmall vs → AreAgain k ts vs i
fields_again k [] [] i few h small = record { good = refl; values = refl; len = refl }
fields_again k [] (v ∷ vs) i few h small = absurd h
fields_again k (t ∷ ts) [] i few h small = absurd h
fields_again k (t ∷ ts) (v ∷ vs) i few h small =
    let rest = flat_map field vs in
    let first = field_again k t v rest few h.0 (All-head IsSmall v vs small) in
    let ih = fields_again k ts vs (i + 1) few h.1 (All-tail IsSmall v vs small) in
    record {
      good = ap (λ (b : Bool). cond b (Some (BadField i))
          (bad_field k ts (drop (width t) (field v ++ rest)) (i + 1))) first.good
          ∙ ap (λ (u : List ℕ). bad_field k ts u (i + 1)) first.past ∙ ih.good;
      values = cc (first.value, first.past, ih.values);
      len = omega (arith, length-append (field v) rest, first.len, ih.len);
    }

-- ---- what is read was written

pub record IsTaken (k : ℕ) (t : Kind) (bytes : List ℕ) : Type 0 where
  pub front : bytes ≡ field (field_at t bytes) ++ drop (width t) bytes
  pub of_kind : IsOf k t (field_at t bytes)
  pub small : IsSmall (field_at t bytes)

flag_front : (b : ℕ) → b < 2 → b ≡ flag_byte (eqb b 1)
flag_front zero h = refl
flag_front (suc zero) h = refl
flag_front (suc (suc b)) h = absurd (omega arith)

pub field_taken : (k : ℕ) (t : Kind) (bytes : List ℕ) → width t ≤ length bytes → IsBytes bytes
    → is_bad k t bytes ≡ false → IsTaken k t bytes
field_taken k kind.Num bytes long fits good =
    record {
      front = number_front 4 wide4 bytes long fits;
      of_kind = tt;
      small = big_from-lt 0 4 bytes fits;
    }
field_taken k kind.Flag bytes long fits good =
    let small : get_or bytes 0 0 < 2 = grind (arith, nat_tests) in
    let e : drop 0 bytes ≡ get_or bytes 0 0 ∷ drop (0 + 1) bytes =
    drop_more bytes 0 0 (omega arith) in
    record {
      front = e ∙ ap (λ (b : ℕ). b ∷ drop 1 bytes) (flag_front (get_or bytes 0 0) small);
      of_kind = tt;
      small = tt;
    }
field_taken k kind.Set bytes long fits good =
    let small : big_number 8 bytes < 2 ^ k = grind (arith, nat_tests) in
    record { front = number_front 8 wide8 bytes long fits; of_kind = small; small = tt }
field_taken k (kind.Row n) bytes long fits good =
    let row = numbers_front n bytes long fits in
    record { front = row.front; of_kind = row.len; small = row.fits }

-- a test that let through
pub passed : {A : Type 0} (b : Bool) (x : A) (y : Option A) → cond b (Some x) y ≡ None
    → (b ≡ false) × (y ≡ None)
passed true x y e = absurd cc
passed false x y e = (refl, e)

pub record AreTaken (k : ℕ) (ts : List Kind) (bytes : List ℕ) : Type 0 where
  pub front : bytes ≡ flat_map field (fields_at ts bytes) ++ drop (size ts) bytes
  pub of_kinds : AreOf k ts (fields_at ts bytes)
  pub small : All IsSmall (fields_at ts bytes)

pub fields_taken : (k : ℕ) (ts : List Kind) (bytes : List ℕ) (i : ℕ) → size ts ≤ length bytes
    → IsBytes bytes → bad_field k ts bytes i ≡ None → AreTaken k ts bytes
fields_taken k [] bytes i long fits good =
    record { front = refl; of_kinds = tt; small = All-nil IsSmall }
fields_taken k (t ∷ ts) bytes i long fits good =
    let rest = drop (width t) bytes in
    let p = passed (is_bad k t bytes) (BadField i) (bad_field k ts rest (i + 1)) good in
    let first = field_taken k t bytes (omega arith) fits p.0 in
    let ih = fields_taken k ts rest (i + 1) (omega (arith, length-drop (width t) bytes))
    (IsBytes-drop (width t) bytes fits) p.1 in
    record {
      front = first.front ∙ ap (λ (u : List ℕ). field (field_at t bytes) ++ u) (ih.front
          ∙ ap (λ (u : List ℕ). flat_map field (fields_at ts rest) ++ u)
          (drop-drop (size ts) (width t) bytes))
          ∙ sym (append_assoc (field (field_at t bytes)) (flat_map field (fields_at ts rest))
          (drop (size (t ∷ ts)) bytes));
      of_kinds = (first.of_kind, ih.of_kinds);
      small = All-cons IsSmall (field_at t bytes) (fields_at ts rest) first.small ih.small;
    }
