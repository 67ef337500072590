-- The bytes with no fault are those that spell a frame, and the frame is the one that is read.
use Rattle.std.proofs.Common.{◌≡◌, ℕ, zero, suc, ◌+◌, ◌-◌, ◌^◌, ◌<◌, ◌≤◌, false, cond, eqb, ltb}
use Rattle.std.proofs.Common.{List, [], ◌∷◌, ◌++◌, length, get_or, drop, None, arith, refl, sym, ap}
use Rattle.std.proofs.Common.{subst, ◌∙◌}
use Rattle.std.specs.Prelude.{not, ◌&&◌, ◌||◌}
use Rattle.std.specs.List.{flat_map}
use Rattle.std.proofs.lemmas.Bool.Decides.{nat_tests}
use Rattle.std.proofs.lemmas.List.{length-drop, drop_all, drop_more, append-nil}
use Rattle.byteorder.specs.Endian.{big_bytes, big_number}
use Rattle.byteorder.specs.Numbers.{big_number-reads_back}
use Rattle.round_lang.specs.declared.value.Value.{Value}
use Rattle.frame_format.specs.declared.fault.FrameFault.TheVariants.{Short, BadMark, BadVersion}
use Rattle.frame_format.specs.declared.fault.FrameFault.TheVariants.{BadNode, BadRound, BadPosition}
use Rattle.frame_format.specs.declared.fault.FrameFault.TheVariants.{BadCopy, BadLength}
use Rattle.frame_format.specs.declared.frame.Frame.{Frame}
use Rattle.frame_format.specs.declared.version.FrameVersion.{FrameVersion}
use Rattle.frame_format.specs.declared.version.FrameVersion.TheVariants.{V1, V2}
use Rattle.frame_format.specs.Formats.{Format, IsFormat, position, kinds_at, size}
use Rattle.frame_format.specs.Headers.{header, header_size, length_bytes, version_byte}
use Rattle.frame_format.specs.Spelling.{Spells, OneSpelling, IsCopy, field}
use Rattle.frame_format.specs.Places.{copy_at, copy_in, from_at, head_at, round_at, to_at}
use Rattle.frame_format.specs.Places.{version_at}
use Rattle.frame_format.specs.Faults.{first_fault, round_fault, length_fault, has_length, bad_field}
use Rattle.frame_format.specs.Reading.{fields_at, frame_at, IsFrame, IsReadAs, SpelledIsRead}
use Rattle.frame_format.proofs.Numbers.{IsBytes, IsBytes-drop, number_at, wide2, wide4}
use Rattle.frame_format.proofs.Fields.{fields_again, fields_taken, passed}

-- what stands in the header's places
pub record HasHeader (s : Format) (bytes : List ℕ) (v : FrameVersion)
    (from to round copy : ℕ) : Type 0 where
  pub long : header_size v ≤ length bytes
  pub mark : get_or bytes 0 0 ≡ 82
  pub version : get_or bytes 1 0 ≡ version_byte v
  pub version_is : version_at bytes ≡ v
  pub from_is : get_or bytes 2 0 ≡ from
  pub to_is : get_or bytes 3 0 ≡ to
  pub round_is : big_number 4 (drop 4 bytes) ≡ round
  pub position_is : get_or bytes 8 0 ≡ position s round
  pub count : get_or bytes 9 0 ≡ length (kinds_at s round)
  pub len : big_number 2 (drop 10 bytes) ≡ size (kinds_at s round)
  pub copy_is : copy_in v bytes ≡ copy
  pub all : length bytes ≡ header_size v + size (kinds_at s round)

-- ---- what is spelled is read

header_again : (s : Format) (v : FrameVersion) (from to round copy : ℕ) (rest : List ℕ)
    → IsCopy v copy → round < 2 ^ 32 → size (kinds_at s round) < 2 ^ 16
    → length rest ≡ size (kinds_at s round)
    → HasHeader s (header s v from to round copy ++ rest) v from to round copy
header_again s V1 from to round copy rest is_copy small fits len =
    let kinds = kinds_at s round in
    record {
      long = omega arith;
      mark = refl;
      version = refl;
      version_is = refl;
      from_is = refl;
      to_is = refl;
      round_is = big_number-reads_back 4 round ((position s round ∷ length_bytes s round) ++ rest)
          small;
      position_is = refl;
      count = refl;
      len = big_number-reads_back 2 (size kinds) rest fits;
      copy_is = sym is_copy;
      all = omega arith;
    }
header_again s V2 from to round copy rest is_copy small fits len =
    let kinds = kinds_at s round in
    record {
      long = omega arith;
      mark = refl;
      version = refl;
      version_is = refl;
      from_is = refl;
      to_is = refl;
      round_is = big_number-reads_back 4 round
          ((position s round ∷ (length_bytes s round ++ copy ∷ [])) ++ rest) small;
      position_is = refl;
      count = refl;
      len = big_number-reads_back 2 (size kinds) (copy ∷ rest) fits;
      copy_is = refl;
      all = omega arith;
    }

-- the fields stand behind the header
header_past : (s : Format) (v : FrameVersion) (from to round copy : ℕ) (rest : List ℕ)
    → drop (header_size v) (header s v from to round copy ++ rest) ≡ rest
header_past s V1 from to round copy rest = refl
header_past s V2 from to round copy rest = refl

no_length_fault : (s : Format) (bytes : List ℕ) (v : FrameVersion) (from to round copy : ℕ)
    → HasHeader s bytes v from to round copy
    → bad_field s.values (kinds_at s round) (drop (header_size v) bytes) 0 ≡ None
    → length_fault s round bytes ≡ None
unfolding length_fault
no_length_fault s bytes v from to round copy h good =
    let kinds = kinds_at s round in
    let n : length bytes - header_size v ≡ size kinds = omega (arith, h.all) in
    let c : not (eqb (length kinds) (length kinds)
    && (eqb (size kinds) (size kinds) && eqb (size kinds) (size kinds))) ≡ false =
    grind (arith, nat_tests) in
    rw (h.version_is, h.count, h.len, n, c) good

copy_small : (v : FrameVersion) (copy : ℕ) → IsCopy v copy → copy ≤ 3
copy_small V1 copy h = omega arith
copy_small V2 copy h = h

no_round_fault : (s : Format) (bytes : List ℕ) (v : FrameVersion) (from to round copy : ℕ)
    → HasHeader s bytes v from to round copy → (1 ≤ round) × (round ≤ 4096) → copy ≤ 3
    → length_fault s round bytes ≡ None → round_fault s bytes ≡ None
unfolding round_fault
no_round_fault s bytes v from to round copy h r c good =
    let a : (eqb round 0 || ltb 4096 round) ≡ false = grind (arith, nat_tests) in
    let b : not (eqb (position s round) (position s round)) ≡ false = grind (arith, nat_tests) in
    let d : ltb 3 copy ≡ false = grind (arith, nat_tests) in
    rw (h.round_is, a, h.position_is, b, h.version_is, h.copy_is, d) good

known : (v : FrameVersion) → not (eqb (version_byte v) 1 || eqb (version_byte v) 2) ≡ false
known V1 = refl
known V2 = refl

no_fault : (s : Format) (bytes : List ℕ) (v : FrameVersion) (from to round copy : ℕ)
    → HasHeader s bytes v from to round copy → from < s.nodes → to < s.nodes
    → round_fault s bytes ≡ None → first_fault s bytes ≡ None
unfolding first_fault
no_fault s bytes v from to round copy h f t good =
    let a : ltb (length bytes) (header_size v) ≡ false =
    (let l = h.long in grind (arith, nat_tests)) in
    let b : not (ltb from s.nodes && ltb to s.nodes) ≡ false = grind (arith, nat_tests) in
    rw (h.version_is, a, h.mark, h.version, known v, h.from_is, h.to_is, b) good

same_frame : (f : Frame) (round copy : ℕ) (v : FrameVersion) (message : List Value)
    → round ≡ f.round → v ≡ f.version → copy ≡ f.copy → message ≡ f.message
    → record {
      from = f.from;
      to = f.to;
      round = round;
      version = v;
      copy = copy;
      message = message;
    } ≡ f
same_frame f round copy v message a b c d = rw (a, b, c, d) refl

spelled_is_read : (s : Format) (bytes : List ℕ) (f : Frame) → s.values ≤ 64
    → size (kinds_at s f.round) < 2 ^ 16 → Spells s bytes f → IsReadAs s bytes f
unfolding frame_at
spelled_is_read s bytes f few fits h =
    let kinds = kinds_at s f.round in
    let v = f.version in
    let body = flat_map field f.message in
    let again = fields_again s.values kinds f.message 0 few h.message h.small in
    let whole = header s v f.from f.to f.round f.copy ++ body in
    let hh : HasHeader s whole v f.from f.to f.round f.copy =
    header_again s v f.from f.to f.round f.copy body h.copy
    (omega (arith, h.round)) fits again.len in
    let past : drop (header_size v) whole ≡ body =
    header_past s v f.from f.to f.round f.copy body in
    let good : bad_field s.values kinds (drop (header_size v) whole) 0 ≡ None =
    ap (λ (u : List ℕ). bad_field s.values kinds u 0) past ∙ again.good in
    let lf : length_fault s f.round whole ≡ None =
    no_length_fault s whole v f.from f.to f.round f.copy hh good in
    let rf : round_fault s whole ≡ None =
    no_round_fault s whole v f.from f.to f.round f.copy hh h.round
    (copy_small v f.copy h.copy) lf in
    let ff : first_fault s whole ≡ None =
    no_fault s whole v f.from f.to f.round f.copy hh h.from h.to rf in
    let copy : copy_at whole ≡ f.copy = ap (λ (w : FrameVersion). copy_in w whole) hh.version_is
    ∙ hh.copy_is in
    let rest : drop (head_at whole) whole ≡ body =
    ap (λ (w : FrameVersion). drop (header_size w) whole) hh.version_is ∙ past in
    let message : fields_at (kinds_at s (round_at whole)) (drop (head_at whole) whole) ≡ f.message =
    ap (λ (r : ℕ). fields_at (kinds_at s r) (drop (head_at whole) whole)) hh.round_is
    ∙ ap (fields_at kinds) rest ∙ again.values in
    subst (λ (u : List ℕ). IsReadAs s u f) (sym h.bytes_are)
    (record {
      no_fault = ff;
      frame_is = same_frame f (round_at whole) (copy_at whole)
          (version_at whole) _ hh.round_is hh.version_is copy message;
    })

-- ---- what is read is spelled

-- the first twelve bytes
abbrev front : Format → ℕ → ℕ → ℕ → ℕ → List ℕ → List ℕ
front s version from to round rest =
    82 ∷ version ∷ from ∷ to ∷ (big_bytes 4 round
    ++ (position s round ∷ (length_bytes s round ++ rest)))

front_taken : (s : Format) (bytes : List ℕ) (v : FrameVersion) (from to round copy : ℕ)
    → IsBytes bytes → 12 ≤ length bytes → HasHeader s bytes v from to round copy
    → bytes ≡ front s (version_byte v) from to round (drop 12 bytes)
front_taken s bytes v from to round copy fits long h =
    let n = size (kinds_at s round) in
    let e0 : bytes ≡ get_or bytes 0 0 ∷ drop 1 bytes = drop_more bytes 0 0 (omega arith) in
    let e1 : drop 1 bytes ≡ get_or bytes 1 0 ∷ drop 2 bytes = drop_more bytes 1 0 (omega arith) in
    let e2 : drop 2 bytes ≡ get_or bytes 2 0 ∷ drop 3 bytes = drop_more bytes 2 0 (omega arith) in
    let e3 : drop 3 bytes ≡ get_or bytes 3 0 ∷ drop 4 bytes = drop_more bytes 3 0 (omega arith) in
    let e4 : drop 4 bytes ≡ big_bytes 4 (big_number 4 (drop 4 bytes)) ++ drop 8 bytes =
    number_at 4 wide4 4 bytes (omega arith) fits in
    let e5 : drop 4 bytes ≡ big_bytes 4 round ++ drop 8 bytes = e4
    ∙ ap (λ (r : ℕ). big_bytes 4 r ++ drop 8 bytes) h.round_is in
    let e8 : drop 8 bytes ≡ get_or bytes 8 0 ∷ drop 9 bytes = drop_more bytes 8 0 (omega arith) in
    let e9 : drop 9 bytes ≡ get_or bytes 9 0 ∷ drop 10 bytes = drop_more bytes 9 0 (omega arith) in
    let e10 : drop 10 bytes ≡ big_bytes 2 (big_number 2 (drop 10 bytes)) ++ drop 12 bytes =
    number_at 2 wide2 10 bytes (omega arith) fits in
    let e11 : drop 10 bytes ≡ big_bytes 2 n ++ drop 12 bytes = e10
    ∙ ap (λ (m : ℕ). big_bytes 2 m ++ drop 12 bytes) h.len in
    cc (
      e0,
      e1,
      e2,
      e3,
      e5,
      e8,
      e9,
      e11,
      h.mark,
      h.version,
      h.from_is,
      h.to_is,
      h.position_is,
      h.count,
    )

header_taken : (s : Format) (bytes : List ℕ) (v : FrameVersion) (from to round copy : ℕ)
    → IsBytes bytes → HasHeader s bytes v from to round copy
    → bytes ≡ header s v from to round copy ++ drop (header_size v) bytes
header_taken s bytes V1 from to round copy fits h =
    front_taken s bytes V1 from to round copy fits h.long h
header_taken s bytes V2 from to round copy fits h =
    let long : 13 ≤ length bytes = h.long in
    let last : drop 12 bytes ≡ get_or bytes 12 0 ∷ drop 13 bytes =
    drop_more bytes 12 0 (omega arith) in
    front_taken s bytes V2 from to round copy fits (omega arith) h
    ∙ ap (front s 2 from to round) (last ∙ ap (λ (c : ℕ). c ∷ drop 13 bytes) h.copy_is)

known_byte : (b : ℕ) → not (eqb b 1 || eqb b 2) ≡ false → (1 ≤ b) × (b ≤ 2)
known_byte b h = (grind (arith, nat_tests), grind (arith, nat_tests))

version_again : (b : ℕ) → (1 ≤ b) × (b ≤ 2) → b ≡ version_byte (cond (eqb b 2) V2 V1)
version_again zero h = absurd (omega arith)
version_again (suc zero) h = refl
version_again (suc (suc zero)) h = refl
version_again (suc (suc (suc b))) h = absurd (omega arith)

is_copy : (v : FrameVersion) (bytes : List ℕ) → ltb 3 (copy_in v bytes) ≡ false
    → IsCopy v (copy_in v bytes)
is_copy V1 bytes h = refl
is_copy V2 bytes h = grind (arith, nat_tests)

pub record Good (s : Format) (bytes : List ℕ) : Type 0 where
  pub header_is : HasHeader s bytes (version_at bytes) (from_at bytes) (to_at bytes)
      (round_at bytes) (copy_at bytes)
  pub from_below : from_at bytes < s.nodes
  pub to_below : to_at bytes < s.nodes
  pub round_within : (1 ≤ round_at bytes) × (round_at bytes ≤ 4096)
  pub copy_within : IsCopy (version_at bytes) (copy_at bytes)
  pub fields : bad_field s.values (kinds_at s (round_at bytes)) (drop (head_at bytes) bytes) 0
      ≡ None

pub good_from_none : (s : Format) (bytes : List ℕ) → first_fault s bytes ≡ None → Good s bytes
unfolding first_fault round_fault length_fault
good_from_none s bytes e =
    let r = round_at bytes in
    let head = head_at bytes in
    let copy = copy_at bytes in
    let kinds = kinds_at s r in
    let p1 = passed (ltb (length bytes) head) Short _ e in
    let p2 = passed (not (eqb (get_or bytes 0 0) 82)) BadMark _ p1.1 in
    let p3 = passed (not (eqb (get_or bytes 1 0) 1 || eqb (get_or bytes 1 0) 2)) BadVersion _
    p2.1 in
    let p4 = passed (not (ltb (from_at bytes) s.nodes && ltb (to_at bytes) s.nodes)) BadNode _
    p3.1 in
    let p5 = passed (eqb r 0 || ltb 4096 r) BadRound _ p4.1 in
    let p6 = passed (not (eqb (get_or bytes 8 0) (position s r))) BadPosition _ p5.1 in
    let p7 = passed (ltb 3 copy) BadCopy _ p6.1 in
    let p8 = passed (not (has_length (length kinds) (size kinds) bytes)) BadLength _ p7.1 in
    let t1 = p1.0 in let t2 = p2.0 in let t4 = p4.0 in let t5 = p5.0 in let t6 = p6.0 in
    let t8 = p8.0 in
    let long : head ≤ length bytes = grind (arith, nat_tests) in
    let rest : length bytes - head ≡ size kinds = grind (arith, nat_tests) in
    record {
      header_is = record {
        long = long;
        mark = grind (arith, nat_tests);
        version = version_again (get_or bytes 1 0) (known_byte (get_or bytes 1 0) p3.0);
        version_is = refl;
        from_is = refl;
        to_is = refl;
        round_is = refl;
        position_is = grind (arith, nat_tests);
        count = grind (arith, nat_tests);
        len = grind (arith, nat_tests);
        copy_is = refl;
        all = omega arith;
      };
      from_below = grind (arith, nat_tests);
      to_below = grind (arith, nat_tests);
      round_within = (grind (arith, nat_tests), grind (arith, nat_tests));
      copy_within = is_copy (version_at bytes) bytes p7.0;
      fields = p8.1;
    }

pub read_is_spelled : (s : Format) (bytes : List ℕ) → IsBytes bytes → first_fault s bytes ≡ None
    → Spells s bytes (frame_at s bytes)
unfolding frame_at
read_is_spelled s bytes fits e =
    let g = good_from_none s bytes e in
    let v = version_at bytes in
    let r = round_at bytes in
    let kinds = kinds_at s r in
    let h = g.header_is in
    let body = drop (header_size v) bytes in
    let head = header_taken s bytes v (from_at bytes) (to_at bytes) r (copy_at bytes) fits h in
    let len : length body ≡ size kinds = omega (arith, length-drop (header_size v) bytes, h.all) in
    let taken = fields_taken s.values kinds body 0 (omega arith)
    (IsBytes-drop (header_size v) bytes fits) g.fields in
    let none : drop (size kinds) body ≡ [] = drop_all (size kinds) body (omega arith) in
    let text : body ≡ flat_map field (fields_at kinds body) = taken.front
    ∙ ap (λ (u : List ℕ). flat_map field (fields_at kinds body) ++ u) none
    ∙ append-nil (flat_map field (fields_at kinds body)) in
    record {
      from = g.from_below;
      to = g.to_below;
      round = g.round_within;
      copy = g.copy_within;
      message = taken.of_kinds;
      small = taken.small;
      bytes_are = head
          ∙ ap (λ (u : List ℕ). header s v (from_at bytes) (to_at bytes) r (copy_at bytes) ++ u)
          text;
    }

-- ---- a lawful layout

pub size_fits : (s : Format) (round : ℕ) → IsFormat s → size (kinds_at s round) < 2 ^ 16
size_fits s round h =
    let small : size (kinds_at s round) ≤ 2048 = (h.blocks (position s round)).small in
    omega arith

pub is_read : (s : Format) (bytes : List ℕ) (f : Frame) → IsFormat s → Spells s bytes f
    → IsReadAs s bytes f
is_read s bytes f h p = spelled_is_read s bytes f h.few_values (size_fits s f.round h) p

pub one_spelling_holds : (s : Format) → IsFormat s → OneSpelling s
one_spelling_holds s h = record {
  one_frame = λ bytes f g p q. sym (is_read s bytes f h p).frame_is
      ∙ (is_read s bytes g h q).frame_is;
  one_text = λ a b f p q. p.bytes_are ∙ sym q.bytes_are;
}

head_long : (v : FrameVersion) → 12 ≤ header_size v
head_long V1 = omega arith
head_long V2 = omega arith

pub is_frame : (s : Format) (bytes : List ℕ) → IsBytes bytes → first_fault s bytes ≡ None
    → IsFrame s bytes
is_frame s bytes fits e =
    let g = good_from_none s bytes e in
    record {
      first = g.round_within.0;
      last = g.round_within.1;
      head = head_long (version_at bytes);
      all = g.header_is.all;
      no_fault = e;
      spelled = read_is_spelled s bytes fits e;
    }

-- what spells a frame is a frame, and is read as that one
pub spelled_is_frame : (s : Format) → IsFormat s → SpelledIsRead s
spelled_is_frame s h bytes f p =
    let read = is_read s bytes f h p in
    let g = good_from_none s bytes read.no_fault in (
      record {
        first = g.round_within.0;
        last = g.round_within.1;
        head = head_long (version_at bytes);
        all = g.header_is.all;
        no_fault = read.no_fault;
        spelled = subst (Spells s bytes) (sym read.frame_is) p;
      },
      read.frame_is,
    )
