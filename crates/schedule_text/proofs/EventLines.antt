-- The bytes of an event's line: how many there are, and that they are UTF-8.
use Rattle.std.proofs.Common.{◌≡◌, ℕ, ◌+◌, ◌≤◌, Bool, true, false, cond, eqb, leb, List}
use Rattle.std.proofs.Common.{[], ◌∷◌, ◌++◌, length, codes, IsUtf8, length-append, refl, ap}
use Rattle.std.proofs.Common.{arith}
use Rattle.std.specs.Fmt.{decimal}
use Rattle.std.specs.List.{list_all}
use Rattle.std.specs.Str.{IsAscii}
use Rattle.std.proofs.lemmas.Bool.{and_parts, leb-true}
use Rattle.std.proofs.lemmas.Fmt.{length-decimal-le, IsAscii-decimal}
use Rattle.std.proofs.lemmas.Str.{IsUtf8-from_ascii, IsAscii-append}
use Rattle.std.proofs.lemmas.Str.Ascii.{IsAscii-nil, IsAscii-cons}
use Rattle.run_events.specs.declared.event.Event.{Event}
use Rattle.run_events.specs.declared.event.Event.TheVariants.{Step, Release, Drop, Copy}
use Rattle.run_events.specs.declared.name.Name.{Name}
use Rattle.schedule_text.specs.Small.{IsSmall, IsSmallName, IsSmallEvent}
use Rattle.schedule_text.specs.Writing.{copy_ending, event_line, line_text, name_line}

-- a number of 32 bits has 10 digits at most
pub few_digits : (n : ℕ) → IsSmall n → length (decimal n) ≤ 10
few_digits n small = length-decimal-le 10 n (omega arith) (omega (arith, small))
    (omega (arith, small))

-- so many bytes more, if a number and a byte follow
pub number_short : (text new : List ℕ) (n end : ℕ) → IsSmall n
    → new ≡ text ++ (decimal n ++ end ∷ []) → length new ≤ length text + 11
number_short text new n end small e =
    omega (
      arith,
      ap length e,
      length-append text (decimal n ++ end ∷ []),
      length-append (decimal n) (end ∷ []),
      few_digits n small,
    )

ascii_from_test : (bs : List ℕ) → list_all (λ b. leb b 127) bs ≡ true → IsAscii bs
ascii_from_test [] h = IsAscii-nil
ascii_from_test (b ∷ bs) h =
    let p = and_parts (leb b 127) (list_all (λ b. leb b 127) bs) h in
    let l = leb-true b 127 p.0 in
    IsAscii-cons b bs (omega (arith, l)) (ascii_from_test bs p.1)

number_ascii : (start : List ℕ) (n : ℕ) → IsAscii start → IsSmall n → IsAscii (start ++ decimal n)
number_ascii start n ascii small =
    IsAscii-append start (decimal n) ascii (IsAscii-decimal n (omega (arith, small)))

space_ascii : (text : List ℕ) → IsAscii text → IsAscii (text ++ 32 ∷ [])
space_ascii text ascii = IsAscii-append text (32 ∷ []) ascii (ascii_from_test (32 ∷ []) refl)

name_ascii : (start : List ℕ) (m : Name) → IsAscii start → IsSmallName m
    → IsAscii (name_line start m)
name_ascii start m ascii small =
    let from = number_ascii start m.from ascii small.0 in
    let to = number_ascii _ m.to (space_ascii _ from) small.1 in
    number_ascii _ m.round (space_ascii _ to) small.2

behind_space : (n : ℕ) → IsSmall n → IsAscii (32 ∷ decimal n)
behind_space n small = IsAscii-cons 32 (decimal n) (omega arith)
    (IsAscii-decimal n (omega (arith, small)))

ending_ascii : (n : ℕ) → IsSmall n → IsAscii (copy_ending n)
ending_ascii n small = go (eqb n 0)
  where
    go : (b : Bool) → IsAscii (cond b [] (32 ∷ decimal n))
    go true = IsAscii-nil
    go false = behind_space n small

event_ascii : (e : Event) → IsSmallEvent e → IsAscii (event_line e)
event_ascii (Step i) h = number_ascii (codes "step ") i (ascii_from_test (codes "step ") refl) h
event_ascii (Release m) h =
    IsAscii-append (name_line (codes "release ") m) (copy_ending m.copy)
    (name_ascii (codes "release ") m (ascii_from_test (codes "release ") refl) h)
    (ending_ascii m.copy h.3)
event_ascii (Drop m) h =
    IsAscii-append (name_line (codes "drop ") m) (copy_ending m.copy)
    (name_ascii (codes "drop ") m (ascii_from_test (codes "drop ") refl) h)
    (ending_ascii m.copy h.3)
event_ascii (Copy m) h =
    IsAscii-append (name_line (codes "copy ") m) (32 ∷ decimal m.copy)
    (name_ascii (codes "copy ") m (ascii_from_test (codes "copy ") refl) h)
    (behind_space m.copy h.3)

-- an event's line is UTF-8
pub line_utf8 : (e : Event) → IsSmallEvent e → IsUtf8 (line_text (event_line e))
line_utf8 e small =
    IsUtf8-from_ascii (line_text (event_line e))
    (IsAscii-append (event_line e) (10 ∷ []) (event_ascii e small)
    (ascii_from_test (10 ∷ []) refl))
