-- The number at the front of a text.
use Rattle.std.specs.Prelude.{◌≡◌, ℕ, ◌<◌, ◌≤◌, true, List, [], ◌∷◌, ◌++◌, length, Option, Some}
use Rattle.std.specs.Prelude.{None, Ok, option_map, min, if◌then◌else◌}
use Rattle.std.specs.Borrow.{Bor}
use Rattle.schedule_text.specs.declared.number.Front.{Front}
use Rattle.schedule_text.specs.Numbers.{value_of, words_of, is_number, max_number}
use Rattle.schedule_text.specs.Stages.{event_of, numbers_in}
use Rattle.schedule_text.specs.declared.fault.LineFault.{LineFault}
use Rattle.schedule_text.specs.declared.fault.LineFault.TheVariants as line
use Rattle.std.specs.List.{list_all, take_while}
use Rattle.std.specs.Char.{is_ascii_digit}
use Rattle.std.specs.Str.Lines.{lines}
use Rattle.run_events.specs.declared.event.Event.{Event}

-- a number, if each above the largest counts as the next one
abbrev pub capped : ℕ → ℕ
capped n = min n 4294967296

-- the value of the digits at the front of a text
abbrev pub front_value : List ℕ → ℕ
front_value text = value_of (take_while is_ascii_digit text)

-- the text is the number alone, or more numbers follow its space
abbrev pub HasRest : Option (Bor (List ℕ)) → List ℕ → Type 0
HasRest None text = numbers_in text ≡ Some (front_value text ∷ [])
HasRest (Some rest) text =
    (numbers_in text ≡ option_map (λ vs. front_value text ∷ vs) (numbers_in rest.now))
    × (length rest.now < length text)

-- the number at the front, capped, with what follows; none if the first word is no number
abbrev pub IsFront : Option Front → List ℕ → Type 0
IsFront None text = numbers_in text ≡ None
IsFront (Some f) text = (f.value ≡ capped (front_value text)) × HasRest f.rest text

-- two numbers and no more, capped
abbrev pub two_numbers : Option (List ℕ) → Option (ℕ × ℕ)
two_numbers (Some (a ∷ b ∷ [])) = Some (capped a, capped b)
two_numbers _ = None

-- three numbers, and maybe a fourth, and no more, capped
abbrev pub three_or_four : Option (List ℕ) → Option (ℕ × ℕ × ℕ × Option ℕ)
three_or_four (Some (a ∷ b ∷ c ∷ [])) = Some (capped a, capped b, capped c, None)
three_or_four (Some (a ∷ b ∷ c ∷ d ∷ [])) = Some (capped a, capped b, capped c, Some (capped d))
three_or_four _ = None

-- the fault of a line with too large a number, before what follows it
abbrev pub fault_before : Option (List ℕ) → LineFault
fault_before None = line.Large
fault_before (Some text) = if list_all is_number (words_of text) then line.Large else line.Bad

-- a number stands at the front of a text, then this byte, and then the rest
pub record IsNumberBefore (text : List ℕ) (end v : ℕ) (rest : List ℕ) : Type 0 where
  pub digits : List ℕ
  pub number : is_number digits ≡ true
  pub value : v ≡ value_of digits
  pub small : v ≤ max_number
  pub parts : text ≡ digits ++ end ∷ rest

-- the first line of a text is that of an event, and the others are those of the rest
pub record IsFrontEvent (text : List ℕ) (e : Event) (rest : List ℕ) : Type 0 where
  pub line : List ℕ
  pub first : lines text ≡ line ∷ lines rest
  pub event : event_of line ≡ Ok e
  pub shorter : length rest < length text
