-- What a line of a text can say, and how it says it.
use Rattle.std.specs.Prelude.{◌≡◌, ℕ, ◌<◌, ◌≤◌, ◌⊎◌, All, List, [], ◌∷◌, ◌++◌, codes, length}
use Rattle.std.specs.List.{AllZip}
use Rattle.run_events.specs.declared.plan_kind.PlanKind.{PlanKind}
use Rattle.run_events.specs.declared.plan_kind.PlanKind.TheVariants.{Known, Growing}
use Rattle.run_events.specs.Events.{of_event}
use Rattle.run_events.specs.declared.event.Event.{Event}
use Rattle.run_events.specs.declared.event.Event.TheVariants.{Step, Release, Drop, Copy}
use Rattle.run_events.specs.declared.name.Name.{Name}
use Rattle.schedule_text.specs.declared.pace.Pace.{Pace}
use Rattle.schedule_text.specs.declared.pace.Pace.TheVariants.{Free, Ticks}
use Rattle.schedule_text.specs.declared.pace.Stop.{Stop}
use Rattle.schedule_text.specs.Numbers.{IsNumeral, max_number, words_of}

-- the five lines of the header, and those of an event, a pace and a stop
pub data Line : Type 0 where
  nodes : ℕ → Line
  faults : ℕ → Line
  inputs : List ℕ → Line
  rounds : ℕ → Line
  plan : PlanKind → Line
  event : Event → Line
  pace : Pace → Line
  stop : Stop → Line

-- the words that such a line begins with
abbrev pub first_words : Line → List (List ℕ)
first_words (nodes n) = codes "nodes" ∷ []
first_words (faults t) = codes "faults" ∷ []
first_words (inputs vs) = codes "inputs" ∷ []
first_words (rounds r) = codes "rounds" ∷ []
first_words (plan (Known d)) = codes "plan" ∷ codes "known" ∷ []
first_words (plan Growing) = codes "plan" ∷ codes "growing" ∷ []
first_words (event (Step i)) = codes "step" ∷ []
first_words (event (Release m)) = codes "release" ∷ []
first_words (event (Drop m)) = codes "drop" ∷ []
first_words (event (Copy m)) = codes "copy" ∷ []
first_words (pace Free) = codes "pace" ∷ codes "free" ∷ []
first_words (pace Ticks) = codes "pace" ∷ codes "ticks" ∷ []
first_words (stop s) = codes "stop" ∷ []

-- the numbers of a message's name: sender, receiver, round and copy
abbrev pub name_numbers : Name → List ℕ
name_numbers m = m.from ∷ m.to ∷ m.round ∷ m.copy ∷ []

-- the numbers of what it says
abbrev pub numbers_of : Line → List ℕ
numbers_of (nodes n) = n ∷ []
numbers_of (faults t) = t ∷ []
numbers_of (inputs vs) = vs
numbers_of (rounds r) = r ∷ []
numbers_of (plan (Known d)) = d ∷ []
numbers_of (plan Growing) = []
numbers_of (event e) = of_event (λ i. i ∷ []) name_numbers e
numbers_of (pace p) = []
numbers_of (stop s) = s.node ∷ s.steps ∷ []

-- the words are a name's numbers in digits but for its copy, which is 0
abbrev pub IsOriginal : List (List ℕ) → Name → Type 0
IsOriginal words m = (m.copy ≡ 0) × AllZip IsNumeral words (m.from ∷ m.to ∷ m.round ∷ [])

-- the words that follow the first are its numbers in digits, and then comes nothing; a copy 0 may
-- be left out behind `release` and `drop`
abbrev pub AreNumerals : List (List ℕ) → Line → Type 0
AreNumerals words (event (Release m)) = AllZip IsNumeral words (name_numbers m) ⊎ IsOriginal words m
AreNumerals words (event (Drop m)) = AllZip IsNumeral words (name_numbers m) ⊎ IsOriginal words m
AreNumerals words said = AllZip IsNumeral words (numbers_of said)

-- `inputs` has a value at least
abbrev pub HasValue : Line → Type 0
HasValue (inputs vs) = 0 < length vs
HasValue _ = Unit {0}

-- the line has the form of one that says this: these words and then these numbers in digits,
-- separated by single spaces
pub record HasForm (line : List ℕ) (said : Line) : Type 0 where
  pub numerals : List (List ℕ)
  pub words : words_of line ≡ first_words said ++ numerals
  pub numbers : AreNumerals numerals said
  pub some : HasValue said

-- no number of it is above the largest
abbrev pub HasSmallNumbers : Line → Type 0
HasSmallNumbers said = All (λ v. v ≤ max_number) (numbers_of said)

-- the line says this: it has the form, and no number is too large
pub record Tells (line : List ℕ) (said : Line) : Type 0 where
  pub form : HasForm line said
  pub small : HasSmallNumbers said
