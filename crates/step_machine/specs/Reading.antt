-- What a program's code can read: messages of the kinds that the program has.
use Rattle.std.specs.Prelude.{ℕ, Option, IfSome, All}
use Rattle.round_lang.specs.Syntax.{ProgramTree}
use Rattle.step_code.specs.Turns.{IsOfRound}
use Rattle.step_machine.specs.Sealed.{Frame, HeldRow}

-- the frame, if there is one, has a message of the kinds that the round's messages have
abbrev pub MayBeOfRound : ProgramTree → ℕ → Option Frame → Type 0
MayBeOfRound p r o = IfSome o (λ (f : Frame). IsOfRound p r f.message)

-- and so has each of these
abbrev pub AreOfRound : ProgramTree → ℕ → HeldRow → Type 0
AreOfRound p r held = All (MayBeOfRound p r) held
