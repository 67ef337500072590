-- Questions about all runs whose digests are of one text.
use Rattle.std.specs.Prelude.{◌≡◌, ◌<◌, ◌^◌, ℕ, IfSome, List, length, option_map}
use Rattle.command_words.specs.declared.exploring.Exploring.{Exploring}
use Rattle.exploration_texts.specs.Asking.{question_of}
use Rattle.exploration_texts.specs.Questions.{question_text}
use Rattle.round_meaning.specs.declared.setup.Setup.{Setup}

-- the numbers of a question have at most 64 bits
pub record IsOfWords (s : Setup) (e : Exploring) : Type 0 where
  pub nodes : s.nodes < 2 ^ 64
  pub faults : s.faults < 2 ^ 64
  pub rounds : s.rounds < 2 ^ 64
  pub clear : IfSome e.clear (λ round. round < 2 ^ 64)
  pub hears : e.hears < 2 ^ 64
  pub always : IfSome e.always (λ text. length text.now < 2 ^ 64)

-- the same is asked: of one source, with the same numbers, of the same runs
pub record IsSameQuestion (a b : List ℕ) (s t : Setup) (e f : Exploring) : Type 0 where
  pub source : a ≡ b
  pub nodes : s.nodes ≡ t.nodes
  pub faults : s.faults ≡ t.faults
  pub rounds : s.rounds ≡ t.rounds
  pub runs : question_of e ≡ question_of f
  pub checks : e.checks ≡ f.checks
  pub always : option_map (λ text. text.now) e.always ≡ option_map (λ text. text.now) f.always

-- questions that have one text, of which the digest is made, are one question
abbrev pub OneQuestion : Type 0
OneQuestion =
    (a b : List ℕ) (s t : Setup) (e f : Exploring) → IsOfWords s e → IsOfWords t f
    → question_text a s e ≡ question_text b t f → IsSameQuestion a b s t e f
