use Rattle.std.proofs.Common.{ℕ, Ok, Err}
use Rattle.std.proofs.lemmas.Str.Parse.{parse_digits}
use Rattle.schedule_text.specs.Numbers.{value_of}
use Rattle.omission_texts.proofs.Numerals.{all_digits, large_one, own, small_one, some_digit}
use Rattle.omission_texts.proofs.word.number.Goals as goal

pub returns-in-Ok : goal.returns-in-Ok
returns-in-Ok c =
    let w = c.args.word.now in
    let p = parse_digits own {E = ℕ} 32 w (Ok c.in-Ok.number) c.in-Ok.ensures.value.0
    (all_digits w c.requires) in
    small_one c.in-Ok.number (value_of w) p.0.1 p.1

pub returns-in-Err : goal.returns-in-Err
returns-in-Err c =
    let w = c.args.word.now in
    let p = parse_digits own 32 w (Err c.in-Err.field-0) c.in-Err.ensures.value.0
    (all_digits w c.requires) in
    large_one (value_of w) (λ lt. p (some_digit w c.requires, lt))
