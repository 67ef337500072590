-- Numbers with more numbers behind them.
use Rattle.std.proofs.Common.{
  ◌≡◌,
  ℕ,
  true,
  List,
  ◌∷◌,
  Option,
  Some,
  None,
  option_map,
  Err,
  refl,
  sym,
  ap,
}
use Rattle.std.proofs.Common.{subst, ◌∙◌}
use Rattle.std.specs.Prelude.{is_some}
use Rattle.std.specs.Borrow.{Bor}
use Rattle.schedule_text.specs.declared.fault.LineFault.TheVariants as line
use Rattle.schedule_text.specs.Fronts.{HasRest, three_or_four, two_numbers, front_value}
use Rattle.schedule_text.specs.Stages.{one_of, numbers_in}
use Rattle.schedule_text.proofs.Numbers.{one_of-more, three_or_four-more, two_numbers-more}

pub not_one : (t : List ℕ) (r : Option (Bor (List ℕ))) → HasRest r t → is_some r ≡ true
    → Err line.Bad ≡ one_of (numbers_in t)
not_one t None h s = cc
not_one t (Some b) h s = sym (ap one_of h.0 ∙ one_of-more (front_value t) b.now)

more : (t : List ℕ) (r : Option (Bor (List ℕ))) (b : Bor (List ℕ)) → HasRest r t → r ≡ Some b
    → numbers_in t ≡ option_map (λ vs. front_value t ∷ vs) (numbers_in b.now)
more t r b h e = let P : Option (Bor (List ℕ)) → Type 0 = λ r. HasRest r t in (subst P e h).0

-- two numbers that others follow
pub not_two : (t : List ℕ) (r s : Option (Bor (List ℕ))) (b : Bor (List ℕ)) → HasRest r t
    → r ≡ Some b → HasRest s b.now → is_some s ≡ true → None ≡ two_numbers (numbers_in t)
not_two t r None b hr er hs is = absurd cc
not_two t r (Some d) b hr er hs is =
    let first = more t r b hr er
    ∙ ap (λ ns. option_map (λ vs. front_value t ∷ vs) ns) (more b.now (Some d) d hs refl) in
    sym (ap two_numbers first ∙ two_numbers-more (front_value t) (front_value b.now) d.now)

-- four numbers that others follow
pub not_four : (t : List ℕ) (r s u w : Option (Bor (List ℕ))) (b d f g : Bor (List ℕ)) → HasRest r t
    → r ≡ Some b → HasRest s b.now → s ≡ Some d → HasRest u d.now → u ≡ Some f → HasRest w f.now
    → w ≡ Some g → None ≡ three_or_four (numbers_in t)
not_four t r s u w b d f g hr er hs es hu eu hw ew =
    let fourth = more f.now w g hw ew in
    let third = more d.now u f hu eu
    ∙ ap (λ ns. option_map (λ vs. front_value d.now ∷ vs) ns) fourth in
    let second = more b.now s d hs es
    ∙ ap (λ ns. option_map (λ vs. front_value b.now ∷ vs) ns) third in
    let first = more t r b hr er ∙ ap (λ ns. option_map (λ vs. front_value t ∷ vs) ns) second in
    sym (ap three_or_four first
    ∙ three_or_four-more (front_value t) (front_value b.now) (front_value d.now)
    (front_value f.now) g.now)
