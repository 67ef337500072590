-- Which numbers fit, read one after another.
use Rattle.std.proofs.Common.{◌≡◌, ℕ, zero, suc, ◌+◌, ◌<◌, Bool, true, false, cond, ◌&&◌, leb, List}
use Rattle.std.proofs.Common.{[], ◌∷◌, ◌++◌, Ok, Err, Result, refl, sym, ◌∙◌, ap, arith, length}
use Rattle.std.proofs.Common.{take, get_or, map}
use Rattle.std.specs.Borrow.{Bor}
use Rattle.std.specs.List.{list_all}
use Rattle.std.proofs.lemmas.Bool.{and_from, and_parts}
use Rattle.std.proofs.lemmas.List.{take_all, take_more}
use Rattle.std.proofs.lemmas.List.Folds.{list_all_at, list_all_more}
use Rattle.schedule_text.specs.Numbers.{is_number, max_number, value_of}
use Rattle.omission_texts.specs.Forms.{GivesItems, are_small, sized}
use Rattle.omission_texts.specs.declared.fault.LineFault.{LineFault}
use Rattle.omission_texts.specs.declared.fault.LineFault.TheVariants as line

-- what is Ok fits, and is what was made; what isn't is too large
pub fits : {T : Type 0} (b : Bool) (x y : T) → ◌≡◌ {A = Result T LineFault} (Ok y)
    (cond b (Ok x) (Err line.Large)) → (b ≡ true) × (y ≡ x)
fits true x y e = (refl, cc)
fits false x y e = absurd cc

pub exceeds : {T : Type 0} (b : Bool) (x : T) (f : LineFault)
    → ◌≡◌ {A = Result T LineFault} (Err f) (cond b (Ok x) (Err line.Large))
    → (b ≡ false) × (f ≡ line.Large)
exceeds true x f e = absurd cc
exceeds false x f e = (refl, cc)

-- the words of a slice, and what they spell
abbrev pub texts : List (Bor (List ℕ)) → List (List ℕ)
texts ws = map (λ w. w.now) ws

abbrev pub values : List (Bor (List ℕ)) → List ℕ
values ws = map value_of (texts ws)

pub length-values : (ws : List (Bor (List ℕ))) → length (values ws) ≡ length ws
length-values [] = refl
length-values (w ∷ ws) = ap suc (length-values ws)

pub value_at : (ws : List (Bor (List ℕ))) (i : ℕ) (d : Bor (List ℕ)) → i < length ws
    → get_or (values ws) i 0 ≡ value_of (get_or ws i d).now
value_at [] i d lt = absurd (omega (arith, lt))
value_at (w ∷ ws) zero d lt = refl
value_at (w ∷ ws) (suc i) d lt = value_at ws i d (omega (arith, lt))

pub number_at : (ws : List (Bor (List ℕ))) (i : ℕ) (d : Bor (List ℕ))
    → list_all is_number (texts ws) ≡ true → i < length ws → is_number (get_or ws i d).now ≡ true
number_at [] i d h lt = absurd (omega (arith, lt))
number_at (w ∷ ws) zero d h lt = (and_parts (is_number w.now) (list_all is_number (texts ws)) h).0
number_at (w ∷ ws) (suc i) d h lt = number_at ws i d
    (and_parts (is_number w.now) (list_all is_number (texts ws)) h).1 (omega (arith, lt))

-- the first numbers were taken, and fit
pub record Taken (vs : List ℕ) (i : ℕ) (items : List ℕ) : Type 0 where
  pub taken : items ≡ take i vs
  pub small : are_small (take i vs) ≡ true

pub taken_more : (vs : List ℕ) (i : ℕ) (items : List ℕ) (v n : ℕ) → i < length vs
    → get_or vs i 0 ≡ v → Taken vs i items → ◌≡◌ {A = Result ℕ LineFault} (Ok n) (sized (v ∷ []) v)
    → Taken vs (i + 1) (items ++ n ∷ [])
taken_more vs i items v n lt at t e =
    let p = fits (leb v max_number && true) v n e in
    let small = (and_parts (leb v max_number) true p.0).0 in
    record {
      taken = ap (λ xs. xs ++ n ∷ []) t.taken ∙ ap (λ x. take i vs ++ x ∷ []) (p.1 ∙ sym at)
          ∙ sym (take_more vs i 0 lt);
      small = list_all_more (λ v. leb v max_number) vs i 0 lt
          ∙ and_from (are_small (take i vs)) (leb (get_or vs i 0) max_number) t.small
          (ap (λ x. leb x max_number) at ∙ small);
    }

pub taken_fault : (vs : List ℕ) (i v : ℕ) (f : LineFault) → i < length vs → get_or vs i 0 ≡ v
    → ◌≡◌ {A = Result ℕ LineFault} (Err f) (sized (v ∷ []) v) → GivesItems (Err f) (sized vs vs)
taken_fault vs i v f lt at e =
    let p = exceeds (leb v max_number && true) v f e in
    let large : leb (get_or vs i 0) max_number ≡ false = ap (λ x. leb x max_number) at
    ∙ not_small (leb v max_number) p.0 in
    let all = list_all_at (λ v. leb v max_number) vs i 0 lt large in
    rw (p.1) (rw all refl)
  where
    not_small : (b : Bool) → (b && true) ≡ false → b ≡ false
    not_small true h = absurd cc
    not_small false h = refl

pub taken_all : (vs : List ℕ) (i : ℕ) (items : List ℕ) → i ≡ length vs → Taken vs i items
    → ◌≡◌ {A = Result (List ℕ) LineFault} (sized vs vs) (Ok items)
taken_all vs i items e t =
    let whole : take i vs ≡ vs = take_all i vs (omega (arith, e)) in
    let small = ap are_small (sym whole) ∙ t.small in
    rw small (ap (λ (xs : List ℕ). Ok xs) (sym (t.taken ∙ whole)))
