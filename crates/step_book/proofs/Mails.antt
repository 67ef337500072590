-- The parts of names, as a name comes and as what waits is handed out.
use Rattle.std.proofs.Common.{
  ◌≡◌,
  ℕ,
  zero,
  suc,
  ◌+◌,
  ◌-◌,
  ◌<◌,
  ◌≤◌,
  List,
  [],
  ◌∷◌,
  ◌++◌,
  drop,
  length,
}
use Rattle.std.proofs.Common.{get_or, take, subst, sym, refl, ap, ◌∙◌, arith}
use Rattle.std.proofs.Math.Seq.{drop-length, take-length}
use Rattle.std.proofs.lemmas.List.{drop-append-le, drop-drop, length-drop, length-take-le}
use Rattle.std.proofs.lemmas.List.{take-append-drop, take-append-le}
use Rattle.run_events.specs.declared.name.Name.{Name}
use Rattle.step_book.specs.Mailing.{AreParted, Rise, last_end, parts}

-- ends that rise stay below the last
rise_last : (from : ℕ) (ends : List ℕ) → Rise from ends → from ≤ last_end from ends
rise_last from [] h = omega arith
rise_last from (end ∷ ends) h = let low = h.0 in let high = rise_last end ends h.1 in omega arith

-- a name more doesn't change the parts
parts_grow : (from : ℕ) (ends : List ℕ) (names more : List Name) → Rise from ends
    → last_end from ends ≤ length names → parts from ends (names ++ more) ≡ parts from ends names
parts_grow from [] names more rise l = refl
parts_grow from (end ∷ ends) names more rise l =
    let low = rise.0 in
    let high = rise_last end ends rise.1 in
    let size = length-drop from names in
    let here : take (end - from) (drop from (names ++ more)) ≡ take (end - from) (drop from names) =
    ap (take (end - from)) (drop-append-le from names more (omega arith))
    ∙ take-append-le (end - from) (drop from names) more (omega arith) in
    ap (λ (x : List Name). x ∷ parts end ends (names ++ more)) here
    ∙ ap (λ (x : List (List Name)). take (end - from) (drop from names) ∷ x)
    (parts_grow end ends names more rise.1 l)

-- an end more gives a part more
parts_push : (from : ℕ) (ends : List ℕ) (end : ℕ) (names : List Name)
    → parts from (ends ++ end ∷ []) names ≡ parts from ends names
    ++ take (end - last_end from ends) (drop (last_end from ends) names) ∷ []
parts_push from [] end names = refl
parts_push from (e ∷ ends) end names =
    ap (λ (x : List (List Name)). take (e - from) (drop from names) ∷ x)
    (parts_push e ends end names)

last_push : (from : ℕ) (ends : List ℕ) (end : ℕ) → last_end from (ends ++ end ∷ []) ≡ end
last_push from [] end = refl
last_push from (e ∷ ends) end = last_push e ends end

rise_push : (from : ℕ) (ends : List ℕ) (end : ℕ) → Rise from ends → last_end from ends ≤ end
    → Rise from (ends ++ end ∷ [])
rise_push from [] end h l = (l, tt)
rise_push from (e ∷ ends) end h l = (h.0, rise_push e ends end h.1 l)

take_rest : (l : ℕ) (names : List Name) → take (length names - l) (drop l names) ≡ drop l names
take_rest l names = ap (λ k. take k (drop l names)) (sym (length-drop l names))
    ∙ take-length (drop l names)

pub parts_len : (from : ℕ) (ends : List ℕ) (names : List Name)
    → length (parts from ends names) ≡ length ends
parts_len from [] names = refl
parts_len from (end ∷ ends) names = ap suc (parts_len end ends names)

-- a part lies between two ends
pub part_at : (from : ℕ) (ends : List ℕ) (names : List Name) (k : ℕ) → k < length ends
    → get_or (parts from ends names) k [] ≡ take (get_or ends k 0 - get_or (from ∷ ends) k 0)
    (drop (get_or (from ∷ ends) k 0) names)
part_at from [] names k l = absurd (let no : k < 0 = l in omega arith)
part_at from (end ∷ ends) names zero l = refl
part_at from (end ∷ ends) names (suc k) l = part_at end ends names k (omega arith)

part_rises : (from : ℕ) (ends : List ℕ) (k : ℕ) → k < length ends → Rise from ends
    → get_or (from ∷ ends) k 0 ≤ get_or ends k 0
part_rises from [] k l h = omega arith
part_rises from (end ∷ ends) zero l h = h.0
part_rises from (end ∷ ends) (suc k) l h = part_rises end ends k (omega arith) h.1

part_within : (from : ℕ) (ends : List ℕ) (k : ℕ) → k < length ends → Rise from ends
    → get_or ends k 0 ≤ last_end from ends
part_within from [] k l h = omega arith
part_within from (end ∷ ends) zero l h = rise_last end ends h.1
part_within from (end ∷ ends) (suc k) l h = part_within end ends k (omega arith) h.1

-- the first ends give the first parts
parts_take : (from : ℕ) (ends : List ℕ) (names : List Name) (k : ℕ)
    → parts from (take k ends) names ≡ take k (parts from ends names)
parts_take from ends names zero = refl
parts_take from [] names (suc k) = refl
parts_take from (end ∷ ends) names (suc k) =
    ap (λ (x : List (List Name)). take (end - from) (drop from names) ∷ x)
    (parts_take end ends names k)

rise_take : (from : ℕ) (ends : List ℕ) (k : ℕ) → Rise from ends → Rise from (take k ends)
rise_take from ends zero h = tt
rise_take from [] (suc k) h = tt
rise_take from (end ∷ ends) (suc k) h = (h.0, rise_take end ends k h.1)

last_take : (from : ℕ) (ends : List ℕ) (k : ℕ) → Rise from ends
    → last_end from (take k ends) ≤ last_end from ends
last_take from ends zero h = rise_last from ends h
last_take from [] (suc k) h = omega arith
last_take from (end ∷ ends) (suc k) h = last_take end ends k h.1

last_is : (from : ℕ) (ends : List ℕ) → last_end from ends ≡ get_or (from ∷ ends) (length ends) 0
last_is from [] = refl
last_is from (end ∷ ends) = last_is end ends

-- what lies behind the last end but one is the last part and the rest
last_part : (from end : ℕ) (ends : List ℕ) (names : List Name) → Rise from (end ∷ ends)
    → drop (last_end from (take (length ends) (end ∷ ends))) names
    ≡ get_or (parts from (end ∷ ends) names) (length ends) []
    ++ drop (last_end from (end ∷ ends)) names
last_part from end [] names rise =
    let low = rise.0 in
    let whole : from + (end - from) ≡ end = omega arith in
    sym (take-append-drop (end - from) (drop from names))
    ∙ ap (λ ns. take (end - from) (drop from names) ++ ns) (drop-drop (end - from) from names
    ∙ ap (λ k. drop k names) whole)
last_part from end (e ∷ ends) names rise = last_part end e ends names rise.1

-- names before those that wait give the same parts without the rest
parts_cut : (from : ℕ) (ends : List ℕ) (names : List Name) (taken : ℕ) → Rise from ends
    → last_end from ends ≤ taken → taken ≤ length names
    → parts from ends (take taken names) ≡ parts from ends names
parts_cut from ends names taken rise l within =
    let size = length-take-le taken names within in
    sym (parts_grow from ends (take taken names) (drop taken names) rise (omega arith))
    ∙ ap (parts from ends) (take-append-drop taken names)

module _ {names : List Name} {ends : List ℕ} {taken : ℕ} (h : AreParted names ends taken) where
  -- a name more that waits
  pub mail_grown : (next : List Name) (name : Name) → next ≡ names ++ name ∷ []
      → AreParted next ends taken
  mail_grown next name e = let l = h.within in let n = ap length e in
      let m = length_more names name in
      record { rise = h.rise; last = h.last; within = omega arith }
    where
      length_more : (xs : List Name) (x : Name) → length (xs ++ x ∷ []) ≡ suc (length xs)
      length_more [] x = refl
      length_more (y ∷ ys) x = ap suc (length_more ys x)

  pub handed_grown : (next : List Name) (name : Name) → next ≡ names ++ name ∷ []
      → parts 0 ends next ≡ parts 0 ends names
  handed_grown next name e = ap (parts 0 ends) e
      ∙ parts_grow 0 ends names (name ∷ []) h.rise (let l = h.within in let last = h.last in
      omega arith)

  pub waiting_grown : (next : List Name) (name : Name) → next ≡ names ++ name ∷ []
      → drop taken next ≡ drop taken names ++ name ∷ []
  waiting_grown next name e = ap (drop taken) e ∙ drop-append-le taken names (name ∷ []) h.within

  -- what waits is handed out
  pub mail_handed : (next : List ℕ) (count : ℕ) → count ≡ length names → next ≡ ends ++ count ∷ []
      → AreParted names next count
  mail_handed next count size e =
      let l = h.within in
      let last = h.last in
      record {
        rise = rw e (rise_push 0 ends count h.rise (omega arith));
        last = ap (last_end 0) e ∙ last_push 0 ends count;
        within = omega arith;
      }

  pub handed_more : (next : List ℕ) (count : ℕ) → count ≡ length names → next ≡ ends ++ count ∷ []
      → parts 0 next names ≡ parts 0 ends names ++ drop taken names ∷ []
  handed_more next count size e =
      ap (λ x. parts 0 x names) e ∙ parts_push 0 ends count names
      ∙ ap (λ l. parts 0 ends names ++ take (count - l) (drop l names) ∷ []) h.last
      ∙ ap (λ c. parts 0 ends names ++ take (c - taken) (drop taken names) ∷ []) size
      ∙ ap (λ (x : List Name). parts 0 ends names ++ x ∷ []) (take_rest taken names)

  pub none_waiting : (count : ℕ) → count ≡ length names → drop count names ≡ []
  none_waiting count size = ap (λ k. drop k names) size ∙ drop-length names

  -- a part lies among the names
  pub part_low : (k : ℕ) → k < length ends → get_or (0 ∷ ends) k 0 ≤ get_or ends k 0
  part_low k l = part_rises 0 ends k l h.rise

  pub part_high : (k : ℕ) → k < length ends → get_or ends k 0 ≤ length names
  part_high k l = let a = part_within 0 ends k l h.rise in let b = h.last in let c = h.within in
      omega arith

  -- a receive is undone
  pub mail_back : (next : List ℕ) (k : ℕ) (last : ℕ) → next ≡ take k ends
      → last ≡ get_or (0 ∷ next) (length next) 0 → AreParted names next last
  mail_back next k last e is =
      let whole = last_take 0 ends k h.rise in
      let end = h.last in
      let within = h.within in
      let here : last_end 0 next ≡ last_end 0 (take k ends) = ap (last_end 0) e in
      let there : last_end 0 next ≡ last = last_is 0 next ∙ sym is in
      record {
        rise = subst (Rise 0) (sym e) (rise_take 0 ends k h.rise);
        last = there;
        within = omega (arith, whole, end, within, here, there);
      }

  pub handed_back : (next : List ℕ) (k : ℕ) → next ≡ take k ends
      → parts 0 next names ≡ take k (parts 0 ends names)
  handed_back next k e = ap (λ x. parts 0 x names) e ∙ parts_take 0 ends names k

  -- what waits is forgotten
  pub handed_cut : (next : List Name) → next ≡ take taken names
      → parts 0 ends next ≡ parts 0 ends names
  handed_cut next e = ap (parts 0 ends) e
      ∙ parts_cut 0 ends names taken h.rise (let last = h.last in omega arith) h.within

  -- where what waits begins then
  pub back_is : (next : List ℕ) (k : ℕ) (last : ℕ) → next ≡ take k ends
      → last ≡ get_or (0 ∷ next) (length next) 0 → last ≡ last_end 0 (take k ends)
  back_is next k last e is = is ∙ sym (last_is 0 next) ∙ ap (last_end 0) e

  pub waiting_back : (k : ℕ) → k ≡ length ends - 1
      → drop (last_end 0 (take k ends)) names ≡ get_or (parts 0 ends names) k [] ++ drop taken names
  waiting_back k e = behind ends k e h.rise
      ∙ ap (λ l. get_or (parts 0 ends names) k [] ++ drop l names) h.last
    where
      behind : (es : List ℕ) (k : ℕ) → k ≡ length es - 1 → Rise 0 es
          → drop (last_end 0 (take k es)) names ≡ get_or (parts 0 es names) k []
          ++ drop (last_end 0 es) names
      behind [] k e rise = let none : k ≡ 0 = omega (arith, e) in rw none refl
      behind (end ∷ es) k e rise = let size : k ≡ length es = omega (arith, e) in
          rw size (last_part 0 end es names rise)
