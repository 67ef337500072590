-- Lists of places as one of them gets a place more.
use Rattle.std.proofs.Common.{◌≡◌, ℕ, ◌<◌, List, [], ◌∷◌, ◌++◌, length, get_or, set}
use Rattle.std.proofs.Common.{sym, subst, ap, ◌∙◌, arith}
use Rattle.std.specs.Prelude.{Vec}
use Rattle.step_book.specs.Tables.{PutsAt, SameTable, tables_of}
use Rattle.step_book.proofs.Tables.{puts_at_set, table_read, tables_len, tables_set}

-- a list is written, after what reads the same
pub puts_after_same : (old lists new : List (List ℕ)) (list : ℕ) (x : List ℕ)
    → SameTable [] old lists → PutsAt [] lists new list x → PutsAt [] old new list x
puts_after_same old lists new list x same h = record {
  there = h.there;
  others = λ k apart. h.others k apart ∙ same k;
}

-- a vector gets a place more among vectors
pub puts_pushed : {B : Type 0} (old : List (List ℕ)) (vecs : List (Vec ℕ B)) (v w : Vec ℕ B)
    (list place : ℕ) → list < length vecs → v ≡ get_or vecs list v
    → w.items ≡ v.items ++ place ∷ [] → SameTable [] old (tables_of vecs)
    → PutsAt [] old (tables_of (set vecs list w)) list (get_or old list [] ++ place ∷ [])
puts_pushed {B} old vecs v w list place l e f same =
    let size = tables_len vecs in
    let read = table_read vecs list v l e in
    let new : w.items ≡ get_or old list [] ++ place ∷ [] = f
    ∙ ap (λ (xs : List ℕ). xs ++ place ∷ []) (sym read ∙ same list) in
    let whole : tables_of (set vecs list w)
    ≡ set (tables_of vecs) list (get_or old list [] ++ place ∷ []) = tables_set vecs list w
    ∙ ap (set (tables_of vecs) list) new in
    subst (λ (z : List (List ℕ)). PutsAt [] old z list (get_or old list [] ++ place ∷ []))
    (sym whole)
    (puts_after_same old (tables_of vecs) _ list (get_or old list [] ++ place ∷ []) same
    (puts_at_set [] (tables_of vecs) list (get_or old list [] ++ place ∷ []) (omega arith)))
