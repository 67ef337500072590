-- The lines of answers or of a text, one after another.
use Rattle.std.proofs.Common.{◌≡◌, ◌∙◌, ◌+◌, ◌<◌, ◌≤◌, ◌++◌, ◌∷◌, [], ℕ, List, None, Option, Some}
use Rattle.std.proofs.Common.{ap, append_assoc, get_or, length, sym, take}
use Rattle.std.specs.Io.KnownBytes.{Appends}
use Rattle.std.specs.List.{flat_map}
use Rattle.std.proofs.lemmas.List.{append-nil, take_all, take_more}

pub none_written : (a : Option (List ℕ)) → Appends a a []
none_written None = tt
none_written (Some xs) = sym (append-nil xs)

pub both_written : (a b c : Option (List ℕ)) (x y : List ℕ) → Appends a b x → Appends b c y
    → Appends a c (x ++ y)
both_written None b c x y h k = tt
both_written (Some xs) None c x y h k = absurd h
both_written (Some xs) (Some ys) None x y h k = absurd k
both_written (Some xs) (Some ys) (Some zs) x y h k =
    k ∙ ap (λ l. l ++ y) h ∙ append_assoc xs x y

pub as_written : (a b : Option (List ℕ)) (x y : List ℕ) → x ≡ y → Appends a b x → Appends a b y
as_written a b x y same h = rw (← same) h

-- what each answer's line is, in words or as an object, or what is written of each line
module _ {X : Type 0} (line : X → List ℕ) where
  lines_more : (told : List X) (one : X)
      → flat_map line (told ++ one ∷ []) ≡ flat_map line told ++ line one
  lines_more [] one = append-nil (line one)
  lines_more (t ∷ ts) one =
      ap (λ l. line t ++ l) (lines_more ts one)
      ∙ sym (append_assoc (line t) (flat_map line ts) (line one))

  pub one_written : (a b c : Option (List ℕ)) (told : List X) (i : ℕ) (one : X)
      → i < length told → one ≡ get_or told i one → Appends a b (flat_map line (take i told))
      → Appends b c (line one) → Appends a c (flat_map line (take (i + 1) told))
  one_written a b c told i one lt is h k =
      as_written a c (flat_map line (take i told) ++ line one)
      (flat_map line (take (i + 1) told))
      (sym (ap (flat_map line) (take_more told i one lt
      ∙ ap (λ y. take i told ++ y ∷ []) (sym is)) ∙ lines_more (take i told) one))
      (both_written a b c (flat_map line (take i told)) (line one) h k)

  pub all_written : (a b : Option (List ℕ)) (told : List X) (i : ℕ) → length told ≤ i
      → Appends a b (flat_map line (take i told)) → Appends a b (flat_map line told)
  all_written a b told i all h =
      as_written a b (flat_map line (take i told)) (flat_map line told)
      (ap (flat_map line) (take_all i told all)) h
