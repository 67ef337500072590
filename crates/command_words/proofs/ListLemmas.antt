-- The loop over the texts between commas.
use Rattle.std.proofs.Common.{◌≡◌, ◌++◌, ◌<◌, ◌≤◌, ◌+◌, ℕ, List, [], ◌∷◌, length, drop, get_or, sym}
use Rattle.std.proofs.Common.{subst}
use Rattle.std.proofs.lemmas.List.{append_assoc, append-nil, drop_all, drop_more}
use Rattle.clap.specs.Words.{Text}
use Rattle.command_words.specs.Values.{AreNumbers, NumberText}

-- The first i texts are these numbers': what the others are follows them, and there are such where
-- all are numbers'.
pub record IsReadTo (texts : List Text) (i : ℕ) (ns : List ℕ) : Type 0 where
  pub goes_on : (more : List ℕ) → AreNumbers (drop i texts) more → AreNumbers texts (ns ++ more)
  pub came : (all : List ℕ) → AreNumbers texts all
      → (more : List ℕ) × AreNumbers (drop i texts) more

head_is : (text : Text) (texts : List Text) (ns : List ℕ) → AreNumbers (text ∷ texts) ns
    → (n : ℕ) × NumberText text n
head_is text texts [] h = absurd h
head_is text texts (n ∷ ns) h = (n, h.0)

rest_is : (text : Text) (texts : List Text) (ns : List ℕ) → AreNumbers (text ∷ texts) ns
    → (more : List ℕ) × AreNumbers texts more
rest_is text texts [] h = absurd h
rest_is text texts (n ∷ ns) h = (ns, h.1)

module _ (texts : List Text) (i : ℕ) (ns : List ℕ) (read : IsReadTo texts i ns) where
  front : (text : Text) → i < length texts → text ≡ get_or texts i text
      → drop i texts ≡ text ∷ drop (i + 1) texts
  front text lt is = let d = drop_more texts i text lt in rw (← is) at d

  pub read_one : (text : Text) (n : ℕ) → i < length texts → text ≡ get_or texts i text
      → NumberText text n → IsReadTo texts (i + 1) (ns ++ n ∷ [])
  read_one text n lt is number =
      let d = front text lt is in record {
        goes_on = λ more h. subst (AreNumbers texts) (sym (append_assoc ns (n ∷ []) more))
            (read.goes_on (n ∷ more)
            (subst (λ (ts : List Text). AreNumbers ts (n ∷ more)) (sym d) (number, h)));
        came = λ all h. let left = read.came all h in
            rest_is text (drop (i + 1) texts) left.0
            (subst (λ (ts : List Text). AreNumbers ts left.0) d left.1);
      }

  pub read_none : (text : Text) → i < length texts → text ≡ get_or texts i text
      → ((n : ℕ) → ¬ (NumberText text n)) → (all : List ℕ) → ¬ (AreNumbers texts all)
  read_none text lt is none all h =
      let left = read.came all h in
      let first =
      head_is text (drop (i + 1) texts) left.0
      (subst (λ (ts : List Text). AreNumbers ts left.0) (front text lt is) left.1) in
      none first.0 first.1

  pub read_all : length texts ≤ i → AreNumbers texts ns
  read_all le =
      subst (AreNumbers texts) (append-nil ns)
      (read.goes_on []
      (subst (λ (ts : List Text). AreNumbers ts []) (sym (drop_all i texts le)) tt))

pub read_nothing : (texts : List Text) → IsReadTo texts 0 []
read_nothing texts = record { goes_on = λ more h. h; came = λ all h. (all, h) }
