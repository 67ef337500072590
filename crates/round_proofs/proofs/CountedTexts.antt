-- A text is a program for each number of values, by computing.
use Rattle.std.proofs.Common.{◌≡◌, ℕ, zero, suc, ◌≤◌, List, [], ◌∷◌, ◌++◌, Option, Some, None}
use Rattle.std.proofs.Common.{◌+◌, take, drop, true}
use Rattle.std.proofs.Common.{refl, sym, ap, ◌∙◌, subst, arith}
use Rattle.round_lang.specs.declared.token.Mark.TheVariants as m
use Rattle.round_lang.specs.Lexemes.{Lexeme, mark, number, same_mark}
use Rattle.round_lang.specs.Limits.{max_period, max_values}
use Rattle.round_lang.specs.Parts.{all_read, blocks, declared, program}
use Rattle.round_lang.specs.Reading.{◌>>=◌, after, number_at}
use Rattle.round_lang.specs.Scanning.{Step, skip, token, bad, step}
use Rattle.round_lang.specs.Source.{IsSource}
use Rattle.round_lang.specs.Syntax.{ProgramTree}
use Rattle.round_lang.specs.Tokens.{Tokens}
use Rattle.round_lang.proofs.Pieces.{Says, step_says}
use Rattle.round_check.specs.Causes.{is_typed}
use Rattle.round_lang.proofs.Whole.{source_of}
use Rattle.std.specs.Fmt.{decimal}
use Rattle.algorithm_library.specs.Texts.{text_of}
use Rattle.algorithm_library.proofs.Headers.{count_read, header}
use Rattle.algorithm_library.proofs.Scans.{scanned, scanned_good}
use Rattle.round_proofs.specs.Texts.{IsFamilyText}

abbrev pub past : Step → List ℕ → (List ℕ → List ℕ) → List ℕ
past (skip n) text rest = rest (drop n text)
past (token n l) text rest = text
past bad text rest = text

-- the text after its first n blanks and comments, if no token comes before them
abbrev pub skipped : ℕ → List ℕ → List ℕ
skipped zero text = text
skipped (suc n) [] = []
skipped (suc n) (b ∷ bs) = past (step (b ∷ bs)) (b ∷ bs) (skipped n)

skipped_good : (n : ℕ) (text : List ℕ) (ls : List Lexeme) → Tokens (skipped n text) ls
    → Tokens text ls
skipped_good zero text ls h = h
skipped_good (suc n) [] ls h = h
skipped_good (suc n) (b ∷ bs) ls h =
    go (λ k. skipped_good n (drop k (b ∷ bs)) ls) (step (b ∷ bs)) (step_says (b ∷ bs) (omega arith))
    h
  where
    go : ((k : ℕ) → Tokens (skipped n (drop k (b ∷ bs))) ls → Tokens (drop k (b ∷ bs)) ls)
        → (x : Step) → Says (b ∷ bs) x → Tokens (past x (b ∷ bs) (skipped n)) ls
        → Tokens (b ∷ bs) ls
    go ih (skip k) says t = says.on ls (ih k t)
    go ih (token k l) says t = t
    go ih bad says t = t

-- what is read after the number of values
abbrev pub behind_count : ℕ → List Lexeme → Option ProgramTree
behind_count k ws = do
  xs ← after m.Period ws
  p ← number_at 1 max_period xs
  ds ← declared p.1
  bs ← blocks ds.2
  all_read (record { values = k; period = p.0; variables = ds.0; decides = ds.1; blocks = bs.0 })
      bs.1

program_is : (k : ℕ) (ws rest : List Lexeme) (p : ProgramTree)
    → number_at 1 max_values ws ≡ Some (k, rest) → behind_count k rest ≡ Some p
    → program (mark m.Values ∷ ws) ≡ Some p
unfolding program after same_mark
program_is k ws rest p e h = ap (λ o. o >>= λ n. behind_count n.0 n.1) e ∙ h

-- a text of comments, `values K` and a rest of at most n blanks, comments and tokens
pub counted_source : (n c k : ℕ) (front bs : List ℕ) (p : ProgramTree) → 1 ≤ k → k ≤ 64
    → skipped c (front ++ text_of (32 ∷ bs) k) ≡ text_of (32 ∷ bs) k
    → (scanned n (32 ∷ bs) >>= behind_count k) ≡ Some p
    → IsSource (front ++ text_of (32 ∷ bs) k) p
counted_source n c k front bs p some few skips h = go (scanned n (32 ∷ bs)) refl h
  where
    go : (o : Option (List Lexeme)) → scanned n (32 ∷ bs) ≡ o → (o >>= behind_count k) ≡ Some p
        → IsSource (front ++ text_of (32 ∷ bs) k) p
    go None e h = absurd (cc)
    go (Some ws) e h =
        source_of (front ++ text_of (32 ∷ bs) k) (mark m.Values ∷ number (decimal k) ∷ ws) p
        (skipped_good c (front ++ text_of (32 ∷ bs) k) (mark m.Values ∷ number (decimal k) ∷ ws)
        (subst (λ t. Tokens t (mark m.Values ∷ number (decimal k) ∷ ws)) (sym skips)
        (header k bs ws few (scanned_good n (32 ∷ bs) ws e))))
        (program_is k (number (decimal k) ∷ ws) ws p (count_read k ws some few) h)

-- a text whose `values K` begins after `at` bytes, and has `wide` bytes with the blank after it
pub family_text : (n at wide own : ℕ) (text : List ℕ) (tree : ℕ → ProgramTree)
    → text ≡ take at text ++ text_of (32 ∷ drop (at + wide) text) own
    → ((k : ℕ) → skipped n (take at text ++ text_of (32 ∷ drop (at + wide) text) k)
    ≡ text_of (32 ∷ drop (at + wide) text) k)
    → ((k : ℕ) → (scanned n (32 ∷ drop (at + wide) text) >>= behind_count k) ≡ Some (tree k))
    → ((k : ℕ) → is_typed (tree k) ≡ true)
    → IsFamilyText text own tree
family_text n at wide own text tree is skips reads typed = record {
  front = take at text;
  rest = 32 ∷ drop (at + wide) text;
  is = is;
  source = λ k some few.
      counted_source n n k (take at text) (drop (at + wide) text) (tree k) some few (skips k)
      (reads k);
  typed = typed;
}

-- the same of a K with one digit
pub counted_text : (n at own : ℕ) (text : List ℕ) (tree : ℕ → ProgramTree)
    → text ≡ take at text ++ text_of (32 ∷ drop (at + 9) text) own
    → ((k : ℕ) → skipped n (take at text ++ text_of (32 ∷ drop (at + 9) text) k)
    ≡ text_of (32 ∷ drop (at + 9) text) k)
    → ((k : ℕ) → (scanned n (32 ∷ drop (at + 9) text) >>= behind_count k) ≡ Some (tree k))
    → ((k : ℕ) → is_typed (tree k) ≡ true)
    → IsFamilyText text own tree
counted_text n at own text tree is skips reads typed =
    family_text n at 9 own text tree is skips reads typed
