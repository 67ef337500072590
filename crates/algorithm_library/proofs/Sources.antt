-- The texts are the programs.
use Rattle.std.proofs.Common.{◌≡◌, true, ℕ, ◌^◌, ◌<◌, ◌≤◌, List, ◌∷◌, drop, length, Option, Some}
use Rattle.std.proofs.Common.{None, refl, ap, ◌∙◌, arith}
use Rattle.std.specs.Fmt.{decimal}
use Rattle.std.proofs.lemmas.Fmt.{length-decimal-le_succ}
use Rattle.std.proofs.lemmas.List.{length-append}
use Rattle.round_check.specs.Causes.{fault_of, is_typed, double_name, no_input, no_decision}
use Rattle.round_check.specs.Causes.{missing_round, unknown_name, not_allowed_here, field_count}
use Rattle.round_check.specs.Causes.{wrong_type}
use Rattle.round_lang.specs.declared.token.Mark.TheVariants as m
use Rattle.round_lang.specs.Keywords.{keyword, frame_word, choice_word, type_word, operator_word}
use Rattle.round_lang.specs.Keywords.{constant_word, call_word, short_symbol, long_symbol}
use Rattle.round_lang.specs.Lexemes.{Lexeme, mark, same_mark}
use Rattle.round_lang.specs.Limits.{max_period, max_values}
use Rattle.round_lang.specs.Parts.{all_read, blocks, declared, program}
use Rattle.round_lang.specs.Parts as parts
use Rattle.round_lang.specs.Reading as reading
use Rattle.round_lang.specs.Reading.{◌>>=◌, after, number_at}
use Rattle.round_lang.specs.Scanning.{step, symbol_step}
use Rattle.round_lang.specs.Source.{IsSource}
use Rattle.round_lang.specs.Syntax.{ProgramTree}
use Rattle.round_lang.proofs.Whole.{source_of}
use Rattle.round_meaning.specs.Algorithm1.{dls1}
use Rattle.algorithm_library.specs.Programs.{count_votes_tree, gather_tree}
use Rattle.algorithm_library.specs.Refusals.{IsCount}
use Rattle.algorithm_library.specs.Texts.{IsProgramText, count_votes_rest, dls1_rest, gather_rest}
use Rattle.algorithm_library.specs.Texts.{text_of}
use Rattle.algorithm_library.proofs.Headers.{count_read, header}
use Rattle.algorithm_library.proofs.Scans.{scanned, scanned_good}

-- what a program has behind its number of values
abbrev behind_count : ℕ → List Lexeme → Option ProgramTree
behind_count k ws = do
  xs ← after m.Period ws
  p ← number_at 1 max_period xs
  ds ← declared p.1
  bs ← blocks ds.2
  all_read (record { values = k; period = p.0; variables = ds.0; decides = ds.1; blocks = bs.0 })
      bs.1

program_is : (k : ℕ) (ws rest : List Lexeme) (p : ProgramTree)
    → number_at 1 max_values ws ≡ Some (k, rest) → behind_count k rest ≡ Some p
    → program (mark m.Values ∷ ws) ≡ Some p
unfolding program after same_mark
program_is k ws rest p e h = ap (λ o. o >>= λ n. behind_count n.0 n.1) e ∙ h

source_good : (n k : ℕ) (bs : List ℕ) (p : ProgramTree) → 1 ≤ k → k ≤ 64
    → (scanned n (32 ∷ bs) >>= behind_count k) ≡ Some p → IsSource (text_of (32 ∷ bs) k) p
source_good n k bs p some few h = go (scanned n (32 ∷ bs)) refl h
  where
    go : (o : Option (List Lexeme)) → scanned n (32 ∷ bs) ≡ o → (o >>= behind_count k) ≡ Some p
        → IsSource (text_of (32 ∷ bs) k) p
    go None e h = absurd (cc)
    go (Some ws) e h =
        source_of _ _ p (header k bs ws few (scanned_good n (32 ∷ bs) ws e))
        (program_is k _ ws p (count_read k ws some few) h)

-- what is read of a text is the program, by computing
reads : (k : ℕ)
    → ((scanned 400 gather_rest >>= behind_count k) ≡ Some (gather_tree k))
    × ((scanned 600 count_votes_rest >>= behind_count k) ≡ Some (count_votes_tree k))
    × ((scanned 2000 dls1_rest >>= behind_count k) ≡ Some (dls1 k))
unfolding step symbol_step short_symbol long_symbol keyword frame_word choice_word type_word
    operator_word constant_word call_word same_mark reading.after reading.after_equal
    reading.name_at reading.type_at reading.value_within reading.number_at reading.begins_with
    reading.begins_name reading.same_level reading.operator_at reading.operand reading.chain
    reading.chained reading.compared reading.negated reading.closed reading.indexed
    reading.postfixed reading.called reading.has reading.brackets reading.comprehension reading.atom
    reading.choice reading.chosen reading.products reading.sums reading.negations
    reading.conjunctions reading.disjunctions reading.parse reading.formula parts.counted_name
    parts.many parts.listed parts.state parts.input parts.decide parts.begins_declaration
    parts.declaration parts.declarations parts.declared parts.assignment parts.assignments
    parts.field parts.fields parts.sent parts.head parts.sending parts.on_message parts.ending
    parts.block parts.blocks
reads k = (refl, refl, refl)

pub gather_source : (k : ℕ) → 1 ≤ k → k ≤ 64 → IsSource (text_of gather_rest k) (gather_tree k)
gather_source k some few = source_good 400 k (drop 1 gather_rest) (gather_tree k) some few
    (reads k).0

pub count_votes_source : (k : ℕ) → 1 ≤ k → k ≤ 64
    → IsSource (text_of count_votes_rest k) (count_votes_tree k)
count_votes_source k some few =
    source_good 600 k (drop 1 count_votes_rest) (count_votes_tree k) some few (reads k).1

pub dls1_source : (k : ℕ) → 1 ≤ k → k ≤ 64 → IsSource (text_of dls1_rest k) (dls1 k)
dls1_source k some few = source_good 2000 k (drop 1 dls1_rest) (dls1 k) some few (reads k).2

-- every expression has its type
types : (k : ℕ) → (is_typed (gather_tree k) ≡ true) × (is_typed (count_votes_tree k) ≡ true)
    × (is_typed (dls1 k) ≡ true)
unfolding is_typed fault_of double_name no_input no_decision missing_round unknown_name
    not_allowed_here field_count wrong_type
types k = (refl, refl, refl)

short : (rest : List ℕ) (k : ℕ) → k ≤ 64 → length rest ≤ 4000 → length (text_of rest k) ≤ 65536
short rest k few h =
    let fits : k < 2 ^ 64 = omega arith in
    let digits = length-decimal-le_succ k fits in
    let all = length-append (decimal k) rest in
    omega arith

pub gather_text : (k : ℕ) → IsCount k → IsProgramText (text_of gather_rest k)
gather_text k c = record {
  program = gather_tree k;
  source = gather_source k c.some c.few;
  typed = (types k).0;
  short = short gather_rest k c.few (omega arith);
}

pub count_votes_text : (k : ℕ) → IsCount k → IsProgramText (text_of count_votes_rest k)
count_votes_text k c = record {
  program = count_votes_tree k;
  source = count_votes_source k c.some c.few;
  typed = (types k).1;
  short = short count_votes_rest k c.few (omega arith);
}

pub dls1_text : (k : ℕ) → IsCount k → IsProgramText (text_of dls1_rest k)
dls1_text k c = record {
  program = dls1 k;
  source = dls1_source k c.some c.few;
  typed = (types k).2;
  short = short dls1_rest k c.few (omega arith);
}
