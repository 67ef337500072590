-- A run made round by round, node by node.
use Rattle.std.proofs.Common.{◌≡◌, ℕ, ◌+◌, ◌<◌, ◌≤◌, Bool, true, List, [], ◌++◌, refl, sym, ap, ◌∙◌}
use Rattle.std.proofs.Common.{◌∷◌, Option, None, Some, false, subst, arith, ◌⊎◌, inl, inr}
use Rattle.std.specs.List.{filter_map, range_with_len}
use Rattle.std.specs.Prelude.{length}
use Rattle.std.proofs.lemmas.Bool.{cases_lt, cond-false, cond-true}
use Rattle.std.proofs.lemmas.List.{length-append}
use Rattle.std.proofs.lemmas.List.Elements.{All-push}
use Rattle.round_lang.specs.declared.value.Value.{Value}
use Rattle.round_lang.specs.Syntax.{ProgramTree}
use Rattle.round_meaning.specs.declared.omissions.Omission.{Omission}
use Rattle.round_meaning.specs.Omissions.{is_omitted}
use Rattle.round_meaning.specs.Rounds.{Algorithm, algorithm, heard, received}
use Rattle.round_meaning.specs.States.{state_in}
use Rattle.round_meaning.specs.declared.setup.Setup.{Setup}
use Rattle.round_explorer.specs.declared.answer.Counterexample.{Counterexample}
use Rattle.round_explorer.specs.declared.property.Property.{Property}
use Rattle.round_explorer.specs.declared.question.AskedInputs.{AskedInputs}
use Rattle.round_explorer.specs.declared.question.Failure.{Failure}
use Rattle.round_explorer.specs.declared.question.Question.{Question}
use Rattle.round_explorer.specs.Answers.{with_inputs}
use Rattle.round_explorer.specs.Properties.{HoldsUpTo}
use Rattle.round_explorer.specs.Questions.{AreAsked, IsPattern, IsRow, Messages}
use Rattle.round_explorer.specs.Reached.{end_without}
use Rattle.round_explorer.specs.Searched.{AreInputs, AreSame, Breaks, Case, ComesTo, End, IsEnd}
use Rattle.round_explorer.specs.Searched.{IsEndWithout, IsPart, IsRowOf, IsTrack, IsWhole, Keeps}
use Rattle.round_explorer.specs.Searched.{LeavesEnough, Note, Search, Track, note_of, search_of}
use Rattle.round_explorer.specs.Searched.{Loses, with_note}
use Rattle.round_meaning.proofs.Lists.{filter_map_push, filter_map_skip}
use Rattle.round_explorer.proofs.AllRows.{row_same, stopped_row}
use Rattle.round_explorer.proofs.Following.{end_without_same, states_after_past}
use Rattle.round_explorer.proofs.Holding.{breaks_fails, keeps_holds}
use Rattle.round_explorer.proofs.Lost.{is_omitted-lost}
use Rattle.round_explorer.proofs.Notes.{seen_after_past}
use Rattle.round_explorer.proofs.Parts.{part_is_track, part_more}
use Rattle.round_explorer.proofs.Searching.{holds_none}
use Rattle.run_samples.specs.Found.{AreFaultless, IsFaultless, IsFound, MadeRun}
use Rattle.run_samples.specs.Samples.{AgreeUpTo, EndsWithout, Follows, HoldsBefore, IsFailing}
use Rattle.run_samples.specs.Samples.{IsCaseOf, IsFailingRun, IsHoldingRun, IsToldOf, inbox_with}
use Rattle.run_samples.specs.Samples.{run_of_case}

-- an inbox with one sender more
pub inbox_more : (a : Algorithm) (missed : ℕ → Bool) (before : ℕ → List Value) (r i j : ℕ)
    → missed j ≡ false
    → inbox_with j (a.send r (before j) j i)
    (filter_map (heard a missed before r i) (range_with_len 0 j))
    ≡ filter_map (heard a missed before r i) (range_with_len 0 (j + 1))
inbox_more a missed before r i j heard_it = go (a.send r (before j) j i) refl
  where
    go : (o : Option (List Value)) → a.send r (before j) j i ≡ o
        → inbox_with j o (filter_map (heard a missed before r i) (range_with_len 0 j))
        ≡ filter_map (heard a missed before r i) (range_with_len 0 (j + 1))
    go None e = filter_map_skip (heard a missed before r i) _ j refl
        (cond-false _ _ _ heard_it ∙ ap (received j) e)
    go (Some m) e = filter_map_push (heard a missed before r i) _ _ j
        (record { from = j; message = m }) refl
        (cond-false _ _ _ heard_it ∙ ap (received j) e) refl

pub inbox_less : (a : Algorithm) (missed : ℕ → Bool) (before : ℕ → List Value) (r i j : ℕ)
    → missed j ≡ true
    → filter_map (heard a missed before r i) (range_with_len 0 j)
    ≡ filter_map (heard a missed before r i) (range_with_len 0 (j + 1))
inbox_less a missed before r i j missed_it =
    filter_map_skip (heard a missed before r i) _ j refl (cond-true _ _ _ missed_it)

-- the end of a node, of what it loses, its state and what there is to note
pub ends_by : (w : Search) (before : List (List Value)) (r i : ℕ) (missed : ℕ → Bool)
    (old mid new : Track) (state : List Value) (note : Note)
    → Loses old mid i r w.algorithm.nodes missed
    → state ≡ end_without w.algorithm missed before r i
    → note ≡ note_of w r i (state_in before i) state → new ≡ record {
      lost = mid.lost;
      states = mid.states ++ state ∷ [];
      seen = with_note note mid.seen;
    } → EndsWithout w before r i missed old new
ends_by w before r i missed old mid new state note h is_state is_note e = record {
  end = record { lost = h.more; state = state; note = note };
  is_end = record { lost = h.are_lost; state = is_state; note = is_note };
  is = e ∙ ap (λ (x : Track). record {
    lost = x.lost;
    states = x.states ++ state ∷ [];
    seen = with_note note x.seen;
  }) h.is;
}

-- an end without the nodes of a row is one that the node can come to
is_end : (w : Search) (before : List (List Value)) (r i : ℕ) (missed : ℕ → Bool) (end : End)
    → IsRowOf w r missed → IsEndWithout w before r i missed end → IsEnd w before r i end
is_end w before r i missed end row is =
    let same : AreSame w.algorithm.nodes missed (is_omitted end.lost i r) =
    λ j l. sym (is_omitted-lost end.lost i r w.algorithm.nodes missed j is.lost l) in
    record {
      lost = λ k q j x. let was = is.lost.only k q j x in (was.0, was.1);
      row = row_same w.question w.algorithm.nodes w.pattern r missed
          (is_omitted end.lost i r) same row;
      state = is.state ∙ end_without_same w.algorithm missed
          (is_omitted end.lost i r) before r i same;
      note = is.note;
    }

-- one node more
pub part_next : (w : Search) (run : Track) (r n : ℕ) (missed : ℕ → Bool) (old new : Track)
    → IsTrack w r run → IsRowOf w (r + 1) missed
    → EndsWithout w run.states (r + 1) n missed old new
    → IsPart w run (r + 1) n old → IsPart w run (r + 1) (n + 1) new
part_next w run r n missed old new is row ends h =
    subst (IsPart w run (r + 1) (n + 1)) (sym ends.is)
    (part_more w run (r + 1) n (λ i q j x. let l = is.past i q j x in omega arith) old ends.end h
    (is_end w run.states (r + 1) n missed ends.end row ends.is_end))

-- once all nodes have ended the round
pub part_follows : (w : Search) (run : Track) (r : ℕ) (part : Track) → IsTrack w r run
    → IsPart w run (r + 1) w.algorithm.nodes part → Follows w r run part
part_follows w run r part is h = record {
  is_track = part_is_track w run r is part h;
  same = λ i q j l. sym (h.past i q j (omega arith));
}

module _ (p : ProgramTree) (c : Case) where
  -- what a run up to round k comes to is what any run comes to that omits the same up to it
  comes : (k : ℕ) (track : Track) (omits : Messages) → IsTrack (search_of p c) k track
      → AgreeUpTo k (is_omitted track.lost) omits → ComesTo (search_of p c) omits k track
  comes k track omits is agree = (
    is.states ∙ states_after_past (search_of p c).algorithm (is_omitted track.lost) omits k agree,
    is.seen ∙ seen_after_past (search_of p c) (is_omitted track.lost) omits k agree,
  )

  -- before the first round it holds
  pub holds_begun : (lost : List Omission) → 0 < c.setup.rounds → HoldsBefore p c lost 1
  holds_begun lost some = λ k l omits agree.
      let here : 0 ≡ k = omega arith in
      subst (HoldsUpTo c.property (run_of_case p c omits)) here
      (holds_none c.property (run_of_case p c omits) some)

  -- one round more in which the property is kept
  pub holds_more : (inputs r : ℕ) (old new : Track) → AreInputs c.setup inputs
      → Follows (search_of p c) r old new → Keeps p c c.property inputs (r + 1) new
      → HoldsBefore p c old.lost (r + 1) → HoldsBefore p c new.lost (r + 1 + 1)
  holds_more inputs r old new are f keeps h = λ k l omits agree. go k l omits agree
      (cases_lt k (r + 1))
    where
      go : (k : ℕ) → k < r + 1 + 1 → (omits : Messages) → AgreeUpTo k (is_omitted new.lost) omits
          → (k < r + 1) ⊎ (r + 1 ≤ k) → HoldsUpTo c.property (run_of_case p c omits) k
      go k l omits agree (inl early) =
          h k early omits (λ i q j m. f.same i q j (omega arith) ∙ agree i q j m)
      go k l omits agree (inr late) =
          let here : r + 1 ≡ k = omega arith in
          subst (HoldsUpTo c.property (run_of_case p c omits)) here
          (keeps_holds p c omits inputs (r + 1) new are
          (comes (r + 1) new omits f.is_track (λ i q j m. agree i q j (omega arith)))
          c.property refl keeps)

  whole_row : (k : ℕ) (table : List Omission) (track : Track) → LeavesEnough c
      → IsTrack (search_of p c) k track → IsWhole c k table track → (i q : ℕ) → i < c.setup.nodes
      → 1 ≤ q → q ≤ c.setup.rounds → (k < q) ⊎ (q ≤ k)
      → IsRow c.question c.setup.nodes c.pattern q (is_omitted table i q)
  unfolding algorithm
  whole_row k table track enough is whole i q l begun late (inr early) =
      let same : is_omitted track.lost i q ≡ is_omitted table i q =
      λ t j. (sym (whole.past i q j early)) t in
      subst (IsRow c.question c.setup.nodes c.pattern q) same (is.table i q l begun early)
  whole_row k table track enough is whole i q l begun late (inl later) =
      stopped_row c.question c.setup.nodes c.pattern q c.setup.rounds
      (is_omitted table i q) late enough (λ j jl. (whole.later i q j l jl later late).0)
      (λ j jl. (whole.later i q j l jl later late).1)

  -- a run in which the property isn't kept any more fails in its last round
  pub fails_here : (inputs r : ℕ) (old new : Track) → AreInputs c.setup inputs
      → r + 1 ≤ c.setup.rounds → LeavesEnough c → Follows (search_of p c) r old new
      → Breaks p c c.property inputs (r + 1) new → HoldsBefore p c old.lost (r + 1)
      → IsFailingRun p c (r + 1) new
  fails_here inputs r old new are past enough f breaks h = record {
    enough = enough;
    begun = omega arith;
    past = past;
    is_track = f.is_track;
    fails = λ omits agree. breaks_fails p c omits inputs (r + 1) new are
        (comes (r + 1) new omits f.is_track agree) c.property refl breaks;
    first = λ k l omits agree. h k l omits
        (λ i q j m. f.same i q j (omega arith) ∙ agree i q j m);
  }

  -- and so does what is told of it
  pub fails_told : (r : ℕ) (run : Track) (found : Counterexample) → IsFailingRun p c r run
      → IsToldOf c r run found → IsFailing p c found
  fails_told r run found h told =
      let omits = is_omitted found.omissions in
      let round = told.round in
      let agree : AgreeUpTo r (is_omitted run.lost) omits =
      λ i q j l. sym (told.is_whole.past i q j l) in
      let begun = h.begun in
      let past = h.past in
      record {
        inputs = told.inputs;
        failures = told.failures;
        begun = omega arith;
        past = omega arith;
        table = λ i q l from late. whole_row r found.omissions run h.enough h.is_track
            told.is_whole i q l from late (cases_lt r q);
        fails = λ holds. h.fails omits agree
            (subst (HoldsUpTo c.property (run_of_case p c omits)) round holds);
        first = λ k l. h.first k (omega arith) omits (λ i q j m. agree i q j (omega arith));
      }

-- a run that has gone through all rounds in which the property holds
pub whole_run : (p : ProgramTree) (c : Case) (run : Track)
    → IsTrack (search_of p c) c.setup.rounds run
    → HoldsBefore p c run.lost (c.setup.rounds + 1) → IsHoldingRun p c run
whole_run p c run is h = record {
  is_track = is;
  holds = h c.setup.rounds (omega arith) (is_omitted run.lost) (λ i r j l. refl);
}

-- a case that is asked about is that of the setup, with its own inputs and failures
case_is : (p : ProgramTree) (s : Setup) (question : Question) (asked : AskedInputs)
    (property : Property) (c : Case) (inputs : List ℕ) (pattern : List Failure)
    → IsCaseOf p s question asked property c → inputs ≡ c.setup.inputs → pattern ≡ c.pattern
    → c ≡ record {
      setup = with_inputs s inputs;
      question = question;
      pattern = pattern;
      property = property;
    }
case_is p s question asked property c inputs pattern is same_inputs same_pattern =
    ap (λ (x : Setup). record {
      setup = x;
      question = c.question;
      pattern = c.pattern;
      property = c.property;
    }) (is.is_setup ∙ ap (with_inputs s) (sym same_inputs))
    ∙ ap (λ (x : Question). record {
      setup = with_inputs s inputs;
      question = x;
      pattern = c.pattern;
      property = c.property;
    }) is.is_question
    ∙ ap (λ (x : List Failure). record {
      setup = with_inputs s inputs;
      question = question;
      pattern = x;
      property = c.property;
    }) (sym same_pattern)
    ∙ ap (λ (x : Property). record {
      setup = with_inputs s inputs;
      question = question;
      pattern = pattern;
      property = x;
    }) is.is_property

-- what was made of a whole run of a case
abbrev pub made_of : Case → Track → MadeRun
made_of c run = record {
  inputs = c.setup.inputs;
  pattern = c.pattern;
  omits = is_omitted run.lost;
}

-- a run of a case that is asked about, in which the property holds, is a faultless one
pub faultless_in : (p : ProgramTree) (s : Setup) (question : Question) (asked : AskedInputs)
    (property : Property) (c : Case) (run : Track)
    → IsCaseOf p s question asked property c → IsHoldingRun p c run
    → IsFaultless p s question asked property (made_of c run)
unfolding algorithm
faultless_in p s question asked property c run is h =
    let same = case_is p s question asked property c c.setup.inputs c.pattern is refl refl in
    let here = subst (λ (x : Case). IsHoldingRun p x run) same h in (
      record {
        are_asked = is.are_asked;
        is_pattern = is.is_pattern;
        is_table = here.is_track.table;
      },
      here.holds,
    )

-- one run more
pub one_made : (p : ProgramTree) (s : Setup) (question : Question) (asked : AskedInputs)
    (property : Property) (c : Case) (run : Track) (n : ℕ)
    → IsCaseOf p s question asked property c → IsHoldingRun p c run
    → AreFaultless p s question asked property n → AreFaultless p s question asked property (n + 1)
one_made p s question asked property c run n is h (made, many, all) =
    let more = made_of c run in (
      made ++ more ∷ [],
      length-append made (more ∷ []) ∙ ap (λ k. k + 1) many,
      All-push (IsFaultless p s question asked property) made more all
          (faultless_in p s question asked property c run is h),
    )

-- a failure of a case that is asked about is one that is found
pub found_in : (p : ProgramTree) (s : Setup) (question : Question) (asked : AskedInputs)
    (property : Property) (c : Case) (found : Counterexample)
    → IsCaseOf p s question asked property c → IsFailing p c found
    → IsFound p s question asked property found
found_in p s question asked property c found is failing =
    let same = case_is p s question asked property c found.inputs found.failures.items is
    failing.inputs failing.failures in
    let here = subst (λ (x : Case). IsFailing p x found) same failing in
    record {
      is_asked = record {
        are_asked = subst (AreAsked p.values s asked) (sym failing.inputs) is.are_asked;
        is_pattern = subst (IsPattern question s) (sym failing.failures) is.is_pattern;
        is_table = here.table;
      };
      begun = here.begun;
      past = here.past;
      fails = here.fails;
      first = here.first;
    }
