-- From what going through all runs answers to what the command does.
use Rattle.std.proofs.Common.{◌≡◌, ◌∙◌, ◌⊎◌, ◌++◌, ◌∷◌, ◌<◌, ◌≤◌, ◌+◌, inl, inr, ℕ}
use Rattle.std.proofs.Common.{Bor, List, [], Option, Some, None, ap, arith, false}
use Rattle.std.proofs.Common.{append_assoc, codes, length, length-append, map, refl}
use Rattle.std.proofs.Common.{subst, sym, true}
use Rattle.std.specs.Prelude.{IfSome, filter, is_some, slice_index}
use Rattle.std.specs.Fmt.{decimal}
use Rattle.std.specs.List.{AllZip, range_with_len}
use Rattle.std.specs.Str.Lines.{lines}
use Rattle.std.proofs.lemmas.List.FromFn.{get_or-map-range_with_len}
use Rattle.command_runs.specs.Desks.{WritesTrace}
use Rattle.command_runs.specs.InParts.{IsHeadOf, explored_with, has_details}
use Rattle.command_runs.specs.InRounds.{IsFound, IsMade, IsTrace, ShowsFailure, code_of}
use Rattle.command_runs.specs.InRounds.{outcome_of, shown_by, trace_of}
use Rattle.command_runs.specs.Refused.{IsRefusedCommand}
use Rattle.command_runs.specs.Served.{FindsIn, HasTrace, IsHeader, IsProgramOf, TellsOfAll}
use Rattle.command_runs.specs.Within.{IsExplored}
use Rattle.command_runs.specs.Stages.{HoldsText, WritesText}
use Rattle.command_runs.specs.Texts.{Files}
use Rattle.command_runs.specs.declared.exploring.Explored.{Explored}
use Rattle.command_runs.specs.declared.outcome.Outcome.{Outcome}
use Rattle.command_runs.specs.declared.outcome.Outcome.TheVariants.{Done, No}
use Rattle.command_runs.specs.declared.refusal.Refusal.{Refusal}
use Rattle.command_runs.specs.declared.refusal.Refusal.TheVariants as refusal
use Rattle.command_words.specs.declared.exploring.Exploring.{Exploring}
use Rattle.command_words.specs.declared.forms.AnswerFormat.{AnswerFormat}
use Rattle.command_words.specs.declared.values.Source.{Source}
use Rattle.command_words.specs.declared.words.Words.TheVariants as words
use Rattle.exploration_texts.specs.Lines.{comment_text}
use Rattle.exploration_texts.specs.Stops.{steps_of}
use Rattle.exploration_texts.specs.Told.{IsFirstNo, all_hold}
use Rattle.exploration_texts.specs.declared.told.Told.{Told}
use Rattle.exploration_texts.proofs.Showing.{first_no}
use Rattle.omission_schedules.specs.Schedules.{schedule_with_stops}
use Rattle.omission_schedules.proofs.Same.{schedule_same}
use Rattle.part_answers.specs.Properties.{name_text}
use Rattle.part_answers.specs.declared.property.Property.{Property as PropertyName}
use Rattle.part_answers.specs.declared.property.Property.TheVariants as names
use Rattle.round_explorer.specs.declared.answer.Counterexample.{Counterexample}
use Rattle.round_lang.specs.Syntax.{ProgramTree}
use Rattle.round_meaning.specs.Omissions.{is_omitted}
use Rattle.round_meaning.specs.declared.setup.Setup.{Setup}
use Rattle.schedule_text.specs.Texts.{Says, counts, lines_for, max_text}
use Rattle.schedule_text.specs.Lines.{Tells}
use Rattle.schedule_text.specs.Small.{IsSmall}
use Rattle.schedule_text.proofs.Digits.{digits}
use Rattle.schedule_text.proofs.Split.{is_plain, lines-first, plain-append, plain_digits}
use Rattle.schedule_text.specs.declared.kind.Kind.TheVariants as kinds
use Rattle.run_events.specs.declared.plan_kind.PlanKind.{PlanKind}
use Rattle.run_events.specs.declared.event.Event.{Event}
use Rattle.slot_plans.specs.Named.{receives_of, start_of}

-- ---- the schedule that shows a failure

module _ (receives start : ℕ → ℕ) (s : Setup) (c : Counterexample) (nodes : ℕ) (stops : List ℕ)
    (sized : nodes ≡ s.nodes)
    (stop : stops ≡ map (steps_of nodes start c.round c.failures.items)
    (range_with_len 0 s.nodes)) where
  stops_so : (i : ℕ) → i < s.nodes
      → slice_index stops i ≡ steps_of s.nodes start c.round c.failures.items i
  stops_so i l =
      ap (λ xs. slice_index xs i) stop
      ∙ get_or-map-range_with_len (steps_of nodes start c.round c.failures.items) 0 s.nodes i i 0 l
      (omega arith) ∙ ap (λ n. steps_of n start c.round c.failures.items i) sized

  pub shown_so : schedule_with_stops s.nodes receives start (slice_index stops)
      (is_omitted c.omissions) c.round ≡ shown_by receives start s c
  shown_so =
      schedule_same s.nodes c.round start (slice_index stops)
      (steps_of s.nodes start c.round c.failures.items) (is_omitted c.omissions)
      (is_omitted c.omissions) stops_so (λ i r j a b low high. refl) receives

drops : (line : List ℕ) (ls : List (List ℕ)) → counts line ≡ false
    → filter counts (line ∷ ls) ≡ filter counts ls
drops line ls none = rw none refl

-- a comment before a text changes nothing of what it says
pub says_behind : (comment text whole : List ℕ) (s : Setup) (k : PlanKind) (events : List Event)
    → is_plain comment ≡ true → counts comment ≡ false → whole ≡ comment ++ 10 ∷ text
    → (length text ≤ max_text → Says text s k events) → length whole ≤ max_text
    → Says whole s k events
says_behind comment text whole s k events plain none made says short =
    let same : whole ≡ (comment ++ 10 ∷ []) ++ text =
    made ∙ sym (append_assoc comment (10 ∷ []) text) in
    let first : lines whole ≡ comment ∷ lines text =
    ap lines same ∙ lines-first comment text plain in
    let all : length whole ≡ length comment + length (10 ∷ text) =
    ap length made ∙ length-append comment (10 ∷ text) in
    let few : length text ≤ max_text = omega (arith, all, short) in
    record {
      short = short;
      each = subst (λ ls. AllZip Tells ls (lines_for kinds.Schedule s k events))
          (sym (ap (filter counts) first ∙ drops comment (lines text) none)) (says few).each;
    }

plain_name : (name : PropertyName) → is_plain (codes "# " ++ name_text name
    ++ codes " fails in round ") ≡ true
plain_name names.Agreement = refl
plain_name names.Validity = refl
plain_name names.Final = refl
plain_name names.Termination = refl
plain_name names.Always = refl

pub plain_comment : (name : PropertyName) (round : ℕ) → IsSmall round
    → is_plain (comment_text name round) ≡ true
plain_comment name round small =
    plain-append (codes "# " ++ name_text name ++ codes " fails in round ") (decimal round)
    (plain_name name) (plain_digits (decimal round) (digits round small))

pub comment_drops : (name : PropertyName) (round : ℕ) → counts (comment_text name round) ≡ false
comment_drops name round = refl

-- ---- what is told

module _ (source : Source) (files : Files) (p : ProgramTree) (s : Setup) (k : PlanKind)
    (e : Exploring) (x : Explored) where
  -- what is found under a header that was read is found in its file
  pub finds_in : (file : Option (List ℕ)) → IsProgramOf source files s.nodes s.faults p
      → IfSome file (λ text. IsHeader text s k) → IsExplored p s k e
      → IsFound (receives_of k) (start_of k s.nodes) p s k e x.found
      → IsHeadOf source files s p e x.head → FindsIn source files file e x
  finds_in None is read within h head = tt
  finds_in (Some text) is read within h head = (s, k, p, read, is, within, h, head)

-- a trace that was written is in its file
has_trace : (s : Setup) (k : PlanKind) (name : Option (Bor (List ℕ))) (after : Files)
    (told : List Told) (trace : Option (List ℕ)) → HoldsText after name trace
    → IsTrace (receives_of k) (start_of k s.nodes) s k name told trace
    → HasTrace s k name after told
has_trace s k None after told trace holds is = tt
has_trace s k (Some name) after told None holds is = inl is
has_trace s k (Some name) after told (Some text) holds is = inr (go (after name.now) holds.1)
  where
    go : (held : Option (List ℕ)) → IfSome held (λ bytes. bytes ≡ text)
        → IfSome held (λ bytes. (length bytes ≤ max_text)
        × ShowsFailure (receives_of k) (start_of k s.nodes) s k told bytes)
    go None same = tt
    go (Some bytes) same =
        subst (λ bytes. (length bytes ≤ max_text)
        × ShowsFailure (receives_of k) (start_of k s.nodes) s k told bytes) (sym same)
        (holds.0, is)

-- nothing is known of its file
has_no_file : (s : Setup) (k : PlanKind) (name : Option (Bor (List ℕ))) (told : List Told)
    → HasTrace s k name (λ name. None) told
has_no_file s k None told = tt
has_no_file s k (Some name) told = inr tt

module _ (source : Source) (files : Files) (e : Exploring) (x : Explored) where
  told_with : (file : Option (List ℕ)) (after : Files)
      → ((s : Setup) (k : PlanKind)
      → IsTrace (receives_of k) (start_of k s.nodes) s k e.trace x.found.told.items
      (trace_of x.found) → HasTrace s k e.trace after x.found.told.items)
      → FindsIn source files file e x
      → TellsOfAll source files after file e x.head x.found.told.items
  told_with None after traced h = tt
  told_with (Some text) after traced (s, k, p, read, is, within, h, head) =
      (s, k, p, read, is, within, h.answers, traced s k h.trace, head)

  pub tells_of_all : (file : Option (List ℕ)) (after : Files)
      → HoldsText after e.trace (trace_of x.found) → FindsIn source files file e x
      → TellsOfAll source files after file e x.head x.found.told.items
  tells_of_all file after holds h =
      told_with file after
      (λ s k is. has_trace s k e.trace after x.found.told.items (trace_of x.found) holds is) h

  -- also if nothing is known of the files after it
  pub tells_at_first : (file : Option (List ℕ)) → FindsIn source files file e x
      → TellsOfAll source files (λ name. None) file e x.head x.found.told.items
  tells_at_first file h =
      told_with file (λ name. None) (λ s k is. has_no_file s k e.trace x.found.told.items) h

-- ---- how the command ends

-- where a property fails it doesn't end as where all hold
outcome_not : (told : List Told) → all_hold told ≡ false → No ≡ outcome_of told
outcome_not told h = rw h refl

pub outcome_no : (told : List Told) (name : PropertyName) (c : Counterexample)
    → IsFirstNo told name c → No ≡ outcome_of told
outcome_no told name c h = outcome_not told (first_no told name c h)

outcome_yes : (told : List Told) → all_hold told ≡ true → Done ≡ outcome_of told
outcome_yes told h = rw h refl

-- a trace is made just if one is asked for and a property fails
pub trace_made : (receives start : ℕ → ℕ) (s : Setup) (k : PlanKind)
    (name : Option (Bor (List ℕ))) (told : List Told) (trace : Option (List ℕ))
    → IsTrace receives start s k name told trace → IsMade name told trace
trace_made receives start s k None told trace is = is
trace_made receives start s k (Some name) told None is = is
trace_made receives start s k (Some name) told (Some text) (n, c, first, shown) =
    first_no told n c first

-- and it is written if the command ends so
pub trace_written : (name : Option (Bor (List ℕ))) (told : List Told)
    (trace : Option (List ℕ)) (o : Outcome) (old new : List (List ℕ)) → IsMade name told trace
    → o ≡ outcome_of told → WritesText name trace old new → WritesTrace name o old new
trace_written None told trace o old new is ends wrote = wrote
trace_written (Some name) told None o old new is ends wrote =
    subst (λ x. WritesTrace (Some name) x old new) (outcome_yes told is ∙ sym ends) wrote
trace_written (Some name) told (Some text) o old new is ends wrote =
    subst (λ x. WritesTrace (Some name) x old new) (outcome_not told is ∙ sym ends) wrote

-- why the command is refused
module _ (source : Source) (files : Files) (header : Bor (List ℕ)) (e : Exploring)
    (format : AnswerFormat) where
  -- nothing was written, though there was something to write
  pub explore_unwritten : (x : Explored) (r : Refusal)
      → FindsIn source files (files header.now) e x → is_some x.found.details ≡ has_details e
      → r ≡ refusal.Write → IsRefusedCommand (words.Explore source header e format) files r
  explore_unwritten x r h shown same =
      subst (IsRefusedCommand (words.Explore source header e format) files) (sym same) (inr (
        (λ name. None),
        explored_with format x.head x.found.told.items x.found.details,
        (
          x.head,
          x.found.told.items,
          x.found.details,
          tells_at_first source files e x (files header.now) h,
          shown,
          refl,
        ),
      ))

-- ---- the status

-- no status is that of two outcomes
pub code_same : (a b : Outcome) → code_of a ≡ code_of b → a ≡ b
code_same Done Done h = refl
code_same No No h = refl
code_same Done No h = absurd (omega (arith, h))
code_same No Done h = absurd (omega (arith, h))

pub code_known : (o : Outcome) (n : ℕ) → n ≡ code_of o → (n ≤ 3) ⊎ (n ≡ 5)
code_known Done n h = inl (omega (arith, h))
code_known No n h = inr h

pub code_served : {A : Type 0} (o : Outcome) (n : ℕ) → n ≡ code_of o → 0 < n → n ≤ 3 → A
code_served Done n h some few = absurd (omega (arith, h, some))
code_served No n h some few = absurd (omega (arith, h, few))
