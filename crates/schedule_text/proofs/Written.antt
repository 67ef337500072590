-- What is written is read back.
use Rattle.std.proofs.Common.{◌≡◌, ℕ, ◌+◌, ◌<◌, ◌≤◌, Bool, true, false, cond, eqb, List, [], ◌∷◌}
use Rattle.std.proofs.Common.{◌++◌, length, map, Ok, codes, append_assoc, refl, sym, ap, subst, ◌∙◌}
use Rattle.std.proofs.Common.{arith}
use Rattle.std.specs.Fmt.{decimal}
use Rattle.std.specs.List.{flat_map, AllByRecursion}
use Rattle.std.specs.Str.Lines.{lines}
use Rattle.std.proofs.lemmas.List.{append-nil}
use Rattle.std.proofs.lemmas.List.Concat.{flat_map-append}
use Rattle.std.proofs.lemmas.List.Folds.{flat_map-map}
use Rattle.std.proofs.lemmas.List.Elements.{recursion_from_All}
use Rattle.round_meaning.specs.declared.setup.Setup.{Setup}
use Rattle.run_events.specs.declared.plan_kind.PlanKind.{PlanKind}
use Rattle.run_events.specs.declared.plan_kind.PlanKind.TheVariants.{Known, Growing}
use Rattle.run_events.specs.declared.event.Event.{Event}
use Rattle.run_events.specs.declared.event.Event.TheVariants.{Step, Release, Drop, Copy}
use Rattle.run_events.specs.declared.name.Name.{Name}
use Rattle.schedule_text.specs.declared.draft.Stage.TheVariants.{Nodes, Faults, Inputs, Rounds}
use Rattle.schedule_text.specs.declared.draft.Stage.TheVariants.{Whole}
use Rattle.schedule_text.specs.declared.kind.Kind.TheVariants.{Schedule}
use Rattle.schedule_text.specs.Small.{IsSmall, IsSmallPlan, IsSmallName, IsSmallEvent, IsSmallSetup}
use Rattle.schedule_text.specs.Readings.{Answer, IsReading}
use Rattle.schedule_text.specs.Texts.{Says, max_text}
use Rattle.schedule_text.specs.Stages.{State, start, after, one_after, inputs_of, plan_of, event_of}
use Rattle.schedule_text.specs.Stages.{mapped, line_step, go_on, from_line, sizes_of}
use Rattle.schedule_text.specs.Writing.{number_line, inputs_line, plan_line, name_line, copy_ending}
use Rattle.schedule_text.specs.Writing.{event_line, line_text, header_lines, text_of}
use Rattle.schedule_text.proofs.Digits.{digits, one_read, values_read, name_read, whole_name_read}
use Rattle.schedule_text.proofs.Split.{is_plain, plain-append, plain_digits, lines-text}
use Rattle.schedule_text.proofs.Sound.{short_sound}

plain_number : (n : ℕ) → IsSmall n → is_plain (decimal n) ≡ true
plain_number n small = plain_digits (decimal n) (digits n small)

plain_values : (vs : List ℕ) → AllByRecursion IsSmall vs
    → is_plain (flat_map (λ v. 32 ∷ decimal v) vs) ≡ true
plain_values [] h = refl
plain_values (v ∷ vs) h = plain-append (32 ∷ decimal v) (flat_map (λ v. 32 ∷ decimal v) vs)
    (plain_number v h.0) (plain_values vs h.1)

plain_plan : (p : PlanKind) → IsSmallPlan p → is_plain (plan_line p) ≡ true
plain_plan (Known d) h = plain_number d h
plain_plan Growing h = refl

plain_name : (start : List ℕ) (m : Name) → is_plain start ≡ true → IsSmallName m
    → is_plain (name_line start m) ≡ true
plain_name start m plain h =
    let from = plain-append start (decimal m.from) plain (plain_number m.from h.0) in
    let to = plain-append ((start ++ decimal m.from) ++ 32 ∷ []) (decimal m.to)
    (plain-append (start ++ decimal m.from) (32 ∷ []) from refl) (plain_number m.to h.1) in
    plain-append ((((start ++ decimal m.from) ++ 32 ∷ []) ++ decimal m.to) ++ 32 ∷ [])
    (decimal m.round) (plain-append (((start ++ decimal m.from) ++ 32 ∷ []) ++ decimal m.to)
    (32 ∷ []) to refl) (plain_number m.round h.2)

plain_ending : (n : ℕ) → IsSmall n → is_plain (copy_ending n) ≡ true
plain_ending n h = go (eqb n 0)
  where
    go : (b : Bool) → is_plain (cond b [] (32 ∷ decimal n)) ≡ true
    go true = refl
    go false = plain_number n h

plain_event : (e : Event) → IsSmallEvent e → is_plain (event_line e) ≡ true
plain_event (Step i) h = plain_number i h
plain_event (Release m) h =
    plain-append (name_line (codes "release ") m) (copy_ending m.copy)
    (plain_name (codes "release ") m refl h) (plain_ending m.copy h.3)
plain_event (Drop m) h =
    plain-append (name_line (codes "drop ") m) (copy_ending m.copy)
    (plain_name (codes "drop ") m refl h) (plain_ending m.copy h.3)
plain_event (Copy m) h =
    plain-append (name_line (codes "copy ") m) (32 ∷ decimal m.copy)
    (plain_name (codes "copy ") m refl h) (plain_number m.copy h.3)

plain_events : (es : List Event) → AllByRecursion IsSmallEvent es
    → AllByRecursion (λ l. is_plain l ≡ true) (map event_line es)
plain_events [] h = tt
plain_events (e ∷ es) h = (plain_event e h.0, plain_events es h.1)

-- each line, read at its stage
nodes_read : (n : ℕ) → IsSmall n
    → line_step Schedule start (number_line (codes "nodes ") n)
    ≡ Ok (record { stage = Nodes n; inputs = []; events = []; stops = [] })
unfolding line_step one_after after
nodes_read n h = ap (λ r. mapped (λ n. record start { stage = Nodes n }) r) (one_read n h)

faults_read : (n t : ℕ) → IsSmall t
    → line_step Schedule (record { stage = Nodes n; inputs = []; events = []; stops = [] })
    (number_line (codes "faults ") t)
    ≡ Ok (record { stage = Faults n t; inputs = []; events = []; stops = [] })
unfolding line_step one_after after
faults_read n t h = ap (λ r. mapped (λ t. record start { stage = Faults n t }) r) (one_read t h)

inputs_read : (n t : ℕ) (vs : List ℕ) → 0 < length vs → AllByRecursion IsSmall vs
    → line_step Schedule (record { stage = Faults n t; inputs = []; events = []; stops = [] })
    (inputs_line vs) ≡ Ok (record { stage = Inputs n t; inputs = vs; events = []; stops = [] })
unfolding line_step inputs_of after
inputs_read n t [] lt h = absurd (omega (arith, lt))
inputs_read n t (v ∷ vs) lt h =
    ap (λ r. mapped (λ vs. record start { stage = Inputs n t; inputs = vs }) r) (values_read v vs h)

rounds_read : (n t r : ℕ) (vs : List ℕ) → IsSmall r
    → line_step Schedule (record { stage = Inputs n t; inputs = vs; events = []; stops = [] })
    (number_line (codes "rounds ") r)
    ≡ Ok (record { stage = Rounds (sizes_of n t r); inputs = vs; events = []; stops = [] })
unfolding line_step one_after after
rounds_read n t r vs h =
    ap (λ x. mapped (λ r. record start { stage = Rounds (sizes_of n t r); inputs = vs }) x)
    (one_read r h)

plan_read : (n t r : ℕ) (vs : List ℕ) (p : PlanKind) → IsSmallPlan p
    → line_step Schedule
    (record { stage = Rounds (sizes_of n t r); inputs = vs; events = []; stops = [] }) (plan_line p)
    ≡ Ok (record { stage = Whole (sizes_of n t r) p; inputs = vs; events = []; stops = [] })
unfolding line_step plan_of one_after after
plan_read n t r vs (Known d) h =
    ap (λ x. mapped (λ p. record start { stage = Whole (sizes_of n t r) p; inputs = vs })
    (mapped (λ d. Known d) x)) (one_read d h)
plan_read n t r vs Growing h = refl

module _ (n t r : ℕ) (vs : List ℕ) (p : PlanKind) where
  abbrev whole : List Event → State
  whole es = record { stage = Whole (sizes_of n t r) p; inputs = vs; events = es; stops = [] }

  event_read : (seen : List Event) (e : Event) → IsSmallEvent e
      → line_step Schedule (whole seen) (event_line e) ≡ Ok (whole (seen ++ e ∷ []))
  unfolding line_step event_of after
  event_read seen (Step i) h =
      ap (λ x. mapped (λ e. whole (seen ++ e ∷ [])) (mapped (λ i. Step i) x)) (one_read i h)
  event_read seen (Release m) h =
      ap (λ x. mapped (λ e. whole (seen ++ e ∷ [])) (mapped (λ m. Release m) x)) (name_read m h)
  event_read seen (Drop m) h =
      ap (λ x. mapped (λ e. whole (seen ++ e ∷ [])) (mapped (λ m. Drop m) x)) (name_read m h)
  event_read seen (Copy m) h =
      ap (λ x. mapped (λ e. whole (seen ++ e ∷ [])) (mapped (λ m. Copy m) x)) (whole_name_read m h)

  events_read : (seen es : List Event) (k : ℕ) → AllByRecursion IsSmallEvent es
      → from_line Schedule k (whole seen) (map event_line es)
      ≡ Ok (record { nodes = n; faults = t; inputs = vs; rounds = r }, p, seen ++ es)
  unfolding from_line
  events_read seen [] k h =
      ap (λ (l : List Event). Ok (record { nodes = n; faults = t; inputs = vs; rounds = r }, p, l))
      (sym (append-nil seen))
  events_read seen (e ∷ es) k h =
      let joined : (seen ++ e ∷ []) ++ es ≡ seen ++ (e ∷ es) = simp append_assoc in
      ap (λ x. go_on k x (λ s. from_line Schedule (k + 1) s (map event_line es)))
      (event_read seen e h.0) ∙ events_read (seen ++ e ∷ []) es (k + 1) h.1
      ∙ ap (λ (l : List Event). Ok (
        record { nodes = n; faults = t; inputs = vs; rounds = r },
        p,
        l,
      )) joined

module _ (s : Setup) (p : PlanKind) (es : List Event) (some : 0 < length s.inputs)
    (small : IsSmallSetup s) (small_plan : IsSmallPlan p)
    (small_events : AllByRecursion IsSmallEvent es) where
  all_lines : List (List ℕ)
  all_lines = header_lines s p ++ map event_line es

  inputs_small : AllByRecursion IsSmall s.inputs
  inputs_small = recursion_from_All IsSmall s.inputs small.inputs

  text_is : text_of s p es ≡ flat_map line_text all_lines
  unfolding text_of all_lines
  text_is = ap (λ x. flat_map line_text (header_lines s p) ++ x)
      (sym (flat_map-map line_text event_line es))
      ∙ sym (flat_map-append line_text (header_lines s p) (map event_line es))

  lines_are : lines (text_of s p es) ≡ all_lines
  unfolding all_lines
  lines_are =
      ap lines text_is ∙ lines-text all_lines (
        plain_number s.nodes small.nodes,
        (
          plain_number s.faults small.faults,
          (
            plain_values s.inputs inputs_small,
            (
              plain_number s.rounds small.rounds,
              (plain_plan p small_plan, plain_events es small_events),
            ),
          ),
        ),
      )

  lines_read : from_line Schedule 1 start all_lines ≡ Ok (s, p, es)
  unfolding from_line all_lines
  lines_read =
      let a = nodes_read s.nodes small.nodes in
      let b = faults_read s.nodes s.faults small.faults in
      let c = inputs_read s.nodes s.faults s.inputs some inputs_small in
      let d = rounds_read s.nodes s.faults s.rounds s.inputs small.rounds in
      let e = plan_read s.nodes s.faults s.rounds s.inputs p small_plan in
      rw (a, b, c, d, e) (events_read s.nodes s.faults s.rounds s.inputs p [] es 6 small_events)

  pub read_back : length (text_of s p es) ≤ max_text → Says (text_of s p es) s p es
  read_back le = subst (λ (a : Answer). IsReading (text_of s p es) a)
      (ap (from_line Schedule 1 start) lines_are ∙ lines_read)
      (short_sound Schedule (text_of s p es) le)

-- the bytes of the parts, one after the other
pub spelled_as : (s : Setup) (p : PlanKind) (es : List Event) (none header all : List ℕ) → none ≡ []
    → header ≡ none ++ flat_map line_text (header_lines s p)
    → all ≡ header ++ flat_map (λ e. line_text (event_line e)) es → all ≡ text_of s p es
unfolding text_of
spelled_as s p es none header all e h a = a
    ∙ ap (λ x. x ++ flat_map (λ e. line_text (event_line e)) es) (h
    ∙ ap (λ x. x ++ flat_map line_text (header_lines s p)) e)
