-- What is read of a line at its place is what its form says.
use Rattle.std.proofs.Common.{◌≡◌, ℕ, ◌<◌, leb, Bool, true, false, cond, List, [], ◌∷◌, ◌++◌}
use Rattle.std.proofs.Common.{length, Option, Some, None, Result, Ok, Err, codes, ◌⊎◌, inl, inr}
use Rattle.std.proofs.Common.{refl, sym, ap, subst, ◌∙◌, arith}
use Rattle.std.specs.Prelude.{option_and_then}
use Rattle.std.specs.List.{AllZip, join_with_byte, list_all}
use Rattle.std.specs.Str.{bytes_eq}
use Rattle.std.proofs.lemmas.Slice.Eq.{bytes_eq-Decides}
use Rattle.std.proofs.lemmas.List.Splits.{join_with_byte-slice_split}
use Rattle.run_events.specs.declared.plan_kind.PlanKind.{PlanKind}
use Rattle.run_events.specs.declared.plan_kind.PlanKind.TheVariants.{Known, Growing}
use Rattle.run_events.specs.declared.event.Event.{Event}
use Rattle.run_events.specs.declared.event.Event.TheVariants.{Step, Release, Drop, Copy}
use Rattle.run_events.specs.declared.name.Name.{Name}
use Rattle.schedule_text.specs.declared.fault.LineFault.{LineFault}
use Rattle.schedule_text.specs.declared.fault.LineFault.TheVariants as line
use Rattle.schedule_text.specs.declared.pace.Pace.{Pace}
use Rattle.schedule_text.specs.declared.pace.Pace.TheVariants.{Free, Ticks}
use Rattle.schedule_text.specs.declared.pace.Stop.{Stop}
use Rattle.schedule_text.specs.Numbers.{IsNumeral, max_number, words_of}
use Rattle.schedule_text.specs.Lines.{Line, nodes, faults, inputs, rounds, plan, event, pace, stop}
use Rattle.schedule_text.specs.Lines.{first_words, name_numbers, numbers_of, AreNumerals}
use Rattle.schedule_text.specs.Lines.{IsOriginal, HasValue, HasForm}
use Rattle.schedule_text.specs.Stages.{after, all_of, behind, copy_of, drop_of, event_of, inputs_of}
use Rattle.schedule_text.specs.Stages.{mapped, name_of, numbers_in, one_after, one_of, pace_of}
use Rattle.schedule_text.specs.Stages.{plan_of, release_of, sized, sized_name, step_of, stop_in}
use Rattle.schedule_text.specs.Stages.{stop_of, whole_name_of}
use Rattle.schedule_text.proofs.FirstLines.{after_parts}
use Rattle.schedule_text.proofs.Words.{numbers_said, rest_read, some_numbers}

-- the places of the header and behind it, and the one where no line may stand
pub data Place : Type 0 where
  at_nodes : Place
  at_faults : Place
  at_inputs : Place
  at_rounds : Place
  at_plan : Place
  at_event : Place
  at_pace : Place
  at_stop : Place
  at_end : Place

-- where such a line stands
abbrev pub stands_at : Line → Place
stands_at (nodes n) = at_nodes
stands_at (faults t) = at_faults
stands_at (inputs vs) = at_inputs
stands_at (rounds r) = at_rounds
stands_at (plan p) = at_plan
stands_at (event e) = at_event
stands_at (pace p) = at_pace
stands_at (stop s) = at_stop

-- what is read of a line there
abbrev pub line_of : Place → List ℕ → Result Line LineFault
line_of at_nodes l = mapped (λ n. nodes n) (one_after (codes "nodes ") l)
line_of at_faults l = mapped (λ t. faults t) (one_after (codes "faults ") l)
line_of at_inputs l = mapped (λ vs. inputs vs) (inputs_of l)
line_of at_rounds l = mapped (λ r. rounds r) (one_after (codes "rounds ") l)
line_of at_plan l = mapped (λ p. plan p) (plan_of l)
line_of at_event l = mapped (λ e. event e) (event_of l)
line_of at_pace l = mapped (λ x. pace x) (pace_of l)
line_of at_stop l = mapped (λ c. stop c) (stop_of l)
line_of at_end l = Err line.Bad

-- the answer is that the line is bad, or it has a form and the size of its numbers decides
abbrev pub Formed : Place → List ℕ → Result Line LineFault → Type 0
Formed p l r = (r ≡ Err line.Bad)
    ⊎ ((x : Line) × HasForm l x × (stands_at x ≡ p) × (r ≡ sized (numbers_of x) x))

cond_mapped : {A B : Type 0} (f : A → B) (x : A) (b : Bool)
    → mapped f (cond b (Ok x) (Err line.Large)) ≡ cond b (Ok (f x)) (Err line.Large)
cond_mapped f x true = refl
cond_mapped f x false = refl

mapped-sized : {A B : Type 0} (f : A → B) (vs : List ℕ) (x : A)
    → mapped f (sized vs x) ≡ sized vs (f x)
mapped-sized f vs x = cond_mapped f x (list_all (λ v. leb v max_number) vs)

-- a line of just these first words and numbers, and what is picked is it, if its numbers are small
pub record Picked (p : Place) (first : List (List ℕ)) (vs : List ℕ) (r : Result Line LineFault)
    (x : Line) : Type 0 where
  pub first_is : first_words x ≡ first
  pub numerals : (ws : List (List ℕ)) → AllZip IsNumeral ws vs → AreNumerals ws x
  pub some : HasValue x
  pub place : stands_at x ≡ p
  pub read : r ≡ sized (numbers_of x) x

-- what is picked of the numbers behind first words: nothing, or such a line
pub record Picks (p : Place) (first : List (List ℕ)) (pick : Option (List ℕ)
    → Result Line LineFault) : Type 0 where
  pub none : pick None ≡ Err line.Bad
  pub some : (vs : List ℕ) → 0 < length vs
      → (pick (Some vs) ≡ Err line.Bad) ⊎ ((x : Line) × Picked p first vs (pick (Some vs)) x)

module _ (p : Place) (start : List ℕ) (first : List (List ℕ)) (splits : (r : List ℕ)
    → words_of (start ++ r) ≡ first ++ words_of r) (pick : Option (List ℕ)
    → Result Line LineFault) (picks : Picks p first pick) where
  -- of numbers behind these first bytes
  formed_behind : (l r : List ℕ) → l ≡ start ++ r → Formed p l (pick (numbers_in r))
  formed_behind l r whole = go (numbers_in r) refl
    where
      told : (vs : List ℕ) → numbers_in r ≡ Some vs
          → (pick (Some vs) ≡ Err line.Bad) ⊎ ((x : Line) × Picked p first vs (pick (Some vs)) x)
          → Formed p l (pick (Some vs))
      told vs e (inl bad) = inl bad
      told vs e (inr h) = inr (
        h.0,
        record {
          numerals = words_of r;
          words = ap words_of whole ∙ splits r ∙ ap (λ ws. ws ++ words_of r) (sym h.1.first_is);
          numbers = h.1.numerals (words_of r) (numbers_said r vs e);
          some = h.1.some;
        },
        h.1.place,
        h.1.read,
      )

      go : (o : Option (List ℕ)) → numbers_in r ≡ o → Formed p l (pick o)
      go None e = inl picks.none
      go (Some vs) e = told vs e (picks.some vs (some_numbers r vs e))

  -- of a line, looking for them
  formed_after : (l : List ℕ) → Formed p l (pick (option_and_then numbers_in (after start l)))
  formed_after l = go (after start l) refl
    where
      go : (o : Option (List ℕ)) → after start l ≡ o
          → Formed p l (pick (option_and_then numbers_in o))
      go None e = inl picks.none
      go (Some r) e = formed_behind l r (after_parts start l r e)

-- one number and no more
one_picked : (p : Place) (first : List (List ℕ)) (f : ℕ → Line)
    → ((n : ℕ) → Picked p first (n ∷ []) (sized (n ∷ []) (f n)) (f n))
    → Picks p first (λ o. mapped f (one_of o))
one_picked p first f says = record { none = refl; some = some }
  where
    some : (vs : List ℕ) → 0 < length vs → (mapped f (one_of (Some vs)) ≡ Err line.Bad)
        ⊎ ((x : Line) × Picked p first vs (mapped f (one_of (Some vs))) x)
    some [] lt = inl refl
    some (n ∷ []) lt =
        let s = says n in
        inr (
          f n,
          record {
            first_is = s.first_is;
            numerals = s.numerals;
            some = s.some;
            place = s.place;
            read = mapped-sized f (n ∷ []) n ∙ s.read;
          },
        )
    some (n ∷ m ∷ vs) lt = inl refl

nodes_formed : (l : List ℕ) → Formed at_nodes l (line_of at_nodes l)
unfolding one_after
nodes_formed l = formed_after at_nodes (codes "nodes ") (codes "nodes" ∷ []) (λ r. refl)
    (λ o. mapped (λ n. nodes n) (one_of o))
    (one_picked at_nodes (codes "nodes" ∷ []) (λ n. nodes n)
    (λ n. record { first_is = refl; numerals = λ ws h. h; some = tt; place = refl; read = refl })) l

faults_formed : (l : List ℕ) → Formed at_faults l (line_of at_faults l)
unfolding one_after
faults_formed l = formed_after at_faults (codes "faults ") (codes "faults" ∷ []) (λ r. refl)
    (λ o. mapped (λ n. faults n) (one_of o))
    (one_picked at_faults (codes "faults" ∷ []) (λ n. faults n)
    (λ n. record { first_is = refl; numerals = λ ws h. h; some = tt; place = refl; read = refl })) l

rounds_formed : (l : List ℕ) → Formed at_rounds l (line_of at_rounds l)
unfolding one_after
rounds_formed l = formed_after at_rounds (codes "rounds ") (codes "rounds" ∷ []) (λ r. refl)
    (λ o. mapped (λ n. rounds n) (one_of o))
    (one_picked at_rounds (codes "rounds" ∷ []) (λ n. rounds n)
    (λ n. record { first_is = refl; numerals = λ ws h. h; some = tt; place = refl; read = refl })) l

inputs_formed : (l : List ℕ) → Formed at_inputs l (line_of at_inputs l)
unfolding inputs_of
inputs_formed l =
    formed_after at_inputs (codes "inputs ") (codes "inputs" ∷ []) (λ r. refl)
    (λ o. mapped (λ vs. inputs vs) (all_of o))
    (record {
      none = refl;
      some = λ vs lt. inr (
        inputs vs,
        record {
          first_is = refl;
          numerals = λ ws h. h;
          some = lt;
          place = refl;
          read = mapped-sized (λ vs. inputs vs) vs vs;
        },
      );
    }) l

mapped-mapped : {A B C : Type 0} (g : B → C) (f : A → B) (r : Result A LineFault)
    → mapped g (mapped f r) ≡ mapped (λ x. g (f x)) r
mapped-mapped g f (Ok x) = refl
mapped-mapped g f (Err e) = refl

known_formed : (l : List ℕ)
    → Formed at_plan l
    (mapped (λ p. plan p) (mapped (λ d. Known d) (one_after (codes "plan known ") l)))
unfolding one_after
known_formed l =
    subst (λ (r : Result Line LineFault). Formed at_plan l r)
    (sym (mapped-mapped (λ p. plan p) (λ d. Known d) (one_after (codes "plan known ") l)))
    (formed_after at_plan (codes "plan known ") (codes "plan" ∷ codes "known" ∷ []) (λ r. refl)
    (λ o. mapped (λ n. plan (Known n)) (one_of o))
    (one_picked at_plan (codes "plan" ∷ codes "known" ∷ []) (λ n. plan (Known n))
    (λ n. record {
      first_is = refl;
      numerals = λ ws h. h;
      some = tt;
      place = refl;
      read = refl;
    })) l)

plan_formed : (l : List ℕ) → Formed at_plan l (line_of at_plan l)
unfolding plan_of
plan_formed l = go (bytes_eq l (codes "plan growing")) refl
  where
    go : (b : Bool) → bytes_eq l (codes "plan growing") ≡ b
        → Formed at_plan l
        (mapped (λ p. plan p)
        (cond b (Ok Growing) (mapped (λ d. Known d) (one_after (codes "plan known ") l))))
    go true is =
        inr (
          plan Growing,
          record {
            numerals = [];
            words = ap words_of ((bytes_eq-Decides l (codes "plan growing")).0 is);
            numbers = tt;
            some = tt;
          },
          refl,
          refl,
        )
    go false is = known_formed l

step_formed : (l r : List ℕ) → l ≡ codes "step " ++ r
    → Formed at_event l (mapped (λ e. event e) (step_of (numbers_in r)))
step_formed l r whole =
    subst (λ (a : Result Line LineFault). Formed at_event l a)
    (sym (mapped-mapped (λ e. event e) (λ i. Step i) (one_of (numbers_in r))))
    (formed_behind at_event (codes "step ") (codes "step" ∷ []) (λ r. refl)
    (λ o. mapped (λ i. event (Step i)) (one_of o))
    (one_picked at_event (codes "step" ∷ []) (λ i. event (Step i))
    (λ i. record {
      first_is = refl;
      numerals = λ ws h. h;
      some = tt;
      place = refl;
      read = refl;
    })) l r whole)

-- the name of a message, with its copy or without
module _ (first : List (List ℕ)) (f : Name → Line) (first_is : (m : Name)
    → first_words (f m) ≡ first) (numbers_is : (m : Name)
    → numbers_of (f m) ≡ name_numbers m) (some_is : (m : Name)
    → HasValue (f m)) (place_is : (m : Name) → stands_at (f m) ≡ at_event) where
  picked : (m : Name) (vs : List ℕ)
      → ((ws : List (List ℕ)) → AllZip IsNumeral ws vs → AreNumerals ws (f m))
      → Picked at_event first vs (mapped f (sized (name_numbers m) m)) (f m)
  picked m vs numerals = record {
    first_is = first_is m;
    numerals = numerals;
    some = some_is m;
    place = place_is m;
    read = mapped-sized f (name_numbers m) m ∙ ap (λ ns. sized ns (f m)) (sym (numbers_is m));
  }

  abbrev Whole : Type 0
  Whole = (m : Name) (ws : List (List ℕ)) → AllZip IsNumeral ws (name_numbers m)
      → AreNumerals ws (f m)

  abbrev Short : Type 0
  Short = (m : Name) (ws : List (List ℕ)) → m.copy ≡ 0
      → AllZip IsNumeral ws (m.from ∷ m.to ∷ m.round ∷ []) → AreNumerals ws (f m)

  name_picked : Whole → Short → Picks at_event first (λ o. mapped f (name_of o))
  name_picked whole short = record { none = refl; some = some }
    where
      some : (vs : List ℕ) → 0 < length vs → (mapped f (name_of (Some vs)) ≡ Err line.Bad)
          ⊎ ((x : Line) × Picked at_event first vs (mapped f (name_of (Some vs))) x)
      some [] lt = inl refl
      some (j ∷ []) lt = inl refl
      some (j ∷ i ∷ []) lt = inl refl
      some (j ∷ i ∷ r ∷ []) lt =
          let m : Name = record { from = j; to = i; round = r; copy = 0 } in
          inr (f m, picked m (j ∷ i ∷ r ∷ []) (λ ws h. short m ws refl h))
      some (j ∷ i ∷ r ∷ y ∷ []) lt =
          let m : Name = record { from = j; to = i; round = r; copy = y } in
          inr (f m, picked m (j ∷ i ∷ r ∷ y ∷ []) (whole m))
      some (j ∷ i ∷ r ∷ y ∷ v ∷ vs) lt = inl refl

  whole_name_picked : Whole → Picks at_event first (λ o. mapped f (whole_name_of o))
  whole_name_picked whole = record { none = refl; some = some }
    where
      some : (vs : List ℕ) → 0 < length vs → (mapped f (whole_name_of (Some vs)) ≡ Err line.Bad)
          ⊎ ((x : Line) × Picked at_event first vs (mapped f (whole_name_of (Some vs))) x)
      some [] lt = inl refl
      some (j ∷ []) lt = inl refl
      some (j ∷ i ∷ []) lt = inl refl
      some (j ∷ i ∷ r ∷ []) lt = inl refl
      some (j ∷ i ∷ r ∷ y ∷ []) lt =
          let m : Name = record { from = j; to = i; round = r; copy = y } in
          inr (f m, picked m (j ∷ i ∷ r ∷ y ∷ []) (whole m))
      some (j ∷ i ∷ r ∷ y ∷ v ∷ vs) lt = inl refl

release_formed : (l r : List ℕ) → l ≡ codes "release " ++ r
    → Formed at_event l (mapped (λ e. event e) (release_of (numbers_in r)))
release_formed l r whole =
    subst (λ (a : Result Line LineFault). Formed at_event l a)
    (sym (mapped-mapped (λ e. event e) (λ m. Release m) (name_of (numbers_in r))))
    (formed_behind at_event (codes "release ") (codes "release" ∷ []) (λ r. refl)
    (λ o. mapped (λ m. event (Release m)) (name_of o))
    (name_picked (codes "release" ∷ []) (λ m. event (Release m)) (λ m. refl) (λ m. refl)
    (λ m. tt) (λ m. refl) (λ m ws h. inl h) (λ m ws none h. inr (none, h))) l r whole)

drop_formed : (l r : List ℕ) → l ≡ codes "drop " ++ r
    → Formed at_event l (mapped (λ e. event e) (drop_of (numbers_in r)))
drop_formed l r whole =
    subst (λ (a : Result Line LineFault). Formed at_event l a)
    (sym (mapped-mapped (λ e. event e) (λ m. Drop m) (name_of (numbers_in r))))
    (formed_behind at_event (codes "drop ") (codes "drop" ∷ []) (λ r. refl)
    (λ o. mapped (λ m. event (Drop m)) (name_of o))
    (name_picked (codes "drop" ∷ []) (λ m. event (Drop m)) (λ m. refl) (λ m. refl) (λ m. tt)
    (λ m. refl) (λ m ws h. inl h) (λ m ws none h. inr (none, h))) l r whole)

copy_formed : (l r : List ℕ) → l ≡ codes "copy " ++ r
    → Formed at_event l (mapped (λ e. event e) (copy_of (numbers_in r)))
copy_formed l r whole =
    subst (λ (a : Result Line LineFault). Formed at_event l a)
    (sym (mapped-mapped (λ e. event e) (λ m. Copy m) (whole_name_of (numbers_in r))))
    (formed_behind at_event (codes "copy ") (codes "copy" ∷ []) (λ r. refl)
    (λ o. mapped (λ m. event (Copy m)) (whole_name_of o))
    (whole_name_picked (codes "copy" ∷ []) (λ m. event (Copy m)) (λ m. refl) (λ m. refl)
    (λ m. tt) (λ m. refl) (λ m ws h. h)) l r whole)

-- behind a beginning, or else
behind_formed : (start l : List ℕ) (read : Option (List ℕ)
    → Result Event LineFault) (other : Result Event LineFault)
    → ((r : List ℕ) → l ≡ start ++ r
    → Formed at_event l (mapped (λ e. event e) (read (numbers_in r))))
    → Formed at_event l (mapped (λ e. event e) other)
    → Formed at_event l (mapped (λ e. event e) (behind (after start l) read other))
behind_formed start l read other here there = go (after start l) refl
  where
    go : (o : Option (List ℕ)) → after start l ≡ o
        → Formed at_event l (mapped (λ e. event e) (behind o read other))
    go (Some r) e = here r (after_parts start l r e)
    go None e = there

event_formed : (l : List ℕ) → Formed at_event l (line_of at_event l)
unfolding event_of
event_formed l =
    let copy = behind_formed (codes "copy ") l copy_of (Err line.Bad) (copy_formed l) (inl refl) in
    let drop = behind_formed (codes "drop ") l drop_of
    (behind (after (codes "copy ") l) copy_of (Err line.Bad)) (drop_formed l) copy in
    let release = behind_formed (codes "release ") l release_of
    (behind (after (codes "drop ") l) drop_of
    (behind (after (codes "copy ") l) copy_of (Err line.Bad))) (release_formed l) drop in
    behind_formed (codes "step ") l step_of
    (behind (after (codes "release ") l) release_of
    (behind (after (codes "drop ") l) drop_of
    (behind (after (codes "copy ") l) copy_of (Err line.Bad)))) (step_formed l) release

pace_formed : (l : List ℕ) → Formed at_pace l (line_of at_pace l)
unfolding pace_of
pace_formed l = free (bytes_eq l (codes "pace free")) refl
  where
    ticks : (b : Bool) → bytes_eq l (codes "pace ticks") ≡ b
        → Formed at_pace l (mapped (λ x. pace x) (cond b (Ok Ticks) (Err line.Bad)))
    ticks true is =
        inr (
          pace Ticks,
          record {
            numerals = [];
            words = ap words_of ((bytes_eq-Decides l (codes "pace ticks")).0 is);
            numbers = tt;
            some = tt;
          },
          refl,
          refl,
        )
    ticks false is = inl refl

    free : (b : Bool) → bytes_eq l (codes "pace free") ≡ b
        → Formed at_pace l
        (mapped (λ x. pace x)
        (cond b (Ok Free) (cond (bytes_eq l (codes "pace ticks")) (Ok Ticks) (Err line.Bad))))
    free true is =
        inr (
          pace Free,
          record {
            numerals = [];
            words = ap words_of ((bytes_eq-Decides l (codes "pace free")).0 is);
            numbers = tt;
            some = tt;
          },
          refl,
          refl,
        )
    free false is = ticks (bytes_eq l (codes "pace ticks")) refl

-- two numbers and no more
stop_picked : Picks at_stop (codes "stop" ∷ []) (λ o. mapped (λ c. stop c) (stop_in o))
stop_picked = record { none = refl; some = some }
  where
    some : (vs : List ℕ) → 0 < length vs → (mapped (λ c. stop c) (stop_in (Some vs)) ≡ Err line.Bad)
        ⊎ ((x : Line) × Picked at_stop (codes "stop" ∷ []) vs
        (mapped (λ c. stop c) (stop_in (Some vs))) x)
    some [] lt = inl refl
    some (i ∷ []) lt = inl refl
    some (i ∷ c ∷ []) lt =
        let s : Stop = record { node = i; steps = c } in
        inr (
          stop s,
          record {
            first_is = refl;
            numerals = λ ws h. h;
            some = tt;
            place = refl;
            read = mapped-sized (λ c. stop c) (i ∷ c ∷ []) s;
          },
        )
    some (i ∷ c ∷ v ∷ vs) lt = inl refl

stop_formed : (l : List ℕ) → Formed at_stop l (line_of at_stop l)
unfolding stop_of
stop_formed l = formed_after at_stop (codes "stop ") (codes "stop" ∷ []) (λ r. refl)
    (λ o. mapped (λ c. stop c) (stop_in o)) stop_picked l

-- what is read of a line at its place has a form of that place
pub line_formed : (p : Place) (l : List ℕ) → Formed p l (line_of p l)
line_formed at_nodes l = nodes_formed l
line_formed at_faults l = faults_formed l
line_formed at_inputs l = inputs_formed l
line_formed at_rounds l = rounds_formed l
line_formed at_plan l = plan_formed l
line_formed at_event l = event_formed l
line_formed at_pace l = pace_formed l
line_formed at_stop l = stop_formed l
line_formed at_end l = inl refl

-- a line with the form of one number
nodes_again : (l : List ℕ) (n : ℕ) → HasForm l (nodes n)
    → line_of at_nodes l ≡ sized (n ∷ []) (nodes n)
unfolding one_after after
nodes_again l n h =
    let t = rest_read (codes "nodes ") (codes "nodes" ∷ []) (λ r. refl) (λ w ws. refl) l h.numerals
    (n ∷ []) h.words h.numbers (omega arith) in
    ap (line_of at_nodes) t.1 ∙ ap (λ o. mapped (λ n. nodes n) (one_of o)) t.2
    ∙ mapped-sized (λ n. nodes n) (n ∷ []) n

faults_again : (l : List ℕ) (n : ℕ) → HasForm l (faults n)
    → line_of at_faults l ≡ sized (n ∷ []) (faults n)
unfolding one_after after
faults_again l n h =
    let t = rest_read (codes "faults ") (codes "faults" ∷ []) (λ r. refl)
    (λ w ws. refl) l h.numerals (n ∷ []) h.words h.numbers (omega arith) in
    ap (line_of at_faults) t.1 ∙ ap (λ o. mapped (λ n. faults n) (one_of o)) t.2
    ∙ mapped-sized (λ n. faults n) (n ∷ []) n

rounds_again : (l : List ℕ) (n : ℕ) → HasForm l (rounds n)
    → line_of at_rounds l ≡ sized (n ∷ []) (rounds n)
unfolding one_after after
rounds_again l n h =
    let t = rest_read (codes "rounds ") (codes "rounds" ∷ []) (λ r. refl)
    (λ w ws. refl) l h.numerals (n ∷ []) h.words h.numbers (omega arith) in
    ap (line_of at_rounds) t.1 ∙ ap (λ o. mapped (λ n. rounds n) (one_of o)) t.2
    ∙ mapped-sized (λ n. rounds n) (n ∷ []) n

inputs_again : (l vs : List ℕ) → HasForm l (inputs vs) → line_of at_inputs l ≡ sized vs (inputs vs)
unfolding inputs_of after
inputs_again l vs h =
    let t = rest_read (codes "inputs ") (codes "inputs" ∷ []) (λ r. refl)
    (λ w ws. refl) l h.numerals vs h.words h.numbers h.some in
    ap (line_of at_inputs) t.1 ∙ ap (λ o. mapped (λ vs. inputs vs) (all_of o)) t.2
    ∙ mapped-sized (λ vs. inputs vs) vs vs

none_left : (ns : List (List ℕ)) → AllZip IsNumeral ns [] → ns ≡ []
none_left [] h = refl
none_left (n ∷ ns) h = absurd h

plan_again : (l : List ℕ) (p : PlanKind) → HasForm l (plan p)
    → line_of at_plan l ≡ sized (numbers_of (plan p)) (plan p)
unfolding plan_of one_after after
plan_again l (Known d) h =
    let t = rest_read (codes "plan known ") (codes "plan" ∷ codes "known" ∷ []) (λ r. refl)
    (λ w ws. refl) l h.numerals (d ∷ []) h.words h.numbers (omega arith) in
    ap (line_of at_plan) t.1 ∙ ap (λ o. mapped (λ p. plan p) (mapped (λ d. Known d) (one_of o))) t.2
    ∙ ap (λ r. mapped (λ p. plan p) r) (mapped-sized (λ d. Known d) (d ∷ []) d)
    ∙ mapped-sized (λ p. plan p) (d ∷ []) (Known d)
plan_again l Growing h =
    let whole : l ≡ codes "plan growing" =
    sym (join_with_byte-slice_split 32 l)
    ∙ ap (join_with_byte 32) (h.words
    ∙ ap (λ ns. codes "plan" ∷ codes "growing" ∷ ns) (none_left h.numerals h.numbers)) in
    ap (line_of at_plan) whole

-- a line with the form of a name behind a beginning, with its copy or without
module _ (start : List ℕ) (first : List (List ℕ)) (splits : (r : List ℕ)
    → words_of (start ++ r) ≡ first ++ words_of r) (joins : (w : List ℕ) (ws : List (List ℕ))
    → join_with_byte 32 (first ++ w ∷ ws) ≡ start ++ join_with_byte 32 (w ∷ ws)) (f : Name
    → Line) (l : List ℕ) (ns : List (List ℕ)) (m : Name) (words : words_of l ≡ first ++ ns) where
  whole_again : (name : Option (List ℕ) → Result Name LineFault)
      → ((r : List ℕ) → line_of at_event (start ++ r) ≡ mapped f (name (numbers_in r)))
      → name (Some (name_numbers m)) ≡ sized (name_numbers m) m
      → AllZip IsNumeral ns (name_numbers m) → line_of at_event l ≡ sized (name_numbers m) (f m)
  whole_again name reads named h =
      let t = rest_read start first splits joins l ns (name_numbers m) words h (omega arith) in
      ap (line_of at_event) t.1 ∙ reads t.0 ∙ ap (λ o. mapped f (name o)) t.2 ∙ ap (mapped f) named
      ∙ mapped-sized f (name_numbers m) m

  name_again : ((r : List ℕ) → line_of at_event (start ++ r) ≡ mapped f (name_of (numbers_in r)))
      → (AllZip IsNumeral ns (name_numbers m)) ⊎ (IsOriginal ns m)
      → line_of at_event l ≡ sized (name_numbers m) (f m)
  name_again reads (inl h) = whole_again name_of reads refl h
  name_again reads (inr h) =
      let t = rest_read start first splits joins l ns (m.from ∷ m.to ∷ m.round ∷ []) words h.1
      (omega arith) in
      ap (line_of at_event) t.1 ∙ reads t.0 ∙ ap (λ o. mapped f (name_of o)) t.2
      ∙ ap (λ y. mapped f (sized_name m.from m.to m.round y)) (sym h.0)
      ∙ mapped-sized f (name_numbers m) m

event_again : (l : List ℕ) (e : Event) → HasForm l (event e)
    → line_of at_event l ≡ sized (numbers_of (event e)) (event e)
unfolding event_of after
event_again l (Step i) h =
    let t = rest_read (codes "step ") (codes "step" ∷ []) (λ r. refl) (λ w ws. refl) l h.numerals
    (i ∷ []) h.words h.numbers (omega arith) in
    ap (line_of at_event) t.1 ∙ ap (λ o. mapped (λ e. event e) (step_of o)) t.2
    ∙ ap (λ r. mapped (λ e. event e) r) (mapped-sized (λ i. Step i) (i ∷ []) i)
    ∙ mapped-sized (λ e. event e) (i ∷ []) (Step i)
event_again l (Release m) h =
    name_again (codes "release ") (codes "release" ∷ []) (λ r. refl) (λ w ws. refl)
    (λ m. event (Release m)) l h.numerals m h.words
    (λ r. mapped-mapped (λ e. event e) (λ m. Release m) (name_of (numbers_in r))) h.numbers
event_again l (Drop m) h =
    name_again (codes "drop ") (codes "drop" ∷ []) (λ r. refl) (λ w ws. refl)
    (λ m. event (Drop m)) l h.numerals m h.words
    (λ r. mapped-mapped (λ e. event e) (λ m. Drop m) (name_of (numbers_in r))) h.numbers
event_again l (Copy m) h =
    whole_again (codes "copy ") (codes "copy" ∷ []) (λ r. refl) (λ w ws. refl)
    (λ m. event (Copy m)) l h.numerals m h.words whole_name_of
    (λ r. mapped-mapped (λ e. event e) (λ m. Copy m) (whole_name_of (numbers_in r))) refl
    h.numbers

pace_again : (l : List ℕ) (x : Pace) → HasForm l (pace x) → line_of at_pace l ≡ Ok (pace x)
unfolding pace_of
pace_again l Free h =
    let whole : l ≡ codes "pace free" =
    sym (join_with_byte-slice_split 32 l)
    ∙ ap (join_with_byte 32) (h.words
    ∙ ap (λ ns. codes "pace" ∷ codes "free" ∷ ns) (none_left h.numerals h.numbers)) in
    ap (line_of at_pace) whole
pace_again l Ticks h =
    let whole : l ≡ codes "pace ticks" =
    sym (join_with_byte-slice_split 32 l)
    ∙ ap (join_with_byte 32) (h.words
    ∙ ap (λ ns. codes "pace" ∷ codes "ticks" ∷ ns) (none_left h.numerals h.numbers)) in
    ap (line_of at_pace) whole

stop_again : (l : List ℕ) (s : Stop) → HasForm l (stop s)
    → line_of at_stop l ≡ sized (numbers_of (stop s)) (stop s)
unfolding stop_of after
stop_again l s h =
    let t = rest_read (codes "stop ") (codes "stop" ∷ []) (λ r. refl) (λ w ws. refl) l h.numerals
    (s.node ∷ s.steps ∷ []) h.words h.numbers (omega arith) in
    ap (line_of at_stop) t.1 ∙ ap (λ o. mapped (λ c. stop c) (stop_in o)) t.2
    ∙ mapped-sized (λ c. stop c) (s.node ∷ s.steps ∷ []) s

-- a line with a form is read as what that says, if its numbers are small
pub form_read : (l : List ℕ) (x : Line) → HasForm l x
    → line_of (stands_at x) l ≡ sized (numbers_of x) x
form_read l (nodes n) h = nodes_again l n h
form_read l (faults n) h = faults_again l n h
form_read l (inputs vs) h = inputs_again l vs h
form_read l (rounds n) h = rounds_again l n h
form_read l (plan p) h = plan_again l p h
form_read l (event e) h = event_again l e h
form_read l (pace x) h = pace_again l x h
form_read l (stop s) h = stop_again l s h
