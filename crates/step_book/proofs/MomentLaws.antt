-- What a record says of each place of its trace is told by the places before it.
use Rattle.std.proofs.Common.{◌≡◌, ◌≢◌, ◌∙◌, ℕ, ◌+◌, ◌<◌, ◌≤◌, Bool, true, false, List, []}
use Rattle.std.proofs.Common.{◌∷◌, ◌++◌, ◌⊎◌, Option, Some, None, ap, arith, get_or, inl, inr, length}
use Rattle.std.proofs.Common.{refl, subst, sym, take}
use Rattle.std.specs.Prelude.{◌↔◌, IsSome, IsTrue, reverse}
use Rattle.std.specs.List.{count_by, slice_get}
use Rattle.std.proofs.lemmas.Bool.{and_from, and_parts, cases_Bool, cases_lt}
use Rattle.std.proofs.lemmas.List.{reverse-append, reverse-reverse, take_all, take_more}
use Rattle.std.proofs.lemmas.Option.{same_Some, slice_get-get_or, slice_get_within}
use Rattle.round_lang.specs.declared.value.Value.{Value}
use Rattle.run_events.specs.Names.{original}
use Rattle.run_events.specs.declared.event.Event.{Event}
use Rattle.run_events.specs.declared.event.Event.TheVariants.{Step, Release, Drop, Copy}
use Rattle.run_events.specs.declared.name.Name.{Name}
use Rattle.step_book.specs.Agreed.{IsInFlight, message_sent}
use Rattle.step_book.specs.Fates.{Fate, Lost, Moving, Taken, Unmade, Waiting, fate, is_take}
use Rattle.step_book.specs.History.{answer_to, answers_of, handed_of, is_copied, is_flying}
use Rattle.step_book.specs.History.{is_unsent, mark_of, marked}
use Rattle.step_book.specs.Log.{IsBookOf, Log, history, mark_in, waiting_in, world_of}
use Rattle.step_book.specs.Moments.{DoesSomething, MomentsAgree, answers_in, handed_by, up_to}
use Rattle.step_book.specs.Places.{IsMadeAt, IsReceiveAt, steps_before}
use Rattle.step_book.specs.Trace.{is_step, steps}
use Rattle.step_book.specs.World.{World, is_receive}
use Rattle.step_book.specs.declared.mark.Mark.{Mark}
use Rattle.step_book.specs.declared.mark.Mark.TheVariants as mark
use Rattle.step_book.proofs.AccountsKept.{answers_more, answers_step, handed_kept, handed_more}
use Rattle.step_book.proofs.Agreed.{flies_from, flies_to, waits_as, waits_once}
use Rattle.step_book.proofs.Kept.{mark_is}
use Rattle.step_book.proofs.Moments.{count_steps}
use Rattle.step_book.proofs.Placed.{is_it_step, made_found, receive_round, round_receive}
use Rattle.step_book.proofs.Placed.{step_event, unmade_found}

-- ---- marks

flying_mark : (m : Mark) → is_flying m ≡ true → m ≡ mark.Flying
flying_mark mark.Unsent h = cc
flying_mark mark.Silent h = cc
flying_mark mark.Flying h = refl
flying_mark (mark.Released x) h = cc
flying_mark mark.Lost h = cc

unsent_mark : (m : Mark) → is_unsent m ≡ true → m ≡ mark.Unsent
unsent_mark mark.Unsent h = refl
unsent_mark mark.Silent h = cc
unsent_mark mark.Flying h = cc
unsent_mark (mark.Released x) h = cc
unsent_mark mark.Lost h = cc

unsent_fate : (w : World) (k : ℕ) (m : Option (List Value)) (f : Fate) → IsSome m
    → marked w k m f ≡ mark.Unsent → f ≡ Unmade
unsent_fate w k m Unmade some h = refl
unsent_fate w k None f some h = cc
unsent_fate w k (Some m) Moving some h = cc
unsent_fate w k (Some m) (Waiting x) some h = cc
unsent_fate w k (Some m) (Taken x c) some h = cc
unsent_fate w k (Some m) Lost some h = cc

-- ---- a run up to a place

-- up to the next place there is one event more
module _ (v : Log) (place : ℕ) (e : Event) (here : slice_get v.trace place ≡ Some e) where
  before_end : place < length v.trace
  before_end = slice_get_within v.trace place e here

  read : get_or v.trace place e ≡ e
  read = same_Some _ _ (sym (slice_get-get_or v.trace place e before_end) ∙ here)

  next : history (up_to (place + 1) v) ≡ e ∷ history (up_to place v)
  next =
      ap reverse (take_more v.trace place e before_end)
      ∙ reverse-append (take place v.trace) (get_or v.trace place e ∷ [])
      ∙ ap (λ x. x ∷ reverse (take place v.trace)) read

-- how many steps a node has taken up to a place
counted : (v : Log) (place i : ℕ)
    → steps i (history (up_to place v)) ≡ steps_before v.trace i place
counted v place i =
    sym (count_steps i (history (up_to place v)))
    ∙ ap (count_by (is_step i)) (reverse-reverse (take place v.trace))

-- behind the last event there is none more
past_end : (v : Log) (place : ℕ) → length v.trace ≤ place
    → take (place + 1) v.trace ≡ take place v.trace
past_end v place past =
    take_all (place + 1) v.trace (omega (arith, past))
    ∙ sym (take_all place v.trace (omega (arith, past)))

none_handed : (w : World) (i : ℕ) → handed_of w i [] ≡ []
unfolding handed_of
none_handed w i = refl

none_answered : (w : World) → answers_of w [] ≡ []
unfolding answers_of
none_answered w = refl

-- ---- what is handed out and answered

module _ (start : ℕ → ℕ) (v : Log) (place : ℕ) where
  abbrev world : World
  world = world_of start v

  abbrev before : Log
  before = up_to place v

  -- a receive at the place is one to the history before it
  receives : (i : ℕ) → IsReceiveAt world v.trace i place
      → is_receive world (steps i (history before)) ≡ true
  receives i at =
      ap (is_receive world) (counted v place i ∙ at.there.number)
      ∙ round_receive world at.round at.step at.receives

  handed_there : (i : ℕ) → IsReceiveAt world v.trace i place
      → handed_by start (up_to (place + 1) v) i
      ≡ handed_by start before i ++ waiting_in start before i ∷ []
  handed_there i at =
      ap (handed_of world i) (next v place (Step i) at.there.there)
      ∙ handed_more world i (Step i) (history before) (is_it_step i (Step i) refl) (receives i at)

  -- if something else stands there, nothing is handed out
  kept_event : (i : ℕ) (e : Event) → slice_get v.trace place ≡ Some e
      → (IsReceiveAt world v.trace i place → ⊥)
      → (is_take world i e (history before) ≡ true) ⊎ (is_take world i e (history before) ≡ false)
      → handed_by start (up_to (place + 1) v) i ≡ handed_by start before i
  kept_event i e here none (inl takes) =
      let both : (is_step i e ≡ true) × (is_receive world (steps i (history before)) ≡ true) =
      and_parts _ _ takes in
      let of = receive_round world world.rounds (steps i (history before)) (omega arith) both.1 in
      absurd (none (record {
        round = of.0;
        step = steps i (history before);
        there = record {
          there = here ∙ ap Some (step_event i e both.0);
          number = sym (counted v place i);
        };
        receives = of.1;
      }))
  kept_event i e here none (inr other) =
      ap (handed_of world i) (next v place e here) ∙ handed_kept world i e (history before) other

  kept_there : (i : ℕ) → (IsReceiveAt world v.trace i place → ⊥)
      → handed_by start (up_to (place + 1) v) i ≡ handed_by start before i
  kept_there i none = by (cases_lt place (length v.trace))
    where
      by : (place < length v.trace) ⊎ (length v.trace ≤ place)
          → handed_by start (up_to (place + 1) v) i ≡ handed_by start before i
      by (inl within) =
          let e = get_or v.trace place (Step 0) in
          kept_event i e (slice_get-get_or v.trace place (Step 0) within) none
          (cases_Bool (is_take world i e (history before)))
      by (inr past) = ap (λ t. handed_of world i (reverse t)) (past_end v place past)

  answered_so : (e : Event) (did : Bool) → slice_get v.trace place ≡ Some e
      → answer_to world e (history before) ≡ did ∷ []
      → answers_in start (up_to (place + 1) v) ≡ answers_in start before ++ did ∷ []
  answered_so e did here is =
      ap (answers_of world) (next v place e here) ∙ answers_more world e did (history before) is

  flies_so : (n : Name)
      → IsTrue (is_flying (mark_of world (history before) n)) ↔ IsInFlight start before n
  flies_so n = (
    λ did. flies_to start before n (flying_mark _ did),
    λ flies. ap is_flying (flies_from start before n flies),
  )

  -- a copy that wasn't made, of a message that was sent, is unsent
  own_list : reverse (history before) ≡ before.trace
  own_list = reverse-reverse before.trace

  unsent_to : (n : Name) → IsSome (message_sent start before n)
      → mark_in start before n ≡ mark.Unsent
      → (a : ℕ) → IsMadeAt world before.trace n a → ⊥
  unsent_to n sent is a made =
      made_found world (history before) n a
      (subst (λ t. IsMadeAt world t n a) (sym own_list) made)
      (unsent_fate world n.copy (message_sent start before n) (fate world (history before) n) sent
      (sym (mark_is world (history before) n) ∙ is))

  unsent_from : (n : Name) → ((a : ℕ) → IsMadeAt world before.trace n a → ⊥)
      → mark_in start before n ≡ mark.Unsent
  unsent_from n none =
      mark_is world (history before) n
      ∙ ap (marked world n.copy (message_sent start before n))
      (unmade_found world (history before) n
      (λ a made. none a (subst (λ t. IsMadeAt world t n a) own_list made)))

  copies_so : (n : Name)
      → IsTrue (is_copied (mark_of world (history before) (original n))
      (mark_of world (history before) n)) ↔ DoesSomething start before (Copy n)
  copies_so n = (
    λ did. (
        let both : (is_flying (mark_of world (history before) (original n)) ≡ true)
        × (is_unsent (mark_of world (history before) n) ≡ true) = and_parts _ _ did in
        let flies = flies_to start before (original n) (flying_mark _ both.0) in
        (flies, unsent_to n flies.message (unsent_mark _ both.1))
        ),
    λ does. and_from _ _ (ap is_flying (flies_from start before (original n) does.0))
        (ap is_unsent (unsent_from n does.1)),
  )

  answered_there : (e : Event) → slice_get v.trace place ≡ Some e → ((i : ℕ) → e ≢ Step i)
      → (did : Bool)
      × (answers_in start (up_to (place + 1) v) ≡ answers_in start before ++ did ∷ [])
      × (IsTrue did ↔ DoesSomething start before e)
  answered_there (Step i) here other = absurd (other i refl)
  answered_there (Release n) here other =
      (_, answered_so (Release n) _ here refl, flies_so n)
  answered_there (Drop n) here other = (_, answered_so (Drop n) _ here refl, flies_so n)
  answered_there (Copy n) here other = (_, answered_so (Copy n) _ here refl, copies_so n)

-- ---- the law

pub moments : {start : ℕ → ℕ} {nodes : ℕ} {v : Log} {counts : List ℕ} {tables : List (List Mark)}
    {waiting : List (List Name)} {handed : List (List (List Name))} {answers : List Bool}
    {messages : List Name}
    → IsBookOf start nodes v counts tables waiting handed answers messages → MomentsAgree start v
moments {start} {nodes} {v} h = record {
  flies = λ place n l. (flies_to start (up_to place v) n, flies_from start (up_to place v) n);
  waits = λ place n l. waits_as start (up_to place v) h.plan n l;
  once = λ place n l. waits_once start (up_to place v) h.plan n l;
  handed = λ place i at. handed_there start v place i at;
  kept = λ place i none. kept_there start v place i none;
  answered = λ place e here other. answered_there start v place e here other;
  unanswered = λ place i here.
      ap (answers_of (world_of start v)) (next v place (Step i) here)
      ∙ answers_step (world_of start v) i (history (up_to place v));
  nothing_handed = λ i. none_handed (world_of start v) i;
  nothing_answered = none_answered (world_of start v);
  whole = ap (λ t. record v { trace = t })
      (take_all (length v.trace) v.trace (omega arith));
}
