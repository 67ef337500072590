-- Which messages a report omits, by marks and by places.
use Rattle.std.proofs.Common.{◌≡◌, ℕ, ◌+◌, ◌<◌, Bool, true, false, List, sym, subst, refl}
use Rattle.std.proofs.Common.{ap, ◌∙◌, ◌↔◌}
use Rattle.std.specs.Prelude.{◌&&◌, not, is_some, nat_lt, reverse}
use Rattle.std.proofs.lemmas.Bool.{lt-ltb}
use Rattle.round_lang.specs.Sets.{is_in}
use Rattle.round_lang.proofs.SetLaws.{is_in-set_of}
use Rattle.run_events.specs.declared.event.Event.{Event}
use Rattle.run_events.specs.declared.name.Name.{Name}
use Rattle.run_events.specs.Names.{original}
use Rattle.step_book.specs.declared.mark.Mark.{Mark}
use Rattle.step_book.specs.declared.mark.Mark.TheVariants as mark
use Rattle.step_book.specs.Fates.{Unmade, carried, fate}
use Rattle.step_book.specs.History.{mark_of, message}
use Rattle.step_book.specs.Log.{IsFaithful, Log, count_of, history, round_of, world_of}
use Rattle.step_book.specs.Names.{IsName}
use Rattle.step_book.specs.Places.{IsCarriedAs, IsCarried}
use Rattle.step_book.specs.Work.{any_within}
use Rattle.step_book.specs.World.{IsPlan, World, earliest}
use Rattle.step_book.proofs.Fates.{made_sent}
use Rattle.step_book.proofs.Placed.{carried_found}
use Rattle.std.proofs.lemmas.List.{reverse-reverse}
use Rattle.omission_explainer.specs.Lateness.{marks_of}
use Rattle.omission_explainer.specs.Printed.{prints_omitted}
use Rattle.omission_explainer.specs.Reported.{carried_in, omitted_in, sends_in, stands_in}
use Rattle.omission_explainer.proofs.Outcomes.{heard_here, is_quiet, silent_here}
use Rattle.omission_reasons.specs.Reasons.{IsOmitted}

-- an omitted message isn't carried, or there is none
omits_open : (c s st : Bool) → (not (c && s) && not (st && not s)) ≡ true → s ≡ true → c ≡ false
omits_open true true st h e = cc
omits_open true false st h e = cc
omits_open false s st h e = refl

-- an omitted message was sent if the slot came
omits_spoken : (c s st : Bool) → (not (c && s) && not (st && not s)) ≡ true → st ≡ true → s ≡ true
omits_spoken c true st h e = refl
omits_spoken true false true h e = cc
omits_spoken false false true h e = cc
omits_spoken c false false h e = cc

module _ (start : ℕ → ℕ) (v : Log) (n : Name) (name : IsName v.setup n) where
  abbrev w : World
  w = world_of start v

  abbrev t : List Event
  t = history v

  -- what the report prints of the message
  prints_is : is_in (omitted_in start v n.round n.to) n.from
      ≡ prints_omitted (carried_in start v n.round n.to) (sends_in start v n.round n.to)
      (stands_in start v n.round n.to) n.from
  prints_is = is_in-set_of v.setup.nodes
      (prints_omitted (carried_in start v n.round n.to) (sends_in start v n.round n.to)
      (stands_in start v n.round n.to)) n.from
      ∙ ap (λ b. b && prints_omitted (carried_in start v n.round n.to)
      (sends_in start v n.round n.to) (stands_in start v n.round n.to) n.from)
      (lt-ltb _ _ name.from)

  prints : IsOmitted start v n
      → (not (carried w t n.to n.round n.from && is_some (message w t n))
      && not (nat_lt (start n.round + n.to) (count_of v n.from) && not (is_some (message w t n))))
      ≡ true
  prints h = sym prints_is ∙ h.omitted

  -- once its slot came, it's no silence
  pub omitted_spoken : IsOmitted start v n → start n.round + n.to < count_of v n.from
      → is_some (message w t n) ≡ true
  omitted_spoken h l = omits_spoken _ _ _ (prints h) (lt-ltb _ _ l)

  pub made_spoken : IsOmitted start v n → (fate w t n ≡ Unmade → ⊥)
      → is_some (message w t n) ≡ true
  made_spoken h made = omitted_spoken h (made_sent w t n made)

  -- none of its copies was carried
  pub omitted_uncarried : IsOmitted start v n → is_some (message w t n) ≡ true
      → IsCarriedAs w v.trace n → ⊥
  omitted_uncarried h s c =
      let off : carried w t n.to n.round n.from ≡ false = omits_open _ _ _ (prints h) s in
      let one : IsCarried w v.trace n =
      record { copy = n.copy; few = name.copy; carried = c } in
      let there : IsCarried w (reverse t) n =
      subst (λ z. IsCarried w z n) (sym (reverse-reverse v.trace)) one in
      let on : carried w t n.to n.round n.from ≡ true = carried_found w t n there in
      absurd cc

  -- and in terms of the marks
  pub omitted_is : IsPlan w → IsFaithful start v → n.round < round_of v n.to
      → is_in (omitted_in start v n.round n.to) n.from
      ≡ (not (any_within (marks_of w t n) (start (earliest n.round)) (start (n.round + 1)))
      && not (is_quiet (mark_of w t (original n))))
  omitted_is plan faithful closed =
      let heard = heard_here {start = start} {v = v} n.to n.round plan faithful name.to name.first
      closed n.from in
      let quiet = silent_here {start = start} {v = v} n.to n.round plan faithful name.to name.first
      closed n.from in
      prints_is
      ∙ sym (ap (λ b. not b && not (is_quiet (mark_of w t (original n)))) heard
      ∙ ap (λ b. not (carried w t n.to n.round n.from && is_some (message w t n)) && not b) quiet)

  -- silence isn't omitted
  pub omitted_loud : IsPlan w → IsFaithful start v → IsOmitted start v n
      → mark_of w t (original n) ≡ mark.Silent → ⊥
  omitted_loud plan faithful h silent =
      off (any_within (marks_of w t n) (start (earliest n.round)) (start (n.round + 1)))
      (is_quiet (mark_of w t (original n))) (ap is_quiet silent)
      (sym (omitted_is plan faithful h.closed) ∙ h.omitted)
    where
      off : (a q : Bool) → q ≡ true → (not a && not q) ≡ true → ⊥
      off a false e p = cc
      off true true e p = cc
      off false true e p = cc

  -- and anything else is, if none of its copies was released in time
  pub omitted_from : IsPlan w → IsFaithful start v → n.round < round_of v n.to → (within : Bool)
      → within ≡ any_within (marks_of w t n) (start (earliest n.round)) (start (n.round + 1))
      → (mark_of w t (original n) ≡ mark.Silent → ⊥)
      → (not within ≡ true) ↔ IsOmitted start v n
  omitted_from plan faithful closed within is loud =
      let same : is_in (omitted_in start v n.round n.to) n.from ≡ not within =
      omitted_is plan faithful closed
      ∙ ap (λ b. not b && not (is_quiet (mark_of w t (original n)))) (sym is)
      ∙ ap (λ b. not within && not b) (unquiet (mark_of w t (original n)) loud)
      ∙ kept (not within) in (
        λ h. record { closed = closed; omitted = same ∙ h },
        λ h. sym same ∙ h.omitted,
      )
    where
      unquiet : (m : Mark) → (m ≡ mark.Silent → ⊥) → is_quiet m ≡ false
      unquiet mark.Unsent h = refl
      unquiet mark.Silent h = absurd (h refl)
      unquiet mark.Flying h = refl
      unquiet (mark.Released x) h = refl
      unquiet mark.Lost h = refl

      kept : (b : Bool) → (b && not false) ≡ b
      kept true = refl
      kept false = refl
