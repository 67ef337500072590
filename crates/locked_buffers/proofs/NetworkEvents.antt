-- The network's events of a trace, event by event.
use Rattle.std.proofs.Common.{◌≡◌, ℕ, ◌+◌, ◌<◌, ◌≤◌, List, [], ◌∷◌, ◌++◌, length, get_or, drop}
use Rattle.std.proofs.Common.{sym, ap, ◌∙◌, arith, eq-eqb}
use Rattle.std.specs.Prelude.{◌↔◌, IsTrue, nat_eq}
use Rattle.std.proofs.lemmas.Bool.{eqb-true}
use Rattle.std.proofs.lemmas.List.{drop_all, drop_more, length-drop}
use Rattle.run_events.specs.declared.event.Event.{Event}
use Rattle.locked_buffers.specs.Accounts.{network_event, network_events}

-- the events are those of the network if the rest is of the rest
abbrev pub IsRest : List Event → List Event → ℕ → ℕ → Type 0
IsRest trace events k t = (events ≡ network_events trace)
    ↔ (drop t events ≡ network_events (drop k trace))

rest_of : (trace : List Event) (k : ℕ) (d e : Event) (es : List Event) → k < length trace
    → e ≡ get_or trace k e → network_event e ≡ es
    → network_events (drop k trace) ≡ es ++ network_events (drop (k + 1) trace)
rest_of trace k d e es l is h =
    ap network_events (drop_more trace k e l)
    ∙ ap (λ x. network_event x ++ network_events (drop (k + 1) trace)) (sym is)
    ∙ ap (λ x. x ++ network_events (drop (k + 1) trace)) h

-- a step is passed over
pub step_passed : (trace events : List Event) (k t : ℕ) (e : Event) → k < length trace
    → e ≡ get_or trace k e → network_event e ≡ []
    → IsRest trace events k t → IsRest trace events (k + 1) t
step_passed trace events k t e l is h rest =
    let next = rest_of trace k e e [] l is h in
    (λ x. rest.0 x ∙ next, λ x. rest.1 (x ∙ sym next))

head_of : (x y : Event) (xs ys : List Event) → x ∷ xs ≡ y ∷ ys → (x ≡ y) × (xs ≡ ys)
head_of x y xs ys h = (cc, cc)

-- an event of the network that was told
pub event_told : (trace events : List Event) (k t : ℕ) (e : Event) → k < length trace
    → e ≡ get_or trace k e → network_event e ≡ e ∷ []
    → t < length events → get_or events t e ≡ e
    → IsRest trace events k t → IsRest trace events (k + 1) (t + 1)
event_told trace events k t e l is h m same rest =
    let next = rest_of trace k e e (e ∷ []) l is h in
    let left : drop t events ≡ e ∷ drop (t + 1) events = drop_more events t e m
    ∙ ap (λ x. x ∷ drop (t + 1) events) same in (
      λ x. (head_of _ _ _ _ (sym left ∙ rest.0 x ∙ next)).1,
      λ x. rest.1 (left ∙ ap (λ y. e ∷ y) x ∙ sym next),
    )

-- one that wasn't
pub event_untold : (trace events : List Event) (k t : ℕ) (e : Event) → k < length trace
    → e ≡ get_or trace k e → network_event e ≡ e ∷ []
    → (t < length events → get_or events t e ≡ e → ⊥)
    → IsRest trace events k t → events ≡ network_events trace → ⊥
event_untold trace events k t e l is h off rest x =
    let whole : drop t events ≡ e ∷ network_events (drop (k + 1) trace) = rest.0 x
    ∙ rest_of trace k e e (e ∷ []) l is h in
    let long = sym (length-drop t events) ∙ ap length whole in
    let m : t < length events = omega (arith, long) in
    off m (head_of _ _ _ _ (sym (drop_more events t e m) ∙ whole)).0

empty_drop : (events : List Event) (t : ℕ) → t ≤ length events → drop t events ≡ []
    → t ≡ length events
empty_drop events t l h =
    let long = sym (length-drop t events) ∙ ap length h in
    omega (arith, long)

-- the end of the trace
pub events_end : (trace events : List Event) (k t : ℕ) → length trace ≤ k → t ≤ length events
    → IsRest trace events k t
    → IsTrue (nat_eq t (length events)) ↔ (events ≡ network_events trace)
events_end trace events k t l m rest =
    let none : network_events (drop k trace) ≡ [] = ap network_events (drop_all k trace l) in (
      λ x. rest.1 (drop_all t events (let e = eqb-true t (length events) x in omega (arith, e))
          ∙ sym none),
      λ x. eq-eqb t (length events) (empty_drop events t m (rest.0 x ∙ none)),
    )
