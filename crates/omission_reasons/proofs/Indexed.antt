-- The index of the events up to a moment.
use Rattle.std.proofs.Common.{◌≡◌, ℕ, [], ◌+◌, ◌<◌, List, length, get_or, sym, ap, ◌∙◌, arith}
use Rattle.std.proofs.Common.{subst}
use Rattle.std.proofs.lemmas.List.{get_or_past}
use Rattle.run_events.specs.declared.event.Event.{Event}
use Rattle.step_book.specs.Log.{Log, history}
use Rattle.step_book.specs.Trace.{is_step}
use Rattle.omission_explainer.proofs.Moments.{moment_at, moment_short, next_moment}
use Rattle.omission_reasons.specs.Indexing.{IsIndexOf}
use Rattle.omission_reasons.specs.Listing.{has_number, listed, places_where}
use Rattle.omission_reasons.specs.declared.trace_index.TraceIndex.{TraceIndex}
use Rattle.omission_reasons.proofs.Listed.{listed_first, listed_next}

-- its lists are those of a history
pub record IsIndexed (nodes : ℕ) (t : List Event) (index : TraceIndex) : Type 0 where
  pub steps : (node : ℕ) → get_or index.steps node [] ≡ places_where (is_step node) t
  pub events : (k : ℕ) → get_or index.events k [] ≡ places_where (has_number nodes k) t

pub indexed_none : (nodes : ℕ) (index : TraceIndex) → index.steps ≡ [] → index.events ≡ []
    → IsIndexed nodes [] index
indexed_none nodes index s e = record {
  steps = λ node. ap (λ (x : List (List ℕ)). get_or x node []) s
      ∙ get_or_past [] node [] (omega arith) ∙ sym (listed_first (is_step node));
  events = λ k. ap (λ (x : List (List ℕ)). get_or x k []) e
      ∙ get_or_past [] k [] (omega arith) ∙ sym (listed_first (has_number nodes k));
}

-- one event more
pub indexed_next : (nodes k : ℕ) (xs : List Event) (d e : Event) (old new : TraceIndex)
    → k < length xs → get_or xs k d ≡ e → IsIndexed nodes (moment_at k xs) old
    → ((node : ℕ) → get_or new.steps node []
    ≡ listed (is_step node) e k (get_or old.steps node []))
    → ((j : ℕ) → get_or new.events j []
    ≡ listed (has_number nodes j) e k (get_or old.events j []))
    → IsIndexed nodes (moment_at (k + 1) xs) new
indexed_next nodes k xs d e old new l is h steps events =
    let m = moment_at k xs in
    let long : k ≡ length m = sym (moment_short xs k (omega arith)) in
    let next = next_moment xs k d e l is in
    subst (λ z. IsIndexed nodes z new) (sym next)
    (record {
      steps = λ node. steps node ∙ ap (listed (is_step node) e k) (h.steps node)
          ∙ ap (λ n. listed (is_step node) e n (places_where (is_step node) m)) long
          ∙ sym (listed_next (is_step node) e m);
      events = λ j. events j ∙ ap (listed (has_number nodes j) e k) (h.events j)
          ∙ ap (λ n. listed (has_number nodes j) e n (places_where (has_number nodes j) m)) long
          ∙ sym (listed_next (has_number nodes j) e m);
    })

pub indexed_all : (v : Log) (index : TraceIndex) → IsIndexed v.setup.nodes (history v) index
    → IsIndexOf v index
indexed_all v index h = record { steps = h.steps; events = h.events }
