-- What an index of a trace has.
use Rattle.std.specs.Prelude.{◌≡◌, ℕ, [], slice_index_or}
use Rattle.step_book.specs.Log.{Log, history}
use Rattle.step_book.specs.Trace.{is_step}
use Rattle.omission_reasons.specs.Listing.{has_number, places_where}
use Rattle.omission_reasons.specs.declared.trace_index.TraceIndex.{TraceIndex}

-- the index has the places of each node's steps, and those of the network's events that name a
-- message, by the message's number
pub record IsIndexOf (v : Log) (index : TraceIndex) : Type 0 where
  pub steps : (node : ℕ) → slice_index_or index.steps node []
      ≡ places_where (is_step node) (history v)
  pub events : (k : ℕ) → slice_index_or index.events k []
      ≡ places_where (has_number v.setup.nodes k) (history v)
