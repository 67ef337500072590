-- What a choice to copy comes to.
use Rattle.std.proofs.Common.{
  ◌≡◌,
  ℕ,
  List,
  Option,
  Some,
  None,
  Result,
  Ok,
  Err,
  ◌<◌,
  ap,
  get_or,
  length,
  subst,
  sym,
}
use Rattle.std.specs.Prelude.{IfOk}
use Rattle.adversary.proofs.Asked.{at_same}
use Rattle.adversary.specs.Asking.{IsAtPlace}
use Rattle.locked_buffers.specs.Runs.{IsNextCopyInRun, Run}
use Rattle.policies.specs.declared.policy.Choice.TheVariants as choice
use Rattle.step_book.specs.Log.{HasNoCopy}
use Rattle.run_events.specs.declared.event.Event.{Event}
use Rattle.run_events.specs.declared.event.Event.TheVariants.{Step, Release, Drop, Copy}
use Rattle.run_events.specs.declared.in_flight.InFlight.{InFlight}
use Rattle.run_events.specs.declared.name.Name.{Name}
use Rattle.node_threads.specs.Choices.{ComesToInOne, IsCopyInRun}
use Rattle.node_threads.specs.declared.body.Halt.{Halt}

pub copy_found : {P : Type 0} (start : P → ℕ → ℕ) (r : Run P) (n : Name) (o found : Option Name)
    → found ≡ o → IsNextCopyInRun start r n found → IsNextCopyInRun start r n o
copy_found start r n o found is h = subst (IsNextCopyInRun start r n) is h

-- what is found at a place is there
pub at_place : (flight fs : List InFlight) (k : ℕ) (m : InFlight) → fs ≡ flight → k < length fs
    → ((d : InFlight) → m ≡ get_or fs k d) → IsAtPlace flight k m.name
at_place flight fs k m is less found =
    subst (λ (gs : List InFlight). IsAtPlace gs k m.name) is (
      less,
      λ d. ap (λ (x : InFlight). x.name) (sym (found d)),
    )

copied : {P : Type 0} (start : P → ℕ → ℕ) (r : Run P) (flight : List InFlight) (k : ℕ) (n : Name)
    (o : Option Event) → IsAtPlace flight k n → IsCopyInRun start r n o
    → ComesToInOne start flight (Some (choice.Copy k)) o
copied start r flight k n None at h = (
  h.0,
  λ m other. subst (HasNoCopy (start h.0.plan) h.0.log) (at_same flight k n m at other) h.2,
)
copied start r flight k n (Some (Copy m)) at h = (h.0, (n, at, h.2.1, h.2.0))
copied start r flight k n (Some (Step i)) at h = absurd h
copied start r flight k n (Some (Release m)) at h = absurd h
copied start r flight k n (Some (Drop m)) at h = absurd h

pub copy_comes : {P : Type 0} (start : P → ℕ → ℕ) (r : Run P) (flight : List InFlight) (k : ℕ)
    (n : Name) (o : Result (Option Event) Halt) → IsAtPlace flight k n
    → IfOk o (IsCopyInRun start r n) → IfOk o (ComesToInOne start flight (Some (choice.Copy k)))
copy_comes start r flight k n (Ok o) at h = copied start r flight k n o at h
copy_comes start r flight k n (Err e) at h = tt
