-- What the network's thread gave back, if no fault is told.
use Rattle.std.proofs.Common.{◌≡◌, Option, None, Some, refl, subst, sym}
use Rattle.std.specs.Prelude.{Err, IfOk, IfSome, Ok, Result}
use Rattle.std.specs.Result.{result_ok}
use Rattle.locked_buffers.specs.Seats.{Told}
use Rattle.node_threads.specs.declared.body.Halt.{Halt}

-- a thread that was started has the promise that it was started with
pub promised : {H X N : Type 0} (handle : Option H) (started : Result H X) (promise_of : H → N)
    (promise : N) → handle ≡ result_ok started → IfOk started (λ h. promise_of h ≡ promise)
    → IfSome handle (λ h. promise_of h ≡ promise)
promised handle (Ok h) promise_of promise is same =
    subst (λ o. IfSome o (λ h. promise_of h ≡ promise)) (sym is) same
promised handle (Err x) promise_of promise is same =
    subst (λ o. IfSome o (λ h. promise_of h ≡ promise)) (sym is) tt

-- what is told is what the network's thread gave back without a halt, so its promise holds of that
pub told_runs : {H N J E : Type 0} (handle : Option H) (network : Option (Told × Option Halt))
    (told : Result J E) (promise_of : H → N) (promise : N) (relay : J → Told)
    (Runs : N → Told → Type 0) → IfSome handle (λ h. promise_of h ≡ promise)
    → IfSome handle (λ h. IfSome network (λ gave. gave.1 ≡ None → Runs (promise_of h) gave.0))
    → (handle ≡ None → network ≡ None) → IfOk told (λ j. network ≡ Some (relay j, None))
    → IfOk told (λ j. Runs promise (relay j))
told_runs handle network (Err e) promise_of promise relay Runs same kept none is = tt
told_runs None network (Ok j) promise_of promise relay Runs same kept none is =
    absurd (cc (none refl, is))
told_runs (Some h) network (Ok j) promise_of promise relay Runs same kept none is =
    let gave = subst (λ (o : Option (Told × Option Halt)).
    IfSome o (λ gave. gave.1 ≡ None → Runs (promise_of h) gave.0)) is kept in
    subst (λ p. Runs p (relay j)) same (gave refl)
