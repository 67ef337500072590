-- What was read of a record of the run, as a post answers it.
use Rattle.std.proofs.Common.{◌≡◌, ℕ, Result, Ok, Err, subst}
use Rattle.std.specs.Prelude.{IfErr, IfOk, OnOk}
use Rattle.step_book.specs.Log.{Recorded}
use Rattle.locked_buffers.specs.Commits.{IsUnreadable, IsUnreadableInRun}
use Rattle.locked_buffers.specs.Runs.{IsRecordOfRun, Run}
use Rattle.locked_buffers.specs.declared.fault.RelayFault.{RelayFault}

pub read_in_run : {P X E : Type 0} (start : P → ℕ → ℕ) (own r : Run P) (b : Recorded P)
    (is : Recorded P → X → Type 0) (o : Result X E) → own ≡ r → OnOk o (IsRecordOfRun start own b)
    → IfOk o (is b) → IfOk o (λ x. (one : Recorded P) × IsRecordOfRun start r one × is one x)
read_in_run start own r b is (Ok x) same of_run h =
    (b, subst (λ z. IsRecordOfRun start z b) same of_run, h)
read_in_run start own r b is (Err e) same of_run h = tt

pub unread_in_run : {P X : Type 0} (own r : Run P) (b : Recorded P) (o : Result X RelayFault)
    → own ≡ r → IfErr o (IsUnreadable own b) → IfErr o (IsUnreadableInRun r)
unread_in_run own r b (Ok x) same h = tt
unread_in_run own r b (Err e) same h = (b, subst (λ z. IsUnreadable z b e) same h)
