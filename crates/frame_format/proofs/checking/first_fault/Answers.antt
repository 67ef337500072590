use Rattle.std.proofs.Common.{◌≡◌, List, Option, Some, None, ℕ, arith, sym}
use Rattle.std.specs.Prelude.{IfNone}
use Rattle.frame_format.specs.declared.fault.FrameFault.{FrameFault}
use Rattle.frame_format.specs.Formats.{Format}
use Rattle.frame_format.specs.Faults.{first_fault}
use Rattle.frame_format.specs.Reading.{IsFrame}
use Rattle.frame_format.proofs.Numbers.{IsBytes}
use Rattle.frame_format.proofs.Spelled.{is_frame, is_read}
use Rattle.frame_format.proofs.checking.first_fault.Goals as goal

found : (s : Format) (bytes : List ℕ) (r : Option FrameFault) → IsBytes bytes
    → r ≡ first_fault s bytes → IfNone r (IsFrame s bytes)
found s bytes None fits e = is_frame s bytes fits (sym e)
found s bytes (Some f) fits e = tt

pub returns-clause-found : goal.returns-clause-found
returns-clause-found c = found _ _ c.fault_of.result
    (λ i. omega (arith, c.type_inv.bytes i)) c.fault_of.ensures

pub returns-clause-only : goal.returns-clause-only
returns-clause-only c = λ f h. is_read _ _ f c.lawful.ensures h
