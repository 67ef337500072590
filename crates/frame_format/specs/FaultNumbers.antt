-- The numbers by which faults are reported.
use Rattle.std.specs.Prelude.{ℕ}
use Rattle.frame_format.specs.declared.fault.FrameFault.{FrameFault}
use Rattle.frame_format.specs.declared.fault.FrameFault.TheVariants.{Short, BadMark, BadVersion}
use Rattle.frame_format.specs.declared.fault.FrameFault.TheVariants.{BadNode, BadRound, BadPosition}
use Rattle.frame_format.specs.declared.fault.FrameFault.TheVariants.{BadCopy, BadLength, BadField}
use Rattle.frame_format.specs.declared.fault.FrameFault.TheVariants.{NoMemory}

-- the number of a fault
abbrev pub fault_number : FrameFault → ℕ
fault_number Short = 1
fault_number BadMark = 2
fault_number BadVersion = 3
fault_number BadNode = 4
fault_number BadRound = 5
fault_number BadPosition = 6
fault_number BadLength = 7
fault_number (BadField i) = 8
fault_number NoMemory = 9
fault_number BadCopy = 10
