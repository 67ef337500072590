-- Which runs the options of `explore` ask about.
use Rattle.std.specs.Prelude.{◌-◌, None, Option, Some}
use Rattle.command_words.specs.declared.exploring.Exploring.{Exploring}
use Rattle.command_words.specs.declared.exploring.FaultChoice.{FaultChoice}
use Rattle.command_words.specs.declared.exploring.FaultChoice.TheVariants as faults
use Rattle.command_words.specs.declared.exploring.InputChoice.{InputChoice}
use Rattle.command_words.specs.declared.exploring.InputChoice.TheVariants as inputs
use Rattle.command_words.specs.declared.searching.PartChoice.{PartChoice}
use Rattle.round_explorer.specs.declared.question.AskedInputs.{AskedInputs}
use Rattle.round_explorer.specs.declared.question.AskedInputs.TheVariants.{Any, Header, Part}
use Rattle.round_explorer.specs.declared.question.FaultKind.{FaultKind}
use Rattle.round_explorer.specs.declared.question.FaultKind.TheVariants.{Crash, Nobody, Omission}
use Rattle.round_explorer.specs.declared.question.Question.{Question}

-- the inputs that are asked about without `--part`: the header's own, or any
abbrev pub lists_of : InputChoice → AskedInputs
lists_of inputs.Header = Header
lists_of inputs.Any = Any

-- those of a part, whose number is counted from 1, or all of them
abbrev pub inputs_by : Option PartChoice → InputChoice → AskedInputs
inputs_by None inputs = lists_of inputs
inputs_by (Some p) inputs = Part (record { index = p.number - 1; count = p.count })

-- the inputs that are asked about
abbrev pub inputs_of : Exploring → AskedInputs
inputs_of e = inputs_by e.part e.inputs

-- how nodes may fail
abbrev pub kind_of : FaultChoice → FaultKind
kind_of faults.Nobody = Nobody
kind_of faults.Omission = Omission
kind_of faults.Crash = Crash

-- the runs that are asked about
abbrev pub question_of : Exploring → Question
question_of e = record { clear = e.clear; faults = kind_of e.faults; hears = e.hears }
