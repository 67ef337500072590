-- The places of a program and the rule on what stands there, under names that other crates' proofs
-- can use.
use Rattle.round_check.specs.declared.rules.Place.{Place}
use Rattle.round_check.specs.declared.rules.Place.TheVariants.{Start, Send, OnMessage, End}
use Rattle.round_check.specs.declared.rules.Rule.{Rule}
use Rattle.round_check.specs.declared.rules.Rule.TheVariants.{Allowed}

abbrev pub Site : Type 0
Site = Place

abbrev pub at_start : Site
at_start = Start

abbrev pub at_send : Site
at_send = Send

abbrev pub at_message : Site
at_message = OnMessage

abbrev pub at_end : Site
at_end = End

abbrev pub TheRule : Type 0
TheRule = Rule

abbrev pub allowed : TheRule
allowed = Allowed
