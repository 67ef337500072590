use Rattle.round_lang.specs.Sets.{members}
use Rattle.omission_explainer.proofs.Members.{Writing}
use Rattle.omission_explainer.proofs.spelt_set.push_members.Given as goal

abbrev pub invariant-loop-place : goal.invariant-loop-place
invariant-loop-place l = Writing l.initial.text (members l.fn.set.bits) l.place l.rest.bits l.text
