use Rattle.std.proofs.Common.{refl}
use Rattle.adversary.proofs.asking.run_policy.Goals as goal

pub returns-clause-bad_setup : goal.returns-clause-bad_setup
returns-clause-bad_setup g c = (
  λ same. absurd (cc same),
  λ none. absurd
      (none (record {
        lawful = c.if-not-is_lawful.ensures.0 refl;
        nodes = c.if-not-are_nodes.ensures.0 refl;
      })),
)
