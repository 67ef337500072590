-- Algorithm 1 keeps agreement and validity for the nodes and faults that it was made for.
use Rattle.std.proofs.Common.{ℕ, ◌+◌, ◌*◌, ◌≤◌, sym, subst}
use Rattle.round_lang.specs.Limits.{max_values}
use Rattle.round_meaning.specs.declared.setup.Setup.{Setup}
use Rattle.round_meaning.specs.Agreement.{HasMajority}
use Rattle.round_meaning.specs.Algorithm1.{dls1}
use Rattle.round_meaning.proofs.Consensus.{decisions_agree, decisions_are_inputs}
use Rattle.algorithm_library.specs.Agreeing.{IsFor, KeepsAgreement, KeepsValidity}

-- a setup that it was made for has fewer than half of its nodes faulty
has_majority : (k n t : ℕ) (s : Setup) → k ≤ max_values → 2 * t + 1 ≤ n → IsFor (dls1 k) n t s
    → HasMajority k s
has_majority k n t s few most is = record {
  values = few;
  lawful = is.lawful;
  majority = subst (λ x. 2 * s.faults + 1 ≤ x) (sym is.nodes)
      (subst (λ x. 2 * x + 1 ≤ n) (sym is.faults) most);
}

pub keeps_agreement : (k n t : ℕ) → k ≤ max_values → 2 * t + 1 ≤ n → KeepsAgreement (dls1 k) n t
keeps_agreement k n t few most s omits is =
    decisions_agree k s omits (has_majority k n t s few most is)

pub keeps_validity : (k n t : ℕ) → k ≤ max_values → 2 * t + 1 ≤ n → KeepsValidity (dls1 k) n t
keeps_validity k n t few most s omits is =
    decisions_are_inputs k s omits (has_majority k n t s few most is)
