-- `==` on setups, which is derived, answers true exactly if the two are one.
use Rattle.std.proofs.Common.{◌≡◌, Decides, rules}
use Rattle.round_lang.specs.Equality.{is_same_decides}
use Rattle.round_meaning.specs.declared.setup.Setup.{Setup}
use Rattle.round_meaning.specs.contracts.setup.Inputs as inputs
use Rattle.round_meaning.specs.contracts.setup.SetupPartialEq.TheImpl.{eq-value}

pub setup_decides : (a b : Setup) → Decides (eq-value.it a b) (a ≡ b)
setup_decides a b =
    let inputs = is_same_decides inputs.the_row.coded a.inputs b.inputs in
    search rules
