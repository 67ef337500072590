use Rattle.std.proofs.Common.{refl}
use Rattle.std.specs.Prelude.{option_map}
use Rattle.exploration_texts.proofs.EachTold.{all_told, none_told, told_always, told_if}
use Rattle.exploration_texts.proofs.answering.answers.Goals as goal
use Rattle.round_explorer.specs.declared.property.Property.TheVariants.{Agreement, Final}
use Rattle.round_explorer.specs.declared.property.Property.TheVariants.{Termination, Validity}

pub returns : goal.returns
returns g c =
    let w = c.args.search.now in
    let checks = c.args.checks in
    let condition = option_map (λ f. f.now) c.args.always in
    let none = none_told w condition c.new-told.result.items c.new-told.ensures.items in
    let first = told_if w condition _ checks.agreement Agreement _ _ refl none
    c.in_ok-add_if.ensures in
    let second = told_if w condition _ checks.validity Validity _ _ refl first
    c.in_ok-add_if-2.ensures in
    let third = told_if w condition _ checks.finality Final _ _ refl second
    c.in_ok-add_if-3.ensures in
    let fourth = told_if w condition _ checks.termination Termination _ _ refl third
    c.in_ok-add_if-4.ensures in
    all_told w checks condition _ (told_always w c.args.always _ _ _ fourth
    c.in_ok-add_always.ensures)
