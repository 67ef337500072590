use Rattle.std.proofs.Common.{◌≡◌, ◌∙◌, ◌+◌, ◌<◌, ◌++◌, ap, arith, subst, sym, true, false}
use Rattle.round_lang.specs.Sets.{is_in}
use Rattle.omission_explainer.specs.Rows.{ClosedRound}
use Rattle.run_data.specs.Omitted.{omit_line, omit_lines}
use Rattle.run_data.proofs.Left.{member_test}
use Rattle.run_data.proofs.Omitted.{IsLeft, left_all, left_first, left_later, left_none}
use Rattle.run_data.proofs.omissions.push_omitted.Goals as goal
use Rattle.run_data.proofs.omissions.push_omitted.Goals.{then-has+in_ok-push_line, else-has}

pub loop-sender-init : goal.loop-sender-init
loop-sender-init c =
    left_all (omit_line c.args.row.now) c.args.row.now.omitted c.args.lines.now

pub loop-sender-preserved : goal.loop-sender-preserved
loop-sender-preserved c =
    let f = omit_line c.args.row.now in
    let s = c.args.row.now.omitted in
    let i = c.loop-sender.sender in
    let text = c.loop-sender.lines in
    let whole = c.args.lines.now ++ omit_lines c.args.row.now in
    let below : i < 64 = c.loop-sender-test.true in
    let same = ap (λ (r : ClosedRound). is_in r.omitted i) c.row.view_is in
    elim c.if-has.branch [
      | then-has+in_ok-push_line w ↦
          let is : is_in s i ≡ true =
          sym same ∙ member_test _ i true below (sym w.if-has.true ∙ c.has.ensures) in
          subst (λ t. IsLeft f s (i + 1) t whole) (sym w.lines-is)
          (left_first f s i text w.push_line.new.lines whole below is w.in_ok-push_line.ensures
          c.loop-sender.invariant)
      | else-has w ↦
          let is : is_in s i ≡ false =
          sym same ∙ member_test _ i false below (sym w.if-has.false ∙ c.has.ensures) in
          subst (λ t. IsLeft f s (i + 1) t whole) (sym w.lines-is)
          (left_later f s i text whole below is c.loop-sender.invariant)
    ]

pub returns : goal.returns
returns c =
    let f = omit_line c.args.row.now in
    let s = c.args.row.now.omitted in
    let last : c.loop-sender.sender ≡ 64 = omega arith in
    let whole = c.args.lines.now ++ omit_lines c.args.row.now in
    left_none f s c.loop-sender.lines whole
    (subst (λ i. IsLeft f s i c.loop-sender.lines whole) last c.loop-sender.invariant)
