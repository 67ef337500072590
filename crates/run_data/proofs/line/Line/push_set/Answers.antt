use Rattle.std.proofs.Common.{◌≡◌, ◌∙◌, ◌+◌, ◌<◌, [], ap, arith, subst, sym, true, false}
use Rattle.std.proofs.lemmas.Result.{IfOk-weaker}
use Rattle.round_lang.specs.Sets.{is_in, members}
use Rattle.run_data.proofs.Left.{member_test, members_all, members_first, members_from}
use Rattle.run_data.proofs.Left.{members_later, members_none}
use Rattle.run_data.proofs.Texts.{Listing, listing_begun, listing_ended, listing_more}
use Rattle.run_data.proofs.line.Line.push_set.Goals as goal
use Rattle.run_data.proofs.line.Line.push_set.Goals.{then-has+in_ok-push_item, else-has}

pub loop-value-init : goal.loop-value-init
loop-value-init c =
    let s = c.args.set.bits in
    subst (Listing c.args.self.now (members s) c.push.new.self false) (sym (members_all s))
    (listing_begun c.args.self.now (members s) c.push.new.self c.in_ok-push.ensures)

pub loop-value-preserved : goal.loop-value-preserved
loop-value-preserved c =
    let s = c.args.set.bits in
    let i = c.loop-value.value in
    let first = c.args.self.now in
    let ms = members s in
    let text = c.loop-value.self in
    let is_later = c.loop-value.is_later in
    let left = members_from s (i + 1) in
    let below : i < 64 = c.loop-value-test.true in
    elim c.if-has.branch [
      | then-has+in_ok-push_item w ↦
          let is : is_in s i ≡ true =
          member_test s i true below (sym w.if-has.true ∙ c.has.ensures) in
          let before = subst (Listing first ms text is_later) (members_first s i below is)
          c.loop-value.invariant in
          let more = listing_more first ms text w.push_item.new.self is_later i left before
          w.in_ok-push_item.ensures in
          subst (λ t. Listing first ms t c.if-has.is_later left) (sym w.self-is)
          (subst (λ b. Listing first ms w.push_item.new.self b left) (sym w.is_later-is) more)
      | else-has w ↦
          let is : is_in s i ≡ false =
          member_test s i false below (sym w.if-has.false ∙ c.has.ensures) in
          let before = subst (Listing first ms text is_later) (members_later s i below is)
          c.loop-value.invariant in
          subst (λ t. Listing first ms t c.if-has.is_later left) (sym w.self-is)
          (subst (λ b. Listing first ms text b left) (sym w.is_later-is) before)
    ]

pub returns : goal.returns
returns c =
    let s = c.args.set.bits in
    let i = c.loop-value.value in
    let last : i ≡ 64 = omega arith in
    let none : members_from s i ≡ [] = ap (members_from s) last ∙ members_none s in
    IfOk-weaker c.push-2.result _ _
    (λ _ e. listing_ended c.args.self.now (members s) c.loop-value.self c.push-2.new.self
    c.loop-value.is_later (members_from s i) c.loop-value.invariant none e)
    c.push-2.ensures
