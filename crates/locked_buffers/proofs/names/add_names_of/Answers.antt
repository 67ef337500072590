use Rattle.std.proofs.Common.{◌∙◌, ap, length, subst, sym}
use Rattle.std.specs.Prelude.{option_map}
use Rattle.step_book.specs.Names.{IsName}
use Rattle.locked_buffers.specs.Runs.{Run}
use Rattle.locked_buffers.proofs.Noted.{all_noted, fewer_left, one_noted, one_unknown}
use Rattle.locked_buffers.proofs.names.add_names_of.Goals as goal

pub returns-then-not-is_name-clause-cause : goal.returns-then-not-is_name-clause-cause
returns-then-not-is_name-clause-cause g c =
    one_unknown c.args.run.now.setup c.args.frames.now.items
    (length c.waiting.result.now) c.in-Some.frame.now c.name-name.result
    (sym c.at.ensures ∙ ap (λ o. option_map (λ x. x.now) o) c.in-Some.is) c.name-name.ensures
    (λ h. let yes =
    c.is_name.ensures.1 (subst (λ (r : Run g.row.P.Denot). IsName r.setup c.name-name.result)
    (sym c.run.view_is) h) in let no = c.if-not-is_name.true in cc)

pub loop-frame-smaller : goal.loop-frame-smaller
loop-frame-smaller g c =
    fewer_left c.args.frames.now.items c.loop-frame.mail.waiting c.push.new.self.waiting
    (length c.waiting.result.now) c.in-Some.frame.now c.name-name.result
    (sym c.at.ensures ∙ ap (λ o. option_map (λ x. x.now) o) c.in-Some.is)
    (ap length c.waiting.ensures) c.in_ok-push.ensures.waiting

pub loop-frame-preserved : goal.loop-frame-preserved
loop-frame-preserved g c =
    one_noted c.args.run.now.setup c.args.frames.now.items c.args.mail.now c.loop-frame.mail
    c.push.new.self
    (length c.waiting.result.now) c.in-Some.frame.now c.name-name.result
    (sym c.at.ensures ∙ ap (λ o. option_map (λ x. x.now) o) c.in-Some.is)
    (ap length c.waiting.ensures) c.name-name.ensures
    (subst (λ (r : Run g.row.P.Denot). IsName r.setup c.name-name.result) c.run.view_is
    (c.is_name.ensures.0 c.if-not-is_name.false)) c.in_ok-push.ensures.handed
    c.in_ok-push.ensures.waiting c.loop-frame.invariant

pub returns-clause-names : goal.returns-clause-names
returns-clause-names g c =
    all_noted c.args.run.now.setup c.args.frames.now.items c.args.mail.now c.loop-frame.mail
    (length c.waiting.result.now)
    (sym c.at.ensures ∙ ap (λ o. option_map (λ x. x.now) o) c.in_default.is)
    (ap length c.waiting.ensures) c.loop-frame.invariant
