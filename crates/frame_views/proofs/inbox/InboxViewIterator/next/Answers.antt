use Rattle.std.proofs.Common.{length, rules, ◌≡◌, ◌∙◌, sym, ap, ◌∷◌, ◌+◌, None, Some, get_or, drop}
use Rattle.std.proofs.Common.{arith}
use Rattle.std.proofs.lemmas.List.{get_or_default}
use Rattle.frame_format.specs.declared.frame.Frame.{Frame}
use Rattle.frame_format.specs.Reading.{frame_at}
use Rattle.frame_views.specs.Inboxes.{inbox_from}
use Rattle.frame_views.proofs.Inboxes.{inbox-some, inbox-none, inbox-end, AreFrames-more}
use Rattle.frame_views.proofs.inbox.InboxViewIterator.next.Goals as goal

-- the inbox before is the sender, its frame, and what is left
first : (c : goal.After-over)
    → c.args.self.now ≡ (c.loop-self.self-inside.at, c.over.result)
    ∷ inbox_from c.loop-self.self-inside.layout.now (c.loop-self.self-inside.at + 1)
    (drop (c.loop-self.self-inside.at + 1) c.loop-self.self-inside.held.now)
first c =
    let x = c.loop-self.self-inside in
    let s = x.layout.now in
    let at : get_or x.held.now x.at None ≡ Some c.in-Some.bytes =
    get_or_default x.held.now x.at None c.index-self-sender.result c.loop-self-test.true
    ∙ c.in-Some.is in
    let seen : c.over.result ≡ frame_at s c.in-Some.bytes = c.over.ensures
    ∙ ap (frame_at s) c.as_slice.ensures in
    let rest = inbox_from s (x.at + 1) (drop (x.at + 1) x.held.now) in
    sym c.loop-self.invariant.left
    ∙ inbox-some s x.at x.held.now c.in-Some.bytes c.loop-self-test.true at
    ∙ ap (λ (f : Frame). (x.at, f) ∷ rest) (sym seen)

pub returns-in-Some-clause-steps : goal.returns-in-Some-clause-steps
returns-in-Some-clause-steps c = first c

pub returns-in-Some-clause-goes : goal.returns-in-Some-clause-goes
returns-in-Some-clause-goes c =
    let shorter = ap length (first c) in
    search rules

pub loop-self-preserved : goal.loop-self-preserved
loop-self-preserved c =
    let x = c.loop-self.self-inside in
    let s = x.layout.now in
    let at : get_or x.held.now x.at None ≡ None =
    get_or_default x.held.now x.at None c.index-self-sender.result c.loop-self-test.true
    ∙ c.in_default.is in
    let before = c.loop-self.invariant.inbox in
    record {
      left = sym (inbox-none s x.at x.held.now c.loop-self-test.true at)
          ∙ c.loop-self.invariant.left;
      inbox = record {
        within = omega (arith, c.loop-self-test.true);
        few = before.few;
        frames = AreFrames-more s x.at x.held.now c.loop-self-test.true before.frames;
      };
    }

pub returns-clause-steps : goal.returns-clause-steps
returns-clause-steps c =
    let x = c.loop-self.self-inside in
    let none = inbox-end x.layout.now x.at x.held.now c.loop-self-test.false in
    (sym c.loop-self.invariant.left ∙ none, none)
