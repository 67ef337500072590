use Rattle.std.proofs.Common.{List, ap}
use Rattle.std.proofs.lemmas.Result.{err_from_is_err_and}
use Rattle.run_events.specs.declared.event.Event.{Event}
use Rattle.run_events.specs.declared.event.Event.TheVariants.{Release, Step}
use Rattle.schedule_text.specs.Outcome.{state_of}
use Rattle.schedule_text.proofs.Lines.{event_front, front_refused, line_taken}
use Rattle.schedule_text.proofs.draft.Draft.read_front.Goals as goal

pub returns-in-Some : goal.returns-in-Some
returns-in-Some c =
    let front = c.in-Some.ensures in (
      front.shorter,
      event_front c.args.kind c.args.text.now c.in-Some.rest.now
          (state_of c.args.self.now) _ _ _ (Step c.in-Some.node) c.in-Schedule.is c.in-Whole.is
          front (ap (λ (es : List Event). record (state_of c.args.self.now) { events = es })
          c.in_ok-push.ensures.ok),
    )

pub returns-in-Some-front_release : goal.returns-in-Some-front_release
returns-in-Some-front_release c =
    let front = c.in-Some-front_release.ensures in (
      front.shorter,
      event_front c.args.kind c.args.text.now c.in-Some-front_release.rest.now
          (state_of c.args.self.now) _ _ _ (Release c.in-Some-front_release.name)
          c.in-Schedule.is
          c.in-Whole.is front
          (ap (λ (es : List Event). record (state_of c.args.self.now) { events = es })
          c.in_ok-push-2.ensures.ok),
    )

pub returns-in_err-read_line : goal.returns-in_err-read_line
returns-in_err-read_line c =
    let p = err_from_is_err_and c.from_residual-in_err-read_line.result
    c.from_residual-in_err-read_line.ensures.1 in
    rw (p.1, p.2) (front_refused c.args.kind c.args.text.now c.first_line.result.0.now
    c.first_line.result.1.now (state_of c.args.self.now) c.first_line.ensures.first
    c.in_err-read_line.field-0.0 c.read_line.new.self c.in_err-read_line.ensures)

pub returns : goal.returns
returns c = (
  c.first_line.ensures.shorter,
  line_taken c.args.kind c.args.text.now c.first_line.result.0.now c.first_line.result.1.now
      (state_of c.args.self.now) c.first_line.ensures.first
      (state_of c.read_line.new.self) c.in_ok-read_line.ensures,
)
