use Rattle.std.proofs.Common.{ap, refl, subst, sym, ◌∙◌}
use Rattle.round_meaning.specs.Rounds.{algorithm_of}
use Rattle.run_events.specs.Names.{original}
use Rattle.step_book.specs.Log.{IsFlying, Recorded}
use Rattle.step_book.specs.Buffers.{IsGenuine}
use Rattle.step_journal.specs.Fits.{place_among}
use Rattle.step_journal.proofs.BufferViews.{copy_read, name_view, original_on, place_view}
use Rattle.step_journal.proofs.journal.Journal.copy_of.Goals as goal

pub returns-in_ok-copied-in-Some-clause-there : goal.returns-in_ok-copied-in-Some-clause-there
returns-in_ok-copied-in-Some-clause-there g c =
    let on = original_on c.self.invariant c.args.name c.place.result c.index-buffer.result.now
    c.in-Some.frame (name_view c.args.name c.self.view_is c.requires)
    (place_view (original c.args.name) c.place.result c.self.view_is (c.place.ensures
    ∙ ap (place_among c.args.self.now.log.setup.nodes) c.original.ensures))
    c.index-buffer.ensures (sym c.in-Some.ensures) in (
      λ some. subst (λ (z : Recorded _). IsFlying (g.P.Plan.start z.plan) z.log
          (original c.args.name)) c.self.view_is on,
      λ flying. refl,
    )

pub returns-in_ok-copied-in-Some-clause-named : goal.returns-in_ok-copied-in-Some-clause-named
returns-in_ok-copied-in-Some-clause-named g c =
    (copy_read c.self.invariant c.args.name c.place.result c.index-buffer.result.now c.in-Some.frame
    c.in_ok-copied-in-Some.field-0 (name_view c.args.name c.self.view_is c.requires)
    (place_view (original c.args.name) c.place.result c.self.view_is (c.place.ensures
    ∙ ap (place_among c.args.self.now.log.setup.nodes) c.original.ensures))
    c.index-buffer.ensures (sym c.in-Some.ensures) c.in_ok-copied-in-Some.ensures).0

pub returns-in_ok-copied-in-Some-clause-genuine : goal.returns-in_ok-copied-in-Some-clause-genuine
returns-in_ok-copied-in-Some-clause-genuine g c =
    subst (λ (z : Recorded _). IsGenuine (algorithm_of z.log.program z.log.setup) z.log.rows
    c.in_ok-copied-in-Some.field-0) c.self.view_is
    (copy_read c.self.invariant c.args.name c.place.result c.index-buffer.result.now c.in-Some.frame
    c.in_ok-copied-in-Some.field-0 (name_view c.args.name c.self.view_is c.requires)
    (place_view (original c.args.name) c.place.result c.self.view_is (c.place.ensures
    ∙ ap (place_among c.args.self.now.log.setup.nodes) c.original.ensures))
    c.index-buffer.ensures (sym c.in-Some.ensures) c.in_ok-copied-in-Some.ensures).1
