use Rattle.std.proofs.Common.{◌<◌, sym, subst}
use Rattle.round_meaning.specs.Rounds.{algorithm_of}
use Rattle.run_events.specs.declared.name.Name.{Name}
use Rattle.step_book.specs.Effects.{Sends}
use Rattle.step_book.specs.Log.{Recorded}
use Rattle.step_journal.proofs.BufferViews.{fit_view, fits_hushed, fits_kept, fits_sent, fits_view}
use Rattle.step_journal.proofs.BufferViews.{name_view, place_view, prepared_spells}
use Rattle.step_journal.proofs.BufferViews.{run_honest_kept, work_view}
use Rattle.step_journal.proofs.journal.Journal.record_send.Goals as goal

pub invariant_of-self-in-Some : goal.invariant_of-self-in-Some
invariant_of-self-in-Some g c =
    let s = c.self.inside.book in
    let p = c.args.prepared in
    let ok = c.in-Ok-record_send.ensures.ok.recorded in
    let done = subst (λ (z : Recorded _). Sends g.P.Plan.start p s z) ok
    c.in-Ok-record_send.ensures.ok in
    let name = name_view p.name c.self.view_is c.requires.name in
    fits_view g.P.Plan.start ok
    (fits_sent c.self.invariant p c.name-name.result c.into_sealed.result c.in-Some.frame
    c.place-place.result c.index_mut-buffer.result.now c.reserve_flying.new.self
    c.index_mut-buffer-in-Some.result.now c.put.new.self
    c.name-name.ensures.value name (work_view p c.self.view_is c.requires.work)
    (fit_view g.P.Plan.start p c.self.view_is c.requires.fit) done.round
    (place_view c.name-name.result c.place-place.result c.self.view_is c.place-place.ensures)
    c.index_mut-buffer.ensures.value c.reserve_flying.ensures.run c.in-Ok.ensures.flying
    c.in-Ok.ensures.waiting c.into_sealed.ensures c.in-Some.is
    c.index_mut-buffer-in-Some.ensures.value c.put.ensures.run c.put.ensures.flying
    c.put.ensures.waiting done.sent done.marks done.waiting)

pub invariant_of-self-in-None : goal.invariant_of-self-in-None
invariant_of-self-in-None g c =
    let s = c.self.inside.book in
    let p = c.args.prepared in
    let ok = c.in-Ok-record_send.ensures.ok.recorded in
    let done = subst (λ (z : Recorded _). Sends g.P.Plan.start p s z) ok
    c.in-Ok-record_send.ensures.ok in
    let name = name_view p.name c.self.view_is c.requires.name in
    fits_view g.P.Plan.start ok
    (fits_hushed c.self.invariant p c.name-name.result c.into_sealed.result
    c.index_mut-buffer.result.now c.reserve_flying.new.self
    c.name-name.ensures.value name c.index_mut-buffer.ensures.value c.reserve_flying.ensures.run
    c.in-Ok.ensures.flying c.in-Ok.ensures.waiting c.into_sealed.ensures c.in-None.is
    done.unsent done.sent done.marks done.waiting)

pub invariant_of-self : goal.invariant_of-self
invariant_of-self g c =
    let s = c.self.inside.book in
    let a = name_view c.args.prepared.name c.self.view_is c.requires.name in
    let to = subst (λ (n : Name). n.to < s.log.setup.nodes) (sym c.name-name.ensures.value) a.to in
    fits_kept c.self.invariant c.name-name.result.to c.index_mut-buffer.result.now
    c.reserve_flying.new.self to c.index_mut-buffer.ensures.value c.reserve_flying.ensures.run
    c.reserve_flying.ensures.flying c.reserve_flying.ensures.waiting

pub invariant_of-self-in-Err-record_send : goal.invariant_of-self-in-Err-record_send
invariant_of-self-in-Err-record_send g c =
    let s = c.self.inside.book in
    let a = name_view c.args.prepared.name c.self.view_is c.requires.name in
    let to = subst (λ (n : Name). n.to < s.log.setup.nodes) (sym c.name-name.ensures.value) a.to in
    fits_view g.P.Plan.start c.in-Err-record_send.ensures.err
    (fits_kept c.self.invariant c.name-name.result.to c.index_mut-buffer.result.now
    c.reserve_flying.new.self to c.index_mut-buffer.ensures.value c.reserve_flying.ensures.run
    c.reserve_flying.ensures.flying c.reserve_flying.ensures.waiting)

pub put-requires-clause-honest : goal.put-requires-clause-honest
put-requires-clause-honest g c =
    let s = c.self.inside.book in
    let p = c.args.prepared in
    let a = name_view p.name c.self.view_is c.requires.name in
    let to = subst (λ (n : Name). n.to < s.log.setup.nodes) (sym c.name-name.ensures.value) a.to in
    run_honest_kept c.self.invariant c.name-name.result.to c.index_mut-buffer.result.now
    c.reserve_flying.new.self c.index_mut-buffer-in-Some.result.now c.in-Some.frame
    to c.index_mut-buffer.ensures.value c.reserve_flying.ensures.run
    c.index_mut-buffer-in-Some.ensures.value
    (prepared_spells (algorithm_of s.log.program s.log.setup) p c.into_sealed.result c.in-Some.frame
    (work_view p c.self.view_is c.requires.work) c.into_sealed.ensures c.in-Some.is)
