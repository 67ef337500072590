use Rattle.std.proofs.Common.{◌≡◌, subst}
use Rattle.run_events.specs.Names.{original}
use Rattle.step_journal.specs.Fits.{place_among}
use Rattle.locked_buffers.specs.Acts.{made_by}
use Rattle.locked_buffers.specs.declared.act.Act.{Act}
use Rattle.locked_buffers.proofs.Copies.{spelt_made}
use Rattle.locked_buffers.proofs.network.perform.Goals as goal

pub put-requires-clause-honest : goal.put-requires-clause-honest
put-requires-clause-honest g c =
    let frames = c.args.buffer.now.frames in
    let nodes = c.args.run.now.setup.nodes in
    let n = c.args.name in
    spelt_made frames n.copy n.round (place_among nodes (original n)) c.args.found.copied
    c.in-Some.frame c.honest.ensures
    (subst (λ (a : Act). c.args.found.copied ≡ made_by nodes a n frames) c.in-Copy.is
    c.requires.ready.copied) c.in-Some.is
