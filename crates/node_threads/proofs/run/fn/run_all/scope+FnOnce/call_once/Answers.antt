use Rattle.node_threads.proofs.run.fn.run_all.scope+FnOnce.call_once.Goals as goal

pub scope-requires : goal.scope-requires
scope-requires g c =
    let own = c.requires.1.1.1.1 in
    let bounds = own.1.1.1.1 in (
      bounds.0,
      (
        bounds.1,
        (
          bounds.2,
          (bounds.3, (bounds.4, (own.0, (own.1.0, (own.1.1.0, own.1.1.1.0))))),
        ),
      ),
    )
