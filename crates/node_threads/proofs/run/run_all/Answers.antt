use denote.Exit.{no}
use denote.Param.Send.{arg_send, arg_sync, param_send, param_sync}
use Rattle.node_threads.proofs.run.run_all.Goals as goal

pub scoped-requires : goal.scoped-requires
scoped-requires g c =
    let P = c.type_bounds.send-P in
    let Q = param_send 2 _ (arg_send _ no _ c.type_bounds.send-Q) in
    let R = param_sync 0 _ (arg_sync _ no _ c.type_bounds.sync-R) in
    let S = c.type_bounds.sync-P in
    let G = param_sync 3 _ (arg_sync _ no _ c.type_bounds.sync-G) in
    let own = c.requires in record {
      at = λ scope. (
        (P, Q, R, S, G),
        (own.flight, (own.known, (own.relay, (P, Q, R, S, G)))),
      );
    }
