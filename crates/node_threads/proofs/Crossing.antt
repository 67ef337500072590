-- Which types may go to another thread, or be shared with one.
use Rattle.std.proofs.Crossing.{crosses}
use denote.RattleType.{RattleType}
use Rattle.std.proofs.Common.{◌∷◌, []}
use mir.Syntax.{Sym}
use denote.Param.Send.{
  IsSend,
  IsSync,
  recorded_send,
  sendable,
  shr_send,
  struct_send,
  view_send,
  view_sync,
}
use denote.Ref.{NamedLft}
use denote.Struct.Declared.{shape}
use denote.Struct.Tuple.{TupleAt, field_at, type_at}
use Rattle.round_lang.proofs.expr.Expr.TheLaws.TheKnot as knot
use Rattle.round_lang.proofs.block.Field.TheSendSync as field
use Rattle.round_lang.proofs.expr.BinaryOperator.TheSendSync as binary
use Rattle.round_lang.proofs.expr.Constant.TheSendSync as constant
use Rattle.round_lang.proofs.expr.Ty.TheSendSync as ty
use Rattle.round_lang.proofs.expr.UnaryOperator.TheSendSync as unary
use Rattle.round_lang.proofs.identifier.Identifier.TheSendSync as identifier
use Rattle.round_lang.specs.contracts.program.Program as program
use Rattle.round_check.specs.contracts.checked.Checked as checked
use Rattle.round_lang.proofs.vars.Vars.TheSendSync as vars
use Rattle.round_meaning.proofs.setup.Setup.TheSendSync as setup
use Rattle.frame_format.proofs.layout.Layout.TheSendSync as layout
use Rattle.step_code.proofs.block_code.BlockCode.TheSendSync as block_code
use Rattle.step_code.proofs.instr.Instr.TheSendSync as instr
use Rattle.step_code.proofs.room.Room.TheSendSync as room
use Rattle.run_events.proofs.name.Name.TheSendSync as name
use Rattle.step_machine.proofs.held.Held.TheSendSync as held
use Rattle.step_machine.proofs.origin.Origin.TheSendSync as origin
use Rattle.step_machine.proofs.spoken.Spoken.TheSendSync as spoken
use Rattle.step_machine.specs.contracts.node.Node as node
use Rattle.run_events.proofs.event.Event.TheSendSync as event
use Rattle.run_events.proofs.in_flight.InFlight.TheSendSync as in_flight
use Rattle.step_book.proofs.mailbox.Mailbox.TheSendSync as mail
use Rattle.step_book.proofs.mark.Mark.TheSendSync as mark
use Rattle.step_book.proofs.marks.Marks.TheSendSync as marks
use Rattle.step_book.proofs.round_frames.RoundFrames.TheSendSync as round_frames
use Rattle.step_book.proofs.spare_places.SparePlaces.TheSendSync as spare_places
use Rattle.step_book.proofs.waiting.Waiting.TheSendSync as waiting
use Rattle.slot_plans.specs.declared.plan.Plan as plan
use Rattle.std.specs.declared.cmp.PartialEq as eq
use Rattle.step_book.specs.contracts.book.Book as book
use Rattle.step_book.specs.contracts.book.Book.TheInside as book_inside
use Rattle.step_book.specs.contracts.buffer.Buffer as buffer
use Rattle.step_book.specs.contracts.buffer.Buffer.TheInside as buffer_inside
use Rattle.locked_buffers.specs.contracts.node_buffer.NodeBuffer as node_buffer
use Rattle.locked_buffers.specs.contracts.post.Post as post
use Rattle.locked_buffers.specs.contracts.post.Post.TheInside as post_inside
use denote.Struct.Field.{row_field, shr_ref_field}
use Rattle.round_meaning.specs.contracts.setup.Setup as setup_type
use Rattle.node_threads.specs.contracts.network.Network as network
use Rattle.node_threads.specs.contracts.job.Job as job
use Rattle.node_threads.proofs.flight.Flight.TheSendSync as flight
use Rattle.locked_buffers.specs.contracts.run.Run as run
use Rattle.locked_buffers.specs.contracts.run.Run.TheInside as run_inside
use denote.Param.SendFields.{as_row_send, as_row_sync, declared_send, declared_sync}
use Rattle.locked_buffers.proofs.seat.Relay.TheSendSync as relay
use Rattle.locked_buffers.proofs.seat.Seat.TheSendSync as seat

pub ruleset leaves = (
  field.the_field_send,
  field.the_send,
  field.the_field_sync,
  field.the_sync,
  binary.the_field_send,
  binary.the_send,
  binary.the_field_sync,
  binary.the_sync,
  constant.the_field_send,
  constant.the_send,
  constant.the_field_sync,
  constant.the_sync,
  ty.the_field_send,
  ty.the_send,
  ty.the_field_sync,
  ty.the_sync,
  unary.the_field_send,
  unary.the_send,
  unary.the_field_sync,
  unary.the_sync,
  identifier.the_send,
  identifier.the_sync,
)

pub program_send : IsSend program.the_row
program_send = search (leaves, crosses, knot.crosses, sendable) depth 60 fits 20000

pub program_sync : IsSync program.the_row
program_sync = search (leaves, crosses, knot.crosses, sendable) depth 60 fits 20000

pub checked_send : IsSend checked.the_row
checked_send = search (
  program_send,
  program_sync,
  leaves,
  crosses,
  knot.crosses,
  sendable,
) depth 60 fits 20000

pub checked_sync : IsSync checked.the_row
checked_sync = search (
  program_send,
  program_sync,
  leaves,
  crosses,
  knot.crosses,
  sendable,
) depth 60 fits 20000

pub buffer_send : IsSend buffer.the_row
buffer_send = view_send buffer_inside.the_row _ _ _ _ (declared_send buffer_inside.the_type (
  search (waiting.the_send, sendable) depth 30,
  (
    search (round_frames.the_send, crosses, sendable) depth 30,
    (
      search (spare_places.the_send, sendable) depth 30,
      (
        search (crosses, sendable) depth 30,
        (as_row_send checked.the_field checked_send, (setup.the_send, tt)),
      ),
    ),
  ),
))

pub buffer_sync : IsSync buffer.the_row
buffer_sync = view_sync buffer_inside.the_row _ _ _ _ (declared_sync buffer_inside.the_type (
  search (waiting.the_sync, sendable) depth 30,
  (
    search (round_frames.the_sync, crosses, sendable) depth 30,
    (
      search (spare_places.the_sync, sendable) depth 30,
      (
        search (crosses, sendable) depth 30,
        (as_row_sync checked.the_field checked_sync, (setup.the_sync, tt)),
      ),
    ),
  ),
))

pub node_buffer_send : IsSend node_buffer.the_row
node_buffer_send = declared_send node_buffer.the_type (
  as_row_send buffer.the_field buffer_send,
  (search sendable, tt),
)

pub node_send : IsSend node.the_row
node_send = search (
  checked_send,
  checked_sync,
  setup.the_send,
  setup.the_sync,
  held.the_send,
  held.the_sync,
  layout.the_send,
  layout.the_sync,
  origin.the_send,
  origin.the_sync,
  spoken.the_send,
  vars.the_send,
  vars.the_sync,
  instr.the_send,
  block_code.the_send,
  room.the_send,
  crosses,
  sendable,
) depth 60 fits 20000

pub ruleset parts = (
  setup.the_send,
  setup.the_sync,
  vars.the_send,
  vars.the_sync,
  relay.the_send,
  seat.the_send,
  mail.the_send,
  marks.the_send,
  mark.the_send,
  name.the_send,
  name.the_sync,
  event.the_send,
  in_flight.the_send,
)

module _ (P : RattleType) (p : plan.Ghosts P.Denot) (e : eq.Ghosts P.Denot) where
  pub book_send : IsSend P → IsSend (book.the_row P p e)
  book_send s = view_send (book_inside.the_row P p e) _ _ _ _
      (declared_send (book_inside.the_type P p e) (
        search (event.the_send, crosses, sendable) depth 30,
        (
          search (name.the_send, crosses, sendable) depth 30,
          (
            search (crosses, sendable) depth 30,
            (
              search (crosses, sendable) depth 30,
              (
                search (vars.the_send, vars.the_sync, crosses, sendable) depth 30,
                (
                  search (marks.the_send, sendable) depth 30,
                  (
                    search (mail.the_send, crosses, sendable) depth 30,
                    (
                      as_row_send checked.the_field checked_send,
                      (setup.the_send, (as_row_send (row_field P) s, tt)),
                    ),
                  ),
                ),
              ),
            ),
          ),
        ),
      ))

  pub run_sync : IsSync P → IsSync (run.the_row P p e)
  run_sync y = view_sync (run_inside.the_row P p e) _ _ _ _
      (declared_sync (run_inside.the_type P p e) (
        as_row_sync checked.the_field checked_sync,
        (setup.the_sync, (as_row_sync (row_field P) y, tt)),
      ))

  pub post_sync : IsSend P → IsSync P → IsSync (post.the_row P p e)
  post_sync s y = view_sync (post_inside.the_row P p e) _ _ _ _
      (declared_sync (post_inside.the_type P p e) (
        search (crosses, sendable) depth 30,
        (
          as_row_sync (run.the_field P p e) (run_sync y),
          (
            search (book_send s, crosses, sendable) depth 30,
            (
              search (node_buffer_send, crosses, sendable) depth 30,
              (search (buffer_sync, crosses, sendable) depth 30, tt),
            ),
          ),
        ),
      ))

  pub network_send : (κ : NamedLft) → IsSend P → IsSync P → IsSend (network.the_row κ P p e)
  network_send κ s y = declared_send (network.the_type κ P p e) (
    as_row_send (shr_ref_field κ (post.the_row P p e) tt) (shr_send _ _ _ (post_sync s y)),
    (
      as_row_send (shr_ref_field κ setup_type.the_row tt) (shr_send _ _ _ setup.the_sync),
      (
        as_row_send (row_field P) s,
        (
          relay.the_send,
          (
            flight.the_send,
            (search sendable, (search (name.the_send, crosses, sendable) depth 30, tt)),
          ),
        ),
      ),
    ),
  )

  pub job_send : (κ : NamedLft) → IsSend P → IsSync P → IsSend (job.the_row κ P p e)
  job_send κ s y = declared_send (job.the_type κ P p e) (
    as_row_send (shr_ref_field κ (post.the_row P p e) tt) (shr_send _ _ _ (post_sync s y)),
    (
      as_row_send (row_field P) s,
      (
        search sendable,
        (
          search (crosses, sendable) depth 30,
          (seat.the_send, (as_row_send node.the_field node_send, tt)),
        ),
      ),
    ),
  )

-- a closure may go where all that it captures may
pub closure_send : (ν : Sym) (A B C D : RattleType) → IsSend A → IsSend B → IsSend C → IsSend D
    → IsSend (TupleAt ν (A ∷ B ∷ C ∷ D ∷ []))
closure_send ν A B C D a b c d =
    let all = A ∷ B ∷ C ∷ D ∷ [] in
    recorded_send (field_at ν all).row _ _ (type_at ν all).to_one
    (struct_send (shape (type_at ν all)) (a, (b, (c, (d, tt)))))
