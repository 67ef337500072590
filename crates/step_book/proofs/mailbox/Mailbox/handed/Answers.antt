use Rattle.std.proofs.Common.{◌≡◌, ◌<◌, ◌-◌, ◌∷◌, [], ◌∙◌, ap, arith, drop, get_or, length, sym}
use Rattle.std.proofs.Common.{take}
use Rattle.std.proofs.lemmas.List.{get_or_default, get_or_past}
use Rattle.step_book.specs.Mailing.{Mailed, parts}
use Rattle.step_book.proofs.Mails.{part_at, part_high, part_low, parts_len}
use Rattle.step_book.proofs.mailbox.Mailbox.handed.Goals as goal

pub returns-then-receive-len : goal.returns-then-receive-len
returns-then-receive-len c =
    let past = c.if-receive-len.true in
    let size = c.len.ensures in
    let all = parts_len 0 c.self.inside.ends.items c.self.inside.names.items in
    sym (get_or_past (parts 0 c.self.inside.ends.items c.self.inside.names.items) c.args.receive []
    (omega arith))
    ∙ ap (λ (m : Mailed). get_or m.handed c.args.receive []) c.self.view_is

low : (c : goal.After-row_known-1) → c.args.receive < length c.self.inside.ends.items
low c = let in_list = c.if-receive-len.false in let size = c.len.ensures in omega arith

end_is : (c : goal.After-row_known-1)
    → c.index.result.now ≡ get_or c.self.inside.ends.items c.args.receive 0
end_is c = c.index.ensures
    ∙ sym (get_or_default c.self.inside.ends.items c.args.receive 0 c.index.result.now (low c))

start_is : (c : goal.After-row_known-1)
    → c.start_of-start.result ≡ get_or (0 ∷ c.self.inside.ends.items) c.args.receive 0
start_is c = c.start_of-start.ensures
    ∙ ap (λ xs. get_or (0 ∷ xs) c.args.receive 0) c.deref.ensures.value

pub between-requires-clause-rising : goal.between-requires-clause-rising
between-requires-clause-rising c =
    let rises = part_low c.self.invariant c.args.receive (low c) in
    let start = start_is c in
    let end = end_is c in
    omega arith

pub between-requires-clause-within : goal.between-requires-clause-within
between-requires-clause-within c =
    let within = part_high c.self.invariant c.args.receive (low c) in
    let end = end_is c in
    let size = ap length c.deref-2.ensures.value in
    omega arith

pub returns : goal.returns
returns c =
    let names = c.self.inside.names.items in
    c.between.ensures
    ∙ ap (λ xs. take (c.index.result.now - c.start_of-start.result)
    (drop c.start_of-start.result xs)) c.deref-2.ensures.value
    ∙ ap (λ e. take (e - c.start_of-start.result) (drop c.start_of-start.result names))
    (c.index.ensures
    ∙ sym (get_or_default c.self.inside.ends.items c.args.receive 0 c.index.result.now
    (let in_list = c.if-receive-len.false in let size = c.len.ensures in omega arith)))
    ∙ ap (λ s. take (get_or c.self.inside.ends.items c.args.receive 0 - s) (drop s names))
    (c.start_of-start.ensures
    ∙ ap (λ xs. get_or (0 ∷ xs) c.args.receive 0) c.deref.ensures.value)
    ∙ sym (part_at 0 c.self.inside.ends.items names c.args.receive
    (let in_list = c.if-receive-len.false in let size = c.len.ensures in omega arith))
    ∙ ap (λ (m : Mailed). get_or m.handed c.args.receive []) c.self.view_is
