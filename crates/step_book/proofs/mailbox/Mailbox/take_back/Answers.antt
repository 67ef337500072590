use Rattle.std.proofs.Common.{
  ◌≡◌,
  ◌-◌,
  ◌∷◌,
  ◌++◌,
  [],
  ◌∙◌,
  ap,
  arith,
  drop,
  get_or,
  length,
  take,
  vec_len,
}
use Rattle.step_book.specs.Mailing.{Mailed}
use Rattle.step_book.proofs.Mails.{back_is, handed_back, mail_back, parts_len, waiting_back}
use Rattle.step_book.proofs.mailbox.Mailbox.take_back.Goals as goal

-- how many receives are left, by the ends and by what was handed out
left : (c : goal.After-self-1) → vec_len c.self.inside.ends - 1 ≡ length c.args.self.now.handed - 1
left c =
    let all = parts_len 0 c.self.inside.ends.items c.self.inside.names.items in
    let seen = ap (λ (m : Mailed). length m.handed) c.self.view_is in
    omega arith

-- where what waits begins, by the end of the last receive that is left
begins : (c : goal.After-self-1)
    → c.start_of-self-inside.result ≡ get_or (0 ∷ c.pop-end.new.self.items)
    (length c.pop-end.new.self.items) 0
begins c =
    let next = c.pop-end.new.self.items in
    let size : c.len.result ≡ length next = let size = c.len.ensures in omega arith in
    c.start_of-self-inside.ensures ∙ ap (λ xs. get_or (0 ∷ xs) c.len.result 0) c.deref.ensures.value
    ∙ ap (λ k. get_or (0 ∷ next) k 0) size

pub invariant_of-self : goal.invariant_of-self
invariant_of-self c = mail_back c.self.invariant c.pop-end.new.self.items _
    c.start_of-self-inside.result c.pop-end.ensures.rest (begins c)

pub returns-clause-handed : goal.returns-clause-handed
returns-clause-handed c =
    handed_back c.self.invariant c.pop-end.new.self.items (length c.args.self.now.handed - 1)
    (c.pop-end.ensures.rest ∙ ap (λ k. take k c.self.inside.ends.items) (left c))
    ∙ ap (λ (m : Mailed). take (length c.args.self.now.handed - 1) m.handed) c.self.view_is

pub returns-clause-waiting : goal.returns-clause-waiting
returns-clause-waiting c =
    let ends = c.self.inside.ends.items in
    let names = c.self.inside.names.items in
    let k = length c.args.self.now.handed - 1 in
    let size : k ≡ length ends - 1 = let same = left c in omega arith in
    ap (λ l. drop l names)
    (back_is c.self.invariant c.pop-end.new.self.items k c.start_of-self-inside.result
    (c.pop-end.ensures.rest ∙ ap (λ n. take n ends) (left c)) (begins c))
    ∙ waiting_back c.self.invariant k size
    ∙ ap (λ (m : Mailed). get_or m.handed (length c.args.self.now.handed - 1) [] ++ m.waiting)
    c.self.view_is
