use Rattle.std.proofs.Common.{◌≡◌, ◌↔◌, IsTrue, rules}
use Rattle.round_lang.specs.Equality.{is_same_answer}
use Rattle.round_lang.proofs.row.RowPartialEq.eq.Goals as goal

pub returns : goal.returns
returns c =
    let h : IsTrue c.eq.result ↔ (c.args.self.now ≡ c.args.other.now) = search rules in
    is_same_answer _ _ _ _ h
