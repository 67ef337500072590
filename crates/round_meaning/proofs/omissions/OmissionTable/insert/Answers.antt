use Rattle.std.proofs.Common.{ap, ◌∙◌}
use Rattle.std.specs.Prelude.{◌||◌}
use Rattle.round_meaning.specs.declared.omissions.Omission.{Omission}
use Rattle.round_meaning.specs.Omissions.{is_omitted, omits}
use Rattle.round_meaning.proofs.OmissionLaws.{is_omitted-insert_key, omits-tied}
use Rattle.round_meaning.proofs.omissions.OmissionTable.insert.Goals as goal

pub returns-clause-ok : goal.returns-clause-ok
returns-clause-ok c = λ i r j.
    let o : Omission = record {
      receiver = c.args.receiver;
      round = c.args.round;
      sender = c.args.sender;
    } in
    ap (λ os. is_omitted os i r j) c.in_ok-insert.ensures.keys
    ∙ is_omitted-insert_key _ i r j c.self.inside.omissions.keys o (λ x e. omits-tied i r j o x e)
    ∙ ap (λ os. omits i r j o || is_omitted os i r j) c.self.view_is
