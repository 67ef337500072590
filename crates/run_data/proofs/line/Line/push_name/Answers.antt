use Rattle.std.proofs.Common.{◌∙◌, ◌++◌, ap, subst}
use Rattle.std.proofs.lemmas.Result.{IfOk-weaker}
use Rattle.round_lang.specs.Tokens.{IsName}
use Rattle.run_data.proofs.Plain.{name_pushed, quoted_name}
use Rattle.run_data.proofs.line.Line.push_name.Goals as goal

pub returns : goal.returns
returns c =
    let named = c.in_ok-push_all.ensures
    ∙ ap (λ l. c.push.new.self ++ l) (c.as_bytes.ensures.value ∙ c.as_str.ensures.text) in
    IfOk-weaker c.push_all-2.result _ _
    (λ _ e. name_pushed c.args.self.now c.args.name.now c.push.new.self c.push_all.new.self
    c.push_all-2.new.self c.in_ok-push.ensures named e
    (quoted_name c.args.name.now (subst IsName c.as_str.ensures.text c.as_str.ensures.name)))
    c.push_all-2.ensures
