use Rattle.std.proofs.Common.{◌∙◌, ap, ◌||◌, arith, rules, sym}
use Rattle.std.proofs.lemmas.Iterator.Search.{all_from_yields_List}
use Rattle.std.proofs.lemmas.Iterator.Splits.{YieldsList-from_str_split}
use Rattle.std.specs.List.{list_all}
use Rattle.schedule_text.specs.Numbers.{is_number}
use Rattle.omission_texts.specs.Forms.{parts_of}
use Rattle.omission_texts.proofs.word.are_nodes.Goals as goal

pub returns-else-eq : goal.returns-else-eq
returns-else-eq c =
    let w = c.args.word.now in
    let none = sym c.eq.ensures ∙ c.if-eq.false in
    let all = all_from_yields_List is_number _ _ _ c.all.ensures.ran
    (YieldsList-from_str_split 44 w (omega arith) c.split.ensures.text c.split.ensures.has_more
    c.split.ensures.pattern) (λ x b q k. search rules) in
    all ∙ ap (λ x. x || list_all is_number (parts_of 44 w)) (sym none)
