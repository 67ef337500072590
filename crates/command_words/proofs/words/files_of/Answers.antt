use Rattle.std.proofs.Common.{◌∙◌, Bor, List, ap, map, option_map, sym}
use Rattle.clap.proofs.WalkLemmas.{raw_values-rows}
use Rattle.clap.specs.Words.{Text, found_of}
use Rattle.command_words.proofs.words.files_of.Goals as goal

pub returns-in_ok-from_slice-in-Some-clause-ok : goal.returns-in_ok-from_slice-in-Some-clause-ok
returns-in_ok-from_slice-in-Some-clause-ok c =
    let given = sym (c.get_strs.ensures ∙ raw_values-rows (found_of c.args.matches.now) _) in
    rw c.in_ok-from_slice-in-Some.ensures.items
    (given ∙ ap (option_map (λ (s : Bor (List (Bor Text))). map (λ (v : Bor Text). v.now) s.now))
    c.in-Some.is)

pub returns-in-None-clause-err : goal.returns-in-None-clause-err
returns-in-None-clause-err c =
    let given = sym (c.get_strs.ensures ∙ raw_values-rows (found_of c.args.matches.now) _) in
    given ∙ ap (option_map (λ (s : Bor (List (Bor Text))). map (λ (v : Bor Text). v.now) s.now))
    c.in-None.is
