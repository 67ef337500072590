use Rattle.std.proofs.Common.{[], ◌∷◌, ◌++◌, ap, sym, subst, ◌∙◌, arith}
use Rattle.std.specs.List.{All}
use Rattle.std.proofs.lemmas.List.{get_or_read}
use Rattle.std.proofs.lemmas.List.Elements.{All-push}
use Rattle.round_meaning.specs.declared.setup.Setup.{Setup}
use Rattle.round_meaning.specs.Nodes.{has_node}
use Rattle.round_meaning.specs.Rounds.{algorithm, algorithm_of}
use Rattle.round_explorer.specs.Reached.{end_without}
use Rattle.round_explorer.specs.Searched.{Track, note_of, search_of}
use Rattle.step_code.specs.Turns.{IsOfState}
use Rattle.round_explorer.specs.Searched.{Loses}
use Rattle.run_samples.proofs.RunLaws.{ends_by}
use Rattle.run_samples.proofs.running.end_node.Goals as goal

pub returns-clause-part : goal.returns-clause-part
unfolding algorithm
returns-clause-part c =
    let p = c.args.program.now in
    let a = algorithm_of p c.args.case.now.setup in
    let w = search_of p c.args.case.now in
    let before = c.args.before.now in
    let r = c.args.round in
    let i = c.args.me in
    let missed = has_node c.args.missed.bits in
    let setup = c.setup-setup.ensures in
    let state = c.end.new.state in
    let old = get_or_read before i _ (omega arith) c.index-before-me.is [] in
    let mid = c.lose.new.self in
    let lost = subst (λ (s : Setup). Loses c.args.part.now mid i r s.nodes missed) setup
    c.in_ok-lose.ensures in
    ends_by w before r i missed c.args.part.now mid c.end-2.new.self state c.in_ok-note.note lost
    (c.in_ok-end.ensures.state
    ∙ ap (λ q. end_without (algorithm_of q c.setup-setup.result.now) missed before r i)
    c.requires.machine
    ∙ ap (λ (s : Setup). end_without (algorithm_of p s) missed before r i) setup)
    (c.in_ok-note.ensures ∙ ap (λ b. note_of w r i b state) old) c.in_ok-end-2.ensures

pub returns-clause-kinds : goal.returns-clause-kinds
returns-clause-kinds c =
    let p = c.args.program.now in
    let old = c.args.part.now.states in
    let state = c.end.new.state in
    let states = ap (λ (x : Track). x.states) c.in_ok-end-2.ensures
    ∙ ap (λ (x : Track). x.states ++ state ∷ []) c.in_ok-lose.ensures.is in
    subst (All (IsOfState p)) (sym states) (All-push (IsOfState p) old state c.requires.part
    (subst (λ q. IsOfState q state) c.requires.machine c.in_ok-end.ensures.kinds))
