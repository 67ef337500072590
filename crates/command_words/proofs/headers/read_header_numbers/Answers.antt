use Rattle.std.proofs.Common.{◌≡◌, ◌∙◌, [], ap, subst, sym}
use Rattle.std.specs.List.{after_first, before_first}
use Rattle.clap.specs.Words.{Text}
use Rattle.command_words.specs.Headers.{HeaderText}
use Rattle.command_words.specs.Values.{NumberText, is_colon}
use Rattle.command_words.specs.declared.headers.HeaderNumbers.{HeaderNumbers}
use Rattle.command_words.proofs.HeaderLemmas.{nothing_behind, nothing_behind_both, numbers_in}
use Rattle.command_words.proofs.headers.read_header_numbers.Goals as goal

pub returns-in_err-nodes-clause-none : goal.returns-in_err-nodes-clause-none
returns-in_err-nodes-clause-none c =
    rw c.from_residual-in_err-nodes.ensures
    (λ (h : HeaderNumbers) (is : HeaderText c.args.name.now h).
    nothing_behind c.in_ok-numbers.numbers.now c.in_err-nodes.ensures.none h
    (subst (λ (t : Text). HeaderText t h) c.in_ok-numbers.ensures is))

pub returns-in_err-faults-clause-none : goal.returns-in_err-faults-clause-none
returns-in_err-faults-clause-none c =
    rw c.from_residual-in_err-faults.ensures
    (λ (h : HeaderNumbers) (is : HeaderText c.args.name.now h).
    nothing_behind_both c.in_ok-numbers.numbers.now
    (subst (λ (t : Text). after_first is_colon t ≡ []) c.in_ok-nodes.ensures.after
    c.in_err-faults.ensures.none) h
    (subst (λ (t : Text). HeaderText t h) c.in_ok-numbers.ensures is))

pub returns-in_err-nodes-2-clause-none : goal.returns-in_err-nodes-2-clause-none
returns-in_err-nodes-2-clause-none c =
    rw c.from_residual-in_err-nodes-2.ensures
    (λ (h : HeaderNumbers) (is : HeaderText c.args.name.now h).
    c.in_err-nodes-2.ensures.none h.nodes
    (subst (λ (t : Text). NumberText t h.nodes) (sym c.in_ok-nodes.ensures.before)
    (numbers_in c.in_ok-numbers.numbers.now h
    (subst (λ (t : Text). HeaderText t h) c.in_ok-numbers.ensures is)).nodes))

pub returns-in_err-faults-2-clause-none : goal.returns-in_err-faults-2-clause-none
returns-in_err-faults-2-clause-none c =
    rw c.from_residual-in_err-faults-2.ensures
    (λ (h : HeaderNumbers) (is : HeaderText c.args.name.now h).
    c.in_err-faults-2.ensures.none h.faults
    (subst (λ (t : Text). NumberText t h.faults)
    (sym (c.in_ok-faults.ensures.before ∙ ap (before_first is_colon) c.in_ok-nodes.ensures.after))
    (numbers_in c.in_ok-numbers.numbers.now h
    (subst (λ (t : Text). HeaderText t h) c.in_ok-numbers.ensures is)).faults))

pub returns-in_err-rounds-clause-none : goal.returns-in_err-rounds-clause-none
returns-in_err-rounds-clause-none c =
    rw c.from_residual-in_err-rounds.ensures
    (λ (h : HeaderNumbers) (is : HeaderText c.args.name.now h).
    c.in_err-rounds.ensures.none h.rounds
    (subst (λ (t : Text). NumberText t h.rounds)
    (sym (c.in_ok-faults.ensures.after ∙ ap (after_first is_colon) c.in_ok-nodes.ensures.after))
    (numbers_in c.in_ok-numbers.numbers.now h
    (subst (λ (t : Text). HeaderText t h) c.in_ok-numbers.ensures is)).rounds))
