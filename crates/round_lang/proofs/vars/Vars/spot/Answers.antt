use Rattle.std.proofs.Common.{◌≡◌, ◌∙◌, ◌-◌, ap, subst, sym, arith, length, length-drop, take, drop}
use Rattle.std.proofs.lemmas.Slice.{between_to_end}
use Rattle.round_lang.specs.Values.{at}
use Rattle.round_lang.specs.Words.{read, values_of, words_before, IsSmall}
use Rattle.round_lang.proofs.Finding.{read-at, small-at, IsFound, IsFound-of}
use Rattle.round_lang.proofs.vars.Vars.spot.Goals as goal
use Rattle.round_lang.proofs.vars.Vars.spot.Goals.{After-as_slice}

found : (c : After-as_slice) → IsFound c.self.inside.shape c.self.inside.words.items c.args.place
    c.in_ok-kind.first c.in_ok-kind.kind
found c =
    let fits = c.as_slice.type_inv.0 in
    IsFound-of _ _ _ _ _ c.self.invariant (omega (arith, fits, ap length c.as_slice.ensures))
    c.in_ok-kind.ensures.some

pub offset_bounds-as_slice-first : goal.offset_bounds-as_slice-first
offset_bounds-as_slice-first c =
    omega (arith, (found c).whole, ap length c.as_slice.ensures, c.as_slice.type_inv.1)

pub slice_bounds-result-count : goal.slice_bounds-result-count
slice_bounds-result-count c = omega (arith, (found c).whole, ap length c.as_slice.ensures)

pub slice_bounds-result-start : goal.slice_bounds-result-start
slice_bounds-result-start c = omega (arith, (found c).whole, ap length c.as_slice.ensures)

-- the rest of the words is what lies behind those before the place
rest_is : (c : After-as_slice) → take (length c.as_slice.result.now - c.in_ok-kind.first)
    (drop c.in_ok-kind.first c.as_slice.result.now)
    ≡ drop (words_before c.self.inside.shape c.args.place) c.self.inside.words.items
rest_is c =
    between_to_end c.as_slice.result.now c.in_ok-kind.first (length c.as_slice.result.now)
    (omega arith)
    ∙ ap (drop c.in_ok-kind.first) c.as_slice.ensures
    ∙ ap (λ first. drop first c.self.inside.words.items) (found c).begins

value_is : (c : After-as_slice)
    → read c.in_ok-kind.kind
    (take (length c.as_slice.result.now - c.in_ok-kind.first)
    (drop c.in_ok-kind.first c.as_slice.result.now))
    ≡ at (values_of c.self.inside.shape c.self.inside.words.items) c.args.place
value_is c =
    ap (read c.in_ok-kind.kind) (rest_is c)
    ∙ read-at c.self.inside.shape c.self.inside.words.items c.args.place c.in_ok-kind.kind
    c.in_ok-kind.ensures.some.within c.in_ok-kind.ensures.some.kind_is

pub returns-clause-value : goal.returns-clause-value
returns-clause-value c = value_is (goal.at.returns-clause-value c).After-as_slice
    ∙ ap (λ vs. at vs c.args.place) c.self.view_is

pub returns-clause-small : goal.returns-clause-small
returns-clause-small c =
    subst IsSmall (sym (value_is (goal.at.returns-clause-small c).After-as_slice))
    (small-at _ c.args.place c.self.invariant.small)

pub returns-clause-whole : goal.returns-clause-whole
returns-clause-whole c =
    let rest : length
    (take (length c.as_slice.result.now - c.in_ok-kind.first)
    (drop c.in_ok-kind.first c.as_slice.result.now)) ≡ length c.self.inside.words.items -
    c.in_ok-kind.first =
    ap length
    (between_to_end c.as_slice.result.now c.in_ok-kind.first (length c.as_slice.result.now)
    (omega arith))
    ∙ length-drop c.in_ok-kind.first c.as_slice.result.now
    ∙ ap (λ words. length words - c.in_ok-kind.first) c.as_slice.ensures in
    omega (arith, rest, (found (goal.at.returns-clause-whole c).After-as_slice).whole)
