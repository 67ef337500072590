use Rattle.std.proofs.Common.{
  ◌≡◌,
  ◌∙◌,
  ◌≤◌,
  ℕ,
  List,
  Option,
  Some,
  None,
  ap,
  get_or,
  length,
  position,
  subst,
}
use Rattle.std.specs.Str.{bytes_eq}
use Rattle.round_lang.specs.Sets.{members}
use Rattle.round_lang.specs.Syntax.{ProgramTree}
use Rattle.round_lang.specs.declared.program.Variable.{Variable}
use Rattle.round_meaning.proofs.LookUps.{decided-found, decided-missed}
use Rattle.round_meaning.specs.Turn.{first_member}
use Rattle.omission_explainer.specs.StoredDecisions.{IsDecidedAt}
use Rattle.omission_explainer.proofs.stored_decision.decided_place.Goals as goal

-- the decided variable is that of the first decided name
named : (p : ProgramTree) (x : List ℕ) (place : Option ℕ) → 1 ≤ length p.decides
    → x ≡ get_or p.decides 0 x → place ≡ position (λ (d : Variable). bytes_eq d.name x) p.variables
    → IsDecidedAt p place
named p x None some first missed state =
    ap (λ s. first_member (members s)) (decided-missed p state p.decides x some first missed)
named p x (Some i) some first found state =
    ap (λ s. first_member (members s)) (decided-found p state p.decides x i some first found)

pub returns : goal.returns
returns c =
    let p = c.args.program.now in
    let x = c.name-item.result in
    let some = subst (λ xs. 1 ≤ length xs) c.decides.ensures c.in-len1-up.len_at_least in
    let first = c.name-item.is ∙ ap (λ xs. get_or xs 0 x) c.decides.ensures in
    let here = c.place_of.ensures
    ∙ ap (position (λ (d : Variable). bytes_eq d.name x)) c.variables.ensures.value in
    named p x c.place_of.result some first here
