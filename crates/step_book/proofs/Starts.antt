-- What a record begins with holds.
use Rattle.std.proofs.Common.{◌≡◌, ℕ, zero, suc, ◌+◌, List, [], ◌∷◌, ◌++◌, sym, refl, ap, ◌∙◌}
use Rattle.std.proofs.Common.{arith, map, replicate, Bool}
use Rattle.std.specs.Prelude.{Vec}
use Rattle.std.specs.List.{range_with_len}
use Rattle.std.specs.declared.sync.Arc.{Arc}
use Rattle.std.proofs.lemmas.List.{map-append, length-replicate, get_or-replicate}
use Rattle.std.proofs.lemmas.List.FromFn.{map-range_with_len_more}
use Rattle.round_lang.specs.declared.value.Value.{Value}
use Rattle.round_lang.specs.Syntax.{ProgramTree}
use Rattle.round_lang.specs.Words.{kind_of}
use Rattle.round_check.specs.Shapes.{state_kinds}
use Rattle.round_meaning.specs.declared.setup.Setup.{Setup}
use Rattle.round_meaning.specs.Rounds.{algorithm, algorithm_of}
use Rattle.round_meaning.specs.Setups.{IsLawful}
use Rattle.round_meaning.specs.Typed.{StartsAreStates}
use Rattle.slot_plans.specs.Plan.{PlanLaws}
use Rattle.run_events.specs.declared.name.Name.{Name}
use Rattle.step_machine.proofs.Typing.{state_of_program}
use Rattle.step_book.specs.declared.mark.Mark.{Mark}
use Rattle.step_book.specs.World.{World, IsPlan}
use Rattle.step_book.specs.History.{buffer_of, handed_of, answers_of}
use Rattle.step_book.specs.Agreement.{Row}
use Rattle.step_book.specs.Log.{Log, IsBookOf, handed_in, opened, world_of, states_of, rows_of}
use Rattle.step_book.specs.Log.{waits_in}
use Rattle.step_book.specs.Mailing.{Mailed, mailed}
use Rattle.step_book.proofs.Keeps.{agrees_empty}
use Rattle.step_book.proofs.Reading.{nodes_are}
use Rattle.step_book.proofs.Serials.{sent_empty}

-- one row more
pub rows_push : {A B : Type 0} (xs ys : List (Vec (Arc (List Value) A) B))
    (y : Vec (Arc (List Value) A) B) (f : ℕ → Row) (n : ℕ) → ys ≡ xs ++ y ∷ []
    → states_of y.items ≡ f n → rows_of xs ≡ map f (range_with_len 0 n)
    → rows_of ys ≡ map f (range_with_len 0 (n + 1))
rows_push {A} {B} xs ys y f n e s h =
    ap rows_of e ∙ map-append (λ (z : Vec (Arc (List Value) A) B). states_of z.items) xs (y ∷ [])
    ∙ ap (λ (x : Row). rows_of xs ++ x ∷ []) s ∙ ap (λ (x : List Row). x ++ f n ∷ []) h
    ∙ sym (map-range_with_len_more f 0 n n (omega arith))

-- the kinds of an initial state are the program's
pub first_kinds : (p : ProgramTree) (s : Setup) (i : ℕ) → StartsAreStates p
    → map kind_of ((algorithm_of p s).init i) ≡ state_kinds p
unfolding algorithm
first_kinds p s i starts = state_of_program p _ (starts s.nodes s.faults _ i)

-- a plan that keeps the laws is a plan of the run
pub plan_is : (start receives : ℕ → ℕ) (nodes : ℕ) (v : Log) → PlanLaws nodes receives start
    → nodes ≡ v.setup.nodes → IsPlan (world_of start v)
plan_is start receives nodes v laws e = record {
  first = laws.first_start;
  next = λ r z. (let n = nodes_are start v in let up = laws.next_start r z in
      let some = laws.some_receive r z in omega arith);
}

buffer_empty : (w : World) (i : ℕ) → buffer_of w i [] ≡ []
unfolding buffer_of
buffer_empty w i = refl

handed_empty : (w : World) (i : ℕ) → handed_of w i [] ≡ []
unfolding handed_of
handed_empty w i = refl

answers_empty : (w : World) → answers_of w [] ≡ []
unfolding answers_of
answers_empty w = refl

map_all : {A B : Type 0} (f : A → B) (n : ℕ) (x : A) → map f (replicate n x) ≡ replicate n (f x)
map_all f zero x = refl
map_all f (suc n) x = ap (λ xs. f x ∷ xs) (map_all f n x)

-- no names wait, and none were handed out
pub none_wait : (n : ℕ) (mails : List Mailed) → mails ≡ replicate n (mailed [] [] 0)
    → waits_in mails ≡ replicate n []
none_wait n mails e = ap waits_in e ∙ map_all (λ (m : Mailed). m.waiting) n (mailed [] [] 0)

pub none_handed : (n : ℕ) (mails : List Mailed) → mails ≡ replicate n (mailed [] [] 0)
    → handed_in mails ≡ replicate n []
none_handed n mails e = ap handed_in e ∙ map_all (λ (m : Mailed). m.handed) n (mailed [] [] 0)

-- a run that begins holds with nothing beside it
pub begins : (start receives : ℕ → ℕ) (nodes : ℕ) (v : Log) (p : ProgramTree) (s : Setup)
    (counts : List ℕ) (tables : List (List Mark)) (waiting : List (List Name))
    (handed : List (List (List Name))) (answers : List Bool) (messages : List Name)
    → PlanLaws nodes receives start → IsLawful p.values s → nodes ≡ s.nodes → v ≡ opened p s
    → counts ≡ replicate s.nodes 0 → tables ≡ [] → waiting ≡ replicate s.nodes []
    → handed ≡ replicate s.nodes [] → answers ≡ [] → messages ≡ []
    → IsBookOf start nodes v counts tables waiting handed answers messages
begins start receives nodes v p s counts tables waiting handed answers messages laws lawful n is a b
    c d e f =
    let o = opened p s in
    let w = world_of start o in
    let m = nodes_are start o in
    let plan = plan_is start receives nodes o laws n in
    rw (is, b) (record {
      lawful = lawful;
      sized = n;
      plan = plan;
      book = agrees_empty w plan counts o.rows (a ∙ ap (λ x. replicate x 0) (sym m))
          (ap (λ x. map (λ i. w.algorithm.init i ∷ []) (range_with_len 0 x)) (sym m));
      waits = rw c (record {
        sized = length-replicate s.nodes [] ∙ sym m;
        held = λ i l. get_or-replicate s.nodes i [] [] (omega arith) ∙ sym (buffer_empty w i);
      });
      accounts = rw (d, e) (record {
        sized = length-replicate s.nodes [] ∙ sym m;
        handed = λ i l. get_or-replicate s.nodes i [] [] (omega arith) ∙ sym (handed_empty w i);
        answered = sym (answers_empty w);
      });
      serials = rw f (sent_empty w);
    })

-- the parts of a run that begins
pub opened_is : (p : ProgramTree) (s : Setup) (v : Log) → v.program ≡ p → v.setup ≡ s → v.trace ≡ []
    → v.rows ≡ (opened p s).rows → v ≡ opened p s
opened_is p s v a b c d =
    ap (λ x. record { program = x; setup = v.setup; trace = v.trace; rows = v.rows }) a
    ∙ ap (λ x. record { program = p; setup = x; trace = v.trace; rows = v.rows }) b
    ∙ ap (λ x. record { program = p; setup = s; trace = x; rows = v.rows }) c
    ∙ ap (λ x. record { program = p; setup = s; trace = []; rows = x }) d
