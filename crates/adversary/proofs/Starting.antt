-- The nodes of a run before their first round.
use Rattle.std.proofs.Common.{◌≡◌, ℕ, suc, ◌+◌, ◌-◌, ◌<◌, ◌≤◌, List, [], ◌∷◌, ◌++◌, length, get_or}
use Rattle.std.proofs.Common.{None, sym, ap, subst, ◌∙◌, arith, ◌⊎◌, inl, inr, length-append}
use Rattle.std.specs.Prelude.{replicate}
use Rattle.std.proofs.lemmas.Bool.{cases_lt}
use Rattle.std.proofs.lemmas.List.{get_or-replicate, get_or_append_left, get_or_push}
use Rattle.std.proofs.lemmas.List.FromFn.{get_or-map-range_with_len}
use Rattle.round_lang.specs.Syntax.{ProgramTree}
use Rattle.round_meaning.specs.declared.setup.Setup.{Setup}
use Rattle.round_meaning.specs.Rounds.{algorithm_of}
use Rattle.step_book.proofs.Hearing.{held_first}
use Rattle.step_book.proofs.Reading.{nodes_are}
use Rattle.step_book.specs.Agreement.{Row, row}
use Rattle.step_book.specs.Log.{Log, opened, world_of}
use Rattle.step_machine.proofs.HeldFrames.{no_rows, none_at}
use Rattle.step_machine.specs.Sealed.{held_at}
use Rattle.step_machine.specs.Nodes.{HasPlaces, NodeView, ahead, held_of}
use Rattle.adversary.specs.Driving.{IsNodeOf}

-- the first m nodes of a run
pub record AreFirst (start : ℕ → ℕ) (v : Log) (m : ℕ) (nodes : List NodeView) : Type 0 where
  pub sized : length nodes ≡ m
  pub each : (i : ℕ) (d : NodeView) → i < m → IsNodeOf start v i (get_or nodes i d)

-- each node of a run that begins has its initial state recorded
row_opened : (p : ProgramTree) (s : Setup) (i : ℕ) → i < s.nodes
    → row (opened p s).rows i ≡ (algorithm_of p s).init i ∷ []
row_opened p s i l = get_or-map-range_with_len (λ j. (algorithm_of p s).init j ∷ []) 0 s.nodes i i
    [] l (omega arith)

-- a new node is one of the run's
pub first_node : (start : ℕ → ℕ) (p : ProgramTree) (s : Setup) (i : ℕ) (n : NodeView) → i < s.nodes
    → n ≡ record {
      program = p;
      setup = s;
      me = i;
      round = 1;
      state = (algorithm_of p s).init i;
      held = replicate (suc ahead) (replicate s.nodes None);
      next = None;
    }
    → IsNodeOf start (opened p s) i n
first_node start p s i n l e = record {
  program = ap (λ (m : NodeView). m.program) e;
  setup = ap (λ (m : NodeView). m.setup) e;
  me = ap (λ (m : NodeView). m.me) e;
  round = ap (λ (m : NodeView). m.round) e ∙ sym (ap length (row_opened p s i l));
  state = ap (λ (m : NodeView). m.state) e
      ∙ sym (ap (λ (x : Row). get_or x (length x - 1) []) (row_opened p s i l));
  places = subst (λ (m : NodeView). HasPlaces s.nodes m.held) (sym e)
      (no_rows (algorithm_of p s) s.nodes i 1).places;
  held = λ k q b at l. held_first (world_of start (opened p s)) i q (held_of n k) (λ j c.
      ap (λ (m : NodeView). held_at (held_of m k) j) e ∙ ap (λ x. held_at x j) (none_at s.nodes k b)
      ∙ get_or-replicate s.nodes j None None (let w = nodes_are start (opened p s) in omega arith));
}

pub one_more : (start : ℕ → ℕ) (v : Log) (m : ℕ) (old new : List NodeView) (n : NodeView)
    → AreFirst start v m old → IsNodeOf start v m n → new ≡ old ++ n ∷ []
    → AreFirst start v (m + 1) new
one_more start v m old new n h is e = record {
  sized = ap length e ∙ length-append old (n ∷ []) ∙ ap (λ k. k + 1) h.sized;
  each = λ i d l. subst (λ (x : List NodeView). IsNodeOf start v i (get_or x i d)) (sym e)
      (at i d l (cases_lt i m));
}
  where
    at : (i : ℕ) (d : NodeView) → i < m + 1 → (i < m) ⊎ (m ≤ i)
        → IsNodeOf start v i (get_or (old ++ n ∷ []) i d)
    at i d l (inl before) =
        subst (IsNodeOf start v i)
        (sym (get_or_append_left old (n ∷ []) d i (let z = h.sized in omega arith)))
        (h.each i d before)
    at i d l (inr here) =
        let same : m ≡ i = omega arith in
        subst (IsNodeOf start v i) (sym (get_or_push old n d i (h.sized ∙ same)))
        (subst (λ k. IsNodeOf start v k n) same is)
