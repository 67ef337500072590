-- The changes of a run in lockstep: the loops that make them, and which of them a run may have.
use Rattle.std.proofs.Common.{◌≡◌, ◌∙◌, ◌++◌, ◌+◌, ◌<◌, ℕ, List, [], ◌∷◌, None, Option, Some}
use Rattle.std.proofs.Common.{zero, suc, ap, append-nil, arith, get_or, length, map, refl}
use Rattle.std.proofs.Common.{subst, sym, true}
use Rattle.std.specs.Prelude.{All, nat_eq, nat_lt, ◌&&◌}
use Rattle.std.specs.List.{cons_option, filter_map, list_any, range_with_len}
use Rattle.std.proofs.lemmas.Bool.{and_parts, lt-ltb}
use Rattle.std.proofs.lemmas.List.Elements.{filter_map-append}
use Rattle.std.proofs.lemmas.List.FromFn.{get_or-map-range_with_len, length-map-range_with_len}
use Rattle.command_runs.specs.Explained.{AreListed}
use Rattle.command_runs.specs.InChanges.{AreChanges, AreFitChanges, IsOfFaulty, Terms, stops_by}
use Rattle.command_runs.specs.InLockstep.{AreTerms}
use Rattle.lockstep_runs.specs.Changes.{AreFit, IsFitDelay, IsFitStop}
use Rattle.lockstep_runs.specs.Lockstep.{IsFit}
use Rattle.lockstep_runs.specs.declared.changes.Changes.{Changes}
use Rattle.omission_texts.specs.declared.line.OmissionLine.{OmissionLine}
use Rattle.round_lang.specs.Sets.{is_in}
use Rattle.round_lang.specs.Syntax.{ProgramTree}
use Rattle.round_meaning.specs.Nodes.{has_node}
use Rattle.round_meaning.specs.Setups.{IsLawful}
use Rattle.round_meaning.specs.declared.setup.Setup.{Setup}
use Rattle.schedule_text.specs.declared.pace.Stop.{Stop}

-- ---- lists that loops make

range_more : (a n : ℕ) → range_with_len a (suc n) ≡ range_with_len a n ++ (a + n) ∷ []
range_more a zero = let e : a ≡ a + 0 = omega arith in ap (λ k. k ∷ []) e
range_more a (suc n) =
    let e : a + 1 + n ≡ a + suc n = omega arith in
    ap (λ l. a ∷ l) (range_more (a + 1) n) ∙ ap (λ k. a ∷ (range_with_len (a + 1) n ++ k ∷ [])) e

-- what h gives of one number more
some_more : {Y : Type 0} (h : ℕ → Option Y) (n : ℕ)
    → filter_map h (range_with_len 0 (n + 1)) ≡ filter_map h (range_with_len 0 n)
    ++ filter_map h (n ∷ [])
some_more h n =
    let e : n + 1 ≡ suc n = omega arith in
    let z : 0 + n ≡ n = omega arith in
    ap (λ m. filter_map h (range_with_len 0 m)) e
    ∙ ap (filter_map h) (range_more 0 n ∙ ap (λ k. range_with_len 0 n ++ k ∷ []) z)
    ∙ filter_map-append h (range_with_len 0 n) (n ∷ [])

pub none_of : {Y : Type 0} (h : ℕ → Option Y) (xs : List Y) (n : ℕ)
    → xs ≡ filter_map h (range_with_len 0 n) → h n ≡ None
    → xs ≡ filter_map h (range_with_len 0 (n + 1))
none_of h xs n so_far none =
    sym (some_more h n ∙ ap (λ o. filter_map h (range_with_len 0 n) ++ cons_option o []) none
    ∙ append-nil (filter_map h (range_with_len 0 n)) ∙ sym so_far)

pub one_of : {Y : Type 0} (h : ℕ → Option Y) (xs ys : List Y) (n : ℕ) (y : Y)
    → xs ≡ filter_map h (range_with_len 0 n) → h n ≡ Some y → ys ≡ xs ++ y ∷ []
    → ys ≡ filter_map h (range_with_len 0 (n + 1))
one_of h xs ys n y so_far some pushed =
    pushed ∙ ap (λ l. l ++ y ∷ []) so_far
    ∙ sym (some_more h n
    ∙ ap (λ o. filter_map h (range_with_len 0 n) ++ cons_option o []) some)

pub all_stops : {Y : Type 0} (h : ℕ → Option Y) (n m : ℕ) (xs : List Y) → n ≡ m
    → xs ≡ filter_map h (range_with_len 0 n) → xs ≡ filter_map h (range_with_len 0 m)
all_stops h n m xs e d = d ∙ ap (λ k. filter_map h (range_with_len 0 k)) e

-- the numbers of steps of all nodes
pub stop_count : (f : ℕ → ℕ) (steps : List ℕ) (n : ℕ) → steps ≡ map f (range_with_len 0 n)
    → length steps ≡ n
stop_count f steps n is = ap length is ∙ length-map-range_with_len f 0 n

pub steps_at : (f : ℕ → ℕ) (steps : List ℕ) (n i d : ℕ) → steps ≡ map f (range_with_len 0 n)
    → i < n → get_or steps i d ≡ f i
steps_at f steps n i d is lt =
    ap (λ xs. get_or xs i d) is ∙ get_or-map-range_with_len f 0 n i i d lt (omega arith)

-- ---- which changes a run may have

module _ (nodes : ℕ) (list : List ℕ) (correct : ℕ) (few : nodes < 65)
    (listed : AreListed nodes list correct) where
  in_set : (i : ℕ) → i < nodes → has_node correct i ≡ list_any (nat_eq i) list
  in_set i below =
      let small : i < 64 = omega (arith, few, below) in
      ap (λ b. b && is_in correct i) (lt-ltb i 64 small) ∙ listed.listed i small

  pub set_below : (i : ℕ) → has_node correct i ≡ true → i < nodes
  set_below i has =
      listed.nodes_alone i (and_parts (nat_lt i 64) (is_in correct i) has).1

  pub stops_in : (s : Setup) (stops : List Stop) → s.nodes ≡ nodes → All (IsOfFaulty s list) stops
      → All (IsFitStop s correct) stops
  stops_in s stops same h = λ k d lt.
      let one = h k d lt in
      let below = subst (λ n. (get_or stops k d).node < n) same one.node in
      record { node = one.node; faulty = in_set (get_or stops k d).node below ∙ one.faulty }

  pub stops_out : (s : Setup) (stops : List Stop) → s.nodes ≡ nodes
      → All (IsFitStop s correct) stops → All (IsOfFaulty s list) stops
  stops_out s stops same h = λ k d lt.
      let one = h k d lt in
      let below = subst (λ n. (get_or stops k d).node < n) same one.node in
      record { node = one.node; faulty = sym (in_set (get_or stops k d).node below) ∙ one.faulty }

module _ (start : ℕ → ℕ) (p : ProgramTree) (s : Setup) (ls : List OmissionLine) (t : Terms)
    (correct : ℕ) (c : Changes) (lawful : IsLawful p.values s)
    (listed : AreListed s.nodes t.correct correct) (changed : AreChanges start s ls t c) where
  few_nodes : s.nodes < 65
  few_nodes = let few = lawful.sized.few_nodes in omega (arith, few)

  -- a run that isn't made has terms or changes that don't fit
  pub not_fit : (IsFit p.values s correct t.bounded × AreFit s correct c → ⊥)
      → ¬ (AreTerms p s t × AreFitChanges start s ls t)
  not_fit none h = none (
    record {
      lawful = lawful;
      nodes = set_below s.nodes t.correct correct few_nodes listed;
      delta = h.0.delta;
      delays = h.0.delays;
      orders = h.0.orders;
    },
    record {
      stops = subst (All (IsFitStop s correct)) (sym changed.stops)
          (stops_in s.nodes t.correct correct few_nodes listed s (stops_by start s ls t.stops)
          refl h.1.stops);
      delays = subst (All (IsFitDelay s)) (sym changed.delays) h.1.delays;
    },
  )

  -- and one that is made has some that fit
  pub all_fit : All (λ n. n < s.nodes) t.correct
      → ¬ ¬ (IsFit p.values s correct t.bounded × AreFit s correct c)
      → ¬ ¬ (AreTerms p s t × AreFitChanges start s ls t)
  all_fit within fit none = fit (λ h. none (
    record {
      setup = lawful;
      listed = within;
      delta = h.0.delta;
      delays = h.0.delays;
      orders = h.0.orders;
    },
    record {
      stops = stops_out s.nodes t.correct correct few_nodes listed s
          (stops_by start s ls t.stops) refl
          (subst (All (IsFitStop s correct)) changed.stops h.1.stops);
      delays = subst (All (IsFitDelay s)) changed.delays h.1.delays;
    },
  ))
