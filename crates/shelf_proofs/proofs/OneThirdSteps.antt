-- OneThirdRule as steps of nodes. No reader has to believe this file: `spells` ties it to the
-- program.
use Rattle.std.proofs.Common.{◌≡◌, ℕ, zero, suc, ◌+◌, ◌/◌, ◌<◌, Bool, true, false, cond, List, []}
use Rattle.std.proofs.Common.{◌∷◌, map, refl, ap, ◌∙◌, Option, Some, arith}
use Rattle.std.specs.Prelude.{min, nat_lt, nat_le, ◌==◌, slice_get, slice_index, replicate}
use Rattle.std.specs.Prelude.{if◌then◌else◌}
use Rattle.std.specs.List.{range_with_len}
use Rattle.round_lang.specs.declared.value.Value.{Value}
use Rattle.round_lang.specs.declared.value.Value.TheVariants.{Num, Row}
use Rattle.round_lang.specs.Sets.{least, members, set_of, size}
use Rattle.round_lang.specs.Values.{num, of_set}
use Rattle.round_meaning.specs.Turn.{decision, first_member, message_taken, round_finished, sent}
use Rattle.round_meaning.specs.Turn.{with_dest, with_vars}
use Rattle.round_proofs.specs.Machines.{Machine, Round, Spells, env_in}
use Rattle.shelf_proofs.specs.OneThirdRule.{one_third_rule_tree}

abbrev pub top : ℕ
top = 4294967295

-- a node's variables
pub record Node : Type 0 where
  pub x : ℕ
  pub heard : ℕ
  pub votes : List ℕ
  pub done : ℕ

abbrev pub state : Node → List Value
state a = Num a.x ∷ Num a.heard ∷ Row a.votes ∷ of_set a.done ∷ []

abbrev pub letter : Round → ℕ → List Value
letter r v = Num v ∷ []

abbrev pub votes_of : Node → ℕ → ℕ
votes_of a w = slice_index a.votes w

-- the votes with one for v
abbrev pub with_vote : ℕ → ℕ → Node → ℕ → ℕ
with_vote k v a w = num (if (w == v) then Num (min (votes_of a w + 1) top) else Num (votes_of a w))

abbrev pub take : ℕ → ℕ → Node → Node
take k v a = record {
  x = a.x;
  heard = min (a.heard + 1) top;
  votes = map (with_vote k v a) (range_with_len 0 k);
  done = a.done;
}

abbrev pub thrice : ℕ → ℕ
thrice a = min (min (a + a) top + a) top

-- all but a third of what was heard is for w
abbrev pub leads : ℕ → Node → ℕ → Bool
leads n a w = nat_le a.heard (min (votes_of a w + n / 3) top)

abbrev pub present : Node → ℕ → Bool
present a w = nat_lt 0 (votes_of a w)

-- more than two thirds of the nodes are for w
abbrev pub wins : ℕ → Node → ℕ → Bool
wins n a w = nat_lt (min (n + n) top) (thrice (votes_of a w))

-- too few were heard
abbrev pub is_deaf : ℕ → Node → Bool
is_deaf n a = nat_le (thrice a.heard) (min (n + n) top)

abbrev pub next_x : ℕ → ℕ → Node → ℕ
next_x k n a =
    if is_deaf n a then a.x
    else (if nat_lt 0 (size (set_of k (leads n a))) then least k (set_of k (leads n a))
    else least k (set_of k (present a)))

abbrev pub next_done : ℕ → ℕ → Node → ℕ
next_done k n a = if nat_lt 0 (size (set_of k (wins n a))) then set_of k (wins n a) else a.done

abbrev pub finish : ℕ → ℕ → Node → Node
finish k n a = record {
  x = next_x k n a;
  heard = 0;
  votes = replicate k 0;
  done = next_done k n a;
}

abbrev pub machine : ℕ → ℕ → Machine Node ℕ
machine k n = record {
  start = λ x i. record { x = x; heard = 0; votes = replicate k 0; done = 0 };
  sends = λ r a j i. true;
  message = λ r a j i. a.x;
  take = λ r i j v a. take k v a;
  finish = λ r i a. finish k n a;
}

choose_num : (b : Bool) (x y : ℕ) → cond b (Num x) (Num y) ≡ Num (cond b x y)
choose_num true x y = refl
choose_num false x y = refl

choose_set : (b : Bool) (x y : ℕ) → cond b (of_set x) (of_set y) ≡ of_set (cond b x y)
choose_set true x y = refl
choose_set false x y = refl

ends : (k n t : ℕ) (a : Node)
    → cond (is_deaf n a) (Num a.x)
    (cond (nat_lt 0 (size (set_of k (leads n a)))) (Num (least k (set_of k (leads n a))))
    (Num (least k (set_of k (present a)))))
    ∷ Num 0 ∷ Row (replicate k 0)
    ∷ cond (nat_lt 0 (size (set_of k (wins n a)))) (of_set (set_of k (wins n a))) (of_set a.done)
    ∷ [] ≡ state (finish k n a)
ends k n t a =
    ap (λ v. cond (is_deaf n a) (Num a.x) v ∷ Num 0 ∷ Row (replicate k 0)
    ∷ cond (nat_lt 0 (size (set_of k (wins n a)))) (of_set (set_of k (wins n a))) (of_set a.done)
    ∷ []) (choose_num (nat_lt 0 (size (set_of k (leads n a)))) (least k (set_of k (leads n a)))
    (least k (set_of k (present a))))
    ∙ ap (λ v. v ∷ Num 0 ∷ Row (replicate k 0)
    ∷ cond (nat_lt 0 (size (set_of k (wins n a)))) (of_set (set_of k (wins n a))) (of_set a.done)
    ∷ []) (choose_num (is_deaf n a) a.x _)
    ∙ ap (λ v. Num (next_x k n a) ∷ Num 0 ∷ Row (replicate k 0) ∷ v ∷ [])
    (choose_set (nat_lt 0 (size (set_of k (wins n a)))) (set_of k (wins n a)) a.done)

sent_is : (k n t q number phase : ℕ) (a : Node) (j i : ℕ) → q < 1
    → sent (slice_get (one_third_rule_tree k).blocks q) (with_dest i (with_vars (state a)
    (env_in (one_third_rule_tree k) n t
    (record { position = q; number = number; phase = phase }) j)))
    ≡ Some (Num a.x ∷ [])
sent_is k n t zero number phase a j i h = refl
sent_is k n t (suc q) number phase a j i h = absurd (omega arith)

took : (k n t q number phase i j v : ℕ) (a : Node) → q < 1
    → message_taken (slice_get (one_third_rule_tree k).blocks q)
    (env_in (one_third_rule_tree k) n t (record { position = q; number = number; phase = phase }) i)
    (record { from = j; message = Num v ∷ [] }) (state a) ≡ state (take k v a)
took k n t zero number phase i j v a h = refl
took k n t (suc q) number phase i j v a h = absurd (omega arith)

finished : (k n t q number phase i : ℕ) (a : Node) → q < 1
    → round_finished (slice_get (one_third_rule_tree k).blocks q)
    (env_in (one_third_rule_tree k) n t (record { position = q; number = number; phase = phase }) i)
    (state a) ≡ state (finish k n a)
finished k n t zero number phase i a h = ends k n t a
finished k n t (suc q) number phase i a h = absurd (omega arith)

-- the steps are those of the program
pub spells : (k n t : ℕ) → Spells (one_third_rule_tree k) n t (machine k n) state letter
spells k n t = record {
  period = omega arith;
  start = λ x i. refl;
  send = λ r a j i h. sent_is k n t r.position r.number r.phase a j i h;
  take = λ r i j v a h. took k n t r.position r.number r.phase i j v a h;
  finish = λ r i a h. finished k n t r.position r.number r.phase i a h;
}

abbrev pub decided : Node → Option ℕ
decided a = first_member (members a.done)

pub shows : (k : ℕ) (a : Node) → decision (one_third_rule_tree k) (state a) ≡ decided a
shows k a = refl
