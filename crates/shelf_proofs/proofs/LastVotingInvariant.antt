-- The invariant of LastVoting: once a majority has taken a value in a phase, no other value is
-- proposed in a later one, since the newest stamp of any majority is of that phase or later.
use Rattle.std.proofs.Common.{◌≡◌, ℕ, ◌+◌, ◌-◌, ◌*◌, ◌<◌, ◌≤◌, Bool, true}
use Rattle.std.proofs.Common.{false, cond, min, refl, sym, ◌∙◌, subst}
use Rattle.std.proofs.Common.{arith}
use Rattle.std.specs.Prelude.{nat_le}
use Rattle.std.proofs.lemmas.List.Elements.{All-get_or}
use Rattle.std.proofs.lemmas.Bool.{leb-true}
use Rattle.round_lang.specs.Sets.{is_in, least}
use Rattle.round_lang.specs.Values.{mod_or_0}
use Rattle.round_meaning.specs.declared.setup.Setup.{Setup}
use Rattle.round_meaning.specs.Agreement.{IsInput}
use Rattle.round_meaning.proofs.Hearing.{count, count_more, some_counted}
use Rattle.round_proofs.specs.Safety.{IsFit}
use Rattle.shelf_proofs.proofs.LastVotingSteps.{Node}
use Rattle.shelf_proofs.proofs.LastVotingSteps.{top}

abbrev pub World : Type 0
World = ℕ → Node

-- node j took its value in phase f or later
abbrev pub since : World → ℕ → ℕ → Bool
since w f j = nat_le f (w j).stamp

-- a majority took its value in some phase or later, and each node that did so took v
pub record Locked (s : Setup) (r : ℕ) (w : World) (v : ℕ) : Type 0 where
  pub phase : ℕ
  pub many : s.nodes < 2 * count (since w phase) 0 s.nodes
  pub same : (j : ℕ) → j < s.nodes → phase ≤ (w j).stamp → (w j).x ≡ v

-- before each round
pub record Always (s : Setup) (w : World) : Type 0 where
  pub inputs : (i : ℕ) → i < s.nodes → IsInput s (w i).x
  pub counts : (i : ℕ) → i < s.nodes → (w i).count ≡ 0
  pub newest : (i : ℕ) → i < s.nodes → (w i).newest ≡ 0
  pub decided : (i v : ℕ) → i < s.nodes → is_in (w i).done v ≡ true → Locked s 0 w v

abbrev pub owner : Setup → ℕ → ℕ
owner s f = mod_or_0 (f - 1) s.nodes

-- only the owner has a vote, and it's an input
abbrev pub Votes : Setup → ℕ → World → Type 0
Votes s f w = (i u : ℕ) → i < s.nodes → is_in (w i).vote u ≡ true → (i ≡ owner s f) × IsInput s u

-- a vote is one value
abbrev pub Single : Setup → World → Type 0
Single s w =
    (i u v : ℕ) → i < s.nodes → is_in (w i).vote u ≡ true → is_in (w i).vote v ≡ true → u ≡ v

abbrev pub NoneReady : Setup → World → Type 0
NoneReady s w = (i : ℕ) → i < s.nodes → (w i).ready ≡ false

-- before the first round of phase f
pub record Before (s : Setup) (f : ℕ) (w : World) : Type 0 where
  pub always : Always s w
  pub early : (i : ℕ) → i < s.nodes → (w i).stamp < f
  pub no_vote : (i : ℕ) → i < s.nodes → (w i).vote ≡ 0
  pub none_ready : NoneReady s w

-- before the second
pub record Voting (s : Setup) (f : ℕ) (w : World) : Type 0 where
  pub always : Always s w
  pub early : (i : ℕ) → i < s.nodes → (w i).stamp < f
  pub votes : Votes s f w
  pub single : Single s w
  pub safe : (i u v : ℕ) → i < s.nodes → is_in (w i).vote u ≡ true → Locked s 0 w v → u ≡ v
  pub none_ready : NoneReady s w

-- before the third
pub record Taken (k : ℕ) (s : Setup) (f : ℕ) (w : World) : Type 0 where
  pub always : Always s w
  pub early : (i : ℕ) → i < s.nodes → (w i).stamp ≤ f
  pub votes : Votes s f w
  pub single : Single s w
  pub taken : (i : ℕ) → i < s.nodes → (w i).stamp ≡ f → (w i).x ≡ least k (w (owner s f)).vote
  pub none_ready : NoneReady s w

-- before the fourth
pub record Ready (k : ℕ) (s : Setup) (f : ℕ) (w : World) : Type 0 where
  pub always : Always s w
  pub early : (i : ℕ) → i < s.nodes → (w i).stamp ≤ f
  pub ready : (i : ℕ) → i < s.nodes → (w i).ready ≡ true → Locked s 0 w (least k (w i).vote)

-- a fit setup over k values, at most 64
pub record Suits (k : ℕ) (s : Setup) : Type 0 where
  pub small : k ≤ 64
  pub fit : IsFit k s

pub below : (k : ℕ) (s : Setup) → Suits k s → (v : ℕ) → IsInput s v → v < k
below k s ok v h =
    subst (λ x. x < k) h.2
    (All-get_or (λ x. x < k) s.inputs h.0 0 (omega (arith, h.1, ok.fit.inputs)) ok.fit.below)

-- a lock depends only on values and stamps
pub locked_same : (s : Setup) (q r : ℕ) (w z : World) (v : ℕ)
    → ((i : ℕ) → i < s.nodes → ((z i).x ≡ (w i).x) × ((z i).stamp ≡ (w i).stamp))
    → Locked s q w v → Locked s r z v
locked_same s q r w z v eq l = record {
  phase = l.phase;
  many =
      let more = count_more (since w l.phase) (since z l.phase) 0 s.nodes
      (λ j lo hi t. subst (λ n. nat_le l.phase n ≡ true) (sym (eq j (omega arith)).1) t) in
      omega (arith, l.many);
  same = λ j hj h. (eq j hj).0 ∙ l.same j hj (subst (λ n. l.phase ≤ n) (eq j hj).1 h);
}

-- some node has a value that is locked
pub holder : (s : Setup) (r : ℕ) (w : World) (v : ℕ) (l : Locked s r w v)
    → (j : ℕ) × (j < s.nodes) × (l.phase ≤ (w j).stamp) × ((w j).x ≡ v)
holder s r w v l =
    let j = some_counted (since w l.phase) 0 s.nodes (omega (arith, l.many)) in
    let hj : j.0 < s.nodes = omega (arith, j.2) in
    let h = leb-true l.phase (w j.0).stamp j.3 in
    (j.0, hj, h, l.same j.0 hj h)

pub chosen : (P : ℕ → Type 0) (b : Bool) (x y : ℕ) → (b ≡ true → P x) → (b ≡ false → P y)
    → P (cond b x y)
chosen P true x y f g = f refl
chosen P false x y f g = g refl

pub one_more : (x : ℕ) → x < top → min (x + 1) top ≡ x + cond true 1 0
one_more x h = omega arith
