-- Frames that a node takes one after the other.
use Rattle.std.proofs.Common.{◌≡◌, ◌≢◌, ◌↔◌, refl, sym, Option, Some, None, IsSome, ℕ, suc, ◌+◌}
use Rattle.std.proofs.Common.{◌<◌, ◌≤◌, List, [], ◌∷◌, length, get_or, set, subst, ap, ◌∙◌, arith}
use Rattle.std.proofs.Common.{◌⊎◌, inl, inr, length-set}
use Rattle.std.specs.Prelude.{All}
use Rattle.std.proofs.lemmas.Bool.{and_from, and_left, and_right, cases_eq, cases_lt, cond-false}
use Rattle.std.proofs.lemmas.Bool.{cond-true, eq-eqb, ne_eqb}
use Rattle.std.proofs.lemmas.List.{get_or-set_other, get_or-set_same}
use Rattle.round_meaning.specs.Rounds.{Algorithm}
use Rattle.step_book.specs.Buffers.{IsMail}
use Rattle.step_book.specs.Taking.{HasTaken, IsSameBut, frame_from, held_or}
use Rattle.step_machine.specs.declared.node.Taken.{Taken}
use Rattle.step_machine.specs.declared.node.Taken.TheVariants.{Kept, Late, Early, Doubled}
use Rattle.step_machine.specs.Sealed.{Frame, HeldRow, held_at}
use Rattle.step_machine.specs.Nodes.{HasPlaces, IsDoubled, IsInReach, NodeView, ahead, algorithm_in}
use Rattle.step_machine.specs.Nodes.{held_of, held_with, rounds_ahead}

-- the frames that are left are for the node, which is as it was but for what it holds
pub record IsTaking (first now : NodeView) (rest : List Frame) : Type 0 where
  pub same : IsSameBut first now
  pub frames : All (IsMail (algorithm_in first) first.setup.nodes first.me) rest

-- the next frame is for the node, and so are those after it
pub next_for : (a : Algorithm) (n i : ℕ) (f : Frame) (all rest : List Frame) → all ≡ f ∷ rest
    → All (IsMail a n i) all → IsMail a n i f × All (IsMail a n i) rest
next_for a n i f all rest e h =
    let P : List Frame → Type 0 = λ l. All (IsMail a n i) l in
    let here : All (IsMail a n i) (f ∷ rest) = subst P e h in
    (here 0 f (omega arith), λ k d l. here (suc k) d (omega arith))

-- a frame that is for the node as it was is for it as it is
pub for_now : (first now : NodeView) (f : Frame) → IsSameBut first now
    → IsMail (algorithm_in first) first.setup.nodes first.me f
    → IsMail (algorithm_in now) now.setup.nodes now.me f
for_now first now f same h =
    let p = same.program in
    let s = same.setup in
    rw (p, s, same.me) h

same_by : (old new : NodeView) (held : List HeldRow) → new ≡ record old { held = held }
    → IsSameBut old new
same_by old new held e = record {
  program = ap (λ (n : NodeView). n.program) e;
  setup = ap (λ (n : NodeView). n.setup) e;
  me = ap (λ (n : NodeView). n.me) e;
  round = ap (λ (n : NodeView). n.round) e;
  state = ap (λ (n : NodeView). n.state) e;
}

-- a node that was handed a frame is as it was but for what it holds
taken_same : (old new : NodeView) (held : List HeldRow) (t : Taken)
    → (t ≡ Kept → new ≡ record old { held = held }) → (t ≢ Kept → new ≡ old) → IsSameBut old new
taken_same old new held Kept kept dropped = same_by old new held (kept refl)
taken_same old new held Late kept dropped = same_by old new old.held (dropped (λ e. cc))
taken_same old new held Early kept dropped = same_by old new old.held (dropped (λ e. cc))
taken_same old new held Doubled kept dropped = same_by old new old.held (dropped (λ e. cc))

same_then : (first old new : NodeView) → IsSameBut first old → IsSameBut old new
    → IsSameBut first new
same_then first old new a b = record {
  program = b.program ∙ a.program;
  setup = b.setup ∙ a.setup;
  me = b.me ∙ a.me;
  round = b.round ∙ a.round;
  state = b.state ∙ a.state;
}

-- the node took one frame
pub taking_next : (first old new : NodeView) (f : Frame) (all rest : List Frame)
    (held : List HeldRow) (t : Taken) → IsTaking first old all → all ≡ f ∷ rest
    → (t ≡ Kept → new ≡ record old { held = held }) → (t ≢ Kept → new ≡ old)
    → IsTaking first new rest
taking_next first old new f all rest held t h e kept dropped = record {
  same = same_then first old new h.same (taken_same old new held t kept dropped);
  frames = (next_for _ _ _ f all rest e h.frames).1;
}

-- ---- what it holds

-- what a node answers to a frame, and what it is then
pub record IsHanded (old new : NodeView) (f : Frame) (t : Taken) : Type 0 where
  pub late : (t ≡ Late) ↔ (f.name.round < old.round)
  pub early : (t ≡ Early) ↔ (old.round + ahead < f.name.round)
  pub doubled : (t ≡ Doubled) ↔ IsDoubled old f
  pub kept : (t ≡ Kept) → new ≡ record old { held = held_with old f }
  pub dropped : (t ≢ Kept) → new ≡ old

or_none : (a : Option Frame) → held_or a None ≡ a
or_none None = refl
or_none (Some f) = refl

or_held : (a b : Option Frame) → IsSome a → held_or a b ≡ a
or_held None b h = cc
or_held (Some f) b h = refl

not_held : (a : Option Frame) → ¬ IsSome a → a ≡ None
not_held None h = refl
not_held (Some f) h = absurd (h refl)

from_own : (r j : ℕ) (f : Frame) (fs : List Frame) → f.name.round ≡ r → f.name.from ≡ j
    → frame_from r j (f ∷ fs) ≡ Some f
from_own r j f fs a b = cond-true _ _ _ (and_from _ _ (eq-eqb _ _ a) (eq-eqb _ _ b))

from_other_round : (r j : ℕ) (f : Frame) (fs : List Frame) → (f.name.round ≡ r → ⊥)
    → frame_from r j (f ∷ fs) ≡ frame_from r j fs
from_other_round r j f fs a = cond-false _ _ _ (and_left _ _ (ne_eqb _ _ a))

from_other : (r j : ℕ) (f : Frame) (fs : List Frame) → (f.name.from ≡ j → ⊥)
    → frame_from r j (f ∷ fs) ≡ frame_from r j fs
from_other r j f fs a = cond-false _ _ _ (and_right _ _ (ne_eqb _ _ a))

-- the row of a list of rows
abbrev row_in : List HeldRow → ℕ → HeldRow
row_in held k = get_or held k []

-- a place that the node left as it was
held_still : (old new : NodeView) (f : Frame) (fs : List Frame) (k j : ℕ) → new ≡ old
    → frame_from (old.round + k) j (f ∷ fs) ≡ frame_from (old.round + k) j fs
    → held_or (held_at (held_of new k) j) (frame_from (old.round + k) j fs)
    ≡ held_or (held_at (held_of old k) j) (frame_from (old.round + k) j (f ∷ fs))
held_still old new f fs k j same none =
    ap (λ (n : NodeView). held_or (held_at (held_of n k) j) (frame_from (old.round + k) j fs)) same
    ∙ ap (held_or (held_at (held_of old k) j)) (sym none)

-- a frame that was kept, at its place
put_there : (rows : List HeldRow) (k j : ℕ) (f : Frame) → k < length rows
    → j < length (row_in rows k)
    → held_at (row_in (set rows k (set (row_in rows k) j (Some f))) k) j ≡ Some f
put_there rows k j f l m =
    ap (λ r. held_at r j) (get_or-set_same rows k (set (row_in rows k) j (Some f)) [] l)
    ∙ get_or-set_same (row_in rows k) j (Some f) None m

-- and at another sender's
put_beside : (rows : List HeldRow) (k i j : ℕ) (f : Frame) → k < length rows → j ≢ i
    → held_at (row_in (set rows k (set (row_in rows k) i (Some f))) k) j ≡ held_at (row_in rows k) j
put_beside rows k i j f l ne =
    ap (λ r. held_at r j) (get_or-set_same rows k (set (row_in rows k) i (Some f)) [] l)
    ∙ get_or-set_other (row_in rows k) i j (Some f) None ne

-- a place after one frame, with those to come
module _ (old new : NodeView) (f : Frame) (fs : List Frame)
    (places : HasPlaces old.setup.nodes old.held) (within : f.name.from < old.setup.nodes) where
  held_next : (t : Taken) → IsHanded old new f t → (k j : ℕ) → k ≤ ahead
      → held_or (held_at (held_of new k) j) (frame_from (old.round + k) j fs)
      ≡ held_or (held_at (held_of old k) j) (frame_from (old.round + k) j (f ∷ fs))
  held_next Late h k j l =
      let before : f.name.round < old.round = h.late.0 refl in
      held_still old new f fs k j (h.dropped (λ e. cc))
      (from_other_round (old.round + k) j f fs (λ e. omega arith))
  held_next Early h k j l =
      let after : old.round + ahead < f.name.round = h.early.0 refl in
      held_still old new f fs k j (h.dropped (λ e. cc))
      (from_other_round (old.round + k) j f fs (λ e. omega arith))
  held_next Doubled h k j l = at (cases_eq f.name.round (old.round + k)) (cases_eq f.name.from j)
    where
      at : (f.name.round ≡ old.round + k) ⊎ (f.name.round ≡ old.round + k → ⊥)
          → (f.name.from ≡ j) ⊎ (f.name.from ≡ j → ⊥)
          → held_or (held_at (held_of new k) j) (frame_from (old.round + k) j fs)
          ≡ held_or (held_at (held_of old k) j) (frame_from (old.round + k) j (f ∷ fs))
      at (inr apart) c = held_still old new f fs k j (h.dropped (λ e. cc))
          (from_other_round (old.round + k) j f fs apart)
      at (inl now) (inr apart) = held_still old new f fs k j (h.dropped (λ e. cc))
          (from_other (old.round + k) j f fs apart)
      at (inl now) (inl same) =
          let full = (h.doubled.0 refl).1 in
          let row : rounds_ahead old f ≡ k = omega arith in
          let here : IsSome (held_at (held_of old k) j) =
          subst (λ x. IsSome (held_at (held_of old x) j)) row
          (subst (λ x. IsSome (held_at (held_of old (rounds_ahead old f)) x)) same full) in
          ap (λ (n : NodeView). held_or (held_at (held_of n k) j) (frame_from (old.round + k) j fs))
          (h.dropped (λ e. cc))
          ∙ or_held _ _ here ∙ sym (or_held _ _ here)
  held_next Kept h k j l = at (cases_eq f.name.round (old.round + k)) (cases_eq f.name.from j)
    where
      begun : (f.name.round < old.round) ⊎ (old.round ≤ f.name.round) → old.round ≤ f.name.round
      begun (inl less) = let t : ◌≡◌ {A = Taken} Kept Late = h.late.1 less in cc
      begun (inr le) = le

      near : (old.round + ahead < f.name.round) ⊎ (f.name.round ≤ old.round + ahead)
          → f.name.round ≤ old.round + ahead
      near (inl more) = let t : ◌≡◌ {A = Taken} Kept Early = h.early.1 more in cc
      near (inr le) = le

      reach : IsInReach old f
      reach = record {
        begun = begun (cases_lt f.name.round old.round);
        near = near (cases_lt (old.round + ahead) f.name.round);
      }

      row : ℕ
      row = rounds_ahead old f

      row_in_reach : row ≤ ahead
      row_in_reach = let a = reach.begun in let b = reach.near in omega arith

      free : held_at (held_of old row) f.name.from ≡ None
      free = not_held _ (λ some. let t : ◌≡◌ {A = Taken} Kept Doubled = h.doubled.1 (reach, some) in
          cc)

      rows : row < length old.held
      rows = let size = places.rows in let b = row_in_reach in omega arith

      -- what the node holds of a round now
      now_is : (x : ℕ) → held_of new x ≡ row_in (held_with old f) x
      now_is x = ap (λ (n : NodeView). held_of n x) (h.kept refl)

      at : (f.name.round ≡ old.round + k) ⊎ (f.name.round ≡ old.round + k → ⊥)
          → (f.name.from ≡ j) ⊎ (f.name.from ≡ j → ⊥)
          → held_or (held_at (held_of new k) j) (frame_from (old.round + k) j fs)
          ≡ held_or (held_at (held_of old k) j) (frame_from (old.round + k) j (f ∷ fs))
      at (inr apart) c =
          let ne : k ≢ row = λ e. apart (let a = reach.begun in omega arith) in
          ap (λ r. held_or (held_at r j) (frame_from (old.round + k) j fs)) (now_is k
          ∙ get_or-set_other old.held row k (set (held_of old row) f.name.from (Some f)) [] ne)
          ∙ ap (held_or (held_at (held_of old k) j))
          (sym (from_other_round (old.round + k) j f fs apart))
      at (inl now) (inl same) =
          let here : row ≡ k = omega arith in
          let there = put_there old.held row f.name.from f rows
          (let size = places.sized row row_in_reach in omega arith) in
          let held : held_at (held_of new k) j ≡ Some f =
          ap (λ x. held_at (held_of new x) j) (sym here) ∙ ap (held_at (held_of new row)) (sym same)
          ∙ ap (λ r. held_at r f.name.from) (now_is row) ∙ there in
          let none : held_at (held_of old k) j ≡ None =
          ap (λ x. held_at (held_of old x) j) (sym here) ∙ ap (held_at (held_of old row)) (sym same)
          ∙ free in
          ap (λ o. held_or o (frame_from (old.round + k) j fs)) held
          ∙ sym (from_own (old.round + k) j f fs now same)
          ∙ ap (λ o. held_or o (frame_from (old.round + k) j (f ∷ fs))) (sym none)
      at (inl now) (inr apart) =
          let here : row ≡ k = omega arith in
          let ne : j ≢ f.name.from = λ e. apart (sym e) in
          let held : held_at (held_of new k) j ≡ held_at (held_of old k) j =
          ap (λ x. held_at (held_of new x) j) (sym here) ∙ ap (λ r. held_at r j) (now_is row)
          ∙ put_beside old.held row f.name.from j f rows ne
          ∙ ap (λ x. held_at (held_of old x) j) here in
          ap (λ o. held_or o (frame_from (old.round + k) j fs)) held
          ∙ ap (held_or (held_at (held_of old k) j)) (sym (from_other (old.round + k) j f fs apart))

-- the places are as many as before
put_places : (n k j : ℕ) (o : Option Frame) (held : List HeldRow) → HasPlaces n held
    → HasPlaces n (set held k (set (row_in held k) j o))
put_places n k j o held h = record {
  rows = length-set _ _ _ ∙ h.rows;
  sized = λ x l. at x l (cases_eq x k);
}
  where
    at : (x : ℕ) → x ≤ ahead → (x ≡ k) ⊎ (x ≡ k → ⊥)
        → length (row_in (set held k (set (row_in held k) j o)) x) ≡ n
    at x l (inl same) =
        let few : k < length held = let size = h.rows in omega arith in
        ap (λ y. length (row_in (set held k (set (row_in held k) j o)) y)) same
        ∙ ap length (get_or-set_same held k (set (row_in held k) j o) [] few)
        ∙ length-set _ _ _ ∙ ap (λ y. length (row_in held y)) (sym same) ∙ h.sized x l
    at x l (inr apart) = let ne : x ≢ k = apart in
        ap length (get_or-set_other held k x (set (row_in held k) j o) [] ne) ∙ h.sized x l

places_next : (old new : NodeView) (f : Frame) (t : Taken) → IsHanded old new f t → (n : ℕ)
    → HasPlaces n old.held → HasPlaces n new.held
places_next old new f Kept h n p =
    subst (λ (m : NodeView). HasPlaces n m.held) (sym (h.kept refl))
    (put_places n (rounds_ahead old f) f.name.from (Some f) old.held p)
places_next old new f Late h n p =
    subst (λ (m : NodeView). HasPlaces n m.held) (sym (h.dropped (λ e. cc))) p
places_next old new f Early h n p =
    subst (λ (m : NodeView). HasPlaces n m.held) (sym (h.dropped (λ e. cc))) p
places_next old new f Doubled h n p =
    subst (λ (m : NodeView). HasPlaces n m.held) (sym (h.dropped (λ e. cc))) p

-- a node that has a place for each sender took some of the frames: with the rest it will hold what
-- it has to
pub record IsTakingAll (first now : NodeView) (all rest : List Frame) : Type 0 where
  pub taking : IsTaking first now rest
  pub sized : HasPlaces first.setup.nodes now.held
  pub places : (n : ℕ) → HasPlaces n first.held → HasPlaces n now.held
  pub held : (k j : ℕ) → k ≤ ahead
      → held_or (held_at (held_of now k) j) (frame_from (first.round + k) j rest)
      ≡ held_or (held_at (held_of first k) j) (frame_from (first.round + k) j all)

-- before the first frame
pub takes_first : (n : NodeView) (all rest : List Frame) → HasPlaces n.setup.nodes n.held
    → All (IsMail (algorithm_in n) n.setup.nodes n.me) all → rest ≡ all → IsTakingAll n n all rest
takes_first n all rest sized mail e = record {
  taking = record {
    same = record { program = refl; setup = refl; me = refl; round = refl; state = refl };
    frames = subst (λ (fs : List Frame). All (IsMail (algorithm_in n) n.setup.nodes n.me) fs)
        (sym e) mail;
  };
  sized = sized;
  places = λ m p. p;
  held = λ k j l. ap (λ fs. held_or (held_at (held_of n k) j) (frame_from (n.round + k) j fs)) e;
}

-- one frame more
pub takes_next : (first now new : NodeView) (f : Frame) (all some rest : List Frame) (t : Taken)
    → IsTakingAll first now all some → some ≡ f ∷ rest → IsHanded now new f t
    → IsTakingAll first new all rest
takes_next first now new f all some rest t h e handed =
    let setup = h.taking.same.setup in
    let here = (next_for _ _ _ f some rest e h.taking.frames).0 in
    let within : f.name.from < now.setup.nodes = let from = here.from in
    let nodes = ap (λ s. s.nodes) setup in omega arith in
    let sized : HasPlaces now.setup.nodes now.held =
    subst (λ s. HasPlaces s.nodes now.held) (sym setup) h.sized in
    let same : now.round ≡ first.round = h.taking.same.round in
    record {
      taking = taking_next first now new f some rest _ t h.taking e handed.kept handed.dropped;
      sized = places_next now new f t handed first.setup.nodes h.sized;
      places = λ n p. places_next now new f t handed n (h.places n p);
      held = λ k j l.
          ap (λ r. held_or (held_at (held_of new k) j) (frame_from (r + k) j rest)) (sym same)
          ∙ held_next now new f rest sized within t handed k j l
          ∙ ap (λ r. held_or (held_at (held_of now k) j) (frame_from (r + k) j (f ∷ rest))) same
          ∙ ap (λ fs. held_or (held_at (held_of now k) j) (frame_from (first.round + k) j fs))
          (sym e)
          ∙ h.held k j l;
    }

-- after the last
pub takes_last : (first now : NodeView) (all rest : List Frame) → IsTakingAll first now all rest
    → rest ≡ [] → HasTaken first now all
takes_last first now all rest h e = record {
  same = h.taking.same;
  places = h.places;
  held = λ k j l. sym (or_none (held_at (held_of now k) j))
      ∙ ap (λ fs. held_or (held_at (held_of now k) j) (frame_from (first.round + k) j fs)) (sym e)
      ∙ h.held k j l;
}
