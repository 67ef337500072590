-- The names of frames, as they are noted one by one.
use Rattle.std.proofs.Common.{
  ◌≡◌,
  ℕ,
  ◌+◌,
  ◌-◌,
  ◌<◌,
  ◌≤◌,
  List,
  [],
  ◌∷◌,
  ◌++◌,
  Some,
  None,
  refl,
  ap,
  arith,
  length,
  subst,
  sym,
  take,
  ◌∙◌,
}
use Rattle.std.specs.Prelude.{All, slice_get}
use Rattle.std.proofs.lemmas.List.{get_or-map, length-append, length-map, map_more, take_all}
use Rattle.std.proofs.lemmas.List.Elements.{All-nil, All-push}
use Rattle.std.proofs.lemmas.Option.{get_or_from_slice_get, slice_get_within}
use Rattle.round_meaning.specs.declared.setup.Setup.{Setup}
use Rattle.run_events.specs.declared.name.Name.{Name}
use Rattle.step_machine.specs.Sealed.{Frame}
use Rattle.step_book.specs.Buffers.{names_in}
use Rattle.step_book.specs.Mailing.{Mailed}
use Rattle.step_book.specs.Names.{IsName}
use Rattle.step_book.proofs.Pieces.{past_all}

-- what waits are the names of the first frames, which are of messages of the run
pub record AreNoted (s : Setup) (frames : List Frame) (before now : Mailed) : Type 0 where
  pub handed : now.handed ≡ before.handed
  pub names : now.waiting ≡ names_in (take (length now.waiting) frames)
  pub known : All (IsName s) now.waiting
  pub within : length now.waiting ≤ length frames

-- the name of the next frame behind those of the frames before it
next_names : (frames : List Frame) (n m : ℕ) (f : Frame) → slice_get frames n ≡ Some f → m ≡ n + 1
    → names_in (take m frames) ≡ names_in (take n frames) ++ f.name ∷ []
next_names frames n m f is more =
    let there = slice_get_within frames n f is in
    let own = ap (λ (z : Frame). z.name) (get_or_from_slice_get frames n f f is) in
    ap (λ k. names_in (take k frames)) more ∙ map_more (λ (z : Frame). z.name) frames n f there
    ∙ ap (λ x. names_in (take n frames) ++ x ∷ []) own

pub none_noted : (s : Setup) (frames : List Frame) (before : Mailed) → before.waiting ≡ []
    → AreNoted s frames before before
none_noted s frames before none = record {
  handed = refl;
  names = none ∙ ap (λ (w : List Name). names_in (take (length w) frames)) (sym none);
  known = subst (All (IsName s)) (sym none) (All-nil (IsName s));
  within = let size = ap length none in omega arith;
}

pub one_noted : (s : Setup) (frames : List Frame) (before old new : Mailed) (n : ℕ) (f : Frame)
    (name : Name) → slice_get frames n ≡ Some f → n ≡ length old.waiting
    → name ≡ f.name → IsName s name → new.handed ≡ old.handed
    → new.waiting ≡ old.waiting ++ name ∷ []
    → AreNoted s frames before old → AreNoted s frames before new
one_noted s frames before old new n f name is size named known kept pushed h =
    let more : length new.waiting ≡ n + 1 = ap length pushed ∙ length-append old.waiting (name ∷ [])
    ∙ ap (λ k. k + 1) (sym size) in record {
      handed = kept ∙ h.handed;
      names = pushed ∙ ap (λ x. old.waiting ++ x ∷ []) named ∙ ap (λ ns. ns ++ f.name ∷ []) h.names
          ∙ ap (λ k. names_in (take k frames) ++ f.name ∷ []) (sym size)
          ∙ sym (next_names frames n (length new.waiting) f is more);
      known = subst (All (IsName s)) (sym pushed)
          (All-push (IsName s) old.waiting name h.known known);
      within = let there = slice_get_within frames n f is in omega (arith, there, more);
    }

-- fewer frames are left then
pub fewer_left : (frames : List Frame) (old new : List Name) (n : ℕ) (f : Frame) (name : Name)
    → slice_get frames n ≡ Some f → n ≡ length old
    → new ≡ old ++ name ∷ [] → length frames - length new < length frames - length old
fewer_left frames old new n f name is size pushed =
    let there = slice_get_within frames n f is in
    let more : length new ≡ length old + 1 = ap length pushed ∙ length-append old (name ∷ []) in
    omega (arith, there, size, more)

-- these are all where there is no frame behind them
pub all_noted : (s : Setup) (frames : List Frame) (before now : Mailed) (n : ℕ)
    → slice_get frames n ≡ None → n ≡ length now.waiting
    → AreNoted s frames before now → now.waiting ≡ names_in frames
all_noted s frames before now n gone size h =
    h.names ∙ ap names_in (ap (λ k. take k frames) (sym size)
    ∙ take_all n frames (past_all frames n gone))

-- if one is of no message of the run, not all are
pub one_unknown : (s : Setup) (frames : List Frame) (n : ℕ) (f : Frame) (name : Name)
    → slice_get frames n ≡ Some f → name ≡ f.name
    → (IsName s name → ⊥) → All (IsName s) (names_in frames) → ⊥
one_unknown s frames n f name is named off known =
    let there = slice_get_within frames n f is in
    let long = length-map frames (λ (z : Frame). z.name) in
    off (subst (IsName s) (get_or-map (λ (z : Frame). z.name) frames n f f.name there
    ∙ ap (λ (z : Frame). z.name) (get_or_from_slice_get frames n f f is) ∙ sym named)
    (known n f.name (omega (arith, there, long))))
