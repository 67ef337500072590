-- The frames that a node holds, and the inbox that they are.
use Rattle.std.proofs.Common.{◌≡◌, ◌≢◌, ℕ, suc, ◌+◌, ◌<◌, ◌≤◌, List, [], ◌∷◌, ◌++◌, drop, take}
use Rattle.std.proofs.Common.{length, length-append, length-set, get_or, set, Option, Some, None}
use Rattle.std.proofs.Common.{option_map, refl, sym, ap, subst, ◌∙◌, arith, ◌⊎◌, inl, inr}
use Rattle.std.specs.List.{filter_map, cons_option, range_with_len}
use Rattle.std.specs.Option.{ForSome}
use Rattle.std.specs.Prelude.{IfSome, replicate}
use Rattle.std.proofs.lemmas.Bool.{cases_eq, cases_lt}
use Rattle.std.proofs.lemmas.List.{get_or_default, get_or-replicate, get_or-set_same}
use Rattle.std.proofs.lemmas.List.{get_or-set_other}
use Rattle.std.proofs.lemmas.List.{get_or_append_left, get_or_push, length-replicate}
use Rattle.std.proofs.lemmas.List.Elements.{All-cons}
use Rattle.round_meaning.specs.declared.received.Received.{Received}
use Rattle.round_lang.specs.declared.value.Value.{Value}
use Rattle.round_lang.specs.Syntax.{ProgramTree}
use Rattle.round_meaning.specs.declared.setup.Setup.{Setup}
use Rattle.round_meaning.specs.Rounds.{Algorithm, algorithm_of}
use Rattle.round_meaning.specs.Typed.{IsInboxOf, IsMessageOf}
use Rattle.step_machine.specs.Sealed.{Frame, HeldRow, KeepsTypes, IsHonest, held_at}
use Rattle.step_machine.specs.Nodes.{AreHeld, HasPlaces, IsFrom, IsHeld, ahead, inbox_of}
use Rattle.step_machine.specs.Reading.{AreOfRound, MayBeOfRound}
use Rattle.step_machine.proofs.Typing.{message_of_round, sends_typed}

-- no frames are held well
pub none_held : (a : Algorithm) (n i r : ℕ) → IsHeld a n i r (replicate n None)
none_held a n i r = record {
  each = λ j l f is. let no : None ≡ Some f =
      sym (get_or-replicate n j None None l) ∙ is in absurd cc;
}

pub held_none : (a : Algorithm) (n i r : ℕ) (held : HeldRow) → ((j : ℕ) → held_at held j ≡ None)
    → IsHeld a n i r held
held_none a n i r held none = record {
  each = λ j l f is. let no : None ≡ Some f = sym (none j)
      ∙ is in absurd cc;
}

some_same : (f g : Frame) → Some f ≡ Some g → f ≡ g
some_same f g h = cc

-- one more frame, of its sender
pub one_held : (a : Algorithm) (n i r j : ℕ) (held : HeldRow) (f : Frame) → length held ≡ n → j < n
    → IsFrom a j i r f → IsHeld a n i r held → IsHeld a n i r (set held j (Some f))
one_held a n i r j held f size l new h = record { each = λ k m. at k m (cases_eq k j) }
  where
    at : (k : ℕ) → k < n → (k ≡ j) ⊎ (k ≡ j → ⊥)
        → ForSome (held_at (set held j (Some f)) k) (IsFrom a k i r)
    at k m (inl same) g is =
        let here : Some f ≡ Some g = sym (get_or-set_same held j (Some f) None (omega arith))
        ∙ ap (λ x. held_at (set held j (Some f)) x) (sym same) ∙ is in
        subst (λ x. IsFrom a x i r g) (sym same) (subst (IsFrom a j i r) (some_same f g here) new)
    at k m (inr apart) g is =
        let ne : k ≢ j = apart in
        h.each k m g (sym (get_or-set_other held j k (Some f) None ne) ∙ is)

-- ---- the rounds after the node's

-- the frames held of the k-th round
abbrev pub row_of : List HeldRow → ℕ → HeldRow
row_of held k = get_or held k []

-- a free place for each of n senders
abbrev pub free_row : ℕ → HeldRow
free_row n = replicate n None

pub none_at : (n k : ℕ) → k ≤ ahead → row_of (replicate (suc ahead) (free_row n)) k ≡ free_row n
none_at n k l = get_or-replicate (suc ahead) k (free_row n) [] (omega arith)

free_length : (n : ℕ) → length (free_row n) ≡ n
free_length n = length-replicate n None

pub no_rows : (a : Algorithm) (n i r : ℕ) → AreHeld a n i r (replicate (suc ahead) (free_row n))
no_rows a n i r = record {
  places = record {
    rows = length-replicate (suc ahead) (free_row n);
    sized = λ k l. ap length (none_at n k l) ∙ free_length n;
  };
  each = λ k l. subst (IsHeld a n i (r + k)) (sym (none_at n k l)) (none_held a n i (r + k));
}

-- one more frame, of the k-th round
pub one_row : (a : Algorithm) (n i r k j : ℕ) (held : List HeldRow) (f : Frame) → k ≤ ahead → j < n
    → IsFrom a j i (r + k) f → AreHeld a n i r held
    → AreHeld a n i r (set held k (set (row_of held k) j (Some f)))
one_row a n i r k j held f l m new h = record {
  places = record {
    rows = length-set _ _ _ ∙ h.places.rows;
    sized = λ k' l'. sized k' l' (cases_eq k' k);
  };
  each = λ k' l'. at k' l' (cases_eq k' k);
}
  where
    row : HeldRow
    row = set (row_of held k) j (Some f)

    there : row_of (set held k row) k ≡ row
    there = get_or-set_same held k row [] (let size = h.places.rows in omega arith)

    other : (k' : ℕ) → (k' ≡ k → ⊥) → row_of (set held k row) k' ≡ row_of held k'
    other k' apart = let ne : k' ≢ k = apart in get_or-set_other held k k' row [] ne

    sized : (k' : ℕ) → k' ≤ ahead → (k' ≡ k) ⊎ (k' ≡ k → ⊥)
        → length (row_of (set held k row) k') ≡ n
    sized k' l' (inl same) = ap (λ x. length (row_of (set held k row) x)) same ∙ ap length there
        ∙ length-set _ _ _ ∙ h.places.sized k l
    sized k' l' (inr apart) = ap length (other k' apart) ∙ h.places.sized k' l'

    at : (k' : ℕ) → k' ≤ ahead → (k' ≡ k) ⊎ (k' ≡ k → ⊥)
        → IsHeld a n i (r + k') (row_of (set held k row) k')
    at k' l' (inl same) =
        subst (λ x. IsHeld a n i (r + x) (row_of (set held k row) x)) (sym same)
        (subst (IsHeld a n i (r + k)) (sym there)
        (one_held a n i (r + k) j (row_of held k) f (h.places.sized k l) m new (h.each k l)))
    at k' l' (inr apart) = subst (IsHeld a n i (r + k')) (sym (other k' apart)) (h.each k' l')

-- ---- the next round

-- the rows, the first of them cleared and put last
abbrev pub turned : List HeldRow → HeldRow → List HeldRow
turned held free = drop 1 (set held 0 free) ++ take 1 (set held 0 free)

pub turned_kept : (held : List HeldRow) (free : HeldRow) (k : ℕ) → length held ≡ suc ahead
    → k < ahead → row_of (turned held free) k ≡ row_of held (k + 1)
turned_kept [] free k size l = absurd (omega arith)
turned_kept (x ∷ xs) free k size l =
    get_or_append_left xs (free ∷ []) [] k (omega arith)
    ∙ (let e : suc k ≡ k + 1 = omega arith in ap (row_of (x ∷ xs)) e)

pub turned_last : (held : List HeldRow) (free : HeldRow) → length held ≡ suc ahead
    → row_of (turned held free) ahead ≡ free
turned_last [] free size = absurd (omega arith)
turned_last (x ∷ xs) free size = get_or_push xs free [] ahead (omega arith)

turned_length : (held : List HeldRow) (free : HeldRow) → length held ≡ suc ahead
    → length (turned held free) ≡ suc ahead
turned_length [] free size = absurd (omega arith)
turned_length (x ∷ xs) free size = length-append xs (free ∷ []) ∙ omega arith

pub turned_places : (n : ℕ) (held : List HeldRow) (free : HeldRow)
    → length free ≡ length (row_of held 0) → HasPlaces n held → HasPlaces n (turned held free)
turned_places n held free same h = record {
  rows = turned_length held free h.rows;
  sized = λ k l. at k l (cases_lt k ahead);
}
  where
    at : (k : ℕ) → k ≤ ahead → (k < ahead) ⊎ (ahead ≤ k) → length (row_of (turned held free) k) ≡ n
    at k l (inl before) = ap length (turned_kept held free k h.rows before)
        ∙ h.sized (k + 1) (omega arith)
    at k l (inr past) =
        let last : k ≡ ahead = omega arith in
        ap (λ x. length (row_of (turned held free) x)) last
        ∙ ap length (turned_last held free h.rows) ∙ same ∙ h.sized 0 (omega arith)

pub turned_held : (a : Algorithm) (n i r s : ℕ) (held : List HeldRow) (free : HeldRow) → s ≡ r + 1
    → length free ≡ length (row_of held 0)
    → ((j : ℕ) → held_at free j ≡ None) → AreHeld a n i r held → AreHeld a n i s (turned held free)
turned_held a n i r s held free next same none h = record {
  places = turned_places n held free same h.places;
  each = λ k l. at k l (cases_lt k ahead);
}
  where
    at : (k : ℕ) → k ≤ ahead → (k < ahead) ⊎ (ahead ≤ k)
        → IsHeld a n i (s + k) (row_of (turned held free) k)
    at k l (inl before) =
        let e : r + (k + 1) ≡ s + k = omega arith in
        subst (IsHeld a n i (s + k)) (sym (turned_kept held free k h.places.rows before))
        (subst (λ x. IsHeld a n i x (row_of held (k + 1))) e (h.each (k + 1) (omega arith)))
    at k l (inr past) =
        let last : k ≡ ahead = omega arith in
        held_none a n i (s + k) (row_of (turned held free) k) (λ j.
        ap (λ x. held_at (row_of (turned held free) x) j) last
        ∙ ap (λ x. held_at x j) (turned_last held free h.places.rows) ∙ none j)

-- ---- the inbox

-- what a frame says to a node, under its sender's number
abbrev pub said : ℕ → Option Frame → Option Received
said j o = option_map (λ (f : Frame). record { from = j; message = f.message }) o

said_own : (j : ℕ) (o : Option Frame) → ForSome o (λ f. f.name.from ≡ j)
    → option_map (λ (f : Frame). record { from = f.name.from; message = f.message }) o ≡ said j o
said_own j None h = refl
said_own j (Some f) h = let same : f.name.from ≡ j = h f refl in rw same refl

-- the inbox of frames that stand at their senders' places from k on
inbox_from : (held : HeldRow) (h : ℕ → Option Frame) (k : ℕ)
    → ((j : ℕ) → j < length held → get_or held j None ≡ h (k + j))
    → ((j : ℕ) → j < length held → ForSome (get_or held j None) (λ f. f.name.from ≡ k + j))
    → inbox_of held ≡ filter_map (λ j. said j (h j)) (range_with_len k (length held))
inbox_from [] h k same from = refl
inbox_from (o ∷ os) h k same from =
    let k0 : k + 0 ≡ k = omega arith in
    let here : o ≡ h k = same 0 (omega arith) ∙ ap h k0 in
    let own : ForSome o (λ f. f.name.from ≡ k) = λ f is. from 0 (omega arith) f is ∙ k0 in
    ap (λ (x : Option Received). cons_option x (inbox_of os)) (said_own k o own ∙ ap (said k) here)
    ∙ ap (cons_option (said k (h k))) (inbox_from os h (k + 1)
    (λ j l. same (suc j) (omega arith) ∙ (let e : k + suc j ≡ k + 1 + j = omega arith in ap h e))
    (λ j l f is. from (suc j) (omega arith) f is
    ∙ (let e : k + suc j ≡ k + 1 + j = omega arith in e)))

-- the frames held are the inbox of their senders, in rising order
pub inbox_held : (a : Algorithm) (n i r : ℕ) (held : HeldRow) → length held ≡ n
    → IsHeld a n i r held
    → inbox_of held ≡ filter_map (λ j. said j (held_at held j)) (range_with_len 0 n)
inbox_held a n i r held size h =
    inbox_from held (held_at held) 0
    (λ j l. let e : j ≡ 0 + j = omega arith in ap (held_at held) e)
    (λ j l f is. let m : j < n = omega arith in (h.each j m f is).from
    ∙ (let e : j ≡ 0 + j = omega arith in e))
    ∙ ap (λ m. filter_map (λ j. said j (held_at held j)) (range_with_len 0 m)) size

-- ---- what is sent has its types

-- the message of a frame is one of its round's
pub typed_frame : (a : Algorithm) (f : Frame) → IsHonest a f → (p : ProgramTree) (s : Setup)
    → KeepsTypes p → a ≡ algorithm_of p s → IsMessageOf p f.name.round f.message
typed_frame a f h p s keeps same =
    subst (λ (o : Option (List Value)). IfSome o (IsMessageOf p f.name.round)) h.says
    (sends_typed a p s keeps same f.name.round f.state f.name.from f.name.to h.types)

-- an inbox of frames that each have a message of the round
inbox_typed : (p : ProgramTree) (r : ℕ) (held : HeldRow)
    → ((j : ℕ) → j < length held → ForSome (held_at held j) (λ f. IsMessageOf p r f.message))
    → IsInboxOf p r (inbox_of held)
inbox_typed p r [] h = λ k d l. absurd (omega arith)
inbox_typed p r (None ∷ os) h = inbox_typed p r os (λ j l. h (suc j) (omega arith))
inbox_typed p r ((Some f) ∷ os) h =
    All-cons (λ (m : Received). IsMessageOf p r m.message)
    (record { from = f.name.from; message = f.message }) (inbox_of os)
    (h 0 (omega arith) f refl) (inbox_typed p r os (λ j l. h (suc j) (omega arith)))

module _ (a : Algorithm) (n i r : ℕ) (held : HeldRow) (size : length held ≡ n)
    (h : IsHeld a n i r held) (p : ProgramTree) (s : Setup) (keeps : KeepsTypes p)
    (same : a ≡ algorithm_of p s) where
  typed_at : (j : ℕ) → j < length held → ForSome (held_at held j) (λ f. IsMessageOf p r f.message)
  typed_at j l f is =
      let from = h.each j (omega (arith, size)) f is in
      subst (λ q. IsMessageOf p q f.message) from.round (typed_frame a f from.honest p s keeps same)

  -- the frames held of a round have messages of the round
  pub held_typed : IsInboxOf p r (inbox_of held)
  held_typed = inbox_typed p r held typed_at

  may_be : (o : Option Frame) → ForSome o (λ f. IsMessageOf p r f.message) → MayBeOfRound p r o
  may_be None t = tt
  may_be (Some f) t = message_of_round p r f.message (t f refl)

  -- and so the code can read them
  pub are_of_round : AreOfRound p r held
  are_of_round k d l = subst (MayBeOfRound p r) (get_or_default held k None d l)
      (may_be (held_at held k) (typed_at k l))
