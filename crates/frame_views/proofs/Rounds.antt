-- Frames that lie one behind the other.
use Rattle.std.proofs.Common.{◌≡◌, ℕ, zero, suc, ◌+◌, ◌-◌, ◌*◌, ◌<◌, List, [], ◌∷◌, ◌++◌, length}
use Rattle.std.proofs.Common.{take, drop, arith, refl, sym, ap, subst, ◌∙◌}
use Rattle.std.proofs.lemmas.List.{drop-drop, length-append, length-set, take_at}
use Rattle.round_lang.specs.declared.value.Value.{Value}
use Rattle.frame_format.specs.Formats.{Format}
use Rattle.frame_format.specs.Spelling.{Spells}
use Rattle.frame_views.specs.Writing.{AreAddressed, AreToAll, addressed, first_copy, frame_size}
use Rattle.frame_views.specs.Writing.{nth_frame}

nth_is : (n : ℕ) (bytes : List ℕ) (i : ℕ) → nth_frame n bytes i ≡ take n (drop (i * n) bytes)
nth_is n bytes i =
    let e : i * n + n - i * n ≡ n = omega arith in
    ap (λ (x : ℕ). take x (drop (i * n) bytes)) e

first_is : (n : ℕ) (a b : List ℕ) → length a ≡ n → nth_frame n (a ++ b) 0 ≡ a
first_is n a b len =
    let e : 0 * n ≡ 0 = omega arith in
    nth_is n (a ++ b) 0 ∙ ap (λ (x : ℕ). take n (drop x (a ++ b))) e ∙ take_at a b n len

drop_front : (a b : List ℕ) (n : ℕ) → length a ≡ n → drop n (a ++ b) ≡ b
drop_front [] b zero len = refl
drop_front [] b (suc n) len = absurd (omega arith)
drop_front (x ∷ a) b zero len = absurd (omega arith)
drop_front (x ∷ a) b (suc n) len = drop_front a b n (omega arith)

later_is : (n : ℕ) (a b : List ℕ) (i : ℕ) → length a ≡ n
    → nth_frame n (a ++ b) (suc i) ≡ nth_frame n b i
later_is n a b i len =
    let e : suc i * n ≡ n + i * n = omega arith in
    nth_is n (a ++ b) (suc i)
    ∙ ap (λ (x : ℕ). take n (drop x (a ++ b))) e
    ∙ ap (take n) (sym (drop-drop (i * n) n (a ++ b)) ∙ ap (drop (i * n)) (drop_front a b n len))
    ∙ sym (nth_is n b i)

-- the room of the frames to a node and to those after it
pub room_split : (n to size : ℕ) → to < n → (n - to) * size ≡ size + (n - (to + 1)) * size
room_split n to size within =
    let e : n - to ≡ suc (n - (to + 1)) = omega arith in
    ap (λ (x : ℕ). x * size) e ∙ omega arith

-- a frame to another node
pub addressed_spells : (s : Format) (from to next round : ℕ) (m : List Value) (frame : List ℕ)
    → next < s.nodes → Spells s frame (first_copy from to round m)
    → Spells s (addressed frame next) (first_copy from next round m)
addressed_spells s from to next round m frame within h = record {
  from = h.from;
  to = within;
  round = h.round;
  copy = h.copy;
  message = h.message;
  small = h.small;
  bytes_are = ap (λ (b : List ℕ). addressed b next) h.bytes_are;
}

-- a copy more in front
pub addressed_one_more : (nodes : ℕ) (frame : List ℕ) (to : ℕ) (a b : List ℕ) → to < nodes
    → a ≡ addressed frame to
    → AreAddressed nodes frame (to + 1) b → AreAddressed nodes frame to (a ++ b)
addressed_one_more nodes frame to a b within here rest = record {
  long = length-append a b ∙ omega (arith, len, rest.long)
      ∙ sym (room_split nodes to (length frame) within);
  each = at;
}
  where
    len : length a ≡ length frame
    len = ap length here ∙ length-set frame 3 to

    at : (i : ℕ) → to + i < nodes → nth_frame (length frame) (a ++ b) i ≡ addressed frame (to + i)
    at zero l =
        let e : to ≡ to + 0 = omega arith in
        first_is (length frame) a b len ∙ here ∙ ap (addressed frame) e
    at (suc i) l =
        let e : to + 1 + i ≡ to + suc i = omega arith in
        later_is (length frame) a b i len ∙ rest.each i (omega arith) ∙ ap (addressed frame) e

-- all copies of a frame say what it says
pub addressed_to_all : (s : Format) (from to first round : ℕ) (m : List Value)
    (frame bytes : List ℕ) → length frame ≡ frame_size s round
    → Spells s frame (first_copy from to round m)
    → AreAddressed s.nodes frame first bytes → AreToAll s from round m first bytes
addressed_to_all s from to first round m frame bytes len here all = record {
  long = all.long ∙ ap (λ (x : ℕ). (s.nodes - first) * x) len;
  each = λ place within.
      subst (λ (n : ℕ). Spells s (nth_frame n bytes place)
      (first_copy from (first + place) round m)) len
      (subst (λ (x : List ℕ). Spells s x (first_copy from (first + place) round m))
      (sym (all.each place within))
      (addressed_spells s from to (first + place) round m frame within here));
}

-- one node more in front
pub to_one_more : (s : Format) (from round : ℕ) (m : List Value) (to : ℕ) (a b : List ℕ)
    → to < s.nodes → length a ≡ frame_size s round
    → Spells s a (first_copy from to round m) → AreToAll s from round m (to + 1) b
    → AreToAll s from round m to (a ++ b)
to_one_more s from round m to a b within len here rest = record {
  long = length-append a b ∙ omega (arith, len, rest.long)
      ∙ sym (room_split s.nodes to (frame_size s round) within);
  each = at;
}
  where
    at : (i : ℕ) → to + i < s.nodes
        → Spells s (nth_frame (frame_size s round) (a ++ b) i) (first_copy from (to + i) round m)
    at zero l =
        let e : to ≡ to + 0 = omega arith in
        subst (λ (x : ℕ). Spells s (nth_frame (frame_size s round) (a ++ b) 0)
        (first_copy from x round m)) e
        (subst (λ (x : List ℕ). Spells s x (first_copy from to round m))
        (sym (first_is (frame_size s round) a b len)) here)
    at (suc i) l =
        let e : to + 1 + i ≡ to + suc i = omega arith in
        subst (λ (x : ℕ). Spells s (nth_frame (frame_size s round) (a ++ b) (suc i))
        (first_copy from x round m)) e
        (subst (λ (x : List ℕ). Spells s x (first_copy from (to + 1 + i) round m))
        (sym (later_is (frame_size s round) a b i len)) (rest.each i (omega arith)))
