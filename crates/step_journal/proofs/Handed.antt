-- What a journal hands out is for the node, and is what the run in rounds says.
use Rattle.std.proofs.Common.{◌≡◌, ℕ, ◌-◌, ◌==◌, ◌<◌, ◌≤◌, Bool, true, false, List, [], ◌∷◌}
use Rattle.std.proofs.Common.{length, get_or, if◌then◌else◌, sym, subst, ap, ◌∙◌, arith, ◌⊎◌, inl}
use Rattle.std.proofs.Common.{inr}
use Rattle.std.specs.Prelude.{All}
use Rattle.std.proofs.lemmas.Bool.{cases_eq, cases_lt, ne_eqb}
use Rattle.std.proofs.lemmas.List.{get_or-map, get_or_past, length-map}
use Rattle.std.proofs.lemmas.List.Elements.{All-nil, All-push, All-append, All-same}
use Rattle.round_meaning.specs.Rounds.{Algorithm, algorithm_of}
use Rattle.run_events.specs.declared.event.Event.{Event}
use Rattle.run_events.specs.declared.event.Event.TheVariants.{Step, Release, Drop, Copy}
use Rattle.run_events.specs.declared.name.Name.{Name}
use Rattle.step_machine.specs.Sealed.{Frame, sent_under}
use Rattle.step_book.specs.declared.mark.Mark.{Mark}
use Rattle.step_book.specs.declared.mark.Mark.TheVariants.{Unsent, Silent, Flying, Released, Lost}
use Rattle.step_book.specs.Agreed.{IsSaid}
use Rattle.step_book.specs.Agreement.{IsBuffer, Row, row}
use Rattle.step_book.specs.History.{arrival, arrived, buffer_of}
use Rattle.step_book.specs.Log.{IsFaithful, Log, Recorded, history, waiting_in, world_of}
use Rattle.step_book.specs.Buffers.{IsGenuine, IsMail, BufferView, names_in}
use Rattle.step_journal.specs.Fits.{Fits, buffer_at}
use Rattle.step_journal.specs.HandedOut.{AreHandedOut}
use Rattle.step_book.specs.Fates.{is_take}
use Rattle.step_book.specs.World.{World}
use Rattle.step_journal.proofs.BufferViews.{buffer_read}

abbrev pub IsTo : ℕ → Name → Type 0
IsTo i n = n.to ≡ i

chosen : (i : ℕ) (b : Bool) (xs ys : List Name) → All (IsTo i) xs → All (IsTo i) ys
    → All (IsTo i) (if b then xs else ys)
chosen i true xs ys h k = h
chosen i false xs ys h k = k

to_arrival : (i : ℕ) (n : Name) (m : Mark) → n.to ≡ i → All (IsTo i) (arrival n m)
to_arrival i n Flying e = All-push (IsTo i) [] n (All-nil (IsTo i)) e
to_arrival i n Unsent e = All-nil (IsTo i)
to_arrival i n Silent e = All-nil (IsTo i)
to_arrival i n (Released s) e = All-nil (IsTo i)
to_arrival i n Lost e = All-nil (IsTo i)

to_released : (w : World) (i : ℕ) (n : Name) (past : List Event) → (n.to ≡ i) ⊎ (n.to ≡ i → ⊥)
    → All (IsTo i) (arrived w i (Release n) past)
to_released w i n past (inl same) =
    chosen i (n.to == i) _ [] (to_arrival i n _ same) (All-nil (IsTo i))
to_released w i n past (inr apart) = rw (ne_eqb n.to i apart) (All-nil (IsTo i))

to_arrived : (w : World) (i : ℕ) (e : Event) (past : List Event) → All (IsTo i) (arrived w i e past)
to_arrived w i (Step k) past = All-nil (IsTo i)
to_arrived w i (Release n) past = to_released w i n past (cases_eq n.to i)
to_arrived w i (Drop n) past = All-nil (IsTo i)
to_arrived w i (Copy n) past = All-nil (IsTo i)

-- the names that wait for a node are of messages to it
to_waiting : (w : World) (i : ℕ) (t : List Event) → All (IsTo i) (buffer_of w i t)
unfolding buffer_of
to_waiting w i [] = All-nil (IsTo i)
to_waiting w i (e ∷ past) = chosen i (is_take w i e past) [] _ (All-nil (IsTo i))
    (All-append (IsTo i) _ _ (to_waiting w i past) (to_arrived w i e past))

frame_to : (i : ℕ) (frames : List Frame) → All (IsTo i) (names_in frames) → (k : ℕ) (d : Frame)
    → k < length frames → (get_or frames k d).name.to ≡ i
frame_to i frames h k d l =
    let m = length-map frames (λ (f : Frame). f.name) in
    ap (λ (n : Name). n.to) (sym (get_or-map (λ (f : Frame). f.name) frames k d d.name l))
    ∙ h k d.name (omega arith)

-- frames under the names that wait for a node are to it
pub mail_to : (w : World) (i : ℕ) (t : List Event) (frames : List Frame)
    → names_in frames ≡ buffer_of w i t → (k : ℕ) (d : Frame) → k < length frames
    → (get_or frames k d).name.to ≡ i
mail_to w i t frames names = frame_to i frames (All-same (IsTo i) _ _ names (to_waiting w i t))

-- a node with a recorded state is one of the run
from_in : (rows : List Row) (j r : ℕ) → 0 < r → r ≤ length (row rows j)
    → (j < length rows) ⊎ (length rows ≤ j) → j < length rows
from_in rows j r first past (inl l) = l
from_in rows j r first past (inr far) = let none : length (row rows j) ≡ 0 =
    ap length (get_or_past rows j [] far) in absurd (omega arith)

-- genuine frames under the names that wait for a node are for it
pub mail_of : (w : World) (t : List Event) (a : Algorithm) (rows : List Row) (n i : ℕ)
    (frames : List Frame) → length rows ≡ n → names_in frames ≡ buffer_of w i t
    → All (IsGenuine a rows) frames → All (IsMail a n i) frames
mail_of w t a rows n i frames long names genuine = λ k d l.
    let one = genuine k d l in
    record {
      from = subst (λ z. (get_or frames k d).name.from < z) long
          (from_in rows _ _ one.first one.past (cases_lt _ _));
      copy = one.copy;
      to = mail_to w i t frames names k d l;
      honest = one.honest;
    }

-- a genuine frame is the message of the run in rounds
pub said_of : (start : ℕ → ℕ) (v : Log) (f : Frame) → IsFaithful start v
    → IsGenuine (algorithm_of v.program v.setup) v.rows f → IsSaid start v f
said_of start v f is g =
    let low = g.first in
    let past = g.past in
    let from = subst (λ z. f.name.from < z) is.rowed
    (from_in v.rows f.name.from f.name.round low past (cases_lt _ _)) in
    let own = is.stated f.name.from (f.name.round - 1) from (omega arith) in
    record {
      state = sym g.own ∙ own;
      message = ap (sent_under (algorithm_of v.program v.setup) f.name) (sym own ∙ g.own)
          ∙ g.honest.says;
    }

pub all_said : (start : ℕ → ℕ) (v : Log) (frames : List Frame) → IsFaithful start v
    → All (IsGenuine (algorithm_of v.program v.setup) v.rows) frames → All (IsSaid start v) frames
all_said start v frames is h = λ k d l. said_of start v (get_or frames k d) is (h k d l)

-- the frames that wait in a buffer of a run's
module _ {P : Type 0} {s v : Recorded P} {bs : List BufferView} (start : P → ℕ
    → ℕ) (e : s ≡ v) (f : Fits (start s.plan) s.log bs) (is : IsFaithful (start s.plan) s.log) where
  there : (i : ℕ) (b : BufferView) (frames : List Frame) → i < s.log.setup.nodes → b ≡ get_or bs i b
      → frames ≡ b.waiting → frames ≡ (buffer_at bs i).waiting
  there i b frames l h d = d
      ∙ ap (λ (x : BufferView). x.waiting)
      (sym (buffer_read bs i b (let n = f.sized in omega arith) h))

  genuine_there : (i : ℕ) (b : BufferView) (frames : List Frame) → i < s.log.setup.nodes
      → b ≡ get_or bs i b → frames ≡ b.waiting
      → All (IsGenuine (algorithm_of s.log.program s.log.setup) s.log.rows) frames
  genuine_there i b frames l h d =
      All-same (IsGenuine (algorithm_of s.log.program s.log.setup) s.log.rows) frames _
      (there i b frames l h d) (f.genuine i l)

  -- are what the run in rounds says
  pub waiting_said : (i : ℕ) (b : BufferView) (frames : List Frame) → i < v.log.setup.nodes
      → b ≡ get_or bs i b → frames ≡ b.waiting → All (IsSaid (start v.plan) v.log) frames
  waiting_said i b frames l h d =
      let own : i < s.log.setup.nodes =
      subst (λ (z : Recorded P). i < z.log.setup.nodes) (sym e) l in
      subst (λ (z : Recorded P). All (IsSaid (start z.plan) z.log) frames) e
      (all_said (start s.plan) s.log frames is (genuine_there i b frames own h d))

  -- and are what a receive hands out
  pub waiting_out : (i : ℕ) (b : BufferView) (frames : List Frame) → i < v.log.setup.nodes
      → b ≡ get_or bs i b → frames ≡ b.waiting
      → IsBuffer (world_of (start s.plan) s.log) (history s.log) i
      (waiting_in (start s.plan) s.log i) → AreHandedOut (start v.plan) v.log i frames
  waiting_out i b frames l h d once =
      let w = world_of (start s.plan) s.log in
      let own : i < s.log.setup.nodes =
      subst (λ (z : Recorded P). i < z.log.setup.nodes) (sym e) l in
      let genuine = genuine_there i b frames own h d in
      let names : names_in frames ≡ waiting_in (start s.plan) s.log i =
      ap names_in (there i b frames own h d) ∙ f.waiting i own in
      subst (λ (z : Recorded P). AreHandedOut (start z.plan) z.log i frames) e (record {
        names = names;
        once = subst (IsBuffer w (history s.log) i) (sym names) once;
        genuine = genuine;
        mail = mail_of w (history s.log) (algorithm_of s.log.program s.log.setup) s.log.rows
            s.log.setup.nodes i frames is.rowed names genuine;
        said = all_said (start s.plan) s.log frames is genuine;
      })
