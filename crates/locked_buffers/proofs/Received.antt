-- What waits in a buffer of the run, under the names that the book has for a node, is for that
-- node.
use Rattle.std.proofs.Common.{◌≡◌, ℕ, List, get_or, sym, subst, ◌∙◌, arith}
use Rattle.std.specs.Prelude.{All}
use Rattle.std.proofs.lemmas.List.{get_or-map, length-map}
use Rattle.std.proofs.lemmas.List.Elements.{All-same}
use Rattle.round_meaning.specs.Rounds.{algorithm_of}
use Rattle.run_events.specs.declared.name.Name.{Name}
use Rattle.step_machine.specs.Sealed.{Frame, IsHonest}
use Rattle.step_book.specs.Log.{Recorded, history, waiting_in, world_of}
use Rattle.step_book.specs.Buffers.{AreHonest, IsMail, BufferView, names_in, run_of}
use Rattle.step_book.specs.Names.{IsName}
use Rattle.step_journal.specs.Fits.{IsOfRun}
use Rattle.step_journal.proofs.Handed.{mail_to}
use Rattle.locked_buffers.specs.Runs.{Run, algorithm_by}

pub mail_waits : {P : Type 0} (start : P → ℕ
    → ℕ) (r : Run P) (b : Recorded P) (s : BufferView) (i : ℕ) (frames : List Frame)
    (ns ws : List Name)
    → IsOfRun r.program r.setup s → ns ≡ names_in s.waiting → All (IsName r.setup) ns → ns ≡ ws
    → ws ≡ waiting_in (start b.plan) b.log i
    → AreHonest (run_of s) s.flying s.waiting → frames ≡ s.waiting
    → All (IsMail (algorithm_by r) r.setup.nodes i) frames
mail_waits start r b s i frames ns ws buffer named known same waits honest taken =
    All-same (IsMail (algorithm_by r) r.setup.nodes i) frames s.waiting taken (λ k d l.
    let f = get_or s.waiting k d in
    let long = length-map s.waiting (λ (x : Frame). x.name) in
    let own : IsName r.setup f.name =
    subst (IsName r.setup) (get_or-map (λ (x : Frame). x.name) s.waiting k d d.name l)
    (All-same (IsName r.setup) (names_in s.waiting) ns (sym named) known k d.name
    (omega (arith, l, long))) in
    record {
      from = own.from;
      copy = own.copy;
      to = mail_to (world_of (start b.plan) b.log) i (history b.log) s.waiting (sym named ∙ same
          ∙ waits) k d l;
      honest = subst (λ u. IsHonest (algorithm_of r.program u) f) buffer.setup
          (subst (λ p. IsHonest (algorithm_of p s.setup) f) buffer.program (honest.waits k d l));
    })
