-- What a later event leaves of closed rounds.
use Rattle.std.proofs.Common.{◌≡◌, ℕ, ◌+◌, ◌<◌, ◌≤◌, List, [], ◌∷◌, length, get_or, refl, sym, ap}
use Rattle.std.proofs.Common.{◌∙◌, arith, Bool}
use Rattle.std.proofs.lemmas.List.{get_or_append_left, length_push}
use Rattle.round_lang.specs.declared.value.Value.{Value}
use Rattle.run_events.specs.declared.event.Event.{Event}
use Rattle.run_events.specs.declared.name.Name.{Name}
use Rattle.step_machine.specs.Nodes.{NodeView}
use Rattle.step_book.specs.declared.mark.Mark.{Mark}
use Rattle.step_book.specs.Agreed.{KeepsClosed}
use Rattle.step_book.specs.Agreement.{Row, row}
use Rattle.step_book.specs.History.{state}
use Rattle.step_book.specs.Log.{IsBookOf, Log, closed, count_of, end_state, happened, history}
use Rattle.step_book.specs.Log.{round_of, world_of}
use Rattle.step_book.specs.Fates.{carried}
use Rattle.step_book.proofs.Fates.{carried_kept}
use Rattle.step_book.proofs.Keeps.{RowOf, Grown, Stays, row_of}
use Rattle.step_book.proofs.Kept.{state_kept}
use Rattle.step_book.proofs.Leaves.{happened_first}
use Rattle.step_book.proofs.Plans.{start_le}
use Rattle.step_book.proofs.Reading.{faithful}

-- a row that grew reads the same at its old places
read_grown : (rows next : List Row) (k i r : ℕ) (x : List Value) → RowOf rows k x i next
    → r < length (row rows i) → get_or (row next i) r [] ≡ get_or (row rows i) r []
read_grown rows next k i r x (Stays e) l = ap (λ z. get_or z r []) e
read_grown rows next k i r x (Grown same e) l =
    let own = ap (λ z. length (row rows z)) same in
    ap (λ z. get_or z r []) e ∙ get_or_append_left (row rows k) (x ∷ []) [] r (omega arith)
    ∙ ap (λ z. get_or (row rows z) r []) (sym same)

length_grown : (rows next : List Row) (k i : ℕ) (x : List Value) → RowOf rows k x i next
    → length (row rows i) ≤ length (row next i)
length_grown rows next k i x (Stays e) = let s = ap length e in omega arith
length_grown rows next k i x (Grown same e) =
    let own = ap (λ z. length (row rows z)) same in
    let s = ap length e ∙ length_push (row rows k) x in
    omega arith

module _ {start : ℕ → ℕ} {nodes : ℕ} {v : Log} {counts : List ℕ} {tables : List (List Mark)}
    {waiting : List (List Name)} {handed : List (List (List Name))} {answers : List Bool}
    {messages : List Name}
    (h : IsBookOf start nodes v counts tables waiting handed answers messages) where
  -- a closed round is past
  over : (i r : ℕ) → i < v.setup.nodes → r < round_of v i → start (r + 1) ≤ count_of v i
  over i r l low =
      let past = (faithful h).past i l in
      let up = start_le (world_of start v) h.plan (r + 1) (round_of v i) (omega arith)
      (omega arith) in
      omega arith

  pub kept_happened : (e : Event) → KeepsClosed start v (happened v e)
  kept_happened e = record {
    rounds = λ i l. omega arith;
    recorded = λ i r l low. refl;
    states = λ i r l low.
        let bound = (faithful h).bounded i l in
        ap (λ t. state (world_of start v) t r i) (happened_first v e)
        ∙ state_kept (world_of start v) h.plan e (history v) r i (omega arith) (over i r l low);
    carries = λ i r j l first low.
        ap (λ t. carried (world_of start v) t i r j) (happened_first v e)
        ∙ carried_kept (world_of start v) i r j e (history v) (over i r l low);
  }

  pub kept_closed : (n : NodeView) → n.me < v.setup.nodes → KeepsClosed start v (closed v n)
  kept_closed n me =
      let long = (faithful h).rowed in
      record {
        rounds = λ i l. length_grown v.rows (closed v n).rows n.me i (end_state n)
            (row_of v.rows n.me (end_state n) i (omega arith));
        recorded = λ i r l low. read_grown v.rows (closed v n).rows n.me i r (end_state n)
            (row_of v.rows n.me (end_state n) i (omega arith)) low;
        states = λ i r l low. refl;
        carries = λ i r j l first low. refl;
      }
