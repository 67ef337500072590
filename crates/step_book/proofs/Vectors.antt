-- The lists that vectors of mails and of states show, as one of them is written.
use Rattle.std.proofs.Common.{◌≡◌, ℕ, ◌<◌, List, [], ◌∷◌, ◌++◌, length, get_or, set, sym, refl, ap}
use Rattle.std.proofs.Common.{◌∙◌, arith}
use Rattle.std.specs.Prelude.{Vec}
use Rattle.std.specs.Arc.{arc_value}
use Rattle.std.specs.declared.sync.Arc.{Arc}
use Rattle.std.proofs.lemmas.List.{get_or-map, map-set, set-get_or}
use Rattle.round_lang.specs.declared.value.Value.{Value}
use Rattle.run_events.specs.declared.name.Name.{Name}
use Rattle.step_book.specs.Agreement.{Row, row}
use Rattle.step_book.specs.Log.{states_of, rows_of, handed_in, waits_in}
use Rattle.step_book.specs.Mailing.{Mailed}
use Rattle.step_book.proofs.Reading.{waits_read, lists_read, row_read, rows_of_len}

module _ (mails : List Mailed) (k : ℕ) where
  -- the names that wait for one node are replaced
  pub waits_set : (new : Mailed) (b : List Name) → new.waiting ≡ b
      → waits_in (set mails k new) ≡ set (waits_in mails) k b
  waits_set new b e = map-set (λ (z : Mailed). z.waiting) mails k new
      ∙ ap (λ z. set (waits_in mails) k z) e

  -- they stay
  pub waits_same : (old new : Mailed) → k < length mails → old ≡ get_or mails k old
      → new.waiting ≡ old.waiting → waits_in (set mails k new) ≡ waits_in mails
  waits_same old new l h e = waits_set new _ (e ∙ sym (waits_read mails k old l h))
      ∙ set-get_or (waits_in mails) k []

  -- they grow by a name
  pub waits_push : (old new : Mailed) (n : Name) → k < length mails → old ≡ get_or mails k old
      → new.waiting ≡ old.waiting ++ n ∷ []
      → waits_in (set mails k new) ≡ set (waits_in mails) k (get_or (waits_in mails) k [] ++ n ∷ [])
  waits_push old new n l h e = waits_set new _ (e
      ∙ ap (λ z. z ++ n ∷ []) (sym (waits_read mails k old l h)))

  lists_set : (new : Mailed) (b : List (List Name)) → new.handed ≡ b
      → handed_in (set mails k new) ≡ set (handed_in mails) k b
  lists_set new b e = map-set (λ (z : Mailed). z.handed) mails k new
      ∙ ap (λ z. set (handed_in mails) k z) e

  -- what the receives of one node handed out stays
  pub lists_same : (old new : Mailed) → k < length mails → old ≡ get_or mails k old
      → new.handed ≡ old.handed → handed_in (set mails k new) ≡ handed_in mails
  lists_same old new l h e = lists_set new _ (e ∙ sym (lists_read mails k old l h))
      ∙ set-get_or (handed_in mails) k []

  -- it grows by a list
  pub lists_push : (old new : Mailed) (b : List Name) → k < length mails → old ≡ get_or mails k old
      → new.handed ≡ old.handed ++ b ∷ []
      → handed_in (set mails k new) ≡ set (handed_in mails) k
      (get_or (handed_in mails) k [] ++ b ∷ [])
  lists_push old new b l h e = lists_set new _ (e
      ∙ ap (λ z. z ++ b ∷ []) (sym (lists_read mails k old l h)))

module _ {A B : Type 0} (states : List (Vec (Arc (List Value) A) B)) (k : ℕ) where
  rows_set : (new : Vec (Arc (List Value) A) B) (b : Row) → states_of new.items ≡ b
      → rows_of (set states k new) ≡ set (rows_of states) k b
  rows_set new b e = map-set (λ (z : Vec (Arc (List Value) A) B). states_of z.items) states k new
      ∙ ap (λ z. set (rows_of states) k z) e

  -- the row of one node stays
  pub rows_same : (old new : Vec (Arc (List Value) A) B) → k < length states
      → old ≡ get_or states k old → new.items ≡ old.items
      → rows_of (set states k new) ≡ rows_of states
  rows_same old new l h e =
      let n = rows_of_len states in
      rows_set new _ (ap states_of e
      ∙ sym (row_read (rows_of states) states k old refl (omega arith) h))
      ∙ set-get_or (rows_of states) k []

  -- the row of one node grows by a state
  pub rows_grow : (old new : Vec (Arc (List Value) A) B) (s : List Value) → k < length states
      → old ≡ get_or states k old → states_of new.items ≡ states_of old.items ++ s ∷ []
      → rows_of (set states k new) ≡ set (rows_of states) k (row (rows_of states) k ++ s ∷ [])
  rows_grow old new s l h e =
      let n = rows_of_len states in
      rows_set new _ (e
      ∙ ap (λ z. z ++ s ∷ [])
      (sym (row_read (rows_of states) states k old refl (omega arith) h)))

  -- a read of a node's state
  pub state_read : (rows : List Row) (q : ℕ) (x : Vec (Arc (List Value) A) B)
      (a : Arc (List Value) A) → rows_of states ≡ rows → k < length rows → x ≡ get_or states k x
      → q < length x.items → a ≡ get_or x.items q a → get_or (row rows k) q [] ≡ arc_value a
  state_read rows q x a e l h m y =
      ap (λ z. get_or z q []) (row_read rows states k x e l h)
      ∙ get_or-map (λ (z : Arc (List Value) A). arc_value z) x.items q a [] m
      ∙ ap (λ (z : Arc (List Value) A). arc_value z) (sym y)
