use Rattle.std.proofs.Common.{
  ◌≡◌,
  ◌∙◌,
  ◌<◌,
  ◌≤◌,
  ◌+◌,
  ℕ,
  zero,
  suc,
  List,
  [],
  ◌∷◌,
  ◌++◌,
  ap,
  subst,
  sym,
  arith,
  map,
  length,
  drop,
  ◌⊎◌,
  inl,
  inr,
  Option,
  ◌-◌,
}
use Rattle.std.specs.Prelude.{slice_index, slice_set}
use Rattle.std.proofs.Common.{length-set}
use Rattle.std.proofs.lemmas.List.{get_or-set_same, get_or-set_other, take_at}
use Rattle.round_lang.specs.declared.block.Field.{Field}
use Rattle.round_lang.specs.Syntax.{BlockTree}
use Rattle.round_lang.specs.Words.{kind_for}
use Rattle.step_code.specs.declared.instr.Instr.{Instr}
use Rattle.step_code.specs.Layout.{behind, field_types, free_place, message_place, room_of}
use Rattle.step_code.specs.Machine.{run, Fine}
use Rattle.step_code.specs.Relation.{Filled, HoldAll, Keeps}
use Rattle.step_code.specs.Turns.{InTurn, IsOfBlock, IsOfRound, RoundView}
use Rattle.step_code.proofs.Answering.{free_fits, free_is, taken_part}
use Rattle.step_code.proofs.Safe.{room_long}
use Rattle.step_code.proofs.Turning.{block_kinds_are}
use Rattle.step_code.proofs.round_code.RoundCode.message.Goals as goal

-- one word is filled in
filled_one : (p x : ℕ) (m : List ℕ) → p < length m → Filled p (x ∷ []) m (slice_set m p x)
filled_one p x m l = record {
  long = length-set m p x;
  there = λ i h. there i h;
  rest = λ i h. get_or-set_other m p i x 0 (apart i h);
}
  where
    there : (i : ℕ) → i < 1 → slice_index (slice_set m p x) (p + i) ≡ slice_index (x ∷ []) i
    there zero h = let e : p + 0 ≡ p = omega arith in ap (slice_index (slice_set m p x)) e
        ∙ get_or-set_same m p x 0 l
    there (suc i) h = absurd (omega arith)

    apart : (i : ℕ) → (i < p) ⊎ (p + 1 ≤ i) → i ≡ p → ⊥
    apart i (inl h) e = omega arith
    apart i (inr h) e = omega arith

fine_at : (k k' room room' n : ℕ) (code code' : List Instr) → k' ≡ k → room' ≡ room → code' ≡ code
    → n ≡ length code' → Fine k room code (length code) → Fine k' room' code' n
fine_at k k' room room' n code code' a b e l h = rw (l, a, b, e) h

pub bounds-words-11 : goal.bounds-words-11
bounds-words-11 g c =
    let w = ap length (c.as_mut_slice-words.ensures.value ∙ c.room.view_is) in
    omega (arith, w, c.requires.long, room_long c.args.self.now.program)

pub load_fields-requires-clause-within : goal.load_fields-requires-clause-within
load_fields-requires-clause-within g c =
    let q = c.self.inside.program.now in
    let b = c.self.inside.part.block.now in
    let kept = c.self.invariant in
    let end : behind c.self.inside.values c.self.inside.message
    (field_types c.fields-listed.result.now) ≡ free_place q b =
    ap (λ n. behind n c.self.inside.message (field_types c.fields-listed.result.now)) kept.values
    ∙ ap (λ n. behind q.values n (field_types c.fields-listed.result.now)) kept.message
    ∙ ap (λ (l : List Field). behind q.values (message_place q) (field_types l))
    c.fields-listed.ensures.fields in
    let long : length c.args.room.now ≡ room_of q = c.requires.long
    ∙ ap (λ (x : RoundView). room_of x.program) (sym c.self.view_is) in
    let w = ap length (c.as_mut_slice-words.ensures.value ∙ c.room.view_is) in
    omega (
      arith,
      end,
      w,
      length-set c.as_mut_slice-words.result.now 11 c.from.result,
      free_is q c.self.inside.round b c.self.inside.part.code.now kept.part,
      free_fits q c.self.inside.round b c.self.inside.part.code.now kept.part c.args.room.now
          long,
    )

pub load_fields-requires-clause-near : goal.load_fields-requires-clause-near
load_fields-requires-clause-near g c =
    let q = c.self.inside.program.now in
    let b = c.self.inside.part.block.now in
    let kept = c.self.invariant in
    let end : behind c.self.inside.values c.self.inside.message
    (field_types c.fields-listed.result.now) ≡ free_place q b =
    ap (λ n. behind n c.self.inside.message (field_types c.fields-listed.result.now)) kept.values
    ∙ ap (λ n. behind q.values n (field_types c.fields-listed.result.now)) kept.message
    ∙ ap (λ (l : List Field). behind q.values (message_place q) (field_types l))
    c.fields-listed.ensures.fields in
    omega (
      arith,
      end,
      kept.near,
      free_is q c.self.inside.round b c.self.inside.part.code.now kept.part,
    )

pub load_fields-requires-clause-kinds : goal.load_fields-requires-clause-kinds
load_fields-requires-clause-kinds g c =
    let q = c.self.inside.program.now in
    let kept = c.self.invariant in
    let msg = g.F.Fields.values c.args.fields.now in
    let round = subst (λ (x : RoundView). IsOfRound x.program x.round msg)
    (sym c.self.view_is) c.requires.kinds in
    let kinds = subst (λ (o : Option BlockTree). IsOfBlock q o msg) kept.part.at round in
    kinds ∙ block_kinds_are q.values c.self.inside.part.block.now.fields
    ∙ ap (λ n. map (kind_for n) (field_types c.self.inside.part.block.now.fields))
    (sym kept.values)
    ∙ ap (λ (l : List Field). map (kind_for c.self.inside.values) (field_types l))
    (sym c.fields-listed.ensures.fields)

pub run-requires-clause-fine : goal.run-requires-clause-fine
run-requires-clause-fine g c =
    let q = c.self.inside.program.now in
    let kept = c.self.invariant in
    let long : length c.args.room.now ≡ room_of q = c.requires.long
    ∙ ap (λ (x : RoundView). room_of x.program) (sym c.self.view_is) in
    let w = ap length (c.as_mut_slice-words.ensures.value ∙ c.room.view_is) in
    fine_at q.values c.self.inside.values (room_of q) (length c.load_fields.new.room)
    (length c.deref-code.result.now - 0) c.self.inside.part.code.now.on_message.items
    c.deref-code.result.now kept.values (c.load_fields.ensures.keeps.long
    ∙ length-set c.as_mut_slice-words.result.now 11 c.from.result ∙ w
    ∙ long) c.deref-code.ensures.value (omega arith) kept.part.safe.on_message

pub bounds-words-11-2 : goal.bounds-words-11-2
bounds-words-11-2 g c =
    let w = ap length (c.as_mut_slice-words.ensures.value ∙ c.room.view_is) in
    omega (
      arith,
      w,
      c.run.auto.mem,
      c.load_fields.ensures.keeps.long,
      length-set c.as_mut_slice-words.result.now 11 c.from.result,
      c.requires.long,
      room_long c.args.self.now.program,
    )

pub returns-clause-takes : goal.returns-clause-takes
returns-clause-takes g c = λ s i old inbox h.
    let q = c.self.inside.program.now in
    let r = c.self.inside.round in
    let b = c.self.inside.part.block.now in
    let kept = c.self.invariant in
    let msg = g.F.Fields.values c.args.fields.now in
    let m = c.args.room.now in
    let was : c.as_mut_slice-words.result.now ≡ m = c.as_mut_slice-words.ensures.value
    ∙ c.room.view_is in
    let m1 = slice_set c.as_mut_slice-words.result.now 11 c.from.result in
    let m2 = c.load_fields.new.room in
    let m3 = c.run.new.mem in
    let m4 = slice_set m3 11 0 in
    let long1 : length m1 ≡ length m = length-set c.as_mut_slice-words.result.now 11 c.from.result
    ∙ ap length was in
    let long3 : length m3 ≡ length m = omega (
      arith,
      c.run.auto.mem,
      c.load_fields.ensures.keeps.long,
      long1,
    ) in
    let wide = room_long c.args.self.now.program in
    let first : Filled 11 (c.args.from ∷ []) m m1 =
    subst (λ (l : List ℕ). Filled 11 (c.args.from ∷ []) l m1) was
    (subst (λ n. Filled 11 (n ∷ []) c.as_mut_slice-words.result.now m1) c.from.ensures
    (filled_one 11 c.from.result c.as_mut_slice-words.result.now
    (omega (arith, ap length was, c.requires.long, wide)))) in
    let last : Filled 11 (0 ∷ []) m3 m4 =
    filled_one 11 0 m3 (omega (arith, long3, c.requires.long, wide)) in
    let keeps = subst (λ n. Keeps n m1 m2) kept.message c.load_fields.ensures.keeps in
    let h1 = subst (λ n. HoldAll n m2 c.self.inside.message
    (field_types c.fields-listed.result.now) msg) kept.values c.load_fields.ensures.holds in
    let h2 = subst (λ n. HoldAll q.values m2 n (field_types c.fields-listed.result.now) msg)
    kept.message h1 in
    let h3 = subst (λ (l : List Field). HoldAll q.values m2 (message_place q) (field_types l) msg)
    c.fields-listed.ensures.fields h2 in
    let code = c.deref-code.result.now in
    let whole : length code - 0 ≡ length code = omega arith in
    let ran : m3 ≡ run c.self.inside.values code (length code) 0 m2 = c.run.ensures
    ∙ ap (λ n. run c.self.inside.values code n 0 m2) whole in
    let more = inbox ++ record { from = c.args.from; message = msg } ∷ [] in
    let before = subst (λ (x : RoundView). InTurn x.program s x.round i old inbox m)
    (sym c.self.view_is) h in
    let after : InTurn q s r i old more m4 =
    taken_part q r b c.self.inside.part.code.now kept.part s i old inbox c.args.from msg
    c.self.inside.values code m m1 m2 m3 m4 kept.values c.deref-code.ensures.value first keeps
    h3 c.load_fields.ensures.small (omega arith) ran last before in
    let seen = subst (λ (x : RoundView). InTurn x.program s x.round i old more m4) c.self.view_is
    after in
    let long4 : length m4 ≡ length c.room.inside.words.items = length-set m3 11 0 ∙ long3
    ∙ ap length (sym c.room.view_is) in
    subst (InTurn c.args.self.now.program s c.args.self.now.round i old more)
    (sym (take_at m4 (drop (length m4) c.room.inside.words.items)
    (length c.room.inside.words.items) long4)) seen
