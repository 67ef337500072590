use Rattle.std.proofs.Common.{◌≡◌, ◌∙◌, ap, sym, arith, length}
use Rattle.std.specs.Prelude.{slice_set}
use Rattle.std.specs.List.{refill}
use Rattle.round_lang.specs.Words.{kind_of}
use Rattle.round_lang.proofs.KindEquality.{kind_decides}
use Rattle.round_lang.proofs.Finding.{IsFound, IsFound-of}
use Rattle.round_lang.proofs.Overwriting.{IsAt-found, IsPut, IsPut-of, room}
use Rattle.round_lang.proofs.vars.Vars.put.Goals as goal
use Rattle.round_lang.proofs.vars.Vars.put.Goals.{After-as_mut_slice, After-write}

-- the kind that was found is that of the value
is_kind : (c : After-as_mut_slice) → c.in-Some.kind ≡ kind_of c.args.value.now
is_kind c =
    (kind_decides c.in-Some.kind c.kind.result).0 (sym c.eq.ensures ∙ c.if-eq.true) ∙ c.kind.ensures

found : (c : After-as_mut_slice)
    → IsFound c.self.inside.shape c.self.inside.words.items c.args.place c.in-Some.first
    c.in-Some.kind
found c =
    let fits = c.as_mut_slice.type_inv.0 in
    IsFound-of _ _ _ _ _ c.self.invariant
    (omega (arith, fits, ap length c.as_mut_slice.ensures.value)) c.in-Some.ensures.some

pub write-requires : goal.write-requires
write-requires c =
    let fits = room _ _ _ _ _ _ (is_kind c) (found c) in
    omega (arith, fits, ap length c.as_mut_slice.ensures.value)

-- what is left is spelled, and is the values after the write
is_put : (c : After-write) → c.in-Some.kind ≡ kind_of c.args.value.now
    → IsFound c.self.inside.shape c.self.inside.words.items c.args.place c.in-Some.first
    c.in-Some.kind
    → IsPut c.self.inside.shape c.self.inside.words.items
    (refill (length c.self.inside.words.items) c.self.inside.words.items c.write.new.words)
    c.args.place c.args.value.now
is_put c kind at_it =
    let is_at = IsAt-found _ c.self.inside.words.items _ c.in-Some.first c.in-Some.kind
    c.args.value.now c.in-Some.ensures.some kind at_it in
    IsPut-of c.self.inside.shape c.self.inside.words.items _ c.write.new.words c.args.place
    c.in-Some.first c.args.value.now c.self.invariant is_at c.write.ensures.small
    c.as_mut_slice.ensures.value c.write.ensures.words c.write.auto.words

pub invariant_of-self : goal.invariant_of-self
invariant_of-self c =
    let at = goal.at.invariant_of-self c in
    (is_put at.After-write (is_kind at.After-as_mut_slice) (found at.After-as_mut_slice)).spelled

pub returns-then-eq-clause-ok : goal.returns-then-eq-clause-ok
returns-then-eq-clause-ok c =
    let at = goal.at.returns-then-eq-clause-ok c in
    (is_put at.After-write (is_kind at.After-as_mut_slice) (found at.After-as_mut_slice)).values
    ∙ ap (λ vs. slice_set vs c.args.place c.args.value.now) c.self.view_is
