use Rattle.std.proofs.Common.{◌≡◌, ◌∙◌, ℕ, ◌-◌, ap, drop, length, map, subst, take, List}
use Rattle.std.proofs.lemmas.List.{take_rest}
use Rattle.std.specs.Arc.{arc_value}
use Rattle.round_lang.specs.Words.{kind_of}
use Rattle.frame_format.specs.Formats.{IsFormat}
use Rattle.step_machine.specs.declared.said.Said.{Said}
use Rattle.step_machine.specs.Saying.{bytes_from, layout_in}
use Rattle.step_machine.specs.Sealed.{Frame}
use Rattle.step_machine.proofs.KnownKinds.{read_by}
use Rattle.step_machine.proofs.sealed.Sealed.fields_of.Goals as goal

rest_is : (l bytes : List ℕ) (n : ℕ) → n ≡ 13 → l ≡ bytes
    → take (length l - n) (drop n l) ≡ drop 13 bytes
rest_is l bytes n a b = take_rest l n ∙ ap (λ k. drop k l) a ∙ ap (λ (x : List ℕ). drop 13 x) b

pub over-requires-clause-block : goal.over-requires-clause-block
over-requires-clause-block c =
    let d = arc_value c.self.inside.said in
    let first = c.self.inside.first in
    let layout = c.deref-3.ensures
    ∙ ap layout_in (c.deref-2.ensures
    ∙ ap (λ (x : Said). arc_value x.origin) c.deref.ensures) in
    let bytes : c.part-bytes.result.now ≡ bytes_from d first = c.part-bytes.ensures
    ∙ ap (λ (x : Said). bytes_from x first) c.deref-4.ensures in
    let kinds = ap (λ (f : Frame). map kind_of f.message) c.self.view_is ∙ c.requires in
    (read_by (layout_in (arc_value d.origin)) (subst IsFormat layout c.lawful.ensures)
    (bytes_from d first) c.self.invariant.sealed c.args.kinds.now _ kinds
    (rest_is c.part-bytes.result.now (bytes_from d first) c.header_size.result
    c.header_size.ensures bytes)).block

pub over-requires-clause-room : goal.over-requires-clause-room
over-requires-clause-room c =
    let d = arc_value c.self.inside.said in
    let first = c.self.inside.first in
    let layout = c.deref-3.ensures
    ∙ ap layout_in (c.deref-2.ensures
    ∙ ap (λ (x : Said). arc_value x.origin) c.deref.ensures) in
    let bytes : c.part-bytes.result.now ≡ bytes_from d first = c.part-bytes.ensures
    ∙ ap (λ (x : Said). bytes_from x first) c.deref-4.ensures in
    let kinds = ap (λ (f : Frame). map kind_of f.message) c.self.view_is ∙ c.requires in
    (read_by (layout_in (arc_value d.origin)) (subst IsFormat layout c.lawful.ensures)
    (bytes_from d first) c.self.invariant.sealed c.args.kinds.now _ kinds
    (rest_is c.part-bytes.result.now (bytes_from d first) c.header_size.result
    c.header_size.ensures bytes)).room

pub returns : goal.returns
returns c =
    let d = arc_value c.self.inside.said in
    let first = c.self.inside.first in
    let layout = c.deref-3.ensures
    ∙ ap layout_in (c.deref-2.ensures
    ∙ ap (λ (x : Said). arc_value x.origin) c.deref.ensures) in
    let bytes : c.part-bytes.result.now ≡ bytes_from d first = c.part-bytes.ensures
    ∙ ap (λ (x : Said). bytes_from x first) c.deref-4.ensures in
    let kinds = ap (λ (f : Frame). map kind_of f.message) c.self.view_is ∙ c.requires in
    let read = read_by (layout_in (arc_value d.origin)) (subst IsFormat layout c.lawful.ensures)
    (bytes_from d first) c.self.invariant.sealed c.args.kinds.now _ kinds
    (rest_is c.part-bytes.result.now (bytes_from d first) c.header_size.result
    c.header_size.ensures bytes) in
    c.over.ensures ∙ read.message_is ∙ ap (λ (f : Frame). f.message) c.self.view_is
