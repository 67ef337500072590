use Rattle.std.proofs.Common.{◌≡◌, ◌∙◌, ap, sym, get_or, arith}
use Rattle.std.proofs.lemmas.List.{get_or_past}
use Rattle.byteorder.specs.Endian.{big_number}
use Rattle.frame_format.specs.Reading.{numbers}
use Rattle.frame_views.proofs.Located.{numbers-get, length-numbers}
use Rattle.frame_views.proofs.row.RowView.at.Goals as goal

pub returns-then-value-self : goal.returns-then-value-self
returns-then-value-self c =
    let row = numbers c.self.inside.entries c.self.inside.bytes.now in
    let past : get_or row c.args.value 0 ≡ 0 =
    get_or_past row c.args.value 0
    (omega (arith, length-numbers c.self.inside.entries c.self.inside.bytes.now)) in
    rw (← c.self.view_is) (sym past)

pub returns : goal.returns
returns c =
    let e = numbers-get c.self.inside.entries c.self.inside.bytes.now c.args.value
    c.if-value-self.false in
    rw (← c.self.view_is) (c.read_u32.ensures ∙ ap (big_number 4) c.from_place.ensures ∙ sym e)
