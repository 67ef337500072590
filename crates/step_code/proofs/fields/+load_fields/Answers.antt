use Rattle.std.proofs.Common.{arith}
use Rattle.step_code.proofs.Loading.{first_field, no_field}
use Rattle.step_code.proofs.fields.+load_fields.Goals as goal

pub load_field-size-requires-clause-within : goal.load_field-size-requires-clause-within
load_field-size-requires-clause-within g t c =
    omega (
      arith,
      first_field c.args.k c.args.place c.args.fields.now c.first-item.result
          c.in-len1-up.len_at_least c.first-item.is,
      c.requires.within,
    )

pub load_field-size-requires-clause-near : goal.load_field-size-requires-clause-near
load_field-size-requires-clause-near g t c =
    omega (
      arith,
      first_field c.args.k c.args.place c.args.fields.now c.first-item.result
          c.in-len1-up.len_at_least c.first-item.is,
      c.requires.near,
    )

pub overflow_add-place : goal.overflow_add-place
overflow_add-place g t c =
    omega (
      arith,
      c.load_field-size.ensures.size,
      first_field c.args.k c.args.place c.args.fields.now c.first-item.result
          c.in-len1-up.len_at_least c.first-item.is,
      c.requires.near,
    )

pub returns-in-empty-clause-small : goal.returns-in-empty-clause-small
returns-in-empty-clause-small g t c =
    no_field c.args.k c.args.fields.now _ c.in-empty.len_below c.requires.kinds
