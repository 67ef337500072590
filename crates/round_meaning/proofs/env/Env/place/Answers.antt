use Rattle.std.proofs.Common.{◌≡◌, None, sym, ◌∙◌, arith}
use Rattle.round_meaning.specs.Envs.{env_of}
use Rattle.round_meaning.specs.Meaning.{find_field}
use Rattle.round_meaning.proofs.LookUps.{find_field-absent, find_field-beyond, look_up-field}
use Rattle.round_meaning.proofs.LookUps.{look_up-nothing, look_up-variable}
use Rattle.round_meaning.proofs.env.Env.place.Goals as goal
use Rattle.round_meaning.proofs.env.Env.place.Goals.{in-Some-place_of_field+else-place-len}
use Rattle.round_meaning.proofs.env.Env.place.Goals.{in_default-place_of_field}

pub returns-then-place-len : goal.returns-then-place-len
returns-then-place-len c =
    let env = env_of c.args.self.now in
    let unbound = sym c.find.ensures ∙ c.in_default.is in
    let here = sym c.in-Some-place_of_field.is ∙ c.place_of_field.ensures in
    sym (look_up-field env c.args.name.now c.in-Some-place_of_field.place unbound here
    (omega arith))

pub returns-in-Some-place_of_variable : goal.returns-in-Some-place_of_variable
returns-in-Some-place_of_variable c =
    let env = env_of c.args.self.now in
    let x = c.args.name.now in
    let unbound = sym c.find.ensures ∙ c.in_default.is in
    let here = sym c.in-Some-place_of_variable.is ∙ c.place_of_variable.ensures in
    let no_field : find_field env.fields env.message x ≡ None =
    elim c.match-place_of_field.branch [
      | in-Some-place_of_field+else-place-len w ↦ find_field-beyond env.fields env.message x
          w.in-Some-place_of_field.place (sym w.in-Some-place_of_field.is
          ∙ c.place_of_field.ensures) (omega arith)
      | in_default-place_of_field w ↦ find_field-absent
          env.fields env.message x (sym w.in_default-place_of_field.is
          ∙ c.place_of_field.ensures)
    ] in
    sym (look_up-variable env x c.in-Some-place_of_variable.place unbound no_field here)

pub returns-in-None : goal.returns-in-None
returns-in-None c =
    let env = env_of c.args.self.now in
    let x = c.args.name.now in
    let unbound = sym c.find.ensures ∙ c.in_default.is in
    let missed = sym c.in-None.is ∙ c.place_of_variable.ensures in
    let no_field : find_field env.fields env.message x ≡ None =
    elim c.match-place_of_field.branch [
      | in-Some-place_of_field+else-place-len w ↦ find_field-beyond env.fields env.message x
          w.in-Some-place_of_field.place (sym w.in-Some-place_of_field.is
          ∙ c.place_of_field.ensures) (omega arith)
      | in_default-place_of_field w ↦ find_field-absent
          env.fields env.message x (sym w.in_default-place_of_field.is
          ∙ c.place_of_field.ensures)
    ] in
    sym (look_up-nothing env x unbound no_field missed)
