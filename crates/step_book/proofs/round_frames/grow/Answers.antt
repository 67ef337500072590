use Rattle.std.proofs.Common.{◌≡◌, ◌++◌, ◌∙◌, All, None, Option, ap, arith, of_calls, rules}
use Rattle.std.proofs.lemmas.Fn.{chained_keeps}
use Rattle.std.proofs.lemmas.List.{take_all}
use Rattle.std.proofs.lemmas.List.Elements.{All-push}
use Rattle.step_machine.specs.Sealed.{Frame}
use Rattle.step_book.proofs.Tables.{same_longer}
use Rattle.step_book.proofs.round_frames.grow.Goals as goal

pub returns-in_ok-resize_with-clause-same : goal.returns-in_ok-resize_with-clause-same
returns-in_ok-resize_with-clause-same c =
    let h = c.in_ok-resize_with.ensures.items in
    let began = c.begin.new.frames.items in
    let more = h.0 in
    let free : All (λ (o : Option Frame). o ≡ None) more =
    chained_keeps _ (λ xs _. All (λ o. o ≡ None) xs)
    (λ xs f o g all step. All-push (λ z. z ≡ None) xs o all (search of_calls)) more _ _
    (search rules) h.3 in
    same_longer None _ began _ more (h.2
    ∙ ap (λ z. z ++ more) (take_all _ began (let l = c.if-len-length.true in omega arith))) free
    c.begin.ensures
