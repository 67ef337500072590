use Rattle.std.proofs.Common.{
  ℕ,
  ◌<◌,
  ◌⊎◌,
  inl,
  inr,
  ◌≡◌,
  ◌∙◌,
  ◌++◌,
  List,
  ap,
  append-nil,
  arith,
  drop,
  length,
  sym,
}
use Rattle.std.proofs.Math.ListN.{drop_of_length-le}
use Rattle.std.proofs.lemmas.List.{take_rest}
use Rattle.run_events.specs.declared.name.Name.{Name}
use Rattle.locked_buffers.proofs.reading.read_sent.Goals as goal
use Rattle.locked_buffers.proofs.reading.read_sent.Goals.{in-Some+in_ok-add_names, in_default}

-- nothing lies past the end
past : (xs ys : List Name) (k : ℕ) → (length ys < k) ⊎ (length ys < length ys)
    → xs ≡ xs ++ drop k ys
past xs ys k (inl less) = sym (ap (λ zs. xs ++ zs) (drop_of_length-le ys (omega (arith, less)))
    ∙ append-nil xs)
past xs ys k (inr less) = absurd (omega (arith, less))

pub returns-clause-sent : goal.returns-clause-sent
returns-clause-sent g c =
    let old = c.args.sent.now.items in
    let names = c.messages.result.now in
    let k = c.args.known in record {
      messages = names;
      are = c.messages.ensures;
      adds = elim c.match-get.branch [
        | in-Some+in_ok-add_names w ↦
            ap (λ v. v.items) w.sent-is ∙ w.in_ok-add_names.ensures.ok
            ∙ ap (λ zs. old ++ zs) (w.in-Some.ensures.lookup.0.2 ∙ take_rest names k)
        | in_default w ↦ ap (λ v. v.items) w.sent-is
            ∙ past old names k w.in_default.ensures.lookup.0
      ];
      counted = ap length c.trace.ensures.value;
    }
