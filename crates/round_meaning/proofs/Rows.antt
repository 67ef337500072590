-- Runs that compute: the program `gather`, two nodes with the inputs 0 and 1, one round.
use Rattle.std.proofs.Common.{◌≡◌, ℕ, List, [], ◌∷◌, refl}
use Rattle.std.specs.Prelude.{codes, slice_index}
use Rattle.round_lang.specs.declared.expr.BinaryOperator.TheVariants.{Union}
use Rattle.round_lang.specs.declared.expr.Constant.TheVariants.{True}
use Rattle.round_lang.specs.declared.expr.Ty.TheVariants.{Set as SetTy}
use Rattle.round_lang.specs.declared.expr.UnaryOperator.TheVariants.{Single}
use Rattle.round_lang.specs.declared.program.VariableKind.TheVariants.{Input, State}
use Rattle.round_lang.specs.declared.value.Value.{Value}
use Rattle.round_lang.specs.declared.value.Value.TheVariants.{Num}
use Rattle.round_lang.specs.Sets.{is_in, set_of}
use Rattle.round_lang.specs.Syntax.{ProgramTree}
use Rattle.round_lang.specs.Tree.{TBinary, TFixed, TNamed, TUnary}
use Rattle.round_lang.specs.Values.{of_set}
use Rattle.round_meaning.specs.declared.omissions.Omission.{Omission}
use Rattle.round_meaning.specs.Omissions.{is_omitted}
use Rattle.round_meaning.specs.Rounds.{algorithm, inbox, rounds}

-- each node tells all that it has seen
abbrev pub gather : ProgramTree
gather = record {
  values = 2;
  period = 1;
  variables = record { name = codes "x"; kind = Input } ∷ record {
    name = codes "seen";
    kind = State SetTy (TUnary Single (TNamed (codes "x")));
  } ∷ [];
  decides = codes "seen" ∷ [];
  blocks = record {
    number = 1;
    fields = record { name = codes "s"; ty = SetTy } ∷ [];
    condition = TFixed True;
    sent = TNamed (codes "seen") ∷ [];
    on_message = record {
      target = codes "seen";
      formula = TBinary Union (TNamed (codes "seen")) (TNamed (codes "s"));
    } ∷ [];
    end = [];
  } ∷ [];
}

-- the states after one round
abbrev after_one : List Omission → ℕ → List Value
after_one os = rounds (algorithm gather 2 0 (slice_index (0 ∷ 1 ∷ []))) (is_omitted os) 1

-- with nothing omitted both have seen 0 and 1
nothing_omitted_first : after_one [] 0 ≡ Num 0 ∷ of_set 3 ∷ []
unfolding algorithm inbox rounds set_of is_in
nothing_omitted_first = refl

nothing_omitted_second : after_one [] 1 ≡ Num 1 ∷ of_set 3 ∷ []
unfolding algorithm inbox rounds set_of is_in
nothing_omitted_second = refl

abbrev omission : Omission
omission = record { receiver = 0; round = 1; sender = 1 }

-- if node 0 doesn't get node 1's message, it has seen 0 alone
omitted_first : after_one (omission ∷ []) 0 ≡ Num 0 ∷ of_set 1 ∷ []
unfolding algorithm inbox rounds set_of is_in
omitted_first = refl

omitted_second : after_one (omission ∷ []) 1 ≡ Num 1 ∷ of_set 3 ∷ []
unfolding algorithm inbox rounds set_of is_in
omitted_second = refl
