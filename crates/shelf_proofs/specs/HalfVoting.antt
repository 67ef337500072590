-- The program of LastVoting that takes (n + 1) div 2 nodes for a majority.
use Rattle.std.specs.Prelude.{◌≡◌, ℕ, ◌%◌, [], ◌∷◌, codes}
use Rattle.round_lang.specs.declared.expr.BinaryOperator.TheVariants.{Add, AtLeast, Div}
use Rattle.round_lang.specs.declared.expr.Constant.TheVariants.{Empty, Nodes}
use Rattle.round_lang.specs.Syntax.{BlockTree, ProgramTree}
use Rattle.round_lang.specs.Tree.{Tree, TBinary, TFixed, TIf, TNamed, TNumber}
use Rattle.round_explorer.specs.declared.question.Question.{Question}
use Rattle.shelf_proofs.specs.LastVoting as voting
use Rattle.shelf_proofs.specs.LastVoting.{last_voting_tree}

-- count >= (n + 1) div 2
abbrev pub is_half : Tree
is_half =
    TBinary AtLeast (TNamed (codes "count"))
    (TBinary Div (TBinary Add (TFixed Nodes) (TNumber 1)) (TNumber 2))

-- the coordinator proposes if it heard half of the nodes
abbrev pub block1 : BlockTree
block1 = record voting.block1 {
  end = record {
    target = codes "vote";
    formula = TIf is_half (TNamed (codes "vote")) (TFixed Empty);
  }
      ∷ record { target = codes "newest"; formula = TNumber 0 }
      ∷ record { target = codes "count"; formula = TNumber 0 } ∷ [];
}

-- and it's ready if half of them took its vote
abbrev pub block3 : BlockTree
block3 = record voting.block3 {
  end = record { target = codes "ready"; formula = is_half }
      ∷ record { target = codes "count"; formula = TNumber 0 } ∷ [];
}

-- the program, over the values 0 to k-1
abbrev pub half_voting_tree : ℕ → ProgramTree
half_voting_tree k =
    record (last_voting_tree k) { blocks = block1 ∷ voting.block2 ∷ block3 ∷ voting.block4 ∷ [] }

-- anything, of an odd number of nodes
abbrev pub AsksOddNodes : ℕ → ℕ → Question → Type 0
AsksOddNodes n t question = n % 2 ≡ 1
