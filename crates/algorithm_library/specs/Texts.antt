-- The texts of the programs.
use Rattle.std.specs.Prelude.{◌≡◌, ◌≤◌, ℕ, ◌++◌, true, List, [], ◌∷◌, codes, length}
use Rattle.std.specs.Fmt.{decimal}
use Rattle.std.specs.List.{flat_map}
use Rattle.round_check.specs.Causes.{is_typed}
use Rattle.round_lang.specs.Limits.{max_text}
use Rattle.round_lang.specs.Source.{IsSource}
use Rattle.round_lang.specs.Syntax.{ProgramTree}

-- lines, each with its end
abbrev pub lines : List (List ℕ) → List ℕ
lines ls = flat_map (λ l. l ++ 10 ∷ []) ls

-- `values K`, and what follows
abbrev pub text_of : List ℕ → ℕ → List ℕ
text_of rest k = codes "values " ++ decimal k ++ rest

-- what follows the number of values in the text of `gather`
abbrev pub gather_rest : List ℕ
gather_rest =
    lines
    (codes " period 1"
    ∷ codes "input x"
    ∷ codes "state seen: set = single(x)"
    ∷ codes "decide seen"
    ∷ codes "at 1:"
    ∷ codes "  message (s: set)"
    ∷ codes "  send when true: (seen)"
    ∷ codes "  on message: seen := seen union s;"
    ∷ codes "  end:"
    ∷ [])

-- what follows the number of values in the text of `count_votes`
abbrev pub count_votes_rest : List ℕ
count_votes_rest =
    lines
    (codes " period 1"
    ∷ codes "input x"
    ∷ codes "state votes: row = zero"
    ∷ codes "state last: row = zero"
    ∷ codes "state top: set = empty"
    ∷ codes "decide top"
    ∷ codes "at 1:"
    ∷ codes "  message (v: num)"
    ∷ codes "  send when true: (x)"
    ∷ codes "  on message: votes := [w : if w = v then votes[w] + 1 else votes[w]];"
    ∷ codes "  end: top := {w : votes[w] > n div 2}; last := votes; votes := zero;"
    ∷ [])

-- what follows the number of values in the text of `dls1`, Algorithm 1
abbrev pub dls1_rest : List ℕ
dls1_rest =
    lines
    (codes " period 4"
    ∷ codes "input x"
    ∷ codes "state proper: set = single(x)"
    ∷ codes "state locks: row = zero"
    ∷ codes "state lists: row = zero"
    ∷ codes "state prop: set = empty"
    ∷ codes "state got: bool = false"
    ∷ codes "state acks: num = 0"
    ∷ codes "state done: set = empty"
    ∷ codes "decide done"
    ∷ codes "at 1:"
    ∷ codes "  message (list: set, p: set)"
    ∷ codes "  send when dest = (phase - 1) mod n:"
    ∷ codes "    ({v : has(proper, v) and size({w : w <> v and locks[w] > 0}) = 0}, proper)"
    ∷ codes "  on message:"
    ∷ codes "    lists := [v : if has(list, v) then lists[v] + 1 else lists[v]];"
    ∷ codes "    proper := proper union p;"
    ∷ codes "  end:"
    ∷ codes "    prop := if me = (phase - 1) mod n"
    ∷ codes "            then single(least({v : lists[v] >= n - t})) else empty;"
    ∷ codes "    lists := zero;"
    ∷ codes "at 2:"
    ∷ codes "  message (v: set, p: set)"
    ∷ codes "  send when size(prop) > 0: (prop, proper)"
    ∷ codes "  on message:"
    ∷ codes "    locks := [w : if has(v, w) then phase else locks[w]];"
    ∷ codes "    got := true;"
    ∷ codes "    proper := proper union p;"
    ∷ codes "  end:"
    ∷ codes "at 3:"
    ∷ codes "  message (p: set)"
    ∷ codes "  send when got and dest = (phase - 1) mod n: (proper)"
    ∷ codes "  on message:"
    ∷ codes "    acks := acks + 1;"
    ∷ codes "    proper := proper union p;"
    ∷ codes "  end:"
    ∷ codes "    done := if size(done) = 0 and acks >= t + 1 then prop else done;"
    ∷ codes "    acks := 0; got := false; prop := empty;"
    ∷ codes "at 4:"
    ∷ codes "  message (l: row, p: set)"
    ∷ codes "  send when size({v : locks[v] > 0}) > 0: (locks, proper)"
    ∷ codes "  on message:"
    ∷ codes "    locks := [v : if size({w : w <> v and l[w] > 0 and l[w] >= locks[v]}) > 0"
    ∷ codes "                  then 0 else locks[v]];"
    ∷ codes "    proper := proper union p;"
    ∷ codes "  end:"
    ∷ [])

-- the text is a program in which every expression has its type
pub record IsProgramText (text : List ℕ) : Type 0 where
  pub program : ProgramTree
  pub source : IsSource text program
  pub typed : is_typed program ≡ true
  pub short : length text ≤ max_text
