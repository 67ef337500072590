-- The programs of the library, by their names.
use Rattle.std.specs.Prelude.{◌≡◌, ◌⊎◌, ◌+◌, ◌*◌, ◌≤◌, ℕ, List, codes}
use Rattle.algorithm_library.specs.Programs.{count_votes_tree, gather_tree}
use Rattle.algorithm_library.specs.Refusals.{IsCount, IsWithin}
use Rattle.algorithm_library.specs.Texts.{count_votes_rest, dls1_rest, gather_rest, text_of}
use Rattle.round_lang.specs.Syntax.{ProgramTree}
use Rattle.round_meaning.specs.Algorithm1.{dls1}

-- the library's program under a name, for K values, if so many nodes run it with so many faults
abbrev pub Offers : (name : List ℕ) (k nodes faults : ℕ) → ProgramTree → Type 0
Offers name k nodes faults p =
    ((name ≡ codes "gather") × IsCount k × (p ≡ gather_tree k))
    ⊎ (((name ≡ codes "count_votes") × IsCount k × (p ≡ count_votes_tree k))
    ⊎ ((name ≡ codes "dls1") × IsWithin nodes faults k × (p ≡ dls1 k)
    × (2 * faults + 1 ≤ nodes)))

-- the library has a program of this name
abbrev pub IsLibraryName : List ℕ → Type 0
IsLibraryName name =
    (name ≡ codes "gather") ⊎ ((name ≡ codes "count_votes") ⊎ (name ≡ codes "dls1"))

-- the text of the library's program under a name, for K values
abbrev pub OffersText : (name : List ℕ) → (k : ℕ) → List ℕ → Type 0
OffersText name k text = IsCount k × (((name ≡ codes "gather") × (text ≡ text_of gather_rest k))
    ⊎ (((name ≡ codes "count_votes") × (text ≡ text_of count_votes_rest k))
    ⊎ ((name ≡ codes "dls1") × (text ≡ text_of dls1_rest k))))
