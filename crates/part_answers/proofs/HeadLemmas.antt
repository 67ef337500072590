-- The parts of a part's first line.
use Rattle.std.proofs.Common.{◌≡◌, ◌∙◌, ◌<◌, ◌++◌, ◌∷◌, [], ℕ, List, append_assoc, ap, arith, sym}
use Rattle.std.proofs.Common.{refl}
use Rattle.std.specs.Prelude.{codes, ◌^◌}
use Rattle.std.specs.Fmt.{decimal}
use Rattle.std.proofs.lemmas.Fmt.{decimal_injective}
use Rattle.part_answers.specs.Cuts.{IsCut, Lacks}
use Rattle.part_answers.specs.Heads.{IsHead, IsPart, head_text, share_text}
use Rattle.part_answers.specs.declared.part.Part.{Part}
use Rattle.part_answers.specs.declared.part.PartHead.{PartHead}
use Rattle.part_answers.proofs.CutLemmas.{cut_is, cut_somewhere, lacks_both, lacks_more}
use Rattle.part_answers.proofs.CutLemmas.{same_cut}
use Rattle.part_answers.proofs.CutLemmas.{lacks_nothing, lacks_tested}
use Rattle.part_answers.proofs.TextLemmas.{decimal_lacks, hex_lacks}

slash : (p : Part) → share_text p ≡ decimal p.number ++ 47 ∷ decimal p.count
slash p = append_assoc (decimal p.number) (47 ∷ []) (decimal p.count)

-- the numbers round the slash
pub share_parts : (text a b : List ℕ) (p : Part) → IsPart p → IsCut 47 text a b
    → text ≡ share_text p → (a ≡ decimal p.number) × (b ≡ decimal p.count)
share_parts text a b p is cut same =
    cut_is 47 text a b (decimal p.number) (decimal p.count) cut
    (decimal_lacks 47 p.number (omega arith) (omega (arith, is.1, is.2))) (same ∙ slash p)

pub share_is : (text a b : List ℕ) (m n : ℕ) (p : Part) → IsPart p → IsCut 47 text a b
    → a ≡ decimal m → b ≡ decimal n → m < 2 ^ 64 → n < 2 ^ 64 → text ≡ share_text p
    → (m ≡ p.number) × (n ≡ p.count)
share_is text a b m n p is cut first second small_m small_n same =
    let parts = share_parts text a b p is cut same in (
      decimal_injective m p.number small_m (omega (arith, is.1, is.2)) (sym first ∙ parts.0),
      decimal_injective n p.count small_n (omega (arith, is.2)) (sym second ∙ parts.1),
    )

-- a share has no mark that comes before its slash
pub share_lacks : (mark : ℕ) (p : Part) → mark < 47 → IsPart p → Lacks mark (share_text p)
share_lacks mark p before is =
    lacks_both mark (decimal p.number ++ 47 ∷ []) (decimal p.count)
    (lacks_both mark (decimal p.number) (47 ∷ [])
    (decimal_lacks mark p.number (omega (arith, before)) (omega (arith, is.1, is.2)))
    (lacks_more mark 47 [] (λ same. omega (arith, before, same)) (lacks_nothing mark)))
    (decimal_lacks mark p.count (omega (arith, before)) (omega (arith, is.2)))

spaces : (h : PartHead)
    → head_text h ≡ codes "part " ++ (share_text h.part ++ 32 ∷ (codes "of " ++ h.question))
spaces h = ap (λ t. codes "part " ++ t) (append_assoc (share_text h.part) (codes " of ") h.question)

behind_word : (line rest : List ℕ) (h : PartHead) → line ≡ codes "part " ++ rest
    → line ≡ head_text h → rest ≡ share_text h.part ++ 32 ∷ (codes "of " ++ h.question)
behind_word line rest h begins same =
    let both : codes "part " ++ rest
    ≡ codes "part " ++ (share_text h.part ++ 32 ∷ (codes "of " ++ h.question)) =
    sym begins ∙ same ∙ spaces h in cc both

-- the share, and what follows it
pub head_parts : (line rest a b : List ℕ) (h : PartHead) → IsHead h → line ≡ codes "part " ++ rest
    → IsCut 32 rest a b → line ≡ head_text h
    → (a ≡ share_text h.part) × (b ≡ codes "of " ++ h.question)
head_parts line rest a b h is begins cut same =
    cut_is 32 rest a b (share_text h.part) (codes "of " ++ h.question) cut
    (share_lacks 32 h.part (omega arith) is.0) (behind_word line rest h begins same)

pub head_begins : (line : List ℕ) (h : PartHead) → line ≡ head_text h
    → (rest : List ℕ) × (line ≡ codes "part " ++ rest)
head_begins line h same = (share_text h.part ++ 32 ∷ (codes "of " ++ h.question), same ∙ spaces h)

pub head_has_space : (line rest : List ℕ) (h : PartHead) → line ≡ codes "part " ++ rest
    → Lacks 32 rest → line ≡ head_text h → ⊥
head_has_space line rest h begins lacks same =
    cut_somewhere 32 rest (share_text h.part) (codes "of " ++ h.question) lacks
    (behind_word line rest h begins same)

-- a first line has no line end within it
pub head_lacks : (h : PartHead) → IsHead h → Lacks 10 (head_text h)
head_lacks h is =
    lacks_both 10 (codes "part " ++ share_text h.part ++ codes " of ") h.question
    (lacks_both 10 (codes "part " ++ share_text h.part) (codes " of ")
    (lacks_both 10 (codes "part ") (share_text h.part) (lacks_tested 10 (codes "part ") refl)
    (share_lacks 10 h.part (omega arith) is.0))
    (lacks_tested 10 (codes " of ") refl))
    (hex_lacks 10 h.question (omega arith) is.1.digits)

-- a text is that of one first line at most
pub same_head : (h g : PartHead) → IsHead h → IsHead g → head_text h ≡ head_text g
    → (h.part ≡ g.part) × (h.question ≡ g.question)
same_head h g first second same =
    let shares = behind_word (head_text g) (share_text h.part ++ 32 ∷ (codes "of " ++ h.question)) g
    (sym same ∙ spaces h) refl in
    let parts = same_cut 32 (share_text h.part) (codes "of " ++ h.question) (share_text g.part)
    (codes "of " ++ g.question) (share_lacks 32 h.part (omega arith) first.0)
    (share_lacks 32 g.part (omega arith) second.0) shares in
    let m = h.part.number in
    let n = h.part.count in
    let numbers = share_is (share_text h.part) (decimal m) (decimal n) m n g.part second.0
    (slash h.part, decimal_lacks 47 m (omega arith) (omega (arith, first.0.1, first.0.2))) refl refl
    (omega (arith, first.0.1, first.0.2)) (omega (arith, first.0.2)) parts.0 in (
      ap (λ (k : ℕ). record { number = k; count = n }) numbers.0
          ∙ ap (λ (k : ℕ). record { number = g.part.number; count = k }) numbers.1,
      cc parts.1,
    )
