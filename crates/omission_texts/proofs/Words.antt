-- What the reader finds in the words of a line is what they say.
use Rattle.std.proofs.Common.{◌≡◌, ℕ, Bool, true, false, cond, ◌&&◌, ◌||◌, List, [], ◌∷◌, map, Err}
use Rattle.std.proofs.Common.{Result, ◌⊎◌, inl, inr, refl, sym, ap, ◌∙◌, subst, codes}
use Rattle.std.specs.List.{AllZip, list_all}
use Rattle.std.specs.Str.{bytes_eq}
use Rattle.std.proofs.lemmas.Bool.{and_from, and_parts}
use Rattle.std.proofs.lemmas.Slice.Eq.{bytes_eq-Decides}
use Rattle.schedule_text.specs.Numbers.{IsNumeral, is_number, value_of, words_of}
use Rattle.omission_texts.specs.declared.fault.LineFault.{LineFault}
use Rattle.omission_texts.specs.declared.fault.LineFault.TheVariants as line
use Rattle.omission_texts.specs.declared.line.OmissionLine.{OmissionLine}
use Rattle.omission_texts.specs.declared.line.OmissionLine.TheVariants.{Omit, Cut, Crash}
use Rattle.omission_texts.specs.declared.line.RoundRange.{RoundRange}
use Rattle.omission_texts.specs.Forms.{are_ends, are_nodes, are_rounds, crash_in, cut_in, formed}
use Rattle.omission_texts.specs.Forms.{four_in, line_in, nodes_of, omit_in, parts_of, rounds_at}
use Rattle.omission_texts.specs.Forms.{rounds_of, sized, three_in, words_in}
use Rattle.omission_texts.specs.Texts.{AreNodes, AreRounds, HasForm, IsSpelt, numbers_of, words_for}
use Rattle.omission_texts.proofs.Numerals.{all_digits, digits_whole, one_part}

-- numbers with marks between them
pub zip_read : (ws : List (List ℕ)) (vs : List ℕ) → AllZip IsNumeral ws vs
    → (list_all is_number ws ≡ true) × (map value_of ws ≡ vs)
zip_read [] [] h = (refl, refl)
zip_read [] (v ∷ vs) h = absurd h
zip_read (w ∷ ws) [] h = absurd h
zip_read (w ∷ ws) (v ∷ vs) h =
    let p = zip_read ws vs h.1 in (
      and_from (is_number w) (list_all is_number ws) h.0.digits p.0,
      ap (λ x. x ∷ map value_of ws)
          h.0.value ∙ ap (λ xs. v ∷ xs) p.1,
    )

pub zip_said : (ws : List (List ℕ)) → list_all is_number ws ≡ true
    → AllZip IsNumeral ws (map value_of ws)
zip_said [] h = tt
zip_said (w ∷ ws) h =
    let p = and_parts (is_number w) (list_all is_number ws) h in
    (record { digits = p.0; value = refl }, zip_said ws p.1)

-- rounds
range_same : (f l : ℕ) (rs : RoundRange) → f ≡ rs.first → l ≡ rs.last
    → record { first = f; last = l } ≡ rs
range_same f l rs e d = ap (λ (x : ℕ). record { first = x; last = l }) e
    ∙ ap (λ (x : ℕ). record { first = rs.first; last = x }) d

pub rounds_read : (w : List ℕ) (rs : RoundRange) → AreRounds w rs
    → (are_rounds w ≡ true) × (rounds_of w ≡ rs)
rounds_read w rs (inl one) =
    let whole = digits_whole 45 w refl (all_digits w one.0.digits) in (
      ap are_ends whole ∙ one.0.digits,
      ap rounds_at whole
          ∙ range_same (value_of w) (value_of w) rs one.0.value (one.0.value ∙ sym one.1),
    )
rounds_read w rs (inr two) = go (parts_of 45 w) two
  where
    go : (ps : List (List ℕ)) → AllZip IsNumeral ps (rs.first ∷ rs.last ∷ [])
        → (are_ends ps ≡ true) × (rounds_at ps ≡ rs)
    go [] h = absurd h
    go (a ∷ []) h = absurd h.1
    go (a ∷ b ∷ []) h = (
      and_from (is_number a) (is_number b) h.0.digits h.1.0.digits,
      range_same (value_of a)
          (value_of b) rs h.0.value h.1.0.value,
    )
    go (a ∷ b ∷ c ∷ ps) h = absurd h.1.1

pub rounds_said : (w : List ℕ) → are_rounds w ≡ true → AreRounds w (rounds_of w)
rounds_said w h = go (parts_of 45 w) refl h
  where
    go : (ps : List (List ℕ)) → parts_of 45 w ≡ ps → are_ends ps ≡ true → AreRounds w (rounds_at ps)
    go [] e h = absurd cc
    go (a ∷ []) e h =
        let same = one_part 45 w a e in
        inl (
          record {
            digits = subst (λ x. is_number x ≡ true) same h;
            value = ap value_of
                (sym same);
          },
          refl,
        )
    go (a ∷ b ∷ []) e h =
        let p = and_parts (is_number a) (is_number b) h in
        inr (subst (λ ps. AllZip IsNumeral ps (value_of a ∷ value_of b ∷ [])) (sym e)
        (record { digits = p.0; value = refl }, (record { digits = p.1; value = refl }, tt)))
    go (a ∷ b ∷ c ∷ ps) e h = absurd cc

-- nodes
dash_no_number : (w : List ℕ) → w ≡ codes "-" → list_all is_number (parts_of 44 w) ≡ false
dash_no_number w e = ap (λ x. list_all is_number (parts_of 44 x)) e

pub nodes_read : (w : List ℕ) (list : List ℕ) → AreNodes w list
    → (are_nodes w ≡ true) × (nodes_of w ≡ list)
nodes_read w list (inl none) =
    let dash = (bytes_eq-Decides w (codes "-")).1 none.0 in (
      ap (λ b. b || list_all is_number (parts_of 44 w)) dash,
      ap
          (λ b. cond b [] (map value_of (parts_of 44 w))) dash ∙ sym none.1,
    )
nodes_read w list (inr some) = go (bytes_eq w (codes "-")) refl
  where
    p : (list_all is_number (parts_of 44 w) ≡ true) × (map value_of (parts_of 44 w) ≡ list)
    p = zip_read (parts_of 44 w) list some

    go : (b : Bool) → bytes_eq w (codes "-") ≡ b
        → ((b || list_all is_number (parts_of 44 w)) ≡ true) ×
        (cond b [] (map value_of (parts_of 44 w)) ≡ list)
    go true is =
        let not = dash_no_number w ((bytes_eq-Decides w (codes "-")).0 is) in
        let yes = p.0 in
        absurd (cc (not, yes))
    go false is = p

pub nodes_said : (w : List ℕ) → are_nodes w ≡ true → AreNodes w (nodes_of w)
nodes_said w h = go (bytes_eq w (codes "-")) refl h
  where
    go : (b : Bool) → bytes_eq w (codes "-") ≡ b → (b || list_all is_number (parts_of 44 w)) ≡ true
        → AreNodes w (cond b [] (map value_of (parts_of 44 w)))
    go true is h = inl ((bytes_eq-Decides w (codes "-")).0 is, refl)
    go false is h = inr (zip_said (parts_of 44 w) h)

-- lines
is_text : (w text : List ℕ) → w ≡ text → bytes_eq w text ≡ true
is_text w text e = (bytes_eq-Decides w text).1 e

omit_read : (a b c : List ℕ) (i : ℕ) (rs : RoundRange) (j : ℕ) → IsNumeral a i → AreRounds b rs
    → IsNumeral c j → omit_in a b c ≡ sized (numbers_of (Omit i rs j)) (Omit i rs j)
omit_read a b c i rs j x y z =
    let r = rounds_read b rs y in
    let x0 = x.digits in
    let x1 = x.value in
    let z0 = z.digits in
    let z1 = z.value in
    rw (x0, z0, x1, z1) (rw (r.0, r.1) refl)

cut_read : (a b : List ℕ) (list : List ℕ) (rs : RoundRange) → AreNodes a list → AreRounds b rs
    → cut_in a b ≡ sized (numbers_of (Cut list rs)) (Cut list rs)
cut_read a b list rs x y =
    let n = nodes_read a list x in
    let r = rounds_read b rs y in
    rw (n.0, n.1) (rw (r.0, r.1) refl)

crash_read : (a b c : List ℕ) (j r : ℕ) (list : List ℕ) → IsNumeral a j → IsNumeral b r
    → AreNodes c list → crash_in a b c ≡ sized (numbers_of (Crash j r list)) (Crash j r list)
crash_read a b c j r list x y z =
    let n = nodes_read c list z in
    let x0 = x.digits in
    let x1 = x.value in
    let y0 = y.digits in
    let y1 = y.value in
    rw (x0, y0, x1, y1) (rw (n.0, n.1) refl)

four_omit : (w a b c : List ℕ) → w ≡ codes "omit" → four_in w a b c ≡ omit_in a b c
four_omit w a b c e = ap (λ x. four_in x a b c) e

four_crash : (w a b c : List ℕ) → w ≡ codes "crash" → four_in w a b c ≡ crash_in a b c
four_crash w a b c e = ap (λ x. four_in x a b c) e

three_cut : (w a b : List ℕ) → w ≡ codes "cut" → three_in w a b ≡ cut_in a b
three_cut w a b e = ap (λ x. three_in x a b) e

-- words that are spelt as a line says are read as it
pub words_read : (ws : List (List ℕ)) (said : OmissionLine) → AllZip IsSpelt ws (words_for said)
    → words_in ws ≡ sized (numbers_of said) said
words_read [] (Omit i rs j) h = absurd h
words_read [] (Cut list rs) h = absurd h
words_read [] (Crash j r list) h = absurd h
words_read (w ∷ []) (Omit i rs j) h = absurd h.1
words_read (w ∷ []) (Cut list rs) h = absurd h.1
words_read (w ∷ []) (Crash j r list) h = absurd h.1
words_read (w ∷ a ∷ []) (Omit i rs j) h = absurd h.1.1
words_read (w ∷ a ∷ []) (Cut list rs) h = absurd h.1.1
words_read (w ∷ a ∷ []) (Crash j r list) h = absurd h.1.1
words_read (w ∷ a ∷ b ∷ []) (Omit i rs j) h = absurd h.1.1.1
words_read (w ∷ a ∷ b ∷ []) (Cut list rs) h = three_cut w a b h.0
    ∙ cut_read a b list rs h.1.0 h.1.1.0
words_read (w ∷ a ∷ b ∷ []) (Crash j r list) h = absurd h.1.1.1
words_read (w ∷ a ∷ b ∷ c ∷ []) (Omit i rs j) h = four_omit w a b c h.0
    ∙ omit_read a b c i rs j h.1.0 h.1.1.0 h.1.1.1.0
words_read (w ∷ a ∷ b ∷ c ∷ []) (Cut list rs) h = absurd h.1.1.1
words_read (w ∷ a ∷ b ∷ c ∷ []) (Crash j r list) h = four_crash w a b c h.0
    ∙ crash_read a b c j r list h.1.0 h.1.1.0 h.1.1.1.0
words_read (w ∷ a ∷ b ∷ c ∷ d ∷ ws) (Omit i rs j) h = absurd h.1.1.1.1
words_read (w ∷ a ∷ b ∷ c ∷ d ∷ ws) (Cut list rs) h = absurd h.1.1.1
words_read (w ∷ a ∷ b ∷ c ∷ d ∷ ws) (Crash j r list) h = absurd h.1.1.1.1

-- what the reader finds is what the words are spelt as, or nothing has that form
abbrev pub Finds : List (List ℕ) → Result OmissionLine LineFault → Type 0
Finds ws found =
    ((said : OmissionLine) × AllZip IsSpelt ws (words_for said) ×
    (found ≡ sized (numbers_of said) said))
    ⊎ (found ≡ Err line.Bad)

formed_finds : (ws : List (List ℕ)) (b : Bool) (said : OmissionLine)
    → (b ≡ true → AllZip IsSpelt ws (words_for said)) → Finds ws (formed b (numbers_of said) said)
formed_finds ws true said h = inl (said, h refl, refl)
formed_finds ws false said h = inr refl

numeral : (w : List ℕ) → is_number w ≡ true → IsNumeral w (value_of w)
numeral w h = record { digits = h; value = refl }

three_finds : (w a b : List ℕ) → Finds (w ∷ a ∷ b ∷ []) (three_in w a b)
three_finds w a b = go (bytes_eq w (codes "cut")) refl
  where
    go : (x : Bool) → bytes_eq w (codes "cut") ≡ x
        → Finds (w ∷ a ∷ b ∷ []) (cond x (cut_in a b) (Err line.Bad))
    go true is = formed_finds (w ∷ a ∷ b ∷ []) (are_nodes a && are_rounds b)
        (Cut (nodes_of a) (rounds_of b)) (λ h.
        let p = and_parts (are_nodes a) (are_rounds b) h in
        ((bytes_eq-Decides w (codes "cut")).0 is, (nodes_said a p.0, (rounds_said b p.1, tt))))
    go false is = inr refl

four_finds : (w a b c : List ℕ) → Finds (w ∷ a ∷ b ∷ c ∷ []) (four_in w a b c)
four_finds w a b c = go (bytes_eq w (codes "omit")) (bytes_eq w (codes "crash")) refl refl
  where
    go : (x y : Bool) → bytes_eq w (codes "omit") ≡ x → bytes_eq w (codes "crash") ≡ y
        → Finds (w ∷ a ∷ b ∷ c ∷ []) (cond x (omit_in a b c)
        (cond y (crash_in a b c) (Err line.Bad)))
    go true y is _ = formed_finds (w ∷ a ∷ b ∷ c ∷ [])
        (is_number a && (are_rounds b && is_number c))
        (Omit (value_of a) (rounds_of b) (value_of c)) (λ h.
        let p = and_parts (is_number a) (are_rounds b && is_number c) h in
        let q = and_parts (are_rounds b) (is_number c) p.1 in (
          (bytes_eq-Decides w (codes "omit")).0 is,
          (numeral a p.0, (rounds_said b q.0, (numeral c q.1, tt))),
        ))
    go false true _ is = formed_finds (w ∷ a ∷ b ∷ c ∷ [])
        (is_number a && (is_number b && are_nodes c)) (Crash (value_of a) (value_of b) (nodes_of c))
        (λ h.
        let p = and_parts (is_number a) (is_number b && are_nodes c) h in
        let q = and_parts (is_number b) (are_nodes c) p.1 in (
          (bytes_eq-Decides w (codes "crash")).0 is,
          (numeral a p.0, (numeral b q.0, (nodes_said c q.1, tt))),
        ))
    go false false _ _ = inr refl

pub words_found : (ws : List (List ℕ)) → Finds ws (words_in ws)
words_found [] = inr refl
words_found (w ∷ []) = inr refl
words_found (w ∷ a ∷ []) = inr refl
words_found (w ∷ a ∷ b ∷ []) = three_finds w a b
words_found (w ∷ a ∷ b ∷ c ∷ []) = four_finds w a b c
words_found (w ∷ a ∷ b ∷ c ∷ d ∷ ws) = inr refl

-- a line that has the form of what is said is read as it
pub line_read : (l : List ℕ) (said : OmissionLine) → HasForm l said
    → line_in l ≡ sized (numbers_of said) said
unfolding line_in
line_read l said h = words_read (words_of l) said h

pub line_found : (l : List ℕ) → Finds (words_of l) (line_in l)
unfolding line_in
line_found l = words_found (words_of l)
