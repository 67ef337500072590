-- Reading a block is its rule.
use Rattle.std.proofs.Common.{◌≡◌, ℕ, suc, ◌<◌, ◌≤◌, true, false, List, [], ◌∷◌, length, Some, refl}
use Rattle.std.proofs.Common.{sym, ap, ◌∙◌, subst, arith}
use Rattle.std.proofs.lemmas.Option.{same_Some}
use Rattle.round_lang.specs.declared.token.Mark.TheVariants as m
use Rattle.round_lang.specs.declared.block.Field.{Field}
use Rattle.round_lang.specs.declared.block.Assignment.{Assignment}
use Rattle.round_lang.specs.Lexemes.{Lexeme, number, mark, same_mark}
use Rattle.round_lang.specs.Limits.{max_fields, max_number}
use Rattle.round_lang.specs.Tree.{Tree}
use Rattle.round_lang.specs.Syntax.{BlockTree}
use Rattle.round_lang.specs.Grammar.{value_of}
use Rattle.round_lang.specs.Source.{IsExpr, IsField, IsAssign, IsBlock, Many, Listed, After}
use Rattle.round_lang.specs.Source as g
use Rattle.round_lang.specs.Reading.{◌>>=◌, after, number_at, begins_with, begins_name, formula}
use Rattle.round_lang.specs.Parts.{any_assignment, fields, sent, assignments, head, sending}
use Rattle.round_lang.specs.Parts.{on_message, ending, block, any_block}
use Rattle.round_lang.proofs.Steps.{some_then, after_is, number_is}
use Rattle.round_lang.proofs.Sound.{formula_good}
use Rattle.round_lang.proofs.Ends.{ends_at_comma, ends_at_close, ends_at_colon}
use Rattle.round_lang.proofs.Complete.{formula_found, number_found}
use Rattle.round_lang.proofs.Shorter.{reads_shorter, no_close, many_shorter}
use Rattle.round_lang.proofs.Repetition.{ItemLaws, many_good, many_found, weight_of}
use Rattle.round_lang.proofs.Lists.{listed_good, listed_found}
use Rattle.round_lang.proofs.Items.{Anything, expr_laws, field_laws, field_no_close}
use Rattle.round_lang.proofs.Items.{assignment_laws}

weight-ones : (fs : List Field) → weight_of (λ f. 1) fs ≡ length fs
weight-ones [] = refl
weight-ones (f ∷ fs) = omega (arith, weight-ones fs)

pub weight-none : {A : Type 0} (xs : List A) → weight_of (λ x. 0) xs ≡ 0
weight-none [] = refl
weight-none (x ∷ xs) = omega (arith, weight-none xs)

-- ---- the lists of a block

pub fields_good : (ws : List Lexeme) (fs : List Field) (rest : List Lexeme)
    → fields ws ≡ Some (fs, rest) → Listed IsField fs ws rest × (length fs ≤ max_fields)
unfolding fields
fields_good ws fs rest e = let p = listed_good field_laws (λ rest. tt) ws fs rest e in
    (p.reads, omega (arith, p.few, weight-ones fs))

fields_found : (fs : List Field) (ws rest : List Lexeme)
    → Listed IsField fs ws (mark m.Close ∷ rest) → length fs ≤ max_fields
    → fields ws ≡ Some (fs, mark m.Close ∷ rest)
unfolding fields
fields_found fs ws rest r few = listed_found field_laws (λ rest. tt) r rest refl
    (λ f ws rest r. field_no_close r) (omega (arith, weight-ones fs)) tt

sent_good : (ws : List Lexeme) (ts : List Tree) (rest : List Lexeme) → sent ws ≡ Some (ts, rest)
    → Listed IsExpr ts ws rest
unfolding sent
sent_good ws ts rest e = let p = listed_good expr_laws ends_at_comma ws ts rest e in p.reads

sent_found : (ts : List Tree) (ws rest : List Lexeme) → Listed IsExpr ts ws (mark m.Close ∷ rest)
    → sent ws ≡ Some (ts, mark m.Close ∷ rest)
unfolding sent
sent_found ts ws rest r = listed_found expr_laws ends_at_comma r rest refl
    (λ t ws rest r. no_close r) (omega (arith, weight-none ts)) (ends_at_close rest)

assignments_good : (ws : List Lexeme) (as' : List Assignment) (rest : List Lexeme)
    → assignments ws ≡ Some (as', rest) → Many IsAssign as' ws rest
unfolding assignments
assignments_good ws as' rest e = let p = many_good begins_name any_assignment (λ a. 0) 0 IsAssign
    Anything assignment_laws (suc (length ws)) 0 ws as' rest e in p.reads

assignments_found : (as' : List Assignment) (ws rest : List Lexeme) → Many IsAssign as' ws rest
    → begins_name rest ≡ false → assignments ws ≡ Some (as', rest)
unfolding assignments
assignments_found as' ws rest r e = many_found begins_name any_assignment (λ a. 0) 0 IsAssign
    Anything assignment_laws r (suc (length ws)) 0 (omega arith) (omega (arith, weight-none as')) tt
    e

-- ---- the four parts of a block

record HeadGood (ws : List Lexeme) (n : ℕ) (fs : List Field) (rest : List Lexeme) : Type 0 where
  digits : List ℕ
  value : value_of digits ≡ n
  small : n ≤ max_number
  front : List Lexeme
  is : ws ≡ number digits ∷ mark m.Colon ∷ mark m.Message ∷ mark m.Open ∷ front
  reads : Listed IsField fs front (mark m.Close ∷ rest)
  few : length fs ≤ max_fields

head_good : (ws : List Lexeme) (n : ℕ) (fs : List Field) (rest : List Lexeme)
    → head ws ≡ Some (n, fs, rest) → HeadGood ws n fs rest
unfolding head
head_good ws n fs rest e =
    let last = λ (n : ℕ) (fs : List Field × List Lexeme). after m.Close fs.1
    >>= λ rest. Some (n, fs.0, rest) in
    let v = some_then (number_at 0 max_number ws)
    (λ n. after m.Colon n.1 >>= λ xs. after m.Message xs >>= λ ys. after m.Open ys
    >>= λ zs. fields zs >>= λ fs. last n.0 fs) (n, fs, rest) e in
    let a = some_then (after m.Colon v.0.1)
    (λ xs. after m.Message xs >>= λ ys. after m.Open ys >>= λ zs. fields zs
    >>= λ fs. last v.0.0 fs) (n, fs, rest) v.2 in
    let b = some_then (after m.Message a.0)
    (λ ys. after m.Open ys >>= λ zs. fields zs >>= λ fs. last v.0.0 fs) (n, fs, rest) a.2 in
    let c = some_then (after m.Open b.0) (λ zs. fields zs >>= λ fs. last v.0.0 fs) (n, fs, rest)
    b.2 in
    let l = some_then (fields c.0) (λ fs. last v.0.0 fs) (n, fs, rest) c.2 in
    let r = some_then (after m.Close l.0.1) (λ rest. Some (v.0.0, l.0.0, rest)) (n, fs, rest) l.2 in
    let p = number_is 0 max_number ws v.0.0 v.0.1 v.1 in
    let good = fields_good c.0 l.0.0 l.0.1 l.1 in
    let reads' : Listed IsField l.0.0 c.0 (mark m.Close ∷ r.0) =
    subst (λ (v : List Lexeme). Listed IsField l.0.0 c.0 v) (after_is m.Close l.0.1 r.0 r.1)
    good.0 in
    subst (λ (v : ℕ × List Field × List Lexeme). HeadGood ws v.0 v.1 v.2)
    (same_Some (v.0.0, l.0.0, r.0) (n, fs, rest) r.2) (record {
      digits = p.digits;
      value = p.value;
      small = p.most;
      front = c.0;
      is = p.is ∙ ap (λ (u : List Lexeme). number p.digits ∷ u)
          (after_is m.Colon v.0.1 a.0 a.1 ∙ ap (λ (u : List Lexeme). mark m.Colon ∷ u)
          (after_is m.Message a.0 b.0 b.1 ∙ ap (λ (u : List Lexeme). mark m.Message ∷ u)
          (after_is m.Open b.0 c.0 c.1)));
      reads = reads';
      few = good.1;
    })

record SendingGood (ws : List Lexeme) (t : Tree) (ts : List Tree)
    (rest : List Lexeme) : Type 0 where
  front : List Lexeme
  middle : List Lexeme
  is : ws ≡ mark m.Send ∷ mark m.When ∷ front
  condition : IsExpr t front (mark m.Colon ∷ mark m.Open ∷ middle)
  reads : Listed IsExpr ts middle (mark m.Close ∷ rest)

sending_good : (ws : List Lexeme) (t : Tree) (ts : List Tree) (rest : List Lexeme)
    → sending ws ≡ Some (t, ts, rest) → SendingGood ws t ts rest
unfolding sending
sending_good ws t ts rest e =
    let last = λ (t : Tree) (ts : List Tree × List Lexeme). after m.Close ts.1
    >>= λ rest. Some (t, ts.0, rest) in
    let a = some_then (after m.Send ws)
    (λ xs. after m.When xs >>= λ ys. formula ys >>= λ t. after m.Colon t.1
    >>= λ zs. after m.Open zs >>= λ us. sent us >>= λ ts. last t.0 ts) (t, ts, rest) e in
    let b = some_then (after m.When a.0)
    (λ ys. formula ys >>= λ t. after m.Colon t.1 >>= λ zs. after m.Open zs >>= λ us. sent us
    >>= λ ts. last t.0 ts) (t, ts, rest) a.2 in
    let v = some_then (formula b.0)
    (λ t. after m.Colon t.1 >>= λ zs. after m.Open zs >>= λ us. sent us >>= λ ts. last t.0 ts)
    (t, ts, rest) b.2 in
    let c = some_then (after m.Colon v.0.1)
    (λ zs. after m.Open zs >>= λ us. sent us >>= λ ts. last v.0.0 ts) (t, ts, rest) v.2 in
    let o = some_then (after m.Open c.0) (λ us. sent us >>= λ ts. last v.0.0 ts) (t, ts, rest)
    c.2 in
    let l = some_then (sent o.0) (λ ts. last v.0.0 ts) (t, ts, rest) o.2 in
    let r = some_then (after m.Close l.0.1) (λ rest. Some (v.0.0, l.0.0, rest)) (t, ts, rest) l.2 in
    let colon = after_is m.Colon v.0.1 c.0 c.1 ∙ ap (λ (u : List Lexeme). mark m.Colon ∷ u)
    (after_is m.Open c.0 o.0 o.1) in
    let condition' : IsExpr v.0.0 b.0 (mark m.Colon ∷ mark m.Open ∷ o.0) =
    subst (λ (u : List Lexeme). IsExpr v.0.0 b.0 u) colon (formula_good b.0 v.0.0 v.0.1 v.1) in
    let reads' : Listed IsExpr l.0.0 o.0 (mark m.Close ∷ r.0) =
    subst (λ (u : List Lexeme). Listed IsExpr l.0.0 o.0 u) (after_is m.Close l.0.1 r.0 r.1)
    (sent_good o.0 l.0.0 l.0.1 l.1) in
    subst (λ (v : Tree × List Tree × List Lexeme). SendingGood ws v.0 v.1 v.2)
    (same_Some (v.0.0, l.0.0, r.0) (t, ts, rest) r.2) (record {
      front = b.0;
      middle = o.0;
      is = after_is m.Send ws a.0 a.1 ∙ ap (λ (u : List Lexeme). mark m.Send ∷ u)
          (after_is m.When a.0 b.0 b.1);
      condition = condition';
      reads = reads';
    })

on_message_good : (ws : List Lexeme) (as' : List Assignment) (rest : List Lexeme)
    → on_message ws ≡ Some (as', rest)
    → (xs : List Lexeme) × (ws ≡ mark m.On ∷ mark m.Message ∷ mark m.Colon ∷ xs)
    × Many IsAssign as' xs rest
unfolding on_message
on_message_good ws as' rest e =
    let a = some_then (after m.On ws)
    (λ xs. after m.Message xs >>= λ ys. after m.Colon ys >>= λ zs. assignments zs) (as', rest)
    e in
    let b = some_then (after m.Message a.0) (λ ys. after m.Colon ys >>= λ zs. assignments zs)
    (as', rest) a.2 in
    let c = some_then (after m.Colon b.0) (λ zs. assignments zs) (as', rest) b.2 in (
      c.0,
      after_is m.On ws a.0 a.1 ∙ ap (λ (u : List Lexeme). mark m.On ∷ u)
          (after_is m.Message a.0 b.0 b.1 ∙ ap (λ (u : List Lexeme). mark m.Message ∷ u)
          (after_is m.Colon b.0 c.0 c.1)),
      assignments_good c.0 as' rest c.2,
    )

ending_good : (ws : List Lexeme) (as' : List Assignment) (rest : List Lexeme)
    → ending ws ≡ Some (as', rest) → (xs : List Lexeme) × (ws ≡ mark m.End ∷ mark m.Colon ∷ xs)
    × Many IsAssign as' xs rest
unfolding ending
ending_good ws as' rest e =
    let a = some_then (after m.End ws) (λ xs. after m.Colon xs >>= λ ys. assignments ys) (as', rest)
    e in
    let b = some_then (after m.Colon a.0) (λ ys. assignments ys) (as', rest) a.2 in (
      b.0,
      after_is m.End ws a.0 a.1 ∙ ap (λ (u : List Lexeme). mark m.End ∷ u)
          (after_is m.Colon a.0 b.0 b.1),
      assignments_good b.0 as' rest b.2,
    )

abbrev made_of : ℕ → List Field → Tree → List Tree → List Assignment → List Assignment → BlockTree
made_of n fs t ts ons ends =
    record { number = n; fields = fs; condition = t; sent = ts; on_message = ons; end = ends }

block_good : (ws : List Lexeme) (b : BlockTree) (rest : List Lexeme) → block ws ≡ Some (b, rest)
    → IsBlock b (mark m.At ∷ ws) rest
unfolding block
block_good ws b rest e =
    let last = λ (h : ℕ × List Field × List Lexeme) (s : Tree × List Tree × List Lexeme)
    (ons ends : List Assignment × List Lexeme). Some
    (made_of h.0 h.1 s.0 s.1 ons.0 ends.0, ends.1) in
    let h = some_then (head ws) (λ h. sending h.2 >>= λ s. on_message s.2 >>= λ ons. ending ons.1
    >>= λ ends. last h s ons ends) (b, rest) e in
    let s = some_then (sending h.0.2)
    (λ s. on_message s.2 >>= λ ons. ending ons.1 >>= λ ends. last h.0 s ons ends) (b, rest)
    h.2 in
    let o = some_then (on_message s.0.2) (λ ons. ending ons.1 >>= λ ends. last h.0 s.0 ons ends)
    (b, rest) s.2 in
    let n = some_then (ending o.0.1) (λ ends. last h.0 s.0 o.0 ends) (b, rest) o.2 in
    let hg = head_good ws h.0.0 h.0.1 h.0.2 h.1 in
    let sg = sending_good h.0.2 s.0.0 s.0.1 s.0.2 s.1 in
    let og = on_message_good s.0.2 o.0.0 o.0.1 o.1 in
    let ng = ending_good o.0.1 n.0.0 n.0.1 n.1 in
    let fields' : Listed IsField h.0.1 hg.front
    (mark m.Close ∷ mark m.Send ∷ mark m.When ∷ sg.front) =
    subst (λ (u : List Lexeme). Listed IsField h.0.1 hg.front (mark m.Close ∷ u)) sg.is
    hg.reads in
    let sent' : Listed IsExpr s.0.1 sg.middle
    (mark m.Close ∷ mark m.On ∷ mark m.Message ∷ mark m.Colon ∷ og.0) =
    subst (λ (u : List Lexeme). Listed IsExpr s.0.1 sg.middle (mark m.Close ∷ u)) og.1
    sg.reads in
    let ons' : Many IsAssign o.0.0 og.0 (mark m.End ∷ mark m.Colon ∷ ng.0) =
    subst (λ (u : List Lexeme). Many IsAssign o.0.0 og.0 u) ng.1 og.2 in
    let b2 : BlockTree = made_of h.0.0 h.0.1 s.0.0 s.0.1 o.0.0 n.0.0 in
    let made : IsBlock b2
    (mark m.At ∷ number hg.digits ∷ mark m.Colon ∷ mark m.Message ∷ mark m.Open ∷ hg.front)
    n.0.1 = g.block hg.value hg.small fields' hg.few sg.condition sent' ons' ng.2 in
    subst (λ (v : BlockTree × List Lexeme). IsBlock v.0 (mark m.At ∷ ws) v.1)
    (same_Some (b2, n.0.1) (b, rest) n.2)
    (subst (λ (u : List Lexeme). IsBlock b2 (mark m.At ∷ u) n.0.1) (sym hg.is) made)

-- ---- and back

head_found : (digits : List ℕ) (n : ℕ) (fs : List Field) (ws rest : List Lexeme)
    → value_of digits ≡ n → n ≤ max_number → Listed IsField fs ws (mark m.Close ∷ rest)
    → length fs ≤ max_fields
    → head (number digits ∷ mark m.Colon ∷ mark m.Message ∷ mark m.Open ∷ ws) ≡ Some (n, fs, rest)
unfolding head after same_mark
head_found digits n fs ws rest value small r few =
    let a = number_found 0 max_number digits n (mark m.Colon ∷ mark m.Message ∷ mark m.Open ∷ ws)
    value (omega arith) small in
    let b = fields_found fs ws rest r few in
    rw (a, b) refl

sending_found : (t : Tree) (ts : List Tree) (ws xs rest : List Lexeme)
    → IsExpr t ws (mark m.Colon ∷ mark m.Open ∷ xs) → Listed IsExpr ts xs (mark m.Close ∷ rest)
    → sending (mark m.Send ∷ mark m.When ∷ ws) ≡ Some (t, ts, rest)
unfolding sending after same_mark
sending_found t ts ws xs rest r l =
    let a = formula_found t ws (mark m.Colon ∷ mark m.Open ∷ xs) r
    (ends_at_colon (mark m.Open ∷ xs)) in
    let b = sent_found ts xs rest l in
    rw (a, b) refl

end_ends : (rest : List Lexeme) → begins_name (mark m.End ∷ rest) ≡ false
unfolding begins_name
end_ends rest = refl

on_message_found : (as' : List Assignment) (ws rest : List Lexeme)
    → Many IsAssign as' ws (mark m.End ∷ rest)
    → on_message (mark m.On ∷ mark m.Message ∷ mark m.Colon ∷ ws) ≡ Some (as', mark m.End ∷ rest)
unfolding on_message after same_mark
on_message_found as' ws rest r = assignments_found as' ws (mark m.End ∷ rest) r (end_ends rest)

ending_found : (as' : List Assignment) (ws rest : List Lexeme) → Many IsAssign as' ws rest
    → begins_name rest ≡ false → ending (mark m.End ∷ mark m.Colon ∷ ws) ≡ Some (as', rest)
unfolding ending after same_mark
ending_found as' ws rest r e = assignments_found as' ws rest r e

block_found : {b : BlockTree} {ws rest : List Lexeme} → IsBlock b ws rest → begins_name rest ≡ false
    → (after m.At ws >>= block) ≡ Some (b, rest)
unfolding block after same_mark
block_found (g.block {n = n} {digits = digits} {fs = fs} {t = t} {ts = ts} {ons = ons} {ends = ends}
    {ws = ws} {xs = xs} {ys = ys} {zs = zs} {us = us} {rest = rest} value small fields' few
    condition' sent' ons' ends') e =
    let a = head_found digits n fs ws (mark m.Send ∷ mark m.When ∷ xs) value small fields' few in
    let b = sending_found t ts xs ys (mark m.On ∷ mark m.Message ∷ mark m.Colon ∷ zs) condition'
    sent' in
    let c = on_message_found ons zs (mark m.Colon ∷ us) ons' in
    let d = ending_found ends us rest ends' e in
    rw (a, b, c, d) refl

listed_shorter : {A : Type 0} {Item : A → List Lexeme → List Lexeme → Type 0} {found : List A}
    {ws rest : List Lexeme}
    → ((a : A) (ws rest : List Lexeme) → Item a ws rest → length rest < length ws)
    → Listed Item found ws rest → length rest ≤ length ws
listed_shorter h g.empty = omega arith
listed_shorter {A} {Item} h (g.some {a = a} {ws = ws} {xs = xs} r more) =
    omega (arith, h a ws xs r, many_shorter (λ a ws rest r. comma_shorter h r) more)
  where
    comma_shorter : ((a : A) (ws rest : List Lexeme) → Item a ws rest → length rest < length ws)
        → {a : A} {ws rest : List Lexeme} → After m.Comma Item a ws rest → length rest < length ws
    comma_shorter h (g.behind {a = a} {ws = ws} {rest = rest} r) = omega (arith, h a ws rest r)

block_shorter : {b : BlockTree} {ws rest : List Lexeme} → IsBlock b ws rest
    → length rest < length ws
block_shorter (g.block value small fields' few condition' sent' ons' ends') =
    omega (
      arith,
      listed_shorter field_laws.shorter fields',
      reads_shorter condition',
      listed_shorter expr_laws.shorter sent',
      many_shorter assignment_laws.shorter ons',
      many_shorter assignment_laws.shorter ends',
    )

block_begun : {b : BlockTree} {ws rest : List Lexeme} → IsBlock b ws rest
    → begins_with m.At ws ≡ true
unfolding begins_with same_mark
block_begun (g.block value small fields' few condition' sent' ons' ends') = refl

-- a block ends before what is no name
abbrev pub NoName : List Lexeme → Type 0
NoName rest = begins_name rest ≡ false

at_follows : (ws : List Lexeme) → begins_with m.At ws ≡ true → NoName ws
unfolding begins_name begins_with
at_follows (mark k ∷ ws) e = refl
at_follows _ e = absurd cc

any_block_good : (ws : List Lexeme) (b : BlockTree) (rest : List Lexeme)
    → (after m.At ws >>= block) ≡ Some (b, rest) → IsBlock b ws rest
any_block_good ws b rest e =
    let o = some_then (after m.At ws) block (b, rest) e in
    subst (λ (u : List Lexeme). IsBlock b u rest) (sym (after_is m.At ws o.0 o.1))
    (block_good o.0 b rest o.2)

pub block_laws : ItemLaws (begins_with m.At) any_block (λ b. 0) 0 IsBlock NoName
block_laws = record {
  good = λ count ws b rest e. (any_block_good ws b rest e, λ le. omega (arith, le));
  found = λ count b ws rest r few f. block_found r f;
  shorter = λ b ws rest r. block_shorter r;
  begun = λ b ws rest r. block_begun r;
  follows = at_follows;
}
