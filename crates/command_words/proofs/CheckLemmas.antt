-- The loop over the names between commas.
use Rattle.std.proofs.Common.{◌≡◌, ◌∙◌, ◌<◌, ◌≤◌, ◌+◌, ◌&&◌, ◌||◌, ℕ, Bool, List, ◌∷◌, ap}
use Rattle.std.proofs.Common.{drop, false, get_or, length, refl, sym, true, codes}
use Rattle.std.specs.List.{list_all}
use Rattle.std.specs.Str.{bytes_eq}
use Rattle.std.proofs.lemmas.List.{drop_all, drop_more}
use Rattle.clap.specs.Words.{Text}
use Rattle.command_words.specs.Exploring.{has_name, is_property, marked, no_checks}
use Rattle.command_words.specs.declared.exploring.Checks.{Checks}

-- this property is asked where it was before the first i texts, or is named from there on
abbrev pub GoesOn : List Text → ℕ → Text → Bool → Type 0
GoesOn texts i name asked = has_name name texts ≡ (asked || has_name name (drop i texts))

-- the first i texts are names of properties, and these are named by them
pub record AreMarkedTo (texts : List Text) (i : ℕ) (c : Checks) : Type 0 where
  pub named : list_all is_property texts ≡ list_all is_property (drop i texts)
  pub agreement : GoesOn texts i (codes "agreement") c.agreement
  pub validity : GoesOn texts i (codes "validity") c.validity
  pub finality : GoesOn texts i (codes "final") c.finality
  pub termination : GoesOn texts i (codes "termination") c.termination

or_assoc : (a b c : Bool) → (a || (b || c)) ≡ ((a || b) || c)
or_assoc true b c = refl
or_assoc false b c = refl

or_false : (a b : Bool) → b ≡ false → (a || b) ≡ a
or_false true b h = refl
or_false false b h = h

and_true : (a b : Bool) → a ≡ true → (a && b) ≡ b
and_true true b h = refl
and_true false b h = absurd (cc h)

and_false : (a b : Bool) → a ≡ false → (a && b) ≡ false
and_false true b h = absurd (cc h)
and_false false b h = refl

module _ (texts : List Text) (i : ℕ) (text : Text) (lt : i < length texts)
    (is : text ≡ get_or texts i text) where
  front : drop i texts ≡ text ∷ drop (i + 1) texts
  front = let d = drop_more texts i text lt in rw (← is) at d

  asked_on : (name : Text) (asked : Bool) → GoesOn texts i name asked
      → GoesOn texts (i + 1) name (asked || bytes_eq text name)
  asked_on name asked h =
      h ∙ ap (λ l. asked || has_name name l) front
      ∙ or_assoc asked (bytes_eq text name) (has_name name (drop (i + 1) texts))

  pub mark_one : (c d : Checks) → AreMarkedTo texts i c → is_property text ≡ true
      → d ≡ marked c text → AreMarkedTo texts (i + 1) d
  mark_one c d h named same = rw same record {
    named = h.named ∙ ap (list_all is_property) front
        ∙ and_true (is_property text) (list_all is_property (drop (i + 1) texts)) named;
    agreement = asked_on (codes "agreement") c.agreement h.agreement;
    validity = asked_on (codes "validity") c.validity h.validity;
    finality = asked_on (codes "final") c.finality h.finality;
    termination = asked_on (codes "termination") c.termination h.termination;
  }

  pub mark_none : (c : Checks) → AreMarkedTo texts i c → is_property text ≡ false
      → list_all is_property texts ≡ false
  mark_none c h unnamed =
      h.named ∙ ap (list_all is_property) front
      ∙ and_false (is_property text) (list_all is_property (drop (i + 1) texts)) unnamed

pub mark_nothing : (texts : List Text) → AreMarkedTo texts 0 no_checks
mark_nothing texts = record {
  named = refl;
  agreement = refl;
  validity = refl;
  finality = refl;
  termination = refl;
}

module _ (texts : List Text) (i : ℕ) (all : length texts ≤ i) where
  asked_all : (name : Text) (asked : Bool) → GoesOn texts i name asked
      → asked ≡ has_name name texts
  asked_all name asked h =
      sym (h ∙ or_false asked _ (ap (has_name name) (drop_all i texts all)))

  pub named_all : (c : Checks) → AreMarkedTo texts i c → list_all is_property texts ≡ true
  named_all c h = h.named ∙ ap (list_all is_property) (drop_all i texts all)

  pub mark_all : (c : Checks) → AreMarkedTo texts i c
      → (c.agreement ≡ has_name (codes "agreement") texts)
      × (c.validity ≡ has_name (codes "validity") texts)
      × (c.finality ≡ has_name (codes "final") texts)
      × (c.termination ≡ has_name (codes "termination") texts)
  mark_all c h = (
    asked_all (codes "agreement") c.agreement h.agreement,
    asked_all (codes "validity") c.validity h.validity,
    asked_all (codes "final") c.finality h.finality,
    asked_all (codes "termination") c.termination h.termination,
  )
