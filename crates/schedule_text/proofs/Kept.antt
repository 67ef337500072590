-- Lines that are kept back behind a text.
use Rattle.std.proofs.Common.{◌≡◌, ℕ, ◌+◌, ◌<◌, List, [], ◌∷◌, ◌++◌, length, take, get_or, All}
use Rattle.std.proofs.Common.{IsUtf8, append_assoc, sym, ap, subst, ◌∙◌}
use Rattle.std.specs.List.{flat_map}
use Rattle.std.proofs.lemmas.List.{flat_map_more, take_more}
use Rattle.std.proofs.lemmas.List.Elements.{All-more}
use Rattle.std.proofs.lemmas.Str.{IsUtf8-append}
use Rattle.run_events.specs.declared.event.Event.{Event}
use Rattle.schedule_text.specs.Small.{IsSmallEvent}
use Rattle.schedule_text.specs.Writing.{event_line, line_text}
use Rattle.schedule_text.proofs.EventLines.{line_utf8}

-- the lines of some events
abbrev lines_of : List Event → List ℕ
lines_of es = flat_map (λ e. line_text (event_line e)) es

-- A text, and the lines that are kept back behind it: together they are what the text was at first
-- and then the lines of these events.
pub record Keeps (first text kept : List ℕ) (es : List Event) : Type 0 where
  pub whole : text ++ kept ≡ first ++ flat_map (λ e. line_text (event_line e)) es
  pub utf8 : IsUtf8 kept
  pub small : All IsSmallEvent es

-- one line more, if some of those before may have been added to the text
pub keeps_more : (first text kept text_now kept_now new : List ℕ) (es : List Event) (i : ℕ)
    (d e : Event) → i < length es → e ≡ get_or es i d → Keeps first text kept (take i es)
    → text_now ++ kept_now ≡ text ++ kept → IsUtf8 kept_now
    → new ≡ kept_now ++ line_text (event_line e) → IsSmallEvent e
    → Keeps first text_now new (take (i + 1) es)
keeps_more first text kept text_now kept_now new es i d e below is before same utf8 more small =
    record {
      whole =
          ap (λ l. text_now ++ l) more
          ∙ sym (append_assoc text_now kept_now (line_text (event_line e)))
          ∙ ap (λ l. l ++ line_text (event_line e)) (same ∙ before.whole)
          ∙ append_assoc first (lines_of (take i es)) (line_text (event_line e))
          ∙ ap (λ l. first ++ l) (flat_map_more (λ e. line_text (event_line e)) [] (take i es) e
          ∙ ap (λ x. lines_of (take i es ++ x ∷ [])) is
          ∙ ap lines_of (sym (take_more es i d below)));
      utf8 =
          subst IsUtf8 (sym more) (IsUtf8-append kept_now (line_text (event_line e)) utf8
          (line_utf8 e small));
      small = All-more IsSmallEvent es i d below before.small (subst IsSmallEvent is small);
    }
