-- An inbox, one place on.
use Rattle.std.proofs.Common.{◌≡◌, ℕ, ◌+◌, ◌<◌, ◌≤◌, List, [], ◌∷◌, ◌++◌, length, get_or, drop}
use Rattle.std.proofs.Common.{Option, Some, None, refl, subst}
use Rattle.std.proofs.lemmas.List.{drop_more, drop_all}
use Rattle.frame_format.specs.Formats.{Format}
use Rattle.frame_format.specs.Reading.{frame_at}
use Rattle.frame_views.specs.Inboxes.{inbox_from, AreFrames}

pub inbox-some : (s : Format) (i : ℕ) (held : List (Option (List ℕ))) (bytes : List ℕ)
    → i < length held → get_or held i None ≡ Some bytes
    → inbox_from s i (drop i held) ≡ (i, frame_at s bytes)
    ∷ inbox_from s (i + 1) (drop (i + 1) held)
unfolding inbox_from
inbox-some s i held bytes h e = rw (drop_more held i None h, e) refl

pub inbox-none : (s : Format) (i : ℕ) (held : List (Option (List ℕ))) → i < length held
    → get_or held i None ≡ None
    → inbox_from s i (drop i held) ≡ inbox_from s (i + 1) (drop (i + 1) held)
unfolding inbox_from
inbox-none s i held h e = rw (drop_more held i None h, e) refl

pub inbox-end : (s : Format) (i : ℕ) (held : List (Option (List ℕ))) → length held ≤ i
    → inbox_from s i (drop i held) ≡ []
unfolding inbox_from
inbox-end s i held h = rw (drop_all i held h) refl

AreFrames-rest : (s : Format) (o : Option (List ℕ)) (held : List (Option (List ℕ)))
    → AreFrames s (o ∷ held) → AreFrames s held
AreFrames-rest s None held h = h
AreFrames-rest s (Some bytes) held h = h.1

pub AreFrames-more : (s : Format) (i : ℕ) (held : List (Option (List ℕ))) → i < length held
    → AreFrames s (drop i held) → AreFrames s (drop (i + 1) held)
AreFrames-more s i held h frames =
    AreFrames-rest s (get_or held i None) (drop (i + 1) held)
    (subst (AreFrames s) (drop_more held i None h) frames)

-- one sender more
pub AreFrames-push : (s : Format) (held : List (Option (List ℕ))) (one : Option (List ℕ))
    → AreFrames s held → AreFrames s (one ∷ []) → AreFrames s (held ++ one ∷ [])
AreFrames-push s [] one frames h = h
AreFrames-push s (None ∷ held) one frames h = AreFrames-push s held one frames h
AreFrames-push s ((Some bytes) ∷ held) one frames h =
    (frames.0, AreFrames-push s held one frames.1 h)
