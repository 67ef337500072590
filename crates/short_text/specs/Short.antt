-- Texts that are made in place before they go out.
use Rattle.std.specs.Prelude.{ℕ}

-- how many bytes a text that takes no memory of its own has at most
abbrev pub room : ℕ
room = 768
