-- Blanks in a line, byte 32 each.
use Rattle.std.specs.Prelude.{ℕ, List, Bool, ◌==◌, drop}
use Rattle.std.specs.List.{list_all, prefix_len}

-- blanks alone
abbrev pub is_blank : List ℕ → Bool
is_blank bytes = list_all (λ b. b == 32) bytes

-- the bytes without the blanks at their front
abbrev pub unpadded : List ℕ → List ℕ
unpadded bytes = drop (prefix_len (λ b. b == 32) bytes) bytes
