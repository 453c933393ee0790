-- The letters of PROCOPT. A stands for G, I, R and D; R and D include G.
use Rattle.std.specs.Prelude.{ℕ, List, Bool, ◌&&◌, ◌||◌, ◌==◌}
use Rattle.std.specs.List.{list_any, list_all}

-- G, or R, D or A, which include it
abbrev pub gives_get : List ℕ → Bool
gives_get letters = list_any (λ b. b == 71 || b == 82 || b == 68 || b == 65) letters

-- I or A
abbrev pub gives_insert : List ℕ → Bool
gives_insert letters = list_any (λ b. b == 73 || b == 65) letters

-- R or A
abbrev pub gives_replace : List ℕ → Bool
gives_replace letters = list_any (λ b. b == 82 || b == 65) letters

-- D or A
abbrev pub gives_delete : List ℕ → Bool
gives_delete letters = list_any (λ b. b == 68 || b == 65) letters

-- P
abbrev pub gives_path : List ℕ → Bool
gives_path letters = list_any (λ b. b == 80) letters

-- L
abbrev pub gives_load : List ℕ → Bool
gives_load letters = list_any (λ b. b == 76) letters

-- G, I, R, D or A
abbrev pub is_access_letter : ℕ → Bool
is_access_letter b = b == 71 || b == 73 || b == 82 || b == 68 || b == 65

-- one letter of access or more, and P beside them at the most
abbrev pub gives_access : List ℕ → Bool
gives_access letters = list_any is_access_letter letters && list_all (λ b. is_access_letter b || b == 80) letters

-- L, and S beside it at the most
abbrev pub only_loads : List ℕ → Bool
only_loads letters = gives_load letters && list_all (λ b. b == 76 || b == 83) letters

-- a text that may stand as PROCOPT, whatever the order of its letters
abbrev pub is_procopt : List ℕ → Bool
is_procopt letters = gives_access letters || only_loads letters
