-- Parts of a path.
use Rattle.std.specs.Prelude.{ℕ, List, [], ◌∷◌, ◌==◌, cond}

-- a path as far as to an address
abbrev pub path_up_to : ℕ → List ℕ → List ℕ
path_up_to a [] = []
path_up_to a (b ∷ path) = b ∷ cond (b == a) [] (path_up_to a path)
