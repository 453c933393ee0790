-- Parents and paths in a list of rows, by the rows' numbers, from 0.
use Rattle.std.specs.Prelude.{ℕ, zero, suc, ◌+◌, ◌-◌, List, [], ◌∷◌, ◌++◌, length, Bool, ◌&&◌, ◌==◌, nat_lt, nat_le, cond, Option, Some, None, slice_index_or}
use Rattle.std.specs.Option.{option_eq}
use Rattle.std.specs.List.{flat_map}
use Rattle.hd_dbd.specs.Types.{SegmentType}
use Rattle.hd_dbd.specs.Segment.{Segment}
use Rattle.hd_dbd.specs.Rows.{level, key_of}

-- what stands at no number of a list
abbrev pub no_row : Segment
no_row = record { code = 0; bytes = [] }

-- the row of a number
abbrev pub row_at : List Segment → ℕ → Segment
row_at rows i = slice_index_or rows i no_row

-- its level
abbrev pub level_at : List SegmentType → List Segment → ℕ → ℕ
level_at types rows i = level types (row_at rows i)

-- of the rows before number n, the last whose level is less than the given one
abbrev pub nearest_above : List SegmentType → List Segment → ℕ → ℕ → Option ℕ
nearest_above types rows l zero = None
nearest_above types rows l (suc k) = cond (nat_lt (level_at types rows k) l) (Some k) (nearest_above types rows l k)

-- the parent of row i
abbrev pub parent_row : List SegmentType → List Segment → ℕ → Option ℕ
parent_row types rows i = nearest_above types rows (level_at types rows i) i

-- of the rows before number n, the last whose level is less than the given one, and its parents, root first
abbrev pub path_above : List SegmentType → List Segment → ℕ → ℕ → List ℕ
path_above types rows l zero = []
path_above types rows l (suc k) =
    cond (nat_lt (level_at types rows k) l) (path_above types rows (level_at types rows k) k ++ k ∷ []) (path_above types rows l k)

-- row i with its parents, root first
abbrev pub path_of : List SegmentType → List Segment → ℕ → List ℕ
path_of types rows i = path_above types rows (level_at types rows i) i ++ i ∷ []

-- the keys of these rows, joined
abbrev pub keys_of : List SegmentType → List Segment → List ℕ → List ℕ
keys_of types rows path = flat_map (λ k. key_of types (row_at rows k)) path

-- The first row from number i on, of at most n, whose level is not greater; else the number behind them.
abbrev pub end_within : List SegmentType → List Segment → ℕ → ℕ → ℕ → ℕ
end_within types rows l zero i = i
end_within types rows l (suc n) i = cond (nat_le (level_at types rows i) l) i (end_within types rows l n (i + 1))

-- the number behind row i and all that depends on it
abbrev pub end_of : List SegmentType → List Segment → ℕ → ℕ
end_of types rows i = end_within types rows (level_at types rows i) (length rows - (i + 1)) (i + 1)

-- rows i and j are of one parent, or both roots
abbrev pub have_one_parent : List SegmentType → List Segment → ℕ → ℕ → Bool
have_one_parent types rows i j = option_eq (λ p q. p == q) (parent_row types rows i) (parent_row types rows j)

-- rows i and j are twins: of one type and of one parent
abbrev pub is_twin : List SegmentType → List Segment → ℕ → ℕ → Bool
is_twin types rows i j = (row_at rows i).code == (row_at rows j).code && have_one_parent types rows i j
