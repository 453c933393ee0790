-- The columns of a line, which count from 1. A line is blank past its end.
use Rattle.std.specs.Prelude.{ℕ, ◌-◌, List, ◌++◌, length, take, drop, replicate, Bool, not, ◌||◌, ◌==◌, nat_le, slice_index, bytes_eq, codes}
use Rattle.std.specs.List.{list_any, prefix_len}
use Rattle.hd_lines.specs.Blanks.{is_blank}

-- the eighty columns of a line
abbrev pub card : List ℕ → List ℕ
card line = line ++ replicate (80 - length line) 32

-- the columns that may have text: 1 to 71
abbrev pub text_columns : List ℕ → List ℕ
text_columns line = take 71 (card line)

-- column 72 is not blank: the statement goes on in the next line
abbrev pub goes_on : List ℕ → Bool
goes_on line = not (slice_index (card line) 71 == 32)

-- a comment or a blank line: a star in column 1, or blanks in columns 1 to 72
abbrev pub is_ignored : List ℕ → Bool
is_ignored line = slice_index (card line) 0 == 42 || is_blank (take 72 (card line))

-- a byte that is not ASCII
abbrev pub has_other_byte : List ℕ → Bool
has_other_byte line = list_any (λ b. nat_le 128 b) line

-- the bytes up to the first blank, and those from it on
abbrev pub word : List ℕ → List ℕ
word bytes = take (prefix_len (λ b. not (b == 32)) bytes) bytes

abbrev pub behind_word : List ℕ → List ℕ
behind_word bytes = drop (prefix_len (λ b. not (b == 32)) bytes) bytes

-- a statement that only lays out the listing of an assembler
abbrev pub is_listing : List ℕ → Bool
is_listing operation =
    bytes_eq operation (codes "PRINT") || bytes_eq operation (codes "TITLE") || bytes_eq operation (codes "SPACE") || bytes_eq operation (codes "EJECT")
