-- What the value of an operand says. A value that the tables do not show is not supported (G3); in a right place a wrong
-- name or number is ill-formed (G4).
use Rattle.std.specs.Prelude.{ℕ, ◌+◌, ◌-◌, List, [], ◌∷◌, ◌++◌, length, take, drop, replicate, Bool, true, false, not, ◌&&◌, ◌||◌, nat_lt, nat_le, ◌==◌, cond, Option, Some, None, Result, Ok, Err, slice_index, bytes_eq, codes}
use Rattle.std.specs.Option.{ok_or, option_map_or}
use Rattle.std.specs.List.{list_any, list_all, slice_split, position_or_len}
use Rattle.hd_lines.specs.Digits.{is_digit, value_of}
use Rattle.hd_lines.specs.Reading.{then}
use Rattle.hd_dbd.specs.declared.hierarchy.DataType.{DataType}
use Rattle.hd_dbd.specs.declared.hierarchy.FreeSpace.{FreeSpace}
use Rattle.hd_dbd.specs.declared.hierarchy.Rule.{Rule}
use Rattle.hd_dbd.specs.Naming.{is_name}
use Rattle.hd_gen.specs.declared.operand.FieldName.{FieldName}
use Rattle.hd_gen.specs.declared.operand.Parent.{Parent}
use Rattle.hd_gen.specs.declared.operand.SegmentBytes.{SegmentBytes}
use Rattle.hd_gen.specs.declared.value.Wrong.{Wrong}
use Rattle.hd_gen.specs.declared.value.Wrong.TheVariants.{NotSupported, IllFormed}
use Rattle.hd_gen.specs.Tables.{look_up, twin_pointers, child_pointers, twin_rules, sequence_fields, access_methods, data_types}

-- ---- shapes

-- Words between commas, of which any may be empty: one, two, three, or more.
pub data Words : Type 0 where
  one : List ℕ → Words
  two : List ℕ → List ℕ → Words
  three : List ℕ → List ℕ → List ℕ → Words
  many : Words

-- A value: a word; words in brackets, as (A,B); words in two brackets, as ((A,B)); a word and a list behind it, as (A,(B,C)), of which
-- only the word is kept; or brackets in another way.
pub data Value : Type 0 where
  word : List ℕ → Value
  listed : Words → Value
  doubly_listed : Words → Value
  beside_list : List ℕ → Value
  other : Value

-- 40 and 41 are the brackets, 44 is the comma
abbrev pub has_bracket : List ℕ → Bool
has_bracket text = list_any (λ b. b == 40 || b == 41) text

-- the text between a bracket in front and one behind
abbrev pub unbracketed : List ℕ → Option (List ℕ)
unbracketed text =
    cond (nat_le 2 (length text) && slice_index text 0 == 40 && slice_index text (length text - 1) == 41)
    (Some (drop 1 (take (length text - 1) text))) None

abbrev pub as_words : List (List ℕ) → Words
as_words (a ∷ []) = one a
as_words (a ∷ b ∷ []) = two a b
as_words (a ∷ b ∷ c ∷ []) = three a b c
as_words ws = many

abbrev pub words : List ℕ → Words
words text = as_words (slice_split (λ b. b == 44) text)

-- a text as a value of this shape, or, where a bracket stands in it, as one with brackets in another way
abbrev pub flat : (List ℕ → Value) → List ℕ → Value
flat shape text = cond (has_bracket text) other (shape text)

-- how many brackets stand open behind a byte
abbrev pub depth_behind : ℕ → ℕ → ℕ
depth_behind depth b = cond (b == 40) (depth + 1) (cond (b == 41) (depth - 1) depth)

-- a bracketed list, where so many brackets stand open before: behind each byte but the last one is open, and behind the last none
abbrev pub is_list : ℕ → List ℕ → Bool
is_list depth [] = depth == 0
is_list depth (b ∷ bs) = (nat_lt 0 (depth_behind depth b) || length bs == 0) && is_list (depth_behind depth b) bs

-- what stands between brackets where there are brackets in it: a word and a list behind it, or another way
abbrev pub nested : List ℕ → Value
nested text =
    let end : ℕ = position_or_len (λ b. b == 44) text in
    cond (not (has_bracket (take end text)) && is_list 0 (drop (end + 1) text)) (beside_list (take end text)) other

-- what stands between brackets
abbrev pub listed_in : List ℕ → Value
listed_in text = cond (has_bracket text) (nested text) (listed (words text))

abbrev pub value_in : List ℕ → Value
value_in text =
    option_map_or (λ inner. option_map_or (λ innermost. flat (λ t. doubly_listed (words t)) innermost) (unbracketed inner)
    (listed_in inner)) (unbracketed text) (flat word text)

-- ---- names, numbers and words

-- a word with blanks behind it, up to eight bytes
abbrev pub padded : List ℕ → List ℕ
padded w = w ++ replicate (8 - length w) 32

-- a name, in its eight bytes
abbrev pub name_of : List ℕ → Result (List ℕ) Wrong
name_of w = cond (is_name (padded w)) (Ok (padded w)) (Err IllFormed)

-- a number of decimal digits, below 2 to the power of 32
abbrev pub is_number : List ℕ → Bool
is_number w = nat_lt 0 (length w) && list_all is_digit w && nat_le (value_of w) 4294967295

abbrev pub number_of : List ℕ → Result ℕ Wrong
number_of w = cond (is_number w) (Ok (value_of w)) (Err IllFormed)

-- a word of a list
abbrev pub is_one_of : List (List ℕ) → List ℕ → Bool
is_one_of ws w = list_any (λ v. bytes_eq v w) ws

-- supported or not
abbrev pub only_if : Bool → Result Bool Wrong
only_if supported = cond supported (Ok true) (Err NotSupported)

-- ---- values, by what they mean

abbrev pub name_in : Value → Result (List ℕ) Wrong
name_in (word w) = name_of w
name_in value = Err NotSupported

abbrev pub number_in : Value → Result ℕ Wrong
number_in (word w) = number_of w
number_in value = Err NotSupported

-- BYTES of a SEGM: n, or (max,min) where its segments vary in length
abbrev pub bytes_in : Value → Result SegmentBytes Wrong
bytes_in (listed (two most least)) = then (number_of most) (λ length. then (number_of least) (λ n. Ok (record { length = length; least = Some n })))
bytes_in (word w) = then (number_of w) (λ length. Ok (record { length = length; least = None }))
bytes_in value = Err NotSupported

-- ACCESS=HIDAM, (HIDAM), (HIDAM,VSAM) or (HIDAM,OSAM)
abbrev pub is_access : Value → Bool
is_access (word w) = bytes_eq w (codes "HIDAM")
is_access (listed (one w)) = bytes_eq w (codes "HIDAM")
is_access (listed (two w m)) = bytes_eq w (codes "HIDAM") && is_one_of access_methods m
is_access value = false

-- SIZE=n, (n) or (n,m), of which n is the block size; m is any word or list, or none
abbrev pub block_size_in : Value → Result ℕ Wrong
block_size_in (word n) = number_of n
block_size_in (listed (one n)) = number_of n
block_size_in (listed (two n m)) = number_of n
block_size_in (beside_list n) = number_of n
block_size_in value = Err NotSupported

-- FRSPC=(fbff,fspf)
abbrev pub free_space_in : Value → Result FreeSpace Wrong
free_space_in (listed (two b s)) = then (number_of b) (λ fbff. then (number_of s) (λ fspf. Ok (record { fbff = fbff; fspf = fspf })))
free_space_in value = Err NotSupported

-- (name), (name,SNGL) or (name,DBLE)
abbrev pub parent_of_words : Words → Result Parent Wrong
parent_of_words (one w) = then (name_of w) (λ name. Ok (record { name = Some name; last_pointer = false }))
parent_of_words (two w p) =
    then (ok_or (look_up child_pointers p) NotSupported) (λ last. then (name_of w) (λ name. Ok (record { name = Some name; last_pointer = last })))
parent_of_words ws = Err NotSupported

-- PARENT of a SEGM: 0 for none, a name, or that in one bracket or two
abbrev pub parent_in : Value → Result Parent Wrong
parent_in (word w) = cond (bytes_eq w (codes "0")) (Ok (record { name = None; last_pointer = false })) (parent_of_words (one w))
parent_in (listed ws) = parent_of_words ws
parent_in (doubly_listed ws) = parent_of_words ws
parent_in value = Err NotSupported

-- PARENT of a SENSEG: 0 for none, or a name
abbrev pub seen_parent_in : Value → Result Parent Wrong
seen_parent_in (word w) = parent_in (word w)
seen_parent_in value = Err NotSupported

-- POINTER of a SEGM, the root or not: whether twin backward is kept
abbrev pub twins_in : Bool → Value → Result Bool Wrong
twins_in is_root (word w) = ok_or (look_up (twin_pointers is_root) w) NotSupported
twins_in is_root (listed (one w)) = ok_or (look_up (twin_pointers is_root) w) NotSupported
twins_in is_root value = Err NotSupported

-- RULES=(x,FIRST), (x,LAST) or (x,HERE); x is any word, or none, and has no effect
abbrev pub rule_in : Value → Result Rule Wrong
rule_in (listed (two x r)) = ok_or (look_up twin_rules r) NotSupported
rule_in value = Err NotSupported

-- NAME of a FIELD: a name, (name), (name,SEQ), (name,SEQ,U) or (name,SEQ,M)
abbrev pub field_in : Value → Result FieldName Wrong
field_in (word w) = then (name_of w) (λ name. Ok (record { name = name; unique = None }))
field_in (listed (one w)) = then (name_of w) (λ name. Ok (record { name = name; unique = None }))
field_in (listed (two w s)) =
    then (only_if (bytes_eq s (codes "SEQ"))) (λ _. then (name_of w) (λ name. Ok (record { name = name; unique = Some true })))
field_in (listed (three w s u)) =
    then (only_if (bytes_eq s (codes "SEQ"))) (λ _. then (ok_or (look_up sequence_fields u) NotSupported)
    (λ unique. then (name_of w) (λ name. Ok (record { name = name; unique = Some unique }))))
field_in value = Err NotSupported

-- TYPE of a FIELD: C, X, P, F or H
abbrev pub data_type_in : Value → Result DataType Wrong
data_type_in (word w) = ok_or (look_up data_types w) NotSupported
data_type_in value = Err NotSupported

-- NAME of an LCHILD: (segment,dbd)
abbrev pub index_in : Value → Result (List ℕ) Wrong
index_in (listed (two s d)) = then (name_of s) (λ segment. then (name_of d) (λ _. Ok segment))
index_in value = Err NotSupported

-- POINTER of an LCHILD, TYPE and POS of a PCB: one word alone
abbrev pub is_word : List (List ℕ) → Value → Bool
is_word ws (word w) = is_one_of ws w
is_word ws value = false

-- DBDNAME of a PCB: the database's own name
abbrev pub is_database_name : Option (List ℕ) → List ℕ → Bool
is_database_name database name = option_map_or (λ d. bytes_eq d name) database false

abbrev pub database_in : Option (List ℕ) → Value → Result (List ℕ) Wrong
database_in database value = then (name_in value) (λ name. cond (is_database_name database name) (Ok name) (Err IllFormed))

-- PROCOPT: its letters, which are judged with the program; in a source each is ASCII already
abbrev pub letters_in : Value → Result (List ℕ) Wrong
letters_in (word w) = cond (list_all (λ b. nat_lt b 128) w) (Ok w) (Err IllFormed)
letters_in value = Err NotSupported
