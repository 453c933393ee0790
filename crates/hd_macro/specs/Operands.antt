-- Operand text: KEY=value or KEY=(..), parted by commas. A value is of A to Z, 0 to 9, $, #, @ and the period; bracketed
-- lists may be nested, and have empty members.
use Rattle.std.specs.Prelude.{ℕ, zero, suc, ◌+◌, List, [], ◌∷◌, ◌++◌, length, Bool, true, false, ◌&&◌, ◌||◌, nat_le, nat_lt, ◌==◌, cond, Option, Some, None, option_and_then}
use Rattle.hd_macro.specs.Statements.{OperandText}

-- a character of a keyword
abbrev pub is_keyword_byte : ℕ → Bool
is_keyword_byte b = nat_le 65 b && nat_le b 90 || nat_le 48 b && nat_le b 57 || b == 36 || b == 35 || b == 64

-- a character of a value
abbrev pub is_value_byte : ℕ → Bool
is_value_byte b = is_keyword_byte b || b == 46

-- How far an operand is read: in its keyword; behind the equals sign; in a plain value; in brackets so many deep, at the
-- front of a member or in it; or behind a bracket that left so many open.
pub data Place : Type 0 where
  in_keyword : Place
  at_value : Place
  in_value : Place
  at_member : ℕ → Place
  in_member : ℕ → Place
  behind_list : ℕ → Place

-- Operand text as far as it is read: the operands that are whole, and keyword and value of the one that is not.
pub record Reading : Type 0 where
  pub whole : List OperandText
  pub keyword : List ℕ
  pub value : List ℕ
  pub place : Place

-- nothing is read
abbrev pub unread : Reading
unread = record { whole = []; keyword = []; value = []; place = in_keyword }

-- one more byte of the keyword, or of the value, which leads to a place
abbrev pub with_keyword : Reading → ℕ → Reading
with_keyword r b = record r { keyword = r.keyword ++ b ∷ [] }

abbrev pub with_value : Reading → ℕ → Place → Reading
with_value r b place = record r { value = r.value ++ b ∷ []; place = place }

-- the operands with the one that is read
abbrev pub operands_of : Reading → List OperandText
operands_of r = r.whole ++ record { keyword = r.keyword; value = r.value } ∷ []

-- a comma between operands: the one that is read is whole
abbrev pub next_operand : Reading → Reading
next_operand r = record { whole = operands_of r; keyword = []; value = []; place = in_keyword }

-- a bracket that closes leaves one fewer open
abbrev pub closed : ℕ → Place
closed zero = behind_list 0
closed (suc n) = behind_list n

-- behind a bracket that left none open a comma begins the next operand; else it begins a member, or a bracket closes
abbrev pub read_behind : Reading → ℕ → ℕ → Option Reading
read_behind r zero b = cond (b == 44) (Some (next_operand r)) None
read_behind r (suc n) b =
    cond (b == 44) (Some (with_value r b (at_member (suc n)))) (cond (b == 41) (Some (with_value r b (closed (suc n)))) None)

-- Operand text with one more byte, if it may stand there: 61 is the equals sign, 40 and 41 are the brackets, 44 is the comma.
abbrev pub read_at : Place → Reading → ℕ → Option Reading
read_at in_keyword r b =
    cond (is_keyword_byte b) (Some (with_keyword r b))
    (cond (b == 61 && nat_lt 0 (length r.keyword)) (Some (record r { place = at_value })) None)
read_at at_value r b =
    cond (is_value_byte b) (Some (with_value r b in_value)) (cond (b == 40) (Some (with_value r b (at_member 1))) None)
read_at in_value r b =
    cond (is_value_byte b) (Some (with_value r b in_value)) (cond (b == 44) (Some (next_operand r)) None)
read_at (at_member d) r b =
    cond (is_value_byte b) (Some (with_value r b (in_member d)))
    (cond (b == 40) (Some (with_value r b (at_member (d + 1))))
    (cond (b == 44) (Some (with_value r b (at_member d)))
    (cond (b == 41) (Some (with_value r b (closed d))) None)))
read_at (in_member d) r b =
    cond (is_value_byte b) (Some (with_value r b (in_member d)))
    (cond (b == 44) (Some (with_value r b (at_member d)))
    (cond (b == 41) (Some (with_value r b (closed d))) None))
read_at (behind_list d) r b = read_behind r d b

-- operand text with more bytes, if each may stand where it stands
abbrev pub read_text : Reading → List ℕ → Option Reading
read_text r [] = Some r
read_text r (b ∷ bs) = option_and_then (λ s. read_text s bs) (read_at r.place r b)

-- the last operand is whole
abbrev pub is_whole : Place → Bool
is_whole in_keyword = false
is_whole at_value = false
is_whole in_value = true
is_whole (at_member d) = false
is_whole (in_member d) = false
is_whole (behind_list d) = d == 0

-- the operands, where the text may end here: none where nothing is read, else all with the last
abbrev pub ended : Reading → Option (List OperandText)
ended r =
    cond (is_whole r.place) (Some (operands_of r))
    (cond (length r.whole == 0 && length r.keyword == 0 && length r.value == 0) (Some []) None)
