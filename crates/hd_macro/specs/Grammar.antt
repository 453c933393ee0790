-- Operand text, told as a grammar: what operands are made of, and how they are spelled.
use Rattle.std.specs.Prelude.{◌≡◌, ℕ, List, map, true, ◌++◌, length, Bool, ◌&&◌, nat_lt, codes}
use Rattle.std.specs.List.{list_all, join_by}
use Rattle.hd_macro.specs.Statements.{OperandText}
use Rattle.hd_macro.specs.Operands.{is_keyword_byte, is_value_byte}

-- A value is a word, or members in brackets. A member is a value too, and the word of a member may be empty.
mutual
  pub data Value : Type 0 where
    word : List ℕ → Value
    bracketed : Members → Value

  -- one member alone, or one followed by others
  pub data Members : Type 0 where
    alone : Value → Members
    followed : Value → Members → Members

-- An operand: a keyword and a value.
pub record KeywordOperand : Type 0 where
  pub keyword : List ℕ
  pub value : Value

-- how a value is spelled: a word as it is, members with commas between them and brackets around them
abbrev mutual
  pub value_spelling : Value → List ℕ
  value_spelling (word w) = w
  value_spelling (bracketed ms) = codes "(" ++ members_spelling ms ++ codes ")"

  pub members_spelling : Members → List ℕ
  members_spelling (alone v) = value_spelling v
  members_spelling (followed v ms) = value_spelling v ++ (codes "," ++ members_spelling ms)

-- an operand is spelled with an equals sign between keyword and value
abbrev pub operand_spelling : KeywordOperand → List ℕ
operand_spelling o = o.keyword ++ (codes "=" ++ value_spelling o.value)

-- operands are spelled with commas between them
abbrev pub operands_spelling : List KeywordOperand → List ℕ
operands_spelling os = join_by operand_spelling (codes ",") os

-- each word of a value is of the characters of values
abbrev mutual
  pub has_value_words : Value → Bool
  has_value_words (word w) = list_all is_value_byte w
  has_value_words (bracketed ms) = have_value_words ms

  pub have_value_words : Members → Bool
  have_value_words (alone v) = has_value_words v
  have_value_words (followed v ms) = has_value_words v && have_value_words ms

-- a keyword has a character at the least, and each is one of keywords
abbrev pub is_keyword : List ℕ → Bool
is_keyword k = nat_lt 0 (length k) && list_all is_keyword_byte k

-- an operand may stand: its keyword is one, and its value is not empty and of the characters of values
abbrev pub may_stand : KeywordOperand → Bool
may_stand o = is_keyword o.keyword && (nat_lt 0 (length (value_spelling o.value)) && has_value_words o.value)

-- the text of an operand: its keyword, and its value as it is spelled
abbrev pub text_of : KeywordOperand → OperandText
text_of o = record { keyword = o.keyword; value = value_spelling o.value }

-- A text is spelled by operands that may stand, and these are their texts.
pub record IsSpelled (text : List ℕ) (texts : List OperandText) : Type 0 where
  pub operands : List KeywordOperand
  pub stand : list_all may_stand operands ≡ true
  pub spelling : operands_spelling operands ≡ text
  pub texts_are : map text_of operands ≡ texts
