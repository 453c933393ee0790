-- Worked operands and lines: the grammar's own words, computed.
use Rattle.std.proofs.Common.{◌≡◌, ℕ, List, [], ◌∷◌, refl}
use Rattle.std.specs.Prelude.{codes, true, false}
use Rattle.hd_macro.specs.Lines.{behind_operation, IsOperandText, whole, joined, further, last}
use Rattle.hd_macro.specs.Grammar.{Value, word, bracketed, alone, followed, KeywordOperand, operands_spelling, may_stand}

-- an operand that is cut where column 71 ends, and a remark that goes on
abbrev first_line : List ℕ
first_line = codes "EDU      SEGM                                                   NAME=BOX"

abbrev next_line : List ℕ
next_line = codes "               OK,BYTES=5   IN TWO LINES                               X"

abbrev last_line : List ℕ
last_line = codes "               AND A THIRD"

-- what stands behind its operation, and the operand text of the three lines
pub begins : behind_operation first_line ≡ codes "NAME=BO"
begins = refl

pub joins : IsOperandText first_line (behind_operation first_line) (next_line ∷ last_line ∷ []) (codes "NAME=BOOK,BYTES=5")
joins = joined refl refl refl (whole refl (further refl refl refl (last refl)))

abbrev operand : List ℕ → Value → KeywordOperand
operand keyword value = record { keyword = keyword; value = value }

-- a list in a list, and a list whose first member is empty
pub lists : operands_spelling (
    operand (codes "NAME") (word (codes "BOOK"))
    ∷ operand (codes "PARENT") (bracketed (alone (bracketed (followed (word (codes "COURSE")) (alone (word (codes "DBLE")))))))
    ∷ operand (codes "RULES") (bracketed (followed (word []) (alone (word (codes "HERE"))))) ∷ [])
    ≡ codes "NAME=BOOK,PARENT=((COURSE,DBLE)),RULES=(,HERE)"
lists = refl

-- no operands, and a list with nothing in it
pub empty : operands_spelling [] ≡ []
empty = refl

pub empty_list : operands_spelling (operand (codes "FREQ") (bracketed (alone (word []))) ∷ []) ≡ codes "FREQ=()"
empty_list = refl

-- an empty list may stand as a value, and an empty word may not; nor may a blank stand in a word, or a period in a keyword
pub stands : may_stand (operand (codes "FREQ") (bracketed (alone (word [])))) ≡ true
stands = refl

pub without_value : may_stand (operand (codes "FREQ") (word [])) ≡ false
without_value = refl

pub with_blank : may_stand (operand (codes "NAME") (bracketed (alone (word (codes "A B"))))) ≡ false
with_blank = refl

pub with_period : may_stand (operand (codes "A.B") (word (codes "1.5"))) ≡ false
with_period = refl
