-- Worked sources, computed by the definitions themselves: an edit of a definition that changes what a source says is
-- refused here.
use Rattle.std.proofs.Common.{◌≡◌, ℕ, List, [], ◌∷◌, ◌++◌, replicate, refl}
use Rattle.std.specs.Prelude.{codes, Ok, Err}
use Rattle.hd_macro.specs.Statements.{OperandText, StatementText}
use Rattle.hd_macro.specs.declared.source.LineFault.TheVariants.{M1, M2, M3, M4}
use Rattle.hd_macro.specs.Source.{source}

abbrev operand : List ℕ → List ℕ → OperandText
operand keyword value = record { keyword = keyword; value = value }

-- a statement of a line, with no label
abbrev said : ℕ → List ℕ → List OperandText → StatementText
said line operation operands = record { label = []; operation = operation; operands = operands; line = line }

-- a statement with operands that go on in the next line
pub three_statements : source (
    codes "         DBD   NAME=EDU,ACCESS=(HIDAM,VSAM)\n"
    ++ codes "         SEGM  NAME=BOOK,PARENT=((COURSE,DBLE)),BYTES=5,PTR=TB,        X\n"
    ++ codes "               RULES=(,HERE)\n"
    ++ codes "         DBDGEN\n")
    ≡ Ok (said 1 (codes "DBD") (operand (codes "NAME") (codes "EDU") ∷ operand (codes "ACCESS") (codes "(HIDAM,VSAM)") ∷ [])
    ∷ said 2 (codes "SEGM") (operand (codes "NAME") (codes "BOOK") ∷ operand (codes "PARENT") (codes "((COURSE,DBLE))")
    ∷ operand (codes "BYTES") (codes "5") ∷ operand (codes "PTR") (codes "TB") ∷ operand (codes "RULES") (codes "(,HERE)") ∷ [])
    ∷ said 4 (codes "DBDGEN") [] ∷ [])
three_statements = refl

-- operands that go on in column 17, or 15
pub column_17 : source (codes "         SEGM  NAME=BOOK,PARENT=((COURSE,DBLE)),BYTES=5,PTR=TB,        X\n                RULES=(,HERE)\n") ≡ Err (M3 2)
column_17 = refl

pub column_15 : source (codes "         SEGM  NAME=BOOK,PARENT=((COURSE,DBLE)),BYTES=5,PTR=TB,        X\n              RULES=(,HERE)\n") ≡ Err (M3 2)
column_15 = refl

-- a comment between the lines of a statement
pub comment_inside : source (codes "         SEGM  NAME=BOOK,PARENT=((COURSE,DBLE)),BYTES=5,PTR=TB,        X\n* RULES\n               RULES=(,HERE)\n") ≡ Err (M3 2)
comment_inside = refl

-- a source that ends while a statement goes on
pub missing_line : source (codes " DBDGEN\n         SEGM  NAME=BOOK,PARENT=((COURSE,DBLE)),BYTES=5,PTR=TB,        X\n") ≡ Err (M3 3)
missing_line = refl

-- an operand that is cut where column 71 ends
pub cut_in_column_71 : source (codes "         SEGM                                                   NAME=BOX\n               OK,BYTES=5\n")
    ≡ Ok (said 1 (codes "SEGM") (operand (codes "NAME") (codes "BOOK") ∷ operand (codes "BYTES") (codes "5") ∷ []) ∷ [])
cut_in_column_71 = refl

-- a line of 80 bytes, and one of 81
pub eighty_bytes : source (replicate 80 32) ≡ Ok []
eighty_bytes = refl

pub eighty_one_bytes : source (10 ∷ replicate 81 32) ≡ Err (M1 2)
eighty_one_bytes = refl

-- a byte that is not ASCII, in a comment too
pub other_byte : source (codes "* " ++ 128 ∷ []) ≡ Err (M2 1)
other_byte = refl

-- operand text that is none, or ends too early
pub without_value : source (codes " DBD KEY=") ≡ Err (M4 1)
without_value = refl

pub without_keyword : source (codes " DBD =EDU") ≡ Err (M4 1)
without_keyword = refl

pub behind_a_comma : source (codes " DBD NAME=EDU,") ≡ Err (M4 1)
behind_a_comma = refl

pub open_bracket : source (codes " DBD ACCESS=((HIDAM,VSAM)") ≡ Err (M4 1)
open_bracket = refl

pub closed_twice : source (codes " DBD ACCESS=(HIDAM))") ≡ Err (M4 1)
closed_twice = refl

-- a comment goes on nowhere, and lines may be blank, or end with a carriage return, or not at all
pub comments_and_ends : source (codes "* a comment                                                            X\n\n   \r\n DBDGEN\r\n END")
    ≡ Ok (said 4 (codes "DBDGEN") [] ∷ said 5 (codes "END") [] ∷ [])
comments_and_ends = refl

-- a statement that lays out a listing says nothing, whatever its operands are
pub listing : source (codes " PRINT NOGEN\n TITLE 'A (SAMPLE'\n DBDGEN\n") ≡ Ok (said 3 (codes "DBDGEN") [] ∷ [])
listing = refl

-- a label, and a remark behind the operands
pub labelled : source (codes "EDU DBD NAME=EDU (A REMARK")
    ≡ Ok (record { label = codes "EDU"; operation = codes "DBD"; operands = operand (codes "NAME") (codes "EDU") ∷ []; line = 1 } ∷ [])
labelled = refl

-- a remark goes on behind blanks in columns 1 to 15, and in column 14 it may not
pub long_remark : source (codes "         DBD   NAME=EDU   a remark, which goes on,                     X\n                 TO COLUMN 72\n DBDGEN\n")
    ≡ Ok (said 1 (codes "DBD") (operand (codes "NAME") (codes "EDU") ∷ []) ∷ said 3 (codes "DBDGEN") [] ∷ [])
long_remark = refl

pub lost_remark : source (codes "         DBD   NAME=EDU   a remark, which goes on,                     X\n             TO COLUMN 72\n") ≡ Err (M3 2)
lost_remark = refl
