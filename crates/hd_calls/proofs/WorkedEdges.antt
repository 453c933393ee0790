-- Worked lists of calls at the edges of the rules, computed by the definitions.
use Rattle.std.proofs.Common.{◌≡◌, [], ◌∷◌, Some, None, refl}
use Rattle.std.specs.Prelude.{codes}
use Rattle.hd_dbd.specs.declared.answer.Status.TheVariants.{Blank, GA, GB, GE, DJ, II, LB, LC, LD, LE, AC, AD, AH, AJ, AK, AM}
use Rattle.hd_dbd.specs.declared.hierarchy.Rule.TheVariants.{First, Here}
use Rattle.hd_dbd.specs.Positions.{at_start}
use Rattle.hd_dbd.specs.Sample.{of_type, sample_rows}
use Rattle.hd_calls.proofs.Playing.{ask, got, area_refused, ended, at_place, played, played_load, played_by, own_rights, played_with, with_rule, played_over}

-- of two arguments with F the one that leads further back tells where GN begins
pub least_of_two_starts : played
    (ask 1 (codes "ISRT") (codes "CLASS   (ED      EQ02)" ∷ codes "STUD    " ∷ []) (codes "ABEL09")
    ∷ ask 1 (codes "GN  ") (codes "CLASS   *F" ∷ codes "STUD    *F" ∷ []) []
    ∷ [])
    ≡ ended (got Blank 3 (codes "10102ABEL") []
    ∷ got Blank 3 (codes "10101ADAM") (codes "ADAM01")
    ∷ [])
    (of_type 1 (codes "101ALGEB") ∷ of_type 2 (codes "01AB") ∷ of_type 3 (codes "ADAM01") ∷ of_type 3 (codes "EVE 02") ∷ of_type 2 (codes "02CD") ∷ of_type 3 (codes "ABEL09") ∷ of_type 4 (codes "EULER") ∷ of_type 1 (codes "205LOGIC") ∷ [])
    (at_place 3 (Some 2) (Some (record { level = 3; code = 3 })) (Some 2) [] ∷ at_start ∷ at_start ∷ [])
least_of_two_starts = refl

-- F leads GNP back to the row behind the parent at the most
pub never_before_the_parents_dependents : played
    (ask 1 (codes "ISRT") (codes "CLASS   (ED      EQ02)" ∷ codes "STUD    " ∷ []) (codes "ABEL09")
    ∷ ask 1 (codes "GU  ") (codes "CLASS   (ED      EQ02)" ∷ []) []
    ∷ ask 1 (codes "GNP ") (codes "CLASS   *F" ∷ codes "STUD    " ∷ []) []
    ∷ [])
    ≡ ended (got Blank 3 (codes "10102ABEL") []
    ∷ got Blank 2 (codes "10102") (codes "02CD")
    ∷ got Blank 3 (codes "10102ABEL") (codes "ABEL09")
    ∷ [])
    (of_type 1 (codes "101ALGEB") ∷ of_type 2 (codes "01AB") ∷ of_type 3 (codes "ADAM01") ∷ of_type 3 (codes "EVE 02") ∷ of_type 2 (codes "02CD") ∷ of_type 3 (codes "ABEL09") ∷ of_type 4 (codes "EULER") ∷ of_type 1 (codes "205LOGIC") ∷ [])
    (at_place 6 (Some 5) (Some (record { level = 3; code = 3 })) (Some 4) [] ∷ at_start ∷ at_start ∷ [])
never_before_the_parents_dependents = refl

-- F and L are disregarded at the root
pub roots_have_no_first_or_last : played
    (ask 1 (codes "GU  ") (codes "COURSE  (NUM     EQ205)" ∷ []) []
    ∷ ask 1 (codes "GN  ") (codes "COURSE  *F" ∷ []) []
    ∷ ask 1 (codes "GU  ") (codes "COURSE  *L" ∷ []) []
    ∷ [])
    ≡ ended (got Blank 1 (codes "205") (codes "205LOGIC")
    ∷ got GB 0 [] []
    ∷ got Blank 1 (codes "101") (codes "101ALGEB")
    ∷ [])
    sample_rows
    (at_place 1 (Some 0) (Some (record { level = 1; code = 1 })) (Some 0) [] ∷ at_start ∷ at_start ∷ [])
roots_have_no_first_or_last = refl

-- bytes behind the closing bracket or the blank are not looked at, but no byte may stand in their place
pub bytes_behind_an_argument : played
    (ask 1 (codes "GU  ") (codes "CLASS   (ED      EQ02)JUNK" ∷ []) []
    ∷ ask 1 (codes "GU  ") (codes "CLASS    JUNK" ∷ []) []
    ∷ ask 1 (codes "GU  ") (codes "CLASS   *LJUNK" ∷ []) []
    ∷ [])
    ≡ ended (got Blank 2 (codes "10102") (codes "02CD")
    ∷ got Blank 2 (codes "10101") (codes "01AB")
    ∷ got AJ 0 [] []
    ∷ [])
    sample_rows
    (at_place 2 (Some 1) (Some (record { level = 2; code = 2 })) (Some 1) [] ∷ at_start ∷ at_start ∷ [])
bytes_behind_an_argument = refl

-- where several tests would fail, the first of them answers
pub first_test_that_fails_answers : played
    (ask 1 (codes "GXX ") (codes "COURSE" ∷ []) []
    ∷ ask 1 (codes "GU  ") (codes "STUD    " ∷ codes "CLASS   X" ∷ []) []
    ∷ ask 1 (codes "GU  ") (codes "CLAS    (NAME    EQ02)" ∷ []) []
    ∷ ask 1 (codes "GU  ") (codes "COURSE  (NAME    XX1" ∷ []) []
    ∷ ask 1 (codes "GU  ") (codes "COURSE  (NUM     XX1" ∷ codes "CLASS   (NAME    EQ1)" ∷ []) []
    ∷ ask 1 (codes "REPL") (codes "CLASS   (ED      EQ01)" ∷ []) []
    ∷ ask 1 (codes "REPL") [] (codes "X")
    ∷ ask 1 (codes "DLET") (codes "COURSE  " ∷ codes "CLASS   " ∷ []) []
    ∷ ask 1 (codes "GNP ") (codes "CLAS    " ∷ []) []
    ∷ ask 1 (codes "ISRT") (codes "COURSE  " ∷ []) (codes "101")
    ∷ ask 1 (codes "ISRT") (codes "COURSE  (NUM     EQ101)" ∷ []) (codes "101ALGEB")
    ∷ ask 1 (codes "ISRT") (codes "COURSE  " ∷ codes "STUD    " ∷ []) (codes "ADAM01")
    ∷ [])
    ≡ ended (got AD 0 [] []
    ∷ got AJ 0 [] []
    ∷ got AC 0 [] []
    ∷ got AK 0 [] []
    ∷ got AJ 0 [] []
    ∷ got AJ 0 [] []
    ∷ got DJ 0 [] []
    ∷ got AJ 0 [] []
    ∷ got AC 0 [] []
    ∷ area_refused
    ∷ got AJ 0 [] []
    ∷ got AC 0 [] []
    ∷ [])
    sample_rows
    (at_start ∷ at_start ∷ at_start ∷ [])
first_test_that_fails_answers = refl

-- what a load answers, and which of its tests comes first
pub rows_are_loaded_in_order : played_load
    (ask 1 (codes "ISRT") [] []
    ∷ ask 1 (codes "GU  ") (codes "CLASS   (NAME    EQ02)" ∷ []) []
    ∷ ask 1 (codes "REPL") [] []
    ∷ ask 1 (codes "GNP ") [] []
    ∷ ask 1 (codes "ISRT") (codes "COURSE  " ∷ codes "CLASS   " ∷ []) (codes "300ABCDE01AB")
    ∷ ask 1 (codes "ISRT") (codes "STUD    " ∷ []) (codes "ADAM01")
    ∷ ask 1 (codes "ISRT") (codes "COURSE  " ∷ []) (codes "205LOGI")
    ∷ ask 1 (codes "ISRT") (codes "COURSE  " ∷ []) (codes "205LOGIC")
    ∷ ask 1 (codes "ISRT") (codes "COURSE  " ∷ []) (codes "205OTHER")
    ∷ ask 1 (codes "ISRT") (codes "COURSE  " ∷ []) (codes "101ALGEB")
    ∷ ask 1 (codes "ISRT") (codes "BOOK    " ∷ []) (codes "EULER")
    ∷ ask 1 (codes "ISRT") (codes "CLASS   " ∷ []) (codes "01AB")
    ∷ ask 1 (codes "ISRT") (codes "COURSE  " ∷ []) (codes "300ABCDE")
    ∷ ask 1 (codes "ISRT") (codes "CLASS   " ∷ []) (codes "02CD")
    ∷ ask 1 (codes "ISRT") (codes "CLASS   " ∷ []) (codes "02XX")
    ∷ ask 1 (codes "ISRT") (codes "CLASS   " ∷ []) (codes "01XX")
    ∷ ask 1 (codes "ISRT") (codes "STUD    " ∷ []) (codes "EVE 02")
    ∷ ask 1 (codes "ISRT") (codes "STUD    " ∷ []) (codes "EVE 03")
    ∷ ask 1 (codes "ISRT") (codes "STUD    " ∷ []) (codes "ADAM01")
    ∷ [])
    ≡ ended (got AH 0 [] []
    ∷ got AK 0 [] []
    ∷ got AM 0 [] []
    ∷ got AM 0 [] []
    ∷ got AJ 0 [] []
    ∷ got LD 0 [] []
    ∷ area_refused
    ∷ got Blank 1 (codes "205") []
    ∷ got LB 0 [] []
    ∷ got LC 0 [] []
    ∷ got Blank 2 (codes "205") []
    ∷ got LE 0 [] []
    ∷ got Blank 1 (codes "300") []
    ∷ got Blank 2 (codes "30002") []
    ∷ got LB 0 [] []
    ∷ got LC 0 [] []
    ∷ got Blank 3 (codes "30002EVE ") []
    ∷ got Blank 3 (codes "30002EVE ") []
    ∷ got LC 0 [] []
    ∷ [])
    (of_type 1 (codes "205LOGIC") ∷ of_type 4 (codes "EULER") ∷ of_type 1 (codes "300ABCDE") ∷ of_type 2 (codes "02CD") ∷ of_type 3 (codes "EVE 02") ∷ of_type 3 (codes "EVE 03") ∷ [])
    (at_place 6 (Some 5) (Some (record { level = 3; code = 3 })) (Some 2) [] ∷ [])
rows_are_loaded_in_order = refl

-- AM looks at the row that DLET takes, the highest held where none is named, at the rows that REPL would replace, and at the type inserted
pub rights_of_each_type : played_by own_rights
    (ask 1 (codes "GHU ") (codes "COURSE  *D" ∷ codes "CLASS   " ∷ []) []
    ∷ ask 1 (codes "DLET") [] []
    ∷ ask 1 (codes "DLET") [] []
    ∷ ask 1 (codes "GHU ") (codes "COURSE  *D" ∷ codes "CLASS   " ∷ []) []
    ∷ ask 1 (codes "REPL") [] (codes "101ALGEB01XY")
    ∷ ask 1 (codes "GHU ") (codes "COURSE  *D" ∷ codes "CLASS   " ∷ []) []
    ∷ ask 1 (codes "REPL") (codes "COURSE  *N" ∷ []) (codes "XXXXXXXX01XY")
    ∷ ask 1 (codes "GHU ") (codes "COURSE  *D" ∷ codes "CLASS   " ∷ []) []
    ∷ ask 1 (codes "DLET") (codes "CLASS   " ∷ []) []
    ∷ ask 1 (codes "ISRT") (codes "COURSE  " ∷ []) (codes "300ABCDE")
    ∷ [])
    ≡ ended (got Blank 2 (codes "10101") (codes "101ALGEB01AB")
    ∷ got AM 0 [] []
    ∷ got DJ 0 [] []
    ∷ got Blank 2 (codes "10101") (codes "101ALGEB01AB")
    ∷ got AM 0 [] []
    ∷ got Blank 2 (codes "10101") (codes "101ALGEB01AB")
    ∷ got Blank 2 (codes "10101") []
    ∷ got Blank 2 (codes "10101") (codes "101ALGEB01XY")
    ∷ got Blank 2 (codes "10101") []
    ∷ got AM 0 [] []
    ∷ [])
    (of_type 1 (codes "101ALGEB") ∷ of_type 2 (codes "02CD") ∷ of_type 4 (codes "EULER") ∷ of_type 1 (codes "205LOGIC") ∷ [])
    (at_place 1 (Some 0) (Some (record { level = 2; code = 2 })) None [] ∷ [])
rights_of_each_type = refl

-- FIRST puts a student before all of the same name; L puts one behind them, but not beside F
pub students_by_first : played_with (with_rule (codes "STUD    ") First)
    (ask 1 (codes "ISRT") (codes "CLASS   (ED      EQ01)" ∷ codes "STUD    " ∷ []) (codes "ADAM99")
    ∷ ask 1 (codes "ISRT") (codes "CLASS   (ED      EQ01)" ∷ codes "STUD    *L" ∷ []) (codes "ADAM55")
    ∷ ask 1 (codes "ISRT") (codes "CLASS   (ED      EQ01)" ∷ codes "STUD    *FL" ∷ []) (codes "ADAM44")
    ∷ [])
    ≡ ended (got Blank 3 (codes "10101ADAM") []
    ∷ got Blank 3 (codes "10101ADAM") []
    ∷ got Blank 3 (codes "10101ADAM") []
    ∷ [])
    (of_type 1 (codes "101ALGEB") ∷ of_type 2 (codes "01AB") ∷ of_type 3 (codes "ADAM44") ∷ of_type 3 (codes "ADAM99") ∷ of_type 3 (codes "ADAM01") ∷ of_type 3 (codes "ADAM55") ∷ of_type 3 (codes "EVE 02") ∷ of_type 2 (codes "02CD") ∷ of_type 4 (codes "EULER") ∷ of_type 1 (codes "205LOGIC") ∷ [])
    (at_place 3 (Some 2) (Some (record { level = 3; code = 3 })) (Some 2) [] ∷ at_start ∷ at_start ∷ [])
students_by_first = refl

-- HERE puts a student before the one of the same name on which the PCB stands, or before all of them; L puts one behind them, F before them
pub students_by_here : played_with (with_rule (codes "STUD    ") Here)
    (ask 1 (codes "GU  ") (codes "STUD    (SNAME   EQADAM)" ∷ []) []
    ∷ ask 1 (codes "ISRT") (codes "STUD    " ∷ []) (codes "ADAM99")
    ∷ ask 1 (codes "GN  ") [] []
    ∷ ask 1 (codes "ISRT") (codes "STUD    " ∷ []) (codes "ADAM55")
    ∷ ask 1 (codes "GU  ") (codes "CLASS   (ED      EQ02)" ∷ []) []
    ∷ ask 1 (codes "ISRT") (codes "CLASS   (ED      EQ01)" ∷ codes "STUD    " ∷ []) (codes "ADAM00")
    ∷ ask 1 (codes "ISRT") (codes "CLASS   (ED      EQ01)" ∷ codes "STUD    *L" ∷ []) (codes "ADAM11")
    ∷ ask 1 (codes "ISRT") (codes "STUD    *F" ∷ []) (codes "ADAM22")
    ∷ [])
    ≡ ended (got Blank 3 (codes "10101ADAM") (codes "ADAM01")
    ∷ got Blank 3 (codes "10101ADAM") []
    ∷ got Blank 3 (codes "10101ADAM") (codes "ADAM01")
    ∷ got Blank 3 (codes "10101ADAM") []
    ∷ got Blank 2 (codes "10102") (codes "02CD")
    ∷ got Blank 3 (codes "10101ADAM") []
    ∷ got Blank 3 (codes "10101ADAM") []
    ∷ got Blank 3 (codes "10101ADAM") []
    ∷ [])
    (of_type 1 (codes "101ALGEB") ∷ of_type 2 (codes "01AB") ∷ of_type 3 (codes "ADAM22") ∷ of_type 3 (codes "ADAM00") ∷ of_type 3 (codes "ADAM99") ∷ of_type 3 (codes "ADAM55") ∷ of_type 3 (codes "ADAM01") ∷ of_type 3 (codes "ADAM11") ∷ of_type 3 (codes "EVE 02") ∷ of_type 2 (codes "02CD") ∷ of_type 4 (codes "EULER") ∷ of_type 1 (codes "205LOGIC") ∷ [])
    (at_place 3 (Some 2) (Some (record { level = 3; code = 3 })) (Some 2) [] ∷ at_start ∷ at_start ∷ [])
students_by_here = refl

-- FIRST puts a book before all others; L puts it last
pub books_by_first : played_with (with_rule (codes "BOOK    ") First)
    (ask 1 (codes "GU  ") (codes "BOOK    " ∷ []) []
    ∷ ask 1 (codes "ISRT") (codes "BOOK    " ∷ []) (codes "GAUSS")
    ∷ ask 1 (codes "GU  ") (codes "COURSE  (NUM     EQ101)" ∷ []) []
    ∷ ask 1 (codes "ISRT") (codes "BOOK    " ∷ []) (codes "NOETH")
    ∷ ask 1 (codes "ISRT") (codes "BOOK    *L" ∷ []) (codes "HILBE")
    ∷ [])
    ≡ ended (got Blank 2 (codes "101") (codes "EULER")
    ∷ got Blank 2 (codes "101") []
    ∷ got Blank 1 (codes "101") (codes "101ALGEB")
    ∷ got Blank 2 (codes "101") []
    ∷ got Blank 2 (codes "101") []
    ∷ [])
    (of_type 1 (codes "101ALGEB") ∷ of_type 2 (codes "01AB") ∷ of_type 3 (codes "ADAM01") ∷ of_type 3 (codes "EVE 02") ∷ of_type 2 (codes "02CD") ∷ of_type 4 (codes "NOETH") ∷ of_type 4 (codes "GAUSS") ∷ of_type 4 (codes "EULER") ∷ of_type 4 (codes "HILBE") ∷ of_type 1 (codes "205LOGIC") ∷ [])
    (at_place 9 (Some 8) (Some (record { level = 2; code = 4 })) (Some 0) [] ∷ at_start ∷ at_start ∷ [])
books_by_first = refl

-- holds of rows behind and above what is deleted stand on, by their new numbers
pub deleted_beside_the_held : played
    (ask 1 (codes "GHU ") (codes "BOOK    " ∷ []) []
    ∷ ask 3 (codes "GHU ") (codes "COURSE  " ∷ []) []
    ∷ ask 2 (codes "GHU ") (codes "CLASS   (ED      EQ01)" ∷ []) []
    ∷ ask 2 (codes "DLET") [] []
    ∷ ask 1 (codes "REPL") [] (codes "GAUSS")
    ∷ ask 3 (codes "REPL") [] (codes "101OTHER")
    ∷ [])
    ≡ ended (got Blank 2 (codes "101") (codes "EULER")
    ∷ got Blank 1 (codes "101") (codes "101ALGEB")
    ∷ got Blank 2 (codes "10101") (codes "01AB")
    ∷ got Blank 2 (codes "10101") []
    ∷ got Blank 2 (codes "101") []
    ∷ got Blank 1 (codes "101") []
    ∷ [])
    (of_type 1 (codes "101OTHER") ∷ of_type 2 (codes "02CD") ∷ of_type 4 (codes "GAUSS") ∷ of_type 1 (codes "205LOGIC") ∷ [])
    (at_place 3 (Some 2) (Some (record { level = 2; code = 4 })) (Some 2) [] ∷ at_place 1 (Some 0) (Some (record { level = 2; code = 2 })) None [] ∷ at_place 1 (Some 0) (Some (record { level = 1; code = 1 })) (Some 0) [] ∷ [])
deleted_beside_the_held = refl

-- N excepts the middle row of a path
pub middle_row_is_excepted : played
    (ask 1 (codes "GHU ") (codes "COURSE  *D" ∷ codes "CLASS   *D" ∷ codes "STUD    " ∷ []) []
    ∷ ask 1 (codes "REPL") (codes "CLASS   *N" ∷ []) (codes "101LOGICXXXXADAM99")
    ∷ [])
    ≡ ended (got Blank 3 (codes "10101ADAM") (codes "101ALGEB01ABADAM01")
    ∷ got Blank 3 (codes "10101ADAM") []
    ∷ [])
    (of_type 1 (codes "101LOGIC") ∷ of_type 2 (codes "01AB") ∷ of_type 3 (codes "ADAM99") ∷ of_type 3 (codes "EVE 02") ∷ of_type 2 (codes "02CD") ∷ of_type 4 (codes "EULER") ∷ of_type 1 (codes "205LOGIC") ∷ [])
    (at_place 3 (Some 2) (Some (record { level = 3; code = 3 })) (Some 2) [] ∷ at_start ∷ at_start ∷ [])
middle_row_is_excepted = refl

-- a path goes in as one; parentage stays where what is inserted depends on the parent
pub path_is_inserted : played
    (ask 1 (codes "ISRT") (codes "COURSE  (NUM     EQ205)" ∷ codes "CLASS   *D" ∷ codes "STUD    " ∷ []) (codes "03EFFRED01")
    ∷ ask 1 (codes "GU  ") (codes "COURSE  (NUM     EQ101)" ∷ []) []
    ∷ ask 1 (codes "ISRT") (codes "CLASS   (ED      EQ02)" ∷ codes "STUD    " ∷ []) (codes "ABEL09")
    ∷ ask 1 (codes "GNP ") [] []
    ∷ [])
    ≡ ended (got Blank 3 (codes "20503FRED") []
    ∷ got Blank 1 (codes "101") (codes "101ALGEB")
    ∷ got Blank 3 (codes "10102ABEL") []
    ∷ got GA 2 (codes "101") (codes "EULER")
    ∷ [])
    (of_type 1 (codes "101ALGEB") ∷ of_type 2 (codes "01AB") ∷ of_type 3 (codes "ADAM01") ∷ of_type 3 (codes "EVE 02") ∷ of_type 2 (codes "02CD") ∷ of_type 3 (codes "ABEL09") ∷ of_type 4 (codes "EULER") ∷ of_type 1 (codes "205LOGIC") ∷ of_type 2 (codes "03EF") ∷ of_type 3 (codes "FRED01") ∷ [])
    (at_place 7 (Some 6) (Some (record { level = 2; code = 4 })) (Some 0) [] ∷ at_start ∷ at_start ∷ [])
path_is_inserted = refl

-- an argument that only names a type means the row on the path where the PCB stands, any other the first row, as by GU; GE where there is none
pub parent_of_what_is_inserted : played
    (ask 1 (codes "GU  ") (codes "COURSE  (NUM     EQ205)" ∷ []) []
    ∷ ask 1 (codes "ISRT") (codes "COURSE  " ∷ codes "CLASS   " ∷ []) (codes "09XY")
    ∷ ask 1 (codes "ISRT") (codes "COURSE  *L" ∷ codes "CLASS   " ∷ []) (codes "09XY")
    ∷ ask 1 (codes "ISRT") (codes "COURSE  (NUM     EQ999)" ∷ codes "CLASS   " ∷ []) (codes "08XY")
    ∷ ask 2 (codes "ISRT") (codes "STUD    " ∷ []) (codes "ADAM01")
    ∷ [])
    ≡ ended (got Blank 1 (codes "205") (codes "205LOGIC")
    ∷ got Blank 2 (codes "20509") []
    ∷ got Blank 2 (codes "10109") []
    ∷ got GE 0 [] []
    ∷ got GE 0 [] []
    ∷ [])
    (of_type 1 (codes "101ALGEB") ∷ of_type 2 (codes "01AB") ∷ of_type 3 (codes "ADAM01") ∷ of_type 3 (codes "EVE 02") ∷ of_type 2 (codes "02CD") ∷ of_type 2 (codes "09XY") ∷ of_type 4 (codes "EULER") ∷ of_type 1 (codes "205LOGIC") ∷ of_type 2 (codes "09XY") ∷ [])
    (at_place 6 (Some 5) (Some (record { level = 2; code = 2 })) (Some 5) [] ∷ at_start ∷ at_start ∷ [])
parent_of_what_is_inserted = refl

-- D asks for P above the last argument alone; a call with arguments tells no crossing; a type that is not seen can't be named
pub path_by_a_pcb_without_p : played
    (ask 2 (codes "GU  ") (codes "BOOK    *D" ∷ []) []
    ∷ ask 2 (codes "GU  ") (codes "COURSE  *D" ∷ codes "BOOK    " ∷ []) []
    ∷ ask 3 (codes "GU  ") (codes "STUD    " ∷ []) []
    ∷ ask 1 (codes "GU  ") (codes "CLASS   (ED      EQ02)" ∷ []) []
    ∷ ask 1 (codes "GN  ") (codes "BOOK    " ∷ []) []
    ∷ [])
    ≡ ended (got Blank 2 (codes "101") (codes "EULER")
    ∷ got AM 0 [] []
    ∷ got AC 0 [] []
    ∷ got Blank 2 (codes "10102") (codes "02CD")
    ∷ got Blank 2 (codes "101") (codes "EULER")
    ∷ [])
    sample_rows
    (at_place 6 (Some 5) (Some (record { level = 2; code = 4 })) (Some 5) [] ∷ at_place 6 (Some 5) (Some (record { level = 2; code = 4 })) (Some 5) [] ∷ at_start ∷ [])
path_by_a_pcb_without_p = refl

-- a student is deleted, and another comes in by its key
pub student_in_place_of_another : played_over (of_type 1 (codes "101ALGEB") ∷ of_type 2 (codes "01AB") ∷ of_type 3 (codes "ADAM01") ∷ of_type 3 (codes "CARL03") ∷ of_type 3 (codes "EVE 02") ∷ [])
    (ask 1 (codes "GHU ") (codes "STUD    (SNAME   EQADAM)" ∷ []) []
    ∷ ask 1 (codes "DLET") [] []
    ∷ ask 1 (codes "ISRT") (codes "CLASS   (ED      EQ01)" ∷ codes "STUD    " ∷ []) (codes "DORA04")
    ∷ [])
    ≡ ended (got Blank 3 (codes "10101ADAM") (codes "ADAM01")
    ∷ got Blank 3 (codes "10101ADAM") []
    ∷ got Blank 3 (codes "10101DORA") []
    ∷ [])
    (of_type 1 (codes "101ALGEB") ∷ of_type 2 (codes "01AB") ∷ of_type 3 (codes "CARL03") ∷ of_type 3 (codes "DORA04") ∷ of_type 3 (codes "EVE 02") ∷ [])
    (at_place 4 (Some 3) (Some (record { level = 3; code = 3 })) (Some 3) [] ∷ at_start ∷ at_start ∷ [])
student_in_place_of_another = refl

-- where F and L stand in one argument both count: the search begins at the first class, and the last is found
pub first_and_last_together : played
    (ask 1 (codes "GU  ") (codes "COURSE  (NUM     EQ101)" ∷ []) []
    ∷ ask 1 (codes "GN  ") (codes "CLASS   *L" ∷ []) []
    ∷ ask 1 (codes "GN  ") (codes "CLASS   *FL" ∷ []) []
    ∷ [])
    ≡ ended (got Blank 1 (codes "101") (codes "101ALGEB")
    ∷ got Blank 2 (codes "10102") (codes "02CD")
    ∷ got Blank 2 (codes "10102") (codes "02CD")
    ∷ [])
    sample_rows
    (at_place 5 (Some 4) (Some (record { level = 2; code = 2 })) (Some 4) [] ∷ at_start ∷ at_start ∷ [])
first_and_last_together = refl

-- GHNP holds what is replaced and deleted, and leaves parentage
pub students_held_below_their_class : played
    (ask 1 (codes "GU  ") (codes "CLASS   (ED      EQ01)" ∷ []) []
    ∷ ask 1 (codes "GHNP") (codes "STUD    " ∷ []) []
    ∷ ask 1 (codes "REPL") [] (codes "ADAM55")
    ∷ ask 1 (codes "GHNP") [] []
    ∷ ask 1 (codes "DLET") [] []
    ∷ ask 1 (codes "GNP ") [] []
    ∷ ask 1 (codes "GN  ") [] []
    ∷ [])
    ≡ ended (got Blank 2 (codes "10101") (codes "01AB")
    ∷ got Blank 3 (codes "10101ADAM") (codes "ADAM01")
    ∷ got Blank 3 (codes "10101ADAM") []
    ∷ got Blank 3 (codes "10101EVE ") (codes "EVE 02")
    ∷ got Blank 3 (codes "10101EVE ") []
    ∷ got GE 0 [] []
    ∷ got GA 2 (codes "10102") (codes "02CD")
    ∷ [])
    (of_type 1 (codes "101ALGEB") ∷ of_type 2 (codes "01AB") ∷ of_type 3 (codes "ADAM55") ∷ of_type 2 (codes "02CD") ∷ of_type 4 (codes "EULER") ∷ of_type 1 (codes "205LOGIC") ∷ [])
    (at_place 4 (Some 3) (Some (record { level = 2; code = 2 })) (Some 3) [] ∷ at_start ∷ at_start ∷ [])
students_held_below_their_class = refl

-- a root goes in by its key, and a PCB behind it keeps its row
pub root_between_roots : played
    (ask 2 (codes "GU  ") (codes "COURSE  (NUM     EQ205)" ∷ []) []
    ∷ ask 1 (codes "ISRT") (codes "COURSE  " ∷ []) (codes "150GEOMY")
    ∷ ask 2 (codes "GNP ") [] []
    ∷ ask 1 (codes "GN  ") [] []
    ∷ ask 2 (codes "GN  ") [] []
    ∷ [])
    ≡ ended (got Blank 1 (codes "205") (codes "205LOGIC")
    ∷ got Blank 1 (codes "150") []
    ∷ got GE 0 [] []
    ∷ got Blank 1 (codes "205") (codes "205LOGIC")
    ∷ got GB 0 [] []
    ∷ [])
    (of_type 1 (codes "101ALGEB") ∷ of_type 2 (codes "01AB") ∷ of_type 3 (codes "ADAM01") ∷ of_type 3 (codes "EVE 02") ∷ of_type 2 (codes "02CD") ∷ of_type 4 (codes "EULER") ∷ of_type 1 (codes "150GEOMY") ∷ of_type 1 (codes "205LOGIC") ∷ [])
    (at_place 8 (Some 7) (Some (record { level = 1; code = 1 })) (Some 7) [] ∷ at_start ∷ at_start ∷ [])
root_between_roots = refl

-- a root is deleted with all that depends on it; who stood inside stands nowhere, before the next row, and still knows the type last given
pub root_is_deleted : played
    (ask 1 (codes "GHU ") (codes "COURSE  (NUM     EQ101)" ∷ []) []
    ∷ ask 2 (codes "GU  ") (codes "BOOK    " ∷ []) []
    ∷ ask 3 (codes "GU  ") (codes "COURSE  (NUM     EQ205)" ∷ []) []
    ∷ ask 1 (codes "DLET") [] []
    ∷ ask 2 (codes "GN  ") [] []
    ∷ ask 1 (codes "GN  ") [] []
    ∷ [])
    ≡ ended (got Blank 1 (codes "101") (codes "101ALGEB")
    ∷ got Blank 2 (codes "101") (codes "EULER")
    ∷ got Blank 1 (codes "205") (codes "205LOGIC")
    ∷ got Blank 1 (codes "101") []
    ∷ got GA 1 (codes "205") (codes "205LOGIC")
    ∷ got Blank 1 (codes "205") (codes "205LOGIC")
    ∷ [])
    (of_type 1 (codes "205LOGIC") ∷ [])
    (at_place 1 (Some 0) (Some (record { level = 1; code = 1 })) (Some 0) [] ∷ at_place 1 (Some 0) (Some (record { level = 1; code = 1 })) (Some 0) [] ∷ at_place 1 (Some 0) (Some (record { level = 1; code = 1 })) (Some 0) [] ∷ [])
root_is_deleted = refl

-- where N excepts every row nothing is replaced; the codes of a DLET are disregarded
pub codes_that_change_nothing : played
    (ask 1 (codes "GHU ") (codes "COURSE  *D" ∷ codes "BOOK    " ∷ []) []
    ∷ ask 1 (codes "REPL") (codes "COURSE  *N" ∷ codes "BOOK    *N" ∷ []) (codes "XXXXXXXXYYYYY")
    ∷ ask 1 (codes "GHU ") (codes "COURSE  *D" ∷ codes "BOOK    " ∷ []) []
    ∷ ask 1 (codes "DLET") (codes "BOOK    *DFLN" ∷ []) []
    ∷ [])
    ≡ ended (got Blank 2 (codes "101") (codes "101ALGEBEULER")
    ∷ got Blank 2 (codes "101") []
    ∷ got Blank 2 (codes "101") (codes "101ALGEBEULER")
    ∷ got Blank 2 (codes "101") []
    ∷ [])
    (of_type 1 (codes "101ALGEB") ∷ of_type 2 (codes "01AB") ∷ of_type 3 (codes "ADAM01") ∷ of_type 3 (codes "EVE 02") ∷ of_type 2 (codes "02CD") ∷ of_type 1 (codes "205LOGIC") ∷ [])
    (at_place 5 (Some 0) (Some (record { level = 2; code = 4 })) None [] ∷ at_start ∷ at_start ∷ [])
codes_that_change_nothing = refl

-- the operators and connectors in their spellings, and the null code
pub operators_and_connectors : played
    (ask 1 (codes "GU  ") (codes "CLASS   *-(ED      >=01&ED      < 02)" ∷ []) []
    ∷ ask 1 (codes "GU  ") (codes "CLASS   (ED      EQ09|ED       =02)" ∷ []) []
    ∷ ask 1 (codes "GU  ") (codes "CLASS   (ED      NE01)" ∷ []) []
    ∷ ask 1 (codes "GU  ") (codes "STUD    (SNAME   > ADAM)" ∷ []) []
    ∷ ask 1 (codes "GU  ") (codes "STUD    (SNAME   =<ADAM)" ∷ []) []
    ∷ ask 1 (codes "GU  ") (codes "STUD    (SNAME    <ADAM)" ∷ []) []
    ∷ [])
    ≡ ended (got Blank 2 (codes "10101") (codes "01AB")
    ∷ got Blank 2 (codes "10102") (codes "02CD")
    ∷ got Blank 2 (codes "10102") (codes "02CD")
    ∷ got Blank 3 (codes "10101EVE ") (codes "EVE 02")
    ∷ got Blank 3 (codes "10101ADAM") (codes "ADAM01")
    ∷ got GE 0 [] []
    ∷ [])
    sample_rows
    (at_place 3 (Some 2) (Some (record { level = 3; code = 3 })) (Some 2) [] ∷ at_start ∷ at_start ∷ [])
operators_and_connectors = refl

-- HERE looks at the twins below the new row's own parent alone
pub books_of_another_course : played
    (ask 1 (codes "GU  ") (codes "BOOK    " ∷ []) []
    ∷ ask 1 (codes "ISRT") (codes "COURSE  (NUM     EQ205)" ∷ codes "BOOK    " ∷ []) (codes "GAUSS")
    ∷ ask 1 (codes "ISRT") (codes "COURSE  (NUM     EQ205)" ∷ codes "BOOK    " ∷ []) (codes "NOETH")
    ∷ [])
    ≡ ended (got Blank 2 (codes "101") (codes "EULER")
    ∷ got Blank 2 (codes "205") []
    ∷ got Blank 2 (codes "205") []
    ∷ [])
    (of_type 1 (codes "101ALGEB") ∷ of_type 2 (codes "01AB") ∷ of_type 3 (codes "ADAM01") ∷ of_type 3 (codes "EVE 02") ∷ of_type 2 (codes "02CD") ∷ of_type 4 (codes "EULER") ∷ of_type 1 (codes "205LOGIC") ∷ of_type 4 (codes "NOETH") ∷ of_type 4 (codes "GAUSS") ∷ [])
    (at_place 8 (Some 7) (Some (record { level = 2; code = 4 })) (Some 7) [] ∷ at_start ∷ at_start ∷ [])
books_of_another_course = refl

-- a path whose first key is taken changes nothing
pub path_of_a_taken_key : played
    (ask 1 (codes "ISRT") (codes "COURSE  *D" ∷ codes "CLASS   " ∷ []) (codes "101ALGEB01AB")
    ∷ ask 1 (codes "GN  ") [] []
    ∷ [])
    ≡ ended (got II 0 [] []
    ∷ got Blank 1 (codes "101") (codes "101ALGEB")
    ∷ [])
    sample_rows
    (at_place 1 (Some 0) (Some (record { level = 1; code = 1 })) (Some 0) [] ∷ at_start ∷ at_start ∷ [])
path_of_a_taken_key = refl

-- a path may begin with a root, and goes in by the root's key
pub path_below_a_place_of_its_own : played
    (ask 1 (codes "ISRT") (codes "COURSE  *D" ∷ codes "CLASS   " ∷ codes "STUD    " ∷ []) (codes "150GEOMY01ABANNE07")
    ∷ ask 1 (codes "GNP ") [] []
    ∷ ask 1 (codes "GN  ") [] []
    ∷ [])
    ≡ ended (got Blank 3 (codes "15001ANNE") []
    ∷ got GE 0 [] []
    ∷ got GA 1 (codes "205") (codes "205LOGIC")
    ∷ [])
    (of_type 1 (codes "101ALGEB") ∷ of_type 2 (codes "01AB") ∷ of_type 3 (codes "ADAM01") ∷ of_type 3 (codes "EVE 02") ∷ of_type 2 (codes "02CD") ∷ of_type 4 (codes "EULER") ∷ of_type 1 (codes "150GEOMY") ∷ of_type 2 (codes "01AB") ∷ of_type 3 (codes "ANNE07") ∷ of_type 1 (codes "205LOGIC") ∷ [])
    (at_place 10 (Some 9) (Some (record { level = 1; code = 1 })) (Some 9) [] ∷ at_start ∷ at_start ∷ [])
path_below_a_place_of_its_own = refl

-- an area that is too long or too short changes nothing, and ends no hold
pub areas_of_a_wrong_length : played
    (ask 1 (codes "GHU ") (codes "CLASS   (ED      EQ01)" ∷ []) []
    ∷ ask 1 (codes "REPL") [] (codes "01ABX")
    ∷ ask 1 (codes "REPL") [] (codes "01A")
    ∷ ask 1 (codes "REPL") [] (codes "01XY")
    ∷ ask 1 (codes "ISRT") (codes "COURSE  " ∷ []) (codes "300ABCDEX")
    ∷ [])
    ≡ ended (got Blank 2 (codes "10101") (codes "01AB")
    ∷ area_refused
    ∷ area_refused
    ∷ got Blank 2 (codes "10101") []
    ∷ area_refused
    ∷ [])
    (of_type 1 (codes "101ALGEB") ∷ of_type 2 (codes "01XY") ∷ of_type 3 (codes "ADAM01") ∷ of_type 3 (codes "EVE 02") ∷ of_type 2 (codes "02CD") ∷ of_type 4 (codes "EULER") ∷ of_type 1 (codes "205LOGIC") ∷ [])
    (at_place 2 (Some 1) (Some (record { level = 2; code = 2 })) (Some 1) [] ∷ at_start ∷ at_start ∷ [])
areas_of_a_wrong_length = refl
