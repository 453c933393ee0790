-- Worked lists of calls over the sample: what they answer, and the rows and positions behind them, computed by the definitions.
use Rattle.std.proofs.Common.{◌≡◌, [], ◌∷◌, Some, None, refl}
use Rattle.std.specs.Prelude.{codes}
use Rattle.hd_dbd.specs.declared.answer.Status.TheVariants.{Blank, GA, GK, GB, GE, GP, II, DA, DJ, LD, AC, AD, AH, AJ, AK, AM}
use Rattle.hd_dbd.specs.Positions.{at_start}
use Rattle.hd_dbd.specs.Sample.{of_type, sample_rows}
use Rattle.hd_calls.proofs.Playing.{ask, got, area_refused, ended, at_place, played, played_empty, played_load}

-- a database without rows: GU answers GE, GN GB, GNP GP
pub no_rows : played_empty
    (ask 1 (codes "GU  ") [] []
    ∷ ask 1 (codes "GN  ") [] []
    ∷ ask 1 (codes "GNP ") [] []
    ∷ [])
    ≡ ended (got GE 0 [] []
    ∷ got GB 0 [] []
    ∷ got GP 0 [] []
    ∷ [])
    []
    (at_start ∷ at_start ∷ at_start ∷ [])
no_rows = refl

-- GN to the end of the database, and from its beginning again
pub gets_next_to_the_end : played
    (ask 1 (codes "GN  ") [] []
    ∷ ask 1 (codes "GN  ") [] []
    ∷ ask 1 (codes "GN  ") [] []
    ∷ ask 1 (codes "GN  ") [] []
    ∷ ask 1 (codes "GN  ") [] []
    ∷ ask 1 (codes "GN  ") [] []
    ∷ ask 1 (codes "GN  ") [] []
    ∷ ask 1 (codes "GN  ") [] []
    ∷ ask 1 (codes "GN  ") [] []
    ∷ [])
    ≡ ended (got Blank 1 (codes "101") (codes "101ALGEB")
    ∷ got Blank 2 (codes "10101") (codes "01AB")
    ∷ got Blank 3 (codes "10101ADAM") (codes "ADAM01")
    ∷ got Blank 3 (codes "10101EVE ") (codes "EVE 02")
    ∷ got GA 2 (codes "10102") (codes "02CD")
    ∷ got GK 2 (codes "101") (codes "EULER")
    ∷ got GA 1 (codes "205") (codes "205LOGIC")
    ∷ got GB 0 [] []
    ∷ got Blank 1 (codes "101") (codes "101ALGEB")
    ∷ [])
    sample_rows
    (at_place 1 (Some 0) (Some (record { level = 1; code = 1 })) (Some 0) [] ∷ at_start ∷ at_start ∷ [])
gets_next_to_the_end = refl

-- GNP below a class without students, and GN on from there
pub class_without_students : played
    (ask 1 (codes "GU  ") (codes "CLASS   (ED      EQ02)" ∷ []) []
    ∷ ask 1 (codes "GNP ") [] []
    ∷ ask 1 (codes "GN  ") [] []
    ∷ [])
    ≡ ended (got Blank 2 (codes "10102") (codes "02CD")
    ∷ got GE 0 [] []
    ∷ got GK 2 (codes "101") (codes "EULER")
    ∷ [])
    sample_rows
    (at_place 6 (Some 5) (Some (record { level = 2; code = 4 })) (Some 5) [] ∷ at_start ∷ at_start ∷ [])
class_without_students = refl

-- GN makes its row the parent, also a row without dependents
pub student_is_the_parent : played
    (ask 1 (codes "GN  ") [] []
    ∷ ask 1 (codes "GN  ") [] []
    ∷ ask 1 (codes "GN  ") [] []
    ∷ ask 1 (codes "GNP ") [] []
    ∷ [])
    ≡ ended (got Blank 1 (codes "101") (codes "101ALGEB")
    ∷ got Blank 2 (codes "10101") (codes "01AB")
    ∷ got Blank 3 (codes "10101ADAM") (codes "ADAM01")
    ∷ got GE 0 [] []
    ∷ [])
    sample_rows
    (at_place 3 (Some 2) (Some (record { level = 3; code = 3 })) (Some 2) [] ∷ at_start ∷ at_start ∷ [])
student_is_the_parent = refl

-- GNP goes through a class and no further, and looks for no type beside it
pub students_of_a_class : played
    (ask 1 (codes "GU  ") (codes "CLASS   (ED      EQ01)" ∷ []) []
    ∷ ask 1 (codes "GNP ") [] []
    ∷ ask 1 (codes "GNP ") [] []
    ∷ ask 1 (codes "GNP ") [] []
    ∷ ask 1 (codes "GNP ") (codes "BOOK    " ∷ []) []
    ∷ [])
    ≡ ended (got Blank 2 (codes "10101") (codes "01AB")
    ∷ got Blank 3 (codes "10101ADAM") (codes "ADAM01")
    ∷ got Blank 3 (codes "10101EVE ") (codes "EVE 02")
    ∷ got GE 0 [] []
    ∷ got GP 0 [] []
    ∷ [])
    sample_rows
    (at_place 4 (Some 3) (Some (record { level = 3; code = 3 })) (Some 1) [] ∷ at_start ∷ at_start ∷ [])
students_of_a_class = refl

-- nothing is held at the start, nor after a call that followed the hold
pub nothing_is_held : played
    (ask 1 (codes "DLET") [] []
    ∷ ask 1 (codes "GHU ") [] []
    ∷ ask 1 (codes "GN  ") [] []
    ∷ ask 1 (codes "REPL") [] (codes "101ALGEB")
    ∷ [])
    ≡ ended (got DJ 0 [] []
    ∷ got Blank 1 (codes "101") (codes "101ALGEB")
    ∷ got Blank 2 (codes "10101") (codes "01AB")
    ∷ got DJ 0 [] []
    ∷ [])
    sample_rows
    (at_place 2 (Some 1) (Some (record { level = 2; code = 2 })) (Some 1) [] ∷ at_start ∷ at_start ∷ [])
nothing_is_held = refl

-- a key can't be replaced, and a wrong length ends no hold
pub a_key_stays : played
    (ask 1 (codes "GHU ") (codes "CLASS   (ED      EQ01)" ∷ []) []
    ∷ ask 1 (codes "REPL") [] (codes "09AB")
    ∷ ask 1 (codes "GHU ") (codes "CLASS   (ED      EQ01)" ∷ []) []
    ∷ ask 1 (codes "REPL") [] (codes "01A")
    ∷ ask 1 (codes "REPL") [] (codes "01XY")
    ∷ ask 1 (codes "GU  ") (codes "CLASS   (ED      EQ01)" ∷ []) []
    ∷ [])
    ≡ ended (got Blank 2 (codes "10101") (codes "01AB")
    ∷ got DA 0 [] []
    ∷ got Blank 2 (codes "10101") (codes "01AB")
    ∷ area_refused
    ∷ got Blank 2 (codes "10101") []
    ∷ got Blank 2 (codes "10101") (codes "01XY")
    ∷ [])
    (of_type 1 (codes "101ALGEB") ∷ of_type 2 (codes "01XY") ∷ of_type 3 (codes "ADAM01") ∷ of_type 3 (codes "EVE 02") ∷ of_type 2 (codes "02CD") ∷ of_type 4 (codes "EULER") ∷ of_type 1 (codes "205LOGIC") ∷ [])
    (at_place 2 (Some 1) (Some (record { level = 2; code = 2 })) (Some 1) [] ∷ at_start ∷ at_start ∷ [])
a_key_stays = refl

-- an equal unique key is refused, a lesser goes in front and becomes the parent
pub inserted_by_key : played
    (ask 1 (codes "ISRT") (codes "COURSE  (NUM     EQ101)" ∷ codes "CLASS   " ∷ []) (codes "01ZZ")
    ∷ ask 1 (codes "GU  ") (codes "CLASS   (ED      EQ01)" ∷ []) []
    ∷ ask 1 (codes "ISRT") (codes "COURSE  (NUM     EQ101)" ∷ codes "CLASS   " ∷ []) (codes "00ZZ")
    ∷ ask 1 (codes "GNP ") [] []
    ∷ ask 1 (codes "GN  ") [] []
    ∷ [])
    ≡ ended (got II 0 [] []
    ∷ got Blank 2 (codes "10101") (codes "01AB")
    ∷ got Blank 2 (codes "10100") []
    ∷ got GE 0 [] []
    ∷ got Blank 2 (codes "10101") (codes "01AB")
    ∷ [])
    (of_type 1 (codes "101ALGEB") ∷ of_type 2 (codes "00ZZ") ∷ of_type 2 (codes "01AB") ∷ of_type 3 (codes "ADAM01") ∷ of_type 3 (codes "EVE 02") ∷ of_type 2 (codes "02CD") ∷ of_type 4 (codes "EULER") ∷ of_type 1 (codes "205LOGIC") ∷ [])
    (at_place 3 (Some 2) (Some (record { level = 2; code = 2 })) (Some 2) [] ∷ at_start ∷ at_start ∷ [])
inserted_by_key = refl

-- a PCB whose row was deleted by another goes on behind the parent
pub deleted_under_another : played
    (ask 1 (codes "GN  ") [] []
    ∷ ask 1 (codes "GN  ") [] []
    ∷ ask 1 (codes "GN  ") [] []
    ∷ ask 1 (codes "GN  ") [] []
    ∷ ask 3 (codes "GHU ") (codes "CLASS   (ED      EQ01)" ∷ []) []
    ∷ ask 3 (codes "DLET") [] []
    ∷ ask 1 (codes "GN  ") [] []
    ∷ [])
    ≡ ended (got Blank 1 (codes "101") (codes "101ALGEB")
    ∷ got Blank 2 (codes "10101") (codes "01AB")
    ∷ got Blank 3 (codes "10101ADAM") (codes "ADAM01")
    ∷ got Blank 3 (codes "10101EVE ") (codes "EVE 02")
    ∷ got Blank 2 (codes "10101") (codes "01AB")
    ∷ got Blank 2 (codes "10101") []
    ∷ got GA 2 (codes "10102") (codes "02CD")
    ∷ [])
    (of_type 1 (codes "101ALGEB") ∷ of_type 2 (codes "02CD") ∷ of_type 4 (codes "EULER") ∷ of_type 1 (codes "205LOGIC") ∷ [])
    (at_place 2 (Some 1) (Some (record { level = 2; code = 2 })) (Some 1) [] ∷ at_start ∷ at_place 1 (Some 0) (Some (record { level = 2; code = 2 })) None [] ∷ [])
deleted_under_another = refl

-- a hold ends where another PCB replaces the row
pub replaced_under_another : played
    (ask 1 (codes "GHU ") (codes "STUD    (SNAME   EQADAM)" ∷ []) []
    ∷ ask 2 (codes "GHU ") (codes "STUD    (SNAME   EQADAM)" ∷ []) []
    ∷ ask 2 (codes "REPL") [] (codes "ADAM77")
    ∷ ask 1 (codes "REPL") [] (codes "ADAM55")
    ∷ ask 1 (codes "GU  ") (codes "STUD    (SNAME   EQADAM)" ∷ []) []
    ∷ [])
    ≡ ended (got Blank 3 (codes "10101ADAM") (codes "ADAM01")
    ∷ got Blank 3 (codes "10101ADAM") (codes "ADAM01")
    ∷ got Blank 3 (codes "10101ADAM") []
    ∷ got DJ 0 [] []
    ∷ got Blank 3 (codes "10101ADAM") (codes "ADAM77")
    ∷ [])
    (of_type 1 (codes "101ALGEB") ∷ of_type 2 (codes "01AB") ∷ of_type 3 (codes "ADAM77") ∷ of_type 3 (codes "EVE 02") ∷ of_type 2 (codes "02CD") ∷ of_type 4 (codes "EULER") ∷ of_type 1 (codes "205LOGIC") ∷ [])
    (at_place 3 (Some 2) (Some (record { level = 3; code = 3 })) (Some 2) [] ∷ at_place 3 (Some 2) (Some (record { level = 3; code = 3 })) (Some 2) [] ∷ at_start ∷ [])
replaced_under_another = refl

-- HERE puts a book before the one on which the PCB stands, or before all; L puts it last
pub books_by_here : played
    (ask 1 (codes "GU  ") (codes "BOOK    " ∷ []) []
    ∷ ask 1 (codes "ISRT") (codes "BOOK    " ∷ []) (codes "GAUSS")
    ∷ ask 1 (codes "GU  ") (codes "COURSE  (NUM     EQ101)" ∷ []) []
    ∷ ask 1 (codes "ISRT") (codes "BOOK    " ∷ []) (codes "NOETH")
    ∷ ask 1 (codes "ISRT") (codes "BOOK    *L" ∷ []) (codes "HILBE")
    ∷ ask 1 (codes "GU  ") (codes "BOOK    " ∷ []) []
    ∷ ask 1 (codes "GN  ") (codes "BOOK    " ∷ []) []
    ∷ ask 1 (codes "GN  ") (codes "BOOK    " ∷ []) []
    ∷ ask 1 (codes "GN  ") (codes "BOOK    " ∷ []) []
    ∷ [])
    ≡ ended (got Blank 2 (codes "101") (codes "EULER")
    ∷ got Blank 2 (codes "101") []
    ∷ got Blank 1 (codes "101") (codes "101ALGEB")
    ∷ got Blank 2 (codes "101") []
    ∷ got Blank 2 (codes "101") []
    ∷ got Blank 2 (codes "101") (codes "NOETH")
    ∷ got Blank 2 (codes "101") (codes "GAUSS")
    ∷ got Blank 2 (codes "101") (codes "EULER")
    ∷ got Blank 2 (codes "101") (codes "HILBE")
    ∷ [])
    (of_type 1 (codes "101ALGEB") ∷ of_type 2 (codes "01AB") ∷ of_type 3 (codes "ADAM01") ∷ of_type 3 (codes "EVE 02") ∷ of_type 2 (codes "02CD") ∷ of_type 4 (codes "NOETH") ∷ of_type 4 (codes "GAUSS") ∷ of_type 4 (codes "EULER") ∷ of_type 4 (codes "HILBE") ∷ of_type 1 (codes "205LOGIC") ∷ [])
    (at_place 9 (Some 8) (Some (record { level = 2; code = 4 })) (Some 8) [] ∷ at_start ∷ at_start ∷ [])
books_by_here = refl

-- L finds the last class, F the first again
pub last_and_first_class : played
    (ask 1 (codes "GU  ") (codes "COURSE  (NUM     EQ101)" ∷ []) []
    ∷ ask 1 (codes "GU  ") (codes "CLASS   *L " ∷ []) []
    ∷ ask 1 (codes "GN  ") (codes "CLASS   *F " ∷ []) []
    ∷ [])
    ≡ ended (got Blank 1 (codes "101") (codes "101ALGEB")
    ∷ got Blank 2 (codes "10102") (codes "02CD")
    ∷ got Blank 2 (codes "10101") (codes "01AB")
    ∷ [])
    sample_rows
    (at_place 2 (Some 1) (Some (record { level = 2; code = 2 })) (Some 1) [] ∷ at_start ∷ at_start ∷ [])
last_and_first_class = refl

-- D returns the course too, for a PCB with P; N excepts it from the replace
pub path_and_excepted_row : played
    (ask 1 (codes "GU  ") (codes "COURSE  *D(NUM     EQ101)" ∷ codes "BOOK    " ∷ []) []
    ∷ ask 2 (codes "GU  ") (codes "COURSE  *D(NUM     EQ101)" ∷ codes "BOOK    " ∷ []) []
    ∷ ask 1 (codes "GHU ") (codes "COURSE  *D(NUM     EQ101)" ∷ codes "BOOK    " ∷ []) []
    ∷ ask 1 (codes "REPL") (codes "COURSE  *N" ∷ []) (codes "XXXXXXXXGAUSS")
    ∷ ask 1 (codes "GU  ") (codes "COURSE  (NUM     EQ101)" ∷ []) []
    ∷ ask 1 (codes "GU  ") (codes "BOOK    " ∷ []) []
    ∷ [])
    ≡ ended (got Blank 2 (codes "101") (codes "101ALGEBEULER")
    ∷ got AM 0 [] []
    ∷ got Blank 2 (codes "101") (codes "101ALGEBEULER")
    ∷ got Blank 2 (codes "101") []
    ∷ got Blank 1 (codes "101") (codes "101ALGEB")
    ∷ got Blank 2 (codes "101") (codes "GAUSS")
    ∷ [])
    (of_type 1 (codes "101ALGEB") ∷ of_type 2 (codes "01AB") ∷ of_type 3 (codes "ADAM01") ∷ of_type 3 (codes "EVE 02") ∷ of_type 2 (codes "02CD") ∷ of_type 4 (codes "GAUSS") ∷ of_type 1 (codes "205LOGIC") ∷ [])
    (at_place 6 (Some 5) (Some (record { level = 2; code = 4 })) (Some 5) [] ∷ at_start ∷ at_start ∷ [])
path_and_excepted_row = refl

-- a deletion ends parentage inside, and the position stays before what comes in there
pub position_behind_a_deleted_row : played
    (ask 1 (codes "GN  ") [] []
    ∷ ask 1 (codes "GN  ") [] []
    ∷ ask 1 (codes "GN  ") [] []
    ∷ ask 2 (codes "GHU ") (codes "STUD    (SNAME   EQADAM)" ∷ []) []
    ∷ ask 2 (codes "DLET") [] []
    ∷ ask 2 (codes "ISRT") (codes "CLASS   (ED      EQ01)" ∷ codes "STUD    " ∷ []) (codes "ABEL09")
    ∷ ask 1 (codes "GNP ") [] []
    ∷ ask 1 (codes "GN  ") [] []
    ∷ [])
    ≡ ended (got Blank 1 (codes "101") (codes "101ALGEB")
    ∷ got Blank 2 (codes "10101") (codes "01AB")
    ∷ got Blank 3 (codes "10101ADAM") (codes "ADAM01")
    ∷ got Blank 3 (codes "10101ADAM") (codes "ADAM01")
    ∷ got Blank 3 (codes "10101ADAM") []
    ∷ got Blank 3 (codes "10101ABEL") []
    ∷ got GP 0 [] []
    ∷ got Blank 3 (codes "10101ABEL") (codes "ABEL09")
    ∷ [])
    (of_type 1 (codes "101ALGEB") ∷ of_type 2 (codes "01AB") ∷ of_type 3 (codes "ABEL09") ∷ of_type 3 (codes "EVE 02") ∷ of_type 2 (codes "02CD") ∷ of_type 4 (codes "EULER") ∷ of_type 1 (codes "205LOGIC") ∷ [])
    (at_place 3 (Some 2) (Some (record { level = 3; code = 3 })) (Some 2) [] ∷ at_place 3 (Some 2) (Some (record { level = 3; code = 3 })) (Some 2) [] ∷ at_start ∷ [])
position_behind_a_deleted_row = refl

-- AJ, AK, AC, AD and AH
pub wrong_arguments : played
    (ask 1 (codes "GU  ") (codes "CLASS   (ED      XX02)" ∷ []) []
    ∷ ask 1 (codes "GU  ") (codes "CLASS   (ED      EQ02" ∷ []) []
    ∷ ask 1 (codes "GU  ") (codes "CLASS   (NAME    EQ02)" ∷ []) []
    ∷ ask 1 (codes "GU  ") (codes "CLAS    " ∷ []) []
    ∷ ask 1 (codes "GU  ") (codes "STUD    " ∷ codes "CLASS   " ∷ []) []
    ∷ ask 1 (codes "GXX ") [] []
    ∷ ask 1 (codes "ISRT") [] []
    ∷ [])
    ≡ ended (got AJ 0 [] []
    ∷ got AJ 0 [] []
    ∷ got AK 0 [] []
    ∷ got AC 0 [] []
    ∷ got AC 0 [] []
    ∷ got AD 0 [] []
    ∷ got AH 0 [] []
    ∷ [])
    sample_rows
    (at_start ∷ at_start ∷ at_start ∷ [])
wrong_arguments = refl

-- OR with L, and AND
pub two_groups : played
    (ask 1 (codes "GU  ") (codes "CLASS   *L(ED      EQ01+ED      EQ02)" ∷ []) []
    ∷ ask 1 (codes "GU  ") (codes "CLASS   (ED      GE01*ED      LT02)" ∷ []) []
    ∷ [])
    ≡ ended (got Blank 2 (codes "10102") (codes "02CD")
    ∷ got Blank 2 (codes "10101") (codes "01AB")
    ∷ [])
    sample_rows
    (at_place 2 (Some 1) (Some (record { level = 2; code = 2 })) (Some 1) [] ∷ at_start ∷ at_start ∷ [])
two_groups = refl

-- GE for a missing qualified class, GB where none is qualified, and on from the beginning
pub missing_rows : played
    (ask 1 (codes "GU  ") (codes "BOOK    " ∷ []) []
    ∷ ask 1 (codes "GN  ") (codes "CLASS   (ED      EQ09)" ∷ []) []
    ∷ ask 1 (codes "GN  ") [] []
    ∷ ask 1 (codes "GN  ") (codes "CLASS   " ∷ []) []
    ∷ ask 1 (codes "GN  ") [] []
    ∷ [])
    ≡ ended (got Blank 2 (codes "101") (codes "EULER")
    ∷ got GE 0 [] []
    ∷ got GA 1 (codes "205") (codes "205LOGIC")
    ∷ got GB 0 [] []
    ∷ got Blank 1 (codes "101") (codes "101ALGEB")
    ∷ [])
    sample_rows
    (at_place 1 (Some 0) (Some (record { level = 1; code = 1 })) (Some 0) [] ∷ at_start ∷ at_start ∷ [])
missing_rows = refl

-- a load inserts behind all, asks for the parent's type on the last path, and allows no get
pub loading : played_load
    (ask 1 (codes "ISRT") (codes "COURSE  " ∷ []) (codes "101ALGEB")
    ∷ ask 1 (codes "ISRT") (codes "STUD    " ∷ []) (codes "ADAM01")
    ∷ ask 1 (codes "GU  ") [] []
    ∷ [])
    ≡ ended (got Blank 1 (codes "101") []
    ∷ got LD 0 [] []
    ∷ got AM 0 [] []
    ∷ [])
    (of_type 1 (codes "101ALGEB") ∷ [])
    (at_place 1 (Some 0) (Some (record { level = 1; code = 1 })) (Some 0) [] ∷ [])
loading = refl

-- GNP with F and L below one parent
pub first_and_last_below_a_course : played
    (ask 1 (codes "GU  ") (codes "COURSE  (NUM     EQ101)" ∷ []) []
    ∷ ask 1 (codes "GNP ") (codes "BOOK    " ∷ []) []
    ∷ ask 1 (codes "GNP ") (codes "CLASS   *F" ∷ []) []
    ∷ ask 1 (codes "GNP ") (codes "STUD    *L" ∷ []) []
    ∷ [])
    ≡ ended (got Blank 1 (codes "101") (codes "101ALGEB")
    ∷ got Blank 2 (codes "101") (codes "EULER")
    ∷ got Blank 2 (codes "10101") (codes "01AB")
    ∷ got Blank 3 (codes "10101EVE ") (codes "EVE 02")
    ∷ [])
    sample_rows
    (at_place 4 (Some 3) (Some (record { level = 3; code = 3 })) (Some 0) [] ∷ at_start ∷ at_start ∷ [])
first_and_last_below_a_course = refl

-- AND binds tighter than OR; D on the last argument is disregarded
pub and_binds_tighter : played
    (ask 1 (codes "GU  ") (codes "STUD    (SNAME   EQADAM+SNAME   EQEVE *SNAME   GTFRED)" ∷ []) []
    ∷ ask 1 (codes "GU  ") (codes "STUD    *D" ∷ []) []
    ∷ [])
    ≡ ended (got Blank 3 (codes "10101ADAM") (codes "ADAM01")
    ∷ got Blank 3 (codes "10101ADAM") (codes "ADAM01")
    ∷ [])
    sample_rows
    (at_place 3 (Some 2) (Some (record { level = 3; code = 3 })) (Some 2) [] ∷ at_start ∷ at_start ∷ [])
and_binds_tighter = refl

-- a book is inserted last, and GHN goes on from it
pub inserted_last_and_on : played
    (ask 1 (codes "ISRT") (codes "COURSE  (NUM     EQ101)" ∷ codes "BOOK    *L" ∷ []) (codes "NOETH")
    ∷ ask 1 (codes "GHN ") [] []
    ∷ ask 1 (codes "GHN ") [] []
    ∷ ask 1 (codes "DLET") [] []
    ∷ ask 1 (codes "GN  ") [] []
    ∷ [])
    ≡ ended (got Blank 2 (codes "101") []
    ∷ got GA 1 (codes "205") (codes "205LOGIC")
    ∷ got GB 0 [] []
    ∷ got DJ 0 [] []
    ∷ got Blank 1 (codes "101") (codes "101ALGEB")
    ∷ [])
    (of_type 1 (codes "101ALGEB") ∷ of_type 2 (codes "01AB") ∷ of_type 3 (codes "ADAM01") ∷ of_type 3 (codes "EVE 02") ∷ of_type 2 (codes "02CD") ∷ of_type 4 (codes "EULER") ∷ of_type 4 (codes "NOETH") ∷ of_type 1 (codes "205LOGIC") ∷ [])
    (at_place 1 (Some 0) (Some (record { level = 1; code = 1 })) (Some 0) [] ∷ at_start ∷ at_start ∷ [])
inserted_last_and_on = refl

-- a hold of a path ends whole where another PCB deletes one of its rows
pub deleted_path_row : played
    (ask 1 (codes "GHU ") (codes "COURSE  *D(NUM     EQ101)" ∷ codes "BOOK    " ∷ []) []
    ∷ ask 2 (codes "GHU ") (codes "BOOK    " ∷ []) []
    ∷ ask 2 (codes "DLET") [] []
    ∷ ask 1 (codes "REPL") [] (codes "101ALGEBGAUSS")
    ∷ [])
    ≡ ended (got Blank 2 (codes "101") (codes "101ALGEBEULER")
    ∷ got Blank 2 (codes "101") (codes "EULER")
    ∷ got Blank 2 (codes "101") []
    ∷ got DJ 0 [] []
    ∷ [])
    (of_type 1 (codes "101ALGEB") ∷ of_type 2 (codes "01AB") ∷ of_type 3 (codes "ADAM01") ∷ of_type 3 (codes "EVE 02") ∷ of_type 2 (codes "02CD") ∷ of_type 1 (codes "205LOGIC") ∷ [])
    (at_place 5 (Some 0) (Some (record { level = 2; code = 4 })) None [] ∷ at_place 5 (Some 0) (Some (record { level = 2; code = 4 })) None [] ∷ at_start ∷ [])
deleted_path_row = refl

-- a hold stands through changes of other rows, and moves with an insertion before it
pub other_rows_changed : played
    (ask 1 (codes "GHU ") (codes "CLASS   (ED      EQ01)" ∷ []) []
    ∷ ask 2 (codes "GHU ") (codes "CLASS   (ED      EQ02)" ∷ []) []
    ∷ ask 2 (codes "REPL") [] (codes "02ZZ")
    ∷ ask 2 (codes "ISRT") (codes "COURSE  (NUM     EQ101)" ∷ codes "CLASS   " ∷ []) (codes "00ZZ")
    ∷ ask 1 (codes "REPL") [] (codes "01YY")
    ∷ ask 1 (codes "GU  ") (codes "CLASS   (ED      EQ01)" ∷ []) []
    ∷ [])
    ≡ ended (got Blank 2 (codes "10101") (codes "01AB")
    ∷ got Blank 2 (codes "10102") (codes "02CD")
    ∷ got Blank 2 (codes "10102") []
    ∷ got Blank 2 (codes "10100") []
    ∷ got Blank 2 (codes "10101") []
    ∷ got Blank 2 (codes "10101") (codes "01YY")
    ∷ [])
    (of_type 1 (codes "101ALGEB") ∷ of_type 2 (codes "00ZZ") ∷ of_type 2 (codes "01YY") ∷ of_type 3 (codes "ADAM01") ∷ of_type 3 (codes "EVE 02") ∷ of_type 2 (codes "02ZZ") ∷ of_type 4 (codes "EULER") ∷ of_type 1 (codes "205LOGIC") ∷ [])
    (at_place 3 (Some 2) (Some (record { level = 2; code = 2 })) (Some 2) [] ∷ at_place 2 (Some 1) (Some (record { level = 2; code = 2 })) (Some 1) [] ∷ at_start ∷ [])
other_rows_changed = refl
