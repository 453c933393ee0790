-- Worked lists of calls over rows that vary in length, computed by the definitions.
use Rattle.std.proofs.Common.{◌≡◌, List, [], ◌∷◌, ◌++◌, true, Some, None, refl}
use Rattle.std.specs.Prelude.{codes}
use Rattle.hd_dbd.specs.declared.answer.Status.TheVariants.{Blank, GE, II, DA, DJ, V1}
use Rattle.hd_dbd.specs.Segment.{Segment}
use Rattle.hd_dbd.specs.Rows.{valid}
use Rattle.hd_dbd.specs.Positions.{at_start}
use Rattle.hd_dbd.specs.Sample.{of_type}
use Rattle.hd_calls.proofs.Playing.{ask, got, area_refused, ended, at_place, varying_types, played_varying, book}

-- a course with a book
abbrev one_book : List Segment
one_book = of_type 1 (codes "101ALGEB") ∷ of_type 4 (book 5 (codes "ABC")) ∷ []

-- a course with two
abbrev two_books : List Segment
two_books = of_type 1 (codes "101ALGEB") ∷ of_type 4 (book 4 (codes "AA")) ∷ of_type 4 (book 4 (codes "BB")) ∷ []

-- these rows are valid
pub books_are_valid : (valid varying_types one_book ≡ true) × (valid varying_types two_books ≡ true)
books_are_valid = (refl, refl)

-- V1 for a book shorter than the least, longer than the longest, or of more bytes than the area has; a byte too many is a wrong area;
-- and a book may grow
pub lengths_of_a_book : played_varying one_book
    (ask 1 (codes "GHU ") (codes "BOOK    " ∷ []) []
    ∷ ask 1 (codes "REPL") [] (book 3 (codes "A"))
    ∷ ask 1 (codes "GHU ") (codes "BOOK    " ∷ []) []
    ∷ ask 1 (codes "REPL") [] (book 10 (codes "ABCDEFGH"))
    ∷ ask 1 (codes "GHU ") (codes "BOOK    " ∷ []) []
    ∷ ask 1 (codes "REPL") [] (book 9 (codes "ABC"))
    ∷ ask 1 (codes "GHU ") (codes "BOOK    " ∷ []) []
    ∷ ask 1 (codes "REPL") [] (book 5 (codes "ABCD"))
    ∷ ask 1 (codes "GHU ") (codes "BOOK    " ∷ []) []
    ∷ ask 1 (codes "REPL") [] (book 9 (codes "ABCDEFG"))
    ∷ [])
    ≡ ended (got Blank 2 (codes "101") (book 5 (codes "ABC"))
    ∷ got V1 0 [] []
    ∷ got Blank 2 (codes "101") (book 5 (codes "ABC"))
    ∷ got V1 0 [] []
    ∷ got Blank 2 (codes "101") (book 5 (codes "ABC"))
    ∷ got V1 0 [] []
    ∷ got Blank 2 (codes "101") (book 5 (codes "ABC"))
    ∷ area_refused
    ∷ got Blank 2 (codes "101") (book 5 (codes "ABC"))
    ∷ got Blank 2 (codes "101") []
    ∷ [])
    (of_type 1 (codes "101ALGEB") ∷ of_type 4 (book 9 (codes "ABCDEFG")) ∷ [])
    (at_place 2 (Some 1) (Some (record { level = 2; code = 4 })) (Some 1) [] ∷ at_start ∷ at_start ∷ [])
lengths_of_a_book = refl

-- V1 ends a hold, which a wrong area does not
pub wrong_length_ends_a_hold : played_varying one_book
    (ask 1 (codes "GHU ") (codes "BOOK    " ∷ []) []
    ∷ ask 1 (codes "REPL") [] (book 5 (codes "ABCD"))
    ∷ ask 1 (codes "REPL") [] (book 3 (codes "A"))
    ∷ ask 1 (codes "REPL") [] (book 4 (codes "AA"))
    ∷ [])
    ≡ ended (got Blank 2 (codes "101") (book 5 (codes "ABC"))
    ∷ area_refused
    ∷ got V1 0 [] []
    ∷ got DJ 0 [] []
    ∷ [])
    one_book
    (at_place 2 (Some 1) (Some (record { level = 2; code = 4 })) (Some 1) [] ∷ at_start ∷ at_start ∷ [])
wrong_length_ends_a_hold = refl

-- a PCB that stands on a row which another makes longer goes on to the next
pub longer_under_another : played_varying two_books
    (ask 2 (codes "GU  ") (codes "BOOK    " ∷ []) []
    ∷ ask 1 (codes "GHU ") (codes "BOOK    " ∷ []) []
    ∷ ask 1 (codes "REPL") [] (book 9 (codes "AAAAAAA"))
    ∷ ask 2 (codes "GN  ") (codes "BOOK    " ∷ []) []
    ∷ [])
    ≡ ended (got Blank 2 (codes "101") (book 4 (codes "AA"))
    ∷ got Blank 2 (codes "101") (book 4 (codes "AA"))
    ∷ got Blank 2 (codes "101") []
    ∷ got Blank 2 (codes "101") (book 4 (codes "BB"))
    ∷ [])
    (of_type 1 (codes "101ALGEB") ∷ of_type 4 (book 9 (codes "AAAAAAA")) ∷ of_type 4 (book 4 (codes "BB")) ∷ [])
    (at_place 2 (Some 1) (Some (record { level = 2; code = 4 })) (Some 1) [] ∷ at_place 3 (Some 2) (Some (record { level = 2; code = 4 })) (Some 2) [] ∷ at_start ∷ [])
longer_under_another = refl

-- the first fault from the front answers: V1 for a book behind a course, with or without bytes behind it; a wrong area where bytes are
-- left behind a book that fits, or lack for the course; and a path goes in where none stands
pub first_fault_of_a_path : played_varying one_book
    (ask 1 (codes "ISRT") (codes "COURSE  *D" ∷ codes "BOOK    " ∷ []) (codes "300CHEMI" ++ book 3 (codes "A"))
    ∷ ask 1 (codes "ISRT") (codes "COURSE  *D" ∷ codes "BOOK    " ∷ []) (codes "300CHEMI" ++ book 3 (codes "ABCD"))
    ∷ ask 1 (codes "ISRT") (codes "COURSE  *D" ∷ codes "BOOK    " ∷ []) (codes "300CHEMI" ++ book 6 (codes "ABC"))
    ∷ ask 1 (codes "ISRT") (codes "COURSE  *D" ∷ codes "BOOK    " ∷ []) (codes "300CHEMI" ++ book 5 (codes "ABCD"))
    ∷ ask 1 (codes "ISRT") (codes "COURSE  *D" ∷ codes "BOOK    " ∷ []) (codes "300CHEM")
    ∷ ask 1 (codes "ISRT") (codes "COURSE  *D" ∷ codes "BOOK    " ∷ []) (codes "300CHEMI" ++ book 6 (codes "ABCD"))
    ∷ [])
    ≡ ended (got V1 0 [] []
    ∷ got V1 0 [] []
    ∷ got V1 0 [] []
    ∷ area_refused
    ∷ area_refused
    ∷ got Blank 2 (codes "300") []
    ∷ [])
    (of_type 1 (codes "101ALGEB") ∷ of_type 4 (book 5 (codes "ABC")) ∷ of_type 1 (codes "300CHEMI") ∷ of_type 4 (book 6 (codes "ABCD")) ∷ [])
    (at_place 4 (Some 3) (Some (record { level = 2; code = 4 })) (Some 3) [] ∷ at_start ∷ at_start ∷ [])
first_fault_of_a_path = refl

-- the area is looked at before the parent, before the twins' keys and before the key that stays: V1 comes before GE, II and DA
pub length_before_the_rest : played_varying one_book
    (ask 1 (codes "ISRT") (codes "COURSE  (NUM     EQ999)" ∷ codes "BOOK    " ∷ []) (book 3 (codes "A"))
    ∷ ask 1 (codes "ISRT") (codes "COURSE  (NUM     EQ999)" ∷ codes "BOOK    " ∷ []) (book 4 (codes "AA"))
    ∷ ask 1 (codes "ISRT") (codes "COURSE  *D" ∷ codes "BOOK    " ∷ []) (codes "101CHEMI" ++ book 3 (codes "A"))
    ∷ ask 1 (codes "ISRT") (codes "COURSE  *D" ∷ codes "BOOK    " ∷ []) (codes "101CHEMI" ++ book 4 (codes "AA"))
    ∷ ask 1 (codes "GHU ") (codes "COURSE  *D" ∷ codes "BOOK    " ∷ []) []
    ∷ ask 1 (codes "REPL") [] (codes "999ALGEB" ++ book 3 (codes "A"))
    ∷ ask 1 (codes "GHU ") (codes "COURSE  *D" ∷ codes "BOOK    " ∷ []) []
    ∷ ask 1 (codes "REPL") [] (codes "999ALGEB" ++ book 4 (codes "AA"))
    ∷ [])
    ≡ ended (got V1 0 [] []
    ∷ got GE 0 [] []
    ∷ got V1 0 [] []
    ∷ got II 0 [] []
    ∷ got Blank 2 (codes "101") (codes "101ALGEB" ++ book 5 (codes "ABC"))
    ∷ got V1 0 [] []
    ∷ got Blank 2 (codes "101") (codes "101ALGEB" ++ book 5 (codes "ABC"))
    ∷ got DA 0 [] []
    ∷ [])
    one_book
    (at_place 2 (Some 1) (Some (record { level = 2; code = 4 })) (Some 1) [] ∷ at_start ∷ at_start ∷ [])
length_before_the_rest = refl

-- a course that N excepts takes as many bytes of the area as it has, whatever they are, and the book is taken from the front behind them
pub book_behind_an_excepted_course : played_varying one_book
    (ask 1 (codes "GHU ") (codes "COURSE  *D" ∷ codes "BOOK    " ∷ []) []
    ∷ ask 1 (codes "REPL") (codes "COURSE  *N" ∷ []) (codes "XXXXXXX")
    ∷ ask 1 (codes "REPL") (codes "COURSE  *N" ∷ []) (codes "XXXXXXXX" ++ book 7 (codes "GAUSSX"))
    ∷ ask 1 (codes "REPL") (codes "COURSE  *N" ∷ []) (codes "XXXXXXXX" ++ book 7 (codes "GAUSS"))
    ∷ ask 1 (codes "GHU ") (codes "COURSE  *D" ∷ codes "BOOK    " ∷ []) []
    ∷ ask 1 (codes "REPL") (codes "COURSE  *N" ∷ []) (codes "XXXXXXXX" ++ book 7 (codes "GAUS"))
    ∷ [])
    ≡ ended (got Blank 2 (codes "101") (codes "101ALGEB" ++ book 5 (codes "ABC"))
    ∷ area_refused
    ∷ area_refused
    ∷ got Blank 2 (codes "101") []
    ∷ got Blank 2 (codes "101") (codes "101ALGEB" ++ book 7 (codes "GAUSS"))
    ∷ got V1 0 [] []
    ∷ [])
    (of_type 1 (codes "101ALGEB") ∷ of_type 4 (book 7 (codes "GAUSS")) ∷ [])
    (at_place 2 (Some 1) (Some (record { level = 2; code = 4 })) (Some 1) [] ∷ at_start ∷ at_start ∷ [])
book_behind_an_excepted_course = refl

-- a book that N excepts takes as many bytes of the area as it has, no more and no fewer, and they say nothing
pub excepted_book : played_varying one_book
    (ask 1 (codes "GHU ") (codes "COURSE  *D" ∷ codes "BOOK    " ∷ []) []
    ∷ ask 1 (codes "REPL") (codes "BOOK    *N" ∷ []) (codes "101LOGIC" ++ book 4 (codes "ZZ"))
    ∷ ask 1 (codes "REPL") (codes "BOOK    *N" ∷ []) (codes "101LOGIC" ++ book 6 (codes "ZZZZ"))
    ∷ ask 1 (codes "REPL") (codes "BOOK    *N" ∷ []) (codes "101LOGIC" ++ book 0 (codes "ZZZ"))
    ∷ [])
    ≡ ended (got Blank 2 (codes "101") (codes "101ALGEB" ++ book 5 (codes "ABC"))
    ∷ area_refused
    ∷ area_refused
    ∷ got Blank 2 (codes "101") []
    ∷ [])
    (of_type 1 (codes "101LOGIC") ∷ of_type 4 (book 5 (codes "ABC")) ∷ [])
    (at_place 2 (Some 1) (Some (record { level = 2; code = 4 })) (Some 1) [] ∷ at_start ∷ at_start ∷ [])
excepted_book = refl
