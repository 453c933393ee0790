-- Sixty mixed lists of calls over the sample, with answers, rows and positions that were worked out apart from these definitions.
use Rattle.std.proofs.Common.{◌≡◌, [], ◌∷◌, Some, None, refl}
use Rattle.std.specs.Prelude.{codes}
use Rattle.hd_dbd.specs.declared.answer.Status.TheVariants.{Blank, GA, GK, GB, GE, GP, II, DA, DJ, AC, AD, AH, AJ, AM}
use Rattle.hd_dbd.specs.Positions.{at_start}
use Rattle.hd_dbd.specs.Sample.{of_type, sample_rows}
use Rattle.hd_calls.proofs.Playing.{ask, got, area_refused, ended, at_place, played}

pub mixed_list_01 : played
    (ask 3 (codes "DLET") [] []
    ∷ ask 2 (codes "GN  ") (codes "BOOK    *L" ∷ []) []
    ∷ ask 1 (codes "REPL") (codes "BOOK    *N" ∷ []) (codes "HILBE")
    ∷ ask 2 (codes "GU  ") (codes "COURSE   " ∷ []) []
    ∷ [])
    ≡ ended (got DJ 0 [] []
    ∷ got Blank 2 (codes "101") (codes "EULER")
    ∷ got DJ 0 [] []
    ∷ got Blank 1 (codes "101") (codes "101ALGEB")
    ∷ [])
    sample_rows
    (at_start ∷ at_place 1 (Some 0) (Some (record { level = 1; code = 1 })) (Some 0) [] ∷ at_start ∷ [])
mixed_list_01 = refl

pub mixed_list_02 : played
    (ask 3 (codes "GHN ") (codes "COURSE  " ∷ codes "CLASS   *N(ED       >01)" ∷ []) []
    ∷ ask 1 (codes "GHN ") (codes "COURSE  *--(NUM     <=101)" ∷ []) []
    ∷ ask 3 (codes "ISRT") (codes "CLASS   *D" ∷ codes "STUD    " ∷ []) (codes "00ZZEVE 99")
    ∷ ask 1 (codes "GNP ") (codes "COURSE  *--" ∷ codes "BOOK    " ∷ []) []
    ∷ ask 3 (codes "GN  ") [] []
    ∷ ask 1 (codes "GU  ") (codes "COURSE  (NUM     =<205)" ∷ codes "STUD    *LN(SNAME   > ABEL)" ∷ []) []
    ∷ ask 1 (codes "ISRT") (codes "COURSE  (NUM     EQ300&NUM     EQ300+NUM     EQ101)" ∷ codes "BOOK    *F" ∷ []) (codes "NOETH")
    ∷ ask 1 (codes "ISRT") (codes "COURSE  " ∷ []) (codes "101ALGEB")
    ∷ [])
    ≡ ended (got Blank 2 (codes "10102") (codes "02CD")
    ∷ got Blank 1 (codes "101") (codes "101ALGEB")
    ∷ got AC 0 [] []
    ∷ got Blank 2 (codes "101") (codes "EULER")
    ∷ got GK 2 (codes "101") (codes "EULER")
    ∷ got Blank 3 (codes "10101EVE ") (codes "EVE 02")
    ∷ got Blank 2 (codes "101") []
    ∷ got II 0 [] []
    ∷ [])
    (of_type 1 (codes "101ALGEB") ∷ of_type 2 (codes "01AB") ∷ of_type 3 (codes "ADAM01") ∷ of_type 3 (codes "EVE 02") ∷ of_type 2 (codes "02CD") ∷ of_type 4 (codes "NOETH") ∷ of_type 4 (codes "EULER") ∷ of_type 1 (codes "205LOGIC") ∷ [])
    (at_place 6 (Some 5) (Some (record { level = 2; code = 4 })) (Some 5) [] ∷ at_start ∷ at_place 7 (Some 6) (Some (record { level = 2; code = 4 })) (Some 6) [] ∷ [])
mixed_list_02 = refl

pub mixed_list_03 : played
    (ask 3 (codes "GHN ") (codes "BOOK    *D" ∷ []) []
    ∷ ask 1 (codes "DLET") [] []
    ∷ ask 1 (codes "ISRT") (codes "COURSE  *DF" ∷ codes "BOOK    " ∷ []) (codes "101ALGEBGAUSS")
    ∷ ask 3 (codes "DLET") [] []
    ∷ [])
    ≡ ended (got Blank 2 (codes "101") (codes "EULER")
    ∷ got DJ 0 [] []
    ∷ got II 0 [] []
    ∷ got Blank 2 (codes "101") []
    ∷ [])
    (of_type 1 (codes "101ALGEB") ∷ of_type 2 (codes "01AB") ∷ of_type 3 (codes "ADAM01") ∷ of_type 3 (codes "EVE 02") ∷ of_type 2 (codes "02CD") ∷ of_type 1 (codes "205LOGIC") ∷ [])
    (at_start ∷ at_start ∷ at_place 5 (Some 0) (Some (record { level = 2; code = 4 })) None [] ∷ [])
mixed_list_03 = refl

pub mixed_list_04 : played
    (ask 1 (codes "ISRT") (codes "COURSE  (NUM     EQ101)" ∷ codes "BOOK    " ∷ []) (codes "GAUSS")
    ∷ ask 1 (codes "GN  ") (codes "COURSE  *DD(NUM     < 205)" ∷ codes "CLASS   *DN" ∷ codes "STUD    (SNAME   EQADAM)" ∷ []) []
    ∷ ask 1 (codes "GHU ") (codes "COURSE  *- " ∷ codes "STUD    " ∷ []) []
    ∷ ask 3 (codes "GNP ") [] []
    ∷ ask 1 (codes "GHNP") [] []
    ∷ ask 2 (codes "GU  ") [] []
    ∷ [])
    ≡ ended (got Blank 2 (codes "101") []
    ∷ got GE 0 [] []
    ∷ got Blank 3 (codes "10101ADAM") (codes "ADAM01")
    ∷ got GP 0 [] []
    ∷ got GE 0 [] []
    ∷ got Blank 1 (codes "101") (codes "101ALGEB")
    ∷ [])
    (of_type 1 (codes "101ALGEB") ∷ of_type 2 (codes "01AB") ∷ of_type 3 (codes "ADAM01") ∷ of_type 3 (codes "EVE 02") ∷ of_type 2 (codes "02CD") ∷ of_type 4 (codes "GAUSS") ∷ of_type 4 (codes "EULER") ∷ of_type 1 (codes "205LOGIC") ∷ [])
    (at_place 3 (Some 2) (Some (record { level = 3; code = 3 })) (Some 2) [] ∷ at_place 1 (Some 0) (Some (record { level = 1; code = 1 })) (Some 0) [] ∷ at_start ∷ [])
mixed_list_04 = refl

pub mixed_list_05 : played
    (ask 1 (codes "GN  ") (codes "COURSE  *N(NUM     EQ101*NUM      >300|NUM     EQ101)" ∷ []) []
    ∷ ask 1 (codes "REPL") [] (codes "00ZZ")
    ∷ ask 3 (codes "ISRT") (codes "COURSE  (NUM     EQ205+NUM     =>101&NUM      =300)" ∷ codes "CLASS   " ∷ []) (codes "03YY")
    ∷ ask 2 (codes "REPL") [] (codes "101ALGEB")
    ∷ ask 1 (codes "DLET") (codes "BOOK    " ∷ codes "BOOK    " ∷ []) []
    ∷ ask 1 (codes "GHNP") [] []
    ∷ ask 1 (codes "REPL") [] (codes "Q1AB")
    ∷ ask 1 (codes "DLET") [] []
    ∷ [])
    ≡ ended (got Blank 1 (codes "101") (codes "101ALGEB")
    ∷ got DJ 0 [] []
    ∷ got Blank 2 (codes "20503") []
    ∷ got DJ 0 [] []
    ∷ got AJ 0 [] []
    ∷ got Blank 2 (codes "10101") (codes "01AB")
    ∷ got DA 0 [] []
    ∷ got DJ 0 [] []
    ∷ [])
    (of_type 1 (codes "101ALGEB") ∷ of_type 2 (codes "01AB") ∷ of_type 3 (codes "ADAM01") ∷ of_type 3 (codes "EVE 02") ∷ of_type 2 (codes "02CD") ∷ of_type 4 (codes "EULER") ∷ of_type 1 (codes "205LOGIC") ∷ of_type 2 (codes "03YY") ∷ [])
    (at_place 2 (Some 1) (Some (record { level = 2; code = 2 })) (Some 0) [] ∷ at_start ∷ at_place 8 (Some 7) (Some (record { level = 2; code = 2 })) (Some 7) [] ∷ [])
mixed_list_05 = refl

pub mixed_list_06 : played
    (ask 1 (codes "REPL") [] (codes "101ALGEB")
    ∷ ask 1 (codes "GHN ") (codes "COURSE  *LN " ∷ []) []
    ∷ ask 1 (codes "REPL") [] (codes "Q01ALGEB")
    ∷ ask 1 (codes "GNP ") [] []
    ∷ ask 2 (codes "GHU ") [] []
    ∷ ask 1 (codes "ISRT") (codes "COURSE  *-" ∷ []) (codes "101ALGE")
    ∷ ask 1 (codes "GNP ") (codes "CLASS   *D " ∷ codes "COURSE  (NUM     EQ150|NUM     GE205)" ∷ []) []
    ∷ ask 1 (codes "DLET") (codes "STUD    " ∷ []) []
    ∷ [])
    ≡ ended (got DJ 0 [] []
    ∷ got Blank 1 (codes "101") (codes "101ALGEB")
    ∷ got DA 0 [] []
    ∷ got Blank 2 (codes "10101") (codes "01AB")
    ∷ got Blank 1 (codes "101") (codes "101ALGEB")
    ∷ area_refused
    ∷ got AC 0 [] []
    ∷ got DJ 0 [] []
    ∷ [])
    sample_rows
    (at_place 2 (Some 1) (Some (record { level = 2; code = 2 })) (Some 0) [] ∷ at_place 1 (Some 0) (Some (record { level = 1; code = 1 })) (Some 0) (0 ∷ []) ∷ at_start ∷ [])
mixed_list_06 = refl

pub mixed_list_07 : played
    (ask 1 (codes "GX  ") [] []
    ∷ ask 1 (codes "GHN ") (codes "BOOK    *DL" ∷ []) []
    ∷ ask 1 (codes "GHNP") [] []
    ∷ ask 1 (codes "GHNP") (codes "COURSE  *N(NUM     EQ300&NUM     EQ101|NUM     EQ300)" ∷ codes "CLASS   " ∷ []) []
    ∷ ask 1 (codes "GHN ") (codes "CLASS   (ED      < 01+ED       <01&ED      EQ01)" ∷ codes "STUD    " ∷ []) []
    ∷ ask 1 (codes "REPL") [] (codes "ABEL09")
    ∷ ask 3 (codes "ISRT") (codes "COURSE  *D" ∷ codes "BOOK    " ∷ []) (codes "205LOGICNOETH")
    ∷ ask 1 (codes "ISRT") (codes "COURSE  " ∷ []) (codes "300GRAPH")
    ∷ [])
    ≡ ended (got AD 0 [] []
    ∷ got Blank 2 (codes "101") (codes "EULER")
    ∷ got GE 0 [] []
    ∷ got GP 0 [] []
    ∷ got GE 0 [] []
    ∷ got DJ 0 [] []
    ∷ got II 0 [] []
    ∷ got Blank 1 (codes "300") []
    ∷ [])
    (of_type 1 (codes "101ALGEB") ∷ of_type 2 (codes "01AB") ∷ of_type 3 (codes "ADAM01") ∷ of_type 3 (codes "EVE 02") ∷ of_type 2 (codes "02CD") ∷ of_type 4 (codes "EULER") ∷ of_type 1 (codes "205LOGIC") ∷ of_type 1 (codes "300GRAPH") ∷ [])
    (at_place 8 (Some 7) (Some (record { level = 1; code = 1 })) (Some 7) [] ∷ at_start ∷ at_start ∷ [])
mixed_list_07 = refl

pub mixed_list_08 : played
    (ask 3 (codes "REPL") (codes "CLASS   *NF" ∷ []) (codes "ABEL09")
    ∷ ask 2 (codes "REPL") [] (codes "ADAM01")
    ∷ ask 1 (codes "GU  ") [] []
    ∷ ask 1 (codes "GHNP") (codes "BOOK    *FD" ∷ []) []
    ∷ [])
    ≡ ended (got DJ 0 [] []
    ∷ got DJ 0 [] []
    ∷ got Blank 1 (codes "101") (codes "101ALGEB")
    ∷ got Blank 2 (codes "101") (codes "EULER")
    ∷ [])
    sample_rows
    (at_place 6 (Some 5) (Some (record { level = 2; code = 4 })) (Some 0) (5 ∷ []) ∷ at_start ∷ at_start ∷ [])
mixed_list_08 = refl

pub mixed_list_09 : played
    (ask 1 (codes "GHU ") (codes "BOOK    *DF " ∷ []) []
    ∷ ask 1 (codes "GN  ") (codes "CLASS   (ED      >=01)" ∷ []) []
    ∷ ask 1 (codes "DLET") (codes "CLASS   " ∷ []) []
    ∷ ask 1 (codes "GHN ") (codes "COURSE  *F" ∷ []) []
    ∷ [])
    ≡ ended (got Blank 2 (codes "101") (codes "EULER")
    ∷ got GE 0 [] []
    ∷ got DJ 0 [] []
    ∷ got Blank 1 (codes "205") (codes "205LOGIC")
    ∷ [])
    sample_rows
    (at_place 7 (Some 6) (Some (record { level = 1; code = 1 })) (Some 6) (6 ∷ []) ∷ at_start ∷ at_start ∷ [])
mixed_list_09 = refl

pub mixed_list_10 : played
    (ask 1 (codes "ISRT") (codes "COURSE  " ∷ codes "CLASS   " ∷ []) (codes "02XX")
    ∷ ask 1 (codes "GN  ") [] []
    ∷ ask 1 (codes "GN  ") (codes "COURSE  *-(NUM     EQ101)" ∷ codes "BOOK    *L" ∷ []) []
    ∷ ask 1 (codes "GN  ") [] []
    ∷ ask 1 (codes "DLET") [] []
    ∷ ask 2 (codes "ISRT") (codes "COURSE  *D" ∷ codes "CLASS   " ∷ []) (codes "150CALCU00ZZ")
    ∷ ask 1 (codes "GN  ") (codes "COURSE  " ∷ []) []
    ∷ ask 3 (codes "ISRT") (codes "CLASS   (ED      EQ01&ED      NE00)" ∷ codes "STUD    " ∷ []) (codes "CARL03")
    ∷ [])
    ≡ ended (got II 0 [] []
    ∷ got Blank 1 (codes "101") (codes "101ALGEB")
    ∷ got Blank 2 (codes "101") (codes "EULER")
    ∷ got GA 1 (codes "205") (codes "205LOGIC")
    ∷ got DJ 0 [] []
    ∷ got Blank 2 (codes "15000") []
    ∷ got GB 0 [] []
    ∷ got AC 0 [] []
    ∷ [])
    (of_type 1 (codes "101ALGEB") ∷ of_type 2 (codes "01AB") ∷ of_type 3 (codes "ADAM01") ∷ of_type 3 (codes "EVE 02") ∷ of_type 2 (codes "02CD") ∷ of_type 4 (codes "EULER") ∷ of_type 1 (codes "150CALCU") ∷ of_type 2 (codes "00ZZ") ∷ of_type 1 (codes "205LOGIC") ∷ [])
    (at_start ∷ at_place 8 (Some 7) (Some (record { level = 2; code = 2 })) (Some 7) [] ∷ at_start ∷ [])
mixed_list_10 = refl

pub mixed_list_11 : played
    (ask 3 (codes "GU  ") (codes "CLASS   *-(ED      EQ01)" ∷ []) []
    ∷ ask 3 (codes "GN  ") (codes "COURSE  (NUM     EQ150)" ∷ codes "CLASS   *F(ED      EQ09)" ∷ []) []
    ∷ ask 1 (codes "GU  ") (codes "COURSE  " ∷ codes "BOOK    *D" ∷ []) []
    ∷ ask 1 (codes "GN  ") [] []
    ∷ ask 3 (codes "ISRT") (codes "COURSE  *D" ∷ codes "BOOK    *D" ∷ []) (codes "300GRAPHNOETH")
    ∷ ask 3 (codes "DLET") (codes "BOOK    " ∷ []) []
    ∷ [])
    ≡ ended (got Blank 2 (codes "10101") (codes "01AB")
    ∷ got GE 0 [] []
    ∷ got Blank 2 (codes "101") (codes "EULER")
    ∷ got GA 1 (codes "205") (codes "205LOGIC")
    ∷ got Blank 2 (codes "300") []
    ∷ got DJ 0 [] []
    ∷ [])
    (of_type 1 (codes "101ALGEB") ∷ of_type 2 (codes "01AB") ∷ of_type 3 (codes "ADAM01") ∷ of_type 3 (codes "EVE 02") ∷ of_type 2 (codes "02CD") ∷ of_type 4 (codes "EULER") ∷ of_type 1 (codes "205LOGIC") ∷ of_type 1 (codes "300GRAPH") ∷ of_type 4 (codes "NOETH") ∷ [])
    (at_place 7 (Some 6) (Some (record { level = 1; code = 1 })) (Some 6) [] ∷ at_start ∷ at_place 9 (Some 8) (Some (record { level = 2; code = 4 })) (Some 8) [] ∷ [])
mixed_list_11 = refl

pub mixed_list_12 : played
    (ask 1 (codes "GHN ") [] []
    ∷ ask 1 (codes "GHN ") [] []
    ∷ ask 1 (codes "GN  ") (codes "CLASS   *D" ∷ codes "STUD    *N(SNAME   < CARL|SNAME   NEEVE |SNAME   EQABEL)" ∷ []) []
    ∷ ask 1 (codes "GU  ") (codes "CLASS   *FD(ED      EQ02|ED      GE09*ED      EQ02)" ∷ []) []
    ∷ ask 1 (codes "REPL") (codes "BOOK    *NF" ∷ []) (codes "GAUSS")
    ∷ ask 2 (codes "GHN ") (codes "COURSE  " ∷ codes "CLASS   " ∷ []) []
    ∷ ask 2 (codes "DLET") [] []
    ∷ ask 1 (codes "REPL") (codes "CLASS   *NF" ∷ []) (codes "150CALCU")
    ∷ [])
    ≡ ended (got Blank 1 (codes "101") (codes "101ALGEB")
    ∷ got Blank 2 (codes "10101") (codes "01AB")
    ∷ got Blank 3 (codes "10101ADAM") (codes "01ABADAM01")
    ∷ got Blank 2 (codes "10102") (codes "02CD")
    ∷ got DJ 0 [] []
    ∷ got Blank 2 (codes "10101") (codes "01AB")
    ∷ got Blank 2 (codes "10101") []
    ∷ got DJ 0 [] []
    ∷ [])
    (of_type 1 (codes "101ALGEB") ∷ of_type 2 (codes "02CD") ∷ of_type 4 (codes "EULER") ∷ of_type 1 (codes "205LOGIC") ∷ [])
    (at_place 2 (Some 1) (Some (record { level = 2; code = 2 })) (Some 1) [] ∷ at_place 1 (Some 0) (Some (record { level = 2; code = 2 })) None [] ∷ at_start ∷ [])
mixed_list_12 = refl

pub mixed_list_13 : played
    (ask 1 (codes "REPL") (codes "BOOK    *L" ∷ []) (codes "150CALCU")
    ∷ ask 1 (codes "ISRT") (codes "CLASS   (ED      EQ02)" ∷ codes "STUD     " ∷ []) (codes "CARL03")
    ∷ ask 1 (codes "REPL") (codes "COURSE  *L" ∷ []) (codes "02XX")
    ∷ ask 1 (codes "GNP ") (codes "CLASS   *F(ED      EQ00)" ∷ codes "STUD    (SNAME   = CARL)" ∷ []) []
    ∷ ask 2 (codes "REPL") (codes "STUD    *N" ∷ []) (codes "01ZZ")
    ∷ ask 1 (codes "GN  ") [] []
    ∷ [])
    ≡ ended (got DJ 0 [] []
    ∷ got Blank 3 (codes "10102CARL") []
    ∷ got DJ 0 [] []
    ∷ got GP 0 [] []
    ∷ got DJ 0 [] []
    ∷ got GA 2 (codes "101") (codes "EULER")
    ∷ [])
    (of_type 1 (codes "101ALGEB") ∷ of_type 2 (codes "01AB") ∷ of_type 3 (codes "ADAM01") ∷ of_type 3 (codes "EVE 02") ∷ of_type 2 (codes "02CD") ∷ of_type 3 (codes "CARL03") ∷ of_type 4 (codes "EULER") ∷ of_type 1 (codes "205LOGIC") ∷ [])
    (at_place 7 (Some 6) (Some (record { level = 2; code = 4 })) (Some 6) [] ∷ at_start ∷ at_start ∷ [])
mixed_list_13 = refl

pub mixed_list_14 : played
    (ask 3 (codes "GHN ") (codes "COURSE  *D " ∷ codes "BOOK    " ∷ []) []
    ∷ ask 3 (codes "GN  ") [] []
    ∷ ask 1 (codes "ISRT") (codes "COURSE   " ∷ []) (codes "150CALCU")
    ∷ ask 2 (codes "GN  ") [] []
    ∷ ask 1 (codes "DLET") [] []
    ∷ ask 1 (codes "REPL") [] (codes "101ALGEB")
    ∷ ask 3 (codes "GN  ") (codes "COURSE  (NUM     GE300*NUM     EQ101*NUM     EQ150)" ∷ codes "BOOK    " ∷ []) []
    ∷ ask 3 (codes "ISRT") (codes "CLASS   " ∷ []) (codes "01ZZ")
    ∷ [])
    ≡ ended (got AM 0 [] []
    ∷ got Blank 1 (codes "101") (codes "101ALGEB")
    ∷ got Blank 1 (codes "150") []
    ∷ got Blank 1 (codes "101") (codes "101ALGEB")
    ∷ got DJ 0 [] []
    ∷ got DJ 0 [] []
    ∷ got GE 0 [] []
    ∷ got II 0 [] []
    ∷ [])
    (of_type 1 (codes "101ALGEB") ∷ of_type 2 (codes "01AB") ∷ of_type 3 (codes "ADAM01") ∷ of_type 3 (codes "EVE 02") ∷ of_type 2 (codes "02CD") ∷ of_type 4 (codes "EULER") ∷ of_type 1 (codes "150CALCU") ∷ of_type 1 (codes "205LOGIC") ∷ [])
    (at_place 7 (Some 6) (Some (record { level = 1; code = 1 })) (Some 6) [] ∷ at_place 1 (Some 0) (Some (record { level = 1; code = 1 })) (Some 0) [] ∷ at_place 1 (Some 0) (Some (record { level = 1; code = 1 })) (Some 0) [] ∷ [])
mixed_list_14 = refl

pub mixed_list_15 : played
    (ask 1 (codes "GHU ") (codes "COURSE  *D-(NUM     EQ101|NUM     EQ205)" ∷ codes "CLASS   *L" ∷ []) []
    ∷ ask 2 (codes "REPL") [] (codes "03YY")
    ∷ ask 1 (codes "GN  ") (codes "BOOK    *F" ∷ codes "COURSE  *N" ∷ []) []
    ∷ ask 2 (codes "REPL") [] (codes "03YY")
    ∷ ask 2 (codes "REPL") [] (codes "01ZZ")
    ∷ ask 1 (codes "GU  ") (codes "COURSE  (NUM     EQ205|NUM     EQ101|NUM     GE300)" ∷ codes "BOOK     " ∷ []) []
    ∷ [])
    ≡ ended (got Blank 2 (codes "10102") (codes "101ALGEB02CD")
    ∷ got DJ 0 [] []
    ∷ got AC 0 [] []
    ∷ got DJ 0 [] []
    ∷ got DJ 0 [] []
    ∷ got Blank 2 (codes "101") (codes "EULER")
    ∷ [])
    sample_rows
    (at_place 6 (Some 5) (Some (record { level = 2; code = 4 })) (Some 5) [] ∷ at_start ∷ at_start ∷ [])
mixed_list_15 = refl

pub mixed_list_16 : played
    (ask 2 (codes "GN  ") [] []
    ∷ ask 2 (codes "DLET") [] []
    ∷ ask 1 (codes "GHU ") (codes "COURSE  *-D" ∷ codes "CLASS   *N(ED      >=00&ED      LE09)" ∷ []) []
    ∷ ask 1 (codes "GHN ") (codes "COURSE  *DD" ∷ []) []
    ∷ ask 1 (codes "ISRT") (codes "COURSE  *DF" ∷ codes "CLASS   " ∷ []) (codes "150CALCU03YY")
    ∷ ask 1 (codes "GN  ") (codes "CLASS   (ED      EQ09+ED      EQ00&ED      EQ01)" ∷ codes "STUD    (SNAME   EQADAM)" ∷ []) []
    ∷ ask 1 (codes "GHN ") [] []
    ∷ ask 3 (codes "GU  ") [] []
    ∷ [])
    ≡ ended (got Blank 1 (codes "101") (codes "101ALGEB")
    ∷ got DJ 0 [] []
    ∷ got Blank 2 (codes "10101") (codes "101ALGEB01AB")
    ∷ got Blank 1 (codes "205") (codes "205LOGIC")
    ∷ got Blank 2 (codes "15003") []
    ∷ got GE 0 [] []
    ∷ got GA 1 (codes "205") (codes "205LOGIC")
    ∷ got Blank 1 (codes "101") (codes "101ALGEB")
    ∷ [])
    (of_type 1 (codes "101ALGEB") ∷ of_type 2 (codes "01AB") ∷ of_type 3 (codes "ADAM01") ∷ of_type 3 (codes "EVE 02") ∷ of_type 2 (codes "02CD") ∷ of_type 4 (codes "EULER") ∷ of_type 1 (codes "150CALCU") ∷ of_type 2 (codes "03YY") ∷ of_type 1 (codes "205LOGIC") ∷ [])
    (at_place 9 (Some 8) (Some (record { level = 1; code = 1 })) (Some 8) (8 ∷ []) ∷ at_place 1 (Some 0) (Some (record { level = 1; code = 1 })) (Some 0) [] ∷ at_place 1 (Some 0) (Some (record { level = 1; code = 1 })) (Some 0) [] ∷ [])
mixed_list_16 = refl

pub mixed_list_17 : played
    (ask 2 (codes "ISRT") (codes "STUD    " ∷ []) (codes "ABEL09")
    ∷ ask 1 (codes "GU  ") (codes "COURSE  *-L " ∷ []) []
    ∷ ask 2 (codes "GNP ") [] []
    ∷ ask 2 (codes "GNP ") (codes "COURSE  *-(NUM     EQ300)" ∷ []) []
    ∷ ask 3 (codes "GHN ") (codes "CLASS   " ∷ codes "STUD    " ∷ []) []
    ∷ ask 1 (codes "ISRT") (codes "COURSE  (NUM     > 150+NUM     EQ150*NUM      =300)" ∷ codes "CLASS   *D" ∷ codes "STUD    " ∷ []) (codes "02XXCARL03")
    ∷ ask 1 (codes "GHN ") [] []
    ∷ ask 1 (codes "ISRT") (codes "COURSE  " ∷ []) (codes "101ALGEB")
    ∷ [])
    ≡ ended (got GE 0 [] []
    ∷ got Blank 1 (codes "101") (codes "101ALGEB")
    ∷ got GP 0 [] []
    ∷ got GP 0 [] []
    ∷ got AC 0 [] []
    ∷ got Blank 3 (codes "20502CARL") []
    ∷ got GB 0 [] []
    ∷ got II 0 [] []
    ∷ [])
    (of_type 1 (codes "101ALGEB") ∷ of_type 2 (codes "01AB") ∷ of_type 3 (codes "ADAM01") ∷ of_type 3 (codes "EVE 02") ∷ of_type 2 (codes "02CD") ∷ of_type 4 (codes "EULER") ∷ of_type 1 (codes "205LOGIC") ∷ of_type 2 (codes "02XX") ∷ of_type 3 (codes "CARL03") ∷ [])
    (at_start ∷ at_start ∷ at_start ∷ [])
mixed_list_17 = refl

pub mixed_list_18 : played
    (ask 2 (codes "GHU ") (codes "COURSE " ∷ codes "CLASS   *D-" ∷ codes "STUD    *F(SNAME   EQCARL)" ∷ []) []
    ∷ ask 1 (codes "GHU ") (codes "CLASS   (ED      EQ01)" ∷ codes "STUD     " ∷ []) []
    ∷ ask 2 (codes "GHNP") (codes "CLASS   *-L" ∷ codes "STUD    *D" ∷ []) []
    ∷ ask 2 (codes "ISRT") (codes "COURSE  *L-" ∷ []) (codes "205LOGIC")
    ∷ ask 2 (codes "GN  ") (codes "STUD    *D " ∷ []) []
    ∷ ask 1 (codes "GNP ") [] []
    ∷ [])
    ≡ ended (got AJ 0 [] []
    ∷ got Blank 3 (codes "10101ADAM") (codes "ADAM01")
    ∷ got GP 0 [] []
    ∷ got II 0 [] []
    ∷ got Blank 3 (codes "10101ADAM") (codes "ADAM01")
    ∷ got GE 0 [] []
    ∷ [])
    sample_rows
    (at_place 3 (Some 2) (Some (record { level = 3; code = 3 })) (Some 2) [] ∷ at_place 3 (Some 2) (Some (record { level = 3; code = 3 })) (Some 2) [] ∷ at_start ∷ [])
mixed_list_18 = refl

pub mixed_list_19 : played
    (ask 1 (codes "GHN ") (codes "COURSE  (NUM     EQ300*NUM     GT101&NUM     EQ101)" ∷ []) []
    ∷ ask 1 (codes "REPL") (codes "CLASS   *L" ∷ []) (codes "HILBE")
    ∷ ask 2 (codes "ISRT") (codes "COURSE   " ∷ []) (codes "150CALCU")
    ∷ ask 1 (codes "REPL") [] (codes "ADAM01")
    ∷ ask 1 (codes "GU  ") (codes "BOOK    " ∷ []) []
    ∷ ask 1 (codes "REPL") [] (codes "300GRAPH")
    ∷ ask 1 (codes "REPL") (codes "COURSE  " ∷ []) (codes "ABEL09")
    ∷ ask 1 (codes "GN  ") (codes "COURSE  (NUM     > 150)" ∷ []) []
    ∷ [])
    ≡ ended (got GE 0 [] []
    ∷ got DJ 0 [] []
    ∷ got Blank 1 (codes "150") []
    ∷ got DJ 0 [] []
    ∷ got Blank 2 (codes "101") (codes "EULER")
    ∷ got DJ 0 [] []
    ∷ got DJ 0 [] []
    ∷ got Blank 1 (codes "205") (codes "205LOGIC")
    ∷ [])
    (of_type 1 (codes "101ALGEB") ∷ of_type 2 (codes "01AB") ∷ of_type 3 (codes "ADAM01") ∷ of_type 3 (codes "EVE 02") ∷ of_type 2 (codes "02CD") ∷ of_type 4 (codes "EULER") ∷ of_type 1 (codes "150CALCU") ∷ of_type 1 (codes "205LOGIC") ∷ [])
    (at_place 8 (Some 7) (Some (record { level = 1; code = 1 })) (Some 7) [] ∷ at_place 7 (Some 6) (Some (record { level = 1; code = 1 })) (Some 6) [] ∷ at_start ∷ [])
mixed_list_19 = refl

pub mixed_list_20 : played
    (ask 1 (codes "GHU ") [] []
    ∷ ask 1 (codes "GU  ") (codes "COURSE  *F-" ∷ codes "BOOK    *D" ∷ []) []
    ∷ ask 1 (codes "REPL") [] (codes "ADAM01")
    ∷ ask 1 (codes "GNP ") (codes "COURSE  " ∷ []) []
    ∷ ask 1 (codes "REPL") [] (codes "02XX")
    ∷ ask 3 (codes "REPL") [] (codes "GAUSS")
    ∷ ask 1 (codes "GN  ") [] []
    ∷ ask 3 (codes "GHU ") (codes "COURSE  *-(NUM     GT205)" ∷ codes "STUD    *F(SNAME   EQEVE )" ∷ []) []
    ∷ [])
    ≡ ended (got Blank 1 (codes "101") (codes "101ALGEB")
    ∷ got Blank 2 (codes "101") (codes "EULER")
    ∷ got DJ 0 [] []
    ∷ got GP 0 [] []
    ∷ got DJ 0 [] []
    ∷ got DJ 0 [] []
    ∷ got GA 1 (codes "205") (codes "205LOGIC")
    ∷ got AC 0 [] []
    ∷ [])
    sample_rows
    (at_place 7 (Some 6) (Some (record { level = 1; code = 1 })) (Some 6) [] ∷ at_start ∷ at_start ∷ [])
mixed_list_20 = refl

pub mixed_list_21 : played
    (ask 2 (codes "GHN ") [] []
    ∷ ask 1 (codes "REPL") [] (codes "03YY")
    ∷ ask 1 (codes "REPL") (codes "BOOK    *N" ∷ []) (codes "CARL03")
    ∷ ask 3 (codes "DLET") [] []
    ∷ ask 3 (codes "GHU ") [] []
    ∷ ask 3 (codes "GN  ") (codes "CLASS   *D(ED      EQ09|ED       >02|ED      EQ02)" ∷ []) []
    ∷ [])
    ≡ ended (got Blank 1 (codes "101") (codes "101ALGEB")
    ∷ got DJ 0 [] []
    ∷ got DJ 0 [] []
    ∷ got DJ 0 [] []
    ∷ got Blank 1 (codes "101") (codes "101ALGEB")
    ∷ got Blank 2 (codes "10102") (codes "02CD")
    ∷ [])
    sample_rows
    (at_start ∷ at_place 1 (Some 0) (Some (record { level = 1; code = 1 })) (Some 0) (0 ∷ []) ∷ at_place 5 (Some 4) (Some (record { level = 2; code = 2 })) (Some 4) [] ∷ [])
mixed_list_21 = refl

pub mixed_list_22 : played
    (ask 1 (codes "GHU ") (codes "COURSE  (NUM     EQ150&NUM     EQ205)" ∷ codes "CLASS   *L(ED       =00)" ∷ codes "STUD    " ∷ []) []
    ∷ ask 1 (codes "GHN ") (codes "STUD    *L(SNAME   EQCARL)" ∷ []) []
    ∷ ask 1 (codes "REPL") [] (codes "205LOGIC")
    ∷ ask 3 (codes "GHU ") (codes "COURSE  *-F(NUM     NE205*NUM     EQ101)" ∷ codes "CLASS   *N-(ED      EQ09)" ∷ []) []
    ∷ [])
    ≡ ended (got GE 0 [] []
    ∷ got GE 0 [] []
    ∷ got DJ 0 [] []
    ∷ got GE 0 [] []
    ∷ [])
    sample_rows
    (at_start ∷ at_start ∷ at_start ∷ [])
mixed_list_22 = refl

pub mixed_list_23 : played
    (ask 3 (codes "GHNP") (codes "STUD    " ∷ []) []
    ∷ ask 1 (codes "GN  ") [] []
    ∷ ask 3 (codes "DLET") [] []
    ∷ ask 3 (codes "REPL") (codes "STUD    " ∷ []) (codes "03YY")
    ∷ ask 1 (codes "DLET") (codes "BOOK    " ∷ []) []
    ∷ ask 3 (codes "ISRT") (codes "COURSE  *DF" ∷ codes "CLASS   " ∷ codes "STUD    *D" ∷ []) (codes "150CALCU01ZZCARL03")
    ∷ ask 3 (codes "ISRT") (codes "COURSE  *D" ∷ codes "BOOK    " ∷ []) (codes "150CALCUGAUSS")
    ∷ ask 3 (codes "GHNP") (codes "BOOK    *-" ∷ []) []
    ∷ [])
    ≡ ended (got AC 0 [] []
    ∷ got Blank 1 (codes "101") (codes "101ALGEB")
    ∷ got DJ 0 [] []
    ∷ got AC 0 [] []
    ∷ got DJ 0 [] []
    ∷ got AC 0 [] []
    ∷ got Blank 2 (codes "150") []
    ∷ got GP 0 [] []
    ∷ [])
    (of_type 1 (codes "101ALGEB") ∷ of_type 2 (codes "01AB") ∷ of_type 3 (codes "ADAM01") ∷ of_type 3 (codes "EVE 02") ∷ of_type 2 (codes "02CD") ∷ of_type 4 (codes "EULER") ∷ of_type 1 (codes "150CALCU") ∷ of_type 4 (codes "GAUSS") ∷ of_type 1 (codes "205LOGIC") ∷ [])
    (at_place 1 (Some 0) (Some (record { level = 1; code = 1 })) (Some 0) [] ∷ at_start ∷ at_place 8 (Some 7) (Some (record { level = 2; code = 4 })) (Some 7) [] ∷ [])
mixed_list_23 = refl

pub mixed_list_24 : played
    (ask 3 (codes "DLET") [] []
    ∷ ask 3 (codes "DLET") [] []
    ∷ ask 1 (codes "GHU ") (codes "COURSE  " ∷ codes "BOOK    " ∷ []) []
    ∷ ask 1 (codes "DLET") [] []
    ∷ [])
    ≡ ended (got DJ 0 [] []
    ∷ got DJ 0 [] []
    ∷ got Blank 2 (codes "101") (codes "EULER")
    ∷ got Blank 2 (codes "101") []
    ∷ [])
    (of_type 1 (codes "101ALGEB") ∷ of_type 2 (codes "01AB") ∷ of_type 3 (codes "ADAM01") ∷ of_type 3 (codes "EVE 02") ∷ of_type 2 (codes "02CD") ∷ of_type 1 (codes "205LOGIC") ∷ [])
    (at_place 5 (Some 0) (Some (record { level = 2; code = 4 })) None [] ∷ at_start ∷ at_start ∷ [])
mixed_list_24 = refl

pub mixed_list_25 : played
    (ask 1 (codes "GHNP") (codes "CLASS   *NL" ∷ codes "STUD    *F(SNAME    <ADAM)" ∷ []) []
    ∷ ask 1 (codes "GHNP") [] []
    ∷ ask 1 (codes "DLET") [] []
    ∷ ask 1 (codes "ISRT") (codes "CLASS   " ∷ []) (codes "02XX")
    ∷ ask 2 (codes "DLET") [] []
    ∷ ask 2 (codes "GX  ") (codes "STUD    *-(SNAME   EQADAM)" ∷ []) []
    ∷ ask 1 (codes "GN  ") [] []
    ∷ ask 1 (codes "GHU ") [] []
    ∷ [])
    ≡ ended (got GP 0 [] []
    ∷ got GP 0 [] []
    ∷ got DJ 0 [] []
    ∷ got GE 0 [] []
    ∷ got DJ 0 [] []
    ∷ got AD 0 [] []
    ∷ got Blank 1 (codes "101") (codes "101ALGEB")
    ∷ got Blank 1 (codes "101") (codes "101ALGEB")
    ∷ [])
    sample_rows
    (at_place 1 (Some 0) (Some (record { level = 1; code = 1 })) (Some 0) (0 ∷ []) ∷ at_start ∷ at_start ∷ [])
mixed_list_25 = refl

pub mixed_list_26 : played
    (ask 1 (codes "ISRT") (codes "COURSE  (NUM     EQ150)" ∷ codes "CLASS   *L-" ∷ []) (codes "03YY")
    ∷ ask 1 (codes "GHU ") [] []
    ∷ ask 2 (codes "ISRT") (codes "COURSE  (NUM     GE101|NUM      <300+NUM      >150)" ∷ codes "CLASS   " ∷ []) (codes "00ZZ")
    ∷ ask 1 (codes "GHN ") (codes "COURSE   " ∷ codes "BOOK    " ∷ []) []
    ∷ [])
    ≡ ended (got GE 0 [] []
    ∷ got Blank 1 (codes "101") (codes "101ALGEB")
    ∷ got Blank 2 (codes "10100") []
    ∷ got Blank 2 (codes "101") (codes "EULER")
    ∷ [])
    (of_type 1 (codes "101ALGEB") ∷ of_type 2 (codes "00ZZ") ∷ of_type 2 (codes "01AB") ∷ of_type 3 (codes "ADAM01") ∷ of_type 3 (codes "EVE 02") ∷ of_type 2 (codes "02CD") ∷ of_type 4 (codes "EULER") ∷ of_type 1 (codes "205LOGIC") ∷ [])
    (at_place 7 (Some 6) (Some (record { level = 2; code = 4 })) (Some 6) (6 ∷ []) ∷ at_place 2 (Some 1) (Some (record { level = 2; code = 2 })) (Some 1) [] ∷ at_start ∷ [])
mixed_list_26 = refl

pub mixed_list_27 : played
    (ask 1 (codes "DLET") [] []
    ∷ ask 3 (codes "GU  ") (codes "COURSE  " ∷ codes "CLASS   *DN(ED      NE01&ED      EQ09&ED      EQ09)" ∷ []) []
    ∷ ask 1 (codes "ISRT") (codes "COURSE  (NUM     <=101+NUM     = 300+NUM     = 101)" ∷ codes "CLASS   (ED      EQ09)" ∷ codes "STUD    *-" ∷ []) (codes "EVE 99")
    ∷ ask 2 (codes "REPL") (codes "COURSE  *N" ∷ []) (codes "NOETH")
    ∷ ask 2 (codes "GN  ") [] []
    ∷ ask 1 (codes "ISRT") (codes "COURSE  *-(NUM     EQ101)" ∷ codes "CLASS    " ∷ []) (codes "01ZZ")
    ∷ ask 3 (codes "ISRT") (codes "COURSE  " ∷ []) (codes "205LOGIC")
    ∷ ask 1 (codes "REPL") [] (codes "01ZZ")
    ∷ [])
    ≡ ended (got DJ 0 [] []
    ∷ got GE 0 [] []
    ∷ got GE 0 [] []
    ∷ got DJ 0 [] []
    ∷ got Blank 1 (codes "101") (codes "101ALGEB")
    ∷ got II 0 [] []
    ∷ got II 0 [] []
    ∷ got DJ 0 [] []
    ∷ [])
    sample_rows
    (at_start ∷ at_place 1 (Some 0) (Some (record { level = 1; code = 1 })) (Some 0) [] ∷ at_start ∷ [])
mixed_list_27 = refl

pub mixed_list_28 : played
    (ask 1 (codes "GNP ") (codes "CLASS   (ED      =<01)" ∷ codes "COURSE  " ∷ []) []
    ∷ ask 3 (codes "GN  ") [] []
    ∷ ask 1 (codes "DLET") [] []
    ∷ ask 1 (codes "GN  ") (codes "CLASS   *L" ∷ []) []
    ∷ ask 3 (codes "GHNP") (codes "COURSE  *LF" ∷ []) []
    ∷ ask 2 (codes "DLET") [] []
    ∷ ask 1 (codes "GHN ") (codes "COURSE  (NUM     EQ300)" ∷ codes "CLASS   " ∷ codes "STUD    *N" ∷ []) []
    ∷ ask 3 (codes "ISRT") (codes "COURSE  " ∷ []) (codes "101ALGEB")
    ∷ [])
    ≡ ended (got AC 0 [] []
    ∷ got Blank 1 (codes "101") (codes "101ALGEB")
    ∷ got DJ 0 [] []
    ∷ got Blank 2 (codes "10102") (codes "02CD")
    ∷ got GP 0 [] []
    ∷ got DJ 0 [] []
    ∷ got GE 0 [] []
    ∷ got II 0 [] []
    ∷ [])
    sample_rows
    (at_place 5 (Some 4) (Some (record { level = 2; code = 2 })) (Some 4) [] ∷ at_start ∷ at_place 1 (Some 0) (Some (record { level = 1; code = 1 })) (Some 0) [] ∷ [])
mixed_list_28 = refl

pub mixed_list_29 : played
    (ask 1 (codes "DLET") [] []
    ∷ ask 2 (codes "ISRT") (codes "COURSE  *DF" ∷ codes "BOOK    *D" ∷ []) (codes "101ALGEBNOETH")
    ∷ ask 1 (codes "GU  ") (codes "COURSE  *D(NUM     EQ150)" ∷ []) []
    ∷ ask 1 (codes "GN  ") [] []
    ∷ [])
    ≡ ended (got DJ 0 [] []
    ∷ got II 0 [] []
    ∷ got GE 0 [] []
    ∷ got Blank 1 (codes "101") (codes "101ALGEB")
    ∷ [])
    sample_rows
    (at_place 1 (Some 0) (Some (record { level = 1; code = 1 })) (Some 0) [] ∷ at_start ∷ at_start ∷ [])
mixed_list_29 = refl

pub mixed_list_30 : played
    (ask 1 (codes "GNP ") (codes "CLASS   (ED      EQ00)" ∷ []) []
    ∷ ask 1 (codes "GN  ") (codes "COURSE  " ∷ codes "CLASS   *FF(ED      GE00)" ∷ codes "class   " ∷ []) []
    ∷ ask 3 (codes "GU  ") (codes "COURSE  *L(NUM     EQ101)" ∷ codes "CLASS   *LD(ED      LE02)" ∷ []) []
    ∷ ask 1 (codes "REPL") [] (codes "03YY")
    ∷ [])
    ≡ ended (got GP 0 [] []
    ∷ got AJ 0 [] []
    ∷ got Blank 2 (codes "10102") (codes "02CD")
    ∷ got DJ 0 [] []
    ∷ [])
    sample_rows
    (at_start ∷ at_start ∷ at_place 5 (Some 4) (Some (record { level = 2; code = 2 })) (Some 4) [] ∷ [])
mixed_list_30 = refl

pub mixed_list_31 : played
    (ask 1 (codes "DLET") [] []
    ∷ ask 2 (codes "GHU ") [] []
    ∷ ask 3 (codes "GHNP") [] []
    ∷ ask 3 (codes "ISRT") (codes "COURSE  *F" ∷ []) (codes "205LOGIC")
    ∷ [])
    ≡ ended (got DJ 0 [] []
    ∷ got Blank 1 (codes "101") (codes "101ALGEB")
    ∷ got GP 0 [] []
    ∷ got II 0 [] []
    ∷ [])
    sample_rows
    (at_start ∷ at_place 1 (Some 0) (Some (record { level = 1; code = 1 })) (Some 0) (0 ∷ []) ∷ at_start ∷ [])
mixed_list_31 = refl

pub mixed_list_32 : played
    (ask 1 (codes "GHN ") (codes "COURSE  *L " ∷ codes "CLASS    " ∷ codes "STUD    (SNAME   EQEVE *SNAME   EQABEL)" ∷ []) []
    ∷ ask 1 (codes "DLET") [] []
    ∷ ask 1 (codes "GHU ") (codes "COURSE  " ∷ codes "BOOK    " ∷ []) []
    ∷ ask 2 (codes "GN  ") (codes "COURSE  (NUM     EQ300+NUM     EQ101)" ∷ codes "CLASS    " ∷ codes "STUD    " ∷ []) []
    ∷ [])
    ≡ ended (got GE 0 [] []
    ∷ got DJ 0 [] []
    ∷ got Blank 2 (codes "101") (codes "EULER")
    ∷ got Blank 3 (codes "10101ADAM") (codes "ADAM01")
    ∷ [])
    sample_rows
    (at_place 6 (Some 5) (Some (record { level = 2; code = 4 })) (Some 5) (5 ∷ []) ∷ at_place 3 (Some 2) (Some (record { level = 3; code = 3 })) (Some 2) [] ∷ at_start ∷ [])
mixed_list_32 = refl

pub mixed_list_33 : played
    (ask 1 (codes "GHU ") (codes "COURSE  (NUM     EQ300)" ∷ []) []
    ∷ ask 2 (codes "REPL") [] (codes "205LOGIC")
    ∷ ask 1 (codes "GHU ") (codes "BOOK    *F" ∷ []) []
    ∷ ask 1 (codes "ISRT") (codes "COURSE  *--(NUM     =<300&NUM     EQ300)" ∷ codes "CLASS   X" ∷ []) (codes "03YY")
    ∷ ask 3 (codes "ISRT") (codes "CLASS   " ∷ []) (codes "03YY")
    ∷ ask 1 (codes "DLET") (codes "CLASS   " ∷ []) []
    ∷ ask 2 (codes "DLET") [] []
    ∷ ask 2 (codes "GN  ") (codes "COURSE  *ND(NUM     EQ150)" ∷ []) []
    ∷ [])
    ≡ ended (got GE 0 [] []
    ∷ got DJ 0 [] []
    ∷ got Blank 2 (codes "101") (codes "EULER")
    ∷ got AJ 0 [] []
    ∷ got GE 0 [] []
    ∷ got DJ 0 [] []
    ∷ got DJ 0 [] []
    ∷ got GE 0 [] []
    ∷ [])
    sample_rows
    (at_place 6 (Some 5) (Some (record { level = 2; code = 4 })) (Some 5) [] ∷ at_start ∷ at_start ∷ [])
mixed_list_33 = refl

pub mixed_list_34 : played
    (ask 2 (codes "GHN ") [] []
    ∷ ask 2 (codes "GHN ") (codes "COURSE  (NUM     EQ150)" ∷ codes "BOOK    " ∷ []) []
    ∷ ask 1 (codes "GHNP") (codes "COURSE  (NUM     >=300)" ∷ codes "CLASS   *-(ED      LE09)" ∷ []) []
    ∷ ask 2 (codes "GHU ") (codes "STUD    " ∷ []) []
    ∷ ask 1 (codes "GNP ") [] []
    ∷ ask 3 (codes "DLET") [] []
    ∷ [])
    ≡ ended (got Blank 1 (codes "101") (codes "101ALGEB")
    ∷ got GE 0 [] []
    ∷ got GP 0 [] []
    ∷ got Blank 3 (codes "10101ADAM") (codes "ADAM01")
    ∷ got GP 0 [] []
    ∷ got DJ 0 [] []
    ∷ [])
    sample_rows
    (at_start ∷ at_place 3 (Some 2) (Some (record { level = 3; code = 3 })) (Some 2) (2 ∷ []) ∷ at_start ∷ [])
mixed_list_34 = refl

pub mixed_list_35 : played
    (ask 2 (codes "GN  ") (codes "STUD    *L(SNAME   EQCARL)" ∷ []) []
    ∷ ask 1 (codes "REPL") [] (codes "205LOGIC")
    ∷ ask 2 (codes "GN  ") (codes "COURSE  " ∷ []) []
    ∷ ask 1 (codes "DLET") [] []
    ∷ ask 3 (codes "GHU ") [] []
    ∷ ask 1 (codes "GHN ") [] []
    ∷ ask 1 (codes "GHN ") (codes "CLASS   " ∷ []) []
    ∷ ask 1 (codes "REPL") [] (codes "01AY")
    ∷ [])
    ≡ ended (got GE 0 [] []
    ∷ got DJ 0 [] []
    ∷ got Blank 1 (codes "101") (codes "101ALGEB")
    ∷ got DJ 0 [] []
    ∷ got Blank 1 (codes "101") (codes "101ALGEB")
    ∷ got Blank 1 (codes "101") (codes "101ALGEB")
    ∷ got Blank 2 (codes "10101") (codes "01AB")
    ∷ got Blank 2 (codes "10101") []
    ∷ [])
    (of_type 1 (codes "101ALGEB") ∷ of_type 2 (codes "01AY") ∷ of_type 3 (codes "ADAM01") ∷ of_type 3 (codes "EVE 02") ∷ of_type 2 (codes "02CD") ∷ of_type 4 (codes "EULER") ∷ of_type 1 (codes "205LOGIC") ∷ [])
    (at_place 2 (Some 1) (Some (record { level = 2; code = 2 })) (Some 1) [] ∷ at_place 1 (Some 0) (Some (record { level = 1; code = 1 })) (Some 0) [] ∷ at_place 1 (Some 0) (Some (record { level = 1; code = 1 })) (Some 0) (0 ∷ []) ∷ [])
mixed_list_35 = refl

pub mixed_list_36 : played
    (ask 2 (codes "GHNP") (codes "COURSE  (NUM     EQ101)" ∷ codes "CLASS   *D(ED      EQ02|ED      EQ00)" ∷ []) []
    ∷ ask 3 (codes "ISRT") [] (codes "101ALGEB02XXADAM01")
    ∷ ask 1 (codes "ISRT") (codes "COURSE  (NUM     EQ150)" ∷ codes "CLASS   *D" ∷ codes "STUD    " ∷ []) (codes "03YYEVE 99")
    ∷ ask 1 (codes "ISRT") (codes "COURSE  *D" ∷ codes "CLASS   " ∷ []) (codes "205LOGIC02XX")
    ∷ [])
    ≡ ended (got GP 0 [] []
    ∷ got AH 0 [] []
    ∷ got GE 0 [] []
    ∷ got II 0 [] []
    ∷ [])
    sample_rows
    (at_start ∷ at_start ∷ at_start ∷ [])
mixed_list_36 = refl

pub mixed_list_37 : played
    (ask 2 (codes "GHNP") (codes "COURSE  (NUM     <=300)" ∷ []) []
    ∷ ask 2 (codes "GN  ") (codes "BOOK    *D" ∷ []) []
    ∷ ask 3 (codes "DLET") (codes "CLASS   " ∷ []) []
    ∷ ask 1 (codes "GN  ") [] []
    ∷ ask 3 (codes "GHU ") [] []
    ∷ ask 1 (codes "GNP ") [] []
    ∷ [])
    ≡ ended (got GP 0 [] []
    ∷ got Blank 2 (codes "101") (codes "EULER")
    ∷ got DJ 0 [] []
    ∷ got Blank 1 (codes "101") (codes "101ALGEB")
    ∷ got Blank 1 (codes "101") (codes "101ALGEB")
    ∷ got Blank 2 (codes "10101") (codes "01AB")
    ∷ [])
    sample_rows
    (at_place 2 (Some 1) (Some (record { level = 2; code = 2 })) (Some 0) [] ∷ at_place 6 (Some 5) (Some (record { level = 2; code = 4 })) (Some 5) [] ∷ at_place 1 (Some 0) (Some (record { level = 1; code = 1 })) (Some 0) (0 ∷ []) ∷ [])
mixed_list_37 = refl

pub mixed_list_38 : played
    (ask 1 (codes "GU  ") (codes "CLASS   " ∷ codes "STUD    " ∷ []) []
    ∷ ask 2 (codes "GHNP") [] []
    ∷ ask 1 (codes "GU  ") [] []
    ∷ ask 3 (codes "GHU ") (codes "COURSE  *FN" ∷ []) []
    ∷ ask 1 (codes "REPL") (codes "CLASS   *L" ∷ []) (codes "ADAM01")
    ∷ ask 3 (codes "GN  ") (codes "COURSE  " ∷ codes "CLASS   *F(ED      EQ02|ED      LE00)" ∷ codes "STUD    (SNAME   EQEVE )" ∷ []) []
    ∷ [])
    ≡ ended (got Blank 3 (codes "10101ADAM") (codes "ADAM01")
    ∷ got GP 0 [] []
    ∷ got Blank 1 (codes "101") (codes "101ALGEB")
    ∷ got Blank 1 (codes "101") (codes "101ALGEB")
    ∷ got DJ 0 [] []
    ∷ got AC 0 [] []
    ∷ [])
    sample_rows
    (at_place 1 (Some 0) (Some (record { level = 1; code = 1 })) (Some 0) [] ∷ at_start ∷ at_place 1 (Some 0) (Some (record { level = 1; code = 1 })) (Some 0) [] ∷ [])
mixed_list_38 = refl

pub mixed_list_39 : played
    (ask 1 (codes "REPL") (codes "COURSE  " ∷ []) (codes "101ALGEB")
    ∷ ask 1 (codes "GHN ") (codes "COURSE  " ∷ codes "CLASS   *F(ED      EQ01+ED      EQ02&ED      EQ01)" ∷ []) []
    ∷ ask 2 (codes "GX  ") (codes "COURSE  *LN" ∷ []) []
    ∷ ask 1 (codes "ISRT") (codes "COURSE  " ∷ []) (codes "300GRAPH")
    ∷ ask 1 (codes "DLET") [] []
    ∷ ask 1 (codes "REPL") [] (codes "205LOGIC")
    ∷ ask 1 (codes "DLET") (codes "BOOK    " ∷ []) []
    ∷ ask 1 (codes "REPL") (codes "STUD    " ∷ []) (codes "ABEL09")
    ∷ [])
    ≡ ended (got DJ 0 [] []
    ∷ got Blank 2 (codes "10101") (codes "01AB")
    ∷ got AD 0 [] []
    ∷ got Blank 1 (codes "300") []
    ∷ got DJ 0 [] []
    ∷ got DJ 0 [] []
    ∷ got DJ 0 [] []
    ∷ got DJ 0 [] []
    ∷ [])
    (of_type 1 (codes "101ALGEB") ∷ of_type 2 (codes "01AB") ∷ of_type 3 (codes "ADAM01") ∷ of_type 3 (codes "EVE 02") ∷ of_type 2 (codes "02CD") ∷ of_type 4 (codes "EULER") ∷ of_type 1 (codes "205LOGIC") ∷ of_type 1 (codes "300GRAPH") ∷ [])
    (at_place 8 (Some 7) (Some (record { level = 1; code = 1 })) (Some 7) [] ∷ at_start ∷ at_start ∷ [])
mixed_list_39 = refl

pub mixed_list_40 : played
    (ask 1 (codes "GHU ") [] []
    ∷ ask 1 (codes "GU  ") (codes "COURSE  *D-(NUM     =<300)" ∷ codes "CLASS   *N(ED       >02)" ∷ codes "STUD    *N" ∷ []) []
    ∷ ask 1 (codes "DLET") [] []
    ∷ ask 1 (codes "GN  ") [] []
    ∷ ask 2 (codes "GHU ") [] []
    ∷ ask 2 (codes "GHU ") [] []
    ∷ [])
    ≡ ended (got Blank 1 (codes "101") (codes "101ALGEB")
    ∷ got GE 0 [] []
    ∷ got DJ 0 [] []
    ∷ got Blank 2 (codes "10101") (codes "01AB")
    ∷ got Blank 1 (codes "101") (codes "101ALGEB")
    ∷ got Blank 1 (codes "101") (codes "101ALGEB")
    ∷ [])
    sample_rows
    (at_place 2 (Some 1) (Some (record { level = 2; code = 2 })) (Some 1) [] ∷ at_place 1 (Some 0) (Some (record { level = 1; code = 1 })) (Some 0) (0 ∷ []) ∷ at_start ∷ [])
mixed_list_40 = refl

pub mixed_list_41 : played
    (ask 1 (codes "ISRT") (codes "BOOK    " ∷ []) (codes "HILBE")
    ∷ ask 1 (codes "GN  ") (codes "STUD    *- " ∷ []) []
    ∷ ask 1 (codes "ISRT") (codes "CLASS   *-(ED      >=01&ED      EQ09)" ∷ codes "STUD     " ∷ []) (codes "ABEL09")
    ∷ ask 1 (codes "GNP ") (codes "CLASS   " ∷ []) []
    ∷ [])
    ≡ ended (got GE 0 [] []
    ∷ got Blank 3 (codes "10101ADAM") (codes "ADAM01")
    ∷ got GE 0 [] []
    ∷ got GP 0 [] []
    ∷ [])
    sample_rows
    (at_place 3 (Some 2) (Some (record { level = 3; code = 3 })) (Some 2) [] ∷ at_start ∷ at_start ∷ [])
mixed_list_41 = refl

pub mixed_list_42 : played
    (ask 1 (codes "ISRT") (codes "COURSE  (NUM     EQ150&NUM     = 150)" ∷ codes "CLASS   " ∷ []) (codes "00ZZ")
    ∷ ask 3 (codes "GNP ") (codes "CLASS   *N" ∷ []) []
    ∷ ask 2 (codes "REPL") [] (codes "EVE 99")
    ∷ ask 2 (codes "GN  ") [] []
    ∷ ask 1 (codes "GU  ") (codes "BOOK    *-N" ∷ []) []
    ∷ ask 3 (codes "GN  ") (codes "COURSE  " ∷ codes "CLASS   (ED       =01*ED      EQ09+ED      < 02)" ∷ []) []
    ∷ ask 1 (codes "ISRT") (codes "STUD    " ∷ []) (codes "EVE 99")
    ∷ ask 3 (codes "DLET") (codes "CLASS   " ∷ []) []
    ∷ [])
    ≡ ended (got GE 0 [] []
    ∷ got GP 0 [] []
    ∷ got DJ 0 [] []
    ∷ got Blank 1 (codes "101") (codes "101ALGEB")
    ∷ got Blank 2 (codes "101") (codes "EULER")
    ∷ got Blank 2 (codes "10101") (codes "01AB")
    ∷ got GE 0 [] []
    ∷ got DJ 0 [] []
    ∷ [])
    sample_rows
    (at_place 6 (Some 5) (Some (record { level = 2; code = 4 })) (Some 5) [] ∷ at_place 1 (Some 0) (Some (record { level = 1; code = 1 })) (Some 0) [] ∷ at_place 2 (Some 1) (Some (record { level = 2; code = 2 })) (Some 1) [] ∷ [])
mixed_list_42 = refl

pub mixed_list_43 : played
    (ask 2 (codes "GN  ") (codes "CLASS   (ED      EQ01)" ∷ []) []
    ∷ ask 1 (codes "GHU ") (codes "COURSE  " ∷ []) []
    ∷ ask 1 (codes "GHU ") (codes "COURSE  *-(NUM     =<101)" ∷ []) []
    ∷ ask 1 (codes "DLET") [] []
    ∷ [])
    ≡ ended (got Blank 2 (codes "10101") (codes "01AB")
    ∷ got Blank 1 (codes "101") (codes "101ALGEB")
    ∷ got Blank 1 (codes "101") (codes "101ALGEB")
    ∷ got Blank 1 (codes "101") []
    ∷ [])
    (of_type 1 (codes "205LOGIC") ∷ [])
    (at_place 0 None (Some (record { level = 1; code = 1 })) None [] ∷ at_place 0 None (Some (record { level = 2; code = 2 })) None [] ∷ at_start ∷ [])
mixed_list_43 = refl

pub mixed_list_44 : played
    (ask 2 (codes "REPL") [] (codes "00ZZ")
    ∷ ask 1 (codes "DLET") [] []
    ∷ ask 1 (codes "ISRT") (codes "COURSE  *DF" ∷ codes "CLASS   " ∷ []) (codes "205LOGIC00ZZ")
    ∷ ask 1 (codes "GN  ") (codes "COURSE  *L(NUM     EQ101)" ∷ []) []
    ∷ [])
    ≡ ended (got DJ 0 [] []
    ∷ got DJ 0 [] []
    ∷ got II 0 [] []
    ∷ got Blank 1 (codes "101") (codes "101ALGEB")
    ∷ [])
    sample_rows
    (at_place 1 (Some 0) (Some (record { level = 1; code = 1 })) (Some 0) [] ∷ at_start ∷ at_start ∷ [])
mixed_list_44 = refl

pub mixed_list_45 : played
    (ask 2 (codes "GN  ") [] []
    ∷ ask 1 (codes "GHNP") (codes "COURSE  (NUM      <101)" ∷ codes "STUD    *-" ∷ []) []
    ∷ ask 1 (codes "GN  ") [] []
    ∷ ask 1 (codes "DLET") (codes "BOOK    " ∷ []) []
    ∷ ask 1 (codes "GHU ") (codes "COURSE  " ∷ codes "CLASS   (ED      =<00)" ∷ []) []
    ∷ ask 1 (codes "ISRT") [] (codes "101ALGEB")
    ∷ [])
    ≡ ended (got Blank 1 (codes "101") (codes "101ALGEB")
    ∷ got GP 0 [] []
    ∷ got Blank 1 (codes "101") (codes "101ALGEB")
    ∷ got DJ 0 [] []
    ∷ got GE 0 [] []
    ∷ got AH 0 [] []
    ∷ [])
    sample_rows
    (at_place 1 (Some 0) (Some (record { level = 1; code = 1 })) (Some 0) [] ∷ at_place 1 (Some 0) (Some (record { level = 1; code = 1 })) (Some 0) [] ∷ at_start ∷ [])
mixed_list_45 = refl

pub mixed_list_46 : played
    (ask 2 (codes "REPL") [] (codes "ADAM01")
    ∷ ask 1 (codes "ISRT") (codes "COURSE  *D" ∷ codes "CLASS   *D" ∷ []) (codes "150CALCU03YY")
    ∷ ask 1 (codes "REPL") [] (codes "205LOGIC")
    ∷ ask 2 (codes "ISRT") (codes "COURSE  *DF" ∷ codes "CLASS   " ∷ codes "STUD    *D" ∷ []) (codes "150CALCU00ZZADAM01")
    ∷ ask 3 (codes "GHN ") [] []
    ∷ ask 1 (codes "ISRT") (codes "COURSE   " ∷ []) (codes "150CALCU")
    ∷ [])
    ≡ ended (got DJ 0 [] []
    ∷ got Blank 2 (codes "15003") []
    ∷ got DJ 0 [] []
    ∷ got II 0 [] []
    ∷ got Blank 1 (codes "101") (codes "101ALGEB")
    ∷ got II 0 [] []
    ∷ [])
    (of_type 1 (codes "101ALGEB") ∷ of_type 2 (codes "01AB") ∷ of_type 3 (codes "ADAM01") ∷ of_type 3 (codes "EVE 02") ∷ of_type 2 (codes "02CD") ∷ of_type 4 (codes "EULER") ∷ of_type 1 (codes "150CALCU") ∷ of_type 2 (codes "03YY") ∷ of_type 1 (codes "205LOGIC") ∷ [])
    (at_place 8 (Some 7) (Some (record { level = 2; code = 2 })) (Some 7) [] ∷ at_start ∷ at_place 1 (Some 0) (Some (record { level = 1; code = 1 })) (Some 0) (0 ∷ []) ∷ [])
mixed_list_46 = refl

pub mixed_list_47 : played
    (ask 1 (codes "GHN ") (codes "COURSE  (NUM     GT300)" ∷ []) []
    ∷ ask 1 (codes "ISRT") (codes "COURSE  " ∷ []) (codes "101ALGEB")
    ∷ ask 1 (codes "GHU ") [] []
    ∷ ask 3 (codes "GNP ") (codes "COURSE  " ∷ codes "BOOK    *F" ∷ []) []
    ∷ [])
    ≡ ended (got GE 0 [] []
    ∷ got II 0 [] []
    ∷ got Blank 1 (codes "101") (codes "101ALGEB")
    ∷ got GP 0 [] []
    ∷ [])
    sample_rows
    (at_place 1 (Some 0) (Some (record { level = 1; code = 1 })) (Some 0) (0 ∷ []) ∷ at_start ∷ at_start ∷ [])
mixed_list_47 = refl

pub mixed_list_48 : played
    (ask 2 (codes "GHNP") (codes "STUD    " ∷ []) []
    ∷ ask 2 (codes "GHN ") [] []
    ∷ ask 2 (codes "ISRT") (codes "COURSE  (NUM     EQ150)" ∷ []) (codes "150CALC")
    ∷ ask 3 (codes "REPL") [] (codes "02XX")
    ∷ ask 1 (codes "ISRT") (codes "COURSE  " ∷ codes "CLASS   *DF" ∷ codes "STUD    *D" ∷ []) (codes "02XXEVE 99")
    ∷ ask 1 (codes "GU  ") (codes "COURSE  *NF(NUM     GT205*NUM     EQ150)" ∷ codes "BOOK    " ∷ []) []
    ∷ ask 3 (codes "GHN ") (codes "COURSE  *L " ∷ []) []
    ∷ ask 1 (codes "GHU ") [] []
    ∷ [])
    ≡ ended (got GP 0 [] []
    ∷ got Blank 1 (codes "101") (codes "101ALGEB")
    ∷ got AJ 0 [] []
    ∷ got DJ 0 [] []
    ∷ got II 0 [] []
    ∷ got GE 0 [] []
    ∷ got Blank 1 (codes "101") (codes "101ALGEB")
    ∷ got Blank 1 (codes "101") (codes "101ALGEB")
    ∷ [])
    sample_rows
    (at_place 1 (Some 0) (Some (record { level = 1; code = 1 })) (Some 0) (0 ∷ []) ∷ at_place 1 (Some 0) (Some (record { level = 1; code = 1 })) (Some 0) [] ∷ at_place 1 (Some 0) (Some (record { level = 1; code = 1 })) (Some 0) (0 ∷ []) ∷ [])
mixed_list_48 = refl

pub mixed_list_49 : played
    (ask 3 (codes "REPL") [] (codes "03YY")
    ∷ ask 1 (codes "GHU ") (codes "COURSE   " ∷ []) []
    ∷ ask 2 (codes "DLET") [] []
    ∷ ask 1 (codes "GU  ") [] []
    ∷ ask 1 (codes "GU  ") (codes "BOOK    *-" ∷ []) []
    ∷ ask 1 (codes "GHU ") (codes "COURSE  (NUM     EQ150)" ∷ codes "CLASS   *F" ∷ []) []
    ∷ [])
    ≡ ended (got DJ 0 [] []
    ∷ got Blank 1 (codes "101") (codes "101ALGEB")
    ∷ got DJ 0 [] []
    ∷ got Blank 1 (codes "101") (codes "101ALGEB")
    ∷ got Blank 2 (codes "101") (codes "EULER")
    ∷ got GE 0 [] []
    ∷ [])
    sample_rows
    (at_place 6 (Some 5) (Some (record { level = 2; code = 4 })) (Some 5) [] ∷ at_start ∷ at_start ∷ [])
mixed_list_49 = refl

pub mixed_list_50 : played
    (ask 2 (codes "GHNP") [] []
    ∷ ask 1 (codes "GHU ") (codes "CLASS   " ∷ []) []
    ∷ ask 3 (codes "ISRT") (codes "COURSE  *D" ∷ codes "BOOK    " ∷ []) (codes "300GRAPHNOETH")
    ∷ ask 2 (codes "GHU ") (codes "COURSE  *DL" ∷ codes "CLASS   " ∷ []) []
    ∷ ask 3 (codes "REPL") (codes "COURSE  *N" ∷ []) (codes "HILBE")
    ∷ ask 1 (codes "GU  ") (codes "COURSE  (NUM      >101)" ∷ codes "BOOK    " ∷ []) []
    ∷ ask 2 (codes "ISRT") (codes "CLASS  " ∷ []) (codes "02XX")
    ∷ ask 2 (codes "GHU ") (codes "COURSE  *L(NUM     EQ300)" ∷ []) []
    ∷ [])
    ≡ ended (got GP 0 [] []
    ∷ got Blank 2 (codes "10101") (codes "01AB")
    ∷ got Blank 2 (codes "300") []
    ∷ got AM 0 [] []
    ∷ got DJ 0 [] []
    ∷ got Blank 2 (codes "300") (codes "NOETH")
    ∷ got AJ 0 [] []
    ∷ got Blank 1 (codes "300") (codes "300GRAPH")
    ∷ [])
    (of_type 1 (codes "101ALGEB") ∷ of_type 2 (codes "01AB") ∷ of_type 3 (codes "ADAM01") ∷ of_type 3 (codes "EVE 02") ∷ of_type 2 (codes "02CD") ∷ of_type 4 (codes "EULER") ∷ of_type 1 (codes "205LOGIC") ∷ of_type 1 (codes "300GRAPH") ∷ of_type 4 (codes "NOETH") ∷ [])
    (at_place 9 (Some 8) (Some (record { level = 2; code = 4 })) (Some 8) [] ∷ at_place 8 (Some 7) (Some (record { level = 1; code = 1 })) (Some 7) (7 ∷ []) ∷ at_place 9 (Some 8) (Some (record { level = 2; code = 4 })) (Some 8) [] ∷ [])
mixed_list_50 = refl

pub mixed_list_51 : played
    (ask 1 (codes "GNP ") (codes "CLASS   (ED      EQ00)" ∷ []) []
    ∷ ask 1 (codes "DLET") [] []
    ∷ ask 3 (codes "GHU ") (codes "CLASS   *N " ∷ []) []
    ∷ ask 1 (codes "GHNP") (codes "CLASS   (ED      EQ02)" ∷ []) []
    ∷ ask 1 (codes "GU  ") [] []
    ∷ ask 2 (codes "GHNP") (codes "COURSE  (NUM     EQ300&NUM     EQ205&NUM     EQ205)" ∷ codes "BOOK    " ∷ []) []
    ∷ [])
    ≡ ended (got GP 0 [] []
    ∷ got DJ 0 [] []
    ∷ got Blank 2 (codes "10101") (codes "01AB")
    ∷ got GP 0 [] []
    ∷ got Blank 1 (codes "101") (codes "101ALGEB")
    ∷ got GP 0 [] []
    ∷ [])
    sample_rows
    (at_place 1 (Some 0) (Some (record { level = 1; code = 1 })) (Some 0) [] ∷ at_start ∷ at_place 2 (Some 1) (Some (record { level = 2; code = 2 })) (Some 1) (1 ∷ []) ∷ [])
mixed_list_51 = refl

pub mixed_list_52 : played
    (ask 1 (codes "GHU ") [] []
    ∷ ask 1 (codes "GN  ") [] []
    ∷ ask 2 (codes "REPL") (codes "CLASS   *NF" ∷ []) (codes "02XX")
    ∷ ask 2 (codes "GHU ") (codes "COURSE  (NUM      >150+NUM     EQ101|NUM     =<101)" ∷ []) []
    ∷ ask 2 (codes "GHNP") [] []
    ∷ ask 3 (codes "GN  ") (codes "COURSE  *D" ∷ codes "CLASS   (ED      =<02)" ∷ []) []
    ∷ ask 1 (codes "GN  ") (codes "COURSE " ∷ []) []
    ∷ ask 1 (codes "ISRT") (codes "COURSE  " ∷ []) (codes "150CALCU")
    ∷ [])
    ≡ ended (got Blank 1 (codes "101") (codes "101ALGEB")
    ∷ got Blank 2 (codes "10101") (codes "01AB")
    ∷ got DJ 0 [] []
    ∷ got Blank 1 (codes "101") (codes "101ALGEB")
    ∷ got Blank 2 (codes "10101") (codes "01AB")
    ∷ got AM 0 [] []
    ∷ got AJ 0 [] []
    ∷ got Blank 1 (codes "150") []
    ∷ [])
    (of_type 1 (codes "101ALGEB") ∷ of_type 2 (codes "01AB") ∷ of_type 3 (codes "ADAM01") ∷ of_type 3 (codes "EVE 02") ∷ of_type 2 (codes "02CD") ∷ of_type 4 (codes "EULER") ∷ of_type 1 (codes "150CALCU") ∷ of_type 1 (codes "205LOGIC") ∷ [])
    (at_place 7 (Some 6) (Some (record { level = 1; code = 1 })) (Some 6) [] ∷ at_place 2 (Some 1) (Some (record { level = 2; code = 2 })) (Some 0) (1 ∷ []) ∷ at_start ∷ [])
mixed_list_52 = refl

pub mixed_list_53 : played
    (ask 1 (codes "REPL") [] (codes "NOETH")
    ∷ ask 3 (codes "GN  ") [] []
    ∷ ask 1 (codes "GN  ") (codes "BOOK    *FN " ∷ []) []
    ∷ ask 1 (codes "REPL") [] (codes "ABEL09")
    ∷ ask 3 (codes "GN  ") (codes "BOOK    *N-" ∷ []) []
    ∷ ask 2 (codes "GN  ") [] []
    ∷ ask 1 (codes "GNP ") [] []
    ∷ ask 3 (codes "GHU ") (codes "COURSE  *N(NUM     LT300)" ∷ codes "BOOK    " ∷ []) []
    ∷ [])
    ≡ ended (got DJ 0 [] []
    ∷ got Blank 1 (codes "101") (codes "101ALGEB")
    ∷ got Blank 2 (codes "101") (codes "EULER")
    ∷ got DJ 0 [] []
    ∷ got Blank 2 (codes "101") (codes "EULER")
    ∷ got Blank 1 (codes "101") (codes "101ALGEB")
    ∷ got GE 0 [] []
    ∷ got Blank 2 (codes "101") (codes "EULER")
    ∷ [])
    sample_rows
    (at_place 6 (Some 5) (Some (record { level = 2; code = 4 })) (Some 5) [] ∷ at_place 1 (Some 0) (Some (record { level = 1; code = 1 })) (Some 0) [] ∷ at_place 6 (Some 5) (Some (record { level = 2; code = 4 })) (Some 5) (5 ∷ []) ∷ [])
mixed_list_53 = refl

pub mixed_list_54 : played
    (ask 2 (codes "DLET") (codes "BOOK    " ∷ []) []
    ∷ ask 3 (codes "GHNP") (codes "COURSE  *LN(NUM     EQ150|NUM     EQ150)" ∷ []) []
    ∷ ask 2 (codes "GN  ") (codes "COURSE  (NUM     =<101+NUM     EQ101|NUM     EQ150)" ∷ codes "CLASS   *L" ∷ codes "STUD    (SNAME   NEEVE )" ∷ []) []
    ∷ ask 1 (codes "GU  ") [] []
    ∷ ask 2 (codes "GHU ") [] []
    ∷ ask 1 (codes "GU  ") (codes "BOOK    " ∷ []) []
    ∷ ask 2 (codes "GHNP") (codes "COURSE  *D- " ∷ []) []
    ∷ ask 2 (codes "REPL") [] (codes "01ZZ")
    ∷ [])
    ≡ ended (got DJ 0 [] []
    ∷ got GP 0 [] []
    ∷ got GE 0 [] []
    ∷ got Blank 1 (codes "101") (codes "101ALGEB")
    ∷ got Blank 1 (codes "101") (codes "101ALGEB")
    ∷ got Blank 2 (codes "101") (codes "EULER")
    ∷ got GP 0 [] []
    ∷ got DJ 0 [] []
    ∷ [])
    sample_rows
    (at_place 6 (Some 5) (Some (record { level = 2; code = 4 })) (Some 5) [] ∷ at_place 1 (Some 0) (Some (record { level = 1; code = 1 })) (Some 0) [] ∷ at_start ∷ [])
mixed_list_54 = refl

pub mixed_list_55 : played
    (ask 1 (codes "GN  ") (codes "COURSE  " ∷ codes "STUD    (SNAME   EQABEL|SNAME   GECARL+SNAME   EQCARL)" ∷ []) []
    ∷ ask 1 (codes "GX  ") (codes "COURSE  " ∷ codes "CLASS   (ED      NE09)" ∷ codes "STUD    *F- " ∷ []) []
    ∷ ask 1 (codes "GN  ") [] []
    ∷ ask 1 (codes "GHNP") (codes "COURSE  " ∷ codes "BOOK    *- " ∷ []) []
    ∷ [])
    ≡ ended (got Blank 3 (codes "10101EVE ") (codes "EVE 02")
    ∷ got AD 0 [] []
    ∷ got GA 2 (codes "10102") (codes "02CD")
    ∷ got GP 0 [] []
    ∷ [])
    sample_rows
    (at_place 5 (Some 4) (Some (record { level = 2; code = 2 })) (Some 4) [] ∷ at_start ∷ at_start ∷ [])
mixed_list_55 = refl

pub mixed_list_56 : played
    (ask 2 (codes "ISRT") (codes "STUD    " ∷ []) (codes "CARL03")
    ∷ ask 3 (codes "GHN ") [] []
    ∷ ask 1 (codes "GN  ") [] []
    ∷ ask 2 (codes "GN  ") (codes "COURSE  *L(NUM      <300)" ∷ []) []
    ∷ [])
    ≡ ended (got GE 0 [] []
    ∷ got Blank 1 (codes "101") (codes "101ALGEB")
    ∷ got Blank 1 (codes "101") (codes "101ALGEB")
    ∷ got Blank 1 (codes "101") (codes "101ALGEB")
    ∷ [])
    sample_rows
    (at_place 1 (Some 0) (Some (record { level = 1; code = 1 })) (Some 0) [] ∷ at_place 1 (Some 0) (Some (record { level = 1; code = 1 })) (Some 0) [] ∷ at_place 1 (Some 0) (Some (record { level = 1; code = 1 })) (Some 0) (0 ∷ []) ∷ [])
mixed_list_56 = refl

pub mixed_list_57 : played
    (ask 1 (codes "GNP ") (codes "CLASS   " ∷ codes "STUD    (SNAME   EQCARL&SNAME   =>ABEL)" ∷ []) []
    ∷ ask 2 (codes "GHU ") [] []
    ∷ ask 1 (codes "REPL") (codes "COURSE  *N" ∷ []) (codes "101ALGEB")
    ∷ ask 1 (codes "GU  ") (codes "COURSE  " ∷ codes "CLASS   " ∷ []) []
    ∷ [])
    ≡ ended (got GP 0 [] []
    ∷ got Blank 1 (codes "101") (codes "101ALGEB")
    ∷ got DJ 0 [] []
    ∷ got Blank 2 (codes "10101") (codes "01AB")
    ∷ [])
    sample_rows
    (at_place 2 (Some 1) (Some (record { level = 2; code = 2 })) (Some 1) [] ∷ at_place 1 (Some 0) (Some (record { level = 1; code = 1 })) (Some 0) (0 ∷ []) ∷ at_start ∷ [])
mixed_list_57 = refl

pub mixed_list_58 : played
    (ask 2 (codes "GHU ") [] []
    ∷ ask 1 (codes "GHN ") [] []
    ∷ ask 1 (codes "GU  ") (codes "COURSE  *L(NUM     EQ150*NUM      >101+NUM     LE300)" ∷ []) []
    ∷ ask 3 (codes "GNP ") (codes "COURSE  *-" ∷ codes "CLASS   *LD" ∷ []) []
    ∷ ask 1 (codes "GHN ") (codes "CLASS   *-N " ∷ []) []
    ∷ ask 2 (codes "GHN ") [] []
    ∷ [])
    ≡ ended (got Blank 1 (codes "101") (codes "101ALGEB")
    ∷ got Blank 1 (codes "101") (codes "101ALGEB")
    ∷ got Blank 1 (codes "101") (codes "101ALGEB")
    ∷ got GP 0 [] []
    ∷ got Blank 2 (codes "10101") (codes "01AB")
    ∷ got Blank 2 (codes "10101") (codes "01AB")
    ∷ [])
    sample_rows
    (at_place 2 (Some 1) (Some (record { level = 2; code = 2 })) (Some 1) (1 ∷ []) ∷ at_place 2 (Some 1) (Some (record { level = 2; code = 2 })) (Some 1) (1 ∷ []) ∷ at_start ∷ [])
mixed_list_58 = refl

pub mixed_list_59 : played
    (ask 1 (codes "REPL") [] (codes "205LOGIC")
    ∷ ask 1 (codes "GHNP") (codes "COURSE  (NUM     EQ150&NUM     > 205+NUM     GE300)" ∷ []) []
    ∷ ask 3 (codes "GN  ") (codes "COURSE  *-N" ∷ []) []
    ∷ ask 3 (codes "GNP ") [] []
    ∷ ask 1 (codes "GX  ") (codes "COURSE  (NUM     < 101|NUM     = 300*NUM     EQ205)" ∷ codes "STUD    " ∷ []) []
    ∷ ask 1 (codes "GHN ") [] []
    ∷ ask 2 (codes "REPL") (codes "COURSE  " ∷ []) (codes "00ZZ")
    ∷ ask 3 (codes "ISRT") (codes "CLASS   (ED       >01|ED      EQ09)" ∷ codes "STUD    *-" ∷ []) (codes "ADAM01")
    ∷ [])
    ≡ ended (got DJ 0 [] []
    ∷ got GP 0 [] []
    ∷ got Blank 1 (codes "101") (codes "101ALGEB")
    ∷ got Blank 2 (codes "10101") (codes "01AB")
    ∷ got AD 0 [] []
    ∷ got Blank 1 (codes "101") (codes "101ALGEB")
    ∷ got DJ 0 [] []
    ∷ got AC 0 [] []
    ∷ [])
    sample_rows
    (at_place 1 (Some 0) (Some (record { level = 1; code = 1 })) (Some 0) (0 ∷ []) ∷ at_start ∷ at_place 2 (Some 1) (Some (record { level = 2; code = 2 })) (Some 0) [] ∷ [])
mixed_list_59 = refl

pub mixed_list_60 : played
    (ask 1 (codes "REPL") (codes "CLASS   *N" ∷ []) (codes "ABEL09")
    ∷ ask 1 (codes "ISRT") (codes "COURSE  *NN(NUM     EQ150+NUM     = 101+NUM     EQ300)" ∷ codes "BOOK    " ∷ []) (codes "HILBE")
    ∷ ask 3 (codes "DLET") (codes "COURSE  " ∷ []) []
    ∷ ask 1 (codes "ISRT") (codes "COURSE  *L" ∷ []) (codes "101ALGEB")
    ∷ ask 1 (codes "GN  ") (codes "COURSE  *D-" ∷ codes "BOOK     " ∷ []) []
    ∷ ask 1 (codes "DLET") (codes "COURSE  " ∷ []) []
    ∷ [])
    ≡ ended (got DJ 0 [] []
    ∷ got Blank 2 (codes "101") []
    ∷ got DJ 0 [] []
    ∷ got II 0 [] []
    ∷ got Blank 2 (codes "101") (codes "101ALGEBEULER")
    ∷ got DJ 0 [] []
    ∷ [])
    (of_type 1 (codes "101ALGEB") ∷ of_type 2 (codes "01AB") ∷ of_type 3 (codes "ADAM01") ∷ of_type 3 (codes "EVE 02") ∷ of_type 2 (codes "02CD") ∷ of_type 4 (codes "HILBE") ∷ of_type 4 (codes "EULER") ∷ of_type 1 (codes "205LOGIC") ∷ [])
    (at_place 7 (Some 6) (Some (record { level = 2; code = 4 })) (Some 6) [] ∷ at_start ∷ at_start ∷ [])
mixed_list_60 = refl
