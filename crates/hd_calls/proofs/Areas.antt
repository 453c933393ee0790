-- An area taken apart: its parts are what was asked of it, and stand in it one behind the other.
use Rattle.std.proofs.Common.{◌≡◌, ℕ, suc, List, [], ◌∷◌, ◌++◌, length, take, drop, true, false, Bool, cond, arith, ap, sym, ◌∙◌, subst, refl}
use Rattle.std.specs.Prelude.{Result, Ok, Err, ◌==◌, nat_le}
use Rattle.std.specs.List.{concat}
use Rattle.std.proofs.lemmas.Bool.{leb-true, eqb-true}
use Rattle.std.proofs.lemmas.List.{length-take, length-take-le, take_min, drop_all, take-append-drop}
use Rattle.hd_dbd.specs.Types.{SegmentType}
use Rattle.hd_dbd.specs.declared.answer.Status.TheVariants.{V1}
use Rattle.hd_dbd.specs.Lengths.{length_in}
use Rattle.hd_dbd.specs.Rows.{row_fits}
use Rattle.hd_dbd.specs.Positions.{Position}
use Rattle.hd_calls.specs.declared.call.AreaFault.{AreaFault}
use Rattle.hd_calls.specs.declared.call.AreaFault.TheVariants.{Length, Bytes}
use Rattle.hd_calls.specs.Functions.{result_and_then}
use Rattle.hd_calls.specs.Steps.{Effect, wrong_area, bare_answer, Part, new_row, old_bytes, front, front_fault, part_at, divide, with_parts}

-- ---- one part

-- what a part is: a row that fits its type, or as many bytes as a row has
abbrev pub IsPart : List SegmentType → Part → List ℕ → Type 0
IsPart types (new_row c) bytes = row_fits types (record { code = c; bytes = bytes }) ≡ true
IsPart types (old_bytes n) bytes = length bytes ≡ n

-- the bytes of a new row fit its type
pub new_row_fits : (types : List SegmentType) (c : ℕ) (area bytes : List ℕ) → part_at types (new_row c) area ≡ Ok bytes → row_fits types (record { code = c; bytes = bytes }) ≡ true
new_row_fits types c area bytes is = by_fit (row_fits types (record { code = c; bytes = front types c area })) refl is
  where
    by_fit : (b : Bool) → row_fits types (record { code = c; bytes = front types c area }) ≡ b → cond b (Ok (front types c area)) (Err (front_fault types c)) ≡ Ok bytes
        → row_fits types (record { code = c; bytes = bytes }) ≡ true
    by_fit true fits is =
        let same : front types c area ≡ bytes = cc in
        ap (λ (xs : List ℕ). row_fits types (record { code = c; bytes = xs })) (sym same) ∙ fits
    by_fit false fits is = cc

-- those of a row that gets none are as many as it has
pub old_bytes_many : (types : List SegmentType) (n : ℕ) (area bytes : List ℕ) → part_at types (old_bytes n) area ≡ Ok bytes → length bytes ≡ n
old_bytes_many types n area bytes is = by_room (nat_le n (length area)) refl is
  where
    by_room : (b : Bool) → nat_le n (length area) ≡ b → cond b (Ok (take n area)) (Err Bytes) ≡ Ok bytes → length bytes ≡ n
    by_room true room is =
        let same : take n area ≡ bytes = cc in
        ap (λ (xs : List ℕ). length xs) (sym same) ∙ length-take-le n area (leb-true n (length area) room)
    by_room false room is = cc

-- so each part is what is asked
pub part_asked : (types : List SegmentType) (p : Part) (area bytes : List ℕ) → part_at types p area ≡ Ok bytes → IsPart types p bytes
part_asked types (new_row c) area bytes is = new_row_fits types c area bytes is
part_asked types (old_bytes n) area bytes is = old_bytes_many types n area bytes is

-- what is taken from the front, with what is behind it, is the whole
taken_in_front : (n : ℕ) (area : List ℕ) → take n area ++ drop (length (take n area)) area ≡ area
taken_in_front n area =
    let own : take (length (take n area)) area ≡ take n area = ap (λ (k : ℕ). take k area) (length-take n area) ∙ take_min n area in
    ap (λ (xs : List ℕ). xs ++ drop (length (take n area)) area) (sym own) ∙ take-append-drop (length (take n area)) area

-- a part stands at the front of its area
pub part_in_front : (types : List SegmentType) (p : Part) (area bytes : List ℕ) → part_at types p area ≡ Ok bytes → bytes ++ drop (length bytes) area ≡ area
part_in_front types p area bytes is = by_part p is
  where
    by_taken : (n : ℕ) → take n area ≡ bytes → bytes ++ drop (length bytes) area ≡ area
    by_taken n same = ap (λ (xs : List ℕ). xs ++ drop (length xs) area) (sym same) ∙ taken_in_front n area

    by_ok : (b : Bool) (n : ℕ) (fault : AreaFault) → cond b (Ok (take n area)) (Err fault) ≡ Ok bytes → bytes ++ drop (length bytes) area ≡ area
    by_ok true n fault is = by_taken n cc
    by_ok false n fault is = cc

    by_part : (p : Part) → part_at types p area ≡ Ok bytes → bytes ++ drop (length bytes) area ≡ area
    by_part (new_row c) is = by_ok (row_fits types (record { code = c; bytes = front types c area })) (length_in types c area) (front_fault types c) is
    by_part (old_bytes n) is = by_ok (nat_le n (length area)) n Bytes is

-- ---- all parts

-- behind a part the division goes on, and at a fault it stops
pub divide_on : (types : List SegmentType) (p : Part) (ps : List Part) (area bytes : List ℕ) → part_at types p area ≡ Ok bytes
    → divide types (p ∷ ps) area ≡ result_and_then (divide types ps (drop (length bytes) area)) (λ parts. Ok (bytes ∷ parts))
divide_on types p ps area bytes is =
    ap (λ (r : Result (List ℕ) AreaFault). result_and_then r (λ bytes. result_and_then (divide types ps (drop (length bytes) area)) (λ parts. Ok (bytes ∷ parts)))) is

pub divide_stops : (types : List SegmentType) (p : Part) (ps : List Part) (area : List ℕ) (fault : AreaFault) → part_at types p area ≡ Err fault → divide types (p ∷ ps) area ≡ Err fault
divide_stops types p ps area fault is =
    ap (λ (r : Result (List ℕ) AreaFault). result_and_then r (λ bytes. result_and_then (divide types ps (drop (length bytes) area)) (λ parts. Ok (bytes ∷ parts)))) is

-- A division begins with the first part, and goes on behind it.
pub record IsCut (types : List SegmentType) (p : Part) (ps : List Part) (area : List ℕ) (parts : List (List ℕ)) : Type 0 where
  pub bytes : List ℕ
  pub here : part_at types p area ≡ Ok bytes
  pub others : List (List ℕ)
  pub rest : divide types ps (drop (length bytes) area) ≡ Ok others
  pub are : parts ≡ bytes ∷ others

pub cut : (types : List SegmentType) (p : Part) (ps : List Part) (area : List ℕ) (parts : List (List ℕ)) → divide types (p ∷ ps) area ≡ Ok parts → IsCut types p ps area parts
cut types p ps area parts is = by_part (part_at types p area) refl
  where
    by_rest : (bytes : List ℕ) → part_at types p area ≡ Ok bytes → (r : Result (List (List ℕ)) AreaFault) → divide types ps (drop (length bytes) area) ≡ r
        → result_and_then r (λ parts. Ok (bytes ∷ parts)) ≡ Ok parts → IsCut types p ps area parts
    by_rest bytes here (Err fault) rest ends = cc
    by_rest bytes here (Ok others) rest ends =
        let same : bytes ∷ others ≡ parts = cc in
        record { bytes = bytes; here = here; others = others; rest = rest; are = sym same }

    by_part : (r : Result (List ℕ) AreaFault) → part_at types p area ≡ r → IsCut types p ps area parts
    by_part (Err fault) here = (let stops : Err fault ≡ Ok parts = sym (divide_stops types p ps area fault here) ∙ is in cc)
    by_part (Ok bytes) here = by_rest bytes here (divide types ps (drop (length bytes) area)) refl (sym (divide_on types p ps area bytes here) ∙ is)

-- nothing is left where nothing is asked
pub nothing_left : (types : List SegmentType) (area : List ℕ) (parts : List (List ℕ)) → divide types [] area ≡ Ok parts → (area ≡ []) × (parts ≡ [])
nothing_left types area parts is = by_empty (length area == 0) refl is
  where
    by_empty : (b : Bool) → (length area == 0) ≡ b → cond b (Ok []) (Err Bytes) ≡ Ok parts → (area ≡ []) × (parts ≡ [])
    by_empty true none is =
        let same : [] ≡ parts = cc in
        (drop_all 0 area (omega (arith, eqb-true (length area) 0 none)), sym same)
    by_empty false some is = cc

-- the parts are what is asked, one for one
abbrev pub AreParts : List SegmentType → List Part → List (List ℕ) → Type 0
AreParts types [] [] = Unit {0}
AreParts types [] (bytes ∷ parts) = ⊥
AreParts types (p ∷ ps) [] = ⊥
AreParts types (p ∷ ps) (bytes ∷ parts) = IsPart types p bytes × AreParts types ps parts

pub are_parts : (types : List SegmentType) (ps : List Part) (area : List ℕ) (parts : List (List ℕ)) → divide types ps area ≡ Ok parts → AreParts types ps parts
are_parts types [] area parts is = subst (λ (xs : List (List ℕ)). AreParts types [] xs) (sym (nothing_left types area parts is).1) tt
are_parts types (p ∷ ps) area parts is =
    let own = cut types p ps area parts is in
    subst (λ (xs : List (List ℕ)). AreParts types (p ∷ ps) xs) (sym own.are) (part_asked types p area own.bytes own.here, are_parts types ps (drop (length own.bytes) area) own.others own.rest)

-- so there are as many as are asked
pub as_many_parts : (types : List SegmentType) (ps : List Part) (parts : List (List ℕ)) → AreParts types ps parts → length parts ≡ length ps
as_many_parts types [] [] are = refl
as_many_parts types [] (bytes ∷ parts) are = absurd are
as_many_parts types (p ∷ ps) [] are = absurd are
as_many_parts types (p ∷ ps) (bytes ∷ parts) are = ap suc (as_many_parts types ps parts are.1)

-- the parts one behind the other are the area
pub parts_joined : (types : List SegmentType) (ps : List Part) (area : List ℕ) (parts : List (List ℕ)) → divide types ps area ≡ Ok parts → concat parts ≡ area
parts_joined types [] area parts is = (let none = nothing_left types area parts is in ap concat none.1 ∙ sym none.0)
parts_joined types (p ∷ ps) area parts is =
    let own = cut types p ps area parts is in
    ap concat own.are ∙ ap (λ (xs : List ℕ). own.bytes ++ xs) (parts_joined types ps (drop (length own.bytes) area) own.others own.rest)
    ∙ part_in_front types p area own.bytes own.here

-- ---- what a call does with the parts

-- what V1 and a wrong area keep to, and what is done with whatever parts the area has, a call with an area keeps to
pub by_division : (P : Effect → Type 0) (p : Position) (r : Result (List (List ℕ)) AreaFault) (effect : List (List ℕ) → Effect)
    → P (bare_answer p V1) → P wrong_area → ((parts : List (List ℕ)) → r ≡ Ok parts → P (effect parts)) → P (with_parts p r effect)
by_division P p (Ok parts) effect refused wrong each = each parts refl
by_division P p (Err Length) effect refused wrong each = refused
by_division P p (Err Bytes) effect refused wrong each = wrong
