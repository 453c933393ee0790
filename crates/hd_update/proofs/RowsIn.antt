-- The rows that an area gives, one after the other.
use Rattle.std.proofs.Common.{◌≡◌, ℕ, suc, ◌+◌, ◌-◌, ◌<◌, ◌≤◌, IsTrue, List, [], ◌∷◌, ◌++◌, length, take, drop, Bool, true, false, cond, Some, None, Result, Ok, Err, refl, sym, ap, ap₂, ◌∙◌, arith}
use Rattle.std.specs.Prelude.{map, is_ok, slice_index_or}
use Rattle.std.specs.Result.{result_err, result_unwrap_or}
use Rattle.std.proofs.lemmas.List.{append_assoc, append-nil, at_drop_more, drop-drop, length-drop, length-take, take_all}
use Rattle.hd_dbd.specs.Types.{SegmentType}
use Rattle.hd_dbd.specs.Hierarchy.{Database}
use Rattle.hd_dbd.specs.Lengths.{length_in}
use Rattle.hd_dbd.specs.Rows.{row_fits}
use Rattle.hd_dbd.specs.Segment.{Segment}
use Rattle.hd_calls.specs.declared.call.AreaFault.{AreaFault}
use Rattle.hd_calls.specs.Ssas.{Ssa}
use Rattle.hd_calls.specs.Steps.{new_row, front, front_fault, part_at, new_rows}
use Rattle.hd_calls.proofs.Areas.{IsCut, cut, new_row_fits}
use Rattle.hd_volume.specs.Volumes.{VolumeState}
use Rattle.hd_links.specs.Placed.{Placed}
use Rattle.hd_forest.specs.Walks.{tip}
use Rattle.hd_update.specs.NewRows.{codes_of, parts_in, are_rows_in, rows_in, places_of, AreIn, TakeMore, GoesInBelow, GoInBelow, LastsBelow}

-- ---- faults

-- what has no error is a value
pub faultless : {A E : Type 0} (r : Result A E) → result_err r ≡ None → is_ok r ≡ true
faultless (Ok x) none = refl
faultless (Err fault) none = cc

-- and what has one is that
pub at_fault : {A E : Type 0} (r : Result A E) (fault : E) → result_err r ≡ Some fault → r ≡ Err fault
at_fault (Ok x) fault some = cc
at_fault (Err e) fault some = (let same : e ≡ fault = cc in ap Err same)

-- ---- the first row

-- a part of a new row is the front of its area
front_is : (types : List SegmentType) (c : ℕ) (area part : List ℕ) → part_at types (new_row c) area ≡ Ok part → front types c area ≡ part
front_is types c area part is = by_fit (row_fits types (record { code = c; bytes = front types c area })) is
  where
    by_fit : (b : Bool) → cond b (Ok (front types c area)) (Err (front_fault types c)) ≡ Ok part → front types c area ≡ part
    by_fit true is = cc
    by_fit false is = cc

-- rows that are there have parts
pub parts_there : (types : List SegmentType) (codes area : List ℕ) → are_rows_in types codes area ≡ true → (parts : List (List ℕ)) × (parts_in types codes area ≡ Ok parts)
parts_there types codes area are = by (parts_in types codes area) refl are
  where
    by : (r : Result (List (List ℕ)) AreaFault) → parts_in types codes area ≡ r → is_ok r ≡ true → (parts : List (List ℕ)) × (parts_in types codes area ≡ Ok parts)
    by (Ok parts) is are = (parts, is)
    by (Err fault) is are = cc

-- and these are the rows' bytes
pub rows_of_parts : (types : List SegmentType) (codes area : List ℕ) (parts : List (List ℕ)) → parts_in types codes area ≡ Ok parts → rows_in types codes area ≡ new_rows codes parts
rows_of_parts types codes area parts is = ap (λ (r : Result (List (List ℕ)) AreaFault). new_rows codes (result_unwrap_or r [])) is

-- Where an area is rows of these types, the first has these bytes at its front, and the others are behind it.
pub record Begins (types : List SegmentType) (c : ℕ) (cs area bytes : List ℕ) : Type 0 where
  pub fits : row_fits types (record { code = c; bytes = bytes }) ≡ true
  pub rest : are_rows_in types cs (drop (length bytes) area) ≡ true
  pub rows : rows_in types (c ∷ cs) area ≡ record { code = c; bytes = bytes } ∷ rows_in types cs (drop (length bytes) area)

pub rows_begin : (types : List SegmentType) (c : ℕ) (cs area bytes : List ℕ) → bytes ≡ front types c area → are_rows_in types (c ∷ cs) area ≡ true → Begins types c cs area bytes
rows_begin types c cs area bytes is are =
    let parts = parts_there types (c ∷ cs) area are in
    let own : IsCut types (new_row c) (map (λ x. new_row x) cs) area parts.0 = cut types (new_row c) (map (λ x. new_row x) cs) area parts.0 parts.1 in
    let same : own.bytes ≡ bytes = sym (front_is types c area own.bytes own.here) ∙ sym is in
    let behind : parts_in types cs (drop (length bytes) area) ≡ Ok own.others = ap (λ (xs : List ℕ). parts_in types cs (drop (length xs) area)) (sym same) ∙ own.rest in
    record {
      fits = ap (λ (xs : List ℕ). row_fits types (record { code = c; bytes = xs })) (sym same) ∙ new_row_fits types c area own.bytes own.here;
      rest = ap (λ (r : Result (List (List ℕ)) AreaFault). is_ok r) behind;
      rows =
          rows_of_parts types (c ∷ cs) area parts.0 parts.1
          ∙ ap (λ (ps : List (List ℕ)). new_rows (c ∷ cs) ps) own.are
          ∙ ap₂ (λ (xs : List ℕ) (rows : List Segment). record { code = c; bytes = xs } ∷ rows) same (sym (rows_of_parts types cs (drop (length bytes) area) own.others behind));
    }

-- as many rows as types
pub as_many_rows : (types : List SegmentType) (codes area : List ℕ) → are_rows_in types codes area ≡ true → length (rows_in types codes area) ≡ length codes
as_many_rows types [] area are = refl
as_many_rows types (c ∷ cs) area are =
    let B : Begins types c cs area (front types c area) = rows_begin types c cs area (front types c area) refl are in
    ap (λ (rows : List Segment). length rows) B.rows ∙ ap suc (as_many_rows types cs (drop (length (front types c area)) area) B.rest)

-- ---- one after the other

pub tip_pushed : (path : List ℕ) (a : ℕ) → tip (path ++ a ∷ []) ≡ a
tip_pushed [] a = refl
tip_pushed (x ∷ xs) a = pushed x xs a
  where
    pushed : (x : ℕ) (xs : List ℕ) (a : ℕ) → tip (x ∷ xs ++ a ∷ []) ≡ a
    pushed x [] a = refl
    pushed x (y ∷ ys) a = pushed y ys a

-- where the first went in and the others below it, all did
pub go_in : (d : Database) (v x w : VolumeState) (path : List ℕ) (row : Segment) (rows : List Segment) (a : ℕ) (down : List ℕ) → (IsTrue v.is_sound → IsTrue x.is_sound)
    → GoesInBelow d v (tip path) row a x → GoInBelow d x (path ++ a ∷ []) rows w down → GoInBelow d v path (row ∷ rows) w down
go_in d v x w path row rows a down stays goes more u f n front last sound are at below =
    let p : Placed = record { address = a; segment = row } in
    let first : AreIn d u f n (front ++ last ∷ []) p x = goes u f n front last sound are at below.0 below.1 in
    let M = more u f n (front ++ last ∷ []) p (stays sound) first (tip_pushed path a) below.2 in
    record {
      others = M.others;
      end = M.end;
      are = M.are;
      new = p ∷ M.new;
      all = M.all ∙ append_assoc (front ++ last ∷ []) (p ∷ []) M.new;
      rows_are = ap (λ (rs : List Segment). row ∷ rs) M.rows_are;
      path_is = M.path_is ∙ append_assoc path (a ∷ []) (places_of M.new);
    }

-- no other
pub go_in_none : (d : Database) (v : VolumeState) (path : List ℕ) → GoInBelow d v path [] v path
go_in_none d v path u f n front last sound are at below = record {
  others = front;
  end = last;
  are = are;
  new = [];
  all = sym (append-nil (front ++ last ∷ []));
  rows_are = refl;
  path_is = sym (append-nil path);
}

-- once one went in, the others may
pub take_others : (d : Database) (v x : VolumeState) (path : List ℕ) (row : Segment) (rows : List Segment) (a : ℕ) → IsTrue v.is_sound → GoesInBelow d v (tip path) row a x → LastsBelow d v row x
    → TakeMore d v (tip path) (row ∷ rows) → TakeMore d x (tip (path ++ a ∷ [])) rows
take_others d v x path row rows a sound goes lasts M =
    let room = lasts rows sound M.room M.memory in
    record {
      before = M.before;
      forest = M.forest;
      number = M.number;
      front = M.front ++ M.last ∷ [];
      last = record { address = a; segment = row };
      are = goes M.before M.forest M.number M.front M.last sound M.are M.is M.down.0 M.down.1;
      is = tip_pushed path a;
      down = M.down.2;
      room = room.0;
      memory = room.1;
    }

-- ---- the row of one argument

-- The row of the argument at a place, whose bytes begin at a start of the area: it is the first of those that are left.
pub record IsTurn (types : List SegmentType) (ssas : List Ssa) (area : List ℕ) (place start code : ℕ) (bytes : List ℕ) : Type 0 where
  pub fits : row_fits types (record { code = code; bytes = bytes }) ≡ true
  pub within : start + length bytes ≤ length area
  pub rest : are_rows_in types (codes_of (drop (place + 1) ssas)) (drop (start + length bytes) area) ≡ true
  pub rows : rows_in types (codes_of (drop place ssas)) (drop start area)
      ≡ record { code = code; bytes = bytes } ∷ rows_in types (codes_of (drop (place + 1) ssas)) (drop (start + length bytes) area)

pub turn : (types : List SegmentType) (ssas : List Ssa) (area : List ℕ) (place start code : ℕ) (bytes : List ℕ) (a : Ssa) → place < length ssas → start ≤ length area → a ≡ slice_index_or ssas place a → code ≡ a.code
    → bytes ≡ front types code (take (length area - start) (drop start area)) → are_rows_in types (codes_of (drop place ssas)) (drop start area) ≡ true
    → IsTurn types ssas area place start code bytes
turn types ssas area place start code bytes a within low is code_is bytes_are are =
    let codes : codes_of (drop place ssas) ≡ code ∷ codes_of (drop (place + 1) ssas)
    = at_drop_more (λ (xs : List Ssa). codes_of xs) ssas place a within ∙ ap (λ (x : ℕ). x ∷ codes_of (drop (place + 1) ssas)) (ap (λ (x : Ssa). x.code) (sym is) ∙ sym code_is) in
    let left : length (drop start area) ≡ length area - start = length-drop start area in
    let whole : take (length area - start) (drop start area) ≡ drop start area = take_all (length area - start) (drop start area) (omega arith) in
    let at : bytes ≡ front types code (drop start area) = bytes_are ∙ ap (front types code) whole in
    let B : Begins types code (codes_of (drop (place + 1) ssas)) (drop start area) bytes
    = rows_begin types code (codes_of (drop (place + 1) ssas)) (drop start area) bytes at (ap (λ (cs : List ℕ). are_rows_in types cs (drop start area)) (sym codes) ∙ are) in
    let on : drop (length bytes) (drop start area) ≡ drop (start + length bytes) area = drop-drop (length bytes) start area in
    let own : length bytes ≤ length (drop start area)
    = (let many = ap (λ (xs : List ℕ). length xs) at ∙ length-take (length_in types code (drop start area)) (drop start area) in omega arith) in
    record {
      fits = B.fits;
      within = omega arith;
      rest = ap (λ (xs : List ℕ). are_rows_in types (codes_of (drop (place + 1) ssas)) xs) (sym on) ∙ B.rest;
      rows =
          ap (λ (cs : List ℕ). rows_in types cs (drop start area)) codes
          ∙ B.rows
          ∙ ap (λ (xs : List ℕ). record { code = code; bytes = bytes } ∷ rows_in types (codes_of (drop (place + 1) ssas)) xs) on;
    }
