-- The rows of one ISRT: the first, and those below it.
use Rattle.std.proofs.Common.{◌≡◌, ℕ, ◌-◌, ◌<◌, ◌≤◌, List, [], ◌∷◌, ◌++◌, length, take, drop, true, refl, sym, ap, ap₂, subst, ◌∙◌, arith}
use Rattle.std.specs.Prelude.{slice_index_or}
use Rattle.std.proofs.lemmas.List.{append_assoc, take_all, drop_all, length-drop, length-map, length-take}
use Rattle.hd_dbd.specs.Types.{SegmentType}
use Rattle.hd_dbd.specs.Hierarchy.{Database}
use Rattle.hd_dbd.specs.Lengths.{length_in}
use Rattle.hd_dbd.specs.Rows.{row_fits}
use Rattle.hd_dbd.specs.Segment.{Segment}
use Rattle.hd_dbd.specs.Forest.{Forest}
use Rattle.hd_calls.specs.Ssas.{Ssa}
use Rattle.hd_calls.specs.Steps.{front}
use Rattle.hd_volume.specs.Volumes.{VolumeState}
use Rattle.hd_links.specs.Links.{Links}
use Rattle.hd_links.specs.Placed.{Placed}
use Rattle.hd_links.specs.Changes.{with_leaf}
use Rattle.hd_links.specs.LastRows.{segments_of}
use Rattle.hd_image.proofs.OneImage.{links-same, held-same}
use Rattle.hd_index.proofs.ChangeLemmas.{later-image}
use Rattle.hd_forest.specs.Updates.{MayLink}
use Rattle.hd_forest.specs.Walks.{tip}
use Rattle.hd_changes.specs.Rooms.{HasRoomFor, HasMemoryFor}
use Rattle.hd_update.specs.Putting.{MayPut, IsPutIn}
use Rattle.hd_update.specs.NewRows.{codes_of, are_rows_in, rows_in, places_of, AreIn, AreMore, ArePutIn, GoDown, TakeMore}
use Rattle.hd_update.proofs.RowsIn.{Begins, rows_begin, as_many_rows, tip_pushed}

-- ---- volumes of one image

pub may_same : (d : Database) (v w : VolumeState) (h y : ℕ) (row : Segment) → w.image ≡ v.image → w.size ≡ v.size → w.sizes ≡ v.sizes → MayPut d v h y row → MayPut d w h y row
may_same d v w h y row image size sizes M = record {
  later = later-image v w image M.later;
  placed = M.placed;
  holds = held-same d v w image size sizes M.placed M.holds;
  may = subst (λ (m : Links). MayLink d.types m h y row) (sym (links-same d.types v w image size sizes)) M.may;
}

-- ---- the first row, and the others

-- a row that was put in is the first of a path
pub first_in : (d : Database) (v : VolumeState) (f : Forest Placed) (h y : ℕ) (row : Segment) (a : ℕ) (w : VolumeState) → (P : IsPutIn d v f h y row a w)
    → AreIn d v f P.number [] (record { address = a; segment = row }) w
first_in d v f h y row a w P = record {
  placed = with_leaf h y (record { address = a; segment = row }) f;
  is_in = P.is_in;
  positions = P.moves.positions;
}

-- others may go in below it
pub more_below : (d : Database) (v : VolumeState) (f : Forest Placed) (h y : ℕ) (row : Segment) (a : ℕ) (w : VolumeState) (path : List ℕ) (rows : List Segment) → IsPutIn d v f h y row a w
    → GoDown d.types row.code rows → HasRoomFor d.types w rows × HasMemoryFor d.types w rows → TakeMore d w (tip (path ++ a ∷ [])) rows
more_below d v f h y row a w path rows P down room = record {
  before = v;
  forest = f;
  number = P.number;
  front = [];
  last = record { address = a; segment = row };
  are = first_in d v f h y row a w P;
  is = tip_pushed path a;
  down = down;
  room = room.0;
  memory = room.1;
}

-- the first and the others are all
pub all_in : (d : Database) (v : VolumeState) (f : Forest Placed) (h y : ℕ) (above : List ℕ) (row : Segment) (a : ℕ) (mid : VolumeState) (rows : List Segment) (w : VolumeState) (path : List ℕ)
    → (P : IsPutIn d v f h y row a mid) → AreMore d v f P.number [] (record { address = a; segment = row }) (above ++ a ∷ []) rows w path → ArePutIn d v f h y above (row ∷ rows) path w
all_in d v f h y above row a mid rows w path P M =
    let p : Placed = record { address = a; segment = row } in
    record {
      number = P.number;
      front = M.others;
      last = M.end;
      are = M.are;
      rows_are = ap segments_of M.all ∙ ap (λ (rs : List Segment). row ∷ rs) M.rows_are;
      path_is = M.path_is ∙ append_assoc above (a ∷ []) (places_of M.new) ∙ ap (λ (ps : List Placed). above ++ places_of ps) (sym M.all);
      first = p;
      others = M.new;
      begins = M.all;
      goes_in = P.goes_in;
    }

-- ---- the rows of an area

-- the codes of some arguments begin with the first one's
codes_begin : (ssas : List Ssa) (a : Ssa) (code : ℕ) → 0 < length ssas → a ≡ slice_index_or ssas 0 a → code ≡ a.code → codes_of ssas ≡ code ∷ drop 1 (codes_of ssas)
codes_begin [] a code some is code_is = absurd (omega arith)
codes_begin (x ∷ xs) a code some is code_is = ap (λ (c : ℕ). c ∷ codes_of xs) (ap (λ (y : Ssa). y.code) (sym is) ∙ sym code_is)

-- The rows of some arguments, of which the first is of this type and has these bytes: the first of them, and the others, as they stand.
pub record AreFirstAndOthers (types : List SegmentType) (ssas : List Ssa) (area : List ℕ) (code : ℕ) (bytes : List ℕ) : Type 0 where
  pub codes : codes_of ssas ≡ code ∷ drop 1 (codes_of ssas)
  pub within : length bytes ≤ length area
  pub others_codes : codes_of (take (length ssas - 1) (drop 1 ssas)) ≡ drop 1 (codes_of ssas)
  pub others_area : take (length area - length bytes) (drop (length bytes) area) ≡ drop (length bytes) area
  pub rest : are_rows_in types (drop 1 (codes_of ssas)) (drop (length bytes) area) ≡ true
  pub fits : row_fits types (record { code = code; bytes = bytes }) ≡ true
  pub rows : rows_in types (codes_of ssas) area ≡ record { code = code; bytes = bytes } ∷ rows_in types (drop 1 (codes_of ssas)) (drop (length bytes) area)
  pub many : length (rows_in types (codes_of ssas) area) ≡ length ssas

pub first_and_others : (types : List SegmentType) (ssas : List Ssa) (area : List ℕ) (a : Ssa) (code : ℕ) (bytes : List ℕ) → 0 < length ssas → a ≡ slice_index_or ssas 0 a → code ≡ a.code
    → bytes ≡ front types code area → are_rows_in types (codes_of ssas) area ≡ true → AreFirstAndOthers types ssas area code bytes
first_and_others types ssas area a code bytes some is code_is bytes_are are =
    let codes : codes_of ssas ≡ code ∷ drop 1 (codes_of ssas) = codes_begin ssas a code some is code_is in
    let others : List ℕ = drop 1 (codes_of ssas) in
    let B : Begins types code others area bytes = rows_begin types code others area bytes bytes_are (ap (λ (cs : List ℕ). are_rows_in types cs area) (sym codes) ∙ are) in
    record {
      codes = codes;
      within = (let many = ap (λ (xs : List ℕ). length xs) bytes_are ∙ length-take (length_in types code area) area in omega arith);
      others_codes = ap codes_of (take_all (length ssas - 1) (drop 1 ssas) (let l : length (drop 1 ssas) ≡ length ssas - 1 = length-drop 1 ssas in omega arith)) ∙ dropped ssas;
      others_area = take_all (length area - length bytes) (drop (length bytes) area) (let l : length (drop (length bytes) area) ≡ length area - length bytes = length-drop (length bytes) area in omega arith);
      rest = B.rest;
      fits = B.fits;
      rows = ap (λ (cs : List ℕ). rows_in types cs area) codes ∙ B.rows;
      many = as_many_rows types (codes_of ssas) area are ∙ length-map ssas (λ (b : Ssa). b.code);
    }
  where
    dropped : (xs : List Ssa) → codes_of (drop 1 xs) ≡ drop 1 (codes_of xs)
    dropped [] = refl
    dropped (x ∷ xs) = refl

-- one argument is that of one row
pub one_row : (types : List SegmentType) (ssas : List Ssa) (area : List ℕ) → length ssas ≡ 1 → are_rows_in types (codes_of ssas) area ≡ true → drop 1 (rows_in types (codes_of ssas) area) ≡ []
one_row types ssas area one are =
    drop_all 1 (rows_in types (codes_of ssas) area)
    (let many = as_many_rows types (codes_of ssas) area are ∙ length-map ssas (λ (b : Ssa). b.code) in omega arith)

-- the others, as they are handed on
pub others_are : (types : List SegmentType) (ssas : List Ssa) (area : List ℕ) (code : ℕ) (bytes : List ℕ) → AreFirstAndOthers types ssas area code bytes
    → rows_in types (codes_of (take (length ssas - 1) (drop 1 ssas))) (take (length area - length bytes) (drop (length bytes) area)) ≡ rows_in types (drop 1 (codes_of ssas)) (drop (length bytes) area)
others_are types ssas area code bytes F = ap₂ (λ (cs : List ℕ) (xs : List ℕ). rows_in types cs xs) F.others_codes F.others_area
