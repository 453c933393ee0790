-- A stream spells one list of rows.
use Rattle.std.proofs.Common.{◌≡◌, ℕ, ◌<◌, ◌^◌, List, [], ◌∷◌, ◌++◌, length, take, drop, get_or, true, refl, sym, ap, ap₂, ◌∙◌, arith}
use Rattle.std.proofs.lemmas.Bool.{and_parts}
use Rattle.std.proofs.lemmas.Nat.{from_be_bytes-to_be_bytes_2}
use Rattle.std.proofs.lemmas.List.{append_assoc, append-nil, append_cancel_left, take_at, drop_at}
use Rattle.hd_dbd.specs.Types.{SegmentType}
use Rattle.hd_dbd.specs.Segment.{Segment}
use Rattle.hd_dbd.specs.Hierarchy.{Database}
use Rattle.hd_dbd.specs.Rows.{row_fits, valid_from, next_path}
use Rattle.hd_dbd.proofs.LevelLaw.{typed}
use Rattle.hd_dbd.proofs.Levels.{type_within}
use Rattle.hd_dbd.proofs.TypeLengths.{row-type, length-most, type-room}
use Rattle.hd_image.specs.Laws.{IsDatabase}
use Rattle.hd_unload.specs.Streams.{head_bytes, record_bytes, records_bytes, end_bytes, length_said, IsStreamOf}

-- ---- one record

-- a row that fits has no more bytes than a record can say
pub row-short : (d : Database) (r : Segment) → IsDatabase d → row_fits d.types r ≡ true → length r.bytes < 2 ^ 16
row-short d r formed fits =
    let own = row-type d.types r fits in
    omega (arith, length-most own.type r.bytes own.fits, type-room d.block_size d.frspc d.types r.code own.type formed own.is)

-- and its record says how many they are
pub said : (r : Segment) (rest : List ℕ) → length r.bytes < 2 ^ 16 → length_said (drop 1 (record_bytes r ++ rest)) ≡ length r.bytes
said r rest short = from_be_bytes-to_be_bytes_2 (length r.bytes) short

-- a row that fits has a code other than that of an end
pub code-some : (types : List SegmentType) (r : Segment) → row_fits types r ≡ true → 0 < r.code
code-some types r fits = (let t = typed types r fits in (type_within types r.code t.0 t.1).0)

-- the records of two rows that fit begin the same bytes only where they are one row, and the same bytes follow
one-record : (d : Database) (r s : Segment) (a b : List ℕ) → IsDatabase d → row_fits d.types r ≡ true → row_fits d.types s ≡ true → record_bytes r ++ a ≡ record_bytes s ++ b → (r ≡ s) × (a ≡ b)
one-record d r s a b formed fits other is =
    let n : ℕ = length r.bytes in
    let code : r.code ≡ s.code = ap (λ (xs : List ℕ). get_or xs 0 0) is in
    let same : length s.bytes ≡ n =
    sym (said s b (row-short d s formed other)) ∙ ap (λ (xs : List ℕ). length_said (drop 1 xs)) (sym is) ∙ said r a (row-short d r formed fits) in
    let behind : r.bytes ++ a ≡ s.bytes ++ b = ap (drop 3) is in
    let bytes : r.bytes ≡ s.bytes = sym (take_at r.bytes a n refl) ∙ ap (take n) behind ∙ take_at s.bytes b n same in (
      ap₂ (λ (c : ℕ) (xs : List ℕ). record { code = c; bytes = xs }) code bytes,
      sym (drop_at r.bytes a n refl) ∙ ap (drop n) behind ∙ drop_at s.bytes b n same,
    )

-- ---- all records

-- the first of valid rows fits
pub first-fits : (types : List SegmentType) (path : List Segment) (r : Segment) (rows : List Segment) → valid_from types path (r ∷ rows) ≡ true → row_fits types r ≡ true
first-fits types path r rows valid = (and_parts _ _ (and_parts _ _ (and_parts _ _ valid).0).0).0

-- no end begins with the record of a row that fits
no-end : (types : List SegmentType) (r : Segment) (n : ℕ) (a : List ℕ) → row_fits types r ≡ true → end_bytes n ≡ record_bytes r ++ a → ⊥
no-end types r n a fits is = (let some = code-some types r fits in let none : 0 ≡ r.code = ap (λ (xs : List ℕ). get_or xs 0 0) is in omega arith)

-- valid rows whose records begin those of others and an end are the first of the others, and the rest of them and the end follow
first-rows : (d : Database) (path way : List Segment) (rows others : List Segment) (n : ℕ) (rest : List ℕ) → IsDatabase d → valid_from d.types path rows ≡ true → valid_from d.types way others ≡ true
    → records_bytes rows ++ end_bytes n ≡ records_bytes others ++ rest
    → (more : List Segment) × (rows ≡ others ++ more) × (rest ≡ records_bytes more ++ end_bytes n)
first-rows d path way rows [] n rest formed valid other is = (rows, refl, sym is)
first-rows d path way [] (s ∷ others) n rest formed valid other is =
    absurd (no-end d.types s n (records_bytes others ++ rest) (first-fits d.types way s others other) (is ∙ append_assoc (record_bytes s) (records_bytes others) rest))
first-rows d path way (r ∷ rows) (s ∷ others) n rest formed valid other is =
    let one = one-record d r s (records_bytes rows ++ end_bytes n) (records_bytes others ++ rest) formed (first-fits d.types path r rows valid) (first-fits d.types way s others other)
    (sym (append_assoc (record_bytes r) (records_bytes rows) (end_bytes n)) ∙ is ∙ append_assoc (record_bytes s) (records_bytes others) rest) in
    let more = first-rows d (next_path d.types path r) (next_path d.types way s) rows others n rest formed (and_parts _ _ valid).1 (and_parts _ _ other).1 one.1 in
    (more.0, ap₂ (λ (x : Segment) (xs : List Segment). x ∷ xs) one.0 more.1, more.2)

-- where valid rows and an end are spelled as an end alone, there are no rows
none-more : (types : List SegmentType) (path more : List Segment) (n m : ℕ) → valid_from types path more ≡ true → end_bytes m ≡ records_bytes more ++ end_bytes n → more ≡ []
none-more types path [] n m valid is = refl
none-more types path (r ∷ more) n m valid is =
    absurd (no-end types r m (records_bytes more ++ end_bytes n) (first-fits types path r more valid) (is ∙ append_assoc (record_bytes r) (records_bytes more) (end_bytes n)))

-- the rows behind others are valid too
pub behind-valid : (types : List SegmentType) (path rows more : List Segment) → valid_from types path (rows ++ more) ≡ true → (way : List Segment) × (valid_from types way more ≡ true)
behind-valid types path [] more valid = (path, valid)
behind-valid types path (r ∷ rows) more valid = behind-valid types (next_path types path r) rows more (and_parts _ _ valid).1

-- valid rows that a stream begins with are the first of its rows, and the rest of them and the end follow
pub spelled-first : (d : Database) (stream : List ℕ) (rows others : List Segment) (rest : List ℕ) → IsDatabase d → IsStreamOf d stream rows → valid_from d.types [] others ≡ true
    → stream ≡ head_bytes d ++ records_bytes others ++ rest
    → (more : List Segment) × (rows ≡ others ++ more) × (rest ≡ records_bytes more ++ end_bytes (length rows))
spelled-first d stream rows others rest formed s valid is =
    first-rows d [] [] rows others (length rows) rest formed s.valid valid
    (append_cancel_left (head_bytes d) (records_bytes rows ++ end_bytes (length rows)) (records_bytes others ++ rest)
    (sym (append_assoc (head_bytes d) (records_bytes rows) (end_bytes (length rows))) ∙ sym s.spelled ∙ is ∙ append_assoc (head_bytes d) (records_bytes others) rest))

-- a stream spells one list of rows
pub one-list : (d : Database) (stream : List ℕ) (rows others : List Segment) → IsDatabase d → IsStreamOf d stream rows → IsStreamOf d stream others → others ≡ rows
one-list d stream rows others formed s o =
    let first = spelled-first d stream rows others (end_bytes (length others)) formed s o.valid o.spelled in
    let behind = behind-valid d.types [] others first.0 (ap (valid_from d.types []) (sym first.1) ∙ s.valid) in
    let none = none-more d.types behind.0 first.0 (length rows) (length others) behind.1 first.2 in
    sym (first.1 ∙ ap (λ (more : List Segment). others ++ more) none ∙ append-nil others)
