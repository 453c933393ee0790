-- Of a stream that spells rows no record is refused.
use Rattle.std.proofs.Common.{◌≡◌, ℕ, ◌+◌, ◌<◌, ◌≤◌, ◌^◌, List, [], ◌∷◌, ◌++◌, length, take, drop, true, Option, Some, None, inl, inr, refl, sym, ap, ap₂, ◌∙◌, arith}
use Rattle.std.specs.Prelude.{nat_lt, nat_le, bytes_eq, not, ◌&&◌, ◌==◌, ◌-◌, option_map}
use Rattle.std.specs.Option.{option_map_or, option_or}
use Rattle.std.specs.Int.{w16, w32, to_be_bytes, from_be_bytes}
use Rattle.std.proofs.lemmas.Bool.{and_parts, and_from, eq-eqb, ne_eqb, le-leb, le-ltb, cond-true, cond-false}
use Rattle.std.proofs.lemmas.Nat.{from_be_bytes-to_be_bytes_4}
use Rattle.std.proofs.lemmas.List.{append_assoc, append-nil, length-append, length-drop, length-take-le, take_at}
use Rattle.std.proofs.lemmas.Slice.Eq.{bytes_eq-Decides}
use Rattle.hd_dbd.specs.Types.{SegmentType}
use Rattle.hd_dbd.specs.Segment.{Segment}
use Rattle.hd_dbd.specs.Hierarchy.{Database}
use Rattle.hd_dbd.specs.Lengths.{least_length, length_fits}
use Rattle.hd_dbd.specs.Rows.{row_fits, valid_from, next_path}
use Rattle.hd_dbd.specs.Loads.{last_path, load_fault}
use Rattle.hd_dbd.proofs.LevelLaw.{leveled}
use Rattle.hd_dbd.proofs.Loading.{loaded_valid}
use Rattle.hd_dbd.proofs.TypeLengths.{row-type, length-least, length-most}
use Rattle.hd_image.specs.Laws.{IsDatabase}
use Rattle.hd_unload.specs.declared.fault.RecordFault.{RecordFault}
use Rattle.hd_unload.specs.declared.fault.RecordFault.TheVariants.{U3}
use Rattle.hd_unload.specs.Streams.{head_bytes, record_bytes, records_bytes, end_bytes, head_fault, end_fault, length_said, row_bytes, spelling_fault, row_of, refusal_of, record_fault, IsStreamOf, IsRefusedAt}
use Rattle.hd_unload.proofs.Streaming.{row-short, said, code-some, first-fits, behind-valid, spelled-first}

-- ---- the header

-- nothing is wrong with the header of bytes that begin with it
head-accepted : (d : Database) (stream rest : List ℕ) → length d.name ≡ 8 → stream ≡ head_bytes d ++ rest → head_fault d stream ≡ None
head-accepted d stream rest named is =
    let head : length (head_bytes d) ≡ 18 = omega arith in
    let long : 18 ≤ length stream = omega (arith, ap length is, length-append (head_bytes d) rest) in
    let begins : take 18 stream ≡ head_bytes d = ap (take 18) is ∙ take_at (head_bytes d) rest 18 head in
    cond-false (nat_lt (length stream) 18) _ _ (le-ltb (length stream) 18 long)
    ∙ cond-true (bytes_eq (take 18 stream) (head_bytes d)) _ _ ((bytes_eq-Decides (take 18 stream) (head_bytes d)).1 begins)

-- ---- the end

-- nothing is wrong with the end of so many records
end-accepted : (count : ℕ) → count < 2 ^ 32 → end_fault count (to_be_bytes w32 count) ≡ None
end-accepted count few =
    cond-true (from_be_bytes w32 (to_be_bytes w32 count) == count) _ _ (eq-eqb (from_be_bytes w32 (to_be_bytes w32 count)) count (from_be_bytes-to_be_bytes_4 count few))

-- ---- a record

-- nothing is wrong with the spelling of a record of a type, where bytes enough follow and their length is one that the type allows
spelling-accepted : (t : SegmentType) (rest : List ℕ) → 2 + length_said rest ≤ length rest → length_fits t (row_bytes rest) ≡ true → spelling_fault t rest ≡ None
spelling-accepted t rest long fits =
    let own : ℕ = length_said rest in
    let len : length (row_bytes rest) ≡ own = length-take-le own (drop 2 rest) (omega (arith, length-drop 2 rest)) in
    let least : least_length t ≤ own = omega (arith, length-least t (row_bytes rest) fits, len) in
    let most : own ≤ t.length = omega (arith, length-most t (row_bytes rest) fits, len) in
    cond-false (nat_lt (length rest) 2) _ _ (le-ltb (length rest) 2 (omega arith))
    ∙ cond-false (not (nat_le (least_length t) own && nat_le own t.length)) _ _ (ap not (and_from _ _ (le-leb _ _ least) (le-leb _ _ most)))
    ∙ cond-false (nat_lt (length rest - 2) own) _ _ (le-ltb (length rest - 2) own (omega arith))
    ∙ cond-true (length_fits t (row_bytes rest)) _ _ fits

-- nothing is wrong with the record of a row with which the rows before it are valid
record-accepted : (d : Database) (rows : List Segment) (r : Segment) (rest : List ℕ) → IsDatabase d → row_fits d.types r ≡ true → valid_from d.types [] rows ≡ true → valid_from d.types [] (rows ++ r ∷ []) ≡ true
    → record_fault d.types rows (record_bytes r ++ rest) ≡ None
record-accepted d rows r rest formed fits valid more =
    let t = row-type d.types r fits in
    let some = code-some d.types r fits in
    let behind : List ℕ = (to_be_bytes w16 (length r.bytes) ++ r.bytes) ++ rest in
    let load : Option RecordFault = option_map refusal_of (load_fault d.types (last_path d.types rows) (row_of r.code behind)) in
    let own : length_said behind ≡ length r.bytes = said r rest (row-short d r formed fits) in
    let bytes : row_bytes behind ≡ r.bytes = ap (λ (n : ℕ). take n (r.bytes ++ rest)) own ∙ take_at r.bytes rest (length r.bytes) refl in
    let long : 2 + length_said behind ≤ length behind = omega (arith, own, length-append r.bytes rest) in
    let may : load_fault d.types (last_path d.types rows) r ≡ None = (loaded_valid d.types (leveled d.block_size d.frspc d.types formed) rows r valid fits).1 more in
    cond-false (r.code == 0) _ _ (ne_eqb r.code 0 (λ e. omega arith))
    ∙ ap (λ (o : Option SegmentType). option_map_or (λ u. option_or (spelling_fault u behind) load) o (Some U3)) t.is
    ∙ ap (λ (o : Option RecordFault). option_or o load) (spelling-accepted t.type behind long (ap (length_fits t.type) bytes ∙ t.fits))
    ∙ ap (λ (xs : List ℕ). option_map refusal_of (load_fault d.types (last_path d.types rows) (record { code = r.code; bytes = xs }))) bytes
    ∙ ap (option_map refusal_of) may

-- ---- the stream

-- the front of valid rows is valid
front-valid : (types : List SegmentType) (path rows more : List Segment) → valid_from types path (rows ++ more) ≡ true → valid_from types path rows ≡ true
front-valid types path [] more valid = refl
front-valid types path (r ∷ rows) more valid = (let parts = and_parts _ _ valid in and_from _ _ parts.0 (front-valid types (next_path types path r) rows more parts.1))

-- nothing is wrong with what follows some rows of a stream
next-accepted : (d : Database) (rows others more : List Segment) (rest : List ℕ) → IsDatabase d → valid_from d.types [] rows ≡ true → length rows < 2 ^ 32 → valid_from d.types [] others ≡ true
    → rows ≡ others ++ more → rest ≡ records_bytes more ++ end_bytes (length rows) → record_fault d.types others rest ≡ None
next-accepted d rows others [] rest formed valid few other is left =
    ap₂ (λ (xs : List Segment) (bytes : List ℕ). record_fault d.types xs bytes) (sym (is ∙ append-nil others)) left ∙ end-accepted (length rows) few
next-accepted d rows others (r ∷ more) rest formed valid few other is left =
    let same : rows ≡ (others ++ r ∷ []) ++ more = is ∙ sym (append_assoc others (r ∷ []) more) in
    let behind = behind-valid d.types [] others (r ∷ more) (ap (valid_from d.types []) (sym is) ∙ valid) in
    ap (record_fault d.types others) (left ∙ append_assoc (record_bytes r) (records_bytes more) (end_bytes (length rows)))
    ∙ record-accepted d others r (records_bytes more ++ end_bytes (length rows)) formed (first-fits d.types behind.0 r more behind.1) other
    (front-valid d.types [] (others ++ r ∷ []) more (ap (valid_from d.types []) (sym same) ∙ valid))

-- a fault is not none
fault-none : (x : RecordFault) → None ≡ Some x → ⊥
fault-none x e = cc

-- of a stream that spells rows of a database whose name has its eight bytes, no record is refused
pub none-refused : (d : Database) (stream : List ℕ) (rows : List Segment) → IsDatabase d → length d.name ≡ 8 → IsStreamOf d stream rows → (n : ℕ) (fault : RecordFault) → IsRefusedAt d stream n fault → ⊥
none-refused d stream rows formed named s n fault refused = elim refused [
  | inl head ↦
      fault-none fault
      (sym (head-accepted d stream (records_bytes rows ++ end_bytes (length rows)) named (s.spelled ∙ append_assoc (head_bytes d) (records_bytes rows) (end_bytes (length rows)))) ∙ head.1)
  | inr next ↦
      (let first = spelled-first d stream rows next.0 next.1 formed s next.2.valid next.2.is in
      fault-none fault (sym (next-accepted d rows next.0 first.0 next.1 formed s.valid s.few next.2.valid first.1 first.2) ∙ next.4))
]
