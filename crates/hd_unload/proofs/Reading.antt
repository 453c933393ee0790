-- Reading a stream record by record, and loading it.
use Rattle.std.proofs.Common.{◌≡◌, ℕ, ◌+◌, ◌<◌, ◌^◌, ◌≤◌, IfSome, IfNone, Bool, List, [], ◌∷◌, ◌++◌, length, true, Option, Some, None, IsTrue, refl, sym, ap, ◌∙◌, subst, inr, arith}
use Rattle.std.specs.Prelude.{option_map}
use Rattle.std.proofs.lemmas.List.{append_assoc, length-append}
use Rattle.hd_dbd.specs.Types.{SegmentType}
use Rattle.hd_dbd.specs.Hierarchy.{Database}
use Rattle.hd_dbd.specs.DatabaseRules.{well_formed}
use Rattle.hd_dbd.specs.Segment.{Segment}
use Rattle.hd_dbd.specs.Rows.{row_fits, next_path}
use Rattle.hd_dbd.specs.Loads.{path_after, last_path, load_fault, Loading, rows_loaded, image_before, IsLegalLoad}
use Rattle.hd_dbd.proofs.LevelLaw.{leveled}
use Rattle.hd_dbd.proofs.Loading.{loaded_valid}
use Rattle.hd_volume.specs.Headers.{Header, header_of}
use Rattle.hd_volume.specs.Volumes.{VolumeState}
use Rattle.hd_volume.specs.Creates.{IsCreated}
use Rattle.hd_links.specs.Placed.{Placed}
use Rattle.hd_links.specs.LastRows.{segments_of}
use Rattle.hd_dbd.specs.Facts.{stored_sizes}
use Rattle.hd_dbd.specs.Forest.{empty}
use Rattle.hd_image.specs.Holding.{HoldsPlaced, HoldsRows}
use Rattle.hd_image.proofs.Empty.{new-empty}
use Rattle.hd_unload.specs.declared.fault.RecordFault.{RecordFault}
use Rattle.hd_unload.specs.declared.fault.ReloadFault.{ReloadFault}
use Rattle.hd_unload.specs.declared.fault.ReloadFault.TheVariants.{Record, Full, Memory, Device}
use Rattle.hd_unload.specs.Streams.{head_bytes, record_bytes, records_bytes, end_bytes, record_fault, refusal_of, IsRefusedAt}
use Rattle.hd_unload.specs.Loads.{IsLoadStep, IsLoad}
use Rattle.hd_unload.specs.Steps.{IsLoadedTo, IsRowLoaded, IsReadTo, IsLoadedAll}
use Rattle.hd_unload.specs.Refusals.{IsFaultOfRow, IsFaultOf}

-- ---- one row more

-- nothing behind a list changes it
pub nothing-behind : {A : Type 0} (xs : List A) → xs ++ [] ≡ xs
nothing-behind [] = refl
nothing-behind (x ∷ xs) = ap (λ ys. x ∷ ys) (nothing-behind xs)

-- the records of rows with one more
records-more : (rows : List Segment) (new : Segment) (rest : List ℕ) → records_bytes rows ++ (record_bytes new ++ rest) ≡ records_bytes (rows ++ new ∷ []) ++ rest
records-more [] new rest = ap (λ (xs : List ℕ). xs ++ rest) (sym (nothing-behind (record_bytes new)))
records-more (r ∷ rows) new rest =
    append_assoc (record_bytes r) (records_bytes rows) (record_bytes new ++ rest)
    ∙ ap (λ (xs : List ℕ). record_bytes r ++ xs) (records-more rows new rest)
    ∙ sym (append_assoc (record_bytes r) (records_bytes (rows ++ new ∷ [])) rest)

-- the path behind rows with one more
path-more : (types : List SegmentType) (path rows : List Segment) (new : Segment) → path_after types path (rows ++ new ∷ []) ≡ next_path types (path_after types path rows) new
path-more types path [] new = refl
path-more types path (r ∷ rows) new = path-more types (next_path types path r) rows new

-- the loadings with one more
loaded-more : (loadings : List (Loading VolumeState)) (l : Loading VolumeState) → rows_loaded (loadings ++ l ∷ []) ≡ rows_loaded loadings ++ l.row ∷ []
loaded-more [] l = refl
loaded-more (k ∷ loadings) l = ap (λ (rows : List Segment). k.row ∷ rows) (loaded-more loadings l)

-- the first image stays
first-more : (loadings : List (Loading VolumeState)) (old new : VolumeState) (row : Segment) → image_before (loadings ++ record { before = old; row = row } ∷ []) new ≡ image_before loadings old
first-more [] old new row = refl
first-more (k ∷ loadings) old new row = refl

-- a legal load with one row more
legal-more : (d : Database) (rows : List Segment) (loadings : List (Loading VolumeState)) (old new : VolumeState) (row : Segment)
    → IsLegalLoad (HoldsRows d) (IsLoadStep d) d.types rows loadings old
    → row_fits d.types row ≡ true → load_fault d.types (last_path d.types (rows ++ rows_loaded loadings)) row ≡ None → IsLoadStep d old row new
    → HoldsRows d new ((rows ++ rows_loaded loadings) ++ row ∷ [])
    → IsLegalLoad (HoldsRows d) (IsLoadStep d) d.types rows (loadings ++ record { before = old; row = row } ∷ []) new
legal-more d rows [] old new row legal fits may step holds =
    let none : rows ++ [] ≡ rows = nothing-behind rows in (
      legal,
      fits,
      subst (λ (rs : List Segment). load_fault d.types (last_path d.types rs) row ≡ None) none may,
      step,
      subst (λ (rs : List Segment). HoldsRows d new (rs ++ row ∷ [])) none holds,
    )
legal-more d rows (k ∷ loadings) old new row legal fits may step holds =
    let same : rows ++ (k.row ∷ rows_loaded loadings) ≡ (rows ++ k.row ∷ []) ++ rows_loaded loadings = sym (append_assoc rows (k.row ∷ []) (rows_loaded loadings)) in (
      legal.0,
      legal.1,
      legal.2,
      subst (λ (v : VolumeState). IsLoadStep d k.before k.row v) (sym (first-more loadings old new row)) legal.3,
      legal-more d (rows ++ k.row ∷ []) loadings old new row legal.4 fits
          (subst (λ (rs : List Segment). load_fault d.types (last_path d.types rs) row ≡ None) same may) step
          (subst (λ (rs : List Segment). HoldsRows d new (rs ++ row ∷ [])) same holds),
    )

-- a load with one row more
load-more : (d : Database) (largest : ℕ) (rows : List Segment) (old new : VolumeState) (row : Segment) → IsLoad d largest rows old → row_fits d.types row ≡ true
    → load_fault d.types (last_path d.types rows) row ≡ None → IsLoadStep d old row new → HoldsRows d new (rows ++ row ∷ []) → IsLoad d largest (rows ++ row ∷ []) new
load-more d largest rows old new row load fits may step holds = record {
  loadings = load.loadings ++ record { before = old; row = row } ∷ [];
  rows_are = loaded-more load.loadings (record { before = old; row = row }) ∙ ap (λ (rs : List Segment). rs ++ row ∷ []) load.rows_are;
  new = subst (λ (v : VolumeState). IsCreated d.name d.block_size largest v) (sym (first-more load.loadings old new row)) load.new;
  legal = legal-more d [] load.loadings old new row load.legal fits
      (subst (λ (rs : List Segment). load_fault d.types (last_path d.types rs) row ≡ None) (sym load.rows_are) may) step
      (subst (λ (rs : List Segment). HoldsRows d new (rs ++ row ∷ [])) (sym load.rows_are) holds);
}

-- ---- what was read

-- one record more was read
pub read-more : (d : Database) (stream : List ℕ) (largest count : ℕ) (left rest : List ℕ) (path after : List Placed) (old new : VolumeState) (row : Segment)
    → IsReadTo d stream largest count left path old → IsTrue (well_formed d.block_size d.frspc d.types) → row_fits d.types row ≡ true → left ≡ record_bytes row ++ rest
    → load_fault d.types (segments_of path) row ≡ None → segments_of after ≡ next_path d.types (segments_of path) row
    → (IsTrue new.is_sound → IsTrue old.is_sound) → (IsTrue old.is_sound → (rows : List Segment) → IsLoadedTo d rows path old → IsRowLoaded d old rows row after new)
    → IsReadTo d stream largest (count + 1) rest after new
read-more d stream largest count left rest path after old new row read fit fits is may last-is was loaded = record {
  rows = read.rows ++ row ∷ [];
  counted = length-append read.rows (row ∷ []) ∙ ap (λ (n : ℕ). n + 1) read.counted;
  spells = record {
    is = read.spells.is
        ∙ ap (λ (xs : List ℕ). head_bytes d ++ records_bytes read.rows ++ xs) is
        ∙ append_assoc (head_bytes d) (records_bytes read.rows) (record_bytes row ++ rest)
        ∙ ap (λ (xs : List ℕ). head_bytes d ++ xs) (records-more read.rows row rest)
        ∙ sym (append_assoc (head_bytes d) (records_bytes (read.rows ++ row ∷ [])) rest);
    valid = (loaded_valid d.types (leveled d.block_size d.frspc d.types fit) read.rows row read.spells.valid fits).0 may-load;
  };
  last = last-is ∙ ap (λ (p : List Segment). next_path d.types p row) read.last ∙ sym (path-more d.types [] read.rows row);
  load = λ now. (let step = loaded (was now) read.rows (read.loaded (was now)) in
      load-more d largest read.rows old new row (read.load (was now)) fits may-load step.step (step.loaded.placed, step.loaded.rows_are, step.loaded.holds));
  loaded = λ now. (loaded (was now) read.rows (read.loaded (was now))).loaded;
}
  where
    may-load : load_fault d.types (last_path d.types read.rows) row ≡ None
    may-load = ap (λ (p : List Segment). load_fault d.types p row) (sym read.last) ∙ may

-- all records were read
pub read-all : (d : Database) (stream : List ℕ) (largest count : ℕ) (left : List ℕ) (path : List Placed) (v w : VolumeState) → IsReadTo d stream largest count left path v
    → left ≡ end_bytes count → count < 2 ^ 32 → w ≡ v → IsLoadedAll d stream largest count w
read-all d stream largest count left path v w read is few same = record {
  rows = read.rows;
  counted = sym read.counted;
  stream_of = record {
    spelled = read.spells.is
        ∙ ap (λ (xs : List ℕ). head_bytes d ++ records_bytes read.rows ++ xs) (is ∙ ap end_bytes (sym read.counted));
    valid = read.spells.valid;
    few = subst (λ (n : ℕ). n < 2 ^ 32) (sym read.counted) few;
  };
  load = subst (λ (u : VolumeState). IsTrue u.is_sound → IsLoad d largest read.rows u) (sym same) read.load;
}

-- the next record is refused
pub read-refused : (d : Database) (stream : List ℕ) (largest count : ℕ) (left : List ℕ) (path : List Placed) (v : VolumeState) (number : ℕ) (fault : RecordFault)
    → IsReadTo d stream largest count left path v → number ≡ count + 1 → ((rows : List Segment) → length rows ≡ count → record_fault d.types rows left ≡ Some fault)
    → IsRefusedAt d stream number fault
read-refused d stream largest count left path v number fault read is wrong =
    inr (read.rows, left, read.spells, is ∙ ap (λ (n : ℕ). n + 1) (sym read.counted), wrong read.rows read.counted)

-- a fault of the next row is one of the stream
pub row-refused : (d : Database) (stream : List ℕ) (largest count : ℕ) (left rest : List ℕ) (path : List Placed) (v : VolumeState) (row : Segment) (e : ReloadFault)
    → IsReadTo d stream largest count left path v → row_fits d.types row ≡ true → left ≡ record_bytes row ++ rest
    → ((rows : List Segment) → record_fault d.types rows left ≡ option_map refusal_of (load_fault d.types (last_path d.types rows) row))
    → IsFaultOfRow d (segments_of path) row (count + 1) v e → IsFaultOf d stream largest v.is_sound e
row-refused d stream largest count left rest path v row (Record fault n) read fits is faults wrong =
    inr (
      read.rows,
      left,
      read.spells,
      wrong.0 ∙ ap (λ (n : ℕ). n + 1) (sym read.counted),
      faults read.rows ∙ ap (λ (p : List Segment). option_map refusal_of (load_fault d.types p row)) (sym read.last) ∙ wrong.1,
    )
row-refused d stream largest count left rest path v row (Full n) read fits is faults wrong = λ sound. record {
  rows = read.rows;
  row = row;
  rest = rest;
  spells = record { is = read.spells.is ∙ ap (λ (xs : List ℕ). head_bytes d ++ records_bytes read.rows ++ xs) is; valid = read.spells.valid };
  number = wrong.0 ∙ ap (λ (n : ℕ). n + 1) (sym read.counted);
  fits = fits;
  may = ap (λ (p : List Segment). load_fault d.types p row) (sym read.last) ∙ wrong.1;
  last = v;
  load = read.load sound;
  room = wrong.2 sound;
}
row-refused d stream largest count left rest path v row Memory read fits is faults wrong = tt
row-refused d stream largest count left rest path v row Device read fits is faults wrong = tt

-- ---- the whole stream

-- what is said of a value, if there is one, holds of the value
pub at-some : {A : Type 0} (P : A → Type 0) (o : Option A) (x : A) → o ≡ Some x → IfSome o P → P x
at-some P None x e h = cc
at-some P (Some y) x e h = (let same : y ≡ x = cc in subst P same h)

-- what is said where there is none holds where there is none
pub at-none : {A P : Type 0} (o : Option A) → o ≡ None → IfNone o P → P
at-none None e h = h
at-none (Some x) e h = cc

-- nothing was read yet
pub read-none : (d : Database) (stream records : List ℕ) (largest : ℕ) (path : List Placed) (v : VolumeState) → stream ≡ head_bytes d ++ records
    → IsTrue (well_formed d.block_size d.frspc d.types) → path ≡ [] → v.size ≡ d.block_size → v.sizes ≡ stored_sizes d.types
    → (IsTrue v.is_sound → IsCreated d.name d.block_size largest v) → IsReadTo d stream largest 0 records path v
read-none d stream records largest path v is fit none size sizes new = record {
  rows = [];
  counted = refl;
  spells = record { is = is ∙ ap (λ (xs : List ℕ). xs ++ records) (sym (nothing-behind (head_bytes d))); valid = refl };
  last = ap segments_of none;
  load = λ sound. record { loadings = []; rows_are = refl; new = new sound; legal = (empty, refl, empty-holds d largest v fit size sizes (new sound)) };
  loaded = λ sound. record {
    later = λ one. (let three : (header_of v.image).version ≡ 3 = ap (λ (h : Header). h.version) (new sound).header in omega arith);
    placed = empty;
    holds = empty-holds d largest v fit size sizes (new sound);
    rows_are = refl;
    last = sym none;
  };
}
  where
    empty-holds : (d : Database) (largest : ℕ) (v : VolumeState) → IsTrue (well_formed d.block_size d.frspc d.types) → v.size ≡ d.block_size → v.sizes ≡ stored_sizes d.types
        → IsCreated d.name d.block_size largest v → HoldsPlaced d v empty
    empty-holds d largest v fit size sizes new = new-empty d v largest fit size sizes new

-- a record is longer than what follows it
pub rest-shorter : (row : Segment) (left rest : List ℕ) → left ≡ record_bytes row ++ rest → length rest < length left
rest-shorter row left rest is =
    (let l : length left ≡ length (record_bytes row) + length rest = ap (λ (xs : List ℕ). length xs) is ∙ length-append (record_bytes row) rest in
    let some : 0 < length (record_bytes row) = omega arith in
    omega arith)

-- nothing is left where as many bytes were read as there are records
pub none-left : (left : List ℕ) (count all : ℕ) → count + length left ≤ all → all ≤ count → left ≡ []
none-left [] count all short over = refl
none-left (x ∷ left) count all short over = absurd (omega arith)

-- a fault of a volume that is as sound as another
pub fault-sound : (d : Database) (stream : List ℕ) (largest : ℕ) (a b : Bool) (e : ReloadFault) → a ≡ b → IsFaultOf d stream largest a e → IsFaultOf d stream largest b e
fault-sound d stream largest a b e same h = subst (λ (s : Bool). IsFaultOf d stream largest s e) same h

-- the same, where the types were read apart
pub row-refused-of : (d : Database) (types : List SegmentType) → types ≡ d.types → (stream : List ℕ) (largest count : ℕ) (left rest : List ℕ) (path : List Placed) (v : VolumeState) (row : Segment) (e : ReloadFault)
    → IsReadTo d stream largest count left path v → row_fits types row ≡ true → left ≡ record_bytes row ++ rest
    → ((rows : List Segment) → record_fault types rows left ≡ option_map refusal_of (load_fault types (last_path types rows) row))
    → IsFaultOfRow d (segments_of path) row (count + 1) v e → IsFaultOf d stream largest v.is_sound e
row-refused-of d types same stream largest count left rest path v row e read fits is faults wrong =
    row-refused d stream largest count left rest path v row e read (subst (λ (ts : List SegmentType). row_fits ts row ≡ true) same fits) is
    (subst (λ (ts : List SegmentType). (rows : List Segment) → record_fault ts rows left ≡ option_map refusal_of (load_fault ts (last_path ts rows) row)) same faults) wrong

pub read-more-of : (d : Database) (types : List SegmentType) → types ≡ d.types → (stream : List ℕ) (largest count : ℕ) (left rest : List ℕ) (path after : List Placed) (old new : VolumeState) (row : Segment)
    → IsReadTo d stream largest count left path old → IsTrue (well_formed d.block_size d.frspc d.types) → row_fits types row ≡ true → left ≡ record_bytes row ++ rest
    → load_fault d.types (segments_of path) row ≡ None → segments_of after ≡ next_path d.types (segments_of path) row
    → (IsTrue new.is_sound → IsTrue old.is_sound) → (IsTrue old.is_sound → (rows : List Segment) → IsLoadedTo d rows path old → IsRowLoaded d old rows row after new)
    → IsReadTo d stream largest (count + 1) rest after new
read-more-of d types same stream largest count left rest path after old new row read fit fits is may last-is was loaded =
    read-more d stream largest count left rest path after old new row read fit (subst (λ (ts : List SegmentType). row_fits ts row ≡ true) same fits) is may last-is was loaded
