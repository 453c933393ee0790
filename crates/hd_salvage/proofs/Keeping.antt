-- A row that is kept: it is a record of the volume, and the rows that were kept are valid with it.
use Rattle.std.proofs.Common.{◌≡◌, ◌≢◌, ℕ, suc, ◌+◌, ◌*◌, ◌/◌, ◌%◌, ◌<◌, ◌^◌, List, [], ◌∷◌, ◌++◌, length, get_or, set, Bool, true, false, inl, inr, Option, Some, None, refl, sym, ap, ap₂, subst, ◌∙◌, arith}
use Rattle.std.specs.Prelude.{All, option_map}
use Rattle.std.specs.Io.KnownBytes.{Appends}
use Rattle.std.proofs.KnownBytes.{Appends-trans}
use Rattle.std.proofs.lemmas.Nat.{div-mul-add, mod-mul-add}
use Rattle.std.proofs.lemmas.Bool.{cases_eq}
use Rattle.std.proofs.lemmas.List.{append_assoc, append-nil, length-append, length-map, map-append, get_or-set_same, get_or-set_other}
use Rattle.std.proofs.lemmas.List.Quantifiers.{all_pairs_push}
use Rattle.std.proofs.lemmas.List.Elements.{All-push}
use Rattle.hd_bytes.specs.Ranges.{bytes_at}
use Rattle.hd_bytes.proofs.BlockLemmas.{length-block}
use Rattle.hd_dbd.specs.Types.{SegmentType}
use Rattle.hd_dbd.specs.Hierarchy.{Database}
use Rattle.hd_dbd.specs.Segment.{Segment}
use Rattle.hd_links.specs.Placed.{Placed}
use Rattle.hd_links.specs.LastRows.{segments_of}
use Rattle.hd_dbd.specs.Rows.{valid_from, next_path}
use Rattle.hd_dbd.specs.Loads.{path_after, load_fault}
use Rattle.hd_dbd.proofs.LevelLaw.{leveled}
use Rattle.hd_dbd.proofs.Loading.{loaded_valid}
use Rattle.hd_volume.specs.Volumes.{VolumeState, block_at, kind_of}
use Rattle.hd_volume.specs.Records.{find, segment_in}
use Rattle.hd_volume.proofs.MapLemmas.{find-in}
use Rattle.hd_unload.specs.Streams.{head_bytes, record_bytes, records_bytes, end_bytes}
use Rattle.hd_salvage.specs.declared.record.Record.{Record}
use Rattle.hd_salvage.specs.Records.{IsRecordAt, IsNoted}
use Rattle.hd_salvage.specs.Streams.{IsSalvaged, IsKeptTo, IsMarked, WritesRow, KeepsOn, row_in}

-- where a segment that was noted stands
abbrev pub placed_in : Database → VolumeState → Record → Placed
placed_in d v r = record { address = r.block * v.size + r.place; segment = row_in d (block_at v r.block) r }

-- the row of a segment that was noted is a record of the volume
noted-record : (d : Database) (v : VolumeState) (r : Record) → IsNoted v r → IsRecordAt d v (placed_in d v r)
noted-record d v r n =
    let a : ℕ = r.block * v.size + r.place in
    let inside : r.place < v.size = (let long = length-block v.size r.block v.image n.there in let at = n.noted.inside in omega arith) in
    let div : a / v.size ≡ r.block = div-mul-add r.block v.size r.place inside in
    let rest : a % v.size ≡ r.place = mod-mul-add r.block v.size r.place inside in
    let later : a / v.size ≢ 0 = λ e. (let some = n.later in omega arith) in
    let kind : kind_of (block_at v (a / v.size)) ≡ 1 = ap (λ (m : ℕ). kind_of (block_at v m)) div ∙ n.noted.kind in
    record {
      stored = bytes_at (block_at v r.block) r.place r.size;
      there = find-in v a later kind
          ∙ ap₂ (λ (m q : ℕ). segment_in v.sizes (block_at v m) q) div rest
          ∙ ap (option_map (λ m. bytes_at (block_at v r.block) r.place m)) n.noted.used;
      is = refl;
    }

-- the path of rows with one more
path-more : (types : List SegmentType) (path rows : List Segment) (new : Segment) → path_after types path (rows ++ new ∷ []) ≡ next_path types (path_after types path rows) new
path-more types path [] new = refl
path-more types path (r ∷ rows) new = path-more types (next_path types path r) rows new

-- the records of rows with one more
records-one : (rows : List Segment) (new : Segment) → records_bytes (rows ++ new ∷ []) ≡ records_bytes rows ++ record_bytes new
records-one [] new = append-nil (record_bytes new)
records-one (r ∷ rows) new = ap (λ (xs : List ℕ). record_bytes r ++ xs) (records-one rows new) ∙ sym (append_assoc (record_bytes r) (records_bytes rows) (record_bytes new))

-- behind the head no row is kept
pub kept-none : (d : Database) (v : VolumeState) (before now : Option (List ℕ)) (path : List Segment) (marks : List Bool) → path ≡ [] → Appends before now (head_bytes d) → IsKeptTo d v before now path marks 0
kept-none d v before now path marks none head = record {
  placed = [];
  valid = refl;
  records = λ k x l. absurd (omega arith);
  once = λ i j x l m. absurd (omega arith);
  marked = λ k x l. absurd (omega arith);
  stream = subst (Appends before now) (sym (append-nil (head_bytes d))) head;
  last = none;
  counted = refl;
}

-- a mark that was made is there, and those that were stay
still-marked : (marks : List Bool) (at : ℕ) (p : Placed) → at < length marks → IsMarked marks p → IsMarked (set marks at true) p
still-marked marks at p inside was = elim (cases_eq (p.address / 8) at) [
  | inl same ↦ subst (λ (i : ℕ). get_or (set marks at true) i false ≡ true) (sym same) (get_or-set_same marks at true false inside)
  | inr other ↦ get_or-set_other marks at (p.address / 8) true false other ∙ was
]

-- what is marked is not at an address of which the mark is free
apart : (marks : List Bool) (a : ℕ) (p : Placed) → get_or marks (a / 8) false ≡ false → IsMarked marks p → p.address ≢ a
apart marks a p free was same = (let both : true ≡ false = sym was ∙ ap (λ (x : ℕ). get_or marks (x / 8) false) same ∙ free in cc)

-- a row that was written, and is that of a segment that was noted, of which the mark was free, is one more
pub kept-more : (d : Database) (v : VolumeState) (r : Record) (now then : Option (List ℕ)) (path path_then : List Segment) (marks marks_then : List Bool) (at count more : ℕ) → IsNoted v r
    → at ≡ (r.block * v.size + r.place) / 8 → at < length marks → get_or marks at false ≡ false → marks_then ≡ set marks at true → more ≡ count + 1
    → WritesRow d path (row_in d (block_at v r.block) r) now then path_then → KeepsOn d v now path marks count then path_then marks_then more
kept-more d v r now then path path_then marks marks_then at count more noted at-is inside free set-is more-is w before k =
    let p : Placed = placed_in d v r in
    let rows : List Segment = segments_of k.placed in
    let leveled = leveled d.block_size d.frspc d.types w.formed in
    let may : load_fault d.types (path_after d.types [] rows) p.segment ≡ None = ap (λ (xs : List Segment). load_fault d.types xs p.segment) (sym k.last) ∙ w.may in
    let segments : segments_of (k.placed ++ p ∷ []) ≡ rows ++ p.segment ∷ [] = map-append (λ (q : Placed). q.segment) k.placed (p ∷ []) in
    let own-free : get_or marks (p.address / 8) false ≡ false = ap (λ (i : ℕ). get_or marks i false) (sym at-is) ∙ free in
    record {
      placed = k.placed ++ p ∷ [];
      valid = ap (λ (xs : List Segment). valid_from d.types [] xs) segments ∙ (loaded_valid d.types leveled rows p.segment k.valid w.fits).0 may;
      records = All-push (IsRecordAt d v) k.placed p k.records (noted-record d v r noted);
      once = all_pairs_push (λ (x y : Placed). x.address ≢ y.address) k.placed p k.once (λ i x l. apart marks p.address (get_or k.placed i x) own-free (k.marked i x l));
      marked = subst (λ (ms : List Bool). All (IsMarked ms) (k.placed ++ p ∷ [])) (sym set-is)
          (All-push (IsMarked (set marks at true)) k.placed p (λ i x l. still-marked marks at (get_or k.placed i x) inside (k.marked i x l))
          (subst (λ (i : ℕ). get_or (set marks at true) i false ≡ true) at-is (get_or-set_same marks at true false inside)));
      stream = subst (Appends before then)
          (append_assoc (head_bytes d) (records_bytes rows) (record_bytes p.segment)
          ∙ ap (λ (xs : List ℕ). head_bytes d ++ xs) (sym (records-one rows p.segment))
          ∙ ap (λ (xs : List Segment). head_bytes d ++ records_bytes xs) (sym segments))
          (Appends-trans before now then (head_bytes d ++ records_bytes rows) (record_bytes p.segment) k.stream w.written);
      last = w.next ∙ ap (λ (xs : List Segment). next_path d.types xs p.segment) k.last ∙ sym (path-more d.types [] rows p.segment) ∙ ap (λ (xs : List Segment). path_after d.types [] xs) (sym segments);
      counted = (let is = k.counted in let long = length-append k.placed (p ∷ []) in omega arith);
    }

-- with the end behind them, the rows that were kept are a salvage
pub kept-all : (d : Database) (v : VolumeState) (before now after : Option (List ℕ)) (path : List Segment) (marks : List Bool) (count : ℕ) → count < 2 ^ 32 → IsKeptTo d v before now path marks count
    → Appends now after (end_bytes count) → IsSalvaged d v before after count
kept-all d v before now after path marks count few k end =
    let rows : List Segment = segments_of k.placed in
    let long : length rows ≡ length k.placed = length-map k.placed (λ (p : Placed). p.segment) in
    let counted : count ≡ length rows = k.counted ∙ sym long in
    record {
      placed = k.placed;
      valid = k.valid;
      records = k.records;
      once = k.once;
      few = (let is = k.counted in omega arith);
      stream = (Appends-trans before now after (head_bytes d ++ records_bytes rows) (end_bytes (length rows)) k.stream (subst (λ (n : ℕ). Appends now after (end_bytes n)) counted end));
      segments_are = k.counted;
    }
