-- What is given of the rows on a path of a volume.
use Rattle.std.proofs.Common.{◌≡◌, ℕ, zero, suc, ◌+◌, ◌*◌, ◌<◌, ◌≤◌, List, [], ◌∷◌, ◌++◌, length, map, take, drop, cond, arith, refl, sym, ap, ap₂, ◌∙◌, subst}
use Rattle.std.specs.Prelude.{◌-◌, flat_map, slice_get, slice_index}
use Rattle.std.proofs.lemmas.Grind.{take_at_read}
use Rattle.std.proofs.lemmas.List.{length-append, length-take-le}
use Rattle.hd_dbd.specs.Types.{SegmentType}
use Rattle.hd_dbd.specs.Hierarchy.{Database, longest_path}
use Rattle.hd_dbd.specs.Segment.{Segment}
use Rattle.hd_dbd.specs.Rows.{key_of}
use Rattle.hd_dbd.specs.Paths.{row_at, level_at, path_above, path_of, keys_of}
use Rattle.hd_dbd.specs.Forest.{Forest}
use Rattle.hd_dbd.proofs.LevelLaw.{leveled}
use Rattle.hd_dbd.proofs.KeyLengths.{key_of_short}
use Rattle.hd_volume.specs.Volumes.{VolumeState}
use Rattle.hd_links.specs.Links.{Links, IsSegment, segment_at}
use Rattle.hd_links.specs.Placed.{Placed}
use Rattle.hd_links.specs.Steps.{rows_of, address_at, RowsHaveAddresses}
use Rattle.hd_links.proofs.Ways.{tip_end}
use Rattle.hd_links.proofs.Numbers.{rows_addressed}
use Rattle.hd_links.proofs.ValidRows.{held_valid}
use Rattle.hd_image.specs.Records.{links_of, IsVolumeOf}
use Rattle.hd_calls.specs.Gets.{bytes_of}
use Rattle.hd_forest.specs.Rows.{IsOnRow}
use Rattle.hd_forest.specs.Walks.{tip}
use Rattle.hd_position.specs.Kept.{row_on, Ascend, AreRowsOn}
use Rattle.hd_position.proofs.Splices.{AllBelow, below_more}
use Rattle.hd_position.proofs.Leaving.{passed_below}
use Rattle.hd_image.proofs.Found.{records-link}
use Rattle.hd_position.specs.Laws.{IsHeld}
use Rattle.hd_position.proofs.Before.{path_levels}
use Rattle.hd_session.specs.Giving.{HasRoom, with_row, is_among, bytes_at, with_path}
use Rattle.hd_session.proofs.Keys.{flat_map_push}
use Rattle.hd_session.proofs.PathBytes.{total, total_join, path_short}
use Rattle.hd_session.proofs.Given.{bytes_more, bytes_few, bytes_mapped, joined_mapped, total_mapped, bytes_taken, joined_short}

-- what is below a bound and read is below it
read_below : (b : ℕ) (xs : List ℕ) (n : ℕ) → AllBelow b xs → n < length xs → slice_index xs n < b
read_below b [] n all within = absurd (omega arith)
read_below b (x ∷ xs) zero all within = all.0
read_below b (x ∷ xs) (suc n) all within = read_below b xs n all.1 (omega arith)

read_mapped : (g : ℕ → ℕ) (xs : List ℕ) (n : ℕ) → n < length xs → slice_index (map g xs) n ≡ g (slice_index xs n)
read_mapped g [] n within = absurd (omega arith)
read_mapped g (x ∷ xs) zero within = refl
read_mapped g (x ∷ xs) (suc n) within = read_mapped g xs n (omega arith)

mapped_long : (g : ℕ → ℕ) (xs : List ℕ) → length (map g xs) ≡ length xs
mapped_long g [] = refl
mapped_long g (x ∷ xs) = ap suc (mapped_long g xs)

parts_at : (xs : List ℕ) (n : ℕ) → n < length xs → xs ≡ take n xs ++ slice_index xs n ∷ drop (suc n) xs
parts_at [] n within = absurd (omega arith)
parts_at (x ∷ xs) zero within = refl
parts_at (x ∷ xs) (suc n) within = ap (λ (ys : List ℕ). x ∷ ys) (parts_at xs n (omega arith))

-- one row more, at the level behind the others
pub path_more : (types : List SegmentType) (m : Links) (levels : List ℕ) (room : ℕ) (path : List ℕ) (n : ℕ) → n < length path
    → with_path types m levels room (take (n + 1) path) ≡ with_row types (is_among levels (n + 1)) (segment_at m (slice_index path n)) (with_path types m levels room (take n path))
path_more types m levels room path n within =
    let a : ℕ = slice_index path n in
    let front : List ℕ = take n path in
    let size : 1 + length front ≡ n + 1 = omega (arith, length-take-le n path) in
    ap (with_path types m levels room) (take_at_read path n 0 within).1
    ∙ ap₂ (λ (k b : List ℕ). record { key = k; area = b; room = room }) (flat_map_push (λ x. key_of types (segment_at m x)) front a)
    (bytes_more m.bytes levels 1 front a ∙ ap (λ l. bytes_at m.bytes levels 1 front ++ cond (is_among levels l) (m.bytes a) []) size)

-- one address more, and the path ends there
pub tip_more : (path : List ℕ) (n : ℕ) → n < length path → tip (take (n + 1) path) ≡ slice_index path n
tip_more path n within = ap tip (take_at_read path n 0 within).1 ∙ tip_end 0 (take n path) (slice_index path n)

module _ (d : Database) (v : VolumeState) (f : Forest Placed) (path : List ℕ) (i : ℕ) (of : IsVolumeOf d v) (on : IsOnRow d.types (links_of d.types v) f path i) where
  addressed : RowsHaveAddresses (links_of d.types v) f
  addressed = rows_addressed d.types (links_of d.types v) f on.holds

  below : AllBelow (length (rows_of f)) (path_of d.types (rows_of f) i)
  below = below_more (suc i) (length (rows_of f)) (path_of d.types (rows_of f) i) (omega (arith, on.within)) (passed_below d.types (rows_of f) (suc i))

  long : length path ≡ length (path_of d.types (rows_of f) i)
  long = ap (λ (xs : List ℕ). length xs) on.is ∙ mapped_long (address_at f) (path_of d.types (rows_of f) i)

  -- a row's path ends with the row
  pub path_some : 0 < length path
  path_some =
      let end : length (path_of d.types (rows_of f) i) ≡ length (path_above d.types (rows_of f) (level_at d.types (rows_of f) i) i) + 1
      = length-append (path_above d.types (rows_of f) (level_at d.types (rows_of f) i) i) (i ∷ []) in
      omega (arith, long, end)

  -- each address is that of a segment
  pub stored_on : (n : ℕ) → n < length path → IsSegment (links_of d.types v) (slice_index path n)
  stored_on n within =
      let inside : n < length (path_of d.types (rows_of f) i) = omega (arith, long) in
      subst (IsSegment (links_of d.types v)) (sym (ap (λ (xs : List ℕ). slice_index xs n) on.is ∙ read_mapped (address_at f) (path_of d.types (rows_of f) i) n inside))
      (addressed.there (slice_index (path_of d.types (rows_of f) i) n) (read_below (length (rows_of f)) (path_of d.types (rows_of f) i) n below inside))

  bytes_are : (k : ℕ) → k < length (rows_of f) → (links_of d.types v).bytes (address_at f k) ≡ (row_at (rows_of f) k).bytes
  bytes_are k within = ap (λ (r : Segment). r.bytes) (addressed.same k within)

  keys_are : (k : ℕ) → k < length (rows_of f) → key_of d.types (segment_at (links_of d.types v) (address_at f k)) ≡ key_of d.types (row_at (rows_of f) k)
  keys_are k within = ap (key_of d.types) (addressed.same k within)

  all_short : total (links_of d.types v).bytes path ≤ longest_path d.types
  all_short =
      let same : total (links_of d.types v).bytes path ≡ total (λ k. (row_at (rows_of f) k).bytes) (path_of d.types (rows_of f) i)
      = ap (total (links_of d.types v).bytes) on.is ∙ total_mapped (links_of d.types v).bytes (λ k. (row_at (rows_of f) k).bytes) (address_at f) (length (rows_of f)) bytes_are (path_of d.types (rows_of f) i) below in
      let levels = leveled d.block_size d.frspc d.types of.fit in
      let short : total (λ k. (row_at (rows_of f) k).bytes) (path_of d.types (rows_of f) i) ≤ longest_path d.types
      = path_short d.types (rows_of f) d.block_size d.frspc of.fit (held_valid d.types (links_of d.types v) f levels on.holds) i on.within in
      omega arith

  -- there is room for one row more
  pub room_on : (levels : List ℕ) (room n : ℕ) → length path ≤ 15 → longest_path d.types ≤ room → n < length path
      → HasRoom d.types (segment_at (links_of d.types v) (slice_index path n)) (with_path d.types (links_of d.types v) levels room (take n path))
  room_on levels room n few enough within =
      let a : ℕ = slice_index path n in
      let front : List ℕ = take n path in
      let size : length front ≤ n = omega (arith, length-take-le n path) in
      let own : length (key_of d.types (segment_at (links_of d.types v) a)) ≤ 255 = key_of_short d.block_size d.frspc d.types (segment_at (links_of d.types v) a) of.fit in
      let keys : length (flat_map (λ x. key_of d.types (segment_at (links_of d.types v) x)) front) ≤ 255 * length front
      = joined_short (λ x. key_of d.types (segment_at (links_of d.types v) x)) 255 (λ x. key_of_short d.block_size d.frspc d.types (segment_at (links_of d.types v) x) of.fit) front in
      let given : length (bytes_at (links_of d.types v).bytes levels 1 front) ≤ total (links_of d.types v).bytes front = bytes_few (links_of d.types v).bytes levels 1 front in
      let parts : total (links_of d.types v).bytes path ≡ total (links_of d.types v).bytes front + (length ((links_of d.types v).bytes a) + total (links_of d.types v).bytes (drop (suc n) path))
      = ap (total (links_of d.types v).bytes) (parts_at path n within) ∙ total_join (links_of d.types v).bytes front (a ∷ drop (suc n) path) in
      let all : total (links_of d.types v).bytes path ≤ longest_path d.types = all_short in
      record { key = omega arith; area = omega arith }

  -- the keys are those of the rows on the path, and the bytes those of the rows at the levels
  pub given_on : (levels taken : List ℕ) (room : ℕ) → AreRowsOn (path_of d.types (rows_of f) i) levels taken → Ascend 0 (length path) levels
      → with_path d.types (links_of d.types v) levels room path ≡ record { key = keys_of d.types (rows_of f) (path_of d.types (rows_of f) i); area = bytes_of (rows_of f) taken; room = room }
  given_on levels taken room rows up =
      let ns : List ℕ = path_of d.types (rows_of f) i in
      ap (with_path d.types (links_of d.types v) levels room) on.is
      ∙ ap₂ (λ (k b : List ℕ). record { key = k; area = b; room = room })
      (joined_mapped (λ x. key_of d.types (segment_at (links_of d.types v) x)) (λ k. key_of d.types (row_at (rows_of f) k)) (address_at f) (length (rows_of f)) keys_are ns below)
      (bytes_mapped (links_of d.types v).bytes (λ k. (row_at (rows_of f) k).bytes) (address_at f) (length (rows_of f)) levels bytes_are 1 ns below
      ∙ bytes_taken (λ k. (row_at (rows_of f) k).bytes) (row_on ns) ns 0 levels taken (on_level ns) (subst (λ n. Ascend 0 n levels) (long ∙ (let e : length ns ≡ 0 + length ns = omega arith in e)) up) rows)
    where
      on_level : (ns : List ℕ) (x : ℕ) → 0 < x → row_on ns x ≡ slice_get ns (x - (0 + 1))
      on_level ns zero some = absurd (omega arith)
      on_level ns (suc x) some = ap (slice_get ns) (let e : x ≡ suc x - (0 + 1) = omega arith in e)

  -- a path is as long as its row's level
  pub level_on : length path ≡ level_at d.types (rows_of f) i
  level_on =
      let H : IsHeld d.block_size d.frspc d.types (length v.image) (links_of d.types v) f = record { formed = of.fit; graph = records-link d v of.fit of; holds = on.holds } in
      ap (λ (xs : List ℕ). length xs) on.is ∙ (path_levels d.block_size d.frspc d.types (length v.image) (links_of d.types v) f i H on.within).0
