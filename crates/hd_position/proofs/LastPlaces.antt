-- The path of the last row of a forest: by its nodes, by its rows, and by what a load keeps.
use Rattle.std.proofs.Common.{◌≡◌, ℕ, zero, suc, ◌+◌, ◌-◌, ◌<◌, List, [], ◌∷◌, ◌++◌, length, take, true, refl, ap, ap₂, sym, ◌∙◌, subst, arith, Option, None}
use Rattle.std.specs.Prelude.{map, slice_index_or}
use Rattle.std.proofs.lemmas.List.{map-append, length-append, append_assoc, take_all, take_more}
use Rattle.hd_dbd.specs.Types.{SegmentType}
use Rattle.hd_dbd.specs.Hierarchy.{Database}
use Rattle.hd_dbd.specs.Segment.{Segment}
use Rattle.hd_dbd.specs.Rows.{level, row_fits}
use Rattle.hd_dbd.specs.Loads.{path_after, last_path}
use Rattle.hd_dbd.specs.Paths.{no_row, row_at, level_at}
use Rattle.hd_dbd.specs.Forest.{Forest, empty, node, sequence}
use Rattle.hd_dbd.proofs.LevelLaw.{Leveled, leveled, depth_below}
use Rattle.hd_volume.specs.Volumes.{VolumeState}
use Rattle.hd_links.specs.Links.{Links, IsLinkGraph}
use Rattle.hd_links.specs.Placed.{Placed, nowhere, with_node, NodesLie, Holds}
use Rattle.hd_links.specs.LastRows.{last_on, segments_of}
use Rattle.hd_links.specs.Steps.{rows_of, address_at, path_at}
use Rattle.hd_links.proofs.Numbers.{rows_map, rows_length}
use Rattle.hd_links.proofs.Types.{Ordered, ordered, above, above_some, code_some}
use Rattle.hd_links.proofs.Forms.{Formed, formed, segment_is}
use Rattle.hd_image.specs.Records.{links_of, IsVolumeOf}
use Rattle.hd_image.proofs.Found.{records-link}
use Rattle.hd_forest.proofs.Walking.{steps-found}
use Rattle.hd_position.specs.Kept.{path_before}
use Rattle.hd_position.specs.Volumes.{LastPathsAreKept}

-- ---- by nodes

-- the path behind some nodes that follow a path
abbrev placed_after : List SegmentType → List Placed → List Placed → List Placed
placed_after types path [] = path
placed_after types path (p ∷ ps) = placed_after types (take (level types p.segment - 1) path ++ p ∷ []) ps

after_both : (types : List SegmentType) (path xs ys : List Placed) → placed_after types path (xs ++ ys) ≡ placed_after types (placed_after types path xs) ys
after_both types path [] ys = refl
after_both types path (x ∷ xs) ys = after_both types (take (level types x.segment - 1) path ++ x ∷ []) xs ys

-- the segments on it are the path that a load keeps
after_segments : (types : List SegmentType) (path ps : List Placed) → segments_of (placed_after types path ps) ≡ path_after types (segments_of path) (segments_of ps)
after_segments types path [] = refl
after_segments types path (p ∷ ps) =
    after_segments types (take (level types p.segment - 1) path ++ p ∷ []) ps
    ∙ ap (λ (q : List Segment). path_after types q (segments_of ps))
    (map-append (λ (x : Placed). x.segment) (take (level types p.segment - 1) path) (p ∷ []) ∙ ap (λ (q : List Segment). q ++ p.segment ∷ []) (map_taken (level types p.segment - 1) path))
  where
    map_taken : (n : ℕ) (xs : List Placed) → map (λ (x : Placed). x.segment) (take n xs) ≡ take n (map (λ (x : Placed). x.segment) xs)
    map_taken zero xs = refl
    map_taken (suc n) [] = refl
    map_taken (suc n) (x ∷ xs) = ap (λ (q : List Segment). x.segment ∷ q) (map_taken n xs)

take_exact : (xs ys : List Placed) (n : ℕ) → length xs ≡ n → take n (xs ++ ys) ≡ xs
take_exact [] ys zero e = refl
take_exact [] ys (suc n) e = absurd (omega arith)
take_exact (x ∷ xs) ys zero e = absurd (omega arith)
take_exact (x ∷ xs) ys (suc n) e = ap (λ (zs : List Placed). x ∷ zs) (take_exact xs ys n (omega arith))

-- the path behind some nodes at a depth, which is that of the last of them
abbrev at_end : List Placed → ℕ → Forest Placed → List Placed
at_end path d empty = path
at_end path d (node r k n) = take d path ++ last_on (node r k n)

module _ (types : List SegmentType) (O : Ordered types) (L : Leveled types) (bound : ℕ) (m : Links) (G : IsLinkGraph types bound m) where
  row_has : (b : ℕ → ℕ) (r : Placed) (k n : Forest Placed) → NodesLie types m b (node r k n) → row_fits types r.segment ≡ true
  row_has b r k n s = ap (row_fits types) (sym (segment_is types m b r k n s.0)) ∙ G.fits r.address s.0.there

  node_level : (c : ℕ) (b : ℕ → ℕ) (r : Placed) (k n : Forest Placed) → NodesLie types m b (node r k n) → Formed types c (node r k n) → level types r.segment ≡ depth_below types (above c) + 1
  node_level c b r k n s F =
      L.law r.segment (row_has b r k n s) ∙ ap (λ (o : Option ℕ). depth_below types o + 1) (O.parent c r.segment (row_has b r k n s) F.0)

  -- the first of some nodes goes on the path at their depth
  first_on : (c : ℕ) (b : ℕ → ℕ) (r : Placed) (k n : Forest Placed) (path : List Placed) (d : ℕ) → NodesLie types m b (node r k n) → Formed types c (node r k n) → d ≡ depth_below types (above c)
      → take (level types r.segment - 1) path ++ r ∷ [] ≡ take d path ++ r ∷ []
  first_on c b r k n path d s F at =
      let own : level types r.segment ≡ depth_below types (above c) + 1 = node_level c b r k n s F in
      ap (λ (l : ℕ). take l path ++ r ∷ []) (let e : level types r.segment - 1 ≡ d = omega arith in e)

  -- below it the depth is one more
  deeper : (c : ℕ) (b : ℕ → ℕ) (r : Placed) (k n : Forest Placed) (d : ℕ) → NodesLie types m b (node r k n) → Formed types c (node r k n) → d ≡ depth_below types (above c)
      → suc d ≡ depth_below types (above r.segment.code)
  deeper c b r k n d s F at =
      let own : level types r.segment ≡ depth_below types (above c) + 1 = node_level c b r k n s F in
      let same : depth_below types (above r.segment.code) ≡ level types r.segment
      = ap (λ (o : Option ℕ). depth_below types o) (above_some r.segment.code (code_some types r.segment (row_has b r k n s))) in
      omega arith

  long_first : (r : Placed) (path : List Placed) (d : ℕ) → length (take d path) ≡ d → length (take d path ++ r ∷ []) ≡ suc d
  long_first r path d long = (let e : length (take d path ++ r ∷ []) ≡ length (take d path) + 1 = length-append (take d path) (r ∷ []) in omega arith)

  whole_first : (r : Placed) (path : List Placed) (d : ℕ) → length (take d path) ≡ d → take (suc d) (take d path ++ r ∷ []) ≡ take d path ++ r ∷ []
  whole_first r path d long = take_all (suc d) (take d path ++ r ∷ []) (let e : length (take d path ++ r ∷ []) ≡ suc d = long_first r path d long in omega arith)

  -- behind some nodes of one parent the path is that of the last of them, and of the last below it
  ends : (c : ℕ) (b : ℕ → ℕ) (K : Forest Placed) (path : List Placed) (d : ℕ) → NodesLie types m b K → Formed types c K → d ≡ depth_below types (above c)
      → length (take d path) ≡ d → placed_after types path (sequence K) ≡ at_end path d K
  ends c b empty path d s F at long = refl
  ends c b (node r empty empty) path d s F at long = first_on c b r empty empty path d s F at
  ends c b (node r empty (node t u v)) path d s F at long =
      let p : List Placed = take d path ++ r ∷ [] in
      let same : take d p ≡ take d path = take_exact (take d path) (r ∷ []) d long in
      ap (λ (q : List Placed). placed_after types q (sequence (node t u v))) (first_on c b r empty (node t u v) path d s F at)
      ∙ ends c (with_node b r) (node t u v) p d s.2 F.3 at (ap (λ (q : List Placed). length q) same ∙ long)
      ∙ ap (λ (q : List Placed). q ++ last_on (node t u v)) same
  ends c b (node r (node t u v) empty) path d s F at long =
      let p : List Placed = take d path ++ r ∷ [] in
      after_both types (take (level types r.segment - 1) path ++ r ∷ []) (sequence (node t u v)) []
      ∙ ap (λ (q : List Placed). placed_after types q (sequence (node t u v))) (first_on c b r (node t u v) empty path d s F at)
      ∙ ends r.segment.code nowhere (node t u v) p (suc d) s.1 F.2 (deeper c b r (node t u v) empty d s F at) (ap (λ (q : List Placed). length q) (whole_first r path d long) ∙ long_first r path d long)
      ∙ ap (λ (q : List Placed). q ++ last_on (node t u v)) (whole_first r path d long)
      ∙ append_assoc (take d path) (r ∷ []) (last_on (node t u v))
  ends c b (node r (node t u v) (node w x y)) path d s F at long =
      let p : List Placed = take d path ++ r ∷ [] in
      let low : List Placed = take d path ++ r ∷ last_on (node t u v) in
      let same : take d low ≡ take d path = take_exact (take d path) (r ∷ last_on (node t u v)) d long in
      after_both types (take (level types r.segment - 1) path ++ r ∷ []) (sequence (node t u v)) (sequence (node w x y))
      ∙ ap (λ (q : List Placed). placed_after types (placed_after types q (sequence (node t u v))) (sequence (node w x y))) (first_on c b r (node t u v) (node w x y) path d s F at)
      ∙ ap (λ (q : List Placed). placed_after types q (sequence (node w x y)))
      (ends r.segment.code nowhere (node t u v) p (suc d) s.1 F.2 (deeper c b r (node t u v) (node w x y) d s F at) (ap (λ (q : List Placed). length q) (whole_first r path d long) ∙ long_first r path d long)
      ∙ ap (λ (q : List Placed). q ++ last_on (node t u v)) (whole_first r path d long)
      ∙ append_assoc (take d path) (r ∷ []) (last_on (node t u v)))
      ∙ ends c (with_node b r) (node w x y) low d s.2 F.3 at (ap (λ (q : List Placed). length q) same ∙ long)
      ∙ ap (λ (q : List Placed). q ++ last_on (node w x y)) same

  -- the path of the last row
  pub last_is : (f : Forest Placed) → Holds types m f → last_on f ≡ placed_after types [] (sequence f)
  last_is empty H = refl
  last_is (node r k n) H = sym (ends 0 nowhere (node r k n) [] 0 H.lies.nodes (formed types O 0 None (node r k n) H.fits) (omega arith) refl)

-- ---- by rows

-- what stands at no number
abbrev no_node : Placed
no_node = record { address = 0; segment = no_row }

got_mapped : {A : Type 0} (g : Placed → A) (xs : List Placed) (i : ℕ) → slice_index_or (map g xs) i (g no_node) ≡ g (slice_index_or xs i no_node)
got_mapped g [] i = refl
got_mapped g (x ∷ xs) zero = refl
got_mapped g (x ∷ xs) (suc i) = got_mapped g xs i

map_taken : {A : Type 0} (g : Placed → A) (n : ℕ) (xs : List Placed) → map g (take n xs) ≡ take n (map g xs)
map_taken g zero xs = refl
map_taken g (suc n) [] = refl
map_taken g (suc n) (x ∷ xs) = ap (λ (q : List _). g x ∷ q) (map_taken g n xs)

module _ (d : Database) (v : VolumeState) (f : Forest Placed) (of : IsVolumeOf d v) (holds : Holds d.types (links_of d.types v) f) where
  abbrev so_far : ℕ → List ℕ
  so_far i = map (λ (p : Placed). p.address) (placed_after d.types [] (take i (sequence f)))

  -- one row more
  one_more : (i : ℕ) → i < length (rows_of f) → so_far (i + 1) ≡ take (level_at d.types (rows_of f) i - 1) (so_far i) ++ address_at f i ∷ []
  one_more i within =
      let x : Placed = slice_index_or (sequence f) i no_node in
      let path : List Placed = placed_after d.types [] (take i (sequence f)) in
      let size : length (rows_of f) ≡ length (sequence f) = rows_length f in
      let row : row_at (rows_of f) i ≡ x.segment = ap (λ (rows : List Segment). slice_index_or rows i no_row) (rows_map f) ∙ got_mapped (λ (p : Placed). p.segment) (sequence f) i in
      ap (λ (ps : List Placed). map (λ (p : Placed). p.address) (placed_after d.types [] ps)) (take_more (sequence f) i no_node (omega arith))
      ∙ ap (λ (ps : List Placed). map (λ (p : Placed). p.address) ps) (after_both d.types [] (take i (sequence f)) (x ∷ []))
      ∙ map-append (λ (p : Placed). p.address) (take (level d.types x.segment - 1) path) (x ∷ [])
      ∙ ap₂ (λ (front : List ℕ) (a : ℕ). front ++ a ∷ []) (map_taken (λ (p : Placed). p.address) (level d.types x.segment - 1) path) (sym (got_mapped (λ (p : Placed). p.address) (sequence f) i))
      ∙ ap (λ (r : Segment). take (level d.types r - 1) (so_far i) ++ address_at f i ∷ []) (sym row)

  path_so_far : (i : ℕ) → i < length (rows_of f) → path_at d.types f i ≡ so_far (i + 1)
  path_so_far zero within = ap (λ (front : List ℕ). front ++ address_at f 0 ∷ []) (sym (none (level_at d.types (rows_of f) 0 - 1))) ∙ sym (one_more 0 within)
    where
      none : (n : ℕ) → take {A = ℕ} n [] ≡ []
      none zero = refl
      none (suc n) = refl
  path_so_far (suc i) within =
      let low : i < length (rows_of f) = omega arith in
      let next : i + 1 ≡ suc i = omega arith in
      let step : path_at d.types f (suc i) ≡ take (level_at d.types (rows_of f) (suc i) - 1) (path_at d.types f i) ++ address_at f (suc i) ∷ []
      = subst (λ (j : ℕ). path_at d.types f j ≡ take (level_at d.types (rows_of f) j - 1) (path_at d.types f i) ++ address_at f j ∷ []) next ((steps-found d v f of.fit of holds i low).next_path (omega arith)) in
      step
      ∙ ap (λ (front : List ℕ). take (level_at d.types (rows_of f) (suc i) - 1) front ++ address_at f (suc i) ∷ []) (path_so_far i low ∙ ap so_far next)
      ∙ sym (one_more (suc i) within)

  -- behind all rows
  whole : (n : ℕ) → n ≡ length (rows_of f) → path_before d.types f n ≡ so_far n
  whole zero e = refl
  whole (suc i) e = path_so_far i (omega arith) ∙ ap so_far (let next : i + 1 ≡ suc i = omega arith in next)

  pub last_addresses : path_before d.types f (length (rows_of f)) ≡ map (λ p. p.address) (last_on f)
  last_addresses =
      let G = records-link d v of.fit of in
      whole (length (rows_of f)) refl
      ∙ ap (λ (ps : List Placed). map (λ (p : Placed). p.address) (placed_after d.types [] ps)) (take_all (length (rows_of f)) (sequence f) (let e : length (rows_of f) ≡ length (sequence f) = rows_length f in omega arith))
      ∙ ap (λ (ps : List Placed). map (λ (p : Placed). p.address) ps) (sym (last_is d.types (ordered d.block_size d.frspc d.types of.fit) (leveled d.block_size d.frspc d.types of.fit) (length v.image) (links_of d.types v) G f holds))

  pub last_segments : segments_of (last_on f) ≡ last_path d.types (rows_of f)
  last_segments =
      let G = records-link d v of.fit of in
      ap segments_of (last_is d.types (ordered d.block_size d.frspc d.types of.fit) (leveled d.block_size d.frspc d.types of.fit) (length v.image) (links_of d.types v) G f holds)
      ∙ after_segments d.types [] (sequence f) ∙ ap (last_path d.types) (sym (rows_map f))

pub last_paths : LastPathsAreKept
last_paths d v f of holds = (last_addresses d v f of holds, last_segments d v f of holds)
