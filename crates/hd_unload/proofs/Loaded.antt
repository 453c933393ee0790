-- A row that is linked behind the last row of a volume.
use Rattle.std.proofs.Common.{◌≡◌, ℕ, ◌+◌, ◌-◌, ◌<◌, ◌≤◌, List, [], ◌∷◌, ◌++◌, length, take, true, false, ◌==◌, IsTrue, None, refl, sym, ap, subst, ◌∙◌, arith, ne_eqb}
use Rattle.std.specs.Prelude.{map}
use Rattle.std.proofs.lemmas.Bool.{cond-false, or_right, false≢true}
use Rattle.std.proofs.lemmas.List.{take-map}
use Rattle.hd_dbd.specs.declared.hierarchy.FreeSpace.{FreeSpace}
use Rattle.hd_dbd.specs.Types.{SegmentType}
use Rattle.hd_dbd.specs.Hierarchy.{Database, parent_of}
use Rattle.hd_dbd.specs.DatabaseRules.{well_formed}
use Rattle.hd_dbd.specs.Segment.{Segment}
use Rattle.hd_dbd.specs.Rows.{row_fits, level, next_path}
use Rattle.hd_dbd.specs.Loads.{load_fault}
use Rattle.hd_dbd.specs.Forest.{Forest, sequence}
use Rattle.hd_dbd.proofs.LevelLaw.{leveled, depth_below}
use Rattle.hd_volume.specs.Headers.{Header}
use Rattle.hd_volume.specs.Volumes.{VolumeState}
use Rattle.hd_volume.specs.Rooms.{spare}
use Rattle.hd_links.specs.Links.{Links, IsSegment, segment_at, is_child_type}
use Rattle.hd_links.specs.Placed.{Placed}
use Rattle.hd_links.specs.Changes.{Agree, linked, with_leaf}
use Rattle.hd_links.specs.Steps.{rows_of}
use Rattle.hd_links.specs.LastRows.{last_on, segments_of, parent_on_path, twin_on_path, IsLoadedLast}
use Rattle.hd_links.proofs.Types.{ordered}
use Rattle.hd_links.proofs.LastPath.{loaded}
use Rattle.hd_links.proofs.Numbers.{map_end, rows_map}
use Rattle.hd_image.specs.Records.{links_of}
use Rattle.hd_image.specs.Holding.{HoldsPlaced}
use Rattle.hd_image.proofs.Found.{records-link}
use Rattle.hd_image.proofs.Roots.{header-child}
use Rattle.hd_forest.specs.Updates.{MayLink, IsLinked}
use Rattle.hd_index.proofs.ChangeLemmas.{later-same}
use Rattle.hd_changes.proofs.Volumes.{linked-below}
use Rattle.hd_unload.specs.Loads.{IsLoadStep}
use Rattle.hd_unload.specs.Steps.{IsLoadedTo, IsRowLoaded}

-- ---- records that agree

-- The segment at an address stays.
abbrev pub Stays : Links → Links → ℕ → Type 0
Stays m m2 a = IsSegment m2 a × (segment_at m2 a ≡ segment_at m a)

-- it does where records agree
pub stays-agree : (types : List SegmentType) (m m2 : Links) → Agree types m m2 → (a : ℕ) → IsSegment m a → Stays m m2 a
stays-agree types m m2 A a s = (
  record { some = s.some; here = (A a).here ∙ s.here },
  λ i. record { code = (A a).code s.here i; bytes = (A a).bytes s i },
)

-- also where a leaf is linked at another
pub stays-linked : (types : List SegmentType) (m m2 : Links) (h y : ℕ) (p : Placed) → m.here p.address ≡ false → Agree types (linked m h y p) m2 → (a : ℕ) → IsSegment m a → Stays m m2 a
stays-linked types m m2 h y p free A a s =
    let other : a ≡ p.address → ⊥ = λ (e : a ≡ p.address). false≢true (sym free ∙ sym (ap m.here e) ∙ s.here) in
    let apart : a == p.address ≡ false = ne_eqb a p.address other in
    let there : IsSegment (linked m h y p) a = record { some = s.some; here = or_right (a == p.address) (m.here a) s.here } in
    let kept : Stays (linked m h y p) m2 a = stays-agree types (linked m h y p) m2 A a there in (
      kept.0,
      kept.1 ∙ (λ i. record { code = cond-false (a == p.address) p.segment.code (m.code a) apart i; bytes = cond-false (a == p.address) p.segment.bytes (m.bytes a) apart i }),
    )

-- ---- where a row goes in

-- a row that may be loaded comes last
pub comes-last : (d : Database) (v : VolumeState) (f : Forest Placed) (row : Segment) (a : ℕ) → HoldsPlaced d v f → row_fits d.types row ≡ true
    → load_fault d.types (segments_of (last_on f)) row ≡ None → (links_of d.types v).here a ≡ false
    → IsLoadedLast d.types (links_of d.types v) f (parent_on_path d.types (last_on f) row) (twin_on_path d.types (last_on f) row) (record { address = a; segment = row })
comes-last d v f row a H fits may free =
    loaded d.types (ordered d.block_size d.frspc d.types H.volume.fit) (leveled d.block_size d.frspc d.types H.volume.fit) (length v.image) (links_of d.types v)
    (records-link d v H.volume.fit H.volume) f H.records (record { address = a; segment = row }) fits may free (parent_of d.types row.code) refl

-- also behind the last row of a path, below its parent and behind its twin there
pub last-at : (d : Database) (v : VolumeState) (rows : List Segment) (path : List Placed) (row : Segment) (h y a : ℕ) (L : IsLoadedTo d rows path v) → row_fits d.types row ≡ true
    → load_fault d.types (segments_of path) row ≡ None → h ≡ parent_on_path d.types path row → y ≡ twin_on_path d.types path row → (links_of d.types v).here a ≡ false
    → IsLoadedLast d.types (links_of d.types v) L.placed h y (record { address = a; segment = row })
last-at d v rows path row h y a L fits may parent twin free =
    let m : Links = links_of d.types v in
    let p : Placed = record { address = a; segment = row } in
    let own = comes-last d v L.placed row a L.holds fits (ap (λ q. load_fault d.types (segments_of q) row) L.last ∙ may) free in
    subst (λ (x : ℕ). IsLoadedLast d.types m L.placed x y p) (ap (λ q. parent_on_path d.types q row) L.last ∙ sym parent)
    (subst (λ (x : ℕ). IsLoadedLast d.types m L.placed (parent_on_path d.types (last_on L.placed) row) x p) (ap (λ q. twin_on_path d.types q row) L.last ∙ sym twin) own)

-- so it may be linked there
pub may-link : (d : Database) (v : VolumeState) (row : Segment) (h y : ℕ) → row_fits d.types row ≡ true
    → ((rows : List Segment) × (path : List Placed) × IsLoadedTo d rows path v × (load_fault d.types (segments_of path) row ≡ None)
    × (h ≡ parent_on_path d.types path row) × (y ≡ twin_on_path d.types path row))
    → MayLink d.types (links_of d.types v) h y row
may-link d v row h y fits L a free = (last-at d v L.0 L.1 row h y a L.2 fits L.3 L.4 L.5 free).may

-- ---- a volume in which a row was linked behind the last

module _ (d : Database) (v w : VolumeState) (f : Forest Placed) (h y a : ℕ) (row : Segment) (H : HoldsPlaced d v f)
    (E : IsLoadedLast d.types (links_of d.types v) f h y (record { address = a; segment = row })) (I : IsLinked d v h y row a w) where
  -- the leaf, and the forest with it
  abbrev leaf : Placed
  leaf = record { address = a; segment = row }

  abbrev grown : Forest Placed
  grown = with_leaf h y leaf f

  -- the rows have it last
  pub rows-grown : rows_of grown ≡ rows_of f ++ row ∷ []
  rows-grown =
      rows_map grown ∙ ap (λ (ps : List Placed). map (λ p. p.segment) ps) E.rows ∙ map_end (λ (p : Placed). p.segment) (sequence f) leaf
      ∙ ap (λ (rows : List Segment). rows ++ row ∷ []) (sym (rows_map f))

  -- all segments stay
  pub segments-kept : (b : ℕ) → IsSegment (links_of d.types v) b → Stays (links_of d.types v) (links_of d.types w) b
  segments-kept = stays-linked d.types (links_of d.types v) (links_of d.types w) h y leaf I.free I.records

  -- and no more blocks were taken than the row may need
  pub linked-step : IsLoadStep d v row w
  linked-step = record {
    version = ap (λ (x : Header). x.version) I.rest.header;
    largest = ap (λ (x : Header). x.largest) I.rest.header;
    stays = segments-kept;
    room = (let less : spare v ≤ spare w + 1 = I.spares in omega arith);
  }

-- ---- a row that is no root

-- it has a parent
pub parent-some : (d : Database) (v : VolumeState) (h y : ℕ) (p : Placed) (f : Forest Placed) → HoldsPlaced d v f → IsLoadedLast d.types (links_of d.types v) f h y p
    → (p.segment.code ≡ 1 → ⊥) → h ≡ 0 → ⊥
parent-some d v h y p f H E dependent none =
    dependent (header-child d.types v p.segment.code (ap (λ (b : ℕ). is_child_type d.types ((links_of d.types v).code b) p.segment.code) (sym none) ∙ E.may.typed))

-- it is loaded once it is linked
pub dependent-loaded : (d : Database) (v w : VolumeState) (h y a : ℕ) (row : Segment) → (row.code ≡ 1 → ⊥) → row_fits d.types row ≡ true → IsLinked d v h y row a w
    → (rows : List Segment) (path : List Placed) → IsLoadedTo d rows path v → load_fault d.types (segments_of path) row ≡ None
    → h ≡ parent_on_path d.types path row → y ≡ twin_on_path d.types path row
    → IsRowLoaded d v rows row (take (level d.types row - 1) path ++ record { address = a; segment = row } ∷ []) w
dependent-loaded d v w h y a row dependent fits I rows path L may parent twin =
    let p : Placed = record { address = a; segment = row } in
    let E = last-at d v rows path row h y a L fits may parent twin I.free in
    record {
      loaded = record {
        later = later-same v w (ap (λ (x : Header). x.version) I.rest.header) L.later;
        placed = with_leaf h y p L.placed;
        holds = linked-below d v w L.placed h y a row L.holds (parent-some d v h y p L.placed L.holds E dependent) I;
        rows_are = rows-grown d v w L.placed h y a row L.holds E I ∙ ap (λ (rs : List Segment). rs ++ row ∷ []) L.rows_are;
        last = E.last ∙ ap (λ (q : List Placed). take (level d.types row - 1) q ++ p ∷ []) L.last;
      };
      step = linked-step d v w L.placed h y a row L.holds E I;
    }

-- ---- the path of a row

-- a row stands at some level
pub level-some : (block_size : ℕ) (frspc : FreeSpace) (types : List SegmentType) (row : Segment) → IsTrue (well_formed block_size frspc types) → row_fits types row ≡ true → 0 < level types row
level-some block_size frspc types row fit fits =
    (let law : level types row ≡ depth_below types (parent_of types row.code) + 1 = (leveled block_size frspc types fit).law row fits in omega arith)

-- a path that goes on at a level goes on at the row's, where that is the level
pub path-at : (types : List SegmentType) (path new : List Placed) (p : Placed) (n : ℕ) → new ≡ take (n - 1) path ++ p ∷ [] → n ≡ level types p.segment
    → new ≡ take (level types p.segment - 1) path ++ p ∷ []
path-at types path new p n stepped at = stepped ∙ ap (λ (k : ℕ). take (k - 1) path ++ p ∷ []) at

-- a path that goes on at a row's level is the path of the row
pub path-stepped : (types : List SegmentType) (path new : List Placed) (p : Placed) → new ≡ take (level types p.segment - 1) path ++ p ∷ []
    → segments_of new ≡ next_path types (segments_of path) p.segment
path-stepped types path new p stepped =
    let whole : segments_of (take (level types p.segment - 1) path ++ p ∷ []) ≡ segments_of (take (level types p.segment - 1) path) ++ p.segment ∷ []
    = map_end (λ (q : Placed). q.segment) (take (level types p.segment - 1) path) p in
    let front : segments_of (take (level types p.segment - 1) path) ≡ take (level types p.segment - 1) (segments_of path)
    = sym (take-map (λ (q : Placed). q.segment) (level types p.segment - 1) path) in
    ap (λ (q : List Placed). segments_of q) stepped ∙ whole ∙ ap (λ (rows : List Segment). rows ++ p.segment ∷ []) front
