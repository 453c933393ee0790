-- What a walk along the free elements of a block finds.
use Rattle.std.specs.Prelude.{◌≡◌, ◌≢◌, ◌⊎◌, ℕ, ◌+◌, ◌%◌, ◌≤◌, max, List, [], ◌∷◌, ◌++◌, Option, None, MatchOption}
use Rattle.hd_bytes.specs.Numbers.{number_at}
use Rattle.hd_block.specs.Extents.{Extent, free, used, taken, IsHole, IsSegment, Fill, IsDivided}
use Rattle.hd_block.specs.Changes.{hole_at, after_take, hole_before}
use Rattle.hd_block.specs.Parts.{largest_free, free_bytes}
use Rattle.hd_block.specs.declared.holes.Hole.{Hole}
use Rattle.hd_block.specs.declared.gives.Link.{Link}
use Rattle.hd_block.specs.declared.gives.Behind.{Behind}
use Rattle.hd_dbd.specs.declared.facts.SegmentSize.{SegmentSize}

-- From place p, where the next free element is at f as the two bytes at l say, these extents lead to
-- place q, where the next free element is at g, as the two bytes at m say.
abbrev pub Way : List SegmentSize → List ℕ → (p f l : ℕ) → List Extent → (q g m : ℕ) → Type 0
Way sizes b p f l [] q g m = (p ≡ q) × (f ≡ g) × (l ≡ m)
Way sizes b p f l (free n ∷ xs) q g m = (p ≡ f) × IsHole b p n × Way sizes b (p + n) (number_at 2 b p) p xs q g m
Way sizes b p f l (used n ∷ xs) q g m = (p ≢ f) × IsSegment sizes b p n × Way sizes b (p + n) f l xs q g m
Way sizes b p f l (taken n ∷ xs) q g m = (p ≢ f) × (8 ≤ n) × (n % 8 ≡ 0) × Way sizes b (p + n) f l xs q g m

-- Of extents that begin at p, n bytes at this place are a segment, or room that was handed out.
abbrev pub At : ℕ → List Extent → ℕ → ℕ → Type 0
At p [] place n = ⊥
At p (free k ∷ xs) place n = At (p + k) xs place n
At p (used k ∷ xs) place n = ((p ≡ place) × (k ≡ n)) ⊎ At (p + k) xs place n
At p (taken k ∷ xs) place n = ((p ≡ place) × (k ≡ n)) ⊎ At (p + k) xs place n

-- what a walk keeps of the extents before its place, the place, and those behind it
abbrev pub Keeps : Type 1
Keeps = List Extent → ℕ → List Extent → Type 0

-- the first hole of this size is not before the place
abbrev pub SeeksHole : ℕ → List Extent → Keeps
SeeksHole size xs before place behind = (hole_at size 8 xs ≡ hole_at size place behind) × (after_take size xs ≡ before ++ after_take size behind)

-- the largest hole is this long, or not before the place
abbrev pub SeeksLargest : ℕ → List Extent → Keeps
SeeksLargest largest xs before place behind = largest_free xs ≡ max largest (largest_free behind)

-- so many bytes are free before the place
abbrev pub SumsFree : ℕ → List Extent → Keeps
SumsFree total xs before place behind = free_bytes xs ≡ total + free_bytes behind

-- what stands at this offset is not before the place
abbrev pub SeeksOffset : ℕ → ℕ → Keeps
SeeksOffset offset n before place behind = At place behind offset n

-- the walk has come to place q, where the next free element is at g, as the two bytes at m say
pub record Progress (sizes : List SegmentSize) (b : List ℕ) (kept : Keeps) (xs : List Extent) (end g m : ℕ) : Type 0 where
  pub before : List Extent
  pub behind : List Extent
  pub place : ℕ
  pub way : Way sizes b 8 (number_at 2 b 0) 0 before place g m
  pub fill : Fill sizes b place g behind
  pub far : end ≤ place
  pub whole : xs ≡ before ++ behind
  pub keeps : kept before place behind

-- the walk stands before a free element of n bytes
pub record Stands (sizes : List SegmentSize) (b : List ℕ) (kept : Keeps) (xs : List Extent) (end g m n : ℕ) : Type 0 where
  pub before : List Extent
  pub behind : List Extent
  pub way : Way sizes b 8 (number_at 2 b 0) 0 before g g m
  pub hole : IsHole b g n
  pub fill : Fill sizes b (g + n) (number_at 2 b g) behind
  pub far : end ≤ g
  pub whole : xs ≡ before ++ free n ∷ behind
  pub keeps : kept before g (free n ∷ behind)

-- the walk stands before this hole
pub record IsFound (sizes : List SegmentSize) (bytes : List ℕ) (size : ℕ) (xs : List Extent) (hole : Hole) : Type 0 where
  pub end : ℕ
  pub stands : Stands sizes bytes (SeeksHole size xs) xs end hole.place hole.link hole.len
  pub next : hole.next ≡ number_at 2 bytes hole.place
  pub large : size ≤ hole.len
  pub far : 8 ≤ end

-- the walk stands before the n bytes at this offset, and the link leads past it
pub record IsLinked (sizes : List SegmentSize) (bytes : List ℕ) (xs : List Extent) (offset n : ℕ) (link : Link) : Type 0 where
  pub before : List Extent
  pub extent : Extent
  pub behind : List Extent
  pub is : (extent ≡ used n) ⊎ (extent ≡ taken n)
  pub way : Way sizes bytes 8 (number_at 2 bytes 0) 0 before offset link.next link.link
  pub fill : Fill sizes bytes (offset + n) link.next behind
  pub whole : xs ≡ before ++ extent ∷ behind

-- these extents from a place on, joined to a hole before them: so many bytes more, and the others
pub record IsBehind (sizes : List SegmentSize) (bytes : List ℕ) (place : ℕ) (xs : List Extent) (behind : Behind) : Type 0 where
  pub rest : List Extent
  pub joined : (n : ℕ) → hole_before n xs ≡ free (n + behind.more) ∷ rest
  pub fill : Fill sizes bytes (place + behind.more) behind.next rest
  pub whole : behind.more % 8 ≡ 0
  pub apart : behind.next ≢ place + behind.more

-- what a search for a hole of this size came to, if the bytes are those of a block: the first one, or there is none
abbrev pub IsSearched : List ℕ → ℕ → Option Hole → Type 0
IsSearched bytes size found = (sizes : List SegmentSize) (xs : List Extent) → IsDivided sizes bytes xs → MatchOption found (hole_at size 8 xs ≡ None) (IsFound sizes bytes size xs)

-- the link leads past what stands at this offset of a block
abbrev pub LeadsPast : List ℕ → ℕ → Link → Type 0
LeadsPast bytes offset link = (sizes : List SegmentSize) (xs : List Extent) (n : ℕ) → IsDivided sizes bytes xs → At 8 xs offset n → IsLinked sizes bytes xs offset n link
