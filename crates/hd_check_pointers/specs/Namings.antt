-- The pointers by which segments are named, and how they are matched with the segments.
use Rattle.std.specs.Prelude.{◌≡◌, ◌≢◌, ℕ, List, [], ◌∷◌, ◌++◌, ◌==◌, cond, drop, Option, Some, None}
use Rattle.hd_dbd.specs.Types.{SegmentType}
use Rattle.hd_links.specs.Links.{Links, child_types}
use Rattle.hd_check_blocks.specs.declared.places.Place.{Place}
use Rattle.hd_check_blocks.specs.Places.{PlacesAscend}
use Rattle.hd_check_pointers.specs.declared.namings.Naming.{Naming}
use Rattle.hd_check_blocks.specs.declared.fault.Fault.{Fault}
use Rattle.hd_image.specs.declared.line.Line.TheVariants.{NoPredecessor, TwoPredecessors}

-- ---- the table

-- a pointer of a holder, if it names something
abbrev pub naming_of : ℕ → ℕ → List Naming
naming_of target holder = cond (target == 0) [] (record { target = target; holder = holder } ∷ [])

-- a record's pointers to its first children of these types
abbrev pub first_namings : Links → ℕ → List ℕ → List Naming
first_namings m h [] = []
first_namings m h (t ∷ ts) = naming_of (m.first_child h t) h ++ first_namings m h ts

-- the pointers by which a segment names others: twin forward, and then its first children
abbrev pub segment_namings : List SegmentType → Links → ℕ → List Naming
segment_namings types m a = naming_of (m.forward a) a ++ first_namings m a (child_types types (m.code a))

-- those of the segments at these places
abbrev pub namings_at : List SegmentType → Links → List Place → List Naming
namings_at types m [] = []
namings_at types m (p ∷ ps) = segment_namings types m p.address ++ namings_at types m ps

-- all pointers by which segments are named: the header's to the first root, and those of the segments at these places
abbrev pub namings_of : List SegmentType → Links → List Place → List Naming
namings_of types m places = naming_of (m.first_child 0 1) 0 ++ namings_at types m places

-- These are the pointers by which segments are named, in order of the records that hold them.
abbrev pub AreNamings : List SegmentType → Links → List Place → List Naming → Type 0
AreNamings types m places namings = namings ≡ namings_of types m places

-- the twin forward pointers of the segments at these places
abbrev pub forwards_of : Links → List Place → List ℕ
forwards_of m [] = []
forwards_of m (p ∷ ps) = m.forward p.address ∷ forwards_of m ps

-- the holders of those pointers that name an address, in the table's order
abbrev pub holders : ℕ → List Naming → List ℕ
holders a [] = []
holders a (n ∷ ns) = cond (n.target == a) (n.holder ∷ holders a ns) (holders a ns)

-- ---- the matching

-- each pointer names the place of its number
abbrev pub NameTheirPlaces : List Place → List Naming → Type 0
NameTheirPlaces [] [] = Unit {0}
NameTheirPlaces [] (n ∷ ns) = ⊥
NameTheirPlaces (p ∷ ps) [] = ⊥
NameTheirPlaces (p ∷ ps) (n ∷ ns) = (n.target ≡ p.address) × NameTheirPlaces ps ns

-- where the places are in order, each address has by the new table the holders that it has by the old one
abbrev pub HaveSameHolders : List Place → List Naming → List Naming → Type 0
HaveSameHolders places old new = PlacesAscend places → (a : ℕ) → a ≢ 0 → holders a new ≡ holders a old

-- a second pointer names the address
abbrev pub second_fault : ℕ → List Naming → Option Fault
second_fault address [] = None
second_fault address (n ∷ ns) = cond (n.target == address) (Some (record { line = TwoPredecessors; address = address; other = n.holder })) None

-- What is wrong with the predecessors of the segment at an address, where those pointers that name it come first.
abbrev pub match_fault : ℕ → List Naming → Option Fault
match_fault address [] = Some (record { line = NoPredecessor; address = address; other = 0 })
match_fault address (n ∷ ns) = cond (n.target == address) (second_fault address ns) (Some (record { line = NoPredecessor; address = address; other = 0 }))

-- the one, or else the other
abbrev pub fault_or : Option Fault → Option Fault → Option Fault
fault_or (Some f) o = Some f
fault_or None o = o

-- The first of these places whose segment is not named by just one of these pointers, which are in order of what they name.
abbrev pub first_unmatched : List Place → List Naming → Option Fault
first_unmatched [] ns = None
first_unmatched (p ∷ ps) ns = fault_or (match_fault p.address ns) (first_unmatched ps (drop 1 ns))
