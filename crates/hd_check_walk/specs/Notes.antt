-- What is noted of the segments of a volume, in order of their places, for a walk along their pointers.
use Rattle.std.specs.Prelude.{◌≡◌, ◌≢◌, ℕ, ◌+◌, ◌<◌, ◌≤◌, List, [], ◌++◌, length, map, ◌==◌, slice_index, slice_index_or}
use Rattle.hd_dbd.specs.Types.{SegmentType}
use Rattle.hd_prefix.specs.declared.pointer.Pointer.TheVariants.{FirstChild, LastChild}
use Rattle.hd_prefix.specs.Fields.{pointer_of}
use Rattle.hd_links.specs.Links.{Links, child_types}
use Rattle.hd_check_blocks.specs.declared.places.Place.{Place}
use Rattle.hd_check_blocks.specs.Places.{place_at}
use Rattle.hd_check_walk.specs.declared.notes.Note.{Note}
use Rattle.hd_check_walk.specs.declared.notes.Named.{Named}
use Rattle.hd_check_walk.specs.declared.notes.TheConstants.{CHILDLESS}
use Rattle.hd_check_walk.specs.declared.segments.Seen.{Seen}
use Rattle.hd_check_walk.specs.Reading.{IsAsSeen}

-- the first and the last child of each of these types that the bytes of a segment of the type of a code name
abbrev pub named_in : List SegmentType → ℕ → List ℕ → List ℕ → List Named
named_in types code segment ts = map (λ t. record { first = pointer_of types code (FirstChild t) segment; last = pointer_of types code (LastChild t) segment }) ts

-- what was noted of children is noted still, and there may be more behind it
abbrev pub StaysNoted : List Named → List Named → Type 0
StaysNoted named named2 = (more : List Named) × (named2 ≡ named ++ more)

-- the note of a number
abbrev pub note_at : List Note → ℕ → Note
note_at notes i = slice_index_or notes i (record { forward = 0; backward = 0; children = 0; front = [] })

-- what is noted at a position of the children of a type
abbrev pub named_at : List Named → ℕ → Named
named_at named i = slice_index_or named i (record { first = 0; last = 0 })

-- the first and the last child of a type that the segment a names
abbrev pub named_of : Links → ℕ → ℕ → Named
named_of m a t = record { first = m.first_child a t; last = m.last_child a t }

-- From a position on, the first and the last child that the segment a names are noted, one type after the other.
pub record HasChildrenAt (types : List SegmentType) (m : Links) (named : List Named) (p a : ℕ) : Type 0 where
  pub within : p + length (child_types types (m.code a)) ≤ length named
  pub each : (j : ℕ) → j < length (child_types types (m.code a)) → named_at named (p + j) ≡ named_of m a (slice_index (child_types types (m.code a)) j)

-- the child type of so many before it, of those of the segment a, is t
abbrev pub IsChildNumber : List SegmentType → Links → ℕ → ℕ → ℕ → Type 0
IsChildNumber types m a j t = (j < length (child_types types (m.code a))) × (t ≡ slice_index (child_types types (m.code a)) j)

-- what is seen of a segment by its note
abbrev pub seen_by : Note → Seen
seen_by note = record { forward = note.forward; backward = note.backward; front = note.front; is_childless = note.children == CHILDLESS }

-- what is seen of the segment a by its note is what it says
abbrev pub IsNoted : List SegmentType → Links → Note → ℕ → Type 0
IsNoted types m note a = IsAsSeen types m (seen_by note) a

-- what is noted for a number, if anything is, is what is seen of the segment a
abbrev pub IsNotedFor : List SegmentType → Links → List Note → ℕ → ℕ → Type 0
IsNotedFor types m notes i a = i < length notes → IsNoted types m (note_at notes i) a

-- the children that the segment a names are noted where the note of the number says, if there is one, unless it names none
abbrev pub AreNamedFor : List SegmentType → Links → List Note → List Named → ℕ → ℕ → Type 0
AreNamedFor types m notes named i a = i < length notes → (note_at notes i).children ≢ CHILDLESS → HasChildrenAt types m named (note_at notes i).children a

-- each note is that of the segment at the place of its number
abbrev pub AreNoted : List SegmentType → Links → List Place → List Note → Type 0
AreNoted types m places notes = (i : ℕ) → IsNotedFor types m notes i (place_at places i).address

-- and the children that the segment names are noted where its note says
abbrev pub AreChildrenNoted : List SegmentType → Links → List Place → List Note → List Named → Type 0
AreChildrenNoted types m places notes named = (i : ℕ) → AreNamedFor types m notes named i (place_at places i).address
