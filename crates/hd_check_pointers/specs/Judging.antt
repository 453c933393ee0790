-- What is wrong with the pointers of a record, by what each names.
use Rattle.std.specs.Prelude.{◌≡◌, ◌≢◌, ◌⊎◌, ℕ, List, [], ◌∷◌, Bool, cond, Option, IfSome}
use Rattle.hd_dbd.specs.Types.{SegmentType}
use Rattle.hd_links.specs.Links.{Links}
use Rattle.hd_volume.specs.Volumes.{VolumeState}
use Rattle.hd_image.specs.Records.{links_of, stored_at}
use Rattle.hd_check_blocks.specs.declared.places.Place.{Place}
use Rattle.hd_check_blocks.specs.Places.{ArePlaces}
use Rattle.hd_check_blocks.specs.Lending.{IsLent}
use Rattle.hd_links.specs.Steps.{first_some}
use Rattle.hd_image.specs.PointerFaults.{Named, names_none, names_another, pointers_of}
use Rattle.hd_check_blocks.specs.declared.fault.Fault.{Fault}
use Rattle.hd_check_pointers.specs.declared.record_pointers.Wrong.{Wrong}
use Rattle.hd_image.specs.declared.line.Line.TheVariants.{Deleted, NamesAnother, NamesNothing}

-- the first of some pointers that a test is true of, 0 for none
abbrev pub first_wrong : (Named → Bool) → List Named → ℕ
first_wrong test [] = 0
first_wrong test (p ∷ ps) = first_some (cond (test p) p.address 0) (first_wrong test ps)

-- the first of these pointers that names no segment's place, and the first that names a segment of another type
abbrev pub wrong_among : Links → List Named → Wrong
wrong_among m ps = record { nowhere = first_wrong (λ p. names_none m p) ps; another = first_wrong (λ p. names_another m p) ps }

-- what was found before, or else this
abbrev pub wrong_or : Wrong → Wrong → Wrong
wrong_or w x = record { nowhere = first_some w.nowhere x.nowhere; another = first_some w.another x.another }

-- A record's delete byte is 0, unless it is the header, and none of its pointers is wrong.
pub record IsRecordRight (types : List SegmentType) (m : Links) (h : ℕ) : Type 0 where
  pub delete_byte : h ≢ 0 → m.delete_byte h ≡ 0
  pub pointers : wrong_among m (pointers_of types m h) ≡ record { nowhere = 0; another = 0 }

-- the fault at an address of a record with which so much is wrong, the least number first
abbrev pub IsPointerFault : ℕ → Wrong → Fault → Type 0
IsPointerFault address wrong f =
    ((f ≡ record { line = NamesNothing; address = address; other = wrong.nowhere }) × (wrong.nowhere ≢ 0))
    ⊎ ((f ≡ record { line = NamesAnother; address = address; other = wrong.another }) × (wrong.nowhere ≡ 0) × (wrong.another ≢ 0))

-- What is wrong with a record, the least number first.
abbrev pub IsWrongRecord : List SegmentType → Links → ℕ → Fault → Type 0
IsWrongRecord types m h f =
    ((f ≡ record { line = Deleted; address = h; other = m.delete_byte h }) × (h ≢ 0) × (m.delete_byte h ≢ 0))
    ⊎ (((f ≡ record { line = NamesNothing; address = h; other = (wrong_among m (pointers_of types m h)).nowhere }) × (h ≢ 0 → m.delete_byte h ≡ 0) × ((wrong_among m (pointers_of types m h)).nowhere ≢ 0))
    ⊎ ((f ≡ record { line = NamesAnother; address = h; other = (wrong_among m (pointers_of types m h)).another }) × (h ≢ 0 → m.delete_byte h ≡ 0) × ((wrong_among m (pointers_of types m h)).nowhere ≡ 0) × ((wrong_among m (pointers_of types m h)).another ≢ 0)))

-- the fact holds of the records of each volume with these places, at each address where these bytes are stored
abbrev pub OfStored : List SegmentType → List Place → List ℕ → (Links → ℕ → Type 0) → Type 0
OfStored types places segment fact = (v : VolumeState) (a : ℕ) → ArePlaces types v places → stored_at v a ≡ segment → a ≢ 0 → fact (links_of types v) a

-- the fact holds of the records of each volume with these places that lends these bytes at an address
abbrev pub OfPlaced : List SegmentType → List Place → ℕ → List ℕ → (Links → Type 0) → Type 0
OfPlaced types places address segment fact = (v : VolumeState) → ArePlaces types v places → IsLent types v address segment → fact (links_of types v)

-- the fact holds of the records of each volume that stores these bytes at the address, which is not the header's
abbrev pub OfStoredAt : List SegmentType → ℕ → List ℕ → (Links → Type 0) → Type 0
OfStoredAt types address segment fact = (v : VolumeState) → stored_at v address ≡ segment → address ≢ 0 → fact (links_of types v)

-- the same of each volume that lends these bytes at the address
abbrev pub OfLentAt : List SegmentType → ℕ → List ℕ → (Links → Type 0) → Type 0
OfLentAt types address segment fact = (v : VolumeState) → IsLent types v address segment → fact (links_of types v)

-- a fault, if there is one, is of the record at an address in a volume with these places
abbrev pub FindsWrongRecord : List SegmentType → VolumeState → List Place → ℕ → Option Fault → Type 0
FindsWrongRecord types v places address found = ArePlaces types v places → IfSome found (λ f. IsWrongRecord types (links_of types v) address f)
