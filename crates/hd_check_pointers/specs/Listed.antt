-- What is listed of the pointers of a volume.
use Rattle.std.specs.Prelude.{◌≡◌, ℕ, List, [], ◌∷◌, ◌++◌, ◌==◌, Bool, true, false, cond, Option, Some, None, option_map, IfNone, IfSome}
use Rattle.std.specs.Ordering.{nat_cmp}
use Rattle.std.specs.List.Sorted.{IsNonDecreasingBy, IsStableByKey}
use Rattle.hd_dbd.specs.Types.{SegmentType}
use Rattle.hd_dbd.specs.Hierarchy.{Database}
use Rattle.hd_volume.specs.Volumes.{VolumeState}
use Rattle.hd_links.specs.Links.{Links}
use Rattle.hd_links.specs.Pointers.{IsReached}
use Rattle.hd_image.specs.Records.{links_of}
use Rattle.hd_image.specs.PointerFaults.{pointers_of, IsWrongBackward, HasWrongLast}
use Rattle.hd_image.specs.declared.line.Line.{Line}
use Rattle.hd_image.specs.declared.line.Line.TheVariants.{Deleted, NamesAnother, NamesNothing, WrongLast, WrongBackward, NotReached}
use Rattle.hd_check_blocks.specs.declared.fault.Fault.{Fault}
use Rattle.hd_check_blocks.specs.declared.places.Place.{Place}
use Rattle.hd_check_blocks.specs.Listing.{faults_of, fault_if}
use Rattle.hd_check_pointers.specs.declared.namings.Naming.{Naming}
use Rattle.hd_check_pointers.specs.declared.record_pointers.Wrong.{Wrong}
use Rattle.hd_check_pointers.specs.Judging.{wrong_among}
use Rattle.hd_check_pointers.specs.Namings.{match_fault}
use Rattle.hd_check_pointers.specs.Tables.{place_at}
use Rattle.hd_check_pointers.specs.Twins.{IsBackwardRight, AreLastsRight}

-- ---- phase 3

-- the faults of the record at an address with which so much is wrong
abbrev pub pointer_faults : ℕ → Wrong → List Fault
pointer_faults address wrong = faults_of (fault_if NamesNothing address wrong.nowhere) ++ faults_of (fault_if NamesAnother address wrong.another)

-- all faults of the third phase at a record; the header has no delete byte
abbrev pub record_faults : List SegmentType → Links → ℕ → List Fault
record_faults types m h = faults_of (fault_if Deleted h (cond (h == 0) 0 (m.delete_byte h))) ++ pointer_faults h (wrong_among m (pointers_of types m h))

-- what is listed behind some faults is all that is wrong with a record in the third phase
abbrev pub IsRecordListed : List SegmentType → Links → ℕ → List Fault → List Fault → Type 0
IsRecordListed types m h old new = new ≡ old ++ record_faults types m h

-- ---- phase 4

-- the pointers behind those in front that name an address
abbrev pub behind : ℕ → List Naming → List Naming
behind a [] = []
behind a (n ∷ ns) = cond (n.target == a) (behind a ns) (n ∷ ns)

-- What is wrong with the predecessors of the segments at these places, where the pointers are in order of what they name.
abbrev pub all_unmatched : List Place → List Naming → List Fault
all_unmatched [] ns = []
all_unmatched (p ∷ ps) ns = faults_of (match_fault p.address ns) ++ all_unmatched ps (behind p.address ns)

-- The pointers are the same, now in order of what they name; those that name the same stay in order.
pub record AreSorted (old new : List Naming) : Type 0 where
  pub order : IsNonDecreasingBy (λ (n : Naming). n.target) new
  pub stable : IsStableByKey (λ (n : Naming). n.target) nat_cmp old new

-- ---- phase 5

-- the fault of a line at an address that names something, if it is given what
abbrev pub fault_with : Line → ℕ → Option ℕ → Option Fault
fault_with line address other = option_map (λ x. record { line = line; address = address; other = x }) other

-- What is listed behind some faults is all that is wrong with twin backward and last child of a record.
pub record AreTwinsListed (types : List SegmentType) (m : Links) (h : ℕ) (old new : List Fault) : Type 0 where
  pub backward : Option ℕ
  pub last : Option ℕ
  pub new_is : new ≡ old ++ (faults_of (fault_with WrongBackward h backward) ++ faults_of (fault_with WrongLast h last))
  pub backward_none : IfNone backward (IsBackwardRight types m h)
  pub backward_some : IfSome backward (λ x. IsWrongBackward types m h x)
  pub last_none : IfNone last (AreLastsRight types m h)
  pub last_some : IfSome last (λ x. HasWrongLast types m h x)

-- ---- phase 7

-- The answer is whether the segment of a number is reached from the header.
pub record TellsReached (d : Database) (v : VolumeState) (places : List Place) (number : ℕ) (answer : Bool) : Type 0 where
  pub right : answer ≡ true → (n : ℕ) × IsReached d.types (links_of d.types v) n (place_at places number).address
  pub wrong : answer ≡ false → (n : ℕ) → IsReached d.types (links_of d.types v) n (place_at places number).address → ⊥

-- the fault of a segment, unless it is reached
abbrev pub unreached : ℕ → Bool → Option Fault
unreached address is_reached = cond is_reached None (Some (record { line = NotReached; address = address; other = 0 }))
