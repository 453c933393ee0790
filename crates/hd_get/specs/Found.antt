-- What a get seeks, and what becomes of it.
use Rattle.std.specs.Prelude.{◌≡◌, IsTrue, ℕ, List, length, Bool, false, ◌==◌, cond, Option, None, is_none, IfSome, option_map}
use Rattle.std.specs.Option.{option_map_or}
use Rattle.std.specs.List.{list_all}
use Rattle.hd_dbd.specs.Types.{SegmentType}
use Rattle.hd_dbd.specs.declared.answer.Status.{Status}
use Rattle.hd_dbd.specs.declared.answer.Status.TheVariants.{Blank}
use Rattle.hd_dbd.specs.Hierarchy.{Database}
use Rattle.hd_dbd.specs.Segment.{Segment}
use Rattle.hd_dbd.specs.Positions.{Position, Place}
use Rattle.hd_dbd.specs.Searches.{first_from}
use Rattle.hd_dbd.specs.Forest.{Forest}
use Rattle.hd_volume.specs.Volumes.{VolumeState}
use Rattle.hd_links.specs.Placed.{Placed}
use Rattle.hd_links.specs.Steps.{rows_of, path_at}
use Rattle.hd_image.specs.Records.{links_of}
use Rattle.hd_image.specs.Holding.{HoldsPlaced}
use Rattle.hd_calls.specs.declared.call.GetKind.{GetKind}
use Rattle.hd_calls.specs.declared.call.GetKind.TheVariants.{Unique, Next, NextInParent}
use Rattle.hd_calls.specs.Ssas.{Ssa}
use Rattle.hd_calls.specs.Satisfies.{satisfies}
use Rattle.hd_calls.specs.Gets.{sought, search_end, crossing, get_missing}
use Rattle.hd_calls.specs.Places.{first_named}
use Rattle.hd_position.specs.Kept.{Kept, StandsFor}
use Rattle.hd_get.specs.declared.outcome.Outcome.{Outcome}
use Rattle.hd_get.specs.Searches.{LeadsWithin, IsFound}
use Rattle.hd_get.specs.Gets.{GetCall, IsOutcomeOf, IsPositionIn}

-- the row satisfies the get
abbrev pub satisfies_get : GetCall → List SegmentType → List Segment → ℕ → Bool
satisfies_get c types rows i = satisfies (record { types = types; pcb = c.pcb }) rows c.ssas i

-- the first row that satisfies the get, where it looks from a position
abbrev pub sought_by : GetCall → List SegmentType → List Segment → Position → Option ℕ
sought_by c types rows q = sought (record { types = types; pcb = c.pcb }) rows q c.kind c.ssas

-- wherever a path led, the search from there on has found the first row that passes, or that there is none
abbrev pub SearchesOn : (List Segment → ℕ → Bool) → Database → VolumeState → ℕ → List ℕ → Bool → List ℕ → Type 0
SearchesOn test d v parent path r found =
    (f : Forest Placed) (n end : ℕ) → IsTrue v.is_sound → LeadsWithin d.types (links_of d.types v) f parent end path n
    → IsFound (test (rows_of f)) d.types f end n r found

-- The search for the row that a get seeks may begin where the path leads.
pub record LeadsToSought (d : Database) (v : VolumeState) (f : Forest Placed) (c : GetCall) (q : Position) (parent : ℕ) (path : List ℕ)
    : Type 0 where
  pub number : ℕ
  pub same : sought_by c d.types (rows_of f) q
      ≡ first_from (satisfies_get c d.types (rows_of f)) number (search_end d.types (rows_of f) q c.kind)
  pub leads : LeadsWithin d.types (links_of d.types v) f parent (search_end d.types (rows_of f) q c.kind) path number

-- Where a get begins, by an address to stay below and a path; where it does not begin there is nothing to find.
pub record IsBeginning (d : Database) (v : VolumeState) (f : Forest Placed) (c : GetCall) (q : Position) (start : Option (ℕ × List ℕ))
    : Type 0 where
  pub none : start ≡ None → sought_by c d.types (rows_of f) q ≡ None
  pub some : IfSome start (λ s. LeadsToSought d v f c q s.0 s.1)

-- wherever what is kept stands for a position, the get begins so from it
abbrev pub Begins : Database → VolumeState → GetCall → Kept → Option (ℕ × List ℕ) → Type 0
Begins d v c k start = (f : Forest Placed) (q : Position) → IsPositionIn d v f k q → IsBeginning d v f c q start

-- wherever what is kept stands for a position, the path is that of the row that the get seeks, if there is one
abbrev pub IsSought : Database → VolumeState → GetCall → Kept → Option (List ℕ) → Type 0
IsSought d v c k path =
    (f : Forest Placed) (q : Position) → IsPositionIn d v f k q
    → path ≡ option_map (λ i. path_at d.types f i) (sought_by c d.types (rows_of f) q)

-- In each forest that the sound volume holds, the path is that of the first row that the SSAs name, whether it may be read or not, if
-- there is one.
abbrev pub IsFirstNamed : Database → VolumeState → List Ssa → Option (List ℕ) → Type 0
IsFirstNamed d v ssas path =
    (f : Forest Placed) → IsTrue v.is_sound → HoldsPlaced d v f
    → path ≡ option_map (λ i. path_at d.types f i) (first_named d.types (rows_of f) ssas)

-- the status of a get after which the row last returned is of this type, and before which it was of that
abbrev pub status_between : GetKind → List Ssa → Option Place → Option Place → Status
status_between Unique ssas last now = Blank
status_between Next ssas last now = cond (length ssas == 0) (option_map_or (λ p. crossing last p.level p.code) now Blank) Blank
status_between NextInParent ssas last now = cond (length ssas == 0) (option_map_or (λ p. crossing last p.level p.code) now Blank) Blank

-- a get that found no row goes back to the start: GN without a qualified argument
abbrev pub goes_back : GetKind → List Ssa → Bool
goes_back Unique ssas = false
goes_back Next ssas = list_all (λ a. is_none a.groups) ssas
goes_back NextInParent ssas = false

-- wherever what was kept stood for a position, the get that found no row came to its answer there, and what is kept now stands for where
-- it leaves the PCB
abbrev pub IsMissed : GetCall → Kept → Outcome → Kept → Type 0
IsMissed c old outcome new =
    (types : List SegmentType) (f : Forest Placed) (q : Position) → StandsFor types f old q
    → IsOutcomeOf outcome (get_missing q c.kind c.ssas).0 × StandsFor types f new (get_missing q c.kind c.ssas).1
