-- What a get with segment search arguments asks of a row, and where its search goes on.
use Rattle.std.specs.Prelude.{◌≡◌, IsTrue, ℕ, ◌<◌, List, length, Bool, true, ◌&&◌, ◌||◌, ◌==◌, Option, None, is_none, not, cond, nat_lt, find, option_and_then}
use Rattle.std.specs.Option.{option_map_or}
use Rattle.std.specs.List.{list_any, list_all}
use Rattle.hd_dbd.specs.Types.{SegmentType, View}
use Rattle.hd_dbd.specs.Hierarchy.{Database, type_of}
use Rattle.hd_dbd.specs.Segment.{Segment}
use Rattle.hd_prefix.specs.Fields.{code_of, bytes_of}
use Rattle.hd_dbd.specs.Paths.{row_at, is_twin}
use Rattle.hd_dbd.specs.Searches.{first_from}
use Rattle.hd_dbd.specs.Views.{Setting, may}
use Rattle.hd_dbd.specs.Letters.{gives_get}
use Rattle.hd_dbd.specs.Forest.{Forest}
use Rattle.hd_volume.specs.Volumes.{VolumeState}
use Rattle.hd_links.specs.Links.{segment_at, is_last_kept}
use Rattle.hd_links.specs.Placed.{Placed}
use Rattle.hd_links.specs.Steps.{rows_of, address_at}
use Rattle.hd_image.specs.Records.{links_of}
use Rattle.hd_forest.specs.Twins.{is_key_below}
use Rattle.hd_calls.specs.Ssas.{Ssa, target_code}
use Rattle.hd_calls.specs.Satisfies.{is_named, qualifies}
use Rattle.hd_calls.specs.Admits.{admits, meets_own, is_on_way, Descend}
use Rattle.hd_calls.specs.SearchTwins.{next_twin}
use Rattle.hd_calls.specs.SearchKeys.{is_past}
use Rattle.hd_calls.specs.SearchSpans.{reads_some_below}
use Rattle.hd_calls.specs.SearchWays.{way_down, way_beside}
use Rattle.hd_ssa.specs.LeastKeys.{least_key}
use Rattle.hd_get.specs.Searches.{IsPathOf}
use Rattle.hd_get.specs.declared.look.Look.{Look}
use Rattle.hd_get.specs.declared.verdict.Verdict.{Verdict}
use Rattle.hd_get.specs.declared.verdict.Verdict.TheVariants.{Found, Next, Over, Down, DownToLast, Across, AcrossTo, Beside, BesideToLast, Rest}

-- The arguments by which rows are asked for, and the PCB that must be able to read them, if there is one.
pub record Asked : Type 0 where
  pub pcb : Option View
  pub ssas : List Ssa

-- there are arguments, and their types descend
abbrev pub SsasSuit : List SegmentType → List Ssa → Type 0
SsasSuit types ssas = (0 < length ssas) × Descend types None ssas

-- the PCB sees the type and may read it; where there is no PCB, every type may be read
abbrev pub may_read : Option View → List SegmentType → ℕ → Bool
may_read pcb types code = option_map_or (λ p. may (record { types = types; pcb = p }) gives_get code) pcb true

-- the arguments name the row, and it may be read
abbrev pub is_asked : Asked → List SegmentType → List Segment → ℕ → Bool
is_asked a types rows i = is_named types rows a.ssas i && may_read a.pcb types (row_at rows i).code

-- the row's type is on the way to the last argument's, and the row meets the arguments of its type
abbrev pub is_admitted : Asked → List SegmentType → List Segment → ℕ → Bool
is_admitted a types rows i = is_on_way types (target_code a.ssas) (row_at rows i).code && admits types rows a.ssas i

-- the segment has what each argument of its type asks, L aside
abbrev pub qualifies_own : List Ssa → Segment → Bool
qualifies_own ssas r = list_all (λ a. not (a.code == r.code) || qualifies a r) ssas

-- the row of a stored segment
abbrev pub stored_row : List SegmentType → List ℕ → Segment
stored_row types segment = record { code = code_of segment; bytes = bytes_of types (code_of segment) segment }

-- what a look at a segment tells: its type, whether it has what the arguments of its type ask, L aside, and whether its key is past it
abbrev pub look_of : List SegmentType → List Ssa → Segment → Look
look_of types ssas r = record { code = r.code; qualifies = qualifies_own ssas r; is_past = is_past types ssas r }

-- some argument of the type has L
abbrev pub some_has_last : List Ssa → ℕ → Bool
some_has_last ssas code = list_any (λ a. a.code == code && a.commands.last) ssas

-- the argument is of the type, and asks for the last twin alone
abbrev pub asks_last : ℕ → Ssa → Bool
asks_last code a = a.code == code && a.commands.last && is_none a.groups

-- parents keep the last child of the type, and some argument asks for that alone
abbrev pub goes_to_last : List SegmentType → List Ssa → ℕ → Bool
goes_to_last types ssas code = is_last_kept types code && list_any (λ a. asks_last code a) ssas

-- down to the children of a type: to the last one, where that is asked for
abbrev pub verdict_to : List SegmentType → List Ssa → ℕ → Verdict
verdict_to types ssas code = cond (goes_to_last types ssas code) (DownToLast code) (Down code)

-- beside to the children of a type of the same parent: to the last one, where that is asked for
abbrev pub verdict_beside_to : List SegmentType → List Ssa → ℕ → Verdict
verdict_beside_to types ssas code = cond (goes_to_last types ssas code) (BesideToLast code) (Beside code)

-- off the way: on to the rows of the type beside that is on the way, where that comes later
abbrev pub verdict_beside : List SegmentType → List Ssa → ℕ → ℕ → Verdict
verdict_beside types ssas target code =
    option_map_or (λ c. cond (nat_lt code c) (verdict_beside_to types ssas c) Rest) (way_beside types target code) Rest

-- on a row that is admitted: down the way; where that ends, the row is found if it may be read
abbrev pub verdict_down : Option View → List SegmentType → List Ssa → ℕ → ℕ → Verdict
verdict_down pcb types ssas target code =
    option_map_or (λ c. verdict_to types ssas c) (way_down types target code) (cond (may_read pcb types code) Found Across)

-- of a type with a key, the key below which no row has what the argument of the type asks, if that tells of one
abbrev pub least_key_of : List SegmentType → List Ssa → ℕ → Option (List ℕ)
least_key_of types ssas code =
    option_and_then (λ t. option_and_then (λ k. option_and_then (λ a. least_key k a) (find (λ a. a.code == code) ssas)) t.key) (type_of types code)

-- row j is row i or a twin of it, and its key is not below a key
abbrev pub is_from : List SegmentType → List Segment → List ℕ → ℕ → ℕ → Bool
is_from types rows key i j = (i == j || is_twin types rows i j) && not (is_key_below types key (row_at rows j))

-- the address of the first of a row and its later twins whose key is not below a key, 0 for none
abbrev pub address_from : List SegmentType → Forest Placed → List ℕ → ℕ → ℕ
address_from types f key i = option_map_or (λ j. address_at f j) (first_from (is_from types (rows_of f) key i) i (length (rows_of f))) 0

-- from a row at an address to the first from it on whose key is not below a key, where that is at another: across from the row itself,
-- over the rest of its parent's rows where there is none
abbrev pub verdict_from : ℕ → ℕ → Verdict
verdict_from a twin = cond (twin == 0) Rest (cond (twin == a) Across (AcrossTo twin))

-- on a row of a type on the way that is not admitted: across, and to no twin whose key is below the least that is asked for
abbrev pub verdict_across : List SegmentType → Forest Placed → List Ssa → ℕ → Verdict
verdict_across types f ssas i =
    option_map_or (λ key. verdict_from (address_at f i) (address_from types f key i)) (least_key_of types ssas (row_at (rows_of f) i).code) Across

-- a get without arguments: a row that may be read is found; from another the search goes on to the next row, or over its span, where
-- nothing that depends on it may be read either
abbrev pub verdict_plain : Setting → ℕ → Verdict
verdict_plain s code = cond (may s gives_get code) Found (cond (reads_some_below s code) Next Over)

-- wherever the path is that of a row of this type, the answer says whether that meets the arguments of its type
abbrev pub Admits : Database → VolumeState → List Ssa → ℕ → List ℕ → Bool → Type 0
Admits d v ssas code path r =
    (f : Forest Placed) (i : ℕ) → IsPathOf d v f path i → (row_at (rows_of f) i).code ≡ code → r ≡ admits d.types (rows_of f) ssas i

-- the same of one argument
abbrev pub MeetsOwn : Database → VolumeState → Ssa → ℕ → List ℕ → Bool → Type 0
MeetsOwn d v ssa code path r =
    (f : Forest Placed) (i : ℕ) → IsPathOf d v f path i → (row_at (rows_of f) i).code ≡ code → r ≡ meets_own d.types (rows_of f) i ssa

-- where the store is sound, this is what a look at the segment at the address tells
abbrev pub IsLook : Database → VolumeState → List Ssa → ℕ → Look → Type 0
IsLook d v ssas a look = IsTrue v.is_sound → look ≡ look_of d.types ssas (segment_at (links_of d.types v) a)

-- wherever the path is that of a row of which a look told this, the answer says whether that meets the arguments of its type
abbrev pub AdmitsSeen : Database → VolumeState → List Ssa → Look → List ℕ → Bool → Type 0
AdmitsSeen d v ssas look path r =
    (f : Forest Placed) (i : ℕ) → IsPathOf d v f path i → look ≡ look_of d.types ssas (row_at (rows_of f) i) → r ≡ admits d.types (rows_of f) ssas i

-- wherever the path is that of a row, the answer says whether of the twins of this type, which is not the root, the last alone is asked
-- for, which is kept, and the row is not that one
abbrev pub SeeksLater : Database → VolumeState → List Ssa → ℕ → List ℕ → Bool → Type 0
SeeksLater d v ssas code path r =
    (f : Forest Placed) (i : ℕ) → IsPathOf d v f path i
    → r ≡ ((not (code == 1) && goes_to_last d.types ssas code) && not (is_none (next_twin d.types (rows_of f) i)))

-- wherever the path is that of a row of this type, the verdict is that on one that is not admitted
abbrev pub GoesAcrossFrom : Database → VolumeState → List Ssa → ℕ → List ℕ → Verdict → Type 0
GoesAcrossFrom d v ssas code path r =
    (f : Forest Placed) (i : ℕ) → IsPathOf d v f path i → (row_at (rows_of f) i).code ≡ code → r ≡ verdict_across d.types f ssas i
