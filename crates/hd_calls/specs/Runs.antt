-- Runs of calls by the PCBs of a program, and which logs of them are legal. What stands between two calls is an image: of a volume,
-- its bytes. A call that came to a failed access ends a run, and stands in no log.
use Rattle.std.specs.Prelude.{◌≡◌, ◌⊎◌, ℕ, ◌+◌, ◌-◌, ◌<◌, ◌≤◌, List, [], ◌∷◌, length, map, filter, sum, true, false, Bool, ◌&&◌, ◌==◌, nat_lt, cond, Option, None, slice_get, slice_index}
use Rattle.std.specs.Option.{option_map_or}
use Rattle.std.specs.List.{list_any}
use Rattle.hd_dbd.specs.Types.{SegmentType, View}
use Rattle.hd_dbd.specs.declared.answer.Status.TheVariants.{Blank}
use Rattle.hd_dbd.specs.Segment.{Segment}
use Rattle.hd_dbd.specs.Paths.{row_at}
use Rattle.hd_dbd.specs.Prefixes.{size_with}
use Rattle.hd_dbd.specs.Calls.{CallText}
use Rattle.hd_dbd.specs.Logs.{Outcome, replied, area, full, memory, Entry, Log}
use Rattle.hd_calls.specs.Moves.{Rewrite, Change, unchanged, inserted, deleted, rewritten, put_in, taken_out}
use Rattle.hd_calls.specs.Steps.{Effect, answered, wrong_area, State, step, state_after}

-- ---- what a call may come to

-- the PCB of a number, from 1
abbrev pub view_of : List View → ℕ → Option View
view_of pcbs number = cond (number == 0) None (slice_get pcbs (number - 1))

-- the effect of a call by a PCB of a program; none but a wrong area where there is no PCB of this number
abbrev pub effect_by : List SegmentType → List View → State → ℕ → CallText → Effect
effect_by types pcbs st number call = option_map_or (λ pcb. step types pcb st number call) (view_of pcbs number) wrong_area

-- A call comes to its answer, or to Area; want of memory may stand for either, and Full for a blank answer.
abbrev pub MayComeTo : Effect → Outcome → Type 0
MayComeTo (answered reply change own) (replied r) = r ≡ reply
MayComeTo (answered reply change own) area = ⊥
MayComeTo (answered reply change own) full = reply.status ≡ Blank
MayComeTo (answered reply change own) memory = Unit {0}
MayComeTo wrong_area (replied r) = ⊥
MayComeTo wrong_area area = Unit {0}
MayComeTo wrong_area full = ⊥
MayComeTo wrong_area memory = Unit {0}

-- what the answer of a call would change
abbrev pub change_of : Effect → Change
change_of (answered reply change own) = change
change_of wrong_area = unchanged

-- only what was answered changes anything
abbrev pub change_made : Effect → Outcome → Change
change_made effect (replied r) = change_of effect
change_made effect area = unchanged
change_made effect full = unchanged
change_made effect memory = unchanged

-- the state after a call of a PCB that came to an outcome
abbrev pub state_after_outcome : List SegmentType → State → ℕ → Effect → Outcome → State
state_after_outcome types st number effect (replied r) = state_after types st number effect
state_after_outcome types st number effect area = st
state_after_outcome types st number effect full = st
state_after_outcome types st number effect memory = st

-- ---- room

-- a row's new bytes are more than it has
abbrev pub is_longer : List Segment → Rewrite → Bool
is_longer rows w = nat_lt (length (row_at rows w.number).bytes) (length w.bytes)

-- a row as it is with its new bytes
abbrev pub row_with : List Segment → Rewrite → Segment
row_with rows w = record { code = (row_at rows w.number).code; bytes = w.bytes }

-- the rows for which a change needs room: those that it puts in, and those that it makes longer, as they are then
abbrev pub rows_stored : List Segment → Change → List Segment
rows_stored rows unchanged = []
rows_stored rows (inserted p new) = new
rows_stored rows (deleted from to) = []
rows_stored rows (rewritten ws) = map (λ w. row_with rows w) (filter (λ w. is_longer rows w) ws)

-- a root is among some rows
abbrev pub has_root : List Segment → Bool
has_root rows = list_any (λ r. r.code == 1) rows

-- a change puts in a root
abbrev pub inserts_root : Change → Bool
inserts_root unchanged = false
inserts_root (inserted p new) = has_root new
inserts_root (deleted from to) = false
inserts_root (rewritten ws) = false

-- the bytes that some rows take together, each with its prefix and rounded up
abbrev pub stored_sizes : List SegmentType → List Segment → ℕ
stored_sizes types new = sum (map (λ r. size_with types r.code (length r.bytes)) new)

-- What a log asks of images. `HoldsAt`: an image holds the forest of these rows, in hierarchic sequence, at these addresses.
-- `largest`: its largest count of blocks. `spare`: the blocks by which it may still grow, and the free ones. `index_growth`: the
-- blocks that its index may need for one root more. `IsHighest`: its index may have no level more. `HasHole`: it has a hole of at least so
-- many bytes.
pub record Images (Image : Type 0) : Type 1 where
  pub HoldsAt : Image → List Segment → List ℕ → Type 0
  pub largest : Image → ℕ
  pub spare : Image → ℕ
  pub index_growth : Image → ℕ
  pub IsHighest : Image → Type 0
  pub HasHole : Image → ℕ → Type 0

-- a change makes the row of a number longer
abbrev pub lengthens : List Segment → List Rewrite → ℕ → Bool
lengthens rows ws i = list_any (λ w. w.number == i && is_longer rows w) ws

-- Of the addresses before a change those of the rows that stay are kept: where rows were put in some come between, where rows were
-- taken out theirs are gone, and a row that is made longer may move.
abbrev pub AddressesFollow : List Segment → Change → List ℕ → List ℕ → Type 0
AddressesFollow rows unchanged old new = new ≡ old
AddressesFollow rows (inserted p put) old new = (fresh : List ℕ) × (length fresh ≡ length put) × (new ≡ put_in p fresh old)
AddressesFollow rows (deleted from to) old new = new ≡ taken_out from to old
AddressesFollow rows (rewritten ws) old new =
    (length new ≡ length old) × ((i : ℕ) → lengthens rows ws i ≡ false → slice_index new i ≡ slice_index old i)

module _ {Image : Type 0} (images : Images Image) where
  -- an image holds these rows, wherever they stand
  abbrev pub Holds : Image → List Segment → Type 0
  Holds image rows = (addresses : List ℕ) × images.HoldsAt image rows addresses

  -- the blocks that some rows may need: one each, and those of the index where a root is put in
  abbrev pub blocks_for : Image → List Segment → Bool → ℕ
  blocks_for image stored root = length stored + cond root (images.index_growth image) 0

  -- Fewer blocks are to spare than some rows may need, or a root is put in and the index may have no level more.
  abbrev pub LacksBlocks : Image → List Segment → Bool → Type 0
  LacksBlocks image stored root = (images.spare image < blocks_for image stored root) ⊎ ((root ≡ true) × images.IsHighest image)

  -- An image lacks room for some rows: blocks or levels are lacking, and either a root is put in or no hole is as large as all of them
  -- together.
  pub record LacksRoom (types : List SegmentType) (image : Image) (stored : List Segment) (root : Bool) : Type 0 where
    pub blocks : LacksBlocks image stored root
    pub holes : (root ≡ true) ⊎ (images.HasHole image (stored_sizes types stored) → ⊥)

  -- An image follows from another by a change of the rows: the largest count stays, no more blocks were taken than the rows that it
  -- stores may need, and the rows that stay and grow no longer keep their addresses.
  pub record Follows (rows : List Segment) (old : Image) (change : Change) (rows_then : List Segment) (new : Image) : Type 0 where
    pub largest : images.largest new ≡ images.largest old
    pub room : images.spare old ≤ images.spare new + blocks_for old (rows_stored rows change) (inserts_root change)
    pub addresses : (before after : List ℕ) → images.HoldsAt old rows before → images.HoldsAt new rows_then after → AddressesFollow rows change before after

-- ---- runs

module _ {Image : Type 0} where
  -- the effect of an entry's call, over a state
  abbrev pub effect_in : List SegmentType → List View → State → Entry Image → Effect
  effect_in types pcbs st e = effect_by types pcbs st e.pcb e.call

  -- the state after an entry
  abbrev pub next_state : List SegmentType → List View → State → Entry Image → State
  next_state types pcbs st e = state_after_outcome types st e.pcb (effect_in types pcbs st e) e.outcome

  -- the state after some entries
  abbrev pub last_state : List SegmentType → List View → State → List (Entry Image) → State
  last_state types pcbs st [] = st
  last_state types pcbs st (e ∷ es) = last_state types pcbs (next_state types pcbs st e) es

  -- Each entry is by a PCB of the program, and came to what its call may come to in the state that the entries before it left.
  abbrev pub IsRun : List SegmentType → List View → State → List (Entry Image) → Type 0
  IsRun types pcbs st [] = Unit {0}
  IsRun types pcbs st (e ∷ es) =
      (0 < e.pcb) × (e.pcb ≤ length pcbs) × MayComeTo (effect_in types pcbs st e) e.outcome
      × IsRun types pcbs (next_state types pcbs st e) es

  -- the image before the first entry, or the one behind the last where there is none
  abbrev pub image_at : List (Entry Image) → Image → Image
  image_at [] last = last
  image_at (e ∷ es) last = e.before

-- ---- legal logs

module _ {Image : Type 0} (images : Images Image) where
  -- What an outcome says of the images around an entry: after an answer the image follows by the change; Full stands only where
  -- room lacks for the rows that the call would store; after any refusal the image is the old one.
  abbrev pub ImageFollows : List SegmentType → State → ℕ → Effect → Outcome → Image → Image → Type 0
  ImageFollows types st number effect (replied r) old new =
      Follows images st.rows old (change_of effect) (state_after types st number effect).rows new
  ImageFollows types st number effect area old new = new ≡ old
  ImageFollows types st number effect full old new = LacksRoom images types old (rows_stored st.rows (change_of effect)) (inserts_root (change_of effect)) × (new ≡ old)
  ImageFollows types st number effect memory old new = new ≡ old

  -- Each image holds the rows of its state, and follows from the one before it.
  abbrev pub ImagesFollow : List SegmentType → List View → State → List (Entry Image) → Image → Type 0
  ImagesFollow types pcbs st [] last = Holds images last st.rows
  ImagesFollow types pcbs st (e ∷ es) last =
      Holds images e.before st.rows
      × ImageFollows types st e.pcb (effect_in types pcbs st e) e.outcome e.before (image_at es last)
      × ImagesFollow types pcbs (next_state types pcbs st e) es last

  -- A log is legal from an opened image and a state: it begins with the image, its calls run from the state, and its images follow.
  pub record IsLegalLog (types : List SegmentType) (pcbs : List View) (opened : Image) (st : State) (log : Log Image) : Type 0 where
    pub begins : image_at log.entries log.last ≡ opened
    pub runs : IsRun types pcbs st log.entries
    pub follows : ImagesFollow types pcbs st log.entries log.last
