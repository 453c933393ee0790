-- What is given of the rows on a path.
use Rattle.std.specs.Prelude.{◌≡◌, IsTrue, ℕ, ◌+◌, ◌≤◌, List, [], ◌∷◌, ◌++◌, length, take, Bool, ◌==◌, cond, flat_map}
use Rattle.std.specs.List.{list_any}
use Rattle.hd_dbd.specs.Types.{SegmentType, View}
use Rattle.hd_dbd.specs.declared.answer.Status.{Status}
use Rattle.hd_dbd.specs.Hierarchy.{Database}
use Rattle.hd_dbd.specs.Segment.{Segment}
use Rattle.hd_dbd.specs.Rows.{key_of}
use Rattle.hd_dbd.specs.Paths.{path_of}
use Rattle.hd_dbd.specs.Calls.{Reply, row_reply}
use Rattle.hd_dbd.specs.Forest.{Forest}
use Rattle.hd_volume.specs.Volumes.{VolumeState}
use Rattle.hd_links.specs.Links.{Links, segment_at}
use Rattle.hd_links.specs.Placed.{Placed}
use Rattle.hd_links.specs.Steps.{rows_of}
use Rattle.hd_image.specs.Records.{links_of}
use Rattle.hd_calls.specs.Gets.{bytes_of}
use Rattle.hd_forest.specs.Rows.{IsOnRow}
use Rattle.hd_forest.specs.Walks.{tip}
use Rattle.hd_position.specs.Kept.{AreRowsOn, Ascend}
use Rattle.hd_session.specs.declared.call_and_answer.Answer.{Answer}
use Rattle.hd_session.specs.Buffer.{Buffer, KEY_ROOM}
use Rattle.hd_session.specs.Replies.{reply_of}

-- ---- the answer

-- The path is that of row i of a forest that the sound volume holds, and rows of these numbers stand at these levels of it.
pub record IsGivenIn (d : Database) (v : VolumeState) (f : Forest Placed) (path levels : List ℕ) (i : ℕ) (taken : List ℕ) : Type 0 where
  pub sound : IsTrue v.is_sound
  pub row : IsOnRow d.types (links_of d.types v) f path i
  pub rows : AreRowsOn (path_of d.types (rows_of f) i) levels taken
  pub ascend : Ascend 0 (length path) levels

-- whatever row the path was of, the reply gives that row, with the bytes of those at the levels, whatever the PCB sees
abbrev pub IsGiven : Database → VolumeState → List ℕ → List ℕ → Status → Reply → Type 0
IsGiven d v path levels status reply =
    (f : Forest Placed) (i : ℕ) (taken : List ℕ) (pcb : View) → IsGivenIn d v f path levels i taken
    → reply ≡ row_reply (record { types = d.types; pcb = pcb }) (rows_of f) i status (bytes_of (rows_of f) taken)

-- neither key nor area has a byte
abbrev pub IsEmpty : Buffer → Type 0
IsEmpty b = (b.key ≡ []) × (b.area ≡ [])

-- ---- how it is put together

-- there is room for one row more
pub record HasRoom (types : List SegmentType) (row : Segment) (b : Buffer) : Type 0 where
  pub key : length b.key + length (key_of types row) ≤ KEY_ROOM
  pub area : length b.area + length row.bytes ≤ b.room

-- with the key of one row more, and with its bytes where they are given
abbrev pub with_row : List SegmentType → Bool → Segment → Buffer → Buffer
with_row types given row b = record { key = b.key ++ key_of types row; area = b.area ++ cond given row.bytes []; room = b.room }

-- where there is room for the segment at an address, the buffer has that as one more row
abbrev pub IsSegmentAdded : Database → VolumeState → ℕ → Bool → Buffer → Buffer → Type 0
IsSegmentAdded d v a given old new =
    HasRoom d.types (segment_at (links_of d.types v) a) old → new ≡ with_row d.types given (segment_at (links_of d.types v) a) old

-- a level is one of these
abbrev pub is_among : List ℕ → ℕ → Bool
is_among levels level = list_any (λ l. l == level) levels

-- of what stands on a path from a level on, the bytes at those of the given levels
abbrev pub bytes_at : (ℕ → List ℕ) → List ℕ → ℕ → List ℕ → List ℕ
bytes_at bytes levels level [] = []
bytes_at bytes levels level (a ∷ path) = cond (is_among levels level) (bytes a) [] ++ bytes_at bytes levels (level + 1) path

-- the keys of the rows on a path, and the bytes of those at the levels
abbrev pub with_path : List SegmentType → Links → List ℕ → ℕ → List ℕ → Buffer
with_path types m levels room path = record {
  key = flat_map (λ a. key_of types (segment_at m a)) path;
  area = bytes_at m.bytes levels 1 path;
  room = room;
}

-- beside the keys of the rows on a path, and the bytes of those at whatever levels, the answer gives the last row
abbrev pub IsAnswerOf : Database → VolumeState → List ℕ → Status → Answer → Type 0
IsAnswerOf d v path status answer =
    (levels : List ℕ) (b : Buffer) → (IsTrue v.is_sound → b ≡ with_path d.types (links_of d.types v) levels b.room path) → IsGiven d v path levels status (reply_of answer b)

-- where the store is sound, the code is that of the last of the first so many segments on a path
abbrev pub IsCodeOn : Database → VolumeState → List ℕ → ℕ → ℕ → Type 0
IsCodeOn d v path n code = IsTrue v.is_sound → code ≡ (links_of d.types v).code (tip (take n path))

-- where the store is sound, the buffer has the keys of so many rows on a path, and the bytes of those at the levels
abbrev pub HasAdded : Database → VolumeState → List ℕ → List ℕ → ℕ → Buffer → Type 0
HasAdded d v path levels n b = IsTrue v.is_sound → b ≡ with_path d.types (links_of d.types v) levels b.room (take n path)
