-- A log, byte by byte, and the image that a log and a volume stand for.
--   0         the gate: 1 if the log counts
--   1 to 8    the mark HDVOLLOG
--   9, 10     the version, 2
--   11 to 14  the bytes of a block, 16 to 32,768
--   15 to 18  how many slots the first commit has
--   19 to 26  how many bytes of the volume count
--   27 to 34  how many bytes the image has by the first commit
--   35 to 42  the device of the volume's file
--   43 to 50  the file's number there
--   51 on     the slots, each four bytes longer than a block
-- A slot is a frame, which has the number of a block, of four bytes, and its bytes; or the gate of a later commit, whose frames stand in the slots
-- behind it:
--   0 to 3    4294967295, which is the number of no block
--   4         the gate: 1 if the commit counts, and all before it
--   5 to 8    how many frames the commit has
--   9 to 16   how many bytes the image has by it
-- The first later commit's gate stands behind the first commit's slots, and each one's behind the frames of the one before.
use Rattle.std.specs.Prelude.{◌≡◌, ◌≢◌, ℕ, zero, suc, ◌+◌, ◌*◌, ◌/◌, ◌%◌, ◌<◌, ◌≤◌, ◌==◌, nat_lt, nat_le, Bool, true, ◌&&◌, cond, if◌then◌else◌, List, map, length, slice_index}
use Rattle.std.specs.List.{range_with_len}
use Rattle.hd_bytes.specs.Numbers.{number_at}
use Rattle.hd_journal.specs.declared.head.Head.{Head}

-- the head of a log's first commit
abbrev pub first_head : List ℕ → Head
first_head log = record {
  size = number_at 4 log 11;
  count = number_at 4 log 15;
  base = number_at 8 log 19;
  len = number_at 8 log 27;
  device = number_at 8 log 35;
  number = number_at 8 log 43;
}

-- HDVOLLOG, as a number of eight bytes
abbrev pub mark : ℕ
mark = 5207381967729610567

-- the log has the mark
abbrev pub has_mark : List ℕ → Bool
has_mark log = number_at 8 log 1 == mark

-- the log is one of this version
abbrev pub is_marked : List ℕ → Bool
is_marked log = has_mark log && number_at 2 log 9 == 2

-- Bytes that stand in a log from byte 1 on have the mark, the version and the numbers of a head.
pub record IsHeadAt (bytes : List ℕ) (head : Head) : Type 0 where
  pub mark_is : number_at 8 bytes 0 ≡ mark
  pub version_is : number_at 2 bytes 8 ≡ 2
  pub size_is : number_at 4 bytes 10 ≡ head.size
  pub count_is : number_at 4 bytes 14 ≡ head.count
  pub base_is : number_at 8 bytes 18 ≡ head.base
  pub len_is : number_at 8 bytes 26 ≡ head.len
  pub device_is : number_at 8 bytes 34 ≡ head.device
  pub number_is : number_at 8 bytes 42 ≡ head.number

-- where slot i begins
abbrev pub frame_at : ℕ → ℕ → ℕ
frame_at size i = 51 + i * (size + 4)

-- the block whose bytes slot i has
abbrev pub block_no : ℕ → List ℕ → ℕ → ℕ
block_no size log i = number_at 4 log (frame_at size i)

-- the number that a gate's slot has in place of a block's
abbrev pub no_block : ℕ
no_block = 4294967295

-- where the next commit's gate stands
abbrev pub gate_at : Head → ℕ
gate_at head = frame_at head.size head.count + 4

-- a head with the next commit, as its gate's slot tells it
abbrev pub with_next : List ℕ → Head → Head
with_next log head = record head { count = head.count + 1 + number_at 4 log (gate_at head + 1); len = number_at 8 log (gate_at head + 5) }

-- the slots of a head are there, and its image is no shorter than this and has no more blocks than there are numbers
abbrev pub follows : Head → ℕ → ℕ → Bool
follows next len log_len =
    nat_le next.count no_block && (nat_le (frame_at next.size next.count) log_len && (nat_le len next.len && nat_le next.len (no_block * next.size)))

-- the next commit counts: its gate is there and open, and its sizes fit
abbrev pub is_next : List ℕ → Head → Bool
is_next log head =
    (block_no head.size log head.count == no_block) && (slice_index log (gate_at head) == 1 && follows (with_next log head) head.len (length log))

-- a head with the next commits that count, at most so many
abbrev pub through : ℕ → List ℕ → Head → Head
through zero log head = head
through (suc most) log head = if is_next log head then through most log (with_next log head) else head

-- the head of a log, with all its commits that count
unfoldable pub head_of : List ℕ → Head
head_of log = through (length log) log (first_head log)

-- byte k of an image that has this one without the log, once the frames of the first n slots are put in, one after the other
abbrev pub byte_from : ℕ → List ℕ → ℕ → ℕ → ℕ → ℕ
byte_from size log zero k byte = byte
byte_from size log (suc i) k byte = if block_no size log i == k / size then slice_index log (frame_at size i + 4 + k % size) else byte_from size log i k byte

-- byte k without the log: the volume's where it counts, and 0 behind that
abbrev pub base_byte : ℕ → List ℕ → ℕ → ℕ
base_byte base volume k = if nat_lt k base then slice_index volume k else 0

-- byte k of the image that the frames of a log and a volume make
abbrev pub image_byte : Head → List ℕ → List ℕ → ℕ → ℕ
image_byte head log volume k = byte_from head.size log head.count k (base_byte head.base volume k)

-- the image that the frames of a log and a volume make, by a head
unfoldable pub image : Head → List ℕ → List ℕ → List ℕ
image head log volume = map (image_byte head log volume) (range_with_len 0 head.len)

-- the sizes that a head tells fit a log and a volume of these lengths
abbrev pub fits : Head → ℕ → ℕ → Bool
fits head log_len volume_len =
    nat_le 16 head.size && (nat_le head.size 32768 && (nat_le (frame_at head.size head.count) log_len
    && (nat_le head.base volume_len && (nat_le head.base head.len && nat_le head.len (no_block * head.size)))))

-- the log counts
abbrev pub is_open : List ℕ → List ℕ → Bool
is_open log volume = (slice_index log 0 == 1) && (is_marked log && fits (head_of log) (length log) (length volume))

-- what a log and a volume stand for, whatever a crash made of them
unfoldable pub recovered : List ℕ → List ℕ → List ℕ
recovered log volume = if is_open log volume then image (head_of log) log volume else volume

-- a log of another version may count
pub record IsForeign (log : List ℕ) : Type 0 where
  pub long : 11 ≤ length log
  pub gate : slice_index log 0 ≡ 1
  pub marked : has_mark log ≡ true
  pub version : number_at 2 log 9 ≢ 2

-- there is a gate, and it is shut
pub record IsShut (log : List ℕ) : Type 0 where
  pub some : 0 < length log
  pub gate : slice_index log 0 ≢ 1

-- the slots are there, and the volume too as far as it counts, and each block has a number
pub record Fits (head : Head) (log volume : List ℕ) : Type 0 where
  pub some : 16 ≤ head.size
  pub small : head.size ≤ 32768
  pub frames : frame_at head.size head.count ≤ length log
  pub base : head.base ≤ length volume
  pub grows : head.base ≤ head.len
  pub few : head.len ≤ no_block * head.size

-- With the frames put in, it makes the same image as the first volume. While it is shut its first byte is 0.
pub record Spares (head : Head) (is_shut : Bool) (log first volume : List ℕ) : Type 0 where
  pub base : head.base ≤ length volume
  pub each : (k : ℕ) → k < head.base → byte_from head.size log head.count k (slice_index volume k) ≡ byte_from head.size log head.count k (slice_index first k)
  pub first_byte : is_shut ≡ true → (0 < length volume) × (slice_index volume 0 ≡ 0)

-- the frames of the first i slots are put in from byte `from` on, and zeros stand behind the base
pub record HasFrames (head : Head) (from : ℕ) (log first : List ℕ) (i : ℕ) (volume : List ℕ) : Type 0 where
  pub long : head.len ≤ length volume
  pub each : (k : ℕ) → from ≤ k → k < head.len → slice_index volume k ≡ byte_from head.size log i k (base_byte head.base first k)

-- Of the first i slots one has block 0, and its first byte as the last of them has it is this.
pub record HasFirst (size : ℕ) (log : List ℕ) (i byte : ℕ) : Type 0 where
  pub frame : ℕ
  pub low : frame < i
  pub own : block_no size log frame ≡ 0
  pub is : (other : ℕ) → byte_from size log i 0 other ≡ byte

-- the byte from which a volume is written
abbrev pub written_from : Bool → ℕ
written_from is_shut = cond is_shut 1 0

-- how many bytes at the front of a frame's block are passed over
abbrev pub skipped : Bool → ℕ → ℕ
skipped is_shut number = cond (is_shut && number == 0) 1 0

-- Behind the slots of a head stands a gate, and it is shut.
pub record IsGate (head : Head) (log : List ℕ) : Type 0 where
  pub there : frame_at head.size (head.count + 1) ≤ length log
  pub sign : block_no head.size log head.count ≡ no_block
  pub shut : slice_index log (gate_at head) ≢ 1

-- The commits of a log, if it counts, are those of this head, and the gate behind them is shut.
pub record Ends (head : Head) (log : List ℕ) : Type 0 where
  pub marked : is_marked log ≡ true
  pub is_head : head_of log ≡ head
  pub gate : IsGate head log

-- The first n slots of two logs have the same frames.
pub record SameSlots (size n : ℕ) (a b : List ℕ) : Type 0 where
  pub numbers : (i : ℕ) → i < n → block_no size b i ≡ block_no size a i
  pub blocks : (i : ℕ) → i < n → block_no size a i ≢ no_block → (j : ℕ) → j < size → slice_index b (frame_at size i + 4 + j) ≡ slice_index a (frame_at size i + 4 + j)
