-- Blocks of a store in memory, and the image that they and the store make.
use Rattle.std.specs.Prelude.{◌≡◌, ◌≢◌, ⊤, ℕ, ◌+◌, ◌%◌, ◌<◌, ◌≤◌, Bool, true, false, cond, IsTrue, List, [], ◌∷◌, ◌++◌, length, Result, vec_len, slice_index_or, slice_set}
use Rattle.std.specs.List.{AllByRecursion}
use Rattle.hd_bytes.specs.Blocks.{block_of, with_block, HasBlock}
use Rattle.hd_dbd.specs.declared.answer.Refused.{Refused}
use Rattle.hd_stores.specs.Stores.{Committed, CountsDevice, StaysSound}
use Rattle.hd_volume.specs.Images.{KeepsFirst}
use Rattle.hd_volume.specs.declared.buffer.Buffer.{Buffer}

-- the bytes with a buffer's block put in, if it holds one
abbrev pub put_in : ℕ → List ℕ → Buffer → List ℕ
put_in size contents b = cond b.holds (with_block size contents b.number b.bytes.items) contents

-- the store's bytes with the block in hand and block 0 put in
abbrev pub image_of : ℕ → List ℕ → Buffer → Buffer → List ℕ
image_of size contents head hand = put_in size (put_in size contents hand) head

-- the bytes with the blocks of several buffers put in, that of the first last
abbrev pub put_all : ℕ → List ℕ → List Buffer → List ℕ
put_all size contents [] = contents
put_all size contents (b ∷ rest) = put_in size (put_all size contents rest) b

-- a buffer holds a block of the store, as it stands there unless it was changed
pub record IsBuffer (size : ℕ) (contents : List ℕ) (b : Buffer) : Type 0 where
  pub there : b.holds ≡ true → HasBlock size contents b.number
  pub same : b.holds ≡ true → b.changed ≡ false → b.bytes.items ≡ block_of size contents b.number

-- One buffer is for block 0, which it holds where there is one; the other is for a later block.
pub record AreBuffers (size : ℕ) (contents : List ℕ) (head hand : Buffer) : Type 0 where
  pub at_front : IsBuffer size contents head
  pub in_hand : IsBuffer size contents hand
  pub first : HasBlock size contents 0 → head.holds ≡ true
  pub later : hand.holds ≡ true → hand.number ≢ 0

-- a buffer is as long as a block
abbrev pub IsBlockLong : ℕ → Buffer → Type 0
IsBlockLong size b = vec_len b.bytes ≡ size

-- a buffer does not hold block n, or holds none
abbrev pub HoldsNot : ℕ → Buffer → Type 0
HoldsNot n b = b.holds ≡ true → b.number ≢ n

-- no two buffers hold the same block
abbrev pub AreApart : List Buffer → Type 0
AreApart [] = ⊤
AreApart (b ∷ rest) = (b.holds ≡ true → AllByRecursion (HoldsNot b.number) rest) × AreApart rest

-- What buffers hold, if anything, are later blocks of the store than block 0, as they stand there unless they were changed, and no two the same.
pub record AreLater (size : ℕ) (contents : List ℕ) (buffers : List Buffer) : Type 0 where
  pub each : AllByRecursion (IsBuffer size contents) buffers
  pub later : AllByRecursion (HoldsNot 0) buffers
  pub apart : AreApart buffers

-- the place of block n among so many slots
abbrev pub slot_of : ℕ → ℕ → ℕ
slot_of count n = n % count

-- of so many slots, each buffer from a place on stands in that of its block, if it holds one
abbrev pub StandFrom : ℕ → ℕ → List Buffer → Type 0
StandFrom count place [] = ⊤
StandFrom count place (b ∷ rest) = (b.holds ≡ true → slot_of count b.number ≡ place) × StandFrom count (place + 1) rest

-- a buffer's block has another of so many slots than block n, if it holds one
abbrev pub IsElsewhere : ℕ → ℕ → Buffer → Type 0
IsElsewhere count n b = b.holds ≡ true → slot_of count b.number ≢ slot_of count n

-- each block aside stands in the slot of its number, and none in that of block n
pub record StandInSlots (n : ℕ) (aside : List Buffer) : Type 0 where
  pub own : StandFrom (length aside) 0 aside
  pub free : AllByRecursion (IsElsewhere (length aside) n) aside

-- buffers that hold no block stand behind those that were there, if any do
pub record HasMore (size : ℕ) (old new : List Buffer) : Type 0 where
  pub more : List Buffer
  pub behind : new ≡ old ++ more
  pub long : AllByRecursion (IsBlockLong size) more
  pub empty : AllByRecursion (λ b. b.holds ≡ false) more

-- the buffer in hand went into the slot of block n, and the one that stood there is in hand
pub record IsExchanged (n : ℕ) (hand : Buffer) (aside : List Buffer) (hand2 : Buffer) (aside2 : List Buffer) : Type 0 where
  pub came : hand2 ≡ slice_index_or aside (slot_of (length aside) n) hand
  pub went : aside2 ≡ slice_set aside (slot_of (length aside) n) hand

-- the buffer in hand went into the slot of its own block, and the one in the slot of block n came to hand
pub record IsTurned (n : ℕ) (hand : Buffer) (aside : List Buffer) (hand2 : Buffer) (aside2 : List Buffer) : Type 0 where
  pub between : Buffer
  pub beside : List Buffer
  pub first : IsExchanged hand.number hand aside between beside
  pub second : IsExchanged n between beside hand2 aside2

-- a buffer's block stands in the bytes, if it holds one
abbrev pub IsInBytes : ℕ → List ℕ → Buffer → Type 0
IsInBytes size contents b = put_in size contents b ≡ contents

-- the bytes with the block in hand and those aside put in are the same
abbrev pub KeepsShown : ℕ → List ℕ → Buffer → List Buffer → List ℕ → Buffer → List Buffer → Type 0
KeepsShown size old hand aside new hand2 aside2 = put_all size new (hand2 ∷ aside2) ≡ put_all size old (hand ∷ aside)

-- the block in hand and those aside stand in the bytes
abbrev pub AreInBytes : ℕ → List ℕ → Buffer → List Buffer → Type 0
AreInBytes size contents hand aside = AllByRecursion (IsInBytes size contents) (hand ∷ aside)

-- a buffer after it was written back: the same block and bytes, not changed any more
pub record IsWrittenBack (old new : Buffer) : Type 0 where
  pub bytes : new.bytes ≡ old.bytes
  pub number : new.number ≡ old.number
  pub holds : new.holds ≡ old.holds
  pub unchanged : new.holds ≡ true → new.changed ≡ false

-- What is seen of a store through buffers: all bytes as they will stand once they are written back, those of the store
-- as they stand, the store's meanings, and the number of the block in hand, 0 for none.
pub record Buffered : Type 0 where
  pub image : List ℕ
  pub stored : List ℕ
  pub is_sound : Bool
  pub failures : ℕ
  pub room : ℕ
  pub committed : Committed
  pub size : ℕ
  pub hand : ℕ

-- the number of the block that a buffer holds, 0 for none
abbrev pub number_of : Buffer → ℕ
number_of b = cond b.holds b.number 0

-- what buffers over a store keep
pub record AreKept (store_size : ℕ) (contents : List ℕ) (is_sound : Bool) (size : ℕ) (head hand : Buffer) (aside : List Buffer) : Type 0 where
  pub same_size : store_size ≡ size
  pub some : 0 < size
  pub small : size ≤ 32768
  pub head_len : vec_len head.bytes ≡ size
  pub hand_len : vec_len hand.bytes ≡ size
  pub aside_len : AllByRecursion (IsBlockLong size) aside
  pub head_number : head.number ≡ 0
  pub ready : IsTrue is_sound → AreBuffers size contents head hand
  pub others : IsTrue is_sound → AreLater size contents (hand ∷ aside)
  pub slots : IsTrue is_sound → StandInSlots hand.number aside

-- A call that brings at most one block to hand, and changes nothing of the image; where the store has all of it, so it does
-- afterwards.
pub record IsFetch {T : Type 0} (old : Buffered) (result : Result T Refused) (new : Buffered) : Type 0 where
  pub counts : CountsDevice result old.failures new.failures
  pub sound : StaysSound result old.is_sound new.is_sound
  pub committed : new.committed ≡ old.committed
  pub size : new.size ≡ old.size
  pub room : new.room ≡ old.room
  pub image : IsTrue new.is_sound → new.image ≡ old.image
  pub stands : IsTrue new.is_sound → old.stored ≡ old.image → new.stored ≡ new.image
  pub first : IsTrue new.is_sound → KeepsFirst old.size old.stored new.stored

-- Where the store is sound and a block is in hand, that block changed so.
abbrev pub ChangesHand : Buffered → (List ℕ → List ℕ → Type 0) → Buffered → Type 0
ChangesHand old Changes new =
    IsTrue old.is_sound → 0 < old.hand → Changes (block_of old.size old.image old.hand) (block_of old.size new.image old.hand)

-- Where the store is sound and has a block 0, that block changed so.
abbrev pub ChangesHead : Buffered → (List ℕ → List ℕ → Type 0) → Buffered → Type 0
ChangesHead old Changes new =
    IsTrue old.is_sound → HasBlock old.size old.image 0 → Changes (block_of old.size old.image 0) (block_of old.size new.image 0)

-- The store's own block 0 stays, where the buffer that another block is brought to does not hold it.
abbrev pub KeepsStoredHead : ℕ → List ℕ → Buffer → List ℕ → Type 0
KeepsStoredHead size old b new = HasBlock size old 0 → (b.holds ≡ true → b.number ≢ 0) → block_of size new 0 ≡ block_of size old 0

-- the store's bytes with the two blocks put in are the same as before
abbrev pub KeepsImage : ℕ → List ℕ → Buffer → Buffer → List ℕ → Buffer → Type 0
KeepsImage size old head hand new new_head = image_of size new new_head hand ≡ image_of size old head hand
