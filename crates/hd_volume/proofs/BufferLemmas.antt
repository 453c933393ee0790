-- A block in memory, and the image that it makes with a store.
use Rattle.std.proofs.Common.{◌≡◌, ◌≢◌, ◌⊎◌, inl, inr, vec_len, true, false, Bool, cond, ℕ, zero, suc, ◌+◌, ◌-◌, ◌*◌, ◌<◌, ◌≤◌, List, ◌++◌, length, take, drop, get_or, refl, sym, ap, ◌∙◌, arith, replicate}
use Rattle.std.proofs.lemmas.List.{take_at, take-append-le, drop-append-le, append_assoc}
use Rattle.std.proofs.lemmas.Bool.{cases_lt}
use Rattle.std.proofs.lemmas.Grind.{common_steps, same_number_lists}
use Rattle.std.proofs.lemmas.Nat.{row_fits}
use Rattle.std.specs.Vec.{with_items}
use Rattle.std.specs.declared.vec.Vec.{Vec}
use Rattle.std.specs.declared.alloc.Global.{Global}
use Rattle.hd_bytes.specs.Ranges.{with_bytes}
use Rattle.hd_bytes.specs.Blocks.{block_of, with_block, grown, HasBlock}
use Rattle.hd_bytes.proofs.BlockLemmas.{with-own, length-with_block, own-with, other-with, block-grown, length-grown}
use Rattle.hd_volume.specs.declared.buffer.Buffer.{Buffer}
use Rattle.hd_volume.specs.Buffers.{put_in, image_of, IsBuffer, AreBuffers, IsWrittenBack, number_of}
use Rattle.hd_volume.specs.Images.{ChangesBlock}

-- what holds of both outcomes of a test holds
pub put-length : (size : ℕ) (c : List ℕ) (holds : Bool) (n : ℕ) (bytes : List ℕ) → length bytes ≡ size → (holds ≡ true → HasBlock size c n)
    → length (cond holds (with_block size c n bytes) c) ≡ length c
put-length size c true n bytes len there = length-with_block size n c bytes (there refl) len
put-length size c false n bytes len there = refl

-- an image is as long as the store
pub length-put_in : (size : ℕ) (c : List ℕ) (b : Buffer) → vec_len b.bytes ≡ size → IsBuffer size c b → length (put_in size c b) ≡ length c
length-put_in size c b len h = put-length size c b.holds b.number b.bytes.items (sym b.bytes.ok.0 ∙ len) h.there

pub put-other : (size : ℕ) (c : List ℕ) (holds : Bool) (n m : ℕ) (bytes : List ℕ) → length bytes ≡ size → (holds ≡ true → HasBlock size c n) → HasBlock size c m → (holds ≡ true → m ≢ n)
    → block_of size (cond holds (with_block size c n bytes) c) m ≡ block_of size c m
put-other size c true n m bytes len there h other = other-with size n m c bytes (there refl) h len (other refl)
put-other size c false n m bytes len there h other = refl

-- another block than the buffer's stays
pub other-put_in : (size : ℕ) (c : List ℕ) (b : Buffer) (m : ℕ) → vec_len b.bytes ≡ size → IsBuffer size c b → HasBlock size c m → (b.holds ≡ true → m ≢ b.number)
    → block_of size (put_in size c b) m ≡ block_of size c m
other-put_in size c b m len h there other = put-other size c b.holds b.number m b.bytes.items (sym b.bytes.ok.0 ∙ len) h.there there other

-- a buffer for block 0 stays one where another block is written
pub stays-buffer : (size : ℕ) (c d : List ℕ) (b : Buffer) → b.number ≡ 0 → IsBuffer size c b → length d ≡ length c
    → (HasBlock size c 0 → block_of size d 0 ≡ block_of size c 0) → IsBuffer size d b
stays-buffer size c d b zeroth h len same =
    let here : HasBlock size c 0 → block_of size d b.number ≡ block_of size c b.number = λ k. rw zeroth (same k) in
    record {
      there = λ holds. rw len (h.there holds);
      same = λ holds un. h.same holds un ∙ sym (here (let k : HasBlock size c b.number = h.there holds in rw zeroth at k));
    }

-- a buffer stays one where its block does
pub still-buffer : (size : ℕ) (c d : List ℕ) (b : Buffer) → IsBuffer size c b → length d ≡ length c
    → (b.holds ≡ true → block_of size d b.number ≡ block_of size c b.number) → IsBuffer size d b
still-buffer size c d b h len same = record {
  there = λ holds. rw len (h.there holds);
  same = λ holds un. h.same holds un ∙ sym (same holds);
}

-- the image is as long as the store
pub length-image : (size : ℕ) (c : List ℕ) (head hand : Buffer) → vec_len head.bytes ≡ size → vec_len hand.bytes ≡ size → head.number ≡ 0 → AreBuffers size c head hand
    → length (image_of size c head hand) ≡ length c
length-image size c head hand l m zeroth h =
    let inner = length-put_in size c hand m h.in_hand in
    put-length size (put_in size c hand) head.holds head.number head.bytes.items (sym head.bytes.ok.0 ∙ l) (λ holds. rw inner (h.at_front.there holds)) ∙ inner

-- a buffer that holds a later block than 0 holds the block in hand
pub number-held : (holds : Bool) (n : ℕ) → 0 < cond holds n 0 → (holds ≡ true) × (n ≡ cond holds n 0)
number-held true n h = (refl, refl)
number-held false n h = absurd (omega arith)

-- a block that its buffer puts in is read
pub own-put_in : (size : ℕ) (c : List ℕ) (b : Buffer) → vec_len b.bytes ≡ size → IsBuffer size c b → b.holds ≡ true → block_of size (put_in size c b) b.number ≡ b.bytes.items
own-put_in size c b len h holds = rw holds (own-with size b.number c b.bytes.items (h.there holds) (sym b.bytes.ok.0 ∙ len))

-- what buffers over a store keep, with no store
pub record Buffers (size : ℕ) (c : List ℕ) (head hand : Buffer) : Type 0 where
  pub head_len : vec_len head.bytes ≡ size
  pub hand_len : vec_len hand.bytes ≡ size
  pub head_number : head.number ≡ 0
  pub are : AreBuffers size c head hand

module _ {size : ℕ} {c : List ℕ} {head hand : Buffer} (k : Buffers size c head hand) where
  inner-length : length (put_in size c hand) ≡ length c
  inner-length = length-put_in size c hand k.hand_len k.are.in_hand

  inner-head : IsBuffer size (put_in size c hand) head
  inner-head =
      stays-buffer size c (put_in size c hand) head k.head_number k.are.at_front inner-length
      (λ there. other-put_in size c hand 0 k.hand_len k.are.in_hand there (λ holds e. k.are.later holds (sym e)))

  pub image-length : length (image_of size c head hand) ≡ length c
  image-length = length-put_in size (put_in size c hand) head k.head_len inner-head ∙ inner-length

  -- the image's block in hand
  pub image-hand : hand.holds ≡ true → block_of size (image_of size c head hand) hand.number ≡ hand.bytes.items
  image-hand holds =
      other-put_in size (put_in size c hand) head hand.number k.head_len inner-head (rw inner-length (k.are.in_hand.there holds)) (λ _ e. k.are.later holds (e ∙ k.head_number))
      ∙ own-put_in size c hand k.hand_len k.are.in_hand holds

  -- the image's block 0
  pub image-head : HasBlock size c 0 → block_of size (image_of size c head hand) 0 ≡ head.bytes.items
  image-head there = rw (sym k.head_number) (own-put_in size (put_in size c hand) head k.head_len inner-head (k.are.first there))

  -- the image's other blocks
  pub image-other : (m : ℕ) → HasBlock size c m → m ≢ 0 → (hand.holds ≡ true → m ≢ hand.number) → block_of size (image_of size c head hand) m ≡ block_of size c m
  image-other m there some other =
      other-put_in size (put_in size c hand) head m k.head_len inner-head (rw inner-length there) (λ _ e. some (e ∙ k.head_number))
      ∙ other-put_in size c hand m k.hand_len k.are.in_hand there other

-- a vector that was overwritten by as many bytes has these
pub refilled : (v : Vec ℕ Global) (ws : List ℕ) → length ws ≡ vec_len v → (with_items v ws).items ≡ ws
refilled v ws len = take_at ws (drop (length ws) v.items) v.len len

-- a buffer whose bytes were changed
abbrev pub edited : Buffer → List ℕ → Buffer
edited b ws = record { bytes = with_items b.bytes ws; number = b.number; holds = b.holds; changed = true }

edited-is : {size : ℕ} {c : List ℕ} (b : Buffer) (ws : List ℕ) → IsBuffer size c b → IsBuffer size c (edited b ws)
edited-is b ws h = record { there = h.there; same = λ holds un. absurd (cc) }

module _ {size : ℕ} {c : List ℕ} {head hand : Buffer} (k : Buffers size c head hand) (ws : List ℕ) where
  -- the block in hand is the image's
  pub hand-block : 0 < number_of hand → block_of size (image_of size c head hand) (number_of hand) ≡ hand.bytes.items
  hand-block some = let h = number-held hand.holds hand.number some in rw (sym h.1) (image-hand k h.0)

  -- the block in hand after a change of its bytes
  pub hand-edited : Buffers size c head (edited hand ws)
  hand-edited = record {
    head_len = k.head_len;
    hand_len = k.hand_len;
    head_number = k.head_number;
    are = record { at_front = k.are.at_front; in_hand = edited-is hand ws k.are.in_hand; first = k.are.first; later = k.are.later };
  }

  pub head-edited : Buffers size c (edited head ws) hand
  head-edited = record {
    head_len = k.head_len;
    hand_len = k.hand_len;
    head_number = k.head_number;
    are = record { at_front = edited-is head ws k.are.at_front; in_hand = k.are.in_hand; first = k.are.first; later = k.are.later };
  }

hand-others : {size : ℕ} {c : List ℕ} {head hand : Buffer} (k : Buffers size c head hand) (ws : List ℕ) (m : ℕ) → HasBlock size c m → (hand.holds ≡ true → m ≢ hand.number)
    → block_of size (image_of size c head (edited hand ws)) m ≡ block_of size (image_of size c head hand) m
hand-others k ws zero there other = image-head (hand-edited k ws) there ∙ sym (image-head k there)
hand-others k ws (suc m) there other =
    let some : suc m ≢ 0 = λ z. omega arith in
    image-other (hand-edited k ws) (suc m) there some other ∙ sym (image-other k (suc m) there some other)

-- two numbers are one or not
same-or-not : (n m : ℕ) → (n ≡ m) ⊎ (n ≢ m)
same-or-not n m = elim (cases_lt n m) [ inl l ↦ inr (λ e. omega arith) | inr l ↦ elim (cases_lt m n) [ inl j ↦ inr (λ e. omega arith) | inr j ↦ inl (omega arith) ] ]

head-others : {size : ℕ} {c : List ℕ} {head hand : Buffer} (k : Buffers size c head hand) (ws : List ℕ) (m : ℕ) → HasBlock size c m → m ≢ 0 → (holds : Bool) → holds ≡ hand.holds
    → block_of size (image_of size c (edited head ws) hand) m ≡ block_of size (image_of size c head hand) m
head-others {hand = hand} k ws m there some false is =
    let none : hand.holds ≡ true → m ≢ hand.number = λ t e. absurd (cc) in
    image-other (head-edited k ws) m there some none ∙ sym (image-other k m there some none)
head-others {hand = hand} k ws m there some true is =
    elim (same-or-not m hand.number) [
      | inl e ↦ rw e (image-hand (head-edited k ws) (sym is) ∙ sym (image-hand k (sym is)))
      | inr e ↦ image-other (head-edited k ws) m there some (λ _. e) ∙ sym (image-other k m there some (λ _. e))
    ]

module _ {size : ℕ} {c : List ℕ} {head hand : Buffer} (k : Buffers size c head hand) (ws : List ℕ) where
  -- a change of the block in hand changes that block of the image alone
  pub hand-changes : 0 < number_of hand → ChangesBlock size (number_of hand) (image_of size c head hand) (image_of size c head (edited hand ws))
  hand-changes some =
      let h = number-held hand.holds hand.number some in
      record {
        len = image-length (hand-edited k ws) ∙ sym (image-length k);
        others = λ m there other. hand-others k ws m (rw (← image-length k) there) (λ _ e. other (e ∙ h.1));
      }

  pub hand-new : 0 < number_of hand → length ws ≡ size → block_of size (image_of size c head (edited hand ws)) (number_of hand) ≡ ws
  hand-new some len = hand-block (hand-edited k ws) ws some ∙ refilled hand.bytes ws (len ∙ sym k.hand_len)

  -- a change of block 0 changes that block of the image alone
  pub head-changes : ChangesBlock size 0 (image_of size c head hand) (image_of size c (edited head ws) hand)
  head-changes = record {
    len = image-length (head-edited k ws) ∙ sym (image-length k);
    others = λ m there other. head-others k ws m (rw (← image-length k) there) other hand.holds refl;
  }

  pub head-new : HasBlock size c 0 → length ws ≡ size → block_of size (image_of size c (edited head ws) hand) 0 ≡ ws
  head-new there len = image-head (head-edited k ws) there ∙ refilled head.bytes ws (len ∙ sym k.head_len)

-- ---- blocks of zeros behind the store

-- a block that is put in stays where the bytes go on
with-grown : (size n blocks : ℕ) (c b : List ℕ) → HasBlock size c n → length b ≡ size → with_block size (grown size c blocks) n b ≡ grown size (with_block size c n b) blocks
with-grown size n blocks c b h len =
    let z : List ℕ = replicate (blocks * size) 0 in
    let at : ℕ = n * size in
    let low : at ≤ length c = omega arith in
    let all : at + length b ≤ length c = omega arith in
    ap (λ (t : List ℕ). t ++ (b ++ drop (at + length b) (c ++ z))) (take-append-le at c z low)
    ∙ ap (λ (t : List ℕ). take at c ++ (b ++ t)) (drop-append-le (at + length b) c z all)
    ∙ ap (λ (t : List ℕ). take at c ++ t) (sym (append_assoc b (drop (at + length b) c) z)) ∙ sym (append_assoc (take at c) (b ++ drop (at + length b) c) z)

pub put-grown : (size n blocks : ℕ) (c b : List ℕ) (holds : Bool) → (holds ≡ true → HasBlock size c n) → length b ≡ size
    → cond holds (with_block size (grown size c blocks) n b) (grown size c blocks) ≡ grown size (cond holds (with_block size c n b) c) blocks
put-grown size n blocks c b true h len = with-grown size n blocks c b (h refl) len
put-grown size n blocks c b false h len = refl

-- a buffer stays one where the store grows
pub grown-buffer : (size blocks : ℕ) (c : List ℕ) (b : Buffer) → IsBuffer size c b → IsBuffer size (grown size c blocks) b
grown-buffer size blocks c b h = record {
  there = λ holds. let t : HasBlock size c b.number = h.there holds in omega (arith, length-grown size blocks c);
  same = λ holds un. h.same holds un ∙ sym (block-grown size blocks b.number c (h.there holds));
}

module _ {size : ℕ} {c : List ℕ} {head hand : Buffer} (k : Buffers size c head hand) (blocks : ℕ) where
  -- buffers over a store with a block 0 stay so where it grows
  pub grown-buffers : HasBlock size c 0 → AreBuffers size (grown size c blocks) head hand
  grown-buffers there = record {
    at_front = grown-buffer size blocks c head k.are.at_front;
    in_hand = grown-buffer size blocks c hand k.are.in_hand;
    first = λ _. k.are.first there;
    later = k.are.later;
  }

  -- the image grows with the store
  pub image-grown : image_of size (grown size c blocks) head hand ≡ grown size (image_of size c head hand) blocks
  image-grown =
      ap (λ (t : List ℕ). cond head.holds (with_block size t head.number head.bytes.items) t)
      (put-grown size hand.number blocks c hand.bytes.items hand.holds k.are.in_hand.there (sym hand.bytes.ok.0 ∙ k.hand_len))
      ∙ put-grown size head.number blocks (put_in size c hand) head.bytes.items head.holds (inner-head k).there (sym head.bytes.ok.0 ∙ k.head_len)

-- ---- writing back

put-own : (size n : ℕ) (c bytes : List ℕ) (holds : Bool) → (holds ≡ true → HasBlock size c n) → (holds ≡ true → bytes ≡ block_of size c n) → cond holds (with_block size c n bytes) c ≡ c
put-own size n c bytes true there same = rw (same refl) (with-own size n c (there refl))
put-own size n c bytes false there same = refl

-- a buffer that was not changed puts in what is there
pub unchanged-put : (size : ℕ) (c : List ℕ) (b : Buffer) → IsBuffer size c b → (b.holds ≡ true → b.changed ≡ false) → put_in size c b ≡ c
unchanged-put size c b h un = put-own size b.number c b.bytes.items b.holds h.there (λ holds. h.same holds (un holds))

-- a buffer that was written back is the store's
pub written-buffer : {size : ℕ} {c : List ℕ} {b b' : Buffer} → vec_len b.bytes ≡ size → IsBuffer size c b → IsWrittenBack b b' → IsBuffer size (put_in size c b) b'
written-buffer {size} {c} {b} {b'} len h w =
    let long = length-put_in size c b len h in
    record {
      there = λ holds. let t : HasBlock size c b.number = h.there (sym w.holds ∙ holds) in rw (w.number, long) t;
      same = λ holds un. ap (λ v. v.items) w.bytes ∙ sym (own-put_in size c b len h (sym w.holds ∙ holds)) ∙ ap (block_of size (put_in size c b)) (sym w.number);
    }

module _ {size : ℕ} {c : List ℕ} {head hand hand' : Buffer} (k : Buffers size c head hand) (w : IsWrittenBack hand hand') where
  -- once the block in hand was written back
  pub hand-written : AreBuffers size (put_in size c hand) head hand'
  hand-written = record {
    at_front = inner-head k;
    in_hand = written-buffer k.hand_len k.are.in_hand w;
    first = λ there. k.are.first (rw (← inner-length k) there);
    later = λ holds. rw w.number (k.are.later (sym w.holds ∙ holds));
  }

  -- the image is as it was
  pub image-hand-written : image_of size (put_in size c hand) head hand' ≡ image_of size c head hand
  image-hand-written = ap (λ (t : List ℕ). put_in size t head) (unchanged-put size (put_in size c hand) hand' hand-written.in_hand w.unchanged)

module _ {size : ℕ} {c : List ℕ} {head hand head' : Buffer} (k : Buffers size c head hand) (un : hand.holds ≡ true → hand.changed ≡ false) (w : IsWrittenBack head head') where
  -- once block 0 was written back too, the store has the image
  pub stored-image : put_in size c head ≡ image_of size c head hand
  stored-image = ap (λ (t : List ℕ). put_in size t head) (sym (unchanged-put size c hand k.are.in_hand un))

  front-length : length (put_in size c head) ≡ length c
  front-length = length-put_in size c head k.head_len k.are.at_front

  front-hand : IsBuffer size (put_in size c head) hand
  front-hand = record {
    there = λ holds. rw front-length (k.are.in_hand.there holds);
    same = λ holds h.
        k.are.in_hand.same holds h
        ∙ sym (other-put_in size c head hand.number k.head_len k.are.at_front (k.are.in_hand.there holds) (λ _ e. k.are.later holds (e ∙ k.head_number)));
  }

  pub head-written : AreBuffers size (put_in size c head) head' hand
  head-written = record {
    at_front = written-buffer k.head_len k.are.at_front w;
    in_hand = front-hand;
    first = λ there. rw w.holds (k.are.first (rw (← front-length) there));
    later = k.are.later;
  }

  pub image-head-written : image_of size (put_in size c head) head' hand ≡ image_of size c head hand
  image-head-written =
      ap (λ (t : List ℕ). put_in size t head') (unchanged-put size (put_in size c head) hand front-hand un)
      ∙ unchanged-put size (put_in size c head) head' head-written.at_front w.unchanged ∙ stored-image

pub put-stands : (size n : ℕ) (c bytes : List ℕ) (holds : Bool) → (holds ≡ true → HasBlock size c n) → (holds ≡ true → block_of size c n ≡ bytes) → cond holds (with_block size c n bytes) c ≡ c
put-stands size n c bytes true there same = rw (← same refl) (with-own size n c (there refl))
put-stands size n c bytes false there same = refl

-- ---- blocks that are put in in either order

-- a byte before those that were put at a place
byte-below : (c xs : List ℕ) (p k : ℕ) → p + length xs ≤ length c → k < p → get_or (with_bytes c p xs) k 0 ≡ get_or c k 0
byte-below c xs p k h l = grind (arith, common_steps)

-- a byte of them
byte-inside : (c xs : List ℕ) (p j : ℕ) → p + length xs ≤ length c → j < length xs → get_or (with_bytes c p xs) (p + j) 0 ≡ get_or xs j 0
byte-inside c xs p j h l = grind (arith, common_steps)

-- a byte behind them
byte-above : (c xs : List ℕ) (p k : ℕ) → p + length xs ≤ length c → p + length xs ≤ k → get_or (with_bytes c p xs) k 0 ≡ get_or c k 0
byte-above c xs p k h l = grind (arith, common_steps)

length-with : (c xs : List ℕ) (p : ℕ) → p + length xs ≤ length c → length (with_bytes c p xs) ≡ length c
length-with c xs p h = grind (arith, common_steps)

module _ (p q : ℕ) (c a b : List ℕ) (h : p + length a ≤ q) (l : q + length b ≤ length c) where
  front-fits : p + length a ≤ length c
  front-fits = omega arith

  behind-fits : q + length b ≤ length (with_bytes c p a)
  behind-fits = rw (length-with c a p front-fits) l

  front-still-fits : p + length a ≤ length (with_bytes c q b)
  front-still-fits = rw (length-with c b q l) front-fits

  behind-front : (k : ℕ) → k < p → get_or (with_bytes (with_bytes c p a) q b) k 0 ≡ get_or (with_bytes (with_bytes c q b) p a) k 0
  behind-front k u =
      byte-below (with_bytes c p a) b q k behind-fits (omega arith) ∙ byte-below c a p k front-fits u
      ∙ sym (byte-below (with_bytes c q b) a p k front-still-fits u ∙ byte-below c b q k l (omega arith))

  behind-first : (j : ℕ) → j < length a → get_or (with_bytes (with_bytes c p a) q b) (p + j) 0 ≡ get_or (with_bytes (with_bytes c q b) p a) (p + j) 0
  behind-first j u =
      byte-below (with_bytes c p a) b q (p + j) behind-fits (omega arith) ∙ byte-inside c a p j front-fits u ∙ sym (byte-inside (with_bytes c q b) a p j front-still-fits u)

  behind-between : (k : ℕ) → p + length a ≤ k → k < q → get_or (with_bytes (with_bytes c p a) q b) k 0 ≡ get_or (with_bytes (with_bytes c q b) p a) k 0
  behind-between k m u =
      byte-below (with_bytes c p a) b q k behind-fits u ∙ byte-above c a p k front-fits m
      ∙ sym (byte-above (with_bytes c q b) a p k front-still-fits m ∙ byte-below c b q k l u)

  behind-second : (j : ℕ) → j < length b → get_or (with_bytes (with_bytes c p a) q b) (q + j) 0 ≡ get_or (with_bytes (with_bytes c q b) p a) (q + j) 0
  behind-second j u =
      byte-inside (with_bytes c p a) b q j behind-fits u
      ∙ sym (byte-above (with_bytes c q b) a p (q + j) front-still-fits (omega arith) ∙ byte-inside c b q j l u)

  behind-last : (k : ℕ) → q + length b ≤ k → get_or (with_bytes (with_bytes c p a) q b) k 0 ≡ get_or (with_bytes (with_bytes c q b) p a) k 0
  behind-last k m =
      byte-above (with_bytes c p a) b q k behind-fits m ∙ byte-above c a p k front-fits (omega arith)
      ∙ sym (byte-above (with_bytes c q b) a p k front-still-fits (omega arith) ∙ byte-above c b q k l m)

  behind-byte : (k : ℕ) → get_or (with_bytes (with_bytes c p a) q b) k 0 ≡ get_or (with_bytes (with_bytes c q b) p a) k 0
  behind-byte k =
      elim (cases_lt k p) [
        | inl u ↦ behind-front k u
        | inr m ↦ elim (cases_lt k (p + length a)) [
          | inl u ↦ let e : p + (k - p) ≡ k = omega arith in rw e at (behind-first (k - p) (omega arith))
          | inr m ↦ elim (cases_lt k q) [
            | inl u ↦ behind-between k (omega arith) u
            | inr m ↦ elim (cases_lt k (q + length b)) [ inl u ↦ let e : q + (k - q) ≡ k = omega arith in rw e at (behind-second (k - q) (omega arith)) | inr m ↦ behind-last k (omega arith) ]
          ]
        ]
      ]

  -- bytes that are put at a place and others behind them, in either order
  with-behind : with_bytes (with_bytes c p a) q b ≡ with_bytes (with_bytes c q b) p a
  with-behind =
      same_number_lists _ _
      (length-with (with_bytes c p a) b q behind-fits ∙ length-with c a p front-fits ∙ sym (length-with (with_bytes c q b) a p front-still-fits ∙ length-with c b q l))
      (λ k u. behind-byte k)

-- two blocks that are put in in either order
pub with-both : (size n m : ℕ) (c a b : List ℕ) → HasBlock size c n → HasBlock size c m → length a ≡ size → length b ≡ size → n ≢ m
    → with_block size (with_block size c n a) m b ≡ with_block size (with_block size c m b) n a
with-both size n m c a b h l la lb other =
    elim (cases_lt n m) [
      | inl k ↦ with-behind (n * size) (m * size) c a b (rw la (row_fits n size m size k (omega arith))) (rw lb l)
      | inr k ↦ let j : m < n = omega arith in sym (with-behind (m * size) (n * size) c b a (rw lb (row_fits m size n size j (omega arith))) (rw la h))
    ]

pub put-both : (size n m : ℕ) (c a b : List ℕ) (x y : Bool) → (x ≡ true → HasBlock size c n) → (y ≡ true → HasBlock size c m) → length a ≡ size → length b ≡ size
    → (x ≡ true → y ≡ true → n ≢ m)
    → cond y (with_block size (cond x (with_block size c n a) c) m b) (cond x (with_block size c n a) c)
    ≡ cond x (with_block size (cond y (with_block size c m b) c) n a) (cond y (with_block size c m b) c)
put-both size n m c a b true true h l la lb other = with-both size n m c a b (h refl) (l refl) la lb (other refl refl)
put-both size n m c a b true false h l la lb other = refl
put-both size n m c a b false true h l la lb other = refl
put-both size n m c a b false false h l la lb other = refl
