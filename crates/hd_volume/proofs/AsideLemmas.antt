-- Blocks in memory beside block 0, and the bytes that they make with a store.
use Rattle.std.proofs.Common.{◌≡◌, ◌≢◌, inl, inr, true, false, Bool, IsTrue, ℕ, zero, suc, ◌+◌, ◌*◌, ◌<◌, List, [], ◌∷◌, length, get_or, set, take, drop, replicate, refl, sym, ap, subst, ◌∙◌, arith}
use Rattle.std.proofs.lemmas.Bool.{cases_eq, cases_lt, cases_Bool}
use Rattle.std.proofs.lemmas.List.{take_at, length-set, nil_from_length, drop_more, drop-set-lt, drop-drop, length-drop, get_or-drop, take_more, take_more_set}
use Rattle.std.proofs.lemmas.List.Elements.{AllZip-push}
use Rattle.std.specs.List.{AllByRecursion, AllZip}
use Rattle.std.specs.Vec.{with_items}
use Rattle.std.specs.declared.vec.Vec.{Vec}
use Rattle.std.specs.declared.alloc.Global.{Global}
use Rattle.hd_bytes.specs.Blocks.{block_of, grown, HasBlock}
use Rattle.hd_bytes.proofs.BlockLemmas.{length-grown, block-grown, new-block}
use Rattle.hd_volume.specs.Images.{KeepsFirst}
use Rattle.hd_volume.specs.declared.buffer.Buffer.{Buffer}
use Rattle.hd_volume.specs.Buffers.{put_in, put_all, image_of, IsBuffer, AreBuffers, IsBlockLong, HoldsNot, AreApart, AreLater, slot_of, StandFrom, IsElsewhere, StandInSlots, IsExchanged, IsTurned, IsInBytes, IsWrittenBack, AreKept, KeepsImage}
use Rattle.hd_volume.proofs.BufferLemmas.{Buffers, put-length, put-other, put-both, put-grown, put-stands, length-put_in, other-put_in, own-put_in, unchanged-put, still-buffer, stays-buffer, grown-buffer, grown-buffers, image-length, image-grown, image-hand-written}

-- ---- the buffer in hand and one of those aside change places

all-placed : (P : Buffer → Type 0) (hand : Buffer) (aside : List Buffer) (place : ℕ) → AllByRecursion P (hand ∷ aside) → AllByRecursion P (get_or aside place hand ∷ set aside place hand)
all-placed P hand [] place h = h
all-placed P hand (x ∷ xs) zero h = (h.1.0, (h.0, h.1.1))
all-placed P hand (x ∷ xs) (suc place) h =
    let r : AllByRecursion P (get_or xs place hand ∷ set xs place hand) = all-placed P hand xs place (h.0, h.1.1) in
    (r.0, (h.1.0, r.1))

apart-placed : (hand : Buffer) (aside : List Buffer) (place : ℕ) → AreApart (hand ∷ aside) → AreApart (get_or aside place hand ∷ set aside place hand)
apart-placed hand [] place h = h
apart-placed hand (x ∷ xs) zero h = ((λ holds. ((λ held e. (h.0 held).0 holds (sym e)), h.1.0 holds)), ((λ held. (h.0 held).1), h.1.1))
apart-placed hand (x ∷ xs) (suc place) h =
    let r : AreApart (get_or xs place hand ∷ set xs place hand) = apart-placed hand xs place ((λ held. (h.0 held).1), h.1.1) in
    let o : x.holds ≡ true → AllByRecursion (HoldsNot x.number) (get_or xs place hand ∷ set xs place hand) =
    λ holds. all-placed (HoldsNot x.number) hand xs place ((λ held e. (h.0 held).0 holds (sym e)), h.1.0 holds) in
    ((λ held. ((λ holds e. (o holds).0 held (sym e)), r.0 held)), ((λ holds. (o holds).1), r.1))

all-exchanged : (P : Buffer → Type 0) {n : ℕ} {hand hand' : Buffer} {aside aside' : List Buffer} → IsExchanged n hand aside hand' aside' → AllByRecursion P (hand ∷ aside) → AllByRecursion P (hand' ∷ aside')
all-exchanged P {n} {hand} {hand'} {aside} {aside'} e h = rw (e.came, e.went) (all-placed P hand aside (slot_of (length aside) n) h)

apart-exchanged : {n : ℕ} {hand hand' : Buffer} {aside aside' : List Buffer} → IsExchanged n hand aside hand' aside' → AreApart (hand ∷ aside) → AreApart (hand' ∷ aside')
apart-exchanged {n} {hand} {hand'} {aside} {aside'} e h = rw (e.came, e.went) (apart-placed hand aside (slot_of (length aside) n) h)

-- what each has, each has then
pub all-turned : (P : Buffer → Type 0) {n : ℕ} {hand hand' : Buffer} {aside aside' : List Buffer} → IsTurned n hand aside hand' aside' → AllByRecursion P (hand ∷ aside) → AllByRecursion P (hand' ∷ aside')
all-turned P t h = all-exchanged P t.second (all-exchanged P t.first h)

pub later-turned : {size n : ℕ} {c : List ℕ} {hand hand' : Buffer} {aside aside' : List Buffer} → IsTurned n hand aside hand' aside' → AreLater size c (hand ∷ aside) → AreLater size c (hand' ∷ aside')
later-turned {size} {n} {c} t p = record {
  each = all-turned (IsBuffer size c) t p.each;
  later = all-turned (HoldsNot 0) t p.later;
  apart = apart-exchanged t.second (apart-exchanged t.first p.apart);
}

-- ---- each block aside stands in its slot

module _ (count : ℕ) where
  stand-set : (place k : ℕ) (hand : Buffer) (aside : List Buffer) → StandFrom count k aside → (hand.holds ≡ true → slot_of count hand.number ≡ k + place) → StandFrom count k (set aside place hand)
  stand-set place k hand [] s h = tt
  stand-set zero k hand (x ∷ xs) s h = ((λ holds. let own = h holds in omega arith), s.1)
  stand-set (suc place) k hand (x ∷ xs) s h = (s.0, stand-set place (k + 1) hand xs s.1 (λ holds. let own = h holds in omega arith))

  stand-at : (place k : ℕ) (hand : Buffer) (aside : List Buffer) → place < length aside → StandFrom count k aside → (get_or aside place hand).holds ≡ true → slot_of count (get_or aside place hand).number ≡ k + place
  stand-at place k hand [] l s holds = absurd (omega arith)
  stand-at zero k hand (x ∷ xs) l s holds = let own = s.0 holds in omega arith
  stand-at (suc place) k hand (x ∷ xs) l s holds = let own = stand-at place (k + 1) hand xs (omega arith) s.1 holds in omega arith

  -- what stands behind a slot has not that slot
  stand-behind : (n k : ℕ) (aside : List Buffer) → slot_of count n < k → StandFrom count k aside → AllByRecursion (IsElsewhere count n) aside
  stand-behind n k [] l s = tt
  stand-behind n k (x ∷ xs) l s = ((λ holds e. let own = s.0 holds in omega arith), stand-behind n (k + 1) xs (omega arith) s.1)

  -- the slot where one that holds nothing was put is free
  free-set : (n place k : ℕ) (hand : Buffer) (aside : List Buffer) → hand.holds ≡ false → slot_of count n ≡ k + place → StandFrom count k aside → AllByRecursion (IsElsewhere count n) (set aside place hand)
  free-set n place k hand [] none is s = tt
  free-set n zero k hand (x ∷ xs) none is s = ((λ holds. absurd (cc)), stand-behind n (k + 1) xs (omega arith) s.1)
  free-set n (suc place) k hand (x ∷ xs) none is s = ((λ holds e. let own = s.0 holds in omega arith), free-set n place (k + 1) hand xs none (omega arith) s.1)

  free-at : (n place : ℕ) (hand : Buffer) (aside : List Buffer) → place < length aside → AllByRecursion (IsElsewhere count n) aside → IsElsewhere count n (get_or aside place hand)
  free-at n place hand [] l f = absurd (omega arith)
  free-at n zero hand (x ∷ xs) l f = f.0
  free-at n (suc place) hand (x ∷ xs) l f = free-at n place hand xs (omega arith) f.1

  other-free : (n : ℕ) (aside : List Buffer) → AllByRecursion (IsElsewhere count n) aside → AllByRecursion (HoldsNot n) aside
  other-free n [] f = tt
  other-free n (x ∷ xs) f = ((λ holds e. f.0 holds (ap (slot_of count) e)), other-free n xs f.1)

-- what came out of the slot of the block in hand holds nothing
none-came : {hand between : Buffer} {aside beside : List Buffer} → 0 < length aside → IsExchanged hand.number hand aside between beside → StandInSlots hand.number aside → between.holds ≡ false
none-came {hand} {between} {aside} {beside} some e s =
    let place : ℕ = slot_of (length aside) hand.number in
    let within : place < length aside = omega arith in
    let free : IsElsewhere (length aside) hand.number between = subst (IsElsewhere (length aside) hand.number) (sym e.came) (free-at (length aside) hand.number place hand aside within s.free) in
    let own : between.holds ≡ true → slot_of (length aside) between.number ≡ place =
    subst (λ (b : Buffer). b.holds ≡ true → slot_of (length aside) b.number ≡ place) (sym e.came) (λ holds. let own = stand-at (length aside) place 0 hand aside within s.own holds in omega arith) in
    elim (cases_Bool between.holds) [ inl holds ↦ absurd (free holds (own holds)) | inr none ↦ none ]

slots-some : {n : ℕ} {hand hand' : Buffer} {aside aside' : List Buffer} → 0 < length aside → IsTurned n hand aside hand' aside' → StandInSlots hand.number aside → StandInSlots n aside'
slots-some {n} {hand} {hand'} {aside} {aside'} some t s =
    let count : ℕ = length aside in
    let len : length t.beside ≡ count = ap length t.first.went ∙ length-set aside (slot_of count hand.number) hand in
    let len' : length aside' ≡ count = ap length t.second.went ∙ length-set t.beside (slot_of (length t.beside) n) t.between ∙ len in
    let none : t.between.holds ≡ false = none-came some t.first s in
    let stand : StandFrom count 0 t.beside = subst (StandFrom count 0) (sym t.first.went) (stand-set count (slot_of count hand.number) 0 hand aside s.own (λ holds. omega arith)) in
    let same : slot_of count n ≡ slot_of (length t.beside) n = ap (λ (k : ℕ). slot_of k n) (sym len) in
    let is : slot_of count n ≡ 0 + slot_of (length t.beside) n = omega arith in
    record {
      own =
          rw len'
          (subst (StandFrom count 0) (sym t.second.went) (stand-set count (slot_of (length t.beside) n) 0 t.between t.beside stand (λ holds. absurd (cc))));
      free =
          rw len'
          (subst (AllByRecursion (IsElsewhere count n)) (sym t.second.went) (free-set count n (slot_of (length t.beside) n) 0 t.between t.beside none is stand));
    }

-- blocks stand in their slots then, and that of block n is free
pub slots-turned : {n : ℕ} {hand hand' : Buffer} {aside aside' : List Buffer} → IsTurned n hand aside hand' aside' → StandInSlots hand.number aside → StandInSlots n aside'
slots-turned {n} {hand} {hand'} {aside} {aside'} t s =
    elim (cases_lt 0 (length aside)) [
      | inl some ↦ slots-some some t s
      | inr none ↦ (let len : length aside' ≡ 0 =
          ap length t.second.went ∙ length-set t.beside (slot_of (length t.beside) n) t.between ∙ ap length t.first.went ∙ length-set aside (slot_of (length aside) hand.number) hand ∙ omega arith in
          subst (StandInSlots n) (sym (nil_from_length aside' len)) (record { own = tt; free = tt }))
    ]

-- so that none of those aside holds it
pub other-turned : {n : ℕ} {hand hand' : Buffer} {aside aside' : List Buffer} → IsTurned n hand aside hand' aside' → StandInSlots hand.number aside → AllByRecursion (HoldsNot n) aside'
other-turned {n} {hand} {hand'} {aside} {aside'} t s = other-free (length aside') n aside' (slots-turned t s).free

-- ---- the bytes with their blocks put in

-- two buffers are put in in either order
put-either : (size : ℕ) (c : List ℕ) (a b : Buffer) → IsBlockLong size a → IsBlockLong size b → (a.holds ≡ true → HasBlock size c a.number) → (b.holds ≡ true → HasBlock size c b.number)
    → (a.holds ≡ true → b.holds ≡ true → a.number ≢ b.number) → put_in size (put_in size c a) b ≡ put_in size (put_in size c b) a
put-either size c a b l m h k other = put-both size a.number b.number c a.bytes.items b.bytes.items a.holds b.holds h k (sym a.bytes.ok.0 ∙ l) (sym b.bytes.ok.0 ∙ m) other

module _ (size : ℕ) (c : List ℕ) where
  pub length-put_all : (bs : List Buffer) → AllByRecursion (IsBlockLong size) bs → AllByRecursion (IsBuffer size c) bs → length (put_all size c bs) ≡ length c
  length-put_all [] l h = refl
  length-put_all (b ∷ rest) l h =
      let n : length (put_all size c rest) ≡ length c = length-put_all rest l.1 h.1 in
      put-length size (put_all size c rest) b.holds b.number b.bytes.items (sym b.bytes.ok.0 ∙ l.0) (λ holds. rw n (h.0.there holds)) ∙ n

  -- a block that none of them holds stays
  pub other-put_all : (m : ℕ) (bs : List Buffer) → AllByRecursion (IsBlockLong size) bs → AllByRecursion (IsBuffer size c) bs → HasBlock size c m → AllByRecursion (HoldsNot m) bs
      → block_of size (put_all size c bs) m ≡ block_of size c m
  other-put_all m [] l h there o = refl
  other-put_all m (b ∷ rest) l h there o =
      let n : length (put_all size c rest) ≡ length c = length-put_all rest l.1 h.1 in
      put-other size (put_all size c rest) b.holds b.number m b.bytes.items (sym b.bytes.ok.0 ∙ l.0) (λ holds. rw n (h.0.there holds)) (rw n there) (λ holds e. o.0 holds (sym e))
      ∙ other-put_all m rest l.1 h.1 there o.1

  -- a buffer whose block none of them holds is one over these bytes
  pub buffer-past : (b : Buffer) (bs : List Buffer) → AllByRecursion (IsBlockLong size) bs → AllByRecursion (IsBuffer size c) bs → IsBuffer size c b
      → (b.holds ≡ true → AllByRecursion (HoldsNot b.number) bs) → IsBuffer size (put_all size c bs) b
  buffer-past b bs l h k o = still-buffer size c (put_all size c bs) b k (length-put_all bs l h) (λ holds. other-put_all b.number bs l h (k.there holds) (o holds))

  -- it may be put in before them
  pub put-past : (b : Buffer) (bs : List Buffer) → IsBlockLong size b → IsBuffer size c b → AllByRecursion (IsBlockLong size) bs → AllByRecursion (IsBuffer size c) bs
      → (b.holds ≡ true → AllByRecursion (HoldsNot b.number) bs) → put_all size (put_in size c b) bs ≡ put_in size (put_all size c bs) b
  put-past b [] m k l h o = refl
  put-past b (a ∷ rest) m k l h o =
      let n : length (put_all size c rest) ≡ length c = length-put_all rest l.1 h.1 in
      ap (λ (t : List ℕ). put_in size t a) (put-past b rest m k l.1 h.1 (λ held. (o held).1))
      ∙ put-either size (put_all size c rest) b a m l.0 (λ holds. rw n (k.there holds)) (λ holds. rw n (h.0.there holds)) (λ held holds e. (o held).0 holds (sym e))

  put-next : (a b : Buffer) (rest : List Buffer) → AllByRecursion (IsBlockLong size) (a ∷ b ∷ rest) → AllByRecursion (IsBuffer size c) (a ∷ b ∷ rest) → AreApart (a ∷ b ∷ rest)
      → put_all size c (b ∷ a ∷ rest) ≡ put_all size c (a ∷ b ∷ rest)
  put-next a b rest l h o =
      let n : length (put_all size c rest) ≡ length c = length-put_all rest l.1.1 h.1.1 in
      put-either size (put_all size c rest) a b l.0 l.1.0 (λ holds. rw n (h.0.there holds)) (λ holds. rw n (h.1.0.there holds)) (λ held holds e. (o.0 held).0 holds (sym e))

  put-placed : (hand : Buffer) (aside : List Buffer) (place : ℕ) → AllByRecursion (IsBlockLong size) (hand ∷ aside) → AllByRecursion (IsBuffer size c) (hand ∷ aside) → AreApart (hand ∷ aside)
      → put_all size c (get_or aside place hand ∷ set aside place hand) ≡ put_all size c (hand ∷ aside)
  put-placed hand [] place l h o = refl
  put-placed hand (x ∷ xs) zero l h o = put-next hand x xs l h o
  put-placed hand (x ∷ xs) (suc place) l h o =
      let beside : AreApart (hand ∷ xs) = ((λ held. (o.0 held).1), o.1.1) in
      let apart : x.holds ≡ true → AllByRecursion (HoldsNot x.number) (hand ∷ xs) = λ holds. ((λ held e. (o.0 held).0 holds (sym e)), o.1.0 holds) in
      put-next x (get_or xs place hand) (set xs place hand) (l.1.0, all-placed (IsBlockLong size) hand xs place (l.0, l.1.1)) (h.1.0, all-placed (IsBuffer size c) hand xs place (h.0, h.1.1))
      ((λ holds. all-placed (HoldsNot x.number) hand xs place (apart holds)), apart-placed hand xs place beside)
      ∙ ap (λ (t : List ℕ). put_in size t x) (put-placed hand xs place (l.0, l.1.1) (h.0, h.1.1) beside) ∙ put-next hand x xs l h o

put-exchanged : {size n : ℕ} {c : List ℕ} {hand hand' : Buffer} {aside aside' : List Buffer} → IsExchanged n hand aside hand' aside' → AllByRecursion (IsBlockLong size) (hand ∷ aside)
    → AllByRecursion (IsBuffer size c) (hand ∷ aside) → AreApart (hand ∷ aside) → put_all size c (hand' ∷ aside') ≡ put_all size c (hand ∷ aside)
put-exchanged {size} {n} {c} {hand} {hand'} {aside} {aside'} e l h o = rw (e.came, e.went) (put-placed size c hand aside (slot_of (length aside) n) l h o)

-- they make the same bytes, wherever they stand
pub put-turned : {size n : ℕ} {c : List ℕ} {hand hand' : Buffer} {aside aside' : List Buffer} → IsTurned n hand aside hand' aside' → AllByRecursion (IsBlockLong size) (hand ∷ aside)
    → AreLater size c (hand ∷ aside) → put_all size c (hand' ∷ aside') ≡ put_all size c (hand ∷ aside)
put-turned {size} {n} {c} t l p =
    put-exchanged t.second (all-exchanged (IsBlockLong size) t.first l) (all-exchanged (IsBuffer size c) t.first p.each) (apart-exchanged t.first p.apart) ∙ put-exchanged t.first l p.each p.apart

-- ---- what the bytes show of them

-- the bytes have a buffer's block
abbrev pub Shows : ℕ → List ℕ → Buffer → Type 0
Shows size d b = b.holds ≡ true → block_of size d b.number ≡ b.bytes.items

module _ (size : ℕ) (c : List ℕ) where
  -- they show what they showed once another block was put in
  shown-past : (d : List ℕ) (b : Buffer) → length d ≡ length c → IsBlockLong size b → (b.holds ≡ true → HasBlock size d b.number) → (bs : List Buffer) → AllByRecursion (IsBuffer size c) bs
      → (b.holds ≡ true → AllByRecursion (HoldsNot b.number) bs) → AllByRecursion (Shows size d) bs → AllByRecursion (Shows size (put_in size d b)) bs
  shown-past d b n m there [] h o s = tt
  shown-past d b n m there (x ∷ xs) h o s = (
    (λ holds. put-other size d b.holds b.number x.number b.bytes.items (sym b.bytes.ok.0 ∙ m) there (rw n (h.0.there holds)) (λ held. (o held).0 holds) ∙ s.0 holds),
    shown-past d b n m there xs h.1 (λ held. (o held).1) s.1,
  )

  all-show : (bs : List Buffer) → AllByRecursion (IsBlockLong size) bs → AllByRecursion (IsBuffer size c) bs → AreApart bs → AllByRecursion (Shows size (put_all size c bs)) bs
  all-show [] l h o = tt
  all-show (b ∷ rest) l h o =
      let past : IsBuffer size (put_all size c rest) b = buffer-past size c b rest l.1 h.1 h.0 o.0 in
      (own-put_in size (put_all size c rest) b l.0 past, shown-past (put_all size c rest) b (length-put_all size c rest l.1 h.1) l.0 past.there rest h.1 o.0 (all-show rest l.1 h.1 o.1))

  all-stand : (bs : List Buffer) → AllByRecursion (IsBuffer size c) bs → AllByRecursion (Shows size c) bs → AllByRecursion (IsInBytes size c) bs
  all-stand [] h s = tt
  all-stand (b ∷ rest) h s = (put-stands size b.number c b.bytes.items b.holds h.0.there s.0, all-stand rest h.1 s.1)

module _ {size : ℕ} {c : List ℕ} {head hand : Buffer} {aside : List Buffer} (k : Buffers size c head hand) (l : AllByRecursion (IsBlockLong size) aside) (p : AreLater size c (hand ∷ aside)) where
  pub aside-length : length (put_all size c aside) ≡ length c
  aside-length = length-put_all size c aside l p.each.1

  -- the buffers over the store are such over its bytes with the blocks aside put in
  pub over-aside : Buffers size (put_all size c aside) head hand
  over-aside = record {
    head_len = k.head_len;
    hand_len = k.hand_len;
    head_number = k.head_number;
    are = record {
      at_front = stays-buffer size c (put_all size c aside) head k.head_number k.are.at_front aside-length (λ there. other-put_all size c 0 aside l p.each.1 there p.later.1);
      in_hand = buffer-past size c hand aside l p.each.1 k.are.in_hand p.apart.0;
      first = λ there. k.are.first (rw (← aside-length) there);
      later = k.are.later;
    };
  }

  aside-image-length : length (image_of size (put_all size c aside) head hand) ≡ length c
  aside-image-length = image-length over-aside ∙ aside-length

  -- the image shows them
  image-shows : AllByRecursion (Shows size (image_of size (put_all size c aside) head hand)) (hand ∷ aside)
  image-shows =
      let n : length (put_all size c (hand ∷ aside)) ≡ length c = length-put_all size c (hand ∷ aside) (k.hand_len, l) p.each in
      shown-past size c (put_all size c (hand ∷ aside)) head n k.head_len (λ holds. rw n (k.are.at_front.there holds)) (hand ∷ aside) p.each (λ _. subst (λ n. AllByRecursion (HoldsNot n) (hand ∷ aside)) (sym k.head_number) p.later)
      (all-show size c (hand ∷ aside) (k.hand_len, l) p.each p.apart)

  -- where the image stands in the store, so does each of them
  pub aside-stand : c ≡ image_of size (put_all size c aside) head hand → AllByRecursion (IsInBytes size c) (hand ∷ aside)
  aside-stand same = all-stand size c (hand ∷ aside) p.each (subst (λ (t : List ℕ). AllByRecursion (Shows size t) (hand ∷ aside)) (sym same) image-shows)

-- what is kept over the store, while it is sound
pub stored-buffers : {store_size size : ℕ} {c : List ℕ} {is_sound : Bool} {head hand : Buffer} {aside : List Buffer} → AreKept store_size c is_sound size head hand aside → IsTrue is_sound → Buffers size c head hand
stored-buffers k sound = record { head_len = k.head_len; hand_len = k.hand_len; head_number = k.head_number; are = k.ready sound }

-- and over its bytes with the blocks aside put in
pub buffers-of : {store_size size : ℕ} {c : List ℕ} {is_sound : Bool} {head hand : Buffer} {aside : List Buffer} → AreKept store_size c is_sound size head hand aside → IsTrue is_sound
    → Buffers size (put_all size c aside) head hand
buffers-of k sound = over-aside (stored-buffers k sound) k.aside_len (k.others sound)

-- the image is as long as the store
pub kept-length : {store_size size : ℕ} {c : List ℕ} {is_sound : Bool} {head hand : Buffer} {aside : List Buffer} → AreKept store_size c is_sound size head hand aside → IsTrue is_sound
    → length (image_of size (put_all size c aside) head hand) ≡ length c
kept-length k sound = aside-image-length (stored-buffers k sound) k.aside_len (k.others sound)

-- ---- none of them holds a block

pub put-empty : (size : ℕ) (c : List ℕ) (bs : List Buffer) → AllByRecursion (λ b. b.holds ≡ false) bs → put_all size c bs ≡ c
put-empty size c [] h = refl
put-empty size c (b ∷ rest) h = rw h.0 (put-empty size c rest h.1)

pub none-held : (P : Buffer → Type 0) → ((b : Buffer) → b.holds ≡ false → P b) → (bs : List Buffer) → AllByRecursion (λ b. b.holds ≡ false) bs → AllByRecursion P bs
none-held P f [] h = tt
none-held P f (b ∷ rest) h = (f b h.0, none-held P f rest h.1)

pub none-apart : (bs : List Buffer) → AllByRecursion (λ b. b.holds ≡ false) bs → AreApart bs
none-apart [] h = tt
none-apart (b ∷ rest) h = let none : b.holds ≡ false = h.0 in ((λ holds. absurd (cc)), none-apart rest h.1)

pub empty-later : (size : ℕ) (c : List ℕ) (bs : List Buffer) → AllByRecursion (λ b. b.holds ≡ false) bs → AreLater size c bs
empty-later size c bs h = record {
  each = none-held (IsBuffer size c) (λ b none. record { there = λ holds. absurd (cc); same = λ holds un. absurd (cc) }) bs h;
  later = none-held (HoldsNot 0) (λ b none holds. absurd (cc)) bs h;
  apart = none-apart bs h;
}

pub none-stand : (count k : ℕ) (bs : List Buffer) → AllByRecursion (λ b. b.holds ≡ false) bs → StandFrom count k bs
none-stand count k [] h = tt
none-stand count k (b ∷ rest) h = let none : b.holds ≡ false = h.0 in ((λ holds. absurd (cc)), none-stand count (k + 1) rest h.1)

pub empty-slots : (n : ℕ) (bs : List Buffer) → AllByRecursion (λ b. b.holds ≡ false) bs → StandInSlots n bs
empty-slots n bs h = record {
  own = none-stand (length bs) 0 bs h;
  free = none-held (IsElsewhere (length bs) n) (λ b none holds. absurd (cc)) bs h;
}

-- ---- a block is brought to the one in hand

-- another block was brought to a buffer, which none of those aside holds
pub record IsBrought (size : ℕ) (c d : List ℕ) (old new : Buffer) (aside : List Buffer) : Type 0 where
  pub len : length d ≡ length c
  pub buffer : IsBuffer size d new
  pub same : put_in size d new ≡ put_in size c old
  pub later : new.number ≢ 0
  pub other : AllByRecursion (HoldsNot new.number) aside

module _ {size : ℕ} {c d : List ℕ} {old new : Buffer} {aside : List Buffer} (p : AreLater size c (old ∷ aside)) (b : IsBrought size c d old new aside) (l : AllByRecursion (IsBlockLong size) (old ∷ aside))
    (m : IsBlockLong size new) where
  still-aside : (bs : List Buffer) → AllByRecursion (IsBuffer size c) bs → (old.holds ≡ true → AllByRecursion (HoldsNot old.number) bs) → AllByRecursion (HoldsNot new.number) bs
      → AllByRecursion (IsBuffer size d) bs
  still-aside [] h q o = tt
  still-aside (x ∷ xs) h q o = (
    still-buffer size c d x h.0 b.len
        (λ holds.
        let there : HasBlock size c x.number = h.0.there holds in
        sym (other-put_in size d new x.number m b.buffer (rw b.len there) (λ _. o.0 holds)) ∙ ap (λ (t : List ℕ). block_of size t x.number) b.same
        ∙ other-put_in size c old x.number l.0 p.each.0 there (λ held. (q held).0 holds)),
    still-aside xs h.1 (λ held. (q held).1) o.1,
  )

  pub later-brought : AreLater size d (new ∷ aside)
  later-brought = record { each = (b.buffer, still-aside aside p.each.1 p.apart.0 b.other); later = ((λ _. b.later), p.later.1); apart = ((λ _. b.other), p.apart.1) }

  -- the bytes that they make are as they were
  pub put-brought : put_all size d (new ∷ aside) ≡ put_all size c (old ∷ aside)
  put-brought =
      sym (put-past size d new aside m b.buffer l.1 later-brought.each.1 (λ _. b.other)) ∙ ap (λ (t : List ℕ). put_all size t aside) b.same
      ∙ put-past size c old aside l.0 p.each.0 l.1 p.each.1 p.apart.0

-- a buffer that was written back, and then has a block of the store that none of them holds
pub written-brought : {size n : ℕ} {c d : List ℕ} {old new : Buffer} {aside : List Buffer} → IsBlockLong size old → IsBuffer size c old → d ≡ put_in size c old → AllByRecursion (HoldsNot n) (old ∷ aside)
    → n ≢ 0 → HasBlock size c n → new.number ≡ n → new.bytes.items ≡ block_of size c n → new.changed ≡ false → IsBrought size c d old new aside
written-brought {size} {n} {c} {d} {old} {new} {aside} l h is other later there number same un =
    let len : length d ≡ length c = ap length is ∙ length-put_in size c old l h in
    let stays : block_of size d n ≡ block_of size c n = ap (λ (t : List ℕ). block_of size t n) is ∙ other-put_in size c old n l h there (λ holds e. other.0 holds (sym e)) in
    let b : IsBuffer size d new = record {
      there = λ _. subst (HasBlock size d) (sym number) (rw len there);
      same = λ _ _. same ∙ sym stays ∙ ap (block_of size d) (sym number);
    } in
    record {
      len = len;
      buffer = b;
      same = unchanged-put size d new b (λ _. un) ∙ is;
      later = λ e. later (sym number ∙ e);
      other = subst (λ k. AllByRecursion (HoldsNot k) aside) (sym number) other.1;
    }

-- ---- they are written back

module _ {size : ℕ} {c : List ℕ} {b : Buffer} (m : IsBlockLong size b) where
  still-under : (bs : List Buffer) → IsBuffer size c b → AllByRecursion (IsBuffer size c) bs → (b.holds ≡ true → AllByRecursion (HoldsNot b.number) bs) → AllByRecursion (IsBuffer size (put_in size c b)) bs
  still-under [] k h o = tt
  still-under (x ∷ xs) k h o = (
    still-buffer size c (put_in size c b) x h.0 (length-put_in size c b m k) (λ holds. other-put_in size c b x.number m k (h.0.there holds) (λ held. (o held).0 holds)),
    still-under xs k h.1 (λ held. (o held).1),
  )

  -- once the first of them was
  pub later-under : {rest : List Buffer} → AreLater size c (b ∷ rest) → AreLater size (put_in size c b) rest
  later-under {rest} p = record { each = still-under rest p.each.0 p.each.1 p.apart.0; later = p.later.1; apart = p.apart.1 }

  pub put-under : {rest : List Buffer} → AreLater size c (b ∷ rest) → AllByRecursion (IsBlockLong size) rest → put_all size (put_in size c b) rest ≡ put_all size c (b ∷ rest)
  put-under {rest} p l = put-past size c b rest m p.each.0 l p.each.1 p.apart.0

all-from : (P : Buffer → Type 0) (i : ℕ) (bs : List Buffer) → AllByRecursion P bs → AllByRecursion P (drop i bs)
all-from P zero bs h = h
all-from P (suc i) [] h = tt
all-from P (suc i) (x ∷ xs) h = all-from P i xs h.1

-- One of several was written back, those before it were before: what the others and the store's bytes make.
pub record IsNext (size i : ℕ) (c d : List ℕ) (b b' : Buffer) (bs : List Buffer) : Type 0 where
  pub within : i < length bs
  pub is : b ≡ get_or bs i b
  pub long : AllByRecursion (IsBlockLong size) bs
  pub others : AreLater size c (drop i bs)
  pub bytes : d ≡ put_in size c b

module _ {size i : ℕ} {c d : List ℕ} {b b' : Buffer} {bs : List Buffer} (n : IsNext size i c d b b' bs) where
  next-from : drop i bs ≡ b ∷ drop (i + 1) bs
  next-from = let l : i < length bs = n.within in drop_more bs i b l ∙ ap (λ (x : Buffer). x ∷ drop (i + 1) bs) (sym n.is)

  pub next-rest : drop (i + 1) (set bs i b') ≡ drop (i + 1) bs
  next-rest = drop-set-lt (i + 1) bs i b' (omega arith)

  next-others : AreLater size c (b ∷ drop (i + 1) bs)
  next-others = subst (AreLater size c) next-from n.others

  next-long : AllByRecursion (IsBlockLong size) (b ∷ drop (i + 1) bs)
  next-long = subst (AllByRecursion (IsBlockLong size)) next-from (all-from (IsBlockLong size) i bs n.long)

  pub next-later : AreLater size d (drop (i + 1) (set bs i b'))
  next-later = rw (next-rest, n.bytes) (later-under next-long.0 next-others)

  pub next-put : put_all size d (drop (i + 1) (set bs i b')) ≡ put_all size c (drop i bs)
  next-put = rw (next-rest, n.bytes, next-from) (put-under next-long.0 next-others next-long.1)

  -- it is the first of those that are left, a buffer of the store
  pub next-buffer : IsBlockLong size b × IsBuffer size c b
  next-buffer = (next-long.0, next-others.each.0)

-- those up to it were written back then, and the others are as they were
pub next-written : (olds bs : List Buffer) (i : ℕ) (b b' : Buffer) → i < length bs → b ≡ get_or bs i b → drop i bs ≡ drop i olds → AllZip IsWrittenBack (take i olds) (take i bs) → IsWrittenBack b b'
    → AllZip IsWrittenBack (take (i + 1) olds) (take (i + 1) (set bs i b'))
next-written olds bs i b b' within is rest w v =
    let len = ap length rest in
    let there : i < length olds = omega (arith, simp length-drop at len) in
    let zeroth : i + 0 ≡ i = omega arith in
    let was : get_or olds i b ≡ b = sym (rw zeroth at (get_or-drop i olds 0 b)) ∙ ap (λ (l : List Buffer). get_or l 0 b) (sym rest) ∙ (rw zeroth at (get_or-drop i bs 0 b)) ∙ sym is in
    rw (take_more olds i b there, take_more_set bs i b' within, was) (AllZip-push IsWrittenBack (take i olds) (take i bs) b b' w v)

pub next-drop : (olds bs : List Buffer) (i : ℕ) (b' : Buffer) → drop i bs ≡ drop i olds → drop (i + 1) (set bs i b') ≡ drop (i + 1) olds
next-drop olds bs i b' rest = drop-set-lt (i + 1) bs i b' (omega arith) ∙ sym (drop-drop 1 i bs) ∙ ap (drop 1) rest ∙ drop-drop 1 i olds

length-written : (old new : List Buffer) → AllZip IsWrittenBack old new → length new ≡ length old
length-written [] [] w = refl
length-written [] (y ∷ ys) w = absurd w
length-written (x ∷ xs) [] w = absurd w
length-written (x ∷ xs) (y ∷ ys) w = let n = length-written xs ys w.1 in omega arith

-- a vector of them has just the ones written back then
pub refilled-all : (v : Vec Buffer Global) (new : List Buffer) → AllZip IsWrittenBack v.items new → (with_items v new).items ≡ new
refilled-all v new w = take_at new (drop (length new) v.items) v.len (length-written v.items new w ∙ sym v.ok.0)

written-others : (n : ℕ) (old new : List Buffer) → AllZip IsWrittenBack old new → AllByRecursion (HoldsNot n) old → AllByRecursion (HoldsNot n) new
written-others n [] [] w h = tt
written-others n [] (y ∷ ys) w h = absurd w
written-others n (x ∷ xs) [] w h = absurd w
written-others n (x ∷ xs) (y ∷ ys) w h = ((λ holds. rw w.0.number (h.0 (sym w.0.holds ∙ holds))), written-others n xs ys w.1 h.1)

written-apart : (old new : List Buffer) → AllZip IsWrittenBack old new → AreApart old → AreApart new
written-apart [] [] w h = tt
written-apart [] (y ∷ ys) w h = absurd w
written-apart (x ∷ xs) [] w h = absurd w
written-apart (x ∷ xs) (y ∷ ys) w h = ((λ holds. rw w.0.number (written-others x.number xs ys w.1 (h.0 (sym w.0.holds ∙ holds)))), written-apart xs ys w.1 h.1)

stand-written : (count k : ℕ) (old new : List Buffer) → AllZip IsWrittenBack old new → StandFrom count k old → StandFrom count k new
stand-written count k [] [] w h = tt
stand-written count k [] (y ∷ ys) w h = absurd w
stand-written count k (x ∷ xs) [] w h = absurd w
stand-written count k (x ∷ xs) (y ∷ ys) w h = ((λ holds. rw w.0.number (h.0 (sym w.0.holds ∙ holds))), stand-written count (k + 1) xs ys w.1 h.1)

free-written : (count n : ℕ) (old new : List Buffer) → AllZip IsWrittenBack old new → AllByRecursion (IsElsewhere count n) old → AllByRecursion (IsElsewhere count n) new
free-written count n [] [] w h = tt
free-written count n [] (y ∷ ys) w h = absurd w
free-written count n (x ∷ xs) [] w h = absurd w
free-written count n (x ∷ xs) (y ∷ ys) w h = ((λ holds. rw w.0.number (h.0 (sym w.0.holds ∙ holds))), free-written count n xs ys w.1 h.1)

-- they stand in their slots as before
pub slots-written : {n : ℕ} {old new : List Buffer} → AllZip IsWrittenBack old new → StandInSlots n old → StandInSlots n new
slots-written {n} {old} {new} w s =
    let len : length new ≡ length old = length-written old new w in
    record { own = rw len (stand-written (length old) 0 old new w s.own); free = rw len (free-written (length old) n old new w s.free) }

written-each : (size : ℕ) (c d : List ℕ) → length d ≡ length c → (old new : List Buffer) → AllZip IsWrittenBack old new → AllByRecursion (IsBuffer size c) old → AllByRecursion (Shows size d) old
    → AllByRecursion (IsBuffer size d) new
written-each size c d n [] [] w h s = tt
written-each size c d n [] (y ∷ ys) w h s = absurd w
written-each size c d n (x ∷ xs) [] w h s = absurd w
written-each size c d n (x ∷ xs) (y ∷ ys) w h s = (
  record {
    there = λ holds. let t : HasBlock size c x.number = h.0.there (sym w.0.holds ∙ holds) in rw (w.0.number, n) t;
    same = λ holds un. ap (λ v. v.items) w.0.bytes ∙ sym (s.0 (sym w.0.holds ∙ holds)) ∙ ap (block_of size d) (sym w.0.number);
  },
  written-each size c d n xs ys w.1 h.1 s.1,
)

put-written : (size : ℕ) (d : List ℕ) (old new : List Buffer) → AllZip IsWrittenBack old new → AllByRecursion (IsBuffer size d) new → put_all size d new ≡ d
put-written size d [] [] w h = refl
put-written size d [] (y ∷ ys) w h = absurd w
put-written size d (x ∷ xs) [] w h = absurd w
put-written size d (x ∷ xs) (y ∷ ys) w h = ap (λ (t : List ℕ). put_in size t y) (put-written size d xs ys w.1 h.1) ∙ unchanged-put size d y h.0 w.0.unchanged

-- The blocks aside were written back, then the block in hand, and then block 0; c, d, e and f are the store's bytes before and after each.
pub record IsFlushed (size : ℕ) (c d e f : List ℕ) (head hand head' hand' : Buffer) (aside aside' : List Buffer) : Type 0 where
  pub aside_written : AllZip IsWrittenBack aside aside'
  pub hand_written : IsWrittenBack hand hand'
  pub first : d ≡ put_all size c aside
  pub second : e ≡ put_in size d hand
  pub third : f ≡ image_of size e head hand'
  pub image : KeepsImage size e head hand' f head'
  pub ready : AreBuffers size f head' hand'

module _ {size : ℕ} {c d e f : List ℕ} {head hand head' hand' : Buffer} {aside aside' : List Buffer} (k : Buffers size c head hand) (l : AllByRecursion (IsBlockLong size) aside) (p : AreLater size c (hand ∷ aside))
    (w : IsFlushed size c d e f head hand head' hand' aside aside') where
  middle-image : image_of size e head hand' ≡ image_of size (put_all size c aside) head hand
  middle-image =
      ap (λ (t : List ℕ). image_of size t head hand') (w.second ∙ ap (λ (t : List ℕ). put_in size t hand) w.first)
      ∙ image-hand-written (over-aside k l p) w.hand_written

  -- the store has the image then
  pub flushed-stored : f ≡ image_of size (put_all size c aside) head hand
  flushed-stored = w.third ∙ middle-image

  pub flushed-others : AreLater size f (hand' ∷ aside')
  flushed-others =
      let all : AllZip IsWrittenBack (hand ∷ aside) (hand' ∷ aside') = (w.hand_written, w.aside_written) in
      record {
        each =
            subst (λ (t : List ℕ). AllByRecursion (IsBuffer size t) (hand' ∷ aside')) (sym flushed-stored)
            (written-each size c (image_of size (put_all size c aside) head hand) (aside-image-length k l p) (hand ∷ aside) (hand' ∷ aside') all p.each (image-shows k l p));
        later = written-others 0 (hand ∷ aside) (hand' ∷ aside') all p.later;
        apart = written-apart (hand ∷ aside) (hand' ∷ aside') all p.apart;
      }

  -- and the image is as it was
  pub flushed-image : image_of size (put_all size f aside') head' hand' ≡ image_of size (put_all size c aside) head hand
  flushed-image = ap (λ (t : List ℕ). image_of size t head' hand') (put-written size f aside aside' w.aside_written flushed-others.each.1) ∙ w.image ∙ middle-image

-- ---- the store grows

grown-each : (size : ℕ) (c : List ℕ) (blocks : ℕ) (bs : List Buffer) → AllByRecursion (IsBuffer size c) bs → AllByRecursion (IsBuffer size (grown size c blocks)) bs
grown-each size c blocks [] h = tt
grown-each size c blocks (b ∷ rest) h = (grown-buffer size blocks c b h.0, grown-each size c blocks rest h.1)

grown-later : {size : ℕ} {c : List ℕ} {bs : List Buffer} → AreLater size c bs → (blocks : ℕ) → AreLater size (grown size c blocks) bs
grown-later {size} {c} {bs} p blocks = record { each = grown-each size c blocks bs p.each; later = p.later; apart = p.apart }

-- the bytes with their blocks put in grow with it
put_all-grown : (size : ℕ) (c : List ℕ) (bs : List Buffer) → AllByRecursion (IsBlockLong size) bs → AllByRecursion (IsBuffer size c) bs → (blocks : ℕ)
    → put_all size (grown size c blocks) bs ≡ grown size (put_all size c bs) blocks
put_all-grown size c [] l h blocks = refl
put_all-grown size c (b ∷ rest) l h blocks =
    ap (λ (t : List ℕ). put_in size t b) (put_all-grown size c rest l.1 h.1 blocks)
    ∙ put-grown size b.number blocks (put_all size c rest) b.bytes.items b.holds (λ holds. rw (length-put_all size c rest l.1 h.1) (h.0.there holds)) (sym b.bytes.ok.0 ∙ l.0)

module _ {size store_size store_size' : ℕ} {c c' : List ℕ} {s s' : Bool} {head hand : Buffer} {aside : List Buffer} (k : AreKept store_size c s size head hand aside) where
  -- what is kept over a store with a block 0 is kept where it grows
  pub grown-kept : store_size' ≡ store_size → s' ≡ s → (IsTrue s → HasBlock size (image_of size (put_all size c aside) head hand) 0) → (blocks : ℕ) → (IsTrue s → c' ≡ grown store_size c blocks)
      → AreKept store_size' c' s' size head hand aside
  grown-kept same sound there blocks is = record {
    same_size = same ∙ k.same_size;
    some = k.some;
    small = k.small;
    head_len = k.head_len;
    hand_len = k.hand_len;
    aside_len = k.aside_len;
    head_number = k.head_number;
    ready = λ after.
        let before : IsTrue s = rw (← sound) after in
        let first : HasBlock size c 0 = let len = kept-length k before in let t = there before in omega arith in
        rw (is before, k.same_size) (grown-buffers (stored-buffers k before) blocks first);
    others = λ after.
        let before : IsTrue s = rw (← sound) after in
        rw (is before, k.same_size) (grown-later (k.others before) blocks);
    slots = λ after. k.slots (rw (← sound) after);
  }

  -- and where another block came to hand
  pub brought-kept : {hand' : Buffer} {aside' : List Buffer} → store_size' ≡ store_size → s' ≡ s → AllByRecursion (IsBlockLong store_size) (hand' ∷ aside') → (IsTrue s → length c' ≡ length c)
      → (IsTrue s → KeepsFirst store_size c c') → (IsTrue s → AreLater store_size c' (hand' ∷ aside')) → (IsTrue s → StandInSlots hand'.number aside') → AreKept store_size' c' s' size head hand' aside'
  brought-kept {hand'} {aside'} same sound long len first later slots =
      let long' : AllByRecursion (IsBlockLong size) (hand' ∷ aside') = subst (λ (z : ℕ). AllByRecursion (IsBlockLong z) (hand' ∷ aside')) k.same_size long in
      let later' : IsTrue s → AreLater size c' (hand' ∷ aside') = subst (λ (z : ℕ). IsTrue s → AreLater z c' (hand' ∷ aside')) k.same_size later in
      let first' : IsTrue s → KeepsFirst size c c' = subst (λ (z : ℕ). IsTrue s → KeepsFirst z c c') k.same_size first in
      record {
        same_size = same ∙ k.same_size;
        some = k.some;
        small = k.small;
        head_len = k.head_len;
        hand_len = long'.0;
        aside_len = long'.1;
        head_number = k.head_number;
        ready = λ after.
            let before : IsTrue s = rw (← sound) after in
            let are : AreBuffers size c head hand = k.ready before in
            let all : AreLater size c' (hand' ∷ aside') = later' before in
            record {
              at_front = stays-buffer size c c' head k.head_number are.at_front (len before) (first' before).first;
              in_hand = all.each.0;
              first = λ there. are.first (rw (← len before) there);
              later = all.later.0;
            };
        others = λ after. later' (rw (← sound) after);
        slots = λ after. slots (rw (← sound) after);
      }

-- the image is as it was then
pub brought-image : {store_size size : ℕ} (c c' : List ℕ) (head hand hand' : Buffer) (aside aside' : List Buffer) → store_size ≡ size → put_all store_size c' (hand' ∷ aside') ≡ put_all store_size c (hand ∷ aside)
    → image_of size (put_all size c' aside') head hand' ≡ image_of size (put_all size c aside) head hand
brought-image {store_size} {size} c c' head hand hand' aside aside' sized same =
    ap (λ (t : List ℕ). put_in size t head) (subst (λ (z : ℕ). put_all z c' (hand' ∷ aside') ≡ put_all z c (hand ∷ aside)) sized same)

-- the image grows with the store
pub kept-grown : {store_size size : ℕ} {c : List ℕ} {s : Bool} {head hand : Buffer} {aside : List Buffer} → AreKept store_size c s size head hand aside → IsTrue s → (blocks : ℕ)
    → image_of size (put_all size (grown size c blocks) aside) head hand ≡ grown size (image_of size (put_all size c aside) head hand) blocks
kept-grown {store_size} {size} {c} {s} {head} {hand} {aside} k sound blocks =
    ap (λ (t : List ℕ). image_of size t head hand) (put_all-grown size c aside k.aside_len (k.others sound).each.1 blocks) ∙ image-grown (buffers-of k sound) blocks

-- the block behind whole blocks, once there is one
pub block-behind : (size n : ℕ) (c : List ℕ) → 0 < size → HasBlock size c 0 → length c ≡ n * size
    → (0 < n) × HasBlock size (grown size c 1) n × (block_of size (grown size c 1) n ≡ replicate size 0)
block-behind size n c positive first whole =
    let some : 0 < n = elim (cases_eq n 0) [
      | inl z ↦ (let none : n * size ≡ 0 = rw z (let e : 0 * size ≡ 0 = omega arith in e) in absurd (omega arith))
      | inr s ↦ omega arith
    ] in
    let h : HasBlock size (grown size c 1) n = let len = length-grown size 1 c in omega arith in
    (some, h, new-block size 1 n c (omega arith) h)

-- block 0 is kept where the bytes grow first
pub first-grown : {size : ℕ} {c d : List ℕ} (blocks : ℕ) → KeepsFirst size (grown size c blocks) d → KeepsFirst size c d
first-grown {size} {c} {d} blocks k =
    let more = length-grown size blocks c in
    record { len = let l = k.len in omega arith; first = λ there. k.first (omega arith) ∙ block-grown size blocks 0 c there }
