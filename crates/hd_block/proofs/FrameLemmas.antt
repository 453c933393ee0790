-- The segments that a change of the chain of free elements leaves.
use Rattle.std.proofs.Common.{◌≡◌, ◌≢◌, ℕ, ◌+◌, ◌≤◌, ◌⊎◌, inl, inr, List, [], ◌∷◌, ◌++◌, sym, ◌∙◌, subst, arith}
use Rattle.hd_bytes.specs.Ranges.{AgreeOn, ChangesOnly}
use Rattle.hd_bytes.specs.Numbers.{number_at}
use Rattle.hd_block.specs.Extents.{Extent, free, used, taken, UsedAt}
use Rattle.hd_bytes.proofs.BlockLemmas.{agree-changed}
use Rattle.hd_block.specs.Found.{Way, Keeps, Stands, IsLinked}
use Rattle.hd_block.specs.declared.gives.Link.{Link}
use Rattle.hd_block.proofs.Reroute.{way-within, way-link}
use Rattle.hd_dbd.specs.declared.facts.SegmentSize.{SegmentSize}

-- segments stand behind where the extents begin
pub used-ahead : (p : ℕ) (xs : List Extent) (place n : ℕ) → UsedAt p xs place n → p ≤ place
used-ahead p [] place n u = absurd u
used-ahead p (free k ∷ xs) place n u = let r = used-ahead (p + k) xs place n u in omega arith
used-ahead p (taken k ∷ xs) place n u = let r = used-ahead (p + k) xs place n u in omega arith
used-ahead p (used k ∷ xs) place n (inl e) = omega arith
used-ahead p (used k ∷ xs) place n (inr u) = let r = used-ahead (p + k) xs place n u in omega arith

-- a segment is clear of the number that leads on, and of the length beside it
pub used-clear : (sizes : List SegmentSize) (b : List ℕ) (p f l : ℕ) (xs zs : List Extent) (q g m place n : ℕ) → l + 8 ≤ p → Way sizes b p f l xs q g m → UsedAt p (xs ++ zs) place n
    → (place + n ≤ m) ⊎ (m + 8 ≤ place)
used-clear sizes b p f l [] zs q g m place n h w u = let r = used-ahead p zs place n u in inr (omega arith)
used-clear sizes b p f l (free k ∷ xs) zs q g m place n h w u =
    let some = w.1.element.some in used-clear sizes b (p + k) (number_at 2 b p) p xs zs q g m place n (omega arith) w.2 u
used-clear sizes b p f l (taken k ∷ xs) zs q g m place n h w u = used-clear sizes b (p + k) f l xs zs q g m place n (omega arith) w.3 u
used-clear sizes b p f l (used k ∷ xs) zs q g m place n h w (inl e) = elim (way-link sizes b (p + k) f l xs q g m w.2) [ inl v ↦ inr (omega arith) | inr v ↦ inl (omega arith) ]
used-clear sizes b p f l (used k ∷ xs) zs q g m place n h w (inr u) = used-clear sizes b (p + k) f l xs zs q g m place n (omega arith) w.2 u

-- a segment is on a way, or behind it
pub used-beside : (sizes : List SegmentSize) (b : List ℕ) (p f l : ℕ) (xs zs : List Extent) (q g m place n : ℕ) → l + 8 ≤ p → Way sizes b p f l xs q g m → UsedAt p (xs ++ zs) place n
    → (place + n ≤ q) ⊎ UsedAt q zs place n
used-beside sizes b p f l [] zs q g m place n h w u = inr (subst (λ z. UsedAt z zs place n) w.0 u)
used-beside sizes b p f l (free k ∷ xs) zs q g m place n h w u =
    let some = w.1.element.some in used-beside sizes b (p + k) (number_at 2 b p) p xs zs q g m place n (omega arith) w.2 u
used-beside sizes b p f l (taken k ∷ xs) zs q g m place n h w u = used-beside sizes b (p + k) f l xs zs q g m place n (omega arith) w.3 u
used-beside sizes b p f l (used k ∷ xs) zs q g m place n h w (inl e) =
    let some = w.1.some in let r = way-within sizes b (p + k) f l xs q g m (omega arith) w.2 in inl (omega arith)
used-beside sizes b p f l (used k ∷ xs) zs q g m place n h w (inr u) = used-beside sizes b (p + k) f l xs zs q g m place n (omega arith) w.2 u

-- two changes leave what each leaves
pub agree-both : (place n : ℕ) (a b c : List ℕ) → AgreeOn place n a b → AgreeOn place n b c → AgreeOn place n a c
agree-both place n a b c h i = λ k l u. h k l u ∙ i k l u

-- a change behind the head of a block leaves its kind and level
pub head-room : {p n : ℕ} {b b' : List ℕ} → 8 ≤ p → ChangesOnly p n b b' → AgreeOn 2 6 b b'
head-room l c = agree-changed 2 6 c (inl (omega arith))

-- so does a change of a number that leads to a hole
pub head-link : {m : ℕ} {b b' : List ℕ} → (8 ≤ m) ⊎ (m ≡ 0) → ChangesOnly m 2 b b' → AgreeOn 2 6 b b'
head-link (inl l) c = agree-changed 2 6 c (inl (omega arith))
head-link (inr e) c = agree-changed 2 6 c (inr (omega arith))

-- and so do the two writes that put a hole in the chain
pub head-two : {p m : ℕ} {b b1 b2 : List ℕ} → 8 ≤ p → (8 ≤ m) ⊎ (m ≡ 0) → ChangesOnly p 8 b b1 → ChangesOnly m 2 b1 b2 → AgreeOn 2 6 b b2
head-two {p} {m} {b} {b1} {b2} l link c1 c2 = agree-both 2 6 b b1 b2 (head-room l c1) (head-link link c2)

-- what is clear of a range is clear of a part of it
pub clear-part : (place n g m p k : ℕ) → (place + n ≤ g) ⊎ (g + m ≤ place) → g ≤ p → p + k ≤ g + m → (place + n ≤ p) ⊎ (p + k ≤ place)
clear-part place n g m p k (inl o) l u = inl (omega arith)
clear-part place n g m p k (inr o) l u = inr (omega arith)

-- ---- taking

-- a segment is clear of the number that leads to a hole
link-clear : {sizes : List SegmentSize} {b : List ℕ} {kept : Keeps} {xs : List Extent} {end g m n : ℕ} (place k : ℕ) → Stands sizes b kept xs end g m n → UsedAt 8 xs place k → (place + k ≤ m) ⊎ (m + 8 ≤ place)
link-clear {sizes} {b} {kept} {xs} {end} {g} {m} {n} place k s u =
    used-clear sizes b 8 (number_at 2 b 0) 0 s.before (free n ∷ s.behind) g g m place k (omega arith) s.way (subst (λ z. UsedAt 8 z place k) s.whole u)

-- it is clear of the hole
hole-clear : {sizes : List SegmentSize} {b : List ℕ} {kept : Keeps} {xs : List Extent} {end g m n : ℕ} (place k : ℕ) → Stands sizes b kept xs end g m n → UsedAt 8 xs place k → (place + k ≤ g) ⊎ (g + n ≤ place)
hole-clear {sizes} {b} {kept} {xs} {end} {g} {m} {n} place k s u =
    elim (used-beside sizes b 8 (number_at 2 b 0) 0 s.before (free n ∷ s.behind) g g m place k (omega arith) s.way (subst (λ z. UsedAt 8 z place k) s.whole u)) [
      | inl l ↦ inl l
      | inr v ↦ inr (used-ahead (g + n) s.behind place k v)
    ]

-- segments stay where a hole is taken out of the chain
pub takes-whole-others : {sizes : List SegmentSize} {b : List ℕ} {kept : Keeps} {xs : List Extent} {end g m n : ℕ} (b' : List ℕ) (place k : ℕ) → Stands sizes b kept xs end g m n → UsedAt 8 xs place k
    → ChangesOnly m 2 b b' → AgreeOn place k b b'
takes-whole-others {m = m} b' place k s u c = agree-changed place k c (clear-part place k m 8 m 2 (link-clear place k s u) (omega arith) (omega arith))

-- and where the front of a larger one is taken
pub takes-front-others : {sizes : List SegmentSize} {b : List ℕ} {kept : Keeps} {xs : List Extent} {end g m n : ℕ} {b1 b2 : List ℕ} (size place k : ℕ) → Stands sizes b kept xs end g m n → UsedAt 8 xs place k
    → size + 8 ≤ n → ChangesOnly (g + size) 8 b b1 → ChangesOnly m 2 b1 b2 → AgreeOn place k b b2
takes-front-others {sizes} {b} {kept} {xs} {end} {g} {m} {n} {b1} {b2} size place k s u l c1 c2 =
    let link = link-clear place k s u in
    let hole = hole-clear place k s u in
    agree-both place k b b1 b2
    (agree-changed place k c1 (clear-part place k g n (g + size) 8 hole (omega arith) (omega arith)))
    (agree-changed place k c2 (clear-part place k m 8 m 2 link (omega arith) (omega arith)))

-- ---- giving back

-- a segment is clear of the number that leads past an offset
pub given-link-clear : {sizes : List SegmentSize} {b : List ℕ} {xs : List Extent} {offset n : ℕ} {link : Link} (place k : ℕ) → IsLinked sizes b xs offset n link → UsedAt 8 xs place k
    → (place + k ≤ link.link) ⊎ (link.link + 8 ≤ place)
given-link-clear {sizes} {b} {xs} {offset} {n} {link} place k s u =
    used-clear sizes b 8 (number_at 2 b 0) 0 s.before (s.extent ∷ s.behind) offset link.next link.link place k (omega arith) s.way (subst (λ z. UsedAt 8 z place k) s.whole u)

-- another segment is behind what is given back
past-given : (offset n place k : ℕ) (extent : Extent) (xs : List Extent) → (extent ≡ used n) ⊎ (extent ≡ taken n) → place ≢ offset → UsedAt offset (extent ∷ xs) place k → offset + n ≤ place
past-given offset n place k extent xs (inl e) other u =
    elim (subst (λ z. UsedAt offset (z ∷ xs) place k) e u) [ inl d ↦ absurd (other (sym d.0)) | inr v ↦ used-ahead (offset + n) xs place k v ]
past-given offset n place k extent xs (inr e) other u = used-ahead (offset + n) xs place k (subst (λ z. UsedAt offset (z ∷ xs) place k) e u)

-- another segment is clear of what is given back
pub given-clear : {sizes : List SegmentSize} {b : List ℕ} {xs : List Extent} {offset n : ℕ} {link : Link} (place k : ℕ) → IsLinked sizes b xs offset n link → UsedAt 8 xs place k → place ≢ offset
    → (place + k ≤ offset) ⊎ (offset + n ≤ place)
given-clear {sizes} {b} {xs} {offset} {n} {link} place k s u other =
    elim (used-beside sizes b 8 (number_at 2 b 0) 0 s.before (s.extent ∷ s.behind) offset link.next link.link place k (omega arith) s.way (subst (λ z. UsedAt 8 z place k) s.whole u)) [
      | inl l ↦ inl l
      | inr v ↦ inr (past-given offset n place k s.extent s.behind s.is other v)
    ]

-- other segments stay where a hole of its own is made
pub gives-own-others : {sizes : List SegmentSize} {b : List ℕ} {xs : List Extent} {offset n : ℕ} {link : Link} {b1 b2 : List ℕ} (place k : ℕ) → IsLinked sizes b xs offset n link → UsedAt 8 xs place k → place ≢ offset
    → 8 ≤ n → ChangesOnly offset 8 b b1 → ChangesOnly link.link 2 b1 b2 → AgreeOn place k b b2
gives-own-others {sizes} {b} {xs} {offset} {n} {link} {b1} {b2} place k s u other l c1 c2 =
    let at = given-link-clear place k s u in
    let own = given-clear place k s u other in
    agree-both place k b b1 b2
    (agree-changed place k c1 (clear-part place k offset n offset 8 own (omega arith) (omega arith)))
    (agree-changed place k c2 (clear-part place k link.link 8 link.link 2 at (omega arith) (omega arith)))

-- and where the hole before is made longer
pub gives-joined-others : {sizes : List SegmentSize} {b : List ℕ} {xs : List Extent} {offset n : ℕ} {link : Link} {b1 b2 : List ℕ} (place k : ℕ) → IsLinked sizes b xs offset n link → UsedAt 8 xs place k
    → ChangesOnly link.link 2 b b1 → ChangesOnly (link.link + 2) 2 b1 b2 → AgreeOn place k b b2
gives-joined-others {sizes} {b} {xs} {offset} {n} {link} {b1} {b2} place k s u c1 c2 =
    let at = given-link-clear place k s u in
    agree-both place k b b1 b2
    (agree-changed place k c1 (clear-part place k link.link 8 link.link 2 at (omega arith) (omega arith)))
    (agree-changed place k c2 (clear-part place k link.link 8 (link.link + 2) 2 at (omega arith) (omega arith)))
