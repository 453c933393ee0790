-- Which blocks are full where a key leads down, and how many after one of them is divided.
use Rattle.std.proofs.Common.{◌≡◌, ◌≢◌, ◌⊎◌, inl, inr, ℕ, zero, suc, ◌+◌, ◌<◌, ◌≤◌, ◌==◌, ◌&&◌, cond, Bool, true, false, List, [], ◌∷◌, ◌++◌, length, refl, sym, ap, ◌∙◌, subst, arith, ne_eqb}
use Rattle.std.specs.Prelude.{nat_le}
use Rattle.std.proofs.lemmas.Bool.{cases_eq, eq-eqb, leb-true}
use Rattle.hd_volume.specs.Rooms.{one_if}
use Rattle.hd_volume.specs.Entries.{Entry}
use Rattle.hd_volume.specs.Indexes.{key_less, keys_ascend, IsAmong}
use Rattle.hd_index_blocks.specs.Levels.{IndexBlocks, across, named, AreBelow, IsIndexSet}
use Rattle.hd_index_blocks.specs.Ways.{child_of, leaf_of}
use Rattle.hd_index_blocks.specs.Changes.{LowerStay, IsDivided}
use Rattle.hd_index_blocks.specs.Needs.{is_full, full_blocks}
use Rattle.hd_index_blocks.proofs.Keys.{below-less, ascend-below}
use Rattle.hd_index_blocks.proofs.Downs.{of-level, child-named, named-across}
use Rattle.hd_index_blocks.proofs.Needs.{full-most}

-- ---- one level

none-more : (b : Bool) → one_if (b && false) ≡ 0
none-more true = refl
none-more false = refl

-- so many are full up to a level, of which the block is not full or some below it is not, or all are
more-full : (below l f : ℕ) (full : Bool) → below + one_if (below == suc l && full) ≡ f → ((below ≡ f) × ((below ≡ suc l) → full ≡ false)) ⊎ ((below ≡ suc l) × (f ≡ suc (suc l)))
more-full below l f full is = elim (cases_eq below (suc l)) [ inl all ↦ by-full full all is | inr some ↦ apart some is ]
  where
    by-full : (b : Bool) → below ≡ suc l → below + one_if (below == suc l && b) ≡ f → ((below ≡ f) × ((below ≡ suc l) → b ≡ false)) ⊎ ((below ≡ suc l) × (f ≡ suc (suc l)))
    by-full true all is =
        let e : below + 1 ≡ f = ap (λ (t : Bool). below + one_if (t && true)) (sym (eq-eqb below (suc l) all)) ∙ is in
        inr (all, omega arith)
    by-full false all is =
        let e : below + 0 ≡ f = ap (λ (t : ℕ). below + t) (sym (none-more (below == suc l))) ∙ is in
        inl ((omega arith), (λ x. refl))

    apart : below ≢ suc l → below + one_if (below == suc l && full) ≡ f → ((below ≡ f) × ((below ≡ suc l) → full ≡ false)) ⊎ ((below ≡ suc l) × (f ≡ suc (suc l)))
    apart some is =
        let e : below + 0 ≡ f = ap (λ (t : Bool). below + one_if (t && full)) (sym (ne_eqb below (suc l) some)) ∙ is in
        inl ((omega arith), (λ x. absurd (some x)))

-- where some below are not, one more level changes nothing
same-more : (below l : ℕ) (full : Bool) → below ≢ suc l → below + one_if (below == suc l && full) ≡ below
same-more below l full some = ap (λ (t : Bool). below + one_if (t && full)) (ne_eqb below (suc l) some) ∙ (let e : below + 0 ≡ below = omega arith in e)

-- nor where the block is not full
pub same-room : (below l : ℕ) (full : Bool) → full ≡ false → below + one_if (below == suc l && full) ≡ below
same-room below l full no-more =
    ap (λ (t : Bool). below + one_if (below == suc l && t)) no-more ∙ ap (λ (t : ℕ). below + t) (none-more (below == suc l)) ∙ (let e : below + 0 ≡ below = omega arith in e)

-- a block with fewer entries than find room is not full
pub not-full : (c : IndexBlocks) (room n : ℕ) → length (c.entries n) < room → is_full c room n ≡ false
not-full c room n less = by-test (nat_le room (length (c.entries n))) refl
  where
    by-test : (b : Bool) → nat_le room (length (c.entries n)) ≡ b → b ≡ false
    by-test true is = (let e = leb-true room (length (c.entries n)) is in absurd (omega arith))
    by-test false is = refl

-- ---- the block above the full ones

-- where fewer are full than there are levels, so many levels up stands a block that is not
at-room : (c : IndexBlocks) (room : ℕ) (key : List ℕ) (f n : ℕ) → full_blocks c room key f n ≡ f → is_full c room n ≡ false
at-room c room key zero n is = by-full (is_full c room n) is
  where
    by-full : (b : Bool) → one_if b ≡ 0 → b ≡ false
    by-full true e = absurd (omega arith)
    by-full false e = refl
at-room c room key (suc l) n is =
    let below = full_blocks c room key l (child_of key (c.entries n)) in
    elim (more-full below l (suc l) (is_full c room n) is) [
      | inl r ↦ r.1 r.0
      | inr r ↦ (let e = r.1 in absurd (omega arith))
    ]

pub room-found : (c : IndexBlocks) (room : ℕ) (key : List ℕ) (f steps i n : ℕ) → i ≡ steps + f → full_blocks c room key i n ≡ f
    → (full_blocks c room key f (leaf_of c key steps n) ≡ f) × (is_full c room (leaf_of c key steps n) ≡ false)
room-found c room key f zero i n e is =
    let F : ℕ → Type 0 = λ t. full_blocks c room key t n ≡ f in
    let own = subst F (let e' : i ≡ f = omega arith in e') is in
    (own, at-room c room key f n own)
room-found c room key f (suc steps) zero n e is = absurd (omega arith)
room-found c room key f (suc steps) (suc i) n e is =
    elim (more-full (full_blocks c room key i (child_of key (c.entries n))) i f (is_full c room n) is) [
      | inl r ↦ room-found c room key f steps i (child_of key (c.entries n)) (omega arith) r.0
      | inr r ↦ (let x = r.1 in absurd (omega arith))
    ]

-- where all are up to a block, it is
pub full-block : (c : IndexBlocks) (room : ℕ) (key : List ℕ) (l n : ℕ) → full_blocks c room key l n ≡ suc l → is_full c room n ≡ true
full-block c room key zero n all = by-full (is_full c room n) all
  where
    by-full : (b : Bool) → one_if b ≡ 1 → b ≡ true
    by-full true e = refl
    by-full false e = absurd (omega arith)
full-block c room key (suc l) n all = by-full (is_full c room n) refl
  where
    by-full : (b : Bool) → is_full c room n ≡ b → b ≡ true
    by-full true is = refl
    by-full false is =
        let most = full-most c room key l (child_of key (c.entries n)) in
        let same = same-room (full_blocks c room key l (child_of key (c.entries n))) l (is_full c room n) is in
        absurd (omega arith)

-- and where all are but a block, all below it are
pub child-full : (c : IndexBlocks) (room : ℕ) (key : List ℕ) (l p : ℕ) → full_blocks c room key (suc l) p ≡ suc l → full_blocks c room key l (child_of key (c.entries p)) ≡ suc l
child-full c room key l p full =
    elim (more-full (full_blocks c room key l (child_of key (c.entries p))) l (suc l) (is_full c room p) full) [ inl r ↦ r.0 | inr r ↦ (let e = r.1 in absurd (omega arith)) ]

-- where a block of a level is not full, so many are full above it too
pub full-above : (c : IndexBlocks) (room : ℕ) (key : List ℕ) (f j : ℕ) → f ≤ j → (steps i n : ℕ) → i ≡ steps + j → full_blocks c room key j (leaf_of c key steps n) ≡ f → full_blocks c room key i n ≡ f
full-above c room key f j low zero i n e is = (let F : ℕ → Type 0 = λ t. full_blocks c room key t n ≡ f in subst F (sym (let e' : i ≡ j = omega arith in e')) is)
full-above c room key f j low (suc steps) zero n e is = absurd (omega arith)
full-above c room key f j low (suc steps) (suc i) n e is =
    let below = full-above c room key f j low steps i (child_of key (c.entries n)) (omega arith) is in
    same-more (full_blocks c room key i (child_of key (c.entries n))) i (is_full c room n) (λ x. omega arith) ∙ below

-- ---- below a change

pub full-lower : (c d : IndexBlocks) (room : ℕ) (key : List ℕ) (l : ℕ) → LowerStay c d l → (i n : ℕ) (ns : List ℕ) → i < l → IsIndexSet c i ns → IsAmong n ns
    → full_blocks d room key i n ≡ full_blocks c room key i n
full-lower c d room key l lower zero n ns less s among =
    let o = of-level c 0 n ns s among in ap (λ (es : List Entry). one_if (nat_le room (length es))) (lower n 0 o.level less).1
full-lower c d room key l lower (suc i) n ns less s among =
    let o = of-level c (suc i) n ns s among in
    let low = full-lower c d room key l lower i (child_of key (c.entries n)) (named (across c ns)) (omega arith) s.2
    (named-across c (child_of key (c.entries n)) n ns among (child-named key (c.entries n) o.some)) in
    ap (λ (es : List Entry). full_blocks d room key i (child_of key es) + one_if (full_blocks d room key i (child_of key es) == suc i && nat_le room (length es))) (lower n (suc i) o.level less).1
    ∙ ap (λ (m : ℕ). m + one_if (m == suc i && nat_le room (length (c.entries n)))) low

-- ---- where a key leads among parted entries

-- past those that are below it
child-past : (key : List ℕ) (front : List Entry) (e : Entry) (back : List Entry) → AreBelow key front → child_of key (front ++ (e ∷ back)) ≡ child_of key (e ∷ back)
child-past key [] e back less = refl
child-past key (x ∷ []) e back less = rw less.0 refl
child-past key (x ∷ y ∷ front) e back less = rw less.0 (child-past key (y ∷ front) e back less.1)

-- among the first, where it is not above the last of them
child-low : (key : List ℕ) (before : List Entry) (last : Entry) (behind : List Entry) → key_less last.key key ≡ false → child_of key (before ++ (last ∷ behind)) ≡ child_of key (before ++ (last ∷ []))
child-low key [] last [] at = refl
child-low key [] last (f ∷ behind) at = rw at refl
child-low key (x ∷ []) last behind at = by-test (key_less x.key key) (child-low key [] last behind at)
  where
    by-test : (b : Bool) → child_of key (last ∷ behind) ≡ last.address → cond b (child_of key (last ∷ behind)) x.address ≡ cond b last.address x.address
    by-test true h = h
    by-test false h = refl
child-low key (x ∷ y ∷ before) last behind at = by-test (key_less x.key key) (child-low key (y ∷ before) last behind at)
  where
    by-test : (b : Bool) → child_of key ((y ∷ before) ++ (last ∷ behind)) ≡ child_of key ((y ∷ before) ++ (last ∷ []))
        → cond b (child_of key ((y ∷ before) ++ (last ∷ behind))) x.address ≡ cond b (child_of key ((y ∷ before) ++ (last ∷ []))) x.address
    by-test true h = h
    by-test false h = refl

-- else among those behind
child-high : (key : List ℕ) (before : List Entry) (last : Entry) (behind : List Entry) → keys_ascend (before ++ (last ∷ behind)) ≡ true → key_less last.key key ≡ true → behind ≢ []
    → child_of key (before ++ (last ∷ behind)) ≡ child_of key behind
child-high key before last [] ascend less some = absurd (some refl)
child-high key before last (f ∷ behind) ascend less some =
    child-past key before last (f ∷ behind) (below-less last.key key before (ascend-below before last (f ∷ behind) ascend) less) ∙ rw less refl

-- ---- a divided block

-- Of the two halves a key leads to the one with what it led to, and on to the same block.
pub record IsHalf (c d : IndexBlocks) (key : List ℕ) (n m p : ℕ) : Type 0 where
  pub half : ℕ
  pub leads : child_of key (d.entries p) ≡ half
  pub is : (half ≡ n) ⊎ (half ≡ m)
  pub on : child_of key (d.entries half) ≡ child_of key (c.entries n)

pub half-led : (c d : IndexBlocks) (key : List ℕ) (l n m p : ℕ) (h : IsDivided c d l n m p) → AreBelow key h.front → (key_less h.entry.key key ≡ false) ⊎ (h.back ≡ [])
    → keys_ascend (c.entries n) ≡ true → IsHalf c d key n m p
half-led c d key l n m p h less here ascend =
    let one : Entry = record { key = h.last.key; address = n } in
    let two : Entry = record { key = h.entry.key; address = m } in
    let led : child_of key (d.entries p) ≡ cond (key_less h.last.key key) (child_of key (two ∷ h.back)) n = ap (child_of key) h.named_is ∙ child-past key h.front one (two ∷ h.back) less in
    by-test (key_less h.last.key key) refl led (to-two h.back here)
  where
    to-two : (back : List Entry) → (key_less h.entry.key key ≡ false) ⊎ (back ≡ []) → child_of key (record { key = h.entry.key; address = m } ∷ back) ≡ m
    to-two [] x = refl
    to-two (b ∷ back) (inl at) = rw at refl
    to-two (b ∷ back) (inr no-more) = cc

    by-test : (b : Bool) → key_less h.last.key key ≡ b → child_of key (d.entries p) ≡ cond b (child_of key (record { key = h.entry.key; address = m } ∷ h.back)) n
        → child_of key (record { key = h.entry.key; address = m } ∷ h.back) ≡ m → IsHalf c d key n m p
    by-test true at led two = record {
      half = m;
      leads = led ∙ two;
      is = inr refl;
      on = ap (child_of key) h.high ∙ sym (ap (child_of key) h.was ∙ child-high key h.before h.last h.behind (ap keys_ascend (sym h.was) ∙ ascend) at h.some);
    }
    by-test false at led two = record {
      half = n;
      leads = led;
      is = inl refl;
      on = ap (child_of key) h.low ∙ sym (ap (child_of key) h.was ∙ child-low key h.before h.last h.behind at);
    }

-- where all below a block with room are full, one fewer is after the highest of them was divided under it
pub divided-fewer : (c d : IndexBlocks) (room : ℕ) (key : List ℕ) (l n m p : ℕ) (h : IsDivided c d l n m p) (ns : List ℕ) → IsIndexSet c l ns → IsAmong n ns → n ≡ child_of key (c.entries p)
    → AreBelow key h.front → (key_less h.entry.key key ≡ false) ⊎ (h.back ≡ []) → length (d.entries n) < room → length (d.entries m) < room
    → full_blocks c room key (suc l) p ≡ suc l → full_blocks d room key (suc l) p ≡ l
divided-fewer c d room key l n m p h ns s among child less here low high full =
    let o = of-level c l n ns s among in
    let x = half-led c d key l n m p h less here o.ascend in
    let all : full_blocks c room key l n ≡ suc l =
    ap (full_blocks c room key l) child ∙ child-full c room key l p full in
    let free : is_full d room x.half ≡ false = elim x.is [
      | inl e ↦ ap (is_full d room) e ∙ not-full d room n low
      | inr e ↦ ap (is_full d room) e ∙ not-full d room m high
    ]
    in
    let below = at-half l s all x.half free x.on h.lower in
    ap (λ (i : ℕ). full_blocks d room key l i + one_if (full_blocks d room key l i == suc l && is_full d room p)) x.leads
    ∙ same-more (full_blocks d room key l x.half) l (is_full d room p) (λ e. omega arith) ∙ below
  where
    at-half : (i : ℕ) → IsIndexSet c i ns → full_blocks c room key i n ≡ suc i → (x : ℕ) → is_full d room x ≡ false → child_of key (d.entries x) ≡ child_of key (c.entries n) → LowerStay c d i
        → full_blocks d room key i x ≡ i
    at-half zero s all x free on lower = ap one_if free
    at-half (suc i) s all x free on lower =
        let o = of-level c (suc i) n ns s among in
        let same = full-lower c d room key (suc i) lower i (child_of key (c.entries n)) (named (across c ns)) (omega arith) s.2
        (named-across c (child_of key (c.entries n)) n ns among (child-named key (c.entries n) o.some)) in
        let most = full-most c room key i (child_of key (c.entries n)) in
        let was : full_blocks c room key i (child_of key (c.entries n)) ≡ suc i =
        elim (more-full (full_blocks c room key i (child_of key (c.entries n))) i (suc (suc i)) (is_full c room n) all) [ inl r ↦ (let e = r.0 in absurd (omega arith)) | inr r ↦ r.0 ] in
        same-room (full_blocks d room key i (child_of key (d.entries x))) i (is_full d room x) free ∙ ap (full_blocks d room key i) on ∙ same ∙ was
