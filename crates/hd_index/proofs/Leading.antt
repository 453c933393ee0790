-- Where a key leads and how many blocks are full, where keys of upper blocks are raised.
use Rattle.std.proofs.Common.{◌≡◌, ℕ, zero, suc, ◌+◌, ◌-◌, ◌==◌, ◌&&◌, Bool, true, false, cond, List, [], ◌∷◌, ◌++◌, length, Some, None, refl, ap, ◌∙◌}
use Rattle.std.specs.Prelude.{nat_le}
use Rattle.hd_volume.specs.Headers.{Header, header_of}
use Rattle.hd_volume.specs.Rooms.{one_if}
use Rattle.hd_volume.specs.Volumes.{VolumeState}
use Rattle.hd_volume.specs.Entries.{Entry}
use Rattle.hd_volume.specs.Indexes.{entry_room, key_less, IsAmong}
use Rattle.hd_volume.proofs.KeyLemmas.{less-not}
use Rattle.hd_index_blocks.specs.Maps.{address_from, greatest_below}
use Rattle.hd_index_blocks.specs.Levels.{IndexBlocks, across, named, AreBelow, IsIndexSet}
use Rattle.hd_index_blocks.specs.Ways.{child_of, leaf_of}
use Rattle.hd_index_blocks.specs.IndexSets.{index_blocks, top_level}
use Rattle.hd_index_blocks.specs.Needs.{full_blocks, needed_by}
use Rattle.hd_index_blocks.proofs.Downs.{of-level, child-named, named-across}

-- one step more leads to the child
pub leaf-more : (c : IndexBlocks) (key : List ℕ) (steps n : ℕ) → leaf_of c key (suc steps) n ≡ child_of key (c.entries (leaf_of c key steps n))
leaf-more c key zero n = refl
leaf-more c key (suc steps) n = leaf-more c key steps (child_of key (c.entries n))

-- a key leads where it led, where the key of the entry that it leads to is raised to one that is not below it
pub child-raised : (by key : List ℕ) (front : List Entry) (e : Entry) (back : List Entry) → key_less key by ≡ false → child_of by (front ++ (e ∷ back)) ≡ e.address
    → child_of by (front ++ (record { key = key; address = e.address } ∷ back)) ≡ e.address
child-raised by key [] e [] low is = refl
child-raised by key [] e (f ∷ back) low is = ap (λ (b : Bool). cond b (child_of by (f ∷ back)) e.address) low
child-raised by key (x ∷ []) e back low is = by-test (key_less x.key by) is (child-raised by key [] e back low)
  where
    by-test : (b : Bool) → cond b (child_of by (e ∷ back)) x.address ≡ e.address
        → (child_of by (e ∷ back) ≡ e.address → child_of by (record { key = key; address = e.address } ∷ back) ≡ e.address)
        → cond b (child_of by (record { key = key; address = e.address } ∷ back)) x.address ≡ e.address
    by-test true h rest = rest h
    by-test false h rest = h
child-raised by key (x ∷ y ∷ xs) e back low is = by-test (key_less x.key by) is (child-raised by key (y ∷ xs) e back low)
  where
    by-test : (b : Bool) → cond b (child_of by (y ∷ (xs ++ (e ∷ back)))) x.address ≡ e.address
        → (child_of by (y ∷ (xs ++ (e ∷ back))) ≡ e.address → child_of by (y ∷ (xs ++ (record { key = key; address = e.address } ∷ back))) ≡ e.address)
        → cond b (child_of by (y ∷ (xs ++ (record { key = key; address = e.address } ∷ back)))) x.address ≡ e.address
    by-test true h rest = rest h
    by-test false h rest = h

-- as many blocks are full where each has as many entries and leads on to the same block
pub full-kept : (c d : IndexBlocks) (room : ℕ) (by : List ℕ)
    → ((b l : ℕ) → c.level b ≡ Some l → (child_of by (d.entries b) ≡ child_of by (c.entries b)) × (length (d.entries b) ≡ length (c.entries b)))
    → (l n : ℕ) (ns : List ℕ) → IsIndexSet c l ns → IsAmong n ns → full_blocks d room by l n ≡ full_blocks c room by l n
full-kept c d room by same zero n ns s among =
    let o = of-level c 0 n ns s among in
    ap (λ (i : ℕ). one_if (nat_le room i)) (same n 0 o.level).1
full-kept c d room by same (suc l) n ns s among =
    let o = of-level c (suc l) n ns s among in
    let e = same n (suc l) o.level in
    let child : ℕ = child_of by (c.entries n) in
    let low = full-kept c d room by same l child (named (across c ns)) s.2 (named-across c child n ns among (child-named by (c.entries n) o.some)) in
    ap (λ (i : ℕ). full_blocks d room by l i + one_if (full_blocks d room by l i == suc l && nat_le room (length (d.entries n)))) e.0
    ∙ ap (λ (i : ℕ). i + one_if (i == suc l && nat_le room (length (d.entries n)))) low
    ∙ ap (λ (i : ℕ). full_blocks c room by l child + one_if (full_blocks c room by l child == suc l && nat_le room i)) e.1

-- and so as many are needed
pub needed-kept : (k : ℕ) (v w : VolumeState) (by : List ℕ) → w.size ≡ v.size → header_of w.image ≡ header_of v.image
    → full_blocks (index_blocks k w) (entry_room k v.size) by (top_level v) (header_of v.image).top ≡ full_blocks (index_blocks k v) (entry_room k v.size) by (top_level v) (header_of v.image).top
    → needed_by k w by ≡ needed_by k v by
needed-kept k v w by size head full =
    ap (λ (h : Header). cond (h.top == 0) 1
    (full_blocks (index_blocks k w) (entry_room k w.size) by (h.height - 1) h.top + one_if (full_blocks (index_blocks k w) (entry_room k w.size) by (h.height - 1) h.top == h.height))) head
    ∙ ap (λ (z : ℕ). cond ((header_of v.image).top == 0) 1
    (full_blocks (index_blocks k w) (entry_room k z) by (top_level v) (header_of v.image).top
    + one_if (full_blocks (index_blocks k w) (entry_room k z) by (top_level v) (header_of v.image).top == (header_of v.image).height))) size
    ∙ ap (λ (i : ℕ). cond ((header_of v.image).top == 0) 1 (i + one_if (i == (header_of v.image).height))) full

-- no key is below the greatest key below it, nor below the other
pub greatest-low : (key other : List ℕ) (es : List Entry) → key_less key other ≡ false → key_less key (greatest_below other key es) ≡ false
greatest-low key other [] h = h
greatest-low key other (e ∷ es) h = by-test (key_less e.key key) refl (λ less. greatest-low key e.key es (less-not e.key key less))
  where
    by-test : (b : Bool) → key_less e.key key ≡ b → (key_less e.key key ≡ true → key_less key (greatest_below e.key key es) ≡ false) → key_less key (cond b (greatest_below e.key key es) other) ≡ false
    by-test true is rest = rest is
    by-test false is rest = h

-- where no key is from one on, all are below it
pub none-from : (key : List ℕ) (es : List Entry) → address_from key es ≡ None → AreBelow key es
none-from key [] none = tt
none-from key (e ∷ es) none = by-test (key_less e.key key) refl none (none-from key es)
  where
    by-test : (b : Bool) → key_less e.key key ≡ b → cond b (address_from key es) (Some e.address) ≡ None → (address_from key es ≡ None → AreBelow key es) → (key_less e.key key ≡ true) × AreBelow key es
    by-test true is h rest = (is, rest h)
    by-test false is h rest = absurd (cc)
