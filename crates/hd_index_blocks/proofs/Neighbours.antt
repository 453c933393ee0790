-- The left neighbour of a block.
use Rattle.std.proofs.Common.{◌≡◌, ◌≢◌, ℕ, suc, List, [], ◌∷◌, ◌++◌, refl, sym, ap, ◌∙◌, None, Some, ne_eqb}
use Rattle.hd_volume.specs.Entries.{Entry}
use Rattle.hd_index_blocks.specs.Levels.{IndexBlocks, across, named, AreOnLevel}
use Rattle.hd_index_blocks.specs.Ways.{IsNamed}
use Rattle.hd_index_blocks.specs.Neighbours.{last_of, last_child, LeftNeighboursAreNamed}
use Rattle.hd_index_blocks.proofs.Levels.{named-append, on-parts}

last-append : (other : ℕ) (xs ys : List ℕ) → last_of other (xs ++ ys) ≡ last_of (last_of other xs) ys
last-append other [] ys = refl
last-append other (x ∷ xs) ys = last-append x xs ys

-- behind some number what else there was does not matter
last-some : (a b : ℕ) (es : List Entry) → es ≢ [] → last_of a (named es) ≡ last_of b (named es)
last-some a b [] some = absurd (some refl)
last-some a b (e ∷ es) some = refl

-- the last block that some blocks of a level name is that of the last of them
across-last : (c : IndexBlocks) (l other : ℕ) (ns : List ℕ) → AreOnLevel c (suc l) ns → c.level 0 ≡ None → (m : ℕ) → m ≡ last_child c other
    → last_of m (named (across c ns)) ≡ last_child c (last_of other ns)
across-last c l other [] on none m is = is
across-last c l other (n ∷ ns) on none m is =
    ap (last_of m) (named-append (c.entries n) (across c ns))
    ∙ last-append m (named (c.entries n)) (named (across c ns))
    ∙ across-last c l n ns on.2 none (last_of m (named (c.entries n))) own
  where
    later : n ≢ 0
    later zero_is = (let e : Some (suc l) ≡ None = sym on.0 ∙ ap c.level zero_is ∙ none in cc)

    own : last_of m (named (c.entries n)) ≡ last_child c n
    own = last-some m 0 (c.entries n) on.1 ∙ (let e : last_of 0 (named (c.entries n)) ≡ last_child c n = rw (ne_eqb n 0 later) refl in e)

pub left-named : LeftNeighboursAreNamed
left-named c l left n right left_up p right_up s on none =
    ap (last_of 0) (s.left_is ∙ named-append (across c left_up) s.front)
    ∙ last-append 0 (named (across c left_up)) (named s.front)
    ∙ ap (λ (m : ℕ). last_of m (named s.front)) (across-last c l 0 left_up on none 0 refl)
