-- Which blocks name a block of an index.
use Rattle.std.proofs.Common.{◌≡◌, ◌⊎◌, inl, inr, ℕ, zero, suc, ◌+◌, ◌-◌, ◌<◌, ◌≤◌, List, [], ◌∷◌, ◌++◌, Some, refl, sym, ap, ◌∙◌, subst, arith}
use Rattle.hd_volume.specs.Volumes.{VolumeState, block_at, IsKind}
use Rattle.hd_volume.specs.Headers.{header_of}
use Rattle.hd_volume.specs.Indexes.{IsAmong}
use Rattle.hd_index_blocks.specs.Levels.{IndexBlocks, across, named, blocks_down, IsIndexSet}
use Rattle.hd_index_blocks.specs.IndexSets.{level_in, index_blocks, top_blocks, top_level, HasIndexSet}
use Rattle.hd_index_blocks.specs.Parents.{HasParent, ArePlaced, IndexBlocksArePlaced, PlacedBlocksAreReached}
use Rattle.hd_index_blocks.proofs.Levels.{named-append}
use Rattle.hd_index_blocks.proofs.Downs.{among-parts, of-level, down-level, level-is, top-down, named-down}
use Rattle.hd_index_blocks.proofs.Volumes.{level-kind}

-- what is named across some blocks is named by one of them
pub named-by : (c : IndexBlocks) (m : ℕ) (ns : List ℕ) → IsAmong m (named (across c ns)) → (p : ℕ) × IsAmong p ns × IsAmong m (named (c.entries p))
named-by c m [] a = absurd a
named-by c m (n ∷ ns) a =
    let A : List ℕ → Type 0 = λ t. IsAmong m t in
    elim (among-parts m (named (c.entries n)) (named (across c ns)) (subst A (named-append (c.entries n) (across c ns)) a)) [
      | inl here ↦ (n, inl refl, here)
      | inr more ↦ (let r = named-by c m ns more in (r.0, inr r.1, r.2))
    ]

-- what stands below some blocks has a parent, or is among them
placed-below : (c : IndexBlocks) (h n l : ℕ) (ns : List ℕ) → IsIndexSet c h ns → c.level n ≡ Some l → IsAmong n (blocks_down c h ns) → IsAmong n ns ⊎ HasParent c l n
placed-below c zero n l ns s is a = inl a
placed-below c (suc h) n l ns s is a =
    elim (among-parts n ns (blocks_down c h (named (across c ns))) a) [
      | inl here ↦ inl here
      | inr low ↦
          elim (placed-below c h n l (named (across c ns)) s.2 is low) [
            | inl named_here ↦
                (let by = named-by c n ns named_here in
                let own = of-level c h n (named (across c ns)) s.2 named_here in
                let up = of-level c (suc h) by.0 ns s by.1 in
                let e : h ≡ l = level-is c h l n own.level is in
                inr (record { parent = by.0; level = up.level ∙ ap (λ (i : ℕ). Some (suc i)) e; names = by.2 }))
            | inr parent ↦ inr parent
          ]
    ]

pub index-blocks-placed : IndexBlocksArePlaced
index-blocks-placed k v x n l is =
    let s = level-kind v n l is in
    let among = x.reached n s.0 in
    let r = down-level (index_blocks k v) (top_level v) n (top_blocks v) x.set among in
    let e = level-is (index_blocks k v) r.own l n r.on.level is in
    let low = r.low in
    (omega arith, placed-below (index_blocks k v) (top_level v) n l (top_blocks v) x.set is among)

pub placed-reached : PlacedBlocksAreReached
placed-reached c h ns s placed n l is = up (h - l) l n is refl
  where
    up : (steps l n : ℕ) → c.level n ≡ Some l → h - l ≡ steps → IsAmong n (blocks_down c h ns)
    up zero l n is left =
        elim (placed n l is).1 [
          | inl top ↦ top-down c h n ns top
          | inr p ↦ (let high = (placed p.parent (suc l) p.level).0 in absurd (omega arith))
        ]
    up (suc steps) l n is left =
        elim (placed n l is).1 [
          | inl top ↦ top-down c h n ns top
          | inr p ↦ (named-down c h l n p.parent ns s (up steps (suc l) p.parent p.level (omega arith)) p.level p.names).0
        ]
