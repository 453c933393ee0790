-- The lowest fork of a way down.
use Rattle.std.proofs.Common.{◌≡◌, ◌≢◌, ◌⊎◌, inl, inr, ℕ, suc, ◌-◌, ◌<◌, Bool, true, false, cond, List, [], ◌∷◌, ◌++◌, length, refl, sym, ap, ◌∙◌, subst, arith}
use Rattle.std.specs.Prelude.{nat_lt}
use Rattle.std.proofs.lemmas.Bool.{ltb-true, ltb-false}
use Rattle.hd_volume.specs.Headers.{header_of}
use Rattle.hd_volume.specs.Volumes.{VolumeState, block_at}
use Rattle.hd_volume.specs.Entries.{Entry, entries_in}
use Rattle.hd_index_blocks.specs.Levels.{IndexBlocks, named, sequence_set}
use Rattle.hd_index_blocks.specs.Ways.{child_of}
use Rattle.hd_index_blocks.specs.Neighbours.{last_of, last_child}
use Rattle.hd_index_blocks.specs.IndexSets.{next_in, index_blocks, top_level, HasIndexSet}
use Rattle.hd_index_blocks.proofs.Levels.{on-parts, set-level}
use Rattle.hd_index_blocks.proofs.Volumes.{top-is}
use Rattle.hd_volume.proofs.JoinLemmas.{AreOne}
use Rattle.hd_index.specs.declared.stand.Stand.{Stand}
use Rattle.hd_index.specs.declared.way.Fork.{Fork}
use Rattle.hd_index.specs.declared.way.Way.{Way}
use Rattle.hd_index.specs.Blocks.{IsInOrder}
use Rattle.hd_index.specs.Stands.{front_of, IsStand}
use Rattle.hd_index.specs.Removals.{IsBelow, IsThin, IsThinBelow, IsOnWay, IsOnWayIn, IsFork, IsWay}
use Rattle.hd_index.proofs.Standing.{later-blocks, block-order}

-- ---- where a walk stands

pub on-stand : (k : ℕ) (v : VolumeState) (key : List ℕ) (l : ℕ) (stand : Stand) → HasIndexSet k v → IsOnWayIn k v key l stand → IsStand k v key l stand
on-stand k v key l stand x s =
    record {
      before = s.before;
      behind = s.behind;
      around = s.around;
      left_is = s.left_is;
      whole = s.whole ∙ ap (sequence_set (index_blocks k v) (top_level v)) (sym (top-is v s.some)) ∙ sym (later-blocks k v x);
    }

pub on-order : (k : ℕ) (v : VolumeState) (key : List ℕ) (l : ℕ) (stand : Stand) → HasIndexSet k v → IsOnWayIn k v key l stand → IsInOrder k v stand.block
on-order k v key l stand x s = block-order x (on-stand k v key l stand x s)

pub on-entries : (k : ℕ) (v : VolumeState) (key : List ℕ) (l : ℕ) (stand : Stand) → IsOnWayIn k v key l stand → entries_in k (block_at v stand.block) ≢ []
on-entries k v key l stand s =
    (on-parts (index_blocks k v) l s.before (stand.block ∷ s.behind) (set-level (index_blocks k v) l (s.before ++ (stand.block ∷ s.behind)) s.around.set)).1.1

-- two states with one image
pub on-one : (k : ℕ) (v w : VolumeState) (key : List ℕ) (l : ℕ) (stand : Stand) → AreOne v w → IsOnWayIn k v key l stand → IsOnWayIn k w key l stand
on-one k v w key l stand one s =
    let C : IndexBlocks → Type 0 = λ c. IsOnWay c (next_in v) (top_level v) (header_of v.image).top key l stand in
    let N : (ℕ → ℕ) → Type 0 = λ next. IsOnWay (index_blocks k w) next (top_level v) (header_of v.image).top key l stand in
    let T : List ℕ → Type 0 = λ image. IsOnWay (index_blocks k w) (next_in w) ((header_of image).height - 1) (header_of image).top key l stand in
    let blocks : index_blocks k v ≡ index_blocks k w = rw (one.same.size, one.image) refl in
    let nexts : next_in v ≡ next_in w = rw (one.same.size, one.image) refl in
    subst T (sym one.image) (subst N nexts (subst C blocks s))

pub below-one : (k : ℕ) (v w : VolumeState) (key : List ℕ) (stand below : Stand) → AreOne v w → IsBelow k v key stand below → IsBelow k w key stand below
below-one k v w key stand below one b =
    let child : child_of key (entries_in k (block_at v stand.block)) ≡ child_of key (entries_in k (block_at w stand.block)) = rw (one.same.size, one.image) refl in
    let left : last_of (last_child (index_blocks k v) stand.left) (named (front_of key (entries_in k (block_at v stand.block)))) ≡ last_of (last_child (index_blocks k w) stand.left) (named (front_of key (entries_in k (block_at w stand.block)))) = rw (one.same.size, one.image) refl in
    record { block_is = b.block_is ∙ child; left_is = b.left_is ∙ left }

-- ---- the lowest fork so far

-- So it is, if this holds of what is below.
abbrev pub IsForkOver : ℕ → VolumeState → List ℕ → ℕ → ℕ → Type 0 → Fork → Type 0
IsForkOver k v key l n rest fork =
    ((fork.stand.block ≡ 0) × (rest → IsThin (index_blocks k v) l n))
    ⊎ (IsOnWayIn k v key fork.level fork.stand × (1 < length (entries_in k (block_at v fork.stand.block))) × (rest → IsThinBelow (index_blocks k v) key fork.level fork.stand.block))

-- a block with no more than one entry
one-entry : (es : List Entry) → es ≢ [] → nat_lt 1 (length es) ≡ false → (e : Entry) × (es ≡ e ∷ [])
one-entry [] some few = absurd (some refl)
one-entry (e ∷ []) some few = (e, refl)
one-entry (e ∷ f ∷ es) some few = (let l = ltb-false 1 (length (e ∷ f ∷ es)) few in absurd (omega arith))

-- one with more
more-entries : (es : List Entry) → nat_lt 1 (length es) ≡ true → 1 < length es
more-entries es more = ltb-true 1 (length es) more

-- what is left to hold may be replaced by what it follows from
fork-by : (k : ℕ) (v : VolumeState) (key : List ℕ) (l n : ℕ) (fork : Fork) {P Q : Type 0} → (Q → P) → IsForkOver k v key l n P fork → IsForkOver k v key l n Q fork
fork-by k v key l n fork f (inl h) = inl (h.0, (λ q. h.1 (f q)))
fork-by k v key l n fork f (inr h) = inr (h.0, h.1, (λ q. h.2 (f q)))

pub fork-step : (k : ℕ) (v : VolumeState) (key : List ℕ) (l n m : ℕ) (stand : Stand) (child : ℕ) (fork new : Fork) → IsOnWayIn k v key (suc m) stand
    → IsForkOver k v key l n (IsThin (index_blocks k v) (suc m) stand.block) fork → new ≡ cond (nat_lt 1 (length (entries_in k (block_at v stand.block)))) (record { level = suc m; stand = stand }) fork
    → child ≡ child_of key (entries_in k (block_at v stand.block)) → IsForkOver k v key l n (IsThin (index_blocks k v) m child) new
fork-step k v key l n m stand child fork new on over is below = by-test (nat_lt 1 (length es)) refl is
  where
    es : List Entry
    es = entries_in k (block_at v stand.block)

    by-test : (b : Bool) → nat_lt 1 (length (entries_in k (block_at v stand.block))) ≡ b → new ≡ cond b (record { level = suc m; stand = stand }) fork
        → IsForkOver k v key l n (IsThin (index_blocks k v) m child) new
    by-test true more is =
        let F : Fork → Type 0 = λ f. IsForkOver k v key l n (IsThin (index_blocks k v) m child) f in
        let T : ℕ → Type 0 = λ i. IsThin (index_blocks k v) m i in
        let own : F (record { level = suc m; stand = stand }) = inr (on, more-entries (entries_in k (block_at v stand.block)) more, (λ t. subst T below t)) in
        subst F (sym is) own
    by-test false few is =
        let F : Fork → Type 0 = λ f. IsForkOver k v key l n (IsThin (index_blocks k v) m child) f in
        let T : ℕ → Type 0 = λ i. IsThin (index_blocks k v) m i in
        let one = one-entry (entries_in k (block_at v stand.block)) (on-entries k v key (suc m) stand on) few in
        let at : child ≡ one.0.address = below ∙ ap (child_of key) one.1 in
        subst F (sym is) (fork-by k v key l n fork (λ t. (one.0, one.1, subst T at t)) over)

pub fork-end : (k : ℕ) (v : VolumeState) (key : List ℕ) (l n : ℕ) (stand : Stand) (fork new : Fork) → IsOnWayIn k v key 0 stand
    → IsForkOver k v key l n (IsThin (index_blocks k v) 0 stand.block) fork → new ≡ cond (nat_lt 1 (length (entries_in k (block_at v stand.block)))) (record { level = 0; stand = stand }) fork
    → IsFork k v key l n new
fork-end k v key l n stand fork new on over is = by-test (nat_lt 1 (length (entries_in k (block_at v stand.block)))) refl is
  where
    closed : (f : Fork) → IsForkOver k v key l n (IsThin (index_blocks k v) 0 stand.block) f → IsThin (index_blocks k v) 0 stand.block → IsFork k v key l n f
    closed f (inl h) t = inl (h.0, h.1 t)
    closed f (inr h) t = inr (h.0, h.1, h.2 t)

    by-test : (b : Bool) → nat_lt 1 (length (entries_in k (block_at v stand.block))) ≡ b → new ≡ cond b (record { level = 0; stand = stand }) fork → IsFork k v key l n new
    by-test true more is =
        let F : Fork → Type 0 = λ f. IsFork k v key l n f in
        let own : F (record { level = 0; stand = stand }) = inr (on, more-entries (entries_in k (block_at v stand.block)) more, tt) in
        subst F (sym is) own
    by-test false few is =
        let F : Fork → Type 0 = λ f. IsFork k v key l n f in
        subst F (sym is) (closed fork over (one-entry (entries_in k (block_at v stand.block)) (on-entries k v key 0 stand on) few))

-- ---- the way down, by two states with one image

thin-one : (k : ℕ) (v w : VolumeState) (l n : ℕ) → AreOne v w → IsThin (index_blocks k v) l n → IsThin (index_blocks k w) l n
thin-one k v w l n one t =
    let C : IndexBlocks → Type 0 = λ c. IsThin c l n in
    let blocks : index_blocks k v ≡ index_blocks k w = rw (one.same.size, one.image) refl in
    subst C blocks t

thin-below-one : (k : ℕ) (v w : VolumeState) (key : List ℕ) (l n : ℕ) → AreOne v w → IsThinBelow (index_blocks k v) key l n → IsThinBelow (index_blocks k w) key l n
thin-below-one k v w key l n one t =
    let C : IndexBlocks → Type 0 = λ c. IsThinBelow c key l n in
    let blocks : index_blocks k v ≡ index_blocks k w = rw (one.same.size, one.image) refl in
    subst C blocks t

pub way-one : (k : ℕ) (v w : VolumeState) (key : List ℕ) (l n : ℕ) (way : Way) → AreOne v w → IsWay k v key l n way → IsWay k w key l n way
way-one k v w key l n way one h = record { leaf = on-one k v w key 0 way.leaf one h.leaf; fork = by-fork h.fork }
  where
    by-fork : IsFork k v key l n way.fork → IsFork k w key l n way.fork
    by-fork (inl h) = inl (h.0, thin-one k v w l n one h.1)
    by-fork (inr h) =
        let more : length (entries_in k (block_at w way.fork.stand.block)) ≡ length (entries_in k (block_at v way.fork.stand.block)) = rw (one.same.size, one.image) refl in
        let few = h.1 in
        inr (on-one k v w key way.fork.level way.fork.stand one h.0, omega arith, thin-below-one k v w key way.fork.level way.fork.stand.block one h.2)

-- where there is no fork
pub no-fork : (k : ℕ) (v : VolumeState) (key : List ℕ) (l n : ℕ) (fork : Fork) → HasIndexSet k v → IsFork k v key l n fork → fork.stand.block ≡ 0 → IsThin (index_blocks k v) l n
no-fork k v key l n fork x (inl h) none = h.1
no-fork k v key l n fork x (inr h) none = let later = (on-order k v key fork.level fork.stand x h.0).is.later in absurd (omega arith)

-- and where there is one
pub some-fork : (k : ℕ) (v : VolumeState) (key : List ℕ) (l n : ℕ) (fork : Fork) → IsFork k v key l n fork → fork.stand.block ≢ 0
    → IsOnWayIn k v key fork.level fork.stand × (1 < length (entries_in k (block_at v fork.stand.block))) × IsThinBelow (index_blocks k v) key fork.level fork.stand.block
some-fork k v key l n fork (inl h) some = absurd (some h.0)
some-fork k v key l n fork (inr h) some = h
