use Rattle.std.proofs.Common.{◌≡◌, ◌≢◌, ◌+◌, ◌-◌, ◌<◌, ℕ, List, cond, refl, sym, ap, subst, ◌∙◌, arith, ne_eqb}
use Rattle.std.specs.Prelude.{◌==◌}
use Rattle.std.proofs.lemmas.Bool.{eq-eqb}
use Rattle.hd_volume.specs.Headers.{header_of}
use Rattle.hd_volume.specs.Volumes.{VolumeState}
use Rattle.hd_volume.specs.Rooms.{one_if}
use Rattle.hd_volume.specs.Indexes.{entry_room}
use Rattle.hd_index_blocks.specs.IndexSets.{index_blocks, top_level, HasIndexSet}
use Rattle.hd_index_blocks.specs.Needs.{full_blocks}
use Rattle.hd_index_blocks.specs.VolumeLaws.{IsRightBlock}
use Rattle.hd_index_blocks.proofs.Volumes.{tops-right}
use Rattle.hd_index.proofs.need.needed_for.Goals as goal

-- the blocks that are full
full-all : (k : ℕ) (v : VolumeState) (by : List ℕ) (levels n full : ℕ) → HasIndexSet k v → 0 < (header_of v.image).top → n ≡ (header_of v.image).top → levels ≡ top_level v
    → (IsRightBlock k v levels n → full ≡ full_blocks (index_blocks k v) (entry_room k v.size) by levels n)
    → full ≡ full_blocks (index_blocks k v) (entry_room k v.size) by (top_level v) (header_of v.image).top
full-all k v by levels n full x some top level told =
    let R : ℕ → Type 0 = λ i. IsRightBlock k v levels i in
    let L : ℕ → Type 0 = λ l. IsRightBlock k v l (header_of v.image).top in
    let right = subst R (sym top) (subst L (sym level) (tops-right k v x some)) in
    told right
    ∙ ap (λ (l : ℕ). full_blocks (index_blocks k v) (entry_room k v.size) by l n) level
    ∙ ap (full_blocks (index_blocks k v) (entry_room k v.size) by (top_level v)) top

-- and the new top
needed-true : (top full height : ℕ) → top ≢ 0 → full ≡ height → full + 1 ≡ cond (top == 0) 1 (full + one_if (full == height))
needed-true top full height some all = rw (ne_eqb top 0 some, eq-eqb full height all) refl

needed-false : (top full height : ℕ) → top ≢ 0 → full ≢ height → full ≡ cond (top == 0) 1 (full + one_if (full == height))
needed-false top full height some few = rw (ne_eqb top 0 some, ne_eqb full height few) (let e : full ≡ full + 0 = omega arith in e)

pub returns-then-full-height-clause-value : goal.returns-then-full-height-clause-value
returns-then-full-height-clause-value g c sound x =
    let v = c.args.volume.now in
    let k : ℕ = c.args.key_length in
    let t : ℕ = (header_of v.image).top in
    let top : c.top-top.result ≡ t = c.top-top.ensures sound x.formatted.header.first in
    let height : c.height-height.result ≡ (header_of v.image).height = c.height-height.ensures sound x.formatted.header.first in
    let levels : c.height-height.result - 1 ≡ top_level v = omega arith in
    let some : 0 < t = (let f = c.if-top-eq0.false in omega arith) in
    let all = full-all k v c.args.by.now (c.height-height.result - 1) c.top-top.result c.in_ok-full.full x some top levels (c.in_ok-full.ensures.value sound x) in
    let is : c.in_ok-full.full ≡ (header_of v.image).height = c.if-full-height.true ∙ height in
    needed-true t c.in_ok-full.full (header_of v.image).height (λ e. omega arith) is
    ∙ ap (λ (f : ℕ). cond (t == 0) 1 (f + one_if (f == (header_of v.image).height))) all

pub returns-else-full-height-clause-value : goal.returns-else-full-height-clause-value
returns-else-full-height-clause-value g c sound x =
    let v = c.args.volume.now in
    let k : ℕ = c.args.key_length in
    let t : ℕ = (header_of v.image).top in
    let top : c.top-top.result ≡ t = c.top-top.ensures sound x.formatted.header.first in
    let height : c.height-height.result ≡ (header_of v.image).height = c.height-height.ensures sound x.formatted.header.first in
    let levels : c.height-height.result - 1 ≡ top_level v = omega arith in
    let some : 0 < t = (let f = c.if-top-eq0.false in omega arith) in
    let all = full-all k v c.args.by.now (c.height-height.result - 1) c.top-top.result c.in_ok-full.full x some top levels (c.in_ok-full.ensures.value sound x) in
    let few : c.in_ok-full.full ≢ (header_of v.image).height = λ e. (let f = c.if-full-height.false in f (e ∙ sym height)) in
    needed-false t c.in_ok-full.full (header_of v.image).height (λ e. omega arith) few
    ∙ ap (λ (f : ℕ). cond (t == 0) 1 (f + one_if (f == (header_of v.image).height))) all
