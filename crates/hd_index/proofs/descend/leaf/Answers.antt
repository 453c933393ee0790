use Rattle.std.proofs.Common.{◌≡◌, ◌+◌, ◌-◌, ◌<◌, ℕ, ap, subst, sym, ◌∙◌, arith, cond, ne_eqb}
use Rattle.std.specs.Prelude.{◌==◌}
use Rattle.hd_volume.specs.Headers.{header_of}
use Rattle.hd_index_blocks.specs.Ways.{leaf_of}
use Rattle.hd_index_blocks.specs.IndexSets.{index_blocks, top_level}
use Rattle.hd_index_blocks.specs.VolumeLaws.{IsRightBlock}
use Rattle.hd_index_blocks.proofs.Volumes.{tops-right}
use Rattle.hd_index.proofs.descend.leaf.Goals as goal

pub returns-clause-value : goal.returns-clause-value
returns-clause-value g c sound x =
    let v = c.args.volume.now in
    let k : ℕ = c.args.key_length in
    let key = c.args.key.now in
    let t : ℕ = (header_of v.image).top in
    let top : c.top-top.result ≡ t = c.top-top.ensures sound x.formatted.header.first in
    let height : c.height-height.result ≡ (header_of v.image).height = c.height-height.ensures sound x.formatted.header.first in
    let levels : c.height-height.result - 1 ≡ top_level v = omega arith in
    let some : 0 < t = (let f = c.if-top-eq0.false in omega arith) in
    let R : ℕ → Type 0 = λ n. IsRightBlock k v (c.height-height.result - 1) n in
    let L : ℕ → Type 0 = λ l. IsRightBlock k v l t in
    let right = subst R (sym top) (subst L (sym levels) (tops-right k v x some)) in
    let Z : ℕ → Type 0 = λ l. IsRightBlock k v l c.top-top.result in
    let none : c.height-height.result - 1 ≡ c.height-height.result - 1 + 0 = omega arith in
    let down = (c.in_ok-n.ensures.value sound x 0 (subst Z none right)).0 in
    let at : cond (t == 0) 0 (leaf_of (index_blocks k v) key (top_level v) t) ≡ leaf_of (index_blocks k v) key (top_level v) t =
    ap (λ b. cond b 0 (leaf_of (index_blocks k v) key (top_level v) t)) (ne_eqb t 0 (λ e. omega arith)) in
    down ∙ ap (λ (l : ℕ). leaf_of (index_blocks k v) key l c.top-top.result) levels ∙ ap (λ (n : ℕ). leaf_of (index_blocks k v) key (top_level v) n) top ∙ sym at
