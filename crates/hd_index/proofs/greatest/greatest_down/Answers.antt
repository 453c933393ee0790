use Rattle.std.proofs.Common.{◌≡◌, ◌-◌, ◌<◌, ℕ, List, IsTrue, refl, ap, subst, ◌∙◌, arith}
use Rattle.hd_volume.specs.Headers.{header_of}
use Rattle.hd_index_blocks.specs.Maps.{greatest_below}
use Rattle.hd_index_blocks.specs.IndexSets.{top_level}
use Rattle.hd_volume.proofs.JoinLemmas.{read-one}
use Rattle.hd_index.specs.Greatest.{lower_key, IsKnownLeaf}
use Rattle.hd_index.proofs.Searching.{set-same, one-turned}
use Rattle.hd_index.proofs.Standing.{stand-top, stand-same}
use Rattle.hd_index.proofs.Leaves.{known-same}
use Rattle.hd_index.proofs.greatest.greatest_down.Goals as goal

pub returns-clause-value : goal.returns-clause-value
returns-clause-value g c sound x =
    let v = c.args.volume.now in
    let w = c.walk_down.new.volume in
    let k : ℕ = c.args.key_length in
    let key = c.args.key.now in
    let t : ℕ = (header_of v.image).top in
    let top : c.top-top.result ≡ t = c.top-top.ensures sound x.formatted.header.first in
    let height : c.height-height.result ≡ (header_of v.image).height = c.height-height.ensures sound x.formatted.header.first in
    let levels : c.height-height.result - 1 ≡ top_level v = omega arith in
    let some : 0 < t = (let f = c.if-top-eq0.false in omega arith) in
    let start = stand-top k v key (c.height-height.result - 1) (record { left = 0; block = c.top-top.result }) x some refl top levels in
    let down = c.in_ok-stand.ensures.stand sound x start in
    let now : IsTrue w.is_sound = rw c.in_ok-stand.ensures.read.call.sound sound in
    let one = read-one c.in_ok-stand.ensures.read now in
    let same = set-same k v w one x in
    c.in_ok-lower.ensures.value now same.0 (stand-same k v w key 0 c.in_ok-stand.stand one down) ∙ ap (greatest_below key key) same.1

pub returns-clause-leaf : goal.returns-clause-leaf
returns-clause-leaf g c sound x =
    let v = c.args.volume.now in
    let w = c.walk_down.new.volume in
    let k : ℕ = c.args.key_length in
    let key = c.args.key.now in
    let t : ℕ = (header_of v.image).top in
    let top : c.top-top.result ≡ t = c.top-top.ensures sound x.formatted.header.first in
    let height : c.height-height.result ≡ (header_of v.image).height = c.height-height.ensures sound x.formatted.header.first in
    let levels : c.height-height.result - 1 ≡ top_level v = omega arith in
    let some : 0 < t = (let f = c.if-top-eq0.false in omega arith) in
    let start = stand-top k v key (c.height-height.result - 1) (record { left = 0; block = c.top-top.result }) x some refl top levels in
    let down = c.in_ok-stand.ensures.stand sound x start in
    let now : IsTrue w.is_sound = rw c.in_ok-stand.ensures.read.call.sound sound in
    let one = read-one c.in_ok-stand.ensures.read now in
    let same = set-same k v w one x in
    let N : List ℕ → Type 0 = λ b. IsKnownLeaf k v b c.in_ok-lower.lower.leaf in
    subst N (ap (greatest_below key key) same.1)
    (known-same k w v (lower_key k w key) c.in_ok-lower.lower.leaf (one-turned one) (c.in_ok-lower.ensures.leaf now same.0 (stand-same k v w key 0 c.in_ok-stand.stand one down)))
