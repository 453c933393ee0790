use Rattle.std.proofs.Common.{◌≡◌, ℕ, List, IsTrue, sym, ◌∙◌, subst}
use Rattle.hd_bytes.specs.Blocks.{HasBlock}
use Rattle.hd_volume.specs.Volumes.{IsKind, block_at}
use Rattle.hd_index_blocks.specs.IndexSets.{HasIndexSet}
use Rattle.hd_index_blocks.specs.Searches.{IfInOrder}
use Rattle.hd_index.specs.declared.address.Place.{Place}
use Rattle.hd_index.specs.Nearness.{IsSpareIn}
use Rattle.hd_index.proofs.CallLemmas.{if-some-map}
use Rattle.hd_index.proofs.Lasts.{told-kind, known-bytes}
use Rattle.hd_index.proofs.near.spare.Goals as goal

pub returns-clause-spare : goal.returns-clause-spare
returns-clause-spare g c =
    let v = c.args.volume.now in
    let n : ℕ = c.args.n in
    let k : ℕ = c.args.key_length in
    let key = c.args.key.now in
    let b : List ℕ = c.in_ok-bytes.bytes.now in
    if-some-map c.spare_in.result
    (λ (place : Place) (h : IfInOrder k b (IsSpareIn k b key place)) (sound : IsTrue v.is_sound) (x : HasIndexSet k v).
    let there : HasBlock v.size v.image n = c.has_block.ensures.there sound c.if-not-has_block.false in
    let told : c.kind.result ≡ 2 = c.if-kind-ne-INDEX.false in
    let kind : IsKind v 2 n = told-kind v n x.formatted.header c.has_block.ensures.least c.if-n-eq0.false there (λ later small has. sym told ∙ c.kind.ensures sound later small has) in
    let is = c.in_ok-bytes.ensures.value sound in
    let order = known-bytes k v n b x kind is in
    let N : List ℕ → Type 0 = λ t. IsSpareIn k t key place in
    (kind, subst N is (h order.0 order.1)))
    c.spare_in.ensures.spare
