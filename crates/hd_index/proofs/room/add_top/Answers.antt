use Rattle.std.proofs.Common.{◌≡◌, ◌∙◌, ℕ, IsTrue, length, ap, sym, subst, arith}
use Rattle.hd_bytes.specs.Numbers.{number_at}
use Rattle.hd_bytes.proofs.BlockLemmas.{length-block}
use Rattle.hd_index_blocks.proofs.RoomLemmas.{room-within}
use Rattle.hd_index.specs.Blocks.{IsInOrder}
use Rattle.hd_index.proofs.Parts.{last-length}
use Rattle.hd_volume.specs.Headers.{header_of}
use Rattle.hd_volume.specs.Volumes.{block_at}
use Rattle.hd_volume.specs.Entries.{entries_in}
use Rattle.hd_volume.proofs.JoinLemmas.{read-one}
use Rattle.hd_index_blocks.specs.Maps.{last_key}
use Rattle.hd_index_blocks.specs.IndexSets.{top_level}
use Rattle.hd_index_blocks.proofs.Volumes.{tops-right}
use Rattle.hd_index.proofs.CallLemmas.{on-ok-map}
use Rattle.hd_index.specs.Divisions.{IsTopBegun}
use Rattle.hd_index.proofs.Searching.{right-order}
use Rattle.hd_index.proofs.ReadSteps.{begun-before, refused-before}
use Rattle.hd_index.proofs.Tops.{top-made}
use Rattle.hd_index.proofs.room.add_top.Goals as goal

pub returns-clause-refused : goal.returns-clause-refused
returns-clause-refused g c = refused-before c.begin_top.result c.in_ok-last.ensures.read c.begin_top.ensures.call c.begin_top.ensures.refused

pub returns-clause-made : goal.returns-clause-made
returns-clause-made g c =
    let u = c.args.volume.now in
    let v = c.last_in.new.volume in
    let w = c.begin_top.new.volume in
    let k : ℕ = c.args.key_length in
    let by = c.args.by.now in
    let l : ℕ = c.args.level in
    let key = c.key_or.result.now in
    let n : ℕ = c.top-top.result in
    let read = c.in_ok-last.ensures.read in
    on-ok-map c.begin_top.result
    (λ (begun : IsTrue v.is_sound → IsTopBegun v l key n w) (sound : IsTrue u.is_sound).
    let now : IsTrue v.is_sound = rw read.call.sound sound in
    let x = c.requires.index sound in
    let some = c.requires.some sound in
    let t : ℕ = (header_of u.image).top in
    let top : n ≡ t = c.top-top.ensures sound x.formatted.header.first in
    let R : ℕ → Type 0 = λ i. IsTopBegun u l key i w in
    let own = subst R top (begun-before u v w l key n (read-one read now) (begun now)) in
    let right = tops-right k u x some in
    let I : ℕ → Type 0 = λ i. IsInOrder k u i in
    let O : ℕ → Type 0 = λ i. key ≡ last_key by (entries_in k (block_at u i)) in
    let last : O t = subst O top (c.key_or.ensures ∙ c.in_ok-last.ensures.value sound (subst I (sym top) (right-order k u (top_level u) t right)) by) in
    let block : length (block_at u t) ≡ u.size = length-block u.size t u.image right.is.there in
    let three = c.requires.three in
    let fits = room-within k u.size (number_at 2 (block_at u t) 4) (omega arith) right.count in
    let len : length key ≡ k = ap length last ∙ last-length k (block_at u t) 12 (number_at 2 (block_at u t) 4) by (omega arith) c.requires.whole in
    top-made k by l key len x some (c.requires.level sound) last (c.requires.full sound) c.requires.three own (c.requires.low sound))
    c.begin_top.ensures.begun
