use Rattle.std.proofs.Common.{ℕ, List, Ok, subst}
use Rattle.std.specs.Io.KnownBytes.{Appends}
use Rattle.hd_bytes.specs.Blocks.{block_of}
use Rattle.hd_volume.proofs.CallSteps.{read-ok, reads-join}
use Rattle.hd_salvage.proofs.OneVolume.{after-read}
use Rattle.hd_salvage.proofs.Copying.{blocks-more}
use Rattle.hd_salvage.proofs.copies.put_blocks.Goals as goal

pub loop-n-preserved : goal.loop-n-preserved
loop-n-preserved g c =
    let u = c.args.volume.now in
    let v = c.loop-n.volume in
    let i = c.loop-n.invariant in
    let e = c.in_ok-put_block.ensures in
    record {
      read = read-ok 0 (reads-join (Ok tt) i.read e.read);
      blocks = λ sound.
          let now = after-read u v i.read sound in
          blocks-more u.size c.loop-n.n u.image _ _ _ (i.blocks sound)
          (subst (λ (size : ℕ). Appends (g.W.Write.contents c.loop-n.out) (g.W.Write.contents c.put_block.new.out) (block_of size u.image c.loop-n.n)) now.1.size
          (subst (λ (image : List ℕ). Appends (g.W.Write.contents c.loop-n.out) (g.W.Write.contents c.put_block.new.out) (block_of v.size image c.loop-n.n)) now.1.image (e.block now.0)));
    }
