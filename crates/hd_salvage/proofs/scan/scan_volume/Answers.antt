use Rattle.std.proofs.Common.{ℕ, Ok}
use Rattle.hd_volume.proofs.CallSteps.{read-ok, reads-join}
use Rattle.hd_salvage.proofs.OneVolume.{after-read, back, noted-one}
use Rattle.hd_salvage.proofs.scan.scan_volume.Goals as goal

pub loop-n-preserved : goal.loop-n-preserved
loop-n-preserved g c =
    let u = c.args.volume.now in
    let v = c.loop-n.volume in
    let i = c.loop-n.invariant in
    let e = c.in_ok-scan_block.ensures in
    record {
      read = read-ok 0 (reads-join (Ok tt) i.read e.read);
      noted = λ sound. (let now = after-read u v i.read sound in
          λ k d l. noted-one v u (back now.1) _ (e.noted now.0 (λ m x b. noted-one u v now.1 _ (i.noted sound m x b)) k d l));
    }
