use Rattle.std.proofs.Common.{ℕ, ◌<◌, ◌^◌, arith}
use Rattle.hd_salvage.proofs.Keeping.{kept-none, kept-all}
use Rattle.hd_salvage.proofs.salvages.write_kept.Goals as goal

pub returns-clause-salvaged : goal.returns-clause-salvaged
returns-clause-salvaged g c = λ sound.
    let d = c.args.dbd.now in
    let v = c.args.volume.now in
    let begun = kept-none d v (g.W.Write.contents c.args.out.now) (g.W.Write.contents c.put_head.new.out) _ c.in-Ok.marks.items c.new-path.ensures c.in_ok-put_head.ensures.head in
    kept-all d v (g.W.Write.contents c.args.out.now) (g.W.Write.contents c.write_rows.new.out) (g.W.Write.contents c.put_end.new.out) _ _ c.in_ok-count.count (omega arith)
    (c.in_ok-count.ensures.kept sound (g.W.Write.contents c.args.out.now) begun) c.in_ok-put_end.ensures.end
