use Rattle.std.proofs.lemmas.Result.{IfOk-weaker}
use Rattle.hd_dbd.specs.Segment.{Segment}
use Rattle.hd_forest.proofs.Laying.{put-whole, leaf-put}
use Rattle.hd_forest.proofs.leaf.put_laid_out.Goals as goal

pub put-requires-clause-whole : goal.put-requires-clause-whole
put-requires-clause-whole g c =
    let row : Segment = record { code = c.args.code; bytes = c.args.bytes.now } in
    let d = c.args.dbd.now in
    put-whole d.block_size d.frspc d.types row c.args.after c.args.behind c.lay_out.new.segment c.args.volume.now.sizes c.lay_out.ensures.fit c.lay_out.ensures.leaf c.requires.fits c.requires.sizes

pub returns-clause-put : goal.returns-clause-put
returns-clause-put g c =
    let row : Segment = record { code = c.args.code; bytes = c.args.bytes.now } in
    IfOk-weaker c.put.result _ _ (λ a put sound.
    leaf-put c.args.dbd.now c.args.volume.now c.put.new.self row c.args.after c.args.behind a c.lay_out.new.segment c.lay_out.ensures.fit (c.requires.of sound)
    c.put.ensures.call.size c.put.ensures.call.sizes c.lay_out.ensures.leaf (put sound)) c.put.ensures.put
