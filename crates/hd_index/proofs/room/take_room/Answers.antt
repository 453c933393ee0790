use Rattle.std.proofs.Common.{◌≡◌, inl, inr, sym, ◌∙◌, arith}
use Rattle.hd_volume.specs.Headers.{header_of}
use Rattle.hd_index.proofs.Halving.{full-known}
use Rattle.hd_index.proofs.room.take_room.Goals as goal

pub add_top-requires-clause-full : goal.add_top-requires-clause-full
add_top-requires-clause-full g c sound =
    let v = c.args.volume.now in
    let x = c.requires.index sound in
    let height : c.height-height.result ≡ (header_of v.image).height = c.height-height.ensures sound x.formatted.header.first in
    let needed = c.requires.needed sound in
    elim (full-known c.args.key_length v c.args.by.now x (c.requires.some sound)) [
      | inl all ↦ all.0 ∙ sym height
      | inr few ↦ (let less = few.1 in let t = c.if-needed-height.true in absurd (omega arith))
    ]
