use Rattle.std.proofs.Common.{sym, ◌∙◌, arith}
use Rattle.std.proofs.lemmas.Result.{on_ok_weaker}
use Rattle.hd_image.proofs.Found.{keeps-size}
use Rattle.hd_forest.proofs.Setting.{recorded-written, recorded-idle, unkept-idle, pointer-room, pointer-inside}
use Rattle.hd_forest.proofs.write.set_in_segment.Goals as goal

pub write_at-requires-clause-there : goal.write_at-requires-clause-there
write_at-requires-clause-there g c = λ sound.
    pointer-room c.args.dbd.now c.args.volume.now c.args.holder c.args.code c.in-Some.place _ c.place_in.ensures.fit (c.requires.of sound) (c.requires.there sound) (c.requires.typed sound)
    c.in-Some.ensures.inside.1 c.address_bytes.ensures.length

pub write_at-requires-clause-keeps_size : goal.write_at-requires-clause-keeps_size
write_at-requires-clause-keeps_size g c = λ sound.
    keeps-size c.args.dbd.now c.args.volume.now c.args.holder c.in-Some.place _ c.place_in.ensures.fit (c.requires.of sound) (omega (arith, c.in-Some.ensures.inside.0))
    (pointer-inside c.args.dbd.now.types c.args.volume.now c.args.holder c.args.code c.in-Some.place _ (c.requires.typed sound) c.in-Some.ensures.inside.1 c.address_bytes.ensures.length)

pub returns-in-Some-clause-set : goal.returns-in-Some-clause-set
returns-in-Some-clause-set g c =
    on_ok_weaker c.write_at.result (λ written sound.
    recorded-written c.args.dbd.now c.args.volume.now c.write_at.new.self c.args.pointer c.args.holder c.args.code c.in-Some.place c.args.address _ c.place_in.ensures.fit (c.requires.of sound)
    c.write_at.ensures.call.size c.write_at.ensures.call.sizes (c.requires.there sound) (c.requires.typed sound) (sym c.place_in.ensures.place ∙ c.in-Some.is)
    c.address_bytes.ensures.length c.address_bytes.ensures.number (written sound)) c.write_at.ensures.written

pub returns-in-None-clause-set : goal.returns-in-None-clause-set
returns-in-None-clause-set g c = λ sound.
    recorded-idle c.args.dbd.now c.args.volume.now c.args.pointer c.args.holder c.args.address (c.requires.of sound)
    (unkept-idle c.args.dbd.now c.args.volume.now c.args.holder c.args.code c.args.pointer c.place_in.ensures.fit (c.requires.of sound) (c.requires.there sound) (c.requires.typed sound)
    (sym c.place_in.ensures.place ∙ c.in-None.is))
