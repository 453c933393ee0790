use Rattle.std.proofs.Common.{refl}
use Rattle.hd_block.specs.Walk.{parts_in}
use Rattle.hd_volume.proofs.SpaceLemmas.{hole-within}
use Rattle.hd_volume.proofs.space.content_of.Goals as goal

pub returns-then-kind-eq-DATA : goal.returns-then-kind-eq-DATA
returns-then-kind-eq-DATA c sizes =
    record {
      kind_is = refl;
      bound = λ is. hole-within c.largest_free-hole.result (parts_in sizes c.args.bytes.now) (c.largest_free-hole.ensures.parts sizes);
    }
