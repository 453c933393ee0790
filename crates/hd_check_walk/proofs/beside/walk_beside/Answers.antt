use Rattle.std.proofs.Common.{◌*◌, ◌/◌, ℕ, ap, sym, subst}
use Rattle.hd_bytes.specs.Blocks.{HasBlock}
use Rattle.hd_dbd.specs.Hierarchy.{Database}
use Rattle.hd_volume.specs.Volumes.{VolumeState}
use Rattle.hd_volume.proofs.MapLemmas.{find-there}
use Rattle.hd_links.specs.Links.{IsSegment}
use Rattle.hd_image.specs.Records.{links_of}
use Rattle.hd_check_blocks.specs.declared.places.Place.{Place}
use Rattle.hd_check_blocks.proofs.Lent.{has-segment}
use Rattle.hd_check_walk.proofs.Steps.{stands}
use Rattle.hd_check_walk.proofs.beside.walk_beside.Goals as goal

pub block-requires : goal.block-requires
block-requires g c = record {
  there = λ sound.
      (let d : Database = c.args.dbd.now in
      let v : VolumeState = c.args.volume.now in
      let a : ℕ = c.args.from.next in
      let of = c.requires.of sound in
      let is = c.is_there.ensures c.if-not-is_there.false in
      let there : IsSegment (links_of d.types v) a = subst (IsSegment (links_of d.types v)) (ap (λ (p : Place). p.address) is.1) (stands d.types v c.args.places.now (c.requires.places sound) c.args.from.near is.0) in
      subst (λ (s : ℕ). HasBlock v.size v.image (a / s)) (sym c.block_size-size.ensures.value) (find-there v a 0 of.formatted (has-segment d v a of.fit of there)).there);
}

pub returns-clause-goes : goal.returns-clause-goes
returns-clause-goes g c = λ sound.
    let number : ℕ = c.args.from.next / c.block_size-size.result in
    c.walk_block-to.ensures.goes c.args.volume.now number (c.requires.of sound) (c.requires.places sound) (c.in_ok-bytes.ensures.value sound) (ap (λ (s : ℕ). number * s) c.block_size-size.ensures.value)
