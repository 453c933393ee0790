use Rattle.std.proofs.Common.{refl, ap, ◌∙◌, arith, inl}
use Rattle.std.specs.Prelude.{cond}
use Rattle.hd_links.specs.Links.{Links}
use Rattle.hd_image.specs.Records.{links_of}
use Rattle.hd_update.specs.declared.places.Side.TheVariants.{Before, Behind}
use Rattle.hd_update.proofs.PlaceChains.{reached, behind_chained, unkeyed_side}
use Rattle.hd_update.proofs.places.place_without_key.Goals as goal

pub returns-then-not-last-clause-value : goal.returns-then-not-last-clause-value
returns-then-not-last-clause-value g c bytes sound =
    let d = c.args.dbd.now in
    let v = c.args.volume.now in
    let m : Links = links_of d.types v in (
      m.first_child c.args.parent c.args.code,
      record {
        chain = inl (refl, refl);
        behind = λ none. absurd (omega arith);
        before = λ some.
            unkeyed_side d v c.args.parent (record { code = c.args.code; bytes = bytes }) c.args.last (c.requires.parent sound) c.requires.without
            (m.first_child c.args.parent c.args.code) (reached m (m.first_child c.args.parent c.args.code) 0 (m.first_child c.args.parent c.args.code) (inl (refl, refl)) some)
            ∙ ap (λ b. cond b Behind Before) c.if-not-last.true;
      },
    )

pub returns-clause-value : goal.returns-clause-value
returns-clause-value g c bytes sound =
    let d = c.args.dbd.now in
    let v = c.args.volume.now in
    let m : Links = links_of d.types v in
    let chain = c.in_ok-twin.ensures.value sound in (
      0,
      record {
        chain = chain;
        behind = λ some.
            unkeyed_side d v c.args.parent (record { code = c.args.code; bytes = bytes }) c.args.last (c.requires.parent sound) c.requires.without c.in_ok-twin.twin
            (behind_chained m (m.first_child c.args.parent c.args.code) c.in_ok-twin.twin 0 chain some)
            ∙ ap (λ b. cond b Behind Before) c.if-not-last.false;
        before = λ none. absurd (omega arith);
      },
    )
