use Rattle.std.proofs.Common.{◌≡◌, ◌<◌, ◌≤◌, IsTrue, refl, sym, ap, ◌∙◌, rules, arith}
use Rattle.std.proofs.lemmas.Bool.{leb-true}
use Rattle.hd_bytes.specs.Blocks.{block_of}
use Rattle.hd_volume.specs.Spaces.{content_at}
use Rattle.hd_volume.specs.declared.space.Content.{Content}
use Rattle.hd_volume.proofs.CallLemmas.{seen-hole, mended-space}
use Rattle.hd_volume.proofs.seek.try_block.Goals as goal

pub returns-clause-space : goal.returns-clause-space
returns-clause-space g c sound =
    let before : IsTrue c.args.blocks.now.is_sound = rw (← c.in_ok-fetch.ensures.sound) sound in
    let there = c.requires.there before in
    let some : 0 < c.fetch.new.self.hand = (let h = c.in_ok-fetch.ensures.hand in let t = there.0 in omega arith) in
    let is : (content_at c.args.space.now c.args.n).kind ≡ 1 = ap (λ (x : Content). x.kind) (sym c.content_of_block-content.ensures) ∙ (search rules) in
    let image = c.in_ok-fetch.ensures.image before in
    let block : c.hand.result.now ≡ block_of c.args.blocks.now.size c.args.blocks.now.image c.args.n =
    c.hand.ensures.value sound some ∙ (let e : block_of c.fetch.new.self.size c.fetch.new.self.image c.fetch.new.self.hand ≡ block_of c.args.blocks.now.size c.args.blocks.now.image c.args.n = rw (c.fetch.ensures.size, image, c.in_ok-fetch.ensures.hand) refl in e) in
    let hole = seen-hole c.args.blocks.now.size c.args.sizes.now c.args.blocks.now.image c.args.space.now c.args.n c.largest_free-hole.result c.hand.result.now
    (c.requires.space_is before) (c.requires.divided before) there.0 there.1 is block c.largest_free-hole.ensures.largest in
    mended-space c.args.blocks.now.size c.args.sizes.now c.args.blocks.now.image c.args.space.now c.set_content.new.space c.args.n c.largest_free-hole.result
    (c.requires.space_is before) c.set_content.ensures.contents c.set_content.ensures.len c.set_content.ensures.lowest c.set_content.ensures.free c.set_content.ensures.lowest_free there.0 there.1 is hole

pub returns-clause-found : goal.returns-clause-found
returns-clause-found g c before is-large =
    let sound : IsTrue c.fetch.new.self.is_sound = rw c.in_ok-fetch.ensures.sound before in
    let there = c.requires.there before in
    let some : 0 < c.fetch.new.self.hand = (let h = c.in_ok-fetch.ensures.hand in let t = there.0 in omega arith) in
    let is : (content_at c.args.space.now c.args.n).kind ≡ 1 = ap (λ (x : Content). x.kind) (sym c.content_of_block-content.ensures) ∙ (search rules) in
    let image = c.in_ok-fetch.ensures.image before in
    let block : c.hand.result.now ≡ block_of c.args.blocks.now.size c.args.blocks.now.image c.args.n =
    c.hand.ensures.value sound some ∙ (let e : block_of c.fetch.new.self.size c.fetch.new.self.image c.fetch.new.self.hand ≡ block_of c.args.blocks.now.size c.args.blocks.now.image c.args.n = rw (c.fetch.ensures.size, image, c.in_ok-fetch.ensures.hand) refl in e) in
    let hole = seen-hole c.args.blocks.now.size c.args.sizes.now c.args.blocks.now.image c.args.space.now c.args.n c.largest_free-hole.result c.hand.result.now
    (c.requires.space_is before) (c.requires.divided before) there.0 there.1 is block c.largest_free-hole.ensures.largest in
    let large : c.args.size ≤ c.largest_free-hole.result = leb-true c.args.size c.largest_free-hole.result is-large in
    (sym ((c.requires.space_is before).contents c.args.n there.0 there.1).kind_is ∙ is, omega arith)
