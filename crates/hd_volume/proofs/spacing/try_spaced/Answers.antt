use Rattle.std.proofs.Common.{◌≡◌, ◌≤◌, ◌<◌, inl, inr, ℕ, List, length, IsTrue, refl, sym, ap, ◌∙◌, rules, arith, subst}
use Rattle.std.proofs.lemmas.Bool.{leb-true}
use Rattle.hd_bytes.specs.Blocks.{block_of}
use Rattle.hd_block.specs.Extents.{IsDivided}
use Rattle.hd_block.specs.Walk.{parts_in}
use Rattle.hd_block.specs.Parts.{free_bytes}
use Rattle.hd_volume.specs.Spacing as left
use Rattle.hd_volume.specs.Spaces.{content_at}
use Rattle.hd_volume.specs.Steps.{MayTake}
use Rattle.hd_volume.specs.declared.space.Content.{Content}
use Rattle.hd_volume.proofs.CallLemmas.{seen-hole}
use Rattle.hd_volume.proofs.FreeLemmas.{free-divided, all-free}
use Rattle.hd_volume.proofs.spacing.try_spaced.Goals as goal

pub returns-clause-found : goal.returns-clause-found
returns-clause-found g c before is-large =
    let sound : IsTrue c.fetch.new.self.is_sound = rw c.in_ok-fetch.ensures.sound before in
    let there = c.requires.there before in
    let some : 0 < c.fetch.new.self.hand = (let h = c.in_ok-fetch.ensures.hand in let t = there.0 in omega arith) in
    let is : (content_at c.args.space.now c.args.n).kind ≡ 1 = ap (λ (x : Content). x.kind) (sym c.content_of_block-content.ensures) ∙ (search rules) in
    let image = c.in_ok-fetch.ensures.image before in
    let size : ℕ = c.args.blocks.now.size in
    let b : List ℕ = block_of c.args.blocks.now.size c.args.blocks.now.image c.args.n in
    let same : block_of c.fetch.new.self.size c.fetch.new.self.image c.fetch.new.self.hand ≡ b = rw (c.fetch.ensures.size, image, c.in_ok-fetch.ensures.hand) refl in
    let one : c.hand.result.now ≡ b = c.hand.ensures.value sound some ∙ same in
    let three : c.hand-3.result.now ≡ b = c.hand-3.ensures.value sound some ∙ same in
    let kind = sym ((c.requires.space_is before).contents c.args.n there.0 there.1).kind_is ∙ is in
    let hole = seen-hole size c.args.sizes.now c.args.blocks.now.image c.args.space.now c.args.n c.largest_free.result c.hand-3.result.now
    (c.requires.space_is before) (c.requires.divided before) there.0 there.1 is three c.largest_free.ensures.largest in
    let large : c.args.size ≤ c.largest_free.result = leb-true c.args.size c.largest_free.result is-large in
    let x = c.requires.divided before c.args.n there.0 there.1 kind in
    let D : List ℕ → Type 0 = λ z. IsDivided c.args.sizes.now z x.extents in
    let free : c.free_bytes.result ≡ free_bytes x.extents = c.free_bytes.ensures c.args.sizes.now x.extents (subst D (sym one) x.divides) in
    let parts : left.free_bytes (parts_in c.args.sizes.now b) ≡ free_bytes x.extents = free-divided c.args.sizes.now b x.extents x.divides x.whole in
    let more = c.if-room-from.false in
    let take : MayTake c.args.sizes.now c.args.leave c.args.size b = elim c.room_of-room.ensures [
      | inl all ↦ inl (all-free c.args.sizes.now b x (let l : length c.hand-2.result.now ≡ length b = ap length (c.hand-2.ensures.value sound some ∙ same) in omega arith))
      | inr (inl big) ↦ inr (omega arith)
      | inr (inr none) ↦ absurd (let least = c.requires.some in omega arith)
    ] in
    (kind, omega arith, take)
