use Rattle.std.proofs.Common.{◌≡◌, ℕ, ◌<◌, List, IsTrue, subst, ◌∙◌, refl}
use Rattle.hd_bytes.specs.Blocks.{block_of}
use Rattle.hd_volume.specs.Spaces.{IsContent}
use Rattle.hd_volume.proofs.load.survey_block.Goals as goal

pub returns-clause-content : goal.returns-clause-content
returns-clause-content g c sound some sizes =
    let size : ℕ = c.args.blocks.now.size in
    let image : List ℕ = c.args.blocks.now.image in
    let now : IsTrue c.fetch.new.self.is_sound = rw c.in_ok-fetch.ensures.sound sound in
    let hand : c.fetch.new.self.hand ≡ c.args.n = c.in_ok-fetch.ensures.hand in
    let later : 0 < c.fetch.new.self.hand = rw hand some in
    let block : block_of c.fetch.new.self.size c.fetch.new.self.image c.fetch.new.self.hand ≡ block_of size image c.args.n = rw (c.fetch.ensures.size, c.in_ok-fetch.ensures.image sound, hand) refl in
    let P : List ℕ → Type 0 = λ b. IsContent sizes b c.content_of.result in
    subst P (c.hand.ensures.value now later ∙ block) (c.content_of.ensures sizes)
