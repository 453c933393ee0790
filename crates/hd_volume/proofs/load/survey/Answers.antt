use Rattle.std.proofs.Common.{◌≡◌, inl, inr, ℕ, ◌+◌, ◌<◌, ◌≤◌, List, length, ◌==◌, IsTrue, slice_index_or, refl, subst, sym, ap, ◌∙◌, arith}
use Rattle.std.proofs.lemmas.Bool.{cases_lt}
use Rattle.hd_bytes.specs.Blocks.{block_of}
use Rattle.hd_volume.specs.declared.space.Content.{Content}
use Rattle.hd_volume.specs.Rooms.{one_if, free_below}
use Rattle.hd_volume.specs.Spaces.{IsContent}
use Rattle.hd_volume.proofs.SpaceLemmas.{one-most, free-more, free-counted, content-before, content-last}
use Rattle.hd_volume.proofs.load.survey.Goals as goal

pub loop-n-preserved : goal.loop-n-preserved
loop-n-preserved g c =
    let inv = c.loop-n.invariant in
    let n : ℕ = c.loop-n.n in
    let size : ℕ = c.args.blocks.now.size in
    let image : List ℕ = c.args.blocks.now.image in
    let old : List Content = c.loop-n.space.contents.items in
    let x : Content = c.in_ok-content.content in
    let d : Content = record { kind = 0; hole = 0 } in
    let len : length old ≡ n = sym c.loop-n.space.contents.ok.0 ∙ inv.len in
    let sound-now = λ (sound : IsTrue c.args.blocks.now.is_sound). (let s : IsTrue c.loop-n.blocks.is_sound = rw inv.is_sound sound in s) in
    let same = λ (sound : IsTrue c.args.blocks.now.is_sound). (let s : block_of c.loop-n.blocks.size c.loop-n.blocks.image n ≡ block_of size image n = rw (inv.size, inv.image sound) refl in s) in
    let own = λ (sound : IsTrue c.args.blocks.now.is_sound) (some : 0 < n).
    (let P : List ℕ → Type 0 = λ b. IsContent c.args.sizes.now b x in
    let s : P (block_of size image n) = subst P (same sound) (c.in_ok-content.ensures.content (sound-now sound) some c.args.sizes.now) in s)
    in
    record {
      is_sound = c.in_ok-content.ensures.sound ∙ inv.is_sound;
      failures = c.in_ok-content.ensures.counts ∙ inv.failures;
      committed = c.survey_block.ensures.committed ∙ inv.committed;
      size = c.survey_block.ensures.size ∙ inv.size;
      room = c.survey_block.ensures.room ∙ inv.room;
      image = λ sound. c.in_ok-content.ensures.image (sound-now sound) ∙ inv.image sound;
      stored = λ sound. c.in_ok-content.ensures.stands (sound-now sound) (inv.stored sound ∙ sym (inv.image sound)) ∙ inv.image sound;
      len = c.in_ok-note.ensures.len ∙ ap (λ (k : ℕ). k + 1) inv.len;
      contents = λ sound m some below.
          let P : List Content → Type 0 = λ xs. IsContent c.args.sizes.now (block_of size image m) (slice_index_or xs m d) in
          subst P (sym c.in_ok-note.ensures.contents)
          (elim (cases_lt m n) [
            | inl l ↦ (let Q : Content → Type 0 = λ y. IsContent c.args.sizes.now (block_of size image m) y in
                subst Q (sym (content-before old x d m (omega arith))) (inv.contents sound m some l))
            | inr l ↦ (let here : m ≡ n = omega arith in
                let Q : Content → Type 0 = λ y. IsContent c.args.sizes.now (block_of size image m) y in
                let R : ℕ → Type 0 = λ k. IsContent c.args.sizes.now (block_of size image k) x in
                subst Q (sym (content-last old x d m (omega arith))) (subst R (sym here) (own sound (omega arith))))
          ]);
      lowest = λ k. rw c.note.ensures.lowest (inv.lowest k);
      lowest_free = c.note.ensures.lowest_free ∙ inv.lowest_free;
      few = let one : one_if (x.kind == 3) ≤ 1 = one-most (x.kind == 3) in omega (arith, c.in_ok-note.ensures.free, inv.few);
      free = λ sound.
          c.in_ok-note.ensures.free ∙ ap (λ (k : ℕ). k + one_if (x.kind == 3)) (inv.free sound)
          ∙ ap (λ (k : ℕ). free_below size image n + k) (free-counted size image n x.kind c.in_ok-content.ensures.first (λ some. let k = own sound some in k.kind_is))
          ∙ sym (free-more size image n);
    }
