use Rattle.std.proofs.Common.{rules, ◌≡◌, ℕ, List, ◌∷◌}
use Rattle.hd_volume.specs.Buffers.{AreLater, put_all}
use Rattle.hd_volume.proofs.AsideLemmas.{empty-later, empty-slots, put-empty}
use Rattle.hd_volume.proofs.blocks.Blocks.new.Goals as goal

pub invariant_of-result : goal.invariant_of-result
invariant_of-result g c =
    let size : ℕ = c.block_size-block_size.result in
    let later : AreLater size (g.S.BlockStore.contents c.if-length-block_size.store) (c.in-Ok-empty_buffer.hand ∷ c.in-Ok-empty_buffers.aside.items) =
    empty-later size (g.S.BlockStore.contents c.if-length-block_size.store) (c.in-Ok-empty_buffer.hand ∷ c.in-Ok-empty_buffers.aside.items) (c.in-Ok-empty_buffer.ensures.empty.0, c.in-Ok-empty_buffers.ensures.empty) in
    record {
      same_size = search rules;
      some = search rules;
      small = search rules;
      head_len = search rules;
      hand_len = search rules;
      aside_len = c.in-Ok-empty_buffers.ensures.len;
      head_number = search rules;
      ready = search rules;
      others = λ _. later;
      slots = λ _. empty-slots c.in-Ok-empty_buffer.hand.number c.in-Ok-empty_buffers.aside.items c.in-Ok-empty_buffers.ensures.empty;
    }

pub returns-clause-image : goal.returns-clause-image
returns-clause-image g c =
    let contents : List ℕ = g.S.BlockStore.contents c.if-length-block_size.store in
    let none : put_all c.block_size-block_size.result contents c.in-Ok-empty_buffers.aside.items ≡ contents =
    put-empty c.block_size-block_size.result contents c.in-Ok-empty_buffers.aside.items c.in-Ok-empty_buffers.ensures.empty in
    rw none (search rules)
