use Rattle.std.proofs.Common.{◌≡◌, ℕ, List, ◌∷◌, vec_len, IsTrue, subst, sym, ap, ◌∙◌}
use Rattle.std.specs.List.{AllByRecursion, AllZip}
use Rattle.std.specs.Vec.{with_items}
use Rattle.hd_volume.specs.declared.buffer.Buffer.{Buffer}
use Rattle.hd_volume.specs.Buffers.{Buffered, AreLater, IsBlockLong, IsWrittenBack, image_of, put_all}
use Rattle.hd_volume.proofs.AsideLemmas.{stored-buffers, buffers-of, refilled-all, slots-written, IsFlushed, flushed-stored, flushed-others, flushed-image}
use Rattle.hd_volume.proofs.BufferLemmas.{hand-written}
use Rattle.hd_volume.proofs.blocks.Blocks.flush.Goals as goal

pub write_back-requires-clause-ready : goal.write_back-requires-clause-ready
write_back-requires-clause-ready g c sound =
    let before : IsTrue (g.S.BlockStore.is_sound c.self.inside.store) = rw (← c.in_ok-write_all.ensures.sound) sound in
    rw (c.write_all.ensures.size, c.in_ok-write_all.ensures.contents before, c.deref_mut.ensures.value, c.self.invariant.same_size) (buffers-of c.self.invariant before).are.in_hand

pub write_first-requires-clause-ready : goal.write_first-requires-clause-ready
write_first-requires-clause-ready g c sound =
    let sound-1 : IsTrue (g.S.BlockStore.is_sound c.write_all.new.store) = rw (← c.in_ok-write_back.ensures.sound) sound in
    let before : IsTrue (g.S.BlockStore.is_sound c.self.inside.store) = rw (← c.in_ok-write_all.ensures.sound) sound-1 in
    let v : IsWrittenBack c.self.inside.hand c.write_back.new.buffer =
    record { bytes = c.write_back.ensures.bytes; number = c.write_back.ensures.number; holds = c.write_back.ensures.holds; unchanged = c.in_ok-write_back.ensures.unchanged } in
    rw (c.write_back.ensures.size, c.in_ok-write_back.ensures.contents sound-1, c.write_all.ensures.size, c.in_ok-write_all.ensures.contents before, c.deref_mut.ensures.value, c.self.invariant.same_size)
    (hand-written (buffers-of c.self.invariant before) v)

pub invariant_of-self-2 : goal.invariant_of-self-2
invariant_of-self-2 g c =
    let size : ℕ = c.self.inside.block_size in
    let contents : List ℕ = g.S.BlockStore.contents c.self.inside.store in
    let written : AllZip IsWrittenBack c.self.inside.aside.items c.write_all.new.buffers = rw c.deref_mut.ensures.value at c.in_ok-write_all.ensures.written in
    let aside' : List Buffer = (with_items c.self.inside.aside c.write_all.new.buffers).items in
    let is : aside' ≡ c.write_all.new.buffers = refilled-all c.self.inside.aside c.write_all.new.buffers written in
    let w : AllZip IsWrittenBack c.self.inside.aside.items aside' = subst (AllZip IsWrittenBack c.self.inside.aside.items) (sym is) written in
    let v : IsWrittenBack c.self.inside.hand c.write_back.new.buffer =
    record { bytes = c.write_back.ensures.bytes; number = c.write_back.ensures.number; holds = c.write_back.ensures.holds; unchanged = c.in_ok-write_back.ensures.unchanged } in
    let same-1 : g.S.BlockStore.size c.write_all.new.store ≡ size = c.write_all.ensures.size ∙ c.self.invariant.same_size in
    let same-2 : g.S.BlockStore.size c.write_back.new.store ≡ size = c.write_back.ensures.size ∙ same-1 in
    record {
      same_size = c.write_first.ensures.size ∙ same-2;
      some = c.self.invariant.some;
      small = c.self.invariant.small;
      head_len = c.write_first.ensures.len ∙ same-2;
      hand_len = ap vec_len c.write_back.ensures.bytes ∙ c.self.invariant.hand_len;
      aside_len = subst (AllByRecursion (IsBlockLong size)) (sym is) (rw c.self.invariant.same_size at c.write_all.ensures.len);
      head_number = c.write_first.ensures.number;
      ready = λ sound.
          let sound-2 : IsTrue (g.S.BlockStore.is_sound c.write_back.new.store) = rw (← c.in_ok-write_first.ensures.sound) sound in
          rw same-2 at (c.in_ok-write_first.ensures.ready sound-2);
      others = λ sound.
          let sound-2 : IsTrue (g.S.BlockStore.is_sound c.write_back.new.store) = rw (← c.in_ok-write_first.ensures.sound) sound in
          let sound-1 : IsTrue (g.S.BlockStore.is_sound c.write_all.new.store) = rw (← c.in_ok-write_back.ensures.sound) sound-2 in
          let before : IsTrue (g.S.BlockStore.is_sound c.self.inside.store) = rw (← c.in_ok-write_all.ensures.sound) sound-1 in
          let all : IsFlushed size contents (g.S.BlockStore.contents c.write_all.new.store) (g.S.BlockStore.contents c.write_back.new.store) (g.S.BlockStore.contents c.write_first.new.store) c.self.inside.head c.self.inside.hand c.write_first.new.head c.write_back.new.buffer c.self.inside.aside.items aside' =
          record {
            aside_written = w;
            hand_written = v;
            first = rw (c.self.invariant.same_size, c.deref_mut.ensures.value) at (c.in_ok-write_all.ensures.contents before);
            second = rw same-1 at (c.in_ok-write_back.ensures.contents sound-1);
            third = rw same-2 at (c.in_ok-write_first.ensures.contents sound-2);
            image = rw same-2 at (c.in_ok-write_first.ensures.image sound-2);
            ready = rw same-2 at (c.in_ok-write_first.ensures.ready sound-2);
          } in
          flushed-others (stored-buffers c.self.invariant before) c.self.invariant.aside_len (c.self.invariant.others before) all;
      slots = λ sound.
          let sound-2 : IsTrue (g.S.BlockStore.is_sound c.write_back.new.store) = rw (← c.in_ok-write_first.ensures.sound) sound in
          let sound-1 : IsTrue (g.S.BlockStore.is_sound c.write_all.new.store) = rw (← c.in_ok-write_back.ensures.sound) sound-2 in
          let before : IsTrue (g.S.BlockStore.is_sound c.self.inside.store) = rw (← c.in_ok-write_all.ensures.sound) sound-1 in
          rw c.write_back.ensures.number (slots-written w (c.self.invariant.slots before));
    }

pub returns-clause-image : goal.returns-clause-image
returns-clause-image g c =
    let size : ℕ = c.self.inside.block_size in
    let contents : List ℕ = g.S.BlockStore.contents c.self.inside.store in
    let written : AllZip IsWrittenBack c.self.inside.aside.items c.write_all.new.buffers = rw c.deref_mut.ensures.value at c.in_ok-write_all.ensures.written in
    let aside' : List Buffer = (with_items c.self.inside.aside c.write_all.new.buffers).items in
    let is : aside' ≡ c.write_all.new.buffers = refilled-all c.self.inside.aside c.write_all.new.buffers written in
    let w : AllZip IsWrittenBack c.self.inside.aside.items aside' = subst (AllZip IsWrittenBack c.self.inside.aside.items) (sym is) written in
    let v : IsWrittenBack c.self.inside.hand c.write_back.new.buffer =
    record { bytes = c.write_back.ensures.bytes; number = c.write_back.ensures.number; holds = c.write_back.ensures.holds; unchanged = c.in_ok-write_back.ensures.unchanged } in
    let same-1 : g.S.BlockStore.size c.write_all.new.store ≡ size = c.write_all.ensures.size ∙ c.self.invariant.same_size in
    let same-2 : g.S.BlockStore.size c.write_back.new.store ≡ size = c.write_back.ensures.size ∙ same-1 in
    let P : Buffered → Type 0 = λ b. IsTrue b.is_sound → (image_of size (put_all size (g.S.BlockStore.contents c.write_first.new.store) aside') c.write_first.new.head c.write_back.new.buffer ≡ b.image) × (g.S.BlockStore.contents c.write_first.new.store ≡ b.image) in
    subst P c.self.view_is
    (λ before.
    let sound-1 : IsTrue (g.S.BlockStore.is_sound c.write_all.new.store) = rw c.in_ok-write_all.ensures.sound before in
    let sound-2 : IsTrue (g.S.BlockStore.is_sound c.write_back.new.store) = rw c.in_ok-write_back.ensures.sound sound-1 in
    let all : IsFlushed size contents (g.S.BlockStore.contents c.write_all.new.store) (g.S.BlockStore.contents c.write_back.new.store) (g.S.BlockStore.contents c.write_first.new.store) c.self.inside.head c.self.inside.hand c.write_first.new.head c.write_back.new.buffer c.self.inside.aside.items aside' =
    record {
      aside_written = w;
      hand_written = v;
      first = rw (c.self.invariant.same_size, c.deref_mut.ensures.value) at (c.in_ok-write_all.ensures.contents before);
      second = rw same-1 at (c.in_ok-write_back.ensures.contents sound-1);
      third = rw same-2 at (c.in_ok-write_first.ensures.contents sound-2);
      image = rw same-2 at (c.in_ok-write_first.ensures.image sound-2);
      ready = rw same-2 at (c.in_ok-write_first.ensures.ready sound-2);
    } in
    let k = stored-buffers c.self.invariant before in
    let p : AreLater size contents (c.self.inside.hand ∷ c.self.inside.aside.items) = c.self.invariant.others before in
    (flushed-image k c.self.invariant.aside_len p all, flushed-stored k c.self.invariant.aside_len p all))
