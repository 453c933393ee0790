use Rattle.std.proofs.Common.{rules, ◌≡◌, ℕ, ◌+◌, ◌*◌, ◌<◌, List, ◌∷◌, length, IsTrue, subst, sym, ap, ◌∙◌, arith}
use Rattle.std.proofs.lemmas.List.{take_at}
use Rattle.std.specs.Vec.{with_items}
use Rattle.hd_bytes.specs.Blocks.{grown, HasBlock}
use Rattle.hd_bytes.proofs.BlockLemmas.{length-grown}
use Rattle.hd_volume.specs.declared.buffer.Buffer.{Buffer}
use Rattle.hd_volume.specs.Images.{KeepsFirst}
use Rattle.hd_volume.specs.Buffers.{Buffered, AreKept, put_all, image_of, number_of}
use Rattle.hd_volume.proofs.AsideLemmas.{kept-length, grown-kept, brought-kept, brought-image, kept-grown, block-behind, first-grown}
use Rattle.hd_volume.proofs.blocks.Blocks.grow.Goals as goal

pub invariant_of-self-in_default : goal.invariant_of-self-in_default
invariant_of-self-in_default g c =
    let P : Buffered → Type 0 = λ b. IsTrue b.is_sound → HasBlock b.size b.image 0 in
    grown-kept c.self.invariant c.grow.ensures.size c.in_ok-grow.ensures.sound (subst P (sym c.self.view_is) c.requires.there) 1 c.in_ok-grow.ensures.value

pub returns-in_default-clause-image : goal.returns-in_default-clause-image
returns-in_default-clause-image g c =
    let P : Buffered → Type 0 = λ b. IsTrue b.is_sound → image_of c.self.inside.block_size (put_all c.self.inside.block_size (g.S.BlockStore.contents c.grow.new.self) c.self.inside.aside.items) c.self.inside.head c.self.inside.hand ≡ grown b.size b.image 1 in
    subst P c.self.view_is (λ sound. rw (c.in_ok-grow.ensures.value sound, c.self.invariant.same_size) (kept-grown c.self.invariant sound 1))

pub bring_zeros-requires-clause-ready : goal.bring_zeros-requires-clause-ready
bring_zeros-requires-clause-ready g c sound =
    let P : Buffered → Type 0 = λ b. IsTrue b.is_sound → HasBlock b.size b.image 0 in
    let k : AreKept (g.S.BlockStore.size c.grow.new.self) (g.S.BlockStore.contents c.grow.new.self) (g.S.BlockStore.is_sound c.grow.new.self) c.self.inside.block_size c.self.inside.head c.self.inside.hand c.self.inside.aside.items =
    grown-kept c.self.invariant c.grow.ensures.size c.in_ok-grow.ensures.sound (subst P (sym c.self.view_is) c.requires.there) 1 c.in_ok-grow.ensures.value in
    rw (c.deref_mut.ensures.value, k.same_size) (k.others sound)

pub bring_zeros-requires-clause-there : goal.bring_zeros-requires-clause-there
bring_zeros-requires-clause-there g c sound =
    let size : ℕ = c.self.inside.block_size in
    let contents : List ℕ = g.S.BlockStore.contents c.self.inside.store in
    let n : ℕ = c.in-Some.n in
    let before : IsTrue (g.S.BlockStore.is_sound c.self.inside.store) = rw (← c.in_ok-grow.ensures.sound) sound in
    let P : Buffered → Type 0 = λ b. IsTrue b.is_sound → HasBlock b.size b.image 0 in
    let Q : Buffered → Type 0 = λ b. IsTrue b.is_sound → length b.image ≡ n * b.size in
    let len = kept-length c.self.invariant before in
    let there = subst P (sym c.self.view_is) c.requires.there before in
    let whole = subst Q (sym c.self.view_is) c.in-Some.ensures.whole before in
    let new = block-behind size n contents c.self.invariant.some (omega arith) (omega arith) in
    rw (c.in_ok-grow.ensures.value before, c.grow.ensures.size, c.self.invariant.same_size) (new.0, new.1)

pub bring_zeros-requires-clause-zeros : goal.bring_zeros-requires-clause-zeros
bring_zeros-requires-clause-zeros g c sound =
    let size : ℕ = c.self.inside.block_size in
    let contents : List ℕ = g.S.BlockStore.contents c.self.inside.store in
    let n : ℕ = c.in-Some.n in
    let before : IsTrue (g.S.BlockStore.is_sound c.self.inside.store) = rw (← c.in_ok-grow.ensures.sound) sound in
    let P : Buffered → Type 0 = λ b. IsTrue b.is_sound → HasBlock b.size b.image 0 in
    let Q : Buffered → Type 0 = λ b. IsTrue b.is_sound → length b.image ≡ n * b.size in
    let len = kept-length c.self.invariant before in
    let there = subst P (sym c.self.view_is) c.requires.there before in
    let whole = subst Q (sym c.self.view_is) c.in-Some.ensures.whole before in
    let new = block-behind size n contents c.self.invariant.some (omega arith) (omega arith) in
    rw (c.in_ok-grow.ensures.value before, c.grow.ensures.size, c.self.invariant.same_size) new.2

pub add_slot-requires : goal.add_slot-requires
add_slot-requires g c = record {
  last = λ sound.
      let size : ℕ = c.self.inside.block_size in
      let contents : List ℕ = g.S.BlockStore.contents c.self.inside.store in
      let head : Buffer = c.self.inside.head in
      let hand' : Buffer = c.bring_zeros.new.hand in
      let aside' : List Buffer = c.bring_zeros.new.aside in
      let contents' : List ℕ = g.S.BlockStore.contents c.bring_zeros.new.store in
      let n : ℕ = c.in-Some.n in
      let after : IsTrue (g.S.BlockStore.is_sound c.grow.new.self) = rw (← c.in_ok-bring_zeros.ensures.sound) sound in
      let before : IsTrue (g.S.BlockStore.is_sound c.self.inside.store) = rw (← c.in_ok-grow.ensures.sound) after in
      let P : Buffered → Type 0 = λ b. IsTrue b.is_sound → HasBlock b.size b.image 0 in
      let Q : Buffered → Type 0 = λ b. IsTrue b.is_sound → length b.image ≡ n * b.size in
      let len = kept-length c.self.invariant before in
      let there = subst P (sym c.self.view_is) c.requires.there before in
      let whole = subst Q (sym c.self.view_is) c.in-Some.ensures.whole before in
      let new = block-behind size n contents c.self.invariant.some (omega arith) (omega arith) in
      let k : AreKept (g.S.BlockStore.size c.grow.new.self) (g.S.BlockStore.contents c.grow.new.self) (g.S.BlockStore.is_sound c.grow.new.self) size head c.self.inside.hand c.self.inside.aside.items =
      grown-kept c.self.invariant c.grow.ensures.size c.in_ok-grow.ensures.sound (subst P (sym c.self.view_is) c.requires.there) 1 c.in_ok-grow.ensures.value in
      let k' : AreKept (g.S.BlockStore.size c.bring_zeros.new.store) contents' (g.S.BlockStore.is_sound c.bring_zeros.new.store) size head hand' aside' =
      brought-kept k c.bring_zeros.ensures.size c.in_ok-bring_zeros.ensures.sound c.bring_zeros.ensures.len c.in_ok-bring_zeros.ensures.length c.in_ok-bring_zeros.ensures.first c.in_ok-bring_zeros.ensures.ready c.in_ok-bring_zeros.ensures.slots in
      let is : (with_items c.self.inside.aside aside').items ≡ aside' = take_at aside' _ _ (search rules) in
      let value : g.S.BlockStore.contents c.grow.new.self ≡ grown size contents 1 = rw c.self.invariant.same_size at (c.in_ok-grow.ensures.value before) in
      let more : length (grown size contents 1) ≡ length contents + 1 * size = length-grown size 1 contents in
      let grew : length (grown size contents 1) ≡ n * size + size = omega arith in
      let image : length (image_of size (put_all size contents' aside') head hand') ≡ n * size + size = kept-length k' sound ∙ c.in_ok-bring_zeros.ensures.length after ∙ ap length value ∙ grew in
      let held : number_of hand' ≡ n = rw c.in_ok-bring_zeros.ensures.holds.0 c.in_ok-bring_zeros.ensures.holds.1 in
      let R : ℕ → Type 0 = λ m. (0 < m) × (length (image_of size (put_all size contents' (with_items c.self.inside.aside aside').items) head hand') ≡ m * size + size) in
      let last : R n = (new.0, rw is image) in
      subst R (sym held) last;
}

pub invariant_of-self-2 : goal.invariant_of-self-2
invariant_of-self-2 g c =
    let P : Buffered → Type 0 = λ b. IsTrue b.is_sound → HasBlock b.size b.image 0 in
    let k : AreKept (g.S.BlockStore.size c.grow.new.self) (g.S.BlockStore.contents c.grow.new.self) (g.S.BlockStore.is_sound c.grow.new.self) c.self.inside.block_size c.self.inside.head c.self.inside.hand c.self.inside.aside.items =
    grown-kept c.self.invariant c.grow.ensures.size c.in_ok-grow.ensures.sound (subst P (sym c.self.view_is) c.requires.there) 1 c.in_ok-grow.ensures.value in
    let is : (with_items c.self.inside.aside c.bring_zeros.new.aside).items ≡ c.bring_zeros.new.aside = take_at c.bring_zeros.new.aside _ _ (search rules) in
    rw is
    (brought-kept k c.bring_zeros.ensures.size c.in_ok-bring_zeros.ensures.sound c.bring_zeros.ensures.len c.in_ok-bring_zeros.ensures.length c.in_ok-bring_zeros.ensures.first c.in_ok-bring_zeros.ensures.ready c.in_ok-bring_zeros.ensures.slots)

pub returns-clause-image : goal.returns-clause-image
returns-clause-image g c =
    let size : ℕ = c.self.inside.block_size in
    let head : Buffer = c.self.inside.head in
    let aside : List Buffer = c.self.inside.aside.items in
    let aside' : List Buffer = c.bring_zeros.new.aside in
    let between : List ℕ = g.S.BlockStore.contents c.grow.new.self in
    let contents : List ℕ = g.S.BlockStore.contents c.bring_zeros.new.store in
    let is : (with_items c.self.inside.aside aside').items ≡ aside' = take_at aside' _ _ (search rules) in
    let P : Buffered → Type 0 = λ b. IsTrue b.is_sound → c.add_slot.new.self.image ≡ grown b.size b.image 1 in
    subst P c.self.view_is
    (λ before.
    let after : IsTrue (g.S.BlockStore.is_sound c.grow.new.self) = rw c.in_ok-grow.ensures.sound before in
    let grew : image_of size (put_all size between aside) head c.self.inside.hand ≡ grown size (image_of size (put_all size (g.S.BlockStore.contents c.self.inside.store) aside) head c.self.inside.hand) 1 =
    rw (c.in_ok-grow.ensures.value before, c.self.invariant.same_size) (kept-grown c.self.invariant before 1) in
    let put : put_all (g.S.BlockStore.size c.grow.new.self) contents (c.bring_zeros.new.hand ∷ aside') ≡ put_all (g.S.BlockStore.size c.grow.new.self) between (c.self.inside.hand ∷ aside) =
    rw c.deref_mut.ensures.value at (c.in_ok-bring_zeros.ensures.contents after) in
    let kept : image_of size (put_all size contents aside') head c.bring_zeros.new.hand ≡ image_of size (put_all size between aside) head c.self.inside.hand =
    brought-image between contents head c.self.inside.hand c.bring_zeros.new.hand aside aside' (c.grow.ensures.size ∙ c.self.invariant.same_size) put in
    let image : image_of size (put_all size contents (with_items c.self.inside.aside aside').items) head c.bring_zeros.new.hand ≡ grown size (image_of size (put_all size (g.S.BlockStore.contents c.self.inside.store) aside) head c.self.inside.hand) 1 =
    rw is (kept ∙ grew) in
    ap (λ (b : Buffered). b.image) c.add_slot.ensures ∙ image)

pub returns-clause-first : goal.returns-clause-first
returns-clause-first g c slotted =
    let sound : IsTrue (g.S.BlockStore.is_sound c.bring_zeros.new.store) = subst (λ (b : Buffered). IsTrue b.is_sound) c.add_slot.ensures slotted in
    let after : IsTrue (g.S.BlockStore.is_sound c.grow.new.self) = rw (← c.in_ok-bring_zeros.ensures.sound) sound in
    let before : IsTrue (g.S.BlockStore.is_sound c.self.inside.store) = rw (← c.in_ok-grow.ensures.sound) after in
    let P : Buffered → Type 0 = λ b. KeepsFirst b.size b.stored (g.S.BlockStore.contents c.bring_zeros.new.store) in
    subst (λ (b : Buffered). KeepsFirst c.args.self.now.size c.args.self.now.stored b.stored) (sym c.add_slot.ensures)
    (subst P c.self.view_is (first-grown 1 (rw (c.in_ok-grow.ensures.value before, c.grow.ensures.size, c.self.invariant.same_size) at (c.in_ok-bring_zeros.ensures.first after))))
