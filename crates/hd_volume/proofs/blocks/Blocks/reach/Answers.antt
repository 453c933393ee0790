use Rattle.std.proofs.Common.{◌≡◌, ℕ, ◌<◌, ◌/◌, List, ◌∷◌, IsTrue, subst, sym, ap, ◌∙◌, arith}
use Rattle.std.specs.List.{AllByRecursion}
use Rattle.hd_bytes.specs.Blocks.{HasBlock}
use Rattle.hd_volume.specs.Buffers.{Buffered, IsInBytes}
use Rattle.hd_volume.proofs.AsideLemmas.{stored-buffers, kept-length, aside-stand}
use Rattle.hd_volume.proofs.blocks.Blocks.reach.Goals as goal

pub bring_other-requires-clause-there : goal.bring_other-requires-clause-there
bring_other-requires-clause-there g c sound =
    let n : ℕ = c.place-n.result.0 in
    let P : Buffered → Type 0 = λ b. IsTrue b.is_sound → (0 < c.args.address / b.size) × HasBlock b.size b.image (c.args.address / b.size) in
    let is : n ≡ c.args.address / c.self.inside.block_size = c.place-n.ensures.number ∙ ap (λ (b : Buffered). c.args.address / b.size) (sym c.self.view_is) in
    let there = subst P (sym c.self.view_is) c.requires.there sound in
    let some : 0 < n = (let t = there.0 in omega arith) in
    let here : HasBlock c.self.inside.block_size (g.S.BlockStore.contents c.self.inside.store) n =
    (let l = kept-length c.self.invariant sound in let H : ℕ → Type 0 = λ i. HasBlock c.self.inside.block_size (g.S.BlockStore.contents c.self.inside.store) i in
    subst H (sym is) (let t = there.1 in omega arith)) in
    (some, rw c.self.invariant.same_size here)

pub returns-clause-stands : goal.returns-clause-stands
returns-clause-stands g c =
    let P : Buffered → Type 0 = λ b. IsTrue b.is_sound → b.stored ≡ b.image → g.S.BlockStore.contents c.bring_other.new.store ≡ b.image in
    subst P c.self.view_is
    (λ sound same.
    let size : ℕ = c.self.inside.block_size in
    let contents : List ℕ = g.S.BlockStore.contents c.self.inside.store in
    let all : AllByRecursion (IsInBytes size contents) (c.self.inside.hand ∷ c.self.inside.aside.items) =
    aside-stand (stored-buffers c.self.invariant sound) c.self.invariant.aside_len (c.self.invariant.others sound) same in
    let over : AllByRecursion (IsInBytes (g.S.BlockStore.size c.self.inside.store) contents) (c.self.inside.hand ∷ c.deref_mut.result.now) =
    rw c.deref_mut.ensures.value (subst (λ n. AllByRecursion (IsInBytes n contents) (c.self.inside.hand ∷ c.self.inside.aside.items)) (sym c.self.invariant.same_size) all) in
    c.in_ok-bring_other.ensures.stands sound over ∙ same)
