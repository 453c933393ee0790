use Rattle.std.proofs.Common.{◌≡◌, ◌≤◌, ◌<◌, ◌+◌, ◌-◌, ◌*◌, ◌++◌, ℕ, suc, List, Option, Ok, IsTrue, IfSome, IfNone, inl, inr, arith, refl, sym, ap, subst, ◌∙◌}
use Rattle.std.proofs.lemmas.Nat.{row_fits}
use Rattle.std.proofs.lemmas.Bool.{cases_lt}
use Rattle.hd_bytes.specs.Blocks.{HasBlock}
use Rattle.hd_dbd.specs.Hierarchy.{Database}
use Rattle.hd_volume.specs.Headers.{HasHeader, header_of}
use Rattle.hd_volume.specs.Volumes.{VolumeState, block_at}
use Rattle.hd_volume.proofs.KindLemmas.{below-count}
use Rattle.hd_volume.proofs.CallSteps.{read-ok, reads-join}
use Rattle.hd_check_blocks.specs.declared.fault.Fault.{Fault}
use Rattle.hd_check_blocks.specs.Phases.{IsRightBlock, IsWrongBlock, AreBlocksRight}
use Rattle.hd_check_blocks.specs.declared.places.Place.{Place}
use Rattle.hd_check_blocks.specs.Places.{places_at, places_behind, ArePlaces}
use Rattle.hd_check_blocks.proofs.BlockFaults.{wrong-least, all-right}
use Rattle.hd_check_blocks.proofs.PlaceLemmas.{are-places}
use Rattle.hd_check_blocks.proofs.blocks.blocks_fault.Goals as goal
use Rattle.hd_dbd.specs.declared.facts.SegmentSize.{SegmentSize}

pub returns-in-Some-clause-some : goal.returns-in-Some-clause-some
returns-in-Some-clause-some g c = λ sound.
    let d : Database = c.args.dbd.now in
    let v : VolumeState = c.args.volume.now in
    let w : VolumeState = c.loop-n.volume in
    let i = c.loop-n.invariant in
    let now : IsTrue w.is_sound = rw i.read.call.sound sound in
    let same : w.image ≡ v.image = i.read.image now in
    let size : w.size ≡ v.size = i.read.call.size in
    let sizes : w.sizes ≡ v.sizes = i.read.call.sizes in
    let h : HasHeader v.size v.image = c.requires.header sound in
    let whole = h.whole in
    let first = h.first in
    let count = c.block_count.ensures sound first in
    let low = c.min-count.ensures in
    let under = c.loop-n-test.true in
    let there : HasBlock v.size v.image c.loop-n.n =
    (let fits : c.loop-n.n * v.size + v.size ≤ (header_of v.image).count * v.size = row_fits c.loop-n.n v.size (header_of v.image).count v.size (omega arith) (omega arith) in omega arith) in
    let some : 0 < v.size = (let own = c.block_size-size.ensures.value in let least = c.block_size-size.ensures.least in omega arith) in
    let W : List SegmentSize → List ℕ → ℕ → Fault → Type 0 = λ s b a f. IsWrongBlock s b a f in
    let O : Option Fault → Type 0 = λ o. IfSome o (λ f. IsWrongBlock w.sizes (block_at w c.loop-n.n) (c.loop-n.n * w.size) f) in
    let wrong : IsWrongBlock w.sizes (block_at w c.loop-n.n) (c.loop-n.n * w.size) c.in-Some.fault = subst O c.in-Some.is (c.in_ok-stored_block_fault.ensures.some now) in
    let block : block_at w c.loop-n.n ≡ block_at v c.loop-n.n = rw (size, same) refl in
    wrong-least d v c.loop-n.n c.in-Some.fault some there (let first = i.first in omega arith) (i.right sound)
    (subst (λ (a : ℕ). W v.sizes (block_at v c.loop-n.n) a c.in-Some.fault) (ap (λ (z : ℕ). c.loop-n.n * z) size)
    (subst (λ (b : List ℕ). W v.sizes b (c.loop-n.n * w.size) c.in-Some.fault) block
    (subst (λ (s : List SegmentSize). W s (block_at w c.loop-n.n) (c.loop-n.n * w.size) c.in-Some.fault) sizes wrong)))

pub returns-clause-none : goal.returns-clause-none
returns-clause-none g c = λ sound.
    let v : VolumeState = c.args.volume.now in
    let i = c.loop-n.invariant in
    let h : HasHeader v.size v.image = c.requires.header sound in
    let first = h.first in
    let count = c.block_count.ensures sound first in
    let low = c.min-count.ensures in
    let bound = h.bound in
    let within = h.within in
    let end = c.loop-n-test.false in
    all-right v h (let own = c.block_size-size.ensures.value in let least = c.block_size-size.ensures.least in omega arith) (λ m later less. i.right sound m later (omega arith))

pub loop-n-preserved : goal.loop-n-preserved
loop-n-preserved g c =
    let v : VolumeState = c.args.volume.now in
    let w : VolumeState = c.loop-n.volume in
    let n : ℕ = c.loop-n.n in
    let i = c.loop-n.invariant in
    let sizes : w.sizes ≡ v.sizes = i.read.call.sizes in
    let size : w.size ≡ v.size = i.read.call.size in
    let positive : 1 ≤ n = i.first in
    let same : IsTrue v.is_sound → w.image ≡ v.image = λ sound. i.read.image (let now : IsTrue w.is_sound = rw i.read.call.sound sound in now) in
    let sound-now : IsTrue v.is_sound → IsTrue w.is_sound = λ sound. rw i.read.call.sound sound in
    record {
      read = read-ok 0 (reads-join (Ok c.in_ok-stored_block_fault.field-0) i.read c.in_ok-stored_block_fault.ensures.read);
      first = omega arith;
      right = λ sound m later less. elim (cases_lt m n) [
        | inl low ↦ i.right sound m later low
        | inr high ↦
            (let now = sound-now sound in
            let P : Option Fault → Type 0 = λ o. IfNone o (IsRightBlock w.sizes (block_at w n)) in
            let own : IsRightBlock w.sizes (block_at w n) = subst P c.in-None.is (c.in_ok-stored_block_fault.ensures.none now) in
            let block : block_at w n ≡ block_at v n = (let e = same sound in rw (size, e) refl) in
            let R : List SegmentSize → List ℕ → Type 0 = λ s b. IsRightBlock s b in
            let at : m ≡ n = omega arith in
            subst (λ (k : ℕ). IsRightBlock v.sizes (block_at v k)) (sym at)
            (subst (λ (b : List ℕ). R v.sizes b) block (subst (λ (s : List SegmentSize). R s (block_at w n)) sizes own)))
      ];
      places = λ sound.
          (let now = sound-now sound in
          let P : Option Fault → Type 0 = λ o. IfNone o (c.stored_block_fault.new.places.items ≡ c.loop-n.places.items ++ places_at w n) in
          let more : c.stored_block_fault.new.places.items ≡ c.loop-n.places.items ++ places_at w n = subst P c.in-None.is (c.in_ok-stored_block_fault.ensures.places now) in
          let here : places_at w n ≡ places_at v n = (let e = same sound in rw (size, e, sizes) refl) in
          let last : n + 1 - 1 ≡ suc (n - 1) = omega arith in
          let own : n - 1 + 1 ≡ n = omega arith in
          more ∙ ap (λ (ps : List Place). ps ++ places_at w n) (i.places sound) ∙ ap (λ (ps : List Place). places_behind v (n - 1) ++ ps) (here ∙ ap (places_at v) (sym own))
          ∙ sym (ap (places_behind v) last));
    }

pub returns-clause-places : goal.returns-clause-places
returns-clause-places g c = λ sound.
    let v : VolumeState = c.args.volume.now in
    let i = c.loop-n.invariant in
    let h : HasHeader v.size v.image = c.requires.header sound in
    let first = h.first in
    let count = c.block_count.ensures sound first in
    let low = c.min-count.ensures in
    let bound = h.bound in
    let within = h.within in
    let end = c.loop-n-test.false in
    let some : 0 < v.size = (let own = c.block_size-size.ensures.value in let least = c.block_size-size.ensures.least in omega arith) in
    let right : AreBlocksRight v = all-right v h some (λ m later less. i.right sound m later (omega arith)) in
    let counted : 0 < (header_of v.image).count = below-count v 0 h some first in
    let last : c.loop-n.n - 1 ≡ (header_of v.image).count - 1 = (let most = c.loop-n.auto.n-end in let m = most (omega arith) in omega arith) in
    subst (ArePlaces c.args.dbd.now.types v) (sym (i.places sound ∙ ap (places_behind v) last)) (are-places c.args.dbd.now.types v h some right)
