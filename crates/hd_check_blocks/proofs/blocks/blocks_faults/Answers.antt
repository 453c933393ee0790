use Rattle.std.proofs.Common.{◌≡◌, ◌≤◌, ◌<◌, ◌+◌, ◌*◌, ℕ, List, Ok, IsTrue, IfSome, IfNone, arith, refl, sym, ap, subst}
use Rattle.std.proofs.lemmas.Nat.{row_fits}
use Rattle.hd_bytes.specs.Blocks.{HasBlock}
use Rattle.hd_dbd.specs.Hierarchy.{Database}
use Rattle.hd_dbd.specs.declared.facts.SegmentSize.{SegmentSize}
use Rattle.hd_volume.specs.Headers.{HasHeader, header_of}
use Rattle.hd_volume.specs.Volumes.{VolumeState, block_at}
use Rattle.hd_volume.proofs.CallSteps.{read-ok, reads-join}
use Rattle.hd_check_blocks.specs.declared.fault.Fault.{Fault}
use Rattle.hd_check_blocks.specs.Listing.{faults_of}
use Rattle.hd_check_blocks.specs.Phases.{IsRightBlock, IsWrongBlock}
use Rattle.hd_check_blocks.proofs.Listing.{AreStandingAmong}
use Rattle.hd_check_blocks.proofs.BlockFaults.{block-standing, block-more, blocks-standing}
use Rattle.hd_check_blocks.proofs.blocks.blocks_faults.Goals as goal

pub loop-n-preserved : goal.loop-n-preserved
loop-n-preserved g c =
    let d : Database = c.args.dbd.now in
    let v : VolumeState = c.args.volume.now in
    let w : VolumeState = c.loop-n.volume in
    let n : ℕ = c.loop-n.n in
    let i = c.loop-n.invariant in
    let size : w.size ≡ v.size = i.read.call.size in
    let sizes : w.sizes ≡ v.sizes = i.read.call.sizes in
    let positive : 1 ≤ n = i.first in
    record {
      read = read-ok 0 (reads-join (Ok c.in_ok-found.found) i.read c.in_ok-found.ensures.read);
      first = omega arith;
      listed = λ sound.
          (let now : IsTrue w.is_sound = rw i.read.call.sound sound in
          let same : w.image ≡ v.image = i.read.image now in
          let h : HasHeader v.size v.image = c.requires.header sound in
          let whole = h.whole in
          let first = h.first in
          let count = c.block_count.ensures sound first in
          let low = c.min-count.ensures in
          let under = c.loop-n-test.true in
          let there : HasBlock v.size v.image n =
          (let fits : n * v.size + v.size ≤ (header_of v.image).count * v.size = row_fits n v.size (header_of v.image).count v.size (omega arith) (omega arith) in omega arith) in
          let some : 0 < v.size = (let own = c.block_size-size.ensures.value in let least = c.block_size-size.ensures.least in omega arith) in
          let block : block_at w n ≡ block_at v n = rw (size, same) refl in
          let N : List SegmentSize → List ℕ → Type 0 = λ s b. IfNone c.in_ok-found.found (IsRightBlock s b) in
          let W : List SegmentSize → List ℕ → ℕ → Type 0 = λ s b a. IfSome c.in_ok-found.found (λ f. IsWrongBlock s b a f) in
          let right : N v.sizes (block_at v n) = subst (λ (b : List ℕ). N v.sizes b) block (subst (λ (s : List SegmentSize). N s (block_at w n)) sizes (c.in_ok-found.ensures.none now)) in
          let wrong : W v.sizes (block_at v n) (n * v.size) =
          subst (λ (a : ℕ). W v.sizes (block_at v n) a) (ap (λ (z : ℕ). n * z) size) (subst (λ (b : List ℕ). W v.sizes b (n * w.size)) block (subst (λ (s : List SegmentSize). W s (block_at w n) (n * w.size)) sizes (c.in_ok-found.ensures.some now))) in
          subst (λ (l : List Fault). AreStandingAmong d v 2 (λ k a. a < (n + 1) * v.size) l) (sym c.in_ok-list_fault.ensures.faults)
          (block-more d v some n c.loop-n.faults.items (faults_of c.in_ok-found.found) (i.listed sound) (block-standing d v some n c.in_ok-found.found there positive right wrong)));
    }

pub returns-clause-faults : goal.returns-clause-faults
returns-clause-faults g c = λ sound.
    let d : Database = c.args.dbd.now in
    let v : VolumeState = c.args.volume.now in
    let i = c.loop-n.invariant in
    let h : HasHeader v.size v.image = c.requires.header sound in
    let first = h.first in
    let count = c.block_count.ensures sound first in
    let low = c.min-count.ensures in
    let bound = h.bound in
    let within = h.within in
    let end = c.loop-n-test.false in
    let some : 0 < v.size = (let own = c.block_size-size.ensures.value in let least = c.block_size-size.ensures.least in omega arith) in
    blocks-standing d v some c.loop-n.n c.loop-n.faults.items h (omega arith) (i.listed sound)
