use Rattle.std.proofs.Common.{◌≡◌, ◌≤◌, ℕ, List, length, arith, sym, ap, subst, ◌∙◌}
use Rattle.hd_bytes.specs.Blocks.{HasBlock}
use Rattle.hd_bytes.proofs.BlockLemmas.{length-block}
use Rattle.hd_dbd.specs.Hierarchy.{Database}
use Rattle.hd_volume.specs.Headers.{header_of}
use Rattle.hd_volume.specs.Volumes.{VolumeState, block_at}
use Rattle.hd_volume.proofs.PutLemmas.{if-some-map, if-none-map}
use Rattle.hd_check_blocks.specs.declared.fault.Fault.{Fault}
use Rattle.hd_image.specs.BlockFaults.{IsKnownVersion}
use Rattle.hd_check_blocks.specs.Phases.{CountsImage, IsNamed, IsWrongHeader, IsLeastOf}
use Rattle.hd_check_blocks.proofs.HeaderFaults.{wrong-first, header-right, header-wrong}
use Rattle.hd_check_blocks.proofs.header.header_fault.Goals as goal

pub returns-then-image_length-size-clause-some : goal.returns-then-image_length-size-clause-some
returns-then-image_length-size-clause-some g c = λ sound.
    let d : Database = c.args.dbd.now in
    let v : VolumeState = c.args.volume.now in
    subst (IsLeastOf d v 1) (sym c.at.ensures)
    (wrong-first d v (λ h.
    let first = h.first in
    let size = c.requires.size in
    let own = c.block_size-size.ensures.value in
    let len = c.length-image_length.ensures sound in
    let short = c.if-image_length-size.true in
    absurd (omega arith)))

pub returns-clause-none : goal.returns-clause-none
returns-clause-none g c = λ sound.
    let d : Database = c.args.dbd.now in
    let v : VolumeState = c.args.volume.now in
    let own : c.block_size-size.result ≡ v.size = c.block_size-size.ensures.value in
    let least : 128 ≤ v.size = (let l = c.block_size-size.ensures.least in omega arith) in
    let len : c.length-image_length.result ≡ length v.image = c.length-image_length.ensures sound in
    let there : HasBlock v.size v.image 0 = (let long = c.if-image_length-size.false in omega arith) in
    let head : c.in_ok-head.head.now ≡ block_at v 0 = c.in_ok-head.ensures.value sound in
    let long : 44 ≤ length c.in_ok-head.head.now = (let l = ap (λ (b : List ℕ). length b) head ∙ length-block v.size 0 v.image there in omega arith) in
    let P : ℕ → ℕ → List ℕ → Type 0 = λ s n b. CountsImage s n (header_of b) × IsKnownVersion d.types (header_of b).version × IsNamed d (header_of b) in
    if-none-map c.head_fault.result
    (λ h. header-right d v c.requires.size least there (subst (λ (b : List ℕ). P v.size (length v.image) b) head (subst (λ (n : ℕ). P v.size n c.in_ok-head.head.now) len (subst (λ (s : ℕ). P s c.length-image_length.result c.in_ok-head.head.now) own h))))
    (c.head_fault.ensures.none long)

pub returns-clause-some : goal.returns-clause-some
returns-clause-some g c = λ sound.
    let d : Database = c.args.dbd.now in
    let v : VolumeState = c.args.volume.now in
    let own : c.block_size-size.result ≡ v.size = c.block_size-size.ensures.value in
    let least : 128 ≤ v.size = (let l = c.block_size-size.ensures.least in omega arith) in
    let len : c.length-image_length.result ≡ length v.image = c.length-image_length.ensures sound in
    let there : HasBlock v.size v.image 0 = (let long = c.if-image_length-size.false in omega arith) in
    let head : c.in_ok-head.head.now ≡ block_at v 0 = c.in_ok-head.ensures.value sound in
    let long : 44 ≤ length c.in_ok-head.head.now = (let l = ap (λ (b : List ℕ). length b) head ∙ length-block v.size 0 v.image there in omega arith) in
    let W : Fault → ℕ → ℕ → List ℕ → Type 0 = λ f s n b. IsWrongHeader d s n (header_of b) f in
    if-some-map c.head_fault.result
    (λ f h. header-wrong d v c.requires.size least there f (subst (λ (b : List ℕ). W f v.size (length v.image) b) head (subst (λ (n : ℕ). W f v.size n c.in_ok-head.head.now) len (subst (λ (s : ℕ). W f s c.length-image_length.result c.in_ok-head.head.now) own h))))
    (c.head_fault.ensures.some long)
