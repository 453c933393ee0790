use Rattle.std.proofs.Common.{◌≡◌, ◌*◌, ◌<◌, ◌+◌, ℕ, List, Option, Ok, IsTrue, length, slice_index, refl, sym, ap, subst, ◌∙◌, arith}
use Rattle.std.specs.Option.{option_map_or}
use Rattle.hd_dbd.specs.Hierarchy.{Database}
use Rattle.hd_volume.specs.Headers.{header_of}
use Rattle.hd_volume.specs.Volumes.{VolumeState, block_at}
use Rattle.hd_volume.specs.Entries.{Entry, entries_in, entry_blocks}
use Rattle.hd_volume.specs.Indexes.{root_key_length, IsEntryBlock, IsAmong}
use Rattle.hd_volume.proofs.CallSteps.{read-ok, reads-join}
use Rattle.hd_image.specs.IndexFaults.{last_entry, first_not_above}
use Rattle.hd_check_blocks.specs.declared.fault.Fault.{Fault}
use Rattle.hd_check_index.specs.LeftKeys.{IsLeft, lesser}
use Rattle.hd_check_index.proofs.FormFaults.{place-fits}
use Rattle.hd_check_index.proofs.UnnamedRoots.{at-among}
use Rattle.hd_check_index.proofs.NamedEntries.{chain-block}
use Rattle.hd_index_blocks.proofs.BlockLemmas.{entry-block-same}
use Rattle.hd_check_index.proofs.OrderSteps.{address-of, left-of, out-of-order, left-more, IsLeastBefore, least-step, none-out-of-order, some-out-of-order}
use Rattle.hd_check_index.proofs.entry_order.entry_order_fault.Goals as goal
use Rattle.hd_image.specs.declared.line.Line.TheVariants.{EntryOutOfOrder}

-- a block of the chain bears entries
own : (k : ℕ) (v : VolumeState) (s : ℕ) (ns bs : List ℕ) (i : ℕ) → ((n : ℕ) → IsAmong n bs → IsEntryBlock k v n) → ns ≡ bs → i < length ns → IsEntryBlock k v (slice_index ns i)
own k v s ns bs i all is l = all (slice_index ns i) (subst (λ (ms : List ℕ). IsAmong (slice_index ns i) ms) is (at-among ns (slice_index ns i) i l refl))

pub not_above_in-requires-clause-block : goal.not_above_in-requires-clause-block
not_above_in-requires-clause-block g c = λ now.
    let d : Database = c.args.dbd.now in
    let v : VolumeState = c.args.volume.now in
    let i = c.loop-n.invariant in
    let sound : IsTrue v.is_sound = rw (← i.read.call.sound) now in
    let k : ℕ = root_key_length d.types in
    let value : c.root_key_length-key_length.result ≡ k = c.root_key_length-key_length.ensures.value in
    let formed = c.requires.formed sound in
    subst (λ (x : ℕ). IsEntryBlock x c.loop-n.volume (slice_index c.args.chain.now c.loop-n.n-index)) (sym value)
    (entry-block-same k v c.loop-n.volume (slice_index c.args.chain.now c.loop-n.n-index) i.read.call.size (i.read.image now)
    (own k v 0 c.args.chain.now (entry_blocks v) c.loop-n.n-index (λ n a. chain-block k v (header_of v.image).top (entry_blocks v) n formed.chain a) (c.requires.chain sound) c.loop-n-test.true))

pub loop-n-preserved : goal.loop-n-preserved
loop-n-preserved g c =
    let d : Database = c.args.dbd.now in
    let v : VolumeState = c.args.volume.now in
    let w : VolumeState = c.loop-n.volume in
    let i = c.loop-n.invariant in
    let k : ℕ = root_key_length d.types in
    let ns : List ℕ = c.args.chain.now in
    let x : ℕ = c.loop-n.n-index in
    let n : ℕ = slice_index ns x in
    let value : c.root_key_length-key_length.result ≡ k = c.root_key_length-key_length.ensures.value in
    record {
      read = read-ok 0 (reads-join (Ok c.in_ok-found.found) i.read c.in_ok-found.ensures.read);
      left = λ sound.
          (let now : IsTrue w.is_sound = rw i.read.call.sound sound in
          let same : block_at w n ≡ block_at v n = (let image = i.read.image now in let size = i.read.call.size in rw (size, image) refl) in
          let L : ℕ → Type 0 = λ y. IsLeft y c.loop-n.left (left-of k v ns x) → IsLeft y c.not_above_in.new.left (last_entry (left-of k v ns x) (entries_in y (block_at w n))) in
          let kept = subst L value (c.in_ok-found.ensures.left now (left-of k v ns x)) (i.left sound) in
          subst (λ (o : Option Entry). IsLeft k c.not_above_in.new.left o) (ap (λ (b : List ℕ). last_entry (left-of k v ns x) (entries_in k b)) same ∙ sym (left-more k v ns x c.loop-n-test.true)) kept);
      least = λ sound.
          (let now : IsTrue w.is_sound = rw i.read.call.sound sound in
          let same : block_at w n ≡ block_at v n = (let image = i.read.image now in let size = i.read.call.size in rw (size, image) refl) in
          let F : ℕ → Type 0 = λ y. IsLeft y c.loop-n.left (left-of k v ns x) → address-of (first_not_above (left-of k v ns x) (entries_in y (block_at w n))) ≡ c.in_ok-found.found in
          let found = subst F value (c.in_ok-found.ensures.found now (left-of k v ns x)) (i.left sound) in
          let here : out-of-order k v ns x ≡ c.in_ok-found.found = ap (λ (b : List ℕ). address-of (first_not_above (left-of k v ns x) (entries_in k b))) (sym same) ∙ found in
          let formed = c.requires.formed sound in
          let there = (own k v 0 ns (entry_blocks v) x (λ m a. chain-block k v (header_of v.image).top (entry_blocks v) m formed.chain a) (c.requires.chain sound) c.loop-n-test.true).is.there in
          let size : c.block_size-size.result ≡ v.size = c.block_size-size.ensures.value in
          let place : n * c.block_size-size.result ≡ n * v.size = ap (λ (z : ℕ). n * z) size in
          let is = c.least_with-least.ensures (subst (λ (y : ℕ). y < 4294967296) (sym place) (place-fits d v n (c.requires.of sound) there)) in
          subst (λ (f : Option Fault). IsLeastBefore k v ns (x + 1) f)
          (sym (is ∙ ap (λ (y : ℕ). option_map_or (λ other. lesser c.loop-n.least (record { line = EntryOutOfOrder; address = y; other = other })) c.in_ok-found.found c.loop-n.least) place))
          (least-step k v ns x c.loop-n.least c.in_ok-found.found (i.least sound) here));
    }

pub returns-clause-none : goal.returns-clause-none
returns-clause-none g c = λ sound.
    let d : Database = c.args.dbd.now in
    let v : VolumeState = c.args.volume.now in
    let high = c.loop-n-test.false in
    let low = c.loop-n.auto.n-index-end in
    let last : c.loop-n.n-index ≡ length c.args.chain.now = omega arith in
    none-out-of-order d v c.args.chain.now (c.requires.chain sound) c.loop-n.least (subst (λ (x : ℕ). IsLeastBefore (root_key_length d.types) v c.args.chain.now x c.loop-n.least) last (c.loop-n.invariant.least sound))

pub returns-clause-some : goal.returns-clause-some
returns-clause-some g c = λ sound.
    let d : Database = c.args.dbd.now in
    let v : VolumeState = c.args.volume.now in
    let high = c.loop-n-test.false in
    let low = c.loop-n.auto.n-index-end in
    let last : c.loop-n.n-index ≡ length c.args.chain.now = omega arith in
    some-out-of-order d v c.args.chain.now (c.requires.chain sound) c.loop-n.least (subst (λ (x : ℕ). IsLeastBefore (root_key_length d.types) v c.args.chain.now x c.loop-n.least) last (c.loop-n.invariant.least sound)) (c.requires.version sound)
