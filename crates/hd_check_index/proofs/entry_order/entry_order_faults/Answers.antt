use Rattle.std.proofs.Common.{◌≡◌, ◌<◌, ◌+◌, ℕ, List, Option, Ok, IsTrue, length, slice_index, refl, sym, ap, subst, ◌∙◌, arith}
use Rattle.hd_dbd.specs.Hierarchy.{Database}
use Rattle.hd_volume.specs.Headers.{header_of}
use Rattle.hd_volume.specs.Volumes.{VolumeState, block_at}
use Rattle.hd_volume.specs.Entries.{Entry, entries_in, entry_blocks}
use Rattle.hd_volume.specs.Indexes.{root_key_length, IsEntryBlock, IsAmong}
use Rattle.hd_volume.proofs.CallSteps.{read-none, read-ok, reads-join}
use Rattle.hd_image.specs.IndexFaults.{last_entry, first_not_above}
use Rattle.hd_image.specs.declared.line.Line.TheVariants.{EntryOutOfOrder}
use Rattle.hd_check_index.specs.LeftKeys.{IsLeft}
use Rattle.hd_check_blocks.specs.Listing.{AreStanding}
use Rattle.hd_check_index.proofs.FormFaults.{place-fits}
use Rattle.hd_check_index.proofs.UnnamedRoots.{at-among}
use Rattle.hd_check_index.proofs.NamedEntries.{chain-block}
use Rattle.hd_index_blocks.proofs.BlockLemmas.{entry-block-same}
use Rattle.hd_check_index.proofs.OrderSteps.{address-of, left-of, out-of-order, left-more}
use Rattle.hd_check_index.proofs.PassedBlocks.{where-ok, one-more, naming-at}
use Rattle.hd_check_index.proofs.ChainOrders.{AreOrdersTo, orders-none, orders-more, orders-all}
use Rattle.hd_check_index.proofs.entry_order.entry_order_faults.Goals as goal

pub loop-n-init : goal.loop-n-init
loop-n-init g c = record {
  read = read-none c.args.volume.now 0;
  left = λ sound. refl;
  listed = λ sound. subst (AreOrdersTo c.args.dbd.now c.args.volume.now c.args.chain.now 0) (sym c.new-found.ensures.items) (orders-none c.args.dbd.now c.args.volume.now c.args.chain.now);
}

-- a block of the chain bears entries
own : (k : ℕ) (v : VolumeState) (s : ℕ) (ns bs : List ℕ) (i : ℕ) → ((n : ℕ) → IsAmong n bs → IsEntryBlock k v n) → ns ≡ bs → i < length ns → IsEntryBlock k v (slice_index ns i)
own k v s ns bs i all is l = all (slice_index ns i) (subst (λ (ms : List ℕ). IsAmong (slice_index ns i) ms) is (at-among ns (slice_index ns i) i l refl))

pub not_above_in-requires-clause-block : goal.not_above_in-requires-clause-block
not_above_in-requires-clause-block g c = λ now.
    let d : Database = c.args.dbd.now in
    let v : VolumeState = c.args.volume.now in
    let i = c.loop-n.invariant in
    let sound : IsTrue v.is_sound = rw (← i.read.call.sound) now in
    let k : ℕ = root_key_length d.types in
    let value : c.root_key_length-key_length.result ≡ k = c.root_key_length-key_length.ensures.value in
    let formed = c.requires.formed sound in
    subst (λ (x : ℕ). IsEntryBlock x c.loop-n.volume (slice_index c.args.chain.now c.loop-n.n-index)) (sym value)
    (entry-block-same k v c.loop-n.volume (slice_index c.args.chain.now c.loop-n.n-index) i.read.call.size (i.read.image now)
    (own k v 0 c.args.chain.now (entry_blocks v) c.loop-n.n-index (λ n a. chain-block k v (header_of v.image).top (entry_blocks v) n formed.chain a) (c.requires.chain sound) c.loop-n-test.true))

pub loop-n-preserved : goal.loop-n-preserved
loop-n-preserved g c =
    let d : Database = c.args.dbd.now in
    let v : VolumeState = c.args.volume.now in
    let w : VolumeState = c.loop-n.volume in
    let i = c.loop-n.invariant in
    let k : ℕ = root_key_length d.types in
    let ns : List ℕ = c.args.chain.now in
    let x : ℕ = c.loop-n.n-index in
    let n : ℕ = slice_index ns x in
    let value : c.root_key_length-key_length.result ≡ k = c.root_key_length-key_length.ensures.value in
    record {
      read = read-ok 0 (reads-join (Ok c.in_ok-other.other) i.read c.in_ok-other.ensures.read);
      left = λ sound.
          (let now : IsTrue w.is_sound = rw i.read.call.sound sound in
          let same : block_at w n ≡ block_at v n = (let image = i.read.image now in let size = i.read.call.size in rw (size, image) refl) in
          let L : ℕ → Type 0 = λ y. IsLeft y c.loop-n.left (left-of k v ns x) → IsLeft y c.not_above_in.new.left (last_entry (left-of k v ns x) (entries_in y (block_at w n))) in
          let kept = subst L value (c.in_ok-other.ensures.left now (left-of k v ns x)) (i.left sound) in
          subst (λ (o : Option Entry). IsLeft k c.not_above_in.new.left o) (ap (λ (b : List ℕ). last_entry (left-of k v ns x) (entries_in k b)) same ∙ sym (left-more k v ns x c.loop-n-test.true)) kept);
      listed = λ sound.
          (let now : IsTrue w.is_sound = rw i.read.call.sound sound in
          let same : block_at w n ≡ block_at v n = (let image = i.read.image now in let size = i.read.call.size in rw (size, image) refl) in
          let F : ℕ → Type 0 = λ y. IsLeft y c.loop-n.left (left-of k v ns x) → address-of (first_not_above (left-of k v ns x) (entries_in y (block_at w n))) ≡ c.in_ok-other.other in
          let found = subst F value (c.in_ok-other.ensures.found now (left-of k v ns x)) (i.left sound) in
          let here : out-of-order k v ns x ≡ c.in_ok-other.other = ap (λ (b : List ℕ). address-of (first_not_above (left-of k v ns x) (entries_in k b))) (sym same) ∙ found in
          let formed = c.requires.formed sound in
          let there = (own k v 0 ns (entry_blocks v) x (λ m a. chain-block k v (header_of v.image).top (entry_blocks v) m formed.chain a) (c.requires.chain sound) c.loop-n-test.true).is.there in
          let fault = naming-at c.in_ok-other.other EntryOutOfOrder n c.block_size-size.result v.size c.fault_naming.result c.block_size-size.ensures.value (place-fits d v n (c.requires.of sound) there) c.fault_naming.ensures in
          subst (AreOrdersTo d v ns (x + 1)) (sym (one-more c.loop-n.found.items _ c.fault_naming.result _ c.in_ok-list_fault.ensures.faults fault))
          (orders-more d v ns (c.requires.chain sound) (c.requires.version sound) x c.in_ok-other.other c.loop-n.found.items c.loop-n-test.true here (i.listed sound)));
    }

pub returns-clause-faults : goal.returns-clause-faults
returns-clause-faults g c = where-ok (λ l. AreStanding c.args.dbd.now c.args.volume.now 11 l.items) c.in_order.result (λ sound.
    let end = c.loop-n-test.false in
    c.in_order.ensures.faults c.args.dbd.now c.args.volume.now
    (orders-all c.args.dbd.now c.args.volume.now c.args.chain.now (c.requires.chain sound) (c.requires.version sound) c.loop-n.n-index c.loop-n.found.items (omega arith) (c.loop-n.invariant.listed sound)))
