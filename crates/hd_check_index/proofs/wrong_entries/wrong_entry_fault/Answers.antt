use Rattle.std.proofs.Common.{◌≡◌, ◌*◌, ◌<◌, ◌++◌, ℕ, List, map, Option, Some, true, Ok, IsTrue, IfNone, IfSome, inl, inr, length, slice_index, sym, ap, subst, ◌∙◌, arith}
use Rattle.std.specs.Prelude.{not, find, option_map}
use Rattle.std.specs.List.{list_all}
use Rattle.std.proofs.lemmas.Bool.{cases_lt}
use Rattle.hd_dbd.specs.Hierarchy.{Database}
use Rattle.hd_volume.specs.Volumes.{VolumeState, block_at}
use Rattle.hd_volume.specs.Entries.{Entry, entries_in}
use Rattle.hd_volume.specs.Indexes.{root_key_length}
use Rattle.hd_volume.proofs.CallSteps.{read-ok, reads-join}
use Rattle.hd_image.specs.IndexFaults.{names_a_root}
use Rattle.hd_image.specs.Records.{links_of}
use Rattle.hd_image.proofs.OneImage.{links-same, volume-same}
use Rattle.hd_check_blocks.specs.Phases.{IsLeastOf}
use Rattle.hd_check_blocks.proofs.PlaceLemmas.{places-same}
use Rattle.hd_check_index.proofs.FormFaults.{place-fits}
use Rattle.hd_index_blocks.proofs.BlockLemmas.{entry-block-same}
use Rattle.hd_check_index.proofs.NamedEntries.{named-more, table-entries, table-all, table-named, entry-least, all-same, found-same, addresses-same}
use Rattle.hd_check_index.proofs.wrong_entries.wrong_entry_fault.Goals as goal
use Rattle.hd_image.specs.declared.line.Line.TheVariants.{WrongEntry}

pub wrong_entry-requires-clause-of : goal.wrong_entry-requires-clause-of
wrong_entry-requires-clause-of g c = λ now.
    let i = c.loop-block.invariant in
    let sound : IsTrue c.args.volume.now.is_sound = rw (← i.read.call.sound) now in
    volume-same c.args.dbd.now c.args.volume.now c.loop-block.volume (i.read.image now) i.read.call.size i.read.call.sizes (c.requires.of sound)

pub wrong_entry-requires-clause-places : goal.wrong_entry-requires-clause-places
wrong_entry-requires-clause-places g c = λ now.
    let v : VolumeState = c.args.volume.now in
    let w : VolumeState = c.loop-block.volume in
    let i = c.loop-block.invariant in
    let sound : IsTrue v.is_sound = rw (← i.read.call.sound) now in
    places-same c.args.dbd.now.types v w c.args.places.now (links-same c.args.dbd.now.types v w (i.read.image now) i.read.call.size i.read.call.sizes) (c.requires.places sound)

pub wrong_entry-requires-clause-block : goal.wrong_entry-requires-clause-block
wrong_entry-requires-clause-block g c = λ now.
    let d : Database = c.args.dbd.now in
    let v : VolumeState = c.args.volume.now in
    let w : VolumeState = c.loop-block.volume in
    let i = c.loop-block.invariant in
    let sound : IsTrue v.is_sound = rw (← i.read.call.sound) now in
    let bs : List ℕ = c.args.blocks.now in
    entry-block-same (root_key_length d.types) v w (slice_index bs c.loop-block.block-index) i.read.call.size (i.read.image now)
    (table-entries d v bs (c.requires.blocks sound) c.loop-block.block-index c.loop-block-test.true)

pub returns-in-Some-clause-read : goal.returns-in-Some-clause-read
returns-in-Some-clause-read g c = read-ok _ (reads-join (Ok c.in_ok-wrong_entry.field-0) c.loop-block.invariant.read c.in_ok-wrong_entry.ensures.read)

pub returns-in-Some-clause-some : goal.returns-in-Some-clause-some
returns-in-Some-clause-some g c = λ sound.
    let d : Database = c.args.dbd.now in
    let v : VolumeState = c.args.volume.now in
    let w : VolumeState = c.loop-block.volume in
    let i = c.loop-block.invariant in
    let now : IsTrue w.is_sound = rw i.read.call.sound sound in
    let k : ℕ = root_key_length d.types in
    let bs : List ℕ = c.args.blocks.now in
    let x : ℕ = c.loop-block.block-index in
    let n : ℕ = (slice_index bs x) in
    let within : x < length bs = c.loop-block-test.true in
    let table = c.requires.blocks sound in
    let P : Option ℕ → Type 0 = λ o. IfSome o (λ a. option_map (λ (e : Entry). e.address) (find (λ e. not (names_a_root d (links_of d.types w) e)) (entries_in k (block_at w n))) ≡ Some a) in
    let wrong = found-same d v w k n (i.read.image now) i.read.call.size i.read.call.sizes c.in-Some.address (subst P c.in-Some.is (c.in_ok-wrong_entry.ensures.some now)) in
    let there = (table-entries d v bs table x within).is.there in
    let size : c.block_size-size.result ≡ v.size = c.block_size-size.ensures.value in
    let same : n * c.block_size-size.result ≡ n * v.size = ap (λ (z : ℕ). n * z) size in
    let place : c.block_address.result ≡ n * v.size = c.block_address.ensures (subst (λ (y : ℕ). y < 4294967296) (sym same) (place-fits d v n (c.requires.of sound) there)) ∙ same in
    subst (IsLeastOf d v 12) (sym (c.at.ensures ∙ ap (λ (a : ℕ). record { line = WrongEntry; address = a; other = c.in-Some.address }) place))
    (entry-least d v bs table x c.in-Some.address within (i.right sound) wrong)

pub loop-block-preserved : goal.loop-block-preserved
loop-block-preserved g c =
    let d : Database = c.args.dbd.now in
    let v : VolumeState = c.args.volume.now in
    let w : VolumeState = c.loop-block.volume in
    let i = c.loop-block.invariant in
    let k : ℕ = root_key_length d.types in
    let bs : List ℕ = c.args.blocks.now in
    let x : ℕ = c.loop-block.block-index in
    let n : ℕ = (slice_index bs x) in
    record {
      read = read-ok 0 (reads-join (Ok c.in_ok-wrong_entry.field-0) i.read c.in_ok-wrong_entry.ensures.read);
      right = λ sound j low. elim (cases_lt j x) [
        | inl before ↦ i.right sound j before
        | inr high ↦
            (let now : IsTrue w.is_sound = rw i.read.call.sound sound in
            let P : Option ℕ → Type 0 = λ o. IfNone o (list_all (λ (e : Entry). names_a_root d (links_of d.types w) e) (entries_in k (block_at w n)) ≡ true) in
            let own = all-same d v w k n (i.read.image now) i.read.call.size i.read.call.sizes (subst P c.in-None.is (c.in_ok-wrong_entry.ensures.none now)) in
            let at : j ≡ x = omega arith in
            subst (λ (y : ℕ). list_all (λ (e : Entry). names_a_root d (links_of d.types v) e) (entries_in k (block_at v (slice_index bs y))) ≡ true) (sym at) own)
      ];
      named = λ sound.
          (let now : IsTrue w.is_sound = rw i.read.call.sound sound in
          let P : Option ℕ → Type 0 = λ o. IfNone o (c.wrong_entry.new.named.items ≡ c.loop-block.named.items ++ map (λ (e : Entry). e.address) (entries_in k (block_at w n))) in
          named-more k v bs x c.loop-block.named.items c.wrong_entry.new.named.items (i.named sound)
          (addresses-same d v w k n (i.read.image now) i.read.call.size i.read.call.sizes c.loop-block.named.items c.wrong_entry.new.named.items (subst P c.in-None.is (c.in_ok-wrong_entry.ensures.named now))));
    }

pub returns-clause-none : goal.returns-clause-none
returns-clause-none g c = λ sound.
    let d : Database = c.args.dbd.now in
    let v : VolumeState = c.args.volume.now in
    let end = c.loop-block-test.false in
    table-all d v c.args.blocks.now (c.requires.blocks sound) (λ (e : Entry). names_a_root d (links_of d.types v) e) (λ j low. c.loop-block.invariant.right sound j (omega arith))

pub returns-clause-named : goal.returns-clause-named
returns-clause-named g c = λ sound.
    let d : Database = c.args.dbd.now in
    let v : VolumeState = c.args.volume.now in
    let end = c.loop-block-test.false in
    let most = c.loop-block.auto.block-index-end in
    table-named d v c.args.blocks.now (c.requires.blocks sound) c.loop-block.named.items c.loop-block.block-index (omega arith) (c.loop-block.invariant.named sound)
