use Rattle.std.proofs.Common.{rules, ◌≡◌, ◌+◌, ◌/◌, ◌∷◌, [], ◌++◌, ℕ, List, IsTrue, true, refl, sym, subst, ◌∙◌}
use Rattle.std.specs.List.{list_all}
use Rattle.hd_bytes.specs.Blocks.{HasBlock}
use Rattle.hd_dbd.specs.Hierarchy.{Database}
use Rattle.hd_volume.specs.Volumes.{VolumeState}
use Rattle.hd_volume.specs.Entries.{Entry, entries_at}
use Rattle.hd_volume.proofs.CallSteps.{read-ok, reads-join}
use Rattle.hd_volume.proofs.MapLemmas.{find-there}
use Rattle.hd_links.specs.Links.{Links}
use Rattle.hd_image.specs.IndexFaults.{names_a_root}
use Rattle.hd_image.proofs.OneImage.{links-same, volume-same}
use Rattle.hd_check_blocks.proofs.Lent.{has-segment}
use Rattle.hd_check_blocks.proofs.PlaceLemmas.{places-same}
use Rattle.hd_index_blocks.specs.Fields.{entry_in}
use Rattle.hd_check_index.proofs.DataBlocks.{named-there, root-more, noted-more}
use Rattle.hd_check_index.proofs.EntrySteps.{judged-same, read-memory}
use Rattle.hd_check_index.proofs.wrong_entries.judge_from.Goals as goal

pub returns-then-not-branch-clause-wrong : goal.returns-then-not-branch-clause-wrong
returns-then-not-branch-clause-wrong g c = λ sound.
    let d : Database = c.args.dbd.now in
    let v : VolumeState = c.args.volume.now in
    let e : Entry = entry_in c.args.block.now.key_length c.args.block.now.bytes.now c.args.index in
    sym (judged-same d v v c.key-key.result.now c.address-address.result e c.in_ok-names_root.field-0 refl refl refl c.key-key.ensures.value c.address-address.ensures (c.in_ok-names_root.ensures.value sound)) ∙ c.if-not-branch.true

pub returns-then-is_err-clause-read : goal.returns-then-is_err-clause-read
returns-then-is_err-clause-read g c = read-memory c.in_ok-names_root.ensures.read

pub returns-in_default-clause-right : goal.returns-in_default-clause-right
returns-in_default-clause-right g c = λ sound h.
    let d : Database = c.args.dbd.now in
    let v : VolumeState = c.args.volume.now in
    let k : ℕ = c.args.block.now.key_length in
    let b : List ℕ = c.args.block.now.bytes.now in
    let e : Entry = entry_in k b c.args.index in
    root-more d v k c.args.index b h
    (sym (judged-same d v v c.key-key.result.now c.address-address.result e c.in_ok-names_root.field-0 refl refl refl c.key-key.ensures.value c.address-address.ensures (c.in_ok-names_root.ensures.value sound)) ∙ c.if-not-branch.false)

pub returns-in_default-clause-named : goal.returns-in_default-clause-named
returns-in_default-clause-named g c = λ before h.
    let pushed : c.push.new.self.items ≡ c.args.named.now.items ++ (c.address-address.result ∷ []) = search rules in
    noted-more before c.args.named.now.items c.push.new.self.items c.args.block.now.key_length c.args.index c.address-address.result c.args.block.now.bytes.now pushed c.address-address.ensures h

pub returns-then-not-is_beside-clause-right : goal.returns-then-not-is_beside-clause-right
returns-then-not-is_beside-clause-right g c = λ sound h.
    let d : Database = c.args.dbd.now in
    let v : VolumeState = c.args.volume.now in
    let k : ℕ = c.args.block.now.key_length in
    let b : List ℕ = c.args.block.now.bytes.now in
    let e : Entry = entry_in k b c.args.index in
    root-more d v k c.args.index b h
    (sym (judged-same d v v c.key-key.result.now c.address-address.result e c.in_ok-names_root.field-0 refl refl refl c.key-key.ensures.value c.address-address.ensures (c.in_ok-names_root.ensures.value sound)) ∙ c.if-not-branch.false)

pub returns-then-not-is_beside-clause-named : goal.returns-then-not-is_beside-clause-named
returns-then-not-is_beside-clause-named g c = λ before h.
    let pushed : c.push.new.self.items ≡ c.args.named.now.items ++ (c.address-address.result ∷ []) = search rules in
    noted-more before c.args.named.now.items c.push.new.self.items c.args.block.now.key_length c.args.index c.address-address.result c.args.block.now.bytes.now pushed c.address-address.ensures h

pub name_beside-requires-clause-of : goal.name_beside-requires-clause-of
name_beside-requires-clause-of g c = λ now.
    let v : VolumeState = c.args.volume.now in
    let w : VolumeState = c.names_root.new.volume in
    let read = c.in_ok-names_root.ensures.read in
    let sound : IsTrue v.is_sound = rw (← read.call.sound) now in
    volume-same c.args.dbd.now v w (read.image now) read.call.size read.call.sizes (c.requires.of sound)

pub name_beside-requires-clause-places : goal.name_beside-requires-clause-places
name_beside-requires-clause-places g c = λ now.
    let v : VolumeState = c.args.volume.now in
    let w : VolumeState = c.names_root.new.volume in
    let read = c.in_ok-names_root.ensures.read in
    let sound : IsTrue v.is_sound = rw (← read.call.sound) now in
    places-same c.args.dbd.now.types v w c.args.places.now (links-same c.args.dbd.now.types v w (read.image now) read.call.size read.call.sizes) (c.requires.places sound)

pub name_beside-requires-clause-there : goal.name_beside-requires-clause-there
name_beside-requires-clause-there g c = λ now.
    let d : Database = c.args.dbd.now in
    let v : VolumeState = c.args.volume.now in
    let w : VolumeState = c.names_root.new.volume in
    let a : ℕ = c.address-address.result in
    let read = c.in_ok-names_root.ensures.read in
    let sound : IsTrue v.is_sound = rw (← read.call.sound) now in
    let of = c.requires.of sound in
    let there = named-there d v a c.key-key.result.now (sym (c.in_ok-names_root.ensures.value sound) ∙ c.if-not-branch.false) in
    let has = (find-there v a 0 of.formatted (has-segment d v a of.fit of there)).there in
    subst (λ (s : ℕ). HasBlock s w.image (a / s)) (sym read.call.size) (subst (λ (m : List ℕ). HasBlock v.size m (a / v.size)) (sym (read.image now)) has)

pub returns-clause-read : goal.returns-clause-read
returns-clause-read g c = read-ok _ (reads-join _ c.in_ok-names_root.ensures.read c.in_ok-end.ensures.read)

pub returns-clause-right : goal.returns-clause-right
returns-clause-right g c = λ sound h.
    let d : Database = c.args.dbd.now in
    let v : VolumeState = c.args.volume.now in
    let w : VolumeState = c.names_root.new.volume in
    let k : ℕ = c.args.block.now.key_length in
    let b : List ℕ = c.args.block.now.bytes.now in
    let e : Entry = entry_in k b c.args.index in
    let read = c.in_ok-names_root.ensures.read in
    let now : IsTrue w.is_sound = rw read.call.sound sound in
    let same = links-same d.types v w (read.image now) read.call.size read.call.sizes in
    let first = root-more d v k c.args.index b h
    (sym (judged-same d v v c.key-key.result.now c.address-address.result e c.in_ok-names_root.field-0 refl refl refl c.key-key.ensures.value c.address-address.ensures (c.in_ok-names_root.ensures.value sound)) ∙ c.if-not-branch.false) in
    subst (λ (m : Links). list_all (λ (x : Entry). names_a_root d m x) (entries_at k b 12 (c.args.index + 1)) ≡ true → list_all (λ (x : Entry). names_a_root d m x) (entries_at k b 12 c.in_ok-end.end) ≡ true) same
    (c.in_ok-end.ensures.right now) first

pub returns-clause-named : goal.returns-clause-named
returns-clause-named g c = λ before h.
    let pushed : c.push.new.self.items ≡ c.args.named.now.items ++ (c.address-address.result ∷ []) = search rules in
    c.in_ok-end.ensures.named before
    (noted-more before c.args.named.now.items c.push.new.self.items c.args.block.now.key_length c.args.index c.address-address.result c.args.block.now.bytes.now pushed c.address-address.ensures h)
