use Rattle.std.proofs.Common.{◌≡◌, ◌≤◌, ℕ, List, length, IsTrue, Some, true, sym, ap, subst, ◌∙◌, arith}
use Rattle.std.specs.Prelude.{not, find, option_map}
use Rattle.std.specs.List.{list_all}
use Rattle.hd_bytes.specs.Numbers.{number_at}
use Rattle.hd_bytes.proofs.BlockLemmas.{length-block}
use Rattle.hd_dbd.specs.Hierarchy.{Database}
use Rattle.hd_volume.specs.Volumes.{VolumeState, block_at}
use Rattle.hd_volume.specs.Entries.{Entry, entries_in}
use Rattle.hd_volume.specs.Indexes.{root_key_length, IsEntryBlock, entry_room}
use Rattle.hd_links.specs.Links.{Links}
use Rattle.hd_image.specs.IndexFaults.{names_a_root}
use Rattle.hd_image.specs.Records.{links_of}
use Rattle.hd_image.proofs.OneImage.{links-same, volume-same}
use Rattle.hd_index_blocks.specs.Fields.{CountFits}
use Rattle.hd_check_blocks.proofs.PlaceLemmas.{places-same}
use Rattle.hd_check_index.proofs.EntrySteps.{where-none, where-some}
use Rattle.hd_check_index.proofs.wrong_entries.wrong_entry.Goals as goal

-- a block that bears entries is long enough, and counts no more entries than find room in it
long-enough : (k : ℕ) (v : VolumeState) (n : ℕ) (bytes : List ℕ) → IsEntryBlock k v n → bytes ≡ block_at v n → length bytes ≡ v.size
long-enough k v n bytes h same = ap (λ (t : List ℕ). length t) same ∙ length-block v.size n v.image h.is.there

count-fits : (k : ℕ) (v : VolumeState) (n : ℕ) (bytes : List ℕ) → IsEntryBlock k v n → bytes ≡ block_at v n → CountFits k bytes
count-fits k v n bytes h same =
    let C : ℕ → Type 0 = λ s. number_at 2 bytes 4 ≤ entry_room k s in
    subst C (sym (long-enough k v n bytes h same)) (subst (λ (t : List ℕ). number_at 2 t 4 ≤ entry_room k v.size) (sym same) h.count)

pub returns-then-len-lt-FIRST-clause-none : goal.returns-then-len-lt-FIRST-clause-none
returns-then-len-lt-FIRST-clause-none g c = λ sound.
    let long = long-enough (root_key_length c.args.dbd.now.types) c.args.volume.now c.args.n c.in_ok-bytes.bytes.items (c.requires.block sound) (c.in_ok-bytes.ensures.value sound) in
    let few = c.if-len-lt-FIRST.true in
    let len = c.len.ensures in
    let least = c.block_size-least.ensures.least in
    absurd (omega arith)

pub returns-then-len-lt-FIRST-clause-named : goal.returns-then-len-lt-FIRST-clause-named
returns-then-len-lt-FIRST-clause-named g c = λ sound.
    let long = long-enough (root_key_length c.args.dbd.now.types) c.args.volume.now c.args.n c.in_ok-bytes.bytes.items (c.requires.block sound) (c.in_ok-bytes.ensures.value sound) in
    let few = c.if-len-lt-FIRST.true in
    let len = c.len.ensures in
    let least = c.block_size-least.ensures.least in
    absurd (omega arith)

pub wrong_among-requires-clause-of : goal.wrong_among-requires-clause-of
wrong_among-requires-clause-of g c = λ now.
    let v : VolumeState = c.args.volume.now in
    let w : VolumeState = c.copied.new.volume in
    let read = c.in_ok-bytes.ensures.read in
    let sound : IsTrue v.is_sound = rw (← read.call.sound) now in
    volume-same c.args.dbd.now v w (read.image now) read.call.size read.call.sizes (c.requires.of sound)

pub wrong_among-requires-clause-places : goal.wrong_among-requires-clause-places
wrong_among-requires-clause-places g c = λ now.
    let v : VolumeState = c.args.volume.now in
    let w : VolumeState = c.copied.new.volume in
    let read = c.in_ok-bytes.ensures.read in
    let sound : IsTrue v.is_sound = rw (← read.call.sound) now in
    places-same c.args.dbd.now.types v w c.args.places.now (links-same c.args.dbd.now.types v w (read.image now) read.call.size read.call.sizes) (c.requires.places sound)

pub returns-clause-none : goal.returns-clause-none
returns-clause-none g c =
    let d : Database = c.args.dbd.now in
    let v : VolumeState = c.args.volume.now in
    let w : VolumeState = c.copied.new.volume in
    let k : ℕ = root_key_length d.types in
    let b : List ℕ = c.deref.result.now in
    let read = c.in_ok-bytes.ensures.read in
    where-none v w c.wrong_among.result (λ sound. rw read.call.sound sound)
    (λ sound h.
    let now : IsTrue w.is_sound = rw read.call.sound sound in
    let same : b ≡ block_at v c.args.n = c.deref.ensures.value ∙ c.in_ok-bytes.ensures.value sound in
    let of-key = subst (λ (y : ℕ). CountFits y b → list_all (λ (e : Entry). names_a_root d (links_of d.types w) e) (entries_in y b) ≡ true) c.root_key_length-key_length.ensures.value h in
    let all = of-key (count-fits k v c.args.n b (c.requires.block sound) same) in
    subst (λ (t : List ℕ). list_all (λ (e : Entry). names_a_root d (links_of d.types v) e) (entries_in k t) ≡ true) same
    (subst (λ (m : Links). list_all (λ (e : Entry). names_a_root d m e) (entries_in k b) ≡ true) (links-same d.types v w (read.image now) read.call.size read.call.sizes) all))
    c.wrong_among.ensures.none

pub returns-clause-some : goal.returns-clause-some
returns-clause-some g c =
    let d : Database = c.args.dbd.now in
    let v : VolumeState = c.args.volume.now in
    let w : VolumeState = c.copied.new.volume in
    let k : ℕ = root_key_length d.types in
    let b : List ℕ = c.deref.result.now in
    let read = c.in_ok-bytes.ensures.read in
    where-some v w c.wrong_among.result (λ sound. rw read.call.sound sound)
    (λ sound a h.
    let now : IsTrue w.is_sound = rw read.call.sound sound in
    let same : b ≡ block_at v c.args.n = c.deref.ensures.value ∙ c.in_ok-bytes.ensures.value sound in
    let First : ℕ → Links → List ℕ → Type 0 = λ y m t. option_map (λ (e : Entry). e.address) (find (λ e. not (names_a_root d m e)) (entries_in y t)) ≡ Some a in
    let of-key = subst (λ (y : ℕ). CountFits y b → First y (links_of d.types w) b) c.root_key_length-key_length.ensures.value h in
    let first = of-key (count-fits k v c.args.n b (c.requires.block sound) same) in
    subst (λ (t : List ℕ). First k (links_of d.types v) t) same
    (subst (λ (m : Links). First k m b) (links-same d.types v w (read.image now) read.call.size read.call.sizes) first))
    c.wrong_among.ensures.some
