use Rattle.std.proofs.Common.{◌≡◌, ◌<◌, ℕ, List, false, true, Ok, IsTrue, refl, sym, subst, arith}
use Rattle.std.specs.List.{list_all}
use Rattle.std.proofs.lemmas.List.{append-nil}
use Rattle.std.proofs.Math.Nat.{min-eq_left}
use Rattle.hd_bytes.specs.Numbers.{number_at}
use Rattle.hd_dbd.specs.Hierarchy.{Database}
use Rattle.hd_volume.specs.Volumes.{VolumeState}
use Rattle.hd_volume.specs.Entries.{Entry, entries_at}
use Rattle.hd_volume.proofs.CallSteps.{read-none, read-ok, reads-join}
use Rattle.hd_links.specs.Links.{Links}
use Rattle.hd_image.specs.IndexFaults.{names_a_root}
use Rattle.hd_image.specs.Records.{links_of}
use Rattle.hd_image.proofs.OneImage.{links-same, volume-same}
use Rattle.hd_check_blocks.proofs.PlaceLemmas.{places-same}
use Rattle.hd_index_blocks.specs.Fields.{entry_in, entry_count}
use Rattle.hd_check_index.specs.DataBlocks.{FirstNameRoots, AreFirstNoted}
use Rattle.hd_check_index.proofs.DataBlocks.{when-some, when-none}
use Rattle.hd_check_index.proofs.EntrySteps.{wrong-found}
use Rattle.hd_check_index.proofs.wrong_entries.wrong_among.Goals as goal

pub loop-index-init : goal.loop-index-init
loop-index-init g c = record {
  read = read-none c.args.volume.now 0;
  low = omega arith;
  right = λ sound. refl;
  named = sym (append-nil c.args.named.now.items);
}

pub judge_from-requires-clause-of : goal.judge_from-requires-clause-of
judge_from-requires-clause-of g c = λ now.
    let i = c.loop-index.invariant in
    let sound : IsTrue c.args.volume.now.is_sound = rw (← i.read.call.sound) now in
    volume-same c.args.dbd.now c.args.volume.now c.loop-index.volume (i.read.image now) i.read.call.size i.read.call.sizes (c.requires.of sound)

pub judge_from-requires-clause-places : goal.judge_from-requires-clause-places
judge_from-requires-clause-places g c = λ now.
    let v : VolumeState = c.args.volume.now in
    let w : VolumeState = c.loop-index.volume in
    let i = c.loop-index.invariant in
    let sound : IsTrue v.is_sound = rw (← i.read.call.sound) now in
    places-same c.args.dbd.now.types v w c.args.places.now (links-same c.args.dbd.now.types v w (i.read.image now) i.read.call.size i.read.call.sizes) (c.requires.places sound)

pub returns-in-None-clause-read : goal.returns-in-None-clause-read
returns-in-None-clause-read g c = read-ok _ (reads-join (Ok c.in_ok-judged.judged) c.loop-index.invariant.read c.in_ok-judged.ensures.read)

pub returns-in-None-clause-some : goal.returns-in-None-clause-some
returns-in-None-clause-some g c = λ sound fits.
    let d : Database = c.args.dbd.now in
    let v : VolumeState = c.args.volume.now in
    let w : VolumeState = c.loop-index.volume in
    let k : ℕ = c.args.block.now.key_length in
    let b : List ℕ = c.args.block.now.bytes.now in
    let i = c.loop-index.invariant in
    let now : IsTrue w.is_sound = rw i.read.call.sound sound in
    let low : c.loop-index.index < number_at 2 b 4 = (let count = c.count-count.ensures.value in let less = c.loop-index-test.true in let most : entry_count k b ≡ number_at 2 b 4 = min-eq_left fits in omega arith) in
    let wrong = subst (λ (m : Links). names_a_root d m (entry_in k b c.loop-index.index) ≡ false) (links-same d.types v w (i.read.image now) i.read.call.size i.read.call.sizes) (when-none _ c.in_ok-judged.judged c.in-None.is (c.in_ok-judged.ensures.wrong now)) in
    wrong-found (λ (x : Entry). names_a_root d (links_of d.types v) x) k b (number_at 2 b 4) c.loop-index.index c.address.result (i.right sound) wrong low c.address.ensures

pub loop-index-preserved : goal.loop-index-preserved
loop-index-preserved g c =
    let d : Database = c.args.dbd.now in
    let v : VolumeState = c.args.volume.now in
    let w : VolumeState = c.loop-index.volume in
    let k : ℕ = c.args.block.now.key_length in
    let b : List ℕ = c.args.block.now.bytes.now in
    let i = c.loop-index.invariant in
    let judged = c.in_ok-judged.judged in
    let e = c.in_ok-judged.ensures in
    let bounds = when-some _ judged c.in-Some.behind c.in-Some.is e.low in
    record {
      read = read-ok 0 (reads-join (Ok judged) i.read e.read);
      low = bounds.1;
      right = λ sound.
          (let now : IsTrue w.is_sound = rw i.read.call.sound sound in
          let same = links-same d.types v w (i.read.image now) i.read.call.size i.read.call.sizes in
          subst (λ (m : Links). list_all (λ (x : Entry). names_a_root d m x) (entries_at k b 12 c.loop-index.index) ≡ true → list_all (λ (x : Entry). names_a_root d m x) (entries_at k b 12 c.in-Some.behind) ≡ true) same
          (when-some _ judged c.in-Some.behind c.in-Some.is (e.right now)) (i.right sound));
      named = when-some _ judged c.in-Some.behind c.in-Some.is e.named c.args.named.now.items i.named;
    }

pub returns-clause-none : goal.returns-clause-none
returns-clause-none g c = λ sound fits.
    let k : ℕ = c.args.block.now.key_length in
    let b : List ℕ = c.args.block.now.bytes.now in
    let most : entry_count k b ≡ number_at 2 b 4 = min-eq_left fits in
    let last : c.loop-index.index ≡ number_at 2 b 4 = (let count = c.count-count.ensures.value in let high = c.loop-index-test.false in let low = c.loop-index.invariant.low in omega arith) in
    subst (FirstNameRoots c.args.dbd.now c.args.volume.now k b) last (c.loop-index.invariant.right sound)

pub returns-clause-named : goal.returns-clause-named
returns-clause-named g c = λ sound fits.
    let k : ℕ = c.args.block.now.key_length in
    let b : List ℕ = c.args.block.now.bytes.now in
    let most : entry_count k b ≡ number_at 2 b 4 = min-eq_left fits in
    let last : c.loop-index.index ≡ number_at 2 b 4 = (let count = c.count-count.ensures.value in let high = c.loop-index-test.false in let low = c.loop-index.invariant.low in omega arith) in
    subst (λ (n : ℕ). AreFirstNoted c.args.named.now.items k b n c.loop-index.named.items) last c.loop-index.invariant.named
