-- A volume that was loaded whole, and what its store has then.
use Rattle.std.proofs.Common.{◌≡◌, ℕ, ◌<◌, List, [], ◌∷◌, ◌++◌, length, Bool, false, IsTrue, Result, Ok, Err, IfOk, inr, refl, sym, ap, subst, ◌∙◌, replicate, take, drop, ◌≤◌, arith}
use Rattle.std.specs.Prelude.{◌*◌}
use Rattle.std.proofs.lemmas.List.{append_assoc, take_all, length-replicate}
use Rattle.hd_bytes.specs.Blocks.{block_of, HasBlock}
use Rattle.hd_dbd.specs.Hierarchy.{Database}
use Rattle.hd_dbd.specs.Facts.{stored_sizes}
use Rattle.hd_dbd.specs.Segment.{Segment}
use Rattle.hd_dbd.specs.Loads.{Loading, rows_loaded, image_before, IsLegalLoad}
use Rattle.hd_volume.specs.Headers.{Header, header_of}
use Rattle.hd_volume.specs.Volumes.{VolumeState}
use Rattle.hd_volume.specs.Creates.{IsCreated}
use Rattle.hd_volume.specs.Spacing.{HasLeft, LeavesSpace}
use Rattle.hd_volume.proofs.MapLemmas.{space-same}
use Rattle.hd_volume.proofs.JoinLemmas.{AreOne, one-formatted, one-segments}
use Rattle.hd_dbd.specs.declared.hierarchy.FreeSpace.{FreeSpace}
use Rattle.std.proofs.Math.Nat.{mul-le-mul_right}
use Rattle.hd_image.specs.Holding.{HoldsRows, volume_of}
use Rattle.hd_image.proofs.OneImage.{held-same}
use Rattle.hd_stores.specs.Stores.{CountsFor, SoundFor}
use Rattle.hd_volume.specs.Images.{KeepsFirst}
use Rattle.hd_unload.specs.declared.fault.ReloadFault.{ReloadFault}
use Rattle.hd_unload.specs.declared.fault.ReloadFault.TheVariants.{Device}
use Rattle.hd_unload.specs.Refusals.{refused_by, IsGivenFrom, IsGivenUp}
use Rattle.hd_unload.specs.Loads.{IsLoadStep, IsLoad, IsReloaded}
use Rattle.hd_unload.specs.Steps.{IsLoadedAll}
use Rattle.hd_unload.proofs.Reading.{nothing-behind}

-- ---- the last image of a load

-- it holds the rows
legal-held : (d : Database) (rows : List Segment) (loadings : List (Loading VolumeState)) (last : VolumeState) → IsLegalLoad (HoldsRows d) (IsLoadStep d) d.types rows loadings last
    → HoldsRows d last (rows ++ rows_loaded loadings)
legal-held d rows [] last legal = subst (λ (rs : List Segment). HoldsRows d last rs) (sym (nothing-behind rows)) legal
legal-held d rows (l ∷ ls) last legal = subst (λ (rs : List Segment). HoldsRows d last rs) (append_assoc rows (l.row ∷ []) (rows_loaded ls)) (legal-held d (rows ++ l.row ∷ []) ls last legal.4)

pub load-held : (d : Database) (largest : ℕ) (rows : List Segment) (v : VolumeState) → IsLoad d largest rows v → HoldsRows d v rows
load-held d largest rows v load = subst (λ (rs : List Segment). HoldsRows d v rs) load.rows_are (legal-held d [] load.loadings v load.legal)

-- it has the first's largest count
legal-largest : (d : Database) (rows : List Segment) (loadings : List (Loading VolumeState)) (last : VolumeState) → IsLegalLoad (HoldsRows d) (IsLoadStep d) d.types rows loadings last
    → (header_of last.image).largest ≡ (header_of (image_before loadings last).image).largest
legal-largest d rows [] last legal = refl
legal-largest d rows (l ∷ ls) last legal = legal-largest d (rows ++ l.row ∷ []) ls last legal.4 ∙ legal.3.largest

pub load-largest : (d : Database) (largest : ℕ) (rows : List Segment) (v : VolumeState) → IsLoad d largest rows v → (header_of v.image).largest ≡ largest
load-largest d largest rows v load = legal-largest d [] load.loadings v load.legal ∙ ap (λ (h : Header). h.largest) load.new.header

-- and its version
legal-version : (d : Database) (rows : List Segment) (loadings : List (Loading VolumeState)) (last : VolumeState) → IsLegalLoad (HoldsRows d) (IsLoadStep d) d.types rows loadings last
    → (header_of last.image).version ≡ (header_of (image_before loadings last).image).version
legal-version d rows [] last legal = refl
legal-version d rows (l ∷ ls) last legal = legal-version d (rows ++ l.row ∷ []) ls last legal.4 ∙ legal.3.version

load-version : (d : Database) (largest : ℕ) (rows : List Segment) (v : VolumeState) → IsLoad d largest rows v → (header_of v.image).version ≡ 3
load-version d largest rows v load = legal-version d [] load.loadings v load.legal ∙ ap (λ (h : Header). h.version) load.new.header

-- ---- the store

-- the bytes of a volume that was loaded whole
pub reloaded : (d : Database) (stream : List ℕ) (largest segments count blocks : ℕ) (v : VolumeState) (contents : List ℕ) → IsLoadedAll d stream largest count v → IsTrue v.is_sound
    → v.size ≡ d.block_size → v.sizes ≡ stored_sizes d.types → HasLeft (record v { spacing = d.frspc }) → contents ≡ v.image → blocks ≡ (header_of v.image).count → segments ≡ count
    → IsReloaded d stream largest segments blocks contents
reloaded d stream largest segments count blocks v contents all sound size sizes left is counted segments-are =
    let load = all.load sound in
    let held = load-held d largest all.rows v load in
    record {
      rows = all.rows;
      stream_of = all.stream_of;
      holds = (held.0, held.1, held-same d v (volume_of d contents) is (sym size) (sym sizes) held.0 held.2);
      space = space-same (record v { spacing = d.frspc }) (record (volume_of d contents) { spacing = d.frspc }) (sym size) (sym sizes) is refl left;
      version = ap (λ (im : List ℕ). (header_of im).version) is ∙ load-version d largest all.rows v load;
      largest_is = ap (λ (im : List ℕ). (header_of im).largest) is ∙ load-largest d largest all.rows v load;
      segments_are = segments-are ∙ all.counted;
      blocks_are = counted ∙ sym (ap (λ (im : List ℕ). (header_of im).count) is);
    }

-- a new volume leaves whatever space it is to leave
pub new-leaves : (block_size : ℕ) (v : VolumeState) (spacing : FreeSpace) → v.size ≡ block_size → 128 ≤ block_size → (IsTrue v.is_sound → length v.image ≡ block_size) → LeavesSpace spacing v
new-leaves block_size v spacing size some one = record {
  left = λ sound _ _. record {
    blocks = λ n there later _. absurd (alone n there later (one sound));
    bytes = λ n k. absurd (alone n k.there k.later (one sound));
  };
}
  where
    alone : (n : ℕ) → HasBlock v.size v.image n → 0 < n → length v.image ≡ block_size → ⊥
    alone n there later whole = let more : 1 * v.size ≤ n * v.size = mul-le-mul_right v.size later in omega arith

-- other space is left of it, and it is as new
pub new-spaced : (name : List ℕ) (block_size largest : ℕ) (v w : VolumeState) → AreOne v w → w.stored ≡ v.stored → IsCreated name block_size largest v → IsCreated name block_size largest w
new-spaced name block_size largest v w one stored new = record {
  formatted = one-formatted one new.formatted;
  header = ap header_of one.image ∙ new.header;
  one = ap length one.image ∙ new.one;
  behind = ap (drop 44) one.image ∙ new.behind;
  stored = stored ∙ new.stored;
  empty = λ a. one-segments one a ∙ new.empty a;
}

pub spaced-one : {v w : VolumeState} {spacing : FreeSpace} {room : ℕ} → w ≡ record v { spacing = spacing; room = room } → AreOne v w
spaced-one e = record {
  same = record { size = ap (λ (x : VolumeState). x.size) e; sizes = ap (λ (x : VolumeState). x.sizes) e };
  image = ap (λ (x : VolumeState). x.image) e;
}

pub new-from : (name : List ℕ) (block_size largest : ℕ) (v w : VolumeState) {spacing : FreeSpace} {room : ℕ} → w ≡ record v { spacing = spacing; room = room }
    → (IsTrue v.is_sound → IsCreated name block_size largest v) → IsTrue w.is_sound → IsCreated name block_size largest w
new-from name block_size largest v w rest new now =
    new-spaced name block_size largest v w (spaced-one rest) (ap (λ (x : VolumeState). x.stored) rest) (new (let sound : IsTrue v.is_sound = rw (ap (λ (x : VolumeState). x.is_sound) rest) at now in sound))

-- it has a first block
pub first-there : (d : Database) (largest : ℕ) (rows : List Segment) (v : VolumeState) → IsLoad d largest rows v → HasBlock v.size v.image 0
first-there d largest rows v load = (load-held d largest rows v load).2.volume.formatted.header.first

-- ---- answers

-- what holds of an answer, by two things that held of it
pub if-ok-both : {A E : Type 0} {P Q R : A → Type 0} (r : Result A E) → IfOk r P → IfOk r Q → ((x : A) → P x → Q x → R x) → IfOk r R
if-ok-both (Ok x) p q f = f x p q
if-ok-both (Err e) p q f = tt

-- a volume that is given up for a failed access
pub given-device : {S : Type 0} (old v : VolumeState) (size : S → ℕ) (contents : S → List ℕ) (is_sound : S → Bool) (failures : S → ℕ) (e : S × ReloadFault)
    → v.failures ≡ old.failures → v.size ≡ old.size → e.1 ≡ Device → v.failures < failures e.0 → is_sound e.0 ≡ false → size e.0 ≡ v.size
    → IsGivenFrom size contents is_sound failures old e
given-device old v size contents is_sound failures e counts same device more unsound size-is = record {
  counts = subst (λ (f : ReloadFault). CountsFor (refused_by f) old.failures (failures e.0)) (sym device) (let m = more in omega arith);
  sound = subst (λ (f : ReloadFault). SoundFor (refused_by f) old.is_sound (is_sound e.0)) (sym device) unsound;
  none = λ ne. absurd (ne device);
  size_kept = size-is ∙ same;
}

-- block 0 of zeros that stayed
zeros-stayed : (size : ℕ) (stored contents : List ℕ) → stored ≡ replicate (1 * size) 0 → KeepsFirst size stored contents → block_of size contents 0 ≡ replicate size 0
zeros-stayed size stored contents zeros keeps =
    let one : 1 * size ≡ size = omega arith in
    let len : length stored ≡ size = ap (λ (xs : List ℕ). length xs) zeros ∙ length-replicate (1 * size) 0 ∙ one in
    let there : HasBlock size stored 0 = omega arith in
    let zero : List ℕ = replicate size 0 in
    let whole : length zero ≤ size = (let l : length zero ≡ size = length-replicate size 0 in omega arith) in
    keeps.first there
    ∙ ap (λ (xs : List ℕ). block_of size xs 0) (zeros ∙ ap (λ (n : ℕ). replicate n 0) one)
    ∙ ap (λ (n : ℕ). take size (drop n zero)) (let none : 0 * size ≡ 0 = omega arith in none)
    ∙ take_all size zero whole

-- a store that is given up has no volume
pub given-up : {S : Type 0} (d : Database) (largest : ℕ) (v : VolumeState) (store : S) (size : S → ℕ) (contents : S → List ℕ) (is_sound : S → Bool) (failures : S → ℕ) (e : S × ReloadFault)
    → v.is_sound ≡ is_sound store → v.failures ≡ failures store → (v.size ≡ size store) × (v.sizes ≡ stored_sizes d.types) → size store ≡ d.block_size
    → (IsTrue (is_sound store) → IsCreated d.name d.block_size largest v) → IsGivenFrom size contents is_sound failures v e → IsGivenUp size contents is_sound failures store e
given-up d largest v store size contents is_sound failures e sound counts sizes own new given = record {
  counts = subst (λ (n : ℕ). CountsFor (refused_by e.1) n (failures e.0)) counts given.counts;
  sound = subst (λ (b : Bool). SoundFor (refused_by e.1) b (is_sound e.0)) sound given.sound;
  none = λ ne s.
      (let now : IsTrue v.is_sound = subst (λ (b : Bool). IsTrue b) (sym sound) s in
      let zeros = (new s).stored in
      let same : d.block_size ≡ v.size = sym own ∙ sym sizes.0 in
      inr (subst (λ (n : ℕ). block_of n (contents e.0) 0 ≡ replicate n 0) sizes.0
      (zeros-stayed v.size v.stored (contents e.0) (subst (λ (n : ℕ). v.stored ≡ replicate (1 * n) 0) same zeros) (given.none ne now))));
  size_kept = given.size_kept ∙ sizes.0;
}
