-- How what one phase finds is carried to the next.
use Rattle.std.proofs.Common.{◌≡◌, ℕ, List, IsTrue, Option, Some, None, IfSome, IfNone, Result, Ok, Err, IfOk, sym, ap, subst, ◌∙◌}
use Rattle.hd_bytes.specs.Blocks.{HasBlock}
use Rattle.hd_dbd.specs.Hierarchy.{Database}
use Rattle.hd_dbd.specs.DatabaseRules.{well_formed}
use Rattle.hd_dbd.specs.Facts.{stored_sizes}
use Rattle.hd_dbd.specs.declared.answer.Refused.{Refused}
use Rattle.hd_volume.specs.Headers.{Header, HasHeader, header_of}
use Rattle.hd_links.specs.Pointers.{AreLinked}
use Rattle.hd_check_blocks.specs.declared.places.Place.{Place}
use Rattle.hd_check_blocks.specs.Places.{ArePlaces}
use Rattle.hd_check_blocks.proofs.PlaceLemmas.{places-same}
use Rattle.hd_dbd.specs.Types.{SegmentType}
use Rattle.hd_volume.specs.Volumes.{VolumeState}
use Rattle.hd_volume.specs.Calls.{IsRead}
use Rattle.hd_volume.proofs.PutLemmas.{if-some-map}
use Rattle.hd_links.specs.Links.{Links}
use Rattle.hd_image.specs.Records.{links_of}
use Rattle.hd_image.proofs.OneImage.{links-same}
use Rattle.hd_check_blocks.specs.declared.fault.Fault.{Fault}
use Rattle.hd_check_blocks.specs.Phases.{IsLeastOf, IsHeaderRight, AreBlocksRight}
use Rattle.hd_check.specs.Joining.{NoneBefore, IsFirstFault, HasRightBlocks}
use Rattle.hd_check.proofs.EarlierFaults.{first-of, none-2, none-3, none-4, none-5, none-6, none-7, none-8}
use Rattle.hd_check.proofs.OneStore.{IsOne, turned, stands-same, least-same, blocks-same}

-- a volume that was only read is sound still
pub still-sound : {A : Type 0} {u v : VolumeState} {x : A} → IsRead {T = A} u (Ok x) v → IsTrue u.is_sound → IsTrue v.is_sound
still-sound r sound = rw r.call.sound sound

-- and was sound before
pub was-sound : {A : Type 0} {u v : VolumeState} {x : A} → IsRead {T = A} u (Ok x) v → IsTrue v.is_sound → IsTrue u.is_sound
was-sound r now = rw (← r.call.sound) now

-- and it has its image
pub read-one : {A : Type 0} {u v : VolumeState} {x : A} → IsRead {T = A} u (Ok x) v → IsTrue u.is_sound → IsOne u v
read-one r sound = record { image = r.image (still-sound r sound); size = r.call.size; sizes = r.call.sizes }

-- what holds of an image holds after it was read
pub carried : {A : Type 0} {u v : VolumeState} {x : A} (P : VolumeState → Type 0) → IsRead {T = A} u (Ok x) v → (IsOne u v → P u → P v) → (IsTrue u.is_sound → P u) → IsTrue v.is_sound → P v
carried P r same h now = same (read-one r (was-sound r now)) (h (was-sound r now))

-- what holds of the records of an image holds of those of the other state
pub links-one : (types : List SegmentType) (P : Links → Type 0) (u v : VolumeState) → IsOne u v → P (links_of types u) → P (links_of types v)
links-one types P u v e h = subst P (sym (links-same types u v e.image e.size e.sizes)) h

-- the least fault of a phase is the least of all where none of an earlier phase stands
pub found-here : (d : Database) (v : VolumeState) (p : ℕ) (o : Option Fault) → NoneBefore d v p → IfSome o (λ f. IsLeastOf d v p f) → IfSome o (λ f. IsFirstFault d v f)
found-here d v p o none h = if-some-map o (λ f l. first-of d v p f none l) h

-- also where it was found in the other state
pub found-there : (d : Database) (u v : VolumeState) (p : ℕ) (o : Option Fault) → IsOne u v → NoneBefore d u p → IfSome o (λ f. IsLeastOf d v p f) → IfSome o (λ f. IsFirstFault d u f)
found-there d u v p o e none h = if-some-map o (λ f l. first-of d u p f none (least-same v u d p f (turned e) l)) h

-- the least fault of the one state is that of the other
pub first-same : (d : Database) (u v : VolumeState) (f : Fault) → IsOne u v → IsFirstFault d v f → IsFirstFault d u f
first-same d u v f e h = record {
  stands = stands-same v u (turned e) d f.line f.address f.other h.stands;
  least = λ k a o s before. h.least k a o (stands-same u v e d k a o s) before;
}

pub firsts-same : (d : Database) (u v : VolumeState) (o : Option Fault) → IsOne u v → IfSome o (λ f. IsFirstFault d v f) → IfSome o (λ f. IsFirstFault d u f)
firsts-same d u v o e h = if-some-map o (λ f l. first-same d u v f e l) h

-- what did not stand before one phase does not stand in the other state
pub none-same : (d : Database) (p : ℕ) (u v : VolumeState) → IsOne u v → NoneBefore d u p → NoneBefore d v p
none-same d p u v e none = λ k a o l s. none k a o l (stands-same v u (turned e) d k a o s)

-- a number that the header of the other state says
pub header-says : (field : Header → ℕ) (u v : VolumeState) (n : ℕ) → IsOne u v → HasBlock u.size u.image 0 → IsTrue v.is_sound → (IsTrue v.is_sound → HasBlock v.size v.image 0 → n ≡ field (header_of v.image)) → n ≡ field (header_of u.image)
header-says field u v n e first now h =
    let there : HasBlock v.size v.image 0 = subst (λ (i : List ℕ). HasBlock v.size i 0) (sym e.image) (subst (λ (s : ℕ). HasBlock s u.image 0) (sym e.size) first) in
    h now there ∙ ap (λ (i : List ℕ). field (header_of i)) e.image

-- what holds of an answer, by two facts of it
pub if-ok-both : {A : Type 0} {P Q R : A → Type 0} (r : Result A Refused) → IfOk r P → IfOk r Q → ((x : A) → P x → Q x → R x) → IfOk r R
if-ok-both (Ok x) p q f = f x p q
if-ok-both (Err e) p q f = tt

-- where nothing is found, by two facts
pub if-none-both : {A : Type 0} {P Q R : Type 0} (o : Option A) → IfNone o P → IfNone o Q → (P → Q → R) → IfNone o R
if-none-both None p q f = f p q
if-none-both (Some x) p q f = tt

-- a right header and right blocks are those of a volume of the database
pub blocks-found : (d : Database) (v w : VolumeState) (ps : List Place) → IsTrue (well_formed d.block_size d.frspc d.types) → v.size ≡ d.block_size → v.sizes ≡ stored_sizes d.types → IsOne v w → IsHeaderRight d v
    → AreBlocksRight w → ArePlaces d.types w ps → HasRightBlocks d v ps
blocks-found d v w ps fit size sizes e header blocks places =
    let b = blocks-same w v (turned e) blocks in
    record {
      volume = record {
        fit = fit;
        formatted = record { header = subst (λ (n : ℕ). HasHeader n v.image) (sym size) header.header; divided = b.divided };
        size = size;
        sizes = sizes;
      };
      blocks = record { header = header.header; known = header.known; divided = b.divided; kinds = b.kinds };
      stand = places-same d.types w v ps (links-same d.types w v (sym e.image) (sym e.size) (sym e.sizes)) places;
    }

module _ (d : Database) (v : VolumeState) (ps : List Place) (h : HasRightBlocks d v ps) where
  -- where the blocks are right no fault of a phase before the third stands
  pub before-pointers : NoneBefore d v 3
  before-pointers = none-3 d v (none-2 d v (record { header = h.blocks.header; known = h.blocks.known })) (record { divided = h.blocks.divided; kinds = h.blocks.kinds })

  -- where the pointers are, too, none of a phase before the eighth
  pub before-index : AreLinked d.types (links_of d.types v) → NoneBefore d v 8
  before-index l = none-8 d v (none-7 d v (none-6 d v (none-5 d v (none-4 d v before-pointers l.typed) l.single) l.back) l.keys) l.reached
