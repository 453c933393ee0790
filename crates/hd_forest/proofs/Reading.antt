-- What is read of a volume's records, and what reading leaves of them.
use Rattle.std.proofs.Common.{◌≡◌, ℕ, ◌≤◌, IsTrue, List, length, Ok, Some, Option, ◌||◌, sym, ap, subst, ◌∙◌, arith}
use Rattle.std.specs.Prelude.{◌==◌, is_some}
use Rattle.std.proofs.Math.Bool.{or-true}
use Rattle.hd_dbd.specs.Types.{SegmentType}
use Rattle.hd_dbd.specs.Hierarchy.{Database, type_of}
use Rattle.hd_dbd.specs.Lengths.{least_length}
use Rattle.hd_dbd.specs.Prefixes.{prefix_length}
use Rattle.hd_volume.specs.Volumes.{VolumeState}
use Rattle.hd_volume.specs.Records.{find}
use Rattle.hd_volume.specs.Calls.{IsRead}
use Rattle.hd_prefix.specs.declared.pointer.Pointer.TheVariants.{TwinForward}
use Rattle.hd_prefix.specs.Fields.{code_of, length_of, pointer_of, twin_forward_of, IsWhole}
use Rattle.hd_prefix.proofs.Places.{forward_kept}
use Rattle.hd_links.specs.Links.{Links, IsSegment}
use Rattle.hd_links.specs.Placed.{Holds}
use Rattle.hd_image.specs.Records.{links_of, IsVolumeOf, stored_at}
use Rattle.hd_image.specs.Laws.{IsDatabase}
use Rattle.hd_image.proofs.Found.{found-of, segment-found, stored-found}
use Rattle.hd_image.proofs.OneImage.{links-same, volume-same}
use Rattle.hd_forest.specs.Walks.{HasForest}

-- ---- one image

-- one image holds one forest
pub forest-same : (d : Database) (u v : VolumeState) → links_of d.types v ≡ links_of d.types u → HasForest d u → HasForest d v
forest-same d u v e h = (h.0, subst (λ m. Holds d.types m h.0) (sym e) h.1)

-- What reading leaves, while the store is sound.
pub record IsSame (d : Database) (u v : VolumeState) : Type 0 where
  pub sound : IsTrue v.is_sound
  pub links : links_of d.types v ≡ links_of d.types u
  pub volume : IsVolumeOf d u → IsVolumeOf d v
  pub forest : HasForest d u → HasForest d v
  pub image : v.image ≡ u.image

-- all of it is so after a call that read
pub after-read : {A : Type 0} {x : A} (d : Database) (u v : VolumeState) → IsRead {T = A} u (Ok x) v → IsTrue u.is_sound → IsSame d u v
after-read d u v r s =
    let now : IsTrue v.is_sound = rw r.call.sound s in
    let links = links-same d.types u v (r.image now) r.call.size r.call.sizes in
    record {
      sound = now;
      links = links;
      volume = volume-same d u v (r.image now) r.call.size r.call.sizes;
      forest = forest-same d u v links;
      image = r.image now;
    }

-- ---- one segment

-- What is found at a segment's address is stored there, with its prefix and its own bytes, no fewer than its type asks.
pub record IsLent (types : List SegmentType) (v : VolumeState) (a : ℕ) (s : List ℕ) : Type 0 where
  pub stored : stored_at v a ≡ s
  pub prefix : prefix_length types (code_of s) ≤ length s
  pub whole : IsWhole types (code_of s) s
  pub own : SegmentType
  pub typed : type_of types (code_of s) ≡ Some own
  pub least : (t : SegmentType) → type_of types (code_of s) ≡ Some t → least_length t ≤ length_of types (code_of s) s

-- two that are there and equal are one
some-eq : {A : Type 0} (x y : A) → Some x ≡ Some y → x ≡ y
some-eq x y e = cc

-- what is found at an address is a segment there
pub found-there : (d : Database) (v : VolumeState) (a : ℕ) (s : List ℕ) → IsVolumeOf d v → find v a ≡ Some s → IsSegment (links_of d.types v) a
found-there d v a s of is = record {
  some = (found-of d v a s of.fit of is).some;
  here = ap (λ (o : Option (List ℕ)). (a == 0) || is_some o) is ∙ or-true (a == 0);
}

-- a segment that is found is lent whole
pub lent : (d : Database) (v : VolumeState) (a : ℕ) (s : List ℕ) → IsDatabase d → IsVolumeOf d v → IsSegment (links_of d.types v) a → find v a ≡ Some s → IsLent d.types v a s
lent d v a s fit of there is =
    let h = segment-found d v a fit of there in
    let same : h.bytes ≡ s = some-eq h.bytes s (sym h.is ∙ is) in
    let whole : IsWhole d.types (code_of s) s = subst (λ x. IsWhole d.types (code_of x) x) same h.whole in
    let least : least_length h.own ≤ length_of d.types (code_of s) s = subst (λ x. least_length h.own ≤ length_of d.types (code_of x) x) same h.least in
    let typed : type_of d.types (code_of s) ≡ Some h.own = ap (λ x. type_of d.types (code_of x)) (sym same) ∙ h.typed in
    record {
      stored = stored-found d v a h ∙ same;
      prefix = omega (arith, whole);
      whole = whole;
      own = h.own;
      typed = typed;
      least = λ t is. subst (λ u. least_length u ≤ length_of d.types (code_of s) s) (some-eq h.own t (sym typed ∙ is)) least;
    }

-- whose twin forward is that of the records
pub forward-lent : (types : List SegmentType) (v : VolumeState) (a : ℕ) (s : List ℕ) → IsLent types v a s → (twin : ℕ) → (6 ≤ length s → twin ≡ twin_forward_of s) → twin ≡ (links_of types v).forward a
forward-lent types v a s l twin is =
    let kept = forward_kept types (code_of s) l.own s l.typed in
    is (omega (arith, kept.0, l.prefix)) ∙ sym kept.1 ∙ ap (λ x. pointer_of types (code_of x) TwinForward x) (sym l.stored)

-- a store that is sound after a call that read was so before
pub sound-before : {A : Type 0} {x : A} (u v : VolumeState) → IsRead {T = A} u (Ok x) v → IsTrue v.is_sound → IsTrue u.is_sound
sound-before u v r s = rw (← r.call.sound) s

-- what was known of the volume and of its records is known after a call that read
pub volume-kept : {A : Type 0} {x : A} (d : Database) (u v : VolumeState) → IsRead {T = A} u (Ok x) v → (IsTrue u.is_sound → IsVolumeOf d u) → IsTrue v.is_sound → IsVolumeOf d v
volume-kept d u v r of now = (let sound = sound-before u v r now in (after-read d u v r sound).volume (of sound))

-- and what was known of its records
pub links-kept : {A : Type 0} {x : A} (d : Database) (P : Links → Type 0) (u v : VolumeState) → IsRead {T = A} u (Ok x) v → (IsTrue u.is_sound → P (links_of d.types u)) → IsTrue v.is_sound → P (links_of d.types v)
links-kept d P u v r of now = (let sound = sound-before u v r now in subst P (sym (after-read d u v r sound).links) (of sound))

-- and what is known of its records was so before
pub links-before : {A : Type 0} {x : A} (d : Database) (P : Links → Type 0) (u v : VolumeState) → IsRead {T = A} u (Ok x) v → IsTrue u.is_sound → (IsTrue v.is_sound → P (links_of d.types v)) → P (links_of d.types u)
links-before d P u v r sound is = (let s = after-read d u v r sound in subst P s.links (is s.sound))
