-- What refuses the opening of a session over a store's bytes, and what it leaves.
use Rattle.std.proofs.Common.{◌≡◌, ◌≢◌, IsTrue, List, ℕ, Err, sym, ap, ◌∙◌, refl}
use Rattle.hd_dbd.specs.Types.{View}
use Rattle.hd_dbd.specs.Hierarchy.{Database}
use Rattle.hd_dbd.specs.Facts.{stored_sizes}
use Rattle.hd_volume.specs.Headers.{header_of}
use Rattle.hd_volume.specs.Volumes.{VolumeState}
use Rattle.hd_volume.specs.Calls.{IsRead}
use Rattle.hd_image.specs.Holding.{volume_of}
use Rattle.hd_image.proofs.OneImage.{held-same}
use Rattle.hd_check.proofs.OneStore.{IsOne, turned, stands-same}
use Rattle.hd_session.specs.declared.opening.OpenFault.{OpenFault}
use Rattle.hd_session.specs.declared.opening.OpenFault.TheVariants as opening
use Rattle.hd_session.specs.Opening.{SessionState, IsOpenFaultOf, opening_call}

module _ (d : Database) (pcbs : List View) (bytes : List ℕ) (v : VolumeState) (image : v.image ≡ bytes) (size : v.size ≡ d.block_size) (sizes : v.sizes ≡ stored_sizes d.types) where
  -- the volume and that of its bytes are one
  is_one : IsOne v (volume_of d bytes)
  is_one = record { image = sym image; size = sym size; sizes = sym sizes }

  -- a fault of an opening is one of the volume of the bytes
  pub fault_of_bytes : (fault : OpenFault) → IsOpenFaultOf d pcbs v fault → IsOpenFaultOf d pcbs (volume_of d bytes) fault
  fault_of_bytes (opening.Check fault) h = record {
    least = record {
      stands = stands-same v (volume_of d bytes) is_one d fault.line fault.address fault.other h.least.stands;
      least = λ k a o s before. h.least.least k a o (stands-same (volume_of d bytes) v (turned is_one) d k a o s) before;
    };
    none = λ g holds. h.none g (held-same d (volume_of d bytes) v image size sizes g holds);
  }
  fault_of_bytes (opening.Old version) h =
      (h.0 ∙ ap (λ (i : List ℕ). (header_of i).version) image, h.1, h.2, (h.3.0, h.3.1, held-same d v (volume_of d bytes) (sym image) (sym size) (sym sizes) h.3.0 h.3.2))
  fault_of_bytes opening.NotEmptyForLoad h =
      (sym (ap (λ (i : List ℕ). (header_of i).version) image) ∙ h.0, h.1, h.2, (h.3.0, h.3.1, held-same d v (volume_of d bytes) (sym image) (sym size) (sym sizes) h.3.0 h.3.2), h.4)
  fault_of_bytes opening.Memory h = tt
  fault_of_bytes opening.Device h = tt

module _ (v w : VolumeState) where
  untouched : (sound : IsTrue w.is_sound) (image : IsTrue w.is_sound → w.image ≡ v.image) (stands : IsTrue w.is_sound → v.stored ≡ v.image → w.stored ≡ w.image) → v.stored ≡ v.image → w.stored ≡ v.image
  untouched sound image stands all = stands sound all ∙ image sound

  -- what an opening that met no failed access leaves in the store
  pub left_by_opening : (fault : OpenFault) → IsRead v (opening_call {T = SessionState} (Err fault)) w → IsTrue v.is_sound → v.stored ≡ v.image → fault ≢ opening.Device → w.stored ≡ v.image
  left_by_opening (opening.Check fault) read sound all other = untouched (rw read.call.sound sound) read.image read.stands all
  left_by_opening (opening.Old version) read sound all other = untouched (rw read.call.sound sound) read.image read.stands all
  left_by_opening opening.NotEmptyForLoad read sound all other = untouched (rw read.call.sound sound) read.image read.stands all
  left_by_opening opening.Memory read sound all other = untouched (rw read.call.sound sound) read.image read.stands all
  left_by_opening opening.Device read sound all other = absurd (other refl)
