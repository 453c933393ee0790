-- A run over the volume of a store's bytes.
use Rattle.std.proofs.Common.{◌≡◌, ◌≢◌, IsTrue, ℕ, List, take, Option, Err, sym, ap, ◌∙◌, subst, refl}
use Rattle.hd_dbd.specs.Types.{View}
use Rattle.hd_dbd.specs.Hierarchy.{Database}
use Rattle.hd_dbd.specs.Facts.{stored_sizes}
use Rattle.hd_dbd.specs.Logs.{Entry}
use Rattle.hd_calls.specs.NoLostUpdate.{opened}
use Rattle.hd_volume.specs.Headers.{header_of}
use Rattle.hd_volume.specs.Volumes.{VolumeState}
use Rattle.hd_volume.specs.Calls.{IsRead}
use Rattle.hd_links.specs.Placed.{forest_of}
use Rattle.hd_links.specs.Steps.{rows_of}
use Rattle.hd_image.specs.Holding.{volume_of}
use Rattle.hd_image.proofs.OneImage.{held-same}
use Rattle.hd_check.proofs.OneStore.{IsOne, turned, stands-same}
use Rattle.hd_session.specs.declared.opening.OpenFault.{OpenFault}
use Rattle.hd_session.specs.declared.opening.OpenFault.TheVariants as opening
use Rattle.hd_session.specs.Opening.{SessionState, session_at_start, IsReadyFor, IsOpenedOver, IsOpenFaultOf, opening_call}
use Rattle.hd_deck.specs.declared.plays.Stop.{Stop}
use Rattle.hd_deck.specs.declared.plays.Stop.TheVariants as stop
use Rattle.hd_session.specs.Turns.{Turn, AreMade}
use Rattle.hd_deck.specs.Runs.{ArePlayedOut, AreLeftInPart, PlaysOut, LeavesAt, IsPlayed, IsWholeRun, IsPlayedInPart, IsRunFaultOf, fault_of}

module _ (d : Database) (pcbs : List View) (bytes : List ℕ) (v : VolumeState) (image : v.image ≡ bytes) (size : v.size ≡ d.block_size) (sizes : v.sizes ≡ stored_sizes d.types) where
  -- the volume and that of its bytes are one
  is_one : IsOne v (volume_of d bytes)
  is_one = record { image = sym image; size = sym size; sizes = sym sizes }

  -- a fault of an opening is one of the volume of the bytes
  pub fault_of_bytes : (fault : OpenFault) → IsOpenFaultOf d pcbs v fault → IsOpenFaultOf d pcbs (volume_of d bytes) fault
  fault_of_bytes (opening.Check fault) h = record {
    least = record {
      stands = stands-same v (volume_of d bytes) is_one d fault.line fault.address fault.other h.least.stands;
      least = λ k a o s before. h.least.least k a o (stands-same (volume_of d bytes) v (turned is_one) d k a o s) before;
    };
    none = λ g holds. h.none g (held-same d (volume_of d bytes) v image size sizes g holds);
  }
  fault_of_bytes (opening.Old version) h =
      (h.0 ∙ ap (λ (i : List ℕ). (header_of i).version) image, h.1, h.2, (h.3.0, h.3.1, held-same d v (volume_of d bytes) (sym image) (sym size) (sym sizes) h.3.0 h.3.2))
  fault_of_bytes opening.NotEmptyForLoad h =
      (sym (ap (λ (i : List ℕ). (header_of i).version) image) ∙ h.0, h.1, h.2, (h.3.0, h.3.1, held-same d v (volume_of d bytes) (sym image) (sym size) (sym sizes) h.3.0 h.3.2), h.4)
  fault_of_bytes opening.Memory h = tt
  fault_of_bytes opening.Device h = tt

  -- calls that were made in a session over the volume came to a log
  unfoldable pub is_played : (w : VolumeState) (ready : IsReadyFor d pcbs v) (turns : List Turn) (entries : List (Entry (List ℕ))) (t : SessionState) (left : List ℕ) → w.image ≡ bytes
      → AreMade (session_at_start d pcbs w) (opened pcbs (rows_of ready.placed)) turns entries t → t.volume.image ≡ left
      → IsPlayed d pcbs bytes turns (record { entries = entries; last = t.volume.image }) left
  is_played w ready turns entries t left now made ends = record {
    forest = forest_of ready.placed;
    holds = (ready.placed, refl, held-same d v (volume_of d bytes) (sym image) (sym size) (sym sizes) ready.placed ready.holds);
    one = λ g h. ready.one g (h.0, h.1, held-same d (volume_of d bytes) v image size sizes h.0 h.2);
    legal = record { begins = made.begins ∙ now; runs = made.runs; follows = made.follows };
    asked = made.asked;
    lacking = made.lacking;
    ends = ends;
  }

  module _ (s : SessionState) (start : s ≡ session_at_start d pcbs s.volume) (sound : IsTrue s.volume.is_sound) (now : s.volume.image ≡ bytes) (over : IsOpenedOver d pcbs v s) where
    -- calls that were played in a session over the volume are a whole run
    pub whole_run : (turns : List Turn) (old new : Option (List ℕ)) (lacking : ℕ) (left : List ℕ) → PlaysOut s turns old new lacking left → IsWholeRun d pcbs bytes turns old new lacking left
    whole_run turns old new lacking left plays =
        let w : VolumeState = s.volume in
        let there = subst (λ (r : SessionState). IsOpenedOver d pcbs v r) start over in
        let p : ArePlayedOut (session_at_start d pcbs w) (opened pcbs (rows_of there.ready.placed)) turns old new lacking left =
        (subst (λ (r : SessionState). PlaysOut r turns old new lacking left) start plays) (opened pcbs (rows_of there.ready.placed)) sound there.represents in
        record {
          log = record { entries = p.played.entries; last = p.last.volume.image };
          played = is_played w there.ready turns p.played.entries p.last left now p.played.made p.ends;
          printed = p.played.printed;
          memory = p.played.memory;
        }

    part_of_run : (turns : List Turn) (left : List ℕ) → LeavesAt s turns stop.Write left → IsPlayedInPart d pcbs bytes turns left
    part_of_run turns left leaves =
        let w : VolumeState = s.volume in
        let there = subst (λ (r : SessionState). IsOpenedOver d pcbs v r) start over in
        let p : AreLeftInPart (session_at_start d pcbs w) (opened pcbs (rows_of there.ready.placed)) turns left =
        (subst (λ (r : SessionState). LeavesAt r turns stop.Write left) start leaves) (opened pcbs (rows_of there.ready.placed)) sound there.represents in
        record {
          made = p.made.count;
          some = p.made.some;
          log = record { entries = p.made.entries; last = p.last.volume.image };
          played = is_played w there.ready (take p.made.count turns) p.made.entries p.last left now p.made.made p.ends;
        }

    -- and those that were made until a stop are what its fault says
    pub fault_at : (turns : List Turn) (left : List ℕ) (e : Stop) → LeavesAt s turns e left → IsRunFaultOf d pcbs bytes turns left (fault_of e)
    fault_at turns left stop.Device leaves = tt
    fault_at turns left stop.Write leaves = part_of_run turns left leaves

module _ (v w : VolumeState) where
  untouched : (sound : IsTrue w.is_sound) (image : IsTrue w.is_sound → w.image ≡ v.image) (stands : IsTrue w.is_sound → v.stored ≡ v.image → w.stored ≡ w.image) → v.stored ≡ v.image → w.stored ≡ v.image
  untouched sound image stands all = stands sound all ∙ image sound

  -- what an opening that met no failed access leaves in the store
  pub left_by_opening : (fault : OpenFault) → IsRead v (opening_call {T = SessionState} (Err fault)) w → IsTrue v.is_sound → v.stored ≡ v.image → fault ≢ opening.Device → w.stored ≡ v.image
  left_by_opening (opening.Check fault) read sound all other = untouched (rw read.call.sound sound) read.image read.stands all
  left_by_opening (opening.Old version) read sound all other = untouched (rw read.call.sound sound) read.image read.stands all
  left_by_opening opening.NotEmptyForLoad read sound all other = untouched (rw read.call.sound sound) read.image read.stands all
  left_by_opening opening.Memory read sound all other = untouched (rw read.call.sound sound) read.image read.stands all
  left_by_opening opening.Device read sound all other = absurd (other refl)
