-- A volume that is ready for a session, and the state that a session over it stands for.
use Rattle.std.proofs.Common.{◌≡◌, ℕ, List, length, true, refl, sym, ap, ◌∙◌, subst, arith}
use Rattle.std.specs.Prelude.{map}
use Rattle.std.proofs.lemmas.List.{nil_from_length, length-map}
use Rattle.hd_dbd.specs.Types.{View}
use Rattle.hd_dbd.specs.Hierarchy.{Database}
use Rattle.hd_dbd.specs.Positions.{at_start}
use Rattle.hd_dbd.proofs.LevelLaw.{leveled}
use Rattle.hd_bytes.specs.Blocks.{HasBlock}
use Rattle.hd_dbd.specs.Forest.{Forest}
use Rattle.hd_volume.specs.Headers.{header_of}
use Rattle.hd_volume.specs.Volumes.{VolumeState}
use Rattle.hd_links.specs.Placed.{Placed}
use Rattle.hd_links.specs.Steps.{rows_of}
use Rattle.hd_links.proofs.ValidRows.{held_valid}
use Rattle.hd_image.specs.Records.{links_of}
use Rattle.hd_image.specs.Holding.{HoldsPlaced}
use Rattle.hd_image.proofs.OneImage.{held-same}
use Rattle.hd_check.specs.declared.checks.Passed.{Passed}
use Rattle.hd_check.specs.Checks.{IsPassed}
use Rattle.hd_calls.specs.NoLostUpdate.{opened}
use Rattle.hd_position.specs.Kept.{Kept, kept_start}
use Rattle.hd_update.specs.States.{Represents, StandForAll}
use Rattle.hd_volume.specs.declared.header.TheConstants.{NEWEST_VERSION}
use Rattle.hd_session.specs.Opening.{has_loader, all_at_start, IsReadyFor, StandsForState}
use Rattle.hd_session.proofs.AtStart.{all_stand, loaders_past_all}

-- a volume of the newest version that passes is ready where it has no segment for a PCB that loads
pub passed_ready : (d : Database) (pcbs : List View) (v : VolumeState) (passed : Passed) → IsPassed d v passed → (header_of v.image).version ≡ NEWEST_VERSION
    → (has_loader pcbs ≡ true → passed.segments ≡ 0) → IsReadyFor d pcbs v
passed_ready d pcbs v passed p newest none = record {
  newest = newest;
  placed = p.placed;
  holds = p.holds;
  one = p.one;
  valid = held_valid d.types (links_of d.types v) p.placed (leveled d.block_size d.frspc d.types p.holds.volume.fit) p.holds.records;
  empty_for_load = λ loader. nil_from_length (rows_of p.placed) (sym p.segments ∙ none loader);
}

-- what a volume that was only read says of its version
pub read_version : (d : Database) (v w : VolumeState) (f : Forest Placed) → HoldsPlaced d v f → w.image ≡ v.image → w.size ≡ v.size → (n : ℕ)
    → (HasBlock w.size w.image 0 → n ≡ (header_of w.image).version) → n ≡ (header_of v.image).version
read_version d v w f H image size n own =
    let there : HasBlock w.size w.image 0 = rw (image, size) H.volume.formatted.header.first in
    own there ∙ ap (λ (i : List ℕ). (header_of i).version) image

-- images that are one are of one version
of_version : (old new : List ℕ) → new ≡ old → (header_of old).version ≡ (header_of new).version
of_version old new is = ap (λ (i : List ℕ). (header_of i).version) (sym is)

-- something is kept of each PCB
pub one_each : (pcbs : List View) (kept : List Kept) → kept ≡ all_at_start pcbs → length kept ≡ length pcbs
one_each pcbs kept is = ap (λ (ks : List Kept). length ks) is ∙ length-map pcbs (λ _. kept_start)

module _ (d : Database) (pcbs : List View) (v w : VolumeState) (image : w.image ≡ v.image) (size : w.size ≡ v.size) (sizes : w.sizes ≡ v.sizes) where
  -- a ready volume that was only read stands for all PCBs before its rows
  pub start_represents : (kept : List Kept) (r : IsReadyFor d pcbs v) → kept ≡ all_at_start pcbs → Represents d w kept (opened pcbs (rows_of r.placed))
  start_represents kept r is = record {
    later = λ one. (let newest : (header_of v.image).version ≡ 3 = r.newest in let own : (header_of v.image).version ≡ 1 = of_version v.image w.image image ∙ one in omega arith);
    placed = r.placed;
    holds = held-same d v w image size sizes r.placed r.holds;
    rows = refl;
    positions = subst (λ (ks : List Kept). StandForAll d.types r.placed ks (map (λ _. at_start) pcbs)) (sym is) (all_stand d.types r.placed pcbs);
  }

  -- and so for a state
  pub start_state : (kept : List Kept) → IsReadyFor d pcbs v → kept ≡ all_at_start pcbs → StandsForState d w pcbs kept
  start_state kept r is = record {
    state = opened pcbs (rows_of r.placed);
    represents = start_represents kept r is;
    loaders = loaders_past_all pcbs (rows_of r.placed) r.empty_for_load;
  }

  -- a volume with the same image stands for the same state
  pub same_state : (kept : List Kept) → StandsForState d v pcbs kept → StandsForState d w pcbs kept
  same_state kept s = record {
    state = s.state;
    represents = record {
      later = λ one. s.represents.later (of_version v.image w.image image ∙ one);
      placed = s.represents.placed;
      holds = held-same d v w image size sizes s.represents.placed s.represents.holds;
      rows = s.represents.rows;
      positions = s.represents.positions;
    };
    loaders = s.loaders;
  }
