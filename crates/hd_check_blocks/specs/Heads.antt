-- All that is wrong with a header.
use Rattle.std.specs.Prelude.{◌≡◌, ◌≢◌, ◌⊎◌, ℕ, List, ◌++◌, Bool, true, false}
use Rattle.hd_dbd.specs.Hierarchy.{Database}
use Rattle.hd_volume.specs.Headers.{Header}
use Rattle.hd_image.specs.BlockFaults.{IsKnownVersion}
use Rattle.hd_image.specs.declared.line.Line.TheVariants.{NoVolume, NoVersion, AnotherDatabase}
use Rattle.hd_check_blocks.specs.declared.fault.Fault.{Fault}
use Rattle.hd_check_blocks.specs.Listing.{faults_of, fault_unless}
use Rattle.hd_check_blocks.specs.Phases.{CountsImage, IsNamed}

-- What is listed behind some faults is all that is wrong with a header by itself.
pub record AreHeadsListed (d : Database) (size len : ℕ) (h : Header) (old new : List Fault) : Type 0 where
  pub counts : Bool
  pub known : Bool
  pub named : Bool
  pub new_is : new ≡ old ++ (faults_of (fault_unless counts NoVolume 0) ++ (faults_of (fault_unless known NoVersion h.version) ++ faults_of (fault_unless named AnotherDatabase 0)))
  pub counts_right : counts ≡ true → CountsImage size len h
  pub counts_wrong : counts ≡ false → CountsImage size len h → ⊥
  pub known_right : known ≡ true → IsKnownVersion d.types h.version
  pub known_wrong : known ≡ false → IsKnownVersion d.types h.version → ⊥
  pub named_right : named ≡ true → IsNamed d h
  pub named_wrong : named ≡ false → (h.name ≢ d.name) ⊎ (h.block_size ≢ d.block_size)
