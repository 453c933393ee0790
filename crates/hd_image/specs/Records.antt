-- The link graph of a volume: what the records of its image say, by their addresses.
use Rattle.std.specs.Prelude.{◌≡◌, ℕ, List, [], ◌||◌, ◌==◌, cond, is_some, IsTrue}
use Rattle.std.specs.Option.{option_map_or}
use Rattle.hd_dbd.specs.Types.{SegmentType}
use Rattle.hd_dbd.specs.Hierarchy.{Database}
use Rattle.hd_dbd.specs.DatabaseRules.{well_formed}
use Rattle.hd_dbd.specs.Facts.{stored_sizes}
use Rattle.hd_volume.specs.Headers.{header_of}
use Rattle.hd_volume.specs.Volumes.{VolumeState, IsFormatted}
use Rattle.hd_volume.specs.Records.{find}
use Rattle.hd_prefix.specs.declared.pointer.Pointer.{Pointer}
use Rattle.hd_prefix.specs.declared.pointer.Pointer.TheVariants.{TwinForward, TwinBackward, FirstChild, LastChild}
use Rattle.hd_prefix.specs.Fields.{code_of, delete_byte_of, pointer_of, bytes_of}
use Rattle.hd_links.specs.Links.{Links}

-- the stored segment at an address, without bytes where there is none
abbrev pub stored_at : VolumeState → ℕ → List ℕ
stored_at v a = option_map_or (λ segment. segment) (find v a) []

-- a pointer of the segment at an address, 0 where it is not kept
abbrev pub pointer_at : List SegmentType → VolumeState → Pointer → ℕ → ℕ
pointer_at types v pointer a = pointer_of types (code_of (stored_at v a)) pointer (stored_at v a)

-- What the records of a volume say: the header is the record 0, of code 0, with first and last root as its children, and
-- each segment says what its fields say.
abbrev pub links_of : List SegmentType → VolumeState → Links
links_of types v = record {
  here = λ a. a == 0 || is_some (find v a);
  code = λ a. code_of (stored_at v a);
  delete_byte = λ a. delete_byte_of (stored_at v a);
  bytes = λ a. bytes_of types (code_of (stored_at v a)) (stored_at v a);
  forward = λ a. pointer_at types v TwinForward a;
  backward = λ a. pointer_at types v TwinBackward a;
  first_child = λ a t. cond (a == 0) (header_of v.image).first_root (pointer_at types v (FirstChild t) a);
  last_child = λ a t. cond (a == 0) (header_of v.image).last_root (pointer_at types v (LastChild t) a);
}

-- What the calls on the segments of a database ask of a volume: a database that its constructor accepts, a header, extents in
-- every data block, and blocks and segments of the database's sizes.
pub record IsVolumeOf (d : Database) (v : VolumeState) : Type 0 where
  pub fit : IsTrue (well_formed d.block_size d.frspc d.types)
  pub formatted : IsFormatted v
  pub size : v.size ≡ d.block_size
  pub sizes : v.sizes ≡ stored_sizes d.types
