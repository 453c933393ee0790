-- The header of a volume: block 0 of its image.
use Rattle.std.specs.Prelude.{◌≡◌, ℕ, ◌*◌, ◌≤◌, List, length, codes}
use Rattle.hd_bytes.specs.Numbers.{number_at}
use Rattle.hd_bytes.specs.Ranges.{bytes_at}
use Rattle.hd_bytes.specs.Blocks.{HasBlock}
use Rattle.hd_volume.specs.declared.load.TheConstants.{MOST_BLOCKS}

-- What the header says. Blocks and addresses are numbers of 0 for none.
pub record Header : Type 0 where
  pub mark : List ℕ
  pub version : ℕ
  pub block_size : ℕ
  pub count : ℕ
  pub largest : ℕ
  pub name : List ℕ
  pub first_root : ℕ
  pub last_root : ℕ
  pub top : ℕ
  pub height : ℕ

-- the header that the first bytes of an image are
abbrev pub header_of : List ℕ → Header
header_of image = record {
  mark = bytes_at image 0 8;
  version = number_at 2 image 8;
  block_size = number_at 2 image 10;
  count = number_at 4 image 12;
  largest = number_at 4 image 16;
  name = bytes_at image 20 8;
  first_root = number_at 4 image 28;
  last_root = number_at 4 image 32;
  top = number_at 4 image 36;
  height = number_at 4 image 40;
}

-- An image has a header: a whole first block with the mark, as many blocks as it counts, and a largest count that is not
-- below that and at most 65,536.
pub record HasHeader (size : ℕ) (image : List ℕ) : Type 0 where
  pub first : HasBlock size image 0
  pub mark : (header_of image).mark ≡ codes "HDVOLUME"
  pub whole : length image ≡ (header_of image).count * size
  pub within : (header_of image).count ≤ (header_of image).largest
  pub bound : (header_of image).largest ≤ MOST_BLOCKS
