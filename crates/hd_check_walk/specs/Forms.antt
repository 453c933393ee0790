-- Where the segments of a type have what a walk asks of them.
use Rattle.std.specs.Prelude.{◌≡◌, ◌==◌, ℕ, List, length}
use Rattle.hd_dbd.specs.Types.{SegmentType}
use Rattle.hd_dbd.specs.Prefixes.{prefix_length, children_of}
use Rattle.hd_prefix.specs.Fields.{twins_end}
use Rattle.hd_check_blocks.specs.Keys.{key_place}
use Rattle.hd_check_walk.specs.declared.segments.Form.{Form}

-- The form is that of the segments of the type of a code.
pub record IsFormOf (types : List SegmentType) (code : ℕ) (form : Form) : Type 0 where
  pub placed : form.key ≡ key_place types code
  pub prefixed : form.prefix ≡ prefix_length types code
  pub twins : form.twins_end ≡ twins_end types code
  pub leaf : form.is_leaf ≡ (length (children_of types code) == 0)
