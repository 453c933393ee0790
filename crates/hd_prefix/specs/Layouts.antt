-- What a contract sees of a `Layout`.
use Rattle.std.specs.Prelude.{ℕ, List, IsTrue}
use Rattle.hd_dbd.specs.Types.{SegmentType}
use Rattle.hd_dbd.specs.DatabaseRules.{well_formed}
use Rattle.hd_prefix.specs.declared.layout.Layout.{Layout}

-- the types of its database
abbrev pub types_of : Layout → List SegmentType
types_of l = l.dbd.now.types

-- the code of its type
abbrev pub type_code : Layout → ℕ
type_code l = l.code

-- its types are those of a database
abbrev pub IsFit : Layout → Type 0
IsFit l = IsTrue (well_formed l.dbd.now.block_size l.dbd.now.frspc (types_of l))
