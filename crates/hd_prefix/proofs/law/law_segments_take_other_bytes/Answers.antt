use Rattle.std.proofs.Common.{refl}
use Rattle.hd_prefix.specs.Pointers.{place_of}
use Rattle.hd_dbd.proofs.TypeLengths.{row-begins}
use Rattle.hd_prefix.proofs.Fitting.{row_prefix}
use Rattle.hd_prefix.proofs.Places.{inside_some}
use Rattle.hd_prefix.proofs.OtherBytes.{segment_with_is}
use Rattle.hd_prefix.proofs.law.law_segments_take_other_bytes.Goals as goal

pub returns : goal.returns
returns c = λ block_size frspc types code bytes segment fit fits long.
    segment_with_is types code bytes segment
    (row_prefix types code bytes fits) (λ behind same. row-begins block_size frspc types code bytes behind fit fits same)
    (λ pointer. inside_some block_size frspc types code pointer (place_of types code pointer) fit refl) long
