-- A new leaf is named by its twins or its parent.
use Rattle.std.proofs.Common.{◌≡◌, ℕ, Bool, IsTrue, subst}
use Rattle.hd_dbd.specs.Hierarchy.{Database}
use Rattle.hd_volume.specs.Volumes.{VolumeState}
use Rattle.hd_links.specs.Links.{Links}
use Rattle.hd_links.specs.Changes.{Agree}
use Rattle.hd_image.specs.Records.{links_of}
use Rattle.hd_forest.specs.Sets.{following, preceding, named, IsRecorded}
use Rattle.hd_forest.proofs.Keeping.{keeps-trans}
use Rattle.hd_forest.proofs.Agreeing.{agree-trans, agree-preceding}

-- a store is as sound as before
pub sound-as : (a b : Bool) → b ≡ a → IsTrue b → IsTrue a
sound-as a b e s = subst IsTrue e s

-- one step after another
pub recorded-join : (d : Database) (u v w : VolumeState) (m n k : Links) → IsRecorded d u m v → IsRecorded d v n w → Agree d.types k n → IsRecorded d u k w
recorded-join d u v w m n k r s agree = record {
  volume = s.volume;
  records = agree-trans d.types k n (links_of d.types w) agree s.records;
  keeps = keeps-trans r.volume.formatted r.keeps s.keeps;
}

pub recorded-named : (d : Database) (u v w : VolumeState) (h t y x a : ℕ) → IsRecorded d u (following (links_of d.types u) h t y a) v → IsRecorded d v (preceding (links_of d.types v) h t x a) w
    → IsRecorded d u (named (links_of d.types u) h t y x a) w
recorded-named d u v w h t y x a r s =
    recorded-join d u v w (following (links_of d.types u) h t y a) (preceding (links_of d.types v) h t x a) (named (links_of d.types u) h t y x a) r s
    (agree-preceding d.types (following (links_of d.types u) h t y a) (links_of d.types v) h t x a r.records)
