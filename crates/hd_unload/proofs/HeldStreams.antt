-- The rows that a volume holds have a stream.
use Rattle.std.proofs.Common.{◌≡◌, ◌<◌, List, [], length, true, None, refl, sym, ap, subst, ◌∙◌, arith}
use Rattle.std.proofs.lemmas.List.{append-nil}
use Rattle.hd_dbd.specs.Hierarchy.{Database}
use Rattle.hd_dbd.specs.Segment.{Segment}
use Rattle.hd_dbd.specs.Rows.{valid}
use Rattle.hd_dbd.specs.Forest.{Forest}
use Rattle.hd_dbd.proofs.LevelLaw.{leveled}
use Rattle.hd_dbd.proofs.Sequences.{walk}
use Rattle.hd_volume.specs.Volumes.{VolumeState}
use Rattle.hd_links.specs.Placed.{Placed, forest_of}
use Rattle.hd_links.specs.Steps.{rows_of}
use Rattle.hd_image.specs.Holding.{HoldsPlaced, HoldsRows}
use Rattle.hd_image.proofs.RowCounts.{few-rows}
use Rattle.hd_unload.specs.Streams.{unload_bytes, IsStreamOf}

-- the rows of a held forest are valid
held-valid : (d : Database) (v : VolumeState) (f : Forest Placed) → HoldsPlaced d v f → valid d.types (rows_of f) ≡ true
held-valid d v f h =
    ap (λ (rows : List Segment). valid d.types rows) (sym (append-nil (rows_of f)))
    ∙ (walk d.types (leveled d.block_size d.frspc d.types h.volume.fit) (forest_of f) [] [] [] None None refl tt refl h.records.fits).1

-- the rows of a held forest are fewer than the bytes of the image, and than 2 to the 32
pub held-few : (d : Database) (v : VolumeState) (f : Forest Placed) → HoldsPlaced d v f → (length (rows_of f) < length v.image) × (length (rows_of f) < 4294967295)
held-few d v f h = few-rows d v f h.volume h.records

-- the rows that a volume holds have a stream
pub held-stream : (d : Database) (v : VolumeState) (rows : List Segment) → HoldsRows d v rows → IsStreamOf d (unload_bytes d rows) rows
held-stream d v rows h =
    subst (λ (rs : List Segment). IsStreamOf d (unload_bytes d rs) rs) h.1
    (record { spelled = refl; valid = held-valid d v h.0 h.2; few = (let few = (held-few d v h.0 h.2).1 in omega arith) })
