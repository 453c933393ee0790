-- The headline.
use Rattle.std.proofs.Common.{◌≡◌, ℕ, List, [], ◌∷◌, refl, ap, sym, ◌∙◌, subst}
use Rattle.hd_dbd.specs.Types.{View}
use Rattle.hd_dbd.specs.Hierarchy.{Database}
use Rattle.hd_dbd.specs.Segment.{Segment}
use Rattle.hd_dbd.specs.Forest.{Forest, sequence}
use Rattle.hd_dbd.specs.Logs.{Entry}
use Rattle.hd_calls.specs.Steps.{State}
use Rattle.hd_calls.specs.NoLostUpdate.{opened}
use Rattle.hd_calls.specs.Runs.{Holds, ImagesFollow, last_state, next_state}
use Rattle.hd_links.specs.Placed.{Placed, forest_of}
use Rattle.hd_links.specs.Steps.{rows_of}
use Rattle.hd_links.proofs.Types.{ordered}
use Rattle.hd_links.proofs.Unique.{unique}
use Rattle.hd_image.specs.Records.{links_of}
use Rattle.hd_image.specs.Holding.{HoldsPlaced, volume_of}
use Rattle.hd_image.proofs.OneImage.{held-same}
use Rattle.hd_changes.specs.VolumeImages.{images_of}
use Rattle.hd_session.proofs.Turns.{sessions_answer}
use Rattle.hd_commands.specs.Headline.{PassesFor, IsHeadline, ChecksTellOneForest, RunsAnswerTheirLogs, ReloadsPass}

-- an image that holds a placed forest passes for its rows
pub passes : (d : Database) (image : List ℕ) (placed : Forest Placed) (rows : List Segment) → HoldsPlaced d (volume_of d image) placed → rows_of placed ≡ rows → PassesFor d image rows
passes d image placed rows holds are = record {
  forest = forest_of placed;
  holds = (placed, refl, holds);
  one = λ other is.
      sym is.1
      ∙ ap forest_of (unique d.types (ordered d.block_size d.frspc d.types holds.volume.fit) (links_of d.types (volume_of d image)) is.0 placed is.2.records holds.records);
  rows_are = are;
}

-- the image behind a log holds the rows that the log ends with
last_holds : (d : Database) (pcbs : List View) (st : State) (entries : List (Entry (List ℕ))) (last : List ℕ) → ImagesFollow (images_of d) d.types pcbs st entries last
    → Holds (images_of d) last (last_state d.types pcbs st entries).rows
last_holds d pcbs st [] last follow = follow
last_holds d pcbs st (e ∷ es) last follow = last_holds d pcbs (next_state d.types pcbs st e) es last follow.2

-- so it passes for them
pub log_passes : (d : Database) (pcbs : List View) (st : State) (entries : List (Entry (List ℕ))) (last : List ℕ) → ImagesFollow (images_of d) d.types pcbs st entries last
    → PassesFor d last (last_state d.types pcbs st entries).rows
log_passes d pcbs st entries last follow =
    let end = last_holds d pcbs st entries last follow in
    passes d last end.1.placed (last_state d.types pcbs st entries).rows end.1.holds end.1.rows_are

checks : (d : Database) → ChecksTellOneForest d
checks d v passed is = (
  rows_of is.placed,
  passes d v.image is.placed (rows_of is.placed) (held-same d v (volume_of d v.image) refl (sym is.holds.volume.size) (sym is.holds.volume.sizes) is.placed is.holds) refl,
)

runs : (d : Database) → RunsAnswerTheirLogs d
runs d pcbs image turns log left played =
    let held = played.holds in
    record {
      rows = sequence played.forest;
      passed = passes d image held.0 (sequence played.forest) held.2 (ap sequence held.1);
      asked = played.asked;
      legal = played.legal;
      lacking = played.lacking;
      passes = subst (λ (bytes : List ℕ). PassesFor d bytes (last_state d.types pcbs (opened pcbs (sequence played.forest)) log.entries).rows) played.ends
          (log_passes d pcbs (opened pcbs (sequence played.forest)) log.entries log.last played.legal.follows);
    }

reloads : (d : Database) → ReloadsPass d
reloads d stream largest segments blocks image is = (is.rows, is.stream_of, passes d image is.holds.0 is.rows is.holds.2 is.holds.1)

pub headline : (d : Database) → IsHeadline d
headline d = record {
  checks = checks d;
  sessions = sessions_answer d;
  sessions_pass = λ pcbs image rows turns log is. log_passes d pcbs (opened pcbs rows) log.entries log.last is.legal.follows;
  runs = runs d;
  reloads = reloads d;
}
