-- The headline: what passes a check, what calls make of it, and what a reload makes.
use Rattle.std.specs.Prelude.{◌≡◌, ℕ, List}
use Rattle.hd_dbd.specs.Types.{View}
use Rattle.hd_dbd.specs.Hierarchy.{Database}
use Rattle.hd_dbd.specs.Segment.{Segment}
use Rattle.hd_dbd.specs.Forest.{Forest, sequence}
use Rattle.hd_dbd.specs.Logs.{Log}
use Rattle.hd_calls.specs.Runs.{last_state, IsLegalLog}
use Rattle.hd_calls.specs.NoLostUpdate.{opened}
use Rattle.hd_volume.specs.Volumes.{VolumeState}
use Rattle.hd_image.specs.Holding.{HoldsForest, volume_of}
use Rattle.hd_changes.specs.VolumeImages.{images_of}
use Rattle.hd_check.specs.declared.checks.Passed.{Passed}
use Rattle.hd_check.specs.Checks.{IsPassed}
use Rattle.hd_unload.specs.Streams.{IsStreamOf}
use Rattle.hd_unload.specs.Loads.{IsReloaded}
use Rattle.hd_session.specs.Turns.{Turn, turns_in, LackMemoryFairly}
use Rattle.hd_session.specs.Laws.{SessionsAnswer, IsLegalLogOf}
use Rattle.hd_deck.specs.Runs.{IsPlayed}

-- An image passes for these rows: it holds one forest of the database and no other, whose hierarchic sequence they are. It
-- has no fault then, by `law_held_forests_have_no_fault` of `hd_image`.
pub record PassesFor (d : Database) (image : List ℕ) (rows : List Segment) : Type 0 where
  pub forest : Forest Segment
  pub holds : HoldsForest d (volume_of d image) forest
  pub one : (other : Forest Segment) → HoldsForest d (volume_of d image) other → other ≡ forest
  pub rows_are : sequence forest ≡ rows

-- what a check passes, has an image that passes for the rows of one forest
abbrev pub ChecksTellOneForest : Database → Type 0
ChecksTellOneForest d = (v : VolumeState) (passed : Passed) → IsPassed d v passed → (rows : List Segment) × PassesFor d v.image rows

-- What a run of calls by the PCBs of a program came to, from an image on: that passes for some rows; the log has one entry for each call that was
-- asked, in their order; it is legal from just these rows, and all PCBs before them, and says that memory was wanting only at calls that take some;
-- and what is left passes for the rows that the log ends with.
pub record IsAnsweredRun (d : Database) (pcbs : List View) (image : List ℕ) (turns : List Turn) (log : Log (List ℕ)) (left : List ℕ) : Type 0 where
  pub rows : List Segment
  pub passed : PassesFor d image rows
  pub asked : turns_in log.entries ≡ turns
  pub legal : IsLegalLog (images_of d) d.types pcbs image (opened pcbs rows) log
  pub lacking : LackMemoryFairly d.types pcbs (opened pcbs rows) log.entries
  pub passes : PassesFor d left (last_state d.types pcbs (opened pcbs rows) log.entries).rows

-- every run that is played is such a one
abbrev pub RunsAnswerTheirLogs : Database → Type 0
RunsAnswerTheirLogs d =
    (pcbs : List View) (image : List ℕ) (turns : List Turn) (log : Log (List ℕ)) (left : List ℕ) → IsPlayed d pcbs image turns log left
    → IsAnsweredRun d pcbs image turns log left

-- the image that a session's calls leave, whatever they have come to so far, passes for the rows that their log ends with
abbrev pub SessionsPass : Database → Type 0
SessionsPass d =
    (pcbs : List View) (image : List ℕ) (rows : List Segment) (turns : List Turn) (log : Log (List ℕ)) → IsLegalLogOf d pcbs image rows turns log
    → PassesFor d log.last (last_state d.types pcbs (opened pcbs rows) log.entries).rows

-- what a reload makes of a stream passes for the stream's rows
abbrev pub ReloadsPass : Database → Type 0
ReloadsPass d =
    (stream : List ℕ) (largest segments blocks : ℕ) (image : List ℕ) → IsReloaded d stream largest segments blocks image
    → (rows : List Segment) × IsStreamOf d stream rows × PassesFor d image rows

-- The headline. If a check passes a volume, that holds exactly one forest of the database; every interleaved list of calls by the PCBs of any
-- program, made in a session or in the run of a deck, then answers the segments, keys and statuses that hierarchic sequence over that forest
-- defines; behind each call of a session, and behind a run, the image passes for the forest so defined; and every image that a reload makes passes.
pub record IsHeadline (d : Database) : Type 0 where
  pub checks : ChecksTellOneForest d
  pub sessions : SessionsAnswer d
  pub sessions_pass : SessionsPass d
  pub runs : RunsAnswerTheirLogs d
  pub reloads : ReloadsPass d

-- it holds of every database
abbrev pub Headline : Type 0
Headline = (d : Database) → IsHeadline d
