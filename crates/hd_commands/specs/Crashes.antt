-- What a crash leaves of a volume over which calls are made, with commits among them: the forest of a commit.
use Rattle.std.specs.Prelude.{◌≡◌, ◌⊎◌, ℕ, ◌≤◌, List, [], ◌∷◌, take, drop, Option}
use Rattle.hd_dbd.specs.Types.{SegmentType, View}
use Rattle.hd_dbd.specs.Hierarchy.{Database}
use Rattle.hd_dbd.specs.Segment.{Segment}
use Rattle.hd_dbd.specs.Logs.{Entry, Log}
use Rattle.hd_calls.specs.NoLostUpdate.{opened}
use Rattle.hd_calls.specs.Runs.{next_state, last_state}
use Rattle.hd_calls.specs.Steps.{State}
use Rattle.hd_stores.specs.Stores.{Commit, Committed, commits_of}
use Rattle.hd_session.specs.Turns.{Turn}
use Rattle.hd_session.specs.Requests.{Request, ask, make, foretell, commit}
use Rattle.hd_deck.specs.Commits.{Stored, IsDone, IsDoneUntilFailure}
use Rattle.hd_journal.specs.Disk as disk
use Rattle.hd_journal.specs.Log.{recovered}
use Rattle.hd_journal.specs.Framed.{IsSafe}
use Rattle.hd_commands.specs.Headline.{PassesFor}
use Rattle.hd_commands.specs.Units.{UnitCommits}

-- ---- the rows of commits

-- the rows at each commit among requests, in their order, from a state on from which their calls came to these entries
abbrev pub rows_at_commits : {Image : Type 0} → List SegmentType → List View → State → List Request → List (Entry Image) → List (List Segment)
rows_at_commits types pcbs st [] entries = []
rows_at_commits types pcbs st (ask turn ∷ requests) [] = []
rows_at_commits types pcbs st (ask turn ∷ requests) (e ∷ entries) = rows_at_commits types pcbs (next_state types pcbs st e) requests entries
rows_at_commits types pcbs st (make turn n ∷ requests) entries = rows_at_commits types pcbs (last_state types pcbs st (take n entries)) requests (drop n entries)
rows_at_commits types pcbs st (foretell turn n ∷ requests) entries = rows_at_commits types pcbs st requests entries
rows_at_commits types pcbs st (commit ∷ requests) entries = st.rows ∷ rows_at_commits types pcbs st requests entries

-- the later of some come before the earlier, and these before those that came before all of them
abbrev pub later_first : {A : Type 0} → List A → List A → List A
later_first [] earlier = earlier
later_first (x ∷ xs) earlier = later_first xs (x ∷ earlier)

-- The rows of the commits of a store, the last first: those of the commits among the requests, whose calls came to a log from these rows on, and then those of
-- the commits before them.
abbrev pub rows_of_commits : {Image : Type 0} → Database → List View → List Segment → List Request → Log Image → List (List Segment) → List (List Segment)
rows_of_commits d pcbs rows requests log before = later_first (rows_at_commits d.types pcbs (opened pcbs rows) requests log.entries) before

-- the image of each commit passes for its rows
abbrev pub CommitsPass : Database → List (List Segment) → List Commit → Type 0
CommitsPass d [] [] = Unit {0}
CommitsPass d [] (c ∷ commits) = ⊥
CommitsPass d (rows ∷ earlier) [] = ⊥
CommitsPass d (rows ∷ earlier) (c ∷ commits) = PassesFor d c.image rows × CommitsPass d earlier commits

-- ---- what a crash leaves

-- an image passes for one of these lists of rows
abbrev pub PassesForOneOf : Database → List (List Segment) → List ℕ → Type 0
PassesForOneOf d [] image = ⊥
PassesForOneOf d (rows ∷ more) image = PassesFor d image rows ⊎ PassesForOneOf d more image

-- A crash at any moment since this one, which has passed, leaves a log and a volume that stand for an image which passes for one of these lists of rows.
pub record LeavesRowsOf (d : Database) (lists : List (List Segment)) (since : ℕ) (s : disk.State) : Type 0 where
  pub past : since ≤ s.moment
  pub each : (log volume : List ℕ) → s.left_since since log volume → PassesForOneOf d lists (recovered log volume)

-- Each commit has rows, the last commit the first. A crash since it leaves these, or those of a later commit, or rows that came behind all commits.
abbrev pub LeavesCommits : Database → List (List Segment) → List (List Segment) → List Commit → disk.State → Type 0
LeavesCommits d later [] [] s = Unit {0}
LeavesCommits d later [] (c ∷ commits) s = ⊥
LeavesCommits d later (rows ∷ earlier) [] s = ⊥
LeavesCommits d later (rows ∷ earlier) (c ∷ commits) s = LeavesRowsOf d (rows ∷ later) c.since s × LeavesCommits d (rows ∷ later) earlier commits s

-- ---- the law

-- a store has the bytes of its last commit, and none was tried since
abbrev pub IsAtCommit : Stored → Type 0
IsAtCommit store = (store.committed.image ≡ store.bytes) × (store.committed.tried ≡ store.bytes)

-- where a store was just opened over a log and a volume, its one commit is of its bytes, and passes for their rows
abbrev pub OpeningsPass : Database → Type 0
OpeningsPass d =
    (store : Stored) (rows : List Segment) → IsAtCommit store → store.committed.before ≡ [] → PassesFor d store.bytes rows → CommitsPass d (rows ∷ []) (commits_of store.committed)

-- Behind requests, however many, to a store of which the commits so far pass for their rows: its bytes passed for some rows; its commits pass, and where its disk
-- is safe for them, a crash since any of them leaves its rows, or those of a later one.
abbrev pub CrashesLeaveCommits : Database → disk.State → Type 0
CrashesLeaveCommits d s =
    (pcbs : List View) (store left : Stored) (requests : List Request) (before : List (List Segment)) → IsAtCommit store → CommitsPass d before (commits_of store.committed)
    → (done : IsDone d pcbs store requests left)
    → (rows : List Segment) × PassesFor d store.bytes rows × CommitsPass d (rows_of_commits d pcbs rows requests done.log before) (commits_of left.committed)
    × (IsSafe left.committed s → LeavesCommits d [] (rows_of_commits d pcbs rows requests done.log before) (commits_of left.committed) s)

-- Behind requests and a failed access, maybe one of a commit that was under way: the same, or a crash leaves the rows behind the requests.
abbrev pub CrashesLeaveCommitsOrTheLast : Database → disk.State → Type 0
CrashesLeaveCommitsOrTheLast d s =
    (pcbs : List View) (store left : Stored) (requests : List Request) (before : List (List Segment)) → IsAtCommit store → CommitsPass d before (commits_of store.committed)
    → (failed : IsDoneUntilFailure d pcbs store requests left)
    → (rows : List Segment) × PassesFor d store.bytes rows
    × (IsSafe left.committed s
    → LeavesCommits d ((last_state d.types pcbs (opened pcbs rows) failed.done.log.entries).rows ∷ []) (rows_of_commits d pcbs rows requests failed.done.log before) (commits_of left.committed) s)

-- a deck that was played over a store, or a part of it, made nothing last, or it is some requests, up to a failed access, if there was one
abbrev pub UnitsAreRequests : Database → Type 0
UnitsAreRequests d =
    (pcbs : List View) (store : Stored) (every : Option ℕ) (turns : List Turn) (new : Committed) → UnitCommits d pcbs store every turns new
    → (new ≡ store.committed) ⊎ (requests : List Request) × (bytes : List ℕ) × IsDoneUntilFailure d pcbs store requests (record { bytes = bytes; committed = new })

-- The law of crashes: take a volume and a log that stand for an image which passes, and play any interleaved list of calls, with commits among them. Whatever
-- moment the machine stops at, the files left stand for an image that passes, with the forest of the last commit by then, or, where one is under way, with
-- that one's. Behind a roll back the store has the bytes of its last commit, and it goes on from there.
pub record IsCrashLaw (d : Database) (s : disk.State) : Type 0 where
  pub opened : OpeningsPass d
  pub answered : CrashesLeaveCommits d s
  pub failed : CrashesLeaveCommitsOrTheLast d s
  pub units : UnitsAreRequests d

-- it holds of every database, in each state of a disk
abbrev pub CrashLaw : disk.State → Type 0
CrashLaw s = (d : Database) → IsCrashLaw d s
