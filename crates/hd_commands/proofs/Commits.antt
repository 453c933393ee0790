-- What a crash leaves of calls with commits among them.
use Rattle.std.proofs.Common.{◌≡◌, ℕ, zero, suc, List, [], ◌∷◌, ◌++◌, length, take, drop, true, refl, inl, inr, ap, sym, ◌∙◌, subst}
use Rattle.hd_dbd.specs.Types.{View}
use Rattle.hd_dbd.specs.Hierarchy.{Database}
use Rattle.hd_dbd.specs.Segment.{Segment}
use Rattle.hd_dbd.specs.Forest.{sequence}
use Rattle.hd_dbd.specs.Logs.{Entry}
use Rattle.hd_calls.specs.NoLostUpdate.{opened}
use Rattle.hd_calls.specs.Runs.{ImagesFollow, image_at, next_state, last_state}
use Rattle.hd_calls.specs.Steps.{State}
use Rattle.hd_stores.specs.Stores.{Commit, Committed, commits_of, FailsCommit}
use Rattle.hd_changes.specs.VolumeImages.{images_of}
use Rattle.std.proofs.lemmas.List.{append-nil, length-map}
use Rattle.hd_session.specs.Turns.{Turn}
use Rattle.hd_session.specs.Requests.{Request, ask, make, foretell, commit, calls_in, committed_by, Lasts}
use Rattle.hd_session.proofs.Requests.{calls_append, committed_append, lasts_both, one_lasts}
use Rattle.hd_deck.specs.Runs.{IsPlayed}
use Rattle.hd_deck.specs.Commits.{Stored, IsDone}
use Rattle.hd_journal.specs.Disk as disk
use Rattle.hd_journal.specs.Log.{recovered}
use Rattle.hd_journal.specs.Journals.{IsCommitted}
use Rattle.hd_journal.specs.Framed.{StandsForOneOf, AreSafe, IsSafe}
use Rattle.hd_commands.specs.Headline.{PassesFor}
use Rattle.hd_commands.specs.Crashes.{rows_at_commits, later_first, rows_of_commits, CommitsPass, PassesForOneOf, LeavesCommits, IsAtCommit, OpeningsPass, CrashesLeaveCommits, CrashesLeaveCommitsOrTheLast, UnitsAreRequests, IsCrashLaw}
use Rattle.hd_commands.proofs.Headline.{passes, log_passes}

-- ---- commits and their rows

-- each image passes for the rows at its number
abbrev AllPass : Database → List (List ℕ) → List (List Segment) → Type 0
AllPass d [] [] = Unit {0}
AllPass d [] (rows ∷ lists) = ⊥
AllPass d (image ∷ images) [] = ⊥
AllPass d (image ∷ images) (rows ∷ lists) = PassesFor d image rows × AllPass d images lists

-- the image before some entries passes for the rows of the state there
first_passes : (d : Database) (pcbs : List View) (st : State) (entries : List (Entry (List ℕ))) (last : List ℕ) → ImagesFollow (images_of d) d.types pcbs st entries last
    → PassesFor d (image_at entries last) st.rows
first_passes d pcbs st [] last follow = passes d last follow.1.placed st.rows follow.1.holds follow.1.rows_are
first_passes d pcbs st (e ∷ es) last follow = passes d e.before follow.0.1.placed st.rows follow.0.1.holds follow.0.1.rows_are

-- the images behind the first entries follow from the state behind them
follow_behind : (d : Database) (pcbs : List View) (n : ℕ) (st : State) (entries : List (Entry (List ℕ))) (last : List ℕ) → ImagesFollow (images_of d) d.types pcbs st entries last
    → ImagesFollow (images_of d) d.types pcbs (last_state d.types pcbs st (take n entries)) (drop n entries) last
follow_behind d pcbs zero st entries last follow = follow
follow_behind d pcbs (suc n) st [] last follow = follow
follow_behind d pcbs (suc n) st (e ∷ es) last follow = follow_behind d pcbs n (next_state d.types pcbs st e) es last follow.2

-- the images that commits among requests found pass for the rows at them
commits_pass : (d : Database) (pcbs : List View) (st : State) (requests : List Request) (entries : List (Entry (List ℕ))) (last : List ℕ)
    → ImagesFollow (images_of d) d.types pcbs st entries last → AllPass d (committed_by requests entries last) (rows_at_commits d.types pcbs st requests entries)
commits_pass d pcbs st [] entries last follow = tt
commits_pass d pcbs st (ask turn ∷ requests) [] last follow = tt
commits_pass d pcbs st (ask turn ∷ requests) (e ∷ es) last follow = commits_pass d pcbs (next_state d.types pcbs st e) requests es last follow.2
commits_pass d pcbs st (make turn n ∷ requests) entries last follow =
    commits_pass d pcbs (last_state d.types pcbs st (take n entries)) requests (drop n entries) last (follow_behind d pcbs n st entries last follow)
commits_pass d pcbs st (foretell turn n ∷ requests) entries last follow = commits_pass d pcbs st requests entries last follow
commits_pass d pcbs st (commit ∷ requests) entries last follow = (first_passes d pcbs st entries last follow, commits_pass d pcbs st requests entries last follow)

-- so do all commits of a store behind them, the last first
lasts_pass : (d : Database) (images : List (List ℕ)) (lists earlier : List (List Segment)) (old new : Committed) → Lasts images old new → AllPass d images lists
    → CommitsPass d earlier (commits_of old) → CommitsPass d (later_first lists earlier) (commits_of new)
lasts_pass d [] [] earlier old new same all before = subst (λ (c : Committed). CommitsPass d earlier (commits_of c)) (sym same) before
lasts_pass d [] (rows ∷ lists) earlier old new same all before = absurd all
lasts_pass d (image ∷ images) [] earlier old new more all before = absurd all
lasts_pass d (image ∷ images) (rows ∷ lists) earlier old new more all before =
    lasts_pass d images lists (rows ∷ earlier) (record { image = image; tried = image; since = more.0; before = commits_of old }) new more.1 all.1 (all.0, before)

-- and none was tried since
none_tried : (images : List (List ℕ)) (old new : Committed) → Lasts images old new → old.tried ≡ old.image → new.tried ≡ new.image
none_tried [] old new same is = subst (λ (c : Committed). c.tried ≡ c.image) (sym same) is
none_tried (image ∷ images) old new more is = none_tried images (record { image = image; tried = image; since = more.0; before = commits_of old }) new more.1 refl

-- ---- what a crash leaves

-- what stands for one of the images passes for one of the lists of rows
abbrev Covers : Database → List (List ℕ) → List (List Segment) → Type 0
Covers d images lists = (log volume : List ℕ) → StandsForOneOf images log volume → PassesForOneOf d lists (recovered log volume)

-- with one commit more
covers_more : (d : Database) (image : List ℕ) (rows : List Segment) (images : List (List ℕ)) (lists : List (List Segment)) → PassesFor d image rows → Covers d images lists
    → Covers d (image ∷ images) (rows ∷ lists)
covers_more d image rows images lists is more log volume (inl stands) = inl (subst (λ (bytes : List ℕ). PassesFor d bytes rows) (sym stands) is)
covers_more d image rows images lists is more log volume (inr stands) = inr (more log volume stands)

-- commits before one
leaves_before : (d : Database) (images : List (List ℕ)) (later : List (List Segment)) (commits : List Commit) (lists : List (List Segment)) (s : disk.State)
    → Covers d images later → AreSafe images commits s → CommitsPass d lists commits → LeavesCommits d later lists commits s
leaves_before d images later [] [] s covers safe all = tt
leaves_before d images later [] (rows ∷ lists) s covers safe all = absurd all
leaves_before d images later (c ∷ commits) [] s covers safe all = absurd all
leaves_before d images later (c ∷ commits) (rows ∷ lists) s covers safe all =
    let more : Covers d (c.image ∷ images) (rows ∷ later) = covers_more d c.image rows images later all.0 covers in
    (record { past = safe.0.past; each = λ log volume left. more log volume (safe.0.each log volume left) }, leaves_before d (c.image ∷ images) (rows ∷ later) commits lists s more safe.1 all.1)

-- the last commit, and those before it
leaves_from : (d : Database) (tried : List ℕ) (later : List (List Segment)) (c : Commit) (commits : List Commit) (rows : List Segment) (lists : List (List Segment)) (s : disk.State)
    → Covers d (c.image ∷ tried ∷ []) (rows ∷ later) → AreSafe (tried ∷ []) (c ∷ commits) s → CommitsPass d lists commits → LeavesCommits d later (rows ∷ lists) (c ∷ commits) s
leaves_from d tried later c commits rows lists s covers safe all =
    (record { past = safe.0.past; each = λ log volume left. covers log volume (safe.0.each log volume left) }, leaves_before d (c.image ∷ tried ∷ []) (rows ∷ later) commits lists s covers safe.1 all)

-- the one commit of a store that was just opened
openings : (d : Database) → OpeningsPass d
openings d store rows at first is =
    (subst (λ (bytes : List ℕ). PassesFor d bytes rows) (sym at.0) is, subst (λ (commits : List Commit). CommitsPass d [] commits) (sym first) tt)

-- what a crash leaves since each commit, where it is known since the last
leaves_commits : (d : Database) (c : Committed) (later lists : List (List Segment)) (s : disk.State) → CommitsPass d lists (commits_of c)
    → ((rows : List Segment) → PassesFor d c.image rows → Covers d (c.image ∷ c.tried ∷ []) (rows ∷ later)) → IsSafe c s → LeavesCommits d later lists (commits_of c) s
leaves_commits d c later [] s all covers safe = absurd all
leaves_commits d c later (rows ∷ lists) s all covers safe =
    leaves_from d c.tried later (record { image = c.image; since = c.since }) c.before rows lists s (covers rows all.0) safe all.1

-- since the last commit, where none was tried behind it
covers_same : (d : Database) (image tried : List ℕ) (later : List (List Segment)) → tried ≡ image → (rows : List Segment) → PassesFor d image rows → Covers d (image ∷ tried ∷ []) (rows ∷ later)
covers_same d image tried later none rows is log volume (inl stands) = inl (subst (λ (bytes : List ℕ). PassesFor d bytes rows) (sym stands) is)
covers_same d image tried later none rows is log volume (inr (inl stands)) = inl (subst (λ (bytes : List ℕ). PassesFor d bytes rows) (sym (stands ∙ none)) is)
covers_same d image tried later none rows is log volume (inr (inr never)) = absurd never

-- and where one was
covers_tried : (d : Database) (image tried : List ℕ) (now : List Segment) → PassesFor d tried now → (rows : List Segment) → PassesFor d image rows → Covers d (image ∷ tried ∷ []) (rows ∷ now ∷ [])
covers_tried d image tried now last rows is log volume (inl stands) = inl (subst (λ (bytes : List ℕ). PassesFor d bytes rows) (sym stands) is)
covers_tried d image tried now last rows is log volume (inr (inl stands)) = inr (inl (subst (λ (bytes : List ℕ). PassesFor d bytes now) (sym stands) last))
covers_tried d image tried now last rows is log volume (inr (inr never)) = absurd never

module _ (d : Database) (pcbs : List View) (store left : Stored) (requests : List Request) (before : List (List Segment)) (at : IsAtCommit store) (pass : CommitsPass d before (commits_of store.committed))
    (done : IsDone d pcbs store requests left) where
  rows : List Segment
  rows = sequence done.played.forest

  opened_passes : PassesFor d store.bytes rows
  unfolding rows
  opened_passes = passes d store.bytes done.played.holds.0 (sequence done.played.forest) done.played.holds.2 (ap sequence done.played.holds.1)

  -- all commits pass for their rows
  all_pass : CommitsPass d (rows_of_commits d pcbs rows requests done.log before) (commits_of left.committed)
  unfolding rows
  all_pass =
      lasts_pass d (committed_by requests done.log.entries done.log.last) (rows_at_commits d.types pcbs (opened pcbs rows) requests done.log.entries) before store.committed left.committed done.lasts
      (commits_pass d pcbs (opened pcbs rows) requests done.log.entries done.log.last done.played.legal.follows) pass

  -- none was tried
  none : left.committed.tried ≡ left.committed.image
  none = none_tried (committed_by requests done.log.entries done.log.last) store.committed left.committed done.lasts (at.1 ∙ sym at.0)

  -- what is left passes for the rows behind the requests
  left_passes : PassesFor d left.bytes (last_state d.types pcbs (opened pcbs rows) done.log.entries).rows
  unfolding rows
  left_passes =
      subst (λ (bytes : List ℕ). PassesFor d bytes (last_state d.types pcbs (opened pcbs rows) done.log.entries).rows) done.played.ends
      (log_passes d pcbs (opened pcbs rows) done.log.entries done.log.last done.played.legal.follows)

answered : (d : Database) (s : disk.State) → CrashesLeaveCommits d s
answered d s pcbs store left requests before at pass done = (
  rows d pcbs store left requests before at pass done,
  opened_passes d pcbs store left requests before at pass done,
  all_pass d pcbs store left requests before at pass done,
  λ safe.
      leaves_commits d left.committed [] (rows_of_commits d pcbs (rows d pcbs store left requests before at pass done) requests done.log before) s (all_pass d pcbs store left requests before at pass done)
      (covers_same d left.committed.image left.committed.tried [] (none d pcbs store left requests before at pass done)) safe,
)

module _ (d : Database) (lists : List (List Segment)) (now : List Segment) (bytes : List ℕ) (old new : Committed) (s : disk.State) (all : CommitsPass d lists (commits_of old)) where
  -- behind a failed access
  left_by_failure : old.tried ≡ old.image → PassesFor d bytes now → FailsCommit true bytes old new → IsSafe new s → LeavesCommits d (now ∷ []) lists (commits_of new) s
  left_by_failure untried last (inl same) safe =
      leaves_commits d new (now ∷ []) lists s (subst (λ (c : Committed). CommitsPass d lists (commits_of c)) (sym same) all)
      (covers_same d new.image new.tried (now ∷ []) (subst (λ (c : Committed). c.tried ≡ c.image) (sym same) untried)) safe
  left_by_failure untried last (inr tried) safe =
      leaves_commits d new (now ∷ []) lists s (subst (λ (c : Committed). CommitsPass d lists (commits_of c)) (sym tried.1) all)
      (covers_tried d new.image new.tried now (subst (λ (c : Committed). PassesFor d c.tried now) (sym tried.1) last)) safe

failed : (d : Database) (s : disk.State) → CrashesLeaveCommitsOrTheLast d s
failed d s pcbs store left requests before at pass failure =
    let last : Stored = failure.last in
    let done : IsDone d pcbs store requests last = failure.done in
    let opened_rows = rows d pcbs store last requests before at pass done in
    let now = (last_state d.types pcbs (opened pcbs opened_rows) done.log.entries).rows in (
      opened_rows,
      opened_passes d pcbs store last requests before at pass done,
      λ safe.
          left_by_failure d (rows_of_commits d pcbs opened_rows requests done.log before) now last.bytes last.committed left.committed s (all_pass d pcbs store last requests before at pass done)
          (none d pcbs store last requests before at pass done) (left_passes d pcbs store last requests before at pass done) failure.fails safe,
    )

-- ---- a deck

module _ (d : Database) (pcbs : List View) (store : Stored) (requests : List Request) (left : Stored) (done : IsDone d pcbs store requests left) (new : Committed) (is : IsCommitted left.bytes left.committed new) where
  more_calls : calls_in (requests ++ commit ∷ []) ≡ calls_in requests
  more_calls = calls_append requests (commit ∷ []) ∙ append-nil (calls_in requests)

  count : length done.log.entries ≡ length (calls_in requests)
  count = sym (length-map done.log.entries (λ e. record { pcb = e.pcb; call = e.call })) ∙ ap (λ (ts : List Turn). length ts) done.played.asked

  images : committed_by (requests ++ commit ∷ []) done.log.entries done.log.last ≡ committed_by requests done.log.entries done.log.last ++ done.log.last ∷ []
  images =
      ap (λ (es : List (Entry (List ℕ))). committed_by (requests ++ commit ∷ []) es done.log.last) (sym (append-nil done.log.entries))
      ∙ committed_append requests (commit ∷ []) done.log.entries [] done.log.last done.log.last count refl

  -- a commit behind requests makes last what they left
  pub committed_done : IsDone d pcbs store (requests ++ commit ∷ []) (record { bytes = left.bytes; committed = new })
  committed_done = record {
    log = done.log;
    played = subst (λ (ts : List Turn). IsPlayed d pcbs store.bytes ts done.log left.bytes) (sym more_calls) done.played;
    lasts = subst (λ (is : List (List ℕ)). Lasts is store.committed new) (sym images)
        (lasts_both (committed_by requests done.log.entries done.log.last) (done.log.last ∷ []) store.committed left.committed new done.lasts
        (one_lasts left.committed new done.log.last (is.0 ∙ sym done.played.ends, is.1 ∙ sym done.played.ends, is.2)));
  }

  -- with the log of the calls
  pub committed_log : committed_done.log ≡ done.log
  unfolding committed_done
  committed_log = refl

-- a deck, or a part of it
units : (d : Database) → UnitsAreRequests d
units d pcbs store every turns new (inl same) = inl same
units d pcbs store every turns new (inr part) = inr (part.requests, part.bytes, part.done)

pub crash_law : (d : Database) (s : disk.State) → IsCrashLaw d s
crash_law d s = record { opened = openings d; answered = answered d s; failed = failed d s; units = units d }
