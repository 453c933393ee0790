-- A commit is marked: what a journal keeps goes over, and what a crash leaves is known.
use Rattle.std.proofs.Common.{◌≡◌, ℕ, ◌≤◌, Bool, false, List, ◌∷◌, length, slice_index, refl, sym, ap, ◌∙◌, subst}
use Rattle.hd_stores.specs.Stores.{Commit, Committed, commits_of}
use Rattle.hd_journal.specs.declared.head.Head.{Head}
use Rattle.hd_journal.specs.declared.journal.Stage.{Stage}
use Rattle.hd_journal.specs.declared.journal.Stage.TheVariants.{Collecting, Published, Doubtful}
use Rattle.hd_journal.specs.Disk.{Mark, State, Syncs, Marks, HasVolume}
use Rattle.hd_journal.specs.Log.{image, Fits, Ends}
use Rattle.hd_journal.specs.States.{IsSettled, IsPublished, Begins, StandsFor}
use Rattle.hd_journal.specs.Framed.{before, fresh, AreFrames, IsFramed, IsSafe}
use Rattle.hd_journal.specs.Journals.{Holds, before_in, IsMarked, committed_in}
use Rattle.hd_journal.proofs.Moments.{synced, meanwhile}
use Rattle.hd_journal.proofs.Safety.{safe-marks, safe-unmarked, marks-before}

abbrev pub mark_of : State → Mark
mark_of s = record { moment = s.moment; log = s.log; volume = s.volume }

-- ---- the same bytes

pub image-over : (head : Head) (a b : State) → b.log ≡ a.log → b.volume ≡ a.volume → image head b.log b.volume ≡ image head a.log a.volume
image-over head a b log volume = ap (λ (l : List ℕ). image head l b.volume) log ∙ ap (image head a.log) volume

pub framed-over : (head : Head) (places : List ℕ) (a b : State) → b.log ≡ a.log → b.volume ≡ a.volume → IsFramed a head places → IsFramed b head places
framed-over head places a b log volume o = record {
  fits = subst (λ (l : List ℕ). Fits head l b.volume) (sym log) (subst (Fits head a.log) (sym volume) o.fits);
  whole = o.whole ∙ ap length (sym volume);
  frames = subst (λ (l : List ℕ). AreFrames head.size head.count l places) (sym log) o.frames;
  blocks = o.blocks;
}

-- ---- and what a crash leaves of them

module _ (f : Bool) (a b : State) (m : Marks f a b) where
  volume-marked : HasVolume a → HasVolume b
  volume-marked has = λ l v may. has l v (m.crash l v may) ∙ sym m.volume

  pub settled-marked : IsSettled a → IsSettled b
  settled-marked s = record { volume = volume-marked s.volume; shut = λ l v may. s.shut l v (m.crash l v may) }

  pub published-marked : (head : Head) → IsPublished head a → IsPublished head b
  published-marked head p = record {
    gate = subst (λ (l : List ℕ). slice_index l 0 ≡ 1) (sym m.log) p.gate;
    ends = subst (Ends head) (sym m.log) p.ends;
    fits = subst (λ (l : List ℕ). Fits head l b.volume) (sym m.log) (subst (Fits head a.log) (sym m.volume) p.fits);
    volume = volume-marked p.volume;
    log = λ l v may. subst (λ (x : List ℕ). Begins head x l) (sym m.log) (p.log l v (m.crash l v may));
  }

  pub held-marked : (stage : Stage) (last : Head) → Holds stage last a → Holds stage last b
  held-marked Collecting last h = (settled-marked h.0, h.1 ∙ ap (λ (v : List ℕ). fresh last (length v)) (sym m.volume))
  held-marked Published last h = (h.0, published-marked (before last) h.1)
  held-marked Doubtful last h = tt

-- ---- the commit that is marked

-- what a crash leaves then
pub is-committed : (y image last tried : List ℕ) (marks : List Mark) (m : Mark) (rest : List Mark) → y ≡ image → marks ≡ m ∷ rest → IsMarked last rest
    → committed_in y y marks ≡ record { image = image; tried = image; since = m.moment; before = commits_of (committed_in last tried rest) }
is-committed y image last tried marks m rest same also is =
    ap (λ (x : List ℕ). committed_in x x marks) same ∙ ap (committed_in image image) also
    ∙ ap (λ (xs : List Commit). record { image = image; tried = image; since = m.moment; before = xs }) (marks-before last tried rest is)

-- the commits before it
pub before-marked : (last tried : List ℕ) (marks : List Mark) (m : Mark) (rest : List Mark) → marks ≡ m ∷ rest → IsMarked last rest → before_in marks ≡ commits_of (committed_in last tried rest)
before-marked last tried marks m rest also is = ap before_in also ∙ marks-before last tried rest is

-- it is safe, where all that is left now is its image
pub safe-marked : (a b : State) (last image y : List ℕ) → Marks false a b → ((l v : List ℕ) → a.left_since a.moment l v → a.may_leave l v)
    → ((l v : List ℕ) → a.may_leave l v → StandsFor image l v) → IsMarked last a.marks → y ≡ image → IsSafe (committed_in last image a.marks) a → IsSafe (committed_in y y b.marks) b
safe-marked a b last image y marks now is marked same safe =
    subst (λ (c : Committed). IsSafe c b) (sym (is-committed y image last image b.marks (mark_of a) a.marks same marks.marks marked)) (safe-marks a b (committed_in last image a.marks) image marks now is safe)

-- one that is not made leaves all as it is
pub safe-kept : (a b : State) (last tried x y : List ℕ) → Syncs a b → ((t : ℕ) (l v : List ℕ) → t ≤ a.moment → a.may_leave l v → a.left_since t l v) → x ≡ last → y ≡ tried
    → IsSafe (committed_in last tried a.marks) a → IsSafe (committed_in x y b.marks) b
safe-kept a b last tried x y syncs counts same also safe =
    let e : committed_in x y b.marks ≡ committed_in last tried a.marks = rw (same, also, syncs.time.marks) refl in
    subst (λ (c : Committed). IsSafe c b) (sym e) (safe-unmarked a b (committed_in last tried a.marks) (meanwhile (synced syncs counts)) safe)

-- the mark is of what a crash leaves
pub mark-stands : (s b : State) (image y : List ℕ) (rest : List Mark) → s.may_leave s.log s.volume → ((l v : List ℕ) → s.may_leave l v → StandsFor image l v) → y ≡ image → b.marks ≡ mark_of s ∷ rest → IsMarked y b.marks
mark-stands s b image y rest stays is same marks = subst (IsMarked y) (sym marks) (is s.log s.volume stays ∙ sym same)
