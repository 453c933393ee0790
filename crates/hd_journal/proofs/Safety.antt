-- What a run leaves of the commits that were done.
use Rattle.std.proofs.Common.{◌≡◌, inl, inr, ⊎_elim, ℕ, Bool, true, false, List, [], ◌∷◌, map, sym, ap, ◌∙◌, subst, arith}
use Rattle.hd_stores.specs.Stores.{Commit, Committed, commits_of}
use Rattle.hd_journal.specs.Disk.{Mark, State, Marks, Leaves, LeavesMeanwhile}
use Rattle.hd_journal.specs.States.{StandsFor, StandsForEither}
use Rattle.hd_journal.specs.Framed.{StandsForOneOf, LeavesOneOf, AreSafe, IsSafe}
use Rattle.hd_journal.specs.Journals.{commit_of, IsMarked, committed_in}
use Rattle.hd_journal.proofs.Moments.{started, meanwhile, marked}

-- each pair that stands for one of the first stands for one of the second
abbrev Within : List (List ℕ) → List (List ℕ) → Type 0
Within first second = (l v : List ℕ) → StandsForOneOf first l v → StandsForOneOf second l v

within-more : (image : List ℕ) (first second : List (List ℕ)) → Within first second → Within (image ∷ first) (image ∷ second)
within-more image first second within l v (inl is) = inl is
within-more image first second within l v (inr is) = inr (within l v is)

module _ (P : List ℕ → List ℕ → Type 0) (a b : State) (runs : LeavesMeanwhile P a b) where
  one-runs : (first second : List (List ℕ)) (since : ℕ) → Within first second → ((l v : List ℕ) → P l v → StandsForOneOf second l v) → LeavesOneOf first since a → LeavesOneOf second since b
  one-runs first second since within here one = record {
    past = (let p = one.past in let q = runs.later in omega (arith, p, q));
    each = λ l v left. ⊎_elim (λ past. within l v (one.each l v past)) (λ p. here l v p) (runs.each since l v one.past left);
  }

  are-run : (first second : List (List ℕ)) (commits : List Commit) → Within first second → ((l v : List ℕ) → P l v → StandsForOneOf second l v) → AreSafe first commits a → AreSafe second commits b
  are-run first second [] within here safe = tt
  are-run first second (c ∷ commits) within here safe =
      let within-c = within-more c.image first second within in
      let here-c : (l v : List ℕ) → P l v → StandsForOneOf (c.image ∷ second) l v = λ l v p. inr (here l v p) in
      (one-runs (c.image ∷ first) (c.image ∷ second) c.since within-c here-c safe.0, are-run (c.image ∷ first) (c.image ∷ second) commits within-c here-c safe.1)

-- a run that leaves the last image
pub safe-runs : (a b : State) (c : Committed) → Leaves (StandsFor c.image) a b → IsSafe c a → IsSafe c b
safe-runs a b c runs safe =
    let later : List (List ℕ) = c.image ∷ c.tried ∷ [] in
    let here : (l v : List ℕ) → StandsFor c.image l v → StandsForOneOf later l v = λ l v is. inl is in
    let all : Within later later = λ l v is. is in
    (one-runs (StandsFor c.image) a b (meanwhile runs) later later c.since all here safe.0, are-run (StandsFor c.image) a b (meanwhile runs) later later c.before all here safe.1)

-- one that may leave another image too, while no other was tried
pub safe-tries : (a b : State) (c : Committed) (tried : List ℕ) → c.tried ≡ c.image → Leaves (StandsForEither c.image tried) a b → IsSafe c a → IsSafe (record c { tried = tried }) b
safe-tries a b c tried same runs safe =
    let first : List (List ℕ) = c.image ∷ c.tried ∷ [] in
    let second : List (List ℕ) = c.image ∷ tried ∷ [] in
    let here : (l v : List ℕ) → StandsForEither c.image tried l v → StandsForOneOf second l v = λ l v is. ⊎_elim (λ e. inl e) (λ e. inr (inl e)) is in
    let within : Within first second = λ l v is. ⊎_elim (λ e. inl e) (λ more. ⊎_elim (λ e. inl (e ∙ same)) (λ none. absurd none) more) is in
    let P : List ℕ → List ℕ → Type 0 = StandsForEither c.image tried in
    (one-runs P a b (meanwhile runs) first second c.since within here safe.0, are-run P a b (meanwhile runs) first second c.before within here safe.1)

none-run : {f : Bool} {a b : State} → Marks f a b → LeavesMeanwhile (λ _ _. ⊥) a b
none-run {a = a} {b = b} m = marked (meanwhile (started (λ _ _. ⊥) a)) m

-- a commit is marked, whose image is all that is left now
pub safe-marks : (a b : State) (c : Committed) (image : List ℕ) → Marks false a b → ((l v : List ℕ) → a.left_since a.moment l v → a.may_leave l v)
    → ((l v : List ℕ) → a.may_leave l v → StandsFor image l v) → IsSafe (record c { tried = image }) a
    → IsSafe (record { image = image; tried = image; since = a.moment; before = commits_of c }) b
safe-marks a b c image marks now is safe =
    let first : List (List ℕ) = image ∷ [] in
    let second : List (List ℕ) = image ∷ image ∷ [] in
    let within : Within first second = λ l v one. ⊎_elim (λ e. inl e) (λ none. absurd none) one in
    let here : (l v : List ℕ) → ⊥ → StandsForOneOf second l v = λ l v none. absurd none in (
      record {
        past = (let m = marks.moment in omega (arith, m));
        each = λ l v left. inl (is l v (now l v (marks.nothing_else a.moment l v left)));
      },
      are-run (λ _ _. ⊥) a b (none-run marks) first second (commits_of c) within here safe,
    )

-- the first commit
pub safe-first : (a b : State) (image : List ℕ) → Marks true a b → ((l v : List ℕ) → a.left_since a.moment l v → a.may_leave l v)
    → ((l v : List ℕ) → a.may_leave l v → StandsFor image l v) → IsSafe (record { image = image; tried = image; since = a.moment; before = [] }) b
safe-first a b image marks now is = (
  record {
    past = (let m = marks.moment in omega (arith, m));
    each = λ l v left. inl (is l v (now l v (marks.nothing_else a.moment l v left)));
  },
  tt,
)

-- a mark that is not made
pub safe-unmarked : (a b : State) (c : Committed) → LeavesMeanwhile (λ _ _. ⊥) a b → IsSafe c a → IsSafe c b
safe-unmarked a b c runs safe =
    let later : List (List ℕ) = c.image ∷ c.tried ∷ [] in
    let here : (l v : List ℕ) → ⊥ → StandsForOneOf later l v = λ l v none. absurd none in
    let all : Within later later = λ l v is. is in
    (one-runs (λ _ _. ⊥) a b runs later later c.since all here safe.0, are-run (λ _ _. ⊥) a b runs later later c.before all here safe.1)

-- ---- the commits that are marked

pub marks-same : (image image' : List ℕ) (marks marks' : List Mark) → image' ≡ image → marks' ≡ marks → IsMarked image marks → IsMarked image' marks'
marks-same image image' marks marks' same also is = subst (λ (ms : List Mark). IsMarked image' ms) (sym also) (subst (λ (x : List ℕ). IsMarked x marks) (sym same) is)

-- those before the next are those until now
pub marks-before : (image tried : List ℕ) (marks : List Mark) → IsMarked image marks → map commit_of marks ≡ commits_of (committed_in image tried marks)
marks-before image tried [] is = absurd is
marks-before image tried (m ∷ marks) is = ap (λ (x : List ℕ). record { image = x; since = m.moment } ∷ map commit_of marks) is
