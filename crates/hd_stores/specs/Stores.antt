-- What the calls of a block store say of its count of failures and of its soundness, by what they answer.
use Rattle.std.specs.Prelude.{◌≡◌, ◌⊎◌, ℕ, ◌<◌, Bool, false, IsTrue, List, [], ◌∷◌, Result, MatchResult}
use Rattle.hd_dbd.specs.declared.answer.Refused.{Refused}
use Rattle.hd_dbd.specs.declared.answer.Refused.TheVariants.{Memory, Full, Device, Broken, Area}

-- a refusal counts a failure exactly where it is Device
abbrev pub CountsFor : Refused → ℕ → ℕ → Type 0
CountsFor Memory old new = new ≡ old
CountsFor Full old new = new ≡ old
CountsFor Device old new = old < new
CountsFor Broken old new = new ≡ old
CountsFor Area old new = new ≡ old

-- a call answers Device exactly where it counted a failure
abbrev pub CountsDevice : {T : Type 0} → Result T Refused → ℕ → ℕ → Type 0
CountsDevice result old new = MatchResult result (λ _. new ≡ old) (λ e. CountsFor e old new)

-- a failed access leaves a store unsound; nothing else changes that
abbrev pub SoundFor : Refused → Bool → Bool → Type 0
SoundFor Memory old new = new ≡ old
SoundFor Full old new = new ≡ old
SoundFor Device old new = new ≡ false
SoundFor Broken old new = new ≡ old
SoundFor Area old new = new ≡ old

abbrev pub StaysSound : {T : Type 0} → Result T Refused → Bool → Bool → Type 0
StaysSound result old new = MatchResult result (λ _. new ≡ old) (λ e. SoundFor e old new)

-- A commit that was done: a crash at any moment since this one leaves its image, or that of a later commit.
pub record Commit : Type 0 where
  pub image : List ℕ
  pub since : ℕ

-- What a crash leaves of a store from its last commit on: the image of that, or of a commit which was tried since then and failed; where none was, the two
-- images are one. The commits before the last, the later ones first, say it of earlier moments; the earliest is the opening.
pub record Committed : Type 0 where
  pub image : List ℕ
  pub tried : List ℕ
  pub since : ℕ
  pub before : List Commit

-- the last commit, and those before it
abbrev pub commits_of : Committed → List Commit
commits_of c = record { image = c.image; since = c.since } ∷ c.before

-- that of a store which has no commits
abbrev pub uncommitted : Committed
uncommitted = record { image = []; tried = []; since = 0; before = [] }

-- A commit is done: the contents stay and are the image that a crash leaves, and the commits until now are those before it.
abbrev pub IsCommit : Bool → List ℕ → List ℕ → Committed → Committed → Type 0
IsCommit is_sound contents new_contents old new =
    IsTrue is_sound → (new_contents ≡ contents) × (new.image ≡ contents) × (new.tried ≡ contents) × (new.before ≡ commits_of old)

-- A commit failed: a crash leaves what it would have left before, or the contents too.
abbrev pub FailsCommit : Bool → List ℕ → Committed → Committed → Type 0
FailsCommit is_sound contents old new = (new ≡ old) ⊎ IsTrue is_sound × (new ≡ record old { tried = contents })

-- a growth is refused at a failed access, or for memory beyond the room reserved
abbrev pub RefusesGrowth : Refused → ℕ → ℕ → Type 0
RefusesGrowth Memory room blocks = room < blocks
RefusesGrowth Full room blocks = ⊥
RefusesGrowth Device room blocks = Unit {0}
RefusesGrowth Broken room blocks = ⊥
RefusesGrowth Area room blocks = ⊥

-- A store that is given back with a refusal: nothing was changed for want of memory, or an access failed.
pub record IsGivenBack {S : Type 0} (size : S → ℕ) (contents : S → List ℕ) (is_sound : S → Bool) (failures : S → ℕ) (committed : S → Committed) (old : S) (given : S × Refused) : Type 0 where
  pub refusal : (given.1 ≡ Memory) ⊎ (given.1 ≡ Device)
  pub counts : CountsFor given.1 (failures old) (failures given.0)
  pub sound : SoundFor given.1 (is_sound old) (is_sound given.0)
  pub kept : given.1 ≡ Memory → IsTrue (is_sound old) → contents given.0 ≡ contents old
  pub size_kept : size given.0 ≡ size old
  pub committed_kept : committed given.0 ≡ committed old
