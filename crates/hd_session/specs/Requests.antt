-- What a program asks for in a session, calls with commits among them, and what lasts by what its calls came to.
use Rattle.std.specs.Prelude.{◌≡◌, List, [], ◌∷◌, ◌++◌, ℕ, drop, replicate, IsTrue}
use Rattle.hd_dbd.specs.Logs.{Entry}
use Rattle.hd_calls.specs.Runs.{image_at}
use Rattle.hd_calls.specs.Steps.{State}
use Rattle.hd_stores.specs.Stores.{Committed, commits_of, FailsCommit}
use Rattle.hd_update.specs.States.{Represents}
use Rattle.hd_session.specs.Opening.{SessionState}
use Rattle.hd_session.specs.Turns.{Turn, AreMade}

-- What a program asks for while its session goes on: a call; a call that is made so often and not answered; what a call would answer now and then again, so often at most; or
-- that what the calls so far changed is to last.
pub data Request : Type 0 where
  ask : Turn → Request
  make : Turn → ℕ → Request
  foretell : Turn → ℕ → Request
  commit : Request

-- the calls among requests
abbrev pub calls_in : List Request → List Turn
calls_in [] = []
calls_in (ask turn ∷ requests) = turn ∷ calls_in requests
calls_in (make turn n ∷ requests) = replicate n turn ++ calls_in requests
calls_in (foretell turn n ∷ requests) = calls_in requests
calls_in (commit ∷ requests) = calls_in requests

-- The images that the commits among requests found, in their order. Their calls came to these entries, and left the last image: a commit found the image
-- before the call that follows it, or the last image where none does.
abbrev pub committed_by : {Image : Type 0} → List Request → List (Entry Image) → Image → List Image
committed_by [] entries last = []
committed_by (ask turn ∷ requests) [] last = []
committed_by (ask turn ∷ requests) (e ∷ entries) last = committed_by requests entries last
committed_by (make turn n ∷ requests) entries last = committed_by requests (drop n entries) last
committed_by (foretell turn n ∷ requests) entries last = committed_by requests entries last
committed_by (commit ∷ requests) entries last = image_at entries last ∷ committed_by requests entries last

-- commits made these images last, one behind the other; where there was none, a crash leaves what it would have left before
abbrev pub Lasts : List (List ℕ) → Committed → Committed → Type 0
Lasts [] old new = new ≡ old
Lasts (image ∷ images) old new = (since : ℕ) × Lasts images (record { image = image; tried = image; since = since; before = commits_of old }) new

-- Requests were carried out: their calls came to these entries, and each commit among them made last the image that it found.
pub record AreDone (s : SessionState) (st : State) (requests : List Request) (entries : List (Entry (List ℕ))) (t : SessionState) : Type 0 where
  pub made : AreMade s st (calls_in requests) entries t
  pub lasts : Lasts (committed_by requests entries t.volume.image) s.volume.committed t.volume.committed

-- what a failed access leaves for a crash: what there was, or, where it was one of a commit, the image of the session too
abbrev pub FailsIn : SessionState → SessionState → Type 0
FailsIn s t = FailsCommit s.volume.is_sound s.volume.image s.volume.committed t.volume.committed

-- Requests were carried out, and then an access failed: maybe in a commit, and then a crash may leave the image behind them too.
pub record AreBroken (s : SessionState) (st : State) (requests : List Request) (t : SessionState) : Type 0 where
  pub last : SessionState
  pub entries : List (Entry (List ℕ))
  pub done : AreDone s st requests entries last
  pub fails : FailsIn last t

-- whatever state the session stood for, the requests were carried out from it
abbrev pub DoesAll : SessionState → List Request → SessionState → Type 0
DoesAll s requests t = (st : State) → IsTrue s.volume.is_sound → Represents s.database s.volume s.kept st → (entries : List (Entry (List ℕ))) × AreDone s st requests entries t

-- whatever state the session stood for, the requests were carried out from it, and then an access failed
abbrev pub BreaksBehind : SessionState → List Request → SessionState → Type 0
BreaksBehind s requests t = (st : State) → IsTrue s.volume.is_sound → Represents s.database s.volume s.kept st → AreBroken s st requests t
