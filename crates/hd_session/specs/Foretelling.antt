-- What a call would answer if it were made now, and then again and again.
use Rattle.std.specs.Prelude.{◌≡◌, ℕ, zero, suc, List, [], ◌∷◌, Bool, true, false, not, ◌&&◌, nat_le, cond, length, is_none, IsTrue}
use Rattle.std.specs.Option.{option_map_or}
use Rattle.hd_dbd.specs.Types.{SegmentType, View}
use Rattle.hd_dbd.specs.Segment.{Segment}
use Rattle.hd_dbd.specs.Hierarchy.{Database}
use Rattle.hd_dbd.specs.Positions.{Position}
use Rattle.hd_dbd.specs.Views.{Setting}
use Rattle.hd_dbd.specs.Calls.{CallText, Reply}
use Rattle.hd_calls.specs.declared.call.Function.{Function}
use Rattle.hd_calls.specs.declared.call.Function.TheVariants.{Get, Insert, Replace, Delete}
use Rattle.hd_calls.specs.Access.{loads}
use Rattle.hd_calls.specs.Functions.{function_of}
use Rattle.hd_calls.specs.Moves.{unchanged}
use Rattle.hd_calls.specs.Steps.{Effect, answered, wrong_area, effect_of, State, position_at}
use Rattle.hd_calls.specs.Runs.{view_of}
use Rattle.hd_volume.specs.Volumes.{VolumeState}
use Rattle.hd_position.specs.Kept.{Kept}
use Rattle.hd_update.specs.States.{Represents}
use Rattle.hd_session.specs.Opening.{SessionState}
use Rattle.hd_session.specs.Turns.{Turn}

-- ---- by rows and positions

-- the function is GU, GN or GNP, or its hold form
abbrev pub is_get : Function → Bool
is_get (Get kind hold) = true
is_get Insert = false
is_get Replace = false
is_get Delete = false

-- the call is one of these
abbrev pub is_get_call : CallText → Bool
is_get_call call = option_map_or is_get (function_of call.function) false

-- a call that can be foretold: a get with four segment search arguments at most, by a PCB that does not load; so it changes no row and takes no memory
abbrev pub can_be_foretold : View → CallText → Bool
can_be_foretold pcb call = not (loads pcb) && (is_get_call call && nat_le (length call.ssas) 4)

-- the answer of an effect, and, where that gives a segment, what comes from the position behind it
abbrev pub and_then : Effect → (Position → List Reply) → List Reply
and_then (answered reply change own) next = reply ∷ cond (is_none reply.segment) [] (next own)
and_then wrong_area next = []

-- what a call answers over some rows, made so often at most, the first time from a position and then from where the one before left off, up to the first answer
-- without a segment, which is among them
abbrev pub answers_from : Setting → List Segment → CallText → ℕ → Position → List Reply
answers_from s rows call zero p = []
answers_from s rows call (suc n) p = and_then (effect_of s rows p call) (λ own. answers_from s rows call n own)

-- what a call of a PCB is foretold to answer over some rows from a position on, so often at most; nothing where it can't be foretold
abbrev pub foretold_from : List SegmentType → List View → List Segment → Turn → ℕ → Position → List Reply
foretold_from types pcbs rows turn n p =
    option_map_or (λ pcb. cond (can_be_foretold pcb turn.call) (answers_from (record { types = types; pcb = pcb }) rows turn.call n p) []) (view_of pcbs turn.pcb) []

-- the same in a state, from where the PCB is
abbrev pub foretold : List SegmentType → List View → State → Turn → ℕ → List Reply
foretold types pcbs st turn n = foretold_from types pcbs st.rows turn n (position_at st turn.pcb)

-- ---- over a volume

-- the volume holds the rows, and what is kept, of one PCB, stands for the position
abbrev pub StandsOver : Database → VolumeState → List Kept → List Segment → Position → Type 0
StandsOver d v kept rows q = Represents d v kept (record { rows = rows; positions = q ∷ [] })

-- where the store is sound, what is kept stands for some position over the rows of the volume
abbrev pub HasOutlook : Database → VolumeState → List Kept → Type 0
HasOutlook d v kept = IsTrue v.is_sound → (rows : List Segment) × (q : Position) × StandsOver d v kept rows q

-- The reply is what the call answers there, no row changes, and what is kept now stands for where the call leaves off.
pub record IsNextAnswer (d : Database) (pcb : View) (call : CallText) (rows : List Segment) (q : Position) (reply : Reply) (w : VolumeState) (new : List Kept) : Type 0 where
  pub own : Position
  pub is : effect_of (record { types = d.types; pcb = pcb }) rows q call ≡ answered reply unchanged own
  pub stands : StandsOver d w new rows own

-- wherever what was kept stood, the call was answered so
abbrev pub IsNextForetold : Database → View → CallText → VolumeState → List Kept → Reply → VolumeState → List Kept → Type 0
IsNextForetold d pcb call v old reply w new =
    (rows : List Segment) (q : Position) → IsTrue v.is_sound → StandsOver d v old rows q → IsNextAnswer d pcb call rows q reply w new

-- ---- in a session

-- Of a session blocks were read and nothing else: over a sound store its image stays, and what is kept, what a crash leaves and whether it is whole do.
pub record IsOnlyRead (s t : SessionState) : Type 0 where
  pub same : t ≡ record s { volume = t.volume; broken = false }
  pub read : IsTrue s.volume.is_sound → t.volume.image ≡ s.volume.image
  pub failures : t.volume.failures ≡ s.volume.failures
  pub sound : t.volume.is_sound ≡ s.volume.is_sound
  pub committed : t.volume.committed ≡ s.volume.committed
  pub sizes : (t.volume.size ≡ s.volume.size) × (t.volume.sizes ≡ s.volume.sizes)
