-- What serving a program's requests comes to: the requests that came in frames, the log of their calls, what their commits made last, the answers, and
-- what is left.
use Rattle.std.specs.Prelude.{◌≡◌, ◌≢◌, ◌⊎◌, IsTrue, ℕ, ◌≤◌, List, [], ◌∷◌, ◌++◌, length, flat_map, All, Bool, false, Option, Some, Result, Ok, Err, IfSome}
use Rattle.std.specs.Io.KnownBytes.{Appends, Consumes, IsAtEnd, prepend_known}
use Rattle.hd_dbd.specs.declared.answer.Refused.{Refused}
use Rattle.hd_dbd.specs.declared.answer.Refused.TheVariants as refused
use Rattle.hd_dbd.specs.Types.{View}
use Rattle.hd_dbd.specs.Hierarchy.{Database, longest_path}
use Rattle.hd_dbd.specs.Logs.{Entry}
use Rattle.hd_dbd.specs.Forest.{sequence}
use Rattle.hd_calls.specs.NoLostUpdate.{opened}
use Rattle.hd_calls.specs.Steps.{State}
use Rattle.hd_stores.specs.Stores.{Committed}
use Rattle.hd_image.specs.Holding.{volume_of}
use Rattle.hd_update.specs.States.{Represents}
use Rattle.hd_session.specs.declared.call_and_answer.Answer.{Answer}
use Rattle.hd_session.specs.declared.opening.OpenFault.TheVariants as opening
use Rattle.hd_session.specs.Buffer.{Buffer}
use Rattle.hd_session.specs.Replies.{reply_of}
use Rattle.hd_session.specs.Opening.{SessionState, IsOpenFaultOf}
use Rattle.hd_session.specs.Turns.{Turn, IsTurnAnswered, StaysWhole}
use Rattle.hd_session.specs.Foretelling.{foretold, IsOnlyRead}
use Rattle.hd_session.specs.Requests.{Request, make, calls_in, AreDone, DoesAll, BreaksBehind, FailsIn}
use Rattle.hd_deck.specs.Runs.{memory_of, memory_in, Breaks}
use Rattle.hd_deck.specs.Commits.{Stored, stored_in, Leaves, DoesOut, BreaksOut, IsDone, IsDoneUntilFailure}
use Rattle.hd_serve.specs.declared.call.Limits.{Limits}
use Rattle.hd_serve.specs.declared.fault.FrameFault.{FrameFault}
use Rattle.hd_serve.specs.declared.request.FramedRequest.TheVariants as asks
use Rattle.hd_serve.specs.Frames.{frame_bytes, request_bytes, RequestFits, IsWrong}
use Rattle.hd_serve.specs.Answers.{answer_bytes, refusal_bytes, in_room, TOLD_ROOM}
use Rattle.hd_serve.specs.Requests.{framed, frames_of, answers_to}
use Rattle.hd_serve.specs.Hello.{hello_fits}
use Rattle.hd_serve.specs.Services.{ServiceState}
use Rattle.hd_serve.specs.declared.answered_calls.Halt.{Halt}
use Rattle.hd_serve.specs.declared.answered_calls.Halt.TheVariants as halt
use Rattle.hd_serve.specs.declared.desk.Stop.{Stop}
use Rattle.hd_serve.specs.declared.desk.Stop.TheVariants as stop
use Rattle.hd_serve.specs.declared.desk.Ending.{Ending}
use Rattle.hd_serve.specs.declared.desk.Ending.TheVariants as ending
use Rattle.hd_serve.specs.declared.desk.Next.{Next}
use Rattle.hd_serve.specs.declared.desk.Next.TheVariants as next
use Rattle.hd_serve.specs.declared.service.ServeFault.{ServeFault}
use Rattle.hd_serve.specs.declared.service.ServeFault.TheVariants as serve
use Rattle.hd_serve.specs.declared.service.ServeEnd.{ServeEnd}
use Rattle.hd_serve.specs.declared.desk.Desk.{Desk}
use Rattle.hd_serve.specs.declared.answered_calls.Count.{Count}

-- ---- what is foretold

-- Behind some bytes stand the frames of what a call is foretold to answer, so often at most and as far as there is room, in whatever state the session stood for;
-- and of the session blocks were only read.
pub record GathersTold (s : SessionState) (turn : Turn) (n : ℕ) (old new : List ℕ) (t : SessionState) : Type 0 where
  pub only : IsOnlyRead s t
  pub behind : (rest : List ℕ) × (new ≡ old ++ rest)
  pub told : (st : State) → IsTrue s.volume.is_sound → Represents s.database s.volume s.kept st
      → new ≡ old ++ flat_map (λ r. frame_bytes (answer_bytes r)) (in_room TOLD_ROOM (foretold s.database.types s.pcbs st turn n))

-- ---- the input

-- the body of the frame that says what a call answered
abbrev pub answered_bytes : Result Answer Refused → Buffer → List ℕ
answered_bytes (Ok a) b = answer_bytes (reply_of a b)
answered_bytes (Err e) b = refusal_bytes e

-- what a right frame keeps to, where calls are made by the PCBs of a program
abbrev pub limits_of : Database → List View → Limits
limits_of d pcbs = record { pcbs = length pcbs; area = longest_path d.types }

-- The input begins with the frames of these requests, each a right one, and this is so of what is behind them.
pub record AreAsked (limits : Limits) (input : Option (List ℕ)) (requests : List Request) (Behind : List ℕ → Type 0) : Type 0 where
  pub right : All (λ r. RequestFits limits (framed r)) requests
  pub spelled : IfSome input (λ bytes. (rest : List ℕ) × (bytes ≡ frames_of requests ++ rest) × Behind rest)

-- the input ends, or a roll back's frame comes, which is taken
abbrev pub EndsBy : Ending → Option (List ℕ) → Option (List ℕ) → Type 0
EndsBy ending.Input before after = IsAtEnd before
EndsBy ending.RollBack before after = Consumes before after (frame_bytes (request_bytes asks.RollBack))

-- so a session ends, and this is unread then
abbrev pub Ends : Ending → Option (List ℕ) → List ℕ → Type 0
Ends e after rest = EndsBy e (Some rest) after

-- a frame begins that is no right one
abbrev pub GoesWrong : Limits → FrameFault → List ℕ → Type 0
GoesWrong limits e rest = IsWrong limits (Some rest) e

-- whatever follows
abbrev pub GoesOn : List ℕ → Type 0
GoesOn rest = Unit {0}

-- ---- in a session

-- Requests were carried out, and behind some bytes their answers were written; and so many of the calls found no memory.
pub record AreServed (s : SessionState) (st : State) (requests : List Request) (head : List ℕ) (old new : Option (List ℕ)) (lacking : ℕ) (t : SessionState) : Type 0 where
  pub entries : List (Entry (List ℕ))
  pub done : AreDone s st requests entries t
  pub written : Appends old new (head ++ answers_to s.database.types s.pcbs st requests entries)
  pub memory : lacking ≡ memory_in entries

-- whatever state the session stood for, the requests were served from it
abbrev pub ServesAll : SessionState → List Request → List ℕ → Option (List ℕ) → Option (List ℕ) → ℕ → SessionState → Type 0
ServesAll s requests head old new lacking t = (st : State) → IsTrue s.volume.is_sound → Represents s.database s.volume s.kept st → AreServed s st requests head old new lacking t

-- A call was made, and it came to no failed access; so many calls, 0 or 1, found no memory.
pub record IsMadeOnce (s : SessionState) (turn : Turn) (lacking : ℕ) (t : SessionState) : Type 0 where
  pub result : Result Answer Refused
  pub bytes : Buffer
  pub answered : IsTurnAnswered s turn result bytes t
  pub memory : memory_of result ≡ Some lacking

-- A call was made so often, and so many of the calls found no memory.
pub record AreAllMade (s : SessionState) (st : State) (turn : Turn) (n lacking : ℕ) (t : SessionState) : Type 0 where
  pub entries : List (Entry (List ℕ))
  pub done : AreDone s st (make turn n ∷ []) entries t
  pub memory : lacking ≡ memory_in entries

-- whatever state the session stood for, the call was made so often from it
abbrev pub MakesAll : SessionState → Turn → ℕ → ℕ → SessionState → Type 0
MakesAll s turn n lacking t = (st : State) → IsTrue s.volume.is_sound → Represents s.database s.volume s.kept st → AreAllMade s st turn n lacking t

-- what a halt at a request says of it: it was carried out, where its answer was not written; where an access failed, what a crash leaves
abbrev pub HaltsAt : SessionState → Request → Halt → SessionState → Type 0
HaltsAt s request halt.Device t = FailsIn s t
HaltsAt s request halt.Write t = DoesAll s (request ∷ []) t

-- and of the session
abbrev pub IsHalted : SessionState → Halt → SessionState → Type 0
IsHalted s halt.Device t = Breaks s t
IsHalted s halt.Write t = StaysWhole s t

-- One request was served, which is so many calls, and so many of them found no memory.
pub record IsServed (s : SessionState) (request : Request) (old new : Option (List ℕ)) (calls lacking : ℕ) (t : SessionState) : Type 0 where
  pub count : calls ≡ length (calls_in (request ∷ []))
  pub few : lacking ≤ calls
  pub serves : ServesAll s (request ∷ []) [] old new lacking t

-- One request was taken from the input and served.
pub record IsServedNext (limits : Limits) (s : SessionState) (before after old new : Option (List ℕ)) (calls lacking : ℕ) (t : SessionState) : Type 0 where
  pub request : Request
  pub right : RequestFits limits (framed request)
  pub taken : Consumes before after (frame_bytes (request_bytes (framed request)))
  pub served : IsServed s request old new calls lacking t

-- One request was taken from the input and carried out; its answer was not written.
pub record IsDoneNext (limits : Limits) (s : SessionState) (before : Option (List ℕ)) (t : SessionState) : Type 0 where
  pub request : Request
  pub right : RequestFits limits (framed request)
  pub after : Option (List ℕ)
  pub taken : Consumes before after (frame_bytes (request_bytes (framed request)))
  pub does : DoesAll s (request ∷ []) t

-- what a stop at the next request says
abbrev pub StopsNext : Limits → SessionState → Option (List ℕ) → Option (List ℕ) → Option (List ℕ) → Stop → SessionState → Type 0
StopsNext limits s before old new stop.Device t = FailsIn s t
StopsNext limits s before old new stop.Write t = IsDoneNext limits s before t
StopsNext limits s before old new (stop.Frame e) t = IsWrong limits before e × (t ≡ s) × (new ≡ old)

-- what a stop says of the session
abbrev pub StopsAt : SessionState → Stop → SessionState → Type 0
StopsAt s stop.Device t = Breaks s t
StopsAt s stop.Write t = StaysWhole s t
StopsAt s (stop.Frame e) t = StaysWhole s t

-- The input was the frames of requests up to the end of the session, and all of them were served.
pub record IsServedToTheEnd (limits : Limits) (s : SessionState) (e : Ending) (input after : Option (List ℕ)) (head : List ℕ) (old new : Option (List ℕ)) (calls lacking : ℕ) (t : SessionState) : Type 0 where
  pub requests : List Request
  pub asked : AreAsked limits input requests (Ends e after)
  pub count : calls ≡ length (calls_in requests)
  pub serves : ServesAll s requests head old new lacking t

-- The input began with the frames of requests, and all of them were carried out.
pub record IsDoneInPart (limits : Limits) (s : SessionState) (input : Option (List ℕ)) (t : SessionState) : Type 0 where
  pub requests : List Request
  pub asked : AreAsked limits input requests GoesOn
  pub does : DoesAll s requests t

-- The input began with the frames of requests, all of them were carried out, and then an access failed.
pub record IsBrokenInPart (limits : Limits) (s : SessionState) (input : Option (List ℕ)) (t : SessionState) : Type 0 where
  pub requests : List Request
  pub asked : AreAsked limits input requests GoesOn
  pub breaks : BreaksBehind s requests t

-- The input began with the frames of requests, and all of them were served; then came a wrong one.
pub record IsServedInPart (limits : Limits) (s : SessionState) (input : Option (List ℕ)) (head : List ℕ) (old new : Option (List ℕ)) (e : FrameFault) (t : SessionState) : Type 0 where
  pub requests : List Request
  pub asked : AreAsked limits input requests (GoesWrong limits e)
  pub lacking : ℕ
  pub serves : ServesAll s requests head old new lacking t

-- what a stop says of the requests
abbrev pub ServesUntil : Limits → SessionState → Option (List ℕ) → List ℕ → Option (List ℕ) → Option (List ℕ) → Stop → SessionState → Type 0
ServesUntil limits s input head old new stop.Device t = IsBrokenInPart limits s input t
ServesUntil limits s input head old new stop.Write t = IsDoneInPart limits s input t
ServesUntil limits s input head old new (stop.Frame e) t = IsServedInPart limits s input head old new e t

-- ---- a session that is closed

-- The requests were served, and the last of them left this.
pub record AreServedOut (s : SessionState) (st : State) (requests : List Request) (head : List ℕ) (old new : Option (List ℕ)) (lacking : ℕ) (left : Stored) : Type 0 where
  pub last : SessionState
  pub served : AreServed s st requests head old new lacking last
  pub leaves : Leaves last left

-- whatever state the session stood for, the requests were served from it, and this is left
abbrev pub ServesOut : SessionState → List Request → List ℕ → Option (List ℕ) → Option (List ℕ) → ℕ → Stored → Type 0
ServesOut s requests head old new lacking left = (st : State) → IsTrue s.volume.is_sound → Represents s.database s.volume s.kept st → AreServedOut s st requests head old new lacking left

-- The input was the frames of requests up to the end of the session, all of them were served, and this is left.
pub record IsServedOut (limits : Limits) (s : SessionState) (e : Ending) (input after : Option (List ℕ)) (head : List ℕ) (old new : Option (List ℕ)) (calls lacking : ℕ) (left : Stored) : Type 0 where
  pub requests : List Request
  pub asked : AreAsked limits input requests (Ends e after)
  pub count : calls ≡ length (calls_in requests)
  pub serves : ServesOut s requests head old new lacking left

-- The input began with the frames of requests, all of them were carried out, and this is left.
pub record IsDoneOut (limits : Limits) (s : SessionState) (input : Option (List ℕ)) (left : Stored) : Type 0 where
  pub requests : List Request
  pub asked : AreAsked limits input requests GoesOn
  pub does : DoesOut s requests left

-- The input began with the frames of requests, all of them were carried out, an access failed, and this is left.
pub record IsBrokenOut (limits : Limits) (s : SessionState) (input : Option (List ℕ)) (left : Stored) : Type 0 where
  pub requests : List Request
  pub asked : AreAsked limits input requests GoesOn
  pub breaks : BreaksOut s requests left

-- The input began with the frames of requests, all of them were served, then came a wrong one, and this is left.
pub record IsServedOutUntil (limits : Limits) (s : SessionState) (input : Option (List ℕ)) (head : List ℕ) (old new : Option (List ℕ)) (e : FrameFault) (left : Stored) : Type 0 where
  pub requests : List Request
  pub asked : AreAsked limits input requests (GoesWrong limits e)
  pub lacking : ℕ
  pub serves : ServesOut s requests head old new lacking left

-- what a stop says of the requests and of what is left
abbrev pub LeavesAt : Limits → SessionState → Option (List ℕ) → List ℕ → Option (List ℕ) → Option (List ℕ) → Stop → Stored → Type 0
LeavesAt limits s input head old new stop.Device left = IsBrokenOut limits s input left
LeavesAt limits s input head old new stop.Write left = IsDoneOut limits s input left
LeavesAt limits s input head old new (stop.Frame e) left = IsServedOutUntil limits s input head old new e left

-- ---- over a store

-- The requests were carried out, and behind the first frame the answers were written that their log gives; so many of the calls found no memory.
pub record IsAnswered (d : Database) (pcbs : List View) (store : Stored) (requests : List Request) (first : List ℕ) (old new : Option (List ℕ)) (lacking : ℕ) (left : Stored) : Type 0 where
  pub done : IsDone d pcbs store requests left
  pub written : Appends old new (first ++ answers_to d.types pcbs (opened pcbs (sequence done.played.forest)) requests done.log.entries)
  pub memory : lacking ≡ memory_in done.log.entries

-- Serving went on to the end of the session: up to there the input was the frames of requests, and over a sound store all of them were answered; how many
-- calls there were, and how many found no memory.
pub record IsWholeService (d : Database) (pcbs : List View) (sound : Bool) (store : Stored) (e : Ending) (input after : Option (List ℕ)) (first : List ℕ) (old new : Option (List ℕ)) (calls lacking : ℕ) (left : Stored) : Type 0 where
  pub requests : List Request
  pub asked : AreAsked (limits_of d pcbs) input requests (Ends e after)
  pub count : calls ≡ length (calls_in requests)
  pub answered : IsTrue sound → IsAnswered d pcbs store requests first old new lacking left

-- Serving ended at a wrong frame: before it the input was the frames of requests, and over a sound store all of them were answered.
pub record IsServiceUntil (d : Database) (pcbs : List View) (sound : Bool) (store : Stored) (input : Option (List ℕ)) (first : List ℕ) (old new : Option (List ℕ)) (e : FrameFault) (left : Stored) : Type 0 where
  pub requests : List Request
  pub asked : AreAsked (limits_of d pcbs) input requests (GoesWrong (limits_of d pcbs) e)
  pub lacking : ℕ
  pub answered : IsTrue sound → IsAnswered d pcbs store requests first old new lacking left

-- Serving ended at a frame that could not be written: the input began with the frames of requests, and over a sound store all of them were carried out.
pub record IsServiceInPart (d : Database) (pcbs : List View) (sound : Bool) (store : Stored) (input : Option (List ℕ)) (left : Stored) : Type 0 where
  pub requests : List Request
  pub asked : AreAsked (limits_of d pcbs) input requests GoesOn
  pub done : IsTrue sound → IsDone d pcbs store requests left

-- Serving ended at a failed access: the input began with the frames of requests, and over a sound store all of them were carried out before it.
pub record IsServiceUntilFailure (d : Database) (pcbs : List View) (sound : Bool) (store : Stored) (input : Option (List ℕ)) (left : Stored) : Type 0 where
  pub requests : List Request
  pub asked : AreAsked (limits_of d pcbs) input requests GoesOn
  pub done : IsTrue sound → IsDoneUntilFailure d pcbs store requests left

-- What a fault says: what refused the opening, a program that can't be told, and want of memory came before the first frame, and changed nothing; a
-- failed access came before the first request, or behind some; before a frame that was not written, or a wrong one, requests were served.
abbrev pub IsServeFaultOf : Database → List View → Bool → Stored → Option (List ℕ) → List ℕ → Option (List ℕ) → Option (List ℕ) → Stored → ServeFault → Type 0
IsServeFaultOf d pcbs sound store input first old new left (serve.Open fault) =
    (left.committed ≡ store.committed) × (IsTrue sound → IsOpenFaultOf d pcbs (volume_of d store.bytes) fault × (fault ≢ opening.Device → left.bytes ≡ store.bytes))
IsServeFaultOf d pcbs sound store input first old new left serve.Hello = ⊥
IsServeFaultOf d pcbs sound store input first old new left serve.Memory = (left.committed ≡ store.committed) × (IsTrue sound → left.bytes ≡ store.bytes)
IsServeFaultOf d pcbs sound store input first old new left serve.Device = (left.committed ≡ store.committed) ⊎ IsServiceUntilFailure d pcbs sound store input left
IsServeFaultOf d pcbs sound store input first old new left serve.Write = IsServiceInPart d pcbs sound store input left
IsServeFaultOf d pcbs sound store input first old new left (serve.Frame e) = IsServiceUntil d pcbs sound store input first old new e left

-- the fault that ends serving at a stop
abbrev pub fault_of : Stop → ServeFault
fault_of stop.Device = serve.Device
fault_of stop.Write = serve.Write
fault_of (stop.Frame e) = serve.Frame e

-- why a service can't begin: a program that can't be told, as a number has no room in its frame, or want of memory
abbrev pub NoService : Database → List View → ServeFault → Type 0
NoService d pcbs e = ((e ≡ serve.Hello) × (hello_fits d pcbs ≡ false)) ⊎ (e ≡ serve.Memory)

-- the fault came before the first frame
abbrev pub IsBeforeCalls : ServeFault → Type 0
IsBeforeCalls (serve.Open fault) = Unit {0}
IsBeforeCalls serve.Hello = Unit {0}
IsBeforeCalls serve.Memory = Unit {0}
IsBeforeCalls serve.Device = ⊥
IsBeforeCalls serve.Write = ⊥
IsBeforeCalls (serve.Frame e) = ⊥

-- only a fault of Device says that an access failed, as far as the store goes
abbrev pub fault_refusal : ServeFault → Refused
fault_refusal (serve.Open (opening.Check fault)) = refused.Memory
fault_refusal (serve.Open (opening.Old version)) = refused.Memory
fault_refusal (serve.Open opening.NotEmptyForLoad) = refused.Memory
fault_refusal (serve.Open opening.Memory) = refused.Memory
fault_refusal (serve.Open opening.Device) = refused.Device
fault_refusal serve.Hello = refused.Memory
fault_refusal serve.Memory = refused.Memory
fault_refusal serve.Device = refused.Device
fault_refusal serve.Write = refused.Memory
fault_refusal (serve.Frame e) = refused.Memory

-- ---- at a desk, by what it has read and the rest of the input

-- what was read of the input and is no request yet, and the rest
abbrev pub unread : Desk → Option (List ℕ) → Option (List ℕ)
unread desk rest = prepend_known desk.buffer rest

-- what the next frame came to: a request was served, or the session ends, and then nothing else is changed
abbrev pub ComesTo : Limits → SessionState → Option (List ℕ) → Option (List ℕ) → Option (List ℕ) → Option (List ℕ) → Next → SessionState → Type 0
ComesTo limits s before after old new (next.Served n) t = IsServedNext limits s before after old new n.calls n.memory t
ComesTo limits s before after old new (next.Ends e) t = EndsBy e before after × (t ≡ s) × (new ≡ old)

-- a request that was served, or the stop at it
abbrev pub next_of : Result Count Halt → Result Next Stop
next_of (Ok count) = Ok (next.Served count)
next_of (Err halt.Device) = Err stop.Device
next_of (Err halt.Write) = Err stop.Write

-- all requests were taken and served
abbrev pub IsDeskServed : Desk → SessionState → Option (List ℕ) → Desk → Option (List ℕ) → List ℕ → Option (List ℕ) → Option (List ℕ) → Ending × Count → SessionState → Type 0
IsDeskServed desk s rest desk2 rest2 head old new n t = IsServedToTheEnd desk.limits s n.0 (unread desk rest) (unread desk2 rest2) head old new n.1.calls n.1.memory t

-- ---- over a store, by what serving ended with

-- a service was made for a database and the PCBs of a program
pub record IsServiceFor (d : Database) (pcbs : List View) (service : ServiceState) : Type 0 where
  pub limits : service.limits ≡ limits_of d pcbs
  pub room : service.room ≡ longest_path d.types

-- ---- by what a caller has: the store, the input and what it has read of it, and the writer, before and behind

-- a session was served from a desk to its end
abbrev pub ServesOutFrom : {S I W : Type 0} → (S → List ℕ) → (S → Committed) → (I → Option (List ℕ)) → (W → Option (List ℕ)) → SessionState → Desk → I → List ℕ → W → ServeEnd S → Desk → I → W → Type 0
ServesOutFrom contents committed remaining written s desk input first out e desk2 input2 out2 =
    IsServedOut desk.limits s e.ending (unread desk (remaining input)) (unread desk2 (remaining input2)) first (written out) (written out2) e.calls e.memory (stored_in contents committed e.store)

-- a session over a store was served to its end, where these bytes of the input had been read and were no request yet, and those are then
abbrev pub ServesOver : {S I W : Type 0} → (S → Bool) → (S → List ℕ) → (S → Committed) → (I → Option (List ℕ)) → (W → Option (List ℕ)) → Database → List View → S → List ℕ → I → List ℕ → W → ServeEnd S → List ℕ → I → W → Type 0
ServesOver is_sound contents committed remaining written d pcbs store read input first out e read2 input2 out2 =
    IsWholeService d pcbs (is_sound store) (stored_in contents committed store) e.ending (prepend_known read (remaining input)) (prepend_known read2 (remaining input2)) first (written out) (written out2) e.calls e.memory (stored_in contents committed e.store)

-- a fault ended serving over a store
abbrev pub ServesUntilFault : {S I W : Type 0} → (S → Bool) → (S → List ℕ) → (S → Committed) → (I → Option (List ℕ)) → (W → Option (List ℕ)) → Database → List View → S → List ℕ → I → List ℕ → W → S → W → ServeFault → Type 0
ServesUntilFault is_sound contents committed remaining written d pcbs store read input first out store2 out2 fault =
    IsServeFaultOf d pcbs (is_sound store) (stored_in contents committed store) (prepend_known read (remaining input)) first (written out) (written out2) (stored_in contents committed store2) fault
