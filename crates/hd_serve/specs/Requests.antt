-- The frames of what a program asks for in a session, and of what it is answered by what its calls came to.
use Rattle.std.specs.Prelude.{List, [], ◌∷◌, ◌++◌, ℕ, take, drop, flat_map}
use Rattle.hd_dbd.specs.Types.{SegmentType, View}
use Rattle.hd_dbd.specs.declared.answer.Refused.TheVariants as refused
use Rattle.hd_dbd.specs.Logs.{Outcome, replied, area, full, memory, Entry}
use Rattle.hd_calls.specs.Runs.{next_state, last_state}
use Rattle.hd_calls.specs.Steps.{State}
use Rattle.hd_session.specs.Foretelling.{foretold}
use Rattle.hd_session.specs.Requests.{Request, ask, make, foretell, commit}
use Rattle.hd_serve.specs.declared.request.FramedRequest.{FramedRequest}
use Rattle.hd_serve.specs.declared.request.FramedRequest.TheVariants as asks
use Rattle.hd_serve.specs.Frames.{frame_bytes, request_bytes}
use Rattle.hd_serve.specs.Answers.{answer_bytes, refusal_bytes, done_bytes, in_room, told_bytes, TOLD_ROOM}

-- a request as its frame has it
abbrev pub framed : Request → FramedRequest
framed (ask turn) = asks.Call turn
framed (make turn n) = asks.Make turn n
framed (foretell turn n) = asks.Foretell turn n
framed commit = asks.Commit

-- the frames of requests, one behind the other
abbrev pub frames_of : List Request → List ℕ
frames_of requests = flat_map (λ r. frame_bytes (request_bytes (framed r))) requests

-- the body of the frame that says what a call came to
abbrev pub outcome_bytes : Outcome → List ℕ
outcome_bytes (replied r) = answer_bytes r
outcome_bytes area = refusal_bytes refused.Area
outcome_bytes full = refusal_bytes refused.Full
outcome_bytes memory = refusal_bytes refused.Memory

-- the frames that answer requests, in their order, where their calls came to these entries from a state on: what each call that is asked for came to, what
-- is foretold in the state that was reached, as far as there is room in a frame, and that each commit is done; calls that are only made have none
abbrev pub answers_to : {Image : Type 0} → List SegmentType → List View → State → List Request → List (Entry Image) → List ℕ
answers_to types pcbs st [] entries = []
answers_to types pcbs st (ask turn ∷ requests) [] = []
answers_to types pcbs st (ask turn ∷ requests) (e ∷ entries) = frame_bytes (outcome_bytes e.outcome) ++ answers_to types pcbs (next_state types pcbs st e) requests entries
answers_to types pcbs st (make turn n ∷ requests) entries = answers_to types pcbs (last_state types pcbs st (take n entries)) requests (drop n entries)
answers_to types pcbs st (foretell turn n ∷ requests) entries = frame_bytes (told_bytes (in_room TOLD_ROOM (foretold types pcbs st turn n))) ++ answers_to types pcbs st requests entries
answers_to types pcbs st (commit ∷ requests) entries = frame_bytes done_bytes ++ answers_to types pcbs st requests entries
