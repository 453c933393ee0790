-- What is so of all frames.
use Rattle.std.specs.Prelude.{◌≡◌, ◌≢◌, ◌⊎◌, ◌↔◌, ℕ, ◌<◌, ◌^◌, List, [], ◌++◌, All, length, IsTrue, None, Ok, IfSome}
use Rattle.hd_dbd.specs.Naming.{is_name}
use Rattle.hd_dbd.specs.declared.answer.Refused.{Refused}
use Rattle.hd_dbd.specs.Calls.{Reply}
use Rattle.hd_serve.specs.declared.call.Limits.{Limits}
use Rattle.hd_serve.specs.declared.request.FramedRequest.{FramedRequest}
use Rattle.hd_serve.specs.Frames.{frame_bytes, request_bytes, RequestFits, request_in, frame_fault}
use Rattle.hd_serve.specs.Answers.{answer_bytes, refusal_bytes, done_bytes, told_bytes}

-- a body is read as a request just where the request is a right one and the body is spelled so
abbrev pub RequestsAreReadBack : Type 0
RequestsAreReadBack =
    (limits : Limits) (body : List ℕ) (r : FramedRequest) → All (λ b. b < 256) body → (request_in limits body ≡ Ok r) ↔ ((body ≡ request_bytes r) × RequestFits limits r)

-- Bytes begin with the frame of a right request.
pub record BeginWithFrame (limits : Limits) (bytes : List ℕ) : Type 0 where
  pub request : FramedRequest
  pub fits : RequestFits limits request
  pub rest : List ℕ
  pub spelled : bytes ≡ frame_bytes (request_bytes request) ++ rest

-- nothing is wrong with bytes just where there are none or they begin so; an area of 2 to the 31 bytes or more is no limit
abbrev pub FramesAreToldApart : Type 0
FramesAreToldApart =
    (limits : Limits) (bytes : List ℕ) → limits.area < 2 ^ 31 → All (λ b. b < 256) bytes → (frame_fault limits bytes ≡ None) ↔ ((bytes ≡ []) ⊎ BeginWithFrame limits bytes)

-- bytes begin with one frame at the most
abbrev pub FramesSpellOneRequest : Type 0
FramesSpellOneRequest =
    (limits : Limits) (a b : FramedRequest) (x y : List ℕ) → limits.area < 2 ^ 31 → RequestFits limits a → RequestFits limits b
    → frame_bytes (request_bytes a) ++ x ≡ frame_bytes (request_bytes b) ++ y → (a ≡ b) × (x ≡ y)

-- a reply as calls give it: the segment's name is a name, and the key has fewer than 65,536 bytes
pub record CanBeTold (r : Reply) : Type 0 where
  pub named : IfSome r.segment (λ name. IsTrue (is_name name))
  pub short : length r.key < 2 ^ 16

-- replies with the same bytes are one
abbrev pub AnswersAreToldApart : Type 0
AnswersAreToldApart = (r s : Reply) → CanBeTold r → CanBeTold s → answer_bytes r ≡ answer_bytes s → r ≡ s

-- answers that are foretold, with the same bytes, are the same; an area of 2 to the 31 bytes or more is in none
abbrev pub ToldAnswersAreToldApart : Type 0
ToldAnswersAreToldApart =
    (rs ss : List Reply) → All CanBeTold rs → All CanBeTold ss → All (λ r. length r.area < 2 ^ 31) rs → All (λ r. length r.area < 2 ^ 31) ss → told_bytes rs ≡ told_bytes ss → rs ≡ ss

-- what is foretold has the bytes of no answer, of no refusal, and not those of what says that a commit or a roll back is done
abbrev pub ForetoldIsToldApart : Type 0
ForetoldIsToldApart =
    ((rs : List Reply) (r : Reply) → told_bytes rs ≢ answer_bytes r) × ((rs : List Reply) (e : Refused) → told_bytes rs ≢ refusal_bytes e) × ((rs : List Reply) → told_bytes rs ≢ done_bytes)

-- what says that a commit or a roll back is done has the bytes of no answer and of no refusal
abbrev pub DoneIsToldApart : Type 0
DoneIsToldApart = ((r : Reply) → answer_bytes r ≢ done_bytes) × ((e : Refused) → refusal_bytes e ≢ done_bytes)
