-- What a stop at the next request says, by what carrying it out comes to.
use Rattle.std.proofs.Common.{List, ℕ, Option, Result, Ok, Err}
use Rattle.std.specs.Prelude.{IfErr}
use Rattle.std.specs.Io.KnownBytes.{Consumes}
use Rattle.hd_session.specs.Opening.{SessionState}
use Rattle.hd_serve.specs.declared.call.Limits.{Limits}
use Rattle.hd_serve.specs.declared.answered_calls.Count.{Count}
use Rattle.hd_serve.specs.declared.answered_calls.Halt.{Halt}
use Rattle.hd_serve.specs.declared.answered_calls.Halt.TheVariants as halt
use Rattle.hd_serve.specs.Frames.{frame_bytes, request_bytes, RequestFits}
use Rattle.hd_session.specs.Requests.{Request}
use Rattle.hd_serve.specs.Requests.{framed}
use Rattle.hd_serve.specs.Serves.{HaltsAt, StopsNext, next_of}

module _ (limits : Limits) (s t : SessionState) (before after old new : Option (List ℕ)) (r : Request) (right : RequestFits limits (framed r)) (taken : Consumes before after (frame_bytes (request_bytes (framed r)))) where
  pub stops_next : (o : Result Count Halt) → IfErr o (λ e. HaltsAt s r e t) → IfErr (next_of o) (λ e. StopsNext limits s before old new e t)
  stops_next (Ok n) p = tt
  stops_next (Err halt.Device) p = p
  stops_next (Err halt.Write) p = record { request = r; right = right; after = after; taken = taken; does = p }
