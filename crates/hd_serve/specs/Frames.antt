-- Frames of requests: how they are spelled, and what is wrong with bytes that spell none.
use Rattle.std.specs.Prelude.{◌≡◌, ◌≢◌, ℕ, zero, suc, ◌+◌, ◌<◌, ◌≤◌, ◌^◌, List, [], ◌∷◌, ◌++◌, length, take, drop, flat_map, All, Bool, ◌||◌, ◌==◌, nat_lt, cond, slice_index, Option, Some, None, option_map, Result, Ok, Err, IfSome}
use Rattle.std.specs.Int.{w16, w32, to_be_bytes, from_be_bytes}
use Rattle.std.specs.Io.KnownBytes.{Consumes}
use Rattle.hd_serve.specs.declared.call.Limits.{Limits}
use Rattle.hd_serve.specs.declared.fault.FrameFault.{FrameFault}
use Rattle.hd_serve.specs.declared.fault.FrameFault.TheVariants.{Read, Memory, Cut, Long, Short, Extra, Kind, Pcb, Ssas, Area}
use Rattle.hd_serve.specs.declared.request.FramedRequest.{FramedRequest}
use Rattle.hd_serve.specs.declared.request.FramedRequest.TheVariants as asks
use Rattle.hd_session.specs.Turns.{Turn}

-- ---- spelling

-- a frame: the length of its body in four bytes, and the body
abbrev pub frame_bytes : List ℕ → List ℕ
frame_bytes body = to_be_bytes w32 (length body) ++ body

-- a segment search argument: its length in two bytes, and its bytes
abbrev pub ssa_bytes : List ℕ → List ℕ
ssa_bytes ssa = to_be_bytes w16 (length ssa) ++ ssa

-- the body of a call's frame: 1, the PCB, the function in four bytes, the number of arguments, each argument, and the area
abbrev pub call_bytes : Turn → List ℕ
call_bytes c = 1 ∷ c.pcb ∷ (c.call.function ++ length c.call.ssas ∷ (flat_map ssa_bytes c.call.ssas ++ c.call.area))

-- the body of a request's frame: of a call its own; 4 where the call is made and not answered, or 5 where it is foretold, how often in one byte, and the body
-- of the call's frame; 2 for a commit, and 3 for a roll back
abbrev pub request_bytes : FramedRequest → List ℕ
request_bytes (asks.Call c) = call_bytes c
request_bytes (asks.Make c n) = 4 ∷ n ∷ call_bytes c
request_bytes (asks.Foretell c n) = 5 ∷ n ∷ call_bytes c
request_bytes asks.Commit = 2 ∷ []
request_bytes asks.RollBack = 3 ∷ []

-- What has a right frame: a call of one of the PCBs, with a function of four bytes, at most 15 arguments of at most 65,535 bytes, and an area of
-- no more bytes than the limit.
pub record CallFits (limits : Limits) (c : Turn) : Type 0 where
  pub some_pcb : 0 < c.pcb
  pub known_pcb : c.pcb ≤ limits.pcbs
  pub function : length c.call.function ≡ 4
  pub few : length c.call.ssas ≤ 15
  pub short : All (λ ssa. length ssa < 2 ^ 16) c.call.ssas
  pub fits : length c.call.area ≤ limits.area

-- a right request: its call is a right one, and how often fits into a byte; a commit and a roll back are always right
abbrev pub RequestFits : Limits → FramedRequest → Type 0
RequestFits limits (asks.Call c) = CallFits limits c
RequestFits limits (asks.Make c n) = CallFits limits c × (n < 256)
RequestFits limits (asks.Foretell c n) = CallFits limits c × (n < 256)
RequestFits limits asks.Commit = Unit {0}
RequestFits limits asks.RollBack = Unit {0}

-- more bytes than the body of a right frame has: 9, 15 arguments of 65,537 each, and the longest area
abbrev pub is_long : Limits → ℕ → Bool
is_long limits size = nat_lt (983064 + limits.area) size

-- ---- what is wrong

-- the arguments in front of some bytes, so many, and what is behind them; none where the bytes end before
abbrev pub ssas_in : ℕ → List ℕ → Option (List (List ℕ) × List ℕ)
ssas_in zero bytes = Some ([], bytes)
ssas_in (suc n) bytes =
    cond (nat_lt (length bytes) (2 + from_be_bytes w16 bytes)) None
    (option_map (λ r. (take (from_be_bytes w16 bytes) (drop 2 bytes) ∷ r.0, r.1)) (ssas_in n (drop (2 + from_be_bytes w16 bytes) bytes)))

-- Some bytes begin with an argument, and this is behind it.
pub record IsSsaSplit (bytes ssa rest : List ℕ) : Type 0 where
  pub long : 2 + from_be_bytes w16 bytes ≤ length bytes
  pub front : ssa ≡ take (from_be_bytes w16 bytes) (drop 2 bytes)
  pub behind : rest ≡ drop (2 + from_be_bytes w16 bytes) bytes

-- the call of a PCB and a function with such arguments, and the area behind them
abbrev pub with_ssas : Limits → ℕ → List ℕ → Option (List (List ℕ) × List ℕ) → Result Turn FrameFault
with_ssas limits pcb function None = Err Short
with_ssas limits pcb function (Some r) =
    cond (nat_lt limits.area (length r.1)) (Err (Area (length r.1)))
    (Ok (record { pcb = pcb; call = record { function = function; ssas = r.0; area = r.1 } }))

-- the call of the body of a frame, or the first fault in it
abbrev pub call_in : Limits → List ℕ → Result Turn FrameFault
call_in limits body =
    cond (nat_lt (length body) 7) (Err Short)
    (cond (slice_index body 0 == 1)
    (cond (slice_index body 1 == 0 || nat_lt limits.pcbs (slice_index body 1)) (Err (Pcb (slice_index body 1)))
    (cond (nat_lt 15 (slice_index body 6)) (Err (Ssas (slice_index body 6)))
    (with_ssas limits (slice_index body 1) (take 4 (drop 2 body)) (ssas_in (slice_index body 6) (drop 7 body)))))
    (Err (Kind (slice_index body 0))))

-- the request of a call, if one was read
abbrev pub request_of_call : Result Turn FrameFault → Result FramedRequest FrameFault
request_of_call (Ok c) = Ok (asks.Call c)
request_of_call (Err e) = Err e

-- the request of a call behind a kind and how often, if it was read
abbrev pub counted : (Turn → ℕ → FramedRequest) → ℕ → Result Turn FrameFault → Result FramedRequest FrameFault
counted request n (Ok c) = Ok (request c n)
counted request n (Err e) = Err e

-- the request that has a kind, how often, and the body of a call, or the first fault in it
abbrev pub counted_in : (Turn → ℕ → FramedRequest) → Limits → List ℕ → Result FramedRequest FrameFault
counted_in request limits body = counted request (slice_index body 1) (call_in limits (drop 2 body))

-- the request of a kind that is all of the body
abbrev pub alone : FramedRequest → ℕ → List ℕ → Result FramedRequest FrameFault
alone r kind body = cond (length body == 1) (Ok r) (Err (Extra kind))

-- the request of the body of a frame, or the first fault in it
abbrev pub request_in : Limits → List ℕ → Result FramedRequest FrameFault
request_in limits body =
    cond (slice_index body 0 == 2) (alone asks.Commit 2 body)
    (cond (slice_index body 0 == 3) (alone asks.RollBack 3 body)
    (cond (slice_index body 0 == 4) (counted_in asks.Make limits body)
    (cond (slice_index body 0 == 5) (counted_in asks.Foretell limits body) (request_of_call (call_in limits body)))))

-- the fault, if it is one
abbrev pub fault_of : Result FramedRequest FrameFault → Option FrameFault
fault_of (Ok r) = None
fault_of (Err e) = Some e

-- what is wrong with the frame in front of an input; none where there is no byte. An input that ends too early has a cut frame.
abbrev pub frame_fault : Limits → List ℕ → Option FrameFault
frame_fault limits bytes =
    cond (length bytes == 0) None
    (cond (nat_lt (length bytes) 4) (Some Cut)
    (cond (is_long limits (from_be_bytes w32 bytes)) (Some (Long (from_be_bytes w32 bytes)))
    (cond (nat_lt (length bytes) (4 + from_be_bytes w32 bytes)) (Some Cut)
    (fault_of (request_in limits (take (from_be_bytes w32 bytes) (drop 4 bytes)))))))

-- ---- what is read

-- The input began with the frame of this request, which is a right one, and just that was taken.
pub record IsRequestRead (limits : Limits) (before : Option (List ℕ)) (r : FramedRequest) (after : Option (List ℕ)) : Type 0 where
  pub fits : RequestFits limits r
  pub taken : Consumes before after (frame_bytes (request_bytes r))

-- the fault is that of the frame in front of the input; a failed read and want of memory say nothing
abbrev pub IsWrong : Limits → Option (List ℕ) → FrameFault → Type 0
IsWrong limits input e = e ≢ Read → e ≢ Memory → IfSome input (λ bytes. frame_fault limits bytes ≡ Some e)
