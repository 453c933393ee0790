-- Which bytes begin with a frame, and with which.
use Rattle.std.proofs.Common.{◌≡◌, ◌⊎◌, ℕ, zero, suc, ◌+◌, ◌*◌, ◌<◌, ◌≤◌, ◌^◌, List, [], ◌∷◌, ◌++◌, length, take, drop, Bool, true, false, cond, Option, Some, None, Result, Ok, Err, All, inl, inr, refl, sym, ap, ap₂, ◌∙◌, arith, append_assoc, length-append}
use Rattle.std.specs.Prelude.{nat_lt, ◌==◌, flat_map}
use Rattle.std.specs.List.{AllByRecursion}
use Rattle.std.specs.Int.{w32, to_be_bytes, from_be_bytes}
use Rattle.std.proofs.lemmas.Bool.{cond-false, le-ltb, ltb-false, ne_eqb}
use Rattle.std.proofs.lemmas.List.{take-append-drop, length-take-le, length-drop, take_at, drop_at}
use Rattle.std.proofs.lemmas.List.Elements.{recursion_from_All}
use Rattle.std.proofs.lemmas.Nat.{from_be_bytes-to_be_bytes_4}
use Rattle.hd_serve.specs.declared.call.Limits.{Limits}
use Rattle.hd_serve.specs.declared.fault.FrameFault.{FrameFault}
use Rattle.hd_serve.specs.declared.fault.FrameFault.TheVariants.{Cut, Long}
use Rattle.hd_session.specs.Turns.{Turn}
use Rattle.hd_serve.specs.declared.request.FramedRequest.{FramedRequest}
use Rattle.hd_serve.specs.declared.request.FramedRequest.TheVariants as asks
use Rattle.hd_serve.specs.Frames.{frame_bytes, ssa_bytes, call_bytes, CallFits, request_bytes, RequestFits, is_long, request_in, fault_of, frame_fault}
use Rattle.hd_serve.specs.Laws.{BeginWithFrame}
use Rattle.hd_serve.proofs.CallFrames.{AreBytes, behind}
use Rattle.hd_serve.proofs.RequestFrames.{request-right, request-read}
use Rattle.hd_serve.proofs.Frames.{four-spelled, whole-fault}

-- all of some bytes, and each that there is, or 0
pub bytes-from : (xs : List ℕ) → All (λ b. b < 256) xs → AreBytes xs
bytes-from xs all = by xs (recursion_from_All (λ b. b < 256) xs all)
  where
    by : (ys : List ℕ) → AllByRecursion (λ b. b < 256) ys → AreBytes ys
    by [] h i = omega arith
    by (y ∷ ys) h zero = h.0
    by (y ∷ ys) h (suc i) = by ys h.1 i

-- arguments take no more than 65,537 bytes each
ssas-short : (ssas : List (List ℕ)) → AllByRecursion (λ ssa. length ssa < 2 ^ 16) ssas → length (flat_map ssa_bytes ssas) ≤ 65537 * length ssas
ssas-short [] h = omega arith
ssas-short (ssa ∷ ssas) h = omega (arith, h.0, ssas-short ssas h.1, length-append (ssa_bytes ssa) (flat_map ssa_bytes ssas))

-- so many bytes has the body of a right call at most
call-short : (limits : Limits) (c : Turn) → CallFits limits c → length (call_bytes c) ≤ 983062 + limits.area
call-short limits c fits =
    omega (
      arith,
      length-append c.call.function (length c.call.ssas ∷ (flat_map ssa_bytes c.call.ssas ++ c.call.area)),
      length-append (flat_map ssa_bytes c.call.ssas) c.call.area,
      ssas-short c.call.ssas (recursion_from_All (λ ssa. length ssa < 2 ^ 16) c.call.ssas fits.short),
      fits.function,
      fits.few,
      fits.fits,
    )

-- and that of a right request
request-short : (limits : Limits) (r : FramedRequest) → RequestFits limits r → length (request_bytes r) ≤ 983064 + limits.area
request-short limits (asks.Call c) fits = (let short : length (call_bytes c) ≤ 983062 + limits.area = call-short limits c fits in omega (arith, short))
request-short limits (asks.Make c n) fits = (let short : length (call_bytes c) ≤ 983062 + limits.area = call-short limits c fits.0 in omega (arith, short))
request-short limits (asks.Foretell c n) fits = (let short : length (call_bytes c) ≤ 983062 + limits.area = call-short limits c fits.0 in omega (arith, short))
request-short limits asks.Commit fits = omega arith
request-short limits asks.RollBack fits = omega arith

-- the number in front of a frame is the length of its body
size-of : (limits : Limits) (r : FramedRequest) (rest : List ℕ) → limits.area < 2 ^ 31 → RequestFits limits r → from_be_bytes w32 (frame_bytes (request_bytes r) ++ rest) ≡ length (request_bytes r)
size-of limits r rest few fits = from_be_bytes-to_be_bytes_4 (length (request_bytes r)) (omega (arith, request-short limits r fits))

-- nothing is wrong with the frame of a right request
pub none-wrong : (limits : Limits) (r : FramedRequest) (rest : List ℕ) → limits.area < 2 ^ 31 → RequestFits limits r → frame_fault limits (frame_bytes (request_bytes r) ++ rest) ≡ None
none-wrong limits r rest few fits =
    let bytes : List ℕ = frame_bytes (request_bytes r) ++ rest in
    let size : from_be_bytes w32 bytes ≡ length (request_bytes r) = size-of limits r rest few fits in
    let long : length bytes ≡ 4 + length (request_bytes r) + length rest = omega (arith, length-append (request_bytes r) rest) in
    let whole : 4 + from_be_bytes w32 bytes ≤ length bytes = omega (arith, size, long) in
    let short : is_long limits (from_be_bytes w32 bytes) ≡ false = le-ltb (983064 + limits.area) (from_be_bytes w32 bytes) (omega (arith, size, request-short limits r fits)) in
    whole-fault limits bytes whole short
    ∙ ap (λ (n : ℕ). fault_of (request_in limits (take n (request_bytes r ++ rest)))) size
    ∙ ap (λ (xs : List ℕ). fault_of (request_in limits xs)) (take_at (request_bytes r) rest (length (request_bytes r)) refl)
    ∙ ap fault_of (request-read limits r fits)

kept : (b : Bool) (x : FrameFault) (o : Option FrameFault) → cond b (Some x) o ≡ None → (b ≡ false) × (o ≡ None)
kept true x o e = cc
kept false x o e = (refl, e)

no-fault : (o : Result FramedRequest FrameFault) → fault_of o ≡ None → (r : FramedRequest) × (o ≡ Ok r)
no-fault (Ok r) e = (r, refl)
no-fault (Err x) e = cc

-- bytes with which nothing is wrong begin with the frame of a right request, if there are any
pub none-begins : (limits : Limits) (bytes : List ℕ) → AreBytes bytes → frame_fault limits bytes ≡ None → (bytes ≡ []) ⊎ BeginWithFrame limits bytes
none-begins limits [] all none = inl refl
none-begins limits (b ∷ bs) all none =
    let bytes : List ℕ = b ∷ bs in
    let size : ℕ = from_be_bytes w32 bytes in
    let body : List ℕ = take size (drop 4 bytes) in
    let later : Option FrameFault = cond (is_long limits size) (Some (Long size)) (cond (nat_lt (length bytes) (4 + size)) (Some Cut) (fault_of (request_in limits body))) in
    let some : frame_fault limits bytes ≡ cond (nat_lt (length bytes) 4) (Some Cut) later =
    cond-false (length bytes == 0) None (cond (nat_lt (length bytes) 4) (Some Cut) later) (ne_eqb (length bytes) 0 (λ e. omega arith)) in
    let four = kept (nat_lt (length bytes) 4) Cut later (sym some ∙ none) in
    let short = kept (is_long limits size) (Long size) (cond (nat_lt (length bytes) (4 + size)) (Some Cut) (fault_of (request_in limits body))) four.1 in
    let whole = kept (nat_lt (length bytes) (4 + size)) Cut (fault_of (request_in limits body)) short.1 in
    let found = no-fault (request_in limits body) whole.1 in
    let there : 4 + size ≤ length bytes = ltb-false (length bytes) (4 + size) whole.0 in
    let len : length body ≡ size = length-take-le size (drop 4 bytes) (omega (arith, length-drop 4 bytes)) in
    let right = request-right limits found.0 body (front size (drop 4 bytes) (behind 4 bytes all)) found.1 in
    inr (record {
      request = found.0;
      fits = right.1;
      rest = drop size (drop 4 bytes);
      spelled = sym (take-append-drop 4 bytes)
          ∙ ap₂ (λ (xs ys : List ℕ). xs ++ ys) (four-spelled bytes size all (omega arith) refl) (sym (take-append-drop size (drop 4 bytes)))
          ∙ ap (λ (n : ℕ). to_be_bytes w32 n ++ (body ++ drop size (drop 4 bytes))) (sym len)
          ∙ sym (append_assoc (to_be_bytes w32 (length body)) body (drop size (drop 4 bytes)))
          ∙ ap (λ (xs : List ℕ). frame_bytes xs ++ drop size (drop 4 bytes)) right.0;
    })
  where
    front : (n : ℕ) (xs : List ℕ) → AreBytes xs → AreBytes (take n xs)
    front zero xs h i = omega arith
    front (suc n) [] h i = omega arith
    front (suc n) (x ∷ xs) h zero = h 0
    front (suc n) (x ∷ xs) h (suc i) = front n xs (λ j. h (suc j)) i

-- a frame and what is behind it are told from another
pub one-request : (limits : Limits) (a b : FramedRequest) (x y : List ℕ) → limits.area < 2 ^ 31 → RequestFits limits a → RequestFits limits b → frame_bytes (request_bytes a) ++ x ≡ frame_bytes (request_bytes b) ++ y
    → (a ≡ b) × (x ≡ y)
one-request limits a b x y few f g same =
    let m : ℕ = length (request_bytes a) in
    let size : m ≡ length (request_bytes b) = sym (size-of limits a x few f) ∙ ap (from_be_bytes w32) same ∙ size-of limits b y few g in
    let bodies : request_bytes a ++ x ≡ request_bytes b ++ y = ap (drop 4) same in
    let body : request_bytes a ≡ request_bytes b = sym (take_at (request_bytes a) x m refl) ∙ ap (take m) bodies ∙ take_at (request_bytes b) y m (sym size) in (
      ok-same a b (sym (request-read limits a f) ∙ ap (request_in limits) body ∙ request-read limits b g),
      sym (drop_at (request_bytes a) x m refl) ∙ ap (drop m) bodies ∙ drop_at (request_bytes b) y m (sym size),
    )
  where
    ok-same : (r d : FramedRequest) → ◌≡◌ {A = Result FramedRequest FrameFault} (Ok r) (Ok d) → r ≡ d
    ok-same r d e = cc
