-- A frame in front of an input, of which some was read.
use Rattle.std.proofs.Common.{◌≡◌, ◌≢◌, ℕ, zero, suc, ◌+◌, ◌-◌, ◌<◌, ◌≤◌, List, [], ◌∷◌, ◌++◌, length, take, drop, get_or, false, Option, Some, None, Err, refl, sym, ap, ap₂, ◌∙◌, subst, arith, append_assoc, length-append}
use Rattle.std.specs.Prelude.{nat_lt, ◌==◌, IfSome}
use Rattle.std.specs.Int.{w32, to_be_bytes, from_be_bytes}
use Rattle.std.specs.Io.KnownBytes.{Consumes, Keeps, prepend_known}
use Rattle.std.proofs.lemmas.Bool.{cond-false, le-ltb, ne_eqb}
use Rattle.std.proofs.lemmas.List.{take-append-drop, length-take-le, take-append-le, length-drop, drop-drop}
use lib.Seq.{drop-append-le}
use Rattle.std.proofs.lemmas.Nat.{be_bytes_4}
use Rattle.hd_serve.specs.declared.call.Limits.{Limits}
use Rattle.hd_serve.specs.declared.fault.FrameFault.{FrameFault}
use Rattle.hd_serve.specs.declared.fault.FrameFault.TheVariants.{Memory}
use Rattle.hd_serve.specs.declared.request.FramedRequest.{FramedRequest}
use Rattle.hd_serve.specs.Frames.{frame_bytes, request_bytes, RequestFits, is_long, request_in, fault_of, frame_fault, IsRequestRead, IsWrong}
use Rattle.hd_serve.proofs.CallFrames.{AreBytes}

-- the number in front of bytes is that of their first four
pub size-in-front : (xs ys : List ℕ) → 4 ≤ length xs → from_be_bytes w32 (xs ++ ys) ≡ from_be_bytes w32 xs
size-in-front [] ys long = absurd (omega arith)
size-in-front (a ∷ []) ys long = absurd (omega arith)
size-in-front (a ∷ b ∷ []) ys long = absurd (omega arith)
size-in-front (a ∷ b ∷ c ∷ []) ys long = absurd (omega arith)
size-in-front (a ∷ b ∷ c ∷ d ∷ xs) ys long = refl

-- and it is spelled there
pub four-spelled : (xs : List ℕ) (n : ℕ) → AreBytes xs → 4 ≤ length xs → n ≡ from_be_bytes w32 xs → take 4 xs ≡ to_be_bytes w32 n
four-spelled [] n all long is = absurd (omega arith)
four-spelled (a ∷ []) n all long is = absurd (omega arith)
four-spelled (a ∷ b ∷ []) n all long is = absurd (omega arith)
four-spelled (a ∷ b ∷ c ∷ []) n all long is = absurd (omega arith)
four-spelled (a ∷ b ∷ c ∷ d ∷ xs) n all long is = sym (be_bytes_4 (a ∷ b ∷ c ∷ d ∷ []) n refl four is)
  where
    four : (i : ℕ) → get_or (a ∷ b ∷ c ∷ d ∷ []) i 0 < 256
    four zero = all 0
    four (suc zero) = all 1
    four (suc (suc zero)) = all 2
    four (suc (suc (suc zero))) = all 3
    four (suc (suc (suc (suc i)))) = omega arith

-- what is wrong with a frame that is whole is what is wrong with its body
pub whole-fault : (limits : Limits) (bytes : List ℕ) → 4 + from_be_bytes w32 bytes ≤ length bytes → is_long limits (from_be_bytes w32 bytes) ≡ false
    → frame_fault limits bytes ≡ fault_of (request_in limits (take (from_be_bytes w32 bytes) (drop 4 bytes)))
whole-fault limits bytes long fits =
    cond-false (length bytes == 0) _ _ (ne_eqb (length bytes) 0 (λ e. omega arith))
    ∙ cond-false (nat_lt (length bytes) 4) _ _ (le-ltb (length bytes) 4 (omega arith))
    ∙ cond-false (is_long limits (from_be_bytes w32 bytes)) _ _ fits
    ∙ cond-false (nat_lt (length bytes) (4 + from_be_bytes w32 bytes)) _ _ (le-ltb (length bytes) (4 + from_be_bytes w32 bytes) long)

-- known bytes in which these stand, and then the rest, stay those where more was read
pub in-front : (a m b : Option (List ℕ)) (first now : List ℕ) → Keeps a (prepend_known first m) → Keeps (prepend_known first m) (prepend_known now b)
    → IfSome a (λ u. (x : List ℕ) × (y : List ℕ) × (u ≡ first ++ x) × (u ≡ now ++ y) × (b ≡ Some y))
in-front None m b first now kept again = tt
in-front (Some u) None b first now kept again = absurd kept
in-front (Some u) (Some x) None first now kept again = absurd again
in-front (Some u) (Some x) (Some y) first now kept again = (x, y, sym kept, sym (again ∙ kept), refl)

module _ (limits : Limits) (m b : Option (List ℕ)) (first now body : List ℕ) (size end : ℕ)
    (four : 4 ≤ length first) (number : size ≡ from_be_bytes w32 first) (spelled : take 4 first ≡ to_be_bytes w32 size)
    (ends : end ≡ 4 + size) (whole : end ≤ length now) (body-is : body ≡ take (end - 4) (drop 4 now)) where
  body-in : body ≡ take size (drop 4 now)
  body-in = body-is ∙ ap (λ (n : ℕ). take n (drop 4 now)) (let e : end - 4 ≡ size = omega arith in e)

  body-long : length body ≡ size
  body-long = ap (λ (xs : List ℕ). length xs) body-in ∙ length-take-le size (drop 4 now) (omega (arith, length-drop 4 now))

  same-four : (u x y : List ℕ) → u ≡ first ++ x → u ≡ now ++ y → take 4 now ≡ to_be_bytes w32 size
  same-four u x y f g = sym (take-append-le 4 now y (omega arith)) ∙ ap (take 4) (sym g ∙ f) ∙ take-append-le 4 first x four ∙ spelled

  frame-in : (u x y : List ℕ) → u ≡ first ++ x → u ≡ now ++ y → now ≡ frame_bytes body ++ drop end now
  frame-in u x y f g =
      sym (take-append-drop 4 now)
      ∙ ap₂ (λ (xs ys : List ℕ). xs ++ ys) (same-four u x y f g) (sym (take-append-drop size (drop 4 now)))
      ∙ ap₂ (λ (n : ℕ) (xs : List ℕ). to_be_bytes w32 n ++ (xs ++ drop size (drop 4 now))) (sym body-long) (sym body-in)
      ∙ ap (λ (xs : List ℕ). to_be_bytes w32 (length body) ++ (body ++ xs)) (drop-drop size 4 now ∙ ap (λ (n : ℕ). drop n now) (let e : 4 + size ≡ end = omega arith in e))
      ∙ sym (append_assoc (to_be_bytes w32 (length body)) body (drop end now))

  taken : (a : Option (List ℕ)) → IfSome a (λ u. (x : List ℕ) × (y : List ℕ) × (u ≡ first ++ x) × (u ≡ now ++ y) × (b ≡ Some y)) → Consumes a (prepend_known (drop end now) b) (frame_bytes body)
  taken None h = tt
  taken (Some u) h =
      subst (λ (o : Option (List ℕ)). Consumes (Some u) (prepend_known (drop end now) o) (frame_bytes body)) (sym h.4)
      (h.3 ∙ ap (λ (xs : List ℕ). xs ++ h.1) (frame-in u h.0 h.1 h.2 h.3) ∙ append_assoc (frame_bytes body) (drop end now) h.1)

  -- the request of the frame in front is read, and the frame is taken
  pub request-taken : (a : Option (List ℕ)) (r : FramedRequest) → Keeps a (prepend_known first m) → Keeps (prepend_known first m) (prepend_known now b) → (body ≡ request_bytes r) × RequestFits limits r
      → IsRequestRead limits a r (prepend_known (drop end now) b)
  request-taken a r kept again right = record {
    fits = right.1;
    taken = subst (λ (xs : List ℕ). Consumes a (prepend_known (drop end now) b) (frame_bytes xs)) right.0 (taken a (in-front a m b first now kept again));
  }

  fault-in : (u x y : List ℕ) → u ≡ first ++ x → u ≡ now ++ y → is_long limits size ≡ false → frame_fault limits u ≡ fault_of (request_in limits body)
  fault-in u x y f g short =
      let front : from_be_bytes w32 u ≡ size = ap (from_be_bytes w32) f ∙ size-in-front first x four ∙ sym number in
      let long : 4 + from_be_bytes w32 u ≤ length u = omega (arith, front, ap (λ (xs : List ℕ). length xs) g, length-append now y) in
      whole-fault limits u long (ap (is_long limits) front ∙ short)
      ∙ ap (λ (n : ℕ). fault_of (request_in limits (take n (drop 4 u)))) front
      ∙ ap (λ (xs : List ℕ). fault_of (request_in limits (take size xs))) (ap (drop 4) g ∙ drop-append-le 4 now y (omega arith))
      ∙ ap (λ (xs : List ℕ). fault_of (request_in limits xs)) (take-append-le size (drop 4 now) y (omega (arith, length-drop 4 now)) ∙ sym body-in)

  -- what is wrong with its body is what is wrong with the frame in front
  pub request-wrong : (a : Option (List ℕ)) (e : FrameFault) → Keeps a (prepend_known first m) → Keeps (prepend_known first m) (prepend_known now b) → is_long limits size ≡ false
      → (e ≢ Memory → request_in limits body ≡ Err e) → IsWrong limits a e
  request-wrong a e kept again short is = λ other memory. known a (in-front a m b first now kept again) memory
    where
      known : (o : Option (List ℕ)) → IfSome o (λ u. (x : List ℕ) × (y : List ℕ) × (u ≡ first ++ x) × (u ≡ now ++ y) × (b ≡ Some y)) → e ≢ Memory → IfSome o (λ bytes. frame_fault limits bytes ≡ Some e)
      known None h memory = tt
      known (Some u) h memory = fault-in u h.0 h.1 h.2 h.3 short ∙ ap fault_of (is memory)
