-- The bytes of a request's frame and the request that is read from them.
use Rattle.std.proofs.Common.{◌≡◌, ℕ, suc, ◌<◌, sym, List, [], ◌∷◌, length, Bool, true, false, cond, Result, Ok, Err, refl, ap, ◌∙◌, subst, arith}
use Rattle.std.specs.Prelude.{◌==◌}
use Rattle.std.proofs.lemmas.Bool.{eqb-true}
use Rattle.hd_serve.specs.declared.call.Limits.{Limits}
use Rattle.hd_serve.specs.declared.fault.FrameFault.{FrameFault}
use Rattle.hd_serve.specs.declared.fault.FrameFault.TheVariants.{Extra}
use Rattle.hd_serve.specs.declared.request.FramedRequest.{FramedRequest}
use Rattle.hd_serve.specs.declared.request.FramedRequest.TheVariants as asks
use Rattle.hd_session.specs.Turns.{Turn}
use Rattle.hd_serve.specs.Frames.{request_bytes, RequestFits, call_in, request_of_call, counted, counted_in, alone, request_in, CallFits, call_bytes}
use Rattle.hd_serve.proofs.CallFrames.{AreBytes, call-right, call-read}

-- a right request is read again from its bytes
pub request-read : (limits : Limits) (r : FramedRequest) → RequestFits limits r → request_in limits (request_bytes r) ≡ Ok r
request-read limits (asks.Call c) fits = ap request_of_call (call-read limits c fits)
request-read limits (asks.Make c n) fits = ap (counted asks.Make n) (call-read limits c fits.0)
request-read limits (asks.Foretell c n) fits = ap (counted asks.Foretell n) (call-read limits c fits.0)
request-read limits asks.Commit fits = refl
request-read limits asks.RollBack fits = refl

ok-same : (x y : FramedRequest) → ◌≡◌ {A = Result FramedRequest FrameFault} (Ok x) (Ok y) → x ≡ y
ok-same x y e = cc

-- a request whose kind is all of its body
alone-right : (r : FramedRequest) (kind : ℕ) (body : List ℕ) (x : FramedRequest) → alone r kind body ≡ Ok x → (length body ≡ 1) × (r ≡ x)
alone-right r kind body x is = by (length body == 1) refl is
  where
    by : (b : Bool) → (length body == 1) ≡ b → cond b (Ok r) (Err (Extra kind)) ≡ Ok x → (length body ≡ 1) × (r ≡ x)
    by true one e = (eqb-true (length body) 1 one, ok-same r x e)
    by false one e = cc

module _ (limits : Limits) (x : FramedRequest) where
  of-call : (body : List ℕ) (r : Result Turn FrameFault) → AreBytes body → call_in limits body ≡ r → request_of_call r ≡ Ok x → (body ≡ request_bytes x) × RequestFits limits x
  of-call body (Ok c) all is e = subst (λ (y : FramedRequest). (body ≡ request_bytes y) × RequestFits limits y) (ok-same (asks.Call c) x e) (call-right limits body c all is)
  of-call body (Err f) all is e = cc

  only : (k : ℕ) (rest : List ℕ) → length (k ∷ rest) ≡ 1 → k ∷ rest ≡ k ∷ []
  only k [] one = refl
  only k (y ∷ ys) one = absurd (omega (arith, one))

  -- a request whose kind and count stand before its call
  of-counted : (kind : Turn → ℕ → FramedRequest) (number k : ℕ) (rest : List ℕ) → ((c : Turn) (n : ℕ) → request_bytes (kind c n) ≡ number ∷ n ∷ call_bytes c)
      → ((c : Turn) (n : ℕ) → CallFits limits c → n < 256 → RequestFits limits (kind c n)) → AreBytes (k ∷ rest) → k ≡ number → counted_in kind limits (k ∷ rest) ≡ Ok x
      → (k ∷ rest ≡ request_bytes x) × RequestFits limits x
  of-counted kind number k [] spelled fits all is e = cc
  of-counted kind number k (n ∷ body) spelled fits all is e = by (call_in limits body) refl e
    where
      behind-two : AreBytes (k ∷ n ∷ body) → AreBytes body
      behind-two h i = h (suc (suc i))

      by : (r : Result Turn FrameFault) → call_in limits body ≡ r → counted kind n r ≡ Ok x → (k ∷ n ∷ body ≡ request_bytes x) × RequestFits limits x
      by (Err f) read found = cc
      by (Ok c) read found =
          let right = call-right limits body c (behind-two all) read in
          subst (λ (y : FramedRequest). (k ∷ n ∷ body ≡ request_bytes y) × RequestFits limits y) (ok-same (kind c n) x found)
          (ap (λ (j : ℕ). j ∷ n ∷ body) is ∙ ap (λ (bytes : List ℕ). number ∷ n ∷ bytes) right.0 ∙ sym (spelled c n), fits c n right.1 (all 1))

  by-kind : (k : ℕ) (rest : List ℕ) (two three four five : Bool) → AreBytes (k ∷ rest) → (k == 2) ≡ two → (k == 3) ≡ three → (k == 4) ≡ four → (k == 5) ≡ five
      → cond two (alone asks.Commit 2 (k ∷ rest)) (cond three (alone asks.RollBack 3 (k ∷ rest))
      (cond four (counted_in asks.Make limits (k ∷ rest)) (cond five (counted_in asks.Foretell limits (k ∷ rest)) (request_of_call (call_in limits (k ∷ rest)))))) ≡ Ok x
      → (k ∷ rest ≡ request_bytes x) × RequestFits limits x
  by-kind k rest true three four five all two other fourth fifth is =
      let p = alone-right asks.Commit 2 (k ∷ rest) x is in
      subst (λ (y : FramedRequest). (k ∷ rest ≡ request_bytes y) × RequestFits limits y) p.1 (only k rest p.0 ∙ ap (λ (j : ℕ). j ∷ []) (eqb-true k 2 two), tt)
  by-kind k rest false true four five all two other fourth fifth is =
      let p = alone-right asks.RollBack 3 (k ∷ rest) x is in
      subst (λ (y : FramedRequest). (k ∷ rest ≡ request_bytes y) × RequestFits limits y) p.1 (only k rest p.0 ∙ ap (λ (j : ℕ). j ∷ []) (eqb-true k 3 other), tt)
  by-kind k rest false false true five all two other fourth fifth is = of-counted asks.Make 4 k rest (λ c n. refl) (λ c n fits few. (fits, few)) all (eqb-true k 4 fourth) is
  by-kind k rest false false false true all two other fourth fifth is = of-counted asks.Foretell 5 k rest (λ c n. refl) (λ c n fits few. (fits, few)) all (eqb-true k 5 fifth) is
  by-kind k rest false false false false all two other fourth fifth is = of-call (k ∷ rest) (call_in limits (k ∷ rest)) all refl is

  -- the request that is read from the body of a frame is a right one, and spelled so
  pub request-right : (body : List ℕ) → AreBytes body → request_in limits body ≡ Ok x → (body ≡ request_bytes x) × RequestFits limits x
  request-right [] all is = cc
  request-right (k ∷ rest) all is = by-kind k rest (k == 2) (k == 3) (k == 4) (k == 5) all refl refl refl refl is
