-- The bytes of a call's frame and the call that is read from them.
use Rattle.std.proofs.Common.{◌≡◌, ℕ, zero, suc, ◌+◌, ◌<◌, ◌≤◌, ◌^◌, List, [], ◌∷◌, ◌++◌, length, take, drop, get_or, Bool, true, false, cond, Option, Some, None, Result, Ok, Err, refl, sym, ap, ap₂, ◌∙◌, subst, arith, append_assoc, length-append}
use Rattle.std.specs.Prelude.{nat_lt, ◌==◌, ◌||◌, option_map, flat_map}
use Rattle.std.specs.List.{AllByRecursion}
use Rattle.std.specs.Int.{w16, to_be_bytes, from_be_bytes}
use Rattle.std.proofs.lemmas.Bool.{cond-false, le-ltb, ltb-false, eqb-true, ne_eqb, or_parts, or_from}
use Rattle.std.proofs.lemmas.List.{take-append-drop, length-take-le, take_at, drop_at}
use Rattle.std.proofs.lemmas.List.Elements.{All-from_recursion, recursion_from_All}
use Rattle.std.proofs.lemmas.Nat.{be_bytes_2, from_be_bytes-to_be_bytes_2}
use Rattle.hd_serve.specs.declared.call.Limits.{Limits}
use Rattle.hd_serve.specs.declared.fault.FrameFault.{FrameFault}
use Rattle.hd_serve.specs.declared.fault.FrameFault.TheVariants.{Short, Kind, Pcb, Ssas, Area}
use Rattle.hd_session.specs.Turns.{Turn}
use Rattle.hd_serve.specs.Frames.{ssa_bytes, call_bytes, CallFits, ssas_in, with_ssas, call_in}

-- all are bytes
abbrev pub AreBytes : List ℕ → Type 0
AreBytes xs = (i : ℕ) → get_or xs i 0 < 256

-- ---- what reads well is spelled so

behind-first : (x : ℕ) (xs : List ℕ) → AreBytes (x ∷ xs) → AreBytes xs
behind-first x xs all i = all (suc i)

-- what is behind some bytes are bytes
pub behind : (n : ℕ) (xs : List ℕ) → AreBytes xs → AreBytes (drop n xs)
behind zero xs all = all
behind (suc n) [] all = λ i. omega arith
behind (suc n) (x ∷ xs) all = behind n xs (behind-first x xs all)

unless : {A E : Type 0} (b : Bool) (e : E) (r : Result A E) (x : A) → cond b (Err e) r ≡ Ok x → (b ≡ false) × (r ≡ Ok x)
unless true e r x is = cc
unless false e r x is = (refl, is)

where-so : {A E : Type 0} (b : Bool) (e : E) (r : Result A E) (x : A) → cond b r (Err e) ≡ Ok x → (b ≡ true) × (r ≡ Ok x)
where-so true e r x is = (refl, is)
where-so false e r x is = cc

there : {A : Type 0} (b : Bool) (o : Option A) (x : A) → cond b None o ≡ Some x → (b ≡ false) × (o ≡ Some x)
there true o x is = cc
there false o x is = (refl, is)

abbrev Found : Type 0
Found = List (List ℕ) × List ℕ

-- what is read in front of others
mapped : (ssa : List ℕ) (o : Option Found) (r : Found) → option_map (λ q. (ssa ∷ q.0, q.1)) o ≡ Some r → (q : Found) × (o ≡ Some q) × (ssa ∷ q.0 ≡ r.0) × (q.1 ≡ r.1)
mapped ssa None r is = cc
mapped ssa (Some q) r is = (q, refl, ap (λ (o : Option Found). first o) is, ap (λ (o : Option Found). second o) is)
  where
    first : Option Found → List (List ℕ)
    first None = []
    first (Some p) = p.0

    second : Option Found → List ℕ
    second None = []
    second (Some p) = p.1

-- the front of bytes is an argument's spelling
ssa-right : (bytes : List ℕ) → AreBytes bytes → 2 + from_be_bytes w16 bytes ≤ length bytes
    → (bytes ≡ ssa_bytes (take (from_be_bytes w16 bytes) (drop 2 bytes)) ++ drop (2 + from_be_bytes w16 bytes) bytes) × (length (take (from_be_bytes w16 bytes) (drop 2 bytes)) < 2 ^ 16)
ssa-right [] all there-is = absurd (omega arith)
ssa-right (a ∷ []) all there-is = absurd (omega arith)
ssa-right (a ∷ b ∷ rs) all there-is =
    let size : ℕ = from_be_bytes w16 (a ∷ b ∷ rs) in
    let fits : size ≤ length rs = omega arith in
    let len : length (take size rs) ≡ size = length-take-le size rs fits in
    let spelled : to_be_bytes w16 size ≡ a ∷ b ∷ [] = be_bytes_2 (a ∷ b ∷ []) size refl two refl in (
      ap (λ (xs : List ℕ). a ∷ b ∷ xs) (sym (take-append-drop size rs))
          ∙ ap (λ (xs : List ℕ). xs ++ (take size rs ++ drop size rs)) (sym spelled)
          ∙ ap (λ (n : ℕ). to_be_bytes w16 n ++ (take size rs ++ drop size rs)) (sym len)
          ∙ ap (λ (xs : List ℕ). to_be_bytes w16 (length (take size rs)) ++ (take size rs ++ xs)) (behind-two size)
          ∙ sym (append_assoc (to_be_bytes w16 (length (take size rs))) (take size rs) (drop (2 + size) (a ∷ b ∷ rs))),
      (let below : size < 2 ^ 16 = omega (arith, all 0, all 1) in omega (arith, len)),
    )
  where
    behind-two : (n : ℕ) → drop n rs ≡ drop (2 + n) (a ∷ b ∷ rs)
    behind-two n = ap (λ (k : ℕ). drop k (a ∷ b ∷ rs)) (let more : suc (suc n) ≡ 2 + n = omega arith in more)

    two : (i : ℕ) → get_or (a ∷ b ∷ []) i 0 < 256
    two zero = all 0
    two (suc zero) = all 1
    two (suc (suc i)) = omega arith

-- the arguments that are read are spelled so
ssas-right : (n : ℕ) (bytes : List ℕ) (r : Found) → AreBytes bytes → ssas_in n bytes ≡ Some r
    → (bytes ≡ flat_map ssa_bytes r.0 ++ r.1) × (length r.0 ≡ n) × AllByRecursion (λ ssa. length ssa < 2 ^ 16) r.0
ssas-right zero bytes r all is = subst (λ (q : Found). (bytes ≡ flat_map ssa_bytes q.0 ++ q.1) × (length q.0 ≡ 0) × AllByRecursion (λ ssa. length ssa < 2 ^ 16) q.0) (let e : ([], bytes) ≡ r = cc in e) (refl, refl, tt)
ssas-right (suc n) bytes r all is =
    let size : ℕ = from_be_bytes w16 bytes in
    let ssa : List ℕ = take size (drop 2 bytes) in
    let long = there (nat_lt (length bytes) (2 + size)) (option_map (λ q. (ssa ∷ q.0, q.1)) (ssas_in n (drop (2 + size) bytes))) r is in
    let front = ssa-right bytes all (ltb-false (length bytes) (2 + size) long.0) in
    let next = mapped ssa (ssas_in n (drop (2 + size) bytes)) r long.1 in
    let others = ssas-right n (drop (2 + size) bytes) next.0 (behind (2 + size) bytes all) next.1 in
    subst (λ (xs : List (List ℕ)). (bytes ≡ flat_map ssa_bytes xs ++ r.1) × (length xs ≡ suc n) × AllByRecursion (λ s. length s < 2 ^ 16) xs) next.2 (
      front.0 ∙ ap (λ (xs : List ℕ). ssa_bytes ssa ++ xs) (others.0 ∙ ap (λ (xs : List ℕ). flat_map ssa_bytes next.0.0 ++ xs) next.3)
          ∙ sym (append_assoc (ssa_bytes ssa) (flat_map ssa_bytes next.0.0) r.1),
      ap suc others.1,
      (front.1, others.2),
    )

-- a call that is found behind its arguments
with-right : (limits : Limits) (pcb : ℕ) (function : List ℕ) (o : Option Found) (c : Turn) → with_ssas limits pcb function o ≡ Ok c
    → (r : Found) × (o ≡ Some r) × (length r.1 ≤ limits.area) × (record { pcb = pcb; call = record { function = function; ssas = r.0; area = r.1 } } ≡ c)
with-right limits pcb function None c is = cc
with-right limits pcb function (Some r) c is =
    let fits = unless (nat_lt limits.area (length r.1)) (Area (length r.1)) (Ok (record { pcb = pcb; call = record { function = function; ssas = r.0; area = r.1 } })) c is in
    (r, refl, ltb-false limits.area (length r.1) fits.0, ok-same _ _ fits.1)
  where
    ok-same : (x y : Turn) → ◌≡◌ {A = Result Turn FrameFault} (Ok x) (Ok y) → x ≡ y
    ok-same x y e = cc

-- what is read from a body behind its kind, its PCB and its number of arguments
abbrev behind-count : Limits → ℕ → List ℕ → ℕ → List ℕ → Result Turn FrameFault
behind-count limits p function n rest = cond (nat_lt 15 n) (Err (Ssas n)) (with_ssas limits p function (ssas_in n rest))

abbrev behind-pcb : Limits → ℕ → List ℕ → ℕ → List ℕ → Result Turn FrameFault
behind-pcb limits p function n rest = cond (p == 0 || nat_lt limits.pcbs p) (Err (Pcb p)) (behind-count limits p function n rest)

abbrev behind-kind : Limits → ℕ → ℕ → List ℕ → ℕ → List ℕ → Result Turn FrameFault
behind-kind limits k p function n rest = cond (k == 1) (behind-pcb limits p function n rest) (Err (Kind k))

-- the call that is read from the body of a frame is a right one, and spelled so
pub call-right : (limits : Limits) (body : List ℕ) (x : Turn) → AreBytes body → call_in limits body ≡ Ok x → (body ≡ call_bytes x) × CallFits limits x
call-right limits [] x all is = cc
call-right limits (k ∷ []) x all is = cc
call-right limits (k ∷ p ∷ []) x all is = cc
call-right limits (k ∷ p ∷ a ∷ []) x all is = cc
call-right limits (k ∷ p ∷ a ∷ b ∷ []) x all is = cc
call-right limits (k ∷ p ∷ a ∷ b ∷ c ∷ []) x all is = cc
call-right limits (k ∷ p ∷ a ∷ b ∷ c ∷ d ∷ []) x all is = cc
call-right limits (k ∷ p ∷ a ∷ b ∷ c ∷ d ∷ n ∷ rest) x all is =
    let function : List ℕ = a ∷ b ∷ c ∷ d ∷ [] in
    let long = unless (nat_lt (length (k ∷ p ∷ a ∷ b ∷ c ∷ d ∷ n ∷ rest)) 7) Short (behind-kind limits k p function n rest) x is in
    let kind = where-so (k == 1) (Kind k) (behind-pcb limits p function n rest) x long.1 in
    let known = unless (p == 0 || nat_lt limits.pcbs p) (Pcb p) (behind-count limits p function n rest) x kind.1 in
    let few = unless (nat_lt 15 n) (Ssas n) (with_ssas limits p function (ssas_in n rest)) x known.1 in
    let parts = or_parts (p == 0) (nat_lt limits.pcbs p) known.0 in
    let found = with-right limits p function (ssas_in n rest) x few.1 in
    let spelled = ssas-right n rest found.0 (behind 7 (k ∷ p ∷ a ∷ b ∷ c ∷ d ∷ n ∷ rest) all) found.1 in
    let one : k ≡ 1 = eqb-true k 1 kind.0 in
    let most : n ≤ 15 = ltb-false 15 n few.0 in
    let some : 0 < p = not-zero p parts.0 in
    subst (λ (y : Turn). (k ∷ p ∷ a ∷ b ∷ c ∷ d ∷ n ∷ rest ≡ call_bytes y) × CallFits limits y) found.3 (
      ap₂ (λ (j : ℕ) (xs : List ℕ). j ∷ p ∷ a ∷ b ∷ c ∷ d ∷ n ∷ xs) one spelled.0
          ∙ ap (λ (m : ℕ). 1 ∷ p ∷ a ∷ b ∷ c ∷ d ∷ m ∷ (flat_map ssa_bytes found.0.0 ++ found.0.1)) (sym spelled.1),
      record {
        some_pcb = some;
        known_pcb = ltb-false limits.pcbs p parts.1;
        function = refl;
        few = omega (arith, spelled.1);
        short = All-from_recursion (λ ssa. length ssa < 2 ^ 16) found.0.0 spelled.2;
        fits = found.2;
      },
    )
  where
    not-zero : (q : ℕ) → (q == 0) ≡ false → 0 < q
    not-zero zero e = cc
    not-zero (suc q) e = omega arith

-- ---- and what is spelled is read

-- an argument is read again
ssa-read : (ssa rest : List ℕ) → length ssa < 2 ^ 16 → from_be_bytes w16 (ssa_bytes ssa ++ rest) ≡ length ssa
ssa-read ssa rest short = from_be_bytes-to_be_bytes_2 (length ssa) short

-- and so are some
pub ssas-read : (ssas : List (List ℕ)) (rest : List ℕ) → AllByRecursion (λ ssa. length ssa < 2 ^ 16) ssas → ssas_in (length ssas) (flat_map ssa_bytes ssas ++ rest) ≡ Some (ssas, rest)
ssas-read [] rest short = refl
ssas-read (ssa ∷ ssas) rest short =
    let more : List ℕ = flat_map ssa_bytes ssas ++ rest in
    let number : from_be_bytes w16 (ssa_bytes ssa ++ more) ≡ length ssa = ssa-read ssa more short.0 in
    ap (λ (xs : List ℕ). ssas_in (suc (length ssas)) xs) (append_assoc (ssa_bytes ssa) (flat_map ssa_bytes ssas) rest)
    ∙ ap (λ (n : ℕ). cond (nat_lt (length (ssa_bytes ssa ++ more)) (2 + n)) None
    (option_map (λ r. (take n (drop 2 (ssa_bytes ssa ++ more)) ∷ r.0, r.1)) (ssas_in (length ssas) (drop (2 + n) (ssa_bytes ssa ++ more))))) number
    ∙ cond-false (nat_lt (length (ssa_bytes ssa ++ more)) (2 + length ssa)) None _ (le-ltb (length (ssa_bytes ssa ++ more)) (2 + length ssa) (omega (arith, length-append ssa more)))
    ∙ ap₂ (λ (s xs : List ℕ). option_map (λ r. (s ∷ r.0, r.1)) (ssas_in (length ssas) xs)) (take_at ssa more (length ssa) refl) (drop_at (ssa_bytes ssa) more (2 + length ssa) (omega arith))
    ∙ ap (λ (o : Option Found). option_map (λ r. (ssa ∷ r.0, r.1)) o) (ssas-read ssas rest short.1)

-- the bytes of a call with another function
abbrev spelled : Turn → List ℕ → List ℕ
spelled c function = 1 ∷ c.pcb ∷ (function ++ length c.call.ssas ∷ (flat_map ssa_bytes c.call.ssas ++ c.call.area))

-- a right call is read again from its bytes
pub call-read : (limits : Limits) (c : Turn) → CallFits limits c → call_in limits (call_bytes c) ≡ Ok c
call-read limits c fits = read c.call.function fits.function
  where
    some : (p : ℕ) → 0 < p → (p == 0) ≡ false
    some p h = ne_eqb p 0 (λ e. omega arith)

    read : (function : List ℕ) → length function ≡ 4 → call_in limits (spelled c function) ≡ Ok (record { pcb = c.pcb; call = record { function = function; ssas = c.call.ssas; area = c.call.area } })
    read [] four = cc
    read (x ∷ []) four = cc
    read (x ∷ y ∷ []) four = cc
    read (x ∷ y ∷ z ∷ []) four = cc
    read (x ∷ y ∷ z ∷ w ∷ []) four =
        cond-false (nat_lt (length (spelled c (x ∷ y ∷ z ∷ w ∷ []))) 7) _ _ (le-ltb (length (spelled c (x ∷ y ∷ z ∷ w ∷ []))) 7 (omega arith))
        ∙ cond-false (c.pcb == 0 || nat_lt limits.pcbs c.pcb) _ _ (or_from _ _ (some c.pcb fits.some_pcb) (le-ltb limits.pcbs c.pcb fits.known_pcb))
        ∙ cond-false (nat_lt 15 (length c.call.ssas)) _ _ (le-ltb 15 (length c.call.ssas) fits.few)
        ∙ ap (λ (o : Option Found). with_ssas limits c.pcb (x ∷ y ∷ z ∷ w ∷ []) o) (ssas-read c.call.ssas c.call.area (recursion_from_All (λ ssa. length ssa < 2 ^ 16) c.call.ssas fits.short))
        ∙ cond-false (nat_lt limits.area (length c.call.area)) _ _ (le-ltb limits.area (length c.call.area) fits.fits)
    read (x ∷ y ∷ z ∷ w ∷ v ∷ more) four = absurd (omega arith)
