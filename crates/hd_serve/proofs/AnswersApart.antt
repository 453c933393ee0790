-- What an answer's bytes say.
use Rattle.std.proofs.Common.{◌≡◌, ◌≢◌, ℕ, suc, ◌≤◌, List, [], ◌∷◌, ◌++◌, length, take, drop, get_or, cond, Option, Some, None, refl, sym, ap, ◌∙◌, arith}
use Rattle.std.specs.Prelude.{IsTrue, IfSome, ◌==◌, ◌&&◌, codes, bytes_eq, replicate, unwrap_or}
use Rattle.std.specs.Int.{w16, to_be_bytes, from_be_bytes}
use Rattle.std.proofs.lemmas.Bool.{cond-false, and_parts, eqb-true, ne_eqb, leb-true}
use Rattle.std.proofs.lemmas.List.{take_at, drop_at}
use Rattle.std.proofs.lemmas.Nat.{from_be_bytes-to_be_bytes_2}
use Rattle.hd_dbd.specs.declared.answer.Refused.{Refused}
use Rattle.hd_dbd.specs.declared.answer.Refused.TheVariants as refused
use Rattle.hd_dbd.specs.declared.answer.Status.{Status}
use Rattle.hd_dbd.specs.declared.answer.Status.TheVariants.{Blank, GA, GK, GB, GE, GP, II, V1, DA, DJ, LB, LC, LD, LE, AC, AD, AH, AJ, AK, AM}
use Rattle.hd_dbd.specs.Naming.{is_name, is_letter, is_name_rest}
use Rattle.hd_dbd.specs.Calls.{Reply}
use Rattle.hd_dbd.specs.Statuses.{status_text}
use Rattle.hd_serve.specs.Answers.{answer_bytes, refusal_bytes, done_bytes}
use Rattle.hd_serve.specs.Laws.{CanBeTold, DoneIsToldApart}
use Rattle.hd_serve.proofs.Answers.{two-letters}

-- the status of two letters
abbrev status-of : List ℕ → Status
status-of xs =
    cond (bytes_eq xs (codes "GA")) GA (cond (bytes_eq xs (codes "GK")) GK (cond (bytes_eq xs (codes "GB")) GB (cond (bytes_eq xs (codes "GE")) GE
    (cond (bytes_eq xs (codes "GP")) GP (cond (bytes_eq xs (codes "II")) II (cond (bytes_eq xs (codes "V1")) V1 (cond (bytes_eq xs (codes "DA")) DA
    (cond (bytes_eq xs (codes "DJ")) DJ (cond (bytes_eq xs (codes "LB")) LB (cond (bytes_eq xs (codes "LC")) LC (cond (bytes_eq xs (codes "LD")) LD
    (cond (bytes_eq xs (codes "LE")) LE (cond (bytes_eq xs (codes "AC")) AC (cond (bytes_eq xs (codes "AD")) AD (cond (bytes_eq xs (codes "AH")) AH
    (cond (bytes_eq xs (codes "AJ")) AJ (cond (bytes_eq xs (codes "AK")) AK (cond (bytes_eq xs (codes "AM")) AM Blank))))))))))))))))))

status-told : (s : Status) → status-of (status_text s) ≡ s
status-told Blank = refl
status-told GA = refl
status-told GK = refl
status-told GB = refl
status-told GE = refl
status-told GP = refl
status-told II = refl
status-told V1 = refl
status-told DA = refl
status-told DJ = refl
status-told LB = refl
status-told LC = refl
status-told LD = refl
status-told LE = refl
status-told AC = refl
status-told AD = refl
status-told AH = refl
status-told AJ = refl
status-told AK = refl
status-told AM = refl

-- the segment of eight bytes, none where they begin with a blank
abbrev segment-of : List ℕ → Option (List ℕ)
segment-of xs = cond (get_or xs 0 0 == 32) None (Some xs)

abbrev name-of : Option (List ℕ) → List ℕ
name-of o = unwrap_or o (replicate 8 32)

segment-told : (o : Option (List ℕ)) → IfSome o (λ name. IsTrue (is_name name)) → (segment-of (name-of o) ≡ o) × (length (name-of o) ≡ 8)
segment-told None h = (refl, refl)
segment-told (Some []) h = cc
segment-told (Some (b ∷ bs)) h =
    let parts = and_parts (is_letter b && length bs == 7) (is_name_rest bs) h in
    let both = and_parts (is_letter b) (length bs == 7) parts.0 in
    let letter = and_parts _ _ both.0 in
    let low : 65 ≤ b = leb-true 65 b letter.0 in (
      cond-false (b == 32) None (Some (b ∷ bs)) (ne_eqb b 32 (λ e. omega arith)),
      ap suc (eqb-true (length bs) 7 both.1),
    )

-- a segment's name has eight bytes, and so have the blanks
pub segment-long : (o : Option (List ℕ)) → IfSome o (λ name. IsTrue (is_name name)) → length (name-of o) ≡ 8
segment-long o h = (segment-told o h).1

-- lists of one length in front of others are told from what is behind
parted : (n : ℕ) (a b x y : List ℕ) → length a ≡ n → length b ≡ n → a ++ x ≡ b ++ y → (a ≡ b) × (x ≡ y)
parted n a b x y l m e = (
  sym (take_at a x n l) ∙ ap (take n) e ∙ take_at b y n m,
  sym (drop_at a x n l) ∙ ap (drop n) e ∙ drop_at b y n m,
)

-- replies with the same bytes are one
pub answers-apart : (r s : Reply) → CanBeTold r → CanBeTold s → answer_bytes r ≡ answer_bytes s → r ≡ s
answers-apart r s f g same =
    let first = parted 2 (status_text r.status) (status_text s.status) (drop 3 (answer_bytes r)) (drop 3 (answer_bytes s)) (two-letters r.status) (two-letters s.status) (front r ∙ ap (drop 1) same ∙ sym (front s)) in
    let rest = tails r ∙ first.1 ∙ sym (tails s) in
    let level : r.level ≡ s.level = ap (λ (xs : List ℕ). get_or xs 0 0) rest in
    let segments = parted 8 (name-of r.segment) (name-of s.segment) (behind r) (behind s) (segment-told r.segment f.named).1 (segment-told s.segment g.named).1 (ap (drop 1) rest) in
    let lengths = parted 2 (to_be_bytes w16 (length r.key)) (to_be_bytes w16 (length s.key)) (r.key ++ r.area) (s.key ++ s.area) refl refl segments.1 in
    let long : length r.key ≡ length s.key =
    sym (from_be_bytes-to_be_bytes_2 (length r.key) f.short) ∙ ap (from_be_bytes w16) lengths.0 ∙ from_be_bytes-to_be_bytes_2 (length s.key) g.short in
    let keys = parted (length r.key) r.key s.key r.area s.area refl (sym long) lengths.1 in
    let status : r.status ≡ s.status = sym (status-told r.status) ∙ ap status-of first.0 ∙ status-told s.status in
    let segment : r.segment ≡ s.segment = sym (segment-told r.segment f.named).0 ∙ ap segment-of segments.0 ∙ (segment-told s.segment g.named).0 in
    same-reply r s status level segment keys.0 keys.1
  where
    behind : Reply → List ℕ
    behind q = to_be_bytes w16 (length q.key) ++ (q.key ++ q.area)

    tail : Reply → List ℕ
    tail q = q.level ∷ (name-of q.segment ++ behind q)

    front : (q : Reply) → status_text q.status ++ drop 3 (answer_bytes q) ≡ drop 1 (answer_bytes q)
    front q = ap (λ (xs : List ℕ). status_text q.status ++ xs) (drop_at (status_text q.status) (tail q) 2 (two-letters q.status))

    tails : (q : Reply) → tail q ≡ drop 3 (answer_bytes q)
    tails q = sym (drop_at (status_text q.status) (tail q) 2 (two-letters q.status))

    same-reply : (q t : Reply) → q.status ≡ t.status → q.level ≡ t.level → q.segment ≡ t.segment → q.key ≡ t.key → q.area ≡ t.area → q ≡ t
    same-reply q t a b c d e = (λ i. record { status = a i; level = b i; segment = c i; key = d i; area = e i })

-- the first bytes of an answer and of a refusal are not that of done
pub done-apart : DoneIsToldApart
done-apart = (λ r. (λ e. cc), refusal-apart)
  where
    refusal-apart : (e : Refused) → refusal_bytes e ≢ done_bytes
    refusal-apart refused.Full = λ e. cc
    refusal-apart refused.Area = λ e. cc
    refusal-apart refused.Memory = λ e. cc
    refusal-apart refused.Device = λ e. cc
    refusal-apart refused.Broken = λ e. cc
