-- The bytes of an answer's frame, part by part.
use Rattle.std.proofs.Common.{◌≡◌, ℕ, ◌+◌, List, [], ◌∷◌, ◌++◌, length, refl, sym, ap, ◌∙◌, arith, append_assoc, length-append}
use Rattle.std.specs.Prelude.{flat_map, replicate, unwrap_or}
use Rattle.std.specs.Int.{w16, w32, to_be_bytes}
use Rattle.hd_dbd.specs.declared.answer.Status.{Status}
use Rattle.hd_dbd.specs.declared.answer.Status.TheVariants.{Blank, GA, GK, GB, GE, GP, II, V1, DA, DJ, LB, LC, LD, LE, AC, AD, AH, AJ, AK, AM}
use Rattle.hd_dbd.specs.Calls.{Reply}
use Rattle.hd_serve.specs.Frames.{frame_bytes}
use Rattle.hd_dbd.specs.Statuses.{status_text}
use Rattle.hd_serve.specs.Answers.{answer_bytes}

-- a status has two letters
pub two-letters : (s : Status) → length (status_text s) ≡ 2
two-letters Blank = refl
two-letters GA = refl
two-letters GK = refl
two-letters GB = refl
two-letters GE = refl
two-letters GP = refl
two-letters II = refl
two-letters V1 = refl
two-letters DA = refl
two-letters DJ = refl
two-letters LB = refl
two-letters LC = refl
two-letters LD = refl
two-letters LE = refl
two-letters AC = refl
two-letters AD = refl
two-letters AH = refl
two-letters AJ = refl
two-letters AK = refl
two-letters AM = refl

parts : (head status name digits key area : List ℕ) (level : ℕ)
    → ((((((head ++ 0 ∷ []) ++ status) ++ level ∷ []) ++ name) ++ digits) ++ key) ++ area ≡ head ++ (0 ∷ (status ++ level ∷ (name ++ (digits ++ (key ++ area)))))
parts head status name digits key area level = simp append_assoc

-- so many bytes has an answer
pub answer-long : (r : Reply) → length (answer_bytes r) ≡ 6 + length (unwrap_or r.segment (replicate 8 32)) + (length r.key + length r.area)
answer-long r =
    let name : List ℕ = unwrap_or r.segment (replicate 8 32) in
    let rest : List ℕ = to_be_bytes w16 (length r.key) ++ (r.key ++ r.area) in
    omega (arith, length-append (status_text r.status) (r.level ∷ (name ++ rest)), two-letters r.status, length-append name rest, length-append r.key r.area)

-- and so many its frame
pub frame-long : (r : Reply) → length (frame_bytes (answer_bytes r)) ≡ 10 + length (unwrap_or r.segment (replicate 8 32)) + (length r.key + length r.area)
frame-long r = omega (arith, answer-long r)

-- the frames of answers, one behind the other
abbrev pub frames : List Reply → List ℕ
frames replies = flat_map (λ r. frame_bytes (answer_bytes r)) replies

-- the parts of an answer, one behind the other, are its frame, behind what stands before
pub answer-pushed : (old : List ℕ) (r : Reply) (size : ℕ) (name : List ℕ) → name ≡ unwrap_or r.segment (replicate 8 32) → length name ≡ 8 → size ≡ 14 + length r.key + length r.area
    → (((((((old ++ to_be_bytes w32 size) ++ 0 ∷ []) ++ status_text r.status) ++ r.level ∷ []) ++ name) ++ to_be_bytes w16 (length r.key)) ++ r.key) ++ r.area ≡ old ++ frame_bytes (answer_bytes r)
answer-pushed old r size name is eight sum =
    let digits : List ℕ = to_be_bytes w16 (length r.key) in
    let body : List ℕ = 0 ∷ (status_text r.status ++ r.level ∷ (name ++ (digits ++ (r.key ++ r.area)))) in
    parts (old ++ to_be_bytes w32 size) (status_text r.status) name digits r.key r.area r.level
    ∙ append_assoc old (to_be_bytes w32 size) body
    ∙ ap (λ (xs : List ℕ). old ++ xs) (spelled r size name is eight sum)
  where
    spelled : (r : Reply) (size : ℕ) (name : List ℕ) → name ≡ unwrap_or r.segment (replicate 8 32) → length name ≡ 8 → size ≡ 14 + length r.key + length r.area
        → to_be_bytes w32 size ++ (0 ∷ (status_text r.status ++ r.level ∷ (name ++ (to_be_bytes w16 (length r.key) ++ (r.key ++ r.area))))) ≡ frame_bytes (answer_bytes r)
    spelled r size name is eight sum =
        ap (λ (xs : List ℕ). to_be_bytes w32 size ++ (0 ∷ (status_text r.status ++ r.level ∷ (xs ++ (to_be_bytes w16 (length r.key) ++ (r.key ++ r.area)))))) is
        ∙ ap (λ (n : ℕ). to_be_bytes w32 n ++ answer_bytes r) (let e : size ≡ length (answer_bytes r) = omega (arith, sum, answer-long r, ap (λ (xs : List ℕ). length xs) is, eight) in e)
