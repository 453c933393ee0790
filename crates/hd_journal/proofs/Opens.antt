-- When a log counts, and what the pair then stands for.
use Rattle.std.proofs.Common.{◌≡◌, ◌≢◌, inl, inr, ℕ, true, false, List, length, slice_index, refl, sym, ◌∙◌, arith}
use Rattle.std.proofs.lemmas.Bool.{and_parts, and_from, eq-eqb, ne_eqb, le-leb, leb-true, cases_eq, cases_Bool, and_left}
use Rattle.std.proofs.lemmas.Grind.{same_number_lists}
use Rattle.hd_journal.specs.declared.head.Head.{Head}
use Rattle.hd_journal.specs.Log.{head_of, image, fits, is_marked, is_open, recovered, Fits, Spares}
use Rattle.hd_journal.specs.States.{MayShut}
use Rattle.hd_journal.proofs.Bytes.{spared-image, image-again, length-image}

pub fits-parts : (h : Head) (log volume : List ℕ) → fits h (length log) (length volume) ≡ true → Fits h log volume
fits-parts h log volume e =
    let a = and_parts _ _ e in
    let b = and_parts _ _ a.1 in
    let c = and_parts _ _ b.1 in
    let d = and_parts _ _ c.1 in
    let f = and_parts _ _ d.1 in
    record { some = leb-true _ _ a.0; small = leb-true _ _ b.0; frames = leb-true _ _ c.0; base = leb-true _ _ d.0; grows = leb-true _ _ f.0; few = leb-true _ _ f.1 }

pub fits-from : (h : Head) (log volume : List ℕ) → Fits h log volume → fits h (length log) (length volume) ≡ true
fits-from h log volume f =
    and_from _ _ (le-leb _ _ f.some) (and_from _ _ (le-leb _ _ f.small) (and_from _ _ (le-leb _ _ f.frames) (and_from _ _ (le-leb _ _ f.base) (and_from _ _ (le-leb _ _ f.grows) (le-leb _ _ f.few)))))

pub opened : (log volume : List ℕ) → slice_index log 0 ≡ 1 → is_marked log ≡ true → Fits (head_of log) log volume → recovered log volume ≡ image (head_of log) log volume
unfolding recovered
opened log volume gate marked f = rw (and_from _ _ (eq-eqb _ _ gate) (and_from _ _ marked (fits-from (head_of log) log volume f))) refl

pub not-open : (log volume : List ℕ) → is_open log volume ≡ false → recovered log volume ≡ volume
unfolding recovered
not-open log volume e = rw e refl

pub shut : (log volume : List ℕ) → slice_index log 0 ≢ 1 → recovered log volume ≡ volume
shut log volume gate = not-open log volume (and_left _ _ (ne_eqb _ _ gate))

-- a volume that is spared by an open log
pub spared : (log first v : List ℕ) → slice_index log 0 ≡ 1 → is_marked log ≡ true → Fits (head_of log) log first → Spares (head_of log) false log first v → recovered log v ≡ recovered log first
spared log first v gate marked f s =
    opened log v gate marked (record { some = f.some; small = f.small; frames = f.frames; base = s.base; grows = f.grows; few = f.few })
    ∙ spared-image (head_of log) false log first v s ∙ sym (opened log first gate marked f)

-- the image in the place of the volume
pub done-again : (log first : List ℕ) → slice_index log 0 ≡ 1 → is_marked log ≡ true → Fits (head_of log) log first → recovered log (image (head_of log) log first) ≡ image (head_of log) log first
done-again log first gate marked f =
    let len = length-image (head_of log) log first in
    opened log (image (head_of log) log first) gate marked (record { some = f.some; small = f.small; frames = f.frames; base = (let g = f.grows in omega arith); grows = f.grows; few = f.few })
    ∙ image-again (head_of log) log first f.grows

-- a gate that is being shut, over a volume that the open log leaves as it is
pub shutting : (old new volume : List ℕ) → recovered old volume ≡ volume → MayShut old new → recovered new volume ≡ volume
shutting old new volume was (inl same) = rw same was
shutting old new volume was (inr half) =
    elim (cases_eq (slice_index new 0) 1) [
      | inr differs ↦ shut new volume differs
      | inl is_one ↦ elim (cases_eq (length old) 0) [
        | inr some ↦ elim (cases_eq (slice_index old 0) 1) [
          | inr differs ↦ absurd (half.0 (record { some = omega (arith, some); gate = differs }))
          | inl gate ↦
              let torn = half.1 in
              let up = torn.no_shorter in
              let down = torn.no_longer in
              let same : new ≡ old = same_number_lists _ _ (omega (arith, some)) (λ k low.
              elim (cases_eq k 0) [
                | inl first ↦ rw first (is_one ∙ sym gate)
                | inr later ↦ torn.above k (omega (arith, some)) (omega (arith, later))
              ]) in
              rw same was
        ]
        | inl none ↦
            let torn = half.1 in
            let down = torn.no_longer in
            not-open new volume (elim (cases_Bool (is_open new volume)) [
              | inl e ↦ absurd (
                  let f = fits-parts (head_of new) new volume (and_parts _ _ (and_parts _ _ e).1).1 in
                  let frames = f.frames in omega (arith, none))
              | inr e ↦ e
            ])
      ]
    ]
