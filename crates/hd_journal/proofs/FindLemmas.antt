-- What a log is found to be, by the bytes that were read.
use Rattle.std.proofs.Common.{◌≡◌, ◌≢◌, ℕ, ◌+◌, ◌≤◌, true, false, ◌&&◌, ◌==◌, List, length, get_or, slice_index, refl, sym, ap, ◌∙◌, inl, inr, arith}
use Rattle.std.proofs.lemmas.Bool.{and_parts, and_from, eq-eqb, eqb-true, cases_Bool}
use Rattle.hd_bytes.specs.Numbers.{number_at}
use Rattle.hd_journal.specs.declared.head.Head.{Head}
use Rattle.hd_journal.specs.declared.finding.Stamp.{Stamp}
use Rattle.hd_journal.specs.declared.finding.Stamp.TheVariants.{Absent, Foreign, Current}
use Rattle.hd_journal.specs.Log.{mark, frame_at, block_no, gate_at, first_head, with_next, head_of, has_mark, is_marked, fits, is_open, IsForeign}
use Rattle.hd_journal.specs.Finds.{Stamps}
use Rattle.hd_bytes.specs.Ranges.{bytes_at}
use Rattle.hd_bytes.proofs.BlockLemmas.{byte-at}
use Rattle.hd_journal.proofs.Heads.{moved}
use Rattle.hd_journal.proofs.Opens.{fits-parts}
use Rattle.hd_journal.proofs.Commits.{head-is, through-grows}

-- a log that counts has the mark
pub open-marked : (log volume : List ℕ) → is_open log volume ≡ true → (slice_index log 0 ≡ 1) × (number_at 8 log 1 ≡ mark)
open-marked log volume e =
    let parts = and_parts (slice_index log 0 == 1) (is_marked log && fits (head_of log) (length log) (length volume)) e in
    let more = and_parts (is_marked log) (fits (head_of log) (length log) (length volume)) parts.1 in
    (eqb-true _ _ parts.0, eqb-true _ _ (and_parts (has_mark log) (number_at 2 log 9 == 2) more.0).0)

-- a log without it does not
pub unmarked : (log volume : List ℕ) → ((slice_index log 0 ≡ 1) → (number_at 8 log 1 ≡ mark) → ⊥) → is_open log volume ≡ false
unmarked log volume none = elim (cases_Bool (is_open log volume)) [ inl e ↦ absurd (let m = open-marked log volume e in none m.0 m.1) | inr e ↦ e ]

pub stamped : (stamp : Stamp) (log volume : List ℕ) (gate sign version : ℕ) → 11 ≤ length log → gate ≡ slice_index log 0 → sign ≡ number_at 8 log 1 → version ≡ number_at 2 log 9
    → (stamp ≡ Current → (gate ≡ 1) × (sign ≡ mark) × (version ≡ 2)) → (stamp ≡ Foreign → (gate ≡ 1) × (sign ≡ mark) × (version ≢ 2)) → (stamp ≡ Absent → (gate ≡ 1) → (sign ≡ mark) → ⊥)
    → Stamps stamp log volume
stamped Absent log volume gate sign version long e f g current foreign absent = (
  unmarked log volume (λ one sign_is. absent refl (e ∙ one) (f ∙ sign_is)),
  λ other. absent refl (e ∙ other.gate) (f ∙ eqb-true _ _ other.marked),
)
stamped Foreign log volume gate sign version long e f g current foreign absent =
    let is = foreign refl in
    record { long = long; gate = sym e ∙ is.0; marked = eq-eqb _ _ (sym f ∙ is.1); version = λ one. is.2 (g ∙ one) }
stamped Current log volume gate sign version long e f g current foreign absent =
    let is = current refl in
    (long, sym e ∙ is.0, and_from _ _ (eq-eqb _ _ (sym f ∙ is.1)) (eq-eqb _ _ (sym g ∙ is.2)))

-- a log of this version counts where its sizes fit
pub open-fits : (log volume : List ℕ) (head : Head) (m n : ℕ) → Stamps Current log volume → head ≡ head_of log → m ≡ length log → n ≡ length volume → is_open log volume ≡ fits head m n
open-fits log volume head m n is e f g = rw (eq-eqb _ _ is.1, is.2, e, f, g) refl

-- and is not one of another
pub not-foreign : (log volume : List ℕ) → Stamps Current log volume → IsForeign log → ⊥
not-foreign log volume is other = other.version (eqb-true _ _ (and_parts (has_mark log) (number_at 2 log 9 == 2) is.2).1)

-- a log whose blocks have another size does not count
pub size-closed : (log volume : List ℕ) → (16 ≤ (first_head log).size → (first_head log).size ≤ 32768 → ⊥) → is_open log volume ≡ false
size-closed log volume none = elim (cases_Bool (is_open log volume)) [
  | inl e ↦
      let parts = and_parts (slice_index log 0 == 1) (is_marked log && fits (head_of log) (length log) (length volume)) e in
      let f = fits-parts (head_of log) log volume (and_parts (is_marked log) (fits (head_of log) (length log) (length volume)) parts.1).1 in
      let size = (through-grows (length log) log (first_head log) (head_of log) (sym (head-is log))).2 in
      let wide = f.some in
      let small = f.small in
      absurd (none (omega (arith, size, wide)) (omega (arith, size, small)))
  | inr e ↦ e
]

-- a gate's slot that was read
pub slot-read : (log slot : List ℕ) (h : Head) (place : ℕ) → place ≡ frame_at h.size h.count → slot ≡ bytes_at log place 17 → place + 17 ≤ length log
    → (number_at 4 slot 0 ≡ block_no h.size log h.count) × (slice_index slot 4 ≡ slice_index log (gate_at h)) × (number_at 4 slot 5 ≡ number_at 4 log (gate_at h + 1)) × (number_at 8 slot 9 ≡ number_at 8 log (gate_at h + 5))
slot-read log slot h place at is there = (
  moved log slot place 17 0 4 (sym is) there (omega arith) ∙ ap (number_at 4 log) (let e : place + 0 ≡ frame_at h.size h.count = omega (arith, at) in e),
  ap (λ (xs : List ℕ). get_or xs 4 0) is ∙ byte-at log place 17 4 there (omega arith) ∙ ap (slice_index log) (let e : place + 4 ≡ gate_at h = omega (arith, at) in e),
  moved log slot place 17 5 4 (sym is) there (omega arith) ∙ ap (number_at 4 log) (let e : place + 5 ≡ gate_at h + 1 = omega (arith, at) in e),
  moved log slot place 17 9 8 (sym is) there (omega arith) ∙ ap (number_at 8 log) (let e : place + 9 ≡ gate_at h + 5 = omega (arith, at) in e),
)

-- the head that it tells
pub told : (log : List ℕ) (h : Head) (count len : ℕ) → count ≡ number_at 4 log (gate_at h + 1) → len ≡ number_at 8 log (gate_at h + 5) → record h { count = h.count + 1 + count; len = len } ≡ with_next log h
told log h count len e f = rw (e, f) refl
