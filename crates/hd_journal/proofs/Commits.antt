-- The commits of a log, one behind the other.
use Rattle.std.proofs.Common.{◌≡◌, ◌≢◌, inl, inr, ℕ, zero, suc, ◌+◌, ◌-◌, ◌*◌, ◌<◌, ◌≤◌, ◌==◌, ◌&&◌, true, false, List, length, slice_index, refl, sym, ap, ◌∙◌, subst, arith}
use Rattle.std.proofs.lemmas.Bool.{and_parts, and_from, eq-eqb, eqb-true, le-leb, leb-true, cases_Bool}
use Rattle.hd_bytes.specs.Numbers.{number_at}
use Rattle.hd_bytes.proofs.NumberLemmas.{number-same}
use Rattle.hd_journal.specs.declared.head.Head.{Head}
use Rattle.hd_journal.specs.Log.{frame_at, block_no, no_block, gate_at, first_head, with_next, follows, is_next, through, head_of, IsGate, Ends}
use Rattle.hd_journal.proofs.Bytes.{frame-before, frame-up-to}
use Rattle.hd_journal.proofs.Heads.{same-heads, same-first, same-mark}

-- ---- one commit more

pub follows-parts : (next : Head) (len log_len : ℕ) → follows next len log_len ≡ true → (next.count ≤ no_block) × (frame_at next.size next.count ≤ log_len) × (len ≤ next.len) × (next.len ≤ no_block * next.size)
follows-parts next len log_len e =
    let a = and_parts _ _ e in
    let b = and_parts _ _ a.1 in
    let c = and_parts _ _ b.1 in
    (leb-true _ _ a.0, leb-true _ _ b.0, leb-true _ _ c.0, leb-true _ _ c.1)

pub follows-from : (next : Head) (len log_len : ℕ) → next.count ≤ no_block → frame_at next.size next.count ≤ log_len → len ≤ next.len → next.len ≤ no_block * next.size → follows next len log_len ≡ true
follows-from next len log_len a b c d = and_from _ _ (le-leb _ _ a) (and_from _ _ (le-leb _ _ b) (and_from _ _ (le-leb _ _ c) (le-leb _ _ d)))

pub next-parts : (log : List ℕ) (h : Head) → is_next log h ≡ true → (block_no h.size log h.count ≡ no_block) × (slice_index log (gate_at h) ≡ 1) × (follows (with_next log h) h.len (length log) ≡ true)
next-parts log h e =
    let a = and_parts (block_no h.size log h.count == no_block) ((slice_index log (gate_at h) == 1) && follows (with_next log h) h.len (length log)) e in
    let b = and_parts (slice_index log (gate_at h) == 1) (follows (with_next log h) h.len (length log)) a.1 in
    (eqb-true _ _ a.0, eqb-true _ _ b.0, b.1)

pub next-from : (log : List ℕ) (h : Head) → block_no h.size log h.count ≡ no_block → slice_index log (gate_at h) ≡ 1 → follows (with_next log h) h.len (length log) ≡ true → is_next log h ≡ true
next-from log h a b c = and_from _ _ (eq-eqb _ _ a) (and_from _ _ (eq-eqb _ _ b) c)

-- none counts where not all is there
pub not-next : (log : List ℕ) (h : Head) → (block_no h.size log h.count ≡ no_block → slice_index log (gate_at h) ≡ 1 → follows (with_next log h) h.len (length log) ≡ true → ⊥) → is_next log h ≡ false
not-next log h none = elim (cases_Bool (is_next log h)) [ inl e ↦ (let p = next-parts log h e in absurd (none p.0 p.1 p.2)) | inr e ↦ e ]

-- nor behind a shut gate
pub gate-closed : (log : List ℕ) (h : Head) → IsGate h log → is_next log h ≡ false
gate-closed log h g = not-next log h (λ sign one sizes. g.shut one)

-- ---- all of them

pub through-stop : (m : ℕ) (log : List ℕ) (h : Head) → is_next log h ≡ false → through m log h ≡ h
through-stop zero log h e = refl
through-stop (suc m) log h e = rw e refl

through-step : (m : ℕ) (log : List ℕ) (h : Head) → is_next log h ≡ true → through (suc m) log h ≡ through m log (with_next log h)
through-step m log h e = rw e refl

grows-same : (h last : Head) → h ≡ last → (h.count ≤ last.count) × (h.len ≤ last.len) × (last.size ≡ h.size)
grows-same h last e =
    let count : h.count ≡ last.count = ap (λ (x : Head). x.count) e in
    let len : h.len ≡ last.len = ap (λ (x : Head). x.len) e in
    (omega (arith, count), omega (arith, len), ap (λ (x : Head). x.size) (sym e))

-- one turn, of n turns in all
pub through-turn : (n i : ℕ) (log : List ℕ) (h : Head) → i < n → is_next log h ≡ true → through (n - i) log h ≡ through (n - (i + 1)) log (with_next log h)
through-turn n i log h low e = (let s : n - i ≡ suc (n - (i + 1)) = omega (arith, low) in ap (λ (m : ℕ). through m log h) s ∙ through-step (n - (i + 1)) log h e)

pub through-grows : (m : ℕ) (log : List ℕ) (h last : Head) → through m log h ≡ last → (h.count ≤ last.count) × (h.len ≤ last.len) × (last.size ≡ h.size)
through-grows zero log h last e = grows-same h last e
through-grows (suc m) log h last e =
    elim (cases_Bool (is_next log h)) [
      | inl next ↦
          let r = through-grows m log (with_next log h) last (sym (through-step m log h next) ∙ e) in
          let f = follows-parts (with_next log h) h.len (length log) (next-parts log h next).2 in
          let count = r.0 in
          let len = r.1 in
          let longer = f.2 in
          (omega (arith, count), omega (arith, len, longer), r.2)
      | inr none ↦ grows-same h last (sym (through-stop (suc m) log h none) ∙ e)
    ]

-- the same slots in another log tell the same commit
next-moves : (f : ℕ) (a b : List ℕ) (h last : Head) → is_next a h ≡ true → through f a (with_next a h) ≡ last → 16 ≤ h.size → frame_at h.size last.count ≤ length b
    → ((i : ℕ) → 51 ≤ i → i < frame_at h.size last.count → slice_index b i ≡ slice_index a i) → (is_next b h ≡ true) × (with_next b h ≡ with_next a h) × (h.count + 1 ≤ last.count)
next-moves f a b h last next e wide there same =
    let p = next-parts a h next in
    let q = follows-parts (with_next a h) h.len (length a) p.2 in
    let grown = (through-grows f a (with_next a h) last e).0 in
    let low : h.count + 1 ≤ last.count = omega (arith, grown) in
    let ends = frame-before h.size h.count last.count (omega (arith, low)) in
    let agree : (i : ℕ) → frame_at h.size h.count ≤ i → i < frame_at h.size h.count + (h.size + 4) → slice_index b i ≡ slice_index a i = λ i l u. same i (omega arith) (omega (arith, ends, u)) in
    let sign : block_no h.size b h.count ≡ block_no h.size a h.count = number-same 4 (frame_at h.size h.count) b a (λ k l m. agree k l (omega arith)) in
    let gate = agree (gate_at h) (omega arith) (omega (arith, wide)) in
    let count = number-same 4 (gate_at h + 1) b a (λ k l m. agree k (omega (arith, l)) (omega (arith, wide, m))) in
    let len = number-same 8 (gate_at h + 5) b a (λ k l m. agree k (omega (arith, l)) (omega (arith, wide, m))) in
    let has : with_next b h ≡ with_next a h = same-heads (with_next b h) (with_next a h) refl (ap (λ (n : ℕ). h.count + 1 + n) count) refl len refl refl in
    let up = frame-up-to h.size (with_next a h).count last.count grown in
    let sizes = follows-from (with_next a h) h.len (length b) q.0 (omega (arith, up, there)) q.2 q.3 in
    (next-from b h (sign ∙ p.0) (gate ∙ p.1) (subst (λ (x : Head). follows x h.len (length b) ≡ true) (sym has) sizes), has, low)

frame-far : (size i : ℕ) → i < frame_at size i
frame-far size i = (let e : i * (size + 4) ≡ i * size + i * 4 = omega arith in omega (arith, e))

reaches-same : (g : ℕ) (b : List ℕ) (h last : Head) → h ≡ last → length b ≤ h.count + g → (k : ℕ) × (length b ≤ last.count + k) × (through g b h ≡ through k b last)
reaches-same g b h last e enough = (g, (let c : h.count ≡ last.count = ap (λ (x : Head). x.count) e in omega (arith, c, enough)), ap (through g b) e)

reaches : (f g : ℕ) (a b : List ℕ) (h last : Head) → through f a h ≡ last → 16 ≤ h.size → frame_at h.size last.count ≤ length b → ((i : ℕ) → 51 ≤ i → i < frame_at h.size last.count → slice_index b i ≡ slice_index a i)
    → length b ≤ h.count + g → (k : ℕ) × (length b ≤ last.count + k) × (through g b h ≡ through k b last)
reaches zero g a b h last e wide there same enough = reaches-same g b h last e enough
reaches (suc f) zero a b h last e wide there same enough =
    elim (cases_Bool (is_next a h)) [
      | inl next ↦
          let m = next-moves f a b h last next (sym (through-step f a h next) ∙ e) wide there same in
          let low = m.2 in
          let far = frame-far h.size last.count in
          absurd (omega (arith, low, far, there, enough))
      | inr none ↦ reaches-same zero b h last (sym (through-stop (suc f) a h none) ∙ e) enough
    ]
reaches (suc f) (suc g) a b h last e wide there same enough =
    elim (cases_Bool (is_next a h)) [
      | inl next ↦
          let e_next = sym (through-step f a h next) ∙ e in
          let m = next-moves f a b h last next e_next wide there same in
          let r = reaches f g a b (with_next a h) last e_next wide there same (omega (arith, enough)) in
          (r.0, r.1, through-step g b h m.0 ∙ ap (through g b) m.1 ∙ r.2)
      | inr none ↦ reaches-same (suc g) b h last (sym (through-stop (suc f) a h none) ∙ e) enough
    ]

one-more : (k : ℕ) (log : List ℕ) (h : Head) → length log ≤ h.count + k → is_next log h ≡ true → is_next log (with_next log h) ≡ false → through k log h ≡ with_next log h
one-more zero log h enough next none =
    let there = (follows-parts (with_next log h) h.len (length log) (next-parts log h next).2).1 in
    let far = frame-far h.size (with_next log h).count in
    absurd (omega (arith, there, far, enough))
one-more (suc k) log h enough next none = through-step k log h next ∙ through-stop k log (with_next log h) none

-- ---- the head of a log

pub head-is : (log : List ℕ) → head_of log ≡ through (length log) log (first_head log)
unfolding head_of
head-is log = refl

-- of one commit
pub head-first : (log : List ℕ) (h : Head) → first_head log ≡ h → is_next log h ≡ false → head_of log ≡ h
unfolding head_of
head-first log h e none = ap (through (length log) log) e ∙ through-stop (length log) log h none

module _ (a b : List ℕ) (h : Head) (e : head_of a ≡ h) (wide : 16 ≤ h.size) (there : frame_at h.size h.count ≤ length b) (same : (i : ℕ) → 1 ≤ i → i < frame_at h.size h.count → slice_index b i ≡ slice_index a i) where
  so-far : (k : ℕ) × (length b ≤ h.count + k) × (head_of b ≡ through k b h)
  unfolding head_of
  so-far =
      let size : h.size ≡ (first_head a).size = (through-grows (length a) a (first_head a) h e).2 in
      let first : first_head b ≡ first_head a = same-first b a (λ i l u. same i l (omega (arith, u))) in
      let at : frame_at (first_head a).size h.count ≡ frame_at h.size h.count = ap (λ (s : ℕ). frame_at s h.count) (sym size) in
      let r = reaches (length a) (length b) a b (first_head a) h e (omega (arith, size, wide)) (omega (arith, at, there)) (λ i l u. same i (omega (arith, l)) (omega (arith, at, u))) (omega arith) in
      (r.0, r.1, ap (through (length b) b) first ∙ r.2)

  -- the commits are those of the other log where no next one counts
  pub head-end : is_next b h ≡ false → head_of b ≡ h
  head-end none = (let r = so-far in r.2 ∙ through-stop r.0 b h none)

  -- and one more where one does
  pub head-next : is_next b h ≡ true → is_next b (with_next b h) ≡ false → head_of b ≡ with_next b h
  head-next next none = (let r = so-far in r.2 ∙ one-more r.0 b h r.1 next none)

-- ---- logs that end with a head

-- behind the same commits the gate is shut
pub ends-shut : (h : Head) (a b : List ℕ) → 16 ≤ h.size → Ends h a → frame_at h.size (h.count + 1) ≤ length b → ((i : ℕ) → 1 ≤ i → i < gate_at h → slice_index b i ≡ slice_index a i) → slice_index b (gate_at h) ≢ 1 → Ends h b
ends-shut h a b wide ends there same shut =
    let gate : IsGate h b = record { there = there; sign = number-same 4 (frame_at h.size h.count) b a (λ k l m. same k (omega (arith, l)) m) ∙ ends.gate.sign; shut = shut } in
    let up = frame-up-to h.size h.count (h.count + 1) (omega arith) in
    record {
      marked = same-mark b a (λ i l u. same i l (omega (arith, u))) ∙ ends.marked;
      is_head = head-end a b h ends.is_head wide (omega (arith, up, there)) (λ i l u. same i l (omega (arith, u))) (gate-closed b h gate);
      gate = gate;
    }

pub ends-same : (h : Head) (a b : List ℕ) → 16 ≤ h.size → Ends h a → frame_at h.size (h.count + 1) ≤ length b → ((i : ℕ) → i ≤ gate_at h → slice_index b i ≡ slice_index a i) → Ends h b
ends-same h a b wide ends there same = ends-shut h a b wide ends there (λ i l u. same i (omega (arith, u))) (λ one. ends.gate.shut (sym (same (gate_at h) (omega arith)) ∙ one))

-- the next commit's gate is opened
pub ends-next : (h next : Head) (a b : List ℕ) → 16 ≤ h.size → Ends h a → with_next a h ≡ next → follows next h.len (length b) ≡ true → IsGate next a → frame_at next.size (next.count + 1) ≤ length b
    → ((i : ℕ) → 1 ≤ i → i ≢ gate_at h → i ≤ gate_at next → slice_index b i ≡ slice_index a i) → slice_index b (gate_at h) ≡ 1 → Ends next b
ends-next h next a b wide ends has sizes gate there same one =
    let size : h.size ≡ next.size = ap (λ (x : Head). x.size) has in
    let count : h.count + 1 + number_at 4 a (gate_at h + 1) ≡ next.count = ap (λ (x : Head). x.count) has in
    let later : frame_at next.size h.count + (next.size + 4) ≤ frame_at next.size next.count = frame-before next.size h.count next.count (omega (arith, count)) in
    let same_at : frame_at h.size h.count ≡ frame_at next.size h.count = ap (λ (s : ℕ). frame_at s h.count) size in
    let early : (i : ℕ) → 1 ≤ i → i ≢ gate_at h → i < frame_at h.size h.count + (h.size + 4) → slice_index b i ≡ slice_index a i = λ i l n u. same i l n (omega (arith, u, later, same_at, size)) in
    let before : (i : ℕ) → 1 ≤ i → i < gate_at h → slice_index b i ≡ slice_index a i = λ i l u. early i l (λ is. omega (arith, u, is)) (omega (arith, u, wide)) in
    let count_same = number-same 4 (gate_at h + 1) b a (λ k l m. early k (omega (arith, l)) (λ is. omega (arith, l, is)) (omega (arith, m, wide))) in
    let len_same = number-same 8 (gate_at h + 5) b a (λ k l m. early k (omega (arith, l)) (λ is. omega (arith, l, is)) (omega (arith, m, wide))) in
    let next_is : with_next b h ≡ next = same-heads (with_next b h) (with_next a h) refl (ap (λ (n : ℕ). h.count + 1 + n) count_same) refl len_same refl refl ∙ has in
    let sign : block_no h.size b h.count ≡ no_block = number-same 4 (frame_at h.size h.count) b a (λ k l m. before k (omega (arith, l)) m) ∙ ends.gate.sign in
    let counts : is_next b h ≡ true = next-from b h sign one (subst (λ (x : Head). follows x h.len (length b) ≡ true) (sym next_is) sizes) in
    let apart : (i : ℕ) → frame_at next.size next.count ≤ i → i ≢ gate_at h = λ i l is. omega (arith, l, is, later, same_at) in
    let last : IsGate next b = record {
      there = there;
      sign = number-same 4 (frame_at next.size next.count) b a (λ k l m. same k (omega (arith, l)) (apart k l) (omega (arith, m))) ∙ gate.sign;
      shut = λ is. gate.shut (sym (same (gate_at next) (omega arith) (apart (gate_at next) (omega arith)) (omega arith)) ∙ is);
    } in
    let up = frame-up-to next.size next.count (next.count + 1) (omega arith) in
    record {
      marked = same-mark b a (λ i l u. before i l (omega (arith, u))) ∙ ends.marked;
      is_head = head-next a b h ends.is_head wide (omega (arith, same_at, later, up, there)) (λ i l u. before i l (omega (arith, u))) counts (subst (λ (x : Head). is_next b x ≡ false) (sym next_is) (gate-closed b next last)) ∙ next_is;
      gate = last;
    }
