-- What each call of a commit leaves.
use Rattle.std.proofs.Common.{true, false, ◌==◌, ◌&&◌, ◌≡◌, inl, inr, ℕ, ◌+◌, ◌<◌, ◌≤◌, List, [], ◌∷◌, length, get_or, slice_index, refl, sym, ap, ◌∙◌, subst, arith}
use Rattle.std.proofs.lemmas.Bool.{cases_eq, and_parts, eqb-true}
use Rattle.hd_bytes.specs.Ranges.{bytes_at}
use Rattle.hd_bytes.proofs.BlockLemmas.{byte-at}
use Rattle.hd_journal.specs.Disk.{State, Torn, WritesLog, Syncs, HasLog, Leaves}
use Rattle.hd_journal.specs.declared.head.Head.{Head}
use Rattle.hd_journal.specs.Log.{head_of, is_marked, frame_at, gate_at, image, recovered, fits, is_open, IsShut, IsHeadAt, IsGate, Ends, SameSlots, Fits, Spares}
use Rattle.hd_journal.specs.States.{IsSpared, IsSettled, IsStill, IsOpened, IsPublished, MayShut, StandsFor, StandsForEither}
use Rattle.hd_bytes.proofs.NumberLemmas.{number-same}
use Rattle.hd_journal.proofs.Bytes.{spared-image, image-again}
use Rattle.hd_journal.proofs.Heads.{head-written, mark-written}
use Rattle.hd_journal.proofs.Commits.{gate-closed, head-first, ends-shut}
use Rattle.hd_journal.proofs.Slots.{slots-more, slots-equal, slots-above, slots-beyond, image-slots}
use Rattle.hd_journal.proofs.Opens.{opened, not-open, fits-parts, shut, spared, done-again, shutting}
use Rattle.hd_journal.proofs.Moments.{started, goes_on}
use Rattle.hd_journal.proofs.Steps.{inside}

-- ---- the head, behind a shut gate

-- a write behind the gate leaves it shut
pub behind : (a b : State) (at n : ℕ) → 0 < at → IsSettled a → WritesLog at n a b → (l v : List ℕ) → b.may_leave l v → IsShut l × (v ≡ a.volume)
behind a b at n some settled w l v may =
    let was = w.crash l v may in
    let torn = was.2 in
    let gate = settled.shut was.0 v was.1 in
    let there = gate.some in
    let longer = torn.no_shorter in (
      record { some = omega arith; gate = λ is_one. gate.gate (sym (torn.below 0 there some) ∙ is_one) },
      settled.volume was.0 v was.1,
    )

pub stands : (volume after l v : List ℕ) → IsShut l × (v ≡ volume) → StandsForEither volume after l v
stands volume after l v h = inl (shut l v h.0.gate ∙ h.1)

-- a settled disk stays settled
pub settled-still : (a b : State) (at n : ℕ) → 0 < at → IsSettled a → WritesLog at n a b → IsSettled b
settled-still a b at n some settled w = record {
  volume = λ l v may. (behind a b at n some settled w l v may).1 ∙ sym w.volume;
  shut = λ l v may. (behind a b at n some settled w l v may).0;
}

-- ---- the gate

-- a log that is open and ends with a head stands for its image
pub ends-stands : (h : Head) (l v : List ℕ) → slice_index l 0 ≡ 1 → Ends h l → Fits h l v → recovered l v ≡ image h l v
ends-stands h l v gate e f = opened l v gate e.marked (subst (λ (x : Head). Fits x l v) (sym e.is_head) f) ∙ ap (λ (x : Head). image x l v) e.is_head

-- a write of the log's gate changes no more than that
pub ends-gate : (h : Head) (log l : List ℕ) → 16 ≤ h.size → Ends h log → Torn 0 1 log l → Ends h l
ends-gate h log l wide e torn =
    let there = e.gate.there in
    let up = torn.no_shorter in
    let next : frame_at h.size (h.count + 1) ≡ frame_at h.size h.count + (h.size + 4) = omega arith in
    ends-shut h log l wide e (omega (arith, there, up)) (λ i low u. torn.above i (omega (arith, there, next, u)) (omega (arith, low)))
    (λ one. e.gate.shut (sym (torn.above (gate_at h) (omega (arith, there, next)) (omega arith)) ∙ one))

-- the byte that was written
pub one-written : (log : List ℕ) (at : ℕ) → bytes_at log at 1 ≡ 1 ∷ [] → slice_index log at ≡ 1
one-written log at one =
    let there = inside log (1 ∷ []) at 1 one refl (omega arith) in
    ap (slice_index log) (let e : at ≡ at + 0 = omega arith in e) ∙ sym (byte-at log at 1 0 there (omega arith)) ∙ ap (λ (xs : List ℕ). get_or xs 0 0) one

-- ---- the five calls of the first publication in a log

module _ (head : Head) (a b c d e f : State) (bytes : List ℕ) (settled : IsSettled a) (fits : Fits head a.log a.volume) (w1 : WritesLog (frame_at head.size head.count) (head.size + 4) a b) where
  abbrev pub P : List ℕ → List ℕ → Type 0
  P = StandsForEither a.volume (image head a.log a.volume)

  pub slots-1 : SameSlots head.size head.count a.log b.log
  slots-1 = slots-beyond head.size head.count (frame_at head.size head.count) (head.size + 4) a.log b.log fits.frames (omega arith) w1.log

  settled-1 : IsSettled b
  settled-1 = settled-still a b (frame_at head.size head.count) (head.size + 4) (omega arith) settled w1

  pub leaves-1 : Leaves P a b
  leaves-1 = goes_on P (started P a) w1.time (λ l v may. stands a.volume (image head a.log a.volume) l v (behind a b (frame_at head.size head.count) (head.size + 4) (omega arith) settled w1 l v may))

  module _ (w2 : WritesLog 1 50 b c) where
    pub slots-2 : SameSlots head.size head.count a.log c.log
    slots-2 =
        let there = fits.frames in
        let up = w1.log.no_shorter in
        slots-more head.size head.count a.log b.log c.log slots-1 (slots-above head.size head.count 1 50 b.log c.log (omega (arith, there, up)) (omega arith) w2.log)

    shut-2 : (l v : List ℕ) → c.may_leave l v → IsShut l × (v ≡ a.volume)
    shut-2 l v may = (let is = behind b c 1 50 (omega arith) settled-1 w2 l v may in (is.0, is.1 ∙ w1.volume))

    pub leaves-2 : Leaves P a c
    leaves-2 = goes_on P leaves-1 w2.time (λ l v may. stands a.volume (image head a.log a.volume) l v (shut-2 l v may))

    module _ (s1 : Syncs c d) where
      pub slots-3 : SameSlots head.size head.count a.log d.log
      slots-3 = slots-more head.size head.count a.log c.log d.log slots-2 (slots-equal head.size head.count c.log d.log s1.log)

      pub leaves-3 : Leaves P a d
      leaves-3 = goes_on P leaves-2 s1.time (λ l v may. stands a.volume (image head a.log a.volume) l v (shut-2 l v (s1.crash l v may)))

      module _ (gate : IsGate head b.log) (wrote : bytes_at c.log 1 50 ≡ bytes) (is_head : IsHeadAt bytes head) (durable : HasLog d) where
        ends-3 : Ends head d.log
        ends-3 =
            let there = gate.there in
            let up = w2.log.no_shorter in
            let next : frame_at head.size (head.count + 1) ≡ frame_at head.size head.count + (head.size + 4) = omega arith in
            let wide = fits.some in
            let same : (i : ℕ) → 51 ≤ i → i < frame_at head.size (head.count + 1) → slice_index c.log i ≡ slice_index b.log i = λ i l u. w2.log.above i (omega (arith, u, there)) (omega (arith, l)) in
            let last : IsGate head c.log = record {
              there = omega (arith, there, up);
              sign = number-same 4 (frame_at head.size head.count) c.log b.log (λ k l m. same k (omega (arith, l)) (omega (arith, m, next))) ∙ gate.sign;
              shut = λ one. gate.shut (sym (same (gate_at head) (omega arith) (omega (arith, next, wide))) ∙ one);
            } in
            subst (Ends head) (sym s1.log)
            (record {
              marked = mark-written c.log bytes head wrote (omega (arith, there, up, next)) is_head;
              is_head = head-first c.log head (head-written c.log bytes head wrote (omega (arith, there, up, next)) is_head) (gate-closed c.log head last);
              gate = last;
            })

        module _ (w3 : WritesLog 0 1 d e) where
          there-3 : frame_at head.size head.count ≤ length d.log
          there-3 =
              let there = ends-3.gate.there in
              let next : frame_at head.size (head.count + 1) ≡ frame_at head.size head.count + (head.size + 4) = omega arith in
              omega (arith, there, next)

          pub slots-4 : SameSlots head.size head.count a.log e.log
          slots-4 = slots-more head.size head.count a.log d.log e.log slots-3 (slots-above head.size head.count 0 1 d.log e.log there-3 (omega arith) w3.log)

          -- what a crash makes of the gate
          gated : (l v : List ℕ) → e.may_leave l v → (Torn 0 1 d.log l) × (v ≡ a.volume)
          gated l v may =
              let was = w3.crash l v may in
              (subst (λ (k : List ℕ). Torn 0 1 k l) (durable was.0 v was.1) was.2, (shut-2 was.0 v (s1.crash was.0 v was.1)).1)

          gating : (l v : List ℕ) → e.may_leave l v → P l v
          gating l v may =
              let is = gated l v may in
              let up = is.0.no_shorter in
              elim (cases_eq (slice_index l 0) 1) [
                | inr differs ↦ inl (shut l v differs ∙ is.1)
                | inl one ↦
                    let there = there-3 in
                    let slots = slots-more head.size head.count a.log d.log l slots-3 (slots-above head.size head.count 0 1 d.log l there (omega arith) is.0) in
                    let fit : Fits head l a.volume = record { some = fits.some; small = fits.small; frames = omega (arith, there, up); base = fits.base; grows = fits.grows; few = fits.few } in
                    inr (ap (recovered l) is.1 ∙ ends-stands head l a.volume one (ends-gate head d.log l fits.some ends-3 is.0) fit ∙ image-slots head a.log l a.volume fits.some fits.few slots)
              ]

          pub leaves-4 : Leaves P a e
          leaves-4 = goes_on P leaves-3 w3.time gating

          module _ (s2 : Syncs e f) where
            pub slots-5 : SameSlots head.size head.count a.log f.log
            slots-5 = slots-more head.size head.count a.log e.log f.log slots-4 (slots-equal head.size head.count e.log f.log s2.log)

            pub leaves-5 : Leaves P a f
            leaves-5 = goes_on P leaves-4 s2.time (λ l v may. gating l v (s2.crash l v may))

            pub published-5 : bytes_at e.log 0 1 ≡ 1 ∷ [] → HasLog f → IsPublished head f
            published-5 one last =
                let volume : f.volume ≡ a.volume = s2.volume ∙ w3.volume ∙ s1.volume ∙ w2.volume ∙ w1.volume in
                let ends : Ends head f.log = subst (Ends head) (sym s2.log) (ends-gate head d.log e.log fits.some ends-3 w3.log) in
                let there = ends.gate.there in
                let next : frame_at head.size (head.count + 1) ≡ frame_at head.size head.count + (head.size + 4) = omega arith in
                let long : length f.volume ≡ length a.volume = ap length volume in
                let base = fits.base in
                record {
                  gate = ap (λ (k : List ℕ). slice_index k 0) s2.log ∙ one-written e.log 0 one;
                  ends = ends;
                  fits = record { some = fits.some; small = fits.small; frames = omega (arith, there, next); base = omega (arith, long, base); grows = fits.grows; few = fits.few };
                  volume = λ l v may. (gated l v (s2.crash l v may)).1 ∙ sym volume;
                  log = λ l v may. (let is : l ≡ f.log = last l v may in record { there = subst (λ (k : List ℕ). frame_at head.size (head.count + 1) ≤ length k) (sym is) there; each = λ i u. ap (λ (k : List ℕ). slice_index k i) is });
                }

-- ---- the end of a commit

module _ (head : Head) (s : State) (o : IsOpened head s) where
  head-fits : Fits (head_of s.log) s.log s.volume
  head-fits = subst (λ (k : Head). Fits k s.log s.volume) (sym o.is_head) o.fits

  -- the image of an open log is what the pair stands for
  pub opened-recovers : recovered s.log s.volume ≡ image head s.log s.volume
  opened-recovers = opened s.log s.volume o.gate o.marked head-fits ∙ ap (λ (k : Head). image k s.log s.volume) o.is_head

  pub spared-stands : (l v : List ℕ) → IsSpared head false s.log s.volume l v → StandsFor (image head s.log s.volume) l v
  spared-stands l v h =
      ap (λ (k : List ℕ). recovered k v) h.0
      ∙ spared s.log s.volume v o.gate o.marked head-fits (subst (λ (k : Head). Spares k false s.log s.volume v) (sym o.is_head) h.1)
      ∙ opened-recovers

  pub shut-stands : (log volume : List ℕ) → log ≡ s.log → volume ≡ image head s.log s.volume → (l v : List ℕ) → MayShut log l × (v ≡ volume) → StandsFor (image head s.log s.volume) l v
  shut-stands log volume same done l v h =
      let is : volume ≡ image (head_of s.log) s.log s.volume = done ∙ ap (λ (k : Head). image k s.log s.volume) (sym o.is_head) in
      let again : recovered log volume ≡ volume = ap (λ (k : List ℕ). recovered k volume) same ∙ ap (recovered s.log) is ∙ done-again s.log s.volume o.gate o.marked head-fits ∙ sym is in
      ap (recovered l) h.1 ∙ shutting log l volume again h.0 ∙ done

  -- a volume that is spared makes the same image
  pub spared-same : (l v : List ℕ) → IsSpared head false s.log s.volume l v → image head l v ≡ image head s.log s.volume
  spared-same l v h = ap (λ (k : List ℕ). image head k v) h.0 ∙ spared-image head false s.log s.volume v h.1

  -- and so does the image, whether or not the gate is shut
  pub shut-same : (log volume : List ℕ) → log ≡ s.log → volume ≡ image head s.log s.volume → (l v : List ℕ) → MayShut log l × (v ≡ volume) → image head l v ≡ image head s.log s.volume
  shut-same log volume same done l v h =
      let again : image head s.log v ≡ image head s.log s.volume = ap (image head s.log) (h.1 ∙ done) ∙ image-again head s.log s.volume o.fits.grows in
      let frames = o.fits.frames in
      let long : length log ≡ length s.log = ap length same in
      elim h.0 [
        | inl is ↦ ap (λ (k : List ℕ). image head k v) (is ∙ same) ∙ again
        | inr half ↦
            image-slots head log l v o.fits.some o.fits.few (slots-above head.size head.count 0 1 log l (omega (arith, frames, long)) (omega arith) half.1)
            ∙ ap (λ (k : List ℕ). image head k v) same ∙ again
      ]

-- a still log that counts is open
pub opened-by : (head : Head) (s : State) → is_open s.log s.volume ≡ true → head ≡ head_of s.log → IsStill s → IsOpened head s
opened-by head s counts is still =
    let parts = and_parts (slice_index s.log 0 == 1) (is_marked s.log && fits (head_of s.log) (length s.log) (length s.volume)) counts in
    let more = and_parts (is_marked s.log) (fits (head_of s.log) (length s.log) (length s.volume)) parts.1 in
    let fit : Fits head s.log s.volume = subst (λ (h : Head). Fits h s.log s.volume) (sym is) (fits-parts (head_of s.log) s.log s.volume more.1) in
    record { gate = eqb-true _ _ parts.0; marked = more.0; is_head = sym is; fits = fit; still = still }

-- a gate that is shut over a log that does not count
pub idle-stands : (log volume : List ℕ) → is_open log volume ≡ false → (l v : List ℕ) → MayShut log l × (v ≡ volume) → StandsFor (recovered log volume) l v
idle-stands log volume closed l v h =
    let was = not-open log volume closed in
    ap (recovered l) h.1 ∙ shutting log l volume was h.0 ∙ sym was
