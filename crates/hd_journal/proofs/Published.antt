-- A log that is open, whose commits are on the disk up to a shut gate.
use Rattle.std.proofs.Common.{◌≡◌, ℕ, ◌+◌, ◌<◌, ◌≤◌, true, List, length, slice_index, sym, ap, ◌∙◌, subst, arith}
use Rattle.hd_journal.specs.Disk.{State, WritesLog, Syncs, HasLog}
use Rattle.hd_journal.specs.declared.head.Head.{Head}
use Rattle.hd_journal.specs.Log.{frame_at, gate_at, head_of, is_marked, image, recovered, Fits, Ends, SameSlots}
use Rattle.hd_journal.specs.States.{Begins, IsPublished, IsOpened}
use Rattle.hd_journal.proofs.Commits.{ends-same}
use Rattle.hd_journal.proofs.Slots.{slots-bytes, image-slots}
use Rattle.hd_journal.proofs.Publishes.{ends-stands}

pub frame-end : (h : Head) → frame_at h.size (h.count + 1) ≡ frame_at h.size h.count + (h.size + 4)
frame-end h = omega arith

module _ (h : Head) (s : State) (p : IsPublished h s) where
  -- what a crash leaves of the log
  begins-ends : (l : List ℕ) → Begins h s.log l → Ends h l
  begins-ends l b = ends-same h s.log l p.fits.some p.ends b.there b.each

  pub begins-slots : (l : List ℕ) → Begins h s.log l → SameSlots h.size h.count s.log l
  begins-slots l b = slots-bytes h.size h.count s.log l (λ i low u. b.each i (omega (arith, u)))

  begins-fits : (l : List ℕ) → Begins h s.log l → Fits h l s.volume
  begins-fits l b = (let there = b.there in let e = frame-end h in let f = p.fits in record { some = f.some; small = f.small; frames = omega (arith, there, e); base = f.base; grows = f.grows; few = f.few })

  pub published-stands : (l v : List ℕ) → s.may_leave l v → recovered l v ≡ image h s.log s.volume
  published-stands l v may =
      let b = p.log l v may in
      ap (recovered l) (p.volume l v may) ∙ ends-stands h l s.volume (b.each 0 (omega arith) ∙ p.gate) (begins-ends l b) (begins-fits l b) ∙ image-slots h s.log l s.volume p.fits.some p.fits.few (begins-slots l b)

  -- once the log is synced all of it is there
  pub published-opened : (t : State) → Syncs s t → HasLog t → IsOpened h t
  published-opened t sync durable =
      let f = p.fits in
      let base = f.base in
      let frames = f.frames in
      let long : length t.log ≡ length s.log = ap length sync.log in
      let wide : length t.volume ≡ length s.volume = ap length sync.volume in
      record {
        gate = ap (λ (k : List ℕ). slice_index k 0) sync.log ∙ p.gate;
        marked = subst (λ (k : List ℕ). is_marked k ≡ true) (sym sync.log) p.ends.marked;
        is_head = ap head_of sync.log ∙ p.ends.is_head;
        fits = record { some = f.some; small = f.small; frames = omega (arith, long, frames); base = omega (arith, wide, base); grows = f.grows; few = f.few };
        still = record { volume = λ l v may. p.volume l v (sync.crash l v may) ∙ sym sync.volume; log = durable };
      }

-- a write behind the gate
pub published-write : (h : Head) (a b : State) (at n : ℕ) → gate_at h < at → IsPublished h a → WritesLog at n a b → IsPublished h b
published-write h a b at n behind p w =
    let there = p.ends.gate.there in
    let e = frame-end h in
    let wide = p.fits.some in
    let up = w.log.no_shorter in
    let same : (i : ℕ) → i ≤ gate_at h → slice_index b.log i ≡ slice_index a.log i = λ i u. w.log.below i (omega (arith, u, there, e, wide)) (omega (arith, u, behind)) in
    let long : length b.volume ≡ length a.volume = ap length w.volume in
    let f = p.fits in
    let base = f.base in
    record {
      gate = same 0 (omega arith) ∙ p.gate;
      ends = ends-same h a.log b.log wide p.ends (omega (arith, there, up)) same;
      fits = record { some = f.some; small = f.small; frames = omega (arith, there, up, e); base = omega (arith, long, base); grows = f.grows; few = f.few };
      volume = λ l v may. (let was = w.crash l v may in p.volume was.0 v was.1 ∙ sym w.volume);
      log = λ l v may.
          let was = w.crash l v may in
          let torn = was.2 in
          let b = p.log was.0 v was.1 in
          let first = b.there in
          let more = torn.no_shorter in
          record { there = omega (arith, first, more); each = λ i u. torn.below i (omega (arith, u, first, e, wide)) (omega (arith, u, behind)) ∙ b.each i u ∙ sym (same i u) };
    }

pub published-sync : (h : Head) (a b : State) → IsPublished h a → Syncs a b → IsPublished h b
published-sync h a b p s =
    let f = p.fits in
    let base = f.base in
    let frames = f.frames in
    let long : length b.log ≡ length a.log = ap length s.log in
    let wide : length b.volume ≡ length a.volume = ap length s.volume in
    record {
      gate = ap (λ (k : List ℕ). slice_index k 0) s.log ∙ p.gate;
      ends = subst (Ends h) (sym s.log) p.ends;
      fits = record { some = f.some; small = f.small; frames = omega (arith, long, frames); base = omega (arith, wide, base); grows = f.grows; few = f.few };
      volume = λ l v may. p.volume l v (s.crash l v may) ∙ sym s.volume;
      log = λ l v may. (let b = p.log l v (s.crash l v may) in record { there = b.there; each = λ i u. b.each i u ∙ ap (λ (k : List ℕ). slice_index k i) (sym s.log) });
    }
