-- What a crash leaves behind the last commit of a journal, by its stage.
use Rattle.std.proofs.Common.{◌≡◌, ◌≢◌, ℕ, ◌+◌, ◌-◌, ◌*◌, ◌<◌, ◌≤◌, List, length, slice_index, refl, sym, ap, ◌∙◌, subst, arith}
use Rattle.std.proofs.lemmas.Nat.{row_fits}
use Rattle.hd_stores.specs.Stores.{Committed}
use Rattle.hd_journal.specs.Disk.{Mark, State, WritesLog, Leaves}
use Rattle.hd_journal.specs.declared.head.Head.{Head}
use Rattle.hd_journal.specs.declared.journal.Stage.{Stage}
use Rattle.hd_journal.specs.declared.journal.Stage.TheVariants.{Collecting, Published, Doubtful}
use Rattle.hd_journal.specs.Log.{frame_at, block_no, no_block, image, recovered, SameSlots}
use Rattle.hd_journal.specs.Framed.{before, fresh, IsFramed, IsSafe}
use Rattle.hd_journal.specs.States.{StandsFor, SameBehind, IsPublished}
use Rattle.hd_journal.specs.Journals.{Holds, tried_in, committed_in}
use Rattle.hd_journal.proofs.Bytes.{frame-before, frame-up-to}
use Rattle.hd_journal.proofs.Heads.{same-heads}
use Rattle.hd_journal.proofs.JournalLemmas.{collecting≢published, collecting≢doubtful}
use Rattle.hd_journal.proofs.Opens.{shut}
use Rattle.hd_journal.proofs.Moments.{started, goes_on}
use Rattle.hd_journal.proofs.Safety.{safe-runs}
use Rattle.hd_journal.proofs.Slots.{slots-bytes, slots-fewer, slots-beyond, place-low, image-slots, framed-slots, gate-image, gate-framed, fresh-image}
use Rattle.hd_journal.proofs.Publishes.{settled-still}
use Rattle.hd_journal.proofs.Published.{published-stands, published-write}

-- ---- the gate behind the last commit

pub with-gate : (last : Head) → 0 < last.count → record (before last) { count = (before last).count + 1 } ≡ last
with-gate last some = same-heads (record (before last) { count = (before last).count + 1 }) last refl (let e : last.count - 1 + 1 ≡ last.count = omega (arith, some) in e) refl refl refl refl

-- what was written since the last commit stands behind it
pub behind-last : (head last : Head) (i : ℕ) → head ≡ record last { count = head.count; len = head.len } → last.count ≤ i → frame_at last.size last.count ≤ frame_at head.size i
behind-last head last i same later = subst (λ (s : ℕ). frame_at last.size last.count ≤ frame_at s i) (sym (ap (λ (x : Head). x.size) same)) (frame-up-to last.size last.count i later)

pub place-behind : (head last : Head) (place : ℕ) → head ≡ record last { count = head.count; len = head.len } → last.count < place → frame_at last.size last.count ≤ frame_at head.size (place - 1) + 4
place-behind head last place same new = (let r = behind-last head last (place - 1) same (omega (arith, new)) in omega (arith, r))

-- where nothing was, the heads are the same
pub unwritten : (head last : Head) → head ≡ record last { count = head.count; len = head.len } → head.count ≡ last.count → head.len ≡ last.len → head ≡ last
unwritten head last same count len = same ∙ same-heads (record last { count = head.count; len = head.len }) last refl count refl len refl refl

-- its slot changes nothing
pub before-image : (last : Head) (s : State) → 0 < last.count → IsPublished (before last) s → image last s.log s.volume ≡ image (before last) s.log s.volume
before-image last s some p = ap (λ (h : Head). image h s.log s.volume) (sym (with-gate last some)) ∙ gate-image (before last) s.log s.volume p.fits.some p.fits.few p.ends.gate.sign

-- ---- a crash, and a write behind the last commit

pub held-stands : (stage : Stage) (last : Head) (s : State) → stage ≢ Doubtful → Holds stage last s → (l v : List ℕ) → s.may_leave l v → recovered l v ≡ image last s.log s.volume
held-stands Collecting last s sure h l v may =
    shut l v (h.0.shut l v may).gate ∙ h.0.volume l v may ∙ sym (ap (λ (x : Head). image x s.log s.volume) h.1 ∙ fresh-image s last)
held-stands Published last s sure h l v may = published-stands (before last) s h.1 l v may ∙ sym (before-image last s h.0 h.1)
held-stands Doubtful last s sure h l v may = absurd (sure refl)

pub held-write : (stage : Stage) (last : Head) (a b : State) (at n : ℕ) → frame_at last.size last.count ≤ at → Holds stage last a → WritesLog at n a b → Holds stage last b
held-write Collecting last a b at n behind h w = (settled-still a b at n (omega (arith, behind)) h.0 w, h.1 ∙ ap (λ (v : List ℕ). fresh last (length v)) (sym w.volume))
held-write Published last a b at n behind h w =
    let some = h.0 in
    let e = frame-before last.size (last.count - 1) last.count (omega (arith, some)) in
    let wide = h.1.fits.some in
    (h.0, published-write (before last) a b at n (omega (arith, e, behind, wide)) h.1 w)
held-write Doubtful last a b at n behind h w = tt

pub write-framed : (last : Head) (kept : List ℕ) (a b : State) (at n : ℕ) → IsFramed a last kept → frame_at last.size last.count ≤ at → WritesLog at n a b → IsFramed b last kept
write-framed last kept a b at n o behind w =
    let there = o.fits.frames in
    let up = w.log.no_shorter in
    framed-slots a b last kept o (slots-beyond last.size last.count at n a.log b.log there behind w.log) (omega (arith, there, up)) w.volume

pub write-image : (last : Head) (kept : List ℕ) (a b : State) (at n : ℕ) → IsFramed a last kept → frame_at last.size last.count ≤ at → WritesLog at n a b → image last b.log b.volume ≡ image last a.log a.volume
write-image last kept a b at n o behind w =
    ap (image last b.log) w.volume ∙ image-slots last a.log b.log a.volume o.fits.some o.fits.few (slots-beyond last.size last.count at n a.log b.log o.fits.frames behind w.log)

-- while frames are collected the last commit is the volume
pub collecting-volume : (stage : Stage) (last : Head) (s : State) → stage ≡ Collecting → Holds stage last s → s.volume ≡ image last s.log s.volume
collecting-volume Collecting last s is h = sym (ap (λ (x : Head). image x s.log s.volume) h.1 ∙ fresh-image s last)
collecting-volume Published last s is h = absurd (collecting≢published (sym is))
collecting-volume Doubtful last s is h = absurd (collecting≢doubtful (sym is))

-- ---- moments

pub tried-sure : (stage : Stage) (last whole : List ℕ) → stage ≢ Doubtful → tried_in stage last whole ≡ last
tried-sure Collecting last whole sure = refl
tried-sure Published last whole sure = refl
tried-sure Doubtful last whole sure = absurd (sure refl)

pub committed-same : (stage : Stage) (a b v w : List ℕ) (marks marks' : List Mark) → stage ≢ Doubtful → b ≡ a → marks' ≡ marks
    → committed_in b (tried_in stage b w) marks' ≡ committed_in a (tried_in stage a v) marks
committed-same stage a b v w marks marks' sure same also = rw (tried-sure stage b w sure, tried-sure stage a v sure, same, also) refl

pub write-leaves : (stage : Stage) (last : Head) (kept : List ℕ) (a b : State) (at n : ℕ) → stage ≢ Doubtful → IsFramed a last kept → frame_at last.size last.count ≤ at → Holds stage last a → WritesLog at n a b → Leaves (StandsFor (image last a.log a.volume)) a b
write-leaves stage last kept a b at n sure o behind h w =
    goes_on (StandsFor (image last a.log a.volume)) (started (StandsFor (image last a.log a.volume)) a) w.time
    (λ l v may. held-stands stage last b sure (held-write stage last a b at n behind h w) l v may ∙ write-image last kept a b at n o behind w)

-- a run that changes none of them is safe
pub safe-same : (stage : Stage) (a b : State) (x y v w : List ℕ) → stage ≢ Doubtful → y ≡ x → Leaves (StandsFor x) a b
    → IsSafe (committed_in x (tried_in stage x v) a.marks) a → IsSafe (committed_in y (tried_in stage y w) b.marks) b
safe-same stage a b x y v w sure same runs safe =
    subst (λ (c : Committed). IsSafe c b) (sym (committed-same stage x y v w a.marks b.marks sure same runs.marks)) (safe-runs a b (committed_in x (tried_in stage x v) a.marks) runs safe)

-- ---- a publication

abbrev gated : Head → Head
gated head = record head { count = head.count + 1 }

module _ (a b : State) (head : Head) (places : List ℕ) (o : IsFramed a head places) (x : SameSlots head.size head.count a.log b.log) (volume : b.volume ≡ a.volume) where
  pub head-image : image head b.log b.volume ≡ image head a.log a.volume
  head-image = ap (image head b.log) volume ∙ image-slots head a.log b.log a.volume o.fits.some o.fits.few x

  pub last-image : (last : Head) (kept : List ℕ) → head ≡ record last { count = head.count; len = head.len } → last.count ≤ head.count → IsFramed a last kept → image last b.log b.volume ≡ image last a.log a.volume
  last-image last kept same later p =
      let y = subst (λ (s : ℕ). SameSlots s last.count a.log b.log) (ap (λ (h : Head). h.size) same) (slots-fewer head.size last.count head.count a.log b.log later x) in
      ap (image last b.log) volume ∙ image-slots last a.log b.log a.volume p.fits.some p.fits.few y

  module _ (p : IsPublished head b) where
    pub gated-framed : IsFramed b (gated head) places
    gated-framed = gate-framed b head places (framed-slots a b head places o x p.fits.frames volume) p.ends.gate.there p.ends.gate.sign

    pub gated-image : image (gated head) b.log b.volume ≡ image head a.log a.volume
    gated-image = gate-image head b.log b.volume o.fits.some o.fits.few p.ends.gate.sign ∙ head-image

    pub gated-held : Holds Published (gated head) b
    gated-held = (omega arith, subst (λ (n : ℕ). IsPublished (record head { count = n }) b) (let e : head.count ≡ head.count + 1 - 1 = omega arith in e) p)

-- the gate's slot behind the last commit stays, and changes nothing
pub copied-last : (last : Head) (kept : List ℕ) (a b : State) → 0 < last.count → IsFramed a last kept → IsPublished (before last) a → length a.log ≤ length b.log → SameBehind a.log b.log
    → image (before last) b.log b.volume ≡ image (before last) a.log a.volume → image last b.log b.volume ≡ image last a.log a.volume
copied-last last kept a b some o p up same is =
    let slots = slots-bytes last.size last.count a.log b.log (λ i l u. same i (omega (arith, l))) in
    let sign = slots.numbers (last.count - 1) (omega (arith, some)) ∙ p.ends.gate.sign in
    ap (λ (h : Head). image h b.log b.volume) (sym (with-gate last some)) ∙ gate-image (before last) b.log b.volume p.fits.some p.fits.few sign ∙ is ∙ sym (before-image last a some p)

-- the frame of block 0 is one of a commit's
pub first-low : (last : Head) (kept : List ℕ) (a : State) → 0 < last.count → IsFramed a last kept → IsPublished (before last) a → 0 < length kept → slice_index kept 0 ≢ 0
    → (slice_index kept 0 - 1 < last.count - 1) × (block_no last.size a.log (slice_index kept 0 - 1) ≡ 0) × (0 < last.len)
first-low last kept a some o p there has =
    let low = place-low last.size last.count a.log kept 0 o.frames there has in
    let own = (o.frames.there 0 there has).1 in
    let wide = o.fits.some in
    let blocks = o.blocks in
    let r : 0 * last.size + last.size ≤ length kept * last.size = row_fits 0 last.size (length kept) last.size there (omega arith) in
    let other : slice_index kept 0 - 1 ≢ last.count - 1 = λ is. (let e : no_block ≡ 0 = sym p.ends.gate.sign ∙ ap (block_no last.size a.log) (sym is) ∙ own in omega (arith, e)) in
    (omega (arith, low, other, some), own, omega (arith, r, wide, blocks))
