-- A redo behind a volume's first byte, which is 0 while it goes on.
use Rattle.std.proofs.Common.{◌≡◌, ◌≢◌, ◌/◌, ◌%◌, add-one, inl, inr, ℕ, true, false, ◌+◌, ◌<◌, ◌≤◌, List, [], ◌∷◌, length, get_or, slice_index, refl, sym, ap, ◌∙◌, subst, arith}
use Rattle.std.proofs.lemmas.Bool.{cases_lt, true≢false}
use Rattle.std.proofs.lemmas.Grind.{common_steps}
use Rattle.hd_bytes.specs.Ranges.{bytes_at}
use Rattle.hd_bytes.proofs.BlockLemmas.{byte-at}
use Rattle.hd_journal.specs.Disk.{State, Torn, WritesVolume, Syncs, HasVolume, Leaves}
use Rattle.hd_journal.specs.declared.head.Head.{Head}
use Rattle.hd_journal.specs.Log.{frame_at, block_no, byte_from, image, Fits, Spares, HasFirst}
use Rattle.hd_journal.specs.States.{IsSpared, SameBehind, IsShutBetween, IsSparing, IsStill, Redoes}
use Rattle.hd_journal.proofs.Bytes.{frame-own, frame-other, length-image, spared-image, image-whole}
use Rattle.hd_journal.proofs.Moments.{started, goes_on, followed, weakened}
use Rattle.hd_journal.proofs.Steps.{inside, sparing-first, sparing-still, redoes-more, redoes-sync, redoes-byte}

behind-end : (xs : List ℕ) (k : ℕ) → length xs ≤ k → get_or xs k 0 ≡ 0
behind-end xs k le = grind (arith, common_steps)

-- ---- the first byte as the frames have it

-- a frame of block 0
pub first-here : (size : ℕ) (log : List ℕ) (i byte : ℕ) → 0 < size → block_no size log i ≡ 0 → byte ≡ slice_index log (frame_at size i + 4) → HasFirst size log (i + 1) byte
first-here size log i byte some own is =
    let front : 0 / size ≡ 0 = omega arith in
    let zeroth : 0 % size ≡ 0 = omega arith in
    record {
      frame = i;
      low = omega arith;
      own = own;
      is = λ other. ap (λ (m : ℕ). byte_from size log m 0 other) (add-one i) ∙ frame-own size log i 0 other (own ∙ sym front)
          ∙ ap (slice_index log) (let e : frame_at size i + 4 + 0 % size ≡ frame_at size i + 4 = omega (arith, zeroth) in e) ∙ sym is;
    }

-- a frame of another block
pub first-still : (size : ℕ) (log : List ℕ) (i byte : ℕ) → 0 < size → block_no size log i ≢ 0 → HasFirst size log i byte → HasFirst size log (i + 1) byte
first-still size log i byte some other has =
    let front : 0 / size ≡ 0 = omega arith in
    record {
      frame = has.frame;
      low = (let l = has.low in omega arith);
      own = has.own;
      is = λ x. ap (λ (m : ℕ). byte_from size log m 0 x) (add-one i) ∙ frame-other size log i 0 x (λ e. other (e ∙ front)) ∙ has.is x;
    }

-- ---- the calls

-- a write of the first byte changes no other
pub torn-behind : (v w : List ℕ) → Torn 0 1 v w → SameBehind v w
torn-behind v w torn k behind = elim (cases_lt k (length v)) [
  | inl low ↦ torn.above k low (omega (arith, behind))
  | inr high ↦ (let d = torn.no_longer in behind-end w k (omega (arith, high, behind)) ∙ sym (behind-end v k (omega (arith, high))))
]

-- what is spared beside a volume that is spared beside the first is so beside the first
spares-through : (h : Head) (log first v w : List ℕ) → Spares h false log first v → Spares h true log v w → Spares h false log first w
spares-through h log first v w s t = record { base = t.base; each = λ k low. t.each k low ∙ s.each k low; first_byte = λ e. absurd (true≢false (sym e)) }

module _ (h : Head) (a b c d e f : State) (byte : ℕ) (fits : Fits h a.log a.volume) (still : IsStill a) (has : HasFirst h.size a.log h.count byte) (some : 0 < h.len) (w1 : WritesVolume 0 1 a b) where
  abbrev pub last : List ℕ
  last = image h a.log a.volume

  abbrev pub P : List ℕ → List ℕ → Type 0
  P = IsShutBetween a.volume last

  pub redoes-shut : Redoes h false a.volume a b
  redoes-shut = redoes-byte h false a.volume byte has (sparing-first h a fits.base still) w1

  first-shut : (l v : List ℕ) → b.may_leave l v → P l v
  first-shut l v may = (let was = w1.crash l v may in inl (subst (λ (u : List ℕ). SameBehind u v) (still.volume l was.0 was.1) (torn-behind was.0 v was.2)))

  pub after-shut : Leaves P a b
  after-shut = goes_on P (started P a) w1.time first-shut

  module _ (s1 : Syncs b c) where
    pub redoes-synced : Redoes h false a.volume a c
    redoes-synced = redoes-more h false a.volume redoes-shut (redoes-sync h false a.volume (sparing-still h false a.volume redoes-shut) s1)

    pub after-synced : Leaves P a c
    after-synced = goes_on P after-shut s1.time (λ l v may. first-shut l v (s1.crash l v may))

    module _ (v1 : bytes_at b.volume 0 1 ≡ 0 ∷ []) (d1 : HasVolume c) (seen_c : c.may_leave c.log c.volume) where
      spared-c : Spares h false a.log a.volume c.volume
      spared-c = (redoes-synced.spares c.log c.volume seen_c).1

      zero-c : (0 < length c.volume) × (slice_index c.volume 0 ≡ 0)
      zero-c =
          let there = inside b.volume (0 ∷ []) 0 1 v1 refl (omega arith) in
          let same : length c.volume ≡ length b.volume = ap length s1.volume in
          (omega (arith, there, same), ap (λ (v : List ℕ). get_or v 0 0) s1.volume ∙ sym (byte-at b.volume 0 1 0 there (omega arith)) ∙ ap (λ (xs : List ℕ). get_or xs 0 0) v1)

      pub fits-shut : Fits h c.log c.volume
      fits-shut = record {
        some = fits.some;
        small = fits.small;
        frames = subst (λ (l : List ℕ). frame_at h.size h.count ≤ length l) (sym redoes-synced.log) fits.frames;
        base = spared-c.base;
        grows = fits.grows;
        few = fits.few;
      }

      pub sparing-shut : IsSparing h true c.volume c
      sparing-shut = λ l v may.
          let s = redoes-synced.spares l v may in
          let is : v ≡ c.volume = d1 l v may in (
            s.0 ∙ sym redoes-synced.log,
            record {
              base = s.1.base;
              each = λ k low. ap (λ (u : List ℕ). byte_from h.size c.log h.count k (slice_index u k)) is;
              first_byte = λ y. (subst (λ (u : List ℕ). 0 < length u) (sym is) zero-c.0, ap (λ (u : List ℕ). slice_index u 0) is ∙ zero-c.1);
            },
          )

      module _ (r : Redoes h true c.volume c d) where
        redoes-through : Redoes h false a.volume c d
        redoes-through = record {
          log = r.log;
          spares = λ l v may. through l v (r.spares l v may);
          leaves = weakened r.leaves through;
        }
          where
            through : (l v : List ℕ) → IsSpared h true c.log c.volume l v → IsSpared h false c.log a.volume l v
            through l v s = (s.0, spares-through h c.log a.volume c.volume v (subst (λ (k : List ℕ). Spares h false k a.volume c.volume) (sym redoes-synced.log) spared-c) s.1)

        pub redoes-framed : Redoes h false a.volume a d
        redoes-framed = redoes-more h false a.volume redoes-synced redoes-through

        pub after-framed : Leaves P a d
        after-framed = followed P after-synced (weakened r.leaves (λ l v s. inr (inl (s.1.first_byte refl).1)))

        module _ (still_d : IsStill d) (long : length d.volume ≡ h.len) (done : (k : ℕ) → 1 ≤ k → k < h.len → slice_index d.volume k ≡ slice_index (image h c.log c.volume) k) (w2 : WritesVolume 0 1 d e) where
          last-c : image h c.log c.volume ≡ last
          last-c = ap (λ (l : List ℕ). image h l c.volume) redoes-synced.log ∙ spared-image h false a.log a.volume c.volume spared-c

          last-behind : SameBehind last d.volume
          last-behind k behind = elim (cases_lt k h.len) [
            | inl low ↦ done k behind low ∙ ap (λ (u : List ℕ). slice_index u k) last-c
            | inr high ↦ (let il = length-image h a.log a.volume in behind-end d.volume k (omega (arith, long, high)) ∙ sym (behind-end last k (omega (arith, il, high))))
          ]

          last-open : (l v : List ℕ) → e.may_leave l v → P l v
          last-open l v may =
              let was = w2.crash l v may in
              inr (inr (λ k behind. torn-behind was.0 v was.2 k behind ∙ ap (λ (u : List ℕ). slice_index u k) (still_d.volume l was.0 was.1) ∙ last-behind k behind))

          has-d : HasFirst h.size d.log h.count byte
          has-d = subst (λ (l : List ℕ). HasFirst h.size l h.count byte) (sym redoes-framed.log) has

          pub redoes-whole : Redoes h false a.volume a e
          redoes-whole = redoes-more h false a.volume redoes-framed (redoes-byte h false a.volume byte has-d (sparing-still h false a.volume redoes-framed) w2)

          pub after-whole : Leaves P a e
          after-whole = goes_on P after-framed w2.time last-open

          module _ (s2 : Syncs e f) where
            pub redoes-last : Redoes h false a.volume a f
            redoes-last = redoes-more h false a.volume redoes-whole (redoes-sync h false a.volume (sparing-still h false a.volume redoes-whole) s2)

            pub after-last : Leaves P a f
            after-last = goes_on P after-whole s2.time (λ l v may. last-open l v (s2.crash l v may))

            pub done-last : bytes_at e.volume 0 1 ≡ byte ∷ [] → f.volume ≡ last
            done-last v2 =
                let there = inside e.volume (byte ∷ []) 0 1 v2 refl (omega arith) in
                let front : slice_index e.volume 0 ≡ byte = sym (byte-at e.volume 0 1 0 there (omega arith)) ∙ ap (λ (xs : List ℕ). get_or xs 0 0) v2 in
                s2.volume ∙ image-whole h c.log c.volume d.volume e.volume byte (subst (λ (l : List ℕ). HasFirst h.size l h.count byte) (sym redoes-synced.log) has) some long done w2.volume front ∙ last-c
