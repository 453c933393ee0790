-- What each call of a later commit's publication leaves.
use Rattle.std.proofs.Common.{◌≡◌, ◌≢◌, inl, inr, ℕ, ◌+◌, ◌-◌, ◌<◌, ◌≤◌, List, [], ◌∷◌, length, slice_index, refl, sym, ap, ◌∙◌, subst, arith}
use Rattle.std.proofs.lemmas.Bool.{cases_eq, cases_lt}
use Rattle.hd_bytes.specs.Ranges.{bytes_at}
use Rattle.hd_bytes.specs.Numbers.{number_at}
use Rattle.hd_bytes.proofs.NumberLemmas.{number-same}
use Rattle.hd_journal.specs.Disk.{State, Torn, WritesLog, Syncs, HasLog, Leaves}
use Rattle.hd_journal.specs.declared.head.Head.{Head}
use Rattle.hd_journal.specs.Log.{frame_at, block_no, no_block, gate_at, with_next, image, Fits, IsGate, Ends, SameSlots}
use Rattle.hd_journal.specs.Framed.{before}
use Rattle.hd_journal.specs.States.{IsPublished, StandsForEither}
use Rattle.hd_journal.proofs.Bytes.{frame-before}
use Rattle.hd_journal.proofs.Heads.{same-heads, moved}
use Rattle.hd_journal.proofs.Commits.{follows-from, ends-shut, ends-next}
use Rattle.hd_journal.proofs.Slots.{slots-more, slots-fewer, slots-equal, slots-beyond, slots-gate, image-slots}
use Rattle.hd_journal.proofs.Publishes.{ends-stands, one-written}
use Rattle.hd_journal.proofs.Published.{frame-end, published-stands, published-write, published-sync}
use Rattle.hd_journal.proofs.Moments.{started, goes_on}
use Rattle.hd_journal.proofs.Steps.{inside}

-- the head of the next commit, by that of the last with its gate
pub next-of : (last head : Head) → head ≡ record last { count = head.count; len = head.len } → 0 < last.count → last.count ≤ head.count
    → head ≡ record (before last) { count = (before last).count + 1 + (head.count - last.count); len = head.len }
next-of last head same some le =
    let e : head.count ≡ last.count - 1 + 1 + (head.count - last.count) = omega (arith, some, le) in
    same ∙ ap (λ (n : ℕ). record last { count = n; len = head.len }) e

module _ (h head : Head) (n : ℕ) (a b c d e f : State) (bytes : List ℕ) (p : IsPublished h a) (fits : Fits head a.log a.volume) (more : head ≡ record h { count = h.count + 1 + n; len = head.len }) (longer : h.len ≤ head.len) (few : head.count ≤ no_block)
    (w1 : WritesLog (frame_at head.size head.count) (head.size + 4) a b) where
  abbrev pub P : List ℕ → List ℕ → Type 0
  P = StandsForEither (image h a.log a.volume) (image head a.log a.volume)

  size : head.size ≡ h.size
  size = ap (λ (x : Head). x.size) more

  count : head.count ≡ h.count + 1 + n
  count = ap (λ (x : Head). x.count) more

  -- the gate stands before the frames of the commit
  gate-before : frame_at head.size h.count + (head.size + 4) ≤ frame_at head.size head.count
  gate-before = frame-before head.size h.count head.count (omega (arith, count))

  gate-is : gate_at h ≡ frame_at head.size h.count + 4
  gate-is = (let s = size in ap (λ (x : ℕ). frame_at x h.count + 4) (sym s))

  pub slots-1 : SameSlots head.size head.count a.log b.log
  slots-1 = slots-beyond head.size head.count (frame_at head.size head.count) (head.size + 4) a.log b.log fits.frames (omega arith) w1.log

  -- the slots of the commits before are among them
  earlier : (l m : List ℕ) → SameSlots head.size head.count l m → SameSlots h.size h.count l m
  earlier l m x = (let c = count in subst (λ (s : ℕ). SameSlots s h.count l m) size (slots-fewer head.size h.count head.count l m (omega (arith, c)) x))

  first-image : (s : State) → IsPublished h s → SameSlots head.size head.count a.log s.log → s.volume ≡ a.volume → (l v : List ℕ) → s.may_leave l v → P l v
  first-image s q x same l v may =
      inl (published-stands h s q l v may ∙ image-slots h a.log s.log s.volume q.fits.some q.fits.few (earlier a.log s.log x) ∙ ap (image h a.log) same)

  published-1 : IsPublished h b
  published-1 = (let g = gate-before in let i = gate-is in published-write h a b (frame_at head.size head.count) (head.size + 4) (omega (arith, g, i)) p w1)

  pub leaves-1 : Leaves P a b
  leaves-1 = goes_on P (started P a) w1.time (first-image b published-1 slots-1 w1.volume)

  module _ (w2 : WritesLog (gate_at h + 1) 12 b c) where
    there-1 : frame_at head.size head.count ≤ length b.log
    there-1 = (let u = w1.log.no_shorter in let t = fits.frames in omega (arith, u, t))

    gate-1 : block_no head.size b.log h.count ≡ no_block
    gate-1 = subst (λ (s : ℕ). block_no s b.log h.count ≡ no_block) (sym size) published-1.ends.gate.sign

    pub slots-2 : SameSlots head.size head.count a.log c.log
    slots-2 =
        let i = gate-is in
        let wide = fits.some in
        slots-more head.size head.count a.log b.log c.log slots-1 (slots-gate head.size head.count h.count (gate_at h + 1) 12 b.log c.log there-1 gate-1 (omega (arith, i)) (omega (arith, i, wide)) w2.log)

    published-2 : IsPublished h c
    published-2 = published-write h b c (gate_at h + 1) 12 (omega arith) published-1 w2

    volume-2 : c.volume ≡ a.volume
    volume-2 = w2.volume ∙ w1.volume

    pub leaves-2 : Leaves P a c
    leaves-2 = goes_on P leaves-1 w2.time (first-image c published-2 slots-2 volume-2)

    module _ (s1 : Syncs c d) where
      pub slots-3 : SameSlots head.size head.count a.log d.log
      slots-3 = slots-more head.size head.count a.log c.log d.log slots-2 (slots-equal head.size head.count c.log d.log s1.log)

      published-3 : IsPublished h d
      published-3 = published-sync h c d published-2 s1

      volume-3 : d.volume ≡ a.volume
      volume-3 = s1.volume ∙ volume-2

      pub leaves-3 : Leaves P a d
      leaves-3 = goes_on P leaves-2 s1.time (first-image d published-3 slots-3 volume-3)

      there-3 : frame_at head.size head.count ≤ length d.log
      there-3 = (let u = w2.log.no_shorter in let t = there-1 in let l : length d.log ≡ length c.log = ap length s1.log in omega (arith, u, t, l))

      gate-3 : block_no head.size d.log h.count ≡ no_block
      gate-3 = subst (λ (s : ℕ). block_no s d.log h.count ≡ no_block) (sym size) published-3.ends.gate.sign

      pub slots-4 : (l : List ℕ) → Torn (gate_at h) 1 d.log l → SameSlots head.size head.count a.log l
      slots-4 l torn =
          let i = gate-is in
          slots-more head.size head.count a.log d.log l slots-3 (slots-gate head.size head.count h.count (gate_at h) 1 d.log l there-3 gate-3 (omega (arith, i)) (omega (arith, i)) torn)

      module _ (gate : IsGate head b.log) (wrote : bytes_at c.log (gate_at h + 1) 12 ≡ bytes) (len : length bytes ≡ 12) (has_count : number_at 4 bytes 0 ≡ n) (has_len : number_at 8 bytes 4 ≡ head.len) (durable : HasLog d) where
        has-next : with_next d.log h ≡ head
        has-next =
            let inside_c = inside c.log bytes (gate_at h + 1) 12 wrote len (omega arith) in
            let c_count : number_at 4 c.log (gate_at h + 1) ≡ n =
            ap (number_at 4 c.log) (let e : gate_at h + 1 ≡ gate_at h + 1 + 0 = omega arith in e) ∙ sym (moved c.log bytes (gate_at h + 1) 12 0 4 wrote inside_c (omega arith)) ∙ has_count in
            let c_len : number_at 8 c.log (gate_at h + 5) ≡ head.len =
            ap (number_at 8 c.log) (let e : gate_at h + 5 ≡ gate_at h + 1 + 4 = omega arith in e) ∙ sym (moved c.log bytes (gate_at h + 1) 12 4 8 wrote inside_c (omega arith)) ∙ has_len in
            same-heads (with_next d.log h) (record h { count = h.count + 1 + n; len = head.len }) refl
            (ap (λ (m : ℕ). h.count + 1 + m) (ap (λ (k : List ℕ). number_at 4 k (gate_at h + 1)) s1.log ∙ c_count)) refl (ap (λ (k : List ℕ). number_at 8 k (gate_at h + 5)) s1.log ∙ c_len) refl refl
            ∙ sym more

        gate-d : IsGate head d.log
        gate-d =
            let there = gate.there in
            let up = w2.log.no_shorter in
            let g = gate-before in
            let i = gate-is in
            let e = frame-end head in
            let wide = fits.some in
            let same : (j : ℕ) → frame_at head.size head.count ≤ j → j < frame_at head.size (head.count + 1) → slice_index c.log j ≡ slice_index b.log j = λ j l u. w2.log.above j (omega (arith, u, there)) (omega (arith, l, g, i, wide)) in
            subst (IsGate head) (sym s1.log)
            (record {
              there = omega (arith, there, up);
              sign = number-same 4 (frame_at head.size head.count) c.log b.log (λ k l m. same k l (omega (arith, m, e))) ∙ gate.sign;
              shut = λ one. gate.shut (sym (same (gate_at head) (omega arith) (omega (arith, e, wide))) ∙ one);
            })

        -- once the gate is open the log ends with the commit
        ends-open : (l : List ℕ) → Torn (gate_at h) 1 d.log l → slice_index l (gate_at h) ≡ 1 → Ends head l
        ends-open l torn one =
            let there = gate-d.there in
            let up = torn.no_shorter in
            let e = frame-end head in
            let wide = fits.some in
            let sizes = follows-from head h.len (length l) few (omega (arith, there, up, e)) longer fits.few in
            ends-next h head d.log l p.fits.some published-3.ends has-next sizes gate-d (omega (arith, there, up)) (λ j low other u. apart j other (omega (arith, u, there, e, wide))) one
          where
            apart : (j : ℕ) → j ≢ gate_at h → j < length d.log → slice_index l j ≡ slice_index d.log j
            apart j other u = elim (cases_lt j (gate_at h)) [
              | inl below ↦ torn.below j u below
              | inr above ↦ torn.above j u (omega (arith, above, other))
            ]

        -- whatever a crash makes of the gate
        gating : (l : List ℕ) → Torn (gate_at h) 1 d.log l → P l a.volume
        gating l torn =
            let there = gate-d.there in
            let up = torn.no_shorter in
            let g = gate-before in
            let i = gate-is in
            let e = frame-end head in
            let e_h = frame-end h in
            let s = size in
            let wide = fits.some in
            let wide_h = p.fits.some in
            let there_h = published-3.ends.gate.there in
            elim (cases_eq (slice_index l (gate_at h)) 1) [
              | inr differs ↦
                  let ends = ends-shut h d.log l wide_h published-3.ends (omega (arith, there_h, up)) (λ j low u. torn.below j (omega (arith, u, there_h, e_h)) u) differs in
                  let first = torn.below 0 (omega (arith, there_h)) (omega arith) ∙ published-3.gate in
                  let f = p.fits in
                  let fit : Fits h l a.volume = record { some = f.some; small = f.small; frames = omega (arith, there_h, up, e_h); base = f.base; grows = f.grows; few = f.few } in
                  inl (ends-stands h l a.volume first ends fit ∙ image-slots h a.log l a.volume f.some f.few (earlier a.log l (slots-4 l torn)))
              | inl one ↦
                  let ends = ends-open l torn one in
                  let first = torn.below 0 (omega (arith, there_h)) (omega arith) ∙ published-3.gate in
                  let f = fits in
                  let fit : Fits head l a.volume = record { some = f.some; small = f.small; frames = omega (arith, there, up, e); base = f.base; grows = f.grows; few = f.few } in
                  inr (ends-stands head l a.volume first ends fit ∙ image-slots head a.log l a.volume f.some f.few (slots-4 l torn))
            ]

        module _ (w3 : WritesLog (gate_at h) 1 d e) where
          gated : (l v : List ℕ) → e.may_leave l v → P l v
          gated l v may =
              let was = w3.crash l v may in
              subst (λ (x : List ℕ). P l x) (sym (published-3.volume was.0 v was.1 ∙ volume-3)) (gating l (subst (λ (k : List ℕ). Torn (gate_at h) 1 k l) (durable was.0 v was.1) was.2))

          pub leaves-4 : Leaves P a e
          leaves-4 = goes_on P leaves-3 w3.time gated

          module _ (s2 : Syncs e f) where
            pub slots-5 : SameSlots head.size head.count a.log f.log
            slots-5 = slots-more head.size head.count a.log e.log f.log (slots-4 e.log w3.log) (slots-equal head.size head.count e.log f.log s2.log)

            pub leaves-5 : Leaves P a f
            leaves-5 = goes_on P leaves-4 s2.time (λ l v may. gated l v (s2.crash l v may))

            pub published-5 : bytes_at e.log (gate_at h) 1 ≡ 1 ∷ [] → HasLog f → IsPublished head f
            published-5 one last =
                let volume : f.volume ≡ a.volume = s2.volume ∙ w3.volume ∙ volume-3 in
                let ends : Ends head f.log = subst (Ends head) (sym s2.log) (ends-open e.log w3.log (one-written e.log (gate_at h) one)) in
                let there = ends.gate.there in
                let there_h = published-3.ends.gate.there in
                let next = frame-end head in
                let long : length f.volume ≡ length a.volume = ap length volume in
                let base = fits.base in
                record {
                  gate = ap (λ (k : List ℕ). slice_index k 0) s2.log ∙ w3.log.below 0 (omega (arith, there_h)) (omega arith) ∙ published-3.gate;
                  ends = ends;
                  fits = record { some = fits.some; small = fits.small; frames = omega (arith, there, next); base = omega (arith, long, base); grows = fits.grows; few = fits.few };
                  volume = λ l v may. (let was = w3.crash l v (s2.crash l v may) in published-3.volume was.0 v was.1 ∙ volume-3 ∙ sym volume);
                  log = λ l v may. (let is : l ≡ f.log = last l v may in record { there = subst (λ (k : List ℕ). frame_at head.size (head.count + 1) ≤ length k) (sym is) there; each = λ i u. ap (λ (k : List ℕ). slice_index k i) is });
                }
