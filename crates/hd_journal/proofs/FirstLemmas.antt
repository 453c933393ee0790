-- A frame of block 0 with the bytes that it has.
use Rattle.std.proofs.Common.{◌≡◌, ℕ, ◌+◌, ◌*◌, ◌<◌, ◌≤◌, List, length, slice_index, slice_set, sym, ap, ◌∙◌, arith}
use Rattle.std.proofs.lemmas.Nat.{row_fits}
use Rattle.hd_bytes.specs.Ranges.{bytes_at}
use Rattle.hd_bytes.specs.Numbers.{number_at}
use Rattle.hd_bytes.specs.Blocks.{block_of, HasBlock}
use Rattle.hd_bytes.proofs.BlockLemmas.{length-block, byte-in-block, with-own}
use Rattle.hd_journal.specs.Disk.{State, WritesLog}
use Rattle.hd_journal.specs.declared.head.Head.{Head}
use Rattle.hd_journal.specs.Log.{frame_at, image}
use Rattle.hd_journal.specs.Framed.{IsFramed}
use Rattle.hd_journal.proofs.Bytes.{length-image}
use Rattle.hd_journal.proofs.FrameLemmas.{more-framed, more-image}

module _ (a b : State) (h : Head) (places frame : List ℕ) (o : IsFramed a h places) (low : 0 < length places) (w : WritesLog (frame_at h.size h.count) (h.size + 4) a b)
    (wrote : bytes_at b.log (frame_at h.size h.count) (h.size + 4) ≡ frame) (long : length frame ≡ h.size + 4) (number : number_at 4 frame 0 ≡ 0) (block : (j : ℕ) → j < h.size → slice_index frame (4 + j) ≡ slice_index (image h a.log a.volume) j) where
  abbrev whole : List ℕ
  whole = image h a.log a.volume

  there : HasBlock h.size whole 0
  there = (let il = length-image h a.log a.volume in let r : 0 * h.size + h.size ≤ length places * h.size = row_fits 0 h.size (length places) h.size low (omega arith) in let k = o.blocks in omega (arith, il, r, k))

  same : (j : ℕ) → j < h.size → slice_index frame (4 + j) ≡ slice_index (block_of h.size whole 0) j
  same j u = block j u ∙ ap (slice_index whole) (let e : j ≡ 0 * h.size + j = omega arith in e) ∙ sym (byte-in-block h.size 0 j whole there u)

  pub first-framed : IsFramed b (record h { count = h.count + 1 }) (slice_set places 0 (h.count + 1))
  first-framed = more-framed a b h places (block_of h.size whole 0) frame 0 o low w wrote long number (length-block h.size 0 whole there) same

  pub first-image : image (record h { count = h.count + 1 }) b.log b.volume ≡ whole
  first-image = more-image a b h places (block_of h.size whole 0) frame 0 o low w wrote long number (length-block h.size 0 whole there) same ∙ with-own h.size 0 whole there
