-- Volumes of one size and one image hold the same records; reading leaves such a one.
use Rattle.std.proofs.Common.{◌≡◌, ◌≢◌, ℕ, List, IsTrue, Bool, Option, Ok, Err, refl, sym, ap, subst, ◌∙◌}
use Rattle.std.specs.Prelude.{All}
use Rattle.hd_bytes.specs.Blocks.{HasBlock}
use Rattle.hd_dbd.specs.declared.facts.SegmentSize.{SegmentSize}
use Rattle.hd_dbd.specs.declared.answer.Refused.TheVariants as refused
use Rattle.hd_dbd.specs.Hierarchy.{Database}
use Rattle.hd_dbd.specs.Segment.{Segment}
use Rattle.hd_links.specs.Placed.{Placed}
use Rattle.hd_volume.specs.Volumes.{VolumeState, block_at}
use Rattle.hd_volume.specs.Records.{find}
use Rattle.hd_volume.specs.Calls.{IsRead}
use Rattle.hd_volume.proofs.CallSteps.{read-err}
use Rattle.hd_salvage.specs.declared.fault.SalvageFault.{SalvageFault}
use Rattle.hd_salvage.specs.declared.fault.SalvageFault.TheVariants as fault
use Rattle.hd_check.specs.declared.checks.CheckFault.TheVariants as check
use Rattle.hd_unload.specs.declared.unloads.UnloadFault.{UnloadFault}
use Rattle.hd_unload.specs.declared.unloads.UnloadFault.TheVariants as unload
use Rattle.hd_unload.specs.Unloads.{unload_call}
use Rattle.hd_salvage.specs.declared.record.Record.{Record}
use Rattle.hd_salvage.specs.Records.{IsRecordAt, IsNotedIn, IsNoted}
use Rattle.hd_salvage.specs.Streams.{IsSalvaged, IsKeptTo, KeepsOn, as_call}

-- The two have one size, one table of sizes and one image.
pub record AreOne (v w : VolumeState) : Type 0 where
  pub size : w.size ≡ v.size
  pub sizes : w.sizes ≡ v.sizes
  pub image : w.image ≡ v.image

-- a call that read leaves one that is sound and the same
pub after-read : {A : Type 0} {x : A} (v w : VolumeState) → IsRead {T = A} v (Ok x) w → IsTrue v.is_sound → IsTrue w.is_sound × AreOne v w
after-read v w r s = (let now : IsTrue w.is_sound = rw r.call.sound s in (now, record { size = r.call.size; sizes = r.call.sizes; image = r.image now }))

-- and was sound before
pub sound-before : {A : Type 0} {x : A} (v w : VolumeState) → IsRead {T = A} v (Ok x) w → IsTrue w.is_sound → IsTrue v.is_sound
sound-before v w r s = subst IsTrue r.call.sound s

-- a refusal of one result is one of another
pub fault-err : {A B : Type 0} {v w : VolumeState} (e : SalvageFault) → IsRead {T = A} v (as_call (Err e)) w → IsRead {T = B} v (as_call (Err e)) w
fault-err fault.Memory h = read-err h
fault-err fault.Device h = read-err h
fault-err fault.Write h = read-err h
fault-err fault.Changed h = read-err h

-- where a call read, and what came behind it was refused but for no failed access, that is a refusal of the whole
memory : {A B : Type 0} {x : A} {v w : VolumeState} → IsRead {T = A} v (Ok x) w → IsRead {T = B} v (Err refused.Memory) w
memory h = record {
  call = record { counts = h.call.counts; sound = h.call.sound; committed = h.call.committed; size = h.call.size; sizes = h.call.sizes; first = h.call.first; plain = h.call.plain; space = h.call.space };
  image = h.image;
  stands = h.stands;
  room = h.room;
}

full : {A B : Type 0} {x : A} {v w : VolumeState} → IsRead {T = A} v (Ok x) w → IsRead {T = B} v (Err refused.Full) w
full h = record {
  call = record { counts = h.call.counts; sound = h.call.sound; committed = h.call.committed; size = h.call.size; sizes = h.call.sizes; first = h.call.first; plain = h.call.plain; space = h.call.space };
  image = h.image;
  stands = h.stands;
  room = h.room;
}

pub refused-behind : {A B : Type 0} {x : A} {v w : VolumeState} (e : SalvageFault) → (e ≡ fault.Device → ⊥) → IsRead {T = A} v (Ok x) w → IsRead {T = B} v (as_call (Err e)) w
refused-behind fault.Memory n h = memory h
refused-behind fault.Device n h = absurd (n refl)
refused-behind fault.Write n h = full h
refused-behind fault.Changed n h = full h

-- the same of an unload's
pub unload-err : {A B : Type 0} {v w : VolumeState} (e : UnloadFault) → IsRead {T = A} v (unload_call (Err e)) w → IsRead {T = B} v (unload_call (Err e)) w
unload-err (unload.Check check.Memory) h = read-err h
unload-err (unload.Check check.Device) h = read-err h
unload-err (unload.Check (check.Fault f)) h = read-err h
unload-err unload.Write h = read-err h
unload-err unload.Changed h = read-err h

pub back : {v w : VolumeState} → AreOne v w → AreOne w v
back o = record { size = sym o.size; sizes = sym o.sizes; image = sym o.image }

find-one : (v w : VolumeState) (a : ℕ) → AreOne v w → find w a ≡ find v a
find-one v w a o =
    ap (λ (n : ℕ). find (record w { size = n }) a) o.size
    ∙ ap (λ (s : List SegmentSize). find (record w { size = v.size; sizes = s }) a) o.sizes
    ∙ ap (λ (i : List ℕ). find (record w { size = v.size; sizes = v.sizes; image = i }) a) o.image

record-one : (d : Database) (v w : VolumeState) → AreOne v w → (p : Placed) → IsRecordAt d v p → IsRecordAt d w p
record-one d v w o p r = record { stored = r.stored; there = find-one v w p.address o ∙ r.there; is = r.is }

pub noted-one : (v w : VolumeState) → AreOne v w → (r : Record) → IsNoted v r → IsNoted w r
noted-one v w o r n = record {
  later = n.later;
  there = subst (λ (size : ℕ). HasBlock size w.image r.block) (sym o.size) (subst (λ (image : List ℕ). HasBlock v.size image r.block) (sym o.image) n.there);
  noted = subst (λ (sizes : List SegmentSize). IsNotedIn sizes (block_at w r.block) r) (sym o.sizes)
      (subst (λ (size : ℕ). IsNotedIn v.sizes (block_at (record w { size = size }) r.block) r) (sym o.size)
      (subst (λ (image : List ℕ). IsNotedIn v.sizes (block_at (record v { image = image }) r.block) r) (sym o.image) n.noted));
}

kept-one : (d : Database) (v w : VolumeState) → AreOne v w → (before now : Option (List ℕ)) (path : List Segment) (marks : List Bool) (count : ℕ) → IsKeptTo d v before now path marks count → IsKeptTo d w before now path marks count
kept-one d v w o before now path marks count k = record {
  placed = k.placed;
  valid = k.valid;
  records = λ i x l. record-one d v w o _ (k.records i x l);
  once = k.once;
  marked = k.marked;
  stream = k.stream;
  last = k.last;
  counted = k.counted;
}

-- what goes on over the one goes on over the other
pub keeps-one : (d : Database) (v w : VolumeState) → AreOne v w → (now then : Option (List ℕ)) (path path_then : List Segment) (marks marks_then : List Bool) (count count_then : ℕ)
    → KeepsOn d w now path marks count then path_then marks_then count_then → KeepsOn d v now path marks count then path_then marks_then count_then
keeps-one d v w o now then path path_then marks marks_then count count_then h before k =
    kept-one d w v (back o) before then path_then marks_then count_then (h before (kept-one d v w o before now path marks count k))

pub salvaged-one : (d : Database) (v w : VolumeState) → AreOne v w → (before after : Option (List ℕ)) (segments : ℕ) → IsSalvaged d w before after segments → IsSalvaged d v before after segments
salvaged-one d v w o before after segments s = record {
  placed = s.placed;
  valid = s.valid;
  records = λ i x l. record-one d w v (back o) _ (s.records i x l);
  once = s.once;
  few = s.few;
  stream = s.stream;
  segments_are = s.segments_are;
}
