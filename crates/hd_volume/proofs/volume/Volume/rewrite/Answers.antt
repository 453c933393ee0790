use Rattle.std.proofs.Common.{◌≡◌, ◌≤◌, ℕ, List, length, IsTrue, Result, Ok, Err, IfOk, sym, subst, ◌∙◌, arith}
use Rattle.hd_dbd.specs.declared.answer.Refused.{Refused}
use Rattle.hd_volume.specs.Volumes.{VolumeState}
use Rattle.hd_volume.specs.Calls.{HasSegment, IsCall, IsRewritten}
use Rattle.hd_volume.specs.Steps.{IsShorter}
use Rattle.hd_volume.proofs.JoinLemmas.{AreOne, read-one, plain-read, one-kind, one-segments, if-ok-map, if-err-map}
use Rattle.hd_volume.proofs.RewriteLemmas.{rewritten-after}
use Rattle.hd_volume.proofs.volume.Volume.rewrite.Goals as goal

pub returns-then-bytes-len-clause-rewritten : goal.returns-then-bytes-len-clause-rewritten
returns-then-bytes-len-clause-rewritten g c =
    let v : VolumeState = c.args.self.now in
    let w : VolumeState = c.segment_length.new.self in
    if-ok-map c.write_over.result
    (λ to h sound.
    let now : IsTrue w.is_sound = rw c.in_ok-len.ensures.read.call.sound sound in
    let one : AreOne v w = read-one c.in_ok-len.ensures.read now in
    rewritten-after one (plain-read c.in_ok-len.ensures.read) c.args.address to c.args.bytes.now (h now))
    c.write_over.ensures.written

pub returns-clause-rewritten : goal.returns-clause-rewritten
returns-clause-rewritten g c =
    let v : VolumeState = c.args.self.now in
    let w : VolumeState = c.segment_length.new.self in
    if-ok-map c.move_segment.result
    (λ to h sound.
    let now : IsTrue w.is_sound = rw c.in_ok-len.ensures.read.call.sound sound in
    let one : AreOne v w = read-one c.in_ok-len.ensures.read now in
    rewritten-after one (plain-read c.in_ok-len.ensures.read) c.args.address to c.args.bytes.now (h now))
    c.move_segment.ensures.moved

pub returns-clause-no_free : goal.returns-clause-no_free
returns-clause-no_free g c =
    let v : VolumeState = c.args.self.now in
    let w : VolumeState = c.segment_length.new.self in
    if-err-map c.move_segment.result
    (λ e h is sound free.
    let now : IsTrue w.is_sound = rw c.in_ok-len.ensures.read.call.sound sound in
    let one : AreOne v w = read-one c.in_ok-len.ensures.read now in
    h is now (free.0, one-kind one 3 free.0 free.1))
    c.move_segment.ensures.no_free

-- a longer segment does not stay
moved-away : {v w : VolumeState} (address : ℕ) (bytes : List ℕ) (n m : ℕ) (result : Result ℕ Refused) → IsCall v result w → (IsTrue v.is_sound → HasSegment v address 0)
    → (IsTrue v.is_sound → IsShorter v address bytes) → IfOk result (λ to. IsTrue v.is_sound → IsRewritten v address to bytes w)
    → IfOk result (λ to. to ≡ address → IsTrue w.is_sound → n ≤ m)
moved-away {v} {w} address bytes n m (Ok to) call there shorter moved = λ is now.
    let sound : IsTrue v.is_sound = subst IsTrue call.sound now in
    let h = there sound in
    absurd ((moved sound).moves h.bytes h.is (shorter sound h.bytes h.is) is)
moved-away address bytes n m (Err e) call there shorter moved = tt

pub returns-clause-still : goal.returns-clause-still
returns-clause-still g c =
    let v : VolumeState = c.args.self.now in
    let w : VolumeState = c.segment_length.new.self in
    let a : ℕ = c.args.address in
    let read = c.in_ok-len.ensures.read in
    let before : IsTrue w.is_sound → IsTrue v.is_sound = λ now. subst IsTrue read.call.sound now in
    let same : IsTrue w.is_sound → AreOne v w = λ now. read-one read now in
    moved-away a c.args.bytes.now v.room c.move_segment.new.self.room c.move_segment.result c.move_segment.ensures.call
    (λ now. let h = c.requires.there (before now) in record { bytes = h.bytes; is = one-segments (same now) a ∙ h.is; long = h.long })
    (λ now s is.
    let n : c.in_ok-len.len ≡ length s = c.in_ok-len.ensures.length (before now) s (sym (one-segments (same now) a) ∙ is) in
    let more = c.if-bytes-len.false in
    omega arith)
    c.move_segment.ensures.moved
