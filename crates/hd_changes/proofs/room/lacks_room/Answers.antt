-- A path that begins with a root needs no more than a block for each row and the growth of the index.
use Rattle.std.proofs.Common.{◌≡◌, ◌⊎◌, ◌+◌, ◌≤◌, ℕ, IsTrue, Bool, true, false, not, refl, arith, inl, inr}
use Rattle.hd_volume.specs.Indexes.{root_key_length}
use Rattle.hd_volume.specs.Rooms.{spare}
use Rattle.hd_volume.specs.Spacing.{IsPlain}
use Rattle.hd_volume.proofs.JoinLemmas.{read-one, hole-after, one-formatted}
use Rattle.hd_index.specs.Places.{blocks_needed}
use Rattle.hd_index.proofs.NeedLemmas.{needed-most}
use Rattle.hd_changes.proofs.room.lacks_room.Goals.{else-leaves-via-then-leaves+else-entry-gt0, else-leaves-via-else-leaves}
use Rattle.hd_changes.proofs.room.lacks_room.Goals as goal

pub returns-then-most-rows-clause-room : goal.returns-then-most-rows-clause-room
returns-then-most-rows-clause-room g c = λ sound room.
    let v = c.args.volume.now in
    let key_length : ℕ = root_key_length c.args.dbd.now.types in
    let index = (c.requires.index sound).index in
    let needed = needed-most key_length v c.args.key.now index in
    let bound = c.growth.ensures c.args.dbd.now sound (c.requires.index sound) in
    let own = c.spare-spare.ensures sound in
    let whole = c.from-most.ensures in
    let wide = c.from-rows.ensures in
    let left = c.from-free.ensures in
    let test = c.if-most-rows.true in
    let enough : c.args.count + blocks_needed key_length v c.args.key.now ≤ spare v = omega arith in
    (c.is_highest.ensures.low sound index.formatted.header.first c.if-is_highest.false, inl enough)

pub returns-then-spare-entry-clause-lacks : goal.returns-then-spare-entry-clause-lacks
returns-then-spare-entry-clause-lacks g c = λ sound lacks.
    let most = needed-most (root_key_length c.args.dbd.now.types) c.args.volume.now c.args.key.now (c.requires.index sound).index in
    let need = c.in_ok-entry.ensures.value sound in
    let own = c.spare-spare.ensures sound in
    let less = c.if-spare-entry.true in
    inl (omega arith)

pub returns-then-entry-gt0-clause-lacks : goal.returns-then-entry-gt0-clause-lacks
returns-then-entry-gt0-clause-lacks g c = λ sound lacks.
    let most = needed-most (root_key_length c.args.dbd.now.types) c.args.volume.now c.args.key.now (c.requires.index sound).index in
    let need = c.in_ok-entry.ensures.value sound in
    let own = c.spare-spare.ensures sound in
    let enough = c.if-spare-entry.false in
    let few = c.if-count-spare.false in
    inl (omega arith)

pub has_hole-requires-clause-formatted : goal.has_hole-requires-clause-formatted
has_hole-requires-clause-formatted g c now =
    let read = c.in_ok-entry.ensures.read in
    let sound : IsTrue c.args.volume.now.is_sound = rw (← read.call.sound) now in
    one-formatted (read-one read now) (c.requires.index sound).index.formatted

pub returns-clause-lacks : goal.returns-clause-lacks
returns-clause-lacks g c = λ sound lacks.
    let most = needed-most (root_key_length c.args.dbd.now.types) c.args.volume.now c.args.key.now (c.requires.index sound).index in
    let need = c.in_ok-entry.ensures.value sound in
    let own = c.spare-spare.ensures sound in
    let enough = c.if-spare-entry.false in
    let few = c.if-count-spare.false in
    inl (omega arith)

pub returns-clause-room : goal.returns-clause-room
returns-clause-room g c = λ sound room.
    let v = c.args.volume.now in
    let key_length : ℕ = root_key_length c.args.dbd.now.types in
    let read = c.in_ok-entry.ensures.read in
    let now : IsTrue c.blocks_needed.new.volume.is_sound = rw read.call.sound sound in
    let hole = hole-after (read-one read now) _ (c.in_ok-has_hole.ensures.found now (not-false c.in_ok-has_hole.field-0 room)) in
    let need = c.in_ok-entry.ensures.value sound in
    let own = c.spare-spare.ensures sound in
    let less = c.if-spare-entry.false in
    let enough : blocks_needed key_length v c.args.key.now ≤ spare v = omega arith in
    let used : IsPlain v ⊎ (blocks_needed key_length v c.args.key.now ≡ 0) = elim c.else-leaves.branch [
      | else-leaves-via-then-leaves+else-entry-gt0 w ↦ inr (let none = w.if-entry-gt0.false in omega arith)
      | else-leaves-via-else-leaves w ↦ inl (c.leaves_space-leaves.ensures.no w.if-leaves.false)
    ] in (
      c.is_highest.ensures.low sound (c.requires.index sound).index.formatted.header.first c.if-is_highest.false,
      inr (hole, enough, used),
    )
  where
    not-false : (b : Bool) → not b ≡ false → b ≡ true
    not-false true e = refl
    not-false false e = cc
