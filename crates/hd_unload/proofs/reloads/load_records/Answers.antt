use Rattle.std.proofs.Common.{◌≡◌, ◌+◌, ◌≤◌, ◌++◌, ℕ, List, length, IsTrue, Ok, Some, refl, sym, subst, arith}
use Rattle.hd_dbd.specs.Types.{SegmentType}
use Rattle.hd_dbd.specs.Hierarchy.{Database}
use Rattle.hd_volume.proofs.CallSteps.{call-none, call-ok}
use Rattle.hd_volume.proofs.JoinLemmas.{calls-join}
use Rattle.hd_unload.specs.declared.fault.RecordFault.TheVariants.{U2}
use Rattle.hd_unload.specs.Streams.{head_bytes, record_fault}
use Rattle.hd_unload.proofs.Reading.{read-none, read-more-of, read-all, read-refused, row-refused-of, at-some, at-none, rest-shorter, none-left, fault-sound}
use Rattle.hd_unload.proofs.reloads.load_records.Goals as goal

pub loop-count-init : goal.loop-count-init
loop-count-init g c = record {
  call = call-none c.args.volume.now 0;
  short = omega arith;
  read = λ stream is largest new. read-none c.args.dbd.now stream c.args.records.now largest c.new-path.result c.args.volume.now is c.types-types.ensures.fit c.new-path.ensures
      c.requires.sizes.0 c.requires.sizes.1 new;
}

pub returns-in-Err-clause-fault : goal.returns-in-Err-clause-fault
returns-in-Err-clause-fault g c = λ stream is largest new.
    read-refused c.args.dbd.now stream largest c.loop-count.count c.loop-count.left.now c.loop-count.path c.loop-count.volume (c.loop-count.count + 1) c.in-Err.fault
    (c.loop-count.invariant.read stream is largest new) refl
    (λ rows counted. subst (λ (ts : List SegmentType). record_fault ts rows c.loop-count.left.now ≡ Some c.in-Err.fault) c.types-types.ensures.types (c.in-Err.ensures.err rows counted))

pub returns-in-Ok-None-clause-rows : goal.returns-in-Ok-None-clause-rows
returns-in-Ok-None-clause-rows g c = λ stream is largest new.
    let e = at-none c.in-Ok-None.field-0 c.in-Ok-None.field-0-is c.in-Ok-None.ensures.end in
    read-all c.args.dbd.now stream largest c.loop-count.count c.loop-count.left.now c.loop-count.path c.loop-count.volume c.loop-count.volume (c.loop-count.invariant.read stream is largest new) e.0 e.1 refl

pub load_record-requires-clause-loaded : goal.load_record-requires-clause-loaded
load_record-requires-clause-loaded g c = λ now.
    let sound : IsTrue c.args.volume.now.is_sound = rw (← c.loop-count.invariant.call.sound) now in
    let new = c.requires.new sound in
    let read = c.loop-count.invariant.read (head_bytes c.args.dbd.now ++ c.args.records.now) refl new.0 (λ _. new.1) in
    (read.rows, read.loaded now)

pub returns-in-Err-load_record-clause-fault : goal.returns-in-Err-load_record-clause-fault
returns-in-Err-load_record-clause-fault g c = λ stream is largest new.
    let d : Database = c.args.dbd.now in
    let there = at-some _ c.in-Ok-Some.field-0 c.in-Ok-Some.record c.in-Ok-Some.field-0-is c.in-Ok-Some.ensures.some in
    let faults = at-some _ c.in-Ok-Some.field-0 c.in-Ok-Some.record c.in-Ok-Some.field-0-is c.in-Ok-Some.ensures.fault in
    fault-sound d stream largest c.loop-count.volume.is_sound c.args.volume.now.is_sound c.in-Err-load_record.fault c.loop-count.invariant.call.sound
    (row-refused-of d c.types-types.result.now c.types-types.ensures.types stream largest c.loop-count.count c.loop-count.left.now c.in-Ok-Some.record.rest.now c.loop-count.path c.loop-count.volume _ c.in-Err-load_record.fault
    (c.loop-count.invariant.read stream is largest new) there.0 there.1 faults c.in-Err-load_record.ensures.fault)

pub loop-count-preserved : goal.loop-count-preserved
loop-count-preserved g c =
    let i = c.loop-count.invariant in
    let o = c.in-Ok.ensures in
    let there = at-some _ c.in-Ok-Some.field-0 c.in-Ok-Some.record c.in-Ok-Some.field-0-is c.in-Ok-Some.ensures.some in
    record {
      call = call-ok 0 (calls-join (Ok c.in-Ok.field-0) i.call o.call);
      short = (let less = rest-shorter _ c.loop-count.left.now c.in-Ok-Some.record.rest.now there.1 in let s = i.short in omega arith);
      read = λ stream is largest new. read-more-of c.args.dbd.now c.types-types.result.now c.types-types.ensures.types stream largest c.loop-count.count c.loop-count.left.now c.in-Ok-Some.record.rest.now c.loop-count.path c.load_record.new.path
          c.loop-count.volume c.load_record.new.volume _ (i.read stream is largest new) o.fit there.0 there.1 o.may o.path (λ now. rw (← o.call.sound) now) o.loaded;
    }

pub returns-clause-fault : goal.returns-clause-fault
returns-clause-fault g c = λ stream is largest new.
    let i = c.loop-count.invariant in
    let over : length c.args.records.now ≤ c.loop-count.count = c.loop-count-test.false in
    let at : c.loop-count.count ≡ length c.args.records.now = omega (arith, over, c.loop-count.auto.count-end) in
    let none = none-left c.loop-count.left.now c.loop-count.count (length c.args.records.now) i.short over in
    read-refused c.args.dbd.now stream largest c.loop-count.count c.loop-count.left.now c.loop-count.path c.loop-count.volume (length c.args.records.now + 1) U2
    (i.read stream is largest new) (omega (arith, at)) (λ rows counted. subst (λ (xs : List ℕ). record_fault c.args.dbd.now.types rows xs ≡ Some U2) (sym none) refl)
