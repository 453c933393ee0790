use Rattle.std.proofs.Common.{◌≡◌, ◌<◌, ◌+◌, ◌-◌, ◌++◌, [], ℕ, List, Option, length, true, sym, ap, subst, ◌∙◌, arith}
use Rattle.hd_check_blocks.specs.declared.fault.Fault.{Fault}
use Rattle.hd_check_blocks.specs.declared.places.Place.{Place}
use Rattle.hd_check_blocks.specs.Listing.{faults_of}
use Rattle.hd_check_blocks.proofs.Listing.{AreStandingAmong, IsSeen, seen-more, seen-all}
use Rattle.hd_check_pointers.specs.Tables.{place_at}
use Rattle.hd_check_pointers.specs.Listed.{TellsReached, unreached}
use Rattle.hd_check_pointers.proofs.RecordLists.{none-seen}
use Rattle.hd_check_pointers.proofs.TwinLists.{reached-standing, seventh-segment}
use Rattle.hd_check_pointers.proofs.reached.reached_faults.Goals as goal

pub loop-number-init : goal.loop-number-init
loop-number-init c = record {
  last = λ d v M O some. absurd (omega arith);
  listed = λ d v M O. subst (AreStandingAmong d v 7 (λ k a. IsSeen c.args.places.now 0 a)) (sym c.new-faults.ensures.items) (none-seen d v 7 c.args.places.now (seventh-segment d v));
}

pub loop-number-preserved : goal.loop-number-preserved
loop-number-preserved c =
    let ps : List Place = c.args.places.now in
    let n : ℕ = c.loop-number.number in
    let within : n < length ps = c.loop-number-test.true in
    record {
      last = λ d v M O some.
          (let same : n + 1 - 1 ≡ n = omega arith in
          subst (λ (x : ℕ). TellsReached d v ps x c.is_reached_behind-is_found.result) (sym same) (c.is_reached_behind-is_found.ensures d v M O (c.loop-number.invariant.last d v M O)));
      listed = λ d v M O.
          (let found : Option Fault = unreached (place_at ps n).address c.is_reached_behind-is_found.result in
          let more : c.list_fault.new.faults.items ≡ c.loop-number.faults.items ++ faults_of found =
          c.in_ok-list_fault.ensures.faults ∙ ap (λ (o : Option Fault). c.loop-number.faults.items ++ faults_of o) c.unreached.ensures in
          subst (AreStandingAmong d v 7 (λ k a. IsSeen ps (n + 1) a)) (sym more)
          (seen-more d v 7 ps M.stand n c.loop-number.faults.items (faults_of found) within (c.loop-number.invariant.listed d v M O)
          (reached-standing d v ps M n c.is_reached_behind-is_found.result within (c.is_reached_behind-is_found.ensures d v M O (c.loop-number.invariant.last d v M O)))));
    }

pub returns-clause-faults : goal.returns-clause-faults
returns-clause-faults c = λ d v M O.
    seen-all d v 7 c.args.places.now M.stand c.loop-number.number c.loop-number.faults.items (let end = c.loop-number-test.false in omega arith) (λ k a o of s. (seventh-segment d v k a o of s).here)
    (c.loop-number.invariant.listed d v M O)
