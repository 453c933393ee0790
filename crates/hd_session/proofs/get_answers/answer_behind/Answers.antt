use Rattle.std.proofs.Common.{◌≡◌, true, ℕ, ◌-◌, ◌<◌, List, length, IsTrue, subst, arith}
use Rattle.std.proofs.lemmas.List.{get_or_default}
use Rattle.hd_image.specs.Records.{links_of}
use Rattle.hd_forest.specs.Onward.{onward}
use Rattle.hd_calls.specs.Steps.{position_at}
use Rattle.hd_position.specs.Kept.{Kept, kept_start}
use Rattle.hd_position.specs.Behind.{IsBehind}
use Rattle.hd_get.specs.Gets.{GetCall}
use Rattle.hd_get.specs.Behind.{begins_behind}
use Rattle.hd_update.proofs.Standing.{own_position}
use Rattle.hd_session.specs.LastGiven.{Given, IsJustBelow}
use Rattle.hd_session.proofs.OwnSteps.{if_ok_read, get_stepped}
use Rattle.hd_session.proofs.get_answers.answer_behind.Goals as goal

pub get_behind_at-requires-clause-there : goal.get_behind_at-requires-clause-there
get_behind_at-requires-clause-there g c sound =
    let T = c.requires.state sound in (
      T.1.placed,
      position_at T.0 c.args.number,
      own_position c.args.dbd.now c.args.volume.now c.args.positions.now T.0 c.args.number T.1 c.requires.number.0 c.requires.number.1 sound c.index-positions-number.result,
    )

pub get_behind_at-requires-clause-begins : goal.get_behind_at-requires-clause-begins
get_behind_at-requires-clause-begins g c =
    let old : List Kept = c.args.positions.now in
    let call : GetCall = c.args.call.now in
    let n : ℕ = c.args.number in
    let number = c.requires.number in
    let within : n - 1 < length old = omega (arith, number.0, number.1) in
    subst (λ (k : Kept). begins_behind c.args.dbd.now.types call.kind k c.args.code ≡ true) (get_or_default old (n - 1) kept_start c.index-positions-number.result within) c.requires.begins

pub get_behind_at-requires-clause-behind : goal.get_behind_at-requires-clause-behind
get_behind_at-requires-clause-behind g c =
    let d = c.args.dbd.now in
    let u = c.args.volume.now in
    let old : List Kept = c.args.positions.now in
    let n : ℕ = c.args.number in
    let number = c.requires.number in
    let within : n - 1 < length old = omega (arith, number.0, number.1) in
    subst (λ (k : Kept). IsTrue u.is_sound → IsBehind d.types (links_of d.types u) k c.args.address c.args.code) (get_or_default old (n - 1) kept_start c.index-positions-number.result within) c.requires.behind

pub get_behind_at-requires-clause-below : goal.get_behind_at-requires-clause-below
get_behind_at-requires-clause-below g c =
    let d = c.args.dbd.now in
    let old : List Kept = c.args.positions.now in
    let above : Given = c.args.last_given.now in
    let n : ℕ = c.args.number in
    let number = c.requires.number in
    let within : n - 1 < length old = omega (arith, number.0, number.1) in
    subst (λ (k : Kept). IsJustBelow (onward d.types k.path c.args.address c.args.code) above) (get_or_default old (n - 1) kept_start c.index-positions-number.result within) c.requires.below

pub returns-clause-done : goal.returns-clause-done
returns-clause-done g c = if_ok_read c.get_behind_at.result c.get_behind_at.ensures.read c.get_behind_at.ensures.value (λ a read value st sound R.
    let d = c.args.dbd.now in
    let u = c.args.volume.now in
    let old : List Kept = c.args.positions.now in
    let at = own_position d u old st c.args.number R c.requires.number.0 c.requires.number.1 sound c.index-positions-number.result in
    let V = value R.placed (position_at st c.args.number) at in
    get_stepped d u c.get_behind_at.new.volume old c.get_behind_at.new.position st c.args.number c.args.call.now _ read sound R c.requires.number.0 c.requires.number.1 V.0 V.1)
