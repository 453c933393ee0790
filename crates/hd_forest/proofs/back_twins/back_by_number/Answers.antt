use Rattle.std.proofs.Common.{◌≡◌, ◌+◌, ◌≤◌, ◌-◌, ℕ, length, false, IfSome, ap, subst, sym, ◌∙◌, arith}
use Rattle.std.specs.Ordering.{nat_cmp, is_lt}
use Rattle.std.specs.Cmp.Lexicographic.{slice_cmp}
use Rattle.hd_bytes.specs.Ranges.{bytes_at}
use Rattle.hd_bytes.specs.Numbers.{number_at}
use Rattle.hd_forest.specs.BlockTwins.{HasTwin, HasRoom, is_below_in}
use Rattle.hd_forest.specs.BackTwins.{backward_in}
use Rattle.hd_forest.proofs.BackTwins.{back-more}
use Rattle.hd_forest.proofs.back_twins.back_by_number.Goals as goal

pub loop-count-preserved : goal.loop-count-preserved
loop-count-preserved c =
    let places = c.args.places in
    let block = c.args.block.now in
    let start = c.args.start in
    let key = c.args.key.now in
    let twin = c.loop-count.twin in
    let at = c.in-Some-place_up_to.at in
    let R : HasRoom places (length block) c.in-Some.last = subst (λ o. IfSome o (λ last. HasRoom places (length block) last)) c.in-Some.is c.last_place.ensures in
    let P : (start ≤ twin) × (at ≡ twin - start) × (at ≤ c.in-Some.last)
    = subst (λ o. IfSome o (λ place. (start ≤ twin) × (place ≡ twin - start) × (place ≤ c.in-Some.last))) c.in-Some-place_up_to.is c.place_up_to.ensures in
    let there : HasTwin places block start twin = (let low = P.0 in let is = P.1 in let high = P.2 in let whole = R.whole in record { behind = low; within = omega arith }) in
    let not_below : is_below_in places block start key twin ≡ false
    = subst (λ (p : ℕ). is_lt (slice_cmp nat_cmp (bytes_at block (p + places.key) places.length) key) ≡ false) P.1 (sym c.is_number_below.ensures ∙ c.if-is_number_below.false) in
    let backward : c.read_u32-twin.result ≡ backward_in c.args.backward block start twin = c.read_u32-twin.ensures ∙ ap (λ (p : ℕ). number_at 4 block (p + c.args.backward)) P.1 in
    let H = back-more places c.args.backward block start key c.loop-count.count c.args.address twin c.read_u32-twin.result
    (record { passed = c.loop-count.invariant.passed; twin = c.loop-count.invariant.twin }) there not_below backward in
    record { passed = H.passed; twin = H.twin }
