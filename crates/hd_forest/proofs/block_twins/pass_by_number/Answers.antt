use Rattle.std.proofs.Common.{◌≡◌, ◌+◌, ◌≤◌, ◌-◌, ℕ, length, true, IfSome, ap, subst, sym, ◌∙◌, arith}
use Rattle.std.specs.Ordering.{nat_cmp, is_lt}
use Rattle.std.specs.Cmp.Lexicographic.{slice_cmp}
use Rattle.hd_bytes.specs.Ranges.{bytes_at}
use Rattle.hd_bytes.specs.Numbers.{number_at}
use Rattle.hd_forest.specs.BlockTwins.{HasTwin, HasRoom, forward_in, is_below_in}
use Rattle.hd_forest.proofs.Passing.{come-more}
use Rattle.hd_forest.proofs.block_twins.pass_by_number.Goals as goal

pub loop-count-preserved : goal.loop-count-preserved
loop-count-preserved c =
    let places = c.args.places in
    let block = c.args.block.now in
    let start = c.args.start in
    let key = c.args.key.now in
    let twin = c.loop-count.twin in
    let at = c.in-Some-place_up_to.at in
    let R : HasRoom places (length block) c.in-Some.last = subst (λ o. IfSome o (λ last. HasRoom places (length block) last)) c.in-Some.is c.last_place.ensures in
    let P : (start ≤ twin) × (at ≡ twin - start) × (at ≤ c.in-Some.last)
    = subst (λ o. IfSome o (λ place. (start ≤ twin) × (place ≡ twin - start) × (place ≤ c.in-Some.last))) c.in-Some-place_up_to.is c.place_up_to.ensures in
    let there : HasTwin places block start twin = (let low = P.0 in let is = P.1 in let high = P.2 in let whole = R.whole in record { behind = low; within = omega arith }) in
    let below : is_below_in places block start key twin ≡ true
    = subst (λ (p : ℕ). is_lt (slice_cmp nat_cmp (bytes_at block (p + places.key) places.length) key) ≡ true) P.1 (sym c.is_number_below.ensures ∙ c.if-not-is_number_below.false) in
    let forward : c.read_u32-twin.result ≡ forward_in places block start twin = c.read_u32-twin.ensures ∙ ap (λ (p : ℕ). number_at 4 block (p + places.forward)) P.1 in
    let H = come-more places block start key c.loop-count.count c.args.behind c.args.address c.loop-count.before twin c.read_u32-twin.result
    (record { below = c.loop-count.invariant.below; twin = c.loop-count.invariant.twin; before = c.loop-count.invariant.before }) there below forward in
    record { below = H.below; twin = H.twin; before = H.before }
