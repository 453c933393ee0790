-- The parent takes the type's place, with one level less above it, until the other type is its parent.
use Rattle.std.proofs.Common.{◌≡◌, ℕ, suc, ◌-◌, ◌<◌, List, Bool, false, Option, Some, None, arith, ap, sym, ◌∙◌, refl}
use Rattle.std.specs.Prelude.{◌==◌, ◌||◌, is_some}
use Rattle.std.specs.Option.{option_map_or}
use Rattle.std.proofs.lemmas.Bool.{and_from, or_right, ne_eqb}
use Rattle.hd_dbd.specs.Types.{SegmentType}
use Rattle.hd_dbd.specs.Hierarchy.{parent_of, is_under, is_under_within}
use Rattle.hd_dbd.proofs.LevelLaw.{Leveled, leveled}
use Rattle.hd_dbd.proofs.Names.{option_eq-Decides}
use Rattle.hd_calls.specs.SearchWays.{way_down}
use Rattle.hd_calls.proofs.SearchWays.{parent_under, way_through, down_some, down_of}
use Rattle.hd_get.proofs.ways.way_down.Goals as goal

-- a type that the other does not depend on has no way down to it
no_way : (types : List SegmentType) → Leveled types → (target code : ℕ) → is_under types target code ≡ false → None ≡ way_down types target code
no_way types levels target code other = none (way_down types target code) (down_some types levels target code ∙ other)
  where
    none : (o : Option ℕ) → is_some o ≡ false → None ≡ o
    none None e = refl
    none (Some c) e = cc

-- what stands above a type is its parent, or stands above that
parent_first : (types : List SegmentType) (n c above : ℕ) → 0 < n
    → is_under_within types n c above ≡ option_map_or (λ q. q == above || is_under_within types (n - 1) q above) (parent_of types c) false
parent_first types n c above some = (let more : n ≡ suc (n - 1) = omega arith in ap (λ (k : ℕ). is_under_within types k c above) more)

pub returns-in_default : goal.returns-in_default
returns-in_default c =
    let d = c.args.dbd.now in
    no_way d.types (leveled d.block_size d.frspc d.types c.level-levels.ensures.fit) c.args.target c.args.code
    (sym c.loop-levels.invariant.1 ∙ parent_first d.types c.loop-levels.levels c.loop-levels.below c.args.code c.loop-levels-test.true
    ∙ ap (λ (o : Option ℕ). option_map_or (λ q. q == c.args.code || is_under_within d.types (c.loop-levels.levels - 1) q c.args.code) o false) (sym c.parent_of.ensures ∙ c.in_default.is))

pub returns-then-parent-code : goal.returns-then-parent-code
returns-then-parent-code c =
    let d = c.args.dbd.now in
    sym (down_of d.types (leveled d.block_size d.frspc d.types c.level-levels.ensures.fit) c.args.target c.args.code c.loop-levels.below
    (and_from _ _ ((option_eq-Decides (parent_of d.types c.loop-levels.below) (Some c.args.code)).1
    (sym c.parent_of.ensures ∙ c.in-Some.is ∙ ap (λ (x : ℕ). Some x) c.if-parent-code.true)) c.loop-levels.invariant.0))

pub loop-levels-preserved : goal.loop-levels-preserved
loop-levels-preserved c =
    let d = c.args.dbd.now in
    let levels = leveled d.block_size d.frspc d.types c.level-levels.ensures.fit in
    let is : parent_of d.types c.loop-levels.below ≡ Some c.in-Some.parent = sym c.parent_of.ensures ∙ c.in-Some.is in (
      or_right (c.args.target == c.in-Some.parent) _
          (way_through d.types levels c.args.target c.loop-levels.below c.in-Some.parent c.loop-levels.invariant.0 (parent_under d.types levels c.loop-levels.below c.in-Some.parent is)),
      sym (parent_first d.types c.loop-levels.levels c.loop-levels.below c.args.code c.loop-levels-test.true
          ∙ ap (λ (o : Option ℕ). option_map_or (λ q. q == c.args.code || is_under_within d.types (c.loop-levels.levels - 1) q c.args.code) o false) is
          ∙ ap (λ (b : Bool). b || is_under_within d.types (c.loop-levels.levels - 1) c.in-Some.parent c.args.code) (ne_eqb c.in-Some.parent c.args.code c.if-parent-code.false))
          ∙ c.loop-levels.invariant.1,
    )

pub returns : goal.returns
returns c =
    let d = c.args.dbd.now in
    let zero_ : c.loop-levels.levels ≡ 0 = omega (arith, c.loop-levels-test.false) in
    no_way d.types (leveled d.block_size d.frspc d.types c.level-levels.ensures.fit) c.args.target c.args.code
    (sym c.loop-levels.invariant.1 ∙ ap (λ (k : ℕ). is_under_within d.types k c.loop-levels.below c.args.code) zero_)
