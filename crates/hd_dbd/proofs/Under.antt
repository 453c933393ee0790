-- The types above a type, one by one.
use Rattle.std.proofs.Common.{◌≡◌, ◌≢◌, ℕ, suc, ◌-◌, ◌<◌, List, Bool, false, Option, Some, arith, ap, ◌∙◌}
use Rattle.std.specs.Prelude.{◌==◌, ◌||◌}
use Rattle.std.specs.Option.{option_map_or}
use Rattle.std.proofs.lemmas.Bool.{ne_eqb}
use Rattle.hd_dbd.specs.Types.{SegmentType}
use Rattle.hd_dbd.specs.Hierarchy.{parent_of, is_under_within}

-- a type whose parent is not the one sought stands below it just where its parent does
pub under-parent : (types : List SegmentType) (n c p above : ℕ) → 0 < n → parent_of types c ≡ Some p → p ≢ above
    → is_under_within types n c above ≡ is_under_within types (n - 1) p above
under-parent types n c p above some is other =
    let more : n ≡ suc (n - 1) = omega arith in
    ap (λ (k : ℕ). is_under_within types k c above) more
    ∙ ap (λ (o : Option ℕ). option_map_or (λ q. q == above || is_under_within types (n - 1) q above) o false) is
    ∙ ap (λ (b : Bool). b || is_under_within types (n - 1) p above) (ne_eqb p above other)
