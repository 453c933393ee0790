-- Where no segments vary, no type has a least length.
use Rattle.std.proofs.Common.{◌≡◌, ℕ, zero, suc, ◌-◌, List, [], ◌∷◌, Bool, true, false, Option, Some, None, refl, subst}
use Rattle.std.specs.Prelude.{is_some, slice_get, ◌==◌, cond}
use Rattle.std.proofs.lemmas.Bool.{or_parts}
use Rattle.hd_dbd.specs.Types.{SegmentType}
use Rattle.hd_dbd.specs.Hierarchy.{type_of}
use Rattle.hd_dbd.specs.Lengths.{some_vary}

none-of : (o : Option ℕ) → is_some o ≡ false → o ≡ None
none-of None h = refl
none-of (Some n) h = cc

got-fixed : (types : List SegmentType) (i : ℕ) (t : SegmentType) → some_vary types ≡ false → slice_get types i ≡ Some t → t.least ≡ None
got-fixed [] i t none is = cc
got-fixed (u ∷ us) zero t none is =
    (let same : u ≡ t = cc in subst (λ (x : SegmentType). x.least ≡ None) same (none-of u.least (or_parts (is_some u.least) (some_vary us) none).0))
got-fixed (u ∷ us) (suc i) t none is = got-fixed us i t (or_parts (is_some u.least) (some_vary us) none).1 is

pub fixed-type : (types : List SegmentType) (c : ℕ) (t : SegmentType) → some_vary types ≡ false → type_of types c ≡ Some t → t.least ≡ None
fixed-type types c t none is = by (c == 0) is
  where
    by : (b : Bool) → cond b None (slice_get types (c - 1)) ≡ Some t → t.least ≡ None
    by true is = cc
    by false is = got-fixed types (c - 1) t none is
