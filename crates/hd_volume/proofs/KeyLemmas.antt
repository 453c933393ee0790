-- The order of the index's keys.
use Rattle.std.proofs.Common.{◌≡◌, ℕ, List, true, false, Ordering, Less, Equal, Greater, refl, ap, ◌∙◌}
use Rattle.std.specs.Ordering.{is_lt, ordering_reverse}
use Rattle.std.proofs.lemmas.Cmp.{nat_list_cmp_total}
use Rattle.hd_volume.specs.Indexes.{key_less}

less-is : (o : Ordering) → is_lt o ≡ true → o ≡ Less
less-is Less h = refl
less-is Equal h = cc
less-is Greater h = cc

-- a key below one that is below a third is below that
pub less-trans : (x y z : List ℕ) → key_less x y ≡ true → key_less y z ≡ true → key_less x z ≡ true
less-trans x y z h k = ap is_lt (nat_list_cmp_total.trans x y z (less-is _ h) (less-is _ k))

-- of two keys one alone is the lesser
pub less-not : (x y : List ℕ) → key_less x y ≡ true → key_less y x ≡ false
less-not x y h = ap is_lt (nat_list_cmp_total.antisymm y x) ∙ ap (λ (o : Ordering). is_lt (ordering_reverse o)) (less-is _ h)
