-- Keys of one length, compared byte by byte.
use Rattle.std.proofs.Common.{◌≡◌, ℕ, ◌+◌, ◌<◌, ◌≤◌, ◌==◌, cond, nat_lt, Bool, true, false, List, ◌∷◌, length, drop, Ordering, Less, Equal, Greater, refl, sym, ap, ap₂, ◌∙◌, ne_eqb, arith}
use Rattle.std.specs.Prelude.{slice_index}
use Rattle.std.specs.Ordering.{is_lt, nat_cmp, ordering_then}
use Rattle.std.specs.Cmp.{nat_cmp_is}
use Rattle.std.specs.Cmp.Lexicographic.{slice_cmp}
use Rattle.std.proofs.lemmas.List.{drop_more, drop_all}
use Rattle.hd_volume.specs.Indexes.{key_less}

-- behind bytes that are the same the rest decides
less-same : (a b : ℕ) (xs ys : List ℕ) → a ≡ b → key_less (a ∷ xs) (b ∷ ys) ≡ key_less xs ys
less-same a b xs ys same = ap (λ (o : Ordering). is_lt (ordering_then o (slice_cmp nat_cmp xs ys))) (sym (nat_cmp_is a b Equal same))

-- bytes that differ decide
less-other : (a b : ℕ) (xs ys : List ℕ) → (a ≡ b → ⊥) → key_less (a ∷ xs) (b ∷ ys) ≡ nat_lt a b
less-other a b xs ys other = decided (nat_lt a b) (a == b) (slice_cmp nat_cmp xs ys) (ne_eqb a b other)
  where
    decided : (l e : Bool) (o : Ordering) → e ≡ false → is_lt (ordering_then (cond l Less (cond e Equal Greater)) o) ≡ l
    decided true e o h = refl
    decided false false o h = refl
    decided false true o h = cc

-- from an index on, keys are their bytes there and those behind
from-index : (one other : List ℕ) (i : ℕ) → i < length one → length one ≡ length other
    → key_less (drop i one) (drop i other) ≡ key_less (slice_index one i ∷ drop (i + 1) one) (slice_index other i ∷ drop (i + 1) other)
from-index one other i less long = ap₂ key_less (drop_more one i 0 less) (drop_more other i 0 (omega arith))

pub less-behind : (one other : List ℕ) (i : ℕ) → i < length one → length one ≡ length other → slice_index one i ≡ slice_index other i
    → key_less (drop i one) (drop i other) ≡ key_less (drop (i + 1) one) (drop (i + 1) other)
less-behind one other i less long same = from-index one other i less long ∙ less-same (slice_index one i) (slice_index other i) (drop (i + 1) one) (drop (i + 1) other) same

pub less-here : (one other : List ℕ) (i : ℕ) → i < length one → length one ≡ length other → (slice_index one i ≡ slice_index other i → ⊥)
    → key_less (drop i one) (drop i other) ≡ nat_lt (slice_index one i) (slice_index other i)
less-here one other i less long differ = from-index one other i less long ∙ less-other (slice_index one i) (slice_index other i) (drop (i + 1) one) (drop (i + 1) other) differ

-- keys without a byte that differs are the same
pub less-none : (one other : List ℕ) (i : ℕ) → length one ≤ i → length one ≡ length other → key_less (drop i one) (drop i other) ≡ false
less-none one other i end long = ap₂ key_less (drop_all i one end) (drop_all i other (omega arith))
