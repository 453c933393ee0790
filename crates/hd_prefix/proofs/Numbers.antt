-- The pointers of a segment as the numbers at their places.
use Rattle.std.proofs.Common.{◌≡◌, ℕ, ◌+◌, List, Bool, true, false, ap, ◌&&◌, refl, cond, Option, Some, None}
use Rattle.std.specs.Prelude.{option_map}
use Rattle.std.specs.Option.{option_map_or}
use Rattle.hd_bytes.specs.Numbers.{number_at}
use Rattle.hd_dbd.specs.Types.{SegmentType}
use Rattle.hd_dbd.specs.Prefixes.{pointers_at}
use Rattle.hd_prefix.specs.Pointers.{is_child}
use Rattle.hd_dbd.specs.Prefixes.{is_backward_kept, is_last_kept}
use Rattle.hd_prefix.specs.Laws.{HasPointers}

-- a number where a test holds
where_kept : (b : Bool) (x : ℕ) (segment : List ℕ) → option_map_or (λ place. number_at 4 segment place) (cond b (Some x) None) 0 ≡ cond b (number_at 4 segment x) 0
where_kept true x segment = refl
where_kept false x segment = refl

pub has_pointers : (types : List SegmentType) (c : ℕ) (segment : List ℕ) → HasPointers types c segment
has_pointers types c segment = record {
  forward = λ own is. ap (λ (o : Option SegmentType). option_map_or (λ place. number_at 4 segment place) (option_map (λ _. 2) o) 0) is;
  backward = where_kept (is_backward_kept types c) 6 segment;
  first_child = λ t. where_kept (is_child types c t) (pointers_at types t) segment;
  last_child = λ t. where_kept (is_child types c t && is_last_kept types t) (pointers_at types t + 4) segment;
}
