-- What is kept of all PCBs, where all move and one holds nothing any more.
use Rattle.std.proofs.Common.{ℕ, zero, suc, ◌-◌, ◌<◌, ◌≤◌, List, [], ◌∷◌, length, subst, arith}
use Rattle.std.specs.Prelude.{map, slice_index_or, slice_set, IsTrue}
use Rattle.std.proofs.lemmas.List.{get_or_default}
use Rattle.hd_dbd.specs.Types.{SegmentType}
use Rattle.hd_dbd.specs.Hierarchy.{Database}
use Rattle.hd_dbd.specs.Positions.{Position, at_start}
use Rattle.hd_dbd.specs.Forest.{Forest}
use Rattle.hd_calls.specs.Gets.{unheld}
use Rattle.hd_calls.specs.Steps.{State, position_at}
use Rattle.hd_volume.specs.Volumes.{VolumeState}
use Rattle.hd_links.specs.Placed.{Placed}
use Rattle.hd_position.specs.Kept.{Kept, StandsFor, kept_start, without_hold}
use Rattle.hd_position.proofs.Rewriting.{unheld_stands}
use Rattle.hd_get.specs.Gets.{IsPositionIn}
use Rattle.hd_update.specs.Positions.{unheld_at}
use Rattle.hd_update.specs.States.{StandForAll, Represents, kept_of}

-- of one PCB
pub stands_at : (types : List SegmentType) (f : Forest Placed) (ks : List Kept) (qs : List Position) (n : ℕ) → StandForAll types f ks qs → n < length ks
    → StandsFor types f (slice_index_or ks n kept_start) (slice_index_or qs n at_start)
stands_at types f [] qs n S within = absurd (omega arith)
stands_at types f (k ∷ ks) [] n S within = absurd S
stands_at types f (k ∷ ks) (q ∷ qs) zero S within = S.0
stands_at types f (k ∷ ks) (q ∷ qs) (suc n) S within = stands_at types f ks qs n S.1 (omega arith)

module _ (types : List SegmentType) (f g : Forest Placed) (a : Kept → Kept) (b : Position → Position) (moves : (k : Kept) (q : Position) → StandsFor types f k q → StandsFor types g (a k) (b q)) where
  all_move : (ks : List Kept) (qs : List Position) → StandForAll types f ks qs → StandForAll types g (map a ks) (map b qs)
  all_move [] [] S = tt
  all_move [] (q ∷ qs) S = absurd S
  all_move (k ∷ ks) [] S = absurd S
  all_move (k ∷ ks) (q ∷ qs) S = (moves k q S.0, all_move ks qs S.1)

  -- all move, and the one at n holds nothing
  all_moved : (ks : List Kept) (qs : List Position) (n : ℕ) → StandForAll types f ks qs → n < length ks
      → StandForAll types g (slice_set (map a ks) n (without_hold (slice_index_or (map a ks) n kept_start))) (slice_set (map b qs) n (unheld (b (slice_index_or qs n at_start))))
  all_moved [] qs n S within = absurd (omega arith)
  all_moved (k ∷ ks) [] n S within = absurd S
  all_moved (k ∷ ks) (q ∷ qs) zero S within = (unheld_stands types g (a k) (b q) (moves k q S.0), all_move ks qs S.1)
  all_moved (k ∷ ks) (q ∷ qs) (suc n) S within = (moves k q S.0, all_moved ks qs n S.1 (omega arith))

  pub all_moved_unheld : (ks : List Kept) (qs : List Position) (number : ℕ) → StandForAll types f ks qs → 0 < number → number ≤ length ks
      → StandForAll types g (unheld_at number (map a ks)) (slice_set (map b qs) (number - 1) (unheld (b (slice_index_or qs (number - 1) at_start))))
  all_moved_unheld ks qs number S some within = all_moved ks qs (number - 1) S (omega arith)

-- only the hold at n ends
only_unheld : (types : List SegmentType) (f : Forest Placed) (ks : List Kept) (qs : List Position) (n : ℕ) → StandForAll types f ks qs → n < length ks
    → StandForAll types f (slice_set ks n (without_hold (slice_index_or ks n kept_start))) (slice_set (map (λ q. q) qs) n (unheld (slice_index_or qs n at_start)))
only_unheld types f [] qs n S within = absurd (omega arith)
only_unheld types f (k ∷ ks) [] n S within = absurd S
only_unheld types f (k ∷ ks) (q ∷ qs) zero S within = (unheld_stands types f k q S.0, same ks qs S.1)
  where
    same : (ks : List Kept) (qs : List Position) → StandForAll types f ks qs → StandForAll types f ks (map (λ q. q) qs)
    same [] [] S = tt
    same [] (q ∷ qs) S = absurd S
    same (k ∷ ks) [] S = absurd S
    same (k ∷ ks) (q ∷ qs) S = (S.0, same ks qs S.1)
only_unheld types f (k ∷ ks) (q ∷ qs) (suc n) S within = (S.0, only_unheld types f ks qs n S.1 (omega arith))

pub stay_unheld : (types : List SegmentType) (f : Forest Placed) (ks : List Kept) (qs : List Position) (number : ℕ) → StandForAll types f ks qs → 0 < number → number ≤ length ks
    → StandForAll types f (unheld_at number ks) (slice_set (map (λ q. q) qs) (number - 1) (unheld (slice_index_or qs (number - 1) at_start)))
stay_unheld types f ks qs number S some within = only_unheld types f ks qs (number - 1) S (omega arith)

-- ---- of a state

module _ (d : Database) (v : VolumeState) (kept : List Kept) (st : State) (number : ℕ) (R : Represents d v kept st) (some : 0 < number) (within : number ≤ length kept) where
  pub own_stands : StandsFor d.types R.placed (kept_of kept number) (position_at st number)
  own_stands = stands_at d.types R.placed kept st.positions (number - 1) R.positions (omega arith)

  pub own_position : IsTrue v.is_sound → (k : Kept) → IsPositionIn d v R.placed (slice_index_or kept (number - 1) k) (position_at st number)
  own_position sound k = record {
    sound = sound;
    later = R.later;
    holds = R.holds;
    stands = subst (λ (x : Kept). StandsFor d.types R.placed x (position_at st number)) (get_or_default kept (number - 1) kept_start k (omega arith)) own_stands;
  }
