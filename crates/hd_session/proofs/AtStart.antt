-- PCBs that are before all rows.
use Rattle.std.proofs.Common.{◌≡◌, ℕ, zero, suc, ◌-◌, List, [], ◌∷◌, length, Bool, true, false, Option, Some, None, refl, sym, ap, ◌∙◌, arith}
use Rattle.std.specs.Prelude.{◌==◌, cond, map, slice_get, slice_index_or}
use Rattle.std.proofs.lemmas.Option.{none-some}
use Rattle.std.proofs.lemmas.Map.Keys.{any_passes_from_place}
use Rattle.hd_dbd.specs.Types.{SegmentType, View}
use Rattle.hd_dbd.specs.Segment.{Segment}
use Rattle.hd_dbd.specs.Positions.{Position, at_start}
use Rattle.hd_dbd.specs.Forest.{Forest}
use Rattle.hd_links.specs.Placed.{Placed}
use Rattle.hd_calls.specs.Access.{loads}
use Rattle.hd_calls.specs.NoLostUpdate.{opened}
use Rattle.hd_position.specs.Kept.{StandsFor, kept_start}
use Rattle.hd_update.specs.States.{StandForAll}
use Rattle.hd_session.specs.Opening.{has_loader, all_at_start, LoadersArePastAll}

-- what is kept before all rows stands for the start
start_stands : (types : List SegmentType) (f : Forest Placed) → StandsFor types f kept_start at_start
start_stands types f = record {
  within = omega arith;
  path = refl;
  standing = refl;
  last = refl;
  parent = refl;
  held = refl;
  standing_level = omega arith;
  parent_level = omega arith;
  held_levels = tt;
}

-- of all PCBs
pub all_stand : (types : List SegmentType) (f : Forest Placed) (pcbs : List View) → StandForAll types f (all_at_start pcbs) (map (λ _. at_start) pcbs)
all_stand types f [] = tt
all_stand types f (pcb ∷ pcbs) = (start_stands types f, all_stand types f pcbs)

-- each of them is at the start
each_at_start : (pcbs : List View) (n : ℕ) → slice_index_or (map (λ _. at_start) pcbs) n at_start ≡ at_start
each_at_start [] n = refl
each_at_start (pcb ∷ pcbs) zero = refl
each_at_start (pcb ∷ pcbs) (suc n) = each_at_start pcbs n

-- the PCB of a number is there
is_there : (b : Bool) (o : Option View) (pcb : View) → cond b None o ≡ Some pcb → o ≡ Some pcb
is_there true o pcb is = absurd (none-some pcb is)
is_there false o pcb is = is

-- where there is no row for a PCB that loads, it has passed all
pub loaders_past_all : (pcbs : List View) (rows : List Segment) → (has_loader pcbs ≡ true → rows ≡ []) → LoadersArePastAll pcbs (opened pcbs rows)
loaders_past_all pcbs rows none number pcb is one_loads =
    let loader : has_loader pcbs ≡ true = any_passes_from_place loads pcbs (number - 1) pcb (is_there (number == 0) (slice_get pcbs (number - 1)) pcb is) one_loads in
    ap (λ (p : Position). p.passed) (each_at_start pcbs (number - 1)) ∙ ap (λ (xs : List Segment). length xs) (sym (none loader))
