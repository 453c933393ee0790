-- The first row that segment search arguments name, and the first that besides may be read.
use Rattle.std.proofs.Common.{◌≡◌, ℕ, ◌-◌, ◌<◌, List, length, Bool, true, false, Some, None, refl, sym, ap, ◌∙◌, arith}
use Rattle.std.specs.Prelude.{◌&&◌, ◌==◌, cond}
use Rattle.std.proofs.lemmas.Bool.{and_parts, ne_eqb}
use Rattle.hd_dbd.specs.Types.{SegmentType, View}
use Rattle.hd_dbd.specs.Segment.{Segment}
use Rattle.hd_dbd.specs.Searches.{first_from}
use Rattle.hd_calls.specs.Ssas.{Ssa}
use Rattle.hd_calls.specs.Satisfies.{is_named, satisfies}
use Rattle.hd_calls.specs.Places.{first_named}
use Rattle.hd_get.specs.Starts.{AreNamed}
use Rattle.hd_get.specs.Asking.{Asked, is_asked}
use Rattle.hd_get.proofs.LastTwins.{same_search}
use Rattle.hd_get.proofs.Seeking.{satisfies_named}

-- only what is named is asked for
pub asked_named : (types : List SegmentType) (rows : List Segment) (a : Asked) → AreNamed (is_asked a types rows) types rows a.ssas
asked_named types rows a j some passes = (and_parts (is_named types rows a.ssas j) _ passes).0

-- what a PCB asks for is what satisfies its call
pub first_satisfying : (types : List SegmentType) (rows : List Segment) (pcb : View) (ssas : List Ssa) → 0 < length ssas → (from to : ℕ)
    → first_from (is_asked (record { pcb = Some pcb; ssas = ssas }) types rows) from to ≡ first_from (satisfies (record { types = types; pcb = pcb }) rows ssas) from to
first_satisfying types rows pcb ssas some from to =
    same_search (is_asked (record { pcb = Some pcb; ssas = ssas }) types rows) (satisfies (record { types = types; pcb = pcb }) rows ssas)
    (λ j. sym (satisfies_named (record { types = types; pcb = pcb }) rows ssas j some)) (to - from) from

-- without a PCB, what is asked for is what is named
pub first_asked : (types : List SegmentType) (rows : List Segment) (ssas : List Ssa) → 0 < length ssas
    → first_from (is_asked (record { pcb = None; ssas = ssas }) types rows) 0 (length rows) ≡ first_named types rows ssas
first_asked types rows ssas some =
    same_search (is_asked (record { pcb = None; ssas = ssas }) types rows) (is_named types rows ssas) (λ j. and_true (is_named types rows ssas j)) (length rows - 0) 0
    ∙ sym (ap (λ (b : Bool). cond b None (first_from (is_named types rows ssas) 0 (length rows))) (ne_eqb (length ssas) 0 (λ z. omega arith)))
  where
    and_true : (b : Bool) → (b && true) ≡ b
    and_true true = refl
    and_true false = refl

-- without arguments none is named
pub none_named : (types : List SegmentType) (rows : List Segment) (ssas : List Ssa) → length ssas ≡ 0 → first_named types rows ssas ≡ None
none_named types rows ssas none = ap (λ (n : ℕ). cond (n == 0) None (first_from (is_named types rows ssas) 0 (length rows))) none
