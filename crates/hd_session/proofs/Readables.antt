-- The type that a PCB was found to read.
use Rattle.std.proofs.Common.{◌≡◌, ℕ, List, Option, None, Some, sym, subst, ◌∙◌}
use Rattle.std.specs.Prelude.{IfSome}
use Rattle.hd_dbd.specs.Types.{SegmentType, View}
use Rattle.hd_calls.specs.Runs.{view_of}
use Rattle.hd_session.specs.declared.next_twin.Readable.{Readable}
use Rattle.hd_session.specs.Onward.{AreReadable, IsReadableOf}

-- what was found of the PCB of a number holds of it
pub found_of : (types : List SegmentType) (pcbs : List View) (noted : Readable) (n : ℕ) (pcb : View) (o : Option ℕ) → IsReadableOf types pcbs noted → view_of pcbs n ≡ Some pcb
    → IfSome o (λ code. (noted.pcb ≡ n) × (noted.code ≡ Some code)) → AreReadable types pcb o
found_of types pcbs noted n pcb None known view is = tt
found_of types pcbs noted n pcb (Some code) known view is =
    subst (AreReadable types pcb) is.1 (known pcb (subst (λ (k : ℕ). view_of pcbs k ≡ Some pcb) (sym is.0) view))

-- a PCB that is told twice is the same
pub same_view : (x y : View) → Some x ≡ Some y → x ≡ y
same_view x y e = cc

-- and what is found of it anew is noted
pub found_anew : (types : List SegmentType) (pcbs : List View) (n : ℕ) (pcb : View) (o : Option ℕ) → view_of pcbs n ≡ Some pcb → AreReadable types pcb o
    → IsReadableOf types pcbs (record { pcb = n; code = o })
found_anew types pcbs n pcb o view known other is = subst (λ (v : View). AreReadable types v o) (same_view pcb other (sym view ∙ is)) known
