-- On what segments depend.
use Rattle.std.proofs.Common.{◌≡◌, ◌≢◌, ◌/◌, inl, inr, None, refl, sym, ap, ◌∙◌, arith, ne_eqb}
use Rattle.std.proofs.lemmas.Bool.{cases_eq, eq-eqb}
use Rattle.hd_bytes.specs.Blocks.{block_of}
use Rattle.hd_volume.specs.Volumes.{block_at, kind_of}
use Rattle.hd_volume.specs.Records.{find}
use Rattle.hd_volume.specs.Laws.{SegmentsFrame}
use Rattle.hd_volume.proofs.FrameLemmas.{AreSame, block-seen, find-frame}

pub segments-frame : SegmentsFrame
segments-frame v w size sizes stay back a =
    let s : AreSame v w = record { size = size; sizes = sizes } in
    elim (cases_eq (a / v.size) 0) [
      | inl z ↦ (let e : find w a ≡ find v a = rw (size, sizes, eq-eqb (a / v.size) 0 z) refl in e)
      | inr some ↦ elim (cases_eq (kind_of (block_at v (a / v.size))) 1) [
        | inl is ↦ find-frame s a (sym (block-seen s (a / v.size)) ∙ stay (a / v.size) (omega arith) is)
        | inr isnt ↦
            (let none : kind_of (block_of v.size w.image (a / v.size)) ≢ 1 = λ e. isnt (back (a / v.size) (omega arith) (ap kind_of (block-seen s (a / v.size)) ∙ e)) in
            let before : find v a ≡ None = rw (ne_eqb (a / v.size) 0 some, ne_eqb (kind_of (block_at v (a / v.size))) 1 isnt) refl in
            let after : find w a ≡ None = rw (size, sizes, ne_eqb (a / v.size) 0 some, ne_eqb (kind_of (block_of v.size w.image (a / v.size))) 1 none) refl in
            after ∙ sym before)
      ]
    ]
