use Rattle.std.proofs.Common.{◌≡◌, ◌≤◌, ◌+◌, ◌∙◌, inl, inr, length, arith}
use Rattle.hd_bytes.specs.Numbers.{number_at}
use Rattle.hd_block.proofs.PartLemmas.{from-end, from-none, from-free, from-used}
use Rattle.hd_block.proofs.parts.read_part.Goals as goal
use Rattle.hd_block.proofs.parts.read_part.Goals.{then-is_free, else-is_free, then-size-lt8-via-then-size-lt8, then-size-lt8-via-else-size-lt8+then-left-size}
use Rattle.hd_block.specs.Sizes.{size_at}

pub returns-then-left-lt8 : goal.returns-then-left-lt8
returns-then-left-lt8 c = from-end c.args.sizes.now c.args.bytes.now c.args.place c.args.next (omega arith)

pub returns-then-size-lt8 : goal.returns-then-size-lt8
returns-then-size-lt8 c =
    from-none c.args.sizes.now c.args.bytes.now c.args.place c.args.next c.if-is_free.size
    (elim c.if-is_free.branch [
      | then-is_free w ↦ inl (w.if-is_free.true, w.size-is ∙ w.read_u16.ensures)
      | else-is_free w ↦ inr (w.if-is_free.false, w.size-is ∙ w.size_at-size.ensures)
    ])
    (elim c.then-size-lt8.branch [
      | then-size-lt8-via-then-size-lt8 w ↦ inl w.if-size-lt8.true
      | then-size-lt8-via-else-size-lt8+then-left-size w ↦ inr (omega (arith, w.if-left-size.true))
    ])

pub returns-then-is_free-2 : goal.returns-then-is_free-2
returns-then-is_free-2 c =
    let len : c.if-is_free.size ≡ number_at 2 c.args.bytes.now (c.args.place + 2) =
    elim c.if-is_free.branch [
      | then-is_free w ↦ w.size-is ∙ w.read_u16.ensures
      | else-is_free w ↦ absurd (w.if-is_free.false c.if-is_free-2.true)
    ]
    in
    let within : c.args.place + c.if-is_free.size ≤ length c.args.bytes.now = omega (arith, c.if-left-size.false, c.requires.0) in
    (within, rw c.read_u16-next.ensures (from-free c.args.sizes.now c.args.bytes.now c.args.place c.args.next c.if-is_free.size c.if-is_free-2.true len c.if-size-lt8.false within))

pub returns : goal.returns
returns c =
    let len : c.if-is_free.size ≡ size_at c.args.sizes.now c.args.bytes.now c.args.place =
    elim c.if-is_free.branch [
      | then-is_free w ↦ absurd (c.if-is_free-2.false w.if-is_free.true)
      | else-is_free w ↦ w.size-is ∙ w.size_at-size.ensures
    ]
    in
    let within : c.args.place + c.if-is_free.size ≤ length c.args.bytes.now = omega (arith, c.if-left-size.false, c.requires.0) in
    (within, from-used c.args.sizes.now c.args.bytes.now c.args.place c.args.next c.if-is_free.size c.if-is_free-2.false len c.if-size-lt8.false within)
