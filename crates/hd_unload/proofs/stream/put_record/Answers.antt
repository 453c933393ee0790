use Rattle.std.proofs.Common.{◌<◌, ℕ, List, length, ap, sym, subst, ◌∙◌, arith}
use Rattle.hd_bytes.proofs.BlockLemmas.{length-bytes_at}
use Rattle.hd_prefix.specs.Fields.{length_of}
use Rattle.hd_prefix.specs.Layouts.{types_of, type_code}
use Rattle.hd_unload.proofs.Writing.{own-short}
use Rattle.hd_unload.proofs.stream.put_record.Goals as goal

pub put_row-requires : goal.put_row-requires
put_row-requires g c =
    let d = c.args.dbd.now in
    let s : List ℕ = c.args.segment.now in
    let layout = c.of.result in
    let code : ℕ = type_code layout in
    let whole = c.in-Some.ensures.whole in
    let own = own-short d code s c.types.ensures.fit (λ i. let f = c.type_inv.segment i in omega arith) in
    subst (λ (n : ℕ). n < 65536)
    (sym (ap (λ (xs : List ℕ). length xs) whole.1 ∙ length-bytes_at s _ (length_of (types_of layout) code s) whole.0 ∙ ap (λ ts. length_of ts code s) c.of.ensures.types)) own
