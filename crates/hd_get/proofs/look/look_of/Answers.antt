use Rattle.std.proofs.Common.{Bool, ap₂}
use Rattle.hd_get.proofs.Looks.{seen_past}
use Rattle.hd_get.proofs.look.look_of.Goals as goal

pub returns-else-not-qualifies : goal.returns-else-not-qualifies
returns-else-not-qualifies c =
    let q = c.qualifies_all-qualifies.result in
    ap₂ (λ (own past : Bool). record { code = c.args.code; qualifies = own; is_past = past }) c.qualifies_all-qualifies.ensures
    (seen_past c.args.dbd.now.types (record { code = c.args.code; bytes = c.args.bytes.now }) c.args.ssas.now q c.qualifies_all-qualifies.ensures c.if-not-qualifies.false)
