use Rattle.std.proofs.Common.{◌≡◌, ℕ, sym, ◌∙◌, Bool, ap}
use Rattle.std.specs.Option.{is_some}
use Rattle.hd_bytes.specs.Blocks.{HasBlock}
use Rattle.hd_volume.specs.Volumes.{IsKind}
use Rattle.hd_index.specs.Greatest.{found_key}
use Rattle.hd_index.proofs.Lasts.{told-kind, last-known}
use Rattle.hd_index.proofs.greatest.copy_greatest_at_end.Goals as goal

pub returns-clause-value : goal.returns-clause-value
returns-clause-value g c sound x some =
    let v = c.args.volume.now in
    let n : ℕ = c.args.n in
    let there : HasBlock v.size v.image n = c.has_block.ensures.there sound c.if-not-has_block.false in
    let told : c.kind.result ≡ 2 = c.if-kind-ne-INDEX.false in
    let kind : IsKind v 2 n = told-kind v n x.formatted.header c.has_block.ensures.least c.if-n-eq0.false there (λ later small has. sym told ∙ c.kind.ensures sound later small has) in
    (last-known c.args.key_length v c.args.key.now n (found_key c.copy_greatest_in_last.result c.copy_greatest_in_last.new.found) c.in_ok-bytes.bytes.now x kind (c.in_ok-bytes.ensures.value sound) (ap (λ (b : Bool). is_some (found_key b c.copy_greatest_in_last.new.found)) some) (c.copy_greatest_in_last.ensures.level some)
    (c.copy_greatest_in_last.ensures.next some) (c.copy_greatest_in_last.ensures.key some)).0

pub returns-clause-leaf : goal.returns-clause-leaf
returns-clause-leaf g c sound x some =
    let v = c.args.volume.now in
    let n : ℕ = c.args.n in
    let there : HasBlock v.size v.image n = c.has_block.ensures.there sound c.if-not-has_block.false in
    let told : c.kind.result ≡ 2 = c.if-kind-ne-INDEX.false in
    let kind : IsKind v 2 n = told-kind v n x.formatted.header c.has_block.ensures.least c.if-n-eq0.false there (λ later small has. sym told ∙ c.kind.ensures sound later small has) in
    (last-known c.args.key_length v c.args.key.now n (found_key c.copy_greatest_in_last.result c.copy_greatest_in_last.new.found) c.in_ok-bytes.bytes.now x kind (c.in_ok-bytes.ensures.value sound) (ap (λ (b : Bool). is_some (found_key b c.copy_greatest_in_last.new.found)) some) (c.copy_greatest_in_last.ensures.level some)
    (c.copy_greatest_in_last.ensures.next some) (c.copy_greatest_in_last.ensures.key some)).1
