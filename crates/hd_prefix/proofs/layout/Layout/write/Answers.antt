use Rattle.std.proofs.Common.{◌≡◌, sym, ◌∙◌, Some}
use Rattle.hd_bytes.specs.Ranges.{ChangesOnly}
use Rattle.hd_prefix.specs.Pointers.{place_of}
use Rattle.hd_prefix.specs.Fields.{IsPointerSet}
use Rattle.hd_prefix.proofs.Writes.{pointer_set, match_some, on_some}
use Rattle.hd_prefix.proofs.layout.Layout.write.Goals as goal

pub returns-in-Some-clause-changes : goal.returns-in-Some-clause-changes
returns-in-Some-clause-changes c =
    let types = c.args.self.now.dbd.now.types in
    let code = c.args.self.now.code in
    let is : place_of types code c.args.pointer ≡ Some c.in-Some.place = sym c.place_of.ensures.place ∙ c.in-Some.is in
    match_some (place_of types code c.args.pointer) c.in-Some.place (c.write_u32.new.bytes ≡ c.args.segment.now) (λ x. ChangesOnly x 4 c.args.segment.now c.write_u32.new.bytes)
    is c.write_u32.ensures.changes

pub returns-in-Some-clause-set : goal.returns-in-Some-clause-set
returns-in-Some-clause-set c =
    let types = c.args.self.now.dbd.now.types in
    let code = c.args.self.now.code in
    let is : place_of types code c.args.pointer ≡ Some c.in-Some.place = sym c.place_of.ensures.place ∙ c.in-Some.is in
    on_some (place_of types code c.args.pointer) c.in-Some.place (IsPointerSet types code c.args.pointer c.args.address c.args.segment.now c.write_u32.new.bytes)
    is
    (pointer_set types code c.args.pointer c.in-Some.place c.args.address c.args.segment.now c.write_u32.new.bytes is c.in-Some.ensures.inside c.in-Some.ensures.apart
    c.write_u32.ensures.changes c.write_u32.ensures.reads_back)
