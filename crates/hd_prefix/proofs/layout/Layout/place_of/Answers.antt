use Rattle.std.proofs.Common.{ap, sym, ◌∙◌}
use Rattle.hd_prefix.specs.Pointers.{place_of}
use Rattle.hd_prefix.proofs.Places.{inside_some, apart_some}
use Rattle.hd_prefix.proofs.layout.Layout.place_of.Goals as goal

pub returns-in-FirstChild-clause-inside : goal.returns-in-FirstChild-clause-inside
returns-in-FirstChild-clause-inside c =
    let d = c.args.self.now.dbd.now in
    inside_some d.block_size d.frspc d.types c.args.self.now.code c.args.pointer c.first_place.result c.first_place.ensures.fit
    (c.first_place.ensures.value ∙ ap (place_of d.types c.args.self.now.code) (sym c.in-FirstChild.is))

pub returns-in-FirstChild-clause-apart : goal.returns-in-FirstChild-clause-apart
returns-in-FirstChild-clause-apart c =
    let d = c.args.self.now.dbd.now in
    apart_some d.block_size d.frspc d.types c.args.self.now.code c.args.pointer c.first_place.result c.first_place.ensures.fit
    (c.first_place.ensures.value ∙ ap (place_of d.types c.args.self.now.code) (sym c.in-FirstChild.is))

pub returns-in-LastChild-clause-inside : goal.returns-in-LastChild-clause-inside
returns-in-LastChild-clause-inside c =
    let d = c.args.self.now.dbd.now in
    inside_some d.block_size d.frspc d.types c.args.self.now.code c.args.pointer c.last_place.result c.last_place.ensures.fit
    (c.last_place.ensures.value ∙ ap (place_of d.types c.args.self.now.code) (sym c.in-LastChild.is))

pub returns-in-LastChild-clause-apart : goal.returns-in-LastChild-clause-apart
returns-in-LastChild-clause-apart c =
    let d = c.args.self.now.dbd.now in
    apart_some d.block_size d.frspc d.types c.args.self.now.code c.args.pointer c.last_place.result c.last_place.ensures.fit
    (c.last_place.ensures.value ∙ ap (place_of d.types c.args.self.now.code) (sym c.in-LastChild.is))
