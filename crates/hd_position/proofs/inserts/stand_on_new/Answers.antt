use Rattle.std.proofs.Common.{ℕ, ◌+◌, [], List, length, Some, Option, false, refl, sym, subst, ◌∙◌}
use Rattle.hd_dbd.specs.Paths.{row_at, level_at}
use Rattle.hd_dbd.specs.Positions.{Position}
use Rattle.hd_links.specs.Steps.{rows_of}
use Rattle.hd_image.specs.Records.{links_of}
use Rattle.hd_position.specs.Gets.{AreTaken}
use Rattle.hd_position.specs.Kept.{StandsFor}
use Rattle.hd_position.proofs.NewPlaces.{parent_stays_new, parent_is_new, same_on}
use Rattle.hd_position.proofs.VolumeMoves.{held}
use Rattle.hd_volume.proofs.JoinLemmas.{if-ok-map}
use Rattle.hd_position.proofs.inserts.stand_on_new.Goals as goal

pub stand-requires-clause-parent : goal.stand-requires-clause-parent
stand-requires-clause-parent g c sound is = same_on c.args.position.now c.args.path (sym c.is_below_parent.ensures ∙ c.if-is_below_parent.true)

pub returns-then-is_below_parent-clause-value : goal.returns-then-is_below_parent-clause-value
returns-then-is_below_parent-clause-value g c = if-ok-map c.stand.result (λ _ value sound f q i at on.
    let d = c.args.dbd.now in
    let v = c.args.volume.now in
    let D = held d v f (c.requires.of sound) at.holds in
    let none : AreTaken d.types f c.args.path c.new.result i false [] = subst (λ (ls : List ℕ). AreTaken d.types f c.args.path ls i false []) (sym c.new.ensures) (record { rows = refl; ascend = tt }) in
    let stood = value sound f q i false [] at on none in
    subst (λ (o : Option ℕ). StandsFor d.types f c.stand.new.position (let p : Position = record { passed = i + 1; standing = Some i; last = Some (record { level = level_at d.types (rows_of f) i; code = (row_at (rows_of f) i).code }); parent = o; held = [] } in p))
    (parent_stays_new d.block_size d.frspc d.types (length v.image) (links_of d.types v) f D c.args.position.now q at.stands c.args.path i on (sym c.is_below_parent.ensures ∙ c.if-is_below_parent.true))
    stood) c.stand.ensures.value

pub returns-clause-value : goal.returns-clause-value
returns-clause-value g c = if-ok-map c.stand-2.result (λ _ value sound f q i at on.
    let d = c.args.dbd.now in
    let v = c.args.volume.now in
    let D = held d v f (c.requires.of sound) at.holds in
    let none : AreTaken d.types f c.args.path c.new-2.result i false [] = subst (λ (ls : List ℕ). AreTaken d.types f c.args.path ls i false []) (sym c.new-2.ensures) (record { rows = refl; ascend = tt }) in
    let stood = value sound f q i false [] at on none in
    subst (λ (o : Option ℕ). StandsFor d.types f c.stand-2.new.position (let p : Position = record { passed = i + 1; standing = Some i; last = Some (record { level = level_at d.types (rows_of f) i; code = (row_at (rows_of f) i).code }); parent = o; held = [] } in p))
    (parent_is_new d.block_size d.frspc d.types (length v.image) (links_of d.types v) f D c.args.position.now q at.stands c.args.path i on (sym c.is_below_parent.ensures ∙ c.if-is_below_parent.false))
    stood) c.stand-2.ensures.value
