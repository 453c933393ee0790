use Rattle.std.proofs.Common.{◌≡◌, ℕ, List, [], ◌∷◌, ◌++◌, length, IsTrue, Option, Some, None, sym, ap, subst, ◌∙◌, arith}
use Rattle.std.specs.Prelude.{IfSome, is_some, option_map}
use Rattle.std.proofs.lemmas.Slice.Eq.{bytes_eq-Decides}
use Rattle.hd_dbd.specs.Hierarchy.{Database}
use Rattle.hd_dbd.specs.Forest.{Forest}
use Rattle.hd_dbd.specs.Rows.{key_of}
use Rattle.hd_volume.specs.Volumes.{VolumeState}
use Rattle.hd_links.specs.Links.{segment_at}
use Rattle.hd_links.specs.Placed.{Placed}
use Rattle.hd_links.specs.Steps.{rows_of}
use Rattle.hd_image.specs.Records.{links_of}
use Rattle.hd_image.specs.Holding.{HoldsPlaced}
use Rattle.hd_index.specs.Maps.{address_of, address_from}
use Rattle.hd_index.specs.declared.search.RootFrom.{RootFrom}
use Rattle.hd_index.specs.Changes.{IsLater, IsIndexOf, entries_for}
use Rattle.hd_index.proofs.ChangeLemmas.{set-index}
use Rattle.hd_changes.specs.Roots.{key_at, is_root_from, address_of_first}
use Rattle.hd_changes.proofs.RootRows.{follow-lesser, index-answers, told-root}
use Rattle.hd_forest.specs.Walks.{tip}
use Rattle.hd_get.proofs.Grounds.{grounds}
use Rattle.hd_get.proofs.ByKey.{root_path}
use Rattle.hd_get.proofs.by_key.root_from.Goals as goal

-- what the index answered is the address of the first root from the key on
answered : (d : Database) (v : VolumeState) (f : Forest Placed) (key : List ℕ) (r : Option RootFrom) → HoldsPlaced d v f → IsLater v
    → (IsIndexOf d v → option_map (λ root. root.address) r ≡ address_from key (entries_for d v)) → option_map (λ root. root.address) r ≡ address_of_first f (is_root_from d.types (rows_of f) key)
answered d v f key r holds later value = value (set-index d v holds.volume.size holds.index later) ∙ (index-answers d v f key holds).1

pub returns-in_default-clause-value : goal.returns-in_default-clause-value
returns-in_default-clause-value g c f sound holds =
    let d = c.args.dbd.now in
    let v = c.args.volume.now in
    root_path d v f holds c.args.key.now None c.new-path.result
    (ap (option_map (λ (root : RootFrom). root.address)) (sym c.in_default.is) ∙ answered d v f c.args.key.now c.in_ok-root.field-0 holds (c.requires.holds sound).2 (c.in_ok-root.ensures.value sound)) c.new-path.ensures

pub returns-clause-value : goal.returns-clause-value
returns-clause-value g c f sound holds =
    let d = c.args.dbd.now in
    let v = c.args.volume.now in
    let short : length c.new-path.result ≡ 0 = ap (λ (xs : List ℕ). length xs) c.new-path.ensures in
    root_path d v f holds c.args.key.now (Some c.in-Some.root.address) c.push.new.self
    (ap (option_map (λ (root : RootFrom). root.address)) (sym c.in-Some.is) ∙ answered d v f c.args.key.now c.in_ok-root.field-0 holds (c.requires.holds sound).2 (c.in_ok-root.ensures.value sound))
    (c.push.ensures (omega arith) ∙ ap (λ (xs : List ℕ). xs ++ c.in-Some.root.address ∷ []) c.new-path.ensures)

pub returns-clause-key : goal.returns-clause-key
returns-clause-key g c equal sound =
    let d = c.args.dbd.now in
    let v = c.args.volume.now in
    let m = links_of d.types v in
    let key = c.args.key.now in
    let root : RootFrom = c.in-Some.root in
    let H = c.requires.holds sound in
    let index = set-index d v H.1.volume.size H.1.index H.2 in
    let told = subst (λ (o : Option RootFrom). IfSome o (λ root. IsTrue v.is_sound → IsIndexOf d v → root.is_equal ≡ is_some (address_of key (entries_for d v)))) c.in-Some.is c.in_ok-root.ensures.equal in
    let at = sym (c.in_ok-root.ensures.value sound index) ∙ ap (option_map (λ (root : RootFrom). root.address)) c.in-Some.is in
    let T = told-root d v H.0 key root H.1 at (told sound index) in
    let F = (follow-lesser d.types (rows_of H.0) key).0 T.row T.is_first in
    let short : length c.new-path.result ≡ 0 = ap (λ (xs : List ℕ). length xs) c.new-path.ensures in
    let path = c.push.ensures (omega arith) ∙ ap (λ (xs : List ℕ). xs ++ root.address ∷ []) c.new-path.ensures in
    ap (λ (a : ℕ). key_of d.types (segment_at m a)) (ap tip path ∙ sym T.at)
    ∙ ap (key_of d.types) ((grounds d v H.0 H.1.volume H.1.records).addressed.same T.row F.0)
    ∙ (bytes_eq-Decides (key_at d.types (rows_of H.0) T.row) key).0 (sym T.equal ∙ equal)
