-- The first children that a segment of the records names.
use Rattle.std.proofs.Common.{◌≡◌, ◌≢◌, ℕ, ◌<◌, ◌≤◌, Some, List, [], ◌∷◌, length, cond, Option, refl, sym, ap, ap₂, ◌∙◌, arith, ne_eqb}
use Rattle.std.specs.Prelude.{◌==◌}
use Rattle.std.proofs.lemmas.Bool.{cond-false}
use Rattle.hd_dbd.specs.Types.{SegmentType}
use Rattle.hd_dbd.specs.Hierarchy.{Database}
use Rattle.hd_dbd.specs.Prefixes.{children_of, prefix_length}
use Rattle.hd_volume.specs.Headers.{header_of}
use Rattle.hd_volume.specs.Volumes.{VolumeState}
use Rattle.hd_volume.specs.Records.{find}
use Rattle.hd_prefix.specs.declared.pointer.Pointer.TheVariants.{FirstChild}
use Rattle.hd_prefix.specs.Fields.{code_of, pointer_of}
use Rattle.hd_links.specs.Links.{Links, IsSegment, child_types}
use Rattle.hd_links.specs.Steps.{first_some, child_among}
use Rattle.hd_links.proofs.Types.{ordered}
use Rattle.hd_links.proofs.Counts.{segment_code}
use Rattle.hd_image.specs.Records.{links_of, stored_at, pointer_at, IsVolumeOf}
use Rattle.hd_image.specs.Laws.{IsDatabase}
use Rattle.hd_image.proofs.Found.{records-link}
use Rattle.hd_forest.specs.Children.{child_in, comes_before, last_named, last_named_in}
use Rattle.hd_forest.proofs.Reading.{lent}

-- those of the records are those that the stored segment names
pub child-stored : (types : List SegmentType) (v : VolumeState) (a : ℕ) (s ts : List ℕ) → a ≢ 0 → stored_at v a ≡ s → child_among (links_of types v) a ts ≡ child_in types s ts
child-stored types v a s [] ne is = refl
child-stored types v a s (t ∷ ts) ne is =
    ap₂ first_some
    (cond-false (a == 0) (header_of v.image).first_root (pointer_at types v (FirstChild t) a) (ne_eqb a 0 ne) ∙ ap (λ x. pointer_of types (code_of x) (FirstChild t) x) is)
    (child-stored types v a s ts ne is)

-- where no first child is named there is none among any types
pub none-in : (types : List SegmentType) (s ts : List ℕ) → ((t : ℕ) → pointer_of types (code_of s) (FirstChild t) s ≡ 0) → child_in types s ts ≡ 0
none-in types s [] none = refl
none-in types s (t ∷ ts) none = ap (λ (x : ℕ). first_some x (child_in types s ts)) (none t) ∙ none-in types s ts none

-- and so is the last type of which there is one
pub named-stored : (types : List SegmentType) (v : VolumeState) (a : ℕ) (s : List ℕ) (end : Option ℕ) (last : ℕ) (ts : List ℕ) → a ≢ 0 → stored_at v a ≡ s → last_named (links_of types v) a end last ts ≡ last_named_in types s end last ts
named-stored types v a s end last [] ne is = refl
named-stored types v a s end last (t ∷ ts) ne is =
    let own : (links_of types v).first_child a t ≡ pointer_of types (code_of s) (FirstChild t) s
    = cond-false (a == 0) (header_of v.image).first_root (pointer_at types v (FirstChild t) a) (ne_eqb a 0 ne) ∙ ap (λ x. pointer_of types (code_of x) (FirstChild t) x) is in
    ap (λ (x : ℕ). cond (comes_before end t) (last_named (links_of types v) a end (cond (x == 0) last t) ts) last) own
    ∙ ap (λ (x : ℕ). cond (comes_before end t) x last) (named-stored types v a s end (cond (pointer_of types (code_of s) (FirstChild t) s == 0) last t) ts ne is)

-- a segment's child types are those of its code
pub types-stored : (d : Database) (v : VolumeState) (a : ℕ) (s : List ℕ) → IsDatabase d → IsVolumeOf d v → IsSegment (links_of d.types v) a → stored_at v a ≡ s
    → child_types d.types ((links_of d.types v).code a) ≡ children_of d.types (code_of s)
types-stored d v a s fit of there is =
    let m : Links = links_of d.types v in
    let some : 0 < m.code a = segment_code d.types (ordered d.block_size d.frspc d.types fit) (length v.image) m (records-link d v fit of) a there in
    cond-false (m.code a == 0) (1 ∷ []) (children_of d.types (m.code a)) (ne_eqb (m.code a) 0 (λ (e : m.code a ≡ 0). omega arith)) ∙ ap (λ x. children_of d.types (code_of x)) is

-- so the first row below a segment that is found is the first child that its bytes name
pub below-found : (d : Database) (v : VolumeState) (a : ℕ) (s : List ℕ) → IsVolumeOf d v → IsSegment (links_of d.types v) a → find v a ≡ Some s
    → (child code : ℕ) (kinds : List ℕ) → (prefix_length d.types (code_of s) ≤ length s → child ≡ child_in d.types s kinds) → kinds ≡ children_of d.types code → code ≡ code_of s
    → child ≡ child_among (links_of d.types v) a (child_types d.types ((links_of d.types v).code a))
below-found d v a s of there found child code kinds is all own =
    let l = lent d v a s of.fit of there found in
    let ne : a ≢ 0 = λ e. (let some : 0 < a = there.some in omega arith) in
    is l.prefix
    ∙ ap (child_in d.types s) (all ∙ ap (children_of d.types) own ∙ sym (types-stored d v a s of.fit of there l.stored))
    ∙ sym (child-stored d.types v a s _ ne l.stored)
