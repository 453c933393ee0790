-- The last child of a parent, where it is known.
use Rattle.std.proofs.Common.{◌≡◌, ℕ, ◌+◌, ◌<◌, List, length, Bool, true, false, Some, None, refl, sym, ap, subst, ◌∙◌, arith, inl, inr}
use Rattle.std.specs.Prelude.{◌==◌, ◌&&◌, cond}
use Rattle.std.specs.Option.{option_map_or}
use Rattle.std.proofs.lemmas.Bool.{cases_eq, cond-false, eqb-true, false≢true, ne_eqb, or_cases}
use Rattle.hd_bytes.specs.Numbers.{number_at}
use Rattle.hd_dbd.specs.Types.{SegmentType}
use Rattle.hd_dbd.specs.Hierarchy.{Database}
use Rattle.hd_dbd.specs.Prefixes.{is_last_kept, pointers_at}
use Rattle.hd_volume.specs.Volumes.{VolumeState}
use Rattle.hd_volume.specs.Headers.{header_of}
use Rattle.hd_prefix.specs.declared.pointer.Pointer.TheVariants.{LastChild}
use Rattle.hd_prefix.specs.Pointers.{is_child}
use Rattle.hd_prefix.specs.Fields.{code_of}
use Rattle.hd_links.specs.Links.{Links, is_child_type}
use Rattle.hd_links.specs.Pointers.{IsInChain}
use Rattle.hd_image.specs.Records.{links_of, IsVolumeOf, pointer_at, stored_at}
use Rattle.hd_image.specs.Laws.{IsDatabase}
use Rattle.hd_forest.specs.Walks.{HasForest}
use Rattle.hd_forest.specs.Twins.{IsBehind}
use Rattle.hd_forest.proofs.Held.{held}
use Rattle.hd_forest.proofs.Tips.{last-kept}

-- the header's only child type is the root's, whose last one it keeps
header-keeps : (types : List SegmentType) (t : ℕ) → is_child_type types 0 t ≡ true → is_last_kept types t ≡ true
header-keeps types t child = elim (or_cases (1 == t) false child) [
  | inl e ↦ ap (λ (c : ℕ). is_last_kept types c) (sym (eqb-true 1 t e))
  | inr e ↦ cc
]

-- a segment of a parent that does not keep it names none
none-kept : (types : List SegmentType) (v : VolumeState) (h t : ℕ) → is_last_kept types t ≡ false → pointer_at types v (LastChild t) h ≡ 0
none-kept types v h t without = ap (λ (b : Bool). option_map_or (λ place. number_at 4 (stored_at v h) place) (cond b (Some (pointers_at types t + 4)) None) 0) (both_not (is_child types (code_of (stored_at v h)) t) (is_last_kept types t) without)
  where
    both_not : (a b : Bool) → b ≡ false → (a && b) ≡ false
    both_not true b e = e
    both_not false b e = refl

-- the last child that a parent names ends the chain from the first
pub last-chained : (d : Database) (v : VolumeState) → IsDatabase d → IsVolumeOf d v → HasForest d v → (h t : ℕ) → (links_of d.types v).here h ≡ true
    → is_child_type d.types ((links_of d.types v).code h) t ≡ true → 0 < (links_of d.types v).last_child h t
    → IsInChain (links_of d.types v) ((links_of d.types v).first_child h t) ((links_of d.types v).last_child h t) × ((links_of d.types v).forward ((links_of d.types v).last_child h t) ≡ 0)
last-chained d v fit of holds h t here typed some = by_kept (is_last_kept d.types t) refl
  where
    m : Links
    m = links_of d.types v

    by_chain : IsBehind m (m.first_child h t) (m.last_child h t) 0 → IsInChain m (m.first_child h t) (m.last_child h t) × (m.forward (m.last_child h t) ≡ 0)
    by_chain (inl e) = absurd (let none : m.last_child h t ≡ 0 = e.0 in omega arith)
    by_chain (inr b) = (b.1, b.2)

    by_kept : (b : Bool) → is_last_kept d.types t ≡ b → IsInChain m (m.first_child h t) (m.last_child h t) × (m.forward (m.last_child h t) ≡ 0)
    by_kept true kept =
        let H = held d v fit of holds in
        by_chain (last-kept d.types H.ordered (length v.image) m H.graph H.linked h t here typed kept)
    by_kept false without = elim (cases_eq h 0) [
      | inl e ↦
          (let H = held d v fit of holds in
          let code : m.code h ≡ 0 = ap m.code e ∙ H.graph.header_code in
          absurd (false≢true (sym without ∙ header-keeps d.types t (subst (λ c. is_child_type d.types c t ≡ true) code typed))))
      | inr ne ↦
          absurd
          (let none : m.last_child h t ≡ 0 = cond-false (h == 0) (header_of v.image).last_root (pointer_at d.types v (LastChild t) h) (ne_eqb h 0 ne) ∙ none-kept d.types v h t without in omega arith)
    ]
