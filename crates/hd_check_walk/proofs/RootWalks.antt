-- The header's children: the roots, along whose chain a walk begins.
use Rattle.std.proofs.Common.{◌≡◌, ℕ, List, refl, sym, ap, subst}
use Rattle.hd_dbd.specs.Types.{SegmentType}
use Rattle.hd_volume.specs.Headers.{header_of}
use Rattle.hd_volume.specs.Volumes.{VolumeState}
use Rattle.hd_links.specs.Links.{is_child_type}
use Rattle.hd_links.specs.Pointers.{IsParentOfFirst}
use Rattle.hd_image.specs.Records.{links_of}
use Rattle.hd_image.proofs.Roots.{header-code, header-child}
use Rattle.hd_check_blocks.specs.declared.places.Place.{Place}
use Rattle.hd_check_pointers.specs.Twins.{IsLastRight}
use Rattle.hd_check_walk.specs.Walks.{IsFollowed, IsEnd, AreChildrenWalked}

module _ (types : List SegmentType) (v : VolumeState) (first : ℕ) (is : first ≡ (header_of v.image).first_root) where
  -- the header is the parent of the first root
  pub header-parent : IsParentOfFirst types (links_of types v) 0 1 first
  header-parent = record { holder = refl; typed = ap (λ (c : ℕ). is_child_type types c 1) (header-code types v); names = sym is }

  -- its children are walked where the first root was followed, and the last is the end of the chain from it
  pub header-walked : (ps : List Place) (holders : List ℕ) (last : ℕ) → last ≡ (header_of v.image).last_root → IsFollowed ps holders 0 1 first → IsEnd (links_of types v) first last
      → AreChildrenWalked types (links_of types v) ps holders 0
  header-walked ps holders last at followed end = record {
    firsts = λ t child. subst (λ (u : ℕ). IsFollowed ps holders 0 u (header_of v.image).first_root) (sym (header-child types v t child)) (subst (IsFollowed ps holders 0 1) is followed);
    lasts = λ t child kept. right;
  }
    where
      both : IsEnd (links_of types v) (header_of v.image).first_root (header_of v.image).last_root
      both = subst (λ (p : ℕ). IsEnd (links_of types v) p (header_of v.image).last_root) is (subst (IsEnd (links_of types v) first) at end)

      right : {t : ℕ} → IsLastRight (links_of types v) 0 t
      right = record { some = both.some; none = both.none }
