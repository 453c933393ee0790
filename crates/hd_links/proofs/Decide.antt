-- Where the records are linked they hold a forest.
use Rattle.std.proofs.Common.{ℕ, List, subst, None}
use Rattle.hd_dbd.specs.Types.{SegmentType}
use Rattle.hd_dbd.specs.Forest.{Forest}
use Rattle.hd_links.specs.Links.{Links, IsLinkGraph}
use Rattle.hd_links.specs.Placed.{Placed, nowhere, NamesChildren, Lies, Holds}
use Rattle.hd_links.specs.Pointers.{AreLinked}
use Rattle.hd_links.proofs.Types.{Ordered}
use Rattle.hd_links.proofs.Forms.{first_behind_none, Formed, fits}
use Rattle.hd_links.proofs.Build.{built, built_roots, built_stand, built_formed}
use Rattle.hd_links.proofs.Counts.{once}

pub exists : (types : List SegmentType) (O : Ordered types) (bound : ℕ) (m : Links) → IsLinkGraph types bound m → AreLinked types m → (f : Forest Placed) × Holds types m f
exists types O bound m G L =
    let f : Forest Placed = built types m L O bound G in
    let lies : Lies types m f = record {
      roots = subst (λ x. NamesChildren types m x 0 f) G.header_code (built_roots types m L O bound G);
      nodes = built_stand types m L O bound G;
    } in
    let formed : Formed types 0 f = subst (λ x. Formed types x f) G.header_code (built_formed types m L O bound G) in (
      f,
      record {
        lies = lies;
        fits = fits types O bound m G 0 nowhere None f lies.nodes formed (first_behind_none types f);
        once = λ a s. once types O bound m G L.typed L.single f lies formed (L.reached a s).0 a s (L.reached a s).1;
      },
    )
