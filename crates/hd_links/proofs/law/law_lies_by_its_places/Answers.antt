use Rattle.std.proofs.Common.{ap, ◌∙◌}
use Rattle.hd_links.specs.Links.{is_child_type}
use Rattle.hd_links.specs.Placed.{nowhere}
use Rattle.hd_links.proofs.Touch.{frame}
use Rattle.hd_links.proofs.law.law_lies_by_its_places.Goals as goal

pub returns : goal.returns
returns c types bound m m2 f graph header same lies = record {
  roots = record {
    first = λ t q. header.first_child t graph.header (ap (λ x. is_child_type types x t) graph.header_code ∙ q) ∙ lies.roots.first t q;
    last = λ t q kept. header.last_child t graph.header (ap (λ x. is_child_type types x t) graph.header_code ∙ q) kept ∙ lies.roots.last t q kept;
  };
  nodes = frame types m m2 nowhere f lies.nodes same;
}
