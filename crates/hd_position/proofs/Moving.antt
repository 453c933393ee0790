-- What is kept stands for the same position, where a row moves to another address.
use Rattle.std.proofs.Common.{◌≡◌, ℕ, ◌≤◌, List, length, ap, sym, ◌∙◌, subst}
use Rattle.std.specs.Prelude.{map}
use Rattle.std.proofs.lemmas.List.{length-map}
use Rattle.hd_dbd.specs.Segment.{Segment}
use Rattle.hd_dbd.specs.Forest.{Forest}
use Rattle.hd_links.specs.Placed.{Placed}
use Rattle.hd_links.specs.Moves.{moved_to, with_address}
use Rattle.hd_links.specs.Steps.{rows_of, address_at}
use Rattle.hd_links.proofs.Moving.{rows_same, addresses_to}
use Rattle.hd_position.specs.Kept.{Ascend, path_passed, row_on}
use Rattle.hd_position.specs.Laws.{MovingKeepsPositions}

pub moving_keeps : MovingKeepsPositions
moving_keeps types f a b k q some F =
    let f2 : Forest Placed = with_address a b f in
    let rows : rows_of f ≡ rows_of f2 = sym (rows_same a b f) in
    let path : path_passed types (rows_of f) q.passed ≡ path_passed types (rows_of f2) q.passed = ap (λ (rs : List Segment). path_passed types rs q.passed) rows in
    let long : length k.path ≡ length (map (moved_to a b) k.path) = sym (length-map k.path (moved_to a b)) in
    record {
      within = subst (λ (rs : List Segment). q.passed ≤ length rs) rows F.within;
      path = ap (map (moved_to a b)) F.path ∙ sym (addresses_to a b some f (path_passed types (rows_of f) q.passed)) ∙ ap (map (λ j. address_at f2 j)) path;
      standing = F.standing ∙ ap (λ (p : List ℕ). row_on p k.standing) path;
      last = F.last;
      parent = F.parent ∙ ap (λ (p : List ℕ). row_on p k.parent) path;
      held = F.held ∙ ap (λ (p : List ℕ). map (λ l. row_on p l) k.held) path;
      standing_level = subst (λ n. k.standing ≤ n) long F.standing_level;
      parent_level = subst (λ n. k.parent ≤ n) long F.parent_level;
      held_levels = subst (λ n. Ascend 0 n k.held) long F.held_levels;
    }
