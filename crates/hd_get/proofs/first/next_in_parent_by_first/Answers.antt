use Rattle.std.proofs.Common.{◌≡◌, ℕ, ◌<◌, ◌≤◌, List, [], length, Option, Some, None, sym, ap, subst, ◌∙◌, arith}
use Rattle.std.specs.Prelude.{IfSome}
use Rattle.hd_dbd.specs.Paths.{level_at}
use Rattle.hd_volume.proofs.JoinLemmas.{if-ok-map}
use Rattle.hd_links.specs.Steps.{rows_of, path_at}
use Rattle.hd_image.specs.Records.{links_of}
use Rattle.hd_forest.proofs.Reading.{links-kept, volume-kept}
use Rattle.hd_position.specs.Kept.{Kept, row_on}
use Rattle.hd_position.specs.Gets.{IsSomewhere}
use Rattle.hd_calls.specs.declared.call.GetKind.TheVariants.{NextInParent}
use Rattle.hd_calls.specs.Ssas.{Ssa}
use Rattle.hd_calls.specs.Gets.{search_end, behind_parent}
use Rattle.hd_get.specs.Searches.{LeadsWithin}
use Rattle.hd_get.specs.Starts.{LeadsToStart}
use Rattle.hd_get.specs.First.{lowered_to}
use Rattle.hd_get.proofs.Starts.{parent_there}
use Rattle.hd_get.proofs.KeptPaths.{kept_told, kept_row, read_there, read_none}
use Rattle.hd_get.proofs.LoweredStarts.{path_lowered, none_lowered, below_stays, lowered_level, leads_below_lowered, starts_behind}
use Rattle.hd_get.proofs.first.next_in_parent_by_first.Goals as goal

-- what is said of a start, said otherwise
start_map : (P Q : ℕ × List ℕ → Type 0) → ((s : ℕ × List ℕ) → P s → Q s) → (o : Option (ℕ × List ℕ)) → IfSome o P → IfSome o Q
start_map P Q more None p = tt
start_map P Q more (Some s) p = more s p

pub returns-in_default-clause-value : goal.returns-in_default-clause-value
returns-in_default-clause-value g c f q at =
    let k : Kept = c.args.position.now in
    let e : row_on k.path c.parent.result ≡ None = read_none k c.path.result.now c.parent.result c.row_on.result c.path.ensures c.row_on.ensures c.in_default.is in
    record { parent = parent_there c.args.dbd.now.types f k q at.at.stands None (subst (λ l. row_on k.path l ≡ None) c.parent.ensures e); leads = tt }

pub next_in_parent-requires-clause-of : goal.next_in_parent-requires-clause-of
next_in_parent-requires-clause-of g c = volume-kept c.args.dbd.now c.args.volume.now c.lowered_to.new.volume c.in_ok-first.ensures.read c.requires.of

pub next_in_parent-requires-clause-there : goal.next_in_parent-requires-clause-there
next_in_parent-requires-clause-there g c =
    links-kept c.args.dbd.now (λ m. IsSomewhere c.args.dbd.now.types m c.args.position.now) c.args.volume.now c.lowered_to.new.volume c.in_ok-first.ensures.read c.requires.there

pub returns-in_default-2-clause-value : goal.returns-in_default-2-clause-value
returns-in_default-2-clause-value g c = if-ok-map c.next_in_parent.result (λ start below f q at.
    let d = c.args.dbd.now in
    let v = c.args.volume.now in
    let w = c.lowered_to.new.volume in
    let ssas : List Ssa = c.args.ssas.now in
    let B = below f q (kept_told d v w c.in_ok-first.ensures.read f c.args.position.now q at) in
    let none = none_lowered d.types f (lowered_to d.types (rows_of f) q ssas) (sym (c.in_ok-first.ensures.value f q at) ∙ c.in_default-2.is) in
    record {
      parent = B.parent;
      leads = start_map (λ s. LeadsToStart NextInParent d w [] f q s.0 s.1) (λ s. LeadsToStart NextInParent d v ssas f q s.0 s.1)
          (λ s L. subst (LeadsWithin d.types (links_of d.types v) f s.0 (search_end d.types (rows_of f) q NextInParent) s.1)
          (sym (below_stays d v f c.args.position.now q (c.requires.of at.sound) at.at ssas c.requires.descend none))
          (record { holds = at.at.holds; ends = L.ends; is = L.is })) start B.leads;
    }) c.next_in_parent.ensures.value

pub returns-then-level-parent-clause-value : goal.returns-then-level-parent-clause-value
returns-then-level-parent-clause-value g c f q at =
    let d = c.args.dbd.now in
    let v = c.args.volume.now in
    let k : Kept = c.args.position.now in
    let of = c.requires.of at.sound in
    let ssas : List Ssa = c.args.ssas.now in
    let L = path_lowered d.types f (lowered_to d.types (rows_of f) q ssas) c.in-Some-2.first (sym (c.in_ok-first.ensures.value f q at) ∙ c.in-Some-2.is) in
    let read : row_on k.path c.parent.result ≡ Some c.in-Some.parent
    = read_there k c.path.result.now c.parent.result c.in-Some.parent c.row_on.result c.path.ensures c.row_on.ensures c.in-Some.is in
    let e = subst (λ l. row_on k.path l ≡ Some c.in-Some.parent) c.parent.ensures read in
    let K = kept_row d v f k q of at.at k.parent c.in-Some.parent e in
    let deep : c.parent-2.result < c.level.result = c.if-level-parent.true in
    let high : c.parent-2.result ≡ k.parent = c.parent-2.ensures in
    let size : c.level.result ≡ length c.in-Some-2.first = c.level.ensures.value in
    let same : length (path_at d.types f L.0) ≡ length c.in-Some-2.first = ap (λ (xs : List ℕ). length xs) L.2 in
    let level : length (path_at d.types f L.0) ≡ level_at d.types (rows_of f) L.0 = lowered_level d v f k q of at.at ssas c.requires.descend L.0 L.1 in
    record {
      parent = parent_there d.types f k q at.at.stands (Some c.in-Some.parent) e;
      leads = subst (λ (xs : List ℕ). LeadsToStart NextInParent d v ssas f q c.in-Some.parent xs) L.2
          (leads_below_lowered d v f k q of at.at ssas c.requires.descend L.0 L.1 K.0 (at.at.stands.parent ∙ K.1.on) c.in-Some.parent K.1.is (omega arith));
    }

pub behind_parent-requires-clause-of : goal.behind_parent-requires-clause-of
behind_parent-requires-clause-of g c = volume-kept c.args.dbd.now c.args.volume.now c.lowered_to.new.volume c.in_ok-first.ensures.read c.requires.of

pub behind_parent-requires-clause-there : goal.behind_parent-requires-clause-there
behind_parent-requires-clause-there g c =
    links-kept c.args.dbd.now (λ m. IsSomewhere c.args.dbd.now.types m c.args.position.now) c.args.volume.now c.lowered_to.new.volume c.in_ok-first.ensures.read c.requires.there

pub returns-clause-value : goal.returns-clause-value
returns-clause-value g c = if-ok-map c.behind_parent.result (λ start behind f q at.
    let d = c.args.dbd.now in
    let v = c.args.volume.now in
    let w = c.lowered_to.new.volume in
    let k : Kept = c.args.position.now in
    let of = c.requires.of at.sound in
    let ssas : List Ssa = c.args.ssas.now in
    let B = behind f q (kept_told d v w c.in_ok-first.ensures.read f k q at) in
    let L = path_lowered d.types f (lowered_to d.types (rows_of f) q ssas) c.in-Some-2.first (sym (c.in_ok-first.ensures.value f q at) ∙ c.in-Some-2.is) in
    let read : row_on k.path c.parent.result ≡ Some c.in-Some.parent
    = read_there k c.path.result.now c.parent.result c.in-Some.parent c.row_on.result c.path.ensures c.row_on.ensures c.in-Some.is in
    let K = kept_row d v f k q of at.at k.parent c.in-Some.parent (subst (λ l. row_on k.path l ≡ Some c.in-Some.parent) c.parent.ensures read) in
    let low : c.level.result ≤ c.parent-2.result = omega (arith, c.if-level-parent.false) in
    let high : c.parent-2.result ≡ k.parent = c.parent-2.ensures in
    let size : c.level.result ≡ length c.in-Some-2.first = c.level.ensures.value in
    let same : length (path_at d.types f L.0) ≡ length c.in-Some-2.first = ap (λ (xs : List ℕ). length xs) L.2 in
    let level : length (path_at d.types f L.0) ≡ level_at d.types (rows_of f) L.0 = lowered_level d v f k q of at.at ssas c.requires.descend L.0 L.1 in
    let start_is = starts_behind d v f k q of at.at ssas c.requires.descend L.0 L.1 K.0 (at.at.stands.parent ∙ K.1.on) (omega arith) in
    record {
      parent = B.parent;
      leads = start_map (λ s. LeadsWithin d.types (links_of d.types w) f s.0 (search_end d.types (rows_of f) q NextInParent) s.1 (behind_parent q)) (λ s. LeadsToStart NextInParent d v ssas f q s.0 s.1)
          (λ s M. subst (LeadsWithin d.types (links_of d.types v) f s.0 (search_end d.types (rows_of f) q NextInParent) s.1) (sym start_is)
          (record { holds = at.at.holds; ends = M.ends; is = M.is })) start B.leads;
    }) c.behind_parent.ensures.value
