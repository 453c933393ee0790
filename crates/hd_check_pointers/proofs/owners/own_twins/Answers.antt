use Rattle.std.proofs.Common.{◌≡◌, ◌≢◌, ◌<◌, inl, inr, ℕ, List, length, slice_index, slice_set, refl, sym, ap, subst, ◌∙◌, arith}
use Rattle.std.proofs.lemmas.List.{length-set, get_or_read}
use Rattle.hd_image.specs.Records.{links_of}
use Rattle.hd_check_blocks.specs.declared.places.Place.{Place}
use Rattle.hd_check_pointers.specs.Tables.{place_at, nobody}
use Rattle.hd_check_pointers.proofs.Owning.{set-same, set-kept, fewer, right-set, closed-open, open-closed, open-next, open-end, own-next}
use Rattle.hd_check_pointers.proofs.owners.own_twins.Goals as goal

pub loop-owners-init : goal.loop-owners-init
loop-owners-init c = record {
  inside = c.requires.inside.0;
  as_many = c.requires.inside.1;
  kept = λ i known. known;
  first = inl refl;
  own = λ d v M F o. o;
  right = λ d v M F o right. right;
  ahead = λ d v M F closed. closed-open (links_of d.types v) c.args.places.now c.args.owners.now.items c.args.first closed;
}

pub loop-owners-smaller : goal.loop-owners-smaller
loop-owners-smaller c =
    let i = c.loop-owners.invariant in
    let inside = i.inside in
    let many = i.as_many in
    fewer c.loop-owners.owners.items c.loop-owners.number c.args.owner (omega arith) (sym (get_or_read c.loop-owners.owners.items c.loop-owners.number c.index.result.now (omega arith) c.index.ensures 0) ∙ c.loop-owners-test.true) c.requires.some

pub loop-owners-preserved : goal.loop-owners-preserved
loop-owners-preserved c =
    let xs : List ℕ = c.loop-owners.owners.items in
    let ps : List Place = c.args.places.now in
    let n : ℕ = c.loop-owners.number in
    let w : ℕ = c.args.owner in
    let i = c.loop-owners.invariant in
    let inside = i.inside in
    let many = i.as_many in
    let within : n < length xs = omega arith in
    let found = c.in-Some.ensures.some in
    let next : slice_index c.args.forwards.now n ≡ (place_at ps c.in-Some.twin).address = sym c.number_in.ensures ∙ sym found.1 in
    record {
      inside = found.0;
      as_many = length-set xs n w ∙ i.as_many;
      kept = λ k known. set-kept xs n w k within c.requires.some (i.kept k known);
      first = elim i.first [
        | inl same ↦ inr (subst (λ (x : ℕ). slice_index (slice_set xs n w) x ≢ nobody) (sym same) (λ z. c.requires.some (sym (set-same xs n w within) ∙ z)))
        | inr known ↦ inr (set-kept xs n w c.args.first within c.requires.some known)
      ];
      own = λ d v M F o. own-next d v ps M w n c.in-Some.twin inside found.0 (sym (F.names n inside) ∙ next) (i.own d v M F o);
      right = λ d v M F o right. right-set d.types (links_of d.types v) ps xs n w within (i.own d v M F o) (i.right d v M F o right);
      ahead = λ d v M F closed. open-next d v ps M xs n w c.in-Some.twin within c.requires.some found.0 (sym (F.names n inside) ∙ next) (i.ahead d v M F closed);
    }

pub returns-in-None-clause-first : goal.returns-in-None-clause-first
returns-in-None-clause-first c =
    let xs : List ℕ = c.loop-owners.owners.items in
    let n : ℕ = c.loop-owners.number in
    let i = c.loop-owners.invariant in
    let inside = i.inside in
    let many = i.as_many in
    let within : n < length xs = omega arith in
    elim i.first [
      | inl same ↦ subst (λ (x : ℕ). slice_index (slice_set xs n c.args.owner) x ≢ nobody) (sym same) (λ z. c.requires.some (sym (set-same xs n c.args.owner within) ∙ z))
      | inr known ↦ set-kept xs n c.args.owner c.args.first within c.requires.some known
    ]

pub returns-in-None-clause-kept : goal.returns-in-None-clause-kept
returns-in-None-clause-kept c =
    let i = c.loop-owners.invariant in
    let inside = i.inside in
    let many = i.as_many in
    let within : c.loop-owners.number < length c.loop-owners.owners.items = omega arith in
    λ k known. set-kept c.loop-owners.owners.items c.loop-owners.number c.args.owner k within c.requires.some (i.kept k known)

pub returns-in-None-clause-right : goal.returns-in-None-clause-right
returns-in-None-clause-right c = λ d v M F o right.
    let i = c.loop-owners.invariant in
    let inside = i.inside in
    let many = i.as_many in
    let within : c.loop-owners.number < length c.loop-owners.owners.items = omega arith in
    right-set d.types (links_of d.types v) c.args.places.now c.loop-owners.owners.items c.loop-owners.number c.args.owner within (i.own d v M F o) (i.right d v M F o right)

pub returns-in-None-clause-closed : goal.returns-in-None-clause-closed
returns-in-None-clause-closed c = λ d v M F closed.
    let i = c.loop-owners.invariant in
    let inside = i.inside in
    let many = i.as_many in
    let within : c.loop-owners.number < length c.loop-owners.owners.items = omega arith in
    open-end d v c.args.places.now M c.loop-owners.owners.items c.loop-owners.number c.args.owner c.number_in.result within c.requires.some (sym (F.names c.loop-owners.number inside) ∙ sym c.number_in.ensures)
    (c.in-None.ensures.none M.stand.ascend) (i.ahead d v M F closed)

pub returns-clause-first : goal.returns-clause-first
returns-clause-first c =
    let i = c.loop-owners.invariant in
    let inside = i.inside in
    let many = i.as_many in
    elim i.first [
      | inl same ↦ λ z. c.loop-owners-test.false (get_or_read c.loop-owners.owners.items c.loop-owners.number c.index.result.now (omega arith) c.index.ensures 0 ∙ ap (slice_index c.loop-owners.owners.items) (sym same) ∙ z)
      | inr known ↦ known
    ]

pub returns-clause-closed : goal.returns-clause-closed
returns-clause-closed c = λ d v M F closed.
    let i = c.loop-owners.invariant in
    let inside = i.inside in
    let many = i.as_many in
    open-closed (links_of d.types v) c.args.places.now c.loop-owners.owners.items c.loop-owners.number (λ z. c.loop-owners-test.false (get_or_read c.loop-owners.owners.items c.loop-owners.number c.index.result.now (omega arith) c.index.ensures 0 ∙ z)) (i.ahead d v M F closed)
