use Rattle.std.proofs.Common.{◌<◌, ◌+◌, ℕ, List, length, sym, ap, subst, ◌∙◌, arith}
use Rattle.std.proofs.lemmas.List.{length-replicate}
use Rattle.hd_image.specs.Records.{links_of}
use Rattle.hd_check_blocks.specs.declared.places.Place.{Place}
use Rattle.hd_check_pointers.specs.Tables.{naming_at, nobody}
use Rattle.hd_check_pointers.proofs.Owning.{AreOwnersTo, owners-none, owners-walked, owners-twin, owners-nobody, are-owners}
use Rattle.hd_check_pointers.proofs.owners.owners_of.Goals as goal
use Rattle.hd_check_pointers.proofs.owners.owners_of.Goals.{then-holder+then-not-stands_at, else-holder, else-holder-via-then-holder+else-not-stands_at, else-holder-via-else-holder}

pub loop-first-init : goal.loop-first-init
loop-first-init c = record {
  as_many = ap length c.in_ok-owners.ensures.none ∙ length-replicate (length c.args.places.now) nobody;
  owned = λ d v M P F. owners-none d.types (links_of d.types v) c.args.places.now c.in_ok-owners.owners.items c.in_ok-owners.ensures.none;
}

pub own_twins-requires-clause-inside : goal.own_twins-requires-clause-inside
own_twins-requires-clause-inside c =
    let test = c.loop-first-test.true in
    let least = c.min-first-end.ensures in (omega arith, c.loop-first.invariant.as_many)

pub loop-first-preserved : goal.loop-first-preserved
loop-first-preserved c =
    let ps : List Place = c.args.places.now in
    let n : ℕ = c.loop-first.first in
    let i = c.loop-first.invariant in
    let test = c.loop-first-test.true in
    let least = c.min-first-end.ensures in
    let within : n < length ps = omega arith in
    let w : ℕ = (naming_at c.args.namings.now n).holder in
    elim c.if-holder.branch [
      | then-holder+then-not-stands_at u ↦ record {
        as_many = ap (λ o. length o.items) u.owners-is ∙ u.own_twins.ensures.as_many;
        owned = λ d v M P F. subst (λ (ys : List ℕ). AreOwnersTo d.types (links_of d.types v) ps ys (n + 1)) (sym (ap (λ o. o.items) u.owners-is))
            (owners-walked d v ps M c.loop-first.owners.items u.own_twins.new.owners.items n w within (P.holder n within) (u.stands_at.ensures.wrong M.stand.ascend u.if-not-stands_at.true)
            u.own_twins.ensures.kept u.own_twins.ensures.first (u.own_twins.ensures.right d v M F) (u.own_twins.ensures.closed d v M F) (i.owned d v M P F));
      }
      | else-holder u ↦ record {
        as_many = ap (λ o. length o.items) u.owners-is ∙ i.as_many;
        owned = λ d v M P F. subst (λ (ys : List ℕ). AreOwnersTo d.types (links_of d.types v) ps ys (n + 1)) (sym (ap (λ o. o.items) u.owners-is)) (elim u.else-holder.branch [
          | else-holder-via-then-holder+else-not-stands_at x ↦ owners-twin d v ps M c.loop-first.owners.items n w within (P.holder n within) (x.stands_at.ensures.right x.if-not-stands_at.false) (i.owned d v M P F)
          | else-holder-via-else-holder x ↦ owners-nobody d v ps M c.loop-first.owners.items n w x.if-holder.false (P.holder n within) (i.owned d v M P F)
        ]);
      }
    ]

pub returns-clause-owners : goal.returns-clause-owners
returns-clause-owners c = λ d v M P F.
    let ps : List Place = c.args.places.now in
    let o = c.loop-first.invariant.owned d v M P F in
    let test = c.loop-first-test.false in
    let least = c.min-first-end.ensures in
    let many = P.as_many in
    are-owners d v ps M c.loop-first.owners.items c.loop-first.invariant.as_many o.right o.closed (λ i h t within p. o.firsts i h t (omega arith) within p)
