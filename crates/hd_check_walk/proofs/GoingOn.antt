-- Steps of a walk along twins that stand one behind another in a block.
use Rattle.std.proofs.Common.{◌≡◌, ◌≢◌, ℕ, List, inl, slice_set, length, refl, arith}
use Rattle.hd_dbd.specs.Types.{SegmentType}
use Rattle.hd_volume.specs.Volumes.{VolumeState}
use Rattle.hd_image.specs.Records.{links_of}
use Rattle.hd_check_blocks.specs.declared.places.Place.{Place}
use Rattle.hd_check_blocks.specs.Places.{ArePlaces}
use Rattle.hd_check_pointers.specs.Tables.{nobody}
use Rattle.hd_check_walk.specs.declared.beside.Stand.{Stand}
use Rattle.hd_check_walk.specs.declared.segments.Seen.{Seen}
use Rattle.hd_check_walk.specs.Walks.{IsUnheld}
use Rattle.hd_check_walk.specs.GoingOn.{IsPlainBehind, GoesOn}
use Rattle.hd_check_walk.proofs.Steps.{there, set-stays, held-by, step-walked}
use Rattle.hd_check_walk.proofs.Chains.{leads-on, on-next, stays-join}

module _ (types : List SegmentType) (v : VolumeState) (ps : List Place) (t : ℕ) where
  -- a walk may stay where it stands
  pub goes-none : (from : Stand) (xs : List ℕ) → GoesOn types (links_of types v) ps t from xs from xs
  goes-none from xs = record {
    kept = λ i known. refl;
    stands = λ h first parent reached standing. standing;
    steps = λ h first parent reached standing waiting in_hand walked. walked;
  }

  -- and go on from where it went on to
  pub goes-join : (from on to : Stand) (xs ys zs : List ℕ) → GoesOn types (links_of types v) ps t from xs on ys → GoesOn types (links_of types v) ps t on ys to zs
      → GoesOn types (links_of types v) ps t from xs to zs
  goes-join from on to xs ys zs one two = record {
    kept = stays-join xs ys zs one.kept two.kept;
    stands = λ h first parent reached standing. two.stands h first parent reached (one.stands h first parent reached standing);
    steps = λ h first parent reached standing waiting in_hand walked.
        two.steps h first parent reached (one.stands h first parent reached standing) waiting in_hand (one.steps h first parent reached standing waiting in_hand walked);
  }

  -- it makes no difference where the next twin is looked for
  pub goes-near : (from to : Stand) (near : ℕ) (xs ys : List ℕ) → GoesOn types (links_of types v) ps t from xs to ys
      → GoesOn types (links_of types v) ps t from xs (record { twin = to.twin; next = to.next; near = near }) ys
  goes-near from to near xs ys on = record {
    kept = on.kept;
    stands = λ h first parent reached standing. (let s = on.stands h first parent reached standing in record { some = s.some; chain = s.chain; twin = s.twin });
    steps = on.steps;
  }

  -- it goes on to the next twin, which nobody holds
  pub goes-step : (are : ArePlaces types v ps) (xs : List ℕ) (n near : ℕ) (from : Stand) (seen : Seen) → length xs ≡ length ps → from.twin.address ≢ nobody
      → IsUnheld ps xs n from.next t → IsPlainBehind types (links_of types v) t from.twin from.next seen
      → GoesOn types (links_of types v) ps t from xs (record { twin = record { address = from.next; front = seen.front }; next = seen.forward; near = near }) (slice_set xs n from.twin.address)
  goes-step are xs n near from seen many named new plain =
      let own = there types v ps are xs n from.next t new in
      let stays = set-stays xs n from.twin.address new.2 in
      record {
        kept = stays;
        stands = λ h first parent reached standing.
            (let leads = leads-on types v ps are h t first parent reached xs from.twin.address from.next from.twin.address standing.chain (λ z. absurd (standing.some z)) (λ not. refl) in
            let some : from.next ≢ 0 = (λ z. (let s = own.0.some in omega arith)) in
            record {
              some = some;
              chain = on-next types v ps are h t first parent reached xs (slice_set xs n from.twin.address) from.twin.address from.next from.twin.address seen.forward some standing.chain
                  (λ z. absurd (standing.some z)) (λ not. refl) stays (held-by types v ps are xs n from.twin.address t from.twin.address from.next many new named leads) plain.is.forward;
              twin = record { here = own.0; typed = own.1; front_is = plain.is.front };
            });
        steps = λ h first parent reached standing waiting in_hand walked.
            (let leads = leads-on types v ps are h t first parent reached xs from.twin.address from.next from.twin.address standing.chain (λ z. absurd (standing.some z)) (λ not. refl) in
            step-walked types v ps are xs n from.twin.address t from.twin.address from.next many new named leads in_hand waiting waiting plain.is.delete_byte plain.backward
            (λ not. plain.key (standing.twin, record { here = own.0; typed = own.1; front_is = plain.is.front })) (inl (refl, plain.childless)) walked);
      }
