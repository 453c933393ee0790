-- What a get comes to in a state.
use Rattle.std.proofs.Common.{◌≡◌, ℕ, zero, suc, ◌-◌, ◌<◌, ◌≤◌, List, [], ◌∷◌, length, map, Ok, Err, IsTrue, refl, sym, ap, ◌∙◌, subst, arith}
use Rattle.std.specs.Prelude.{slice_set, Result, IfOk}
use Rattle.hd_dbd.specs.declared.answer.Refused.{Refused}
use Rattle.hd_dbd.specs.Types.{SegmentType}
use Rattle.hd_dbd.specs.Hierarchy.{Database}
use Rattle.hd_dbd.specs.Segment.{Segment}
use Rattle.hd_dbd.specs.Positions.{Position}
use Rattle.hd_dbd.specs.Calls.{Reply}
use Rattle.hd_dbd.specs.Forest.{Forest}
use Rattle.hd_calls.specs.Moves.{unchanged}
use Rattle.hd_calls.specs.Steps.{Effect, State, answered, position_at}
use Rattle.hd_calls.specs.Runs.{Follows}
use Rattle.hd_volume.specs.Volumes.{VolumeState}
use Rattle.hd_volume.specs.Calls.{IsRead}
use Rattle.hd_links.specs.Placed.{Placed}
use Rattle.hd_links.specs.Steps.{rows_of}
use Rattle.hd_image.specs.Holding.{HoldsPlaced}
use Rattle.hd_forest.proofs.Reading.{after-read}
use Rattle.hd_changes.specs.VolumeImages.{images_of}
use Rattle.hd_changes.proofs.VolumeImages.{follow}
use Rattle.hd_position.specs.Kept.{Kept, StandsFor}
use Rattle.hd_get.specs.Gets.{GetCall, answer_to}
use Rattle.hd_update.specs.States.{StandForAll, Represents}
use Rattle.hd_update.proofs.Reading.{held_read, later_read}
use Rattle.hd_session.specs.Sessions.{IsStep, get_in}

-- ---- positions

stand_same : (types : List SegmentType) (f : Forest Placed) (ks : List Kept) (qs : List Position) → StandForAll types f ks qs → StandForAll types f ks (map (λ x. x) qs)
stand_same types f [] [] S = tt
stand_same types f [] (q ∷ qs) S = absurd S
stand_same types f (k ∷ ks) [] S = absurd S
stand_same types f (k ∷ ks) (q ∷ qs) S = (S.0, stand_same types f ks qs S.1)

-- one PCB is elsewhere
pub own_set : (types : List SegmentType) (f : Forest Placed) (ks : List Kept) (qs : List Position) (n : ℕ) (k : Kept) (q : Position) → StandForAll types f ks qs → StandsFor types f k q → n < length ks
    → StandForAll types f (slice_set ks n k) (slice_set (map (λ x. x) qs) n q)
own_set types f [] qs n k q S own within = absurd (omega arith)
own_set types f (j ∷ ks) [] n k q S own within = absurd S
own_set types f (j ∷ ks) (p ∷ qs) zero k q S own within = (own, stand_same types f ks qs S.1)
own_set types f (j ∷ ks) (p ∷ qs) (suc n) k q S own within = (S.0, own_set types f ks qs n k q S.1 own (omega arith))

-- ---- images

-- nothing follows from nothing
pub same_follows : (d : Database) (v : VolumeState) (f : Forest Placed) (rows : List Segment) (image : List ℕ) → HoldsPlaced d v f → rows_of f ≡ rows → image ≡ v.image
    → Follows (images_of d) rows v.image unchanged rows image
same_follows d v f rows image holds is same =
    subst (λ (x : List ℕ). Follows (images_of d) rows v.image unchanged rows x) (sym same)
    (subst (λ (xs : List Segment). Follows (images_of d) xs v.image unchanged xs v.image) is (follow d v v f f unchanged holds holds refl (omega arith) refl))

-- ---- calls that read

-- where a call that read was answered
pub if_ok_read : {A : Type 0} {P Q : A → Type 0} {u w : VolumeState} (r : Result A Refused) → IsRead {T = A} u r w → IfOk r P → ((x : A) → IsRead {T = A} u (Ok x) w → P x → Q x) → IfOk r Q
if_ok_read (Ok x) read p go = go x read p
if_ok_read (Err e) read p go = tt

-- ---- gets

-- a get that was answered in a position is a step from the state
pub get_stepped : {A : Type 0} {x : A} (d : Database) (u w : VolumeState) (old : List Kept) (new : Kept) (st : State) (number : ℕ) (c : GetCall) (reply : Reply)
    → IsRead {T = A} u (Ok x) w → IsTrue u.is_sound → (R : Represents d u old st) → 0 < number → number ≤ length old
    → reply ≡ (answer_to c d.types (rows_of R.placed) (position_at st number)).0
    → StandsFor d.types R.placed new (answer_to c d.types (rows_of R.placed) (position_at st number)).1
    → IsStep d u st number (get_in d number c st) reply w (slice_set old (number - 1) new)
get_stepped d u w old new st number c reply read sound R some within is stands =
    let q : Position = position_at st number in
    record {
      change = unchanged;
      own = (answer_to c d.types st.rows q).1;
      is = ap (λ (r : Reply). answered r unchanged (answer_to c d.types st.rows q).1) (ap (λ (rows : List Segment). (answer_to c d.types rows q).0) (sym R.rows) ∙ sym is);
      represents = record {
        later = later_read d u w read sound R.later;
        placed = R.placed;
        holds = held_read d u w read sound R.placed R.holds;
        rows = R.rows;
        positions = own_set d.types R.placed old st.positions (number - 1) new (answer_to c d.types st.rows q).1 R.positions
            (subst (λ (rows : List Segment). StandsFor d.types R.placed new (answer_to c d.types rows q).1) R.rows stands) (omega arith);
      };
      follows = same_follows d u R.placed st.rows w.image R.holds R.rows (after-read d u w read sound).image;
    }

-- an equal effect is as much of a step
pub step_as : {reply : Reply} (d : Database) (v : VolumeState) (st : State) (number : ℕ) (e e2 : Effect) (w : VolumeState) (new : List Kept) → e ≡ e2 → IsStep d v st number e reply w new
    → IsStep d v st number e2 reply w new
step_as {reply} d v st number e e2 w new same step = subst (λ (x : Effect). IsStep d v st number x reply w new) same step
