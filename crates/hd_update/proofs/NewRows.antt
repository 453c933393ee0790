-- Rows that go in one below the other.
use Rattle.std.proofs.Common.{◌≡◌, ℕ, ◌+◌, ◌≤◌, List, [], ◌∷◌, ◌++◌, length, Bool, true, Result, Ok, Err, sym, subst, arith, inl, inr, ◌⊎◌}
use Rattle.std.specs.Prelude.{IfOk, IfErr, OnOk}
use Rattle.std.proofs.lemmas.List.{length-append}
use Rattle.hd_dbd.specs.declared.answer.Refused.{Refused}
use Rattle.hd_dbd.specs.declared.answer.Refused.TheVariants.{Memory, Full, Device}
use Rattle.hd_dbd.specs.Hierarchy.{Database}
use Rattle.hd_dbd.specs.Prefixes.{size_with}
use Rattle.hd_dbd.specs.Rows.{row_fits}
use Rattle.hd_dbd.specs.Segment.{Segment}
use Rattle.hd_dbd.specs.Forest.{Forest}
use Rattle.hd_calls.specs.Moves.{position_after_insert}
use Rattle.hd_stores.specs.Stores.{StaysSound}
use Rattle.hd_volume.specs.Volumes.{VolumeState}
use Rattle.hd_volume.specs.Rooms.{spare, HasHole}
use Rattle.hd_links.specs.Links.{is_child_type}
use Rattle.hd_links.specs.Placed.{Placed}
use Rattle.hd_links.specs.Changes.{with_leaf}
use Rattle.hd_image.specs.Records.{links_of}
use Rattle.hd_forest.specs.Updates.{IsLinked}
use Rattle.hd_changes.specs.Rooms.{HasRoomFor, HasMemoryFor}
use Rattle.hd_changes.proofs.NewPaths.{go-on, goes-next}
use Rattle.hd_changes.proofs.Rooms.{first-rows, room-lasts}
use Rattle.hd_position.specs.Kept.{StandsFor}
use Rattle.hd_position.specs.Laws.{MovesUp}
use Rattle.hd_position.proofs.Adding.{insertions_add}
use Rattle.hd_position.proofs.Leaves.{linking_moves}
use Rattle.hd_position.proofs.VolumeMoves.{held}
use Rattle.hd_update.specs.NewRows.{AreIn}

-- ---- one row more

pub one_more : (d : Database) (u v w : VolumeState) (f : Forest Placed) (n : ℕ) (front : List Placed) (last : Placed) (row : Segment) (a : ℕ) → AreIn d u f n front last v
    → is_child_type d.types last.segment.code row.code ≡ true → row_fits d.types row ≡ true → IsLinked d v last.address 0 row a w
    → AreIn d u f n (front ++ last ∷ []) (record { address = a; segment = row }) w
one_more d u v w f n front last row a A typed fits I =
    let p : Placed = record { address = a; segment = row } in
    let g : Forest Placed = with_leaf last.address 0 p A.placed in
    let count : ℕ = length (front ++ last ∷ []) in
    let next = goes-next d u v f A.placed n front last A.is_in p typed fits I.free in
    let at : n + length front + 1 ≡ n + count = (let many : count ≡ length front + 1 = length-append front (last ∷ []) in omega arith) in
    let moves : MovesUp d.types A.placed g (n + count) =
    subst (MovesUp d.types A.placed g) at
    (linking_moves d.block_size d.frspc d.types (length v.image) (links_of d.types v) A.placed last.address 0 p (n + length front + 1)
    (held d v A.placed A.is_in.holds.volume A.is_in.holds.records) next.0 next.1) in
    record {
      placed = g;
      is_in = go-on d u v w f A.placed n front last p A.is_in typed fits I;
      positions = λ k q stands.
          subst (λ (m : ℕ). StandsFor d.types g k (position_after_insert n m q)) (sym (length-append (front ++ last ∷ []) (p ∷ [])))
          (subst (StandsFor d.types g k) (insertions_add n count q) (moves.positions k (position_after_insert n count q) (A.positions k q stands)));
    }

-- ---- room

-- where there are room and memory, only a failed access refuses a row
pub row_refused : (d : Database) (v : VolumeState) (row : Segment) (rows : List Segment) → HasRoomFor d.types v (row ∷ rows) → HasMemoryFor d.types v (row ∷ rows)
    → (e : Refused) → (e ≡ Memory) ⊎ (e ≡ Full) ⊎ (e ≡ Device) → (e ≡ Full → (spare v ≡ 0) × (HasHole v (size_with d.types row.code (length row.bytes)) → ⊥)) → (e ≡ Memory → v.room ≡ 0)
    → (e ≡ Memory → HasHole v (size_with d.types row.code (length row.bytes)) → ⊥) → e ≡ Device
row_refused d v row rows room memory e (inl is) full none hole = absurd ((first-rows d.types v row rows).1 memory (none is, hole is))
row_refused d v row rows room memory e (inr (inl is)) full none hole = absurd ((first-rows d.types v row rows).0 room (full is))
row_refused d v row rows room memory e (inr (inr device)) full none hole = device

-- and they last for the others
pub room_left : (d : Database) (v w : VolumeState) (h y a : ℕ) (row : Segment) (rows : List Segment) → IsLinked d v h y row a w → v.room ≤ w.room + 1
    → HasRoomFor d.types v (row ∷ rows) → HasMemoryFor d.types v (row ∷ rows) → HasRoomFor d.types w rows × HasMemoryFor d.types w rows
room_left d v w h y a row rows I less room memory =
    (let lasts = room-lasts d v w h y a row rows I in (lasts.0 room, lasts.1 less memory))

-- ---- answers of calls

-- a call that was not refused left the store as sound as it was
pub if_ok_sound : {A : Type 0} {P Q : A → Type 0} (r : Result A Refused) (old new : Bool) → StaysSound r old new → IfOk r P → ((x : A) → new ≡ old → P x → Q x) → IfOk r Q
if_ok_sound (Ok x) old new same p f = f x same p
if_ok_sound (Err e) old new same p f = tt

-- what is known of a refusal, together
pub if_err_all : {A : Type 0} {P P2 P3 P4 Q : Refused → Type 0} (r : Result A Refused) → IfErr r P → IfErr r P2 → IfErr r P3 → IfErr r P4
    → ((e : Refused) → P e → P2 e → P3 e → P4 e → Q e) → IfErr r Q
if_err_all (Ok x) p p2 p3 p4 f = tt
if_err_all (Err e) p p2 p3 p4 f = f e p p2 p3 p4

-- what is known of an answer that is no refusal
pub on_ok_sound : {A P P2 Q : Type 0} (r : Result A Refused) (old new : Bool) → StaysSound r old new → OnOk r P → OnOk r P2 → (new ≡ old → P → P2 → Q) → OnOk r Q
on_ok_sound (Ok x) old new same p p2 f = f same p p2
on_ok_sound (Err e) old new same p p2 f = tt
