-- Calls of a volume one after another.
use Rattle.std.proofs.Common.{ℕ, Bool, IsTrue, List, Result, Ok, Err, IfOk, ◌≡◌, refl, subst, ◌∙◌, arith}
use Rattle.hd_dbd.specs.declared.answer.Refused.{Refused}
use Rattle.hd_stores.specs.Stores.{StaysSound}
use Rattle.hd_volume.specs.Images.{KeepsFirst}
use Rattle.hd_volume.specs.Volumes.{VolumeState}
use Rattle.hd_volume.specs.Calls.{IsCall, IsRead}
use Rattle.hd_dbd.specs.declared.facts.SegmentSize.{SegmentSize}
use Rattle.hd_dbd.specs.declared.hierarchy.FreeSpace.{FreeSpace}
use Rattle.hd_volume.specs.Buffers.{Buffered, IsFetch}
use Rattle.hd_volume.specs.Spaces.{volume_of}
use Rattle.hd_volume.proofs.MapLemmas.{fetched-read, space-same}
use Rattle.hd_volume.proofs.JoinLemmas.{calls-join, was-sound}

-- a store that is sound after any call was so before
pub sound-back : {A : Type 0} (r : Result A Refused) (a b : Bool) → StaysSound r a b → IsTrue b → IsTrue a
sound-back (Ok x) a b h s = rw (← h) s
sound-back (Err e) a b h s = was-sound e a b h s

-- what a call answers matters only where it refuses
pub call-ok : {A B : Type 0} {u v : VolumeState} {x : A} (y : B) → IsCall {T = A} u (Ok x) v → IsCall {T = B} u (Ok y) v
call-ok y h = record { counts = h.counts; sound = h.sound; committed = h.committed; size = h.size; sizes = h.sizes; first = h.first; plain = h.plain; space = h.space }

pub read-ok : {A B : Type 0} {u v : VolumeState} {x : A} (y : B) → IsRead {T = A} u (Ok x) v → IsRead {T = B} u (Ok y) v
read-ok y h = record { call = call-ok y h.call; image = h.image; stands = h.stands; room = h.room }

-- a refusal is one of any call
pub call-err : {A B : Type 0} {u v : VolumeState} {e : Refused} → IsCall {T = A} u (Err e) v → IsCall {T = B} u (Err e) v
call-err h = record { counts = h.counts; sound = h.sound; committed = h.committed; size = h.size; sizes = h.sizes; first = h.first; plain = h.plain; space = h.space }

pub read-err : {A B : Type 0} {u v : VolumeState} {e : Refused} → IsRead {T = A} u (Err e) v → IsRead {T = B} u (Err e) v
read-err h = record { call = call-err h.call; image = h.image; stands = h.stands; room = h.room }

first-same : (size : ℕ) (a : List ℕ) → KeepsFirst size a a
first-same size a = record { len = omega arith; first = λ h. refl }

-- no call at all
pub call-none : {A : Type 0} (u : VolumeState) (x : A) → IsCall {T = A} u (Ok x) u
call-none u x = record { counts = refl; sound = refl; committed = refl; size = refl; sizes = refl; first = λ s. first-same u.size u.stored; plain = λ p. p; space = λ s h. h }

pub read-none : {A : Type 0} (u : VolumeState) (x : A) → IsRead {T = A} u (Ok x) u
read-none u x = record { call = call-none u x; image = λ s. refl; stands = λ s h. h; room = refl }

-- two calls that read are one
pub reads-join : {A B : Type 0} {u v w : VolumeState} {x : A} (r : Result B Refused) → IsRead {T = A} u (Ok x) v → IsRead {T = B} v r w → IsRead {T = B} u r w
reads-join {u = u} {v = v} {w = w} r a b = record {
  call = calls-join r a.call b.call;
  image = λ s. b.image s ∙ a.image (sound-back r v.is_sound w.is_sound b.call.sound s);
  stands = λ s h. b.stands s (a.stands (sound-back r v.is_sound w.is_sound b.call.sound s) h);
  room = b.room ∙ a.room;
}

-- what holds of an answer, by what held of it
pub if-ok : {A : Type 0} {P Q : A → Type 0} (r : Result A Refused) → IfOk r P → ((x : A) → P x → Q x) → IfOk r Q
if-ok (Ok x) h f = f x h
if-ok (Err e) h f = tt

-- what a search for a block does to a volume
pub fetched-any : {T : Type 0} (seen : VolumeState) (old new : Buffered) (sizes : List SegmentSize) (spacing : FreeSpace) (room room' : ℕ) (r : Result T Refused) → volume_of old sizes spacing room ≡ seen
    → IsFetch {T = T} old r new → room' ≡ room → IsRead {T = T} seen r (volume_of new sizes spacing room')
fetched-any {T} seen old new sizes spacing room room' (Ok x) view f same = fetched-read seen old new sizes spacing room room' x x view f same
fetched-any {T} seen old new sizes spacing room room' (Err e) view f same =
    let u : VolumeState = volume_of old sizes spacing room in
    let w : VolumeState = volume_of new sizes spacing room' in
    let P : VolumeState → Type 0 = λ v. IsRead {T = T} v (Err e) w in
    subst P view (record {
      call = record {
        counts = f.counts;
        sound = f.sound;
        committed = f.committed;
        size = f.size;
        sizes = refl;
        first = f.first;
        plain = λ p. p;
        space = λ s l. record { left = λ now is. space-same u w f.size refl (f.image now) refl (l.left (was-sound e old.is_sound new.is_sound f.sound now) is) };
      };
      image = f.image;
      stands = f.stands;
      room = same;
    })
