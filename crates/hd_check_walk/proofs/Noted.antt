-- What is noted of segments, one after the other.
use Rattle.std.proofs.Common.{◌≡◌, ◌≢◌, inl, inr, ℕ, ◌+◌, ◌<◌, ◌≤◌, List, [], ◌∷◌, ◌++◌, length, true, Option, Some, None, Ok, Err, IfSome, sym, ap, subst, ◌∙◌, arith, append_assoc}
use Rattle.std.proofs.lemmas.List.{get_or_append_left, get_or-append-add, append-nil, length-append}
use Rattle.std.proofs.lemmas.Bool.{cases_lt, eqb-true}
use Rattle.hd_dbd.specs.Types.{SegmentType}
use Rattle.hd_dbd.specs.Hierarchy.{Database}
use Rattle.hd_dbd.specs.Rows.{key_of}
use Rattle.hd_dbd.specs.declared.answer.Refused.TheVariants.{Memory}
use Rattle.hd_volume.specs.Volumes.{VolumeState}
use Rattle.hd_volume.specs.Calls.{IsRead}
use Rattle.hd_links.specs.Links.{Links, segment_at}
use Rattle.hd_image.specs.Records.{links_of, IsVolumeOf}
use Rattle.hd_check_blocks.specs.Lending.{IsLent}
use Rattle.hd_check_blocks.specs.declared.places.Place.{Place}
use Rattle.hd_check_blocks.specs.Places.{place_at}
use Rattle.hd_check_walk.specs.declared.notes.Note.{Note}
use Rattle.hd_check_walk.specs.declared.segments.Seen.{Seen}
use Rattle.hd_check_walk.specs.declared.notes.Named.{Named}
use Rattle.hd_check_walk.specs.declared.notes.TheConstants.{CHILDLESS}
use Rattle.hd_check_walk.specs.Reading.{IsChildless, OfRead, key_front, IsAsSeen}
use Rattle.hd_check_walk.specs.Notes.{note_at, StaysNoted, HasChildrenAt, IsNoted, AreNoted, AreChildrenNoted}

-- what was noted stays from one step to the next
pub noted-join : (xs ys zs : List Named) → StaysNoted xs ys → StaysNoted ys zs → StaysNoted xs zs
noted-join xs ys zs one two = (one.0 ++ two.0, two.1 ∙ ap (λ (l : List Named). l ++ two.0) one.1 ∙ append_assoc xs one.0 two.0)

-- where nothing is noted all stays
pub noted-none : (xs ys : List Named) → ys ≡ xs → StaysNoted xs ys
noted-none xs ys same = ([], same ∙ sym (append-nil xs))

-- children that are noted stay noted
pub children-stay-noted : (types : List SegmentType) (m : Links) (xs ys : List Named) (p a : ℕ) → StaysNoted xs ys → HasChildrenAt types m xs p a → HasChildrenAt types m ys p a
children-stay-noted types m xs ys p a stays has = subst (λ (l : List Named). HasChildrenAt types m l p a) (sym stays.1) (record {
  within = (let w = has.within in let long = length-append xs stays.0 in omega arith);
  each = λ j low. (let w = has.within in get_or_append_left xs stays.0 _ (p + j) (omega arith) ∙ has.each j low);
})

module _ (types : List SegmentType) (m : Links) (ps : List Place) (ns : List Note) (note : Note) where
  -- the notes before stay
  old : (i : ℕ) → i < length ns → note_at (ns ++ note ∷ []) i ≡ note_at ns i
  old i low = get_or_append_left ns (note ∷ []) _ i low

  -- and the new one is the last
  new : note_at (ns ++ note ∷ []) (length ns) ≡ note
  new = ap (λ (k : ℕ). note_at (ns ++ note ∷ []) k) (let e : length ns ≡ length ns + 0 = omega arith in e) ∙ get_or-append-add ns (note ∷ []) 0 _

  -- no number behind it has a note
  last : (i : ℕ) → i < length (ns ++ note ∷ []) → length ns ≤ i → length ns ≡ i
  last i low high = (let long = length-append ns (note ∷ []) in omega arith)

  -- with one more note one more segment is noted
  pub noted-more : IsNoted types m note (place_at ps (length ns)).address → AreNoted types m ps ns → AreNoted types m ps (ns ++ note ∷ [])
  noted-more own before i low = elim (cases_lt i (length ns)) [
    | inl less ↦ subst (λ (x : Note). IsNoted types m x (place_at ps i).address) (sym (old i less)) (before i less)
    | inr high ↦ subst (λ (k : ℕ). IsNoted types m (note_at (ns ++ note ∷ []) k) (place_at ps k).address) (last i low high)
        (subst (λ (x : Note). IsNoted types m x (place_at ps (length ns)).address) (sym new) own)
  ]

  -- and so are its children
  pub children-noted-more : (xs ys : List Named) → StaysNoted xs ys → (note.children ≢ CHILDLESS → HasChildrenAt types m ys note.children (place_at ps (length ns)).address)
      → AreChildrenNoted types m ps ns xs → AreChildrenNoted types m ps (ns ++ note ∷ []) ys
  children-noted-more xs ys stays own before i low = elim (cases_lt i (length ns)) [
    | inl less ↦ subst (λ (x : Note). x.children ≢ CHILDLESS → HasChildrenAt types m ys x.children (place_at ps i).address) (sym (old i less))
        (λ some. children-stay-noted types m xs ys (note_at ns i).children (place_at ps i).address stays (before i less some))
    | inr high ↦ subst (λ (k : ℕ). (note_at (ns ++ note ∷ []) k).children ≢ CHILDLESS → HasChildrenAt types m ys (note_at (ns ++ note ∷ []) k).children (place_at ps k).address) (last i low high)
        (subst (λ (x : Note). x.children ≢ CHILDLESS → HasChildrenAt types m ys x.children (place_at ps (length ns)).address) (sym new) own)
  ]

-- nothing is noted wrong where nothing is noted
pub none-noted : (types : List SegmentType) (m : Links) (ps : List Place) (ns : List Note) → ns ≡ [] → AreNoted types m ps ns
none-noted types m ps ns none i low = absurd (let is = ap length none in omega arith)

-- nor are children
pub no-children-noted : (types : List SegmentType) (m : Links) (ps : List Place) (ns : List Note) (xs : List Named) → ns ≡ [] → AreChildrenNoted types m ps ns xs
no-children-noted types m ps ns xs none i low some = absurd (let is = ap length none in omega arith)

-- what is seen of the bytes of a segment that is lent is what it says
pub seen-is : (d : Database) (v : VolumeState) (a code : ℕ) (segment : List ℕ) (o : Option Seen) → IsVolumeOf d v → IsLent d.types v a segment → (links_of d.types v).code a ≡ code
    → ((b : ℕ) → OfRead d b code segment (λ m. IfSome o (λ s. m.delete_byte b ≡ 0)))
    → ((b : ℕ) → OfRead d b code segment (λ m. IfSome o (λ s. s.forward ≡ m.forward b)))
    → ((b : ℕ) → OfRead d b code segment (λ m. IfSome o (λ s. s.backward ≡ m.backward b)))
    → ((b : ℕ) → OfRead d b code segment (λ m. IfSome o (λ s. s.front ≡ key_front (key_of d.types (segment_at m b)))))
    → ((b : ℕ) → OfRead d b code segment (λ m. IfSome o (λ s. s.is_childless ≡ true → IsChildless d.types m b)))
    → IfSome o (λ s. IsAsSeen d.types (links_of d.types v) s a)
seen-is d v a code segment None of lent coded deleted forward backward front childless = tt
seen-is d v a code segment (Some s) of lent coded deleted forward backward front childless = record {
  delete_byte = deleted a v of lent coded;
  forward = forward a v of lent coded;
  backward = backward a v of lent coded;
  front = front a v of lent coded;
  childless = childless a v of lent coded;
}

-- a note is right where it is what is seen, and says that there are no children only where there are none
pub note-is : (types : List SegmentType) (m : Links) (seen : Seen) (note : Note) (children a : ℕ) → note ≡ record { forward = seen.forward; backward = seen.backward; children = children; front = seen.front }
    → (children ≡ CHILDLESS → seen.is_childless ≡ true) → IsAsSeen types m seen a → IsNoted types m note a
note-is types m seen note children a is none s = subst (λ (n : Note). IsNoted types m n a) (sym is) (record {
  delete_byte = s.delete_byte;
  forward = s.forward;
  backward = s.backward;
  front = s.front;
  childless = λ yes. s.childless (none (eqb-true children CHILDLESS yes));
})

-- a refusal for want of memory changes nothing that was read
pub read-memory : {A B : Type 0} {u v : VolumeState} {x : A} → IsRead {T = A} u (Ok x) v → IsRead {T = B} u (Err Memory) v
read-memory h = record {
  call = record { counts = h.call.counts; sound = h.call.sound; committed = h.call.committed; size = h.call.size; sizes = h.call.sizes; first = h.call.first; plain = h.call.plain; space = h.call.space };
  image = h.image;
  stands = h.stands;
  room = h.room;
}
