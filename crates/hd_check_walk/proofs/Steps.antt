-- One step of a walk, to a segment that nobody held.
use Rattle.std.proofs.Common.{◌≡◌, ◌≢◌, ◌⊎◌, inl, inr, ℕ, suc, ◌<◌, List, [], ◌∷◌, ◌++◌, true, length, slice_index, slice_set, sym, ap, subst, ◌∙◌, arith}
use Rattle.std.proofs.lemmas.Bool.{cases_eq}
use Rattle.hd_dbd.specs.Types.{SegmentType}
use Rattle.hd_dbd.specs.Rows.{twins_in_order}
use Rattle.hd_dbd.specs.Prefixes.{is_backward_kept}
use Rattle.hd_volume.specs.Indexes.{IsAmong}
use Rattle.hd_volume.specs.Volumes.{VolumeState}
use Rattle.hd_links.specs.Links.{Links, IsSegment, segment_at}
use Rattle.hd_links.specs.Pointers.{Precedes, IsReached}
use Rattle.hd_image.specs.Records.{links_of}
use Rattle.hd_check_blocks.specs.declared.places.Place.{Place}
use Rattle.hd_check_blocks.specs.Places.{ArePlaces, place_at}
use Rattle.hd_check_blocks.proofs.Lookups.{among}
use Rattle.hd_check_pointers.specs.Tables.{nobody}
use Rattle.hd_check_pointers.proofs.Owning.{set-same, set-other}
use Rattle.hd_check_walk.specs.Walks.{IsHeldBy, IsFollowed, IsUnheld, StaysHeld, IsRightFrom, AreChildrenWalked, IsWalkedSoFar, LeadsTo}
use Rattle.hd_check_walk.specs.declared.notes.Note.{Note}
use Rattle.hd_check_walk.specs.Reading.{IsChildless}
use Rattle.hd_check_walk.specs.Notes.{IsNotedFor, AreNoted}
use Rattle.hd_check_walk.proofs.Staying.{followed-stays, children-stay, childless-walked}
use Rattle.hd_check_walk.proofs.Waiting.{among-more, among-front, among-last}

-- A segment names no children, and nothing more waits; or its number waits behind the others.
abbrev pub WaitsOrNot : List SegmentType → Links → ℕ → ℕ → List ℕ → List ℕ → Type 0
WaitsOrNot types m a n waiting waiting2 = ((waiting2 ≡ waiting) × IsChildless types m a) ⊎ (waiting2 ≡ waiting ++ n ∷ [])

-- where one more is held the others stay held
pub set-stays : (xs : List ℕ) (n h : ℕ) → slice_index xs n ≡ nobody → StaysHeld xs (slice_set xs n h)
set-stays xs n h none i known = set-other xs n h i (λ e. known (ap (slice_index xs) e ∙ none))

module _ (types : List SegmentType) (v : VolumeState) (ps : List Place) (are : ArePlaces types v ps) where
  -- a segment stands at each place
  pub stands : (i : ℕ) → i < length ps → IsSegment (links_of types v) (place_at ps i).address
  stands i l = (are.there (place_at ps i) (among ps i l)).0

  -- and has the place's code
  pub coded : (i : ℕ) → i < length ps → (links_of types v).code (place_at ps i).address ≡ (place_at ps i).code
  coded i l = (are.there (place_at ps i) (among ps i l)).1

  -- where nobody held it stands a segment of the type
  pub there : (xs : List ℕ) (n a t : ℕ) → IsUnheld ps xs n a t → IsSegment (links_of types v) a × ((links_of types v).code a ≡ t)
  there xs n a t new =
      let at : (place_at ps n).address ≡ a = ap (λ (p : Place). p.address) new.1 in (
        subst (IsSegment (links_of types v)) at (stands n new.0),
        ap (links_of types v).code (sym at) ∙ coded n new.0 ∙ ap (λ (p : Place). p.code) new.1,
      )

  -- and what is noted for its number is what is seen of it
  pub there-noted : (ns : List Note) (xs : List ℕ) (n a t : ℕ) → AreNoted types (links_of types v) ps ns → IsUnheld ps xs n a t → IsNotedFor types (links_of types v) ns n a
  there-noted ns xs n a t noted new = subst (IsNotedFor types (links_of types v) ns n) (ap (λ (p : Place). p.address) new.1) (noted n)

  module _ (xs : List ℕ) (n h t before a : ℕ) (many : length xs ≡ length ps) (new : IsUnheld ps xs n a t) (some : h ≢ nobody) (leads : LeadsTo types (links_of types v) h t before a) where
    -- the segment stands at the place of the number
    at : (place_at ps n).address ≡ a
    at = ap (λ (p : Place). p.address) new.1

    -- it is one of the type
    own : IsSegment (links_of types v) a × ((links_of types v).code a ≡ t)
    own = there xs n a t new

    -- the record holds it then
    held : slice_index (slice_set xs n h) n ≡ h
    held = set-same xs n h (subst (λ (k : ℕ). n < k) (sym many) new.0)

    -- by a pointer that leads to a segment of its type
    pub held-by : IsHeldBy ps (slice_set xs n h) h t a
    held-by = (n, new.0, new.1, held, some)

    stays : StaysHeld xs (slice_set xs n h)
    stays = set-stays xs n h new.2

    -- the record is a predecessor
    precedes : Precedes types (links_of types v) h a
    precedes = elim (cases_eq before 0) [
      | inl z ↦ inr (t, leads.first z)
      | inr some ↦ inl (leads.twin some).1
    ]

    -- what was held before is another number
    old : (i : ℕ) → i ≢ n → slice_index (slice_set xs n h) i ≢ nobody → slice_index xs i ≢ nobody
    old i ne known e = known (set-other xs n h i ne ∙ e)

    -- the segment is right behind its holder
    right : (links_of types v).delete_byte a ≡ 0 → (is_backward_kept types t ≡ true → (links_of types v).backward a ≡ before)
        → (before ≢ 0 → twins_in_order types (segment_at (links_of types v) before) (segment_at (links_of types v) a) ≡ true) → IsRightFrom types (links_of types v) h a
    right deleted backward key = record {
      delete_byte = deleted;
      way = elim (cases_eq before 0) [
        | inl z ↦ inr (
          t,
          record {
            names = leads.first z;
            typed = own.1;
            backward = λ kept. backward (ap (is_backward_kept types) (sym own.1) ∙ kept) ∙ z;
          },
        )
        | inr not ↦ (let twin = leads.twin not in inl (record {
          names = twin.1;
          typed = own.1 ∙ sym twin.2;
          backward = λ kept. backward (ap (is_backward_kept types) (sym own.1) ∙ kept) ∙ twin.0;
          key = subst (λ (x : ℕ). twins_in_order types (segment_at (links_of types v) x) (segment_at (links_of types v) a) ≡ true) twin.0 (key not);
        }))
      ];
    }

    -- the twin forward of the twin before was followed
    followed : (i : ℕ) → i < length ps → (place_at ps i).address ≡ before
        → IsFollowed ps (slice_set xs n h) (place_at ps i).address (place_at ps i).code ((links_of types v).forward (place_at ps i).address)
    followed i l is =
        let not : before ≢ 0 = (λ z. (let s = (stands i l).some in omega arith)) in
        let twin = leads.twin not in
        let same : h ≡ (place_at ps i).address = sym twin.0 ∙ sym is in
        let code : t ≡ (place_at ps i).code = sym twin.2 ∙ ap (links_of types v).code same ∙ coded i l in
        let next : a ≡ (links_of types v).forward (place_at ps i).address = sym twin.1.names ∙ ap (links_of types v).forward same in
        inr (subst (λ (x : ℕ). IsHeldBy ps (slice_set xs n h) (place_at ps i).address (place_at ps i).code x) next
        (subst (λ (c : ℕ). IsHeldBy ps (slice_set xs n h) (place_at ps i).address c a) code
        (subst (λ (k : ℕ). IsHeldBy ps (slice_set xs n h) k t a) same held-by)))

    -- what waited waits
    waited : (waiting waiting2 : List ℕ) (i : ℕ) → WaitsOrNot types (links_of types v) a n waiting waiting2 → IsAmong i waiting → IsAmong i waiting2
    waited waiting waiting2 i (inl w) is = subst (IsAmong i) (sym w.0) is
    waited waiting waiting2 i (inr w) is = subst (IsAmong i) (sym w) (among-front i waiting n is)

    -- the walk has come to the segment
    pub step-walked : (in_hand : ℕ) (waiting waiting2 : List ℕ) → (links_of types v).delete_byte a ≡ 0 → (is_backward_kept types t ≡ true → (links_of types v).backward a ≡ before)
        → (before ≢ 0 → twins_in_order types (segment_at (links_of types v) before) (segment_at (links_of types v) a) ≡ true) → WaitsOrNot types (links_of types v) a n waiting waiting2
        → IsWalkedSoFar types (links_of types v) ps before in_hand waiting xs → IsWalkedSoFar types (links_of types v) ps a in_hand waiting2 (slice_set xs n h)
    step-walked in_hand waiting waiting2 deleted backward key waits walked = record {
      right = λ i l known. elim (cases_eq i n) [
        | inl e ↦ subst (λ (k : ℕ). IsRightFrom types (links_of types v) (slice_index (slice_set xs n h) k) (place_at ps k).address) (sym e)
            (subst (λ (x : ℕ). IsRightFrom types (links_of types v) (slice_index (slice_set xs n h) n) x) (sym at)
            (subst (λ (x : ℕ). IsRightFrom types (links_of types v) x a) (sym held) (right deleted backward key)))
        | inr ne ↦ subst (λ (x : ℕ). IsRightFrom types (links_of types v) x (place_at ps i).address) (sym (set-other xs n h i ne)) (walked.right i l (old i ne known))
      ];
      reached = λ i l known. elim (cases_eq i n) [
        | inl e ↦ (
          suc leads.reached.0,
          subst (IsReached types (links_of types v) (suc leads.reached.0)) (sym (ap (λ (k : ℕ). (place_at ps k).address) e ∙ at)) (own.0, (h, leads.reached.1, precedes)),
        )
        | inr ne ↦ walked.reached i l (old i ne known)
      ];
      forward = λ i l known shut. elim (cases_eq i n) [
        | inl e ↦ absurd (shut (ap (λ (k : ℕ). (place_at ps k).address) e ∙ at))
        | inr ne ↦ elim (cases_eq (place_at ps i).address before) [
          | inl is ↦ followed i l is
          | inr isnt ↦ followed-stays ps xs (slice_set xs n h) (place_at ps i).address (place_at ps i).code ((links_of types v).forward (place_at ps i).address) stays (walked.forward i l (old i ne known) isnt)
        ]
      ];
      children = λ i l known other idle. elim (cases_eq i n) [
        | inl e ↦ elim waits [
          | inl w ↦ subst (λ (x : ℕ). AreChildrenWalked types (links_of types v) ps (slice_set xs n h) x) (sym (ap (λ (k : ℕ). (place_at ps k).address) e ∙ at)) (childless-walked types (links_of types v) ps (slice_set xs n h) a w.1)
          | inr w ↦ absurd (idle (subst (λ (k : ℕ). IsAmong k waiting2) (sym e) (subst (IsAmong n) (sym w) (among-last waiting n))))
        ]
        | inr ne ↦ children-stay types (links_of types v) ps xs (slice_set xs n h) (place_at ps i).address stays
            (walked.children i l (old i ne known) other (λ is. idle (waited waiting waiting2 i waits is)))
      ];
      waits = λ i is. elim waits [
        | inl w ↦ (let r = walked.waits i (subst (IsAmong i) w.0 is) in (r.0, λ z. r.1 (sym (stays i r.1) ∙ z)))
        | inr w ↦ elim (among-more i waiting n (subst (IsAmong i) w is)) [
          | inl before ↦ (let r = walked.waits i before in (r.0, λ z. r.1 (sym (stays i r.1) ∙ z)))
          | inr e ↦ (subst (λ (k : ℕ). k < length ps) (sym e) new.0, λ z. some (sym held ∙ ap (slice_index (slice_set xs n h)) (sym e) ∙ z))
        ]
      ];
    }
