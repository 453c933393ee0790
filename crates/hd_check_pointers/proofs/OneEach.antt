-- The fourth phase: segments that have one predecessor each, and the first that has not.
use Rattle.std.proofs.Common.{◌≡◌, ◌≢◌, ◌⊎◌, inl, inr, ℕ, zero, suc, ◌+◌, ◌<◌, List, [], ◌∷◌, length, nat_cmp, Option, Some, None, IfNone, IfSome, refl, sym, ap, subst, ◌∙◌, arith}
use Rattle.std.specs.List.Sorted.{IsNonDecreasingBy, IsStableByKey}
use Rattle.std.proofs.lemmas.Bool.{cases_eq}
use Rattle.hd_dbd.specs.Types.{SegmentType}
use Rattle.hd_dbd.specs.Hierarchy.{Database}
use Rattle.hd_volume.specs.Volumes.{VolumeState}
use Rattle.hd_links.specs.Links.{Links, IsSegment}
use Rattle.hd_links.specs.Pointers.{PointsTo, PointersAreTyped, Precedes, PredecessorsAreOne}
use Rattle.hd_links.proofs.Types.{AllAbove, ordered}
use Rattle.hd_image.specs.Records.{links_of, IsVolumeOf}
use Rattle.hd_image.specs.PointerFaults.{HasTwoPredecessors, HasNoPredecessor}
use Rattle.hd_image.specs.Standing.{Stands, phase_of, number_of, ComesBefore}
use Rattle.hd_image.specs.declared.line.Line.{Line}
use Rattle.hd_image.specs.declared.line.Line.TheVariants.{NoVolume, NoVersion, AnotherDatabase, WrongChain, WrongPlace, NoKind, Deleted, NamesNothing, NamesAnother, TwoPredecessors, NoPredecessor, WrongBackward, WrongLast, OutOfOrder, NotReached, WrongTop, WrongForm, NamedTwice, UnreachedBlock, WrongNext, EntryOutOfOrder, WrongEntry, NoEntry}
use Rattle.hd_image.proofs.Roots.{header-code}
use Rattle.hd_check_blocks.specs.declared.fault.Fault.{Fault}
use Rattle.hd_check_blocks.specs.declared.places.Place.{Place}
use Rattle.hd_check_pointers.specs.declared.namings.Naming.{Naming}
use Rattle.hd_check_blocks.specs.Phases.{IsLeastOf}
use Rattle.hd_check_blocks.specs.Listing.{IsListed, AreStanding, faults_of}
use Rattle.hd_check_blocks.proofs.Listing.{AreStandingAmong, joined, none-among, all-standing}
use Rattle.hd_check_blocks.specs.Places.{IsPlaceOf, ArePlaces, PlacesAscend}
use Rattle.hd_check_pointers.specs.Tables.{place_at, naming_at, ArePredecessors}
use Rattle.hd_check_pointers.specs.Namings.{AreNamings, match_fault, first_unmatched, holders, NameTheirPlaces, HaveSameHolders}
use Rattle.hd_check_pointers.specs.Listed.{behind, all_unmatched}
use Rattle.hd_check_pointers.proofs.TypedRecords.{before-it}
use Rattle.hd_check_pointers.proofs.Holders.{IsAmong, AreHolders, are-holders, none-zero}
use Rattle.hd_check_pointers.proofs.Arranging.{names-match}
use Rattle.hd_check_pointers.proofs.Unmatched.{wrong_for, first-found, behind-match}
use Rattle.hd_check_pointers.proofs.Matching.{IsAddress, address-from, AreMatched, IsWrongFor, IsFirstWrong, IsJudged, AreNamingsOf, each-held, order-from-sort, holders-sorted, judged}

-- ---- places and addresses

-- a place has an address
address-of : (p : Place) (ps : List Place) → IsPlaceOf p ps → IsAddress p.address ps
address-of p [] i = absurd i
address-of p (q ∷ ps) (inl e) = inl (ap (λ (r : Place). r.address) e)
address-of p (q ∷ ps) (inr i) = inr (address-of p ps i)

-- an address is that of a place
place-of : (a : ℕ) (ps : List Place) → IsAddress a ps → (p : Place) × IsPlaceOf p ps × (p.address ≡ a)
place-of a [] i = absurd i
place-of a (q ∷ ps) (inl e) = (q, inl refl, sym e)
place-of a (q ∷ ps) (inr i) = (let r = place-of a ps i in (r.0, inr r.1, r.2))

-- ---- what the matching says

-- each place that is matched has one predecessor
matched-one : (F : ℕ → List ℕ) (ps : List Place) (ns : List Naming) → AreMatched F ps ns → (a : ℕ) → IsAddress a ps → (h : ℕ) × (F a ≡ h ∷ [])
matched-one F [] ns is a i = absurd i
matched-one F (p ∷ ps) [] is a i = absurd is
matched-one F (p ∷ ps) (n ∷ ns) is a (inl e) = (n.holder, ap F e ∙ is.1)
matched-one F (p ∷ ps) (n ∷ ns) is a (inr i) = matched-one F ps ns is.2 a i

-- there is a pointer for each place
matched-length : (F : ℕ → List ℕ) (ps : List Place) (ns : List Naming) → AreMatched F ps ns → length ns ≡ length ps
matched-length F [] ns is = ap length is
matched-length F (p ∷ ps) [] is = absurd is
matched-length F (p ∷ ps) (n ∷ ns) is = ap suc (matched-length F ps ns is.2)

-- it names the place, and has its predecessor
matched-at : (F : ℕ → List ℕ) (ps : List Place) (ns : List Naming) → AreMatched F ps ns → (i : ℕ) → i < length ps
    → ((naming_at ns i).target ≡ (place_at ps i).address) × (F (place_at ps i).address ≡ (naming_at ns i).holder ∷ [])
matched-at F [] ns is i l = absurd (omega arith)
matched-at F (p ∷ ps) [] is i l = absurd is
matched-at F (p ∷ ps) (n ∷ ns) is zero l = (is.0, is.1)
matched-at F (p ∷ ps) (n ∷ ns) is (suc i) l = matched-at F ps ns is.2 i (omega arith)

-- a place of a number has an address
address-at : (ps : List Place) (i : ℕ) → i < length ps → IsAddress (place_at ps i).address ps
address-at [] i l = absurd (omega arith)
address-at (p ∷ ps) zero l = inl refl
address-at (p ∷ ps) (suc i) l = inr (address-at ps i (omega arith))

-- Something is wrong with an address, and all addresses before it have one predecessor.
record IsFirstAt (F : ℕ → List ℕ) (ps : List Place) (f : Fault) : Type 0 where
  address : ℕ
  there : IsAddress address ps
  wrong : IsWrongFor address (F address) f
  earlier : (b : ℕ) → IsAddress b ps → b < address → (h : ℕ) × (F b ≡ h ∷ [])

-- where the first wrong place stands
first-at : (F : ℕ → List ℕ) (ps : List Place) (f : Fault) → PlacesAscend ps → IsFirstWrong F ps f → IsFirstAt F ps f
first-at F [] f up is = absurd is
first-at F (p ∷ ps) f up (inl w) = record {
  address = p.address;
  there = inl refl;
  wrong = w;
  earlier = λ b i less. elim i [ inl e ↦ absurd (omega arith) | inr j ↦ (let far = address-from (p.address + 1) b ps up.0 j in absurd (omega arith)) ];
}
first-at F (p ∷ ps) f up (inr w) = (let r : IsFirstAt F ps f = first-at F ps f up.1 w.1 in record {
  address = r.address;
  there = inr r.there;
  wrong = r.wrong;
  earlier = λ b i less. elim i [ inl e ↦ (w.0.0, ap F e ∙ w.0.1) | inr j ↦ r.earlier b j less ];
})

-- what is among some that are above a number is above it
above-among : (t h : ℕ) (hs : List ℕ) → AllAbove t hs → IsAmong h hs → t < h
above-among t h [] up i = absurd i
above-among t h (x ∷ xs) up (inl e) = (let l = up.0 in omega arith)
above-among t h (x ∷ xs) up (inr i) = above-among t h xs up.1 i

-- ---- the lines of the phase

-- a line of the fourth phase
pub fourth-lines : (P : Line → Type 0) → P TwoPredecessors → P NoPredecessor → (k : Line) → phase_of k ≡ 4 → P k
fourth-lines P a b NoVolume h = absurd (omega arith)
fourth-lines P a b NoVersion h = absurd (omega arith)
fourth-lines P a b AnotherDatabase h = absurd (omega arith)
fourth-lines P a b WrongChain h = absurd (omega arith)
fourth-lines P a b WrongPlace h = absurd (omega arith)
fourth-lines P a b NoKind h = absurd (omega arith)
fourth-lines P a b Deleted h = absurd (omega arith)
fourth-lines P a b NamesNothing h = absurd (omega arith)
fourth-lines P a b NamesAnother h = absurd (omega arith)
fourth-lines P a b TwoPredecessors h = a
fourth-lines P a b NoPredecessor h = b
fourth-lines P a b WrongBackward h = absurd (omega arith)
fourth-lines P a b WrongLast h = absurd (omega arith)
fourth-lines P a b OutOfOrder h = absurd (omega arith)
fourth-lines P a b NotReached h = absurd (omega arith)
fourth-lines P a b WrongTop h = absurd (omega arith)
fourth-lines P a b WrongForm h = absurd (omega arith)
fourth-lines P a b NamedTwice h = absurd (omega arith)
fourth-lines P a b UnreachedBlock h = absurd (omega arith)
fourth-lines P a b WrongNext h = absurd (omega arith)
fourth-lines P a b EntryOutOfOrder h = absurd (omega arith)
fourth-lines P a b WrongEntry h = absurd (omega arith)
fourth-lines P a b NoEntry h = absurd (omega arith)

-- What a line of the fourth phase says of a segment: it has two predecessors, or none.
abbrev pub IsUnmatchedAs : List SegmentType → Links → Line → ℕ → Type 0
IsUnmatchedAs types m k a =
    ((number_of k a ≡ 9) × ((g h : ℕ) × Precedes types m g a × Precedes types m h a × (g < h)))
    ⊎ ((number_of k a ≡ 10) × ((h : ℕ) → Precedes types m h a → ⊥))

-- what stands in the fourth phase says that a segment has not one predecessor
unmatched-as : (d : Database) (v : VolumeState) (k : Line) (a o : ℕ) → phase_of k ≡ 4 → Stands d v k a o → IsSegment (links_of d.types v) a × IsUnmatchedAs d.types (links_of d.types v) k a
unmatched-as d v k a o four = fourth-lines (λ x. Stands d v x a o → IsSegment (links_of d.types v) a × IsUnmatchedAs d.types (links_of d.types v) x a)
    (λ s. (s.1, inl (refl, (s.0, o, s.2, s.3, s.4))))
    (λ s. (s.0, inr (refl, s.1)))
    k four

-- ---- the phase

module _ (d : Database) (v : VolumeState) (of : IsVolumeOf d v) (ps : List Place) (places : ArePlaces d.types v ps) (typed : PointersAreTyped d.types (links_of d.types v)) (old : List Naming) (are : AreNamings d.types (links_of d.types v) ps old) where
  -- the holders of the pointers that name an address are its predecessors
  held : (a : ℕ) → a ≢ 0 → AreHolders d.types (links_of d.types v) a (holders a old)
  held a some = subst (λ (ns : List Naming). AreHolders d.types (links_of d.types v) a (holders a ns)) (sym are)
      (are-holders d.types (links_of d.types v) typed (ordered d.block_size d.frspc d.types of.fit).later a some ps refl (header-code d.types v) places.ascend
      (λ p i. (places.there p i).0) (λ h s. (record { address = h; code = (links_of d.types v).code h }, places.all h s, refl)))

  -- a segment has an address among the places
  address-there : (a : ℕ) → IsSegment (links_of d.types v) a → IsAddress a ps
  address-there a s = address-of (record { address = a; code = (links_of d.types v).code a }) ps (places.all a s)

  -- and an address among the places is that of a segment
  segment-there : (a : ℕ) → IsAddress a ps → IsSegment (links_of d.types v) a
  segment-there a i = (let p = place-of a ps i in subst (IsSegment (links_of d.types v)) p.2 (places.there p.0 p.1).0)

  -- it is not 0
  address-some : (a : ℕ) → IsAddress a ps → a ≢ 0
  address-some a i = λ z. (let some = (segment-there a i).some in omega arith)

  -- what a record precedes is a segment
  preceded : (h a : ℕ) → a ≢ 0 → Precedes d.types (links_of d.types v) h a → IsSegment (links_of d.types v) a
  preceded h a some (inl x) = record { some = omega arith; here = (let to : PointsTo (links_of d.types v) ((links_of d.types v).code h) a = subst (PointsTo (links_of d.types v) ((links_of d.types v).code h)) x.names (typed.forward h x.holder) in (to (omega arith)).0) }
  preceded h a some (inr y) = record { some = omega arith; here = (let to : PointsTo (links_of d.types v) y.0 a = subst (PointsTo (links_of d.types v) y.0) y.1.names (typed.first h y.0 y.1.holder y.1.typed) in (to (omega arith)).0) }

  -- what has a holder has an address among the places
  held-there : (a h : ℕ) → IsAmong h (holders a old) → IsAddress a ps
  held-there a h i = elim (cases_eq a 0) [
    | inl e ↦ absurd (subst (IsAmong h) (ap (λ (b : ℕ). holders b old) e ∙ ap (holders 0) are ∙ none-zero d.types (links_of d.types v) ps) i)
    | inr ne ↦ address-there a (preceded h a ne ((held a ne).precede h i))
  ]

  -- the sorted table can be matched with the places
  can-match : (new : List Naming) → IsNonDecreasingBy (λ n. n.target) new → IsStableByKey (λ n. n.target) nat_cmp old new → AreNamingsOf (λ a. holders a old) ps new
  can-match new sorted stable = record {
    ascend = places.ascend;
    order = order-from-sort new sorted;
    known = each-held (λ a. IsAddress a ps) new (λ a h i. held-there a h (subst (IsAmong h) (holders-sorted old new stable a) i));
    same = λ a i. sym (holders-sorted old new stable a);
  }

  -- one holder is the predecessor
  one-precedes : (a h : ℕ) → a ≢ 0 → holders a old ≡ h ∷ [] → Precedes d.types (links_of d.types v) h a
  one-precedes a h some is = (held a some).precede h (subst (IsAmong h) (sym is) (inl refl))

  -- and there is no other
  one-only : (a h g : ℕ) → a ≢ 0 → holders a old ≡ h ∷ [] → Precedes d.types (links_of d.types v) g a → g ≡ h
  one-only a h g some is before = elim (subst (IsAmong g) is ((held a some).all g before)) [ inl e ↦ e | inr i ↦ absurd i ]

  -- where all places are matched each segment has one predecessor
  matched-are-one : (new : List Naming) → AreMatched (λ a. holders a old) ps new → PredecessorsAreOne d.types (links_of d.types v)
  matched-are-one new is = record {
    some = λ a s. (let i : IsAddress a ps = address-there a s in let o = matched-one (λ a. holders a old) ps new is a i in (o.0, one-precedes a o.0 (address-some a i) o.1));
    one = λ a g h s before other.
        (let i : IsAddress a ps = address-there a s in let o = matched-one (λ a. holders a old) ps new is a i in
        one-only a o.0 g (address-some a i) o.1 before ∙ sym (one-only a o.0 h (address-some a i) o.1 other));
  }

  -- and the table is that of the predecessors
  matched-are-predecessors : (new : List Naming) → AreMatched (λ a. holders a old) ps new → ArePredecessors d.types (links_of d.types v) ps new
  matched-are-predecessors new is = record {
    as_many = matched-length (λ a. holders a old) ps new is;
    target = λ i l. (matched-at (λ a. holders a old) ps new is i l).0;
    holder = λ i l. one-precedes (place_at ps i).address (naming_at new i).holder (address-some (place_at ps i).address (address-at ps i l)) (matched-at (λ a. holders a old) ps new is i l).1;
  }

  -- a segment with one predecessor has neither two nor none
  one-matched : (k : Line) (a h : ℕ) → a ≢ 0 → holders a old ≡ h ∷ [] → IsUnmatchedAs d.types (links_of d.types v) k a → ⊥
  one-matched k a h some is (inl w) = (let less = w.1.4 in let one = one-only a h w.1.0 some is w.1.2 in let two = one-only a h w.1.1 some is w.1.3 in omega arith)
  one-matched k a h some is (inr w) = w.1 h (one-precedes a h some is)

  -- nothing of the phase comes before the first wrong address, if nothing of a lesser number is wrong there
  nothing-before : (f : Fault) (w : IsFirstAt (λ a. holders a old) ps f) (l : Line) → phase_of l ≡ 4
      → ((k : Line) → number_of k w.address < number_of l w.address → IsUnmatchedAs d.types (links_of d.types v) k w.address → ⊥)
      → (k : Line) (a o : ℕ) → phase_of k ≡ 4 → Stands d v k a o → ComesBefore k a l w.address → ⊥
  nothing-before f w l four none k a o is stands before =
      let u = unmatched-as d v k a o is stands in
      elim (before-it k l a w.address (is ∙ sym four) before) [
        | inl less ↦ (let i : IsAddress a ps = address-there a u.0 in let one = w.earlier a i less in one-matched k a one.0 (address-some a i) one.1 u.1)
        | inr both ↦ none k (let n = both.1 in let e : number_of k a ≡ number_of k w.address = ap (number_of k) both.0 in omega arith) (subst (IsUnmatchedAs d.types (links_of d.types v) k) both.0 u.1)
      ]

  -- a segment without holder has no predecessor
  none-stands : (a : ℕ) → IsAddress a ps → holders a old ≡ [] → HasNoPredecessor d.types (links_of d.types v) a 0
  none-stands a i is = (segment-there a i, λ h before. subst (IsAmong h) is ((held a (address-some a i)).all h before), refl)

  -- the second of several holders is the second predecessor
  two-stand : (a h g : ℕ) (hs : List ℕ) → IsAddress a ps → holders a old ≡ h ∷ g ∷ hs → HasTwoPredecessors d.types (links_of d.types v) a g
  two-stand a h g hs i is =
      let all : AreHolders d.types (links_of d.types v) a (h ∷ g ∷ hs) = subst (AreHolders d.types (links_of d.types v) a) is (held a (address-some a i)) in (
        h,
        segment-there a i,
        all.precede h (inl refl),
        all.precede g (inr (inl refl)),
        all.rises.0.0,
        λ x before less. elim (all.all x before) [
          | inl e ↦ e
          | inr (inl e) ↦ absurd (omega arith)
          | inr (inr j) ↦ absurd (let far = above-among g x hs all.rises.1.0 j in omega arith)
        ],
      )

  -- what is wrong with the first wrong address is the least fault
  first-least : (f : Fault) (w : IsFirstAt (λ a. holders a old) ps f) (hs : List ℕ) → holders w.address old ≡ hs → IsWrongFor w.address hs f → IsLeastOf d v 4 f
  first-least f w [] is wrong =
      subst (IsLeastOf d v 4) (sym wrong) (record {
        of = refl;
        stands = none-stands w.address w.there is;
        least = nothing-before f w NoPredecessor refl (λ k less x. elim x [ inl y ↦ (none-stands w.address w.there is).1 y.1.0 y.1.2 | inr y ↦ (let n = y.0 in omega arith) ]);
      })
  first-least f w (h ∷ []) is wrong = absurd wrong
  first-least f w (h ∷ g ∷ hs) is wrong =
      subst (IsLeastOf d v 4) (sym wrong) (record {
        of = refl;
        stands = two-stand w.address h g hs w.there is;
        least = nothing-before f w TwoPredecessors refl (λ k less x. elim x [ inl y ↦ (let n = y.0 in omega arith) | inr y ↦ (let n = y.0 in omega arith) ]);
      })

  -- all that stands of the phase at a segment, by its holders
  wrong-standing : (a : ℕ) (hs : List ℕ) → IsAddress a ps → holders a old ≡ hs → AreStandingAmong d v 4 (λ k b. b ≡ a) (wrong_for a hs)
  wrong-standing a [] i is = record {
    stand = (refl, none-stands a i is, tt);
    among = (refl, tt);
    all = λ k b o of at s. fourth-lines (λ x. Stands d v x b o → IsListed x b (wrong_for a []))
        (λ two. absurd ((none-stands a i is).1 two.0 (subst (Precedes d.types (links_of d.types v) two.0) at two.2)))
        (λ no. inl (refl, sym at)) k of s;
    ascend = (tt, tt);
  }
  wrong-standing a (h ∷ []) i is = none-among d v 4 (λ k b. b ≡ a) (λ k b o of s at. one-matched k a h (address-some a i) is (subst (IsUnmatchedAs d.types (links_of d.types v) k) at (unmatched-as d v k b o of s).1))
  wrong-standing a (h ∷ g ∷ hs) i is = record {
    stand = (refl, two-stand a h g hs i is, tt);
    among = (refl, tt);
    all = λ k b o of at s. fourth-lines (λ x. Stands d v x b o → IsListed x b (wrong_for a (h ∷ g ∷ hs)))
        (λ two. inl (refl, sym at))
        (λ no. absurd (let t = two-stand a h g hs i is in no.1 t.0 (subst (Precedes d.types (links_of d.types v) t.0) (sym at) t.2))) k of s;
    ascend = (tt, tt);
  }

  -- all that stands of it at some of the places
  unmatched-among : (qs : List Place) (ns : List Naming) → ((a : ℕ) → IsAddress a qs → IsAddress a ps) → AreNamingsOf (λ a. holders a old) qs ns
      → AreStandingAmong d v 4 (λ k a. IsAddress a qs) (all_unmatched qs ns)
  unmatched-among [] ns in-ps is = none-among d v 4 (λ k a. IsAddress a []) (λ k a o of s i. i)
  unmatched-among (q ∷ qs) ns in-ps is =
      joined d v 4 (λ k a. a ≡ q.address) (λ k a. IsAddress a qs) (faults_of (match_fault q.address ns)) (all_unmatched qs (behind q.address ns))
      (λ k a l b p at r i. inl (let far = address-from (q.address + 1) b qs is.ascend.0 i in omega arith))
      (subst (AreStandingAmong d v 4 (λ k a. a ≡ q.address)) (sym (first-found (λ a. holders a old) q qs ns is)) (wrong-standing q.address (holders q.address old) (in-ps q.address (inl refl)) refl))
      (unmatched-among qs (behind q.address ns) (λ a i. in-ps a (inr i)) (behind-match (λ a. holders a old) q qs ns is))

  -- a table in which each pointer names the place of its number is matched with the places
  module _ (new : List Naming) (names : NameTheirPlaces ps new) (same : HaveSameHolders ps old new) where
    named-match : AreMatched (λ a. holders a old) ps new
    named-match = names-match (λ a. holders a old) ps new places.ascend names (λ a i. sym (same places.ascend a (address-some a i)))

    -- each segment has one predecessor
    pub named-one : PredecessorsAreOne d.types (links_of d.types v)
    named-one = matched-are-one new named-match

    -- and the table is that of the predecessors
    pub named-table : ArePredecessors d.types (links_of d.types v) ps new
    named-table = matched-are-predecessors new named-match

  -- what the matching finds is what the phase asks
  module _ (new : List Naming) (sorted : IsNonDecreasingBy (λ n. n.target) new) (stable : IsStableByKey (λ n. n.target) nat_cmp old new) where
    -- nothing is found
    by-none : (o : Option Fault) → IsJudged (λ a. holders a old) ps new o → IfNone o (PredecessorsAreOne d.types (links_of d.types v)) × IfNone o (ArePredecessors d.types (links_of d.types v) ps new)
    by-none None is = (matched-are-one new is, matched-are-predecessors new is)
    by-none (Some f) is = (tt, tt)

    -- something is found
    by-some : (o : Option Fault) → IsJudged (λ a. holders a old) ps new o → IfSome o (λ f. IsLeastOf d v 4 f)
    by-some None is = tt
    by-some (Some f) is = (let w : IsFirstAt (λ a. holders a old) ps f = first-at (λ a. holders a old) ps f places.ascend is in first-least f w (holders w.address old) refl w.wrong)

    -- where none is found each segment has one predecessor
    pub unmatched-none : IfNone (first_unmatched ps new) (PredecessorsAreOne d.types (links_of d.types v))
    unmatched-none = (by-none (first_unmatched ps new) (judged (λ a. holders a old) ps new (can-match new sorted stable))).0

    -- and the sorted table is that of the predecessors
    pub unmatched-table : IfNone (first_unmatched ps new) (ArePredecessors d.types (links_of d.types v) ps new)
    unmatched-table = (by-none (first_unmatched ps new) (judged (λ a. holders a old) ps new (can-match new sorted stable))).1

    -- what is found is the least fault
    pub unmatched-least : IfSome (first_unmatched ps new) (λ f. IsLeastOf d v 4 f)
    unmatched-least = by-some (first_unmatched ps new) (judged (λ a. holders a old) ps new (can-match new sorted stable))

    -- all that is listed is all that stands
    pub unmatched-standing : AreStanding d v 4 (all_unmatched ps new)
    unmatched-standing = all-standing d v 4 (λ k a. IsAddress a ps) (all_unmatched ps new) (λ k a o of s. address-there a (unmatched-as d v k a o of s).0)
        (unmatched-among ps new (λ a i. i) (can-match new sorted stable))
