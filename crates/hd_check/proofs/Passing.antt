-- What is counted of a volume that passes, and what follows from what the phases find.
use Rattle.std.proofs.Common.{◌≡◌, inl, inr, ℕ, suc, ◌+◌, ◌*◌, ◌<◌, ◌≤◌, List, [], ◌∷◌, length, map, cond, IsTrue, None, refl, sym, ap, subst, ◌∙◌, arith}
use Rattle.std.specs.Prelude.{◌==◌}
use Rattle.std.proofs.lemmas.Bool.{cases_eq, eq-eqb, ne_eqb, cond-true, cond-false}
use Rattle.std.proofs.lemmas.Nat.{mul-le}
use Rattle.std.proofs.lemmas.List.{length-map}
use Rattle.hd_dbd.specs.Types.{SegmentType}
use Rattle.hd_dbd.specs.Hierarchy.{Database}
use Rattle.hd_dbd.specs.Segment.{Segment}
use Rattle.hd_dbd.specs.Rows.{key_of}
use Rattle.hd_dbd.specs.DatabaseRules.{well_formed}
use Rattle.hd_dbd.specs.Forest.{Forest, empty, node, sequence}
use Rattle.hd_dbd.proofs.StoredSizes.{block_size-bounds}
use Rattle.hd_volume.specs.Headers.{header_of}
use Rattle.hd_volume.specs.Volumes.{VolumeState}
use Rattle.hd_volume.specs.Entries.{Entry}
use Rattle.hd_volume.specs.Indexes.{IsAmong}
use Rattle.hd_links.specs.Links.{Links, IsSegment, IsLinkGraph, segment_at}
use Rattle.hd_links.specs.Placed.{Placed, forest_of, count, nowhere}
use Rattle.hd_links.specs.Steps.{rows_of, addresses, RowsHaveAddresses}
use Rattle.hd_links.specs.LastRows.{roots_of}
use Rattle.hd_links.proofs.Types.{Ordered, ordered}
use Rattle.hd_links.proofs.Forms.{Formed, formed}
use Rattle.hd_links.proofs.Build.{zero_or}
use Rattle.hd_links.proofs.Counts.{is_at, one_at, node_there}
use Rattle.hd_links.proofs.Numbers.{rows_length, rows_addressed}
use Rattle.hd_links.proofs.Unique.{unique}
use Rattle.hd_image.specs.Records.{links_of, IsVolumeOf}
use Rattle.hd_image.specs.Holding.{root_entries, HoldsPlaced, HoldsForest}
use Rattle.hd_image.specs.Right.{IsRight}
use Rattle.hd_image.proofs.Found.{records-link}
use Rattle.hd_image.proofs.Sorted.{IsIn}
use Rattle.hd_image.proofs.RootEntries.{names-root, each-root}
use Rattle.hd_image.proofs.RightHolds.{right-holds}
use Rattle.hd_image.proofs.NoFault.{no-fault}
use Rattle.hd_check_blocks.specs.declared.fault.Fault.{Fault}
use Rattle.hd_check_blocks.specs.declared.places.Place.{Place}
use Rattle.hd_check.specs.declared.checks.Passed.{Passed}
use Rattle.hd_check_blocks.specs.Places.{IsPlaceOf, AreFrom, PlacesAscend}
use Rattle.hd_check.specs.Checks.{IsPassed, IsFaulty}
use Rattle.hd_check.specs.Joining.{IsFirstFault, IsFoundRight, roots_among}
use Rattle.hd_check.proofs.Tallies.{AreDifferent, no-more, among-at, at-among, different-at}

-- ---- places

-- the addresses of some places
abbrev stands-at : List Place → List ℕ
stands-at ps = map (λ p. p.address) ps

-- the addresses of those of roots
abbrev roots-at : List Place → List ℕ
roots-at [] = []
roots-at (p ∷ ps) = cond (p.code == 1) (p.address ∷ roots-at ps) (roots-at ps)

-- they are as many as are counted
roots-length : (ps : List Place) → roots_among ps ≡ length (roots-at ps)
roots-length [] = refl
roots-length (p ∷ ps) = (let rest = roots-length ps in elim (cases_eq p.code 1) [
  | inl e ↦ rw (eq-eqb p.code 1 e) (let one : 1 + roots_among ps ≡ suc (length (roots-at ps)) = omega arith in one)
  | inr ne ↦ rw (ne_eqb p.code 1 ne) (let none : 0 + roots_among ps ≡ length (roots-at ps) = omega arith in none)
])

-- an address of places is that of one
placed-at : (a : ℕ) (ps : List Place) → IsAmong a (stands-at ps) → (p : Place) × IsPlaceOf p ps × (p.address ≡ a)
placed-at a [] i = absurd i
placed-at a (p ∷ ps) (inl e) = (p, inl refl, sym e)
placed-at a (p ∷ ps) (inr i) = (let r = placed-at a ps i in (r.0, inr r.1, r.2))

-- and that of a place is one of them
at-place : (p : Place) (ps : List Place) → IsPlaceOf p ps → IsAmong p.address (stands-at ps)
at-place p [] i = absurd i
at-place p (q ∷ qs) (inl e) = inl (ap (λ (x : Place). x.address) e)
at-place p (q ∷ qs) (inr i) = inr (at-place p qs i)

-- so with roots
root-placed : (a : ℕ) (ps : List Place) → IsAmong a (roots-at ps) → IsPlaceOf (record { address = a; code = 1 }) ps
root-placed a [] i = absurd i
root-placed a (p ∷ ps) i = elim (cases_eq p.code 1) [
  | inl e ↦ (let j : IsAmong a (p.address ∷ roots-at ps) = subst (IsAmong a) (cond-true (p.code == 1) _ _ (eq-eqb p.code 1 e)) i in
      elim j [
        | inl at ↦ inl (let code = sym e in λ k. record { address = at k; code = code k })
        | inr k ↦ inr (root-placed a ps k)
      ])
  | inr ne ↦ inr (root-placed a ps (subst (IsAmong a) (cond-false (p.code == 1) _ _ (ne_eqb p.code 1 ne)) i))
]

at-root : (a : ℕ) (ps : List Place) → IsPlaceOf (record { address = a; code = 1 }) ps → IsAmong a (roots-at ps)
at-root a [] i = absurd i
at-root a (p ∷ ps) i = elim (cases_eq p.code 1) [
  | inl e ↦ subst (IsAmong a) (sym (cond-true (p.code == 1) (p.address ∷ roots-at ps) (roots-at ps) (eq-eqb p.code 1 e)))
      (elim i [ inl is ↦ inl (ap (λ (x : Place). x.address) is) | inr j ↦ inr (at-root a ps j) ])
  | inr ne ↦ subst (IsAmong a) (sym (cond-false (p.code == 1) (p.address ∷ roots-at ps) (roots-at ps) (ne_eqb p.code 1 ne)))
      (elim i [ inl is ↦ absurd (ne (sym (ap (λ (x : Place). x.code) is))) | inr j ↦ at-root a ps j ])
]

-- places stand from where they begin
from-on : (b a : ℕ) (ps : List Place) → AreFrom b ps → IsAmong a (stands-at ps) → b ≤ a
from-on b a [] f i = absurd i
from-on b a (p ∷ ps) f (inl e) = (let l = f.0 in omega arith)
from-on b a (p ∷ ps) f (inr i) = from-on b a ps f.1 i

-- places in order have different addresses
all-different : (ps : List Place) → PlacesAscend ps → AreDifferent (stands-at ps)
all-different [] h = tt
all-different (p ∷ ps) h = (λ i. (let l = from-on (p.address + 1) p.address ps h.0 i in absurd (omega arith)), all-different ps h.1)

-- so have those of roots
roots-different : (ps : List Place) → PlacesAscend ps → AreDifferent (roots-at ps)
roots-different [] h = tt
roots-different (p ∷ ps) h = elim (cases_eq p.code 1) [
  | inl e ↦ subst AreDifferent (sym (cond-true (p.code == 1) (p.address ∷ roots-at ps) (roots-at ps) (eq-eqb p.code 1 e)))
      (λ i. (let l = from-on (p.address + 1) p.address ps h.0 (at-place _ ps (root-placed p.address ps i)) in absurd (omega arith)), roots-different ps h.1)
  | inr ne ↦ subst AreDifferent (sym (cond-false (p.code == 1) (p.address ∷ roots-at ps) (roots-at ps) (ne_eqb p.code 1 ne))) (roots-different ps h.1)
]

-- places in order below a bound are no more than it
few-places : (b a : ℕ) (ps : List Place) → a ≤ b → AreFrom a ps → PlacesAscend ps → ((p : Place) → IsPlaceOf p ps → p.address < b) → a + length ps ≤ b
few-places b a [] l f h below = omega arith
few-places b a (p ∷ ps) l f h below =
    let own = below p (inl refl) in
    let from = f.0 in
    let rest = few-places b (p.address + 1) ps (omega arith) h.0 h.1 (λ q i. below q (inr i)) in
    omega arith

-- all stand from 0 on
from-zero : (ps : List Place) → AreFrom 0 ps
from-zero [] = tt
from-zero (p ∷ ps) = (omega arith, from-zero ps)

-- ---- roots of a forest

-- the addresses of its roots
abbrev root-addresses : Forest Placed → List ℕ
root-addresses f = map (λ p. p.address) (roots_of f)

-- a root is a node
root-counted : (a : ℕ) (f : Forest Placed) → IsAmong a (root-addresses f) → 0 < count a f
root-counted a empty i = absurd i
root-counted a (node p below behind) (inl e) = (let one : is_at p.address a ≡ 1 = one_at p.address a (sym e) in omega arith)
root-counted a (node p below behind) (inr i) = (let c : 0 < count a behind = root-counted a behind i in omega arith)

-- where each node has an address of its own the roots have different ones
own-addresses : (f : Forest Placed) → ((a : ℕ) → count a f ≤ 1) → AreDifferent (root-addresses f)
own-addresses empty once = tt
own-addresses (node p below behind) once = (
  λ i.
      (let more = root-counted p.address behind i in
      let one : is_at p.address p.address ≡ 1 = one_at p.address p.address refl in
      let most : is_at p.address p.address + (count p.address below + count p.address behind) ≤ 1 = once p.address in
      absurd (omega arith)),
  own-addresses behind (λ a. (let most : is_at p.address a + (count a below + count a behind) ≤ 1 = once a in omega arith)),
)

-- a root has an entry
root-entry : (types : List SegmentType) (a : ℕ) (f : Forest Placed) → IsAmong a (root-addresses f) → (e : Entry) × IsIn e (root_entries types f) × (e.address ≡ a)
root-entry types a empty i = absurd i
root-entry types a (node p below behind) (inl e) = (record { key = key_of types p.segment; address = p.address }, inl refl, sym e)
root-entry types a (node p below behind) (inr i) = (let r = root-entry types a behind i in (r.0, inr r.1, r.2))

-- and an entry is that of a root
entry-root : (types : List SegmentType) (e : Entry) (f : Forest Placed) → IsIn e (root_entries types f) → IsAmong e.address (root-addresses f)
entry-root types e empty i = absurd i
entry-root types e (node p below behind) (inl is) = inl (ap (λ (x : Entry). x.address) is)
entry-root types e (node p below behind) (inr i) = inr (entry-root types e behind i)

-- ---- what follows

module _ (d : Database) (v : VolumeState) (ps : List Place) (found : IsFoundRight d v ps) where
  abbrev m : Links
  m = links_of d.types v

  -- the volume
  of : IsVolumeOf d v
  of = found.blocks.volume

  -- nothing is wrong with it
  right : IsRight d v
  right = record { sized = record { size = of.size; sizes = of.sizes }; blocks = found.blocks.blocks; pointers = found.pointers; index = found.index; entries = found.entries }

  -- the forest that it holds
  abbrev held : Forest Placed
  held = (right-holds d v of.fit right).0

  -- it is held
  holds : HoldsPlaced d v held
  holds = (right-holds d v of.fit right).1

  -- alone
  one-held : (g : Forest Segment) → HoldsForest d v g → g ≡ forest_of held
  one-held g h = sym h.1 ∙ ap forest_of (unique d.types (ordered d.block_size d.frspc d.types of.fit) m h.0 held h.2.records holds.records)

  -- each place is a segment's
  segment-there : (a : ℕ) → IsAmong a (stands-at ps) → IsSegment m a
  segment-there a i = (let p = placed-at a ps i in subst (IsSegment m) p.2 (found.blocks.stand.there p.0 p.1).0)

  -- there are fewer than 2 to the 32
  pub few : length ps < 4294967296
  few =
      let header = of.formatted.header in
      let whole = header.whole in
      let within = header.within in
      let bound = header.bound in
      let size : v.size ≤ 32768 = (let most = (block_size-bounds d.block_size d.frspc d.types of.fit).1 in let own = of.size in omega arith) in
      let most : (header_of v.image).count * v.size ≤ 65536 * 32768 = mul-le (header_of v.image).count v.size 65536 32768 (omega arith) size in
      let below = few-places (length v.image) 0 ps (omega arith) (from-zero ps) found.blocks.stand.ascend
      (λ p i. (records-link d v of.fit of).below p.address (found.blocks.stand.there p i).0) in
      omega arith

  -- rows and places are as many
  segments-length : length ps ≡ length (rows_of held)
  segments-length =
      let A : RowsHaveAddresses m held = rows_addressed d.types m held holds.records in
      let rows : length (addresses held) ≡ length (rows_of held) = length-map (sequence held) (λ (p : Placed). p.address) ∙ sym (rows_length held) in
      let places : length (stands-at ps) ≡ length ps = length-map ps (λ (p : Place). p.address) in
      let most = no-more (stands-at ps) (addresses held) (all-different ps found.blocks.stand.ascend)
      (λ a i.
      let r = A.each a (segment-there a i) in
      let within = r.1 in
      subst (λ (x : ℕ). IsAmong x (addresses held)) r.2 (among-at (addresses held) r.0 (omega arith))) in
      let least = no-more (addresses held) (stands-at ps) (different-at (addresses held) (λ i j k l e. A.once i j (omega arith) (omega arith) e))
      (λ a i.
      let r = at-among a (addresses held) i in
      let within = r.1 in
      let there : IsSegment m a = subst (IsSegment m) r.2 (A.there r.0 (omega arith)) in
      at-place _ ps (found.blocks.stand.all a there)) in
      omega arith

  -- the types are in order
  order : Ordered d.types
  order = ordered d.block_size d.frspc d.types of.fit

  -- the records are a link graph
  graph : IsLinkGraph d.types (length v.image) m
  graph = records-link d v of.fit of

  -- the forest has the shape of the database
  shape : Formed d.types 0 held
  shape = formed d.types order 0 None held holds.records.fits

  -- each address is that of one node at most
  one-node : (a : ℕ) → count a held ≤ 1
  one-node a = elim (zero_or (count a held)) [
    | inl z ↦ omega arith
    | inr some ↦ (let e : count a held ≡ 1 = holds.records.once a (node_there d.types m a nowhere held holds.records.lies.nodes some) in omega arith)
  ]

  -- roots and their places are as many
  roots-are : roots_among ps ≡ length (roots_of held)
  roots-are =
      let roots : length (root-addresses held) ≡ length (roots_of held) = length-map (roots_of held) (λ (p : Placed). p.address) in
      let most = no-more (roots-at ps) (root-addresses held) (roots-different ps found.blocks.stand.ascend)
      (λ a i.
      let t = found.blocks.stand.there _ (root-placed a ps i) in
      let c : count a held ≡ 1 = holds.records.once a t.0 in
      let entry = each-root d.block_size d.frspc d.types order (length v.image) m graph of.fit a nowhere held holds.records.lies.nodes shape (omega arith) t.1 in
      entry-root d.types (record { key = key_of d.types (segment_at m a); address = a }) held entry) in
      let least = no-more (root-addresses held) (roots-at ps) (own-addresses held one-node)
      (λ a i.
      let e = root-entry d.types a held i in
      let n = names-root d.block_size d.frspc d.types order (length v.image) m graph of.fit nowhere held e.0 holds.records.lies.nodes shape e.1 in
      let there : IsSegment m a = subst (IsSegment m) e.2 n.0 in
      let code : m.code a ≡ 1 = ap m.code (sym e.2) ∙ n.1 in
      at-root a ps (subst (λ (c : ℕ). IsPlaceOf (record { address = a; code = c }) ps) code (found.blocks.stand.all a there))) in
      let counted = roots-length ps in
      omega arith

  -- the volume passes with these counts
  pub passes : (p : Passed) → p.blocks ≡ (header_of v.image).count → p.segments ≡ length ps → p.roots ≡ roots_among ps → IsPassed d v p
  passes p blocks segments roots = record {
    placed = held;
    holds = holds;
    one = one-held;
    blocks = blocks;
    segments = segments ∙ segments-length;
    roots = roots ∙ roots-are;
  }

-- a volume in which a fault stands holds no forest
pub fails : (d : Database) (v : VolumeState) (f : Fault) → IsTrue (well_formed d.block_size d.frspc d.types) → IsFirstFault d v f → IsFaulty d v f
fails d v f fit h = record {
  least = h;
  none = λ g held. no-fault d v g f.line f.address f.other fit held h.stands;
}
