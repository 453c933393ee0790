-- The entries of an index block, one by one, and what names a root.
use Rattle.std.proofs.Common.{◌≡◌, inl, inr, ℕ, suc, ◌+◌, ◌-◌, ◌*◌, ◌<◌, List, [], ◌∷◌, ◌++◌, map, Bool, true, false, Option, Some, None, Ok, Err, Result, IsTrue, refl, sym, ap, subst, ◌∙◌, arith, ne_eqb}
use Rattle.std.specs.Prelude.{◌==◌, ◌&&◌, not, find, nat_eq, bytes_eq, option_map}
use Rattle.std.specs.List.{list_all}
use Rattle.std.proofs.lemmas.Bool.{cases_eq, cases_Bool, eq-eqb, eqb-true, and_parts, false≢true}
use Rattle.hd_dbd.specs.Types.{SegmentType}
use Rattle.hd_dbd.specs.Hierarchy.{Database}
use Rattle.hd_dbd.specs.Rows.{key_of}
use Rattle.hd_volume.specs.Volumes.{VolumeState}
use Rattle.hd_volume.specs.Entries.{Entry, entries_at}
use Rattle.hd_prefix.specs.Fields.{code_of, bytes_of, IsWhole}
use Rattle.hd_links.specs.Links.{Links, IsSegment, segment_at}
use Rattle.hd_dbd.specs.declared.answer.Refused.{Refused}
use Rattle.hd_dbd.specs.declared.answer.Refused.TheVariants.{Memory}
use Rattle.hd_check_blocks.specs.Finding.{WhereNone, WhereSome}
use Rattle.hd_volume.specs.Calls.{IsRead}
use Rattle.hd_image.specs.Records.{links_of}
use Rattle.hd_image.specs.IndexFaults.{names_a_root}
use Rattle.hd_image.proofs.OneImage.{links-same}
use Rattle.hd_index_blocks.specs.Fields.{entry_in}
use Rattle.hd_check_blocks.specs.declared.places.Place.{Place}
use Rattle.hd_check_blocks.specs.Lending.{IsLent}
use Rattle.hd_check_blocks.specs.Places.{IsPlaceOf, ArePlaces}
use Rattle.hd_index_blocks.proofs.EntryLemmas.{entries-split}

-- ---- three tests

all-three : (x y z n : Bool) → x ≡ true → y ≡ true → z ≡ n → n ≡ (x && y && z)
all-three x y z n p q r = rw (p, q, r) refl

no-first : (x y z : Bool) → x ≡ false → false ≡ (x && y && z)
no-first x y z p = rw p refl

no-second : (x y z : Bool) → y ≡ false → false ≡ (x && y && z)
no-second true y z p = rw p refl
no-second false y z p = refl

-- an address that is not 0
some-address : (a : ℕ) → not (a == 0) ≡ true → 0 < a
some-address a h = elim (cases_eq a 0) [
  | inl e ↦ absurd (false≢true (sym (ap not (eq-eqb a 0 e)) ∙ h))
  | inr ne ↦ omega arith
]

-- ---- roots

module _ (types : List SegmentType) (v : VolumeState) where
  -- the test whether a root stands at an address
  abbrev pub is-root : ℕ → Bool
  is-root a = not (a == 0) && (links_of types v).here a && ((links_of types v).code a == 1)

  -- a place says whether a root stands there
  pub placed-root : (ps : List Place) → ArePlaces types v ps → (a code : ℕ) → IsPlaceOf (record { address = a; code = code }) ps → nat_eq code 1 ≡ is-root a
  placed-root ps h a code i =
      let t = h.there (record { address = a; code = code }) i in
      all-three (not (a == 0)) ((links_of types v).here a) ((links_of types v).code a == 1) (nat_eq code 1) (ap not (ne_eqb a 0 (λ z. (let some = t.0.some in omega arith)))) t.0.here (ap (λ (x : ℕ). x == 1) t.1)

  -- and where no place is no root stands
  pub unplaced-root : (ps : List Place) → ArePlaces types v ps → (a : ℕ) → ((code : ℕ) → IsPlaceOf (record { address = a; code = code }) ps → ⊥) → false ≡ is-root a
  unplaced-root ps h a none = elim (cases_eq a 0) [
    | inl z ↦ no-first (not (a == 0)) ((links_of types v).here a) ((links_of types v).code a == 1) (ap not (eq-eqb a 0 z))
    | inr ne ↦ elim (cases_Bool ((links_of types v).here a)) [
      | inl here ↦ absurd (none ((links_of types v).code a) (h.all a (record { some = omega arith; here = here })))
      | inr absent ↦ no-second (not (a == 0)) ((links_of types v).here a) ((links_of types v).code a == 1) absent
    ]
  ]

  -- what stands at a root's address
  pub root-there : (a : ℕ) → is-root a ≡ true → IsSegment (links_of types v) a × ((links_of types v).code a ≡ 1)
  root-there a h =
      let code = and_parts _ _ h in
      let both = and_parts _ _ code.0 in
      (record { some = some-address a both.0; here = both.1 }, eqb-true ((links_of types v).code a) 1 code.1)

  -- the key of a root that is lent is that of its record
  pub root-key : (a : ℕ) (segment key : List ℕ) (b : Bool) → IsLent types v a segment → is-root a ≡ true
      → (IsWhole types 1 segment → b ≡ bytes_eq (key_of types (record { code = 1; bytes = bytes_of types 1 segment })) key)
      → b ≡ (is-root a && bytes_eq (key_of types (segment_at (links_of types v) a)) key)
  root-key a segment key b lent root is =
      let own = (root-there a root).1 in
      let same : code_of segment ≡ 1 = ap code_of (sym lent.stored) ∙ own in
      let whole : bytes_eq (key_of types (record { code = 1; bytes = bytes_of types 1 segment })) key ≡ bytes_eq (key_of types (segment_at (links_of types v) a)) key =
      ap (λ (c : ℕ). bytes_eq (key_of types (record { code = c; bytes = bytes_of types c segment })) key) (sym same)
      ∙ ap (λ (s : List ℕ). bytes_eq (key_of types (record { code = code_of s; bytes = bytes_of types (code_of s) s })) key) (sym lent.stored) in
      is (subst (λ (c : ℕ). IsWhole types c segment) same lent.whole) ∙ whole ∙ ap (λ (t : Bool). t && bytes_eq (key_of types (segment_at (links_of types v) a)) key) (sym root)

-- ---- tests of entries

-- what holds of some entries and of one more holds of all
pub all-more : (test : Entry → Bool) (es : List Entry) (e : Entry) → list_all test es ≡ true → test e ≡ true → list_all test (es ++ (e ∷ [])) ≡ true
all-more test [] e h t = rw t refl
all-more test (x ∷ xs) e h t = (let d = and_parts (test x) (list_all test xs) h in let r = all-more test xs e d.1 t in rw (d.0, r) refl)

-- the first that fails a test
pub first-failing : (test : Entry → Bool) (es : List Entry) (e : Entry) (rest : List Entry) → list_all test es ≡ true → test e ≡ false → find (λ x. not (test x)) (es ++ (e ∷ rest)) ≡ Some e
first-failing test [] e rest h t = rw t refl
first-failing test (x ∷ xs) e rest h t = (let d = and_parts (test x) (list_all test xs) h in let r = first-failing test xs e rest d.1 t in rw d.0 r)

-- where all pass none fails
pub none-failing : (test : Entry → Bool) (es : List Entry) → list_all test es ≡ true → find (λ x. not (test x)) es ≡ None
none-failing test [] h = refl
none-failing test (e ∷ es) h = (let d = and_parts (test e) (list_all test es) h in rw d.0 (none-failing test es d.1))

-- the addresses of some entries and of one more
pub addresses-more : (es : List Entry) (e : Entry) → map (λ (x : Entry). x.address) (es ++ (e ∷ [])) ≡ map (λ (x : Entry). x.address) es ++ (e.address ∷ [])
addresses-more [] e = refl
addresses-more (x ∷ xs) e = ap (λ (ns : List ℕ). x.address ∷ ns) (addresses-more xs e)

-- the first entry of a block that fails a test is the one behind those that pass
pub wrong-found : (test : Entry → Bool) (k : ℕ) (b : List ℕ) (count i address : ℕ) → list_all test (entries_at k b 12 i) ≡ true → test (entry_in k b i) ≡ false → i < count → address ≡ (entry_in k b i).address
    → option_map (λ (e : Entry). e.address) (find (λ e. not (test e)) (entries_at k b 12 count)) ≡ Some address
wrong-found test k b count i address before wrong low at =
    let m : ℕ = count - suc i in
    let number : count ≡ i + suc m = omega arith in
    let found : find (λ e. not (test e)) (entries_at k b 12 count) ≡ Some (entry_in k b i) =
    ap (λ (n : ℕ). find (λ e. not (test e)) (entries_at k b 12 n)) number ∙ ap (λ (es : List Entry). find (λ e. not (test e)) es) (entries-split k b 12 i (suc m))
    ∙ first-failing test (entries_at k b 12 i) (entry_in k b i) (entries_at k b (12 + i * (k + 4) + k + 4) m) before wrong in
    ap (λ (o : Option Entry). option_map (λ (e : Entry). e.address) o) found ∙ ap (λ (a : ℕ). Some a) (sym at)

-- what is judged of an entry is so of the image
pub judged-same : (d : Database) (v w : VolumeState) (key : List ℕ) (address : ℕ) (e : Entry) (b : Bool) → w.image ≡ v.image → w.size ≡ v.size → w.sizes ≡ v.sizes → key ≡ e.key → address ≡ e.address
    → b ≡ names_a_root d (links_of d.types w) (record { key = key; address = address }) → b ≡ names_a_root d (links_of d.types v) e
judged-same d v w key address e b image size sizes own at h =
    h ∙ ap (λ (m : Links). names_a_root d m (record { key = key; address = address })) (links-same d.types v w image size sizes)
    ∙ ap (λ (x : Entry). names_a_root d (links_of d.types v) x) (λ j. record { key = own j; address = at j })

-- what is found in one state of a volume says what it does in another
pub where-none : {P Q : Type 0} (v w : VolumeState) (r : Result (Option ℕ) Refused) → (IsTrue v.is_sound → IsTrue w.is_sound) → (IsTrue v.is_sound → P → Q) → WhereNone w r P → WhereNone v r Q
where-none v w (Ok None) now f h = λ sound. f sound (h (now sound))
where-none v w (Ok (Some a)) now f h = λ sound. tt
where-none v w (Err e) now f h = tt

pub where-some : {P Q : ℕ → Type 0} (v w : VolumeState) (r : Result (Option ℕ) Refused) → (IsTrue v.is_sound → IsTrue w.is_sound) → (IsTrue v.is_sound → (a : ℕ) → P a → Q a) → WhereSome w r P → WhereSome v r Q
where-some v w (Ok None) now f h = λ sound. tt
where-some v w (Ok (Some a)) now f h = λ sound. f sound a (h (now sound))
where-some v w (Err e) now f h = tt

-- a refusal for want of memory changes nothing that was read
pub read-memory : {A B : Type 0} {u v : VolumeState} {x : A} → IsRead {T = A} u (Ok x) v → IsRead {T = B} u (Err Memory) v
read-memory h = record {
  call = record { counts = h.call.counts; sound = h.call.sound; committed = h.call.committed; size = h.call.size; sizes = h.call.sizes; first = h.call.first; plain = h.call.plain; space = h.call.space };
  image = h.image;
  stands = h.stands;
  room = h.room;
}
