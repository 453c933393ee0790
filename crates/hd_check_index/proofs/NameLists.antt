-- All entries that name no root of their key, block by block, and all roots that no entry names.
use Rattle.std.proofs.Common.{◌≡◌, inl, inr, ℕ, ◌+◌, ◌*◌, ◌<◌, ◌≤◌, List, [], ◌++◌, length, false, Option, Some, None, IfNone, IfSome, slice_index, refl, sym, ap, subst, ◌∙◌, arith}
use Rattle.std.specs.Prelude.{◌==◌}
use Rattle.std.specs.List.{list_any}
use Rattle.std.specs.List.Sorted.{IsPermutation}
use Rattle.std.proofs.lemmas.Bool.{cases_Bool, false≢true}
use Rattle.std.proofs.lemmas.List.Sorted.{IsPermutation-sym}
use Rattle.hd_dbd.specs.Hierarchy.{Database}
use Rattle.hd_volume.specs.Volumes.{VolumeState, block_at}
use Rattle.hd_volume.specs.Entries.{Entry, entries_in}
use Rattle.hd_volume.specs.Indexes.{root_key_length, IsAmong}
use Rattle.hd_index_blocks.specs.IndexSets.{index_entries}
use Rattle.hd_image.specs.IndexFaults.{names_a_root}
use Rattle.hd_image.specs.Records.{links_of}
use Rattle.hd_image.specs.Standing.{Stands, phase_of}
use Rattle.hd_image.specs.declared.line.Line.{Line}
use Rattle.hd_image.specs.declared.line.Line.TheVariants.{WrongEntry, NoEntry}
use Rattle.hd_check_blocks.specs.declared.fault.Fault.{Fault}
use Rattle.hd_check_blocks.specs.declared.places.Place.{Place}
use Rattle.hd_check_blocks.specs.Listing.{AreStanding, faults_of}
use Rattle.hd_check_blocks.specs.Places.{ArePlaces, place_at}
use Rattle.hd_check_blocks.proofs.Listing.{AreStandingAmong, IsSeen, none-among, only-told, is-told, seen-more, seen-all}
use Rattle.hd_check_blocks.proofs.Lookups.{among}
use Rattle.hd_check_index.specs.IndexPhases.{IsSequence, AreNamed, AllNameRoots, first_wrong_in}
use Rattle.hd_check_index.specs.Listed.{fault_naming, IsUnnamed}
use Rattle.hd_check_index.proofs.NamedEntries.{above-at, in-order, table-chain, chain-table, nothing-found}
use Rattle.hd_check_index.proofs.UnnamedRoots.{among-moved}
use Rattle.hd_check_index.proofs.PassedBlocks.{IsPassed, ArePlacesUp, numbers-up, one-number, none-passed, passed-more, passed-all, told-naming}
use Rattle.hd_check_index.proofs.IndexLines.{twelfth-line, last-line}

-- ---- wrong entries

-- where a block of a sequence begins
abbrev pub place-of : VolumeState → List ℕ → ℕ → ℕ
place-of v bs i = slice_index bs i * v.size

-- the blocks before one of a sequence with a wrong entry are listed
abbrev pub AreListedTo : Database → VolumeState → List ℕ → ℕ → List Fault → Type 0
AreListedTo d v bs i faults = AreStandingAmong d v 12 (λ k a. IsPassed (place-of v bs) i a) faults

module _ (d : Database) (v : VolumeState) (some : 0 < v.size) (bs : List ℕ) (h : IsSequence (root_key_length d.types) v bs) where
  places-up : ArePlacesUp (place-of v bs) (length bs)
  places-up = numbers-up (slice_index bs) (length bs) v.size some (λ i j less within. in-order 0 bs i j h.ascend less within) (λ i within. above-at 0 bs i h.ascend within)

  entry-line : (k : Line) (a o : ℕ) → phase_of k ≡ 12 → Stands d v k a o → Stands d v WrongEntry a o
  entry-line k a o is s = subst (λ (x : Line). Stands d v x a o) (twelfth-line k is) s

  -- each wrong entry is in a block of the sequence
  placed : (a o : ℕ) → Stands d v WrongEntry a o → (j : ℕ) × (j < length bs) × (place-of v bs j ≡ a)
  placed a o t = (let j = chain-table d v bs h t.0 t.1 in (j.0, j.1, ap (λ (n : ℕ). n * v.size) j.2 ∙ sym t.3))

  -- at first no block is judged
  pub none-wrong : AreListedTo d v bs 0 []
  none-wrong = none-passed d v 12 (place-of v bs)
      (λ k a o is s none. (let j = placed a o (entry-line k a o is s) in let up = places-up.some j.0 j.1 in let same = j.2 in omega arith))

  -- one block more
  pub wrong-more : (i : ℕ) (found : Option ℕ) (faults : List Fault) → i < length bs → IfNone found (AllNameRoots d v (slice_index bs i)) → IfSome found (λ a. first_wrong_in d v (slice_index bs i) ≡ Some a) → AreListedTo d v bs i faults
      → AreListedTo d v bs (i + 1) (faults ++ faults_of (fault_naming found WrongEntry (place-of v bs i)))
  wrong-more i found faults within none some_found before =
      passed-more d v 12 (place-of v bs) (length bs) places-up i faults (faults_of (fault_naming found WrongEntry (place-of v bs i))) within before
      (told-naming d v 12 WrongEntry (place-of v bs i) found refl (λ k o is s. twelfth-line k is) (right found none) (wrong found some_found))
    where
      k : ℕ
      k = root_key_length d.types

      right : (x : Option ℕ) → IfNone x (AllNameRoots d v (slice_index bs i)) → IfNone x ((o : ℕ) → Stands d v WrongEntry (place-of v bs i) o → ⊥)
      right None all = λ o t.
          (let same : slice_index bs i ≡ t.0 = one-number (slice_index bs i) t.0 v.size some t.3 in
          nothing-found (λ (e : Entry). names_a_root d (links_of d.types v) e) (entries_in k (block_at v t.0)) o (subst (AllNameRoots d v) same all) t.2)
      right (Some a) all = tt

      wrong : (x : Option ℕ) → IfSome x (λ a. first_wrong_in d v (slice_index bs i) ≡ Some a) → IfSome x (λ other. Stands d v WrongEntry (place-of v bs i) other)
      wrong None w = tt
      wrong (Some a) w = (slice_index bs i, table-chain d v bs h i within, w, refl)

  -- all blocks
  pub wrong-all : (i : ℕ) (faults : List Fault) → length bs ≤ i → AreListedTo d v bs i faults → AreStanding d v 12 faults
  wrong-all i faults whole before = passed-all d v 12 (place-of v bs) (length bs) i faults whole (λ k a o is s. inr (placed a o (entry-line k a o is s))) before

-- ---- roots without an entry

-- the roots before a place that no entry names are listed
abbrev pub AreRootsTo : Database → VolumeState → List Place → ℕ → List Fault → Type 0
AreRootsTo d v ps i faults = AreStandingAmong d v 13 (λ k a. IsSeen ps i a) faults

module _ (d : Database) (v : VolumeState) (ps : List Place) (places : ArePlaces d.types v ps) where
  root-line : (k : Line) (a o : ℕ) → phase_of k ≡ 13 → Stands d v k a o → Stands d v NoEntry a o
  root-line k a o is s = subst (λ (x : Line). Stands d v x a o) (last-line k is) s

  pub roots-none : AreRootsTo d v ps 0 []
  roots-none = none-among d v 13 (λ k a. IsSeen ps 0 a)
      (λ k a o is s q. elim q [ inl e ↦ (let t = root-line k a o is s in let behind = t.0.some in let none : a ≡ 0 = e in omega arith) | inr i ↦ (let l = i.1 in omega arith) ])

  -- one place more
  pub roots-more : (named sorted : List ℕ) → AreNamed (root_key_length d.types) v named → IsPermutation named sorted → (i : ℕ) (found : Option Fault) (faults : List Fault) → i < length ps
      → IfNone found ((place_at ps i).code ≡ 1 → IsAmong (place_at ps i).address sorted) → IfSome found (λ f. IsUnnamed (place_at ps i) sorted f) → AreRootsTo d v ps i faults → AreRootsTo d v ps (i + 1) (faults ++ faults_of found)
  roots-more named sorted n p i found faults within none some_found before =
      seen-more d v 13 ps places i faults (faults_of found) within before (only-told d v 13 NoEntry (place_at ps i).address found refl last-line (right found none) (wrong found some_found))
    where
      place : Place
      place = place_at ps i

      code : (links_of d.types v).code place.address ≡ place.code
      code = (places.there place (among ps i within)).1

      right : (x : Option Fault) → IfNone x (place.code ≡ 1 → IsAmong place.address sorted) → IfNone x ((o : ℕ) → Stands d v NoEntry place.address o → ⊥)
      right (Some f) h = tt
      right None h = λ o t.
          (let there = n.there place.address (among-moved sorted named place.address (IsPermutation-sym named sorted p) (h (sym code ∙ t.1))) in false≢true (sym t.2 ∙ there))

      wrong : (x : Option Fault) → IfSome x (λ f. IsUnnamed place sorted f) → IfSome x (λ f. (f.line ≡ NoEntry) × (f.address ≡ place.address) × Stands d v f.line f.address f.other)
      wrong None h = tt
      wrong (Some f) h =
          let unnamed : list_any (λ e. e.address == place.address) (index_entries (root_key_length d.types) v) ≡ false = elim (cases_Bool (list_any (λ e. e.address == place.address) (index_entries (root_key_length d.types) v))) [
            | inl any ↦ absurd (h.1 (among-moved named sorted place.address p (n.all place.address any)))
            | inr other ↦ other
          ] in
          is-told d v NoEntry place.address 0 f h.2 ((places.there place (among ps i within)).0, code ∙ h.0, unnamed, refl)

  -- all places
  pub roots-all : (i : ℕ) (faults : List Fault) → length ps ≤ i → AreRootsTo d v ps i faults → AreStanding d v 13 faults
  roots-all i faults whole before = seen-all d v 13 ps places i faults whole (λ k a o is s. (root-line k a o is s).0.here) before
