-- All that is wrong with the blocks of a chain, block by block.
use Rattle.std.proofs.Common.{◌≡◌, inl, inr, ℕ, ◌*◌, ◌+◌, ◌<◌, ◌≤◌, List, [], ◌++◌, length, Bool, true, false, refl, sym, ap, subst, ◌∙◌}
use Rattle.std.specs.List.Sorted.{IsPermutation}
use Rattle.std.proofs.lemmas.Bool.{false≢true}
use Rattle.std.proofs.lemmas.List.Sorted.{IsPermutation-sym}
use Rattle.hd_dbd.specs.Hierarchy.{Database}
use Rattle.hd_volume.specs.Headers.{header_of}
use Rattle.hd_volume.specs.Volumes.{VolumeState, IsKind}
use Rattle.hd_volume.specs.Entries.{entry_blocks}
use Rattle.hd_volume.specs.Indexes.{root_key_length, IsAmong}
use Rattle.hd_image.specs.IndexFaults.{IsWrongTop}
use Rattle.hd_image.specs.Standing.{Stands, phase_of}
use Rattle.hd_image.specs.declared.line.Line.{Line}
use Rattle.hd_image.specs.declared.line.Line.TheVariants.{WrongTop, WrongForm, NamedTwice, UnreachedBlock}
use Rattle.hd_check_blocks.specs.declared.fault.Fault.{Fault}
use Rattle.hd_check_blocks.specs.Listing.{AreStanding, faults_of}
use Rattle.hd_check_blocks.proofs.Listing.{AreStandingAmong}
use Rattle.hd_check_index.specs.declared.noted_blocks.ChainedBlock.{ChainedBlock}
use Rattle.hd_check_index.specs.IndexPhases.{AreIndexBlocks, IsTopRight, IsRightIndexBlock, IsIndexRight, AreMarks, index_block_of, index_block_at, names_of}
use Rattle.hd_check_index.specs.Listed.{fault_unless, top_fault}
use Rattle.hd_check_index.specs.Marks.{IsTwice, mark_at}
use Rattle.hd_check_index.proofs.IndexTables.{among, index-of, above-at, in-order}
use Rattle.hd_check_index.proofs.FormFaults.{wrong-form-of, form-not-wrong, top-not-wrong}
use Rattle.hd_check_index.proofs.TwiceNumbers.{twice-moved}
use Rattle.hd_check_index.proofs.TwiceNamed.{twice-stands, stands-twice}
use Rattle.hd_check_index.proofs.LateLines.{of-chain}
use Rattle.hd_check_index.proofs.PassedBlocks.{IsPassed, ArePlacesUp, numbers-up, one-number, none-passed, header-passed, passed-more, passed-all, told-unless}
use Rattle.hd_check_index.proofs.IndexLines.{ninth-line, tenth-line, at-header, at-block, where-8, where-9, where-10, behind-9, behind-10}

-- where a block of a table begins
abbrev pub place-of : VolumeState → List ChainedBlock → ℕ → ℕ
place-of v bs i = (index_block_at bs i).number * v.size

-- what is wrong with the header, or with the blocks before one of a table, is listed
abbrev pub AreListedTo : Database → VolumeState → ℕ → List ChainedBlock → ℕ → List Fault → Type 0
AreListedTo d v phase bs i faults = AreStandingAmong d v phase (λ k a. IsPassed (place-of v bs) i a) faults

module _ (d : Database) (v : VolumeState) (some : 0 < v.size) (bs : List ChainedBlock) (table : AreIndexBlocks v bs) where
  places-up : ArePlacesUp (place-of v bs) (length bs)
  places-up = numbers-up (λ i. (index_block_at bs i).number) (length bs) v.size some (λ i j less within. in-order 0 bs i j table.ascend less within) (λ i within. above-at 0 bs i table.ascend within)

  -- each index block has a place
  placed : (n a : ℕ) → IsKind v 2 n → a ≡ n * v.size → IsPassed (place-of v bs) (length bs) a
  placed n a kind same =
      let i = index-of (index_block_of v n) bs (table.all n kind) in
      inr (i.0, i.1, ap (λ (b : ChainedBlock). b.number * v.size) i.2 ∙ sym same)

  -- one block more
  more : (phase i : ℕ) (line : Line) (faults : List Fault) (right : Bool) → i < length bs → phase_of line ≡ phase → ((k : Line) (o : ℕ) → phase_of k ≡ phase → Stands d v k (place-of v bs i) o → k ≡ line)
      → (right ≡ true → (o : ℕ) → Stands d v line (place-of v bs i) o → ⊥) → (right ≡ false → Stands d v line (place-of v bs i) 0) → AreListedTo d v phase bs i faults
      → AreListedTo d v phase bs (i + 1) (faults ++ faults_of (fault_unless right line (place-of v bs i)))
  more phase i line faults right within of only good bad h =
      passed-more d v phase (place-of v bs) (length bs) places-up i faults (faults_of (fault_unless right line (place-of v bs i))) within h
      (told-unless d v phase line (place-of v bs i) 0 right of only good bad)

  pub kind-at : (i : ℕ) → i < length bs → IsKind v 2 (index_block_at bs i).number
  kind-at i within = (table.there (index_block_at bs i) (among bs i within)).0

  -- ---- the eighth phase

  -- the header is judged
  pub top-told : (top : ℕ) (right : Bool) → (header_of v.image).version ≡ 1 → (right ≡ true → IsTopRight v) → (right ≡ false → IsWrongTop v 0 top)
      → AreListedTo d v 8 bs 0 (faults_of (top_fault right top))
  top-told top right one good bad =
      header-passed d v 8 (place-of v bs) (faults_of (top_fault right top))
      (told-unless d v 8 WrongTop 0 top right refl (λ k o is s. at-header d v some k o is s) (λ e o s. top-not-wrong v 0 o (of-chain v _ _ one s) (good e)) (λ e. inl (one, bad e)))

  -- and one block more
  pub form-more : (i : ℕ) (faults : List Fault) (right : Bool) → (header_of v.image).version ≡ 1 → i < length bs → (right ≡ true → IsRightIndexBlock (root_key_length d.types) v (index_block_at bs i).number)
      → (right ≡ false → IsRightIndexBlock (root_key_length d.types) v (index_block_at bs i).number → ⊥) → AreListedTo d v 8 bs i faults
      → AreListedTo d v 8 bs (i + 1) (faults ++ faults_of (fault_unless right WrongForm (place-of v bs i)))
  form-more i faults right one within good bad h =
      let up = places-up.some i within in
      let n : ℕ = (index_block_at bs i).number in
      more 8 i WrongForm faults right within refl (λ k o is s. at-block d v some k (place-of v bs i) o up is s)
      (λ e o s.
      (let w = of-chain v _ _ one s in
      let same : w.0 ≡ n = one-number w.0 n v.size some (sym w.2) in
      form-not-wrong (root_key_length d.types) v (place-of v bs i) o w (subst (IsRightIndexBlock (root_key_length d.types) v) (sym same) (good e))))
      (λ e. inl (one, wrong-form-of (root_key_length d.types) v n (kind-at i within) (bad e))) h

  -- ---- the ninth phase

  -- at first no block is judged
  pub none-twice : AreListedTo d v 9 bs 0 []
  none-twice = none-passed d v 9 (place-of v bs) (behind-9 d v some)

  -- one block more
  pub twice-more : (top : ℕ) (names : List ℕ) → top ≡ (header_of v.image).top → IsIndexRight (root_key_length d.types) v → IsPermutation (names_of top bs) names → (i : ℕ) (faults : List Fault) (right : Bool) → i < length bs
      → (right ≡ true → IsTwice (index_block_at bs i).number names → ⊥) → (right ≡ false → IsTwice (index_block_at bs i).number names) → AreListedTo d v 9 bs i faults
      → AreListedTo d v 9 bs (i + 1) (faults ++ faults_of (fault_unless right NamedTwice (place-of v bs i)))
  twice-more top names is index moved i faults right within good bad h =
      let n : ℕ = (index_block_at bs i).number in
      more 9 i NamedTwice faults right within refl (λ k o of s. ninth-line k of)
      (λ e o s.
      (let t = of-chain v _ _ index.version s in
      let same : t.0 ≡ n = one-number t.0 n v.size some (sym t.7) in
      good e (subst (λ (m : ℕ). IsTwice m names) same (twice-moved t.0 (names_of top bs) names moved (stands-twice v bs top table is (place-of v bs i) o t)))))
      (λ e. inl (index.version, twice-stands v bs top table is (root_key_length d.types) n index (kind-at i within).later (twice-moved n names (names_of top bs) (IsPermutation-sym _ _ moved) (bad e)))) h

  -- ---- the tenth phase

  pub none-unreached : AreListedTo d v 10 bs 0 []
  none-unreached = none-passed d v 10 (place-of v bs) (behind-10 d v some)

  pub unreached-more : (marks : List Bool) (chain : List ℕ) → (header_of v.image).version ≡ 1 → chain ≡ entry_blocks v → AreMarks bs chain marks → (i : ℕ) (faults : List Fault) → i < length bs → AreListedTo d v 10 bs i faults
      → AreListedTo d v 10 bs (i + 1) (faults ++ faults_of (fault_unless (mark_at marks i) UnreachedBlock (place-of v bs i)))
  unreached-more marks chain one walked marked i faults within h =
      let n : ℕ = (index_block_at bs i).number in
      let A : List ℕ → Type 0 = λ ns. IsAmong n ns in
      more 10 i UnreachedBlock faults (mark_at marks i) within refl (λ k o of s. tenth-line k of)
      (λ e o s.
      (let t = of-chain v _ _ one s in
      let same : n ≡ t.0 = one-number n t.0 v.size some t.3 in
      t.2 (subst (λ (m : ℕ). IsAmong m (entry_blocks v)) same (subst A walked (marked.passed i within e)))))
      (λ e. inl (one, (n, kind-at i within, (λ a. false≢true (sym e ∙ marked.marked i within (subst A (sym walked) a))), refl, refl))) h

  -- ---- all blocks

  pub all-forms-listed : (i : ℕ) (faults : List Fault) → length bs ≤ i → AreListedTo d v 8 bs i faults → AreStanding d v 8 faults
  all-forms-listed i faults whole h = passed-all d v 8 (place-of v bs) (length bs) i faults whole (λ k a o is s. elim (where-8 d v some k a o is s) [ inl e ↦ inl e | inr w ↦ placed w.0 a w.1 w.2 ]) h

  pub all-twice-listed : (i : ℕ) (faults : List Fault) → length bs ≤ i → AreListedTo d v 9 bs i faults → AreStanding d v 9 faults
  all-twice-listed i faults whole h = passed-all d v 9 (place-of v bs) (length bs) i faults whole (λ k a o is s. (let w = where-9 d v some k a o is s in placed w.0 a w.1 w.2)) h

  pub all-unreached-listed : (i : ℕ) (faults : List Fault) → length bs ≤ i → AreListedTo d v 10 bs i faults → AreStanding d v 10 faults
  all-unreached-listed i faults whole h = passed-all d v 10 (place-of v bs) (length bs) i faults whole (λ k a o is s. (let w = where-10 d v some k a o is s in placed w.0 a w.1 w.2)) h
