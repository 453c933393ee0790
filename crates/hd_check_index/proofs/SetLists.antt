-- All that is wrong with the blocks of an index set, block by block.
use Rattle.std.proofs.Common.{◌≡◌, ◌≢◌, inl, inr, ℕ, ◌*◌, ◌+◌, ◌<◌, ◌≤◌, List, [], ◌++◌, length, Bool, true, false, refl, sym, ap, subst, ◌∙◌}
use Rattle.std.specs.List.Sorted.{IsPermutation}
use Rattle.std.proofs.lemmas.List.Sorted.{IsPermutation-sym}
use Rattle.hd_dbd.specs.Hierarchy.{Database}
use Rattle.hd_volume.specs.Headers.{header_of}
use Rattle.hd_volume.specs.Volumes.{VolumeState, IsKind}
use Rattle.hd_volume.specs.Indexes.{root_key_length}
use Rattle.hd_index_blocks.specs.IndexSets.{level_in}
use Rattle.hd_index_blocks.specs.Faultless.{IsFormRight, AreFormsRight}
use Rattle.hd_index_blocks.specs.LevelFaults.{IsWrongTop, IsWrongForm, StandsNowhere}
use Rattle.hd_image.specs.Standing.{Stands, phase_of}
use Rattle.hd_image.specs.declared.line.Line.{Line}
use Rattle.hd_image.specs.declared.line.Line.TheVariants.{WrongTop, WrongForm, NamedTwice, UnreachedBlock}
use Rattle.hd_check_blocks.specs.declared.fault.Fault.{Fault}
use Rattle.hd_check_blocks.specs.Listing.{AreStanding, faults_of}
use Rattle.hd_check_blocks.proofs.Listing.{AreStandingAmong}
use Rattle.hd_check_index.specs.declared.table.NotedBlock.{NotedBlock}
use Rattle.hd_check_index.specs.declared.rows.Standing.{Standing}
use Rattle.hd_check_index.specs.Tables.{AreIndexBlocks, noted}
use Rattle.hd_check_index.specs.NotedBlocks.{noted_at}
use Rattle.hd_check_index.specs.NamedBlocks.{names_of}
use Rattle.hd_check_index.specs.Listed.{fault_unless, top_fault}
use Rattle.hd_check_index.specs.Marks.{IsTwice, mark_at}
use Rattle.hd_check_index.specs.Rows.{AreRows}
use Rattle.hd_check_index.specs.Standings.{AreMarks, numbers_of}
use Rattle.hd_check_index.proofs.NotedTables.{among, index-of, above-at, in-order, one-index}
use Rattle.hd_check_index.proofs.BlockForms.{one-level, form-not-wrong, level-own}
use Rattle.hd_check_index.proofs.TwiceNumbers.{twice-moved}
use Rattle.hd_check_index.proofs.TwiceNamedBelow.{twice-stands, stands-twice}
use Rattle.hd_check_index.proofs.Reached.{index-unreached, unmarked-stands}
use Rattle.hd_check_index.proofs.LateLines.{of-set}
use Rattle.hd_check_index.proofs.PassedBlocks.{IsPassed, ArePlacesUp, numbers-up, one-number, none-passed, header-passed, passed-more, passed-all, told-unless}
use Rattle.hd_check_index.proofs.IndexLines.{ninth-line, tenth-line, at-header, at-block, where-8, where-9, where-10, behind-9, behind-10}

-- where a block of a table begins
abbrev pub place-of : VolumeState → List NotedBlock → ℕ → ℕ
place-of v bs i = (noted_at bs i).number * v.size

-- what is wrong with the header, or with the blocks before one of a table, is listed
abbrev pub AreListedTo : Database → VolumeState → ℕ → List NotedBlock → ℕ → List Fault → Type 0
AreListedTo d v phase bs i faults = AreStandingAmong d v phase (λ k a. IsPassed (place-of v bs) i a) faults

module _ (d : Database) (v : VolumeState) (some : 0 < v.size) (bs : List NotedBlock) (table : AreIndexBlocks v bs) where
  pub places-up : ArePlacesUp (place-of v bs) (length bs)
  places-up = numbers-up (λ i. (noted_at bs i).number) (length bs) v.size some (λ i j less within. in-order 0 bs i j table.ascend less within) (λ i within. above-at 0 bs i table.ascend within)

  -- each index block has a place
  pub placed : (n a : ℕ) → IsKind v 2 n → a ≡ n * v.size → IsPassed (place-of v bs) (length bs) a
  placed n a kind same =
      let i = index-of (noted v n) bs (table.all n kind) in
      inr (i.0, i.1, ap (λ (b : NotedBlock). b.number * v.size) i.2 ∙ sym same)

  -- one block more
  more : (phase i : ℕ) (line : Line) (faults : List Fault) (right : Bool) → i < length bs → phase_of line ≡ phase → ((k : Line) (o : ℕ) → phase_of k ≡ phase → Stands d v k (place-of v bs i) o → k ≡ line)
      → (right ≡ true → (o : ℕ) → Stands d v line (place-of v bs i) o → ⊥) → (right ≡ false → Stands d v line (place-of v bs i) 0) → AreListedTo d v phase bs i faults
      → AreListedTo d v phase bs (i + 1) (faults ++ faults_of (fault_unless right line (place-of v bs i)))
  more phase i line faults right within of only good bad h =
      passed-more d v phase (place-of v bs) (length bs) places-up i faults (faults_of (fault_unless right line (place-of v bs i))) within h
      (told-unless d v phase line (place-of v bs i) 0 right of only good bad)

  pub kind-at : (i : ℕ) → i < length bs → IsKind v 2 (noted_at bs i).number
  kind-at i within = (table.there (noted_at bs i) (among bs i within)).0

  -- ---- the eighth phase

  -- the header is judged
  pub top-told : (top : ℕ) (right : Bool) → (header_of v.image).version ≢ 1 → (right ≡ true → StandsNowhere (IsWrongTop v)) → (right ≡ false → IsWrongTop v 0 top)
      → AreListedTo d v 8 bs 0 (faults_of (top_fault right top))
  top-told top right later good bad =
      header-passed d v 8 (place-of v bs) (faults_of (top_fault right top))
      (told-unless d v 8 WrongTop 0 top right refl (λ k o is s. at-header d v some k o is s) (λ e o s. good e 0 o (of-set v _ _ later s)) (λ e. inr (later, bad e)))

  -- and one block more
  pub form-more : (i : ℕ) (faults : List Fault) (right : Bool) → (header_of v.image).version ≢ 1 → i < length bs → (right ≡ true → IsFormRight (root_key_length d.types) v (noted_at bs i).level (noted_at bs i).number)
      → (right ≡ false → IsWrongForm (root_key_length d.types) v (place-of v bs i) 0) → AreListedTo d v 8 bs i faults
      → AreListedTo d v 8 bs (i + 1) (faults ++ faults_of (fault_unless right WrongForm (place-of v bs i)))
  form-more i faults right later within good bad h =
      let k : ℕ = root_key_length d.types in
      let up = places-up.some i within in
      let b : NotedBlock = noted_at bs i in
      let n : ℕ = b.number in
      more 8 i WrongForm faults right within refl (λ l o is s. at-block d v some l (place-of v bs i) o up is s)
      (λ e o s.
      (let w = of-set v _ _ later s in
      let same : n ≡ w.0 = one-number n w.0 v.size some w.3 in
      let level : b.level ≡ w.1 = one-level b.level w.1 (sym (level-own v bs b table (among bs i within)) ∙ ap (λ (m : ℕ). level_in v m) same ∙ w.2) in
      form-not-wrong k v (place-of v bs i) o w (subst (λ (l : ℕ). IsFormRight k v l w.0) level (subst (λ (m : ℕ). IsFormRight k v b.level m) same (good e)))))
      (λ e. inr (later, bad e)) h

  -- ---- the ninth phase

  -- at first no block is judged
  pub none-twice : AreListedTo d v 9 bs 0 []
  none-twice = none-passed d v 9 (place-of v bs) (behind-9 d v some)

  -- one block more
  pub twice-more : (top : ℕ) (names : List ℕ) → top ≡ (header_of v.image).top → (header_of v.image).version ≢ 1 → AreFormsRight (root_key_length d.types) v → IsPermutation (names_of (root_key_length d.types) v top bs) names
      → (i : ℕ) (faults : List Fault) (right : Bool) → i < length bs
      → (right ≡ true → IsTwice (noted_at bs i).number names → ⊥) → (right ≡ false → IsTwice (noted_at bs i).number names) → AreListedTo d v 9 bs i faults
      → AreListedTo d v 9 bs (i + 1) (faults ++ faults_of (fault_unless right NamedTwice (place-of v bs i)))
  twice-more top names is later forms moved i faults right within good bad h =
      let k : ℕ = root_key_length d.types in
      let n : ℕ = (noted_at bs i).number in
      more 9 i NamedTwice faults right within refl (λ l o of s. ninth-line l of)
      (λ e o s.
      (let t = of-set v _ _ later s in
      let same : t.0 ≡ n = one-number t.0 n v.size some (sym t.9) in
      good e (subst (λ (m : ℕ). IsTwice m names) same (twice-moved t.0 (names_of k v top bs) names moved (stands-twice k v bs top table is (place-of v bs i) o t)))))
      (λ e. inr (later, twice-stands k v bs top table is forms n (kind-at i within).later (twice-moved n names (names_of k v top bs) (IsPermutation-sym _ _ moved) (bad e)))) h

  -- ---- the tenth phase

  pub none-unreached : AreListedTo d v 10 bs 0 []
  none-unreached = none-passed d v 10 (place-of v bs) (behind-10 d v some)

  pub unreached-more : (rows : List Standing) (marks : List Bool) → (header_of v.image).version ≢ 1 → AreRows (root_key_length d.types) v rows → AreMarks bs (numbers_of rows) marks → (i : ℕ) (faults : List Fault) → i < length bs
      → AreListedTo d v 10 bs i faults → AreListedTo d v 10 bs (i + 1) (faults ++ faults_of (fault_unless (mark_at marks i) UnreachedBlock (place-of v bs i)))
  unreached-more rows marks later are marked i faults within h =
      let k : ℕ = root_key_length d.types in
      let n : ℕ = (noted_at bs i).number in
      more 10 i UnreachedBlock faults (mark_at marks i) within refl (λ l o of s. tenth-line l of)
      (λ e o s.
      (let j = index-unreached k v bs table rows are marks marked (place-of v bs i) o (of-set v _ _ later s) in
      let same : n ≡ (noted_at bs j.0).number = one-number n (noted_at bs j.0).number v.size some j.3 in
      let index : i ≡ j.0 = one-index 0 bs i j.0 table.ascend within j.1 same in
      j.2 (ap (mark_at marks) (sym index) ∙ e)))
      (λ e. inr (later, unmarked-stands k v bs table rows are marks marked i within e)) h

  -- ---- all blocks

  pub all-forms-listed : (i : ℕ) (faults : List Fault) → length bs ≤ i → AreListedTo d v 8 bs i faults → AreStanding d v 8 faults
  all-forms-listed i faults whole h = passed-all d v 8 (place-of v bs) (length bs) i faults whole (λ k a o is s. elim (where-8 d v some k a o is s) [ inl e ↦ inl e | inr w ↦ placed w.0 a w.1 w.2 ]) h

  pub all-twice-listed : (i : ℕ) (faults : List Fault) → length bs ≤ i → AreListedTo d v 9 bs i faults → AreStanding d v 9 faults
  all-twice-listed i faults whole h = passed-all d v 9 (place-of v bs) (length bs) i faults whole (λ k a o is s. (let w = where-9 d v some k a o is s in placed w.0 a w.1 w.2)) h

  pub all-unreached-listed : (i : ℕ) (faults : List Fault) → length bs ≤ i → AreListedTo d v 10 bs i faults → AreStanding d v 10 faults
  all-unreached-listed i faults whole h = passed-all d v 10 (place-of v bs) (length bs) i faults whole (λ k a o is s. (let w = where-10 d v some k a o is s in placed w.0 a w.1 w.2)) h
