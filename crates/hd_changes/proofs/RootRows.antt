-- The roots of a held forest as rows, and as entries of the index.
use Rattle.std.proofs.Common.{◌≡◌, ℕ, ◌+◌, ◌-◌, ◌<◌, List, [], ◌∷◌, ◌++◌, length, Bool, true, false, ◌==◌, Option, Some, None, IsTrue, refl, sym, ap, subst, ◌∙◌, arith, inl, inr}
use Rattle.std.specs.Prelude.{bytes_eq, is_some, option_map, map, not, ◌&&◌}
use Rattle.std.specs.Option.{option_map_or}
use Rattle.std.proofs.lemmas.Bool.{not-true, and_parts, and_from, cases_Bool, cases_lt, cond-true, eq-eqb, eqb-true, false≢true}
use Rattle.std.proofs.lemmas.Slice.Eq.{bytes_eq-Decides}
use Rattle.hd_dbd.specs.Types.{SegmentType}
use Rattle.hd_dbd.specs.Hierarchy.{Database, parent_of}
use Rattle.hd_dbd.specs.DatabaseRules.{well_formed}
use Rattle.hd_dbd.specs.Segment.{Segment}
use Rattle.hd_dbd.specs.Rows.{key_of, twins_in_order}
use Rattle.hd_dbd.specs.Paths.{row_at, level_at, parent_row, path_of, have_one_parent}
use Rattle.hd_dbd.specs.Forest.{Forest}
use Rattle.hd_dbd.specs.Laws.{IsInSequence}
use Rattle.hd_dbd.proofs.InSequence.{in_sequence}
use Rattle.hd_dbd.proofs.LevelLaw.{Leveled, leveled, depth_below}
use Rattle.hd_dbd.proofs.Names.{option_eq-Decides}
use Rattle.hd_dbd.proofs.RowPaths.{path_follows}
use Rattle.hd_calls.proofs.Searches.{least_some, least_no}
use Rattle.hd_volume.specs.Volumes.{VolumeState}
use Rattle.hd_volume.specs.Entries.{Entry}
use Rattle.hd_volume.specs.Indexes.{key_less, keys_ascend}
use Rattle.hd_links.specs.Links.{Links, IsLinkGraph, segment_at, is_child_type}
use Rattle.hd_links.proofs.ValidRows.{held_valid}
use Rattle.hd_links.specs.Placed.{Placed, nowhere, count}
use Rattle.hd_links.specs.Steps.{rows_of, address_at, path_at, RowsHaveAddresses}
use Rattle.hd_links.proofs.Types.{Ordered, ordered}
use Rattle.hd_links.proofs.Forms.{Formed, formed}
use Rattle.hd_links.proofs.Numbers.{rows_addressed}
use Rattle.hd_image.specs.Records.{links_of}
use Rattle.hd_image.specs.Holding.{root_entries, HoldsPlaced}
use Rattle.hd_image.proofs.Found.{records-link}
use Rattle.hd_image.proofs.Sorted.{IsIn}
use Rattle.hd_image.proofs.RootEntries.{root-code, unique-less, roots-ascend, names-root, each-root}
use Rattle.hd_index.specs.Maps.{address_of, address_from}
use Rattle.hd_index_blocks.proofs.Keys.{less-other}
use Rattle.hd_changes.specs.Roots.{is_root, key_at, is_root_with, is_root_from, first_row, address_of_first}
use Rattle.hd_changes.specs.Found.{RootsAreOfTheFirstType, RootsStandAlone, RootsAscend, IndexAnswersRoots, IndexTellsOfKeys, IsToldRoot, IndexTellsOfRoots, FirstRootsFollowLesser}
use Rattle.hd_changes.proofs.EntriesFound.{HasKey, key-found, key-missing, IsLeast, least-found, all-lesser}

-- ---- the first row that passes

-- it is the one that passes and before which none does
first-is : (rows : List Segment) (test : ℕ → Bool) (i : ℕ) → i < length rows → test i ≡ true → ((j : ℕ) → j < i → test j ≡ false) → first_row rows test ≡ Some i
first-is rows test i within passes none = by-answer (first_row rows test) refl
  where
    by-answer : (o : Option ℕ) → first_row rows test ≡ o → first_row rows test ≡ Some i
    by-answer None is = absurd (false≢true (sym (least_no test (length rows - 0) 0 is i (omega arith) (omega arith)) ∙ passes))
    by-answer (Some k) is =
        (let F = least_some test (length rows - 0) 0 k is in
        elim (cases_lt i k) [
          | inl before ↦ absurd (false≢true (sym (F.3 i (omega arith) before) ∙ passes))
          | inr behind ↦ elim (cases_lt k i) [
            | inl before ↦ absurd (false≢true (sym (none k before) ∙ F.2))
            | inr same ↦ is ∙ ap (λ (n : ℕ). Some n) (let e : k ≡ i = omega arith in e)
          ]
        ])

-- and there is none where none passes
none-is : (rows : List Segment) (test : ℕ → Bool) → ((j : ℕ) → j < length rows → test j ≡ false) → first_row rows test ≡ None
none-is rows test none = by-answer (first_row rows test) refl
  where
    by-answer : (o : Option ℕ) → first_row rows test ≡ o → first_row rows test ≡ None
    by-answer None is = is
    by-answer (Some k) is = (let F = least_some test (length rows - 0) 0 k is in absurd (false≢true (sym (none k (omega (arith, F.1))) ∙ F.2)))

-- where a root does not pass as one from a key on, its key is below it
below-key : (types : List SegmentType) (rows : List Segment) (key : List ℕ) (i : ℕ) → is_root rows i ≡ true → is_root_from types rows key i ≡ false → key_less (key_at types rows i) key ≡ true
below-key types rows key i root fails = elim (cases_Bool (key_less (key_at types rows i) key)) [
  | inl less ↦ less
  | inr not-less ↦ absurd (false≢true (sym fails ∙ and_from _ _ root (ap not not-less)))
]

pub follow-lesser : FirstRootsFollowLesser
follow-lesser types rows key = (
  λ i is.
      (let F = least_some (is_root_from types rows key) (length rows - 0) 0 i is in
      let both = and_parts (is_root rows i) (not (key_less (key_at types rows i) key)) F.2 in (
        omega (arith, F.1),
        both.0,
        not-true (key_less (key_at types rows i) key) both.1,
        λ j before root. below-key types rows key j root (F.3 j (omega arith) before),
      )),
  λ is j within root. below-key types rows key j root (least_no (is_root_from types rows key) (length rows - 0) 0 is j (omega arith) (omega arith)),
)

-- ---- the roots of a held forest

module _ (d : Database) (v : VolumeState) (f : Forest Placed) (H : HoldsPlaced d v f) where
  abbrev m : Links
  m = links_of d.types v

  abbrev rows : List Segment
  rows = rows_of f

  abbrev es : List Entry
  es = root_entries d.types f

  fit : IsTrue (well_formed d.block_size d.frspc d.types)
  fit = H.volume.fit

  G : IsLinkGraph d.types (length v.image) m
  G = records-link d v fit H.volume

  O : Ordered d.types
  O = ordered d.block_size d.frspc d.types fit

  L : Leveled d.types
  L = leveled d.block_size d.frspc d.types fit

  A : RowsHaveAddresses m f
  A = rows_addressed d.types m f H.records

  F : Formed d.types 0 f
  F = formed d.types O 0 None f H.records.fits

  -- the rows are in hierarchic sequence
  S : IsInSequence d.types rows
  S = in_sequence d.types L rows (held_valid d.types m f L H.records)

  -- a root is of the first type
  code-one : (i : ℕ) → is_root rows i ≡ true → (row_at rows i).code ≡ 1
  code-one i root = eqb-true (row_at rows i).code 1 root

  -- which has no parent
  none-above : (i : ℕ) → i < length rows → is_root rows i ≡ true → parent_of d.types (row_at rows i).code ≡ None
  none-above i l root = O.parent 0 (row_at rows i) (S.fit i l) (ap (is_child_type d.types 0) (code-one i root))

  -- so it stands at level 1
  level-one : (i : ℕ) → i < length rows → is_root rows i ≡ true → level_at d.types rows i ≡ 1
  level-one i l root = L.law (row_at rows i) (S.fit i l) ∙ ap (λ (o : Option ℕ). depth_below d.types o + 1) (none-above i l root)

  -- and a row at level 1 is a root
  top-root : (i : ℕ) → i < length rows → level_at d.types rows i ≡ 1 → is_root rows i ≡ true
  top-root i l top =
      eq-eqb (row_at rows i).code 1
      (root-code d.types (row_at rows i).code (O.child 0 (row_at rows i) (S.fit i l) (by-parent (parent_of d.types (row_at rows i).code) refl)))
    where
      by-parent : (o : Option ℕ) → parent_of d.types (row_at rows i).code ≡ o → parent_of d.types (row_at rows i).code ≡ None
      by-parent None is = is
      by-parent (Some p) is = absurd
          (let law : level_at d.types rows i ≡ depth_below d.types (parent_of d.types (row_at rows i).code) + 1 = L.law (row_at rows i) (S.fit i l) in
          let deep : depth_below d.types (parent_of d.types (row_at rows i).code) ≡ depth_below d.types (Some p) = ap (depth_below d.types) is in
          let some : 0 < depth_below d.types (Some p) = L.parents (row_at rows i) p (S.fit i l) is in omega arith)

  -- no row stands above a root
  no-parent : (i : ℕ) → i < length rows → is_root rows i ≡ true → parent_row d.types rows i ≡ None
  no-parent i l root = by-parent (parent_row d.types rows i) (S.parents i l ∙ none-above i l root)
    where
      by-parent : (o : Option ℕ) → option_map (λ j. (row_at rows j).code) o ≡ None → o ≡ None
      by-parent None is = refl
      by-parent (Some p) is = cc

  stands-alone : (i : ℕ) → i < length rows → is_root rows i ≡ true → path_at d.types f i ≡ address_at f i ∷ []
  stands-alone i l root =
      ap (λ (path : List ℕ). map (λ k. address_at f k) path)
      (path_follows d.types rows i ∙ ap (λ (o : Option ℕ). option_map_or (λ p. path_of d.types rows p) o [] ++ i ∷ []) (no-parent i l root))

  -- of two roots the earlier has the lesser key
  keys-rise : (i j : ℕ) → is_root rows i ≡ true → is_root rows j ≡ true → i < j → j < length rows → key_less (key_at d.types rows i) (key_at d.types rows j) ≡ true
  keys-rise i j r s before within =
      let below : i < length rows = omega arith in
      let one : (row_at rows i).code ≡ 1 = code-one i r in
      let two : (row_at rows j).code ≡ 1 = code-one j s in
      let together : have_one_parent d.types rows i j ≡ true = (option_eq-Decides _ _).1 (no-parent i below r ∙ sym (no-parent j within s)) in
      let order : twins_in_order d.types (row_at rows i) (row_at rows j) ≡ true
      = sym (cond-true ((row_at rows i).code == (row_at rows j).code) _ _ (eq-eqb (row_at rows i).code (row_at rows j).code (one ∙ sym two))) ∙ S.siblings i j before within together in
      unique-less d.block_size d.frspc d.types (row_at rows i) (row_at rows j) fit one two (S.fit j within) order

  -- ---- their entries

  -- an entry of the roots is that of a root
  pub record RowOf (e : Entry) : Type 0 where
    pub row : ℕ
    pub within : row < length rows
    pub root : is_root rows row ≡ true
    pub address : address_at f row ≡ e.address
    pub key : key_at d.types rows row ≡ e.key

  pub row-of : (e : Entry) → IsIn e es → RowOf e
  row-of e i =
      let N = names-root d.block_size d.frspc d.types O (length v.image) m G fit nowhere f e H.records.lies.nodes F i in
      let R = A.each e.address N.0 in
      let same : segment_at m e.address ≡ row_at rows R.0 = ap (segment_at m) (sym R.2) ∙ A.same R.0 R.1 in
      record {
        row = R.0;
        within = R.1;
        root = eq-eqb (row_at rows R.0).code 1 (ap (λ (s : Segment). s.code) (sym same) ∙ N.1);
        address = R.2;
        key = ap (key_of d.types) (sym same) ∙ N.2;
      }

  -- and each root has one
  abbrev entry-at : ℕ → Entry
  entry-at i = record { key = key_at d.types rows i; address = address_at f i }

  pub has-entry : (i : ℕ) → i < length rows → is_root rows i ≡ true → IsIn (entry-at i) es
  has-entry i l root =
      let a : ℕ = address_at f i in
      let same : segment_at m a ≡ row_at rows i = A.same i l in
      let once : count a f ≡ 1 = H.records.once a (A.there i l) in
      let code : m.code a ≡ 1 = ap (λ (s : Segment). s.code) same ∙ code-one i root in
      subst (λ (k : List ℕ). IsIn (record { key = k; address = a }) es) (ap (key_of d.types) same)
      (each-root d.block_size d.frspc d.types O (length v.image) m G fit a nowhere f H.records.lies.nodes F (omega arith) code)

  pub up : keys_ascend es ≡ true
  up = roots-ascend d.block_size d.frspc d.types O (length v.image) m G fit nowhere f H.records.lies.nodes F

  -- ---- what is found

  -- a test of roots fails where it fails on a root
  only-roots : (i : ℕ) (b : Bool) → (is_root rows i ≡ true → b ≡ false) → (is_root rows i && b) ≡ false
  only-roots i b fails = elim (cases_Bool (is_root rows i)) [
    | inl root ↦ ap (λ (r : Bool). r && b) root ∙ fails root
    | inr other ↦ ap (λ (r : Bool). r && b) other
  ]

  -- the address at a key is that of the root with the key
  with-key : (key : List ℕ) (o : Option ℕ) → address_of key es ≡ o → o ≡ address_of_first f (is_root_with d.types rows key)
  with-key key None is =
      let none : (i : ℕ) → i < length rows → is_root_with d.types rows key i ≡ false
      = λ i l. only-roots i (bytes_eq (key_at d.types rows i) key) (λ root. key-missing key es is (entry-at i) (has-entry i l root)) in
      ap (option_map (λ i. address_at f i)) (sym (none-is rows (is_root_with d.types rows key) none))
  with-key key (Some a) is =
      let K : HasKey key es a = key-found key es a is in
      let R : RowOf K.entry = row-of K.entry K.is_in in
      let equal : bytes_eq (key_at d.types rows R.row) key ≡ true = ap (λ (k : List ℕ). bytes_eq k key) R.key ∙ K.key_is in
      let same : key_at d.types rows R.row ≡ key = (bytes_eq-Decides (key_at d.types rows R.row) key).0 equal in
      let none : (i : ℕ) → i < R.row → is_root_with d.types rows key i ≡ false
      = λ i before. only-roots i (bytes_eq (key_at d.types rows i) key) (λ root.
      ap (bytes_eq (key_at d.types rows i)) (sym same)
      ∙ less-other (key_at d.types rows i) (key_at d.types rows R.row) (keys-rise i R.row root R.root before R.within)) in
      ap (λ (x : ℕ). Some x) (sym (R.address ∙ K.address))
      ∙ ap (option_map (λ i. address_at f i)) (sym (first-is rows (is_root_with d.types rows key) R.row R.within (and_from _ _ R.root equal) none))

  -- the address from a key on is that of the first root whose key is not below it
  from-key : (key : List ℕ) (o : Option ℕ) → address_from key es ≡ o → o ≡ address_of_first f (is_root_from d.types rows key)
  from-key key None is =
      let none : (i : ℕ) → i < length rows → is_root_from d.types rows key i ≡ false
      = λ i l. only-roots i (not (key_less (key_at d.types rows i) key)) (λ root. ap not (all-lesser key es is (entry-at i) (has-entry i l root))) in
      ap (option_map (λ i. address_at f i)) (sym (none-is rows (is_root_from d.types rows key) none))
  from-key key (Some a) is =
      let K : IsLeast key es a = least-found key es a up is in
      let R : RowOf K.entry = row-of K.entry K.is_in in
      let from : key_less (key_at d.types rows R.row) key ≡ false = ap (λ (k : List ℕ). key_less k key) R.key ∙ K.not_below in
      let none : (i : ℕ) → i < R.row → is_root_from d.types rows key i ≡ false
      = λ i before. only-roots i (not (key_less (key_at d.types rows i) key)) (λ root.
      let within : i < length rows = (let l : R.row < length rows = R.within in omega arith) in
      let less : key_less (key_at d.types rows i) K.entry.key ≡ true
      = ap (key_less (key_at d.types rows i)) (sym R.key) ∙ keys-rise i R.row root R.root before R.within in
      ap not (K.lesser (entry-at i) (has-entry i within root) less)) in
      ap (λ (x : ℕ). Some x) (sym (R.address ∙ K.address))
      ∙ ap (option_map (λ i. address_at f i)) (sym (first-is rows (is_root_from d.types rows key) R.row R.within (and_from _ _ R.root (ap not from)) none))

  -- the first root whose key is not below a key has it just where some root has it
  first-has : (key : List ℕ) (i : ℕ) → first_row rows (is_root_from d.types rows key) ≡ Some i → (o : Option ℕ) → first_row rows (is_root_with d.types rows key) ≡ o
      → is_some (option_map (λ i. address_at f i) o) ≡ bytes_eq (key_at d.types rows i) key
  first-has key i is None none =
      let F = (follow-lesser d.types rows key).0 i is in
      let fails : (is_root rows i && bytes_eq (key_at d.types rows i) key) ≡ false = least_no (is_root_with d.types rows key) (length rows - 0) 0 none i (omega arith) (omega (arith, F.0)) in
      sym (ap (λ (r : Bool). r && bytes_eq (key_at d.types rows i) key) (sym F.1) ∙ fails)
  first-has key i is (Some j) some =
      let F = (follow-lesser d.types rows key).0 i is in
      let J = least_some (is_root_with d.types rows key) (length rows - 0) 0 j some in
      let both = and_parts (is_root rows j) (bytes_eq (key_at d.types rows j) key) J.2 in
      let same : key_at d.types rows j ≡ key = (bytes_eq-Decides (key_at d.types rows j) key).0 both.1 in
      elim (cases_lt j i) [
        | inl before ↦ absurd (false≢true (sym (less-other (key_at d.types rows j) key (F.3 j before both.0)) ∙ both.1))
        | inr behind ↦ elim (cases_lt i j) [
          | inl later ↦ absurd (false≢true (sym F.2 ∙ ap (key_less (key_at d.types rows i)) (sym same) ∙ keys-rise i j F.1 both.0 later (omega (arith, J.1))))
          | inr one ↦ sym (ap (λ (n : ℕ). bytes_eq (key_at d.types rows n) key) (let e : i ≡ j = omega arith in e) ∙ both.1)
        ]
      ]

pub roots-first : RootsAreOfTheFirstType
roots-first d v f i H within = (level-one d v f H i within, top-root d v f H i within)

pub roots-alone : RootsStandAlone
roots-alone d v f i H within root = stands-alone d v f H i within root

pub roots-rise : RootsAscend
roots-rise d v f i j H r s before within = keys-rise d v f H i j r s before within

pub index-answers : IndexAnswersRoots
index-answers d v f key H = (
  ap (address_of key) H.entries ∙ with-key d v f H key (address_of key (root_entries d.types f)) refl,
  ap (address_from key) H.entries ∙ from-key d v f H key (address_from key (root_entries d.types f)) refl,
)

index-tells : IndexTellsOfKeys
index-tells d v f key i H is =
    ap (λ (o : Option ℕ). is_some o) (index-answers d v f key H).0 ∙ first-has d v f H key i is (first_row (rows_of f) (is_root_with d.types (rows_of f) key)) refl

pub told-root : IndexTellsOfRoots
told-root d v f key root H at equal = by (first_row (rows_of f) (is_root_from d.types (rows_of f) key)) refl (sym (index-answers d v f key H).1 ∙ at)
  where
    by : (o : Option ℕ) → first_row (rows_of f) (is_root_from d.types (rows_of f) key) ≡ o → address_of_first f (is_root_from d.types (rows_of f) key) ≡ Some root.address
        → IsToldRoot d.types f key root
    by None e a = (let wrong : None ≡ Some root.address = sym (ap (option_map (λ i. address_at f i)) e) ∙ a in cc)
    by (Some i) e a =
        let same : Some (address_at f i) ≡ Some root.address = sym (ap (option_map (λ i. address_at f i)) e) ∙ a in
        record { row = i; is_first = e; at = cc; equal = equal ∙ index-tells d v f key i H e }
