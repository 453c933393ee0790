-- Rows and their addresses, by number.
use Rattle.std.proofs.Common.{◌≡◌, ℕ, zero, suc, ◌+◌, ◌<◌, ◌≤◌, List, [], ◌∷◌, ◌++◌, length, get_or, false, arith, ap, ap₂, sym, ◌∙◌, refl, inl, inr, Some, None, Bool}
use Rattle.std.specs.Prelude.{map, slice_index, nat_lt, nat_le}
use Rattle.std.proofs.lemmas.Bool.{cases_eq, cases_order, cases_lt, cond-true, cond-false, lt-ltb, le-ltb, lt-leb}
use Rattle.std.proofs.lemmas.List.{append_assoc, append-nil, length-append, length-map, get_or-map, get_or_at, get_or_past}
use Rattle.hd_dbd.specs.Types.{SegmentType}
use Rattle.hd_dbd.specs.Segment.{Segment}
use Rattle.hd_dbd.specs.Paths.{row_at, no_row, level_at, nearest_above, path_above, end_within}
use Rattle.hd_dbd.specs.Searches.{least_within}
use Rattle.hd_dbd.specs.Rows.{level}
use Rattle.hd_dbd.specs.Forest.{Forest, empty, node, sequence}
use Rattle.hd_links.specs.Links.{Links, segment_at}
use Rattle.hd_links.specs.Placed.{Placed, count, nowhere, with_node, NodesLie, Holds}
use Rattle.hd_links.specs.Steps.{rows_of, addresses, address_at, RowsHaveAddresses}
use Rattle.hd_links.proofs.Forms.{segment_is}
use Rattle.hd_links.proofs.Build.{zero_or}
use Rattle.hd_links.proofs.Counts.{is_at, one_at, none_at, node_there}

-- ---- lists

pub map_both : {X Y : Type 0} (f : X → Y) (xs ys : List X) → map f (xs ++ ys) ≡ map f xs ++ map f ys
map_both f [] ys = refl
map_both {Y = Y} f (x ∷ xs) ys = ap (λ (zs : List Y). f x ∷ zs) (map_both f xs ys)

pub map_end : {X Y : Type 0} (f : X → Y) (xs : List X) (x : X) → map f (xs ++ x ∷ []) ≡ map f xs ++ f x ∷ []
map_end f xs x = map_both f xs (x ∷ [])

-- the rows are what stands at the nodes
pub rows_map : (f : Forest Placed) → rows_of f ≡ map (λ p. p.segment) (sequence f)
rows_map empty = refl
rows_map (node r k n) =
    ap (λ (x : List Segment). r.segment ∷ x)
    (ap₂ (λ (x y : List Segment). x ++ y) (rows_map k) (rows_map n) ∙ sym (map_both (λ (p : Placed). p.segment) (sequence k) (sequence n)))

pub rows_length : (f : Forest Placed) → length (rows_of f) ≡ length (sequence f)
rows_length f = ap (λ (x : List Segment). length x) (rows_map f) ∙ length-map (sequence f) (λ (p : Placed). p.segment)

-- the address of the first of some nodes
abbrev pub head_at : List Placed → ℕ
head_at [] = 0
head_at (p ∷ ps) = p.address

-- a row in the midst
pub row_is : (f : Forest Placed) (front : List Placed) (r : Placed) (rest : List Placed) (n : ℕ) → sequence f ≡ front ++ (r ∷ rest) → length front ≡ n → row_at (rows_of f) n ≡ r.segment
row_is f front r rest n whole number =
    ap (λ (x : List Segment). get_or x n no_row) (rows_map f)
    ∙ get_or-map (λ (p : Placed). p.segment) (sequence f) n r no_row
    (let e : length (sequence f) ≡ length front + length (r ∷ rest) = ap (λ (x : List Placed). length x) whole ∙ length-append front (r ∷ rest) in omega arith)
    ∙ ap (λ (x : List Placed). (get_or x n r).segment) whole
    ∙ ap (λ (x : Placed). x.segment) (get_or_at front r rest r n number)

pub address_is : (f : Forest Placed) (front rest : List Placed) (n : ℕ) → sequence f ≡ front ++ rest → length front ≡ n → address_at f n ≡ head_at rest
address_is f front [] n whole number =
    get_or_past (addresses f) n 0
    (let e : length (sequence f) ≡ length front = ap (λ (x : List Placed). length x) (whole ∙ append-nil front) in
    let l : length (addresses f) ≡ length (sequence f) = length-map (sequence f) (λ (p : Placed). p.address) in omega arith)
address_is f front (r ∷ rest) n whole number =
    get_or-map (λ (p : Placed). p.address) (sequence f) n r 0
    (let e : length (sequence f) ≡ length front + length (r ∷ rest) = ap (λ (x : List Placed). length x) whole ∙ length-append front (r ∷ rest) in omega arith)
    ∙ ap (λ (x : List Placed). (get_or x n r).address) whole
    ∙ ap (λ (x : Placed). x.address) (get_or_at front r rest r n number)

-- ---- each address is one row

-- how many of the nodes have the address
pub occurs : ℕ → List Placed → ℕ
occurs a [] = 0
occurs a (p ∷ ps) = is_at p.address a + occurs a ps

pub occurs_both : (a : ℕ) (xs ys : List Placed) → occurs a (xs ++ ys) ≡ occurs a xs + occurs a ys
unfolding occurs
occurs_both a [] ys = omega arith
occurs_both a (x ∷ xs) ys = (let i : occurs a (xs ++ ys) ≡ occurs a xs + occurs a ys = occurs_both a xs ys in omega arith)

pub occurs_count : (a : ℕ) (f : Forest Placed) → occurs a (sequence f) ≡ count a f
unfolding occurs
occurs_count a empty = refl
occurs_count a (node r k n) =
    (let i : occurs a (sequence k) ≡ count a k = occurs_count a k in
    let j : occurs a (sequence n) ≡ count a n = occurs_count a n in
    let b : occurs a (sequence k ++ sequence n) ≡ occurs a (sequence k) + occurs a (sequence n) = occurs_both a (sequence k) (sequence n) in omega arith)

-- the node of a number is in front of a place, or behind it
pub front_occurs : (xs ys : List Placed) (k : ℕ) → k < length xs → 0 < occurs (slice_index (map (λ (p : Placed). p.address) (xs ++ ys)) k) xs
unfolding occurs
front_occurs [] ys k l = absurd (omega arith)
front_occurs (x ∷ xs) ys zero l = (let o : is_at x.address x.address ≡ 1 = one_at x.address x.address refl in omega arith)
front_occurs (x ∷ xs) ys (suc k) l = (let i : 0 < occurs (slice_index (map (λ (p : Placed). p.address) (xs ++ ys)) k) xs = front_occurs xs ys k (omega arith) in omega arith)

pub back_occurs : (xs ys : List Placed) (k : ℕ) → length xs ≤ k → k < length xs + length ys → 0 < occurs (slice_index (map (λ (p : Placed). p.address) (xs ++ ys)) k) ys
unfolding occurs
back_occurs [] [] k l m = absurd (omega arith)
back_occurs [] (y ∷ ys) zero l m = (let o : is_at y.address y.address ≡ 1 = one_at y.address y.address refl in omega arith)
back_occurs [] (y ∷ ys) (suc k) l m = (let i : 0 < occurs (slice_index (map (λ (p : Placed). p.address) ([] ++ ys)) k) ys = back_occurs [] ys k (omega arith) (omega arith) in omega arith)
back_occurs (x ∷ xs) ys zero l m = absurd (omega arith)
back_occurs (x ∷ xs) ys (suc k) l m = back_occurs xs ys k (omega arith) (omega arith)

index_of : (a : ℕ) (xs : List Placed) → 0 < occurs a xs → (i : ℕ) × (i < length xs) × (slice_index (map (λ (p : Placed). p.address) xs) i ≡ a)
unfolding occurs
index_of a [] p = absurd (omega arith)
index_of a (x ∷ xs) p = elim (cases_eq x.address a) [
  | inl e ↦ (0, omega arith, e)
  | inr ne ↦ (let z : is_at x.address a ≡ 0 = none_at x.address a ne in
      let I : (i : ℕ) × (i < length xs) × (slice_index (map (λ (p : Placed). p.address) xs) i ≡ a) = index_of a xs (omega arith) in
      (suc I.0, (let l : I.0 < length xs = I.1 in omega arith), I.2))
]

there_occurs : (xs : List Placed) (i : ℕ) → i < length xs → 0 < occurs (slice_index (map (λ (p : Placed). p.address) xs) i) xs
unfolding occurs
there_occurs [] i l = absurd (omega arith)
there_occurs (x ∷ xs) zero l = (let o : is_at x.address x.address ≡ 1 = one_at x.address x.address refl in omega arith)
there_occurs (x ∷ xs) (suc i) l = (let j : 0 < occurs (slice_index (map (λ (p : Placed). p.address) xs) i) xs = there_occurs xs i (omega arith) in omega arith)

one_index : (xs : List Placed) → ((a : ℕ) → occurs a xs ≤ 1) → (i j : ℕ) → i < length xs → j < length xs
    → slice_index (map (λ (p : Placed). p.address) xs) i ≡ slice_index (map (λ (p : Placed). p.address) xs) j → i ≡ j
unfolding occurs
one_index [] once i j l k e = absurd (omega arith)
one_index (x ∷ xs) once zero zero l k e = refl
one_index (x ∷ xs) once zero (suc j) l k e = absurd
    (let o : is_at x.address x.address ≡ 1 = one_at x.address x.address refl in
    let t : 0 < occurs (slice_index (map (λ (p : Placed). p.address) xs) j) xs = there_occurs xs j (omega arith) in
    let s : occurs x.address xs ≡ occurs (slice_index (map (λ (p : Placed). p.address) xs) j) xs = ap (λ a. occurs a xs) e in
    let u : occurs x.address (x ∷ xs) ≤ 1 = once x.address in omega arith)
one_index (x ∷ xs) once (suc i) zero l k e = absurd
    (let o : is_at x.address x.address ≡ 1 = one_at x.address x.address refl in
    let t : 0 < occurs (slice_index (map (λ (p : Placed). p.address) xs) i) xs = there_occurs xs i (omega arith) in
    let s : occurs (slice_index (map (λ (p : Placed). p.address) xs) i) xs ≡ occurs x.address xs = ap (λ a. occurs a xs) e in
    let u : occurs x.address (x ∷ xs) ≤ 1 = once x.address in omega arith)
one_index (x ∷ xs) once (suc i) (suc j) l k e =
    ap suc (one_index xs (λ a. (let u : occurs a (x ∷ xs) ≤ 1 = once a in omega arith)) i j (omega arith) (omega arith) e)

-- each row of a list stands in the records
EachStands : Links → List Placed → Type 0
EachStands m [] = Unit {0}
EachStands m (p ∷ ps) = (segment_at m p.address ≡ p.segment) × EachStands m ps

each_both : (m : Links) (xs ys : List Placed) → EachStands m xs → EachStands m ys → EachStands m (xs ++ ys)
unfolding EachStands
each_both m [] ys a b = b
each_both m (x ∷ xs) ys a b = (a.0, each_both m xs ys a.1 b)

each_stands : (types : List SegmentType) (m : Links) (b : ℕ → ℕ) (f : Forest Placed) → NodesLie types m b f → EachStands m (sequence f)
unfolding EachStands
each_stands types m b empty s = tt
each_stands types m b (node r k n) s =
    (segment_is types m b r k n s.0, each_both m (sequence k) (sequence n) (each_stands types m nowhere k s.1) (each_stands types m (with_node b r) n s.2))

stands_at : (m : Links) (xs : List Placed) (i : ℕ) → EachStands m xs → i < length xs
    → segment_at m (slice_index (map (λ (p : Placed). p.address) xs) i) ≡ get_or (map (λ (p : Placed). p.segment) xs) i no_row
unfolding EachStands
stands_at m [] i s l = absurd (omega arith)
stands_at m (x ∷ xs) zero s l = s.0
stands_at m (x ∷ xs) (suc i) s l = stands_at m xs i s.1 (omega arith)

pub rows_addressed : (types : List SegmentType) (m : Links) (f : Forest Placed) → Holds types m f → RowsHaveAddresses m f
rows_addressed types m f H =
    let once : (a : ℕ) → occurs a (sequence f) ≤ 1 = (λ a.
    (let o : occurs a (sequence f) ≡ count a f = occurs_count a f in
    elim (zero_or (count a f)) [
      | inl z ↦ omega arith
      | inr p ↦ (let e : count a f ≡ 1 = H.once a (node_there types m a nowhere f H.lies.nodes p) in omega arith)
    ])) in
    let len : length (rows_of f) ≡ length (sequence f) = rows_length f in
    record {
      there = λ i l. node_there types m (address_at f i) nowhere f H.lies.nodes
          (let o : occurs (address_at f i) (sequence f) ≡ count (address_at f i) f = occurs_count (address_at f i) f in
          let t : 0 < occurs (address_at f i) (sequence f) = there_occurs (sequence f) i (omega arith) in omega arith);
      same = λ i l. stands_at m (sequence f) i (each_stands types m nowhere f H.lies.nodes) (omega arith)
          ∙ ap (λ (x : List Segment). get_or x i no_row) (sym (rows_map f));
      each = λ a s.
          (let o : occurs a (sequence f) ≡ count a f = occurs_count a f in
          let e : count a f ≡ 1 = H.once a s in
          let I : (i : ℕ) × (i < length (sequence f)) × (address_at f i ≡ a) = index_of a (sequence f) (omega arith) in
          (I.0, (let l : I.0 < length (sequence f) = I.1 in omega arith), I.2));
      once = λ i j li lj e. one_index (sequence f) once i j (omega arith) (omega arith) e;
    }

-- ---- rows that are skipped

-- each of the nodes has a level below l
abbrev pub AllDeeper : List SegmentType → ℕ → List Placed → Type 0
AllDeeper types l [] = Unit {0}
AllDeeper types l (p ∷ ps) = (l < level types p.segment) × AllDeeper types l ps

pub deeper_both : (types : List SegmentType) (l : ℕ) (xs ys : List Placed) → AllDeeper types l xs → AllDeeper types l ys → AllDeeper types l (xs ++ ys)
deeper_both types l [] ys a b = b
deeper_both types l (x ∷ xs) ys a b = (a.0, deeper_both types l xs ys a.1 b)

module _ (types : List SegmentType) (f : Forest Placed) where
  level_is : (front : List Placed) (r : Placed) (rest : List Placed) → sequence f ≡ front ++ (r ∷ rest) → level_at types (rows_of f) (length front) ≡ level types r.segment
  level_is front r rest whole = ap (level types) (row_is f front r rest (length front) whole refl)

  one_on : (front : List Placed) (r : Placed) (ys rest : List Placed) → sequence f ≡ front ++ ((r ∷ ys) ++ rest) → sequence f ≡ (front ++ r ∷ []) ++ (ys ++ rest)
  one_on front r ys rest whole = whole ∙ sym (append_assoc front (r ∷ []) (ys ++ rest))

  pub skip_path : (l : ℕ) (front ys rest : List Placed) → sequence f ≡ front ++ (ys ++ rest) → AllDeeper types l ys
      → path_above types (rows_of f) (l + 1) (length front + length ys) ≡ path_above types (rows_of f) (l + 1) (length front)
  skip_path l front [] rest whole deep = ap (path_above types (rows_of f) (l + 1)) (omega arith)
  skip_path l front (r ∷ ys) rest whole deep =
      let R : List Segment = rows_of f in
      let more : length (front ++ r ∷ []) ≡ suc (length front) = length-append front (r ∷ []) ∙ omega arith in
      let lv : level_at types R (length front) ≡ level types r.segment = level_is front r (ys ++ rest) whole in
      let d : l < level types r.segment = deep.0 in
      ap (path_above types R (l + 1)) (let e : length (front ++ r ∷ []) ≡ suc (length front) = more in omega arith)
      ∙ skip_path l (front ++ r ∷ []) ys rest (one_on front r ys rest whole) deep.1
      ∙ ap (path_above types R (l + 1)) more
      ∙ cond-false (nat_lt (level_at types R (length front)) (l + 1)) (path_above types R (level_at types R (length front)) (length front) ++ length front ∷ []) (path_above types R (l + 1) (length front))
      (le-ltb (level_at types R (length front)) (l + 1) (omega arith))

  pub skip_nearest : (l : ℕ) (front ys rest : List Placed) → sequence f ≡ front ++ (ys ++ rest) → AllDeeper types l ys
      → nearest_above types (rows_of f) (l + 1) (length front + length ys) ≡ nearest_above types (rows_of f) (l + 1) (length front)
  skip_nearest l front [] rest whole deep = ap (nearest_above types (rows_of f) (l + 1)) (omega arith)
  skip_nearest l front (r ∷ ys) rest whole deep =
      let R : List Segment = rows_of f in
      let more : length (front ++ r ∷ []) ≡ suc (length front) = length-append front (r ∷ []) ∙ omega arith in
      let lv : level_at types R (length front) ≡ level types r.segment = level_is front r (ys ++ rest) whole in
      let d : l < level types r.segment = deep.0 in
      ap (nearest_above types R (l + 1)) (let e : length (front ++ r ∷ []) ≡ suc (length front) = more in omega arith)
      ∙ skip_nearest l (front ++ r ∷ []) ys rest (one_on front r ys rest whole) deep.1
      ∙ ap (nearest_above types R (l + 1)) more
      ∙ cond-false (nat_lt (level_at types R (length front)) (l + 1)) (Some (length front)) (nearest_above types R (l + 1) (length front))
      (le-ltb (level_at types R (length front)) (l + 1) (omega arith))

  -- the span of a row ends with the rows below it
  pub skip_end : (l : ℕ) (front ys rest : List Placed) (n : ℕ) → sequence f ≡ front ++ (ys ++ rest) → AllDeeper types l ys
      → end_within types (rows_of f) l (length ys + n) (length front) ≡ end_within types (rows_of f) l n (length front + length ys)
  skip_end l front [] rest n whole deep =
      let x : 0 + n ≡ n = omega arith in
      let y : length front ≡ length front + 0 = omega arith in
      ap₂ (λ u v. end_within types (rows_of f) l u v) x y
  skip_end l front (r ∷ ys) rest n whole deep =
      let R : List Segment = rows_of f in
      let more : length (front ++ r ∷ []) ≡ length front + 1 = length-append front (r ∷ []) in
      let lv : level_at types R (length front) ≡ level types r.segment = level_is front r (ys ++ rest) whole in
      let d : l < level types r.segment = deep.0 in
      let more2 : length front + 1 ≡ length (front ++ r ∷ []) = sym more in
      ap (λ x. end_within types R l x (length front)) (let e : length (r ∷ ys) + n ≡ suc (length ys + n) = omega arith in e)
      ∙ cond-false (nat_le (level_at types R (length front)) l) (length front) (end_within types R l (length ys + n) (length front + 1)) (lt-leb (level_at types R (length front)) l (omega arith))
      ∙ ap (end_within types R l (length ys + n)) more2
      ∙ skip_end l (front ++ r ∷ []) ys rest n (one_on front r ys rest whole) deep.1
      ∙ ap (end_within types R l n) (omega arith)

-- a nearest row above comes no earlier than one that is above
pub nearest_from : (types : List SegmentType) (rows : List Segment) (l n j : ℕ) → n < j → level_at types rows n < l → (q : ℕ) × (nearest_above types rows l j ≡ Some q) × (n ≤ q)
nearest_from types rows l n zero before high = absurd (omega arith)
nearest_from types rows l n (suc j) before high = elim (cases_lt (level_at types rows j) l) [
  | inl above ↦ (j, cond-true (nat_lt (level_at types rows j) l) (Some j) (nearest_above types rows l j) (lt-ltb (level_at types rows j) l above), omega arith)
  | inr under ↦
      (let ne : n ≡ j → ⊥ = (λ e. (let q : level_at types rows n ≡ level_at types rows j = ap (level_at types rows) e in omega arith)) in
      let less : n < j = elim (cases_order n j) [ inl e ↦ absurd (ne e) | inr w ↦ elim w [ inl v ↦ v | inr v ↦ absurd (omega arith) ] ] in
      let I : (q : ℕ) × (nearest_above types rows l j ≡ Some q) × (n ≤ q) = nearest_from types rows l n j less high in
      (I.0, cond-false (nat_lt (level_at types rows j) l) (Some j) (nearest_above types rows l j) (le-ltb (level_at types rows j) l under) ∙ I.1, I.2))
]

-- numbers that fail are skipped
pub skip_least : (test : ℕ → Bool) (d n i : ℕ) → ((j : ℕ) → i ≤ j → j < i + d → test j ≡ false) → least_within test (d + n) i ≡ least_within test n (i + d)
skip_least test zero n i fails =
    let x : 0 + n ≡ n = omega arith in
    let y : i ≡ i + 0 = omega arith in
    ap₂ (λ u v. least_within test u v) x y
skip_least test (suc d) n i fails =
    ap (λ x. least_within test x i) (let e : suc d + n ≡ suc (d + n) = omega arith in e)
    ∙ cond-false (test i) (Some i) (least_within test (d + n) (i + 1)) (fails i (omega arith) (omega arith))
    ∙ skip_least test d n (i + 1) (λ j l k. fails j (omega arith) (omega arith))
    ∙ ap (least_within test n) (omega arith)

pub least_none : (test : ℕ → Bool) (n i : ℕ) → ((j : ℕ) → i ≤ j → j < i + n → test j ≡ false) → least_within test n i ≡ None
least_none test zero i fails = refl
least_none test (suc n) i fails =
    cond-false (test i) (Some i) (least_within test n (i + 1)) (fails i (omega arith) (omega arith))
    ∙ least_none test n (i + 1) (λ j l k. fails j (omega arith) (omega arith))
