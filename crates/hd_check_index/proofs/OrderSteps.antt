-- The keys of an index in order, block by block along the chain.
use Rattle.std.proofs.Common.{◌≡◌, inl, inr, ℕ, suc, ◌+◌, ◌*◌, ◌<◌, ◌≤◌, List, [], ◌∷◌, ◌++◌, length, take, drop, slice_index, Bool, true, false, cond, Option, Some, None, IfNone, IfSome, refl, sym, ap, subst, ◌∙◌, arith}
use Rattle.std.specs.Prelude.{option_map, nat_lt, is_some}
use Rattle.std.specs.Option.{option_map_or}
use Rattle.std.proofs.lemmas.Bool.{cases_lt, cases_Bool, ltb-true, ltb-false, and_from, false≢true}
use Rattle.std.proofs.lemmas.List.{append-nil, take_more, take-append-drop, drop_more}
use Rattle.hd_dbd.specs.Hierarchy.{Database}
use Rattle.hd_volume.specs.Headers.{header_of}
use Rattle.hd_volume.specs.Volumes.{VolumeState, block_at}
use Rattle.hd_volume.specs.Entries.{Entry, entries_in, entries_of, entry_blocks, entries}
use Rattle.hd_volume.specs.Indexes.{root_key_length, key_less, keys_ascend}
use Rattle.hd_volume.proofs.IndexLemmas.{entries-append}
use Rattle.hd_image.specs.IndexFaults.{last_entry, first_not_above}
use Rattle.hd_image.specs.Standing.{Stands, phase_of}
use Rattle.hd_image.specs.declared.line.Line.{Line}
use Rattle.hd_image.specs.declared.line.Line.TheVariants.{EntryOutOfOrder}
use Rattle.hd_check_blocks.specs.declared.fault.Fault.{Fault}
use Rattle.hd_check_blocks.specs.Phases.{IsLeastOf}
use Rattle.hd_check_index.specs.LeftKeys.{lesser}
use Rattle.hd_check_index.proofs.LateLines.{least-by, stands-11}

-- ---- the last entry, and the first out of order

-- the last of two parts
pub last-append : (o : Option Entry) (xs ys : List Entry) → last_entry o (xs ++ ys) ≡ last_entry (last_entry o xs) ys
last-append o [] ys = refl
last-append o (x ∷ xs) ys = last-append (Some x) xs ys

-- one entry behind another, or behind none
above-one : (o : Option Entry) (e : Entry) → first_not_above o (e ∷ []) ≡ cond (option_map_or (λ l. key_less l.key e.key) o true) None (Some e)
above-one None e = refl
above-one (Some l) e = refl

-- what was found first stays
found-stays : (o : Option Entry) (xs ys : List Entry) (e : Entry) → first_not_above o xs ≡ Some e → first_not_above o (xs ++ ys) ≡ Some e
found-stays o [] ys e h = absurd (let z : None ≡ Some e = h in none-some e z)
  where
    none-some : (e : Entry) → None ≡ Some e → ⊥
    none-some e h = cc
found-stays None (x ∷ xs) ys e h = found-stays (Some x) xs ys e h
found-stays (Some l) (x ∷ xs) ys e h = elim (cases_Bool (key_less l.key x.key)) [
  | inl above ↦ (let later : first_not_above (Some x) xs ≡ Some e = ap (λ (b : Bool). cond b (first_not_above (Some x) xs) (Some x)) (sym above) ∙ h in rw above (found-stays (Some x) xs ys e later))
  | inr low ↦ (let here : Some x ≡ Some e = ap (λ (b : Bool). cond b (first_not_above (Some x) xs) (Some x)) (sym low) ∙ h in rw low here)
]

-- where nothing was found what is found behind is
found-behind : (o : Option Entry) (xs ys : List Entry) → first_not_above o xs ≡ None → first_not_above o (xs ++ ys) ≡ first_not_above (last_entry o xs) ys
found-behind o [] ys h = refl
found-behind None (x ∷ xs) ys h = found-behind (Some x) xs ys h
found-behind (Some l) (x ∷ xs) ys h = elim (cases_Bool (key_less l.key x.key)) [
  | inl above ↦ (let later : first_not_above (Some x) xs ≡ None = ap (λ (b : Bool). cond b (first_not_above (Some x) xs) (Some x)) (sym above) ∙ h in rw above (found-behind (Some x) xs ys later))
  | inr low ↦ (let here : Some x ≡ None = ap (λ (b : Bool). cond b (first_not_above (Some x) xs) (Some x)) (sym low) ∙ h in absurd (some-none x here))
]
  where
    some-none : (e : Entry) → Some e ≡ None → ⊥
    some-none e h = cc

-- ---- an entry more

abbrev pub address-of : Option Entry → Option ℕ
address-of o = option_map (λ (e : Entry). e.address) o

-- nothing has no address
no-address : (o : Option Entry) → address-of o ≡ None → o ≡ None
no-address None h = refl
no-address (Some e) h = cc

-- what was found stays when an entry comes behind
pub found-more-some : (o : Option Entry) (es : List Entry) (e : Entry) (found : Option ℕ) → address-of (first_not_above o es) ≡ found → is_some found ≡ true → address-of (first_not_above o (es ++ (e ∷ []))) ≡ found
found-more-some o es e found h some = by (first_not_above o es) refl
  where
    by : (q : Option Entry) → first_not_above o es ≡ q → address-of (first_not_above o (es ++ (e ∷ []))) ≡ found
    by None is = absurd (none-some found (ap address-of (sym is) ∙ h) some)
      where
        none-some : (x : Option ℕ) → None ≡ x → is_some x ≡ true → ⊥
        none-some None a b = false≢true b
        none-some (Some n) a b = cc
    by (Some x) is = ap address-of (found-stays o es (e ∷ []) x is ∙ sym is) ∙ h

-- where nothing was found it is the entry if that is not above the one to its left
pub found-more-none : (o : Option Entry) (es : List Entry) (e : Entry) (above : Bool) → address-of (first_not_above o es) ≡ None → above ≡ option_map_or (λ l. key_less l.key e.key) (last_entry o es) true
    → address-of (first_not_above o (es ++ (e ∷ []))) ≡ cond above None (Some e.address)
found-more-none o es e above h is =
    ap address-of (found-behind o es (e ∷ []) (no-address (first_not_above o es) h) ∙ above-one (last_entry o es) e ∙ ap (λ (b : Bool). cond b None (Some e)) (sym is)) ∙ mapped above
  where
    mapped : (b : Bool) → address-of (cond b None (Some e)) ≡ cond b None (Some e.address)
    mapped true = refl
    mapped false = refl

-- what is judged of one entry more
pub found-more : (o : Option Entry) (es : List Entry) (e : Entry) (found : Option ℕ) (above : Bool) → address-of (first_not_above o es) ≡ found → is_some found ≡ false
    → above ≡ option_map_or (λ l. key_less l.key e.key) (last_entry o es) true → address-of (first_not_above o (es ++ (e ∷ []))) ≡ cond above found (Some e.address)
found-more o es e None above h none is = found-more-none o es e above h is
found-more o es e (Some n) above h none is = absurd (false≢true (sym none))

-- ---- keys that ascend

-- where none is out of order behind an entry all ascend from it on
ascend-from : (l : Entry) (es : List Entry) → first_not_above (Some l) es ≡ None → keys_ascend (l ∷ es) ≡ true
ascend-from l [] h = refl
ascend-from l (e ∷ es) h = elim (cases_Bool (key_less l.key e.key)) [
  | inl above ↦
      (let later : first_not_above (Some e) es ≡ None = ap (λ (b : Bool). cond b (first_not_above (Some e) es) (Some e)) (sym above) ∙ h in
      and_from (key_less l.key e.key) (keys_ascend (e ∷ es)) above (ascend-from e es later))
  | inr low ↦ (let here : Some e ≡ None = ap (λ (b : Bool). cond b (first_not_above (Some e) es) (Some e)) (sym low) ∙ h in absurd (some-none e here))
]
  where
    some-none : (e : Entry) → Some e ≡ None → ⊥
    some-none e h = cc

-- where none is out of order all ascend
ascend-all : (es : List Entry) → first_not_above None es ≡ None → keys_ascend es ≡ true
ascend-all [] h = refl
ascend-all (e ∷ es) h = ascend-from e es h

-- ---- the chain

module _ (k : ℕ) (v : VolumeState) where
  -- the entry to the left of the block at an index of a chain
  abbrev pub left-of : List ℕ → ℕ → Option Entry
  left-of ns i = last_entry None (entries_of k v (take i ns))

  -- the first entry of the block at an index that is out of order
  abbrev pub out-of-order : List ℕ → ℕ → Option ℕ
  out-of-order ns i = address-of (first_not_above (left-of ns i) (entries_in k (block_at v (slice_index ns i))))

  -- the entry to the left of the next block is the last of this one
  pub left-more : (ns : List ℕ) (i : ℕ) → i < length ns → left-of ns (i + 1) ≡ last_entry (left-of ns i) (entries_in k (block_at v (slice_index ns i)))
  left-more ns i l =
      let n : ℕ = slice_index ns i in
      ap (λ (ms : List ℕ). last_entry None (entries_of k v ms)) (take_more ns i 0 l) ∙ ap (last_entry None) (entries-append k v (take i ns) (n ∷ []))
      ∙ last-append None (entries_of k v (take i ns)) (entries_of k v (n ∷ [])) ∙ ap (last_entry (left-of ns i)) (append-nil (entries_in k (block_at v n)))

  -- where no block of a chain has an entry out of order none is
  all-in-order : (o : Option Entry) (ns : List ℕ) → ((j : ℕ) → j < length ns → first_not_above (last_entry o (entries_of k v (take j ns))) (entries_in k (block_at v (slice_index ns j))) ≡ None)
      → first_not_above o (entries_of k v ns) ≡ None
  all-in-order o [] h = refl
  all-in-order o (n ∷ ns) h =
      let here : first_not_above o (entries_in k (block_at v n)) ≡ None = h 0 (omega arith) in
      found-behind o (entries_in k (block_at v n)) (entries_of k v ns) here
      ∙ all-in-order (last_entry o (entries_in k (block_at v n))) ns
      (λ j l. ap (λ (q : Option Entry). first_not_above q (entries_in k (block_at v (slice_index ns j)))) (sym (last-append o (entries_in k (block_at v n)) (entries_of k v (take j ns)))) ∙ h (suc j) (omega arith))

  -- The least fault among the first blocks of a chain: there is none, or it stands in one of them and none before it.
  abbrev pub IsLeastBefore : List ℕ → ℕ → Option Fault → Type 0
  IsLeastBefore ns i None = (j o : ℕ) → j < i → out-of-order ns j ≡ Some o → ⊥
  IsLeastBefore ns i (Some f) =
      ((j o : ℕ) × (j < i) × (out-of-order ns j ≡ Some o) × (f ≡ record { line = EntryOutOfOrder; address = slice_index ns j * v.size; other = o }))
      × ((j o : ℕ) → j < i → out-of-order ns j ≡ Some o → f.address ≤ slice_index ns j * v.size)

  -- a block in order changes nothing
  pub least-stays : (ns : List ℕ) (i : ℕ) (least : Option Fault) → IsLeastBefore ns i least → out-of-order ns i ≡ None → IsLeastBefore ns (i + 1) least
  least-stays ns i None h none = λ j o less wrong. elim (cases_lt j i) [
    | inl low ↦ h j o low wrong
    | inr high ↦ (let e : j ≡ i = omega arith in let z : None ≡ Some o = sym none ∙ ap (out-of-order ns) (sym e) ∙ wrong in none-number o z)
  ]
    where
      none-number : (x : ℕ) → None ≡ Some x → ⊥
      none-number x h = cc
  least-stays ns i (Some f) h none = (
    (h.0.0, h.0.1, (let l = h.0.2 in omega arith), h.0.3, h.0.4),
    λ j o less wrong. elim (cases_lt j i) [
      | inl low ↦ h.1 j o low wrong
      | inr high ↦ (let e : j ≡ i = omega arith in let z : None ≡ Some o = sym none ∙ ap (out-of-order ns) (sym e) ∙ wrong in absurd (none-number o z))
    ],
  )
    where
      none-number : (x : ℕ) → None ≡ Some x → ⊥
      none-number x h = cc

  -- one out of order is the least if its number is
  pub least-more : (ns : List ℕ) (i : ℕ) (least : Option Fault) (other : ℕ) → IsLeastBefore ns i least → out-of-order ns i ≡ Some other
      → IsLeastBefore ns (i + 1) (lesser least (record { line = EntryOutOfOrder; address = slice_index ns i * v.size; other = other }))
  least-more ns i None other h some = (
    (i, other, omega arith, some, refl),
    λ j o less wrong. elim (cases_lt j i) [
      | inl low ↦ absurd (h j o low wrong)
      | inr high ↦ (let e : slice_index ns j ≡ slice_index ns i = ap (slice_index ns) (let at : j ≡ i = omega arith in at) in let p : slice_index ns j * v.size ≡ slice_index ns i * v.size = ap (λ (x : ℕ). x * v.size) e in omega arith)
    ],
  )
  least-more ns i (Some f) other h some = by (nat_lt (slice_index ns i * v.size) f.address) refl
    where
      new : Fault
      new = record { line = EntryOutOfOrder; address = slice_index ns i * v.size; other = other }

      by : (b : Bool) → nat_lt (slice_index ns i * v.size) f.address ≡ b → IsLeastBefore ns (i + 1) (cond b (Some (record { line = EntryOutOfOrder; address = slice_index ns i * v.size; other = other })) (Some f))
      by true low = (
        (i, other, omega arith, some, refl),
        λ j o less wrong. elim (cases_lt j i) [
          | inl earlier ↦ (let a = h.1 j o earlier wrong in let b = ltb-true _ _ low in omega arith)
          | inr high ↦ (let e : slice_index ns j ≡ slice_index ns i = ap (slice_index ns) (let at : j ≡ i = omega arith in at) in let p : slice_index ns j * v.size ≡ slice_index ns i * v.size = ap (λ (x : ℕ). x * v.size) e in omega arith)
        ],
      )
      by false high = (
        (h.0.0, h.0.1, (let l = h.0.2 in omega arith), h.0.3, h.0.4),
        λ j o less wrong. elim (cases_lt j i) [
          | inl earlier ↦ h.1 j o earlier wrong
          | inr last ↦
              (let e : slice_index ns j ≡ slice_index ns i = ap (slice_index ns) (let at : j ≡ i = omega arith in at) in
              let p : slice_index ns j * v.size ≡ slice_index ns i * v.size = ap (λ (x : ℕ). x * v.size) e in
              let b = ltb-false _ _ high in omega arith)
        ],
      )

  -- a block is judged, and what was found in it counts
  pub least-step : (ns : List ℕ) (i : ℕ) (least : Option Fault) (found : Option ℕ) → IsLeastBefore ns i least → out-of-order ns i ≡ found
      → IsLeastBefore ns (i + 1) (option_map_or (λ other. lesser least (record { line = EntryOutOfOrder; address = slice_index ns i * v.size; other = other })) found least)
  least-step ns i least None h is = least-stays ns i least h is
  least-step ns i least (Some other) h is = least-more ns i least other h is

-- a part of a list by its index
front-is : (before : List ℕ) (n : ℕ) (behind : List ℕ) → take (length before) (before ++ n ∷ behind) ≡ before
front-is [] n behind = refl
front-is (b ∷ bs) n behind = ap (λ (ns : List ℕ). b ∷ ns) (front-is bs n behind)

at-is : (before : List ℕ) (n : ℕ) (behind : List ℕ) → slice_index (before ++ n ∷ behind) (length before) ≡ n
at-is [] n behind = refl
at-is (b ∷ bs) n behind = at-is bs n behind

short-is : (before : List ℕ) (n : ℕ) (behind : List ℕ) → length before < length (before ++ n ∷ behind)
short-is [] n behind = omega arith
short-is (b ∷ bs) n behind = (let r = short-is bs n behind in omega arith)

module _ (d : Database) (v : VolumeState) (ns : List ℕ) (is : ns ≡ entry_blocks v) (one : (header_of v.image).version ≡ 1) where
  -- a block of the chain with an entry out of order is a fault
  pub order-stands : (j o : ℕ) → j < length ns → out-of-order (root_key_length d.types) v ns j ≡ Some o → Stands d v EntryOutOfOrder (slice_index ns j * v.size) o
  order-stands j o within wrong =
      let n : ℕ = slice_index ns j in
      let split : entry_blocks v ≡ take j ns ++ (n ∷ drop (j + 1) ns) = sym is ∙ sym (take-append-drop j ns) ∙ ap (λ (ms : List ℕ). take j ns ++ ms) (drop_more ns j 0 within) in
      inl (one, (n, take j ns, drop (j + 1) ns, split, wrong, refl))

  -- and each fault of the phase is that of such a block
  pub stands-order : (l : Line) (a o : ℕ) → phase_of l ≡ 11 → Stands d v l a o → (j : ℕ) × (j < length ns) × (out-of-order (root_key_length d.types) v ns j ≡ Some o) × (a ≡ slice_index ns j * v.size)
  stands-order l a o p s =
      let k : ℕ = root_key_length d.types in
      let t = (stands-11 d v l a o one p s).0 in
      let m : ℕ = t.0 in
      let before : List ℕ = t.1 in
      let whole : ns ≡ before ++ m ∷ t.2 = is ∙ t.3 in
      let i : ℕ = length before in
      let short : i < length ns = subst (λ (ms : List ℕ). i < length ms) (sym whole) (short-is before m t.2) in
      let front : take i ns ≡ before = ap (take i) whole ∙ front-is before m t.2 in
      let own : slice_index ns i ≡ m = ap (λ (ms : List ℕ). slice_index ms i) whole ∙ at-is before m t.2 in
      let wrong : out-of-order k v ns i ≡ Some o =
      ap (λ (ms : List ℕ). address-of (first_not_above (last_entry None (entries_of k v ms)) (entries_in k (block_at v (slice_index ns i))))) front
      ∙ ap (λ (y : ℕ). address-of (first_not_above (last_entry None (entries_of k v before)) (entries_in k (block_at v y)))) own ∙ t.4 in
      (i, short, wrong, t.5 ∙ ap (λ (y : ℕ). y * v.size) (sym own))

module _ (d : Database) (v : VolumeState) (ns : List ℕ) (is : ns ≡ entry_blocks v) (least : Option Fault) (h : IsLeastBefore (root_key_length d.types) v ns (length ns) least) where
  -- where no fault was found the keys ascend
  pub none-out-of-order : IfNone least (keys_ascend (entries (root_key_length d.types) v) ≡ true)
  none-out-of-order = by least h
    where
      by : (f : Option Fault) → IsLeastBefore (root_key_length d.types) v ns (length ns) f → IfNone f (keys_ascend (entries (root_key_length d.types) v) ≡ true)
      by (Some f) q = tt
      by None q =
          subst (λ (ms : List ℕ). keys_ascend (entries_of (root_key_length d.types) v ms) ≡ true) is
          (ascend-all (entries_of (root_key_length d.types) v ns) (all-in-order (root_key_length d.types) v None ns
          (λ j l. no-address (first_not_above (left-of (root_key_length d.types) v ns j) (entries_in (root_key_length d.types) (block_at v (slice_index ns j)))) (none-of (out-of-order (root_key_length d.types) v ns j) (λ o. q j o l)))))
        where
          none-of : (x : Option ℕ) → ((o : ℕ) → x ≡ Some o → ⊥) → x ≡ None
          none-of None z = refl
          none-of (Some o) z = absurd (z o refl)

  -- the least that was found is the least fault
  pub some-out-of-order : (header_of v.image).version ≡ 1 → IfSome least (λ f. IsLeastOf d v 11 f)
  some-out-of-order one = by least h
    where
      k : ℕ
      k = root_key_length d.types

      by : (f : Option Fault) → IsLeastBefore (root_key_length d.types) v ns (length ns) f → IfSome f (λ x. IsLeastOf d v 11 x)
      by None q = tt
      by (Some f) q =
          let j : ℕ = q.0.0 in
          let o : ℕ = q.0.1 in
          let n : ℕ = slice_index ns j in
          let address : f.address ≡ n * v.size = ap (λ (x : Fault). x.address) q.0.4 in
          subst (IsLeastOf d v 11) (sym q.0.4)
          (least-by d v 11 (record { line = EntryOutOfOrder; address = n * v.size; other = o }) refl
          (order-stands d v ns is one j o q.0.2 q.0.3)
          (λ l a x p s.
          (let number = (stands-11 d v l a x one p s).1 in
          let w = stands-order d v ns is one l a x p s in
          let low : f.address ≤ slice_index ns w.0 * v.size = q.1 w.0 x w.1 w.2 in
          let at = w.3 in
          (omega arith, λ e. omega arith))))
