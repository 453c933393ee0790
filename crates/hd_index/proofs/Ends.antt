-- A new block with the new entry behind the last block of the sequence set: the index has the new entry.
use Rattle.std.proofs.Common.{◌≡◌, ◌≢◌, inl, inr, ℕ, suc, ◌+◌, ◌-◌, ◌<◌, ◌≤◌, ◌==◌, cond, Bool, true, List, [], ◌∷◌, ◌++◌, take, drop, Some, None, length, slice_index, refl, sym, ap, ◌∙◌, subst, arith, ne_eqb}
use Rattle.std.proofs.lemmas.Bool.{cases_eq, cases_lt, eq-eqb, le-leb}
use Rattle.std.proofs.lemmas.List.{append_assoc}
use Rattle.hd_bytes.specs.Numbers.{number_at}
use Rattle.hd_volume.specs.Headers.{Header, header_of}
use Rattle.hd_volume.specs.Volumes.{VolumeState, block_at, IsKind}
use Rattle.hd_volume.specs.Entries.{Entry, entries_in}
use Rattle.hd_volume.specs.Indexes.{entry_room, is_below_first}
use Rattle.hd_volume.proofs.KeyLemmas.{less-not}
use Rattle.hd_volume.proofs.JoinLemmas.{AreOne}
use Rattle.hd_index_blocks.proofs.BlockLemmas.{length-entries}
use Rattle.hd_index_blocks.specs.Needs.{is_full}
use Rattle.hd_index.proofs.EditLemmas.{one-block-at}
use Rattle.hd_index.specs.Blocks.{IsInOrder}
use Rattle.hd_index.proofs.Searching.{right-order}
use Rattle.hd_index_blocks.specs.Maps.{address_of, greatest_below, with_entry}
use Rattle.hd_index_blocks.specs.Levels.{IndexBlocks, across, named, entries_below, AreBelow, AreOnLevel, IsIndexSet}
use Rattle.hd_index_blocks.specs.Ways.{child_of, leaf_of, IsAround, IsWayDown}
use Rattle.hd_index_blocks.specs.Changes.{Stays, UpperStay, KeepsIndexSet, IsDivided}
use Rattle.hd_index_blocks.specs.Chains.{IsLinked, first_of, AreLevelsLinked}
use Rattle.hd_index_blocks.specs.Parents.{ArePlaced}
use Rattle.hd_index_blocks.specs.IndexSets.{level_in, next_in, index_blocks, top_blocks, top_level, index_entries, HasIndexSet}
use Rattle.hd_index_blocks.proofs.Volumes.{level-of, level-kind, entries-below, top-is}
use Rattle.hd_index_blocks.proofs.Downs.{level-is}
use Rattle.hd_index_blocks.proofs.Entering.{entered}
use Rattle.hd_index_blocks.proofs.Dividing as dividing
use Rattle.hd_index_blocks.proofs.Linking.{divisions-linked, levels-on}
use Rattle.hd_index_blocks.proofs.Keys.{below-parts}
use Rattle.hd_index_blocks.proofs.Levels.{nil, on-parts, across-append}
use Rattle.hd_index_blocks.proofs.Coming.{way-steps}
use Rattle.hd_index_blocks.proofs.Descents.{way-around, around-answers}
use Rattle.hd_index_blocks.proofs.Parents.{index-blocks-placed}
use Rattle.hd_index_blocks.proofs.Paths.{change-lifted, leaf-upper}
use Rattle.hd_index_blocks.proofs.Placing.{divided-placed}
use Rattle.hd_index_blocks.proofs.Naming.{KeepNames, links-kept, placed-kept}
use Rattle.hd_index.specs.declared.divisions.Lead.{Lead}
use Rattle.hd_index.specs.Divisions.{IsEntryAt, IsLeadOf, IsLowestRoom}
use Rattle.hd_index.specs.Comings.{MayCome}
use Rattle.hd_index.specs.Changes.{IsChanged}
use Rattle.hd_index.specs.Behind.{IsHungBehind}
use Rattle.hd_index.proofs.Halving.{lead-child}
use Rattle.hd_index.proofs.Comings.{coming-level}
use Rattle.hd_index.proofs.Leading.{leaf-more}
use Rattle.hd_index.proofs.Parts.{parts}
use Rattle.hd_index.proofs.Steps.{same-block, borne, assembled}

-- an entry behind all others
pub with-last : (new : Entry) (es : List Entry) → AreBelow new.key es → with_entry new es ≡ es ++ (new ∷ [])
with-last new [] h = refl
with-last new (e ∷ es) h = rw (less-not e.key new.key h.0) (ap (λ (t : List Entry). e ∷ t) (with-last new es h.1))

-- the blocks, one of them with other entries
pub with_entries : IndexBlocks → ℕ → List Entry → IndexBlocks
with_entries c n es = record { entries = λ b. cond (b == n) es (c.entries b); level = c.level }

pub its-entries : (c : IndexBlocks) (n : ℕ) (es : List Entry) → (with_entries c n es).entries n ≡ es
unfolding with_entries
its-entries c n es = ap (λ (b : Bool). cond b es (c.entries n)) (eq-eqb n n refl)

pub other-entries : (c : IndexBlocks) (n : ℕ) (es : List Entry) (b : ℕ) → b ≢ n → (with_entries c n es).entries b ≡ c.entries b
unfolding with_entries
other-entries c n es b q = ap (λ (t : Bool). cond t es (c.entries b)) (ne_eqb b n q)

pub its-level : (c : IndexBlocks) (n : ℕ) (es : List Entry) (b : ℕ) → (with_entries c n es).level b ≡ c.level b
unfolding with_entries
its-level c n es b = refl

-- What is to be known where a new block is hung behind the last one: the block's last key leads to it by its parent, and the new key is above all its keys.
pub record IsEnd (k : ℕ) (u : VolumeState) (key by : List ℕ) (p : ℕ) (lead : Lead) : Type 0 where
  pub index : HasIndexSet k u
  pub some : 0 < (header_of u.image).top
  pub level_p : level_in u p ≡ Some 1
  pub level_n : level_in u lead.child ≡ Some 0
  pub at : IsEntryAt k (block_at u p) lead
  pub steps : ℕ
  pub deep : top_level u ≡ steps + 1
  pub leads : p ≡ leaf_of (index_blocks k u) by steps (header_of u.image).top
  pub left : List ℕ
  pub right : List ℕ
  pub set : IsIndexSet (index_blocks k u) 0 (left ++ (lead.child ∷ right))
  pub way : IsWayDown (index_blocks k u) (top_level u) (header_of u.image).top key (top_level u) 0 left lead.child right
  pub new : address_of key (entries_in k (block_at u lead.child)) ≡ None
  pub below : AreBelow key (entries_in k (block_at u lead.child))
  pub next : next_in u lead.child ≡ 0
  pub before : List Entry
  pub last_entry : Entry
  pub ends : entries_in k (block_at u lead.child) ≡ before ++ (last_entry ∷ [])
  pub last_is : last_entry.key ≡ by

-- the entry of a block that has room, where a key leads
pub lead-may : (k : ℕ) (u : VolumeState) (by : List ℕ) (p : ℕ) (lead : Lead) → IsLowestRoom k u by 0 p → IsLeadOf k by (block_at u p) lead
    → (lead.index < lead.count) × (lead.count < entry_room k u.size)
lead-may k u by p lead r leads =
    let room : ℕ = entry_room k u.size in
    let len : length (entries_in k (block_at u p)) ≡ number_at 2 (block_at u p) 4 = length-entries k (block_at u p) 12 (number_at 2 (block_at u p) 4) in
    let count = leads.at.count in
    let index = leads.index in
    let some = r.right.some in
    let free : length (entries_in k (block_at u p)) < room = elim (cases_lt (length (entries_in k (block_at u p))) room) [
      | inl less ↦ less
      | inr past ↦ (let e : is_full (index_blocks k u) room p ≡ true = le-leb room (length (entries_in k (block_at u p))) (omega arith) in let f = sym e ∙ r.free in absurd (cc))
    ]
    in
    (omega arith, omega arith)

-- what leads is read of a right block
pub lead-known : (k : ℕ) (u v : VolumeState) (by : List ℕ) (p : ℕ) (lead : Lead) → AreOne u v → IsLowestRoom k u by 0 p
    → (IsInOrder k u p → 0 < number_at 2 (block_at u p) 4 → IsLeadOf k by (block_at u p) lead) → IsLeadOf k by (block_at v p) lead
lead-known k u v by p lead o r read =
    let L : List ℕ → Type 0 = λ b. IsLeadOf k by b lead in
    subst L (sym (one-block-at o p)) (read (right-order k u 1 p r.right) r.right.some)

-- a last entry
pub record IsLastEntry (es : List Entry) : Type 0 where
  pub before : List Entry
  pub entry : Entry
  pub ends : es ≡ before ++ (entry ∷ [])

pub last-entry : (es : List Entry) → es ≢ [] → IsLastEntry es
last-entry [] some = absurd (some refl)
last-entry (e ∷ []) some = record { before = []; entry = e; ends = refl }
last-entry (e ∷ f ∷ es) some =
    let r = last-entry (f ∷ es) (λ x. cc) in
    record { before = e ∷ r.before; entry = r.entry; ends = ap (λ (t : List Entry). e ∷ t) r.ends }

-- where all keys are below one, the greatest below it is the last
greatest-last : (key other : List ℕ) (before : List Entry) (last : Entry) → AreBelow key (before ++ (last ∷ [])) → greatest_below other key (before ++ (last ∷ [])) ≡ last.key
greatest-last key other [] last h = ap (λ (b : Bool). cond b last.key other) h.0
greatest-last key other (e ∷ es) last h =
    ap (λ (b : Bool). cond b (greatest_below e.key key (es ++ (last ∷ []))) other) h.0 ∙ greatest-last key e.key es last h.1

-- no entry stands both behind a key and below it
none-behind : (key : List ℕ) (es : List Entry) → AreBelow key es → is_below_first key es ≡ true → es ≡ []
none-behind key [] low high = refl
none-behind key (e ∷ es) low high = (let a = less-not e.key key low.0 in absurd (cc))

-- blocks of a level that have no entry are none
no-blocks : (c : IndexBlocks) (l : ℕ) (ns : List ℕ) → AreOnLevel c l ns → across c ns ≡ [] → ns ≡ []
no-blocks c l [] on none = refl
no-blocks c l (n ∷ ns) on none = absurd (on.1 (front (c.entries n) (across c ns) none))
  where
    front : (xs ys : List Entry) → xs ++ ys ≡ [] → xs ≡ []
    front [] ys e = refl
    front (x ∷ xs) ys e = absurd (cc)

-- the last block of a chain names none
linked-end : (next : ℕ → ℕ) (start : ℕ) (left : List ℕ) (n : ℕ) → IsLinked next start (left ++ (n ∷ [])) → next n ≡ 0
linked-end next start [] n h = h.2
linked-end next start (x ∷ xs) n h = linked-end next (next x) xs n h.2

-- Where a new key above all others has come down to the last block, it is the end under its parent.
pub end-found : (k : ℕ) (u : VolumeState) (key by : List ℕ) (p n : ℕ) (lead : Lead) → 0 < (header_of u.image).top → IsLowestRoom k u by 0 p → MayCome k u key by 0 n → AreBelow key (index_entries k u)
    → IsLeadOf k by (block_at u p) lead → IsEnd k u key by p lead
end-found k u key by p n lead some r m below leads =
    let c : IndexBlocks = index_blocks k u in
    let h : ℕ = top_level u in
    let top : ℕ = (header_of u.image).top in
    let x = m.coming in
    let deep : h ≡ r.steps + 1 = r.level in
    let steps : x.steps ≡ h = (let z = way-steps c h top key x.steps 0 x.left n x.right x.way in omega arith) in
    let more : x.steps ≡ suc r.steps = omega arith in
    let is : lead.child ≡ n =
    lead-child k u by p lead leads ∙ ap (λ (i : ℕ). child_of by (c.entries i)) r.at ∙ sym (leaf-more c by r.steps top) ∙ ap (λ (i : ℕ). leaf_of c by i top) (sym more) ∙ x.leads in
    let W : ℕ → Type 0 = λ i. IsWayDown c h top key i 0 x.left n x.right in
    let way = subst W steps x.way in
    let a = way-around c h top key x.steps 0 x.left n x.right x.way x.around.set in
    let none : address_of key (c.entries n) ≡ None = sym (around-answers c key x.left n x.right a).0 ∙ ap (address_of key) x.whole ∙ m.new in
    let on = on-parts c 0 x.left (n ∷ x.right) x.around.set.0 in
    let row : index_entries k u ≡ across c x.left ++ (c.entries n ++ across c x.right) = sym x.whole ∙ across-append c x.left (n ∷ x.right) in
    let B : List Entry → Type 0 = λ t. AreBelow key t in
    let parts = below-parts key (across c x.left) (c.entries n ++ across c x.right) (subst B row below) in
    let own = below-parts key (c.entries n) (across c x.right) parts.1 in
    let empty : across c x.right ≡ [] = none-behind key (across c x.right) own.1 a.above in
    let right : x.right ≡ [] = no-blocks c 0 x.right on.1.2 empty in
    let last = last-entry (c.entries n) on.1.1 in
    let tops = top-is u some in
    let L : List ℕ → Type 0 = λ ns. AreLevelsLinked c (next_in u) h ns in
    let chain = levels-on c (next_in u) h top key x.steps 0 x.left n x.right x.way (subst L tops m.index.next) in
    let C : List ℕ → Type 0 = λ ns. IsLinked (next_in u) (first_of (x.left ++ (n ∷ ns))) (x.left ++ (n ∷ ns)) in
    let next = linked-end (next_in u) (first_of (x.left ++ (n ∷ []))) x.left n (subst C right chain) in
    let whole : index_entries k u ≡ (across c x.left ++ last.before) ++ (last.entry ∷ []) =
    row ∙ ap (λ (t : List Entry). across c x.left ++ (c.entries n ++ t)) empty ∙ ap (λ (t : List Entry). across c x.left ++ t) (nil (c.entries n) ∙ last.ends)
    ∙ sym (append_assoc (across c x.left) last.before (last.entry ∷ [])) in
    let by_is : last.entry.key ≡ by =
    sym (greatest-last key key (across c x.left ++ last.before) last.entry (subst B whole below)) ∙ ap (greatest_below key key) (sym whole) ∙ sym m.by_is in
    let back = sym is in
    let S : ℕ → Type 0 = λ i. IsIndexSet c 0 (x.left ++ (i ∷ x.right)) in
    let D : ℕ → Type 0 = λ i. IsWayDown c h top key h 0 x.left i x.right in
    let own_level = coming-level k u key by 0 n x in
    record {
      index = m.index;
      some = some;
      level_p = level-of u p r.right.is ∙ ap (λ (i : ℕ). Some i) r.right.level;
      level_n = ap (level_in u) is ∙ own_level.level;
      at = leads.at;
      steps = r.steps;
      deep = deep;
      leads = r.at;
      left = x.left;
      right = x.right;
      set = subst S back x.around.set;
      way = subst D back way;
      new = ap (λ (i : ℕ). address_of key (c.entries i)) is ∙ none;
      below = (let E : ℕ → Type 0 = λ i. AreBelow key (c.entries i) in subst E back own.0);
      next = ap (next_in u) is ∙ next;
      before = last.before;
      last_entry = last.entry;
      ends = ap c.entries is ∙ last.ends;
      last_is = by_is;
    }

module _ (k : ℕ) {u w : VolumeState} (key by : List ℕ) (address p : ℕ) (lead : Lead) (z : IsEnd k u key by p lead)
    (h : IsHungBehind k u p lead by (record { key = key; address = address }) w) where
  fresh_entry : Entry
  fresh_entry = record { key = key; address = address }

  -- the blocks before the division: the new entry stands in the old block
  full : IndexBlocks
  full = with_entries (index_blocks k u) lead.child (entries_in k (block_at u lead.child) ++ (record { key = key; address = address } ∷ []))

  full-level : (b : ℕ) → full.level b ≡ level_in u b
  unfolding full
  full-level b = its-level (index_blocks k u) lead.child (entries_in k (block_at u lead.child) ++ (record { key = key; address = address } ∷ [])) b

  full-own : full.entries lead.child ≡ entries_in k (block_at u lead.child) ++ (record { key = key; address = address } ∷ [])
  unfolding full
  full-own = its-entries (index_blocks k u) lead.child (entries_in k (block_at u lead.child) ++ (record { key = key; address = address } ∷ []))

  full-other : (b : ℕ) → b ≢ lead.child → full.entries b ≡ entries_in k (block_at u b)
  unfolding full
  full-other b q = other-entries (index_blocks k u) lead.child (entries_in k (block_at u lead.child) ++ (record { key = key; address = address } ∷ [])) b q

  -- blocks of two levels are two
  other-level : (b t j i : ℕ) → level_in u b ≡ Some j → level_in u t ≡ Some i → j ≢ i → b ≢ t
  other-level b t j i at there other same = other (level-is (index_blocks k u) j i t (ap (level_in u) (sym same) ∙ at) there)

  full-stays : (b j : ℕ) → level_in u b ≡ Some j → b ≢ lead.child → Stays (index_blocks k u) full j b
  full-stays b j at q = (full-level b ∙ at, full-other b q)

  full-upper : UpperStay (index_blocks k u) full 0
  full-upper b j at high = full-stays b j at (other-level b lead.child j 0 at z.level_n (λ e. omega arith))

  full-names : KeepNames (index_blocks k u) full (next_in u) (next_in u)
  full-names = record {
    on = λ b j at. (full-level b ∙ at, refl);
    was = λ b j at. sym (full-level b) ∙ at;
    names = λ b j at. ap named (full-other b (other-level b lead.child (suc j) 0 at z.level_n (λ e. omega arith)));
  }

  -- ---- the top

  tops-were : top_blocks u ≡ (header_of u.image).top ∷ []
  tops-were = top-is u z.some

  set-was : IsIndexSet (index_blocks k u) (top_level u) ((header_of u.image).top ∷ [])
  set-was = (let S : List ℕ → Type 0 = λ ns. IsIndexSet (index_blocks k u) (top_level u) ns in subst S tops-were z.index.set)

  links-were : AreLevelsLinked (index_blocks k u) (next_in u) (top_level u) ((header_of u.image).top ∷ [])
  links-were = (let L : List ℕ → Type 0 = λ ns. AreLevelsLinked (index_blocks k u) (next_in u) (top_level u) ns in subst L tops-were z.index.next)

  placed-were : ArePlaced (index_blocks k u) (top_level u) ((header_of u.image).top ∷ [])
  placed-were = (let A : List ℕ → Type 0 = λ ns. ArePlaced (index_blocks k u) (top_level u) ns in subst A tops-were (index-blocks-placed k u z.index))

  -- the index set with the new entry in the old block
  full-set : IsIndexSet full (top_level u) ((header_of u.image).top ∷ [])
      × (entries_below full (top_level u) ((header_of u.image).top ∷ []) ≡ with_entry (record { key = key; address = address }) (entries_below (index_blocks k u) (top_level u) ((header_of u.image).top ∷ [])))
  full-set =
      entered (index_blocks k u) full (top_level u) (header_of u.image).top (record { key = key; address = address }) z.left lead.child z.right z.set z.way z.new
      (full-level lead.child ∙ z.level_n, full-own ∙ sym (with-last (record { key = key; address = address }) (entries_in k (block_at u lead.child)) z.below))
      (λ b at other. full-stays b 0 at other) full-upper

  full-links : AreLevelsLinked full (next_in u) (top_level u) ((header_of u.image).top ∷ [])
  full-links = links-kept (index_blocks k u) full (next_in u) (next_in u) full-names (top_level u) ((header_of u.image).top ∷ []) set-was links-were

  full-placed : ArePlaced full (top_level u) ((header_of u.image).top ∷ [])
  full-placed = placed-kept (index_blocks k u) full (next_in u) (next_in u) full-names (top_level u) ((header_of u.image).top ∷ []) placed-were

  full-leads : p ≡ leaf_of full by z.steps (header_of u.image).top
  full-leads =
      z.leads
      ∙ sym (leaf-upper (index_blocks k u) full by 1 (λ b j at high. full-upper b j at (omega arith)) z.steps (top_level u) (header_of u.image).top ((header_of u.image).top ∷ []) z.deep set-was (inl refl))

  -- ---- the division

  -- every other block stays
  stays : (b j : ℕ) → level_in u b ≡ Some j → b ≢ lead.child → b ≢ p → Stays (index_blocks k u) (index_blocks k w) j b × (next_in w b ≡ next_in u b)
  stays b j at q1 q2 = (let is = level-kind u b j at in same-block k u w b j (h.stay b is.0) (h.others b is.0 q1 q2) at)

  full-stay : (b j : ℕ) → full.level b ≡ Some j → b ≢ lead.child → b ≢ p → Stays full (index_blocks k w) j b × (next_in w b ≡ next_in u b)
  full-stay b j at q1 q2 = (let s = stays b j (sym (full-level b) ∙ at) q1 q2 in ((s.0.0, s.0.1 ∙ sym (full-other b q1)), s.1))

  upper-stays : (b j : ℕ) → full.level b ≡ Some j → 1 < j → Stays full (index_blocks k w) j b × (next_in w b ≡ next_in u b)
  upper-stays b j at high =
      let own : level_in u b ≡ Some j = sym (full-level b) ∙ at in
      full-stay b j at (other-level b lead.child j 0 own z.level_n (λ e. omega arith)) (other-level b p j 1 own z.level_p (λ e. omega arith))

  -- every block but the new one was of its level
  was : (b j : ℕ) → level_in w b ≡ Some j → b ≢ h.block → full.level b ≡ Some j
  was b j at q =
      let is = level-kind w b j at in
      let kind : IsKind u 2 b = elim (h.back b is.0) [ inl old ↦ old | inr e ↦ absurd (q e) ] in
      let by-level = λ (t i : ℕ) (e : b ≡ t) (new : level_in w t ≡ Some i) (old : level_in u t ≡ Some i).
      (let same = level-is (index_blocks k w) i j t new (ap (level_in w) (sym e) ∙ at) in
      let g : level_in u b ≡ Some j = ap (level_in u) e ∙ old ∙ ap (λ (x : ℕ). Some x) same in g) in
      full-level b
      ∙ elim (cases_eq b lead.child) [
        | inl e ↦ by-level lead.child 0 e (borne k 0 lead.child h.block w (entries_in k (block_at u lead.child)) h.low).0 z.level_n
        | inr q1 ↦ elim (cases_eq b p) [
          | inl e ↦ by-level p 1 e (level-of w p h.upper.is.is ∙ ap (λ (i : ℕ). Some i) h.upper.is.level) z.level_p
          | inr q2 ↦ level-of u b kind ∙ ap (λ (t : List ℕ). Some (slice_index t 3)) (sym (h.others b kind q1 q2)) ∙ ap (λ (i : ℕ). Some i) is.1
        ]
      ]

  apart-p : p ≢ lead.child
  apart-p = other-level p lead.child 1 0 z.level_p z.level_n (λ e. omega arith)

  is-divided : IsDivided full (index_blocks k w) 0 lead.child h.block p
  is-divided =
      let es : List Entry = entries_in k (block_at u lead.child) in
      let ups : List Entry = entries_in k (block_at u p) in
      let new : Entry = record { key = key; address = address } in
      let two : Entry = record { key = take k lead.key; address = h.block } in
      record {
        before = z.before;
        last = z.last_entry;
        behind = new ∷ [];
        was = full-own ∙ ap (λ (t : List Entry). t ++ (new ∷ [])) z.ends ∙ append_assoc z.before (z.last_entry ∷ []) (new ∷ []);
        low = h.low.entries ∙ z.ends;
        high = h.high.entries;
        some = λ e. cc;
        levels = (
          level-of w lead.child h.low.is.is ∙ ap (λ (i : ℕ). Some i) h.low.is.level,
          level-of w h.block h.high.is.is ∙ ap (λ (i : ℕ). Some i) h.high.is.level,
          level-of w p h.upper.is.is ∙ ap (λ (i : ℕ). Some i) h.upper.is.level,
        );
        front = take lead.index ups;
        entry = record { key = take k lead.key; address = lead.child };
        back = drop (suc lead.index) ups;
        named_was = full-other p apart-p ∙ parts ups lead.index (record { key = take k lead.key; address = lead.child }) z.at.entry;
        child = refl;
        named_is = h.upper.entries
            ∙ ap (λ (t : List ℕ). take lead.index ups ++ (record { key = t; address = lead.child } ∷ two ∷ drop (suc lead.index) ups)) (sym z.last_is);
        lower = λ b j at less. absurd (omega arith);
        beside = λ b at other. (full-stay b 0 at other (other-level b p 0 1 (sym (full-level b) ∙ at) z.level_p (λ e. omega arith))).0;
        above = λ b at other. (full-stay b 1 at (other-level b lead.child 1 0 (sym (full-level b) ∙ at) z.level_n (λ e. omega arith)) other).0;
      }

  -- ---- the whole

  top-same : (header_of w.image).top ≡ (header_of u.image).top
  top-same = ap (λ (x : Header). x.top) h.header

  height-same : (header_of w.image).height ≡ (header_of u.image).height
  height-same = ap (λ (x : Header). x.height) h.header

  level-same : top_level w ≡ top_level u
  level-same = ap (λ (i : ℕ). i - 1) height-same

  tops-are : top_blocks w ≡ (header_of u.image).top ∷ []
  tops-are = (let same = top-same in let some = z.some in top-is w (omega arith)) ∙ ap (λ (i : ℕ). i ∷ []) top-same

  here : (before behind : List ℕ) → IsAround full by 1 before p behind → AreLevelsLinked full (next_in u) 1 (before ++ (p ∷ behind))
      → KeepsIndexSet full (index_blocks k w) 1 (before ++ (p ∷ behind)) × AreLevelsLinked (index_blocks k w) (next_in w) 1 (before ++ (p ∷ behind))
  here before behind a g =
      let later = h.high.is.is.later in (
        dividing.divided full (index_blocks k w) 0 lead.child h.block p is-divided before behind a.set,
        divisions-linked full (index_blocks k w) (next_in u) (next_in w) 0 lead.child h.block p before behind is-divided a.set g (λ e. omega arith) h.low.next_is
            (h.high.next_is ∙ sym z.next)
            (λ b j at other. elim (cases_eq b p) [
              | inl e ↦ (let N : ℕ → Type 0 = λ i. next_in w i ≡ next_in u i in subst N (sym e) h.upper.next_is)
              | inr apart ↦ (full-stay b j at other apart).1
            ]),
      )

  kept : KeepsIndexSet full (index_blocks k w) (top_level u) ((header_of u.image).top ∷ []) × AreLevelsLinked (index_blocks k w) (next_in w) (top_level u) ((header_of u.image).top ∷ [])
  kept =
      let d : IndexBlocks = index_blocks k w in
      change-lifted full d (next_in u) (next_in w) by 1 (λ b j at high. (upper-stays b j at high).0) (λ b j at high. (upper-stays b j at high).1) z.steps (top_level u) (header_of u.image).top z.deep full-set.0
      full-links
      (λ before behind.
      let P : ℕ → Type 0 = λ q. IsAround full by 1 before q behind → AreLevelsLinked full (next_in u) 1 (before ++ (q ∷ behind))
      → KeepsIndexSet full d 1 (before ++ (q ∷ behind)) × AreLevelsLinked d (next_in w) 1 (before ++ (q ∷ behind)) in
      subst P full-leads (here before behind))

  placed : ArePlaced (index_blocks k w) (top_level u) ((header_of u.image).top ∷ [])
  placed =
      let at = z.deep in
      divided-placed full (index_blocks k w) (top_level u) 0 lead.child h.block p ((header_of u.image).top ∷ []) is-divided full-placed (omega arith) was
      (λ q j at q1 q2. (full-stay q j at q1 q2).0) (full-level lead.child ∙ z.level_n) (full-level p ∙ z.level_p)

  counts : (b : ℕ) → IsKind w 2 b → number_at 2 (block_at w b) 4 ≤ entry_room k w.size
  counts b kind =
      let C : ℕ → Type 0 = λ i. number_at 2 (block_at w i) 4 ≤ entry_room k w.size in
      elim (cases_eq b lead.child) [
        | inl e ↦ subst C (sym e) h.low.is.count
        | inr q1 ↦ elim (cases_eq b p) [
          | inl e ↦ subst C (sym e) h.upper.is.count
          | inr q2 ↦ elim (h.back b kind) [
            | inl old ↦
                (let B : List ℕ → Type 0 = λ t. number_at 2 t 4 ≤ entry_room k w.size in
                let Z : ℕ → Type 0 = λ i. number_at 2 (block_at u b) 4 ≤ entry_room k i in
                subst B (sym (h.others b old q1 q2)) (subst Z (sym h.size) (z.index.count b old)))
            | inr e ↦ subst C (sym e) h.high.is.count
          ]
        ]
      ]

  has-set : HasIndexSet k w
  has-set =
      let S : ℕ → List ℕ → Type 0 = λ i ns. IsIndexSet (index_blocks k w) i ns in
      let L : ℕ → List ℕ → Type 0 = λ i ns. AreLevelsLinked (index_blocks k w) (next_in w) i ns in
      let P : ℕ → List ℕ → Type 0 = λ i ns. ArePlaced (index_blocks k w) i ns in
      let all = kept in
      assembled k w h.formatted (λ one. z.index.version (sym (ap (λ (x : Header). x.version) h.header) ∙ one)) (rw (top-same, height-same) z.index.height)
      (subst (λ (i : ℕ). S i (top_blocks w)) (sym level-same) (subst (S (top_level u)) (sym tops-are) all.0.0))
      (subst (λ (i : ℕ). P i (top_blocks w)) (sym level-same) (subst (P (top_level u)) (sym tops-are) placed))
      counts
      (subst (λ (i : ℕ). L i (top_blocks w)) (sym level-same) (subst (L (top_level u)) (sym tops-are) all.1))

  entries-are : index_entries k w ≡ with_entry (record { key = key; address = address }) (index_entries k u)
  entries-are =
      let e : Entry = record { key = key; address = address } in
      (entries-below k w).1 (λ one. z.index.version (sym (ap (λ (x : Header). x.version) h.header) ∙ one))
      ∙ ap (λ (i : ℕ). entries_below (index_blocks k w) i (top_blocks w)) level-same
      ∙ ap (entries_below (index_blocks k w) (top_level u)) tops-are
      ∙ kept.0.1.0
      ∙ full-set.1
      ∙ ap (λ (ns : List ℕ). with_entry e (entries_below (index_blocks k u) (top_level u) ns)) (sym tops-were)
      ∙ ap (with_entry e) (sym ((entries-below k u).1 z.index.version))

  pub hung-changed : IsChanged k u (with_entry (record { key = key; address = address }) (index_entries k u)) 1 w
  hung-changed = record { size = h.size; index = has-set; entries = entries-are; change = h.change; spares = h.spares }
