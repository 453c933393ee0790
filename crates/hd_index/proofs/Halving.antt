-- A block divided under its parent, which has room: the index stays, and one block fewer is needed where the key leads.
use Rattle.std.proofs.Common.{◌≡◌, ◌≢◌, ◌⊎◌, inl, inr, ℕ, suc, ◌+◌, ◌-◌, ◌<◌, ◌≤◌, ◌==◌, cond, Bool, true, List, [], ◌∷◌, ◌++◌, length, take, drop, Some, slice_index, refl, sym, ap, ◌∙◌, subst, arith, ne_eqb}
use Rattle.std.specs.Prelude.{min}
use Rattle.std.specs.Option.{option_map}
use Rattle.std.proofs.lemmas.Bool.{cases_eq, cases_lt, eq-eqb, leb-true, le-leb}
use Rattle.std.proofs.lemmas.List.{length-take-le, length-drop}
use Rattle.hd_bytes.specs.Numbers.{number_at}
use Rattle.hd_volume.specs.Headers.{Header, header_of}
use Rattle.hd_volume.specs.Rooms.{one_if}
use Rattle.hd_volume.specs.Volumes.{VolumeState, block_at, IsKind}
use Rattle.hd_volume.specs.Entries.{Entry, entries_in}
use Rattle.hd_volume.specs.Indexes.{entry_room, IsAmong}
use Rattle.hd_volume.proofs.JoinLemmas.{AreOne}
use Rattle.hd_index_blocks.specs.Fields.{entry_place, below_count}
use Rattle.hd_index_blocks.proofs.RoomLemmas.{room-most}
use Rattle.hd_index_blocks.proofs.BlockLemmas.{length-entries, get-within}
use Rattle.hd_index_blocks.specs.Levels.{IndexBlocks, across, named, entries_below, IsIndexSet}
use Rattle.hd_index_blocks.specs.Ways.{child_of, IsAround}
use Rattle.hd_index_blocks.specs.Changes.{Stays, KeepsIndexSet, IsDivided}
use Rattle.hd_index_blocks.specs.Chains.{AreLevelsLinked}
use Rattle.hd_index_blocks.specs.Parents.{ArePlaced}
use Rattle.hd_index_blocks.specs.IndexSets.{level_in, next_in, index_blocks, top_blocks, top_level, index_entries, HasIndexSet}
use Rattle.hd_index_blocks.specs.Needs.{is_full, full_blocks, needed_by}
use Rattle.hd_index_blocks.specs.VolumeLaws.{IsRightBlock}
use Rattle.hd_index_blocks.proofs.Needs.{full-most}
use Rattle.hd_index_blocks.proofs.Volumes.{level-of, level-kind, some-count, entries-below, top-is, children-right}
use Rattle.hd_index_blocks.proofs.Downs.{among-right, child-named, named-across, level-is}
use Rattle.hd_index_blocks.proofs.Descents.{top-around}
use Rattle.hd_index_blocks.proofs.Dividing as dividing
use Rattle.hd_index_blocks.proofs.Linking.{divisions-linked}
use Rattle.hd_index_blocks.proofs.Parents.{index-blocks-placed}
use Rattle.hd_index_blocks.proofs.Paths.{change-lifted, around-below, leaf-upper}
use Rattle.hd_index_blocks.proofs.Fullness.{full-block, child-full, full-above, divided-fewer}
use Rattle.hd_index_blocks.proofs.Placing.{divided-placed}
use Rattle.hd_index.specs.declared.divisions.Lead.{Lead}
use Rattle.hd_index.specs.declared.divisions.Cut.{Cut}
use Rattle.hd_index.specs.Divisions.{IsLowestRoom, IsLeadOf, IsCutOf, IsDividedUnder, IsRoomMade}
use Rattle.hd_index.proofs.EditLemmas.{one-block-at}
use Rattle.hd_index.specs.Blocks.{IsInOrder}
use Rattle.hd_index.proofs.Searching.{right-order, right-same}
use Rattle.hd_index.proofs.Places.{child-here}
use Rattle.hd_index.proofs.Parts.{parts, take-more, drop-some, lead-parts}
use Rattle.hd_index.proofs.Steps.{same-block, borne, assembled}

-- ---- how many blocks are needed

-- not all are full
pub needed-some : (k : ℕ) (v : VolumeState) (by : List ℕ) (f : ℕ) → (header_of v.image).top ≢ 0
    → full_blocks (index_blocks k v) (entry_room k v.size) by (top_level v) (header_of v.image).top ≡ f → f ≢ (header_of v.image).height → needed_by k v by ≡ f
needed-some k v by f some full other =
    let high : ℕ = (header_of v.image).height in
    let all : ℕ = full_blocks (index_blocks k v) (entry_room k v.size) by (top_level v) (header_of v.image).top in
    ap (λ (b : Bool). cond b 1 (all + one_if (all == high))) (ne_eqb (header_of v.image).top 0 some) ∙ ap (λ (i : ℕ). i + one_if (i == high)) full
    ∙ ap (λ (b : Bool). f + one_if b) (ne_eqb f high other) ∙ (let e : f + 0 ≡ f = omega arith in e)

-- all are
pub needed-all : (k : ℕ) (v : VolumeState) (by : List ℕ) (f : ℕ) → (header_of v.image).top ≢ 0
    → full_blocks (index_blocks k v) (entry_room k v.size) by (top_level v) (header_of v.image).top ≡ f → f ≡ (header_of v.image).height → needed_by k v by ≡ f + 1
needed-all k v by f some full same =
    let high : ℕ = (header_of v.image).height in
    let all : ℕ = full_blocks (index_blocks k v) (entry_room k v.size) by (top_level v) (header_of v.image).top in
    ap (λ (b : Bool). cond b 1 (all + one_if (all == high))) (ne_eqb (header_of v.image).top 0 some) ∙ ap (λ (i : ℕ). i + one_if (i == high)) full
    ∙ ap (λ (b : Bool). f + one_if b) (eq-eqb f high same)

-- So many blocks are full: all, and then a new top is needed too, or not all.
pub full-known : (k : ℕ) (v : VolumeState) (by : List ℕ) → HasIndexSet k v → 0 < (header_of v.image).top
    → ((full_blocks (index_blocks k v) (entry_room k v.size) by (top_level v) (header_of v.image).top ≡ (header_of v.image).height) × (needed_by k v by ≡ (header_of v.image).height + 1))
    ⊎ ((full_blocks (index_blocks k v) (entry_room k v.size) by (top_level v) (header_of v.image).top ≡ needed_by k v by) × (needed_by k v by < (header_of v.image).height))
full-known k v by x some =
    let high : ℕ = (header_of v.image).height in
    let all : ℕ = full_blocks (index_blocks k v) (entry_room k v.size) by (top_level v) (header_of v.image).top in
    let most : all ≤ suc (top_level v) = full-most (index_blocks k v) (entry_room k v.size) by (top_level v) (header_of v.image).top in
    let up : 0 < high = elim x.height [ inl none ↦ (let z = none.0 in absurd (omega arith)) | inr h ↦ h.1 ] in
    elim (cases_eq all high) [
      | inl same ↦ (let n = needed-all k v by all (λ e. omega arith) refl same in inl (same, n ∙ ap (λ (i : ℕ). i + 1) same))
      | inr other ↦ (let n = needed-some k v by all (λ e. omega arith) refl other in inr (sym n, omega arith))
    ]

-- ---- what is read for it

-- the entry leads where the key does
pub lead-child : (k : ℕ) (u : VolumeState) (by : List ℕ) (p : ℕ) (lead : Lead) → IsLeadOf k by (block_at u p) lead → lead.child ≡ child_of by (entries_in k (block_at u p))
lead-child k u by p lead leads =
    let ups : List Entry = entries_in k (block_at u p) in
    let len = length-entries k (block_at u p) 12 (number_at 2 (block_at u p) 4) in
    let index = leads.index in
    let at : lead.index ≡ min (below_count by ups) (length ups - 1) = omega arith in
    child-here by ups lead.index (record { key = take k lead.key; address = lead.child }) at leads.at.entry

pub lead-right : (k : ℕ) (u : VolumeState) (by : List ℕ) (l p : ℕ) (lead : Lead) → HasIndexSet k u → IsRightBlock k u (suc l) p → IsLeadOf k by (block_at u p) lead → IsRightBlock k u l lead.child
lead-right k u by l p lead x right leads =
    let R : ℕ → Type 0 = λ i. IsRightBlock k u l i in
    subst R (sym (lead-child k u by p lead leads)) (children-right k u by l p x right)

-- All that the division asks.
pub record IsReadyFor (k : ℕ) (u : VolumeState) (by : List ℕ) (l p : ℕ) (lead : Lead) (cut : Cut) : Type 0 where
  pub leads : IsLeadOf k by (block_at u p) lead
  pub cuts : IsCutOf k (block_at u lead.child) cut
  pub right : IsRightBlock k u l lead.child
  pub index : lead.index < lead.count
  pub free : lead.count < entry_room k u.size
  pub within : cut.count ≤ entry_room k u.size

-- Under the lowest block that has room, the full block where the key leads may be divided.
pub ready-for : (k : ℕ) (u v : VolumeState) (by : List ℕ) (l p : ℕ) (lead : Lead) (cut : Cut) → AreOne u v → HasIndexSet k u → IsLowestRoom k u by l p → entry_place k 3 ≤ u.size
    → (IsInOrder k u p → 0 < number_at 2 (block_at u p) 4 → IsLeadOf k by (block_at u p) lead)
    → (IsInOrder k v lead.child → 2 ≤ number_at 2 (block_at v lead.child) 4 → IsCutOf k (block_at v lead.child) cut) → IsReadyFor k u by l p lead cut
ready-for k u v by l p lead cut o x r three lead-read cut-read =
    let room : ℕ = entry_room k u.size in
    let leads = lead-read (right-order k u (suc l) p r.right) r.right.some in
    let right = lead-right k u by l p lead x r.right leads in
    let fits : 3 ≤ room = room-most k u.size 3 three in
    let len-p : length (entries_in k (block_at u p)) ≡ number_at 2 (block_at u p) 4 = length-entries k (block_at u p) 12 (number_at 2 (block_at u p) 4) in
    let len-n : length (entries_in k (block_at u lead.child)) ≡ number_at 2 (block_at u lead.child) 4 = length-entries k (block_at u lead.child) 12 (number_at 2 (block_at u lead.child) 4) in
    let all = ap (full_blocks (index_blocks k u) room by l) (lead-child k u by p lead leads) ∙ child-full (index_blocks k u) room by l p r.full in
    let full : room ≤ length (entries_in k (block_at u lead.child)) = leb-true room (length (entries_in k (block_at u lead.child))) (full-block (index_blocks k u) room by l lead.child all) in
    let some = r.right.some in
    let count = leads.at.count in
    let index = leads.index in
    let same = one-block-at o lead.child in
    let C : List ℕ → Type 0 = λ b. IsCutOf k b cut in
    let N : List ℕ → Type 0 = λ b. 2 ≤ number_at 2 b 4 in
    let two : N (block_at v lead.child) = subst N (sym same) (let e : 2 ≤ number_at 2 (block_at u lead.child) 4 = omega arith in e) in
    let cuts = subst C same (cut-read (right-order k v l lead.child (right-same k u v l lead.child o right)) two) in
    let cut-count = cuts.count in
    let most = right.count in
    let free : length (entries_in k (block_at u p)) < room = elim (cases_lt (length (entries_in k (block_at u p))) room) [
      | inl less ↦ less
      | inr past ↦ (let e : is_full (index_blocks k u) room p ≡ true = le-leb room (length (entries_in k (block_at u p))) (omega arith) in let f = sym e ∙ r.free in absurd (cc))
    ]
    in
    record { leads = leads; cuts = cuts; right = right; index = omega arith; free = omega arith; within = omega arith }

-- ---- the division

module _ (k : ℕ) {u w : VolumeState} (by : List ℕ) (l p : ℕ) (lead : Lead) (cut : Cut) (x : HasIndexSet k u) (some : 0 < (header_of u.image).top) (r : IsLowestRoom k u by l p)
    (leads : IsLeadOf k by (block_at u p) lead) (cuts : IsCutOf k (block_at u lead.child) cut) (h : IsDividedUnder k u l p lead cut w) where
  child-is : lead.child ≡ child_of by (entries_in k (block_at u p))
  child-is = lead-child k u by p lead leads

  right-child : IsRightBlock k u l lead.child
  right-child = lead-right k u by l p lead x r.right leads

  level-upper : level_in u p ≡ Some (suc l)
  level-upper = level-of u p r.right.is ∙ ap (λ (i : ℕ). Some i) r.right.level

  level-child : level_in u lead.child ≡ Some l
  level-child = (let right = right-child in level-of u lead.child right.is ∙ ap (λ (i : ℕ). Some i) right.level)

  -- blocks of two levels are two
  other-level : (b t j i : ℕ) → level_in u b ≡ Some j → level_in u t ≡ Some i → j ≢ i → b ≢ t
  other-level b t j i at there other same = other (level-is (index_blocks k u) j i t (ap (level_in u) (sym same) ∙ at) there)

  -- every other block stays
  stays : (b j : ℕ) → level_in u b ≡ Some j → b ≢ lead.child → b ≢ p → Stays (index_blocks k u) (index_blocks k w) j b × (next_in w b ≡ next_in u b)
  stays b j at q1 q2 = (let is = level-kind u b j at in same-block k u w b j (h.stay b is.0) (h.others b is.0 q1 q2) at)

  -- those of the levels above the parent
  upper-stays : (b j : ℕ) → level_in u b ≡ Some j → suc l < j → Stays (index_blocks k u) (index_blocks k w) j b × (next_in w b ≡ next_in u b)
  upper-stays b j at high = stays b j at (other-level b lead.child j l at level-child (λ e. omega arith)) (other-level b p j (suc l) at level-upper (λ e. omega arith))

  -- every block but the new one was of its level
  was : (b j : ℕ) → level_in w b ≡ Some j → b ≢ h.block → level_in u b ≡ Some j
  was b j at q =
      let is = level-kind w b j at in
      let kind : IsKind u 2 b = elim (h.back b is.0) [ inl old ↦ old | inr e ↦ absurd (q e) ] in
      let by-level = λ (t i : ℕ) (e : b ≡ t) (new : level_in w t ≡ Some i) (old : level_in u t ≡ Some i).
      (let same = level-is (index_blocks k w) i j t new (ap (level_in w) (sym e) ∙ at) in
      let g : level_in u b ≡ Some j = ap (level_in u) e ∙ old ∙ ap (λ (z : ℕ). Some z) same in g) in
      elim (cases_eq b lead.child) [
        | inl e ↦ by-level lead.child l e (borne k l lead.child h.block w (take cut.half (entries_in k (block_at u lead.child))) h.low).0 level-child
        | inr q1 ↦ elim (cases_eq b p) [
          | inl e ↦ by-level p (suc l) e (level-of w p h.upper.is.is ∙ ap (λ (i : ℕ). Some i) h.upper.is.level) level-upper
          | inr q2 ↦ level-of u b kind ∙ ap (λ (t : List ℕ). Some (slice_index t 3)) (sym (h.others b kind q1 q2)) ∙ ap (λ (i : ℕ). Some i) is.1
        ]
      ]

  -- the child has more entries than it keeps, and no more than find room
  child-count : (length (entries_in k (block_at u lead.child)) ≡ cut.count) × (cut.count ≤ entry_room k u.size)
  child-count =
      let len = length-entries k (block_at u lead.child) 12 (number_at 2 (block_at u lead.child) 4) in
      let right = right-child in
      let fits = right.count in
      let count = cuts.count in
      (omega arith, omega arith)

  -- the division by its blocks
  is-divided : IsDivided (index_blocks k u) (index_blocks k w) l lead.child h.block p
  is-divided =
      let es : List Entry = entries_in k (block_at u lead.child) in
      let ups : List Entry = entries_in k (block_at u p) in
      let some-kept = cuts.some in
      let not-all = cuts.less in
      let count = child-count.0 in
      let half : ℕ = cut.half in
      let one : suc (half - 1) ≡ half = omega arith in
      let e = get-within es (half - 1) (omega arith) in
      let last = e.element in
      let key : last.key ≡ take k cut.key =
      (let both : Some last.key ≡ Some (take k cut.key) = sym (ap (option_map (λ (t : Entry). t.key)) e.is) ∙ cuts.last in cc) in
      let two : Entry = record { key = take k lead.key; address = h.block } in
      record {
        before = take (half - 1) es;
        last = last;
        behind = drop half es;
        was = parts es (half - 1) last e.is ∙ ap (λ (i : ℕ). take (half - 1) es ++ (last ∷ drop i es)) one;
        low = h.low.entries ∙ ap (λ (i : ℕ). take i es) (sym one) ∙ take-more es (half - 1) last e.is;
        high = h.high.entries;
        some = drop-some es half (omega arith);
        levels = (
          level-of w lead.child h.low.is.is ∙ ap (λ (i : ℕ). Some i) h.low.is.level,
          level-of w h.block h.high.is.is ∙ ap (λ (i : ℕ). Some i) h.high.is.level,
          level-of w p h.upper.is.is ∙ ap (λ (i : ℕ). Some i) h.upper.is.level,
        );
        front = take lead.index ups;
        entry = record { key = take k lead.key; address = lead.child };
        back = drop (suc lead.index) ups;
        named_was = parts ups lead.index (record { key = take k lead.key; address = lead.child }) leads.at.entry;
        child = refl;
        named_is = h.upper.entries
            ∙ ap (λ (t : List ℕ). take lead.index ups ++ (record { key = t; address = lead.child } ∷ two ∷ drop (suc lead.index) ups)) (sym key);
        lower = λ b j at less. (stays b j at (other-level b lead.child j l at level-child (λ z. omega arith)) (other-level b p j (suc l) at level-upper (λ z. omega arith))).0;
        beside = λ b at other. (stays b l at other (other-level b p l (suc l) at level-upper (λ z. omega arith))).0;
        above = λ b at other. (stays b (suc l) at (other-level b lead.child (suc l) l at level-child (λ z. omega arith)) other).0;
      }

  -- ---- the top

  top-same : (header_of w.image).top ≡ (header_of u.image).top
  top-same = ap (λ (z : Header). z.top) h.header

  height-same : (header_of w.image).height ≡ (header_of u.image).height
  height-same = ap (λ (z : Header). z.height) h.header

  level-same : top_level w ≡ top_level u
  level-same = ap (λ (i : ℕ). i - 1) height-same

  tops-were : top_blocks u ≡ (header_of u.image).top ∷ []
  tops-were = top-is u some

  tops-are : top_blocks w ≡ (header_of u.image).top ∷ []
  tops-are = (let same = top-same in top-is w (omega arith)) ∙ ap (λ (i : ℕ). i ∷ []) top-same

  set-was : IsIndexSet (index_blocks k u) (top_level u) ((header_of u.image).top ∷ [])
  set-was = (let S : List ℕ → Type 0 = λ ns. IsIndexSet (index_blocks k u) (top_level u) ns in subst S tops-were x.set)

  -- the index set at the top, and the chains of all levels
  kept : KeepsIndexSet (index_blocks k u) (index_blocks k w) (top_level u) ((header_of u.image).top ∷ []) × AreLevelsLinked (index_blocks k w) (next_in w) (top_level u) ((header_of u.image).top ∷ [])
  kept =
      let c : IndexBlocks = index_blocks k u in
      let d : IndexBlocks = index_blocks k w in
      let L : List ℕ → Type 0 = λ ns. AreLevelsLinked c (next_in u) (top_level u) ns in
      change-lifted c d (next_in u) (next_in w) by (suc l) (λ b j at high. (upper-stays b j at high).0) (λ b j at high. (upper-stays b j at high).1) r.steps (top_level u) (header_of u.image).top r.level set-was
      (subst L tops-were x.next)
      (λ before behind.
      let P : ℕ → Type 0 = λ q. IsAround c by (suc l) before q behind → AreLevelsLinked c (next_in u) (suc l) (before ++ (q ∷ behind))
      → KeepsIndexSet c d (suc l) (before ++ (q ∷ behind)) × AreLevelsLinked d (next_in w) (suc l) (before ++ (q ∷ behind)) in
      subst P r.at (here before behind))
    where
      here : (before behind : List ℕ) → IsAround (index_blocks k u) by (suc l) before p behind → AreLevelsLinked (index_blocks k u) (next_in u) (suc l) (before ++ (p ∷ behind))
          → KeepsIndexSet (index_blocks k u) (index_blocks k w) (suc l) (before ++ (p ∷ behind)) × AreLevelsLinked (index_blocks k w) (next_in w) (suc l) (before ++ (p ∷ behind))
      here before behind a g =
          let later = h.high.is.is.later in (
            dividing.divided (index_blocks k u) (index_blocks k w) l lead.child h.block p is-divided before behind a.set,
            divisions-linked (index_blocks k u) (index_blocks k w) (next_in u) (next_in w) l lead.child h.block p before behind is-divided a.set g (λ z. omega arith) h.low.next_is
                (h.high.next_is ∙ cuts.next)
                (λ b j at other. elim (cases_eq b p) [
                  | inl e ↦ (let N : ℕ → Type 0 = λ i. next_in w i ≡ next_in u i in subst N (sym e) h.upper.next_is)
                  | inr apart ↦ (stays b j at other apart).1
                ]),
          )

  -- each block has its place
  placed : ArePlaced (index_blocks k w) (top_level u) ((header_of u.image).top ∷ [])
  placed =
      let A : List ℕ → Type 0 = λ ns. ArePlaced (index_blocks k u) (top_level u) ns in
      let at = r.level in
      divided-placed (index_blocks k u) (index_blocks k w) (top_level u) l lead.child h.block p ((header_of u.image).top ∷ []) is-divided (subst A tops-were (index-blocks-placed k u x)) (omega arith) was
      (λ q j at q1 q2. (stays q j at q1 q2).0) level-child level-upper

  counts : (b : ℕ) → IsKind w 2 b → number_at 2 (block_at w b) 4 ≤ entry_room k w.size
  counts b kind =
      let C : ℕ → Type 0 = λ i. number_at 2 (block_at w i) 4 ≤ entry_room k w.size in
      elim (cases_eq b lead.child) [
        | inl e ↦ subst C (sym e) h.low.is.count
        | inr q1 ↦ elim (cases_eq b p) [
          | inl e ↦ subst C (sym e) h.upper.is.count
          | inr q2 ↦ elim (h.back b kind) [
            | inl old ↦
                (let B : List ℕ → Type 0 = λ t. number_at 2 t 4 ≤ entry_room k w.size in
                let Z : ℕ → Type 0 = λ z. number_at 2 (block_at u b) 4 ≤ entry_room k z in
                subst B (sym (h.others b old q1 q2)) (subst Z (sym h.size) (x.count b old)))
            | inr e ↦ subst C (sym e) h.high.is.count
          ]
        ]
      ]

  has-set : HasIndexSet k w
  has-set =
      let S : ℕ → List ℕ → Type 0 = λ i ns. IsIndexSet (index_blocks k w) i ns in
      let L : ℕ → List ℕ → Type 0 = λ i ns. AreLevelsLinked (index_blocks k w) (next_in w) i ns in
      let P : ℕ → List ℕ → Type 0 = λ i ns. ArePlaced (index_blocks k w) i ns in
      let all = kept in
      assembled k w h.formatted (λ e. x.version (sym (ap (λ (z : Header). z.version) h.header) ∙ e)) (rw (top-same, height-same) x.height)
      (subst (λ (i : ℕ). S i (top_blocks w)) (sym level-same) (subst (S (top_level u)) (sym tops-are) all.0.0))
      (subst (λ (i : ℕ). P i (top_blocks w)) (sym level-same) (subst (P (top_level u)) (sym tops-are) placed))
      counts
      (subst (λ (i : ℕ). L i (top_blocks w)) (sym level-same) (subst (L (top_level u)) (sym tops-are) all.1))

  entries-stay : index_entries k w ≡ index_entries k u
  entries-stay =
      (entries-below k w).1 (λ e. x.version (sym (ap (λ (z : Header). z.version) h.header) ∙ e))
      ∙ ap (λ (i : ℕ). entries_below (index_blocks k w) i (top_blocks w)) level-same
      ∙ ap (entries_below (index_blocks k w) (top_level u)) tops-are
      ∙ kept.0.1.0
      ∙ sym (ap (entries_below (index_blocks k u) (top_level u)) tops-were)
      ∙ sym ((entries-below k u).1 x.version)

  -- ---- the blocks that are needed

  full-was : full_blocks (index_blocks k u) (entry_room k u.size) by (top_level u) (header_of u.image).top ≡ suc l
  full-was =
      let F : ℕ → Type 0 = λ q. full_blocks (index_blocks k u) (entry_room k u.size) by (suc l) q ≡ suc l in
      full-above (index_blocks k u) (entry_room k u.size) by (suc l) (suc l) (omega arith) r.steps (top_level u) (header_of u.image).top r.level (subst F r.at r.full)

  -- under the parent one fewer is full
  full-below : full_blocks (index_blocks k w) (entry_room k u.size) by (suc l) p ≡ l
  unfolding is-divided
  full-below =
      let c : IndexBlocks = index_blocks k u in
      let ups : List Entry = entries_in k (block_at u p) in
      let es : List Entry = entries_in k (block_at u lead.child) in
      let a = around-below c by (suc l) r.steps (top_level u) [] (header_of u.image).top [] r.level (top-around c by (top_level u) (header_of u.image).top set-was) in
      let A : ℕ → Type 0 = λ q. IsAround c by (suc l) a.0 q a.1 in
      let own : IsAround c by (suc l) a.0 p a.1 = subst A (sym r.at) a.2 in
      let I : ℕ → Type 0 = λ i. IsAmong i (named ups) in
      let names = subst I (sym child-is) (child-named by ups (some-count k (block_at u p) 12 (number_at 2 (block_at u p) 4) r.right.some)) in
      let among = named-across c lead.child p (a.0 ++ (p ∷ a.1)) (among-right p a.0 (p ∷ a.1) (inl refl)) names in
      let len = length-entries k (block_at u p) 12 (number_at 2 (block_at u p) 4) in
      let index = leads.index in
      let at : lead.index ≡ min (below_count by ups) (length ups - 1) = omega arith in
      let sides = lead-parts by ups lead.index (record { key = take k lead.key; address = lead.child }) at leads.at.entry in
      let counted = child-count in
      let count = counted.0 in
      let fits = counted.1 in
      let some-kept = cuts.some in
      let not-all = cuts.less in
      let low : length (entries_in k (block_at w lead.child)) ≡ cut.half = ap length h.low.entries ∙ length-take-le cut.half es (omega arith) in
      let high : length (entries_in k (block_at w h.block)) ≡ length es - cut.half = ap length h.high.entries ∙ length-drop cut.half es in
      divided-fewer c (index_blocks k w) (entry_room k u.size) by l lead.child h.block p is-divided (named (across c (a.0 ++ (p ∷ a.1)))) own.set.2 among child-is sides.0 sides.1 (omega arith) (omega arith) r.full

  full-is : full_blocks (index_blocks k w) (entry_room k w.size) by (top_level w) (header_of w.image).top ≡ l
  full-is =
      let c : IndexBlocks = index_blocks k u in
      let d : IndexBlocks = index_blocks k w in
      let t : ℕ = (header_of u.image).top in
      let F : ℕ → Type 0 = λ q. full_blocks d (entry_room k u.size) by (suc l) q ≡ l in
      let same = leaf-upper c d by (suc l) (λ b j at high. (upper-stays b j at high).0) r.steps (top_level u) t (t ∷ []) r.level set-was (inl refl) in
      ap (λ (z : ℕ). full_blocks d (entry_room k z) by (top_level w) (header_of w.image).top) h.size
      ∙ ap (λ (i : ℕ). full_blocks d (entry_room k u.size) by i (header_of w.image).top) level-same
      ∙ ap (full_blocks d (entry_room k u.size) by (top_level u)) top-same
      ∙ full-above d (entry_room k u.size) by l (suc l) (omega arith) r.steps (top_level u) t r.level (subst F (r.at ∙ sym same) full-below)

  pub divided-room : IsRoomMade k u by w
  divided-room =
      let at = r.level in
      let top = top-same in
      let height = height-same in
      let up : 0 < (header_of u.image).height = elim x.height [ inl none ↦ (let z = none.0 in absurd (omega arith)) | inr g ↦ g.1 ] in
      let old = needed-some k u by (suc l) (λ e. omega arith) full-was (λ e. omega arith) in
      let new = needed-some k w by l (λ e. omega arith) full-is (λ e. omega arith) in
      record {
        changed = record { size = h.size; index = has-set; entries = entries-stay; change = h.change; spares = h.spares };
        some = omega arith;
        less = omega arith;
      }
