-- An entry that goes: from a fork of its way, or with the whole index.
use Rattle.std.proofs.Common.{◌≡◌, ◌≢◌, ◌⊎◌, inl, inr, ℕ, suc, ◌<◌, ◌≤◌, Bool, true, false, cond, List, [], ◌∷◌, ◌++◌, length, Option, Some, None, slice_index, refl, sym, ap, ◌∙◌, subst, arith}
use Rattle.std.specs.Prelude.{◌==◌, bytes_eq}
use Rattle.std.specs.Option.{is_some}
use Rattle.std.proofs.lemmas.Bool.{cases_eq, eq-eqb}
use Rattle.std.proofs.lemmas.Slice.Eq.{bytes_eq-Decides}
use Rattle.hd_bytes.specs.Numbers.{number_at}
use Rattle.hd_volume.specs.Headers.{Header, header_of}
use Rattle.hd_volume.specs.Volumes.{VolumeState, block_at}
use Rattle.hd_volume.specs.Calls.{HasNewHeader}
use Rattle.hd_volume.specs.Entries.{Entry, entries_in}
use Rattle.hd_volume.specs.Indexes.{entry_room, keys_ascend, IsAmong}
use Rattle.hd_volume.proofs.FrameLemmas.{AreSame}
use Rattle.hd_volume.proofs.JoinLemmas.{AreOne, one-spare}
use Rattle.hd_index_blocks.specs.Maps.{address_of, without_key}
use Rattle.hd_index_blocks.specs.Levels.{IndexBlocks, across, named, entries_below, IsIndexSet}
use Rattle.hd_index_blocks.specs.Ways.{IsNamed}
use Rattle.hd_index_blocks.specs.Chains.{AreLevelsLinked}
use Rattle.hd_index_blocks.specs.Neighbours.{last_of, last_child}
use Rattle.hd_index_blocks.specs.IndexSets.{level_in, next_in, index_blocks, top_blocks, top_level, index_entries, HasIndexSet}
use Rattle.hd_index_blocks.proofs.Keys.{ascend-parts}
use Rattle.hd_index_blocks.proofs.Levels.{named-append, on-parts, set-level, entries-append}
use Rattle.hd_index_blocks.proofs.Sets.{set-ascends}
use Rattle.hd_index_blocks.proofs.Descents.{around-down, around-answers, names-about}
use Rattle.hd_index_blocks.proofs.Downs.{among-parts, among-left, among-right, of-level, level-is}
use Rattle.hd_index_blocks.proofs.Neighbours.{left-named}
use Rattle.hd_index_blocks.proofs.Volumes.{entries-below, level-of, level-kind, top-is}
use Rattle.hd_index_blocks.proofs.Parents.{index-blocks-placed}
use Rattle.hd_index.specs.EditedBlocks.{level_of, without_entry_at}
use Rattle.hd_index.specs.Edits.{HasNewEntries, IsEntryRemoved}
use Rattle.hd_index.proofs.EditLemmas.{one-block-at}
use Rattle.hd_index.proofs.StepLemmas.{change-join, edit-step}
use Rattle.hd_index.specs.declared.stand.Stand.{Stand}
use Rattle.hd_index.specs.Changes.{IsChanged}
use Rattle.hd_index.specs.Stands.{front_of}
use Rattle.hd_index.specs.Removals.{IsBelow, IsThin, IsThinBelow, IsStepUp, IsOnWayIn, KeepsRest, IsCut}
use Rattle.hd_index.proofs.Fronts.{fronted}
use Rattle.hd_index.proofs.Heads.{head-other, head-on, head-back, head-change}
use Rattle.hd_index.proofs.ReadSteps.{changed-before}
use Rattle.hd_index.proofs.Searching.{set-same}
use Rattle.hd_index.proofs.Steps.{borne, other-stays, other-was, counts-stay}
use Rattle.hd_index.proofs.WaysUp.{on-top, left-some, relinked-same, way-stays, thin-entry, found-between, found-front}
use Rattle.hd_index.proofs.Cuts.{size-some, finish}
use Rattle.hd_index.proofs.Drops.{change-one}

-- an index that was only read
pub unchanged : (k : ℕ) (u v : VolumeState) (key : List ℕ) → AreOne u v → HasIndexSet k u → address_of key (index_entries k u) ≡ None → IsChanged k u (without_key key (index_entries k u)) 0 v
unchanged k u v key one x none =
    let r = set-same k u v one x in
    let spare = one-spare one in
    record { size = one.same.size; index = r.0; entries = r.1 ∙ sym (without-none key (index_entries k u) none); change = change-one u v one; spares = omega arith }
  where
    without-none : (key : List ℕ) (es : List Entry) → address_of key es ≡ None → without_key key es ≡ es
    without-none key [] none = refl
    without-none key (e ∷ es) none = by-test (bytes_eq e.key key) none (without-none key es)
      where
        by-test : (t : Bool) → cond t (Some e.address) (address_of key es) ≡ None → (address_of key es ≡ None → without_key key es ≡ es) → cond t es (e ∷ without_key key es) ≡ e ∷ es
        by-test true none rest = absurd (cc)
        by-test false none rest = ap (λ (t : List Entry). e ∷ t) (rest none)

-- a key that goes behind a read
pub removed-read : (k : ℕ) (u v w : VolumeState) (key : List ℕ) → AreOne u v → HasIndexSet k u → IsChanged k v (without_key key (index_entries k v)) 0 w → IsChanged k u (without_key key (index_entries k u)) 0 w
removed-read k u v w key one x c =
    let K : List Entry → Type 0 = λ es. IsChanged k v (without_key key es) 0 w in
    changed-before k u v w (without_key key (index_entries k u)) 0 one (subst K (set-same k u v one x).1 c)

-- ---- top and height are 0

-- where the header alone has changed each index block stays
module _ {v w : VolumeState} {h : Header} (same : AreSame v w) (n : HasNewHeader v h w) where
  head-level : (b j : ℕ) → level_in v b ≡ Some j → (level_in w b ≡ Some j) × (block_at w b ≡ block_at v b)
  head-level b j h =
      let s = level-kind v b j h in
      let bytes = head-other same n b s.0.there s.0.later in
      (level-of w b (head-on same n 2 b s.0) ∙ ap (λ (t : List ℕ). Some (slice_index t 3)) bytes ∙ ap (λ (i : ℕ). Some i) s.1, bytes)

  head-was : (b j : ℕ) → level_in w b ≡ Some j → level_in v b ≡ Some j
  head-was b j h =
      let s = level-kind w b j h in
      let old = head-back same n 2 b s.0 in
      let bytes = head-other same n b old.there old.later in
      level-of v b old ∙ ap (λ (t : List ℕ). Some (slice_index t 3)) (sym bytes) ∙ ap (λ (i : ℕ). Some i) s.1

-- the whole index is cut off
pub cleared : (k : ℕ) (u v w : VolumeState) (gone : Entry) (l : ℕ) (stand : Stand) → HasIndexSet k u → 0 < (header_of u.image).top → l ≡ top_level u → stand.left ≡ 0 → stand.block ≡ (header_of u.image).top
    → IsThin (index_blocks k u) l stand.block → entries_below (index_blocks k u) l (stand.block ∷ []) ≡ gone ∷ []
    → AreSame u v → HasNewHeader u (record (header_of u.image) { top = 0 }) v → AreSame v w → HasNewHeader v (record (header_of v.image) { height = 0 }) w → IsCut k u gone [] w l stand
cleared k u v w gone l stand x some level left block thin below same-v top same-w height =
    let c : IndexBlocks = index_blocks k u in
    let t : ℕ = (header_of u.image).top in
    let one = top-is u some in
    let T : List ℕ → Type 0 = λ ns. IsIndexSet c (top_level u) ns in
    let S : ℕ → Type 0 = λ n. IsIndexSet c (top_level u) (n ∷ []) in
    let S2 : ℕ → Type 0 = λ i. IsIndexSet c i (stand.block ∷ []) in
    let L : List ℕ → Type 0 = λ ns. AreLevelsLinked c (next_in u) (top_level u) ns in
    let M : ℕ → Type 0 = λ n. AreLevelsLinked c (next_in u) (top_level u) (n ∷ []) in
    let M2 : ℕ → Type 0 = λ i. AreLevelsLinked c (next_in u) i (stand.block ∷ []) in
    let set = subst S2 (sym level) (subst S (sym block) (subst T one x.set)) in
    let is = (of-level c l stand.block (stand.block ∷ []) set (inl refl)).level in
    let size = size-some u stand.block (level-kind u stand.block l is).0 in
    let formatted-v = top.formatted x.formatted in
    let formatted-w = height.formatted formatted-v in
    let s1 = top.spares in let s2 = height.spares in
    let top-w : (header_of w.image).top ≡ 0 = ap (λ (h : Header). h.top) height.is ∙ ap (λ (h : Header). h.top) top.is in
    let height-w : (header_of w.image).height ≡ 0 = ap (λ (h : Header). h.height) height.is in
    let on = λ (b j : ℕ) (h : level_in u b ≡ Some j). (
    let r = head-level same-v top b j h in let q = head-level same-w height b j r.0 in
    let both : (level_in w b ≡ Some j) × (block_at w b ≡ block_at u b) = (q.0, q.1 ∙ r.1) in both
    ) in
    record {
      was = x;
      some = some;
      before = [];
      behind = [];
      left_is = left;
      set = set;
      linked = subst M2 (sym level) (subst M (sym block) (subst L one x.next));
      thin = thin;
      below = below;
      steps = 0;
      way = (level, refl, block, refl, refl);
      lower = λ b j h less. on b j h;
      placed = λ b j h other.
          let old = head-was same-v top b j (head-was same-w height b j h) in
          let p = index-blocks-placed k u x b j old in
          let A : List ℕ → Type 0 = λ ns. IsAmong b ns in (
            p.0,
            elim p.1 [
              | inl up ↦ elim (subst A one up) [ inl e ↦ absurd (other (e ∙ sym block)) | inr none ↦ absurd none ]
              | inr q ↦
                  (let r = on q.parent (suc j) q.level in
                  let N : List ℕ → Type 0 = λ bytes. IsAmong b (named (entries_in k bytes)) in
                  inr (record { parent = q.parent; level = r.0; names = subst N (sym r.1) q.names }))
            ],
          );
      rest = record {
        size = same-w.size ∙ same-v.size;
        formatted = formatted-w;
        change = change-join 0 0 x.formatted formatted-v size same-v.size (head-change same-v top refl refl) (head-change same-w height refl refl);
        spares = omega arith;
        version = λ e. x.version (sym (ap (λ (h : Header). h.version) height.is ∙ ap (λ (h : Header). h.version) top.is) ∙ e);
        height = inl (top-w, height-w);
        tops = rw (eq-eqb (header_of w.image).top 0 top-w) refl;
        level = inr refl;
        count = λ n kind.
            let old-v = head-back same-w height 2 n kind in
            let old = head-back same-v top 2 n old-v in
            let bytes : block_at w n ≡ block_at u n = head-other same-w height n old-v.there old-v.later ∙ head-other same-v top n old.there old.later in
            let B : List ℕ → Type 0 = λ b. number_at 2 b 4 ≤ entry_room k w.size in
            let Z : ℕ → Type 0 = λ z. number_at 2 (block_at u n) 4 ≤ entry_room k z in
            subst B (sym bytes) (subst Z (sym (same-w.size ∙ same-v.size)) (x.count n old));
      };
    }

-- ---- an entry of a fork is gone

-- without the entry behind some
without-front : (xs : List Entry) (e : Entry) (ys : List Entry) → without_entry_at (length xs) (xs ++ (e ∷ ys)) ≡ xs ++ ys
without-front [] e ys = refl
without-front (x ∷ xs) e ys = ap (λ (t : List Entry). x ∷ t) (without-front xs e ys)

-- behind an entry of several another is left
some-left : (xs : List Entry) (e : Entry) (ys es : List Entry) → es ≡ xs ++ (e ∷ ys) → 1 < length es → xs ++ ys ≢ []
some-left [] e [] es is more = λ none. (let l : length es ≡ 1 = ap (λ (t : List Entry). length t) is in omega arith)
some-left [] e (y ∷ ys) es is more = λ none. (let z : y ∷ ys ≡ [] = none in cc)
some-left (x ∷ xs) e ys es is more = λ none. (let z : x ∷ (xs ++ ys) ≡ [] = none in cc)

pub same-key : (x y : List ℕ) → bytes_eq x y ≡ true → x ≡ y
same-key x y h = (bytes_eq-Decides x y).0 h

-- the rest of a volume of which a block has other entries
rest-new : (k : ℕ) (u w : VolumeState) (n : ℕ) (es : List Entry) (next : ℕ) → HasIndexSet k u → 0 < (header_of u.image).top → HasNewEntries k u n es next w → KeepsRest k u ((header_of u.image).top ∷ []) w
rest-new k u w n es next x some h =
    let e = h.edit in
    let s = edit-step e in
    let H : Header → Type 0 = λ t. ((t.top ≡ 0) × (t.height ≡ 0)) ⊎ ((0 < t.top) × (0 < t.height) × (t.height ≤ 64)) in
    let tops : top_blocks w ≡ top_blocks u = ap (λ (t : Header). cond (t.top == 0) [] (t.top ∷ [])) e.header in
    let spares = e.spares in
    record {
      size = e.size;
      formatted = e.formatted;
      change = s.change;
      spares = omega arith;
      version = λ one. x.version (sym (ap (λ (t : Header). t.version) e.header) ∙ one);
      height = subst H (sym e.header) x.height;
      tops = tops ∙ top-is u some;
      level = inl (let y : (header_of w.image).height ≡ (header_of u.image).height = ap (λ (t : Header). t.height) e.header in rw y refl);
      count = counts-stay k n n 0 s x.count h.bears.is.count h.bears.is.count;
    }

module _ (k : ℕ) {u w : VolumeState} (n l i next : ℕ) (es : List Entry) (h : HasNewEntries k u n es next w) (is : level_in u n ≡ Some l) where
  -- the block keeps its level
  new-level : (level_in w n ≡ Some l) × (entries_in k (block_at w n) ≡ es) × (next_in w n ≡ next)
  new-level =
      let b = borne k (level_of (block_at u n)) n next w es h.bears in
      (b.0 ∙ ap (λ (j : ℕ). Some j) (level-kind u n l is).1, b.1, b.2)

  -- a block that has a level had it
  new-was : (x j : ℕ) → level_in w x ≡ Some j → level_in u x ≡ Some j
  new-was x j at = elim (cases_eq x n) [
    | inl e ↦ (let same : j ≡ l = level-is (index_blocks k w) j l x at (ap (level_in w) e ∙ new-level.0) in ap (level_in u) e ∙ is ∙ ap (λ (t : ℕ). Some t) (sym same))
    | inr other ↦ other-was k n n 0 (edit-step h.edit) x j at other other
  ]

-- the entry of a fork of the sequence set is gone
pub leaf-trimmed : (k : ℕ) (u w : VolumeState) (key : List ℕ) (stand : Stand) → HasIndexSet k u → IsOnWayIn k u key 0 stand → 1 < length (entries_in k (block_at u stand.block))
    → address_of key (index_entries k u) ≢ None → IsEntryRemoved k u stand.block (length (front_of key (entries_in k (block_at u stand.block)))) w
    → IsChanged k u (without_key key (index_entries k u)) 0 w
leaf-trimmed k u w key stand x s more there h =
    let c : IndexBlocks = index_blocks k u in
    let n : ℕ = stand.block in
    let es : List Entry = entries_in k (block_at u n) in
    let on = on-parts c 0 s.before (n ∷ s.behind) (set-level c 0 (s.before ++ (n ∷ s.behind)) s.around.set) in
    let f = fronted key es on.1.1 in
    let front : List Entry = front_of key es in
    let left : without_entry_at (length front) es ≡ front ++ f.back = ap (without_entry_at (length front)) f.is ∙ without-front front f.entry f.back in
    let E : List Entry → Type 0 = λ t. HasNewEntries k u n t (next_in u n) w in
    let new : E (front ++ f.back) = subst E left h in
    let is : level_in u n ≡ Some 0 = on.1.0 in
    let own = new-level k n 0 0 (next_in u n) (front ++ f.back) new is in
    let step = edit-step new.edit in
    let all : index_entries k u ≡ across c (s.before ++ (n ∷ s.behind)) =
    (entries-below k u).1 x.version ∙ ap (entries_below c (top_level u)) (top-is u s.some) ∙ sym (ap (across c) s.whole) in
    let found : address_of key es ≢ None = λ none. there (ap (address_of key) all ∙ (around-answers c key s.before n s.behind s.around).0 ∙ none) in
    let ascend = (of-level c 0 n (s.before ++ (n ∷ s.behind)) s.around.set (among-right n s.before (n ∷ s.behind) (inl refl))).ascend in
    let name : f.entry.key ≡ key = same-key f.entry.key key (found-front key es f ascend found) in
    let K : List ℕ → Type 0 = λ t. IsChanged k u (without_key t (index_entries k u)) 0 w in
    let others = λ (b j : ℕ) (at : level_in u b ≡ Some j) (p : b ≢ n). other-stays k n n 0 step b j at p p in
    let relinked = relinked-same (next_in u) (next_in w) s.before n s.behind (λ b a. elim (cases_eq b n) [
      | inl e ↦ ap (next_in w) e ∙ own.2 ∙ ap (next_in u) (sym e)
      | inr p ↦ (others b 0 (of-level c 0 b (s.before ++ (n ∷ s.behind)) s.around.set a).level p).1
    ]) in
    let way = way-stays c c (index_blocks k w) (next_in u) (next_in u) (next_in w) (top_level u) (header_of u.image).top s.steps 0 s.before n s.behind (n ∷ []) ((header_of u.image).top ∷ [])
    (λ b j at less.
    let p : b ≢ n = λ e. (let z : j ≡ 0 = level-is c j 0 b at (ap (level_in u) e ∙ is) in omega arith) in
    let r = others b j at p in
    ((λ old. r.0.0), r.0.1, r.1)) s.way in
    subst K name
    (finish k u w f.entry ((header_of u.image).top ∷ []) s.before n s.behind (n ∷ []) front f.back s.steps x s.some s.around.set f.is
    (left-some (index_blocks k w) 0 n (front ++ f.back) (some-left front f.entry f.back es f.is more) own.0 own.1) (λ b at p. (others b 0 at p).0) s.linked relinked way
    (λ b j at.
    let old = new-was k n 0 0 (next_in u n) (front ++ f.back) new is b j at in
    let p = index-blocks-placed k u x b j old in
    let A : List ℕ → Type 0 = λ ns. IsAmong b ns in (
      p.0,
      elim p.1 [
        | inl up ↦ inl (subst A (top-is u s.some) up)
        | inr q ↦
            (let apart : q.parent ≢ n = λ e. (let z : suc j ≡ 0 = level-is c (suc j) 0 q.parent q.level (ap (level_in u) e ∙ is) in omega arith) in
            let r = others q.parent (suc j) q.level apart in
            let N : List Entry → Type 0 = λ t. IsAmong b (named t) in
            inr (record { parent = q.parent; level = r.0.0; names = subst N (sym r.0.1) q.names }))
      ],
    )) (rest-new k u w n (front ++ f.back) (next_in u n) x s.some new))

-- the upper entry of a fork is gone, and a way of single entries below it is cut off
pub fork-trimmed : (k : ℕ) (u w : VolumeState) (key : List ℕ) (l : ℕ) (stand below : Stand) → HasIndexSet k u → IsOnWayIn k u key (suc l) stand → 1 < length (entries_in k (block_at u stand.block))
    → IsThinBelow (index_blocks k u) key (suc l) stand.block → IsBelow k u key stand below → address_of key (index_entries k u) ≢ None
    → IsEntryRemoved k u stand.block (length (front_of key (entries_in k (block_at u stand.block)))) w
    → (gone : Entry) × (gone.key ≡ key) × IsCut k u gone ((header_of u.image).top ∷ []) w l below
fork-trimmed k u w key l stand below x s more thin down there h =
    let c : IndexBlocks = index_blocks k u in
    let n : ℕ = stand.block in
    let top : ℕ = (header_of u.image).top in
    let es : List Entry = entries_in k (block_at u n) in
    let on = on-parts c (suc l) s.before (n ∷ s.behind) (set-level c (suc l) (s.before ++ (n ∷ s.behind)) s.around.set) in
    let f = fronted key es on.1.1 in
    let front : List Entry = front_of key es in
    let b : ℕ = f.entry.address in
    let before : List ℕ = named (across c s.before ++ front) in
    let behind : List ℕ = named (f.back ++ across c s.behind) in
    let around = around-down c key l s.before n s.behind front f.entry f.back f.is f.less f.here s.around in
    let nm : IsNamed c before b behind s.before n s.behind = record { front = front; entry = f.entry; back = f.back; is = f.is; child = refl; left_is = refl; right_is = refl } in
    let beside = left-named c l before b behind s.before n s.behind nm on.0 refl in
    let about = names-about c s.before n s.behind front f.entry f.back f.is in
    let left : without_entry_at (length front) es ≡ front ++ f.back = ap (without_entry_at (length front)) f.is ∙ without-front front f.entry f.back in
    let E : List Entry → Type 0 = λ t. HasNewEntries k u n t (next_in u n) w in
    let new : E (front ++ f.back) = subst E left h in
    let is : level_in u n ≡ Some (suc l) = on.1.0 in
    let own = new-level k n (suc l) 0 (next_in u n) (front ++ f.back) new is in
    let step = edit-step new.edit in
    let T : ℕ → Type 0 = λ i. IsThin c l i in
    let thin-b : IsThin c l b = subst T (sym f.child) thin in
    let only = thin-entry c l b thin-b in
    let gone : Entry = only.0 in
    let all : index_entries k u ≡ entries_below c l before ++ (gone ∷ entries_below c l behind) =
    (entries-below k u).1 x.version ∙ ap (entries_below c (top_level u)) (top-is u s.some) ∙ sym (ap (across c) s.whole) ∙ ap (entries_below c l) about
    ∙ entries-append c l before (b ∷ behind) ∙ ap (λ (t : List Entry). entries_below c l before ++ t) (entries-append c l (b ∷ []) behind ∙ ap (λ (t : List Entry). t ++ entries_below c l behind) only.1) in
    let ascend = ascend-parts (gone ∷ []) (entries_below c l behind)
    (ascend-parts (entries_below c l before) (gone ∷ entries_below c l behind)
    (ap keys_ascend (sym all ∙ (entries-below k u).1 x.version) ∙ set-ascends c (top_level u) (top_blocks u) x.set)).1 in
    let name : gone.key ≡ key = same-key gone.key key
    (found-between key (entries_below c l before) gone (entries_below c l behind) around.below around.above ascend.1 (λ none. there (ap (address_of key) all ∙ none))) in
    let others = λ (y j : ℕ) (at : level_in u y ≡ Some j) (p : y ≢ n). other-stays k n n 0 step y j at p p in
    let away = λ (y j : ℕ) (at : level_in u y ≡ Some j) (other : j ≢ suc l) (e : y ≡ n). other (level-is c j (suc l) y at (ap (level_in u) e ∙ is)) in
    let at : below.block ≡ b = down.block_is ∙ sym f.child in
    let L : List ℕ → Type 0 = λ t. AreLevelsLinked c (next_in u) l t in
    let up : IsStepUp c (index_blocks k w) (next_in u) (next_in w) l before b behind [] s.before n s.behind (n ∷ []) = record {
      names = nm;
      is_left = left-some (index_blocks k w) (suc l) n (front ++ f.back) (some-left front f.entry f.back es f.is more) own.0 own.1;
      others = λ y level p. (others y (suc l) level p).0;
      set = s.around.set;
      linked = s.linked.0;
      relinked = relinked-same (next_in u) (next_in w) s.before n s.behind (λ y a. elim (cases_eq y n) [
        | inl e ↦ ap (next_in w) e ∙ own.2 ∙ ap (next_in u) (sym e)
        | inr p ↦ (others y (suc l) (of-level c (suc l) y (s.before ++ (n ∷ s.behind)) s.around.set a).level p).1
      ]);
    } in
    let O : ℕ → Type 0 = λ i. IsCut k u gone (top ∷ []) w l (record { left = below.left; block = i }) in
    let cut : O b = record {
      was = x;
      some = s.some;
      before = before;
      behind = behind;
      left_is = down.left_is ∙ ap (λ (i : ℕ). last_of (last_child c i) (named front)) s.left_is ∙ sym beside;
      set = around.set;
      linked = subst L about s.linked.1;
      thin = thin-b;
      below = only.1;
      steps = suc s.steps;
      way = (
        s.before,
        n,
        s.behind,
        n ∷ [],
        up,
        way-stays c c (index_blocks k w) (next_in u) (next_in u) (next_in w) (top_level u) top s.steps (suc l) s.before n s.behind (n ∷ []) (top ∷ [])
            (λ y j level less. let r = others y j level (away y j level (λ e. omega arith)) in ((λ old. r.0.0), r.0.1, r.1)) s.way,
      );
      lower = λ y j level less.
          let p = away y j level (λ e. omega arith) in
          let r = others y j level p in
          (r.0.0, step.others y (level-kind u y j level).0 p p);
      placed = λ y j level other.
          let old = new-was k n (suc l) 0 (next_in u n) (front ++ f.back) new is y j level in
          let p = index-blocks-placed k u x y j old in
          let A : List ℕ → Type 0 = λ ns. IsAmong y ns in (
            p.0,
            elim p.1 [
              | inl first ↦ inl (subst A (top-is u s.some) first)
              | inr q ↦ inr (elim (cases_eq q.parent n) [
                | inl e ↦
                    (let same : suc j ≡ suc l = level-is c (suc j) (suc l) q.parent q.level (ap (level_in u) e ∙ is) in
                    let N : List Entry → Type 0 = λ t. IsAmong y (named t) in
                    let Q : ℕ → Type 0 = λ i. IsAmong y (named (entries_in k (block_at u i))) in
                    let parts = among-parts y (named front) (b ∷ named f.back) (subst A (named-append front (f.entry ∷ f.back)) (subst N f.is (subst Q e q.names))) in
                    let stays : IsAmong y (named (front ++ f.back)) = subst A (sym (named-append front f.back)) (elim parts [
                      | inl a ↦ among-left y (named front) (named f.back) a
                      | inr (inl z) ↦ absurd (other z)
                      | inr (inr a) ↦ among-right y (named front) (named f.back) a
                    ]) in
                    record { parent = n; level = own.0 ∙ ap (λ (i : ℕ). Some i) (sym same); names = subst N (sym own.1) stays })
                | inr p2 ↦
                    (let r = others q.parent (suc j) q.level p2 in
                    let N : List Entry → Type 0 = λ t. IsAmong y (named t) in
                    record { parent = q.parent; level = r.0.0; names = subst N (sym r.0.1) q.names })
              ])
            ],
          );
      rest = rest-new k u w n (front ++ f.back) (next_in u n) x s.some new;
    } in
    (gone, name, subst O (sym at) cut)

-- an index whose way down is of single entries has one entry, that of a key that is there
pub all-cleared : (k : ℕ) (u v w : VolumeState) (l : ℕ) (stand : Stand) → HasIndexSet k u → 0 < (header_of u.image).top → l ≡ top_level u → stand.left ≡ 0 → stand.block ≡ (header_of u.image).top
    → IsThin (index_blocks k u) l stand.block → AreSame u v → HasNewHeader u (record (header_of u.image) { top = 0 }) v → AreSame v w → HasNewHeader v (record (header_of v.image) { height = 0 }) w
    → (gone : Entry) × ((key : List ℕ) → address_of key (index_entries k u) ≢ None → gone.key ≡ key) × IsCut k u gone [] w l stand
all-cleared k u v w l stand x some level left block thin same-v top same-w height =
    let c : IndexBlocks = index_blocks k u in
    let only = thin-entry c l stand.block thin in
    let gone : Entry = only.0 in
    let all : index_entries k u ≡ gone ∷ [] =
    (entries-below k u).1 x.version ∙ ap (entries_below c (top_level u)) (top-is u some) ∙ ap (λ (i : ℕ). entries_below c i ((header_of u.image).top ∷ [])) (sym level)
    ∙ ap (λ (n : ℕ). entries_below c l (n ∷ [])) (sym block) ∙ only.1 in (
      gone,
      (λ key there. same-key gone.key key (found-between key [] gone [] tt refl refl (λ none. there (ap (address_of key) all ∙ none)))),
      cleared k u v w gone l stand x some level left block thin only.1 same-v top same-w height,
    )

-- where a walk starts
pub on-start : (k : ℕ) (v : VolumeState) (key : List ℕ) (l : ℕ) (stand : Stand) → HasIndexSet k v → 0 < (header_of v.image).top → stand.left ≡ 0 → stand.block ≡ (header_of v.image).top → l ≡ top_level v
    → IsOnWayIn k v key l stand
on-start k v key l stand x some left block level =
    let S : List ℕ → Type 0 = λ ns. IsIndexSet (index_blocks k v) (top_level v) ns in
    let L : List ℕ → Type 0 = λ ns. AreLevelsLinked (index_blocks k v) (next_in v) (top_level v) ns in
    on-top (index_blocks k v) (next_in v) (top_level v) (header_of v.image).top key l stand some (subst S (top-is v some) x.set) (subst L (top-is v some) x.next) left block level

-- where it ends, a key is there if it is anywhere
pub leaf-address : (k : ℕ) (v : VolumeState) (key : List ℕ) (stand : Stand) → HasIndexSet k v → IsOnWayIn k v key 0 stand → address_of key (index_entries k v) ≡ address_of key (entries_in k (block_at v stand.block))
leaf-address k v key stand x s =
    let c : IndexBlocks = index_blocks k v in
    let all : index_entries k v ≡ across c (s.before ++ (stand.block ∷ s.behind)) =
    (entries-below k v).1 x.version ∙ ap (entries_below c (top_level v)) (top-is v s.some) ∙ sym (ap (across c) s.whole) in
    ap (address_of key) all ∙ (around-answers c key s.before stand.block s.behind s.around).0

-- two reads are one
pub one-joined : (u v w : VolumeState) → AreOne u v → AreOne v w → AreOne u w
one-joined u v w a b = record { same = record { size = b.same.size ∙ a.same.size; sizes = b.same.sizes ∙ a.same.sizes }; image = b.image ∙ a.image }

-- what was read of a key at the end of its way
pub read-address : (k : ℕ) (u v : VolumeState) (key : List ℕ) (stand : Stand) (found : Option ℕ) → AreOne u v → HasIndexSet k u → IsOnWayIn k u key 0 stand
    → found ≡ address_of key (entries_in k (block_at v stand.block)) → address_of key (index_entries k u) ≡ found
read-address k u v key stand found one x s read =
    leaf-address k u key stand x s ∙ ap (λ (b : List ℕ). address_of key (entries_in k b)) (sym (one-block-at one stand.block)) ∙ sym read

-- whether something was found
pub none-of : (found : Option ℕ) → is_some found ≡ false → found ≡ None
none-of None h = refl
none-of (Some n) h = absurd (cc)

pub some-of : (found : Option ℕ) → is_some found ≡ true → found ≢ None
some-of None h = absurd (cc)
some-of (Some n) h = λ none. cc
