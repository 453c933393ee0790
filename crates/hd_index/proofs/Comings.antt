-- A new key on its way down an index set, step by step.
use Rattle.std.proofs.Common.{◌≡◌, inl, inr, ℕ, suc, ◌+◌, ◌-◌, ◌<◌, ◌==◌, Bool, true, false, cond, List, [], ◌∷◌, ◌++◌, length, Some, None, refl, sym, ap, ◌∙◌, subst, arith, ne_eqb}
use Rattle.std.specs.Prelude.{slice_get, bytes_eq, nat_le}
use Rattle.std.proofs.lemmas.Bool.{cases_eq, cases_lt, eq-eqb, le-leb}
use Rattle.hd_bytes.specs.Numbers.{number_at}
use Rattle.hd_volume.specs.Headers.{Header, header_of}
use Rattle.hd_volume.specs.Rooms.{one_if}
use Rattle.hd_volume.specs.Volumes.{VolumeState, block_at, IsKind}
use Rattle.hd_volume.specs.Entries.{Entry, entries_in}
use Rattle.hd_volume.specs.Indexes.{entry_room, key_less, is_below_first}
use Rattle.hd_volume.proofs.JoinLemmas.{AreOne}
use Rattle.hd_volume.proofs.KeyLemmas.{less-not}
use Rattle.hd_index_blocks.specs.Fields.{below_count}
use Rattle.hd_index_blocks.proofs.BlockLemmas.{length-entries}
use Rattle.hd_index_blocks.specs.Maps.{address_of, greatest_below, with_entry}
use Rattle.hd_index_blocks.specs.Levels.{IndexBlocks, across, named, entries_below, AreUpTo, AreBelow, IsIndexSet}
use Rattle.hd_index_blocks.specs.Ways.{child_of, leaf_of, IsAround, IsNamed, IsWayDown}
use Rattle.hd_index_blocks.specs.Changes.{KeepsIndexSet}
use Rattle.hd_index_blocks.specs.IndexSets.{level_in, next_in, index_blocks, top_blocks, top_level, index_entries, HasIndexSet}
use Rattle.hd_index_blocks.specs.Needs.{is_full, full_blocks, needed_by}
use Rattle.hd_index_blocks.specs.VolumeLaws.{StandOnce}
use Rattle.hd_index_blocks.proofs.Keys.{not-less}
use Rattle.hd_index_blocks.proofs.Levels.{named-append, same-below, set-stays}
use Rattle.hd_index_blocks.proofs.Raising.{raised}
use Rattle.hd_index_blocks.proofs.Staying.{way-stays}
use Rattle.hd_index_blocks.proofs.Entering.{entered}
use Rattle.hd_index_blocks.proofs.Descents.{names-of, top-around, way-around, around-answers}
use Rattle.hd_index_blocks.proofs.Downs.{IsOnLevel, of-level, among-right}
use Rattle.hd_index_blocks.proofs.Incoming.{comes-in, come-in}
use Rattle.hd_index_blocks.proofs.Volumes.{level-kind, entries-below, top-is, index-blocks-right}
use Rattle.hd_index.specs.EditedBlocks.{level_of, with_entry_at, with_key_at, IsIndexBlock}
use Rattle.hd_index.specs.Edits.{HasNewEntries, IsKeyChanged}
use Rattle.hd_index.proofs.EditLemmas.{one-block-at}
use Rattle.hd_index.proofs.BlockBytes.{key-at}
use Rattle.hd_index.specs.declared.enter.Turn.{Turn}
use Rattle.hd_index.specs.Changes.{IsChanged}
use Rattle.hd_index.specs.Comings.{IsComing, MayCome, HasComeTo, IsTurnOf, IsRaised}
use Rattle.hd_index.specs.Blocks.{IsInOrder}
use Rattle.hd_index.proofs.Searching.{set-same, right-order}
use Rattle.hd_index_blocks.proofs.Naming.{names-once, entry-once}
use Rattle.hd_index_blocks.proofs.Coming.{not-self, way-steps, way-top, around-kept, named-kept, leaf-open}
use Rattle.hd_index_blocks.proofs.Paths.{leaf-upper}
use Rattle.hd_index.proofs.Leading.{leaf-more, child-raised, full-kept, needed-kept, greatest-low}
use Rattle.hd_index.proofs.Parts.{length-with-key}
use Rattle.hd_index.proofs.Filling.{needed-same}
use Rattle.hd_index.proofs.Edited.{edited-block, edited-other, edited-others, edited-lower, edited-upper, edited-set, edited-entries, edited-changed, entries-before}
use Rattle.hd_index.proofs.Inserting.{unchanged, changed-join}

-- ---- the block of a way

-- it is of its level
pub coming-level : (k : ℕ) (v : VolumeState) (key by : List ℕ) (l n : ℕ) → IsComing k v key by l n → IsOnLevel (index_blocks k v) l n
coming-level k v key by l n x =
    of-level (index_blocks k v) l n (x.left ++ (n ∷ x.right)) x.around.set (among-right n x.left (n ∷ x.right) (inl refl))

pub coming-kind : (k : ℕ) (v : VolumeState) (key by : List ℕ) (l n : ℕ) → MayCome k v key by l n → IsKind v 2 n
coming-kind k v key by l n m = (level-kind v n l (coming-level k v key by l n m.coming).level).0

-- there is a top
pub coming-some : (k : ℕ) (v : VolumeState) (key by : List ℕ) (l n : ℕ) → IsComing k v key by l n → 0 < (header_of v.image).top
coming-some k v key by l n x =
    let t = way-top (index_blocks k v) (top_level v) (header_of v.image).top key x.steps l x.left n x.right x.way x.around.set in
    let is = level-kind v (header_of v.image).top t.0 t.1 in
    is.0.later

pub coming-tops : (k : ℕ) (v : VolumeState) (key by : List ℕ) (l n : ℕ) → IsComing k v key by l n → top_blocks v ≡ (header_of v.image).top ∷ []
coming-tops k v key by l n x = top-is v (coming-some k v key by l n x)

-- ---- one step

-- Down from block p of a level a new key comes in by the entry at a turn.
pub record IsStep (k : ℕ) (v : VolumeState) (key by : List ℕ) (l p : ℕ) (turn : Turn) (left right : List ℕ) : Type 0 where
  pub before : List ℕ
  pub behind : List ℕ
  pub names : IsNamed (index_blocks k v) before turn.child behind left p right
  pub less : AreBelow key (across (index_blocks k v) left ++ names.front)
  pub upto : key_less names.entry.key key ≡ true → AreUpTo key (entries_below (index_blocks k v) l (names.entry.address ∷ []))
  pub first : is_below_first key (entries_below (index_blocks k v) l (named (names.back ++ across (index_blocks k v) right))) ≡ true
  pub around : IsAround (index_blocks k v) by l before turn.child behind
  pub index_is : turn.index ≡ length names.front
  pub low_is : turn.is_low ≡ key_less names.entry.key key

-- the entry at a turn is the one that names its block
turn-entry : (c : IndexBlocks) (by key : List ℕ) (l : ℕ) (before : List ℕ) (n : ℕ) (behind left : List ℕ) (p : ℕ) (right : List ℕ) (turn : Turn) → IsIndexSet c (suc l) (left ++ (p ∷ right))
    → (s : IsNamed c before n behind left p right) → IsTurnOf by key (c.entries p) turn → turn.child ≡ n → (turn.index ≡ length s.front) × (turn.is_low ≡ key_less s.entry.key key)
turn-entry c by key l before n behind left p right turn set s t child =
    let O : List Entry → Type 0 = λ es. StandOnce (named es) in
    let G : List Entry → Type 0 = λ es. slice_get es turn.index ≡ Some t.entry in
    let r = entry-once s.front s.entry s.back turn.index t.entry (subst O s.is (names-once c l left p right set)) (subst G s.is t.at_index) (sym t.address ∙ child ∙ sym s.child) in
    (r.1, t.low_is ∙ ap (λ (e : Entry). key_less e.key key) r.0)

pub turned : (k : ℕ) (v : VolumeState) (key by : List ℕ) (l p : ℕ) (turn : Turn) → (m : MayCome k v key by (suc l) p) → IsTurnOf by key (entries_in k (block_at v p)) turn
    → IsStep k v key by l p turn m.coming.left m.coming.right
turned k v key by l p turn m t =
    let c : IndexBlocks = index_blocks k v in
    let x = m.coming in
    let a = x.around in
    let child : ℕ = child_of by (c.entries p) in
    let none : address_of key (entries_below c (suc l) (x.left ++ (p ∷ x.right))) ≡ None = ap (address_of key) x.whole ∙ m.new in
    let is : by ≡ greatest_below key key (entries_below c (suc l) (x.left ++ (p ∷ x.right))) = m.by_is ∙ ap (greatest_below key key) (sym x.whole) in
    let g = comes-in c key by l x.left p x.right a none is in
    let s = come-in c key by l x.left p x.right a g in
    to s.0 s.1 s.2 s.3 s.4 s.5 s.6
  where
    to : (before behind : List ℕ) (s : IsNamed (index_blocks k v) before (child_of by (entries_in k (block_at v p))) behind m.coming.left p m.coming.right)
        → AreBelow key (across (index_blocks k v) m.coming.left ++ s.front)
        → (key_less s.entry.key key ≡ true → AreUpTo key (entries_below (index_blocks k v) l (child_of by (entries_in k (block_at v p)) ∷ [])))
        → is_below_first key (entries_below (index_blocks k v) l behind) ≡ true → IsAround (index_blocks k v) by l before (child_of by (entries_in k (block_at v p))) behind
        → IsStep k v key by l p turn m.coming.left m.coming.right
    to before behind s less upto first around =
        let c : IndexBlocks = index_blocks k v in
        let N : ℕ → Type 0 = λ i. IsAround c by l before i behind in
        let U : ℕ → Type 0 = λ i. AreUpTo key (entries_below c l (i ∷ [])) in
        let F : List ℕ → Type 0 = λ ns. is_below_first key (entries_below c l ns) ≡ true in
        let e = turn-entry c by key l before (child_of by (c.entries p)) behind m.coming.left p m.coming.right turn m.coming.around.set s t t.child_is in
        record {
          before = before;
          behind = behind;
          names = record { front = s.front; entry = s.entry; back = s.back; is = s.is; child = s.child ∙ sym t.child_is; left_is = s.left_is; right_is = s.right_is };
          less = less;
          upto = λ low. subst U (sym s.child) (upto low);
          first = subst F s.right_is first;
          around = subst N (sym t.child_is) around;
          index_is = e.0;
          low_is = e.1;
        }

-- the entries below the blocks of the level below are those of the index
step-whole : (k : ℕ) (v : VolumeState) (key by : List ℕ) (l p : ℕ) (turn : Turn) (m : MayCome k v key by (suc l) p) (s : IsStep k v key by l p turn m.coming.left m.coming.right)
    → entries_below (index_blocks k v) l (s.before ++ (turn.child ∷ s.behind)) ≡ index_entries k v
step-whole k v key by l p turn m s =
    ap (entries_below (index_blocks k v) l) (sym (names-of (index_blocks k v) s.before turn.child s.behind m.coming.left p m.coming.right s.names)) ∙ m.coming.whole

-- the key leads on to the block at the turn
step-leads : (k : ℕ) (v : VolumeState) (key by : List ℕ) (l p : ℕ) (turn : Turn) (m : MayCome k v key by (suc l) p) → IsTurnOf by key (entries_in k (block_at v p)) turn
    → leaf_of (index_blocks k v) by (suc m.coming.steps) (header_of v.image).top ≡ turn.child
step-leads k v key by l p turn m t =
    leaf-more (index_blocks k v) by m.coming.steps (header_of v.image).top ∙ ap (λ (i : ℕ). child_of by (entries_in k (block_at v i))) m.coming.leads ∙ sym t.child_is

-- where the upper key is not below the new one nothing changes
pub step-stays : (k : ℕ) (v : VolumeState) (key by : List ℕ) (l p : ℕ) (turn : Turn) → MayCome k v key by (suc l) p → IsTurnOf by key (entries_in k (block_at v p)) turn
    → turn.is_low ≡ false → MayCome k v key by l turn.child
step-stays k v key by l p turn m t low =
    let s = turned k v key by l p turn m t in
    let x = m.coming in
    record {
      index = m.index;
      new = m.new;
      by_is = m.by_is;
      coming = record {
        steps = suc x.steps;
        left = s.before;
        right = s.behind;
        way = (x.left, p, x.right, s.names, s.less, sym s.low_is ∙ low, x.around.set, x.way);
        around = s.around;
        whole = step-whole k v key by l p turn m s;
        leads = step-leads k v key by l p turn m t;
      };
    }

-- else it is raised
module _ (k : ℕ) (v w : VolumeState) (key by : List ℕ) (l p : ℕ) (turn : Turn) (m : MayCome k v key by (suc l) p) (t : IsTurnOf by key (entries_in k (block_at v p)) turn)
    (low : turn.is_low ≡ true) (new : HasNewEntries k v p (with_key_at turn.index key (entries_in k (block_at v p))) (next_in v p) w) where
  -- block p is of the level above
  own : level_in v p ≡ Some (suc l)
  own = (coming-level k v key by (suc l) p m.coming).level

  step : IsStep k v key by l p turn m.coming.left m.coming.right
  step = turned k v key by l p turn m t

  -- the block's entries with the raised key
  raised-entries : (s : IsStep k v key by l p turn m.coming.left m.coming.right) → with_key_at turn.index key (entries_in k (block_at v p)) ≡ s.names.front ++ (record { key = key; address = s.names.entry.address } ∷ s.names.back)
  raised-entries s =
      ap (with_key_at turn.index key) s.names.is ∙ ap (λ (i : ℕ). with_key_at i key (s.names.front ++ (s.names.entry ∷ s.names.back))) s.index_is
      ∙ key-at key s.names.front s.names.entry s.names.back

  -- they name what they named
  raised-names : (s : IsStep k v key by l p turn m.coming.left m.coming.right) → named (with_key_at turn.index key (entries_in k (block_at v p))) ≡ named (entries_in k (block_at v p))
  raised-names s =
      let e : Entry = record { key = key; address = s.names.entry.address } in
      ap named (raised-entries s) ∙ named-append s.names.front (e ∷ s.names.back) ∙ sym (named-append s.names.front (s.names.entry ∷ s.names.back)) ∙ ap named (sym s.names.is)

  -- its level stays an index set with the same entries below
  raised-row : (s : IsStep k v key by l p turn m.coming.left m.coming.right) → KeepsIndexSet (index_blocks k v) (index_blocks k w) (suc l) (m.coming.left ++ (p ∷ m.coming.right))
  raised-row s =
      let b = edited-block k v w (suc l) p (with_key_at turn.index key (entries_in k (block_at v p))) own new in
      raised (index_blocks k v) (index_blocks k w) l m.coming.left p m.coming.right s.names.front s.names.entry s.names.back key s.names.is (b.0, b.1 ∙ raised-entries s)
      (edited-others k v w (suc l) p (with_key_at turn.index key (entries_in k (block_at v p))) own new)
      (edited-lower k v w (suc l) p (with_key_at turn.index key (entries_in k (block_at v p))) own new) (s.upto (sym s.low_is ∙ low)) s.first m.coming.around.set

  -- so does the top, and the way down to it stays
  raised-way : (s : IsStep k v key by l p turn m.coming.left m.coming.right)
      → IsWayDown (index_blocks k w) (top_level v) (header_of v.image).top key m.coming.steps (suc l) m.coming.left p m.coming.right
      × KeepsIndexSet (index_blocks k v) (index_blocks k w) (top_level v) ((header_of v.image).top ∷ [])
  raised-way s =
      way-stays (index_blocks k v) (index_blocks k w) (top_level v) (header_of v.image).top key m.coming.steps (suc l) m.coming.left p m.coming.right m.coming.way
      (edited-upper k v w (suc l) p (with_key_at turn.index key (entries_in k (block_at v p))) own new) (raised-row s)

  raised-top : (s : IsStep k v key by l p turn m.coming.left m.coming.right) → KeepsIndexSet (index_blocks k v) (index_blocks k w) (top_level v) (top_blocks v)
  raised-top s =
      let K : List ℕ → Type 0 = λ ns. KeepsIndexSet (index_blocks k v) (index_blocks k w) (top_level v) ns in
      subst K (sym (coming-tops k v key by (suc l) p m.coming)) (raised-way s).1

  -- the volume still has an index set
  raised-set : (s : IsStep k v key by l p turn m.coming.left m.coming.right) → HasIndexSet k w
  raised-set s =
      edited-set k v w (suc l) p (with_key_at turn.index key (entries_in k (block_at v p))) own new m.index (λ j e. raised-names s) (raised-top s).0

  -- with the same entries
  raised-same : (s : IsStep k v key by l p turn m.coming.left m.coming.right) → index_entries k w ≡ index_entries k v
  raised-same s =
      edited-entries k v w (suc l) p (with_key_at turn.index key (entries_in k (block_at v p))) own new (raised-set s)
      ∙ same-below (index_blocks k v) (index_blocks k w) (top_level v) (top_blocks v) (raised-top s).1
      ∙ sym ((entries-below k v).1 m.index.version)

  -- the blocks beside it have their entries
  raised-named : (s : IsStep k v key by l p turn m.coming.left m.coming.right) → (across (index_blocks k w) m.coming.left ≡ across (index_blocks k v) m.coming.left)
      × (across (index_blocks k w) m.coming.right ≡ across (index_blocks k v) m.coming.right)
  raised-named s =
      let b = edited-block k v w (suc l) p (with_key_at turn.index key (entries_in k (block_at v p))) own new in
      named-kept (index_blocks k v) (index_blocks k w) l s.before turn.child s.behind m.coming.left p m.coming.right m.coming.around.set
      (edited-others k v w (suc l) p (with_key_at turn.index key (entries_in k (block_at v p))) own new) s.names key (b.1 ∙ raised-entries s)

  -- the way goes on to the block that was led to, which is named as it was
  raised-down : (s : IsStep k v key by l p turn m.coming.left m.coming.right)
      → IsWayDown (index_blocks k w) (top_level v) (header_of v.image).top key (suc m.coming.steps) l s.before turn.child s.behind
  raised-down s =
      let b = edited-block k v w (suc l) p (with_key_at turn.index key (entries_in k (block_at v p))) own new in
      let r = raised-named s in
      let A : List Entry → Type 0 = λ t. AreBelow key (t ++ s.names.front) in (
        m.coming.left,
        p,
        m.coming.right,
        record {
          front = s.names.front;
          entry = record { key = key; address = s.names.entry.address };
          back = s.names.back;
          is = b.1 ∙ raised-entries s;
          child = s.names.child;
          left_is = s.names.left_is ∙ ap (λ (t : List Entry). named (t ++ s.names.front)) (sym r.0);
          right_is = s.names.right_is ∙ ap (λ (t : List Entry). named (s.names.back ++ t)) (sym r.1);
        },
        subst A (sym r.0) s.less,
        not-self key,
        (raised-row s).0,
        (raised-way s).0,
      )

  -- the key that leads is not above the new one, and leads to the same block
  raised-child : (s : IsStep k v key by l p turn m.coming.left m.coming.right) → child_of by (entries_in k (block_at w p)) ≡ turn.child
  raised-child s =
      let b = edited-block k v w (suc l) p (with_key_at turn.index key (entries_in k (block_at v p))) own new in
      let under : key_less key by ≡ false = ap (key_less key) m.by_is ∙ greatest-low key key (index_entries k v) (not-self key) in
      ap (child_of by) (b.1 ∙ raised-entries s)
      ∙ child-raised by key s.names.front s.names.entry s.names.back under (ap (child_of by) (sym s.names.is) ∙ sym t.child_is ∙ sym s.names.child)
      ∙ s.names.child

  set-was : IsIndexSet (index_blocks k v) (top_level v) ((header_of v.image).top ∷ [])
  set-was = (let S : List ℕ → Type 0 = λ ns. IsIndexSet (index_blocks k v) (top_level v) ns in subst S (coming-tops k v key by (suc l) p m.coming) m.index.set)

  raised-leads : (s : IsStep k v key by l p turn m.coming.left m.coming.right) → leaf_of (index_blocks k w) by (suc m.coming.steps) (header_of v.image).top ≡ turn.child
  raised-leads s =
      let deep = way-steps (index_blocks k v) (top_level v) (header_of v.image).top key m.coming.steps (suc l) m.coming.left p m.coming.right m.coming.way in
      leaf-more (index_blocks k w) by m.coming.steps (header_of v.image).top
      ∙ ap (λ (i : ℕ). child_of by (entries_in k (block_at w i)))
      (leaf-upper (index_blocks k v) (index_blocks k w) by (suc l) (edited-upper k v w (suc l) p (with_key_at turn.index key (entries_in k (block_at v p))) own new) m.coming.steps (top_level v)
      (header_of v.image).top ((header_of v.image).top ∷ []) (sym deep) set-was (inl refl)
      ∙ m.coming.leads)
      ∙ raised-child s

  -- as many blocks are needed
  raised-needed : (s : IsStep k v key by l p turn m.coming.left m.coming.right) → needed_by k w by ≡ needed_by k v by
  raised-needed s =
      let es : List Entry = entries_in k (block_at v p) in
      let b = edited-block k v w (suc l) p (with_key_at turn.index key es) own new in
      needed-kept k v w by new.edit.size new.edit.header
      (full-kept (index_blocks k v) (index_blocks k w) (entry_room k v.size) by
      (λ i j at. elim (cases_eq i p) [
        | inl e ↦ (
          ap (λ (x : ℕ). child_of by (entries_in k (block_at w x))) e ∙ raised-child s ∙ t.child_is ∙ ap (λ (x : ℕ). child_of by (entries_in k (block_at v x))) (sym e),
          ap (λ (x : ℕ). length (entries_in k (block_at w x))) e ∙ ap length b.1 ∙ length-with-key es turn.index key ∙ ap (λ (x : ℕ). length (entries_in k (block_at v x))) (sym e),
        )
        | inr other ↦ (let r = edited-other k v w (suc l) p (with_key_at turn.index key es) own new i j at other in (ap (child_of by) r.1, ap length r.1))
      ])
      (top_level v) (header_of v.image).top ((header_of v.image).top ∷ []) set-was (inl refl))

  raised-coming : (s : IsStep k v key by l p turn m.coming.left m.coming.right) → IsComing k w key by l turn.child
  raised-coming s =
      let lower = edited-lower k v w (suc l) p (with_key_at turn.index key (entries_in k (block_at v p))) own new in
      let head = new.edit.header in
      let ns : List ℕ = s.before ++ (turn.child ∷ s.behind) in
      let W : Header → Type 0 = λ h. IsWayDown (index_blocks k w) (h.height - 1) h.top key (suc m.coming.steps) l s.before turn.child s.behind in
      let T : Header → Type 0 = λ h. leaf_of (index_blocks k w) by (suc m.coming.steps) h.top ≡ turn.child in
      let low_set = set-stays (index_blocks k v) (index_blocks k w) (suc l) lower l (omega arith) ns s.around.set in
      record {
        steps = suc m.coming.steps;
        left = s.before;
        right = s.behind;
        way = subst W (sym head) (raised-down s);
        around = around-kept (index_blocks k v) (index_blocks k w) by l s.before turn.child s.behind lower s.around;
        whole = same-below (index_blocks k v) (index_blocks k w) l ns low_set.1 ∙ step-whole k v key by l p turn m s ∙ sym (raised-same s);
        leads = subst T (sym head) (raised-leads s);
      }

  raised-come : (s : IsStep k v key by l p turn m.coming.left m.coming.right) → HasComeTo k v key by l turn.child w
  raised-come s =
      let same = raised-same s in
      record {
        changed = edited-changed k v w (suc l) p (with_key_at turn.index key (entries_in k (block_at v p))) own new (index_entries k v) (raised-set s) same;
        needed = raised-needed s;
        may = record {
          index = raised-set s;
          new = ap (address_of key) same ∙ m.new;
          by_is = m.by_is ∙ ap (greatest_below key key) (sym same);
          coming = raised-coming s;
        };
      }

  pub step-raised : HasComeTo k v key by l turn.child w
  step-raised = raised-come step

-- ---- the end of the way

-- a key that is not there goes before the entry at its place
with-at : (new : Entry) (es : List Entry) → address_of new.key es ≡ None → with_entry_at (below_count new.key es) new es ≡ with_entry new es
with-at new [] none = refl
with-at new (e ∷ es) none = by-equal (bytes_eq e.key new.key) refl none (with-at new es)
  where
    by-test : (b : Bool) → key_less e.key new.key ≡ b → key_less new.key e.key ≡ cond b false true → with_entry_at (below_count new.key es) new es ≡ with_entry new es
        → with_entry_at (cond b (suc (below_count new.key es)) 0) new (e ∷ es) ≡ cond (key_less new.key e.key) (new ∷ e ∷ es) (e ∷ with_entry new es)
    by-test true is other rest = rw other (ap (λ (t : List Entry). e ∷ t) rest)
    by-test false is other rest = rw other refl

    other-way : (b : Bool) → key_less e.key new.key ≡ b → bytes_eq e.key new.key ≡ false → key_less new.key e.key ≡ cond b false true
    other-way true is apart = less-not e.key new.key is
    other-way false is apart = not-less e.key new.key is apart

    by-equal : (q : Bool) → bytes_eq e.key new.key ≡ q → cond q (Some e.address) (address_of new.key es) ≡ None
        → (address_of new.key es ≡ None → with_entry_at (below_count new.key es) new es ≡ with_entry new es) → with_entry_at (below_count new.key (e ∷ es)) new (e ∷ es) ≡ with_entry new (e ∷ es)
    by-equal true is none rest = absurd (cc)
    by-equal false is none rest = by-test (key_less e.key new.key) refl (other-way (key_less e.key new.key) refl is) (rest none)

-- the new entry comes into the leaf
pub leaf-entered : (k : ℕ) (v w : VolumeState) (key by : List ℕ) (n address : ℕ) → MayCome k v key by 0 n
    → HasNewEntries k v n (with_entry_at (below_count key (entries_in k (block_at v n))) (record { key = key; address = address }) (entries_in k (block_at v n))) (next_in v n) w
    → IsChanged k v (with_entry (record { key = key; address = address }) (index_entries k v)) 0 w
leaf-entered k v w key by n address m new =
    let c : IndexBlocks = index_blocks k v in
    let d : IndexBlocks = index_blocks k w in
    let e : Entry = record { key = key; address = address } in
    let x = m.coming in
    let h : ℕ = top_level v in
    let top : ℕ = (header_of v.image).top in
    let es : List Entry = with_entry_at (below_count key (c.entries n)) e (c.entries n) in
    let own : level_in v n ≡ Some 0 = (coming-level k v key by 0 n x).level in
    let b = edited-block k v w 0 n es own new in
    let steps : x.steps ≡ h = (let z = way-steps c h top key x.steps 0 x.left n x.right x.way in omega arith) in
    let W : ℕ → Type 0 = λ i. IsWayDown c h top key i 0 x.left n x.right in
    let around = way-around c h top key x.steps 0 x.left n x.right x.way x.around.set in
    let none : address_of key (c.entries n) ≡ None = sym (around-answers c key x.left n x.right around).0 ∙ ap (address_of key) x.whole ∙ m.new in
    let r = entered c d h top e x.left n x.right x.around.set (subst W steps x.way) none (b.0, b.1 ∙ with-at e (c.entries n) none) (edited-others k v w 0 n es own new) (edited-upper k v w 0 n es own new) in
    let tops = coming-tops k v key by 0 n x in
    let S : List ℕ → Type 0 = λ ns. IsIndexSet d h ns in
    let set = edited-set k v w 0 n es own new m.index (λ j z. absurd (omega arith)) (subst S (sym tops) r.0) in
    edited-changed k v w 0 n es own new (with_entry e (index_entries k v)) set
    (edited-entries k v w 0 n es own new set ∙ ap (entries_below d h) tops ∙ r.1 ∙ ap (λ (ns : List ℕ). with_entry e (entries_below c h ns)) (sym tops)
    ∙ ap (with_entry e) (sym ((entries-below k v).1 m.index.version)))

-- ---- the top

-- where a new key needs no block, there is a top
pub needed-top : (k : ℕ) (v : VolumeState) (by : List ℕ) → needed_by k v by ≡ 0 → 0 < (header_of v.image).top
needed-top k v by none = elim (cases_eq (header_of v.image).top 0) [
  | inl z ↦ (let one : needed_by k v by ≡ 1 = rw (eq-eqb (header_of v.image).top 0 z) refl in absurd (omega arith))
  | inr some ↦ omega arith
]

-- and no block is full without a gap
needed-full : (k : ℕ) (v : VolumeState) (by : List ℕ) → 0 < (header_of v.image).top → needed_by k v by ≡ 0
    → full_blocks (index_blocks k v) (entry_room k v.size) by (top_level v) (header_of v.image).top ≡ 0
needed-full k v by some none =
    let full : ℕ = full_blocks (index_blocks k v) (entry_room k v.size) by (top_level v) (header_of v.image).top in
    let one : ℕ = one_if (full == (header_of v.image).height) in
    let is : needed_by k v by ≡ full + one = rw (ne_eqb (header_of v.image).top 0 (λ e. omega arith)) refl in
    omega arith

-- the way begins at the top
pub come-top : (k : ℕ) (v : VolumeState) (key by : List ℕ) (levels n : ℕ) → HasIndexSet k v → address_of key (index_entries k v) ≡ None → by ≡ greatest_below key key (index_entries k v)
    → 0 < (header_of v.image).top → levels ≡ top_level v → n ≡ (header_of v.image).top → MayCome k v key by levels n
come-top k v key by levels n x new is some level top =
    let c : IndexBlocks = index_blocks k v in
    let S : List ℕ → Type 0 = λ ns. IsIndexSet c (top_level v) ns in
    let M : ℕ → ℕ → Type 0 = λ l i. MayCome k v key by l i in
    let begin : MayCome k v key by (top_level v) (header_of v.image).top = record {
      index = x;
      new = new;
      by_is = is;
      coming = record {
        steps = 0;
        left = [];
        right = [];
        way = (refl, refl, refl, refl);
        around = top-around c by (top_level v) (header_of v.image).top (subst S (top-is v some) x.set);
        whole = ap (entries_below c (top_level v)) (sym (top-is v some)) ∙ sym ((entries-below k v).1 x.version);
        leads = refl;
      };
    } in
    subst (λ (l : ℕ). M l n) (sym level) (subst (M (top_level v)) (sym top) begin)

-- ---- one image, and steps one after another

pub may-same : (k : ℕ) (v w : VolumeState) (key by : List ℕ) (l n : ℕ) → AreOne v w → MayCome k v key by l n → MayCome k w key by l n
may-same k v w key by l n o m =
    let s = set-same k v w o m.index in
    let x = m.coming in
    let c : index_blocks k w ≡ index_blocks k v = rw (o.same.size, o.image) refl in
    let head : header_of w.image ≡ header_of v.image = ap header_of o.image in
    let W : IndexBlocks → Header → Type 0 = λ b h. IsWayDown b (h.height - 1) h.top key x.steps l x.left n x.right in
    let A : IndexBlocks → Type 0 = λ b. IsAround b by l x.left n x.right in
    let T : IndexBlocks → Header → Type 0 = λ b h. leaf_of b by x.steps h.top ≡ n in
    record {
      index = s.0;
      new = ap (address_of key) s.1 ∙ m.new;
      by_is = m.by_is ∙ ap (greatest_below key key) (sym s.1);
      coming = record {
        steps = x.steps;
        left = x.left;
        right = x.right;
        way = subst (W (index_blocks k w)) (sym head) (subst (λ (b : IndexBlocks). W b (header_of v.image)) (sym c) x.way);
        around = subst A (sym c) x.around;
        whole = ap (λ (b : IndexBlocks). entries_below b l (x.left ++ (n ∷ x.right))) c ∙ x.whole ∙ sym s.1;
        leads = subst (T (index_blocks k w)) (sym head) (subst (λ (b : IndexBlocks). T b (header_of v.image)) (sym c) x.leads);
      };
    }

-- a step behind others
pub come-join : (k : ℕ) (u v w : VolumeState) (key by : List ℕ) (i q l n : ℕ) → HasIndexSet k u → 0 < u.size → HasComeTo k u key by i q v → HasComeTo k v key by l n w → HasComeTo k u key by l n w
come-join k u v w key by i q l n x some a b =
    let C : List Entry → Type 0 = λ es. IsChanged k v es 0 w in
    record { changed = changed-join k u v w (index_entries k u) (index_entries k u) 0 0 0 x some refl a.changed (subst C a.changed.entries b.changed); needed = b.needed ∙ a.needed; may = b.may }

-- no step
pub come-none : (k : ℕ) (v : VolumeState) (key by : List ℕ) (l n : ℕ) → MayCome k v key by l n → HasComeTo k v key by l n v
come-none k v key by l n m =
    let o : AreOne v v = record { same = record { size = refl; sizes = refl }; image = refl } in
    record { changed = unchanged k v v m.index o; needed = refl; may = m }

-- a step that only read
pub come-read : (k : ℕ) (v w : VolumeState) (key by : List ℕ) (l p : ℕ) (turn : Turn) → AreOne v w → MayCome k v key by (suc l) p → IsTurnOf by key (entries_in k (block_at v p)) turn → turn.is_low ≡ false
    → HasComeTo k v key by l turn.child w
come-read k v w key by l p turn o m t low =
    record { changed = unchanged k v w m.index o; needed = needed-same k v w by o; may = may-same k v w key by l turn.child o (step-stays k v key by l p turn m t low) }

-- ---- what the code reads and writes

-- an index block of an index set is in order, and has an entry
pub known-order : (k : ℕ) (v : VolumeState) (n : ℕ) → HasIndexSet k v → IsKind v 2 n → IsInOrder k v n × (0 < number_at 2 (block_at v n) 4)
known-order k v n x kind =
    let r = index-blocks-right k v n x kind in
    (right-order k v (level_of (block_at v n)) n r.1, r.1.some)

-- and is of its own level
pub known-block : (k : ℕ) (v : VolumeState) (n : ℕ) → HasIndexSet k v → IsKind v 2 n → IsIndexBlock k v n
known-block k v n x kind = let r = index-blocks-right k v n x kind in record { is = kind; level = refl; count = r.1.count }

-- the same new key, of the state before a read
key-before : (u v w : VolumeState) (n i : ℕ) (key : List ℕ) → AreOne u v → IsKeyChanged v n i key w → IsKeyChanged u n i key w
key-before u v w n i key o h =
    let k : ℕ = length key in
    let B : List ℕ → Type 0 = λ b. HasNewEntries k u n (with_key_at i key (entries_in k b)) (number_at 4 b 8) w in
    subst B (one-block-at o n) (entries-before k u v w n (with_key_at i key (entries_in k (block_at v n))) (number_at 4 (block_at v n) 8) o h)

-- a step: a turn was read, and then its key was raised
pub step-come : (u v w : VolumeState) (key by : List ℕ) (l n : ℕ) (turn : Turn) → AreOne u v → MayCome (length key) u key by (suc l) n → IsTurnOf by key (entries_in (length key) (block_at u n)) turn
    → IsRaised v n turn key w → HasComeTo (length key) u key by l turn.child w
step-come u v w key by l n turn o m t r =
    let O : VolumeState → Type 0 = λ x. AreOne u x in
    elim r [
      | inl s ↦ step-raised (length key) u w key by l n turn m t s.0 (key-before u v w n turn.index key o s.1)
      | inr s ↦ come-read (length key) u w key by l n turn (subst O (sym s.1) o) m t s.0
    ]

-- a block that has room for an entry more
pub leaf-room : (k : ℕ) (v : VolumeState) (key by : List ℕ) (n count room : ℕ) → MayCome k v key by 0 n → needed_by k v by ≡ 0 → number_at 2 (block_at v n) 4 ≡ count → room ≡ entry_room k v.size → count < room
leaf-room k v key by n count room m none is room_is =
    let len : length (entries_in k (block_at v n)) ≡ number_at 2 (block_at v n) 4 = length-entries k (block_at v n) 12 (number_at 2 (block_at v n) 4) in
    let c : IndexBlocks = index_blocks k v in
    let x = m.coming in
    let steps : x.steps ≡ top_level v = (let e = way-steps c (top_level v) (header_of v.image).top key x.steps 0 x.left n x.right x.way in omega arith) in
    let open_leaf : nat_le (entry_room k v.size) (length (entries_in k (block_at v n))) ≡ false =
    ap (is_full c (entry_room k v.size)) (sym m.coming.leads ∙ ap (λ (i : ℕ). leaf_of c by i (header_of v.image).top) steps)
    ∙ leaf-open c (entry_room k v.size) by (top_level v) (header_of v.image).top (needed-full k v by (needed-top k v by none) none) in
    elim (cases_lt count room) [
      | inl less ↦ less
      | inr most ↦
          (let full : nat_le (entry_room k v.size) (length (entries_in k (block_at v n))) ≡ true = le-leb (entry_room k v.size) (length (entries_in k (block_at v n))) (omega arith) in
          absurd (cc))
    ]
