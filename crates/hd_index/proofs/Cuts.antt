-- Blocks that go from the index set of a volume.
use Rattle.std.proofs.Common.{◌≡◌, ◌≢◌, ◌⊎◌, inl, inr, ℕ, zero, suc, ◌+◌, ◌*◌, ◌<◌, ◌≤◌, cond, List, [], ◌∷◌, ◌++◌, length, Some, slice_index, refl, sym, ap, ◌∙◌, subst, arith}
use Rattle.std.specs.Prelude.{◌==◌}
use Rattle.std.proofs.lemmas.Bool.{cases_eq}
use Rattle.hd_bytes.specs.Numbers.{number_at}
use Rattle.hd_bytes.specs.Blocks.{block_of, HasBlock}
use Rattle.hd_volume.specs.Headers.{Header, header_of}
use Rattle.hd_volume.specs.Volumes.{VolumeState, block_at, kind_of, IsKind}
use Rattle.hd_volume.specs.Entries.{Entry, entries_in}
use Rattle.hd_volume.specs.Indexes.{entry_room, keys_ascend, IsAmong}
use Rattle.hd_index_blocks.specs.Maps.{without_key}
use Rattle.hd_index_blocks.specs.Levels.{IndexBlocks, across, named, entries_below, blocks_down, IsIndexSet}
use Rattle.hd_index_blocks.specs.Ways.{IsNamed}
use Rattle.hd_index_blocks.specs.Changes.{Stays, OthersStay, IsLeft, IsWayUp}
use Rattle.hd_index_blocks.specs.Chains.{IsLinked, first_of, AreLevelsLinked}
use Rattle.hd_index_blocks.specs.Linking.{IsRelinked}
use Rattle.hd_index_blocks.specs.Neighbours.{last_of, last_child}
use Rattle.hd_index_blocks.specs.Parents.{HasParent, ArePlaced}
use Rattle.hd_index_blocks.specs.IndexSets.{level_in, next_in, index_blocks, top_blocks, top_level, index_entries, HasIndexSet}
use Rattle.hd_index_blocks.proofs.Levels.{entries-none, on-parts, set-level}
use Rattle.hd_index_blocks.proofs.Sets.{blocks-once}
use Rattle.hd_index_blocks.proofs.Descents.{names-of}
use Rattle.hd_index_blocks.proofs.Downs.{among-parts, among-left, among-right, of-level, level-is}
use Rattle.hd_index_blocks.proofs.Neighbours.{left-named}
use Rattle.hd_index_blocks.proofs.Volumes.{entries-below, level-of, level-kind, top-is}
use Rattle.hd_index_blocks.proofs.Leaving.{left_out}
use Rattle.hd_index_blocks.proofs.Parents.{placed-reached}
use Rattle.hd_index_blocks.proofs.Unlinking.{chains-linked}
use Rattle.hd_index.specs.EditedBlocks.{level_of}
use Rattle.hd_index.proofs.StepLemmas.{there-on, change-join}
use Rattle.hd_index.specs.declared.stand.Stand.{Stand}
use Rattle.hd_index.specs.Blocks.{IsInOrder}
use Rattle.hd_index.specs.Changes.{IsChanged}
use Rattle.hd_index.specs.Removals.{IsLinkedWay, IsStepUp, IsDropped, KeepsRest, IsCut}
use Rattle.hd_index.proofs.Standing.{last-one, some-child, no-child}
use Rattle.hd_index.proofs.Steps.{borne, assembled}
use Rattle.hd_index.proofs.WaysUp.{AreAbove, way-up, way-steps, way-linked, way-stays, last-of-some}

-- a state with an index block has blocks of some size
pub size-some : (v : VolumeState) (n : ℕ) → IsKind v 2 n → 0 < v.size
size-some v n is = elim (cases_eq v.size 0) [
  | inl none ↦ (let e : kind_of (block_of 0 v.image n) ≡ 2 = ap (λ (z : ℕ). kind_of (block_of z v.image n)) (sym none) ∙ is.kind_is in absurd (omega arith))
  | inr some ↦ omega arith
]

-- ---- the whole, once all that goes has gone

none-down : (c : IndexBlocks) (l n : ℕ) → IsAmong n (blocks_down c l []) → ⊥
none-down c zero n among = among
none-down c (suc l) n among = none-down c l n among

set-none : (c : IndexBlocks) (l : ℕ) → IsIndexSet c l []
set-none c zero = (tt, refl)
set-none c (suc l) = (tt, tt, set-none c l)

linked-none : (c : IndexBlocks) (next : ℕ → ℕ) (l : ℕ) → AreLevelsLinked c next l []
linked-none c next zero = refl
linked-none c next (suc l) = (refl, linked-none c next l)

-- without a top no block is left
placed-none : (c : IndexBlocks) (h l : ℕ) → IsIndexSet c h [] → ArePlaced c h [] → ArePlaced c l []
placed-none c h l set placed n j is = absurd (none-down c h n (placed-reached c h [] set placed n j is))

-- the index is that of the top that is left
whole : (k : ℕ) (u w : VolumeState) (kept_top : List ℕ) (es : List Entry) → KeepsRest k u kept_top w → IsIndexSet (index_blocks k w) (top_level u) kept_top
    → entries_below (index_blocks k w) (top_level u) kept_top ≡ es → AreLevelsLinked (index_blocks k w) (next_in w) (top_level u) kept_top → ArePlaced (index_blocks k w) (top_level u) kept_top
    → IsChanged k u es 0 w
whole k u w kept_top es r set is linked placed =
    let d : IndexBlocks = index_blocks k w in
    let S : List ℕ → Type 0 = λ t. IsIndexSet d (top_level w) t in
    let L : List ℕ → Type 0 = λ t. AreLevelsLinked d (next_in w) (top_level w) t in
    let P : List ℕ → Type 0 = λ t. ArePlaced d (top_level w) t in
    let E : List ℕ → Type 0 = λ t. entries_below d (top_level w) t ≡ es in
    let at : IsIndexSet d (top_level w) kept_top × AreLevelsLinked d (next_in w) (top_level w) kept_top × ArePlaced d (top_level w) kept_top × (entries_below d (top_level w) kept_top ≡ es) = elim r.level [
      | inl same ↦
          (let S2 : ℕ → Type 0 = λ l. IsIndexSet d l kept_top in
          let L2 : ℕ → Type 0 = λ l. AreLevelsLinked d (next_in w) l kept_top in
          let P2 : ℕ → Type 0 = λ l. ArePlaced d l kept_top in
          let E2 : ℕ → Type 0 = λ l. entries_below d l kept_top ≡ es in
          (subst S2 (sym same) set, subst L2 (sym same) linked, subst P2 (sym same) placed, subst E2 (sym same) is))
      | inr none ↦
          (let S2 : List ℕ → Type 0 = λ t. IsIndexSet d (top_level u) t in
          let P2 : List ℕ → Type 0 = λ t. ArePlaced d (top_level u) t in
          let E2 : List ℕ → Type 0 = λ t. entries_below d (top_level u) t ≡ es in
          let low : es ≡ [] = sym (subst E2 none is) ∙ entries-none d (top_level u) in (
            subst S (sym none) (set-none d (top_level w)),
            subst L (sym none) (linked-none d (next_in w) (top_level w)),
            subst P (sym none) (placed-none d (top_level u) (top_level w) (subst S2 none set) (subst P2 none placed)),
            subst E (sym none) (entries-none d (top_level w) ∙ sym low),
          ))
    ] in
    let spares = r.spares in
    record {
      size = r.size;
      index = assembled k w r.formatted r.version r.height (subst S (sym r.tops) at.0) (subst P (sym r.tops) at.2) r.count (subst L (sym r.tops) at.1);
      entries = (entries-below k w).1 r.version ∙ subst E (sym r.tops) at.3;
      change = r.change;
      spares = omega arith;
    }

-- an entry that goes at the end of its way
pub finish : (k : ℕ) (u w : VolumeState) (gone : Entry) (kept_top before : List ℕ) (n : ℕ) (behind kept : List ℕ) (front back : List Entry) (steps : ℕ) → HasIndexSet k u → 0 < (header_of u.image).top
    → IsIndexSet (index_blocks k u) 0 (before ++ (n ∷ behind)) → entries_in k (block_at u n) ≡ front ++ (gone ∷ back) → IsLeft (index_blocks k w) 0 n (front ++ back) kept → OthersStay (index_blocks k u) (index_blocks k w) 0 n
    → IsLinked (next_in u) (first_of (before ++ (n ∷ behind))) (before ++ (n ∷ behind)) → IsRelinked (next_in u) (next_in w) before n behind kept
    → IsLinkedWay (index_blocks k u) (index_blocks k w) (next_in u) (next_in w) (top_level u) (header_of u.image).top steps 0 before n behind kept kept_top
    → ArePlaced (index_blocks k w) (top_level u) kept_top → KeepsRest k u kept_top w → IsChanged k u (without_key gone.key (index_entries k u)) 0 w
finish k u w gone kept_top before n behind kept front back steps x some set was left others linked relinked way placed rest =
    let c : IndexBlocks = index_blocks k u in
    let d : IndexBlocks = index_blocks k w in
    let h : ℕ = top_level u in
    let top : ℕ = (header_of u.image).top in
    let T : List ℕ → Type 0 = λ t. IsIndexSet c h t in
    let all : IsIndexSet c h (top ∷ []) = subst T (top-is u some) x.set in
    let es : index_entries k u ≡ entries_below c h (top ∷ []) = (entries-below k u).1 x.version ∙ ap (entries_below c h) (top-is u some) in
    let up = way-up c d (next_in u) (next_in w) h top steps 0 before n behind kept kept_top way in
    let high : steps ≡ h = (let e = way-steps c d (next_in u) (next_in w) h top steps 0 before n behind kept kept_top way in omega arith) in
    let U : ℕ → Type 0 = λ i. IsWayUp c d h top i 0 before n behind kept kept_top in
    let r = left_out c d h top gone before n behind kept kept_top front back all set was left others (subst U high up) in
    let low = chains-linked (next_in u) (next_in w) (first_of (before ++ (n ∷ behind))) before n behind kept relinked linked in
    let chain = way-linked c d (next_in u) (next_in w) h top steps 0 before n behind kept kept_top way relinked.left_is low in
    whole k u w kept_top (without_key gone.key (index_entries k u)) rest r.0 (r.1 ∙ ap (without_key gone.key) (sym es)) chain placed

-- ---- one block that goes

module _ (k : ℕ) {v w : VolumeState} (stand : Stand) (d : IsDropped k v stand w) where
  drop-on : (x : ℕ) → HasBlock v.size v.image x → HasBlock w.size w.image x
  drop-on x h = (let l = d.len in let t : x * v.size + v.size ≤ length v.image = h in rw d.size (omega arith))

  drop-there : (x : ℕ) → HasBlock w.size w.image x → HasBlock v.size v.image x
  drop-there x h = (let l = d.len in let t : x * v.size + v.size ≤ length w.image = rw d.size at h in omega arith)

  -- another block keeps its level
  drop-level : (x j : ℕ) → x ≢ stand.block → x ≢ stand.left → level_in v x ≡ Some j → (level_in w x ≡ Some j) × (block_at w x ≡ block_at v x)
  drop-level x j p q h =
      let s = level-kind v x j h in
      let same = d.others x s.0.there p q in
      let is : IsKind w 2 x = record { there = drop-on x s.0.there; later = s.0.later; kind_is = ap kind_of same ∙ s.0.kind_is } in
      (level-of w x is ∙ ap (λ (t : List ℕ). Some (slice_index t 3)) same ∙ ap (λ (i : ℕ). Some i) s.1, same)

  -- and had it
  drop-was : (x j : ℕ) → x ≢ stand.block → x ≢ stand.left → level_in w x ≡ Some j → level_in v x ≡ Some j
  drop-was x j p q h =
      let s = level-kind w x j h in
      let there = drop-there x s.0.there in
      let same = d.others x there p q in
      let is : IsKind v 2 x = record { there = there; later = s.0.later; kind_is = ap kind_of (sym same) ∙ s.0.kind_is } in
      level-of v x is ∙ ap (λ (t : List ℕ). Some (slice_index t 3)) (sym same) ∙ ap (λ (i : ℕ). Some i) s.1

  -- the left neighbour keeps its level and its entries
  drop-left : stand.left ≢ 0 → (level_in w stand.left ≡ Some (level_of (block_at v stand.left))) × (entries_in k (block_at w stand.left) ≡ entries_in k (block_at v stand.left)) × (next_in w stand.left ≡ next_in v stand.block)
  drop-left some = borne k (level_of (block_at v stand.left)) stand.left (next_in v stand.block) w (entries_in k (block_at v stand.left)) (d.left some)

  -- each block but the one stays
  drop-stays : (x j : ℕ) → x ≢ stand.block → level_in v x ≡ Some j → Stays (index_blocks k v) (index_blocks k w) j x
  drop-stays x j p h = elim (cases_eq x stand.left) [
    | inl e ↦
        (let S : ℕ → Type 0 = λ i. Stays (index_blocks k v) (index_blocks k w) j i in
        let s = level-kind v x j h in
        let later = s.0.later in
        let l = drop-left (λ z. (let y : x ≡ 0 = e ∙ z in omega arith)) in
        let own : level_of (block_at v stand.left) ≡ j = ap (λ (i : ℕ). level_of (block_at v i)) (sym e) ∙ s.1 in
        subst S (sym e) (l.0 ∙ ap (λ (i : ℕ). Some i) own, l.1))
    | inr q ↦ (let r = drop-level x j p q h in (r.0, ap (entries_in k) r.1))
  ]

module _ {k : ℕ} {u : VolumeState} {gone : Entry} {kept_top : List ℕ} {v : VolumeState} {l : ℕ} {stand : Stand} (c : IsCut k u gone kept_top v l stand) where
  row-level : (x : ℕ) → IsAmong x (c.before ++ (stand.block ∷ c.behind)) → level_in u x ≡ Some l
  row-level x a = (of-level (index_blocks k u) l x (c.before ++ (stand.block ∷ c.behind)) c.set a).level

  pub block-level : level_in u stand.block ≡ Some l
  block-level = row-level stand.block (among-right stand.block c.before (stand.block ∷ c.behind) (inl refl))

  pub left-level : stand.left ≢ 0 → level_in u stand.left ≡ Some l
  left-level some =
      let A : ℕ → Type 0 = λ i. IsAmong i c.before in
      let among : IsAmong stand.left c.before = subst A (sym c.left_is) (last-one c.before (λ z. some (c.left_is ∙ z))) in
      row-level stand.left (among-left stand.left c.before (stand.block ∷ c.behind) among)

  -- a block of another level is neither of the two
  apart : (x j : ℕ) → level_in u x ≡ Some j → j ≢ l → (x ≢ stand.block) × (x ≢ stand.left)
  apart x j h other =
      let later = (level-kind u x j h).0.later in (
        (λ e. other (level-is (index_blocks k u) j l x h (ap (level_in u) e ∙ block-level))),
        (λ e. other (level-is (index_blocks k u) j l x h (ap (level_in u) e ∙ left-level (λ z. (let y : x ≡ 0 = e ∙ z in omega arith))))),
      )

  -- the block and its left neighbour differ
  pub stand-apart : stand.left ≢ stand.block
  stand-apart e =
      let later = (level-kind u stand.block l block-level).0.later in
      let A : ℕ → Type 0 = λ i. IsAmong i c.before in
      let among : IsAmong stand.block c.before = subst A (sym c.left_is ∙ e) (last-one c.before (λ z. (let y : stand.block ≡ 0 = sym e ∙ c.left_is ∙ z in omega arith))) in
      (blocks-once (index_blocks k u) l c.before stand.block c.behind c.set).0 among

  still-there : (x j : ℕ) → level_in u x ≡ Some j → HasBlock v.size v.image x
  still-there x j h =
      let s = level-kind u x j h in
      there-on u v x c.was.formatted.header c.rest.formatted.header (size-some u x s.0) c.rest.change.count s.0.there

  -- both are in order still
  row-order : (x : ℕ) → IsAmong x (c.before ++ (stand.block ∷ c.behind)) → IsInOrder k v x
  row-order x a =
      let on = of-level (index_blocks k u) l x (c.before ++ (stand.block ∷ c.behind)) c.set a in
      let low = c.lower x l on.level (omega arith) in
      let is = (level-kind v x l low.0).0 in
      record { is = is; count = c.rest.count x is; ascend = ap (λ (t : List ℕ). keys_ascend (entries_in k t)) low.1 ∙ on.ascend }

  pub block-in-order : IsInOrder k v stand.block
  block-in-order = row-order stand.block (among-right stand.block c.before (stand.block ∷ c.behind) (inl refl))

  pub left-in-order : stand.left ≢ 0 → IsInOrder k v stand.left
  left-in-order some =
      let A : ℕ → Type 0 = λ i. IsAmong i c.before in
      row-order stand.left (among-left stand.left c.before (stand.block ∷ c.behind) (subst A (sym c.left_is) (last-one c.before (λ z. some (c.left_is ∙ z)))))

  -- the first and the last state of a block of the level
  pub lower-block : level_in v stand.block ≡ Some l
  lower-block = (c.lower stand.block l block-level (omega arith)).0

  module _ {w : VolumeState} (d : IsDropped k v stand w) where
    cut-above : AreAbove (index_blocks k u) (index_blocks k v) (index_blocks k w) (next_in v) (next_in w) l
    cut-above x j h less =
        let a = apart x j h (λ e. omega arith) in
        let same = d.others x (still-there x j h) a.0 a.1 in
        ((λ old. (drop-level k stand d x j a.0 a.1 old).0), ap (entries_in k) same, ap (λ (t : List ℕ). number_at 4 t 8) same)

    cut-others : OthersStay (index_blocks k u) (index_blocks k w) l stand.block
    cut-others x h p =
        let low = c.lower x l h (omega arith) in
        let s = drop-stays k stand d x l p low.0 in
        (s.0, s.1 ∙ ap (entries_in k) low.1)

    cut-lower : (x j : ℕ) → level_in u x ≡ Some j → j < l → (level_in w x ≡ Some j) × (block_at w x ≡ block_at u x)
    cut-lower x j h less =
        let a = apart x j h (λ e. omega arith) in
        let low = c.lower x j h (omega arith) in
        let r = drop-level k stand d x j a.0 a.1 low.0 in
        (r.0, r.1 ∙ low.1)

    cut-relinked : IsRelinked (next_in u) (next_in w) c.before stand.block c.behind []
    cut-relinked = record {
      left_is = inl refl;
      gone = λ none some.
          let among = last-of-some c.before some in
          let level = row-level (last_of 0 c.before) (among-left (last_of 0 c.before) c.before (stand.block ∷ c.behind) among) in
          let later = (level-kind u (last_of 0 c.before) l level).0.later in
          let l3 = drop-left k stand d (λ z. (let y : last_of 0 c.before ≡ 0 = sym c.left_is ∙ z in omega arith)) in
          ap (next_in w) (sym c.left_is) ∙ l3.2 ∙ ap (λ (t : List ℕ). number_at 4 t 8) (c.lower stand.block l block-level (omega arith)).1;
      others = λ x a away.
          let once = blocks-once (index_blocks k u) l c.before stand.block c.behind c.set in
          let A : ℕ → Type 0 = λ i. IsAmong i c.before in
          let B : ℕ → Type 0 = λ i. IsAmong i c.behind in
          let parts = among-parts x c.before c.behind a in
          let p : x ≢ stand.block = (λ e. elim parts [ inl b ↦ once.0 (subst A e b) | inr b ↦ once.1 (subst B e b) ]) in
          let q : x ≢ stand.left = (λ e. away refl (e ∙ c.left_is)) in
          let row_among : IsAmong x (c.before ++ (stand.block ∷ c.behind)) = elim parts [ inl b ↦ among-left x c.before (stand.block ∷ c.behind) b | inr b ↦ among-right x c.before (stand.block ∷ c.behind) (inr b) ] in
          let level = row-level x row_among in
          let low = c.lower x l level (omega arith) in
          let r = drop-level k stand d x l p q low.0 in
          ap (λ (t : List ℕ). number_at 4 t 8) (r.1 ∙ low.1);
    }

    -- a block that has a level had it
    cut-was : (x j : ℕ) → level_in w x ≡ Some j → (x ≢ stand.block) × (level_in v x ≡ Some j)
    cut-was x j h =
        let p : x ≢ stand.block = (λ e. d.gone (level-kind w stand.block j (ap (level_in w) (sym e) ∙ h)).0) in (
          p,
          elim (cases_eq x stand.left) [
            | inl e ↦
                (let later = (level-kind w x j h).0.later in
                let some : stand.left ≢ 0 = λ z. (let y : x ≡ 0 = e ∙ z in omega arith) in
                let old = (c.lower stand.left l (left-level some) (omega arith)).0 in
                let now = (drop-left k stand d some).0 in
                let own : level_of (block_at v stand.left) ≡ l = (level-kind v stand.left l old).1 in
                let at : j ≡ l = level-is (index_blocks k w) j l x h (ap (level_in w) e ∙ now ∙ ap (λ (i : ℕ). Some i) own) in
                ap (level_in v) e ∙ old ∙ ap (λ (i : ℕ). Some i) (sym at))
            | inr q ↦ drop-was k stand d x j p q h
          ],
        )

    -- a block that the one did not name is placed
    cut-placed : (x j : ℕ) → level_in w x ≡ Some j → ((i : ℕ) → l ≡ suc i → IsAmong x (named (entries_in k (block_at u stand.block))) → ⊥)
        → (j ≤ top_level u) × (IsAmong x kept_top ⊎ HasParent (index_blocks k w) j x)
    cut-placed x j h none =
        let b = cut-was x j h in
        let r = c.placed x j b.1 b.0 in (
          r.0,
          elim r.1 [
            | inl top ↦ inl top
            | inr p ↦ inr (elim (cases_eq p.parent stand.block) [
              | inl e ↦
                  (let low = c.lower stand.block l block-level (omega arith) in
                  let level : l ≡ suc j = level-is (index_blocks k v) l (suc j) stand.block low.0 (ap (level_in v) (sym e) ∙ p.level) in
                  let N : ℕ → Type 0 = λ i. IsAmong x (named (entries_in k (block_at v i))) in
                  let M : List ℕ → Type 0 = λ t. IsAmong x (named (entries_in k t)) in
                  absurd (none j level (subst M low.1 (subst N e p.names))))
              | inr other ↦
                  (let s = drop-stays k stand d p.parent (suc j) other p.level in
                  let N : List Entry → Type 0 = λ es. IsAmong x (named es) in
                  record { parent = p.parent; level = s.0; names = subst N (sym s.1) p.names })
            ])
          ],
        )

    cut-rest : KeepsRest k u kept_top w
    cut-rest =
        let r = c.rest in
        let H : Header → Type 0 = λ h. ((h.top ≡ 0) × (h.height ≡ 0)) ⊎ ((0 < h.top) × (0 < h.height) × (h.height ≤ 64)) in
        let tops : top_blocks w ≡ top_blocks v = ap (λ (h : Header). cond (h.top == 0) [] (h.top ∷ [])) d.header in
        let level : top_level w ≡ top_level v = (let e : (header_of w.image).height ≡ (header_of v.image).height = ap (λ (h : Header). h.height) d.header in rw e refl) in
        let s1 = r.spares in let s2 = d.spares in
        record {
          size = d.size ∙ r.size;
          formatted = d.formatted;
          change = change-join 0 0 c.was.formatted r.formatted (size-some u stand.block (level-kind u stand.block l block-level).0) r.size r.change d.change;
          spares = omega arith;
          version = λ e. r.version (sym (ap (λ (h : Header). h.version) d.header) ∙ e);
          height = subst H (sym d.header) r.height;
          tops = tops ∙ r.tops;
          level = elim r.level [ inl e ↦ inl (level ∙ e) | inr e ↦ inr e ];
          count = λ n is.
              let p : n ≢ stand.block = (λ e. d.gone (let K : ℕ → Type 0 = λ i. IsKind w 2 i in subst K e is)) in
              let C : ℕ → Type 0 = λ i. number_at 2 (block_at w i) 4 ≤ entry_room k w.size in
              elim (cases_eq n stand.left) [
                | inl e ↦ (let later = is.later in subst C (sym e) (d.left (λ z. (let y : n ≡ 0 = e ∙ z in omega arith))).is.count)
                | inr q ↦
                    (let there = drop-there k stand d n is.there in
                    let same = d.others n there p q in
                    let old : IsKind v 2 n = record { there = there; later = is.later; kind_is = ap kind_of (sym same) ∙ is.kind_is } in
                    let B : List ℕ → Type 0 = λ t. number_at 2 t 4 ≤ entry_room k w.size in
                    let Z : ℕ → Type 0 = λ z. number_at 2 (block_at v n) 4 ≤ entry_room k z in
                    subst B (sym same) (subst Z (sym d.size) (r.count n old)))
              ];
        }

-- the last block that goes
pub cut-end : (k : ℕ) (u : VolumeState) (gone : Entry) (kept_top : List ℕ) (v : VolumeState) (stand : Stand) (w : VolumeState) → IsCut k u gone kept_top v 0 stand → IsDropped k v stand w
    → IsChanged k u (without_key gone.key (index_entries k u)) 0 w
cut-end k u gone kept_top v stand w c d =
    let way = way-stays (index_blocks k u) (index_blocks k v) (index_blocks k w) (next_in u) (next_in v) (next_in w) (top_level u) (header_of u.image).top c.steps 0 c.before stand.block c.behind [] kept_top (cut-above c d) c.way in
    let only : entries_in k (block_at u stand.block) ≡ gone ∷ [] = sym (nil (entries_in k (block_at u stand.block))) ∙ c.below in
    finish k u w gone kept_top c.before stand.block c.behind [] [] [] c.steps c.was c.some c.set only refl (cut-others c d) c.linked (cut-relinked c d) way
    (λ x j h. cut-placed c d x j h (λ i e a. (let z : 0 ≡ suc i = e in absurd (omega arith)))) (cut-rest c d)
  where
    nil : (x : List Entry) → x ++ [] ≡ x
    nil [] = refl
    nil (x ∷ xs) = ap (λ (t : List Entry). x ∷ t) (nil xs)

-- one block that goes, above the next
pub cut-on : (k : ℕ) (u : VolumeState) (gone : Entry) (kept_top : List ℕ) (v : VolumeState) (l : ℕ) (stand : Stand) (w : VolumeState) (below : Stand) → IsCut k u gone kept_top v (suc l) stand → IsDropped k v stand w
    → below.block ≡ last_child (index_blocks k v) stand.block → below.left ≡ last_child (index_blocks k v) stand.left → IsCut k u gone kept_top w l below
cut-on k u gone kept_top v l stand w below c d block left =
    let C : IndexBlocks = index_blocks k u in
    let n : ℕ = stand.block in
    let e : Entry = c.thin.0 in
    let own : entries_in k (block_at u n) ≡ e ∷ [] = c.thin.1 in
    let low = c.lower n (suc l) (block-level c) (omega arith) in
    let later = (level-kind u n (suc l) (block-level c)).0.later in
    let is : below.block ≡ e.address =
    block ∙ some-child (index_blocks k v) n (λ z. omega arith) ∙ ap (λ (t : List ℕ). last_of 0 (named (entries_in k t))) low.1 ∙ ap (λ (es : List Entry). last_of 0 (named es)) own in
    let before : List ℕ = named (across C c.before ++ []) in
    let behind : List ℕ = named ([] ++ across C c.behind) in
    let nm : IsNamed C before e.address behind c.before n c.behind = record { front = []; entry = e; back = []; is = own; child = refl; left_is = refl; right_is = refl } in
    let on = on-parts C (suc l) c.before (n ∷ c.behind) (set-level C (suc l) (c.before ++ (n ∷ c.behind)) c.set) in
    let beside = left-named C l before e.address behind c.before n c.behind nm on.0 refl in
    let same_child : last_child (index_blocks k v) stand.left ≡ last_child C stand.left = elim (cases_eq stand.left 0) [
      | inl z ↦ no-child (index_blocks k v) stand.left z ∙ sym (no-child C stand.left z)
      | inr some ↦
          some-child (index_blocks k v) stand.left some ∙ ap (λ (t : List ℕ). last_of 0 (named (entries_in k t))) (c.lower stand.left (suc l) (left-level c some) (omega arith)).1
          ∙ sym (some-child C stand.left some)
    ] in
    let about : named (across C (c.before ++ (n ∷ c.behind))) ≡ before ++ (e.address ∷ behind) = names-of C before e.address behind c.before n c.behind nm in
    let S : List ℕ → Type 0 = λ t. IsIndexSet C l t in
    let L : List ℕ → Type 0 = λ t. AreLevelsLinked C (next_in u) l t in
    let step : IsStepUp C (index_blocks k w) (next_in u) (next_in w) l before e.address behind [] c.before n c.behind [] = record {
      names = nm;
      is_left = refl;
      others = cut-others c d;
      set = c.set;
      linked = c.linked.0;
      relinked = cut-relinked c d;
    } in
    let O : ℕ → Type 0 = λ b. IsCut k u gone kept_top w l (record { left = below.left; block = b }) in
    let at : O e.address = record {
      was = c.was;
      some = c.some;
      before = before;
      behind = behind;
      left_is = left ∙ same_child ∙ ap (last_child C) c.left_is ∙ sym beside;
      set = subst S about c.set.2;
      linked = subst L about c.linked.1;
      thin = c.thin.2;
      below = ap (λ (es : List Entry). entries_below C l (named (es ++ []))) (sym own) ∙ c.below;
      steps = suc c.steps;
      way = (
        c.before,
        n,
        c.behind,
        [],
        step,
        way-stays C (index_blocks k v) (index_blocks k w) (next_in u) (next_in v) (next_in w) (top_level u) (header_of u.image).top c.steps (suc l) c.before n c.behind [] kept_top (cut-above c d) c.way,
      );
      lower = λ x j h less. cut-lower c d x j h (omega arith);
      placed = λ x j h other. cut-placed c d x j h (λ i eq a.
          let A : List Entry → Type 0 = λ es. IsAmong x (named es) in
          elim (subst A own a) [ inl same ↦ other same | inr none ↦ none ]);
      rest = cut-rest c d;
    } in
    subst O (sym is) at
