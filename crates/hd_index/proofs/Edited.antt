-- An index set of which one block has other entries.
use Rattle.std.proofs.Common.{◌≡◌, ◌≢◌, inl, inr, ℕ, suc, ◌-◌, cond, List, [], ◌∷◌, Some, sym, ap, ◌∙◌, subst, arith}
use Rattle.std.specs.Prelude.{◌==◌}
use Rattle.std.proofs.lemmas.Bool.{cases_eq}
use Rattle.hd_volume.specs.Headers.{Header, header_of}
use Rattle.hd_volume.specs.Volumes.{VolumeState, block_at}
use Rattle.hd_volume.specs.Entries.{Entry, entries_in}
use Rattle.hd_volume.proofs.JoinLemmas.{AreOne}
use Rattle.hd_index_blocks.specs.Levels.{IndexBlocks, named, entries_below, IsIndexSet}
use Rattle.hd_index_blocks.specs.Changes.{OthersStay, LowerStay, UpperStay}
use Rattle.hd_index_blocks.specs.Chains.{AreLevelsLinked}
use Rattle.hd_index_blocks.specs.Parents.{ArePlaced}
use Rattle.hd_index_blocks.specs.IndexSets.{level_in, next_in, index_blocks, top_blocks, top_level, index_entries, HasIndexSet}
use Rattle.hd_index_blocks.proofs.Volumes.{level-kind, entries-below}
use Rattle.hd_index_blocks.proofs.Downs.{level-is}
use Rattle.hd_index_blocks.proofs.Parents.{index-blocks-placed}
use Rattle.hd_index.specs.Edits.{HasNewEntries}
use Rattle.hd_index.proofs.EditLemmas.{one-block-at, edit-before}
use Rattle.hd_index.proofs.StepLemmas.{edit-step}
use Rattle.hd_index.specs.EditedBlocks.{level_of, Bears}
use Rattle.hd_index.specs.Changes.{IsChanged}
use Rattle.hd_index.proofs.Steps.{other-stays, other-was, counts-stay, borne, assembled}
use Rattle.hd_index_blocks.proofs.Naming.{KeepNames, links-kept, placed-kept}

-- ---- one block of a level has other entries

module _ (k : ℕ) (v w : VolumeState) (l p : ℕ) (es : List Entry) (own : level_in v p ≡ Some l) (new : HasNewEntries k v p es (next_in v p) w) where
  -- it is of its level still, and has them
  pub edited-block : (level_in w p ≡ Some l) × (entries_in k (block_at w p) ≡ es) × (next_in w p ≡ next_in v p)
  edited-block =
      let b = borne k (level_of (block_at v p)) p (next_in v p) w es new.bears in
      let s = level-kind v p l own in
      (b.0 ∙ ap (λ (i : ℕ). Some i) s.1, b.1, b.2)

  -- another stays
  pub edited-other : (x j : ℕ) → level_in v x ≡ Some j → x ≢ p → (level_in w x ≡ Some j) × (entries_in k (block_at w x) ≡ entries_in k (block_at v x)) × (next_in w x ≡ next_in v x)
  edited-other x j is other =
      let r = other-stays k p p 0 (edit-step new.edit) x j is other other in
      (r.0.0, r.0.1, r.1)

  apart : (x j : ℕ) → level_in v x ≡ Some j → j ≢ l → x ≢ p
  apart x j is other e = other (level-is (index_blocks k v) j l p (ap (level_in v) (sym e) ∙ is) own)

  pub edited-others : OthersStay (index_blocks k v) (index_blocks k w) l p
  edited-others x is other = let r = edited-other x l is other in (r.0, r.1)

  pub edited-lower : LowerStay (index_blocks k v) (index_blocks k w) l
  edited-lower x j is less = let r = edited-other x j is (apart x j is (λ e. omega arith)) in (r.0, r.1)

  pub edited-upper : UpperStay (index_blocks k v) (index_blocks k w) l
  edited-upper x j is less = let r = edited-other x j is (apart x j is (λ e. omega arith)) in (r.0, r.1)

  -- where it names what it named, all blocks do
  pub edited-names : ((j : ℕ) → l ≡ suc j → named es ≡ named (entries_in k (block_at v p))) → KeepNames (index_blocks k v) (index_blocks k w) (next_in v) (next_in w)
  edited-names same =
      let own_new = edited-block in
      record {
        on = λ x j is. elim (cases_eq x p) [
          | inl e ↦
              (let lj = level-is (index_blocks k v) l j p own (ap (level_in v) (sym e) ∙ is) in
              (ap (level_in w) e ∙ own_new.0 ∙ ap (λ (i : ℕ). Some i) lj, ap (next_in w) e ∙ own_new.2 ∙ ap (next_in v) (sym e)))
          | inr other ↦ (let r = edited-other x j is other in (r.0, r.2))
        ];
        was = λ x j is. elim (cases_eq x p) [
          | inl e ↦
              (let lj = level-is (index_blocks k w) l j p own_new.0 (ap (level_in w) (sym e) ∙ is) in
              ap (level_in v) e ∙ own ∙ ap (λ (i : ℕ). Some i) lj)
          | inr other ↦ other-was k p p 0 (edit-step new.edit) x j is other other
        ];
        names = λ x j is. elim (cases_eq x p) [
          | inl e ↦
              (let lj = level-is (index_blocks k v) l (suc j) p own (ap (level_in v) (sym e) ∙ is) in
              ap (λ (i : ℕ). named (entries_in k (block_at w i))) e ∙ ap named own_new.1 ∙ same j lj ∙ ap (λ (i : ℕ). named (entries_in k (block_at v i))) (sym e))
          | inr other ↦ ap named (edited-other x (suc j) is other).1
        ];
      }

  -- ---- the whole

  pub edited-tops : top_blocks w ≡ top_blocks v
  edited-tops = ap (λ (h : Header). cond (h.top == 0) [] (h.top ∷ [])) new.edit.header

  pub edited-level : top_level w ≡ top_level v
  edited-level = ap (λ (h : Header). h.height - 1) new.edit.header

  pub edited-set : HasIndexSet k v → ((j : ℕ) → l ≡ suc j → named es ≡ named (entries_in k (block_at v p))) → IsIndexSet (index_blocks k w) (top_level v) (top_blocks v) → HasIndexSet k w
  edited-set x same set =
      let d : IndexBlocks = index_blocks k w in
      let names = edited-names same in
      let top : (header_of w.image).top ≡ (header_of v.image).top = ap (λ (h : Header). h.top) new.edit.header in
      let height : (header_of w.image).height ≡ (header_of v.image).height = ap (λ (h : Header). h.height) new.edit.header in
      let own_count = new.bears.is.count in
      let S : ℕ → List ℕ → Type 0 = λ i ns. IsIndexSet d i ns in
      let P : ℕ → List ℕ → Type 0 = λ i ns. ArePlaced d i ns in
      let L : ℕ → List ℕ → Type 0 = λ i ns. AreLevelsLinked d (next_in w) i ns in
      assembled k w new.edit.formatted (λ e. x.version (sym (ap (λ (h : Header). h.version) new.edit.header) ∙ e)) (rw (top, height) x.height)
      (subst (λ (i : ℕ). S i (top_blocks w)) (sym edited-level) (subst (S (top_level v)) (sym edited-tops) set))
      (subst (λ (i : ℕ). P i (top_blocks w)) (sym edited-level)
      (subst (P (top_level v)) (sym edited-tops)
      (placed-kept (index_blocks k v) d (next_in v) (next_in w) names (top_level v) (top_blocks v) (index-blocks-placed k v x))))
      (counts-stay k p p 0 (edit-step new.edit) x.count own_count own_count)
      (subst (λ (i : ℕ). L i (top_blocks w)) (sym edited-level)
      (subst (L (top_level v)) (sym edited-tops)
      (links-kept (index_blocks k v) d (next_in v) (next_in w) names (top_level v) (top_blocks v) x.set x.next)))

  pub edited-entries : HasIndexSet k w → index_entries k w ≡ entries_below (index_blocks k w) (top_level v) (top_blocks v)
  edited-entries y =
      (entries-below k w).1 y.version
      ∙ ap (λ (i : ℕ). entries_below (index_blocks k w) i (top_blocks w)) edited-level
      ∙ ap (entries_below (index_blocks k w) (top_level v)) edited-tops

  pub edited-changed : (fs : List Entry) → HasIndexSet k w → index_entries k w ≡ fs → IsChanged k v fs 0 w
  edited-changed fs y is =
      let s = edit-step new.edit in
      record { size = s.size; index = y; entries = is; change = s.change; spares = s.spares }

-- ---- behind a read

-- the same new entries, of the state before a read
pub entries-before : (k : ℕ) (u v w : VolumeState) (n : ℕ) (es : List Entry) (next : ℕ) → AreOne u v → HasNewEntries k v n es next w → HasNewEntries k u n es next w
entries-before k u v w n es next o h =
    let B : List ℕ → Type 0 = λ b. Bears k w (level_of b) n es next in
    record { edit = edit-before n o h.edit; bears = subst B (one-block-at o n) h.bears }
