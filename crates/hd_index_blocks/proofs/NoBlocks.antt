-- A volume of version 2 or later without an index block has an index set.
use Rattle.std.proofs.Common.{◌≡◌, ◌≢◌, inl, ℕ, zero, suc, ◌==◌, List, [], ◌∷◌, refl, sym, ap, ◌∙◌, subst}
use Rattle.std.proofs.lemmas.Bool.{eq-eqb}
use Rattle.hd_volume.specs.Headers.{header_of}
use Rattle.hd_volume.specs.Volumes.{VolumeState, IsKind, IsFormatted}
use Rattle.hd_volume.specs.Entries.{Entry}
use Rattle.hd_index_blocks.specs.Levels.{IndexBlocks, entries_below, IsIndexSet}
use Rattle.hd_index_blocks.specs.Chains.{AreLevelsLinked}
use Rattle.hd_index_blocks.specs.IndexSets.{next_in, index_blocks, top_blocks, top_level, index_entries, HasIndexSet}
use Rattle.hd_index_blocks.proofs.Levels.{entries-none}
use Rattle.hd_index_blocks.proofs.Volumes.{entries-below}

none-set : (c : IndexBlocks) (l : ℕ) → IsIndexSet c l []
none-set c zero = (tt, refl)
none-set c (suc l) = (tt, tt, none-set c l)

none-linked : (c : IndexBlocks) (next : ℕ → ℕ) (l : ℕ) → AreLevelsLinked c next l []
none-linked c next zero = refl
none-linked c next (suc l) = (refl, none-linked c next l)

none-top : (v : VolumeState) → (header_of v.image).top ≡ 0 → top_blocks v ≡ []
none-top v top = rw (eq-eqb (header_of v.image).top 0 top) refl

-- one without a top block, and without any other
pub set-empty : (k : ℕ) (v : VolumeState) → IsFormatted v → (header_of v.image).version ≢ 1 → (header_of v.image).top ≡ 0 → (header_of v.image).height ≡ 0
    → ((n : ℕ) → IsKind v 2 n → ⊥) → HasIndexSet k v
set-empty k v f version top height none = record {
  formatted = f;
  version = version;
  height = inl (top, height);
  set = subst (λ (ns : List ℕ). IsIndexSet (index_blocks k v) (top_level v) ns) (sym (none-top v top)) (none-set (index_blocks k v) (top_level v));
  reached = λ n i. absurd (none n i);
  count = λ n i. absurd (none n i);
  next = subst (λ (ns : List ℕ). AreLevelsLinked (index_blocks k v) (next_in v) (top_level v) ns) (sym (none-top v top)) (none-linked (index_blocks k v) (next_in v) (top_level v));
}

-- and it has no entry
pub empty-entries : (k : ℕ) (v : VolumeState) → (header_of v.image).version ≢ 1 → (header_of v.image).top ≡ 0 → index_entries k v ≡ []
empty-entries k v version top =
    (entries-below k v).1 version
    ∙ ap (λ (ns : List ℕ). entries_below (index_blocks k v) (top_level v) ns) (none-top v top)
    ∙ entries-none (index_blocks k v) (top_level v)
