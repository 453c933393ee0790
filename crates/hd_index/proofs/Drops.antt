-- One block that goes from its level.
use Rattle.std.proofs.Common.{◌≡◌, ◌≢◌, inl, inr, ℕ, ◌+◌, ◌*◌, ◌≤◌, List, length, refl, sym, ap, ◌∙◌, subst, arith}
use Rattle.std.proofs.lemmas.Bool.{cases_eq}
use Rattle.hd_bytes.specs.Numbers.{number_at}
use Rattle.hd_bytes.specs.Blocks.{block_of, HasBlock}
use Rattle.hd_volume.specs.Headers.{Header, header_of}
use Rattle.hd_volume.specs.Volumes.{VolumeState, block_at, kind_of, IsKind, IsFormatted, HasKinds}
use Rattle.hd_volume.specs.Calls.{IsGivenBlock}
use Rattle.hd_volume.specs.Entries.{entries_in}
use Rattle.hd_volume.proofs.FrameLemmas.{AreSame}
use Rattle.hd_volume.proofs.JoinLemmas.{AreOne, one-kind, one-segments, one-spare, one-holes}
use Rattle.hd_index_blocks.specs.IndexSets.{next_in}
use Rattle.hd_index.specs.BlockChanges.{IsIndexChange}
use Rattle.hd_index.specs.EditedBlocks.{level_of, IsIndexBlock, Bears, without_entry_at}
use Rattle.hd_index.specs.Edits.{IsEntryRemoved, IsNextChanged}
use Rattle.hd_index.proofs.EditLemmas.{edit-none, edit-before, edit-other, one-block-at, one-there, one-turned}
use Rattle.hd_index.proofs.StepLemmas.{count-header, three-header, change-join, edit-change, edit-step, same-level-block, own-level}
use Rattle.hd_index.specs.declared.stand.Stand.{Stand}
use Rattle.hd_index.specs.Blocks.{IsInOrder}
use Rattle.hd_index.specs.Removals.{IsPassed, IsDropped}
use Rattle.hd_index.proofs.ReadSteps.{change-before}
use Rattle.hd_index.proofs.Cuts.{size-some}

-- ---- behind a read

pub index-block-one : (k : ℕ) (u v : VolumeState) (n : ℕ) → AreOne u v → IsIndexBlock k u n → IsIndexBlock k v n
index-block-one k u v n one h = own-level k (level_of (block_at u n)) v n (same-level-block k (level_of (block_at u n)) u v n one.same.size (one-kind one 2 n h.is) (one-block-at one n) h)

pub order-index : (k : ℕ) (v : VolumeState) (n : ℕ) → IsInOrder k v n → IsIndexBlock k v n
order-index k v n h = record { is = h.is; level = refl; count = h.count }

-- what was taken out
pub removed-before : (k : ℕ) (u v w : VolumeState) (n i j : ℕ) → AreOne u v → j ≡ i → IsEntryRemoved k v n j w → IsEntryRemoved k u n i w
removed-before k u v w n i j one e h =
    let I : ℕ → Type 0 = λ t. IsEntryRemoved k v n t w in
    let own : IsEntryRemoved k v n i w = subst I e h in
    let same = one-block-at one n in
    record {
      edit = edit-before n one own.edit;
      bears = (let B : List ℕ → Type 0 = λ t. Bears k w (level_of t) n (without_entry_at i (entries_in k t)) (number_at 4 t 8) in subst B same own.bears);
    }

-- a read changes nothing
pub change-one : (u v : VolumeState) → AreOne u v → IsIndexChange u 0 v
change-one u v o =
    let head : header_of v.image ≡ header_of u.image = ap header_of o.image in
    let count : (header_of v.image).count ≡ (header_of u.image).count = ap (λ (h : Header). h.count) head in
    record {
      segments = one-segments o;
      data_blocks = λ n kind. one-block-at o n;
      others = λ n kind. one-kind (one-turned o) 1 n kind;
      kinds = λ h n there later.
          let old = one-there (one-turned o) n there in
          elim (h n old later) [ inl a ↦ inl (one-kind o 1 n a) | inr (inl a) ↦ inr (inl (one-kind o 2 n a)) | inr (inr a) ↦ inr (inr (one-kind o 3 n a)) ];
      count = omega arith;
      grows = omega arith;
      header = three-header (header_of u.image) (header_of v.image) (count-header (header_of u.image) (header_of v.image) head);
      holes = one-holes o;
    }

-- ---- the left neighbour names the block behind

-- where there is none
pub passed-none : (k : ℕ) (v : VolumeState) (stand : Stand) → IsFormatted v → IsKind v 2 stand.block → stand.left ≡ 0 → IsPassed k v stand v
passed-none k v stand f is none = record {
  size = refl;
  len = refl;
  formatted = f;
  is = is;
  others = λ x there other. refl;
  left = λ some. absurd (some none);
  header = refl;
  change = edit-change (edit-none v stand.block f is);
  spares = omega arith;
}

pub passed : (k : ℕ) (u v w : VolumeState) (stand : Stand) (next : ℕ) → AreOne u v → IsKind u 2 stand.block → next ≡ next_in u stand.block → IsNextChanged k v stand.left next w → IsPassed k u stand w
passed k u v w stand next one is name h =
    let e = edit-before stand.left one h.edit in
    let same = one-block-at one stand.left in
    let s = edit-step e in
    let N : ℕ → Type 0 = λ i. Bears k w (level_of (block_at u stand.left)) stand.left (entries_in k (block_at u stand.left)) i in
    let B : List ℕ → Type 0 = λ t. Bears k w (level_of t) stand.left (entries_in k t) next in
    let spares = e.spares in
    record {
      size = e.size;
      len = e.block.len;
      formatted = e.formatted;
      is = s.stay stand.block is;
      others = λ x there other. edit-other stand.left x e there other;
      left = λ some. subst N name (subst B same h.bears);
      header = e.header;
      change = edit-change e;
      spares = omega arith;
    }

-- ---- the block becomes free

module _ {v w : VolumeState} (n : ℕ) (same : AreSame v w) (g : IsGivenBlock v n w) where
  given-other : (m : ℕ) → HasBlock v.size v.image m → m ≢ n → block_at w m ≡ block_at v m
  given-other m there other = ap (λ (z : ℕ). block_of z w.image m) same.size ∙ g.block.others m there other

  given-there : (m : ℕ) → HasBlock w.size w.image m → HasBlock v.size v.image m
  given-there m h = (let l = g.block.len in let t : m * v.size + v.size ≤ length w.image = rw same.size at h in omega arith)

  given-on : (j m : ℕ) → m ≢ n → IsKind v j m → IsKind w j m
  given-on j m other k =
      let l = g.block.len in
      let t : m * v.size + v.size ≤ length v.image = k.there in
      record { there = rw same.size (omega arith); later = k.later; kind_is = ap kind_of (given-other m k.there other) ∙ k.kind_is }

  given-back : (j m : ℕ) → m ≢ n → IsKind w j m → IsKind v j m
  given-back j m other k =
      let there = given-there m k.there in
      record { there = there; later = k.later; kind_is = ap kind_of (sym (given-other m there other)) ∙ k.kind_is }

  -- the block is of the one kind, and was of the other
  given-apart : (j m : ℕ) → j ≢ 2 → IsKind v j m → m ≢ n
  given-apart j m other k x = other (sym k.kind_is ∙ ap (λ (i : ℕ). kind_of (block_at v i)) x ∙ g.was.kind_is)

  given-apart-new : (j m : ℕ) → j ≢ 3 → IsKind w j m → m ≢ n
  given-apart-new j m other k x = other (sym k.kind_is ∙ ap (λ (i : ℕ). kind_of (block_at w i)) x ∙ g.is.kind_is)

  given-kinds : HasKinds v → HasKinds w
  given-kinds k m there later = elim (cases_eq m n) [
    | inl e ↦ inr (inr (let K : ℕ → Type 0 = λ i. IsKind w 3 i in subst K (sym e) g.is))
    | inr other ↦ elim (k m (given-there m there) later) [
      | inl one ↦ inl (given-on 1 m other one)
      | inr (inl two) ↦ inr (inl (given-on 2 m other two))
      | inr (inr three) ↦ inr (inr (given-on 3 m other three))
    ]
  ]

  pub given-change : IsIndexChange v 0 w
  given-change =
      let count : (header_of w.image).count ≡ (header_of v.image).count = ap (λ (h : Header). h.count) g.header in
      record {
        segments = g.segments;
        data_blocks = λ m k. given-other m k.there (given-apart 1 m (λ x. omega arith) k);
        others = λ m k. given-back 1 m (given-apart-new 1 m (λ x. omega arith) k) k;
        kinds = given-kinds;
        count = omega arith;
        grows = omega arith;
        header = three-header (header_of v.image) (header_of w.image) (count-header (header_of v.image) (header_of w.image) g.header);
        holes = g.holes;
      }

-- the block is gone
pub dropped : (k : ℕ) (u v w : VolumeState) (stand : Stand) → IsFormatted u → stand.left ≢ stand.block → IsPassed k u stand v → AreSame v w → IsGivenBlock v stand.block w → IsDropped k u stand w
dropped k u v w stand f apart p same g =
    let n : ℕ = stand.block in
    let s1 = p.spares in let s2 = g.spares in
    let there = λ (x : ℕ) (h : HasBlock u.size u.image x). (let l = p.len in let t : x * u.size + u.size ≤ length u.image = h in let r : HasBlock v.size v.image x = rw p.size (omega arith) in r) in
    record {
      size = same.size ∙ p.size;
      len = g.block.len ∙ p.len;
      formatted = g.formatted;
      gone = λ k2. given-apart-new n same g 2 n (λ x. omega arith) k2 refl;
      others = λ x h a b. given-other n same g x (there x h) a ∙ p.others x h b;
      left = λ some.
          let b = p.left some in
          let bytes = given-other n same g stand.left b.is.is.there apart in
          let is = same-level-block k (level_of (block_at u stand.left)) v w stand.left same.size (given-on n same g 2 stand.left apart b.is.is) bytes b.is in
          record { is = is; entries = ap (entries_in k) bytes ∙ b.entries; next_is = ap (λ (t : List ℕ). number_at 4 t 8) bytes ∙ b.next_is };
      header = g.header ∙ p.header;
      change = change-join 0 0 f p.formatted (let z = size-some v n g.was in let q = p.size in omega arith) p.size p.change (given-change n same g);
      spares = omega arith;
    }

-- the same, behind a read
pub dropped-before : (k : ℕ) (u v w : VolumeState) (stand : Stand) → AreOne u v → IsDropped k v stand w → IsDropped k u stand w
dropped-before k u v w stand one d =
    let left = one-block-at one stand.left in
    let block = one-block-at one stand.block in
    let L : List ℕ → Type 0 = λ t. Bears k w (level_of t) stand.left (entries_in k t) (number_at 4 (block_at v stand.block) 8) in
    let N : List ℕ → Type 0 = λ t. Bears k w (level_of (block_at u stand.left)) stand.left (entries_in k (block_at u stand.left)) (number_at 4 t 8) in
    let same = one-spare one in
    let spares = d.spares in
    record {
      size = d.size ∙ one.same.size;
      len = d.len ∙ ap (λ (t : List ℕ). length t) one.image;
      formatted = d.formatted;
      gone = d.gone;
      others = λ x there a b. d.others x (one-there one x there) a b ∙ one-block-at one x;
      left = λ some. subst N block (subst L left (d.left some));
      header = d.header ∙ ap header_of one.image;
      change = change-before u v w 0 one d.change;
      spares = omega arith;
    }
