-- A volume of which the header alone has changed, and a new block that is the top.
use Rattle.std.proofs.Common.{◌≡◌, inl, inr, ℕ, suc, ◌+◌, ◌*◌, ◌<◌, ◌≤◌, List, [], ◌∷◌, length, refl, sym, ap, ◌∙◌, arith, subst}
use Rattle.hd_bytes.specs.Numbers.{number_at}
use Rattle.hd_bytes.specs.Blocks.{block_of, HasBlock}
use Rattle.hd_volume.specs.Headers.{Header, header_of}
use Rattle.hd_volume.specs.Volumes.{VolumeState, block_at, kind_of, IsKind, IsFormatted, HasKinds}
use Rattle.hd_volume.specs.Calls.{HasNewHeader}
use Rattle.hd_volume.specs.Entries.{Entry, entries_in}
use Rattle.hd_volume.proofs.FrameLemmas.{AreSame}
use Rattle.hd_index.specs.BlockChanges.{IsIndexChange}
use Rattle.hd_index.specs.EditedBlocks.{Bears}
use Rattle.hd_index.specs.Edits.{IsBegun}
use Rattle.hd_index.proofs.StepLemmas.{change-join, same-level-block}
use Rattle.hd_index.specs.Divisions.{IsTopBegun}

-- the header alone has changed
module _ {v w : VolumeState} {h : Header} (same : AreSame v w) (n : HasNewHeader v h w) where
  pub head-other : (b : ℕ) → HasBlock v.size v.image b → 0 < b → block_at w b ≡ block_at v b
  head-other b there later = ap (λ (z : ℕ). block_of z w.image b) same.size ∙ n.block.others b there (λ e. omega arith)

  -- no block has come
  head-there : (b : ℕ) → HasBlock w.size w.image b → HasBlock v.size v.image b
  head-there b there = (let l = n.block.len in let t : b * v.size + v.size ≤ length w.image = rw same.size at there in omega arith)

  -- each block keeps its kind
  pub head-on : (j b : ℕ) → IsKind v j b → IsKind w j b
  head-on j b k =
      let l = n.block.len in
      let t : b * v.size + v.size ≤ length v.image = k.there in
      record { there = rw same.size (omega arith); later = k.later; kind_is = ap kind_of (head-other b k.there k.later) ∙ k.kind_is }

  -- each block had its kind
  pub head-back : (j b : ℕ) → IsKind w j b → IsKind v j b
  head-back j b k = (let there = head-there b k.there in record { there = there; later = k.later; kind_is = ap kind_of (sym (head-other b there k.later)) ∙ k.kind_is })

  -- the kinds stay the three
  head-kinds : HasKinds v → HasKinds w
  head-kinds k b there later = elim (k b (head-there b there) later) [
    | inl one ↦ inl (head-on 1 b one)
    | inr (inl two) ↦ inr (inl (head-on 2 b two))
    | inr (inr three) ↦ inr (inr (head-on 3 b three))
  ]

  -- a new top or height changes the index alone
  pub head-change : h.count ≡ (header_of v.image).count → h ≡ record (header_of v.image) { count = h.count; top = h.top; height = h.height } → IsIndexChange v 0 w
  head-change count all =
      let c : (header_of w.image).count ≡ (header_of v.image).count = ap (λ (x : Header). x.count) n.is ∙ count in
      record {
        segments = n.segments;
        data_blocks = λ b k. head-other b k.there k.later;
        others = λ b k. head-back 1 b k;
        kinds = head-kinds;
        count = omega arith;
        grows = omega arith;
        header = n.is ∙ all ∙ ap (λ (x : Header). record (header_of v.image) { count = x.count; top = x.top; height = x.height }) (sym n.is);
        holes = n.holes;
      }

  -- what a block bears stays
  pub head-bears : (k l m : ℕ) (es : List Entry) (next : ℕ) → Bears k v l m es next → Bears k w l m es next
  head-bears k l m es next b =
      let same-block = head-other m b.is.is.there b.is.is.later in
      record {
        is = same-level-block k l v w m same.size (head-on 2 m b.is.is) same-block b.is;
        entries = ap (entries_in k) same-block ∙ b.entries;
        next_is = ap (λ (x : List ℕ). number_at 4 x 8) same-block ∙ b.next_is;
      }

-- a block begun, which is made the top
pub top-begun : {u v y w : VolumeState} (l m high : ℕ) (key : List ℕ) (address : ℕ) → high ≡ suc l → IsFormatted u → 0 < u.size → IsBegun u l m key address 0 v
    → AreSame v y → HasNewHeader v (record (header_of v.image) { top = m }) y → AreSame y w → HasNewHeader y (record (header_of y.image) { height = high }) w → IsTopBegun u l key address w
top-begun {u} {v} {y} {w} l m high key address level f some b same-y top same-w height =
    let k : ℕ = length key in
    let s = b.step in
    let es : List Entry = record { key = key; address = address } ∷ [] in
    let formatted-y = top.formatted s.formatted in
    let size-y : y.size ≡ u.size = same-y.size ∙ s.size in
    let c1 = change-join 1 0 f s.formatted some s.size s.change (head-change same-y top refl refl) in
    let c2 = change-join 1 0 f formatted-y some size-y c1 (head-change same-w height refl refl) in
    let apart : (i : ℕ) → IsKind u 2 i → i ≡ m → ⊥ = λ i kind e. b.fresh (let K : ℕ → Type 0 = λ t. IsKind u 2 t in subst K e kind) in
    let count : (header_of w.image).count ≡ (header_of v.image).count = ap (λ (z : Header). z.count) height.is ∙ ap (λ (z : Header). z.count) top.is in
    let all : header_of w.image ≡ record (header_of u.image) { count = (header_of v.image).count; top = m; height = high } =
    height.is ∙ ap (λ (z : Header). record z { height = high }) top.is ∙ ap (λ (z : Header). record z { top = m; height = high }) s.header in
    record {
      block = m;
      fresh = b.fresh;
      size = same-w.size ∙ size-y;
      formatted = height.formatted formatted-y;
      others = λ i kind.
          let in-v = s.stay i kind in
          let in-y = head-on same-y top 2 i in-v in
          head-other same-w height i in-y.there in-y.later ∙ head-other same-y top i in-v.there in-v.later ∙ s.others i kind (apart i kind) (apart i kind);
      stay = λ i kind. head-on same-w height 2 i (head-on same-y top 2 i (s.stay i kind));
      back = λ i kind. s.back i (head-back same-y top 2 i (head-back same-w height 2 i kind));
      bears = head-bears same-w height k l m es 0 (head-bears same-y top k l m es 0 b.bears);
      change = c2;
      header = all ∙ ap (λ (i : ℕ). record (header_of u.image) { count = i; top = m; height = high }) (sym count) ∙ ap (λ (i : ℕ). record (header_of u.image) { count = (header_of w.image).count; top = m; height = i }) level;
      spares = (let p = s.spares in let q = top.spares in let r = height.spares in omega arith);
    }
