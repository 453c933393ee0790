-- Steps of a change of the index: what they keep of the volume.
use Rattle.std.proofs.Common.{◌≡◌, ◌≢◌, ◌⊎◌, inl, inr, ℕ, ◌+◌, ◌*◌, ◌<◌, ◌≤◌, List, [], ◌∷◌, length, take, drop, replicate, slice_index, refl, sym, ap, ◌∙◌, arith, subst}
use Rattle.std.proofs.lemmas.Bool.{cases_lt, cases_eq}
use Rattle.std.proofs.lemmas.List.{append-nil, get_or-replicate}
use Rattle.std.proofs.lemmas.Nat.{row_fits}
use Rattle.hd_bytes.specs.Numbers.{number_at}
use Rattle.hd_bytes.specs.Blocks.{HasBlock}
use Rattle.hd_bytes.proofs.NumberLemmas.{number-same}
use Rattle.hd_volume.specs.Headers.{Header, header_of, HasHeader}
use Rattle.hd_volume.specs.Volumes.{VolumeState, block_at, kind_of, IsKind, IsFormatted, HasKinds}
use Rattle.hd_volume.specs.Calls.{IsTakenBlock}
use Rattle.hd_volume.specs.Entries.{Entry, entries_in, entries_at}
use Rattle.hd_volume.specs.Indexes.{entry_room}
use Rattle.hd_volume.proofs.FrameLemmas.{AreSame}
use Rattle.hd_volume.proofs.KindLemmas.{below-count}
use Rattle.hd_index.specs.BlockChanges.{IsIndexChange}
use Rattle.hd_index.specs.EditedBlocks.{level_of, with_entry_at, IsLevelBlock, IsIndexBlock, Bears}
use Rattle.hd_index.specs.Edits.{IsEdit, HasNewEntries, IsIndexStep, IsHalved, IsBegun, IsEntryAdded, IsNextChanged}
use Rattle.hd_index.proofs.EditLemmas.{edit-other}

-- ---- blocks that are there

-- a block below the count is there
pub there-below : (v : VolumeState) (b : ℕ) → HasHeader v.size v.image → b < (header_of v.image).count → HasBlock v.size v.image b
there-below v b h low =
    let fits : b * v.size + v.size ≤ (header_of v.image).count * v.size = row_fits b v.size (header_of v.image).count v.size low (omega arith) in
    let whole = h.whole in omega arith

-- the block of a state that grew
pub there-on : (u v : VolumeState) (b : ℕ) → HasHeader u.size u.image → HasHeader v.size v.image → 0 < u.size → (header_of u.image).count ≤ (header_of v.image).count → HasBlock u.size u.image b → HasBlock v.size v.image b
there-on u v b hu hv some more there = there-below v b hv (let low = below-count u b hu some there in omega arith)

-- ---- the header

-- a header of which the count alone may have changed
pub count-header : (a b : Header) → b ≡ a → b ≡ record a { count = b.count }
count-header a b e = (let c : b.count ≡ a.count = ap (λ (h : Header). h.count) e in e ∙ (let x : a ≡ record a { count = b.count } = rw c refl in x))

-- nor the top and the height
pub three-header : (a b : Header) → b ≡ record a { count = b.count } → b ≡ record a { count = b.count; top = b.top; height = b.height }
three-header a b e =
    let t : b.top ≡ a.top = ap (λ (h : Header). h.top) e in
    let g : b.height ≡ a.height = ap (λ (h : Header). h.height) e in
    e ∙ (let x : record a { count = b.count } ≡ record a { count = b.count; top = b.top; height = b.height } = rw (t, g) refl in x)

-- a header of which these three have changed twice
pub join-header : (a b c : Header) → b ≡ record a { count = b.count; top = b.top; height = b.height } → c ≡ record b { count = c.count; top = c.top; height = c.height }
    → c ≡ record a { count = c.count; top = c.top; height = c.height }
join-header a b c one two = two ∙ ap (λ (h : Header). record h { count = c.count; top = c.top; height = c.height }) one

-- ---- one change behind another

-- two changes of the index are one
pub change-join : {u v w : VolumeState} (a b : ℕ) → IsFormatted u → IsFormatted v → 0 < u.size → v.size ≡ u.size → IsIndexChange u a v → IsIndexChange v b w → IsIndexChange u (a + b) w
change-join {u} {v} {w} a b f g some size x y = record {
  segments = λ s. y.segments s ∙ x.segments s;
  data_blocks = λ n k.
      let same = x.data_blocks n k in
      y.data_blocks n (record { there = there-on u v n f.header g.header some x.count k.there; later = k.later; kind_is = ap kind_of same ∙ k.kind_is }) ∙ same;
  others = λ n k. x.others n (y.others n k);
  kinds = λ k. y.kinds (x.kinds k);
  count = (let c = x.count in let d = y.count in omega arith);
  grows = (let c = x.grows in let d = y.grows in omega arith);
  header = join-header (header_of u.image) (header_of v.image) (header_of w.image) x.header y.header;
  holes = λ k h. y.holes k (x.holes k h);
}

-- ---- an edit

module _ {u w : VolumeState} {n : ℕ} (e : IsEdit u n w) where
  edit-len : length w.image ≡ length u.image
  edit-len = e.block.len

  -- another block keeps its kind
  edit-on : (j b : ℕ) → b ≢ n → IsKind u j b → IsKind w j b
  edit-on j b other k =
      let l = edit-len in
      let t : b * u.size + u.size ≤ length u.image = k.there in
      record { there = rw e.size (omega arith); later = k.later; kind_is = ap kind_of (edit-other n b e k.there other) ∙ k.kind_is }

  -- no block has come
  edit-there : (b : ℕ) → HasBlock w.size w.image b → HasBlock u.size u.image b
  edit-there b h = (let l = edit-len in let t : b * u.size + u.size ≤ length w.image = rw e.size at h in omega arith)

  -- another block had its kind
  edit-back : (j b : ℕ) → b ≢ n → IsKind w j b → IsKind u j b
  edit-back j b other k =
      let there = edit-there b k.there in
      record { there = there; later = k.later; kind_is = ap kind_of (sym (edit-other n b e there other)) ∙ k.kind_is }

  -- the edited block is of no other kind
  edit-apart : (j b : ℕ) → j ≢ 2 → IsKind u j b → b ≢ n
  edit-apart j b other k x = other (sym k.kind_is ∙ ap (λ (i : ℕ). kind_of (block_at u i)) x ∙ e.was.kind_is)

  -- nor is it afterwards
  edit-apart-new : (j b : ℕ) → j ≢ 2 → IsKind w j b → b ≢ n
  edit-apart-new j b other k x = other (sym k.kind_is ∙ ap (λ (i : ℕ). kind_of (block_at w i)) x ∙ e.is.kind_is)

  -- the kinds stay the three
  edit-kinds : HasKinds u → HasKinds w
  edit-kinds k b there later = elim (cases_eq b n) [
    | inl same ↦ inr (inl (let K : ℕ → Type 0 = λ i. IsKind w 2 i in subst K (sym same) e.is))
    | inr other ↦ elim (k b (edit-there b there) later) [
      | inl one ↦ inl (edit-on 1 b other one)
      | inr (inl two) ↦ inr (inl (edit-on 2 b other two))
      | inr (inr three) ↦ inr (inr (edit-on 3 b other three))
    ]
  ]

  -- an edit changes the index alone
  pub edit-change : IsIndexChange u 0 w
  edit-change =
      let count : (header_of w.image).count ≡ (header_of u.image).count = ap (λ (h : Header). h.count) e.header in
      record {
        segments = e.segments;
        data_blocks = λ b k. edit-other n b e k.there (edit-apart 1 b (λ x. omega arith) k);
        others = λ b k. edit-back 1 b (edit-apart-new 1 b (λ x. omega arith) k) k;
        kinds = edit-kinds;
        count = omega arith;
        grows = omega arith;
        header = three-header (header_of u.image) (header_of w.image) (count-header (header_of u.image) (header_of w.image) e.header);
        holes = e.holes;
      }

  -- an edit is a step
  pub edit-step : IsIndexStep u n n 0 w
  edit-step = record {
    size = e.size;
    sizes = e.sizes;
    formatted = e.formatted;
    others = λ b k other again. edit-other n b e k.there other;
    stay = λ b k. elim (cases_eq b n) [ inl same ↦ (let K : ℕ → Type 0 = λ i. IsKind w 2 i in subst K (sym same) e.is) | inr other ↦ edit-on 2 b other k ];
    back = λ b k. inl (elim (cases_eq b n) [ inl same ↦ (let K : ℕ → Type 0 = λ i. IsKind u 2 i in subst K (sym same) e.was) | inr other ↦ edit-back 2 b other k ]);
    change = edit-change;
    header = count-header (header_of u.image) (header_of w.image) e.header;
    spares = (let s = e.spares in omega arith);
  }

-- an edit of one of its blocks, behind a step
pub step-join : {u v w : VolumeState} (n m a x : ℕ) → IsFormatted u → 0 < u.size → IsIndexStep u n m a v → IsEdit v x w → (x ≡ n) ⊎ (x ≡ m) → IsIndexStep u n m a w
step-join {u} {v} {w} n m a x f some s e own =
    let t = edit-step e in
    let c = change-join a 0 f s.formatted some s.size s.change t.change in
    let C : ℕ → Type 0 = λ i. IsIndexChange u i w in
    let apart = λ (b : ℕ) (p : b ≢ n) (q : b ≢ m). (let r : b ≢ x = elim own [ inl y ↦ (λ z. p (z ∙ y)) | inr y ↦ (λ z. q (z ∙ y)) ] in r) in
    record {
      size = t.size ∙ s.size;
      sizes = t.sizes ∙ s.sizes;
      formatted = t.formatted;
      others = λ b k p q. t.others b (s.stay b k) (apart b p q) (apart b p q) ∙ s.others b k p q;
      stay = λ b k. t.stay b (s.stay b k);
      back = λ b k. elim (t.back b k) [ inl old ↦ s.back b old | inr y ↦ s.back b (let K : ℕ → Type 0 = λ i. IsKind v 2 i in subst K (sym y) e.was) ];
      change = subst C (let z : a + 0 ≡ a = omega arith in z) c;
      header = t.header ∙ (let y : record (header_of v.image) { count = (header_of w.image).count } ≡ record (header_of u.image) { count = (header_of w.image).count } = ap (λ (h : Header). record h { count = (header_of w.image).count }) s.header in y);
      spares = (let p = s.spares in let q = e.spares in omega arith);
    }

-- ---- blocks that stay

-- an index block with the same bytes is one of the same level
pub same-level-block : (k l : ℕ) (v w : VolumeState) (n : ℕ) → w.size ≡ v.size → IsKind w 2 n → block_at w n ≡ block_at v n → IsLevelBlock k v l n → IsLevelBlock k w l n
same-level-block k l v w n size is same h =
    let P : List ℕ → Type 0 = λ b. number_at 2 b 4 ≤ entry_room k w.size in
    let Q : ℕ → Type 0 = λ z. number_at 2 (block_at v n) 4 ≤ entry_room k z in
    record { is = is; level = ap level_of same ∙ h.level; count = subst P (sym same) (subst Q (sym size) h.count) }

-- an index block of a level is one of its own level
pub own-level : (k l : ℕ) (v : VolumeState) (n : ℕ) → IsLevelBlock k v l n → IsIndexBlock k v n
own-level k l v n h = record { is = h.is; level = refl; count = h.count }

-- what it bears, it bears on its own level
pub own-bears : (k l : ℕ) (v : VolumeState) (n : ℕ) {es : List Entry} {next : ℕ} → Bears k v l n es next → Bears k v (level_of (block_at v n)) n es next
own-bears k l v n h = record { is = own-level k l v n h.is; entries = h.entries; next_is = h.next_is }

-- ---- a block that was taken

module _ {u w : VolumeState} (m : ℕ) (same : AreSame u w) (f : IsFormatted u) (some : 0 < u.size) {level : ℕ} (t : IsTakenBlock u m level w) where
  taken-count : (header_of u.image).count ≤ (header_of w.image).count
  taken-count = elim t.grows.count [ inl e ↦ omega arith | inr e ↦ (let x = e.0 in let y = e.1 in omega arith) ]

  -- by two at most
  taken-more : (header_of w.image).count ≤ (header_of u.image).count + 2 * 1
  taken-more = elim t.grows.count [ inl e ↦ omega arith | inr e ↦ (let x = e.0 in let y = e.2 in omega arith) ]

  -- each block is still there
  taken-on : (b : ℕ) → HasBlock u.size u.image b → HasBlock w.size w.image b
  taken-on b there = there-on u w b f.header t.formatted.header some taken-count there

  -- every other block was there, or is free
  taken-back : (b : ℕ) → b ≢ m → HasBlock w.size w.image b → HasBlock u.size u.image b ⊎ IsKind w 3 b
  taken-back b other there =
      let size = same.size in
      let low = below-count w b t.formatted.header (omega arith) there in
      elim (cases_lt b (header_of u.image).count) [ inl l ↦ inl (there-below u b f.header l) | inr h ↦ inr (t.grows.passed b h low other) ]

  -- the block was neither for data nor for the index
  taken-apart : (j b : ℕ) → j ≢ 3 → IsKind u j b → b ≢ m
  taken-apart j b other k x =
      elim t.was [
        | inl three ↦ other (sym k.kind_is ∙ ap (λ (i : ℕ). kind_of (block_at u i)) x ∙ three.kind_is)
        | inr last ↦ (let low = below-count u b f.header some k.there in omega arith)
      ]

  -- the block was not of the index
  pub taken-fresh : IsKind u 2 m → ⊥
  taken-fresh k = taken-apart 2 m (λ x. omega arith) k refl

  -- another block keeps its kind
  taken-kind-on : (j b : ℕ) → b ≢ m → IsKind u j b → IsKind w j b
  taken-kind-on j b other k = record { there = taken-on b k.there; later = k.later; kind_is = ap kind_of (t.others b k.there k.later other) ∙ k.kind_is }

  -- another block had its kind, unless that is free
  taken-kind-back : (j b : ℕ) → j ≢ 3 → b ≢ m → IsKind w j b → IsKind u j b
  taken-kind-back j b kept other k = elim (taken-back b other k.there) [
    | inl old ↦ record { there = old; later = k.later; kind_is = ap kind_of (sym (t.others b old k.later other)) ∙ k.kind_is }
    | inr three ↦ absurd (kept (sym k.kind_is ∙ three.kind_is))
  ]

  -- the kinds stay the three
  taken-kinds : HasKinds u → HasKinds w
  taken-kinds h b there later = elim (cases_eq b m) [
    | inl e ↦ inr (inl (let K : ℕ → Type 0 = λ i. IsKind w 2 i in subst K (sym e) t.is))
    | inr other ↦ elim (taken-back b other there) [
      | inr free ↦ inr (inr free)
      | inl old ↦ elim (h b old later) [
        | inl one ↦ inl (taken-kind-on 1 b other one)
        | inr (inl two) ↦ inr (inl (taken-kind-on 2 b other two))
        | inr (inr three) ↦ inr (inr (taken-kind-on 3 b other three))
      ]
    ]
  ]

  -- taking a block is a step
  pub taken-step : (n : ℕ) → IsIndexStep u n m 1 w
  taken-step n = record {
    size = same.size;
    sizes = same.sizes;
    formatted = t.formatted;
    others = λ b k p q. t.index b k;
    stay = λ b k. taken-kind-on 2 b (taken-apart 2 b (λ x. omega arith) k) k;
    back = λ b k. elim (cases_eq b m) [ inl e ↦ inr e | inr other ↦ inl (taken-kind-back 2 b (λ x. omega arith) other k) ];
    change = record {
      segments = t.segments;
      data_blocks = λ b k. t.others b k.there k.later (taken-apart 1 b (λ x. omega arith) k);
      others = λ b k. taken-kind-back 1 b (λ x. omega arith) (λ x. (let one : 2 ≡ 1 = sym t.is.kind_is ∙ ap (λ (i : ℕ). kind_of (block_at w i)) (sym x) ∙ k.kind_is in omega arith)) k;
      kinds = taken-kinds;
      count = taken-count;
      grows = taken-more;
      header = three-header (header_of u.image) (header_of w.image) t.grows.header;
      holes = t.holes;
    };
    header = t.grows.header;
    spares = (let s = t.spares in omega arith);
  }

  -- an index block stays
  pub taken-stays : (k l n : ℕ) → IsLevelBlock k u l n → IsLevelBlock k w l n × (block_at w n ≡ block_at u n)
  taken-stays k l n h =
      let same_bytes = t.index n h.is in
      (same-level-block k l u w n same.size (taken-kind-on 2 n (taken-apart 2 n (λ x. omega arith) h.is) h.is) same_bytes h, same_bytes)

-- bytes of 0
zeros : List ℕ
zeros = replicate 12 0

-- each of them is 0
zeros-at : (j : ℕ) → j < 12 → slice_index zeros j ≡ 0
unfolding zeros
zeros-at j l = get_or-replicate 12 j 0 0 l

-- four bytes of 0 are 0, and so are two
zero-four : (b : List ℕ) → ((j : ℕ) → 4 ≤ j → j < 12 → slice_index b j ≡ 0) → number_at 4 b 8 ≡ 0
unfolding number_at zeros
zero-four b h = number-same 4 8 b zeros (λ j l m. h j (omega arith) (omega arith) ∙ sym (zeros-at j (omega arith)))

-- so are two
zero-two : (b : List ℕ) → ((j : ℕ) → 4 ≤ j → j < 12 → slice_index b j ≡ 0) → number_at 2 b 4 ≡ 0
unfolding number_at zeros
zero-two b h = number-same 2 4 b zeros (λ j l m. h j (omega arith) (omega arith) ∙ sym (zeros-at j (omega arith)))

-- a block that was taken bears no entry
pub taken-bears : (k l m : ℕ) {u w : VolumeState} → IsTakenBlock u m l w → Bears k w l m [] 0
taken-bears k l m {u} {w} t =
    let count = zero-two (block_at w m) t.empty in
    record {
      is = record { is = t.is; level = t.level_is; count = omega arith };
      entries = ap (entries_at k (block_at w m) 12) count;
      next_is = zero-four (block_at w m) t.empty;
    }

-- what a block bears stays where another is edited
pub bears-kept : (k l m n : ℕ) {u w : VolumeState} (es : List Entry) (next : ℕ) → IsEdit u n w → m ≢ n → Bears k u l m es next → Bears k w l m es next
bears-kept k l m n {u} {w} es next e other h =
    let same = edit-other n m e h.is.is.there other in
    record {
      is = same-level-block k l u w m e.size ((edit-step e).stay m h.is.is) same h.is;
      entries = ap (entries_in k) same ∙ h.entries;
      next_is = ap (λ (b : List ℕ). number_at 4 b 8) same ∙ h.next_is;
    }

-- a block taken, filled with the upper entries of another, which then keeps the lower ones
pub halved : {u v x w : VolumeState} (k l n m half next : ℕ) → AreSame u v → IsFormatted u → 0 < u.size → IsLevelBlock k u l n → IsTakenBlock u m l v
    → HasNewEntries k v m (drop half (entries_in k (block_at v n))) next x → HasNewEntries k x n (take half (entries_in k (block_at x n))) m w → IsHalved k u l n m half next w
halved {u} {v} {x} {w} k l n m half next same f some is t high low =
    let stays = taken-stays m same f some t k l n is in
    let fresh = taken-fresh m same f some t in
    let apart : m ≢ n = λ e. fresh (let K : ℕ → Type 0 = λ i. IsKind u 2 i in subst K (sym e) is.is) in
    let own : block_at x n ≡ block_at u n = edit-other m n high.edit stays.0.is.there (λ e. apart (sym e)) ∙ stays.1 in
    let one = taken-step m same f some t n in
    let two = step-join n m 1 m f some one high.edit (inr refl) in
    let H : List ℕ → Type 0 = λ b. Bears k w l m (drop half (entries_in k b)) next in
    let L : List ℕ → Type 0 = λ b. Bears k w l n (take half (entries_in k b)) m in
    let M : ℕ → Type 0 = λ i. Bears k x i m (drop half (entries_in k (block_at v n))) next in
    let N : ℕ → Type 0 = λ i. Bears k w i n (take half (entries_in k (block_at x n))) m in
    record {
      apart = apart;
      fresh = fresh;
      step = step-join n m 1 n f some two low.edit (inl refl);
      low = subst L own (subst N (ap level_of own ∙ is.level) low.bears);
      high = subst H stays.1 (bears-kept k l m n (drop half (entries_in k (block_at v n))) next low.edit apart (subst M t.level_is high.bears));
    }

-- the lower block stays until then
pub lower-stays : {u v x : VolumeState} (k l n m : ℕ) (es : List Entry) (next : ℕ) → AreSame u v → IsFormatted u → 0 < u.size → IsLevelBlock k u l n → IsTakenBlock u m l v → HasNewEntries k v m es next x
    → IsLevelBlock k x l n × (block_at x n ≡ block_at u n)
lower-stays {u} {v} {x} k l n m es next same f some is t high =
    let stays = taken-stays m same f some t k l n is in
    let apart : n ≢ m = λ e. taken-fresh m same f some t (let K : ℕ → Type 0 = λ i. IsKind u 2 i in subst K e is.is) in
    let own = edit-other m n high.edit stays.0.is.there apart in
    (same-level-block k l v x n high.edit.size ((edit-step high.edit).stay n stays.0.is) own stays.0, own ∙ stays.1)

-- a block taken, which then gets an entry, bears it
pub added-bears : {u v x : VolumeState} (l m : ℕ) (key : List ℕ) (address : ℕ) → IsTakenBlock u m l v → IsEntryAdded v m 0 key address x
    → Bears (length key) x l m (record { key = key; address = address } ∷ []) 0
added-bears {u} {v} {x} l m key address t add =
    let k : ℕ = length key in
    let e : Entry = record { key = key; address = address } in
    let empty = taken-bears k l m t in
    let B : ℕ → Type 0 = λ i. IsLevelBlock k x i m in
    record {
      is = subst B t.level_is add.bears.is;
      entries = add.bears.entries ∙ ap (λ (es : List Entry). with_entry_at 0 e es) empty.entries;
      next_is = add.bears.next_is ∙ empty.next_is;
    }

-- and then a block behind it
pub begun : {u v x w : VolumeState} (l m : ℕ) (key : List ℕ) (address next : ℕ) → AreSame u v → IsFormatted u → 0 < u.size → IsTakenBlock u m l v
    → IsEntryAdded v m 0 key address x → IsNextChanged (length key) x m next w → IsBegun u l m key address next w
begun {u} {v} {x} {w} l m key address next same f some t add link =
    let k : ℕ = length key in
    let es : List Entry = record { key = key; address = address } ∷ [] in
    let one = taken-step m same f some t m in
    let two = step-join m m 1 m f some one add.edit (inl refl) in
    let own = added-bears l m key address t add in
    let E : List Entry → Type 0 = λ fs. Bears k w (level_of (block_at x m)) m fs next in
    let L : ℕ → Type 0 = λ i. Bears k w i m es next in
    record { fresh = taken-fresh m same f some t; step = step-join m m 1 m f some two link.edit (inl refl); bears = subst L own.is.level (subst E own.entries link.bears) }
