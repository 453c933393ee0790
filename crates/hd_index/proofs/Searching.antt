-- A search down an index set.
use Rattle.std.proofs.Common.{◌<◌, ◌≡◌, ◌≢◌, inl, inr, ℕ, ◌≤◌, Bool, true, false, cond, List, [], ◌∷◌, ◌++◌, length, Some, None, slice_index, subst, ap, refl, sym, ◌∙◌, arith, ne_eqb}
use Rattle.std.specs.Prelude.{◌==◌}
use Rattle.std.proofs.lemmas.Bool.{cases_eq, eq-eqb}
use Rattle.hd_bytes.specs.Numbers.{number_at}
use Rattle.hd_volume.specs.Headers.{Header, header_of}
use Rattle.hd_volume.specs.Volumes.{VolumeState, block_at, kind_of}
use Rattle.hd_volume.specs.Entries.{Entry, entries_in}
use Rattle.hd_volume.specs.Indexes.{entry_room, key_less, keys_ascend}
use Rattle.hd_index_blocks.specs.Maps.{address_of, address_from}
use Rattle.hd_index_blocks.specs.Levels.{entries_below}
use Rattle.hd_index_blocks.specs.Ways.{leaf_of}
use Rattle.hd_index_blocks.specs.IndexSets.{next_in, index_blocks, top_blocks, top_level, index_entries, HasIndexSet}
use Rattle.hd_index_blocks.specs.VolumeLaws.{IsRightBlock}
use Rattle.hd_index_blocks.proofs.Levels.{entries-none}
use Rattle.hd_index_blocks.proofs.Volumes.{entries-below, level-of, level-kind, index-blocks-right}
use Rattle.hd_index_blocks.proofs.LeafAnswers.{leaves-answer-all}
use Rattle.hd_index_blocks.specs.Needs.{entry_growth, set_blocks_needed}
use Rattle.hd_index_blocks.proofs.Faultless.{sets-faultless}
use Rattle.hd_index_blocks.proofs.StayingSets.{index-sets-stay}
use Rattle.hd_volume.proofs.JoinLemmas.{AreOne, one-formatted, one-kind}
use Rattle.hd_index.specs.declared.look.Sight.{Sight}
use Rattle.hd_index.specs.Blocks.{IsInOrder, leaf_at}
use Rattle.hd_index.specs.Searches.{IsSightOf}

-- a right block is in order
pub right-order : (k : ℕ) (v : VolumeState) (l n : ℕ) → IsRightBlock k v l n → IsInOrder k v n
right-order k v l n h = record { is = h.is; count = h.count; ascend = h.ascend }

-- two states with one image have the same blocks in order
pub order-same : (k : ℕ) (v w : VolumeState) (n : ℕ) → w.size ≡ v.size → w.image ≡ v.image → IsInOrder k v n → IsInOrder k w n
order-same k v w n size image h =
    let same : block_at w n ≡ block_at v n = rw (size, image) refl in
    record {
      is = record { there = (let t = h.is.there in let l : length w.image ≡ length v.image = ap length image in rw size (omega arith)); later = h.is.later; kind_is = ap kind_of same ∙ h.is.kind_is };
      count =
          let P : List ℕ → Type 0 = λ b. number_at 2 b 4 ≤ entry_room k w.size in
          let Q : ℕ → Type 0 = λ z. number_at 2 (block_at v n) 4 ≤ entry_room k z in
          subst P (sym same) (subst Q (sym size) h.count);
      ascend = ap (λ (b : List ℕ). keys_ascend (entries_in k b)) same ∙ h.ascend;
    }

-- ---- the whole index by what its blocks say

-- where there is no top there is no entry
pub no-entries : (k : ℕ) (v : VolumeState) → HasIndexSet k v → (header_of v.image).top ≡ 0 → index_entries k v ≡ []
no-entries k v x none =
    let top : top_blocks v ≡ [] = rw (eq-eqb (header_of v.image).top 0 none) refl in
    (entries-below k v).1 x.version ∙ ap (entries_below (index_blocks k v) (top_level v)) top ∙ entries-none (index_blocks k v) (top_level v)

-- behind entries with none that is not below a key it is sought in those that follow
from-on : (key : List ℕ) (xs ys : List Entry) → address_from key xs ≡ None → address_from key (xs ++ ys) ≡ address_from key ys
from-on key [] ys none = refl
from-on key (e ∷ xs) ys none = by-test (key_less e.key key) none (from-on key xs ys)
  where
    by-test : (b : Bool) → cond b (address_from key xs) (Some e.address) ≡ None → (address_from key xs ≡ None → address_from key (xs ++ ys) ≡ address_from key ys)
        → cond b (address_from key (xs ++ ys)) (Some e.address) ≡ address_from key ys
    by-test true none rest = rest none
    by-test false none rest = absurd (cc)

-- and where there is one, it is the one
from-first : (key : List ℕ) (xs ys : List Entry) → address_from key xs ≢ None → address_from key (xs ++ ys) ≡ address_from key xs
from-first key [] ys some = absurd (some refl)
from-first key (e ∷ xs) ys some = by-test (key_less e.key key) some (from-first key xs ys)
  where
    by-test : (b : Bool) → cond b (address_from key xs) (Some e.address) ≢ None → (address_from key xs ≢ None → address_from key (xs ++ ys) ≡ address_from key xs)
        → cond b (address_from key (xs ++ ys)) (Some e.address) ≡ cond b (address_from key xs) (Some e.address)
    by-test true some rest = rest some
    by-test false some rest = refl

-- what is seen where there is no block
pub none-seen : (k : ℕ) (v : VolumeState) (key : List ℕ) (sight : Sight) → HasIndexSet k v → leaf_at k v key ≡ 0 → sight.equal ≡ None → sight.from ≡ None → sight.next ≡ 0 → IsSightOf k v key sight
none-seen k v key sight x zero_leaf equal from next =
    let none = no-entries k v x (no-top zero_leaf) in
    record {
      equal = equal ∙ sym (ap (address_of key) none);
      some = λ some. absurd (some from);
      last = λ e z. ap (address_from key) none;
      on = λ e some. absurd (some next);
    }
  where
    no-top : leaf_at k v key ≡ 0 → (header_of v.image).top ≡ 0
    no-top z = elim (cases_eq (header_of v.image).top 0) [
      | inl none ↦ none
      | inr some ↦
          let at : leaf_at k v key ≡ leaf_of (index_blocks k v) key (top_level v) (header_of v.image).top = rw (ne_eqb (header_of v.image).top 0 some) refl in
          let r = leaves-answer-all k v key (leaf_at k v key) x (omega arith) at in
          let later = r.0.is.later in
          absurd (omega arith)
    ]

-- what is seen in the leaf
pub leaf-seen : (k : ℕ) (v : VolumeState) (key : List ℕ) (n : ℕ) (sight : Sight) → HasIndexSet k v → n ≡ leaf_at k v key → n ≢ 0
    → (IsInOrder k v n → sight.equal ≡ address_of key (entries_in k (block_at v n))) → (IsInOrder k v n → sight.from ≡ address_from key (entries_in k (block_at v n)))
    → (IsInOrder k v n → sight.next ≡ number_at 4 (block_at v n) 8) → IsSightOf k v key sight
leaf-seen k v key n sight x is other equal from next =
    let some : (header_of v.image).top ≢ 0 = λ z. other (is ∙ (let e : leaf_at k v key ≡ 0 = rw (eq-eqb (header_of v.image).top 0 z) refl in e)) in
    let at : n ≡ leaf_of (index_blocks k v) key (top_level v) (header_of v.image).top = is ∙ (let e : leaf_at k v key ≡ leaf_of (index_blocks k v) key (top_level v) (header_of v.image).top = rw (ne_eqb (header_of v.image).top 0 some) refl in e) in
    let r = leaves-answer-all k v key n x (omega arith) at in
    let order = right-order k v 0 n r.0 in
    let es : List Entry = entries_in k (block_at v n) in
    let m : ℕ = next_in v n in
    let behind : List Entry = cond (m == 0) [] (entries_in k (block_at v m)) in
    record {
      equal = equal order ∙ sym r.1;
      some = λ there. from order ∙ sym (from-first key es behind (λ e. there (from order ∙ e))) ∙ sym r.2;
      last = λ none z.
          r.2 ∙ from-on key es behind (sym (from order) ∙ none)
          ∙ ap (address_from key) (let e : behind ≡ [] = rw (eq-eqb m 0 (sym (next order) ∙ z)) refl in e);
      on = λ none later. (
        (let O : ℕ → Type 0 = λ i. IsInOrder k v i in subst O (sym (next order)) (next-order (λ z. later (next order ∙ z)) r.0)),
        r.2 ∙ from-on key es behind (sym (from order) ∙ none)
            ∙ ap (address_from key) (let e : behind ≡ entries_in k (block_at v m) = rw (ne_eqb m 0 (λ z. later (next order ∙ z))) refl in e)
            ∙ ap (λ (i : ℕ). address_from key (entries_in k (block_at v i))) (sym (next order)),
      );
    }
  where
    next-order : next_in v n ≢ 0 → IsRightBlock k v 0 n → IsInOrder k v (next_in v n)
    next-order later right =
        let forms = ((sets-faultless k v).0 x).forms in
        let form = forms.blocks n 0 (level-of v n right.is ∙ ap (λ (i : ℕ). Some i) right.level) in
        elim form.next [
          | inl z ↦ absurd (later z)
          | inr there ↦
              (let s = level-kind v (next_in v n) 0 there in
              right-order k v (slice_index (block_at v (next_in v n)) 3) (next_in v n) (index-blocks-right k v (next_in v n) x s.0).1)
        ]

-- ---- one image

-- a header that is another, but perhaps in its count and roots
root-header : (a b : Header) → b ≡ a → b ≡ record a { count = b.count; first_root = b.first_root; last_root = b.last_root }
root-header a b e =
    let c : b.count ≡ a.count = ap (λ (h : Header). h.count) e in
    let f : b.first_root ≡ a.first_root = ap (λ (h : Header). h.first_root) e in
    let l : b.last_root ≡ a.last_root = ap (λ (h : Header). h.last_root) e in
    e ∙ (let x : a ≡ record a { count = b.count; first_root = b.first_root; last_root = b.last_root } = rw (c, f, l) refl in x)

-- one image the other way round
pub one-turned : {v w : VolumeState} → AreOne v w → AreOne w v
one-turned one = record { same = record { size = sym one.same.size; sizes = sym one.same.sizes }; image = sym one.image }

-- two states with one image have the same index set, which needs as much room
pub set-same : (k : ℕ) (v w : VolumeState) → AreOne v w → HasIndexSet k v
    → HasIndexSet k w × (index_entries k w ≡ index_entries k v) × (entry_growth w ≡ entry_growth v) × ((key : List ℕ) → set_blocks_needed k w key ≡ set_blocks_needed k v key)
set-same k v w one x =
    index-sets-stay k v w x (one-formatted one x.formatted) one.same.size (root-header (header_of v.image) (header_of w.image) (ap header_of one.image))
    (λ n kind. rw (one.same.size, one.image) refl) (λ n kind. one-kind (one-turned one) 2 n kind)

-- and of them the same is seen
pub sight-same : (k : ℕ) (v w : VolumeState) (key : List ℕ) (sight : Sight) → AreOne v w → HasIndexSet k v → IsSightOf k v key sight → IsSightOf k w key sight
sight-same k v w key sight one x s =
    let es = (set-same k v w one x).1 in
    record {
      equal = s.equal ∙ ap (address_of key) (sym es);
      some = λ there. s.some there ∙ ap (address_from key) (sym es);
      last = λ none z. ap (address_from key) es ∙ s.last none z;
      on = λ none later. (
        order-same k v w sight.next one.same.size one.image (s.on none later).0,
        ap (address_from key) es ∙ (s.on none later).1 ∙ (let e : address_from key (entries_in k (block_at v sight.next)) ≡ address_from key (entries_in k (block_at w sight.next)) = rw (one.same.size, one.image) refl in e),
      );
    }

pub right-same : (k : ℕ) (v w : VolumeState) (l n : ℕ) → AreOne v w → IsRightBlock k v l n → IsRightBlock k w l n
right-same k v w l n one h =
    let order = order-same k v w n one.same.size one.image (right-order k v l n h) in
    let same : block_at w n ≡ block_at v n = rw (one.same.size, one.image) refl in
    record {
      is = order.is;
      level = ap (λ (b : List ℕ). slice_index b 3) same ∙ h.level;
      some = (let P : List ℕ → Type 0 = λ b. 0 < number_at 2 b 4 in subst P (sym same) h.some);
      count = order.count;
      ascend = order.ascend;
    }
