-- Changes of one index block, one after another.
use Rattle.std.proofs.Common.{◌≡◌, ◌≢◌, inl, inr, ℕ, ◌+◌, ◌*◌, ◌≤◌, List, [], ◌++◌, length, take, drop, refl, sym, ap, ◌∙◌, arith, subst}
use Rattle.std.proofs.lemmas.List.{take-append-drop, append_assoc, drop-drop, take_at, drop_at, take-append-le, length-append, length-take-le, take-take}
use Rattle.std.proofs.Math.Seq.{take-add}
use Rattle.hd_bytes.specs.Ranges.{bytes_at, with_bytes}
use Rattle.hd_bytes.specs.Blocks.{block_of, HasBlock}
use Rattle.std.proofs.lemmas.Bool.{cases_eq}
use Rattle.hd_bytes.proofs.BlockLemmas.{length-bytes_at, agree-bytes_at, length-block}
use Rattle.hd_bytes.proofs.NumberLemmas.{changes-with}
use Rattle.hd_volume.specs.Images.{ChangesBlock}
use Rattle.hd_volume.specs.Headers.{header_of}
use Rattle.hd_volume.specs.Volumes.{VolumeState, block_at, IsKind, IsFormatted}
use Rattle.hd_volume.proofs.JoinLemmas.{AreOne, one-kind, one-segments, one-spare, one-holes}
use Rattle.hd_index.specs.Edits.{IsEdit, HasNewBytes}

-- ---- bytes put at a place

-- no bytes put at a place
pub with-none : (b : List ℕ) (p : ℕ) → with_bytes b p [] ≡ b
with-none b p = ap (λ (i : ℕ). take p b ++ drop i b) (let e : p + 0 ≡ p = omega arith in e) ∙ take-append-drop p b

-- bytes put at a place, and more behind them
pub with-behind-bytes : (b xs ys : List ℕ) (p q : ℕ) → q ≡ p + length xs → q + length ys ≤ length b → with_bytes (with_bytes b p xs) q ys ≡ with_bytes b p (xs ++ ys)
with-behind-bytes b xs ys p q at h =
    let a : List ℕ = take p b in
    let r : List ℕ = drop (p + length xs) b in
    let la : length a ≡ p = length-take-le p b (omega arith) in
    let both : length (a ++ xs) ≡ q = length-append a xs ∙ (let e : length a + length xs ≡ q = omega arith in e) in
    let regroup : a ++ (xs ++ r) ≡ (a ++ xs) ++ r = sym (append_assoc a xs r) in
    let front : take q (a ++ (xs ++ r)) ≡ a ++ xs = ap (take q) regroup ∙ take_at (a ++ xs) r q both in
    let back : drop (q + length ys) (a ++ (xs ++ r)) ≡ drop (p + length (xs ++ ys)) b =
    sym (drop-drop (length ys) q (a ++ (xs ++ r))) ∙ ap (λ (t : List ℕ). drop (length ys) (drop q t)) regroup ∙ ap (drop (length ys)) (drop_at (a ++ xs) r q both) ∙ drop-drop (length ys) (p + length xs) b
    ∙ ap (λ (i : ℕ). drop i b) (let l = length-append xs ys in let e : p + length xs + length ys ≡ p + length (xs ++ ys) = omega arith in e) in
    let t : List ℕ = drop (p + length (xs ++ ys)) b in
    ap (λ (f : List ℕ). f ++ (ys ++ drop (q + length ys) (a ++ (xs ++ r)))) front ∙ ap (λ (f : List ℕ). (a ++ xs) ++ (ys ++ f)) back
    ∙ append_assoc a xs (ys ++ t) ∙ ap (λ (f : List ℕ). a ++ f) (sym (append_assoc xs ys t))

-- or before them
pub with-before-bytes : (b xs ys : List ℕ) (p q : ℕ) → q ≡ p + length xs → q + length ys ≤ length b → with_bytes (with_bytes b q ys) p xs ≡ with_bytes b p (xs ++ ys)
with-before-bytes b xs ys p q at h =
    let a : List ℕ = take q b in
    let r : List ℕ = drop (q + length ys) b in
    let la : length a ≡ q = length-take-le q b (omega arith) in
    let front : take p (a ++ (ys ++ r)) ≡ take p b = take-append-le p a (ys ++ r) (omega arith) ∙ take-take p q b (omega arith) in
    let back : drop (p + length xs) (a ++ (ys ++ r)) ≡ ys ++ r = drop_at a (ys ++ r) (p + length xs) (omega arith) in
    let end : r ≡ drop (p + length (xs ++ ys)) b = ap (λ (i : ℕ). drop i b) (let l = length-append xs ys in let e : q + length ys ≡ p + length (xs ++ ys) = omega arith in e) in
    let t : List ℕ = drop (p + length (xs ++ ys)) b in
    ap (λ (f : List ℕ). f ++ (xs ++ drop (p + length xs) (a ++ (ys ++ r)))) front ∙ ap (λ (f : List ℕ). take p b ++ (xs ++ f)) back
    ∙ ap (λ (f : List ℕ). take p b ++ (xs ++ (ys ++ f))) end ∙ ap (λ (f : List ℕ). take p b ++ f) (sym (append_assoc xs ys t))

-- bytes that follow one another
pub bytes-join : (b : List ℕ) (p m n : ℕ) → bytes_at b p m ++ bytes_at b (p + m) n ≡ bytes_at b p (m + n)
bytes-join b p m n = ap (λ (t : List ℕ). take m (drop p b) ++ take n t) (sym (drop-drop m p b)) ∙ sym (take-add m n (drop p b))

-- ---- edits

-- no change
pub edit-none : (v : VolumeState) (n : ℕ) → IsFormatted v → IsKind v 2 n → IsEdit v n v
edit-none v n f k = record {
  size = refl;
  sizes = refl;
  formatted = f;
  was = k;
  is = k;
  block = record { len = refl; others = λ m there other. refl };
  segments = λ a. refl;
  header = refl;
  spares = refl;
  holes = λ i h. h;
}

-- two changes of one block are one
pub edit-join : {u v w : VolumeState} (n : ℕ) → IsEdit u n v → IsEdit v n w → IsEdit u n w
edit-join {u} {v} {w} n a b =
    let s = a.size in
    let first : ChangesBlock u.size n u.image v.image = a.block in
    let second : ChangesBlock u.size n v.image w.image = rw s at b.block in
    record {
      size = b.size ∙ a.size;
      sizes = b.sizes ∙ a.sizes;
      formatted = b.formatted;
      was = a.was;
      is = b.is;
      block = record {
        len = second.len ∙ first.len;
        others = λ m there other. second.others m (let l = first.len in let t : m * u.size + u.size ≤ length u.image = there in omega arith) other ∙ first.others m there other;
      };
      segments = λ x. b.segments x ∙ a.segments x;
      header = b.header ∙ a.header;
      spares = b.spares ∙ a.spares;
      holes = λ k h. b.holes k (a.holes k h);
    }

-- ---- behind a call that only read

-- one image, seen from the other side
pub one-turned : {u v : VolumeState} → AreOne u v → AreOne v u
one-turned o = record { same = record { size = sym o.same.size; sizes = sym o.same.sizes }; image = sym o.image }

-- a block that is there is there
pub one-there : {u v : VolumeState} → AreOne u v → (n : ℕ) → HasBlock u.size u.image n → HasBlock v.size v.image n
one-there {u} {v} o n h = (let l : length v.image ≡ length u.image = ap length o.image in let t : n * u.size + u.size ≤ length u.image = h in rw o.same.size (omega arith))

-- the block of one image
pub one-block-at : {u v : VolumeState} → AreOne u v → (n : ℕ) → block_at v n ≡ block_at u n
one-block-at o n = rw (o.same.size, o.image) refl

-- the same edit, of the state before the read
pub edit-before : {u v w : VolumeState} (n : ℕ) → AreOne u v → IsEdit v n w → IsEdit u n w
edit-before {u} {v} {w} n o h =
    let C : List ℕ → Type 0 = λ i. ChangesBlock u.size n i w.image in
    let s = o.same.size in
    let first : ChangesBlock u.size n v.image w.image = rw s at h.block in
    record {
      size = h.size ∙ o.same.size;
      sizes = h.sizes ∙ o.same.sizes;
      formatted = h.formatted;
      was = one-kind (one-turned o) 2 n h.was;
      is = h.is;
      block = subst C o.image first;
      segments = λ x. h.segments x ∙ one-segments o x;
      header = h.header ∙ ap header_of o.image;
      spares = h.spares ∙ one-spare o;
      holes = λ k x. h.holes k (one-holes o k x);
    }

-- ---- moves

-- the block of a state has its size
pub length-at : (v : VolumeState) (n : ℕ) → HasBlock v.size v.image n → length (block_at v n) ≡ v.size
length-at v n h = length-block v.size n v.image h

-- another block stays
pub edit-other : {u v : VolumeState} (n m : ℕ) → IsEdit u n v → HasBlock u.size u.image m → m ≢ n → block_at v m ≡ block_at u m
edit-other {u} {v} n m h there other = ap (λ (z : ℕ). block_of z v.image m) h.size ∙ h.block.others m there other

-- one part more, behind those that were copied
pub copy-step : {u v w : VolumeState} (s t from to done part : ℕ) → IsKind u 2 s → (s ≡ t → to ≤ from) → from + (done + part) ≤ u.size → to + (done + part) ≤ u.size
    → HasNewBytes u t (with_bytes (block_at u t) to (bytes_at (block_at u s) from done)) v
    → HasNewBytes v t (with_bytes (block_at v t) (to + done) (bytes_at (block_at v s) (from + done) part)) w
    → HasNewBytes u t (with_bytes (block_at u t) to (bytes_at (block_at u s) from (done + part))) w
copy-step {u} {v} {w} s t from to done part ks order fits fits-to a b =
    let old : List ℕ = block_at u t in
    let source : List ℕ = block_at u s in
    let x : List ℕ = bytes_at source from done in
    let y : List ℕ = bytes_at source (from + done) part in
    let lt : length old ≡ u.size = length-at u t a.edit.was.there in
    let ls : length source ≡ u.size = length-at u s ks.there in
    let lx : length x ≡ done = length-bytes_at source from done (omega arith) in
    let ly : length y ≡ part = length-bytes_at source (from + done) part (omega arith) in
    let same : bytes_at (block_at v s) (from + done) part ≡ y = elim (cases_eq s t) [
      | inl e ↦
          (let low = order e in
          let own : block_at v s ≡ with_bytes old to x = ap (block_at v) e ∙ a.value in
          let first : source ≡ old = ap (block_at u) e in
          let c = changes-with old x to (omega arith) in
          let lw : length (with_bytes old to x) ≡ length old = c.len in
          ap (λ (l : List ℕ). bytes_at l (from + done) part) own
          ∙ agree-bytes_at (from + done) part (with_bytes old to x) old (omega arith) (omega arith) (λ k l m. c.above k (omega arith))
          ∙ ap (λ (l : List ℕ). bytes_at l (from + done) part) (sym first))
      | inr other ↦ ap (λ (l : List ℕ). bytes_at l (from + done) part) (edit-other t s a.edit ks.there other)
    ] in
    record {
      edit = edit-join t a.edit b.edit;
      value = b.value ∙ ap (λ (l : List ℕ). with_bytes l (to + done) (bytes_at (block_at v s) (from + done) part)) a.value ∙ ap (with_bytes (with_bytes old to x) (to + done)) same
          ∙ with-behind-bytes old x y to (to + done) (omega arith) (omega arith) ∙ ap (with_bytes old to) (bytes-join source from done part);
    }

-- one part more, before those that were moved up
pub move-step : {u v w : VolumeState} (n from to left low part m : ℕ) → low + part ≡ left → from ≤ to → to + (left + m) ≤ u.size
    → HasNewBytes u n (with_bytes (block_at u n) (to + left) (bytes_at (block_at u n) (from + left) m)) v
    → HasNewBytes v n (with_bytes (block_at v n) (to + low) (bytes_at (block_at v n) (from + low) part)) w
    → HasNewBytes u n (with_bytes (block_at u n) (to + low) (bytes_at (block_at u n) (from + low) (part + m))) w
move-step {u} {v} {w} n from to left low part m split order fits a b =
    let old : List ℕ = block_at u n in
    let x : List ℕ = bytes_at old (from + low) part in
    let y : List ℕ = bytes_at old (from + left) m in
    let lo : length old ≡ u.size = length-at u n a.edit.was.there in
    let lx : length x ≡ part = length-bytes_at old (from + low) part (omega arith) in
    let ly : length y ≡ m = length-bytes_at old (from + left) m (omega arith) in
    let c = changes-with old y (to + left) (omega arith) in
    let lw : length (with_bytes old (to + left) y) ≡ length old = c.len in
    let same : bytes_at (block_at v n) (from + low) part ≡ x =
    ap (λ (l : List ℕ). bytes_at l (from + low) part) a.value
    ∙ agree-bytes_at (from + low) part (with_bytes old (to + left) y) old (omega arith) (omega arith) (λ k l h. c.below k (omega arith)) in
    let joined : x ++ y ≡ bytes_at old (from + low) (part + m) =
    ap (λ (i : ℕ). x ++ bytes_at old i m) (let e : from + left ≡ from + low + part = omega arith in e) ∙ bytes-join old (from + low) part m in
    record {
      edit = edit-join n a.edit b.edit;
      value = b.value ∙ ap (λ (l : List ℕ). with_bytes l (to + low) (bytes_at (block_at v n) (from + low) part)) a.value ∙ ap (with_bytes (with_bytes old (to + left) y) (to + low)) same
          ∙ with-before-bytes old x y (to + low) (to + left) (omega arith) (omega arith) ∙ ap (with_bytes old (to + low)) joined;
    }

-- no move
pub move-none : (v : VolumeState) (n p q : ℕ) (b : List ℕ) → IsFormatted v → IsKind v 2 n → HasNewBytes v n (with_bytes (block_at v n) p (bytes_at b q 0)) v
move-none v n p q b f k = record { edit = edit-none v n f k; value = sym (with-none (block_at v n) p) }
