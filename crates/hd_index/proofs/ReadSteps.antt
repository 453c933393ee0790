-- A change behind a read is one of what was read.
use Rattle.std.proofs.Common.{◌≡◌, inl, inr, ℕ, suc, ◌-◌, IsTrue, List, ◌∷◌, ◌++◌, take, drop, Result, Ok, Err, IfErr, sym, ap, ◌∙◌, subst, arith}
use Rattle.hd_dbd.specs.declared.answer.Refused.{Refused}
use Rattle.hd_dbd.specs.declared.answer.Refused.TheVariants.{Device}
use Rattle.hd_volume.specs.Headers.{header_of}
use Rattle.hd_volume.specs.Volumes.{VolumeState}
use Rattle.hd_volume.specs.Entries.{Entry, entries_in}
use Rattle.hd_bytes.specs.Numbers.{number_at}
use Rattle.hd_volume.specs.Calls.{IsCall, IsRead}
use Rattle.hd_volume.proofs.CallSteps.{sound-back}
use Rattle.hd_volume.proofs.JoinLemmas.{AreOne, one-kind, one-segments, one-spare, one-holes, read-one}
use Rattle.hd_volume.specs.Indexes.{entry_room}
use Rattle.hd_index_blocks.specs.Ways.{leaf_of}
use Rattle.hd_index_blocks.specs.Needs.{is_full, full_blocks}
use Rattle.hd_index_blocks.specs.IndexSets.{index_blocks, index_entries, HasIndexSet}
use Rattle.hd_index.specs.BlockChanges.{IsIndexChange}
use Rattle.hd_index.specs.Edits.{IsRefused}
use Rattle.hd_index.proofs.EditLemmas.{one-turned, one-there, one-block-at}
use Rattle.hd_index.specs.Changes.{IsChanged}
use Rattle.hd_index.specs.EditedBlocks.{Bears}
use Rattle.hd_index.specs.declared.divisions.Lead.{Lead}
use Rattle.hd_index.specs.declared.divisions.Cut.{Cut}
use Rattle.hd_index.specs.Divisions.{IsDividedUnder, IsTopBegun, IsLowestRoom, IsRoomMade}
use Rattle.hd_index.proofs.Searching.{set-same, right-same}
use Rattle.hd_index.proofs.Filling.{needed-same}

-- ---- what was done

pub change-before : (u v w : VolumeState) (more : ℕ) → AreOne u v → IsIndexChange v more w → IsIndexChange u more w
change-before u v w more o h =
    let count : (header_of v.image).count ≡ (header_of u.image).count = ap (λ (i : List ℕ). (header_of i).count) o.image in
    let H : List ℕ → Type 0 = λ i. header_of w.image ≡ record (header_of i) { count = (header_of w.image).count; top = (header_of w.image).top; height = (header_of w.image).height } in
    record {
      segments = λ b. h.segments b ∙ one-segments o b;
      data_blocks = λ n kind. h.data_blocks n (one-kind o 1 n kind) ∙ one-block-at o n;
      others = λ n kind. one-kind (one-turned o) 1 n (h.others n kind);
      kinds = λ all. h.kinds (λ n there later. elim (all n (one-there (one-turned o) n there) later) [
        | inl a ↦ inl (one-kind o 1 n a)
        | inr (inl a) ↦ inr (inl (one-kind o 2 n a))
        | inr (inr a) ↦ inr (inr (one-kind o 3 n a))
      ]);
      count = (let c = h.count in omega arith);
      grows = (let g = h.grows in omega arith);
      header = subst H o.image h.header;
      holes = λ n hole. h.holes n (one-holes o n hole);
    }

-- a change of the index behind a read
pub changed-before : (k : ℕ) (u v w : VolumeState) (es : List Entry) (more : ℕ) → AreOne u v → IsChanged k v es more w → IsChanged k u es more w
changed-before k u v w es more o h = record {
  size = h.size ∙ o.same.size;
  index = h.index;
  entries = h.entries;
  change = change-before u v w more o h.change;
  spares = (let s = h.spares in let e = one-spare o in omega arith);
}

-- a top begun behind a read
pub begun-before : (u v w : VolumeState) (l : ℕ) (key : List ℕ) (address : ℕ) → AreOne u v → IsTopBegun v l key address w → IsTopBegun u l key address w
begun-before u v w l key address o h =
    let H : List ℕ → Type 0 = λ i. header_of w.image ≡ record (header_of i) { count = (header_of w.image).count; top = h.block; height = suc l } in
    record {
      block = h.block;
      fresh = λ kind. h.fresh (one-kind o 2 h.block kind);
      size = h.size ∙ o.same.size;
      formatted = h.formatted;
      others = λ b kind. h.others b (one-kind o 2 b kind) ∙ one-block-at o b;
      stay = λ b kind. h.stay b (one-kind o 2 b kind);
      back = λ b kind. elim (h.back b kind) [ inl old ↦ inl (one-kind (one-turned o) 2 b old) | inr e ↦ inr e ];
      bears = h.bears;
      change = change-before u v w 1 o h.change;
      header = subst H o.image h.header;
      spares = (let s = h.spares in let e = one-spare o in omega arith);
    }

-- a division behind a read
pub divided-before : (k : ℕ) (u v w : VolumeState) (l p : ℕ) (lead : Lead) (cut : Cut) → AreOne u v → IsDividedUnder k v l p lead cut w → IsDividedUnder k u l p lead cut w
divided-before k u v w l p lead cut o h =
    let H : List ℕ → Type 0 = λ i. header_of w.image ≡ record (header_of i) { count = (header_of w.image).count } in
    let same-n = one-block-at o lead.child in
    let same-p = one-block-at o p in
    let L : List ℕ → Type 0 = λ t. Bears k w l lead.child (take cut.half (entries_in k t)) h.block in
    let G : List ℕ → Type 0 = λ t. Bears k w l h.block (drop cut.half (entries_in k t)) cut.next in
    let U : List ℕ → Type 0 =
    λ t.
    Bears k w (suc l) p
    (take lead.index (entries_in k t) ++ (record { key = take k cut.key; address = lead.child } ∷ record { key = take k lead.key; address = h.block } ∷ drop (suc lead.index) (entries_in k t)))
    (number_at 4 t 8) in
    record {
      block = h.block;
      fresh = λ kind. h.fresh (one-kind o 2 h.block kind);
      size = h.size ∙ o.same.size;
      formatted = h.formatted;
      others = λ b kind q1 q2. h.others b (one-kind o 2 b kind) q1 q2 ∙ one-block-at o b;
      stay = λ b kind. h.stay b (one-kind o 2 b kind);
      back = λ b kind. elim (h.back b kind) [ inl old ↦ inl (one-kind (one-turned o) 2 b old) | inr e ↦ inr e ];
      low = subst L same-n h.low;
      high = subst G same-n h.high;
      upper = subst U same-p h.upper;
      change = change-before u v w 1 o h.change;
      header = subst H o.image h.header;
      spares = (let s = h.spares in let e = one-spare o in omega arith);
    }

-- room made behind a read
pub room-before : (k : ℕ) (u v w : VolumeState) (by : List ℕ) → AreOne u v → HasIndexSet k u → IsRoomMade k v by w → IsRoomMade k u by w
room-before k u v w by o x h =
    let same = (set-same k u v o x).1 in
    let C : List Entry → Type 0 = λ es. IsChanged k u es 1 w in
    record {
      changed = subst C same (changed-before k u v w (index_entries k v) 1 o h.changed);
      some = h.some;
      less = h.less ∙ needed-same k u v by o;
    }

-- the lowest block that has room still is it
pub lowest-after : (k : ℕ) (u v : VolumeState) (by : List ℕ) (l p : ℕ) → AreOne u v → IsLowestRoom k u by l p → IsLowestRoom k v by l p
lowest-after k u v by l p o r =
    record {
      steps = r.steps;
      level = ap (λ (i : List ℕ). (header_of i).height - 1) o.image ∙ r.level;
      at = r.at ∙ sym (λ i. leaf_of (index_blocks k (record v { size = o.same.size i; image = o.image i })) by r.steps (header_of (o.image i)).top);
      right = right-same k u v (suc l) p o r.right;
      full = (λ i. full_blocks (index_blocks k (record v { size = o.same.size i; image = o.image i })) (entry_room k (o.same.size i)) by (suc l) p) ∙ r.full;
      free = (λ i. is_full (index_blocks k (record v { size = o.same.size i; image = o.image i })) (entry_room k (o.same.size i)) p) ∙ r.free;
    }

-- ---- what was refused

-- where a read was refused nothing has changed
pub read-refused : {A : Type 0} {u v : VolumeState} {e : Refused} → IsRead {T = A} u (Err e) v → e ≡ Device → IsRefused u e v
read-refused {e = e} r device = record {
  kept = r.image;
  full = λ x s. (let y = sym device ∙ x in absurd (cc));
  memory = λ x. (let y = sym device ∙ x in absurd (cc));
  no_free = λ x s f. (let y = sym device ∙ x in absurd (cc));
  refusal = inr (inr device);
}

-- what was refused behind a read was refused of what was read
pub refused-before : {A B : Type 0} {u v w : VolumeState} {x : A} (r : Result B Refused) → IsRead {T = A} u (Ok x) v → IsCall {T = B} v r w → IfErr r (λ e. IsRefused v e w) → IfErr r (λ e. IsRefused u e w)
refused-before (Ok y) read call h = tt
refused-before {B = B} {u = u} {v = v} {w = w} (Err e) read call h =
    let one : IsTrue u.is_sound → AreOne u v = λ s. (let now : IsTrue v.is_sound = rw read.call.sound s in read-one read now) in
    record {
      kept = λ s. h.kept s ∙ read.image (sound-back {A = B} (Err e) v.is_sound w.is_sound call.sound s);
      full = λ x s. (let now : IsTrue v.is_sound = rw read.call.sound s in sym (one-spare (one s)) ∙ h.full x now);
      memory = λ x. sym read.room ∙ h.memory x;
      no_free = λ x s free. (let now : IsTrue v.is_sound = rw read.call.sound s in h.no_free x now (free.0, one-kind (one s) 3 free.0 free.1));
      refusal = h.refusal;
    }
