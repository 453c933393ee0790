-- How the changes of an insert follow one another.
use Rattle.std.proofs.Common.{◌≡◌, ◌⊎◌, inl, inr, ℕ, suc, ◌+◌, ◌<◌, ◌≤◌, List, IsTrue, Result, Ok, Err, refl, ap, ◌∙◌, subst, arith, ne_eqb}
use Rattle.std.specs.Prelude.{OnOk, IfErr}
use Rattle.std.proofs.lemmas.Bool.{eq-eqb}
use Rattle.hd_dbd.specs.declared.answer.Refused.{Refused}
use Rattle.hd_dbd.specs.declared.answer.Refused.TheVariants.{Memory, Full, Device}
use Rattle.hd_volume.specs.Headers.{Header, header_of}
use Rattle.hd_volume.specs.Volumes.{VolumeState, IsFormatted}
use Rattle.hd_volume.specs.Rooms.{spare, free_blocks, HasFreeBlock}
use Rattle.hd_volume.specs.Entries.{Entry}
use Rattle.hd_volume.proofs.JoinLemmas.{AreOne, one-kind, one-segments, one-spare, one-holes}
use Rattle.hd_volume.proofs.KindLemmas.{none-free}
use Rattle.hd_index_blocks.specs.Maps.{greatest_below, with_entry}
use Rattle.hd_index_blocks.specs.IndexSets.{index_entries, HasIndexSet}
use Rattle.hd_index_blocks.specs.Needs.{entry_growth, needed_by, set_blocks_needed, IsHighest}
use Rattle.hd_index_blocks.proofs.Needs.{few-needed}
use Rattle.hd_index.specs.Edits.{IsRefused}
use Rattle.hd_index.proofs.EditLemmas.{one-block-at, one-there}
use Rattle.hd_index.proofs.StepLemmas.{there-below, count-header, three-header, change-join}
use Rattle.hd_index.specs.Changes.{IsIndexChange, IsChanged}
use Rattle.hd_index.specs.Rooms.{IsReady, IsRefusedFor}
use Rattle.hd_index.proofs.Filling.{needed-same}
use Rattle.hd_index.proofs.Searching.{set-same, one-turned}

-- ---- one change behind another

-- a read changes nothing of the index
pub change-none : (u v : VolumeState) → AreOne u v → IsIndexChange u 0 v
change-none u v o =
    let head : header_of v.image ≡ header_of u.image = ap header_of o.image in
    let count : (header_of v.image).count ≡ (header_of u.image).count = ap (λ (h : Header). h.count) head in
    record {
      segments = one-segments o;
      data_blocks = λ n kind. one-block-at o n;
      others = λ n kind. one-kind (one-turned o) 1 n kind;
      kinds = λ h n there later.
          let old = one-there (one-turned o) n there in
          elim (h n old later) [ inl a ↦ inl (one-kind o 1 n a) | inr (inl a) ↦ inr (inl (one-kind o 2 n a)) | inr (inr a) ↦ inr (inr (one-kind o 3 n a)) ];
      count = omega arith;
      grows = omega arith;
      header = three-header (header_of u.image) (header_of v.image) (count-header (header_of u.image) (header_of v.image) head);
      holes = one-holes o;
    }

pub unchanged : (k : ℕ) (u v : VolumeState) → HasIndexSet k u → AreOne u v → IsChanged k u (index_entries k u) 0 v
unchanged k u v x o =
    let s = set-same k u v o x in
    let spares = one-spare o in
    record { size = o.same.size; index = s.0; entries = s.1; change = change-none u v o; spares = omega arith }

-- two changes are one
pub changed-join : (k : ℕ) (u v w : VolumeState) (es fs : List Entry) (a b more : ℕ) → HasIndexSet k u → 0 < u.size → a + b ≡ more → IsChanged k u es a v → IsChanged k v fs b w → IsChanged k u fs more w
changed-join k u v w es fs a b more x some e one two =
    let C : ℕ → Type 0 = λ i. IsIndexChange u i w in
    let p = one.spares in
    let q = two.spares in
    record {
      size = two.size ∙ one.size;
      index = two.index;
      entries = two.entries;
      change = subst C e (change-join a b x.formatted one.index.formatted some one.size one.change two.change);
      spares = omega arith;
    }

-- one more change that takes a block, of an index with the same entries
pub changed-on : (k : ℕ) (u v w : VolumeState) (es : List Entry) (a : ℕ) → HasIndexSet k u → 0 < u.size → IsChanged k u es a v → IsChanged k v (index_entries k v) 1 w
    → IsChanged k u es (a + 1) w
changed-on k u v w es a x some one two =
    let C : List Entry → Type 0 = λ fs. IsChanged k u fs (a + 1) w in
    subst C one.entries (changed-join k u v w es (index_entries k v) a 1 (a + 1) x some refl one two)

-- ---- blocks that are taken one after another

-- where so many blocks may be taken, one fewer may be once one was
pub ready-step : (k : ℕ) (u w : VolumeState) (es : List Entry) (needed : ℕ) → IsReady (suc needed) u → IsChanged k u es 1 w → u.room ≤ w.room + 1 → IsReady needed w
ready-step k u w es needed ready c room =
    let p = c.spares in
    let count = c.change.count in
    let largest : (header_of w.image).largest ≡ (header_of u.image).largest = ap (λ (h : Header). h.largest) c.change.header in
    let s = ready.spares in
    record {
      spares = omega arith;
      taken = elim ready.taken [ inl r ↦ inl (omega arith) | inr f ↦ inr (omega arith) ];
    }

-- as many may be taken where none was
pub ready-on : (k : ℕ) (u w : VolumeState) (es : List Entry) (needed : ℕ) → IsReady needed u → IsChanged k u es 0 w → w.room ≡ u.room → IsReady needed w
ready-on k u w es needed ready c room =
    let p = c.spares in
    let count = c.change.count in
    let largest : (header_of w.image).largest ≡ (header_of u.image).largest = ap (λ (h : Header). h.largest) c.change.header in
    let s = ready.spares in
    record {
      spares = omega arith;
      taken = elim ready.taken [ inl r ↦ inl (omega arith) | inr f ↦ inr (omega arith) ];
    }

-- and nothing is refused but an access
pub ready-device : (needed : ℕ) (v w : VolumeState) (e : Refused) → IsFormatted v → IsReady (suc needed) v → IsTrue v.is_sound → IsRefused v e w → e ≡ Device
ready-device needed v w e f ready sound r =
    let s = ready.spares in
    elim r.refusal [
      | inl memory ↦
          elim ready.taken [
            | inl room ↦ (let none = r.memory memory in absurd (omega arith))
            | inr free ↦
                (let none = none-free v.size v.image (header_of v.image).count
                (λ m some low is. r.no_free memory sound (m, record { there = there-below v m f.header low; later = omega arith; kind_is = is })) in
                absurd (omega arith))
          ]
      | inr (inl full) ↦ (let none = r.full full sound in absurd (omega arith))
      | inr (inr device) ↦ device
    ]

-- ---- the parts of an insert

-- a volume with the image of one that has the image of a third
pub one-after : {u v w : VolumeState} → AreOne u v → AreOne v w → AreOne u w
one-after a b = record { same = record { size = b.same.size ∙ a.same.size; sizes = b.same.sizes ∙ a.same.sizes }; image = b.image ∙ a.image }

-- what holds where a call is done, by what held of it
pub on-ok : {A E P Q : Type 0} (r : Result A E) → OnOk r P → (P → Q) → OnOk r Q
on-ok (Ok x) p f = f p
on-ok (Err e) p f = tt

-- and where it is refused
pub if-err : {A E : Type 0} {P Q : E → Type 0} (r : Result A E) → IfErr r P → ((e : E) → P e → Q e) → IfErr r Q
if-err (Ok x) p f = tt
if-err (Err e) p f = f e p

-- the same change, behind a read, where the greatest key below the new one was found
pub found-change : (k : ℕ) (v u z : VolumeState) (key by : List ℕ) (e : Entry) → HasIndexSet k v → 0 < v.size → AreOne v u → by ≡ greatest_below key key (index_entries k v)
    → IsChanged k u (with_entry e (index_entries k u)) (needed_by k u by) z → IsChanged k v (with_entry e (index_entries k v)) (set_blocks_needed k v key) z
found-change k v u z key by e x some o is c =
    let same = set-same k v u o x in
    let needed : needed_by k u by ≡ set_blocks_needed k v key = needed-same k v u by o ∙ ap (needed_by k v) is in
    let C : List Entry → Type 0 = λ es. IsChanged k v (with_entry e es) (set_blocks_needed k v key) z in
    subst C same.1 (changed-join k v u z (index_entries k v) (with_entry e (index_entries k u)) 0 (needed_by k u by) (set_blocks_needed k v key) x some (omega arith) (unchanged k v u x o) c)

-- ---- what was refused

-- where no block is free, no number of blocks is
pub no-free : (v : VolumeState) → IsFormatted v → (HasFreeBlock v → ⊥) → free_blocks v ≡ 0
no-free v f none = none-free v.size v.image (header_of v.image).count (λ m some low is. none (m, record { there = there-below v m f.header low; later = omega arith; kind_is = is }))

-- of an index that has no block one is needed
pub needed-first : (k : ℕ) (v : VolumeState) (by : List ℕ) → (header_of v.image).top ≡ 0 → needed_by k v by ≡ 1
needed-first k v by none = rw (eq-eqb (header_of v.image).top 0 none) refl

pub first-refused : (k : ℕ) (v w : VolumeState) (key : List ℕ) (e : Refused) → IsFormatted v → IsTrue v.is_sound → (header_of v.image).top ≡ 0 → IsRefused v e w → IsRefusedFor (set_blocks_needed k v key) v e
first-refused k v w key e f sound none r =
    let one : set_blocks_needed k v key ≡ 1 = needed-first k v (greatest_below key key (index_entries k v)) none in
    record {
      full = λ is. inl (let z = r.full is sound in omega arith);
      memory = λ is. (let z = r.memory is in let free = no-free v f (r.no_free is sound) in (omega arith, omega arith));
    }

pub found-refused : (k : ℕ) (v u : VolumeState) (key by : List ℕ) (e : Refused) → AreOne v u → u.room ≡ v.room → by ≡ greatest_below key key (index_entries k v)
    → IsRefusedFor (needed_by k u by) u e → IsRefusedFor (set_blocks_needed k v key) v e
found-refused k v u key by e o room is r =
    let needed : needed_by k u by ≡ set_blocks_needed k v key = needed-same k v u by o ∙ ap (needed_by k v) is in
    let spares : spare u ≡ spare v = one-spare o in
    let free : free_blocks u ≡ free_blocks v = rw (o.same.size, o.image) refl in
    record {
      full = λ full. elim (r.full full) [ inl few ↦ inl (omega arith) | inr many ↦ inr (omega arith) ];
      memory = λ memory. (let m = r.memory memory in let a = m.0 in let b = m.1 in (omega arith, omega arith));
    }

-- an entry needs no more blocks than there are levels, and a new top
pub growth-is : (k : ℕ) (v : VolumeState) → HasIndexSet k v → entry_growth v ≡ (header_of v.image).height + 1
unfolding entry_growth
growth-is k v x =
    rw (ne_eqb (header_of v.image).version 1 x.version) refl

-- only where the height is 64 more than 64 blocks are needed
pub highest : (k : ℕ) (v : VolumeState) (key : List ℕ) → HasIndexSet k v → 64 < set_blocks_needed k v key → (header_of v.image).height ≡ 64
highest k v key x many =
    let most = few-needed k v key x in
    let is = growth-is k v x in
    elim x.height [ inl none ↦ (let z = none.1 in absurd (omega arith)) | inr some ↦ (let high = some.2 in omega arith) ]

pub insert-full : (k : ℕ) (v : VolumeState) (key : List ℕ) (e : Refused) → HasIndexSet k v → IsRefusedFor (set_blocks_needed k v key) v e → e ≡ Full
    → (spare v < set_blocks_needed k v key) ⊎ IsHighest v
insert-full k v key e x r is = elim (r.full is) [ inl few ↦ inl few | inr many ↦ inr (x.version, highest k v key x many) ]

pub insert-memory : (k : ℕ) (v : VolumeState) (key : List ℕ) (e : Refused) → HasIndexSet k v → IsRefusedFor (set_blocks_needed k v key) v e → e ≡ Memory
    → (v.room < entry_growth v) × (free_blocks v < entry_growth v)
insert-memory k v key e x r is =
    let most = few-needed k v key x in
    let m = r.memory is in
    let a = m.0 in
    let b = m.1 in
    (omega arith, omega arith)
