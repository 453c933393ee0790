-- All that is out of order in the rows of an index set.
use Rattle.std.proofs.Common.{◌≡◌, ◌≢◌, inl, inr, ℕ, ◌+◌, ◌*◌, ◌<◌, ◌≤◌, List, [], ◌∷◌, ◌++◌, length, Bool, true, false, Option, Some, None, refl, sym, ap, subst, ◌∙◌, arith}
use Rattle.std.specs.Prelude.{not}
use Rattle.std.proofs.lemmas.Bool.{cases_lt}
use Rattle.std.proofs.lemmas.List.{append_assoc, append-nil}
use Rattle.hd_dbd.specs.Hierarchy.{Database}
use Rattle.hd_volume.specs.Headers.{header_of}
use Rattle.hd_volume.specs.Volumes.{VolumeState}
use Rattle.hd_volume.specs.Indexes.{root_key_length}
use Rattle.hd_index_blocks.specs.IndexSets.{next_in}
use Rattle.hd_index_blocks.specs.Faultless.{AreFormsRight}
use Rattle.hd_index_blocks.specs.LevelFaults.{IsWrongNext, HasEntryOutOfOrder}
use Rattle.hd_image.specs.Standing.{Stands, phase_of}
use Rattle.hd_image.specs.declared.line.Line.{Line}
use Rattle.hd_image.specs.declared.line.Line.TheVariants.{WrongNext, EntryOutOfOrder}
use Rattle.hd_check_blocks.specs.declared.fault.Fault.{Fault}
use Rattle.hd_check_blocks.specs.Listing.{IsListed, AllStand, faults_of}
use Rattle.hd_check_index.specs.declared.rows.Standing.{Standing}
use Rattle.hd_check_index.specs.Rows.{AreRows}
use Rattle.hd_check_index.specs.Standings.{standing_at, follower}
use Rattle.hd_check_index.specs.Listed.{fault_unless, fault_naming, AtAddress, AreOrders, AreOrdersListed, AreFound}
use Rattle.hd_check_index.proofs.LateLines.{of-set}
use Rattle.hd_check_index.proofs.InOrder.{eleventh-lines, listed-front, listed-back, stand-both}
use Rattle.hd_check_index.proofs.Followers.{IsWrongAt, wrong-fault, fault-wrong}
use Rattle.hd_check_index.proofs.RowOrders.{Notes, Joins}
use Rattle.hd_check_index.proofs.RowsUp.{IsWrongFrom, wrong-of, of-wrong}

-- ---- entries out of order

-- what follows stands where that does
orders-weak : (P Q : ℕ → ℕ → Type 0) (fs : List Fault) → ((a o : ℕ) → P a o → Q a o) → AreOrders P fs → AreOrders Q fs
orders-weak P Q [] to h = tt
orders-weak P Q (f ∷ fs) to h = ((h.0.0, to f.address f.other h.0.1), orders-weak P Q fs to h.1)

-- both lists are such
orders-both : (P : ℕ → ℕ → Type 0) (fs gs : List Fault) → AreOrders P fs → AreOrders P gs → AreOrders P (fs ++ gs)
orders-both P [] gs h k = k
orders-both P (f ∷ fs) gs h k = (h.0, orders-both P fs gs h.1 k)

-- the same by another fact
pub listed-keeps : (P Q : ℕ → ℕ → Type 0) (old new : List Fault) → ((a o : ℕ) → P a o → Q a o) → ((a o : ℕ) → Q a o → P a o) → AreOrdersListed P old new → AreOrdersListed Q old new
listed-keeps P Q old new to from h = record { more = h.more; new_is = h.new_is; there = orders-weak P Q h.more to h.there; all = λ a o q. h.all a o (from a o q) }

module _ (size : ℕ) where
  at-to : (P Q : ℕ → ℕ → Type 0) → ((n o : ℕ) → P n o → Q n o) → (a o : ℕ) → AtAddress size P a o → AtAddress size Q a o
  at-to P Q to a o h = (h.0, to h.0 o h.1, h.2)

  pub at-keeps : (old new : List Fault) (P Q : ℕ → ℕ → Type 0) → ((n o : ℕ) → P n o → Q n o) → ((n o : ℕ) → Q n o → P n o) → AreOrdersListed (AtAddress size P) old new → AreOrdersListed (AtAddress size Q) old new
  at-keeps old new P Q to from h = listed-keeps (AtAddress size P) (AtAddress size Q) old new (at-to P Q to) (at-to Q P from) h

  -- where nothing stands nothing is listed
  pub listed-none : (old new : List Fault) → new ≡ old → (P : ℕ → ℕ → Type 0) → ((n o : ℕ) → P n o → ⊥) → AreOrdersListed (AtAddress size P) old new
  listed-none old new same P none = record { more = []; new_is = same ∙ sym (append-nil old); there = tt; all = λ a o h. absurd (none h.0 o h.1) }

  -- what is found in a block is listed
  pub listed-notes : (n : ℕ) (found : Option ℕ) (old mid new : List Fault) → new ≡ mid ++ faults_of (fault_naming found EntryOutOfOrder (n * size))
      → Notes (λ P. AreOrdersListed (AtAddress size P) old mid) n found (λ P. AreOrdersListed (AtAddress size P) old new)
  listed-notes n None old mid new is P R to from h = record {
    more = h.more;
    new_is = is ∙ append-nil mid ∙ h.new_is;
    there = orders-weak (AtAddress size P) (AtAddress size R) h.more (at-to P R (λ m o p. to m o (inl p))) h.there;
    all = λ a o r. elim (from r.0 o r.1) [
      | inl p ↦ h.all a o (r.0, p, r.2)
      | inr q ↦ (let none : None ≡ Some o = q.1 in absurd (cc))
    ];
  }
  listed-notes n (Some x) old mid new is P R to from h =
      let f : Fault = record { line = EntryOutOfOrder; address = n * size; other = x } in
      record {
        more = h.more ++ (f ∷ []);
        new_is = is ∙ ap (λ (fs : List Fault). fs ++ (f ∷ [])) h.new_is ∙ append_assoc old h.more (f ∷ []);
        there = orders-both (AtAddress size R) h.more (f ∷ []) (orders-weak (AtAddress size P) (AtAddress size R) h.more (at-to P R (λ m o p. to m o (inl p))) h.there)
            ((refl, (n, to n x (inr (refl, refl)), refl)), tt);
        all = λ a o r. elim (from r.0 o r.1) [
          | inl p ↦ listed-front EntryOutOfOrder a h.more (f ∷ []) (h.all a o (r.0, p, r.2))
          | inr q ↦ listed-back EntryOutOfOrder a h.more (f ∷ []) (inl (refl, ap (λ (m : ℕ). m * size) (sym q.0) ∙ sym r.2))
        ];
      }

  -- what is listed of a row is listed behind what is listed of others
  pub listed-joins : (old mid new : List Fault) → Joins (λ P. AreOrdersListed (AtAddress size P) old mid) (λ P. AreOrdersListed (AtAddress size P) mid new) (λ P. AreOrdersListed (AtAddress size P) old new)
  listed-joins old mid new P Q R to from h g = record {
    more = h.more ++ g.more;
    new_is = g.new_is ∙ ap (λ (fs : List Fault). fs ++ g.more) h.new_is ∙ append_assoc old h.more g.more;
    there = orders-both (AtAddress size R) h.more g.more (orders-weak (AtAddress size P) (AtAddress size R) h.more (at-to P R (λ n o p. to n o (inl p))) h.there)
        (orders-weak (AtAddress size Q) (AtAddress size R) g.more (at-to Q R (λ n o q. to n o (inr q))) g.there);
    all = λ a o r. elim (from r.0 o r.1) [
      | inl p ↦ listed-front EntryOutOfOrder a h.more g.more (h.all a o (r.0, p, r.2))
      | inr q ↦ listed-back EntryOutOfOrder a h.more g.more (g.all a o (r.0, q, r.2))
    ];
  }

-- what is out of order in all rows is out of order in the volume
pub all-orders : (k : ℕ) (v : VolumeState) (size : ℕ) (old new : List Fault) → size ≡ v.size → AreOrdersListed (AtAddress size (IsWrongFrom k v 0)) old new → AreOrdersListed (HasEntryOutOfOrder k v) old new
all-orders k v size old new same h = listed-keeps (AtAddress size (IsWrongFrom k v 0)) (HasEntryOutOfOrder k v) old new
    (λ a o w. subst (λ (x : ℕ). HasEntryOutOfOrder k v x o) (sym (w.2 ∙ ap (λ (z : ℕ). w.0 * z) same)) (of-wrong k v w.0 o w.1))
    (λ a o t. (let w = wrong-of k v a o t in (t.1, w.0, w.1 ∙ ap (λ (z : ℕ). t.1 * z) (sym same)))) h

-- ---- next blocks

-- The wrong next blocks of the first rows are listed.
pub record AreNextsTo (d : Database) (v : VolumeState) (rows : List Standing) (i : ℕ) (faults : List Fault) : Type 0 where
  pub stand : AllStand d v 11 faults
  pub all : (j : ℕ) → j < i → IsWrongAt v rows j → IsListed WrongNext ((standing_at rows j).number * v.size) faults

pub nexts-none : (d : Database) (v : VolumeState) (rows : List Standing) → AreNextsTo d v rows 0 []
nexts-none d v rows = record { stand = tt; all = λ j less w. absurd (omega arith) }

module _ (d : Database) (v : VolumeState) (later : (header_of v.image).version ≢ 1) (forms : AreFormsRight (root_key_length d.types) v) (rows : List Standing) (are : AreRows (root_key_length d.types) v rows) where
  -- one block more
  pub nexts-more : (i : ℕ) (wrong : Bool) (faults : List Fault) → i < length rows → (wrong ≡ true → IsWrongAt v rows i) → (wrong ≡ false → next_in v (standing_at rows i).number ≡ follower rows i) → AreNextsTo d v rows i faults
      → AreNextsTo d v rows (i + 1) (faults ++ faults_of (fault_unless (not wrong) WrongNext ((standing_at rows i).number * v.size)))
  nexts-more i true faults within bad good h =
      let n : ℕ = (standing_at rows i).number in
      let f : Fault = record { line = WrongNext; address = n * v.size; other = 0 } in
      record {
        stand = stand-both d v 11 faults (f ∷ []) h.stand (refl, inr (later, wrong-fault (root_key_length d.types) v forms rows are i within (bad refl)), tt);
        all = λ j less w. elim (cases_lt j i) [
          | inl low ↦ listed-front WrongNext ((standing_at rows j).number * v.size) faults (f ∷ []) (h.all j low w)
          | inr high ↦ (let same : i ≡ j = omega arith in listed-back WrongNext ((standing_at rows j).number * v.size) faults (f ∷ []) (inl (refl, ap (λ (x : ℕ). (standing_at rows x).number * v.size) same)))
        ];
      }
  nexts-more i false faults within bad good h = record {
    stand = stand-both d v 11 faults [] h.stand tt;
    all = λ j less w. listed-front WrongNext ((standing_at rows j).number * v.size) faults [] (elim (cases_lt j i) [
      | inl low ↦ h.all j low w
      | inr high ↦ (let same : j ≡ i = omega arith in absurd (subst (IsWrongAt v rows) same w (good refl)))
    ]);
  }

  -- all blocks
  pub nexts-all : (i : ℕ) (faults : List Fault) → length rows ≤ i → AreNextsTo d v rows i faults → (a o : ℕ) → IsWrongNext (root_key_length d.types) v a o → IsListed WrongNext a faults
  nexts-all i faults whole h a o t =
      let w = fault-wrong (root_key_length d.types) v forms rows are a o t in
      let less = w.1 in
      subst (λ (x : ℕ). IsListed WrongNext x faults) (sym w.3) (h.all w.0 (omega arith) w.2)

-- ---- both

-- entries out of order stand
orders-stand : (d : Database) (v : VolumeState) (later : (header_of v.image).version ≢ 1) (fs : List Fault) → AreOrders (HasEntryOutOfOrder (root_key_length d.types) v) fs → AllStand d v 11 fs
orders-stand d v later [] h = tt
orders-stand d v later (f ∷ fs) h =
    (ap phase_of h.0.0, subst (λ (l : Line). Stands d v l f.address f.other) (sym h.0.0) (inr (later, h.0.1)), orders-stand d v later fs h.1)

-- wrong next blocks and entries out of order are all that stands
pub both-found : (d : Database) (v : VolumeState) (later : (header_of v.image).version ≢ 1) (nexts faults : List Fault) → AllStand d v 11 nexts
    → ((a o : ℕ) → IsWrongNext (root_key_length d.types) v a o → IsListed WrongNext a nexts) → AreOrdersListed (HasEntryOutOfOrder (root_key_length d.types) v) nexts faults → AreFound d v 11 faults
both-found d v later nexts faults stand all h =
    subst (AreFound d v 11) (sym h.new_is) (record {
      stand = stand-both d v 11 nexts h.more stand (orders-stand d v later h.more h.there);
      all = λ l a o of s. eleventh-lines (λ x. Stands d v x a o → IsListed x a (nexts ++ h.more))
          (λ t. listed-front WrongNext a nexts h.more (all a o (of-set v _ _ later t)))
          (λ t. listed-back EntryOutOfOrder a nexts h.more (h.all a o (of-set v _ _ later t))) l of s;
    })
