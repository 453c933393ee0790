-- All entries out of order along a chain, block by block.
use Rattle.std.proofs.Common.{◌≡◌, inl, inr, ℕ, ◌+◌, ◌*◌, ◌<◌, ◌≤◌, List, [], ◌∷◌, ◌++◌, length, slice_index, Option, Some, None, refl, sym, ap, subst, ◌∙◌, arith}
use Rattle.std.proofs.lemmas.Bool.{cases_lt}
use Rattle.hd_dbd.specs.Hierarchy.{Database}
use Rattle.hd_volume.specs.Headers.{header_of}
use Rattle.hd_volume.specs.Volumes.{VolumeState}
use Rattle.hd_volume.specs.Entries.{entry_blocks}
use Rattle.hd_volume.specs.Indexes.{root_key_length}
use Rattle.hd_image.specs.Standing.{Stands}
use Rattle.hd_image.specs.declared.line.Line.{Line}
use Rattle.hd_image.specs.declared.line.Line.TheVariants.{EntryOutOfOrder}
use Rattle.hd_check_blocks.specs.declared.fault.Fault.{Fault}
use Rattle.hd_check_blocks.specs.Listing.{IsListed, AllStand, faults_of}
use Rattle.hd_check_index.specs.Listed.{fault_naming, AreFound}
use Rattle.hd_check_index.proofs.LateLines.{of-chain}
use Rattle.hd_check_index.proofs.InOrder.{eleventh-lines, listed-front, listed-back, stand-both}
use Rattle.hd_check_index.proofs.OrderSteps.{out-of-order, order-stands, stands-order}

-- The first blocks of a chain with an entry out of order are listed.
pub record AreOrdersTo (d : Database) (v : VolumeState) (ns : List ℕ) (i : ℕ) (faults : List Fault) : Type 0 where
  pub stand : AllStand d v 11 faults
  pub all : (j o : ℕ) → j < i → out-of-order (root_key_length d.types) v ns j ≡ Some o → IsListed EntryOutOfOrder (slice_index ns j * v.size) faults

-- of none
pub orders-none : (d : Database) (v : VolumeState) (ns : List ℕ) → AreOrdersTo d v ns 0 []
orders-none d v ns = record { stand = tt; all = λ j o less w. absurd (omega arith) }

module _ (d : Database) (v : VolumeState) (ns : List ℕ) (is : ns ≡ entry_blocks v) (one : (header_of v.image).version ≡ 1) where
  -- of one block more
  pub orders-more : (i : ℕ) (found : Option ℕ) (faults : List Fault) → i < length ns → out-of-order (root_key_length d.types) v ns i ≡ found → AreOrdersTo d v ns i faults
      → AreOrdersTo d v ns (i + 1) (faults ++ faults_of (fault_naming found EntryOutOfOrder (slice_index ns i * v.size)))
  orders-more i None faults within here h = record {
    stand = stand-both d v 11 faults [] h.stand tt;
    all = λ j o less w. listed-front EntryOutOfOrder (slice_index ns j * v.size) faults [] (elim (cases_lt j i) [
      | inl low ↦ h.all j o low w
      | inr high ↦ (let at : j ≡ i = omega arith in let none : None ≡ Some o = sym here ∙ ap (out-of-order (root_key_length d.types) v ns) (sym at) ∙ w in absurd (cc))
    ]);
  }
  orders-more i (Some other) faults within here h =
      let f : Fault = record { line = EntryOutOfOrder; address = slice_index ns i * v.size; other = other } in
      record {
        stand = stand-both d v 11 faults (f ∷ []) h.stand (refl, order-stands d v ns is one i other within here, tt);
        all = λ j o less w. elim (cases_lt j i) [
          | inl low ↦ listed-front EntryOutOfOrder (slice_index ns j * v.size) faults (f ∷ []) (h.all j o low w)
          | inr high ↦ (let at : i ≡ j = omega arith in listed-back EntryOutOfOrder (slice_index ns j * v.size) faults (f ∷ []) (inl (refl, ap (λ (x : ℕ). slice_index ns x * v.size) at)))
        ];
      }

  -- of all
  pub orders-all : (i : ℕ) (faults : List Fault) → length ns ≤ i → AreOrdersTo d v ns i faults → AreFound d v 11 faults
  orders-all i faults whole h = record {
    stand = h.stand;
    all = λ l a o of s.
        (let w = stands-order d v ns is one l a o of s in
        let line : EntryOutOfOrder ≡ l = eleventh-lines (λ x. Stands d v x a o → EntryOutOfOrder ≡ x) (λ t. absurd (of-chain v _ _ one t)) (λ t. refl) l of s in
        let less = w.1 in
        subst (λ (x : Line). IsListed x a faults) line (subst (λ (x : ℕ). IsListed EntryOutOfOrder x faults) (sym w.3) (h.all w.0 o (omega arith) w.2)));
  }
