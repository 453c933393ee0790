-- The lines of the fault table from the eighth phase on: what stands of each phase, and the least of its faults.
use Rattle.std.proofs.Common.{◌≡◌, ◌≢◌, ◌⊎◌, inl, inr, ℕ, ◌≤◌, cond, refl, ap, arith}
use Rattle.std.specs.Prelude.{◌==◌}
use Rattle.hd_dbd.specs.Hierarchy.{Database}
use Rattle.hd_volume.specs.Headers.{header_of}
use Rattle.hd_volume.specs.Volumes.{VolumeState}
use Rattle.hd_volume.specs.Indexes.{root_key_length}
use Rattle.hd_index_blocks.specs.LevelFaults as level
use Rattle.hd_image.specs.IndexFaults.{ByVersion, IsWrongTop, IsWrongForm, IsNamedTwice, IsUnreachedBlock, HasEntryOutOfOrder, HasWrongEntry, HasNoEntry}
use Rattle.hd_image.specs.Standing.{Stands, phase_of, number_of}
use Rattle.hd_image.specs.declared.line.Line.{Line}
use Rattle.hd_image.specs.declared.line.Line.TheVariants.{NoVolume, NoVersion, AnotherDatabase, WrongChain, WrongPlace, NoKind, Deleted, NamesNothing, NamesAnother, TwoPredecessors, NoPredecessor, WrongBackward, WrongLast, OutOfOrder, NotReached, WrongTop, WrongForm, NamedTwice, UnreachedBlock, WrongNext, EntryOutOfOrder, WrongEntry, NoEntry}
use Rattle.hd_check_blocks.specs.declared.fault.Fault.{Fault}
use Rattle.hd_check_blocks.specs.Phases.{IsLeastOf}

-- what holds of each line from the eighth phase on
late-lines : (P : Line → Type 0) → P WrongTop → P WrongForm → P NamedTwice → P UnreachedBlock → P WrongNext → P EntryOutOfOrder → P WrongEntry → P NoEntry → (k : Line) → 8 ≤ phase_of k → P k
late-lines P a b c d n e f g NoVolume h = absurd (omega arith)
late-lines P a b c d n e f g NoVersion h = absurd (omega arith)
late-lines P a b c d n e f g AnotherDatabase h = absurd (omega arith)
late-lines P a b c d n e f g WrongChain h = absurd (omega arith)
late-lines P a b c d n e f g WrongPlace h = absurd (omega arith)
late-lines P a b c d n e f g NoKind h = absurd (omega arith)
late-lines P a b c d n e f g Deleted h = absurd (omega arith)
late-lines P a b c d n e f g NamesNothing h = absurd (omega arith)
late-lines P a b c d n e f g NamesAnother h = absurd (omega arith)
late-lines P a b c d n e f g TwoPredecessors h = absurd (omega arith)
late-lines P a b c d n e f g NoPredecessor h = absurd (omega arith)
late-lines P a b c d n e f g WrongBackward h = absurd (omega arith)
late-lines P a b c d n e f g WrongLast h = absurd (omega arith)
late-lines P a b c d n e f g OutOfOrder h = absurd (omega arith)
late-lines P a b c d n e f g NotReached h = absurd (omega arith)
late-lines P a b c d n e f g WrongTop h = a
late-lines P a b c d n e f g WrongForm h = b
late-lines P a b c d n e f g NamedTwice h = c
late-lines P a b c d n e f g UnreachedBlock h = d
late-lines P a b c d n e f g WrongNext h = n
late-lines P a b c d n e f g EntryOutOfOrder h = e
late-lines P a b c d n e f g WrongEntry h = f
late-lines P a b c d n e f g NoEntry h = g

-- ---- of a chain

pub of-chain : (v : VolumeState) (A B : Type 0) → (header_of v.image).version ≡ 1 → ByVersion v A B → A
of-chain v A B one (inl t) = t.1
of-chain v A B one (inr t) = absurd (t.0 one)

-- the number of the faults of a phase, but of the eleventh, which has two
abbrev late-number : ℕ → ℕ
late-number p = cond (p == 10) 19 (cond (p == 12) 17 (cond (p == 13) 18 15))

-- a line of such a phase has the phase's number
number-is : (k : Line) (a : ℕ) → 8 ≤ phase_of k → phase_of k ≢ 11 → number_of k a ≡ late-number (phase_of k)
number-is k a late = late-lines (λ x. phase_of x ≢ 11 → number_of x a ≡ late-number (phase_of x)) (λ e. refl) (λ e. refl) (λ e. refl) (λ e. refl) (λ e. absurd (e refl)) (λ e. absurd (e refl)) (λ e. refl) (λ e. refl) k late

-- a fault is the least of its phase where none stands before it, and at its address none of a lesser number
pub least-by : (d : Database) (v : VolumeState) (p : ℕ) (f : Fault) → phase_of f.line ≡ p → Stands d v f.line f.address f.other
    → ((k : Line) (a o : ℕ) → phase_of k ≡ p → Stands d v k a o → (f.address ≤ a) × (a ≡ f.address → number_of f.line f.address ≤ number_of k a)) → IsLeastOf d v p f
least-by d v p f is stands least = record {
  of = is;
  stands = stands;
  least = λ k a o same s before.
      (let l = least k a o same s in
      let far = l.0 in
      elim before [
        | inl less ↦ omega arith
        | inr (e, inl less) ↦ omega arith
        | inr (e, inr both) ↦ (let n = l.1 both.0 in let m = both.1 in omega arith)
      ]);
}

-- where the phase has one number it is enough that none stands before it
pub least-late : (d : Database) (v : VolumeState) (p : ℕ) (f : Fault) → 8 ≤ p → p ≢ 11 → phase_of f.line ≡ p → Stands d v f.line f.address f.other
    → ((k : Line) (a o : ℕ) → phase_of k ≡ p → Stands d v k a o → f.address ≤ a) → IsLeastOf d v p f
least-late d v p f late other is stands least =
    least-by d v p f is stands
    (λ k a o same s. (
      least k a o same s,
      λ at.
          let x = number-is k a (omega arith) (λ e. other (omega arith)) in
          let y = number-is f.line f.address (omega arith) (λ e. other (omega arith)) in
          let z : late-number (phase_of k) ≡ late-number (phase_of f.line) = ap late-number (let e : phase_of k ≡ phase_of f.line = omega arith in e) in
          omega arith,
    ))

-- what stands of a chain in the eighth phase
pub stands-8 : (d : Database) (v : VolumeState) (k : Line) (a o : ℕ) → (header_of v.image).version ≡ 1 → phase_of k ≡ 8 → Stands d v k a o → IsWrongTop v a o ⊎ IsWrongForm (root_key_length d.types) v a o
stands-8 d v k a o one is s =
    late-lines (λ x. phase_of x ≡ 8 → Stands d v x a o → IsWrongTop v a o ⊎ IsWrongForm (root_key_length d.types) v a o)
    (λ e t. inl (of-chain v _ _ one t)) (λ e t. inr (of-chain v _ _ one t)) (λ e. absurd (omega arith)) (λ e. absurd (omega arith)) (λ e. absurd (omega arith)) (λ e. absurd (omega arith)) (λ e. absurd (omega arith)) (λ e. absurd (omega arith)) k (omega arith) is s

-- in the ninth
pub stands-9 : (d : Database) (v : VolumeState) (k : Line) (a o : ℕ) → (header_of v.image).version ≡ 1 → phase_of k ≡ 9 → Stands d v k a o → IsNamedTwice v a o
stands-9 d v k a o one is s =
    late-lines (λ x. phase_of x ≡ 9 → Stands d v x a o → IsNamedTwice v a o)
    (λ e. absurd (omega arith)) (λ e. absurd (omega arith)) (λ e t. of-chain v _ _ one t) (λ e. absurd (omega arith)) (λ e. absurd (omega arith)) (λ e. absurd (omega arith)) (λ e. absurd (omega arith)) (λ e. absurd (omega arith)) k (omega arith) is s

-- in the tenth
pub stands-10 : (d : Database) (v : VolumeState) (k : Line) (a o : ℕ) → (header_of v.image).version ≡ 1 → phase_of k ≡ 10 → Stands d v k a o → IsUnreachedBlock v a o
stands-10 d v k a o one is s =
    late-lines (λ x. phase_of x ≡ 10 → Stands d v x a o → IsUnreachedBlock v a o)
    (λ e. absurd (omega arith)) (λ e. absurd (omega arith)) (λ e. absurd (omega arith)) (λ e t. of-chain v _ _ one t) (λ e. absurd (omega arith)) (λ e. absurd (omega arith)) (λ e. absurd (omega arith)) (λ e. absurd (omega arith)) k (omega arith) is s

-- in the eleventh
pub stands-11 : (d : Database) (v : VolumeState) (k : Line) (a o : ℕ) → (header_of v.image).version ≡ 1 → phase_of k ≡ 11 → Stands d v k a o → HasEntryOutOfOrder (root_key_length d.types) v a o × (number_of k a ≡ 16)
stands-11 d v k a o one is s =
    late-lines (λ x. phase_of x ≡ 11 → Stands d v x a o → HasEntryOutOfOrder (root_key_length d.types) v a o × (number_of x a ≡ 16))
    (λ e. absurd (omega arith)) (λ e. absurd (omega arith)) (λ e. absurd (omega arith)) (λ e. absurd (omega arith)) (λ e t. absurd (of-chain v _ _ one t)) (λ e t. (of-chain v _ _ one t, refl)) (λ e. absurd (omega arith)) (λ e. absurd (omega arith)) k (omega arith) is s

-- in the twelfth, of any version
pub stands-12 : (d : Database) (v : VolumeState) (k : Line) (a o : ℕ) → phase_of k ≡ 12 → Stands d v k a o → HasWrongEntry d v a o
stands-12 d v k a o is s =
    late-lines (λ x. phase_of x ≡ 12 → Stands d v x a o → HasWrongEntry d v a o)
    (λ e. absurd (omega arith)) (λ e. absurd (omega arith)) (λ e. absurd (omega arith)) (λ e. absurd (omega arith)) (λ e. absurd (omega arith)) (λ e. absurd (omega arith)) (λ e t. t) (λ e. absurd (omega arith)) k (omega arith) is s

-- in the thirteenth
pub stands-13 : (d : Database) (v : VolumeState) (k : Line) (a o : ℕ) → phase_of k ≡ 13 → Stands d v k a o → HasNoEntry d v a o
stands-13 d v k a o is s =
    late-lines (λ x. phase_of x ≡ 13 → Stands d v x a o → HasNoEntry d v a o)
    (λ e. absurd (omega arith)) (λ e. absurd (omega arith)) (λ e. absurd (omega arith)) (λ e. absurd (omega arith)) (λ e. absurd (omega arith)) (λ e. absurd (omega arith)) (λ e. absurd (omega arith)) (λ e t. t) k (omega arith) is s

-- ---- of an index set

pub of-set : (v : VolumeState) (A B : Type 0) → (header_of v.image).version ≢ 1 → ByVersion v A B → B
of-set v A B later (inl t) = absurd (later t.0)
of-set v A B later (inr t) = t.1

-- what stands of an index set in the eighth phase
pub set-8 : (d : Database) (v : VolumeState) (k : Line) (a o : ℕ) → (header_of v.image).version ≢ 1 → phase_of k ≡ 8 → Stands d v k a o → level.IsWrongTop v a o ⊎ level.IsWrongForm (root_key_length d.types) v a o
set-8 d v k a o later is s =
    late-lines (λ x. phase_of x ≡ 8 → Stands d v x a o → level.IsWrongTop v a o ⊎ level.IsWrongForm (root_key_length d.types) v a o)
    (λ e t. inl (of-set v _ _ later t)) (λ e t. inr (of-set v _ _ later t)) (λ e. absurd (omega arith)) (λ e. absurd (omega arith)) (λ e. absurd (omega arith)) (λ e. absurd (omega arith)) (λ e. absurd (omega arith)) (λ e. absurd (omega arith)) k (omega arith) is s

-- in the ninth
pub set-9 : (d : Database) (v : VolumeState) (k : Line) (a o : ℕ) → (header_of v.image).version ≢ 1 → phase_of k ≡ 9 → Stands d v k a o → level.IsNamedTwice (root_key_length d.types) v a o
set-9 d v k a o later is s =
    late-lines (λ x. phase_of x ≡ 9 → Stands d v x a o → level.IsNamedTwice (root_key_length d.types) v a o)
    (λ e. absurd (omega arith)) (λ e. absurd (omega arith)) (λ e t. of-set v _ _ later t) (λ e. absurd (omega arith)) (λ e. absurd (omega arith)) (λ e. absurd (omega arith)) (λ e. absurd (omega arith)) (λ e. absurd (omega arith)) k (omega arith) is s

-- in the tenth
pub set-10 : (d : Database) (v : VolumeState) (k : Line) (a o : ℕ) → (header_of v.image).version ≢ 1 → phase_of k ≡ 10 → Stands d v k a o → level.IsUnreachedBlock (root_key_length d.types) v a o
set-10 d v k a o later is s =
    late-lines (λ x. phase_of x ≡ 10 → Stands d v x a o → level.IsUnreachedBlock (root_key_length d.types) v a o)
    (λ e. absurd (omega arith)) (λ e. absurd (omega arith)) (λ e. absurd (omega arith)) (λ e t. of-set v _ _ later t) (λ e. absurd (omega arith)) (λ e. absurd (omega arith)) (λ e. absurd (omega arith)) (λ e. absurd (omega arith)) k (omega arith) is s

-- in the eleventh, each line with its number
pub set-11 : (d : Database) (v : VolumeState) (k : Line) (a o : ℕ) → (header_of v.image).version ≢ 1 → phase_of k ≡ 11 → Stands d v k a o → (level.IsWrongNext (root_key_length d.types) v a o × (number_of k a ≡ 15)) ⊎ (level.HasEntryOutOfOrder (root_key_length d.types) v a o × (number_of k a ≡ 16))
set-11 d v k a o later is s =
    late-lines (λ x. phase_of x ≡ 11 → Stands d v x a o → (level.IsWrongNext (root_key_length d.types) v a o × (number_of x a ≡ 15)) ⊎ (level.HasEntryOutOfOrder (root_key_length d.types) v a o × (number_of x a ≡ 16)))
    (λ e. absurd (omega arith)) (λ e. absurd (omega arith)) (λ e. absurd (omega arith)) (λ e. absurd (omega arith)) (λ e t. inl (of-set v _ _ later t, refl)) (λ e t. inr (of-set v _ _ later t, refl)) (λ e. absurd (omega arith)) (λ e. absurd (omega arith)) k (omega arith) is s
