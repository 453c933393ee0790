-- Twin backward and last child of a record.
use Rattle.std.specs.Prelude.{◌≡◌, ◌⊎◌, ℕ, ◌<◌, List, true}
use Rattle.hd_dbd.specs.Types.{SegmentType}
use Rattle.hd_dbd.specs.Prefixes.{is_backward_kept}
use Rattle.hd_links.specs.Links.{Links, IsSegment, is_child_type, is_last_kept}
use Rattle.hd_links.specs.Pointers.{IsTwinBefore, IsParentOfFirst, IsInChain}
use Rattle.hd_image.specs.PointerFaults.{IsWrongBackward, IsWrongLast, HasWrongLast}
use Rattle.hd_image.specs.declared.line.Line.TheVariants.{WrongLast, WrongBackward}
use Rattle.hd_check_blocks.specs.declared.fault.Fault.{Fault}

-- The number is the predecessor of a segment, a twin, or 0 where that is a parent.
abbrev pub IsTwinOrNone : List SegmentType → Links → ℕ → ℕ → ℕ → Type 0
IsTwinOrNone types m h a x = (IsTwinBefore m h a × (x ≡ h)) ⊎ ((t : ℕ) × IsParentOfFirst types m h t a × (x ≡ 0))

-- A record has these as its first and last child of a type, both kept.
pub record HasChildren (types : List SegmentType) (m : Links) (h t first last : ℕ) : Type 0 where
  pub here : m.here h ≡ true
  pub child : is_child_type types (m.code h) t ≡ true
  pub kept : is_last_kept types t ≡ true
  pub first_is : first ≡ m.first_child h t
  pub last_is : last ≡ m.last_child h t

-- Twin backward of a segment, where it is kept, is the preceding twin, or 0 where a first child pointer precedes.
pub record IsBackwardRight (types : List SegmentType) (m : Links) (a : ℕ) : Type 0 where
  pub twin : (h : ℕ) → is_backward_kept types (m.code a) ≡ true → IsTwinBefore m h a → m.backward a ≡ h
  pub first : (h t : ℕ) → is_backward_kept types (m.code a) ≡ true → IsParentOfFirst types m h t a → m.backward a ≡ 0

-- Last child of a type is the last twin of the chain from first child, or 0 where that is 0.
pub record IsLastRight (m : Links) (h t : ℕ) : Type 0 where
  pub some : 0 < m.first_child h t → IsInChain m (m.first_child h t) (m.last_child h t) × (m.forward (m.last_child h t) ≡ 0)
  pub none : m.first_child h t ≡ 0 → m.last_child h t ≡ 0

-- each last child of a record that is kept is right
abbrev pub AreLastsRight : List SegmentType → Links → ℕ → Type 0
AreLastsRight types m h = (t : ℕ) → is_child_type types (m.code h) t ≡ true → is_last_kept types t ≡ true → IsLastRight m h t

-- Twin backward of a record, if it is a segment, and its last children are right.
pub record AreTwinsRight (types : List SegmentType) (m : Links) (h : ℕ) : Type 0 where
  pub backward : IsSegment m h → IsBackwardRight types m h
  pub lasts : AreLastsRight types m h

-- What is wrong with twin backward or last child of a record, twin backward first.
abbrev pub AreTwinsWrong : List SegmentType → Links → ℕ → Fault → Type 0
AreTwinsWrong types m h f =
    ((f ≡ record { line = WrongBackward; address = h; other = m.backward h }) × IsWrongBackward types m h (m.backward h))
    ⊎ ((x : ℕ) × (f ≡ record { line = WrongLast; address = h; other = x }) × (IsSegment m h → IsBackwardRight types m h) × HasWrongLast types m h x)

-- the last child of a type that a record names is kept, and wrong
abbrev pub IsWrongLastNamed : List SegmentType → Links → ℕ → ℕ → ℕ → Type 0
IsWrongLastNamed types m h t x = (is_last_kept types t ≡ true) × IsWrongLast m h t × (x ≡ m.last_child h t)
