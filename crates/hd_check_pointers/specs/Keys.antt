-- Keys of twins that are compared.
use Rattle.std.specs.Prelude.{◌≡◌, ◌≢◌, ℕ, List, Bool, true, false, is_some, take}
use Rattle.std.specs.Option.{option_map_or}
use Rattle.hd_dbd.specs.Types.{SegmentType}
use Rattle.hd_dbd.specs.Hierarchy.{type_of}
use Rattle.hd_dbd.specs.Rows.{key_of, keys_in_order, twins_in_order}
use Rattle.hd_links.specs.Links.{Links, segment_at}
use Rattle.hd_image.specs.declared.line.Line.TheVariants.{OutOfOrder}
use Rattle.hd_check_blocks.specs.declared.fault.Fault.{Fault}
use Rattle.hd_links.specs.Pointers.{IsTwinBefore}
use Rattle.hd_image.specs.PointerFaults.{IsOutOfOrder}
use Rattle.hd_check_blocks.specs.declared.places.Place.{Place}
use Rattle.hd_check_pointers.specs.declared.last_key.LastKey.{LastKey}

-- the segments of the type of a code have a key
abbrev pub is_keyed : List SegmentType → ℕ → Bool
is_keyed types code = option_map_or (λ t. is_some t.key) (type_of types code) false

-- the key of a segment is in order behind that of the twin before it
abbrev pub IsKeyRight : List SegmentType → Links → ℕ → Type 0
IsKeyRight types m a = (h : ℕ) → IsTwinBefore m h a → twins_in_order types (segment_at m h) (segment_at m a) ≡ true

-- the fault of a twin whose key is out of order behind that of the twin before it
abbrev pub order_fault : ℕ → ℕ → Fault
order_fault a before = record { line = OutOfOrder; address = a; other = before }

-- the fault is that of a key out of order behind that of the twin before it, and it is so
abbrev pub IsOrderFault : List SegmentType → Links → ℕ → ℕ → Fault → Type 0
IsOrderFault types m a before f = (f ≡ order_fault a before) × (twins_in_order types (segment_at m before) (segment_at m a) ≡ false)

-- the fault is that of a key out of order, and the key of the segment behind this predecessor is
abbrev pub IsKeyWrong : List SegmentType → Links → ℕ → ℕ → Fault → Type 0
IsKeyWrong types m a holder f = (f ≡ order_fault a holder) × IsOutOfOrder types m a holder

-- What was read last is the key of the segment at its address, unless that is 0.
abbrev pub IsLastKey : List SegmentType → Links → LastKey → Type 0
IsLastKey types m last = last.address ≢ 0 → take last.length last.key ≡ key_of types (segment_at m last.address)

-- the key of the segment at a place may come behind the one that was read last
abbrev pub is_behind : List SegmentType → Links → LastKey → Place → Bool
is_behind types m last place = keys_in_order types place.code (take last.length last.key) (key_of types (segment_at m place.address))
