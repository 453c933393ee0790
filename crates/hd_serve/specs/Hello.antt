-- The frame that a server writes first: the types of its database, and the PCBs of its program.
use Rattle.std.specs.Prelude.{ℕ, ◌+◌, List, [], ◌∷◌, ◌++◌, length, take, map, flat_map, codes, replicate, Bool, ◌&&◌, nat_lt, cond, is_some, slice_index, bytes_eq, position}
use Rattle.std.specs.Option.{option_map_or}
use Rattle.std.specs.List.{list_all}
use Rattle.std.specs.Int.{w16, to_be_bytes}
use Rattle.hd_dbd.specs.declared.hierarchy.Field.{Field}
use Rattle.hd_dbd.specs.DataTypes.{type_letter}
use Rattle.hd_dbd.specs.Types.{SegmentType, View}
use Rattle.hd_dbd.specs.Hierarchy.{Database, weights, level_of, greatest}
use Rattle.hd_dbd.specs.Lengths.{least_length}

-- a field: its name, the place of its first byte, from 1, its length, and the letter of its TYPE
abbrev pub field_bytes : Field → List ℕ
field_bytes f = f.name ++ (to_be_bytes w16 f.start ++ (to_be_bytes w16 f.length ++ type_letter f.data_type ∷ []))

-- the type of a code: its name and level; 1 where its segments vary in length, else 0; the most and the least bytes of them; and its fields
abbrev pub type_bytes : List SegmentType → ℕ → SegmentType → List ℕ
type_bytes types code t =
    t.name ++ level_of types code ∷ cond (is_some t.least) 1 0 ∷ (to_be_bytes w16 t.length ++ (to_be_bytes w16 (least_length t) ++ length t.fields ∷ flat_map field_bytes t.fields))

-- types of a database, the first of which has the code
abbrev pub types_bytes : List SegmentType → ℕ → List SegmentType → List ℕ
types_bytes types code [] = []
types_bytes types code (t ∷ ts) = type_bytes types code t ++ types_bytes types (code + 1) ts

-- for each type, the bytes of the keys on the path down to it
abbrev pub key_lengths : List SegmentType → List ℕ
key_lengths types = weights (λ t. option_map_or (λ k. k.length) t.key 0) types

-- what a table of the types has for the type of a name
abbrev pub length_for : List SegmentType → List ℕ → List ℕ → ℕ
length_for types lengths name = option_map_or (λ i. slice_index lengths i) (position (λ t. bytes_eq t.name name) types) 0

-- the bytes of the longest concatenated key of a type that the PCB sees
abbrev pub longest_key : List SegmentType → View → ℕ
longest_key types pcb = greatest (map (λ s. length_for types (key_lengths types) s.name) pcb.sens)

-- the letters of PROCOPT in four places
abbrev pub procopt_bytes : List ℕ → List ℕ
procopt_bytes letters = take 4 (letters ++ replicate 4 32)

-- a PCB: the name of the database, PROCOPT, the number of its SENSEGs, and the bytes of its longest key
abbrev pub pcb_bytes : Database → View → List ℕ
pcb_bytes d pcb =
    d.name ++ (procopt_bytes pcb.procopt ++ (to_be_bytes w16 (length pcb.sens) ++ to_be_bytes w16 (longest_key d.types pcb)))

-- the body of the first frame: the mark, version 3, the number of PCBs and of types, the types, and the PCBs
abbrev pub hello_bytes : Database → List View → List ℕ
hello_bytes d pcbs = codes "HD" ++ (to_be_bytes w16 3 ++ length pcbs ∷ length d.types ∷ (types_bytes d.types 1 d.types ++ flat_map (pcb_bytes d) pcbs))

-- each number has room in its place
abbrev pub field_fits : Field → Bool
field_fits f = nat_lt f.start 65536 && nat_lt f.length 65536

abbrev pub type_fits : SegmentType → Bool
type_fits t = nat_lt t.length 65536 && nat_lt (least_length t) 65536 && nat_lt (length t.fields) 256 && list_all field_fits t.fields

abbrev pub pcb_fits : Database → View → Bool
pcb_fits d pcb = nat_lt (length pcb.sens) 65536 && nat_lt (longest_key d.types pcb) 65536

abbrev pub body_fits : Database → List View → Bool
body_fits d pcbs = nat_lt (length pcbs) 256 && (nat_lt (length d.types) 256 && (list_all type_fits d.types && list_all (pcb_fits d) pcbs))

abbrev pub hello_fits : Database → List View → Bool
hello_fits d pcbs = body_fits d pcbs && nat_lt (length (hello_bytes d pcbs)) 4294967296
