-- One pointer of one record changed, one record more, and one less.
use Rattle.std.specs.Prelude.{ℕ, List, not, ◌&&◌, ◌||◌, ◌==◌, cond}
use Rattle.hd_dbd.specs.Types.{SegmentType}
use Rattle.hd_prefix.specs.declared.pointer.Pointer.{Pointer}
use Rattle.hd_prefix.specs.declared.pointer.Pointer.TheVariants.{TwinForward, TwinBackward, FirstChild, LastChild}
use Rattle.hd_prefix.specs.Fields.{code_of, delete_byte_of, pointer_of, bytes_of}
use Rattle.hd_links.specs.Links.{Links}

-- the records with a pointer of the record a naming x
abbrev pub with_pointer : Links → Pointer → ℕ → ℕ → Links
with_pointer m TwinForward a x = record m { forward = λ b. cond (b == a) x (m.forward b) }
with_pointer m TwinBackward a x = record m { backward = λ b. cond (b == a) x (m.backward b) }
with_pointer m (FirstChild t) a x = record m { first_child = λ b u. cond (b == a && u == t) x (m.first_child b u) }
with_pointer m (LastChild t) a x = record m { last_child = λ b u. cond (b == a && u == t) x (m.last_child b u) }

-- the records with a stored segment more, at the address a
abbrev pub with_record : List SegmentType → Links → ℕ → List ℕ → Links
with_record types m a segment = record {
  here = λ b. b == a || m.here b;
  code = λ b. cond (b == a) (code_of segment) (m.code b);
  delete_byte = λ b. cond (b == a) (delete_byte_of segment) (m.delete_byte b);
  bytes = λ b. cond (b == a) (bytes_of types (code_of segment) segment) (m.bytes b);
  forward = λ b. cond (b == a) (pointer_of types (code_of segment) TwinForward segment) (m.forward b);
  backward = λ b. cond (b == a) (pointer_of types (code_of segment) TwinBackward segment) (m.backward b);
  first_child = λ b t. cond (b == a) (pointer_of types (code_of segment) (FirstChild t) segment) (m.first_child b t);
  last_child = λ b t. cond (b == a) (pointer_of types (code_of segment) (LastChild t) segment) (m.last_child b t);
}

-- the records without the one at a
abbrev pub without_record : Links → ℕ → Links
without_record m a = record m { here = λ b. not (b == a) && m.here b }
